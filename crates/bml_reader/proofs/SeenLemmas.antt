-- What the reader keeps follows what is known, and what is known at the end of a document.
use Rattle.std.proofs.Common.{◌≡◌, ◌≢◌, ℕ, ◌+◌, Bool, true, false, cond, List, [], ◌∷◌, ◌++◌, length, Option, Some, None, refl, sym, ◌∙◌, ap, subst, arith}
use Rattle.std.specs.Prelude.{◌||◌, not, nat_le, map, IfSome, option_map, option_and_then, codes as ascii}
use Rattle.std.specs.List.{list_all}
use Rattle.std.proofs.lemmas.Bool.Decides.{nat_tests}
use Rattle.std.proofs.lemmas.List.{length-append}
use Rattle.bml_bytes.specs.Codes.{codes}
use Rattle.bml_bytes.specs.Words.{is_same}
use Rattle.dom_tree.specs.Items.{Attribute, Item}
use Rattle.dom_tree.specs.Items.Content.{Element as ElementContent, Text as TextContent}
use Rattle.dom_tree.specs.Walks.{most_nodes}
use Rattle.bml_reader.specs.Bytes.{is_white}
use Rattle.bml_reader.specs.References.{read_references}
use Rattle.bml_reader.specs.Markup.{Markup}
use Rattle.bml_reader.specs.Markup.Markup.{StartTag, EndTag, Run, Cdata, Remark, Doctype}
use Rattle.bml_reader.specs.Grammar.{is_left_out}
use Rattle.bml_reader.specs.Faults.{most_levels}
use Rattle.bml_reader.specs.devices.Machine.{State, Opened, NodesSoFar, few_nodes, innermost, items_with_text, phase_of, elements_with, after_start_tag, step, IsSound, IsSoundIn}
use Rattle.bml_reader.specs.devices.Nodes.{nodes_with_element, nodes_with_text, nodes_outside}
use Rattle.bml_reader.specs.Readings.{has_other_root}
use Rattle.bml_reader.specs.devices.ReaderViews.{Seen, seen_of, nodes_with_text_of, seen_flushed, seen_started, phase_of_tags, tags_with, seen_step, IsReady}
use Rattle.bml_reader.specs.declared.phases.Phase.{Phase}
use Rattle.bml_reader.specs.declared.phases.Phase.TheVariants.{BeforeDoctype, BeforeRoot, Inside, Behind}
use Rattle.bml_reader.proofs.ByteLemmas.{some-same}

-- Nodes, as far as they may be kept

kept-then-by : (f : NodesSoFar → Option NodesSoFar) (k : NodesSoFar) (o : Option NodesSoFar) (b : Bool) → f k ≡ o → (b ≡ false → o ≡ None) → o ≡ option_and_then f (cond b (Some k) None)
kept-then-by f k o true h n = sym h
kept-then-by f k o false h n = n refl

kept-then : (f : NodesSoFar → Option NodesSoFar) (items : List Item) (path : List ℕ) (o : Option NodesSoFar) → f (record { items = items; path = path }) ≡ o → (nat_le (length items) most_nodes ≡ false → o ≡ None) → o ≡ option_and_then f (few_nodes items path)
kept-then f items path o h n = kept-then-by f (record { items = items; path = path }) o (nat_le (length items) most_nodes) h n

kept-none : (items : List Item) (x : Item) (path : List ℕ) → nat_le (length items) most_nodes ≡ false → few_nodes (items ++ x ∷ []) path ≡ None
kept-none items x path e =
    let n : length (items ++ x ∷ []) ≡ length items + 1 = omega (arith, length-append items (x ∷ [])) in
    let long : nat_le (length (items ++ x ∷ [])) most_nodes ≡ false = grind (arith, nat_tests) in
    ap (λ b. cond b (Some (record { items = items ++ x ∷ []; path = path })) None) long

text-kept-by : (b : Bool) (number : ℕ) (path : List ℕ) (text : List ℕ) (items : List Item) →
    few_nodes (cond b items (items ++ record { parent = Some number; content = TextContent (codes text) } ∷ [])) (number ∷ path) ≡ cond b (few_nodes items (number ∷ path)) (option_and_then (nodes_with_text (codes text)) (few_nodes items (number ∷ path)))
text-kept-by true number path text items = refl
text-kept-by false number path text items =
    let x : Item = record { parent = Some number; content = TextContent (codes text) } in
    kept-then (nodes_with_text (codes text)) items (number ∷ path) (few_nodes (items ++ x ∷ []) (number ∷ path)) refl (kept-none items x (number ∷ path))

abbrev pub kept : List Item → List ℕ → NodesSoFar
kept items path = record { items = items; path = path }

text-kept : (o : Opened) (outer : List Opened) (text : List ℕ) (items : List Item) →
    few_nodes (items_with_text (o ∷ outer) text items) (map (λ x. x.number) (o ∷ outer)) ≡ nodes_with_text_of (map (λ x. x.tag) (o ∷ outer)) text (few_nodes items (map (λ x. x.number) (o ∷ outer)))
text-kept o outer text items = text-kept-by (is_left_out o.tag text) o.number (map (λ x. x.number) outer) text items

element-kept : (tag : List ℕ) (attributes : List Attribute) (e : Bool) (elements : List Opened) (items : List Item) →
    few_nodes (items ++ record { parent = innermost elements; content = ElementContent tag attributes } ∷ []) (map (λ x. x.number) (elements_with e tag (length items) elements)) ≡ option_and_then (nodes_with_element tag attributes e) (few_nodes items (map (λ x. x.number) elements))
element-kept tag attributes true [] items = kept-then (nodes_with_element tag attributes true) items [] _ refl (kept-none items _ _)
element-kept tag attributes false [] items = kept-then (nodes_with_element tag attributes false) items [] _ refl (kept-none items _ _)
element-kept tag attributes true (o ∷ outer) items = kept-then (nodes_with_element tag attributes true) items (map (λ x. x.number) (o ∷ outer)) _ refl (kept-none items _ _)
element-kept tag attributes false (o ∷ outer) items = kept-then (nodes_with_element tag attributes false) items (map (λ x. x.number) (o ∷ outer)) _ refl (kept-none items _ _)

-- The root's tag

other-root-more : (items : List Item) (x : Item) → items ≢ [] → has_other_root (items ++ x ∷ []) ≡ has_other_root items
other-root-more [] x h = absurd (h refl)
other-root-more (i ∷ items) x h = refl

some-more : (items : List Item) (x : Item) → items ++ x ∷ [] ≢ []
some-more [] x = λ e. absurd (cc e)
some-more (i ∷ items) x = λ e. absurd (cc e)

other-root-text-by : (b : Bool) (items : List Item) (x : Item) → items ≢ [] → has_other_root (cond b items (items ++ x ∷ [])) ≡ has_other_root items
other-root-text-by true items x h = refl
other-root-text-by false items x h = other-root-more items x h

some-text-by : (b : Bool) (items : List Item) (x : Item) → items ≢ [] → cond b items (items ++ x ∷ []) ≢ []
some-text-by true items x h = h
some-text-by false items x h = some-more items x

tags-length : (elements : List Opened) → length (map (λ o. o.tag) elements) ≡ length elements
tags-length [] = refl
tags-length (o ∷ elements) = let k = tags-length elements in omega (arith, k)

abbrev seen : Phase → List (List ℕ) → List ℕ → Option NodesSoFar → Bool → Bool → Seen
seen phase tags text kept other deep = record { phase = phase; tags = tags; text = text; kept = kept; has_other_root = other; is_deep = deep }

abbrev state : Phase → List Opened → List ℕ → List Item → Bool → State
state phase elements text items deep = record { phase = phase; elements = elements; text = text; items = items; is_deep = deep }

abbrev tags_of : List Opened → List (List ℕ)
tags_of elements = map (λ o. o.tag) elements

abbrev numbers_of : List Opened → List ℕ
numbers_of elements = map (λ o. o.number) elements

-- One piece

opens : (tag text : List ℕ) (o : Opened) (outer : List Opened) (kept : Option NodesSoFar) (other deep : Bool) (e : Bool) (n : ℕ) → seen (phase_of (elements_with e tag n (o ∷ outer))) (tags_of (elements_with e tag n (o ∷ outer))) text kept other deep ≡ seen (phase_of_tags (tags_with e tag (tags_of (o ∷ outer)))) (tags_with e tag (tags_of (o ∷ outer))) text kept other deep
opens tag text o outer kept other deep true n = refl
opens tag text o outer kept other deep false n = refl

opens-root : (tag text : List ℕ) (kept : Option NodesSoFar) (other deep : Bool) (e : Bool) (n : ℕ) → seen (phase_of (elements_with e tag n [])) (tags_of (elements_with e tag n [])) text kept other deep ≡ seen (phase_of_tags (tags_with e tag [])) (tags_with e tag []) text kept other deep
opens-root tag text kept other deep true n = refl
opens-root tag text kept other deep false n = refl

seen-start-inside : (tag : List ℕ) (attributes : List Attribute) (e : Bool) (o : Opened) (outer : List Opened) (text : List ℕ) (items : List Item) (deep : Bool) → items ≢ [] →
    seen_of (after_start_tag tag attributes e (state Inside (o ∷ outer) text items deep) (items_with_text (o ∷ outer) text items)) ≡ seen_started tag attributes e (seen_flushed (seen_of (state Inside (o ∷ outer) text items deep)))
seen-start-inside tag attributes e o outer text items deep h =
    let f = items_with_text (o ∷ outer) text items in
    let x : Item = record { parent = innermost (o ∷ outer); content = ElementContent tag attributes } in
    let phase = phase_of_tags (tags_with e tag (tags_of (o ∷ outer))) in
    let tags = tags_with e tag (tags_of (o ∷ outer)) in
    let some : f ≢ [] = some-text-by (is_left_out o.tag text) items _ h in
    let kept : few_nodes (f ++ x ∷ []) (numbers_of (elements_with e tag (length f) (o ∷ outer))) ≡ option_and_then (nodes_with_element tag attributes e) (nodes_with_text_of (tags_of (o ∷ outer)) text (few_nodes items (numbers_of (o ∷ outer)))) =
    element-kept tag attributes e (o ∷ outer) f ∙ ap (option_and_then (nodes_with_element tag attributes e)) (text-kept o outer text items) in
    let other : has_other_root (f ++ x ∷ []) ≡ has_other_root items = other-root-more f x some ∙ other-root-text-by (is_left_out o.tag text) items _ h in
    let levels_same : (deep || nat_le most_levels (length (o ∷ outer))) ≡ (deep || nat_le most_levels (length (tags_of (o ∷ outer)))) = ap (λ n. deep || nat_le most_levels n) (sym (tags-length (o ∷ outer))) in
    opens tag [] o outer (few_nodes (f ++ x ∷ []) (numbers_of (elements_with e tag (length f) (o ∷ outer)))) (has_other_root (f ++ x ∷ [])) (deep || nat_le most_levels (length (o ∷ outer))) e (length f)
    ∙ (ap (λ z. seen phase tags [] z (has_other_root (f ++ x ∷ [])) (deep || nat_le most_levels (length (o ∷ outer)))) kept
    ∙ (ap (λ z. seen phase tags [] (option_and_then (nodes_with_element tag attributes e) (nodes_with_text_of (tags_of (o ∷ outer)) text (few_nodes items (numbers_of (o ∷ outer))))) z (deep || nat_le most_levels (length (o ∷ outer)))) other
    ∙ ap (seen phase tags [] (option_and_then (nodes_with_element tag attributes e) (nodes_with_text_of (tags_of (o ∷ outer)) text (few_nodes items (numbers_of (o ∷ outer))))) (has_other_root items)) levels_same))

seen-start-root : (phase : Phase) (tag : List ℕ) (attributes : List Attribute) (e : Bool) (deep : Bool) →
    seen_of (after_start_tag tag attributes e (state phase [] [] [] deep) []) ≡ seen_started tag attributes e (seen phase [] [] (few_nodes [] []) (not (is_same tag (ascii "bml"))) deep)
seen-start-root phase tag attributes e deep =
    let x : Item = record { parent = None; content = ElementContent tag attributes } in
    let other = not (is_same tag (ascii "bml")) in
    let level = deep || nat_le most_levels 0 in
    opens-root tag [] (few_nodes (x ∷ []) (numbers_of (elements_with e tag 0 []))) other level e 0
    ∙ ap (λ z. seen (phase_of_tags (tags_with e tag [])) (tags_with e tag []) [] z other level) (element-kept tag attributes e [] [])

closes : (items : List Item) (path : List ℕ) (n : ℕ) (b : Bool) → cond b (Some (kept items path)) None ≡ option_map nodes_outside (cond b (Some (kept items (n ∷ path))) None)
closes items path n true = refl
closes items path n false = refl

phases : (outer : List Opened) (k : Option NodesSoFar) (other deep : Bool) → Some (seen (phase_of outer) (tags_of outer) [] k other deep) ≡ Some (seen (phase_of_tags (tags_of outer)) (tags_of outer) [] k other deep)
phases [] k other deep = refl
phases (o ∷ outer) k other deep = refl

seen-end : (tag : List ℕ) (o : Opened) (outer : List Opened) (text : List ℕ) (items : List Item) (deep : Bool) (b : Bool) → items ≢ [] →
    option_map seen_of (cond b (Some (state (phase_of outer) outer [] (items_with_text (o ∷ outer) text items) deep)) None)
    ≡ cond b (Some (seen (phase_of_tags (tags_of outer)) (tags_of outer) [] (option_map nodes_outside (nodes_with_text_of (tags_of (o ∷ outer)) text (few_nodes items (numbers_of (o ∷ outer))))) (has_other_root items) deep)) None
seen-end tag o outer text items deep false h = refl
seen-end tag o outer text items deep true h =
    let f = items_with_text (o ∷ outer) text items in
    let outside_element : few_nodes f (numbers_of outer) ≡ option_map nodes_outside (few_nodes f (numbers_of (o ∷ outer))) = closes f (numbers_of outer) o.number (nat_le (length f) most_nodes) in
    let kept : few_nodes f (numbers_of outer) ≡ option_map nodes_outside (nodes_with_text_of (tags_of (o ∷ outer)) text (few_nodes items (numbers_of (o ∷ outer)))) = outside_element ∙ ap (option_map nodes_outside) (text-kept o outer text items) in
    let other : has_other_root f ≡ has_other_root items = other-root-text-by (is_left_out o.tag text) items _ h in
    phases outer (few_nodes f (numbers_of outer)) (has_other_root f) deep
    ∙ (ap (λ z. Some (seen (phase_of_tags (tags_of outer)) (tags_of outer) [] z (has_other_root f) deep)) kept
    ∙ ap (λ z. Some (seen (phase_of_tags (tags_of outer)) (tags_of outer) [] (option_map nodes_outside (nodes_with_text_of (tags_of (o ∷ outer)) text (few_nodes items (numbers_of (o ∷ outer))))) z deep)) other)

at_start : (phase : Phase) (elements : List Opened) (text : List ℕ) (items : List Item) (deep : Bool) (tag : List ℕ) (attributes : List Attribute) (e : Bool) → elements ≡ [] → items ≡ [] → text ≡ [] →
    Some (seen_of (after_start_tag tag attributes e (state phase elements text items deep) items)) ≡ Some (seen_started tag attributes e (seen phase (tags_of elements) text (few_nodes items (numbers_of elements)) (not (is_same tag (ascii "bml"))) deep))
at_start phase [] [] [] deep tag attributes e a b c = ap Some (seen-start-root phase tag attributes e deep)
at_start phase (o ∷ elements) text items deep tag attributes e a b c = absurd (cc a)
at_start phase [] (x ∷ text) items deep tag attributes e a b c = absurd (cc c)
at_start phase [] [] (i ∷ items) deep tag attributes e a b c = absurd (cc b)

white : (b : Bool) (s : State) → option_map seen_of (cond b (Some s) None) ≡ cond b (Some (seen_of s)) None
white true s = refl
white false s = refl

-- what the reader keeps follows what is known
seen-at : (phase : Phase) (elements : List Opened) (text : List ℕ) (items : List Item) (deep : Bool) (p : Markup) → IsSoundIn phase (state phase elements text items deep) → option_map seen_of (step p (state phase elements text items deep)) ≡ seen_step p (seen_of (state phase elements text items deep))
unfolding step seen_step
seen-at BeforeDoctype elements text items deep (StartTag tag attributes e) h = at_start BeforeDoctype elements text items deep tag attributes e h.0 h.1 h.2
seen-at BeforeDoctype elements text items deep (EndTag tag) h = refl
seen-at BeforeDoctype elements text items deep (Run bytes) h = white (list_all is_white bytes) (state BeforeDoctype elements text items deep)
seen-at BeforeDoctype elements text items deep (Cdata bytes) h = refl
seen-at BeforeDoctype elements text items deep Remark h = refl
seen-at BeforeDoctype elements text items deep Doctype h = refl
seen-at BeforeRoot elements text items deep (StartTag tag attributes e) h = at_start BeforeRoot elements text items deep tag attributes e h.0 h.1 h.2
seen-at BeforeRoot elements text items deep (EndTag tag) h = refl
seen-at BeforeRoot elements text items deep (Run bytes) h = white (list_all is_white bytes) (state BeforeRoot elements text items deep)
seen-at BeforeRoot elements text items deep (Cdata bytes) h = refl
seen-at BeforeRoot elements text items deep Remark h = refl
seen-at BeforeRoot elements text items deep Doctype h = refl
seen-at Inside [] text items deep p h = absurd (h.0 refl)
seen-at Inside (o ∷ outer) text items deep (StartTag tag attributes e) h = ap Some (seen-start-inside tag attributes e o outer text items deep h.1)
seen-at Inside (o ∷ outer) text items deep (EndTag tag) h = seen-end tag o outer text items deep (is_same tag o.tag) h.1
seen-at Inside (o ∷ outer) text items deep (Run bytes) h = refl
seen-at Inside (o ∷ outer) text items deep (Cdata bytes) h = refl
seen-at Inside (o ∷ outer) text items deep Remark h = refl
seen-at Inside (o ∷ outer) text items deep Doctype h = refl
seen-at Behind elements text items deep (StartTag tag attributes e) h = refl
seen-at Behind elements text items deep (EndTag tag) h = refl
seen-at Behind elements text items deep (Run bytes) h = white (list_all is_white bytes) (state Behind elements text items deep)
seen-at Behind elements text items deep (Cdata bytes) h = refl
seen-at Behind elements text items deep Remark h = refl
seen-at Behind elements text items deep Doctype h = refl

pub seen-follows : (p : Markup) (s : State) → IsSound s → option_map seen_of (step p s) ≡ seen_step p (seen_of s)
seen-follows p s h = seen-at s.phase s.elements s.text s.items s.is_deep p h

-- What stays sound

sound-start : (tag : List ℕ) (attributes : List Attribute) (e : Bool) (phase : Phase) (elements : List Opened) (text : List ℕ) (items items1 : List Item) (deep : Bool) → IsSound (after_start_tag tag attributes e (state phase elements text items deep) items1)
sound-start tag attributes true phase [] text items items1 deep = (refl, some-more items1 _)
sound-start tag attributes false phase [] text items items1 deep = ((λ z. absurd (cc z)), some-more items1 _)
sound-start tag attributes true phase (o ∷ outer) text items items1 deep = ((λ z. absurd (cc z)), some-more items1 _)
sound-start tag attributes false phase (o ∷ outer) text items items1 deep = ((λ z. absurd (cc z)), some-more items1 _)

sound-end : (outer : List Opened) (text : List ℕ) (items : List Item) (deep : Bool) → items ≢ [] → IsSound (state (phase_of outer) outer text items deep)
sound-end [] text items deep h = (refl, h)
sound-end (o ∷ outer) text items deep h = ((λ z. absurd (cc z)), h)

sound-cond : (b : Bool) (s t : State) → IsSound s → cond b (Some s) None ≡ Some t → IsSound t
sound-cond true s t h e = subst IsSound (some-same s t e) h
sound-cond false s t h e = absurd (cc e)

sound-at : (phase : Phase) (elements : List Opened) (text : List ℕ) (items : List Item) (deep : Bool) (p : Markup) (t : State) → IsSoundIn phase (state phase elements text items deep) → step p (state phase elements text items deep) ≡ Some t → IsSound t
unfolding step
sound-at BeforeDoctype elements text items deep (StartTag tag attributes e) t h q = subst IsSound (some-same _ t q) (sound-start tag attributes e BeforeDoctype elements text items items deep)
sound-at BeforeDoctype elements text items deep (EndTag tag) t h q = absurd (cc q)
sound-at BeforeDoctype elements text items deep (Run bytes) t h q = sound-cond (list_all is_white bytes) (state BeforeDoctype elements text items deep) t h q
sound-at BeforeDoctype elements text items deep (Cdata bytes) t h q = absurd (cc q)
sound-at BeforeDoctype elements text items deep Remark t h q = subst IsSound (some-same (state BeforeDoctype elements text items deep) t q) h
sound-at BeforeDoctype elements text items deep Doctype t h q = subst IsSound (some-same (state BeforeRoot elements text items deep) t q) h
sound-at BeforeRoot elements text items deep (StartTag tag attributes e) t h q = subst IsSound (some-same _ t q) (sound-start tag attributes e BeforeRoot elements text items items deep)
sound-at BeforeRoot elements text items deep (EndTag tag) t h q = absurd (cc q)
sound-at BeforeRoot elements text items deep (Run bytes) t h q = sound-cond (list_all is_white bytes) (state BeforeRoot elements text items deep) t h q
sound-at BeforeRoot elements text items deep (Cdata bytes) t h q = absurd (cc q)
sound-at BeforeRoot elements text items deep Remark t h q = subst IsSound (some-same (state BeforeRoot elements text items deep) t q) h
sound-at BeforeRoot elements text items deep Doctype t h q = absurd (cc q)
sound-at Inside [] text items deep p t h q = absurd (h.0 refl)
sound-at Inside (o ∷ outer) text items deep (StartTag tag attributes e) t h q = subst IsSound (some-same _ t q) (sound-start tag attributes e Inside (o ∷ outer) text items (items_with_text (o ∷ outer) text items) deep)
sound-at Inside (o ∷ outer) text items deep (EndTag tag) t h q = sound-cond (is_same tag o.tag) (state (phase_of outer) outer [] (items_with_text (o ∷ outer) text items) deep) t (sound-end outer [] (items_with_text (o ∷ outer) text items) deep (some-text-by (is_left_out o.tag text) items _ h.1)) q
sound-at Inside (o ∷ outer) text items deep (Run bytes) t h q = subst IsSound (some-same (state Inside (o ∷ outer) (text ++ read_references bytes) items deep) t q) h
sound-at Inside (o ∷ outer) text items deep (Cdata bytes) t h q = subst IsSound (some-same (state Inside (o ∷ outer) (text ++ bytes) items deep) t q) h
sound-at Inside (o ∷ outer) text items deep Remark t h q = subst IsSound (some-same (state Inside (o ∷ outer) text items deep) t q) h
sound-at Inside (o ∷ outer) text items deep Doctype t h q = absurd (cc q)
sound-at Behind elements text items deep (StartTag tag attributes e) t h q = absurd (cc q)
sound-at Behind elements text items deep (EndTag tag) t h q = absurd (cc q)
sound-at Behind elements text items deep (Run bytes) t h q = sound-cond (list_all is_white bytes) (state Behind elements text items deep) t h q
sound-at Behind elements text items deep (Cdata bytes) t h q = absurd (cc q)
sound-at Behind elements text items deep Remark t h q = subst IsSound (some-same (state Behind elements text items deep) t q) h
sound-at Behind elements text items deep Doctype t h q = absurd (cc q)

pub sound-step : (p : Markup) (s t : State) → IsSound s → step p s ≡ Some t → IsSound t
sound-step p s t h q = sound-at s.phase s.elements s.text s.items s.is_deep p t h q

if-kept : (P : NodesSoFar → Type 0) (k : NodesSoFar) (b : Bool) → P k → IfSome (cond b (Some k) None) P
if-kept P k true h = h
if-kept P k false h = tt

some-numbers : (elements : List Opened) → elements ≢ [] → numbers_of elements ≢ []
some-numbers [] h = absurd (h refl)
some-numbers (o ∷ elements) h = λ e. absurd (cc e)

some-tags : (elements : List Opened) → elements ≢ [] → tags_of elements ≢ []
some-tags [] h = absurd (h refl)
some-tags (o ∷ elements) h = λ e. absurd (cc e)

ready-at : (phase : Phase) (elements : List Opened) (text : List ℕ) (items : List Item) (deep : Bool) → IsSoundIn phase (state phase elements text items deep) → IsReady (seen_of (state phase elements text items deep))
ready-at BeforeDoctype elements text items deep h = (ap tags_of h.0, if-kept (λ k. k.items ≡ []) (record { items = items; path = numbers_of elements }) (nat_le (length items) most_nodes) h.1)
ready-at BeforeRoot elements text items deep h = (ap tags_of h.0, if-kept (λ k. k.items ≡ []) (record { items = items; path = numbers_of elements }) (nat_le (length items) most_nodes) h.1)
ready-at Inside elements text items deep h = (some-tags elements h.0, if-kept (λ k. k.path ≢ []) (record { items = items; path = numbers_of elements }) (nat_le (length items) most_nodes) (some-numbers elements h.0))
ready-at Behind elements text items deep h = tt

pub ready : (s : State) → IsSound s → IsReady (seen_of s)
ready s h = ready-at s.phase s.elements s.text s.items s.is_deep h
