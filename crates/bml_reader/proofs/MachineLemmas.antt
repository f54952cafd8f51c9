-- What is known once the pieces of a document are read is its tree, and pieces that can be read are a document.
use Rattle.std.proofs.Common.{◌≡◌, ℕ, suc, ◌+◌, Bool, true, false, cond, List, [], ◌∷◌, ◌++◌, length, Option, Some, None, refl, sym, ◌∙◌, ap, arith, append_assoc, append-nil}
use Rattle.std.specs.Prelude.{◌&&◌, ◌||◌, nat_le, nat_eq, option_and_then}
use Rattle.std.specs.Cmp.Lexicographic.{pointwise}
use Rattle.std.proofs.lemmas.Bool.{eq-eqb, eqb-true}
use Rattle.std.proofs.lemmas.List.{length-append}
use Rattle.bml_bytes.specs.Codes.{codes}
use Rattle.bml_bytes.specs.Words.{is_same}
use Rattle.dom_tree.specs.Items.{Attribute, Item}
use Rattle.dom_tree.specs.Items.Content.{Element as ElementContent, Text as TextContent}
use Rattle.dom_tree.specs.Nested.{Nested, node_count, items_from}
use Rattle.dom_tree.specs.Nested.Nested.{NoNodes, ElementNode, TextNode}
use Rattle.bml_reader.specs.References.{read_references}
use Rattle.bml_reader.specs.Markup.{Markup}
use Rattle.bml_reader.specs.Markup.Markup.{StartTag, EndTag, Run, Cdata, Remark}
use Rattle.bml_reader.specs.Grammar.{Contents, markup_of, IsContent, is_left_out, text_before, nodes_of}
use Rattle.bml_reader.specs.Grammar.Contents.{Nothing, Text, Section, Aside, DocumentType, Element, EmptyElement}
use Rattle.bml_reader.specs.Faults.{most_levels}
use Rattle.bml_reader.specs.devices.Machine.{State, Opened, items_with_text, phase_of, step, steps}

-- One piece, and several

pub steps-one : (p : Markup) (ps : List Markup) (s t : State) → step p s ≡ Some t → steps (p ∷ ps) s ≡ steps ps t
unfolding steps
steps-one p ps s t e = ap (option_and_then (steps ps)) e

pub steps-refused : (p : Markup) (ps : List Markup) (s : State) → step p s ≡ None → steps (p ∷ ps) s ≡ None
unfolding steps
steps-refused p ps s e = ap (option_and_then (steps ps)) e

pub steps-none : (s : State) → steps [] s ≡ Some s
unfolding steps
steps-none s = refl

steps-append-by : (ps qs : List Markup) (o : Option State) → ((t : State) → steps (ps ++ qs) t ≡ option_and_then (steps qs) (steps ps t)) → option_and_then (steps (ps ++ qs)) o ≡ option_and_then (steps qs) (option_and_then (steps ps) o)
steps-append-by ps qs None k = refl
steps-append-by ps qs (Some t) k = k t

pub steps-append : (ps qs : List Markup) (s : State) → steps (ps ++ qs) s ≡ option_and_then (steps qs) (steps ps s)
unfolding steps
steps-append [] qs s = refl
steps-append (p ∷ ps) qs s = steps-append-by ps qs (step p s) (λ t. steps-append ps qs t)

-- Inside and behind the root

abbrev pub at_elements : List Opened → List ℕ → List Item → Bool → State
at_elements elements text items deep = record { phase = phase_of elements; elements = elements; text = text; items = items; is_deep = deep }

abbrev pub element_item : Option ℕ → List ℕ → List Attribute → Item
element_item parent tag attributes = record { parent = parent; content = ElementContent tag attributes }

-- an element stands past the last level, where so many elements are open
abbrev pub goes_deep : ℕ → Nested → Bool
goes_deep level NoNodes = false
goes_deep level (ElementNode tag attributes children following) = nat_le most_levels level || (goes_deep (suc level) children || goes_deep level following)
goes_deep level (TextNode text following) = goes_deep level following

-- Items

pub items_from-length : (parent : Option ℕ) (number : ℕ) (t : Nested) → length (items_from parent number t) ≡ node_count t
items_from-length parent number NoNodes = refl
items_from-length parent number (ElementNode tag attributes children following) =
    let a = items_from-length (Some number) (number + 1) children in
    let b = items_from-length parent (number + 1 + node_count children) following in
    omega (arith, a, b, length-append (items_from (Some number) (number + 1) children) (items_from parent (number + 1 + node_count children) following))
items_from-length parent number (TextNode text following) = let a = items_from-length parent (number + 1) following in omega (arith, a)

one-more : (items : List Item) (x : Item) → length (items ++ x ∷ []) ≡ length items + 1
one-more items x = omega (arith, length-append items (x ∷ []))

-- an element with its children, and what follows it
element-items : (items : List Item) (parent : Option ℕ) (tag : List ℕ) (attributes : List Attribute) (children following : Nested) →
    (let x = element_item parent tag attributes in
    let inside = (items ++ x ∷ []) ++ items_from (Some (length items)) (length (items ++ x ∷ [])) children in
    inside ++ items_from parent (length inside) following ≡ items ++ items_from parent (length items) (ElementNode tag attributes children following))
element-items items parent tag attributes children following =
    let x = element_item parent tag attributes in
    let n = length items in
    let a = items_from (Some n) (n + 1) children in
    let first : (items ++ x ∷ []) ++ items_from (Some n) (length (items ++ x ∷ [])) children ≡ (items ++ x ∷ []) ++ a = ap (λ k. (items ++ x ∷ []) ++ items_from (Some n) k children) (one-more items x) in
    let count : length ((items ++ x ∷ []) ++ a) ≡ n + 1 + node_count children = omega (arith, length-append (items ++ x ∷ []) a, one-more items x, items_from-length (Some n) (n + 1) children) in
    ap (λ z. z ++ items_from parent (length z) following) first
    ∙ (ap (λ k. ((items ++ x ∷ []) ++ a) ++ items_from parent k following) count
    ∙ (append_assoc (items ++ x ∷ []) a (items_from parent (n + 1 + node_count children) following)
    ∙ append_assoc items (x ∷ []) (a ++ items_from parent (n + 1 + node_count children) following)))

-- a text in front of other nodes
text-items-by : (b : Bool) (items : List Item) (number : ℕ) (text : List ℕ) (rest : Nested) →
    (let f = cond b items (items ++ record { parent = Some number; content = TextContent (codes text) } ∷ []) in
    f ++ items_from (Some number) (length f) rest ≡ items ++ items_from (Some number) (length items) (cond b rest (TextNode (codes text) rest)))
text-items-by true items number text rest = refl
text-items-by false items number text rest =
    let x : Item = record { parent = Some number; content = TextContent (codes text) } in
    ap (λ k. (items ++ x ∷ []) ++ items_from (Some number) k rest) (one-more items x)
    ∙ append_assoc items (x ∷ []) (items_from (Some number) (length items + 1) rest)

text-items : (o : Opened) (outer : List Opened) (text : List ℕ) (items : List Item) (rest : Nested) →
    (let f = items_with_text (o ∷ outer) text items in
    f ++ items_from (Some o.number) (length f) rest ≡ items ++ items_from (Some o.number) (length items) (text_before o.tag text rest))
text-items o outer text items rest = text-items-by (is_left_out o.tag text) items o.number text rest

text-deep-by : (b : Bool) (level : ℕ) (text : List ℕ) (rest : Nested) → goes_deep level rest ≡ goes_deep level (cond b rest (TextNode text rest))
text-deep-by true level text rest = refl
text-deep-by false level text rest = refl

text-deep : (level : ℕ) (tag text : List ℕ) (rest : Nested) → goes_deep level rest ≡ goes_deep level (text_before tag text rest)
text-deep level tag text rest = text-deep-by (is_left_out tag text) level (codes text) rest

or-assoc : (a b c : Bool) → ((a || b) || c) ≡ (a || (b || c))
or-assoc true b c = refl
or-assoc false b c = refl

or-false : (a : Bool) → (a || false) ≡ a
or-false true = refl
or-false false = refl

pub is_same-itself : (a : List ℕ) → is_same a a ≡ true
is_same-itself [] = refl
is_same-itself (x ∷ a) = rw (eq-eqb x x refl) (is_same-itself a)

pub is_same-is : (a b : List ℕ) → is_same a b ≡ true → a ≡ b
is_same-is [] [] e = refl
is_same-is [] (y ∷ b) e = absurd (cc e)
is_same-is (x ∷ a) [] e = absurd (cc e)
is_same-is (x ∷ a) (y ∷ b) e = by (nat_eq x y) refl e (is_same-is a b)
  where
    by : {x y : ℕ} {a b : List ℕ} (t : Bool) → nat_eq x y ≡ t → (t && pointwise nat_eq a b) ≡ true → (is_same a b ≡ true → a ≡ b) → x ∷ a ≡ y ∷ b
    by {x} {y} {a} {b} true q e k = let p : x ≡ y = eqb-true x y q in let r : a ≡ b = k e in cc
    by {x} {y} {a} {b} false q e k = absurd (cc e)

-- Steps inside

step-end : (o : Opened) (outer : List Opened) (text : List ℕ) (items : List Item) (deep : Bool) → step (EndTag o.tag) (at_elements (o ∷ outer) text items deep) ≡ Some (at_elements outer [] (items_with_text (o ∷ outer) text items) deep)
unfolding step
step-end o outer text items deep = rw (is_same-itself o.tag) refl

step-run : (bytes : List ℕ) (o : Opened) (outer : List Opened) (text : List ℕ) (items : List Item) (deep : Bool) → step (Run bytes) (at_elements (o ∷ outer) text items deep) ≡ Some (at_elements (o ∷ outer) (text ++ read_references bytes) items deep)
unfolding step
step-run bytes o outer text items deep = refl

step-cdata : (bytes : List ℕ) (o : Opened) (outer : List Opened) (text : List ℕ) (items : List Item) (deep : Bool) → step (Cdata bytes) (at_elements (o ∷ outer) text items deep) ≡ Some (at_elements (o ∷ outer) (text ++ bytes) items deep)
unfolding step
step-cdata bytes o outer text items deep = refl

step-remark : (o : Opened) (outer : List Opened) (text : List ℕ) (items : List Item) (deep : Bool) → step Remark (at_elements (o ∷ outer) text items deep) ≡ Some (at_elements (o ∷ outer) text items deep)
unfolding step
step-remark o outer text items deep = refl

step-empty : (tag : List ℕ) (attributes : List Attribute) (o : Opened) (outer : List Opened) (text : List ℕ) (items : List Item) (deep : Bool) → step (StartTag tag attributes true) (at_elements (o ∷ outer) text items deep) ≡ Some (at_elements (o ∷ outer) [] (items_with_text (o ∷ outer) text items ++ element_item (Some o.number) tag attributes ∷ []) (deep || nat_le most_levels (length (o ∷ outer))))
unfolding step
step-empty tag attributes o outer text items deep = refl

abbrev pub opened_at : List ℕ → ℕ → Opened
opened_at tag number = record { tag = tag; number = number }

step-start : (tag : List ℕ) (attributes : List Attribute) (o : Opened) (outer : List Opened) (text : List ℕ) (items : List Item) (deep : Bool) → step (StartTag tag attributes false) (at_elements (o ∷ outer) text items deep) ≡ Some (at_elements (opened_at tag (length (items_with_text (o ∷ outer) text items)) ∷ (o ∷ outer)) [] (items_with_text (o ∷ outer) text items ++ element_item (Some o.number) tag attributes ∷ []) (deep || nat_le most_levels (length (o ∷ outer))))
unfolding step
step-start tag attributes o outer text items deep = refl

-- the contents of an element up to its end tag
pub inside : (c : Contents) (o : Opened) (outer : List Opened) (text : List ℕ) (items : List Item) (deep : Bool) (ps : List Markup) → IsContent c →
    steps (markup_of c ++ (EndTag o.tag ∷ ps)) (at_elements (o ∷ outer) text items deep)
    ≡ steps ps (at_elements outer [] (items ++ items_from (Some o.number) (length items) (nodes_of o.tag text c)) (deep || goes_deep (suc (length outer)) (nodes_of o.tag text c)))
inside Nothing o outer text items deep ps h =
    let f = items_with_text (o ∷ outer) text items in
    let same : f ≡ items ++ items_from (Some o.number) (length items) (text_before o.tag text NoNodes) = sym (append-nil f) ∙ text-items o outer text items NoNodes in
    let flat : deep ≡ (deep || goes_deep (suc (length outer)) (text_before o.tag text NoNodes)) = sym (or-false deep) ∙ ap (λ z. deep || z) (text-deep (suc (length outer)) o.tag text NoNodes) in
    steps-one (EndTag o.tag) ps (at_elements (o ∷ outer) text items deep) (at_elements outer [] f deep) (step-end o outer text items deep)
    ∙ (ap (λ z. steps ps (at_elements outer [] z deep)) same
    ∙ ap (λ z. steps ps (at_elements outer [] (items ++ items_from (Some o.number) (length items) (text_before o.tag text NoNodes)) z)) flat)
inside (Text bytes c) o outer text items deep ps h =
    steps-one (Run bytes) (markup_of c ++ (EndTag o.tag ∷ ps)) (at_elements (o ∷ outer) text items deep) (at_elements (o ∷ outer) (text ++ read_references bytes) items deep) (step-run bytes o outer text items deep)
    ∙ inside c o outer (text ++ read_references bytes) items deep ps h
inside (Section bytes c) o outer text items deep ps h =
    steps-one (Cdata bytes) (markup_of c ++ (EndTag o.tag ∷ ps)) (at_elements (o ∷ outer) text items deep) (at_elements (o ∷ outer) (text ++ bytes) items deep) (step-cdata bytes o outer text items deep)
    ∙ inside c o outer (text ++ bytes) items deep ps h
inside (Aside c) o outer text items deep ps h =
    steps-one Remark (markup_of c ++ (EndTag o.tag ∷ ps)) (at_elements (o ∷ outer) text items deep) (at_elements (o ∷ outer) text items deep) (step-remark o outer text items deep)
    ∙ inside c o outer text items deep ps h
inside (DocumentType c) o outer text items deep ps h = absurd h
inside (Element tag attributes i c) o outer text items deep ps h =
    let f = items_with_text (o ∷ outer) text items in
    let x = element_item (Some o.number) tag attributes in
    let n = length f in
    let level = suc (length outer) in
    let children = nodes_of tag [] i in
    let following = nodes_of o.tag [] c in
    let behind = EndTag o.tag ∷ ps in
    let here = nat_le most_levels level in
    let inner = (f ++ x ∷ []) ++ items_from (Some n) (length (f ++ x ∷ [])) children in
    let deep1 = deep || here in
    let deep2 = deep1 || goes_deep (suc level) children in
    let order : (markup_of i ++ (EndTag tag ∷ markup_of c)) ++ behind ≡ markup_of i ++ (EndTag tag ∷ (markup_of c ++ behind)) = append_assoc (markup_of i) (EndTag tag ∷ markup_of c) behind in
    let items_same : inner ++ items_from (Some o.number) (length inner) following ≡ items ++ items_from (Some o.number) (length items) (text_before o.tag text (ElementNode tag attributes children following)) = element-items f (Some o.number) tag attributes children following ∙ text-items o outer text items (ElementNode tag attributes children following) in
    let deep_same : (deep2 || goes_deep level following) ≡ (deep || goes_deep level (text_before o.tag text (ElementNode tag attributes children following))) =
    or-assoc deep1 (goes_deep (suc level) children) (goes_deep level following) ∙ (or-assoc deep here (goes_deep (suc level) children || goes_deep level following) ∙ ap (λ z. deep || z) (text-deep level o.tag text (ElementNode tag attributes children following))) in
    ap (λ z. steps (StartTag tag attributes false ∷ z) (at_elements (o ∷ outer) text items deep)) order
    ∙ (steps-one (StartTag tag attributes false) (markup_of i ++ (EndTag tag ∷ (markup_of c ++ behind))) (at_elements (o ∷ outer) text items deep) (at_elements (opened_at tag n ∷ (o ∷ outer)) [] (f ++ x ∷ []) deep1) (step-start tag attributes o outer text items deep)
    ∙ (inside i (opened_at tag n) (o ∷ outer) [] (f ++ x ∷ []) deep1 (markup_of c ++ behind) h.0
    ∙ (inside c o outer [] inner deep2 ps h.1
    ∙ (ap (λ z. steps ps (at_elements outer [] z (deep2 || goes_deep level following))) items_same
    ∙ ap (λ z. steps ps (at_elements outer [] (items ++ items_from (Some o.number) (length items) (text_before o.tag text (ElementNode tag attributes children following))) z)) deep_same))))
inside (EmptyElement tag attributes c) o outer text items deep ps h =
    let f = items_with_text (o ∷ outer) text items in
    let x = element_item (Some o.number) tag attributes in
    let level = suc (length outer) in
    let following = nodes_of o.tag [] c in
    let behind = EndTag o.tag ∷ ps in
    let here = nat_le most_levels level in
    let deep1 = deep || here in
    let node = ElementNode tag attributes NoNodes following in
    let nothing : f ++ x ∷ [] ≡ (f ++ x ∷ []) ++ [] = sym (append-nil (f ++ x ∷ [])) in
    let items_same : (f ++ x ∷ []) ++ items_from (Some o.number) (length (f ++ x ∷ [])) following ≡ items ++ items_from (Some o.number) (length items) (text_before o.tag text node) =
    ap (λ z. z ++ items_from (Some o.number) (length z) following) nothing ∙ (element-items f (Some o.number) tag attributes NoNodes following ∙ text-items o outer text items node) in
    let deep_same : (deep1 || goes_deep level following) ≡ (deep || goes_deep level (text_before o.tag text node)) = or-assoc deep here (goes_deep level following) ∙ ap (λ z. deep || z) (text-deep level o.tag text node) in
    steps-one (StartTag tag attributes true) (markup_of c ++ behind) (at_elements (o ∷ outer) text items deep) (at_elements (o ∷ outer) [] (f ++ x ∷ []) deep1) (step-empty tag attributes o outer text items deep)
    ∙ (inside c o outer [] (f ++ x ∷ []) deep1 ps h
    ∙ (ap (λ z. steps ps (at_elements outer [] z (deep1 || goes_deep level following))) items_same
    ∙ ap (λ z. steps ps (at_elements outer [] (items ++ items_from (Some o.number) (length items) (text_before o.tag text node)) z)) deep_same))
