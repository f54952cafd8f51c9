-- What is read of script sources, one source more, and the sources of a node, part by part.
use Rattle.std.proofs.Common.{◌≡◌, ℕ, zero, suc, ◌+◌, ◌<◌, ◌≤◌, Bool, true, false, List, [], ◌∷◌, ◌++◌, length, take, map, Option, Some, None, option_to_list, All, refl, sym, ◌∙◌, ap, ap₂, subst, append_assoc, append-nil, add-one, add-zero, length-append, arith}
use Rattle.std.specs.Prelude.{nat_eq, not, ◌||◌, cond, slice_get, option_and_then, if◌then◌else◌}
use Rattle.std.specs.List.{AllZip, cons_option, filter, filter_map, flat_map, range_with_len}
use Rattle.std.specs.Option.{is_some, is_none, option_map_or}
use Rattle.std.proofs.lemmas.Bool.{eq-eqb, ne_eqb}
use Rattle.std.proofs.lemmas.Grind.{flat_map-append}
use Rattle.std.proofs.lemmas.List.{map-append, take_all}
use Rattle.std.proofs.lemmas.List.Elements.{All-append, All-cons, All-head, All-nil, All-tail, All-weaker, filter-append, filter_map-append}
use Rattle.std.proofs.lemmas.Slice.Zip.{all_zipped_more, AllZip-long}
use Rattle.dom_tree.specs.Items.{Attribute, Content, Item, attributes_in, attributes_of, tag_in}
use Rattle.dom_tree.specs.Items.Content.{Element, Text}
use Rattle.dom_tree.specs.Walks.{places}
use Rattle.es_reader.specs.Programs.{ToldProgram, Tells}
use Rattle.es_reader.specs.Readers.{Reader}
use Rattle.es_reader.specs.Statements.{Item as ProgramItem}
use Rattle.document_load.specs.StyleTexts.{given_for, own_text}
use Rattle.document_load.specs.Scripts.{AreScripts, HandlerState, HavePlaces, Source, bad_numbers, is_named, script_places_by, script_places_from, unnamed_places, handler_source, handler_with, handlers_by, handlers_from, programs_by, script_sources, script_source, sources_at, sources_by}
use Rattle.document_load.specs.ScriptViews.{told_handler}
use Rattle.document_load.specs.declared.handler_kinds.HandlerKind.{HandlerKind}
use Rattle.document_load.specs.ScriptSteps.{Adds, HasRead, IsSaidOf, element_place, handler_at, handlers_at, script_at}
use Rattle.document_load.specs.declared.scripts.ScriptReader.{ScriptReader}
use Rattle.document_load.proofs.NeedLemmas.{places_from-append}
use Rattle.document_load.proofs.StyleLemmas.{range_next}

-- ---- one source more, by a reader

abbrev is_good : Reader → Source → Bool
is_good read source = is_some (read source.text)

abbrev is_bad : Reader → Source → Bool
is_bad read source = is_none (read source.text)

handlers_from-append : (first : ℕ) (xs ys : List Source) → handlers_from first (xs ++ ys) ≡ handlers_from first xs ++ handlers_from (first + length xs) ys
handlers_from-append first [] ys = ap (λ (n : ℕ). handlers_from n ys) (sym (add-zero first))
handlers_from-append first (x ∷ xs) ys =
    let own = option_to_list (handler_with first x) in
    let shift : suc first + length xs ≡ first + suc (length xs) = omega arith in
    ap (λ (l : List HandlerState). own ++ l) (handlers_from-append (suc first) xs ys ∙ ap (λ (n : ℕ). handlers_from (suc first) xs ++ handlers_from n ys) shift)
    ∙ sym (append_assoc own (handlers_from (suc first) xs) (handlers_from (first + suc (length xs)) ys))

-- there are as many programs as good sources
good_count : (read : Reader) (sources : List Source) → length (filter (is_good read) sources) ≡ length (programs_by read sources)
good_count read [] = refl
good_count read (source ∷ sources) = one (read source.text) source _ _ (good_count read sources)
  where
    one : (o : Option (List ProgramItem)) (source : Source) (good : List Source) (programs : List (List ProgramItem)) → length good ≡ length programs → length (cond (is_some o) (source ∷ good) good) ≡ length (cons_option o programs)
    one None source good programs e = e
    one (Some items) source good programs e = ap suc e

programs-more : (read : Reader) (sources : List Source) (source : Source) (o : Option (List ProgramItem)) → read source.text ≡ o → programs_by read (sources ++ source ∷ []) ≡ programs_by read sources ++ cons_option o []
programs-more read sources source o e =
    filter_map-append (λ (s : Source). read s.text) sources (source ∷ [])
    ∙ ap (λ (p : Option (List ProgramItem)). programs_by read sources ++ cons_option p []) e

handlers-more : (read : Reader) (sources : List Source) (source : Source) (o : Option (List ProgramItem)) → read source.text ≡ o → handlers_by read (sources ++ source ∷ []) ≡ handlers_by read sources ++ handlers_from (length (programs_by read sources)) (cond (is_some o) (source ∷ []) [])
handlers-more read sources source o e =
    let good = filter (is_good read) sources in
    let more = cond (is_some o) (source ∷ []) [] in
    let place : 0 + length good ≡ length (programs_by read sources) = omega (arith, good_count read sources) in
    ap (handlers_from 0) (filter-append (is_good read) sources (source ∷ []) ∙ ap (λ (p : Option (List ProgramItem)). good ++ cond (is_some p) (source ∷ []) []) e)
    ∙ handlers_from-append 0 good more
    ∙ ap (λ (n : ℕ). handlers_from 0 good ++ handlers_from n more) place

bad-more : (read : Reader) (sources : List Source) (source : Source) (o : Option (List ProgramItem)) → read source.text ≡ o → bad_numbers read (sources ++ source ∷ []) ≡ bad_numbers read sources ++ map suc (if is_none o then length sources ∷ [] else [])
bad-more read sources source o e =
    let before = places (is_bad read) sources in
    let end : 0 + length sources ≡ length sources = omega arith in
    ap (map suc) (places_from-append (is_bad read) 0 sources (source ∷ [])
    ∙ ap (λ (n : ℕ). before ++ (if is_bad read source then n ∷ [] else [])) end
    ∙ ap (λ (p : Option (List ProgramItem)). before ++ (if is_none p then length sources ∷ [] else [])) e)
    ∙ map-append suc before (if is_none o then length sources ∷ [] else [])

AreScripts-good : (read : Reader) (sources : List Source) (source : Source) (programs : List ToldProgram) (handlers : List HandlerState) (bad : List ℕ) (items : List ProgramItem) (program : ToldProgram) → AreScripts read sources programs handlers bad → read source.text ≡ Some items → Tells items program → AreScripts read (sources ++ source ∷ []) (programs ++ program ∷ []) (handlers ++ option_to_list (handler_with (length programs) source)) bad
AreScripts-good read sources source programs handlers bad items program a e tells = record {
  programs_are =
      subst (λ (l : List (List ProgramItem)). AllZip Tells l (programs ++ program ∷ [])) (sym (programs-more read sources source (Some items) e))
      (all_zipped_more Tells (programs_by read sources) programs items program a.programs_are tells);
  handlers_are =
      let count : length programs ≡ length (programs_by read sources) = AllZip-long Tells (programs_by read sources) programs a.programs_are in
      let own = option_to_list (handler_with (length (programs_by read sources)) source) in
      ap (λ (l : List HandlerState). l ++ option_to_list (handler_with (length programs) source)) a.handlers_are
      ∙ ap (λ (n : ℕ). handlers_by read sources ++ option_to_list (handler_with n source)) count
      ∙ ap (λ (l : List HandlerState). handlers_by read sources ++ l) (sym (append-nil own))
      ∙ sym (handlers-more read sources source (Some items) e);
  bad_are = a.bad_are ∙ sym (append-nil (bad_numbers read sources)) ∙ sym (bad-more read sources source (Some items) e);
}

AreScripts-bad : (read : Reader) (sources : List Source) (source : Source) (programs : List ToldProgram) (handlers : List HandlerState) (bad : List ℕ) → AreScripts read sources programs handlers bad → read source.text ≡ None → AreScripts read (sources ++ source ∷ []) programs handlers (bad ++ suc (length sources) ∷ [])
AreScripts-bad read sources source programs handlers bad a e = record {
  programs_are =
      subst (λ (l : List (List ProgramItem)). AllZip Tells l programs) (sym (programs-more read sources source None e ∙ append-nil (programs_by read sources))) a.programs_are;
  handlers_are = a.handlers_are ∙ sym (append-nil (handlers_by read sources)) ∙ sym (handlers-more read sources source None e);
  bad_are = ap (λ (l : List ℕ). l ++ suc (length sources) ∷ []) a.bad_are ∙ sym (bad-more read sources source None e);
}

AreScripts-same : (read : Reader) (sources : List Source) (programs others : List ToldProgram) (handlers more : List HandlerState) (bad worse : List ℕ) → others ≡ programs → more ≡ handlers → worse ≡ bad → AreScripts read sources programs handlers bad → AreScripts read sources others more worse
AreScripts-same read sources programs others handlers more bad worse e f g a = record {
  programs_are = subst (λ (l : List ToldProgram). AllZip Tells (programs_by read sources) l) (sym e) a.programs_are;
  handlers_are = f ∙ a.handlers_are;
  bad_are = g ∙ a.bad_are;
}

-- ---- places

element_by : (place : ℕ) (o : Option HandlerKind) → element_place place o ≡ (if is_none o then place ∷ [] else [])
element_by place None = refl
element_by place (Some name) = refl

script_places_from-append : (first : ℕ) (xs ys : List Source) → script_places_from first (xs ++ ys) ≡ script_places_from first xs ++ script_places_from (first + length xs) ys
script_places_from-append first [] ys = ap (λ (n : ℕ). script_places_from n ys) (sym (add-zero first))
script_places_from-append first (x ∷ xs) ys =
    let own : List ℕ = if is_none x.handler then first ∷ [] else [] in
    let shift : suc first + length xs ≡ first + suc (length xs) = omega arith in
    ap (λ (l : List ℕ). own ++ l) (script_places_from-append (suc first) xs ys ∙ ap (λ (n : ℕ). script_places_from (suc first) xs ++ script_places_from n ys) shift)
    ∙ sym (append_assoc own (script_places_from (suc first) xs) (script_places_from (first + suc (length xs)) ys))

script_places-more : (read : Reader) (sources : List Source) (source : Source) (o : Option (List ProgramItem)) → read source.text ≡ o → script_places_by read (sources ++ source ∷ []) ≡ script_places_by read sources ++ script_places_from (length (programs_by read sources)) (cond (is_some o) (source ∷ []) [])
script_places-more read sources source o e =
    let good = filter (is_good read) sources in
    let more = cond (is_some o) (source ∷ []) [] in
    let place : 0 + length good ≡ length (programs_by read sources) = omega (arith, good_count read sources) in
    ap (script_places_from 0) (filter-append (is_good read) sources (source ∷ []) ∙ ap (λ (p : Option (List ProgramItem)). good ++ cond (is_some p) (source ∷ []) []) e)
    ∙ script_places_from-append 0 good more
    ∙ ap (λ (n : ℕ). script_places_from 0 good ++ script_places_from n more) place

script_places-good : (read : Reader) (sources : List Source) (source : Source) (programs : List ToldProgram) (items : List ProgramItem) (elements : List ℕ) → AllZip Tells (programs_by read sources) programs → read source.text ≡ Some items → elements ≡ script_places_by read sources
    → elements ++ element_place (length programs) source.handler ≡ script_places_by read (sources ++ source ∷ [])
script_places-good read sources source programs items elements told e are =
    let count : length programs ≡ length (programs_by read sources) = AllZip-long Tells (programs_by read sources) programs told in
    let own : List ℕ = if is_none source.handler then length (programs_by read sources) ∷ [] else [] in
    ap (λ (l : List ℕ). l ++ element_place (length programs) source.handler) are
    ∙ ap (λ (n : ℕ). script_places_by read sources ++ element_place n source.handler) count
    ∙ ap (λ (l : List ℕ). script_places_by read sources ++ l) (element_by (length (programs_by read sources)) source.handler ∙ sym (append-nil own))
    ∙ sym (script_places-more read sources source (Some items) e)

script_places-bad : (read : Reader) (sources : List Source) (source : Source) (elements : List ℕ) → read source.text ≡ None → elements ≡ script_places_by read sources → elements ≡ script_places_by read (sources ++ source ∷ [])
script_places-bad read sources source elements e are = are ∙ sym (append-nil (script_places_by read sources)) ∙ sym (script_places-more read sources source None e)

-- a handler of the next program names none of those before it
named-behind : (handlers : List HandlerState) (own : Option HandlerKind) (node place count : ℕ) → place < count → is_named (handlers ++ option_to_list (handler_with count (record { node = node; handler = own; text = [] }))) place ≡ is_named handlers place
named-behind [] None node place count low = refl
named-behind [] (Some name) node place count low =
    let apart : nat_eq count place ≡ false = ne_eqb count place (omega arith) in
    ap (λ (b : Bool). b || false) apart
named-behind (handler ∷ handlers) own node place count low = ap (λ (b : Bool). nat_eq handler.program place || b) (named-behind handlers own node place count low)

abbrev pub IsBelow : ℕ → HandlerState → Type 0
IsBelow count handler = handler.program < count

-- no handler names a place that is past those of all
not_named : (handlers : List HandlerState) (count : ℕ) → All (λ (handler : HandlerState). handler.program < count) handlers → is_named handlers count ≡ false
not_named [] count low = refl
not_named (handler ∷ handlers) count low =
    let below : handler.program < count = All-head (IsBelow count) handler handlers low in
    let apart : nat_eq handler.program count ≡ false = ne_eqb handler.program count (omega (arith, below)) in
    ap (λ (b : Bool). b || is_named handlers count) apart ∙ not_named handlers count (All-tail (IsBelow count) handler handlers low)

-- a handler of the next program names it
named-own : (handlers : List HandlerState) (name : HandlerKind) (node count : ℕ) → is_named (handlers ++ option_to_list (handler_with count (record { node = node; handler = Some name; text = [] }))) count ≡ true
named-own [] name node count = let same : nat_eq count count ≡ true = eq-eqb count count refl in ap (λ (b : Bool). b || false) same
named-own (handler ∷ handlers) name node count = ap (λ (b : Bool). nat_eq handler.program count || b) (named-own handlers name node count) ∙ or-true (nat_eq handler.program count)
  where
    or-true : (b : Bool) → (b || true) ≡ true
    or-true true = refl
    or-true false = refl

filter-below : (p q : ℕ → Bool) (start count : ℕ) → ((k : ℕ) → k < start + count → p k ≡ q k) → filter p (range_with_len start count) ≡ filter q (range_with_len start count)
filter-below p q start zero same = refl
filter-below p q start (suc count) same =
    ap₂ (λ (b : Bool) (l : List ℕ). cond b (start ∷ l) l) (same start (omega arith)) (filter-below p q (start + 1) count (λ k low. same k (omega arith)))

unnamed-more : (count : ℕ) (handlers : List HandlerState) (own : Option HandlerKind) (node : ℕ) → All (λ (handler : HandlerState). handler.program < count) handlers
    → unnamed_places count handlers ++ element_place count own ≡ unnamed_places (count + 1) (handlers ++ option_to_list (handler_with count (record { node = node; handler = own; text = [] })))
unnamed-more count handlers own node low =
    let more = handlers ++ option_to_list (handler_with count (record { node = node; handler = own; text = [] })) in
    ap (λ (l : List ℕ). l ++ element_place count own) (filter-below (λ place. not (is_named handlers place)) (λ place. not (is_named more place)) 0 count (λ place below. ap not (sym (named-behind handlers own node place count (omega (arith, below))))))
    ∙ ap (λ (l : List ℕ). filter (λ place. not (is_named more place)) (range_with_len 0 count) ++ l) (last own)
    ∙ sym (filter-append (λ place. not (is_named more place)) (range_with_len 0 count) (count ∷ []))
    ∙ ap (filter (λ place. not (is_named more place))) (sym (range_next count))
  where
    last : (own : Option HandlerKind) → element_place count own ≡ filter (λ place. not (is_named (handlers ++ option_to_list (handler_with count (record { node = node; handler = own; text = [] }))) place)) (count ∷ [])
    last None = sym (ap (λ (b : Bool). cond (not b) (count ∷ []) []) (ap (λ (l : List HandlerState). is_named l count) (append-nil handlers) ∙ not_named handlers count low))
    last (Some name) = sym (ap (λ (b : Bool). cond (not b) (count ∷ []) []) (named-own handlers name node count))

within-more : (count : ℕ) (handlers : List HandlerState) (own : Option HandlerKind) (node : ℕ) → All (λ (handler : HandlerState). handler.program < count) handlers → All (λ (handler : HandlerState). handler.program < count + 1) (handlers ++ option_to_list (handler_with count (record { node = node; handler = own; text = [] })))
within-more count handlers own node low = All-append (IsBelow (count + 1)) handlers _ (All-weaker (IsBelow count) (IsBelow (count + 1)) (λ handler below. omega (arith, below)) handlers low) (last own)
  where
    last : (own : Option HandlerKind) → All (IsBelow (count + 1)) (option_to_list (handler_with count (record { node = node; handler = own; text = [] })))
    last None = All-nil (IsBelow (count + 1))
    last (Some name) = All-cons (IsBelow (count + 1)) _ [] (omega arith) (All-nil (IsBelow (count + 1)))

-- one program more
HavePlaces-more : (elements : List ℕ) (programs : List ToldProgram) (program : ToldProgram) (handlers : List HandlerState) (source : Source) → HavePlaces elements (length programs) handlers
    → HavePlaces (elements ++ element_place (length programs) source.handler) (length (programs ++ program ∷ [])) (handlers ++ option_to_list (handler_with (length programs) source))
HavePlaces-more elements programs program handlers source h =
    let grown : length (programs ++ program ∷ []) ≡ length programs + 1 = omega (arith, length-append {A = ToldProgram} programs (program ∷ [])) in
    subst (λ (n : ℕ). HavePlaces (elements ++ element_place (length programs) source.handler) n (handlers ++ option_to_list (handler_with (length programs) source))) (sym grown)
    (record {
      within = within-more (length programs) handlers source.handler source.node h.within;
      others = ap (λ (l : List ℕ). l ++ element_place (length programs) source.handler) h.others ∙ unnamed-more (length programs) handlers source.handler source.node h.within;
    })

HavePlaces-same : (elements others : List ℕ) (count number : ℕ) (handlers more : List HandlerState) → others ≡ elements → number ≡ count → more ≡ handlers → HavePlaces elements count handlers → HavePlaces others number more
HavePlaces-same elements others count number handlers more e f g h =
    subst (λ (l : List ℕ). HavePlaces l number more) (sym e) (subst (λ (n : ℕ). HavePlaces elements n more) (sym f) (subst (λ (l : List HandlerState). HavePlaces elements count l) (sym g) h))

-- ---- one source more, in what is read

pub HasRead-good : (old new : ScriptReader) (sources : List Source) (source : Source) (program : ToldProgram) → HasRead sources old → IsSaidOf (Some program) source.text → new.count ≡ old.count + 1 → new.scripts.programs.items ≡ old.scripts.programs.items ++ program ∷ [] → new.scripts.elements.items ≡ old.scripts.elements.items ++ element_place (length old.scripts.programs.items) source.handler → map told_handler new.scripts.handlers.items ≡ map told_handler old.scripts.handlers.items ++ option_to_list (handler_with (length old.scripts.programs.items) source) → new.scripts.bad.items ≡ old.scripts.bad.items → HasRead (sources ++ source ∷ []) new
HasRead-good old new sources source program h said count programs elements handlers bad = record {
  count = omega (arith, count, h.count, length-append {A = Source} sources (source ∷ []));
  scripts = λ read is.
      let found = said read is in
      AreScripts-same read (sources ++ source ∷ []) _ _ _ _ _ _ programs handlers bad
      (AreScripts-good read sources source _ _ _ found.0 program (h.scripts read is) found.1 found.2);
  elements = λ read is.
      let found = said read is in
      elements ∙ script_places-good read sources source old.scripts.programs.items found.0 old.scripts.elements.items (h.scripts read is).programs_are found.1 (h.elements read is);
  places =
      HavePlaces-same _ _ _ _ _ _ elements (ap (λ (l : List ToldProgram). length l) programs) handlers
      (HavePlaces-more old.scripts.elements.items old.scripts.programs.items program (map told_handler old.scripts.handlers.items) source h.places);
}

pub HasRead-bad : (old new : ScriptReader) (sources : List Source) (source : Source) → HasRead sources old → IsSaidOf None source.text → new.count ≡ old.count + 1 → new.scripts.programs.items ≡ old.scripts.programs.items → new.scripts.elements.items ≡ old.scripts.elements.items → new.scripts.handlers.items ≡ old.scripts.handlers.items → new.scripts.bad.items ≡ old.scripts.bad.items ++ (old.count + 1) ∷ [] → HasRead (sources ++ source ∷ []) new
HasRead-bad old new sources source h said count programs elements handlers bad = record {
  count = omega (arith, count, h.count, length-append {A = Source} sources (source ∷ []));
  scripts = λ read is.
      let number : old.count + 1 ≡ suc (length sources) = omega (arith, h.count) in
      AreScripts-same read (sources ++ source ∷ []) _ _ _ _ _ _ programs (ap (map told_handler) handlers)
      (bad ∙ ap (λ (n : ℕ). old.scripts.bad.items ++ n ∷ []) number)
      (AreScripts-bad read sources source _ _ _ (h.scripts read is) (said read is));
  elements = λ read is. elements ∙ script_places-bad read sources source old.scripts.elements.items (said read is) (h.elements read is);
  places = HavePlaces-same _ _ _ _ _ _ elements (ap (λ (l : List ToldProgram). length l) programs) (ap (map told_handler) handlers) h.places;
}

pub HasRead-none : (reader : ScriptReader) → reader.count ≡ 0 → reader.scripts.programs.items ≡ [] → reader.scripts.elements.items ≡ [] → reader.scripts.handlers.items ≡ [] → reader.scripts.bad.items ≡ [] → HasRead [] reader
HasRead-none reader count programs elements handlers bad = record {
  count = count;
  scripts = λ read is.
      AreScripts-same read [] [] _ [] _ [] _ programs (ap (map told_handler) handlers) bad
      (record { programs_are = tt; handlers_are = refl; bad_are = refl });
  elements = λ read is. elements;
  places =
      HavePlaces-same [] _ 0 _ [] _ elements (ap (λ (l : List ToldProgram). length l) programs) (ap (map told_handler) handlers) (record { within = All-nil (IsBelow 0); others = refl });
}

-- ---- sources behind sources

pub Adds-none : (reader : ScriptReader) → Adds [] reader reader
Adds-none reader sources h = subst (λ (l : List Source). HasRead l reader) (sym (append-nil sources)) h

pub Adds-both : (old middle new : ScriptReader) (xs ys : List Source) → Adds xs old middle → Adds ys middle new → Adds (xs ++ ys) old new
Adds-both old middle new xs ys f g sources h = subst (λ (l : List Source). HasRead l new) (append_assoc sources xs ys) (g (sources ++ xs) (f sources h))

pub Adds-same : (old new : ScriptReader) (xs ys : List Source) → xs ≡ ys → Adds xs old new → Adds ys old new
Adds-same old new xs ys e f = subst (λ (l : List Source). Adds l old new) e f

-- ---- the sources of a node

by_content : (node : ℕ) (own gift : List ℕ) (content : Content) → option_map_or (λ (tag : List ℕ). script_source node tag own gift (attributes_in content)) (tag_in content) [] ++ filter_map (handler_source node) (attributes_in content) ≡ sources_by node own gift content
by_content node own gift (Element tag attributes) = refl
by_content node own gift (Text text) = refl

-- the script that it is, and then its handlers
pub sources_at-parts : (items : List Item) (node : ℕ) (gift : List ℕ) → script_at items node gift ++ handlers_at items node ≡ sources_at items node gift
sources_at-parts items node gift = one (slice_get items node) (own_text items node)
  where
    one : (o : Option Item) (own : List ℕ) → option_map_or (λ (tag : List ℕ). script_source node tag own gift (option_map_or (λ (item : Item). attributes_in item.content) o [])) (option_and_then (λ (item : Item). tag_in item.content) o) [] ++ filter_map (handler_source node) (option_map_or (λ (item : Item). attributes_in item.content) o []) ≡ option_map_or (λ (item : Item). sources_by node own gift item.content) o []
    one None own = refl
    one (Some item) own = by_content node own gift item.content

take_next : {A : Type 0} (xs : List A) (place : ℕ) → take (place + 1) xs ≡ take place xs ++ option_to_list (slice_get xs place)
take_next [] zero = refl
take_next [] (suc place) = rw (add-one) refl
take_next (x ∷ xs) zero = refl
take_next (x ∷ xs) (suc place) = rw (add-one) (ap (λ z. x ∷ z) (sym (rw (add-one) refl) ∙ take_next xs place))

-- the handlers among the attributes in front of this place
abbrev pub handlers_before : List Item → ℕ → ℕ → List Source
handlers_before items node place = filter_map (handler_source node) (take place (attributes_of items node))

handlers_before-more : (items : List Item) (node place : ℕ) → handlers_before items node (place + 1) ≡ handlers_before items node place ++ handler_at items node place
handlers_before-more items node place =
    let attributes = attributes_of items node in
    ap (filter_map (handler_source node)) (take_next attributes place)
    ∙ filter_map-append (handler_source node) (take place attributes) (option_to_list (slice_get attributes place))
    ∙ ap (λ (l : List Source). handlers_before items node place ++ l) (one (slice_get attributes place))
  where
    own : (o : Option Source) → cons_option o [] ≡ option_to_list o
    own None = refl
    own (Some source) = refl

    one : (o : Option Attribute) → filter_map (handler_source node) (option_to_list o) ≡ option_to_list (option_and_then (handler_source node) o)
    one None = refl
    one (Some attribute) = own (handler_source node attribute)

pub Adds-handler : (items : List Item) (node place : ℕ) (old middle new : ScriptReader) → Adds (handlers_before items node place) old middle → Adds (handler_at items node place) middle new → Adds (handlers_before items node (place + 1)) old new
Adds-handler items node place old middle new f g =
    Adds-same old new _ _ (sym (handlers_before-more items node place)) (Adds-both old middle new (handlers_before items node place) (handler_at items node place) f g)

pub handlers_before-all : (items : List Item) (node place : ℕ) → length (attributes_of items node) ≤ place → handlers_before items node place ≡ handlers_at items node
handlers_before-all items node place h = ap (filter_map (handler_source node)) (take_all place (attributes_of items node) h)

-- ---- the sources of the nodes below a number

abbrev pub sources_below : List Item → List ℕ → List (Option (List ℕ)) → ℕ → List Source
sources_below items named given number =
    flat_map (λ (node : ℕ). sources_at items node (given_for named given node)) (range_with_len 0 number)

sources_below-next : (items : List Item) (named : List ℕ) (given : List (Option (List ℕ))) (number : ℕ) → sources_below items named given (number + 1) ≡ sources_below items named given number ++ sources_at items number (given_for named given number)
sources_below-next items named given number =
    let sources : ℕ → List Source = λ (node : ℕ). sources_at items node (given_for named given node) in
    ap (flat_map sources) (range_next number)
    ∙ flat_map-append sources (range_with_len 0 number) (number ∷ [])
    ∙ ap (λ (l : List Source). flat_map sources (range_with_len 0 number) ++ l) (append-nil (sources number))

pub sources_below-more : (items : List Item) (named : List ℕ) (given : List (Option (List ℕ))) (number : ℕ) (gift : List ℕ) (old new : ScriptReader) → HasRead (sources_below items named given number) old → gift ≡ given_for named given number → Adds (sources_at items number gift) old new → HasRead (sources_below items named given (number + 1)) new
sources_below-more items named given number gift old new h same adds =
    let next = ap (λ (g : List ℕ). sources_below items named given number ++ sources_at items number g) same ∙ sym (sources_below-next items named given number) in
    subst (λ (l : List Source). HasRead l new) next (adds (sources_below items named given number) h)

pub sources_below-all : (items : List Item) (named : List ℕ) (given : List (Option (List ℕ))) (count : ℕ) (reader : ScriptReader) → HasRead (sources_below items named given count) reader → count ≡ length items → HasRead (script_sources items named given) reader
unfolding script_sources
sources_below-all items named given count reader h all = subst (λ (l : List Source). HasRead l reader) (ap (sources_below items named given) all) h
