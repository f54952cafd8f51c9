-- What the pieces of a document leave, and that pieces which can be read are those of a document.
use Rattle.std.proofs.Common.{◌≡◌, ℕ, Bool, true, false, cond, List, [], ◌∷◌, ◌++◌, length, Option, Some, None, refl, sym, ◌∙◌, ap, subst, append_assoc, append-nil}
use Rattle.std.specs.Prelude.{◌||◌, nat_le}
use Rattle.std.specs.List.{list_all}
use Rattle.bml_bytes.specs.Words.{is_same}
use Rattle.dom_tree.specs.Items.{Attribute, Item}
use Rattle.dom_tree.specs.Nested.{Nested, items_from, items_of}
use Rattle.dom_tree.specs.Nested.Nested.{NoNodes, ElementNode}
use Rattle.bml_reader.specs.Bytes.{is_white}
use Rattle.bml_reader.specs.References.{read_references}
use Rattle.bml_reader.specs.Markup.{Markup, IsWhite}
use Rattle.bml_reader.specs.Markup.Markup.{StartTag, EndTag, Run, Cdata, Remark, Doctype}
use Rattle.bml_reader.specs.Grammar.{Contents, markup_of, IsContent, IsMisc, IsRooted, IsDocument, nodes_of, tree_of}
use Rattle.bml_reader.specs.Grammar.Contents.{Nothing, Text, Section, Aside, DocumentType, Element, EmptyElement}
use Rattle.bml_reader.specs.Faults.{most_levels}
use Rattle.bml_reader.specs.devices.Machine.{State, Opened, start_state, items_with_text, step, steps}
use Rattle.bml_reader.specs.declared.phases.Phase.{Phase}
use Rattle.bml_reader.specs.declared.phases.Phase.TheVariants.{BeforeDoctype, BeforeRoot, Inside, Behind}
use Rattle.bml_reader.proofs.ByteLemmas.{some-same}
use Rattle.bml_reader.proofs.MachineLemmas.{steps-one, steps-refused, steps-none, at_elements, element_item, goes_deep, opened_at, inside, is_same-is}

-- Before and behind the root

abbrev pub before : Phase → State
before phase = record { phase = phase; elements = []; text = []; items = []; is_deep = false }

-- behind the root of a tree
abbrev pub behind_tree : Nested → State
behind_tree t = record { phase = Behind; elements = []; text = []; items = items_of t; is_deep = goes_deep 0 t }

step-misc : (bytes : List ℕ) (items : List Item) (deep : Bool) → IsWhite bytes → step (Run bytes) (at_elements [] [] items deep) ≡ Some (at_elements [] [] items deep)
unfolding step
step-misc bytes items deep w = rw w refl

step-aside : (items : List Item) (deep : Bool) → step Remark (at_elements [] [] items deep) ≡ Some (at_elements [] [] items deep)
unfolding step
step-aside items deep = refl

misc : (c : Contents) (items : List Item) (deep : Bool) → IsMisc c → steps (markup_of c) (at_elements [] [] items deep) ≡ Some (at_elements [] [] items deep)
misc Nothing items deep h = steps-none (at_elements [] [] items deep)
misc (Text bytes c) items deep h = steps-one (Run bytes) (markup_of c) (at_elements [] [] items deep) (at_elements [] [] items deep) (step-misc bytes items deep h.0) ∙ misc c items deep h.1
misc (Section bytes c) items deep h = absurd h
misc (Aside c) items deep h = steps-one Remark (markup_of c) (at_elements [] [] items deep) (at_elements [] [] items deep) (step-aside items deep) ∙ misc c items deep h
misc (DocumentType c) items deep h = absurd h
misc (Element tag attributes i c) items deep h = absurd h
misc (EmptyElement tag attributes c) items deep h = absurd h

-- the root's start tag, which may stand in two phases
step-root-doctype : (tag : List ℕ) (attributes : List Attribute) → step (StartTag tag attributes false) (before BeforeDoctype) ≡ Some (at_elements (opened_at tag 0 ∷ []) [] (element_item None tag attributes ∷ []) false)
unfolding step
step-root-doctype tag attributes = refl

step-root : (tag : List ℕ) (attributes : List Attribute) → step (StartTag tag attributes false) (before BeforeRoot) ≡ Some (at_elements (opened_at tag 0 ∷ []) [] (element_item None tag attributes ∷ []) false)
unfolding step
step-root tag attributes = refl

step-empty-root-doctype : (tag : List ℕ) (attributes : List Attribute) → step (StartTag tag attributes true) (before BeforeDoctype) ≡ Some (at_elements [] [] (element_item None tag attributes ∷ []) false)
unfolding step
step-empty-root-doctype tag attributes = refl

step-empty-root : (tag : List ℕ) (attributes : List Attribute) → step (StartTag tag attributes true) (before BeforeRoot) ≡ Some (at_elements [] [] (element_item None tag attributes ∷ []) false)
unfolding step
step-empty-root tag attributes = refl

step-white-doctype : (bytes : List ℕ) → IsWhite bytes → step (Run bytes) (before BeforeDoctype) ≡ Some (before BeforeDoctype)
unfolding step
step-white-doctype bytes w = rw w refl

step-white-root : (bytes : List ℕ) → IsWhite bytes → step (Run bytes) (before BeforeRoot) ≡ Some (before BeforeRoot)
unfolding step
step-white-root bytes w = rw w refl

step-aside-doctype : step Remark (before BeforeDoctype) ≡ Some (before BeforeDoctype)
unfolding step
step-aside-doctype = refl

step-aside-root : step Remark (before BeforeRoot) ≡ Some (before BeforeRoot)
unfolding step
step-aside-root = refl

step-doctype : step Doctype (before BeforeDoctype) ≡ Some (before BeforeRoot)
unfolding step
step-doctype = refl

or-nothing : (a : Bool) → a ≡ (a || false)
or-nothing true = refl
or-nothing false = refl

-- behind the root's start tag
root-rest : (tag : List ℕ) (attributes : List Attribute) (i c : Contents) → IsContent i → IsMisc c → steps (markup_of i ++ (EndTag tag ∷ markup_of c)) (at_elements (opened_at tag 0 ∷ []) [] (element_item None tag attributes ∷ []) false) ≡ Some (behind_tree (ElementNode tag attributes (nodes_of tag [] i) NoNodes))
root-rest tag attributes i c hi hc =
    let x = element_item None tag attributes in
    let children = nodes_of tag [] i in
    let items = (x ∷ []) ++ items_from (Some 0) 1 children in
    let same : items ≡ items_of (ElementNode tag attributes children NoNodes) = ap (λ z. x ∷ z) (sym (append-nil (items_from (Some 0) 1 children))) in
    inside i (opened_at tag 0) [] [] (x ∷ []) false (markup_of c) hi
    ∙ (misc c items (goes_deep 1 children) hc
    ∙ (ap (λ z. Some (at_elements [] [] z (goes_deep 1 children))) same
    ∙ ap (λ z. Some (at_elements [] [] (items_of (ElementNode tag attributes children NoNodes)) z)) (or-nothing (goes_deep 1 children))))

pub rooted : (c : Contents) → IsRooted c → steps (markup_of c) (before BeforeRoot) ≡ Some (behind_tree (tree_of c))
rooted Nothing h = absurd h
rooted (Text bytes c) h = steps-one (Run bytes) (markup_of c) (before BeforeRoot) (before BeforeRoot) (step-white-root bytes h.0) ∙ rooted c h.1
rooted (Section bytes c) h = absurd h
rooted (Aside c) h = steps-one Remark (markup_of c) (before BeforeRoot) (before BeforeRoot) step-aside-root ∙ rooted c h
rooted (DocumentType c) h = absurd h
rooted (Element tag attributes i c) h = steps-one (StartTag tag attributes false) (markup_of i ++ (EndTag tag ∷ markup_of c)) (before BeforeRoot) (at_elements (opened_at tag 0 ∷ []) [] (element_item None tag attributes ∷ []) false) (step-root tag attributes) ∙ root-rest tag attributes i c h.0 h.1
rooted (EmptyElement tag attributes c) h = steps-one (StartTag tag attributes true) (markup_of c) (before BeforeRoot) (at_elements [] [] (element_item None tag attributes ∷ []) false) (step-empty-root tag attributes) ∙ misc c (element_item None tag attributes ∷ []) false h

-- the pieces of a document leave its tree
pub document : (c : Contents) → IsDocument c → steps (markup_of c) start_state ≡ Some (behind_tree (tree_of c))
document Nothing h = absurd h
document (Text bytes c) h = steps-one (Run bytes) (markup_of c) (before BeforeDoctype) (before BeforeDoctype) (step-white-doctype bytes h.0) ∙ document c h.1
document (Section bytes c) h = absurd h
document (Aside c) h = steps-one Remark (markup_of c) (before BeforeDoctype) (before BeforeDoctype) step-aside-doctype ∙ document c h
document (DocumentType c) h = steps-one Doctype (markup_of c) (before BeforeDoctype) (before BeforeRoot) step-doctype ∙ rooted c h
document (Element tag attributes i c) h = steps-one (StartTag tag attributes false) (markup_of i ++ (EndTag tag ∷ markup_of c)) (before BeforeDoctype) (at_elements (opened_at tag 0 ∷ []) [] (element_item None tag attributes ∷ []) false) (step-root-doctype tag attributes) ∙ root-rest tag attributes i c h.0 h.1
document (EmptyElement tag attributes c) h = steps-one (StartTag tag attributes true) (markup_of c) (before BeforeDoctype) (at_elements [] [] (element_item None tag attributes ∷ []) false) (step-empty-root-doctype tag attributes) ∙ misc c (element_item None tag attributes ∷ []) false h

-- Pieces that can be read are a document

-- the pieces close the open elements, from the innermost on, with contents in each
abbrev pub Closes : List Opened → List Markup → Type 0
Closes [] ps = (c : Contents) × IsMisc c × (ps ≡ markup_of c)
Closes (o ∷ outer) ps = (c : Contents) × (rest : List Markup) × IsContent c × (ps ≡ markup_of c ++ (EndTag o.tag ∷ rest)) × Closes outer rest

-- what one piece more says of what is behind it
abbrev pub Ended : State → Type 0
Ended s = s.phase ≡ Behind

next : {P : Type 0} (p : Markup) (ps : List Markup) (s f : State) (o : Option State) → step p s ≡ o → steps (p ∷ ps) s ≡ Some f → ((t : State) → o ≡ Some t → steps ps t ≡ Some f → P) → P
next p ps s f None q e k = let none : steps (p ∷ ps) s ≡ None = steps-refused p ps s q in absurd (cc)
next p ps s f (Some t) q e k = k t refl (sym (steps-one p ps s t q) ∙ e)

white-step : {P : Type 0} (t : Bool) (s u : State) → cond t (Some s) None ≡ Some u → (t ≡ true → s ≡ u → P) → P
white-step true s u e k = k refl (some-same s u e)
white-step false s u e k = absurd (cc e)

closes-outside : (ps : List Markup) (items : List Item) (deep : Bool) (f : State) → steps ps (at_elements [] [] items deep) ≡ Some f → Closes [] ps
unfolding step
closes-outside [] items deep f e = (Nothing, tt, refl)
closes-outside (StartTag tag attributes is_empty ∷ ps) items deep f e = next (StartTag tag attributes is_empty) ps (at_elements [] [] items deep) f None refl e (λ t q r. absurd (cc q))
closes-outside (EndTag tag ∷ ps) items deep f e = next (EndTag tag) ps (at_elements [] [] items deep) f None refl e (λ t q r. absurd (cc q))
closes-outside (Cdata bytes ∷ ps) items deep f e = next (Cdata bytes) ps (at_elements [] [] items deep) f None refl e (λ t q r. absurd (cc q))
closes-outside (Doctype ∷ ps) items deep f e = next Doctype ps (at_elements [] [] items deep) f None refl e (λ t q r. absurd (cc q))
closes-outside (Run bytes ∷ ps) items deep f e =
    let s = at_elements [] [] items deep in
    next (Run bytes) ps s f (cond (list_all is_white bytes) (Some s) None) refl e (λ t q r.
    white-step (list_all is_white bytes) s t q (λ w same.
    let h = closes-outside ps items deep f (subst (λ z. steps ps z ≡ Some f) (sym same) r) in
    (Text bytes h.0, (w, h.1), ap (λ z. Run bytes ∷ z) h.2)))
closes-outside (Remark ∷ ps) items deep f e =
    let s = at_elements [] [] items deep in
    next Remark ps s f (Some s) refl e (λ t q r.
    let h = closes-outside ps items deep f (subst (λ z. steps ps z ≡ Some f) (sym (some-same s t q)) r) in
    (Aside h.0, h.1, ap (λ z. Remark ∷ z) h.2))

Closes-start : (tag : List ℕ) (attributes : List Attribute) (n : ℕ) (o : Opened) (outer : List Opened) (ps : List Markup) → Closes (opened_at tag n ∷ (o ∷ outer)) ps → Closes (o ∷ outer) (StartTag tag attributes false ∷ ps)
Closes-start tag attributes n o outer ps (i, rest, hi, e, (c, rest2, hc, e2, h)) = (
  Element tag attributes i c,
  rest2,
  (hi, hc),
  ap (λ z. StartTag tag attributes false ∷ z) (e ∙ (ap (λ z. markup_of i ++ (EndTag tag ∷ z)) e2 ∙ sym (append_assoc (markup_of i) (EndTag tag ∷ markup_of c) (EndTag o.tag ∷ rest2)))),
  h,
)

-- the open elements are closed
closes : (ps : List Markup) (elements : List Opened) (text : List ℕ) (items : List Item) (deep : Bool) (f : State) → (elements ≡ [] → text ≡ []) → steps ps (at_elements elements text items deep) ≡ Some f → Ended f → Closes elements ps
unfolding step
closes ps [] text items deep f x e h = closes-outside ps items deep f (subst (λ z. steps ps (at_elements [] z items deep) ≡ Some f) (x refl) e)
closes [] (o ∷ outer) text items deep f x e h =
    let same : at_elements (o ∷ outer) text items deep ≡ f = some-same (at_elements (o ∷ outer) text items deep) f (sym (steps-none (at_elements (o ∷ outer) text items deep)) ∙ e) in
    let bad : Inside ≡ Behind = ap (λ (s : State). s.phase) same ∙ h in
    absurd (cc bad)
closes (StartTag tag attributes true ∷ ps) (o ∷ outer) text items deep f x e h =
    let items1 = items_with_text (o ∷ outer) text items in
    let s = at_elements (o ∷ outer) [] (items1 ++ element_item (Some o.number) tag attributes ∷ []) (deep || nat_le most_levels (length (o ∷ outer))) in
    let r : steps ps s ≡ Some f = sym (steps-one (StartTag tag attributes true) ps (at_elements (o ∷ outer) text items deep) s refl) ∙ e in
    let k = closes ps (o ∷ outer) [] (items1 ++ element_item (Some o.number) tag attributes ∷ []) (deep || nat_le most_levels (length (o ∷ outer))) f (λ z. refl) r h in
    (EmptyElement tag attributes k.0, k.1, k.2, ap (λ z. StartTag tag attributes true ∷ z) k.3, k.4)
closes (StartTag tag attributes false ∷ ps) (o ∷ outer) text items deep f x e h =
    let items1 = items_with_text (o ∷ outer) text items in
    let s = at_elements (opened_at tag (length items1) ∷ (o ∷ outer)) [] (items1 ++ element_item (Some o.number) tag attributes ∷ []) (deep || nat_le most_levels (length (o ∷ outer))) in
    let r : steps ps s ≡ Some f = sym (steps-one (StartTag tag attributes false) ps (at_elements (o ∷ outer) text items deep) s refl) ∙ e in
    Closes-start tag attributes (length items1) o outer ps (closes ps (opened_at tag (length items1) ∷ (o ∷ outer)) [] (items1 ++ element_item (Some o.number) tag attributes ∷ []) (deep || nat_le most_levels (length (o ∷ outer))) f (λ z. refl) r h)
closes (EndTag tag ∷ ps) (o ∷ outer) text items deep f x e h =
    let s = at_elements outer [] (items_with_text (o ∷ outer) text items) deep in
    next (EndTag tag) ps (at_elements (o ∷ outer) text items deep) f (cond (is_same tag o.tag) (Some s) None) refl e (λ t q r.
    white-step (is_same tag o.tag) s t q (λ w same.
    let k = closes ps outer [] (items_with_text (o ∷ outer) text items) deep f (λ z. refl) (subst (λ z. steps ps z ≡ Some f) (sym same) r) h in
    (Nothing, ps, tt, ap (λ z. EndTag z ∷ ps) (is_same-is tag o.tag w), k)))
closes (Run bytes ∷ ps) (o ∷ outer) text items deep f x e h =
    let s = at_elements (o ∷ outer) (text ++ read_references bytes) items deep in
    let r : steps ps s ≡ Some f = sym (steps-one (Run bytes) ps (at_elements (o ∷ outer) text items deep) s refl) ∙ e in
    let k = closes ps (o ∷ outer) (text ++ read_references bytes) items deep f (λ z. absurd (cc z)) r h in
    (Text bytes k.0, k.1, k.2, ap (λ z. Run bytes ∷ z) k.3, k.4)
closes (Cdata bytes ∷ ps) (o ∷ outer) text items deep f x e h =
    let s = at_elements (o ∷ outer) (text ++ bytes) items deep in
    let r : steps ps s ≡ Some f = sym (steps-one (Cdata bytes) ps (at_elements (o ∷ outer) text items deep) s refl) ∙ e in
    let k = closes ps (o ∷ outer) (text ++ bytes) items deep f (λ z. absurd (cc z)) r h in
    (Section bytes k.0, k.1, k.2, ap (λ z. Cdata bytes ∷ z) k.3, k.4)
closes (Remark ∷ ps) (o ∷ outer) text items deep f x e h =
    let s = at_elements (o ∷ outer) text items deep in
    let r : steps ps s ≡ Some f = sym (steps-one Remark ps s s refl) ∙ e in
    let k = closes ps (o ∷ outer) text items deep f (λ z. absurd (cc z)) r h in
    (Aside k.0, k.1, k.2, ap (λ z. Remark ∷ z) k.3, k.4)
closes (Doctype ∷ ps) (o ∷ outer) text items deep f x e h = next Doctype ps (at_elements (o ∷ outer) text items deep) f None refl e (λ t q r. absurd (cc q))

root-outside_element : (tag : List ℕ) (attributes : List Attribute) (ps : List Markup) (f : State) → steps ps (at_elements (opened_at tag 0 ∷ []) [] (element_item None tag attributes ∷ []) false) ≡ Some f → Ended f → (i c : Contents) × IsContent i × IsMisc c × (ps ≡ markup_of i ++ (EndTag tag ∷ markup_of c))
root-outside_element tag attributes ps f e h =
    let k = closes ps (opened_at tag 0 ∷ []) [] (element_item None tag attributes ∷ []) false f (λ z. refl) e h in
    (k.0, k.4.0, k.2, k.4.1, k.3 ∙ ap (λ z. markup_of k.0 ++ (EndTag tag ∷ z)) k.4.2)

abbrev pub IsRootedMarkup : List Markup → Type 0
IsRootedMarkup ps = (c : Contents) × IsRooted c × (ps ≡ markup_of c)

abbrev pub IsDocumentMarkup : List Markup → Type 0
IsDocumentMarkup ps = (c : Contents) × IsDocument c × (ps ≡ markup_of c)

read-rooted : (ps : List Markup) (f : State) → steps ps (before BeforeRoot) ≡ Some f → Ended f → IsRootedMarkup ps
unfolding step
read-rooted [] f e h =
    let same : before BeforeRoot ≡ f = some-same (before BeforeRoot) f (sym (steps-none (before BeforeRoot)) ∙ e) in
    let bad : BeforeRoot ≡ Behind = ap (λ (s : State). s.phase) same ∙ h in
    absurd (cc bad)
read-rooted (StartTag tag attributes true ∷ ps) f e h =
    let s = at_elements [] [] (element_item None tag attributes ∷ []) false in
    let k = closes-outside ps (element_item None tag attributes ∷ []) false f (sym (steps-one (StartTag tag attributes true) ps (before BeforeRoot) s refl) ∙ e) in
    (EmptyElement tag attributes k.0, k.1, ap (λ z. StartTag tag attributes true ∷ z) k.2)
read-rooted (StartTag tag attributes false ∷ ps) f e h =
    let s = at_elements (opened_at tag 0 ∷ []) [] (element_item None tag attributes ∷ []) false in
    let k = root-outside_element tag attributes ps f (sym (steps-one (StartTag tag attributes false) ps (before BeforeRoot) s refl) ∙ e) h in
    (Element tag attributes k.0 k.1, (k.2, k.3), ap (λ z. StartTag tag attributes false ∷ z) k.4)
read-rooted (EndTag tag ∷ ps) f e h = next (EndTag tag) ps (before BeforeRoot) f None refl e (λ t q r. absurd (cc q))
read-rooted (Cdata bytes ∷ ps) f e h = next (Cdata bytes) ps (before BeforeRoot) f None refl e (λ t q r. absurd (cc q))
read-rooted (Doctype ∷ ps) f e h = next Doctype ps (before BeforeRoot) f None refl e (λ t q r. absurd (cc q))
read-rooted (Run bytes ∷ ps) f e h =
    next (Run bytes) ps (before BeforeRoot) f (cond (list_all is_white bytes) (Some (before BeforeRoot)) None) refl e (λ t q r.
    white-step (list_all is_white bytes) (before BeforeRoot) t q (λ w same.
    let k = read-rooted ps f (subst (λ z. steps ps z ≡ Some f) (sym same) r) h in
    (Text bytes k.0, (w, k.1), ap (λ z. Run bytes ∷ z) k.2)))
read-rooted (Remark ∷ ps) f e h =
    let k = read-rooted ps f (sym (steps-one Remark ps (before BeforeRoot) (before BeforeRoot) refl) ∙ e) h in
    (Aside k.0, k.1, ap (λ z. Remark ∷ z) k.2)

-- pieces that can be read to the end are those of a document
pub read-document : (ps : List Markup) (f : State) → steps ps start_state ≡ Some f → Ended f → IsDocumentMarkup ps
unfolding step
read-document [] f e h =
    let same : before BeforeDoctype ≡ f = some-same (before BeforeDoctype) f (sym (steps-none (before BeforeDoctype)) ∙ e) in
    let bad : BeforeDoctype ≡ Behind = ap (λ (s : State). s.phase) same ∙ h in
    absurd (cc bad)
read-document (StartTag tag attributes true ∷ ps) f e h =
    let s = at_elements [] [] (element_item None tag attributes ∷ []) false in
    let k = closes-outside ps (element_item None tag attributes ∷ []) false f (sym (steps-one (StartTag tag attributes true) ps (before BeforeDoctype) s refl) ∙ e) in
    (EmptyElement tag attributes k.0, k.1, ap (λ z. StartTag tag attributes true ∷ z) k.2)
read-document (StartTag tag attributes false ∷ ps) f e h =
    let s = at_elements (opened_at tag 0 ∷ []) [] (element_item None tag attributes ∷ []) false in
    let k = root-outside_element tag attributes ps f (sym (steps-one (StartTag tag attributes false) ps (before BeforeDoctype) s refl) ∙ e) h in
    (Element tag attributes k.0 k.1, (k.2, k.3), ap (λ z. StartTag tag attributes false ∷ z) k.4)
read-document (EndTag tag ∷ ps) f e h = next (EndTag tag) ps (before BeforeDoctype) f None refl e (λ t q r. absurd (cc q))
read-document (Cdata bytes ∷ ps) f e h = next (Cdata bytes) ps (before BeforeDoctype) f None refl e (λ t q r. absurd (cc q))
read-document (Doctype ∷ ps) f e h =
    let k = read-rooted ps f (sym (steps-one Doctype ps (before BeforeDoctype) (before BeforeRoot) refl) ∙ e) h in
    (DocumentType k.0, k.1, ap (λ z. Doctype ∷ z) k.2)
read-document (Run bytes ∷ ps) f e h =
    next (Run bytes) ps (before BeforeDoctype) f (cond (list_all is_white bytes) (Some (before BeforeDoctype)) None) refl e (λ t q r.
    white-step (list_all is_white bytes) (before BeforeDoctype) t q (λ w same.
    let k = read-document ps f (subst (λ z. steps ps z ≡ Some f) (sym same) r) h in
    (Text bytes k.0, (w, k.1), ap (λ z. Run bytes ∷ z) k.2)))
read-document (Remark ∷ ps) f e h =
    let k = read-document ps f (sym (steps-one Remark ps (before BeforeDoctype) (before BeforeDoctype) refl) ∙ e) h in
    (Aside k.0, k.1, ap (λ z. Remark ∷ z) k.2)
