-- How far a document is read, what stops the reading, and that bytes stand for one tree.
use Rattle.std.proofs.Common.{◌≡◌, ◌≢◌, ℕ, true, false, List, [], ◌∷◌, ◌++◌, Some, None, refl, sym, ◌∙◌, ap, subst, append_assoc, append-nil}
use Rattle.std.specs.Prelude.{option_and_then}
use Rattle.dom_tree.specs.Nested.{Nested}
use Rattle.bml_reader.specs.Markup.{Markup, IsMarkup, Spells}
use Rattle.bml_reader.specs.Markup.Markup.{StartTag, EndTag, Run, Cdata, Remark, Doctype}
use Rattle.bml_reader.specs.Grammar.{Contents, markup_of, tree_of, Reads}
use Rattle.bml_reader.specs.Grammar.Contents.{Nothing, Text, Section, Aside, DocumentType, Element, EmptyElement}
use Rattle.bml_reader.specs.devices.Lexing.{Found, found, markup_at}
use Rattle.bml_reader.specs.devices.Machine.{State, start_state, step, steps}
use Rattle.bml_reader.specs.declared.phases.Phase.TheVariants.{Behind}
use Rattle.bml_reader.proofs.ByteLemmas.{some-same}
use Rattle.bml_reader.proofs.MarkupLemmas.{markup_at-markup, markup_at-is, markup_at-empty}
use Rattle.bml_reader.proofs.MachineLemmas.{steps-none, steps-one, steps-refused, steps-append}
use Rattle.bml_reader.proofs.DocumentLemmas.{behind_tree, document, read-document}

-- The first piece of what is spelled

found-markup : (p : Markup) (bytes spelled more : List ℕ) → bytes ≡ spelled ++ more → IsMarkup p spelled more → markup_at bytes ≡ Some (found p more)
found-markup p bytes spelled more e h = ap markup_at e ∙ markup_at-markup p spelled more h

no-markup : (p : Markup) (ps : List Markup) (bytes : List ℕ) → Spells (p ∷ ps) bytes → markup_at bytes ≡ None → ⊥
no-markup p ps bytes (spelled, more, e, h, s) n = let f = found-markup p bytes spelled more e h in cc

first-markup : {P : Type 0} (p q : Markup) (ps : List Markup) (bytes rest : List ℕ) → Spells (p ∷ ps) bytes → markup_at bytes ≡ Some (found q rest) → (p ≡ q → Spells ps rest → P) → P
first-markup p q ps bytes rest (spelled, more, e, h, s) f k =
    let same : found p more ≡ found q rest = some-same (found p more) (found q rest) (sym (found-markup p bytes spelled more e h) ∙ f) in
    k (ap (λ (x : Found Markup). x.it) same) (subst (Spells ps) (ap (λ (x : Found Markup). x.rest) same) s)

-- Bytes are spelled by one list of pieces

pub one-list : (ps qs : List Markup) (bytes : List ℕ) → Spells ps bytes → Spells qs bytes → ps ≡ qs
one-list [] [] bytes a b = refl
one-list [] (q ∷ qs) bytes a b = absurd (no-markup q qs bytes b (ap markup_at a ∙ markup_at-empty))
one-list (p ∷ ps) [] bytes a b = absurd (no-markup p ps bytes a (ap markup_at b ∙ markup_at-empty))
one-list (p ∷ ps) (q ∷ qs) bytes (spelled, more, e, h, s) b =
    first-markup q p qs bytes more b (found-markup p bytes spelled more e h) (λ same r. ap (λ z. z ∷ ps) (sym same) ∙ ap (λ z. q ∷ z) (one-list ps qs more s r))

-- Pieces are those of one syntax

-- contents with other contents behind them
abbrev joined : Contents → Contents → Contents
joined Nothing d = d
joined (Text bytes c) d = Text bytes (joined c d)
joined (Section bytes c) d = Section bytes (joined c d)
joined (Aside c) d = Aside (joined c d)
joined (DocumentType c) d = DocumentType (joined c d)
joined (Element tag attributes i c) d = Element tag attributes i (joined c d)
joined (EmptyElement tag attributes c) d = EmptyElement tag attributes (joined c d)

joined-nothing : (c : Contents) → joined c Nothing ≡ c
joined-nothing Nothing = refl
joined-nothing (Text bytes c) = ap (Text bytes) (joined-nothing c)
joined-nothing (Section bytes c) = ap (Section bytes) (joined-nothing c)
joined-nothing (Aside c) = ap Aside (joined-nothing c)
joined-nothing (DocumentType c) = ap DocumentType (joined-nothing c)
joined-nothing (Element tag attributes i c) = ap (Element tag attributes i) (joined-nothing c)
joined-nothing (EmptyElement tag attributes c) = ap (EmptyElement tag attributes) (joined-nothing c)

-- one piece in front of contents that are parted by end tags
abbrev put : Markup → List Contents → List Contents
put (EndTag tag) stack = Nothing ∷ stack
put (StartTag tag attributes true) [] = []
put (StartTag tag attributes true) (c ∷ more) = EmptyElement tag attributes c ∷ more
put (StartTag tag attributes false) [] = []
put (StartTag tag attributes false) (i ∷ []) = []
put (StartTag tag attributes false) (i ∷ c ∷ more) = Element tag attributes i c ∷ more
put (Run bytes) [] = []
put (Run bytes) (c ∷ more) = Text bytes c ∷ more
put (Cdata bytes) [] = []
put (Cdata bytes) (c ∷ more) = Section bytes c ∷ more
put Remark [] = []
put Remark (c ∷ more) = Aside c ∷ more
put Doctype [] = []
put Doctype (c ∷ more) = DocumentType c ∷ more

abbrev sorted : List Markup → List Contents
sorted [] = Nothing ∷ []
sorted (p ∷ ps) = put p (sorted ps)

sorted-markup : (c d : Contents) (more : List Contents) (ps : List Markup) → sorted ps ≡ d ∷ more → sorted (markup_of c ++ ps) ≡ joined c d ∷ more
sorted-markup Nothing d more ps e = e
sorted-markup (Text bytes c) d more ps e = ap (put (Run bytes)) (sorted-markup c d more ps e)
sorted-markup (Section bytes c) d more ps e = ap (put (Cdata bytes)) (sorted-markup c d more ps e)
sorted-markup (Aside c) d more ps e = ap (put Remark) (sorted-markup c d more ps e)
sorted-markup (DocumentType c) d more ps e = ap (put Doctype) (sorted-markup c d more ps e)
sorted-markup (Element tag attributes i c) d more ps e =
    let behind : sorted (EndTag tag ∷ (markup_of c ++ ps)) ≡ Nothing ∷ (joined c d ∷ more) = ap (λ z. Nothing ∷ z) (sorted-markup c d more ps e) in
    let all : sorted (markup_of i ++ (EndTag tag ∷ (markup_of c ++ ps))) ≡ i ∷ (joined c d ∷ more) = sorted-markup i Nothing (joined c d ∷ more) (EndTag tag ∷ (markup_of c ++ ps)) behind ∙ ap (λ z. z ∷ (joined c d ∷ more)) (joined-nothing i) in
    ap (λ z. put (StartTag tag attributes false) (sorted z)) (append_assoc (markup_of i) (EndTag tag ∷ markup_of c) ps) ∙ ap (put (StartTag tag attributes false)) all
sorted-markup (EmptyElement tag attributes c) d more ps e = ap (put (StartTag tag attributes true)) (sorted-markup c d more ps e)

sorted-alone : (c : Contents) → sorted (markup_of c) ≡ c ∷ []
sorted-alone c = ap sorted (sym (append-nil (markup_of c))) ∙ (sorted-markup c Nothing [] [] refl ∙ ap (λ z. z ∷ []) (joined-nothing c))

one-syntax : (c d : Contents) → markup_of c ≡ markup_of d → c ≡ d
one-syntax c d e = let same : c ∷ [] ≡ d ∷ [] = sym (sorted-alone c) ∙ (ap sorted e ∙ sorted-alone d) in cc

-- bytes stand for one tree
pub one-tree : (bytes : List ℕ) (one other : Nested) → Reads bytes one → Reads bytes other → one ≡ other
one-tree bytes one other a b =
    a.stands_for ∙ (ap tree_of (one-syntax a.document b.document (one-list (markup_of a.document) (markup_of b.document) bytes a.spelled b.spelled)) ∙ sym b.stands_for)

-- How far the bytes are read

-- once these pieces are read, what is left to read is the rest
pub record Reaches (bytes : List ℕ) (now : State) (rest : List ℕ) : Type 0 where
  pub done : List Markup
  pub taken : steps done start_state ≡ Some now
  pub on : (ps : List Markup) → Spells ps rest → Spells (done ++ ps) bytes
  pub back : (ps : List Markup) → Spells ps bytes → (more : List Markup) × (ps ≡ done ++ more) × Spells more rest

pub Reaches-start : (bytes : List ℕ) → Reaches bytes start_state bytes
Reaches-start bytes = record { done = []; taken = steps-none start_state; on = (λ ps h. h); back = (λ ps h. (ps, refl, h)) }

spells-front : (p : Markup) (ps : List Markup) (rest behind : List ℕ) → markup_at rest ≡ Some (found p behind) → Spells ps behind → Spells (p ∷ ps) rest
spells-front p ps rest behind e h = let a = markup_at-is rest (found p behind) e in (a.spelled, behind, a.is_it, a.is_markup, h)

further-back : (done : List Markup) (p : Markup) (rest behind : List ℕ) (ps more : List Markup) → markup_at rest ≡ Some (found p behind) → ps ≡ done ++ more → Spells more rest → (further : List Markup) × (ps ≡ (done ++ p ∷ []) ++ further) × Spells further behind
further-back done p rest behind ps [] e q h = absurd (let n : markup_at rest ≡ None = ap markup_at h ∙ markup_at-empty in cc)
further-back done p rest behind ps (r ∷ more) e q h = first-markup r p more rest behind h e (λ same s.
    (more, q ∙ (ap (λ z. done ++ (z ∷ more)) same ∙ sym (append_assoc done (p ∷ []) more)), s))

pub Reaches-step : (bytes : List ℕ) (now next : State) (rest behind : List ℕ) (p : Markup) → Reaches bytes now rest → markup_at rest ≡ Some (found p behind) → step p now ≡ Some next → Reaches bytes next behind
Reaches-step bytes now next rest behind p r e t = record {
  done = r.done ++ p ∷ [];
  taken = steps-append r.done (p ∷ []) start_state ∙ (ap (option_and_then (steps (p ∷ []))) r.taken ∙ (steps-one p [] now next t ∙ steps-none next));
  on = (λ ps h. subst (λ z. Spells z bytes) (sym (append_assoc r.done (p ∷ []) ps)) (r.on (p ∷ ps) (spells-front p ps rest behind e h)));
  back = (λ ps h. let b = r.back ps h in further-back r.done p rest behind ps b.0 e b.1 b.2);
}

-- what is left of a document that the bytes are
left-of : (bytes : List ℕ) (now : State) (rest : List ℕ) (tree : Nested) → Reaches bytes now rest → Reads bytes tree → (more : List Markup) × (steps more now ≡ Some (behind_tree tree)) × Spells more rest
left-of bytes now rest tree r h =
    let b = r.back (markup_of h.document) h.spelled in
    let whole : steps (markup_of h.document) start_state ≡ Some (behind_tree tree) = document h.document h.is_document ∙ ap (λ z. Some (behind_tree z)) (sym h.stands_for) in
    let split : steps (markup_of h.document) start_state ≡ steps b.0 now = ap (λ z. steps z start_state) b.1 ∙ (steps-append r.done b.0 start_state ∙ ap (option_and_then (steps b.0)) r.taken) in
    (b.0, sym split ∙ whole, b.2)

stopped-markup-by : (more : List Markup) (rest : List ℕ) → Spells more rest → rest ≢ [] → markup_at rest ≡ None → ⊥
stopped-markup-by [] rest h n e = n h
stopped-markup-by (p ∷ more) rest h n e = no-markup p more rest h e

-- no piece stands there
pub stopped-markup : (bytes : List ℕ) (now : State) (rest : List ℕ) (tree : Nested) → Reaches bytes now rest → rest ≢ [] → markup_at rest ≡ None → Reads bytes tree → ⊥
stopped-markup bytes now rest tree r n e h = let l = left-of bytes now rest tree r h in stopped-markup-by l.0 rest l.2 n e

stopped-step-by : (more : List Markup) (now f : State) (rest behind : List ℕ) (p : Markup) → Spells more rest → steps more now ≡ Some f → markup_at rest ≡ Some (found p behind) → step p now ≡ None → ⊥
stopped-step-by [] now f rest behind p h s e t = let n : markup_at rest ≡ None = ap markup_at h ∙ markup_at-empty in cc
stopped-step-by (q ∷ more) now f rest behind p h s e t = first-markup q p more rest behind h e (λ same k.
    let n : steps (q ∷ more) now ≡ None = ap (λ z. steps (z ∷ more) now) same ∙ steps-refused p more now t in cc)

-- the piece can't stand there
pub stopped-step : (bytes : List ℕ) (now : State) (rest behind : List ℕ) (p : Markup) (tree : Nested) → Reaches bytes now rest → markup_at rest ≡ Some (found p behind) → step p now ≡ None → Reads bytes tree → ⊥
stopped-step bytes now rest behind p tree r e t h = let l = left-of bytes now rest tree r h in stopped-step-by l.0 now (behind_tree tree) rest behind p l.2 l.1 e t

stopped-end-by : (more : List Markup) (now f : State) (rest : List ℕ) → rest ≡ [] → Spells more rest → steps more now ≡ Some f → now ≡ f
stopped-end-by [] now f rest e h s = some-same now f (sym (steps-none now) ∙ s)
stopped-end-by (p ∷ more) now f rest e h s = absurd (no-markup p more rest h (ap markup_at e ∙ markup_at-empty))

-- at the end all that is known is that of the tree
pub reached-end : (bytes : List ℕ) (now : State) (rest : List ℕ) (tree : Nested) → Reaches bytes now rest → rest ≡ [] → Reads bytes tree → now ≡ behind_tree tree
reached-end bytes now rest tree r e h = let l = left-of bytes now rest tree r h in stopped-end-by l.0 now (behind_tree tree) rest e l.2 l.1

-- and behind the root there is one
pub reached-tree : (bytes : List ℕ) (now : State) (rest : List ℕ) → Reaches bytes now rest → rest ≡ [] → now.phase ≡ Behind → (tree : Nested) × Reads bytes tree × (now ≡ behind_tree tree)
reached-tree bytes now rest r e h =
    let k = read-document r.done now r.taken h in
    let all : Spells (r.done ++ []) bytes = r.on [] e in
    let spelled : Spells (markup_of k.0) bytes = subst (λ z. Spells z bytes) (append-nil r.done ∙ k.2) all in
    let reads : Reads bytes (tree_of k.0) = record { document = k.0; is_document = k.1; spelled = spelled; stands_for = refl } in
    (tree_of k.0, reads, reached-end bytes now rest (tree_of k.0) r e reads)
