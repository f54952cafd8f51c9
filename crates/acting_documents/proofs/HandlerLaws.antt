-- The index of the handlers of a document.
use Rattle.std.proofs.Common.{◌≡◌, ◌∙◌, ℕ, Bool, true, false, cond, ◌&&◌, List, [], ◌∷◌, ◌++◌, refl, rules, sym, ap, ap₂}
use Rattle.std.specs.Prelude.{nat_eq, find, is_some, option_map, Option, Some, None}
use Rattle.std.specs.Map.{lookup}
use Rattle.std.proofs.lemmas.Bool.{eq-eqb, eqb-true, eqb-false, ne_eqb}
use Rattle.bml_bytes.specs.Words.{is_same}
use denote.Enum.Bare.{sameb, same_true}
use Rattle.document_load.specs.HandlerKinds.{handler_name}
use Rattle.document_load.specs.Scripts.{HandlerState}
use Rattle.document_load.specs.contracts.handler_kinds.HandlerKind.{the_type as the_kinds}
use Rattle.document_load.specs.declared.handler_kinds.HandlerKind.{HandlerKind}
use Rattle.document_load.specs.declared.handler_kinds.HandlerKind.TheVariants as kinds
use Rattle.acting_documents.specs.Documents.{handler_in, is_handler}
use Rattle.acting_documents.specs.devices.Handlers.{Adds, IsIndexOf, is_key}
use Rattle.acting_documents.specs.declared.handlers.HandlerKey.{HandlerKey}

-- ---- tests

and_first : (one other : Bool) → (one && other) ≡ true → one ≡ true
and_first true other e = refl
and_first false other e = absurd (cc e)

and_second : (one other : Bool) → (one && other) ≡ true → other ≡ true
and_second true other e = e
and_second false other e = absurd (cc e)

eqb_sym : (a b : ℕ) → nat_eq a b ≡ nat_eq b a
eqb_sym a b = by_test (nat_eq a b) refl
  where
    by_test : (t : Bool) → nat_eq a b ≡ t → nat_eq a b ≡ nat_eq b a
    by_test true e = e ∙ sym (eq-eqb b a (sym (eqb-true a b e)))
    by_test false e = e ∙ sym (ne_eqb b a (λ same. eqb-false a b e (sym same)))

-- handlers of one attribute are of one kind
same-kind : (one other : HandlerKind) → sameb the_kinds one other ≡ is_same (handler_name one) (handler_name other)
same-kind kinds.Load kinds.Load = refl
same-kind kinds.Load _ = refl
same-kind kinds.Unload kinds.Unload = refl
same-kind kinds.Unload _ = refl
same-kind kinds.KeyDown kinds.KeyDown = refl
same-kind kinds.KeyDown _ = refl
same-kind kinds.KeyUp kinds.KeyUp = refl
same-kind kinds.KeyUp _ = refl
same-kind kinds.Click kinds.Click = refl
same-kind kinds.Click _ = refl
same-kind kinds.Focus kinds.Focus = refl
same-kind kinds.Focus _ = refl
same-kind kinds.Blur kinds.Blur = refl
same-kind kinds.Blur _ = refl
same-kind kinds.Occur kinds.Occur = refl
same-kind kinds.Occur _ = refl

kind-is : (one other : HandlerKind) → is_same (handler_name one) (handler_name other) ≡ true → one ≡ other
kind-is one other e = same_true the_kinds (search rules) one other (same-kind one other ∙ e)

-- ---- the first of a kind

abbrev or_other : {A : Type 0} → Option A → Option A → Option A
or_other None other = other
or_other (Some x) other = Some x

by_test : {A : Type 0} (test : Bool) (x : A) (rest more other : Option A) → more ≡ or_other rest other → cond test (Some x) more ≡ or_other (cond test (Some x) rest) other
by_test true x rest more other e = refl
by_test false x rest more other e = e

lookup-last : {K : Type 0} (test : K → Bool) (entries : List (K × ℕ)) (e : K × ℕ) → lookup test (entries ++ e ∷ []) ≡ or_other (lookup test entries) (cond (test e.0) (Some e.1) None)
lookup-last test [] e = refl
lookup-last test (x ∷ entries) e = by_test (test x.0) x.1 (lookup test entries) (lookup test (entries ++ e ∷ [])) (cond (test e.0) (Some e.1) None) (lookup-last test entries e)

abbrev program_of : Option HandlerState → Option ℕ
program_of found = option_map (λ handler. handler.program) found

program_of-cond : (test : Bool) (handler : HandlerState) (found : Option HandlerState) → program_of (cond test (Some handler) found) ≡ cond test (Some handler.program) (program_of found)
program_of-cond true handler found = refl
program_of-cond false handler found = refl

program_of-last : (test : HandlerState → Bool) (handlers : List HandlerState) (handler : HandlerState)
    → program_of (find test (handlers ++ handler ∷ [])) ≡ or_other (program_of (find test handlers)) (cond (test handler) (Some handler.program) None)
program_of-last test [] handler = program_of-cond (test handler) handler None
program_of-last test (x ∷ handlers) handler =
    program_of-cond (test x) x (find test (handlers ++ handler ∷ []))
    ∙ by_test (test x) x.program (program_of (find test handlers)) (program_of (find test (handlers ++ handler ∷ []))) (cond (test handler) (Some handler.program) None) (program_of-last test handlers handler)
    ∙ ap (λ (o : Option ℕ). or_other o (cond (test handler) (Some handler.program) None)) (sym (program_of-cond (test x) x (find test handlers)))

handler_in-last : (handlers : List HandlerState) (handler : HandlerState) (node : ℕ) (kind : HandlerKind)
    → handler_in (handlers ++ handler ∷ []) node kind ≡ or_other (handler_in handlers node kind) (cond (is_handler node kind handler) (Some handler.program) None)
unfolding handler_in
handler_in-last handlers handler node kind = program_of-last (is_handler node kind) handlers handler

-- ---- the index

pub is_absent : {A : Type 0} (test : Bool) (o : Option A) → test ≡ is_some o → test ≡ false → o ≡ None
is_absent test None tells told = refl
is_absent test (Some x) tells told = absurd (cc (tells, told))

pub index-none : (places : List (HandlerKey × ℕ)) → places ≡ [] → IsIndexOf places []
unfolding handler_in
index-none places none node kind = ap (lookup (is_key node kind)) none

same_test : (key : HandlerKey) (handler : HandlerState) (node : ℕ) (kind : HandlerKind) → key.node.0 ≡ handler.node → key.kind ≡ handler.kind → is_key node kind key ≡ is_handler node kind handler
same_test key handler node kind node_is kind_is =
    ap (λ (n : ℕ). nat_eq node n && sameb the_kinds kind key.kind) node_is
    ∙ ap (λ (k : HandlerKind). nat_eq node handler.node && sameb the_kinds kind k) kind_is
    ∙ ap (λ (t : Bool). t && sameb the_kinds kind handler.kind) (eqb_sym node handler.node)
    ∙ ap (λ (t : Bool). nat_eq handler.node node && t) (same-kind kind handler.kind)

-- a kind that wasn't there
pub index-more : (places more : List (HandlerKey × ℕ)) (key : HandlerKey) (handler : HandlerState) → key.node.0 ≡ handler.node → key.kind ≡ handler.kind → more ≡ places ++ (key, handler.program) ∷ [] → Adds handler places more
index-more places more key handler node_is kind_is more_is handlers is node kind =
    ap (lookup (is_key node kind)) more_is
    ∙ lookup-last (is_key node kind) places (key, handler.program)
    ∙ ap (λ (o : Option ℕ). or_other o (cond (is_key node kind key) (Some handler.program) None)) (is node kind)
    ∙ ap (λ (t : Bool). or_other (handler_in handlers node kind) (cond t (Some handler.program) None)) (same_test key handler node kind node_is kind_is)
    ∙ sym (handler_in-last handlers handler node kind)

-- one that was there keeps its first handler
pub index-same : (places : List (HandlerKey × ℕ)) (key : HandlerKey) (handler : HandlerState) → key.node.0 ≡ handler.node → key.kind ≡ handler.kind → is_some (lookup (is_key key.node.0 key.kind) places) ≡ true → Adds handler places places
index-same places key handler node_is kind_is known handlers is node kind =
    is node kind ∙ sym (handler_in-last handlers handler node kind ∙ stays (is_handler node kind handler) refl (handler_in handlers node kind) refl)
  where
    stays : (test : Bool) → is_handler node kind handler ≡ test → (o : Option ℕ) → handler_in handlers node kind ≡ o → or_other o (cond test (Some handler.program) None) ≡ o
    stays test e (Some x) none = refl
    stays false e None none = refl
    stays true e None none =
        let node_same : key.node.0 ≡ node = node_is ∙ eqb-true handler.node node (and_first (nat_eq handler.node node) (is_same (handler_name kind) (handler_name handler.kind)) e) in
        let kind_same : key.kind ≡ kind = kind_is ∙ sym (kind-is kind handler.kind (and_second (nat_eq handler.node node) (is_same (handler_name kind) (handler_name handler.kind)) e)) in
        let there : is_some (lookup (is_key node kind) places) ≡ true =
        ap₂ (λ (n : ℕ) (k : HandlerKind). is_some (lookup (is_key n k) places)) (sym node_same) (sym kind_same) ∙ known in
        let absent : is_some (lookup (is_key node kind) places) ≡ false = ap is_some (is node kind ∙ none) in
        absurd (cc (there, absent))
