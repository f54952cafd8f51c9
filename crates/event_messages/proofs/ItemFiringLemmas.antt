-- The version that is found for a group and an id, once an item fired for messages.
use Rattle.std.proofs.Common.{◌≡◌, ℕ, nat_eq, Bool, true, false, ◌&&◌, cond, List, [], ◌∷◌, inl, inr, Option, Some, None, refl, sym, ap, ◌∙◌}
use Rattle.std.specs.Prelude.{◌⊎◌, All, fold}
use Rattle.std.specs.Map.{lookup}
use Rattle.std.proofs.lemmas.Bool.{eqb-true, eq-eqb, and_parts, and_from}
use Rattle.std.proofs.lemmas.List.Elements.{All-nil, All-cons, All-head, All-tail}
use Rattle.std.proofs.lemmas.List.Sums.{fold-append}
use Rattle.std.proofs.lemmas.Option.{same_Some}
use Rattle.event_messages.specs.declared.messages.Message.{Message}
use Rattle.event_messages.specs.ItemFirings.{AreAlike, IsLastAlike, KeptFirings, is_key, with_firing}

-- ---- numbers side by side

abbrev same_pair : (a b c d : ℕ) → Bool
same_pair a b c d = nat_eq a c && nat_eq b d

pair-is : (a b c d : ℕ) → same_pair a b c d ≡ true → (a ≡ c) × (b ≡ d)
pair-is a b c d e = let parts = and_parts _ _ e in (eqb-true _ _ parts.0, eqb-true _ _ parts.1)

is-pair : (a b c d : ℕ) → a ≡ c → b ≡ d → same_pair a b c d ≡ true
is-pair a b c d e f = and_from _ _ (eq-eqb _ _ e) (eq-eqb _ _ f)

same-tests : (s t : Bool) → (s ≡ true → t ≡ true) → (t ≡ true → s ≡ true) → s ≡ t
same-tests true true f g = refl
same-tests true false f g = sym (f refl)
same-tests false true f g = g refl
same-tests false false f g = refl

pair-sym : (a b c d : ℕ) → same_pair a b c d ≡ same_pair c d a b
pair-sym a b c d =
    same-tests (same_pair a b c d) (same_pair c d a b)
    (λ e. let is = pair-is a b c d e in is-pair c d a b (sym is.0) (sym is.1))
    (λ e. let is = pair-is c d a b e in is-pair a b c d (sym is.0) (sym is.1))

pub twice : {A : Type 0} (test : Bool) (x y z : A) → cond test x z ≡ cond test x (cond test y z)
twice true x y z = refl
twice false x y z = refl

pub turn : {A : Type 0} (s t : Bool) (x y z : A) → (s ≡ true → t ≡ true → x ≡ y) → cond s x (cond t y z) ≡ cond t y (cond s x z)
turn true true x y z same = same refl refl
turn true false x y z same = refl
turn false true x y z same = refl
turn false false x y z same = refl

-- ---- one firing more

pub lookup-with_firing : (message : Message) (kept : KeptFirings) (group id : ℕ)
    → lookup (is_key group id) (with_firing message kept) ≡ cond (nat_eq message.group group && nat_eq message.id id) (Some message.version) (lookup (is_key group id) kept)
lookup-with_firing message [] group id = ap (λ test. cond test (Some message.version) None) (pair-sym group id message.group message.id)
lookup-with_firing message ((key, version) ∷ kept) group id = by (is_key message.group message.id key) refl (lookup-with_firing message kept group id)
  where
    asked : Bool
    asked = nat_eq message.group group && nat_eq message.id id

    by : (test : Bool) → is_key message.group message.id key ≡ test
        → lookup (is_key group id) (with_firing message kept) ≡ cond asked (Some message.version) (lookup (is_key group id) kept)
        → lookup (is_key group id) (cond test ((key, message.version) ∷ kept) ((key, version) ∷ with_firing message kept)) ≡ cond asked (Some message.version) (cond (is_key group id key) (Some version) (lookup (is_key group id) kept))
    by true e rest =
        let is = pair-is message.group message.id key.group key.id e in
        let test : is_key group id key ≡ asked = ap (λ (g : ℕ). same_pair group id g key.id) (sym is.0) ∙ ap (λ (i : ℕ). same_pair group id message.group i) (sym is.1) ∙ pair-sym group id message.group message.id in
        ap (λ (t : Bool). cond t (Some message.version) (lookup (is_key group id) kept)) test
        ∙ twice asked (Some message.version) (Some version) (lookup (is_key group id) kept)
        ∙ ap (λ (t : Bool). cond asked (Some message.version) (cond t (Some version) (lookup (is_key group id) kept))) (sym test)
    by false e rest =
        ap (cond (is_key group id key) (Some version)) rest
        ∙ turn (is_key group id key) asked (Some version) (Some message.version) (lookup (is_key group id) kept) (λ f g. absurd (both f g))
      where
        both : is_key group id key ≡ true → asked ≡ true → ⊥
        both f g =
            let one = pair-is group id key.group key.id f in
            let other = pair-is message.group message.id group id g in
            let yes = is-pair message.group message.id key.group key.id (other.0 ∙ one.0) (other.1 ∙ one.1) in
            absurd cc

abbrev pub step : KeptFirings → Message → KeptFirings
step kept message = with_firing message kept

-- the version that is found for a message
abbrev pub version_for : Message → KeptFirings → Option ℕ
version_for message kept = lookup (is_key message.group message.id) kept

pub alike-test : (one other : Message) → AreAlike one other → (nat_eq one.group other.group && nat_eq one.id other.id) ≡ true
alike-test one other are = is-pair one.group one.id other.group other.id are.0 are.1

other-test : (one other : Message) → ¬ AreAlike one other → (nat_eq one.group other.group && nat_eq one.id other.id) ≡ false
other-test one other are = by (nat_eq one.group other.group && nat_eq one.id other.id) refl
  where
    by : (test : Bool) → (nat_eq one.group other.group && nat_eq one.id other.id) ≡ test → test ≡ false
    by true e = absurd (are (pair-is one.group one.id other.group other.id e))
    by false e = refl

pub for-alike : (message one : Message) (kept : KeptFirings) → AreAlike one message → version_for message (with_firing one kept) ≡ Some one.version
for-alike message one kept are =
    lookup-with_firing one kept message.group message.id ∙ ap (λ (t : Bool). cond t (Some one.version) (version_for message kept)) (alike-test one message are)

pub for-other : (message one : Message) (kept : KeptFirings) → ¬ AreAlike one message → version_for message (with_firing one kept) ≡ version_for message kept
for-other message one kept are =
    lookup-with_firing one kept message.group message.id ∙ ap (λ (t : Bool). cond t (Some one.version) (version_for message kept)) (other-test one message are)

-- ---- firings in turn

abbrev pub IsOther : Message → Message → Type 0
IsOther message other = ¬ AreAlike other message

abbrev pub AreOthers : Message → List Message → Type 0
AreOthers message messages = All (IsOther message) messages

for-others : (message : Message) (kept : KeptFirings) (messages : List Message) → AreOthers message messages → version_for message (fold step kept messages) ≡ version_for message kept
for-others message kept [] others = refl
for-others message kept (one ∷ messages) others =
    for-others message (with_firing one kept) messages (All-tail (IsOther message) one messages others) ∙ for-other message one kept (All-head (IsOther message) one messages others)

pub for-last : (message : Message) (kept : KeptFirings) (messages : List Message) (last : Message) → IsLastAlike message messages last → version_for message (fold step kept messages) ≡ Some last.version
for-last message kept messages last is =
    ap (λ all. version_for message (fold step kept all)) is.laid
    ∙ ap (version_for message) (fold-append step kept is.before (last ∷ is.behind))
    ∙ for-others message (with_firing last (fold step kept is.before)) is.behind is.others
    ∙ for-alike message last (fold step kept is.before) is.alike

-- where a version is found, it is that of the last message, or the one from before
abbrev pub Last : Message → List Message → ℕ → Type 0
Last message messages version = (last : Message) × IsLastAlike message messages last × (last.version ≡ version)

last-more : (message one : Message) (messages : List Message) (version : ℕ) → Last message messages version → Last message (one ∷ messages) version
last-more message one messages version (last, is, e) =
    (last, record { before = one ∷ is.before; behind = is.behind; laid = ap (λ rest. one ∷ rest) is.laid; alike = is.alike; others = is.others }, e)

pub last-for : (message : Message) (kept : KeptFirings) (messages : List Message) (version : ℕ) → version_for message (fold step kept messages) ≡ Some version
    → Last message messages version ⊎ ((version_for message kept ≡ Some version) × AreOthers message messages)
last-for message kept [] version e = inr (e, All-nil (IsOther message))
last-for message kept (one ∷ messages) version e = behind (last-for message (with_firing one kept) messages version e)
  where
    by : (test : Bool) → (nat_eq one.group message.group && nat_eq one.id message.id) ≡ test → version_for message (with_firing one kept) ≡ Some version → AreOthers message messages
        → Last message (one ∷ messages) version ⊎ ((version_for message kept ≡ Some version) × AreOthers message (one ∷ messages))
    by true t f others =
        let are = pair-is one.group one.id message.group message.id t in
        inl (one, record { before = []; behind = messages; laid = refl; alike = are; others = others }, same_Some one.version version (sym (for-alike message one kept are) ∙ f))
    by false t f others = inr (sym (for-other message one kept apart) ∙ f, All-cons (IsOther message) one messages apart others)
      where
        apart : ¬ AreAlike one message
        apart are = let yes = alike-test one message are in absurd cc

    behind : Last message messages version ⊎ ((version_for message (with_firing one kept) ≡ Some version) × AreOthers message messages)
        → Last message (one ∷ messages) version ⊎ ((version_for message kept ≡ Some version) × AreOthers message (one ∷ messages))
    behind (inl found) = inl (last-more message one messages version found)
    behind (inr (f, others)) = by (nat_eq one.group message.group && nat_eq one.id message.id) refl f others
