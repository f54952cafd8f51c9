-- The components of a PMT's streams, by the places of the streams.
use Rattle.std.proofs.Common.{◌≡◌, ℕ, zero, suc, ◌<◌, ◌≤◌, Bool, true, false, not, cond, nat_lt, eqb, List, [], ◌∷◌, ◌++◌, length, take, drop, Option, Some, None, refl, sym, ap, subst, ◌∙◌, append_assoc, arith, ◌⊎◌, inl, inr}
use Rattle.std.specs.Prelude.{slice_get, ◌&&◌, ◌||◌}
use Rattle.std.specs.List.{All, Contains}
use Rattle.std.proofs.Math.Seq.{take-append_seam}
use Rattle.std.proofs.lemmas.Bool.{ltb-true, lt-ltb, eqb-false, ne_eqb}
use Rattle.std.proofs.lemmas.List.{append-nil}
use Rattle.std.proofs.lemmas.List.Elements.{All-nil, All-cons, All-head, All-tail, Contains-push_cases}
use Rattle.psi_tables.specs.declared.components.Component.{Component}
use Rattle.psi_tables.specs.declared.pmt.PmtStream.{PmtStream}
use Rattle.psi_tables.specs.Components.{AreApart, component_of_stream, is_taken, components_of}
use Rattle.psi_tables.specs.Places.{TakenAt}
use Rattle.psi_tables.specs.Step.{with_next, with_option}
use Rattle.psi_tables.proofs.ComponentLemmas.{begins, goes_on, stays_small, is_done, taking}

-- the components taken, stream by stream
folded : List Component → List PmtStream → List Component
folded taken [] = taken
folded taken (s ∷ streams) = folded (with_option taken (component_of_stream s)) streams

taking-folded : (taken : List Component) (streams : List PmtStream) → length taken ≤ 16 → taking taken streams ≡ folded taken streams
unfolding folded
taking-folded taken [] few = sym (is_done taken (taking taken []) few refl)
taking-folded taken (s ∷ streams) few =
    goes_on taken s streams (taking taken (s ∷ streams)) refl
    ∙ taking-folded (with_option taken (component_of_stream s)) streams (stays_small taken (component_of_stream s) few)

is_folded : (streams : List PmtStream) → components_of streams ≡ folded [] streams
is_folded streams = begins streams ∙ taking-folded [] streams (omega arith)

folded-append : (taken : List Component) (xs ys : List PmtStream) → folded taken (xs ++ ys) ≡ folded (folded taken xs) ys
unfolding folded
folded-append taken [] ys = refl
folded-append taken (x ∷ xs) ys = folded-append (with_option taken (component_of_stream x)) xs ys

-- the components of the streams in front, and then the others
components-append : (xs ys : List PmtStream) → components_of (xs ++ ys) ≡ folded (components_of xs) ys
components-append xs ys = is_folded (xs ++ ys) ∙ folded-append [] xs ys ∙ ap (λ (taken : List Component). folded taken ys) (sym (is_folded xs))

-- what was taken stays in front

one_stays : (room : Bool) (taken : List Component) (c : Component) → (more : List Component) × (cond room (taken ++ c ∷ []) taken ≡ taken ++ more)
one_stays true taken c = (c ∷ [], refl)
one_stays false taken c = ([], sym (append-nil taken))

option_stays : (taken : List Component) (c : Option Component) → (more : List Component) × (with_option taken c ≡ taken ++ more)
option_stays taken None = ([], sym (append-nil taken))
option_stays taken (Some c) = one_stays (nat_lt (length taken) 16 && not (is_taken taken c)) taken c

stays : (taken : List Component) (streams : List PmtStream) → (more : List Component) × (folded taken streams ≡ taken ++ more)
unfolding folded
stays taken [] = ([], sym (append-nil taken))
stays taken (s ∷ streams) =
    let one = option_stays taken (component_of_stream s) in
    let rest = stays (with_option taken (component_of_stream s)) streams in
    (one.0 ++ rest.0, rest.1 ∙ ap (λ (front : List Component). front ++ rest.0) one.1 ∙ append_assoc taken one.0 rest.0)

-- new ones are apart from those taken

neither : (a b : Bool) → (a || b) ≡ false → (a ≡ false) × (b ≡ false)
neither true b e = absurd cc
neither false b e = (refl, e)

fresh_all : (taken : List Component) (c : Component) → is_taken taken c ≡ false → All (λ t. AreApart t c) taken
fresh_all [] c e = All-nil (λ t. AreApart t c)
fresh_all (x ∷ taken) c e =
    let p = neither (eqb x.tag c.tag || eqb x.pid c.pid) (is_taken taken c) e in
    let q = neither (eqb x.tag c.tag) (eqb x.pid c.pid) p.0 in
    All-cons (λ t. AreApart t c) x taken (eqb-false x.tag c.tag q.0, eqb-false x.pid c.pid q.1) (fresh_all taken c p.1)

all_fresh : (taken : List Component) (c : Component) → All (λ t. AreApart t c) taken → is_taken taken c ≡ false
all_fresh [] c h = refl
all_fresh (x ∷ taken) c h =
    let first = All-head (λ t. AreApart t c) x taken h in
    rw (ne_eqb x.tag c.tag first.0, ne_eqb x.pid c.pid first.1) (all_fresh taken c (All-tail (λ t. AreApart t c) x taken h))

with_new : (taken : List Component) (c : Component) → length taken < 16 → All (λ t. AreApart t c) taken → with_next taken c ≡ taken ++ c ∷ []
with_new taken c room apart = rw (lt-ltb _ _ room, all_fresh taken c apart) refl

-- places

behind : {A : Type 0} (xs : List A) (y : A) (ys : List A) → slice_get (xs ++ y ∷ ys) (length xs) ≡ Some y
behind [] y ys = refl
behind (x ∷ xs) y ys = behind xs y ys

abbrev found : {A : Type 0} → A → Option A
found x = Some x

same : {A : Type 0} (x y : A) → found x ≡ found y → x ≡ y
same x y e = cc

split : {A : Type 0} (xs : List A) (place : ℕ) (x : A) → slice_get xs place ≡ Some x → xs ≡ take place xs ++ x ∷ drop (suc place) xs
split [] place x e = absurd cc
split {A} (y ∷ xs) zero x e = ap (λ (first : A). first ∷ xs) (same y x e)
split {A} (y ∷ xs) (suc place) x e = ap (λ (rest : List A). y ∷ rest) (split xs place x e)

-- what is taken at a place stands behind what was taken before it
pub taken_stands : (streams : List PmtStream) (place : ℕ) (c : Component) → TakenAt streams place c → slice_get (components_of streams) (length (components_of (take place streams))) ≡ Some c
unfolding folded
taken_stands streams place c at_place =
    let front : List PmtStream = take place streams in
    let rest : List PmtStream = drop (suc place) streams in
    let taken : List Component = components_of front in
    let new : with_option taken (component_of_stream at_place.stream) ≡ taken ++ c ∷ [] = ap (with_option taken) at_place.brings ∙ with_new taken c at_place.room at_place.apart in
    let more = stays (taken ++ c ∷ []) rest in
    let whole : components_of streams ≡ taken ++ (c ∷ more.0) =
    ap components_of (split streams place at_place.stream at_place.stands) ∙ components-append front (at_place.stream ∷ rest)
    ∙ ap (λ (t : List Component). folded t rest) new ∙ more.1 ∙ append_assoc taken (c ∷ []) more.0 in
    ap (λ (all : List Component). slice_get all (length taken)) whole ∙ behind taken c more.0

-- what is a component was taken at a place

taken_now : (front rest streams : List PmtStream) (s : PmtStream) (d : Component) (c : Component) → streams ≡ front ++ s ∷ rest → component_of_stream s ≡ Some d
    → (room fresh : Bool) → nat_lt (length (components_of front)) 16 ≡ room → is_taken (components_of front) d ≡ fresh
    → Contains (cond (room && not fresh) (components_of front ++ d ∷ []) (components_of front)) c → Contains (components_of front) c ⊎ ((place : ℕ) × TakenAt streams place c)
taken_now front rest streams s d c e brings true true room fresh h = inl h
taken_now front rest streams s d c e brings false true room fresh h = inl h
taken_now front rest streams s d c e brings false false room fresh h = inl h
taken_now front rest streams s d c e brings true false room fresh h = by (Contains-push_cases (components_of front) d c h)
  where
    at_end : take (length front) streams ≡ front
    at_end = ap (take (length front)) e ∙ take-append_seam front (s ∷ rest)

    stands : slice_get streams (length front) ≡ Some s
    stands = ap (λ (all : List PmtStream). slice_get all (length front)) e ∙ behind front s rest

    here : TakenAt streams (length front) d
    here = record {
      stream = s;
      stands = stands;
      brings = brings;
      room = subst (λ (xs : List PmtStream). length (components_of xs) < 16) (sym at_end) (ltb-true _ _ room);
      apart = subst (λ (xs : List PmtStream). All (λ t. AreApart t d) (components_of xs)) (sym at_end) (fresh_all (components_of front) d fresh);
    }

    by : Contains (components_of front) c ⊎ (d ≡ c) → Contains (components_of front) c ⊎ ((place : ℕ) × TakenAt streams place c)
    by (inl h) = inl h
    by (inr same_one) = inr (length front, subst (TakenAt streams (length front)) same_one here)

taken_option : (front rest streams : List PmtStream) (s : PmtStream) (o : Option Component) (c : Component) → streams ≡ front ++ s ∷ rest → component_of_stream s ≡ o → Contains (with_option (components_of front) o) c
    → Contains (components_of front) c ⊎ ((place : ℕ) × TakenAt streams place c)
taken_option front rest streams s None c e brings h = inl h
taken_option front rest streams s (Some d) c e brings h =
    taken_now front rest streams s d c e brings (nat_lt (length (components_of front)) 16) (is_taken (components_of front) d) refl refl h

one_more : (front : List PmtStream) (s : PmtStream) → components_of (front ++ s ∷ []) ≡ with_option (components_of front) (component_of_stream s)
unfolding folded
one_more front s = components-append front (s ∷ [])

taken_within : (front rest streams : List PmtStream) (c : Component) → streams ≡ front ++ rest → Contains (folded (components_of front) rest) c → Contains (components_of front) c ⊎ ((place : ℕ) × TakenAt streams place c)
unfolding folded
taken_within front [] streams c e h = inl h
taken_within front (s ∷ rest) streams c e h =
    let longer : streams ≡ (front ++ s ∷ []) ++ rest = e ∙ sym (append_assoc front (s ∷ []) rest) in
    by (taken_within (front ++ s ∷ []) rest streams c longer (subst (λ (taken : List Component). Contains (folded taken rest) c) (sym (one_more front s)) h))
  where
    by : Contains (components_of (front ++ s ∷ [])) c ⊎ ((place : ℕ) × TakenAt streams place c) → Contains (components_of front) c ⊎ ((place : ℕ) × TakenAt streams place c)
    by (inl h) = taken_option front rest streams s (component_of_stream s) c e refl (subst (λ (taken : List Component). Contains taken c) (one_more front s) h)
    by (inr found_it) = inr found_it

pub taken_somewhere : (streams : List PmtStream) (c : Component) → Contains (components_of streams) c → (place : ℕ) × TakenAt streams place c
unfolding folded
taken_somewhere streams c h = by (taken_within [] streams streams c refl (subst (λ (all : List Component). Contains all c) (is_folded streams ∙ sym (ap (λ (taken : List Component). folded taken streams) (is_folded []))) h))
  where
    nothing : Contains (components_of []) c → (place : ℕ) × TakenAt streams place c
    nothing h = let none = subst (λ (all : List Component). Contains all c) (is_folded []) h in absurd (omega (arith, none.1))

    by : Contains (components_of []) c ⊎ ((place : ℕ) × TakenAt streams place c) → (place : ℕ) × TakenAt streams place c
    by (inl h) = nothing h
    by (inr found_it) = found_it
