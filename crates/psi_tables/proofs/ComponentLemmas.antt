-- Taking the components of a PMT's streams one after the other, and comparing maps.
use Rattle.std.proofs.Common.{◌≡◌, ℕ, zero, suc, ◌+◌, ◌≤◌, ◌<◌, Bool, true, false, not, cond, nat_lt, eqb, List, [], ◌∷◌, ◌++◌, length, get_or, take, drop, Option, Some, None, refl, sym, ap, subst, ◌∙◌, append_assoc, arith, ◌⊎◌, inl, inr}
use Rattle.std.specs.Prelude.{find, option_map, ◌&&◌}
use Rattle.std.specs.List.{filter_map, cons_option}
use Rattle.std.proofs.lemmas.Bool.{ltb-false, ltb-true, eqb-true, eq-eqb, and_parts, and_from}
use Rattle.std.proofs.lemmas.List.{append-nil, take-append-le, length-append}
use Rattle.std.proofs.Math.Seq.{drop-cons}
use Rattle.psi_tables.specs.declared.components.Component.{Component}
use Rattle.psi_tables.specs.declared.pmt.PmtStream.{PmtStream}
use Rattle.psi_tables.specs.Components.{component_of_stream, is_taken, distinct_behind, components_of, pid_in, AreSameMap}
use Rattle.psi_tables.specs.Step.{with_next, with_option, is_same_pid, agree_on}

-- the components taken, and those still to take
abbrev pub taking : List Component → List PmtStream → List Component
taking taken streams = take 16 (taken ++ distinct_behind taken (filter_map component_of_stream streams))

pub begins : (streams : List PmtStream) → components_of streams ≡ taking [] streams
unfolding components_of
begins streams = refl

one_more : (room fresh : Bool) (taken : List Component) (c : Component) (cs : List Component) → nat_lt (length taken) 16 ≡ room → is_taken taken c ≡ fresh
    → take 16 (taken ++ distinct_behind taken (c ∷ cs)) ≡ take 16 (cond (room && not fresh) (taken ++ c ∷ []) taken ++ distinct_behind (cond (room && not fresh) (taken ++ c ∷ []) taken) cs)
unfolding distinct_behind
one_more true true taken c cs room fresh = rw fresh refl
one_more false true taken c cs room fresh = rw fresh refl
one_more true false taken c cs room fresh = rw fresh (ap (take 16) (sym (append_assoc taken (c ∷ []) (distinct_behind (taken ++ c ∷ []) cs))))
one_more false false taken c cs room fresh =
    let full : 16 ≤ length taken = ltb-false _ _ room in
    rw fresh (take-append-le 16 taken (c ∷ distinct_behind (taken ++ c ∷ []) cs) full ∙ sym (take-append-le 16 taken (distinct_behind taken cs) full))

next : (taken : List Component) (c : Component) (cs : List Component) → take 16 (taken ++ distinct_behind taken (c ∷ cs)) ≡ take 16 (with_next taken c ++ distinct_behind (with_next taken c) cs)
next taken c cs = one_more (nat_lt (length taken) 16) (is_taken taken c) taken c cs refl refl

next_option : (taken : List Component) (c : Option Component) (cs : List Component) → take 16 (taken ++ distinct_behind taken (cons_option c cs)) ≡ take 16 (with_option taken c ++ distinct_behind (with_option taken c) cs)
next_option taken None cs = refl
next_option taken (Some c) cs = next taken c cs

pub goes_on : (taken : List Component) (stream : PmtStream) (streams : List PmtStream) (total : List Component) → total ≡ taking taken (stream ∷ streams) → total ≡ taking (with_option taken (component_of_stream stream)) streams
goes_on taken stream streams total so_far = so_far ∙ next_option taken (component_of_stream stream) (filter_map component_of_stream streams)

small : (room fresh : Bool) (taken : List Component) (c : Component) → nat_lt (length taken) 16 ≡ room → length taken ≤ 16 → length (cond (room && not fresh) (taken ++ c ∷ []) taken) ≤ 16
small true true taken c e le = le
small false true taken c e le = le
small false false taken c e le = le
small true false taken c e le = let lt : length taken < 16 = ltb-true _ _ e in omega (arith, length-append taken (c ∷ []))

pub stays_small : (taken : List Component) (c : Option Component) → length taken ≤ 16 → length (with_option taken c) ≤ 16
stays_small taken None le = le
stays_small taken (Some c) le = small (nat_lt (length taken) 16) (is_taken taken c) taken c refl le

take_all : (n : ℕ) (xs : List Component) → length xs ≤ n → take n xs ≡ xs
take_all zero [] le = refl
take_all zero (x ∷ xs) le = absurd (omega arith)
take_all (suc n) [] le = refl
take_all (suc n) (x ∷ xs) le = ap (λ (rest : List Component). x ∷ rest) (take_all n xs (omega arith))

drop_past : (n : ℕ) (xs : List PmtStream) → length xs ≤ n → drop n xs ≡ []
drop_past zero [] le = refl
drop_past zero (x ∷ xs) le = absurd (omega arith)
drop_past (suc n) [] le = refl
drop_past (suc n) (x ∷ xs) le = drop_past n xs (omega arith)

pub is_done : (taken : List Component) (total : List Component) → length taken ≤ 16 → total ≡ taking taken [] → taken ≡ total
unfolding distinct_behind
is_done taken total le so_far = sym (so_far ∙ ap (take 16) (append-nil taken) ∙ take_all 16 taken le)

-- the same, at the places of a loop

pub goes_on_at : (taken after : List Component) (place : ℕ) (streams : List PmtStream) (d : PmtStream) (c : Option Component) → place < length streams → c ≡ component_of_stream (get_or streams place d) → after ≡ with_option taken c
    → components_of streams ≡ taking taken (drop place streams) → components_of streams ≡ taking after (drop (place + 1) streams)
goes_on_at taken after place streams d c lt read added so_far =
    let front : drop place streams ≡ get_or streams place d ∷ drop (suc place) streams = drop-cons streams place d lt in
    let more = goes_on taken (get_or streams place d) (drop (suc place) streams) (components_of streams) (so_far ∙ ap (taking taken) front) in
    let one : suc place ≡ place + 1 = omega arith in
    more ∙ ap (λ (t : List Component). taking t (drop (suc place) streams)) (ap (with_option taken) (sym read) ∙ sym added) ∙ ap (λ (n : ℕ). taking after (drop n streams)) one

pub stays_small_at : (taken after : List Component) (c : Option Component) → after ≡ with_option taken c → length taken ≤ 16 → length after ≤ 16
stays_small_at taken after c added le = let le = stays_small taken c le in omega (arith, ap (length {A = Component}) added)

pub starts_small : (taken : List Component) → taken ≡ [] → length taken ≤ 16
starts_small taken e = omega (arith, ap (length {A = Component}) e)

pub ends_at : (taken : List Component) (place : ℕ) (streams : List PmtStream) → length streams ≤ place → length taken ≤ 16 → components_of streams ≡ taking taken (drop place streams) → taken ≡ components_of streams
ends_at taken place streams done le so_far = is_done taken (components_of streams) le (so_far ∙ ap (taking taken) (drop_past place streams done))

-- maps

same_pid : (a b : Option ℕ) → is_same_pid a b ≡ true → a ≡ b
same_pid None None e = refl
same_pid None (Some b) e = absurd cc
same_pid (Some a) None e = absurd cc
same_pid (Some a) (Some b) e = ap (λ (n : ℕ). Some n) (eqb-true a b e)

pid_same : (a b : Option ℕ) → a ≡ b → is_same_pid a b ≡ true
pid_same a b e = subst (λ (c : Option ℕ). is_same_pid a c ≡ true) e (itself a)
  where
    itself : (a : Option ℕ) → is_same_pid a a ≡ true
    itself None = refl
    itself (Some a) = eq-eqb a a refl

-- at a tag that one of the list has, both maps agree
agree_at : (list map other : List Component) (tag : ℕ) → agree_on list map other ≡ true → (pid_in list tag ≡ None) ⊎ (pid_in map tag ≡ pid_in other tag)
agree_at [] map other tag e = inl refl
agree_at (c ∷ list) map other tag e =
    let parts = and_parts (is_same_pid (pid_in map c.tag) (pid_in other c.tag)) (agree_on list map other) e in
    by_test (eqb c.tag tag) c list map other tag refl (same_pid _ _ parts.0) (agree_at list map other tag parts.1)
  where
    by_test : (test : Bool) (c : Component) (list map other : List Component) (tag : ℕ) → eqb c.tag tag ≡ test → pid_in map c.tag ≡ pid_in other c.tag → (pid_in list tag ≡ None) ⊎ (pid_in map tag ≡ pid_in other tag)
        → (option_map (λ (c : Component). c.pid) (cond test (Some c) (find (λ (c : Component). eqb c.tag tag) list)) ≡ None) ⊎ (pid_in map tag ≡ pid_in other tag)
    by_test true c list map other tag e same behind = inr (subst (λ (t : ℕ). pid_in map t ≡ pid_in other t) (eqb-true c.tag tag e) same)
    by_test false c list map other tag e same behind = behind

either : (map other : List Component) (tag : ℕ) → (pid_in map tag ≡ None) ⊎ (pid_in map tag ≡ pid_in other tag) → (pid_in other tag ≡ None) ⊎ (pid_in map tag ≡ pid_in other tag) → pid_in map tag ≡ pid_in other tag
either map other tag (inl a) (inl b) = a ∙ sym b
either map other tag (inr e) b = e
either map other tag a (inr e) = e

pub same_map : (map other : List Component) → agree_on map map other ≡ true → agree_on other map other ≡ true → AreSameMap map other
same_map map other a b = λ tag. either map other tag (agree_at map map other tag a) (agree_at other map other tag b)

pub map_same : (list map other : List Component) → AreSameMap map other → agree_on list map other ≡ true
map_same [] map other same = refl
map_same (c ∷ list) map other same = and_from _ _ (pid_same (pid_in map c.tag) (pid_in other c.tag) (same c.tag)) (map_same list map other same)

pub no_same : (list map other : List Component) → agree_on list map other ≡ false → ¬ AreSameMap map other
no_same list map other e same = let is = map_same list map other same in absurd cc
