-- Laws of the packets of a byte list.
use Rattle.std.proofs.Common.{◌≡◌, ℕ, zero, suc, ◌+◌, ◌*◌, ◌<◌, ◌≤◌, Bool, true, false, eqb, List, [], ◌∷◌, ◌++◌, length, take, drop, get_or, ◌⊎◌, refl, sym, ◌∙◌, ap, subst, inl, inr, arith, lit<, cond}
use Rattle.std.proofs.lemmas.Bool.{and_from, and_parts, or_left, or_right, or_cases, eq-eqb, eqb-true, false_from_ne_true, both_ways, cases_Bool}
use Rattle.std.proofs.lemmas.List.{length-drop, length-take-le, length-append, drop-drop, get_or-drop, get_or-take, get_or_append_left, get_or-append_right, drop_all, take_at, drop_at}
use Rattle.std.specs.List.{flat_map, All}
use Rattle.ts_packets.specs.Packet.{IsPacket}
use Rattle.ts_packets.specs.Packets.{StandsAt, IsFirstPlace, ArePackets, stands_first, packets_after, packets_of}

-- the skip count is a drop
pub packets_after-drop : (k : ℕ) (bytes : List ℕ) → packets_after k bytes ≡ packets_after 0 (drop k bytes)
unfolding packets_after
packets_after-drop zero bytes = refl
packets_after-drop (suc k) [] = refl
packets_after-drop (suc k) (x ∷ bytes) = packets_after-drop k bytes

pub packets_of-nil : packets_of [] ≡ []
unfolding packets_of packets_after
packets_of-nil = refl

cond_at : {A : Type 0} (b v : Bool) (x y : A) → b ≡ v → cond b x y ≡ cond v x y
cond_at b v x y e = ap (λ w. cond w x y) e

-- a packet at the front
pub packets_of-first : (bytes : List ℕ) → stands_first bytes ≡ true → packets_of bytes ≡ take 188 bytes ∷ packets_of (drop 188 bytes)
unfolding packets_of packets_after
packets_of-first [] h = cc
packets_of-first (x ∷ bytes) h =
    cond_at _ _ _ _ h ∙ ap (λ rest. take 188 (x ∷ bytes) ∷ rest) (packets_after-drop 187 bytes)

-- no packet at the front
pub packets_of-skip : (x : ℕ) (bytes : List ℕ) → stands_first (x ∷ bytes) ≡ false → packets_of (x ∷ bytes) ≡ packets_of bytes
unfolding packets_of packets_after
packets_of-skip x bytes h = cond_at _ _ _ _ h

-- the test at the front is the definition at place 0
pub stands_first-true : (bytes : List ℕ) → StandsAt bytes 0 → stands_first bytes ≡ true
stands_first-true bytes h =
    and_from _ _ (eq-eqb _ _ h.sync)
    (elim h.behind [ inl again ↦ or_left _ _ (eq-eqb _ _ again) | inr over ↦ or_right _ _ (eq-eqb _ _ over) ])

behind_first : (bytes : List ℕ) → (eqb (get_or bytes 188 0) 71 ≡ true) ⊎ (eqb (length bytes) 188 ≡ true)
    → (get_or bytes 188 0 ≡ 71) ⊎ (length bytes ≡ 188)
behind_first bytes (inl again) = inl (eqb-true _ _ again)
behind_first bytes (inr over) = inr (eqb-true _ _ over)

pub stands_first-stands : (bytes : List ℕ) → stands_first bytes ≡ true → StandsAt bytes 0
stands_first-stands bytes h =
    let parts = and_parts _ _ h in
    record { sync = eqb-true _ _ parts.0; behind = behind_first bytes (or_cases _ _ parts.1) }

pub stands_first-false : (bytes : List ℕ) → ¬ (StandsAt bytes 0) → stands_first bytes ≡ false
stands_first-false bytes h = false_from_ne_true _ (λ t. h (stands_first-stands bytes t))

-- one byte in front
behind_cons : (x : ℕ) (bytes : List ℕ) (place : ℕ) → (get_or bytes (place + 188) 0 ≡ 71) ⊎ (length bytes ≡ place + 188)
    → (get_or (x ∷ bytes) (suc place + 188) 0 ≡ 71) ⊎ (suc (length bytes) ≡ suc place + 188)
behind_cons x bytes place (inl again) = inl (let e : suc place + 188 ≡ suc (place + 188) = omega arith in rw e again)
behind_cons x bytes place (inr over) = inr (omega arith)

pub StandsAt-cons : (x : ℕ) (bytes : List ℕ) (place : ℕ) → StandsAt bytes place → StandsAt (x ∷ bytes) (suc place)
StandsAt-cons x bytes place h = record { sync = h.sync; behind = behind_cons x bytes place h.behind }

behind_tail : (x : ℕ) (bytes : List ℕ) (place : ℕ) → (get_or (x ∷ bytes) (suc place + 188) 0 ≡ 71) ⊎ (suc (length bytes) ≡ suc place + 188)
    → (get_or bytes (place + 188) 0 ≡ 71) ⊎ (length bytes ≡ place + 188)
behind_tail x bytes place (inl again) = inl (let e : suc place + 188 ≡ suc (place + 188) = omega arith in rw e at again)
behind_tail x bytes place (inr over) = inr (omega arith)

pub StandsAt-tail : (x : ℕ) (bytes : List ℕ) (place : ℕ) → StandsAt (x ∷ bytes) (suc place) → StandsAt bytes place
StandsAt-tail x bytes place h = record { sync = h.sync; behind = behind_tail x bytes place h.behind }

pub StandsAt-nil : (place : ℕ) → ¬ (StandsAt [] place)
StandsAt-nil place h = let sync : ◌≡◌ {A = ℕ} 0 71 = h.sync in omega arith

-- places that are no packet's are passed over
pub packets_of-drop : (n : ℕ) (bytes : List ℕ) → ((place : ℕ) → place < n → ¬ (StandsAt bytes place)) → packets_of bytes ≡ packets_of (drop n bytes)
packets_of-drop zero bytes none = refl
packets_of-drop (suc n) [] none = refl
packets_of-drop (suc n) (x ∷ bytes) none =
    packets_of-skip x bytes (stands_first-false (x ∷ bytes) (none 0 (omega arith)))
    ∙ packets_of-drop n bytes (λ place below stands. none (suc place) (omega arith) (StandsAt-cons x bytes place stands))

pub packets_of-none : (bytes : List ℕ) → ((place : ℕ) → ¬ (StandsAt bytes place)) → packets_of bytes ≡ []
packets_of-none bytes none =
    packets_of-drop (length bytes) bytes (λ place _. none place) ∙ (ap packets_of (drop_all (length bytes) bytes (omega arith)) ∙ packets_of-nil)

-- a place of what is left is a place of the whole
pub StandsAt-drop : (n : ℕ) (bytes : List ℕ) (place : ℕ) → StandsAt bytes (n + place) → StandsAt (drop n bytes) place
StandsAt-drop zero bytes place h = let e : 0 + place ≡ place = omega arith in rw e at h
StandsAt-drop (suc n) [] place h = absurd (StandsAt-nil _ h)
StandsAt-drop (suc n) (x ∷ bytes) place h =
    let e : suc n + place ≡ suc (n + place) = omega arith in
    StandsAt-drop n bytes place (StandsAt-tail x bytes (n + place) (rw e at h))

-- the first packet, and what is behind it
pub packets_of-at : (bytes : List ℕ) (place : ℕ) → IsFirstPlace bytes place → packets_of bytes ≡ take 188 (drop place bytes) ∷ packets_of (drop (place + 188) bytes)
packets_of-at bytes place h =
    let here : StandsAt bytes (place + 0) = let e : place + 0 ≡ place = omega arith in rw e h.stands in
    packets_of-drop place bytes (λ other below stands. let above : place ≤ other = h.least other stands in omega arith)
    ∙ (packets_of-first (drop place bytes) (stands_first-true _ (StandsAt-drop place bytes 0 here))
    ∙ ap (λ rest. take 188 (drop place bytes) ∷ packets_of rest) (drop-drop 188 place bytes))

-- any list in the relation is the computed one
pub ArePackets-unique : (packets : List (List ℕ)) (bytes : List ℕ) → ArePackets bytes packets → packets ≡ packets_of bytes
ArePackets-unique [] bytes h = sym (packets_of-none bytes h)
ArePackets-unique (packet ∷ packets) bytes (place, (first, packet_is, rest)) =
    let others : packets ≡ packets_of (drop (place + 188) bytes) = ArePackets-unique packets (drop (place + 188) bytes) rest in
    let whole : packets_of bytes ≡ take 188 (drop place bytes) ∷ packets_of (drop (place + 188) bytes) = packets_of-at bytes place first in
    cc

-- a byte in front at which no packet stands changes no packet
nowhere_cons : (x : ℕ) (bytes : List ℕ) → ¬ (StandsAt (x ∷ bytes) 0) → ((place : ℕ) → ¬ (StandsAt bytes place)) → (place : ℕ) → ¬ (StandsAt (x ∷ bytes) place)
nowhere_cons x bytes none h zero stands = none stands
nowhere_cons x bytes none h (suc place) stands = h place (StandsAt-tail x bytes place stands)

least_cons : (x : ℕ) (bytes : List ℕ) (place : ℕ) → ¬ (StandsAt (x ∷ bytes) 0) → IsFirstPlace bytes place → (other : ℕ) → StandsAt (x ∷ bytes) other → suc place ≤ other
least_cons x bytes place none first zero stands = absurd (none stands)
least_cons x bytes place none first (suc other) stands =
    let above : place ≤ other = first.least other (StandsAt-tail x bytes other stands) in omega arith

pub ArePackets-cons : (packets : List (List ℕ)) (x : ℕ) (bytes : List ℕ) → ¬ (StandsAt (x ∷ bytes) 0) → ArePackets bytes packets → ArePackets (x ∷ bytes) packets
ArePackets-cons [] x bytes none h = nowhere_cons x bytes none h
ArePackets-cons (packet ∷ packets) x bytes none (place, (first, packet_is, rest)) =
    let e : suc place + 188 ≡ suc (place + 188) = omega arith in
    let rest' : ArePackets (drop (suc place + 188) (x ∷ bytes)) packets = rw e rest in
    (suc place, (record { stands = StandsAt-cons x bytes place first.stands; least = least_cons x bytes place none first }, packet_is, rest'))

-- the computed list is in the relation
computed_by : (n : ℕ) (x : ℕ) (bytes : List ℕ) → ((rest : List ℕ) → length rest ≤ n → ArePackets rest (packets_of rest)) → length bytes ≤ n
    → (stands_first (x ∷ bytes) ≡ true) ⊎ (stands_first (x ∷ bytes) ≡ false) → ArePackets (x ∷ bytes) (packets_of (x ∷ bytes))
computed_by n x bytes again short (inl stands) =
    subst (ArePackets (x ∷ bytes)) (sym (packets_of-first (x ∷ bytes) stands)) (
      0,
      (
        record { stands = stands_first-stands (x ∷ bytes) stands; least = λ other _. omega arith },
        refl,
        again (drop 187 bytes) (omega (arith, length-drop 187 bytes)),
      ),
    )
computed_by n x bytes again short (inr none) =
    subst (ArePackets (x ∷ bytes)) (sym (packets_of-skip x bytes none))
    (ArePackets-cons (packets_of bytes) x bytes (λ stands. both_ways _ none (stands_first-true (x ∷ bytes) stands)) (again bytes short))

computed_within : (n : ℕ) (bytes : List ℕ) → length bytes ≤ n → ArePackets bytes (packets_of bytes)
computed_within n [] short = subst (ArePackets []) (sym packets_of-nil) (λ place. StandsAt-nil place)
computed_within zero (x ∷ bytes) short = absurd (omega arith)
computed_within (suc n) (x ∷ bytes) short =
    computed_by n x bytes (λ rest shorter. computed_within n rest shorter) (omega arith) (cases_Bool (stands_first (x ∷ bytes)))

pub ArePackets-computed : (bytes : List ℕ) → ArePackets bytes (packets_of bytes)
ArePackets-computed bytes = computed_within (length bytes) bytes (omega arith)

-- what stands at a place is a packet
place_within : (bytes : List ℕ) (place : ℕ) → get_or bytes place 0 ≡ 71 → place < length bytes
place_within [] place h = let sync : ◌≡◌ {A = ℕ} 0 71 = h in omega arith
place_within (x ∷ bytes) zero h = omega arith
place_within (x ∷ bytes) (suc place) h = let below : place < length bytes = place_within bytes place h in omega arith

StandsAt-within : (bytes : List ℕ) (place : ℕ) → StandsAt bytes place → place + 188 ≤ length bytes
StandsAt-within bytes place h = elim h.behind [
  | inl again ↦ let within : place + 188 < length bytes = place_within bytes (place + 188) again in omega arith
  | inr over ↦ omega arith
]

packet_at : (bytes : List ℕ) (place : ℕ) → StandsAt bytes place → IsPacket (take 188 (drop place bytes))
packet_at bytes place h =
    let e : place + 0 ≡ place = omega arith in
    let within : place + 188 ≤ length bytes = StandsAt-within bytes place h in
    record {
      size = length-take-le 188 (drop place bytes) (omega (arith, length-drop place bytes));
      sync = get_or-take 188 (drop place bytes) 0 0 (lit< tt) ∙ (get_or-drop place bytes 0 0 ∙ rw e h.sync);
    }

All-cons : (P : List ℕ → Type 0) (x : List ℕ) (xs : List (List ℕ)) → P x → All P xs → All P (x ∷ xs)
All-cons P x xs here there zero d below = here
All-cons P x xs here there (suc k) d below = there k d (omega arith)

All-tail : (P : List ℕ → Type 0) (x : List ℕ) (xs : List (List ℕ)) → All P (x ∷ xs) → All P xs
All-tail P x xs all k d below = all (suc k) d (omega arith)

All-nil : (P : List ℕ → Type 0) → All P []
All-nil P k d below = absurd (omega arith)

-- each packet is one, and they share no byte
ArePackets-IsPacket : (packets : List (List ℕ)) (bytes : List ℕ) → ArePackets bytes packets → All IsPacket packets
ArePackets-IsPacket [] bytes h = All-nil IsPacket
ArePackets-IsPacket (packet ∷ packets) bytes (place, (first, packet_is, rest)) =
    All-cons IsPacket packet packets (subst IsPacket (sym packet_is) (packet_at bytes place first.stands))
    (ArePackets-IsPacket packets (drop (place + 188) bytes) rest)

ArePackets-length : (packets : List (List ℕ)) (bytes : List ℕ) → ArePackets bytes packets → length packets * 188 ≤ length bytes
ArePackets-length [] bytes h = omega arith
ArePackets-length (packet ∷ packets) bytes (place, (first, packet_is, rest)) =
    let others : length packets * 188 ≤ length (drop (place + 188) bytes) = ArePackets-length packets (drop (place + 188) bytes) rest in
    let within : place + 188 ≤ length bytes = StandsAt-within bytes place first.stands in
    omega (arith, length-drop (place + 188) bytes)

pub packets_of-IsPacket : (bytes : List ℕ) → All IsPacket (packets_of bytes)
packets_of-IsPacket bytes = ArePackets-IsPacket (packets_of bytes) bytes (ArePackets-computed bytes)

pub length-packets_of : (bytes : List ℕ) → length (packets_of bytes) * 188 ≤ length bytes
length-packets_of bytes = ArePackets-length (packets_of bytes) bytes (ArePackets-computed bytes)

-- packets laid end to end
abbrev joined : List (List ℕ) → List ℕ
joined packets = flat_map (λ packet. packet) packets

behind_packet : (packet : List ℕ) (packets : List (List ℕ)) → IsPacket packet → All IsPacket packets
    → (get_or (packet ++ joined packets) (0 + 188) 0 ≡ 71) ⊎ (length (packet ++ joined packets) ≡ 0 + 188)
behind_packet packet [] one all = inr (omega (arith, length-append packet [], one.size))
behind_packet packet (next ∷ packets) one all =
    let second : IsPacket next = all 0 [] (omega arith) in
    inl (get_or-append_right packet (next ++ joined packets) 188 188 0 one.size (omega arith)
    ∙ (get_or_append_left next (joined packets) 0 0 (omega (arith, second.size)) ∙ second.sync))

pub packets_of-joined : (packets : List (List ℕ)) → All IsPacket packets → packets_of (joined packets) ≡ packets
packets_of-joined [] all = packets_of-nil
packets_of-joined (packet ∷ packets) all =
    let one : IsPacket packet = all 0 [] (omega arith) in
    let others : All IsPacket packets = All-tail IsPacket packet packets all in
    let stands : StandsAt (packet ++ joined packets) 0 = record {
      sync = get_or_append_left packet (joined packets) 0 0 (omega (arith, one.size)) ∙ one.sync;
      behind = behind_packet packet packets one others;
    } in
    packets_of-first (packet ++ joined packets) (stands_first-true _ stands)
    ∙ (ap (λ front. front ∷ packets_of (drop 188 (packet ++ joined packets))) (take_at packet (joined packets) 188 one.size)
    ∙ ap (λ rest. packet ∷ rest) (ap packets_of (drop_at packet (joined packets) 188 one.size) ∙ packets_of-joined packets others))
