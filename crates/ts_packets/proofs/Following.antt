-- What holds whatever follows the bytes that a cutter holds.
use Rattle.std.proofs.Common.{◌≡◌, ℕ, zero, suc, ◌+◌, ◌-◌, ◌<◌, ◌≤◌, Bool, true, List, [], ◌∷◌, ◌++◌, length, take, drop, get_or, ◌⊎◌, refl, sym, ◌∙◌, ap, subst, inl, inr, arith, lit<, ◌*◌}
use Rattle.std.proofs.lemmas.Bool.{both_ways, true_from_ne_false}
use Rattle.std.proofs.lemmas.List.{append-nil, get_or_at, append_assoc, length-append, length-take, length-take-le, length-drop, drop-take, drop-drop, drop-append-le, take-append-le, take-take, get_or-take, get_or_append_left, drop_all, get_or-drop}
use Rattle.ts_packets.specs.Packet.{bits_of, pid_of}
use Rattle.ts_packets.specs.Packets.{StandsAt, ArePackets, packets_of}
use Rattle.ts_packets.specs.Cutter.{CutterState, MayFollow, IsCertainAt, IsFirstCertain, IsOver, DropsFront, Gives}
use Rattle.ts_packets.proofs.PacketList.{packets_of-drop, packets_of-first, packets_of-none, stands_first-true, ArePackets-computed}

-- the sync byte lies within the bytes
pub sync-within : (bytes : List ℕ) (place : ℕ) → get_or bytes place 0 ≡ 71 → place < length bytes
sync-within [] place h = let sync : ◌≡◌ {A = ℕ} 0 71 = h in omega arith
sync-within (x ∷ bytes) zero h = omega arith
sync-within (x ∷ bytes) (suc place) h = let below : place < length bytes = sync-within bytes place h in omega arith

behind_ahead : (state : CutterState) (place : ℕ) (more : List ℕ) → MayFollow state more
    → (get_or state.held (place + 188) 0 ≡ 71) ⊎ ((state.ended ≡ true) × (length state.held ≡ place + 188))
    → (get_or (state.held ++ more) (place + 188) 0 ≡ 71) ⊎ (length (state.held ++ more) ≡ place + 188)
behind_ahead state place more may (inl again) = inl (get_or_append_left state.held more 0 (place + 188) (sync-within _ _ again) ∙ again)
behind_ahead state place more may (inr (ended, len)) =
    let none : more ≡ [] = may ended in inr (rw (none, append-nil) len)

-- a certain packet stands there whatever follows
pub IsCertainAt-stands : (state : CutterState) (place : ℕ) (more : List ℕ) → MayFollow state more → IsCertainAt state place → StandsAt (state.held ++ more) place
IsCertainAt-stands state place more may h = record {
  sync = get_or_append_left state.held more 0 place (sync-within _ _ h.sync) ∙ h.sync;
  behind = behind_ahead state place more may h.behind;
}

-- the byte 188 on is held, or the end was told
abbrev pub IsDecided : CutterState → ℕ → Type 0
IsDecided state place = (place + 188 < length state.held) ⊎ (state.ended ≡ true)

behind_back : (held more : List ℕ) (ended : Bool) (place : ℕ) → place + 188 < length held
    → (get_or (held ++ more) (place + 188) 0 ≡ 71) ⊎ (length (held ++ more) ≡ place + 188)
    → (get_or held (place + 188) 0 ≡ 71) ⊎ ((ended ≡ true) × (length held ≡ place + 188))
behind_back held more ended place within (inl again) = inl (sym (get_or_append_left held more 0 (place + 188) within) ∙ again)
behind_back held more ended place within (inr over) = absurd (omega (arith, length-append held more))

behind_told : (held : List ℕ) (ended : Bool) (place : ℕ) → ended ≡ true
    → (get_or held (place + 188) 0 ≡ 71) ⊎ (length held ≡ place + 188)
    → (get_or held (place + 188) 0 ≡ 71) ⊎ ((ended ≡ true) × (length held ≡ place + 188))
behind_told held ended place told (inl again) = inl again
behind_told held ended place told (inr over) = inr (told, over)

-- once the end was told a packet that stands is certain
pub IsCertainAt-told : (state : CutterState) (place : ℕ) → state.ended ≡ true → StandsAt state.held place → IsCertainAt state place
IsCertainAt-told state place told h = record { sync = h.sync; behind = behind_told state.held state.ended place told h.behind }

-- where no packet is certain, at a place that is decided, none stands whatever follows
pub StandsAt-certain : (state : CutterState) (place : ℕ) (more : List ℕ) → MayFollow state more → IsDecided state place → StandsAt (state.held ++ more) place → IsCertainAt state place
StandsAt-certain state place more may (inl within) h = record {
  sync = sym (get_or_append_left state.held more 0 place (omega arith)) ∙ h.sync;
  behind = behind_back state.held more state.ended place within h.behind;
}
StandsAt-certain state place more may (inr told) h =
    let none : more ≡ [] = may told in
    let e : state.held ++ more ≡ state.held = rw (none, append-nil) refl in
    IsCertainAt-told state place told (subst (λ bytes. StandsAt bytes place) e h)

-- places at which no packet can stand are left out
pub Gives-none : (old new : CutterState) (n : ℕ) → n ≤ length old.held → new.held ≡ drop n old.held
    → ((place : ℕ) → place < n → IsDecided old place × ¬ (IsCertainAt old place)) → Gives old [] new
Gives-none old new n within held none more may =
    packets_of-drop n (old.held ++ more) (λ place below stands. (none place below).1 (StandsAt-certain old place more may (none place below).0 stands))
    ∙ ap packets_of (drop-append-le n old.held more within ∙ ap (λ bytes. bytes ++ more) (sym held))

-- a packet that is certain at the front is within what is held
pub IsCertainAt-within : (state : CutterState) (place : ℕ) → IsCertainAt state place → place + 188 ≤ length state.held
IsCertainAt-within state place h = elim h.behind [
  | inl again ↦ let within : place + 188 < length state.held = sync-within _ _ again in omega arith
  | inr over ↦ let e : length state.held ≡ place + 188 = over.1 in omega arith
]

-- the packet at the front is taken
pub Gives-first : (old new : CutterState) → IsCertainAt old 0 → new.held ≡ drop 188 old.held → Gives old (take 188 old.held ∷ []) new
Gives-first old new certain held more may =
    let within : 188 ≤ length old.held = omega (arith, IsCertainAt-within old 0 certain) in
    packets_of-first (old.held ++ more) (stands_first-true _ (IsCertainAt-stands old 0 more may certain))
    ∙ (ap (λ packet. packet ∷ packets_of (drop 188 (old.held ++ more))) (take-append-le 188 old.held more within)
    ∙ ap (λ bytes. take 188 old.held ∷ packets_of bytes) (drop-append-le 188 old.held more within ∙ ap (λ bytes. bytes ++ more) (sym held)))

-- one after the other
pub Gives-then : (old mid new : CutterState) (first second : List (List ℕ)) → mid.ended ≡ old.ended → Gives old first mid → Gives mid second new → Gives old (first ++ second) new
Gives-then old mid new first second ended one two more may =
    one more may
    ∙ (ap (λ packets. first ++ packets) (two more (λ told. may (sym ended ∙ told)))
    ∙ sym (append_assoc first second (packets_of (new.held ++ more))))

-- no packet is certain, and the end was told: none is left
pub IsOver-from : (state : CutterState) → state.ended ≡ true → ((place : ℕ) → ¬ (IsCertainAt state place)) → IsOver state
IsOver-from state told none = record {
  ended = told;
  none = packets_of-none state.held (λ place stands. none place (IsCertainAt-told state place told stands));
}

nowhere : (bytes : List ℕ) → packets_of bytes ≡ [] → (place : ℕ) → ¬ (StandsAt bytes place)
nowhere bytes none = subst (λ packets. ArePackets bytes packets) none (ArePackets-computed bytes)

pub IsOver-none : (state : CutterState) → IsOver state → (place : ℕ) → ¬ (IsCertainAt state place)
IsOver-none state over place certain =
    nowhere state.held over.none place
    (subst (λ bytes. StandsAt bytes place) (append-nil state.held) (IsCertainAt-stands state place [] (λ _. refl) certain))

-- what is left begins at a certain place
behind_drop : (held : List ℕ) (ended : Bool) (n : ℕ)
    → (get_or held (n + 188) 0 ≡ 71) ⊎ ((ended ≡ true) × (length held ≡ n + 188))
    → (get_or (drop n held) (0 + 188) 0 ≡ 71) ⊎ ((ended ≡ true) × (length (drop n held) ≡ 0 + 188))
behind_drop held ended n (inl again) = inl (get_or-drop n held 188 0 ∙ again)
behind_drop held ended n (inr (told, over)) = inr (told, omega (arith, length-drop n held))

pub IsCertainAt-drop : (held : List ℕ) (ended : Bool) (n : ℕ) → IsCertainAt (record { held = held; ended = ended }) n → IsCertainAt (record { held = drop n held; ended = ended }) 0
IsCertainAt-drop held ended n h =
    let e : n + 0 ≡ n = omega arith in
    record { sync = get_or-drop n held 0 0 ∙ rw e h.sync; behind = behind_drop held ended n h.behind }

-- the bytes of a buffer from `start` up to `end`, some of them left out at the front
pub window-drop : (buffer : List ℕ) (start end n : ℕ) → n ≤ end - start → take (end - (start + n)) (drop (start + n) buffer) ≡ drop n (take (end - start) (drop start buffer))
window-drop buffer start end n within =
    let more : end - start ≡ n + (end - (start + n)) = omega arith in
    rw more (sym (drop-take n (end - (start + n)) (drop start buffer) ∙ ap (λ bytes. take (end - (start + n)) bytes) (drop-drop n start buffer)))

window-room : (state : CutterState) (buffer : List ℕ) (start end : ℕ) (ended : Bool)
    → record { held = take (end - start) (drop start buffer); ended = ended } ≡ state → IsCertainAt state 0 → 188 ≤ end - start
window-room state buffer start end ended is certain =
    let within : 0 + 188 ≤ length state.held = IsCertainAt-within state 0 certain in
    let e : take (end - start) (drop start buffer) ≡ state.held = ap (λ (s : CutterState). s.held) is in
    omega (arith, length-take (end - start) (drop start buffer), ap length e)

-- the same, where the state is what a cutter shows of its buffer
pub window-skip : (state : CutterState) (buffer : List ℕ) (start end : ℕ) (ended : Bool)
    → record { held = take (end - start) (drop start buffer); ended = ended } ≡ state → IsCertainAt state 0
    → take (end - (start + 188)) (drop (start + 188) buffer) ≡ drop 188 state.held
window-skip state buffer start end ended is certain =
    let room : 188 ≤ end - start = window-room state buffer start end ended is certain in
    window-drop buffer start end 188 room ∙ ap (λ (s : CutterState). drop 188 s.held) is

pub window-front : (state : CutterState) (buffer : List ℕ) (start end : ℕ) (ended : Bool)
    → record { held = take (end - start) (drop start buffer); ended = ended } ≡ state → IsCertainAt state 0
    → take (start + 188 - start) (drop start buffer) ≡ take 188 state.held
window-front state buffer start end ended is certain =
    let room : 188 ≤ end - start = window-room state buffer start end ended is certain in
    let count : start + 188 - start ≡ 188 = omega arith in
    rw count (sym (take-take 188 (end - start) (drop start buffer) room) ∙ ap (λ (s : CutterState). take 188 s.held) is)

-- a byte of the window
pub window-get : (buffer : List ℕ) (start end place : ℕ) → place < 188 → 188 ≤ end - start
    → get_or buffer (start + place) 0 ≡ get_or (take 188 (take (end - start) (drop start buffer))) place 0
window-get buffer start end place within room =
    sym (get_or-take 188 (take (end - start) (drop start buffer)) place 0 within
    ∙ (get_or-take (end - start) (drop start buffer) place 0 (omega arith)
    ∙ get_or-drop start buffer place 0))

pub window-pid : (state : CutterState) (buffer : List ℕ) (start end : ℕ) (ended : Bool)
    → record { held = take (end - start) (drop start buffer); ended = ended } ≡ state → IsCertainAt state 0
    → bits_of (get_or buffer (start + 1) 0) 0 5 * 256 + get_or buffer (start + 2) 0 ≡ pid_of (take 188 state.held)
window-pid state buffer start end ended is certain =
    let room : 188 ≤ end - start = window-room state buffer start end ended is certain in
    rw (window-get buffer start end 1 (lit< tt) room, window-get buffer start end 2 (lit< tt) room) (ap (λ (s : CutterState). pid_of (take 188 s.held)) is)

pub window-gives : (state : CutterState) (buffer : List ℕ) (start end : ℕ) (ended : Bool)
    → record { held = take (end - start) (drop start buffer); ended = ended } ≡ state → IsCertainAt state 0
    → Gives state (take 188 state.held ∷ []) (record { held = take (end - (start + 188)) (drop (start + 188) buffer); ended = ended })
window-gives state buffer start end ended is certain =
    Gives-first state (record { held = take (end - (start + 188)) (drop (start + 188) buffer); ended = ended }) certain
    (window-skip state buffer start end ended is certain)

-- what is left out at the front of a window
pub window-left : (state : CutterState) (buffer : List ℕ) (start end n : ℕ) (ended : Bool)
    → record { held = take (end - start) (drop start buffer); ended = ended } ≡ state → n ≤ end - start
    → take (end - (start + n)) (drop (start + n) buffer) ≡ drop n state.held
window-left state buffer start end n ended is within = window-drop buffer start end n within ∙ ap (λ (s : CutterState). drop n s.held) is

pub window-length : (state : CutterState) (buffer : List ℕ) (start end : ℕ) (ended : Bool)
    → record { held = take (end - start) (drop start buffer); ended = ended } ≡ state → end ≤ length buffer → length state.held ≡ end - start
window-length state buffer start end ended is within =
    let e : take (end - start) (drop start buffer) ≡ state.held = ap (λ (s : CutterState). s.held) is in
    omega (arith, length-take (end - start) (drop start buffer), length-drop start buffer, ap length e)

pub DropsFront-from : (old new : CutterState) (n : ℕ) → n ≤ length old.held → new.held ≡ drop n old.held → new.ended ≡ old.ended → DropsFront old new
DropsFront-from old new n within held ended =
    let len : length new.held ≡ length old.held - n = ap length held ∙ length-drop n old.held in
    let count : length old.held - length new.held ≡ n = omega arith in
    record { held = rw count held; shorter = omega arith; ended = ended }

pub DropsFront-then : (old mid new : CutterState) → DropsFront old mid → new.held ≡ drop 188 mid.held → length new.held + 188 ≡ length mid.held → new.ended ≡ mid.ended → DropsFront old new
DropsFront-then old mid new first held shorter ended =
    let below : length mid.held ≤ length old.held = first.shorter in
    let count : length old.held - length mid.held + 188 ≡ length old.held - length new.held = omega arith in
    record {
      held = held ∙ (ap (λ bytes. drop 188 bytes) first.held ∙ (drop-drop 188 (length old.held - length mid.held) old.held ∙ ap (λ n. drop n old.held) count));
      shorter = omega arith;
      ended = ended ∙ first.ended;
    }

-- the bytes in front of the first certain packet are no packet's
pub Gives-to_first : (old new : CutterState) (place : ℕ) → IsFirstCertain old place → new.held ≡ drop place old.held → Gives old [] new
Gives-to_first old new place first held =
    let within : place + 188 ≤ length old.held = IsCertainAt-within old place first.certain in
    Gives-none old new place (omega arith) held
    (λ other below. (inl (omega arith), λ certain. let above : place ≤ other = first.least other certain in omega arith))

-- once the end was told, bytes in which no packet is certain can all be left out
pub Gives-over : (old new : CutterState) → old.ended ≡ true → ((place : ℕ) → ¬ (IsCertainAt old place)) → new.held ≡ [] → Gives old [] new
Gives-over old new told none held =
    Gives-none old new (length old.held) (omega arith) (held ∙ sym (drop_all (length old.held) old.held (omega arith)))
    (λ other below. (inr told, none other))

-- before, all but the last 188
pub Gives-waiting : (old new : CutterState) (n : ℕ) → n ≡ length old.held - 188 → ((place : ℕ) → ¬ (IsCertainAt old place)) → new.held ≡ drop n old.held → Gives old [] new
Gives-waiting old new n count none held =
    Gives-none old new n (omega arith) held (λ other below. (inl (omega arith), none other))

-- bytes are written behind a window
pub window-feed : (buffer new more : List ℕ) (start end count : ℕ) → start ≤ end → end ≤ length buffer → length more ≡ count
    → take (end + length more) new ≡ take end buffer ++ more
    → take (end + count - start) (drop start new) ≡ take (end - start) (drop start buffer) ++ more
window-feed buffer new more start end count order within len written =
    let whole : start + (end + count - start) ≡ end + length more = omega arith in
    let before : start + (end - start) ≡ end = omega arith in
    let front : start ≤ length (take end buffer) = omega (arith, length-take-le end buffer within) in
    sym (drop-take start (end + count - start) new)
    ∙ (ap (λ n. drop start (take n new)) whole
    ∙ (ap (λ bytes. drop start bytes) written
    ∙ (drop-append-le start (take end buffer) more front
    ∙ ap (λ bytes. bytes ++ more) (ap (λ n. drop start (take n buffer)) (sym before) ∙ drop-take start (end - start) buffer))))

pub window-shorter : (state : CutterState) (buffer : List ℕ) (start end : ℕ) (ended : Bool)
    → record { held = take (end - start) (drop start buffer); ended = ended } ≡ state → IsCertainAt state 0
    → length (take (end - (start + 188)) (drop (start + 188) buffer)) + 188 ≡ length state.held
window-shorter state buffer start end ended is certain =
    let within : 0 + 188 ≤ length state.held = IsCertainAt-within state 0 certain in
    omega (arith, ap length (window-skip state buffer start end ended is certain), length-drop 188 state.held)

-- a byte that is no sync byte may follow, so where the bytes just end nothing is certain before the end was told
end_told : (held : List ℕ) (place : ℕ) → length held ≡ place + 188 → ¬ (StandsAt (held ++ 0 ∷ []) place)
end_told held place over h = elim h.behind [
  | inl again ↦ let sync : ◌≡◌ {A = ℕ} 0 71 = sym (get_or_at held 0 [] 0 (place + 188) over) ∙ again in omega arith
  | inr longer ↦ omega (arith, length-append held (0 ∷ []))
]

behind_always : (state : CutterState) (place : ℕ) → ((more : List ℕ) → MayFollow state more → StandsAt (state.held ++ more) place)
    → (get_or state.held (place + 188) 0 ≡ 71) ⊎ (length state.held ≡ place + 188)
    → (get_or state.held (place + 188) 0 ≡ 71) ⊎ ((state.ended ≡ true) × (length state.held ≡ place + 188))
behind_always state place always (inl again) = inl again
behind_always state place always (inr over) = inr (
  true_from_ne_false state.ended (λ open_end. end_told state.held place over (always (0 ∷ []) (λ told. absurd (both_ways _ open_end told)))),
  over,
)

pub IsCertainAt-always : (state : CutterState) (place : ℕ) → ((more : List ℕ) → MayFollow state more → StandsAt (state.held ++ more) place) → IsCertainAt state place
IsCertainAt-always state place always =
    let now : StandsAt state.held place = subst (λ bytes. StandsAt bytes place) (append-nil state.held) (always [] (λ _. refl)) in
    record { sync = now.sync; behind = behind_always state place always now.behind }
