use Rattle.std.proofs.Common.{◌≡◌, ℕ, ◌+◌, ◌-◌, ◌≤◌, Bool, true, List, [], min, length, take, drop, refl, sym, ◌∙◌, ap, subst, arith}
use Rattle.ts_packets.specs.Cutter.{CutterState, IsCertainAt, IsFirstCertain, IsOver, DropsFront, Gives}
use Rattle.ts_packets.proofs.Following.{window-left, window-length, DropsFront-from, Gives-to_first, Gives-over, Gives-waiting, IsOver-from, IsOver-none, IsCertainAt-within, IsCertainAt-drop}
use Rattle.ts_packets.proofs.Standing.{StandsFor-seek}
use Rattle.ts_packets.proofs.cutter.Cutter.seek.Goals as goal

abbrev window : List ℕ → ℕ → ℕ → Bool → CutterState
window buffer start end ended = record { held = take (end - start) (drop start buffer); ended = ended }

-- the first certain place lies in the window
room_of : (state : CutterState) (buffer : List ℕ) (start end place : ℕ) (ended : Bool) → window buffer start end ended ≡ state → end ≤ length buffer
    → IsFirstCertain (window buffer start end ended) place → place ≤ end - start
room_of state buffer start end place ended is within first =
    omega (arith, window-length state buffer start end ended is within, ap (λ (s : CutterState). length s.held) is, IsCertainAt-within (window buffer start end ended) place first.certain)

first_in : (state : CutterState) (buffer : List ℕ) (start end place : ℕ) (ended : Bool) → window buffer start end ended ≡ state
    → IsFirstCertain (window buffer start end ended) place → IsFirstCertain state place
first_in state buffer start end place ended is first = subst (λ s. IsFirstCertain s place) is first

some-gives : (state : CutterState) (buffer : List ℕ) (start end place : ℕ) (ended : Bool) → window buffer start end ended ≡ state → end ≤ length buffer
    → IsFirstCertain (window buffer start end ended) place → Gives state [] (window buffer (start + place) end ended)
some-gives state buffer start end place ended is within first =
    Gives-to_first state (window buffer (start + place) end ended) place (first_in state buffer start end place ended is first)
    (window-left state buffer start end place ended is (room_of state buffer start end place ended is within first))

some-drops : (state : CutterState) (buffer : List ℕ) (start end place : ℕ) (ended : Bool) → window buffer start end ended ≡ state → end ≤ length buffer
    → IsFirstCertain (window buffer start end ended) place → DropsFront state (window buffer (start + place) end ended)
some-drops state buffer start end place ended is within first =
    let room : place ≤ end - start = room_of state buffer start end place ended is within first in
    DropsFront-from state (window buffer (start + place) end ended) place
    (omega (arith, window-length state buffer start end ended is within))
    (window-left state buffer start end place ended is room)
    (ap (λ (s : CutterState). s.ended) is)

some-front : (state : CutterState) (buffer : List ℕ) (start end place : ℕ) (ended : Bool) → window buffer start end ended ≡ state → end ≤ length buffer
    → IsFirstCertain (window buffer start end ended) place → IsCertainAt (window buffer (start + place) end ended) 0
some-front state buffer start end place ended is within first =
    let room : place ≤ end - start = room_of state buffer start end place ended is within first in
    let left : take (end - (start + place)) (drop (start + place) buffer) ≡ drop place (take (end - start) (drop start buffer)) =
    window-left (window buffer start end ended) buffer start end place ended refl room in
    let P : List ℕ → Type 0 = λ held. IsCertainAt (record { held = held; ended = ended }) 0 in
    subst P (sym left) (IsCertainAt-drop (take (end - start) (drop start buffer)) ended place first.certain)

-- no packet is certain in what is held
none_in : (state : CutterState) (buffer : List ℕ) (start end : ℕ) (ended : Bool) → window buffer start end ended ≡ state
    → ((place : ℕ) → ¬ (IsCertainAt (window buffer start end ended) place)) → (place : ℕ) → ¬ (IsCertainAt state place)
none_in state buffer start end ended is none = subst (λ s. (place : ℕ) → ¬ (IsCertainAt s place)) is none

nothing : (buffer : List ℕ) (end : ℕ) → take (end - end) (drop end buffer) ≡ []
nothing buffer end = let e : end - end ≡ 0 = omega arith in rw e refl

over-gives : (state : CutterState) (buffer : List ℕ) (start end : ℕ) (ended : Bool) → window buffer start end ended ≡ state → ended ≡ true
    → ((place : ℕ) → ¬ (IsCertainAt (window buffer start end ended) place)) → Gives state [] (window buffer end end ended)
over-gives state buffer start end ended is told none =
    Gives-over state (window buffer end end ended) (sym (ap (λ (s : CutterState). s.ended) is) ∙ told) (none_in state buffer start end ended is none) (nothing buffer end)

over-is : (state : CutterState) (buffer : List ℕ) (start end : ℕ) (ended : Bool) → window buffer start end ended ≡ state → ended ≡ true
    → ((place : ℕ) → ¬ (IsCertainAt (window buffer start end ended) place)) → IsOver state
over-is state buffer start end ended is told none =
    IsOver-from state (sym (ap (λ (s : CutterState). s.ended) is) ∙ told) (none_in state buffer start end ended is none)

-- the place from which the last bytes are kept
kept_from : (start end kept : ℕ) → start ≤ end → kept ≡ min (end - start) 188 → end - kept ≡ start + (end - start - 188)
kept_from start end kept order least = omega arith

waiting-left : (state : CutterState) (buffer : List ℕ) (start end kept : ℕ) (ended : Bool) → window buffer start end ended ≡ state → start ≤ end → kept ≡ min (end - start) 188
    → take (end - (end - kept)) (drop (end - kept) buffer) ≡ drop (end - start - 188) state.held
waiting-left state buffer start end kept ended is order least =
    let from : end - kept ≡ start + (end - start - 188) = kept_from start end kept order least in
    rw from (window-left state buffer start end (end - start - 188) ended is (omega arith))

waiting-gives : (state : CutterState) (buffer : List ℕ) (start end kept : ℕ) (ended : Bool) → window buffer start end ended ≡ state → start ≤ end → end ≤ length buffer
    → kept ≡ min (end - start) 188 → ((place : ℕ) → ¬ (IsCertainAt (window buffer start end ended) place)) → Gives state [] (window buffer (end - kept) end ended)
waiting-gives state buffer start end kept ended is order within least none =
    Gives-waiting state (window buffer (end - kept) end ended) (end - start - 188)
    (ap (λ n. n - 188) (sym (window-length state buffer start end ended is within)))
    (none_in state buffer start end ended is none)
    (waiting-left state buffer start end kept ended is order least)

waiting-drops : (state : CutterState) (buffer : List ℕ) (start end kept : ℕ) (ended : Bool) → window buffer start end ended ≡ state → start ≤ end → end ≤ length buffer
    → kept ≡ min (end - start) 188 → DropsFront state (window buffer (end - kept) end ended)
waiting-drops state buffer start end kept ended is order within least =
    DropsFront-from state (window buffer (end - kept) end ended) (end - start - 188)
    (omega (arith, window-length state buffer start end ended is within))
    (waiting-left state buffer start end kept ended is order least)
    (ap (λ (s : CutterState). s.ended) is)

pub returns-in-Some-clause-gives : goal.returns-in-Some-clause-gives
returns-in-Some-clause-gives c =
    let i = c.self.inside in
    some-gives _ i.buffer i.start i.end c.in-Some.place i.ended c.self.view_is (omega arith) c.in-Some.ensures.found

pub returns-in-Some-clause-drops : goal.returns-in-Some-clause-drops
returns-in-Some-clause-drops c =
    let i = c.self.inside in
    some-drops _ i.buffer i.start i.end c.in-Some.place i.ended c.self.view_is (omega arith) c.in-Some.ensures.found

pub returns-in-Some-clause-end : goal.returns-in-Some-clause-end
returns-in-Some-clause-end c =
    let i = c.self.inside in
    let first = first_in _ i.buffer i.start i.end c.in-Some.place i.ended c.self.view_is c.in-Some.ensures.found in
    (λ same. absurd (cc), λ over. absurd (IsOver-none _ over c.in-Some.place first.certain))

pub returns-in-Some-clause-front : goal.returns-in-Some-clause-front
returns-in-Some-clause-front c =
    let i = c.self.inside in
    λ _. some-front _ i.buffer i.start i.end c.in-Some.place i.ended c.self.view_is (omega arith) c.in-Some.ensures.found

pub returns-in-None-clause-gives : goal.returns-in-None-clause-gives
returns-in-None-clause-gives c =
    let i = c.self.inside in
    over-gives _ i.buffer i.start i.end i.ended c.self.view_is c.if-self.true (c.in-None.ensures.none refl)

pub returns-in-None-clause-end : goal.returns-in-None-clause-end
returns-in-None-clause-end c =
    let i = c.self.inside in
    (λ _. over-is _ i.buffer i.start i.end i.ended c.self.view_is c.if-self.true (c.in-None.ensures.none refl), λ _. refl)

pub returns-in-None-2-clause-gives : goal.returns-in-None-2-clause-gives
returns-in-None-2-clause-gives c =
    let i = c.self.inside in
    waiting-gives _ i.buffer i.start i.end c.min.result i.ended c.self.view_is c.self.invariant.0 (omega arith) c.min.ensures (c.in-None.ensures.none refl)

pub returns-in-None-2-clause-drops : goal.returns-in-None-2-clause-drops
returns-in-None-2-clause-drops c =
    let i = c.self.inside in
    waiting-drops _ i.buffer i.start i.end c.min.result i.ended c.self.view_is c.self.invariant.0 (omega arith) c.min.ensures

pub returns-in-Some-clause-stands : goal.returns-in-Some-clause-stands
returns-in-Some-clause-stands c =
    let i = c.self.inside in
    λ stream given stands.
    StandsFor-seek c.args.self.now (window i.buffer (i.start + c.in-Some.place) i.end i.ended) stream given (ap (λ (s : CutterState). s.ended) c.self.view_is)
    (returns-in-Some-clause-gives c) stands

pub returns-in-None-clause-stands : goal.returns-in-None-clause-stands
returns-in-None-clause-stands c =
    let i = c.self.inside in
    λ stream given stands.
    StandsFor-seek c.args.self.now (window i.buffer i.end i.end i.ended) stream given (ap (λ (s : CutterState). s.ended) c.self.view_is)
    (returns-in-None-clause-gives c) stands

pub returns-in-None-2-clause-stands : goal.returns-in-None-2-clause-stands
returns-in-None-2-clause-stands c =
    let i = c.self.inside in
    λ stream given stands.
    StandsFor-seek c.args.self.now (window i.buffer (i.end - c.min.result) i.end i.ended) stream given (ap (λ (s : CutterState). s.ended) c.self.view_is)
    (returns-in-None-2-clause-gives c) stands
