-- Time passes millisecond by millisecond, and so from due moment to due moment, each with its turn.
use Rattle.std.proofs.Common.{◌≡◌, ◌<◌, ◌≤◌, ℕ, zero, suc, ◌+◌, max, Bool, true, false, List, ◌∷◌, ◌++◌, Option, Some, None, IfSome, refl, sym, ap, ◌∙◌, append_assoc, arith}
use Rattle.std.specs.Prelude.{nat_le, if◌then◌else◌}
use Rattle.std.specs.Option.{option_map_or}
use Rattle.std.proofs.lemmas.Bool.{le-leb, lt-leb}
use Rattle.acting_documents.specs.Handling.{due_effect}
use Rattle.page.specs.Inputs.{due_next}
use Rattle.receiver_core.specs.Outputs.{Outcome, Piece, at_moment, followed_by, is_due_by, piece_of, time_passes, with_piece, without_piece}
use Rattle.receiver_core.specs.State.{State}
use Rattle.receiver_core.specs.Turns.{due_turn}
use Rattle.receiver_core.proofs.BroadcastLaws.{due_packets}

-- ---- parts

-- what comes first, then what comes behind it, and then the rest
in_three : (first : Outcome) (second third : State → Outcome)
    → followed_by (followed_by first second) third ≡ followed_by first (λ s. followed_by (second s) third)
in_three first second third =
    let middle : Outcome = second first.state in
    ap (λ (pieces : List Piece). record { state = (third middle.state).state; pieces = pieces })
    (append_assoc first.pieces middle.pieces (third middle.state).pieces)

pub no_time : (s : State) → time_passes 0 s ≡ without_piece s
unfolding time_passes
no_time s = refl

-- what a moment makes, where it is known whether a timer is due by then
made_at : ℕ → Bool → State → Outcome
made_at moment due s = if due then with_piece (due_turn moment s) else without_piece (at_moment moment s)

-- the first millisecond, and then the others
one_and : (more : ℕ) (s : State) → time_passes (suc more) s
    ≡ followed_by (made_at (s.page.clock + 1) (is_due_by (s.page.clock + 1) s) s) (time_passes more)
unfolding time_passes made_at
one_and more s = refl

pub in_two : (first second : ℕ) (s : State)
    → time_passes (first + second) s ≡ followed_by (time_passes first s) (time_passes second)
unfolding time_passes
in_two zero second s =
    let same : zero + second ≡ second = omega arith in
    ap (λ (count : ℕ). time_passes count s) same
in_two (suc first) second s =
    let moment = s.page.clock + 1 in
    let made : Outcome = made_at moment (is_due_by moment s) s in
    let same : suc first + second ≡ suc (first + second) = omega arith in
    ap (λ (count : ℕ). time_passes count s) same
    ∙ one_and (first + second) s
    ∙ ap (λ (rest : Outcome). record { state = rest.state; pieces = made.pieces ++ rest.pieces })
    (in_two first second made.state)
    ∙ sym (in_three made (time_passes first) (time_passes second))
    ∙ ap (λ (o : Outcome). followed_by o (time_passes second)) (sym (one_and first s))

-- ---- where nothing is due

-- a timer that is due later than a moment isn't due by one before
later : (moment bound : ℕ) (next : Option ℕ) → IfSome next (λ due. bound < due) → moment ≤ bound
    → option_map_or (λ due. nat_le due moment) next false ≡ false
later moment bound None after by = refl
later moment bound (Some due) after by = lt-leb due moment (omega (arith, after, by))

-- at none of the next milliseconds a timer is due
abbrev IsQuiet : ℕ → State → Type 0
IsQuiet count s = (moment : ℕ) → s.page.clock < moment → moment ≤ s.page.clock + count
    → is_due_by moment s ≡ false

quiet_time : (count : ℕ) (s : State) → IsQuiet count s
    → time_passes count s ≡ without_piece (at_moment (s.page.clock + count) s)
unfolding time_passes made_at
quiet_time zero s quiet =
    let same : s.page.clock ≡ s.page.clock + zero = omega arith in
    ap (λ (moment : ℕ). without_piece (at_moment moment s)) same
quiet_time (suc count) s quiet =
    let moment = s.page.clock + 1 in
    let same : moment + count ≡ s.page.clock + suc count = omega arith in
    one_and count s
    ∙ ap (λ (due : Bool). followed_by (made_at moment due s) (time_passes count))
    (quiet moment (omega arith) (omega arith))
    ∙ quiet_time count (at_moment moment s)
    (λ other after by. quiet other (omega (arith, after)) (omega (arith, by)))
    ∙ ap (λ (end : ℕ). without_piece (at_moment end s)) same

-- the clock goes to the end, where no timer is due by then
pub quiet_until : (count : ℕ) (s : State) → IfSome (due_next s.page) (λ due. s.page.clock + count < due)
    → time_passes count s ≡ without_piece (at_moment (s.page.clock + count) s)
quiet_until count s after =
    quiet_time count s (λ moment _ by. later moment (s.page.clock + count) (due_next s.page) after by)

-- ---- the next due moment

-- a turn puts its moment over the clock
same_turn : (moment clock : ℕ) (s : State) → due_turn moment (at_moment clock s) ≡ due_turn moment s
unfolding due_turn due_effect
same_turn moment clock s = refl

-- behind a quiet time comes a turn
quiet_and_turn : (wait more : ℕ) (s : State) → IsQuiet wait s → is_due_by (s.page.clock + suc wait) s ≡ true
    → time_passes (suc wait + more) s
    ≡ followed_by (with_piece (due_turn (s.page.clock + suc wait) s)) (time_passes more)
unfolding made_at
quiet_and_turn wait more s quiet due =
    let end = s.page.clock + wait in
    let same : suc wait + more ≡ wait + suc more = omega arith in
    let next : end + 1 ≡ s.page.clock + suc wait = omega arith in
    ap (λ (count : ℕ). time_passes count s) same
    ∙ in_two wait (suc more) s
    ∙ ap (λ (o : Outcome). followed_by o (time_passes (suc more))) (quiet_time wait s quiet)
    ∙ one_and more (at_moment end s)
    ∙ ap (λ (moment : ℕ). followed_by (made_at moment (is_due_by moment s) (at_moment end s)) (time_passes more)) next
    ∙ ap (λ (b : Bool). followed_by (made_at (s.page.clock + suc wait) b (at_moment end s)) (time_passes more)) due
    ∙ ap (λ step. followed_by (with_piece step) (time_passes more)) (same_turn (s.page.clock + suc wait) end s)

-- whether it is due by a moment, of the next timer
due_is : (moment due : ℕ) (b : Bool) (s : State) → due_next s.page ≡ Some due → nat_le due moment ≡ b
    → is_due_by moment s ≡ b
due_is moment due b s is by = ap (λ (next : Option ℕ). option_map_or (λ due. nat_le due moment) next false) is ∙ by

-- the first moment at which the next timer is due by then
pub turn_at : (wait more moment due : ℕ) (s : State) → due_next s.page ≡ Some due
    → moment ≡ max due (s.page.clock + 1) → moment ≡ s.page.clock + wait
    → time_passes (wait + more) s ≡ followed_by (with_piece (due_turn moment s)) (time_passes more)
turn_at zero more moment due s is first there = absurd (omega arith)
turn_at (suc wait) more moment due s is first there =
    quiet_and_turn wait more s
    (λ other after by. due_is other due false s is (lt-leb due other (omega (arith, after, by))))
    (due_is (s.page.clock + suc wait) due true s is (le-leb due (s.page.clock + suc wait) (omega arith)))
    ∙ ap (λ (n : ℕ). followed_by (with_piece (due_turn n s)) (time_passes more)) (sym there)

pub turn_when_due : (wait more : ℕ) (s : State) → 0 < wait → due_next s.page ≡ Some (s.page.clock + wait)
    → time_passes (wait + more) s
    ≡ followed_by (with_piece (due_turn (s.page.clock + wait) s)) (time_passes more)
turn_when_due wait more s some is =
    turn_at wait more (s.page.clock + wait) (s.page.clock + wait) s is (omega arith) refl

-- time that ends with the turn
pub turn_last : (wait moment due : ℕ) (s : State) → due_next s.page ≡ Some due
    → moment ≡ max due (s.page.clock + 1) → moment ≡ s.page.clock + wait
    → time_passes wait s ≡ with_piece (due_turn moment s)
turn_last wait moment due s is first there =
    let same : wait ≡ wait + 0 = omega arith in
    ap (λ (count : ℕ). time_passes count s) same
    ∙ turn_at wait 0 moment due s is first there
    ∙ ap (λ (o : Outcome). record { state = o.state; pieces = piece_of (due_turn moment s) ∷ o.pieces })
    (no_time (due_turn moment s).state)

-- ---- what time leaves of the packets

pub time_packets : (count : ℕ) (s : State) → (time_passes count s).state.packets ≡ s.packets
unfolding time_passes made_at
time_packets zero s = refl
time_packets (suc count) s =
    let moment = s.page.clock + 1 in
    time_packets count (made_at moment (is_due_by moment s) s).state ∙ made moment (is_due_by moment s)
  where
    made : (moment : ℕ) (due : Bool) → (made_at moment due s).state.packets ≡ s.packets
    made moment true = due_packets moment s
    made moment false = refl
