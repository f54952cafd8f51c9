-- Laws of demultiplexers. (This project's own.)
use Rattle.std.specs.Prelude.{◌≡◌, ◌≤◌, ◌==◌, ℕ, Bool, true, List, length}
use Rattle.std.specs.List.{list_any}
use Rattle.section_demultiplexer.specs.Demultiplexing.{DemultiplexerState, StandsFor, has_room, is_followed, pid_limit}

-- Where these PIDs, no more than there can be followed, are all that are wanted, and only such are
-- followed, there is room for each of them.
abbrev pub WantedHaveRoom : Type 0
WantedHaveRoom =
    (state : DemultiplexerState) (packets given : ℕ → List (List ℕ))
    (wanted : ℕ → Bool) (pids : List ℕ)
    → StandsFor state packets given
    → length pids ≤ pid_limit
    → ((pid : ℕ) → wanted pid ≡ true → list_any (λ p. p == pid) pids ≡ true)
    → ((pid : ℕ) → is_followed state pid ≡ true → wanted pid ≡ true)
    → (pid : ℕ) → wanted pid ≡ true → has_room state pid ≡ true

-- It stands for lists that are the same PID by PID.
abbrev pub SameLists : Type 0
SameLists =
    (state : DemultiplexerState) (packets given packets' given' : ℕ → List (List ℕ))
    → StandsFor state packets given
    → ((pid : ℕ) → packets pid ≡ packets' pid)
    → ((pid : ℕ) → given pid ≡ given' pid)
    → StandsFor state packets' given'
