-- The calls on a port in memory, of this project's own.
use Rattle.std.specs.Prelude.{ℕ, List, Bool, false, if◌then◌else◌, Contains}
use Rattle.bml_ports.specs.declared.memory_calls.Calls.{Calls}
use Rattle.bml_ports.specs.Counters.{Counter, counted}

abbrev pub no_calls : Calls
no_calls = record { made = 0; faults = 0; last_failed = false }

-- the calls after one more, which failed or not
abbrev pub after_call : Calls → Bool → Calls
after_call calls failed = record {
  made = counted calls.made;
  faults = (if failed then counted calls.faults else calls.faults);
  last_failed = failed;
}

abbrev pub counter_of : Calls → Counter
counter_of calls = record { faults = calls.faults; last_failed = calls.last_failed }

-- the number of the next call, counted from 1, is in the list of those that are to fail
abbrev pub FailsNext : List ℕ → Calls → Type 0
FailsNext failing calls = Contains failing (counted calls.made)
