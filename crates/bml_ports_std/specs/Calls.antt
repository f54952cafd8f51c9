-- How calls of the operating system are counted, of this project's own.
use Rattle.std.specs.Prelude.{Bool, false, if◌then◌else◌}
use Rattle.bml_ports.specs.Counters.{Counter, counted}

-- no call was made
abbrev pub no_faults : Counter
no_faults = record { faults = 0; last_failed = false }

-- one more call, which failed or not: each failed call is one fault more, and no other call is
abbrev pub after_call : Counter → Bool → Counter
after_call calls failed = record {
  faults = (if failed then counted calls.faults else calls.faults);
  last_failed = failed;
}
