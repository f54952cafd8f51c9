-- In which order a run asks of the world, over plain values.
use Rattle.std.proofs.Common.{◌≡◌, ◌≢◌, ℕ, List, true, false, ◌⊎◌, inl, inr, Some, Result, Ok, Err}
use Rattle.std.proofs.Common.{refl, ◌∙◌, ap, subst, IfErr}
use Rattle.std.specs.Prelude.{IfSome, IsSome}
use Rattle.bml_ports.specs.declared.outside.Port.{Port}
use Rattle.bml_ports.specs.Worlds.{WorldState, port_of, other_port}
use Rattle.replay_run.specs.declared.status.Status.{Status}
use Rattle.replay_run.specs.declared.status.Status.TheVariants.{Done, Usage, BadRecord, OpenFault}
use Rattle.replay_run.specs.declared.status.Status.TheVariants.{ReadFault, WriteFault, KeepFault}
use Rattle.replay_run.specs.declared.status.Status.TheVariants.{BadArea, TooLong, NoMemory}
use Rattle.replay_run.specs.Order.{EndsBetween, IsOpening, OpensThen, ReadsNoneAtBadArea}
use Rattle.replay_run.specs.Outside.{Outside}
use Rattle.replay_run.specs.Replaying.{StopsOpening, StopsPlay, StopsReplay}
use Rattle.replay_run.specs.Status.{outcome_of}

-- where opening stops, nothing was asked for, or the opening failed
pub stops_asking : (status : Status) (port : Port) (name : List ℕ) (old new : WorldState)
    (Rest : WorldState → Type 0) → StopsOpening status port old new
    → (status ≡ OpenFault → IsOpening port name false old new)
    → EndsBetween status old new ⊎ OpensThen port name status old new Rest
stops_asking OpenFault port name old new Rest s failed = inr (inl (refl, failed refl))
stops_asking NoMemory port name old new Rest s failed = inl (s, λ e. cc)
stops_asking Done port name old new Rest s failed = absurd s
stops_asking Usage port name old new Rest s failed = absurd s
stops_asking (BadRecord line) port name old new Rest s failed = absurd s
stops_asking ReadFault port name old new Rest s failed = absurd s
stops_asking WriteFault port name old new Rest s failed = absurd s
stops_asking KeepFault port name old new Rest s failed = absurd s
stops_asking (BadArea size) port name old new Rest s failed = absurd s
stops_asking TooLong port name old new Rest s failed = absurd s

-- what a world says of an opening
pub opens_as : (port : Port) (name asked : List ℕ) (old new : WorldState) → asked ≡ name
    → (port_of new port).asked ≡ Some asked → (port_of new port).readable ≡ true
    → new.openings.last_failed ≡ false
    → IfSome old.files (λ bytes_of.
    IsSome (bytes_of asked) × ((port_of new port).left ≡ bytes_of asked))
    → new.files ≡ old.files → port_of new (other_port port) ≡ port_of old (other_port port)
    → IsOpening port name true old new
opens_as port name asked old new same a r l found f o = record {
  asked = a ∙ ap (λ n. Some n) same;
  readable = r;
  failed = l;
  found = λ t. subst (λ n. IfSome old.files (λ bytes_of.
      IsSome (bytes_of n) × ((port_of new port).left ≡ bytes_of n))) same found;
  files = f;
  other = o;
}

-- and of one that failed
pub fails_as : (port : Port) (name asked : List ℕ) (old new : WorldState) → asked ≡ name
    → (port_of new port).asked ≡ Some asked → (port_of new port).readable ≡ false
    → new.openings.last_failed ≡ true → new.files ≡ old.files
    → port_of new (other_port port) ≡ port_of old (other_port port)
    → IsOpening port name false old new
fails_as port name asked old new same a r l f o = record {
  asked = a ∙ ap (λ n. Some n) same;
  readable = r;
  failed = l;
  found = λ t. absurd (cc);
  files = f;
  other = o;
}

-- a replay of open files doesn't end as if one weren't
pub play_opened : (result : Result (Unit {0}) Status) (old new : Outside)
    → IfErr result (λ status. StopsReplay status old new) → outcome_of result ≢ OpenFault
play_opened (Ok u) old new stops e = let clash : Done ≡ OpenFault = e in cc
play_opened (Err status) old new stops e =
    let P : Status → Type 0 = λ s. StopsReplay s old new in subst P e stops

-- nor does one that has begun end at the kept bytes
pub play_reads : (result : Result (Unit {0}) Status) (old new : Outside) (ready behind : WorldState)
    → IfErr result (λ status. StopsPlay status old new)
    → ReadsNoneAtBadArea (outcome_of result) ready behind
play_reads (Ok u) old new ready behind stops size e = let clash : Done ≡ BadArea size = e in cc
play_reads (Err status) old new ready behind stops size e =
    let P : Status → Type 0 = λ s. StopsPlay s old new in absurd (subst P e stops)
