use Rattle.std.proofs.Common.{◌≡◌, List, ℕ, length, take, ◌-◌, subst, sym}
use Rattle.bml_reader.specs.Bytes.{front}
use Rattle.bml_reader.specs.devices.Views.{in_class}
use Rattle.bml_reader.proofs.ByteLemmas.{take-front}
use Rattle.bml_reader.proofs.bytes.split_run.Goals as goal

pub returns-clause-run : goal.returns-clause-run
returns-clause-run c = subst (λ (r : List ℕ). take (length c.args.bytes.now - length r) c.args.bytes.now ≡ front (in_class c.args.class) c.args.bytes.now) (sym c.behind_run-rest.ensures.rest) (take-front (in_class c.args.class) c.args.bytes.now)
