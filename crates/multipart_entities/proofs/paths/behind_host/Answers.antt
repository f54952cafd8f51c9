use Rattle.std.proofs.Common.{refl, sym}
use Rattle.multipart_entities.proofs.FormLemmas.{behind_host-one, behind_host-two, behind_host-more}
use Rattle.multipart_entities.proofs.paths.behind_host.Goals as goal

pub returns-in_err-empty : goal.returns-in_err-empty
returns-in_err-empty c = rw c.from_residual.ensures (sym (behind_host-one c.args.codes.now c.in_err-empty.ensures))

pub returns-in_err-_host : goal.returns-in_err-_host
returns-in_err-_host c =
    rw c.from_residual-in_err-_host.ensures (sym (behind_host-two c.args.codes.now c.in_ok-empty.empty.now c.in_ok-empty.rest.now c.in_ok-empty.ensures c.in_err-_host.ensures))

pub returns-then-is_empty : goal.returns-then-is_empty
returns-then-is_empty c =
    rw (behind_host-more c.args.codes.now c.in_ok-empty.empty.now c.in_ok-empty.rest.now c.in_ok-_host._host.now c.in_ok-_host.rest.now c.in_ok-empty.ensures c.in_ok-_host.ensures, ← c.if-is_empty.ensures) refl

pub returns-else-is_empty : goal.returns-else-is_empty
returns-else-is_empty c =
    rw (behind_host-more c.args.codes.now c.in_ok-empty.empty.now c.in_ok-empty.rest.now c.in_ok-_host._host.now c.in_ok-_host.rest.now c.in_ok-empty.ensures c.in_ok-_host.ensures, ← c.if-is_empty.ensures) refl
