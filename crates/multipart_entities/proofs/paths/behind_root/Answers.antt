use Rattle.std.proofs.Common.{refl, sym}
use Rattle.multipart_entities.proofs.FormLemmas.{behind_root-one, behind_root-more}
use Rattle.multipart_entities.proofs.paths.behind_root.Goals as goal

pub returns-in_err-front : goal.returns-in_err-front
returns-in_err-front c = rw c.from_residual.ensures (sym (behind_root-one c.args.codes.now c.in_err-front.ensures))

pub returns-then-is_empty : goal.returns-then-is_empty
returns-then-is_empty c =
    rw (behind_root-more c.args.codes.now c.in_ok-front.front.now c.in_ok-front.rest.now c.in_ok-front.ensures, ← c.if-is_empty.ensures) refl

pub returns-then-is_word : goal.returns-then-is_word
returns-then-is_word c =
    rw (behind_root-more c.args.codes.now c.in_ok-front.front.now c.in_ok-front.rest.now c.in_ok-front.ensures, ← c.if-is_empty.ensures, ← c.if-is_word.ensures) c.behind_host.ensures

pub returns-else-is_word : goal.returns-else-is_word
returns-else-is_word c =
    rw (behind_root-more c.args.codes.now c.in_ok-front.front.now c.in_ok-front.rest.now c.in_ok-front.ensures, ← c.if-is_empty.ensures, ← c.if-is_word.ensures) refl
