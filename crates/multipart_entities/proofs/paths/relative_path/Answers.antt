use Rattle.std.proofs.Common.{refl, sym}
use Rattle.multipart_entities.proofs.FormLemmas.{relative_in-one, relative_in-two, relative_in-more, relative_in-other}
use Rattle.multipart_entities.proofs.paths.relative_path.Goals as goal

pub returns-in_err-name-in-None : goal.returns-in_err-name-in-None
returns-in_err-name-in-None c =
    rw (c.from_residual.ensures, relative_in-one c.args.base.now c.args.codes.now c.in-None.ensures, ← c.in_err-name-in-None.ensures) refl

pub returns-in_ok-name-in-None : goal.returns-in_ok-name-in-None
returns-in_ok-name-in-None c =
    rw (relative_in-one c.args.base.now c.args.codes.now c.in-None.ensures, ← c.in_ok-name-in-None.ensures) refl

pub returns-in_err-field-in-Some : goal.returns-in_err-field-in-Some
returns-in_err-field-in-Some c =
    rw c.from_residual-in_err-field-in-Some.ensures (sym (relative_in-two c.args.base.now c.args.codes.now c.in-Some.front.now c.in-Some.rest.now c.in-Some.ensures c.in_err-field-in-Some.ensures))

pub returns-in_ok-field-in-Some : goal.returns-in_ok-field-in-Some
returns-in_ok-field-in-Some c =
    rw (relative_in-more c.args.base.now c.args.codes.now c.in-Some.front.now c.in-Some.rest.now c.in_ok-field-in-Some.field.now c.in_ok-field-in-Some.name.now c.in-Some.ensures c.in_ok-field-in-Some.ensures, ← c.if-is_word.ensures) c.resource_path.ensures

pub returns-else-is_word : goal.returns-else-is_word
returns-else-is_word c = sym (relative_in-other c.args.base.now c.args.codes.now c.in-Some.front.now c.in-Some.rest.now c.in-Some.ensures (sym c.if-is_word.ensures))
