use Rattle.std.proofs.Common.{sym, ap, ◌∙◌}
use Rattle.std.specs.Prelude.{option_copied}
use Rattle.carousel_blocks.proofs.PutLaws.{whole_skipped, whole_gone, whole_there}
use Rattle.carousel_blocks.proofs.modules.whole_of.Goals as goal

pub returns-in_err-module-2 : goal.returns-in_err-module-2
returns-in_err-module-2 c =
    ap option_copied c.from_residual-in_err-module-2.ensures
    ∙ whole_skipped c.args.modules.now c.args.buffers.now c.args.number c.in_ok-module.module.now c.requires (sym c.in_ok-module.ensures.value) c.in_err-module-2.was

pub returns-in_err-buffer : goal.returns-in_err-buffer
returns-in_err-buffer c =
    whole_gone c.args.modules.now c.args.buffers.now c.args.number c.in_ok-module.module.now c.in_ok-module-2.field-0 c.requires (sym c.in_ok-module.ensures.value) c.in_ok-module-2.was c.in_err-buffer.ensures

pub returns : goal.returns
returns c =
    c.whole.ensures
    ∙ whole_there c.args.modules.now c.args.buffers.now c.args.number c.in_ok-module.module.now c.in_ok-module-2.field-0 c.in_ok-buffer.buffer.now c.requires (sym c.in_ok-module.ensures.value) c.in_ok-module-2.was c.in_ok-buffer.ensures
