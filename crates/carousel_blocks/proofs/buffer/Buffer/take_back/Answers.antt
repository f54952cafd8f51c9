use Rattle.std.proofs.Common.{◌∙◌, ap, sym}
use Rattle.std.specs.Prelude.{Option}
use Rattle.carousel_blocks.specs.Buffers.{BufferState, buffer_of}
use Rattle.carousel_blocks.proofs.BufferLaws.{back_none}
use Rattle.carousel_blocks.proofs.buffer.Buffer.take_back.Goals as goal

pub returns : goal.returns
returns c = c.self.view_is ∙ back_none c.self.inside.shape c.args.number c.args.self.now (ap (λ (o : Option BufferState). buffer_of c.self.inside.shape o) (sym c.in_default.is) ∙ c.self.view_is)
