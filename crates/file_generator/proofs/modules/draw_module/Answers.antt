use Rattle.std.proofs.Common.{refl}
use Rattle.std.proofs.lemmas.Result.{IfOk-weaker}
use Rattle.file_generator.proofs.Drawing.{draws-module}
use Rattle.file_generator.proofs.modules.draw_module.Goals as goal

pub returns : goal.returns
returns c = IfOk-weaker c.draw_bytes.result _ _ (λ bytes h. draws-module _ _ _ _ _ _ c.next_word.ensures refl h.0 h.1) c.draw_bytes.ensures
