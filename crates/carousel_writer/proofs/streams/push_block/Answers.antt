use Rattle.std.proofs.Common.{◌∙◌}
use Rattle.carousel_writer.proofs.Sending.{sent-as}
use Rattle.carousel_writer.proofs.streams.push_block.Goals as goal

pub returns-clause-sent : goal.returns-clause-sent
returns-clause-sent c = sent-as _ _ _ _ _ _ _ (c.as_slice.ensures.value ∙ c.in_ok-section.ensures.section) c.in_ok-next.ensures.alone
