use Rattle.std.proofs.Common.{ap, ◌∙◌, ◌+◌, ◌%◌}
use Rattle.section_writer.proofs.Carrying.{carried, others}
use Rattle.section_writer.proofs.Sending.{alone, length-section_contents}
use Rattle.section_writer.proofs.packets.push_section.Goals as goal

pub returns-clause-bytes : goal.returns-clause-bytes
returns-clause-bytes c = c.in_ok-next.ensures.appended.bytes

pub returns-clause-next : goal.returns-clause-next
returns-clause-next c = c.in_ok-next.ensures.appended.counter_is ∙ ap (λ n. (c.args.counter + n) % 16) (length-section_contents _)

pub returns-clause-alone : goal.returns-clause-alone
returns-clause-alone c = alone _ _ _ _ _ _ c.in_ok-next.ensures.appended

pub returns-clause-carried : goal.returns-clause-carried
returns-clause-carried c = carried c.laws_below.ensures _ _ _ _ _ _ c.requires.pid c.in_ok-next.ensures.appended

pub returns-clause-others : goal.returns-clause-others
returns-clause-others c = others c.laws_below.ensures _ _ _ _ _ _ c.requires.pid c.in_ok-next.ensures.appended
