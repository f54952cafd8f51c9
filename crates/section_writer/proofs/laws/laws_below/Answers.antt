use Rattle.section_writer.proofs.laws.laws_below.Goals as goal

pub returns : goal.returns
returns c = record {
  cut = c.packets_fit.ensures.packets;
  apart = c.packets_laid_end_to_end.ensures;
  one_run = c.packets_in_one_run.ensures;
  marks = c.pieces_behind_their_marks.ensures;
  stuffing = c.section_before_stuffing.ensures;
  crc = c.crc_behind_its_message.ensures.own;
}
