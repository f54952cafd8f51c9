use Rattle.carousel_writer.proofs.RepeatLaws.{counting-repeats, in_force-repeats, standing-of}
use Rattle.carousel_writer.proofs.laws.laws_below.Goals as goal

pub returns : goal.returns
returns c = record {
  limits = record {
    count = c.law_of_big_numbers.ensures.count;
    descriptors = c.law_of_descriptors.ensures.some;
    block_counts = c.law_of_block_counts.ensures;
    compressed = c.law_of_entries.ensures.compressed;
    large = c.law_of_entries.ensures.large;
  };
  cut = c.law_of_written_streams.ensures.packets;
  read = c.law_of_written_streams.ensures.sections;
  intact = c.law_of_written_sections.ensures.intact;
  one = c.law_of_written_sections.ensures.one;
  messages = c.law_of_messages.ensures;
  entry = c.law_of_entries.ensures.entry;
  absent = c.law_of_entries.ensures.absent;
  download = λ dii number standing e. (standing-of dii number standing e).download;
  block_size = λ dii number standing e. (standing-of dii number standing e).block_size;
  stays_in_force = in_force-repeats;
  counting = counting-repeats;
  first = c.law_of_first_blocks.ensures;
  held = c.law_of_held_modules.ensures;
}
