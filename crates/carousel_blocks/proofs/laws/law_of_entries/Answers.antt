use Rattle.std.proofs.Common.{ap}
use Rattle.std.specs.Prelude.{option_map}
use Rattle.carousel_blocks.specs.declared.standing.Standing.{Standing}
use Rattle.carousel_blocks.proofs.EntryPlaceLaws.{entry_standing, absent_entry, skipped_compressed, compressed_skipped, skipped_large, large_skipped}
use Rattle.carousel_blocks.proofs.laws.law_of_entries.Goals as goal

pub returns-clause-entry : goal.returns-clause-entry
returns-clause-entry c = λ dii place entry counts. ap (option_map (λ (s : Standing). s.entry)) (entry_standing dii place entry counts)

pub returns-clause-absent : goal.returns-clause-absent
returns-clause-absent c = λ dii number. absent_entry dii number

pub returns-clause-compressed : goal.returns-clause-compressed
returns-clause-compressed c = λ dii place entry counts. (skipped_compressed dii place entry counts, compressed_skipped dii place entry counts)

pub returns-clause-large : goal.returns-clause-large
returns-clause-large c = λ dii place entry counts. (skipped_large dii place entry counts, large_skipped dii place entry counts)
