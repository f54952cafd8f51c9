use Rattle.file_generator.proofs.Generated.{good}
use Rattle.file_generator.proofs.laws.law_of_generated_files.Goals as goal

pub returns : goal.returns
returns c files seed count most g = good (record { counts = c.law_of_block_counts.ensures; dii = c.law_of_file_sizes.ensures.dii; modules = c.law_of_file_sizes.ensures.modules }) files seed count most g
