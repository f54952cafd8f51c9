use Rattle.carousel_writer.proofs.FileSizes.{short-dii, unskipped-files}
use Rattle.carousel_writer.proofs.laws.law_of_file_sizes.Goals as goal

pub returns-clause-dii : goal.returns-clause-dii
returns-clause-dii c files = short-dii c.laws_below.ensures.limits.count files

pub returns-clause-modules : goal.returns-clause-modules
returns-clause-modules c files positive own = unskipped-files c.laws_below.ensures.limits files positive own
