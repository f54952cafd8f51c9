use Rattle.carousel_writer.proofs.Fitting.{can-be-laid}
use Rattle.carousel_writer.proofs.GoodFileLaws.{are-good}
use Rattle.carousel_writer.proofs.laws.law_of_good_files.Goals as goal

pub returns : goal.returns
returns c files good = can-be-laid c.laws_below.ensures.limits files (are-good files good)
