use Rattle.carousel_writer.proofs.GoodFileLaws.{all-unskipped, same-test, unskipped-all}
use Rattle.carousel_writer.proofs.good_files.are_unskipped.Goals as goal

pub returns : goal.returns
returns c =
    let files = c.args.files.now in
    let modules = files.modules.items in
    same-test _ _ (λ t. all-unskipped files modules (c.are_small.ensures.0 t)) (λ t. c.are_small.ensures.1 (unskipped-all files modules t))
