use Rattle.std.proofs.Common.{arith}
use Rattle.multipart_entities.proofs.PrintLemmas.{HexLaw, printed_resolves}
use Rattle.multipart_entities.proofs.path_laws.law_of_printed_paths.Goals as goal

pub returns : goal.returns
returns c =
    let digits : HexLaw = record {
      read_back = λ count number fits. c.law_of_digits.ensures.read_back 16 count number (omega arith) fits;
      below = λ count number. c.law_of_digits.ensures.below 16 count number (omega arith);
      count_is = λ count number. c.law_of_digits.ensures.count 16 count number;
    } in
    printed_resolves digits
