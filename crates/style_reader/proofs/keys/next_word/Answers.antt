use Rattle.std.proofs.Common.{◌≡◌, ◌<◌, length, arith}
use Rattle.std.proofs.lemmas.Bool.Decides.{nat_tests}
use Rattle.style_reader.proofs.WordLemmas.{words_of-none, words_of-last, words_of-more}
use Rattle.style_reader.proofs.keys.next_word.Goals as goal

pub returns-then-is_empty-clause-first : goal.returns-then-is_empty-clause-first
returns-then-is_empty-clause-first c =
    let empty : length c.without_white_front-text.result.now ≡ 0 = grind (arith, nat_tests) in
    words_of-none c.args.text.now c.without_white_front-text.result.now c.without_white_front-text.ensures.text empty

pub returns-in-Some-clause-first : goal.returns-in-Some-clause-first
returns-in-Some-clause-first c =
    let some : 0 < length c.without_white_front-text.result.now = grind (arith, nat_tests) in
    words_of-more c.args.text.now c.without_white_front-text.result.now c.in-Some.end c.without_white_front-text.ensures.text some c.in-Some.ensures

pub returns-in-None-clause-first : goal.returns-in-None-clause-first
returns-in-None-clause-first c =
    let some : 0 < length c.without_white_front-text.result.now = grind (arith, nat_tests) in
    words_of-last c.args.text.now c.without_white_front-text.result.now c.without_white_front-text.ensures.text some c.in-None.ensures
