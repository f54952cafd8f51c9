use Rattle.std.proofs.Common.{◌≤◌, length, sym, arith}
use Rattle.std.proofs.lemmas.List.{length-take-le, take_all}
use Rattle.browser_objects.proofs.registers.first_codes.Goals as goal

pub slice_bounds-of_codes-end : goal.slice_bounds-of_codes-end
slice_bounds-of_codes-end c =
    let long : 256 ≤ length c.codes.result.now = rw c.codes.ensures (omega arith) in
    sym (length-take-le 256 c.codes.result.now long)

pub returns-then-len-le-MOST_CODES : goal.returns-then-len-le-MOST_CODES
returns-then-len-le-MOST_CODES c =
    let short : length c.args.text.now ≤ 256 = omega arith in
    rw (take_all 256 c.args.text.now short) c.share.ensures
