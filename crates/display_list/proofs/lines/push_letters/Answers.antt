use Rattle.std.proofs.Common.{FitsSigned, rules}
use Rattle.std.specs.Int.{w16}
use Rattle.display_list.proofs.LineLemmas.{number_field-again, two-parts}
use Rattle.display_list.proofs.lines.push_letters.Goals as goal

pub returns-clause-ok : goal.returns-clause-ok
returns-clause-ok c =
    let style = c.args.style in
    let color : FitsSigned w16 style.color = search rules in
    let font_size : FitsSigned w16 style.font_size = search rules in
    two-parts c.args.out.now.items _ _ _ _
    (number_field-again _ _ style.color color (c.in_ok-push_number.ensures {u = tt}).ok)
    (number_field-again _ _ style.font_size font_size (c.in_ok-push_number-2.ensures {u = tt}).ok)
