use Rattle.std.proofs.Common.{FitsSigned, rules}
use Rattle.std.specs.Int.{w16}
use Rattle.display_list.proofs.LineLemmas.{number_field-again, three-parts}
use Rattle.display_list.proofs.lines.push_border.Goals as goal

pub returns-clause-ok : goal.returns-clause-ok
returns-clause-ok c =
    let style = c.args.style in
    let background : FitsSigned w16 style.background = search rules in
    let border_width : FitsSigned w16 style.border_width = search rules in
    let border_color : FitsSigned w16 style.border_color = search rules in
    three-parts c.args.out.now.items _ _ _ _ _ _
    (number_field-again _ _ style.background background (c.in_ok-push_number.ensures {u = tt}).ok)
    (number_field-again _ _ style.border_width border_width (c.in_ok-push_number-2.ensures {u = tt}).ok)
    (number_field-again _ _ style.border_color border_color (c.in_ok-push_number-3.ensures {u = tt}).ok)
