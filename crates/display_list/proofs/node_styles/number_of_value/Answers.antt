use Rattle.std.proofs.Common.{ap, sym, ◌∙◌, FitsSigned}
use Rattle.std.specs.Int.{w16}
use Rattle.style_reader.specs.Values.{fits}
use Rattle.display_list.specs.Shown.{number_in}
use Rattle.display_list.proofs.ValueLemmas.{cast-fits, cast-is, fits-number}
use Rattle.display_list.proofs.node_styles.number_of_value.Goals as goal

pub overflow_cast-result : goal.overflow_cast-result
overflow_cast-result c =
    let number : FitsSigned w16 c.in-Whole.number = fits-number c.args.property c.in-Whole.number (ap (fits c.args.property) (sym c.in-Whole.is) ∙ c.requires) in
    cast-fits c.in-Whole.number number

pub returns-in-Whole : goal.returns-in-Whole
returns-in-Whole c =
    let number : FitsSigned w16 c.in-Whole.number = fits-number c.args.property c.in-Whole.number (ap (fits c.args.property) (sym c.in-Whole.is) ∙ c.requires) in
    cast-is c.in-Whole.number number ∙ ap number_in (sym c.in-Whole.is)
