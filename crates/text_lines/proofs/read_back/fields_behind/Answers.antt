use Rattle.std.proofs.Common.{sym, ◌∙◌}
use Rattle.text_lines.proofs.ReadBackLaws.{all_fields}
use Rattle.text_lines.proofs.read_back.fields_behind.Goals as goal

pub returns : goal.returns
returns c =
    c.with_numbers.ensures
    ∙ sym (all_fields c.args.rest.now c.in_ok-x.x.now c.in_ok-y.y.now c.in_ok-width.width.now c.in_ok-_height._height.now c.in_ok-_color._color.now c.in_ok-size.size.now c.in_ok-size.bytes.now
    c.in_ok-x.rest.now c.in_ok-y.rest.now c.in_ok-width.rest.now c.in_ok-_height.rest.now c.in_ok-_color.rest.now
    c.in_ok-x.ensures.cut c.in_ok-y.ensures.cut c.in_ok-width.ensures.cut c.in_ok-_height.ensures.cut c.in_ok-_color.ensures.cut c.in_ok-size.ensures.cut)
