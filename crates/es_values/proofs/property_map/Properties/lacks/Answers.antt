use Rattle.std.proofs.Common.{◌∙◌, ap, sym}
use Rattle.es_values.specs.Arrays.{element_at}
use Rattle.es_values.specs.Slots.{standing}
use Rattle.es_values.proofs.property_map.Properties.lacks.Goals as goal

pub returns-then-place-lt2147483647 : goal.returns-then-place-lt2147483647
returns-then-place-lt2147483647 c h =
    ap (λ es. element_at es c.args.place) (sym c.self.view_is)
    ∙ c.lacks.ensures h (standing c.self.inside.slots.items) c.self.invariant.1 c.if-place-lt2147483647.true
