use Rattle.std.proofs.Common.{◌∙◌, ap}
use Rattle.es_values.specs.declared.values.Value.{Value}
use Rattle.es_values.specs.Heaps.{object_at, value_of}
use Rattle.date_objects.specs.Dates.{day_name, moment_told}
use Rattle.date_objects.proofs.dates.moment_in.Goals as goal

pub returns-clause-moment : goal.returns-clause-moment
returns-clause-moment c =
    let object = object_at c.args.heap.now c.args.object in
    c.told.ensures.moment
    ∙ (ap (λ (day : Value). moment_told day c.in_ok-second-2.second)
    (c.in_ok-day-2.ensures.value ∙ ap (value_of object) c.in_ok-day.ensures)
    ∙ ap (moment_told (value_of object day_name))
    (c.in_ok-second-2.ensures.value ∙ ap (value_of object) c.in_ok-second.ensures))
