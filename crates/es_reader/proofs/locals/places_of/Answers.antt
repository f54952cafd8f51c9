use Rattle.std.proofs.Common.{◌≡◌, ◌∙◌, ◌+◌, ◌-◌, ◌<◌, Some, cond, length, ap, sym, subst, arith}
use Rattle.std.specs.Prelude.{slice_get}
use Rattle.std.proofs.lemmas.Option.{slice_get-get_or}
use Rattle.std.specs.Map.{lookup}
use Rattle.bml_bytes.specs.Words.{is_same}
use Rattle.es_reader.specs.devices.Lookups.{FindsPlacesFrom}
use Rattle.es_reader.proofs.LookupLemmas.{one_more}
use Rattle.es_reader.proofs.locals.places_of.Goals as goal

pub names-preserved : goal.names-preserved
names-preserved c =
    let names = c.args.names.now in
    let place = c.names.place - 1 in
    let back : c.names.place ≡ place + 1 = omega arith in
    let before : FindsPlacesFrom c.names.places.entries (place + 1) names =
    subst (λ n. FindsPlacesFrom c.names.places.entries n names) back c.names.invariant.found in
    let within : place < length names = omega arith in
    let here : slice_get names place ≡ Some c.index-names-place.result =
    slice_get-get_or names place c.index-names-place.result within
    ∙ ap Some (sym c.index-names-place.is) in
    record {
      within = omega arith;
      found = one_more c.names.places.entries c.insert.new.self.entries names place
          c.index-names-place.result here before
          (λ other. (c.in_ok-insert.ensures {u = tt}).updates.0 other
          ∙ ap (λ key. cond (is_same key other) (Some place) (lookup (is_same other) c.names.places.entries))
          (c.in_ok-name.ensures {u = tt}));
    }
