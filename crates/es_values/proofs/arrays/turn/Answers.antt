use Rattle.es_values.proofs.TurnLemmas.{turned-all}
use Rattle.es_values.proofs.arrays.turn.Goals as goal

pub returns-clause-ok : goal.returns-clause-ok
returns-clause-ok c =
    turned-all c.law_of_decimals.ensures.number c.args.count c.args.properties.now c.in_ok-added.added.items c.put_all.new.self c.change_all.new.properties c.in_ok-changes.changes.items c.requires c.is_distinct.ensures c.in_ok-changes.ensures c.in_ok-added.ensures c.in_ok-put_all.ensures.ok c.change_all.ensures
