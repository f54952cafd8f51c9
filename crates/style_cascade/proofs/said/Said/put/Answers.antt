use Rattle.std.proofs.Common.{List, get_or, ap, arith}
use Rattle.style_reader.specs.declared.properties.Property.{Property}
use Rattle.style_reader.specs.declared.properties.Property.TheVariants.{Left}
use Rattle.style_cascade.proofs.PlaceLemmas.{property_place-small}
use Rattle.style_cascade.proofs.SaidLemmas.{put-more}
use Rattle.style_cascade.proofs.said.Said.put.Goals as goal

pub put-requires-clause-within : goal.put-requires-clause-within
put-requires-clause-within c = omega (arith, c.requires.within, c.properties.invariant.long)

pub properties-preserved : goal.properties-preserved
properties-preserved c =
    put-more c.args.self.now c.args.node.0 c.args.state c.args.table.now c.properties.table c.put.new.self c.properties.index _ c.value.result
    (ap (λ (l : List Property). get_or l c.properties.index Left) c.all-properties.ensures) c.put.ensures c.value.ensures c.requires.within c.properties.invariant

pub returns-clause-here : goal.returns-clause-here
returns-clause-here c = λ property. c.properties.invariant.here property (omega (arith, property_place-small property, c.properties-test.false))
