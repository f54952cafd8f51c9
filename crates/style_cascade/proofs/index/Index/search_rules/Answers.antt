use Rattle.std.proofs.Common.{List, ap, ◌∙◌}
use Rattle.style_reader.specs.declared.declarations.Declaration.{Declaration}
use Rattle.style_cascade.specs.devices.Chains.{given_value}
use Rattle.style_cascade.proofs.LookupLemmas.{offered-by, walk-more, walk-start}
use Rattle.style_cascade.proofs.index.Index.search_rules.Goals as goal

pub numbers-init : goal.numbers-init
numbers-init c = walk-start c.args.self.now.given.items c.args.numbers.now c.args.specificity c.args.state c.args.row.now

pub numbers-preserved : goal.numbers-preserved
numbers-preserved c = walk-more c.args.self.now.given.items c.args.numbers.now c.numbers.rest.now c.in-Some.more.now c.in-Some.first.now c.args.specificity c.args.state c.args.row.now c.numbers.row c.offer_each.new.self (c.in-Some.ensures {u = tt}).cases.0
    (offered-by c.args.self.now.given.items c.in-Some.first.now c.args.specificity c.args.state c.numbers.row c.offer_each.new.self c.declarations_of-declarations.result.now
    (λ property. c.declarations_of-declarations.ensures property ∙ ap (λ (g : List (List Declaration)). given_value g c.in-Some.first.now property) c.as_slice.ensures.value) c.offer_each.ensures.here c.offer_each.ensures.others)
    c.numbers.invariant
