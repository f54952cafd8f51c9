use Rattle.style_cascade.proofs.LookupLemmas.{list-more, list-start}
use Rattle.style_cascade.proofs.index.Index.search_classes.Goals as goal

pub classes-init : goal.classes-init
classes-init c = list-start c.args.self.now.numbers.names.keys c.args.self.now.given.items c.args.self.now.chains.chains c.args.tag c.args.classes.now c.args.row.now

pub classes-preserved : goal.classes-preserved
classes-preserved c = list-more c.args.self.now.numbers.names.keys c.args.self.now.given.items c.args.self.now.chains.chains c.args.tag c.args.classes.now c.classes.rest.now c.in-Some.more.now c.in-Some.first.now c.args.row.now c.classes.row c.search_asked.new.row (c.in-Some.ensures {u = tt}).cases.0
    (record { keeps = c.search_asked.ensures.keeps; sound = c.search_asked.ensures.sound; covers = c.search_asked.ensures.covers })
    c.classes.invariant
