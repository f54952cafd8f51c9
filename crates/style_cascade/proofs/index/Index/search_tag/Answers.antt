use Rattle.style_cascade.proofs.LookupLemmas.{asked-kept, keeps-then, tag-covered}
use Rattle.style_cascade.proofs.index.Index.search_tag.Goals as goal

pub returns-clause-covers : goal.returns-clause-covers
returns-clause-covers c =
    tag-covered c.args.self.now.numbers.names.keys c.args.self.now.given.items c.args.self.now.chains.chains c.args.subject.now c.args.tag c.args.classes.now c.search_classes.new.row c.requires
    (record {
      plain = asked-kept c.args.self.now.given.items c.args.self.now.chains.chains c.search_asked.new.row c.search_classes.new.row _ (keeps-then c.search_asked.new.row c.search_id.new.row c.search_classes.new.row c.search_id.ensures.keeps c.search_classes.ensures.keeps) c.search_asked.ensures.covers;
      id = λ name number is e. asked-kept c.args.self.now.given.items c.args.self.now.chains.chains c.search_id.new.row c.search_classes.new.row _ c.search_classes.ensures.keeps (c.search_id.ensures.covers name number is e);
      classed = c.search_classes.ensures.covers;
    })
