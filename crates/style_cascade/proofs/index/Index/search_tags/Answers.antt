use Rattle.std.proofs.Common.{◌≡◌, Some, None, sym, ◌∙◌}
use Rattle.style_cascade.proofs.KeyLemmas.{for-none}
use Rattle.style_cascade.proofs.LookupLemmas.{both-covered, covers-kept, for-tag_number}
use Rattle.style_cascade.proofs.index.Index.search_tags.Goals as goal

pub returns-in-Some-clause-sound : goal.returns-in-Some-clause-sound
returns-in-Some-clause-sound c = λ rules noted sound.
    c.search_tag-in-Some.ensures.sound rules noted (for-tag_number c.args.self.now.numbers.names.keys c.args.subject.now c.in-Some.tag (sym (c.in-Some.ensures {u = tt}).number))
    (c.search_tag.ensures.sound rules noted (for-none c.args.self.now.numbers.names.keys c.args.subject.now) sound)

pub returns-in-Some-clause-covers : goal.returns-in-Some-clause-covers
returns-in-Some-clause-covers c =
    both-covered c.args.self.now.numbers.names.keys c.args.self.now.given.items c.args.self.now.chains.chains c.args.subject.now c.search_tag-in-Some.new.row
    (record {
      untagged = λ selector key state is e h when. covers-kept c.args.self.now.given.items c.args.self.now.chains.chains c.search_tag.new.row c.search_tag-in-Some.new.row state key c.search_tag-in-Some.ensures.keeps (c.search_tag.ensures.covers selector key state is e h when);
      tagged = λ number e selector key state is f h when.
          let both : Some number ≡ Some c.in-Some.tag = sym e ∙ sym (c.in-Some.ensures {u = tt}).number in
          let same : number ≡ c.in-Some.tag = cc both in
          c.search_tag-in-Some.ensures.covers selector key state is (f ∙ same) h when;
    })

pub returns-in-None-clause-sound : goal.returns-in-None-clause-sound
returns-in-None-clause-sound c = λ rules noted sound. c.search_tag.ensures.sound rules noted (for-none c.args.self.now.numbers.names.keys c.args.subject.now) sound

pub returns-in-None-clause-covers : goal.returns-in-None-clause-covers
returns-in-None-clause-covers c =
    both-covered c.args.self.now.numbers.names.keys c.args.self.now.given.items c.args.self.now.chains.chains c.args.subject.now c.search_tag.new.row
    (record {
      untagged = λ selector key state is e h when. c.search_tag.ensures.covers selector key state is e h when;
      tagged = λ number e selector key state is f h when. let none : Some number ≡ None = sym e ∙ sym (c.in-None.ensures {u = tt}).number in absurd (cc none);
    })
