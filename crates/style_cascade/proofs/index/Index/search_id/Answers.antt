use Rattle.std.proofs.Common.{sym}
use Rattle.style_cascade.proofs.LookupLemmas.{for-id_number}
use Rattle.style_cascade.proofs.index.Index.search_id.Goals as goal

pub returns-in-Some-number-clause-sound : goal.returns-in-Some-number-clause-sound
returns-in-Some-number-clause-sound c = λ rules noted fits sound.
    c.search_asked.ensures.sound rules c.args.subject.now noted
    (for-id_number c.args.self.now.numbers.names.keys c.args.subject.now c.args.tag c.in-Some-number.id _ fits c.in-Some.is (sym (c.in-Some-number.ensures {u = tt}).number)) sound
