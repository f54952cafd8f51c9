use Rattle.event_messages.specs.Reading.{messages_in}
use Rattle.event_messages.proofs.MessageLemmas.{only, is_short, not_short}
use Rattle.event_messages.proofs.messages.read_messages.Goals as goal

pub returns-clause-only : goal.returns-clause-only
returns-clause-only c = λ messages has. only (messages_in c.args.section.now) messages c.messages.result c.messages.ensures.reading ((c.law_of_messages.ensures.ok c.args.section.now messages).0 has)

pub returns-clause-short : goal.returns-clause-short
returns-clause-short c = (
  λ e. (c.law_of_messages.ensures.short c.args.section.now).0 (is_short (messages_in c.args.section.now) c.messages.result c.messages.ensures.reading e),
  λ is. not_short (messages_in c.args.section.now) c.messages.result c.messages.ensures.reading c.messages.ensures.memory ((c.law_of_messages.ensures.short c.args.section.now).1 is),
)

pub returns-clause-memory : goal.returns-clause-memory
returns-clause-memory c = λ e.
    let read = c.messages.ensures.memory e in
    (read.0, (c.law_of_messages.ensures.ok c.args.section.now read.0).1 read.1, read.2)
