use Rattle.bml_bytes.specs.declared.refusals.TableFault.TheVariants.{Kind, Short}
use Rattle.event_messages.specs.Reading.{messages_in}
use Rattle.event_messages.proofs.MessageLemmas.{section_takes, section_again, section_kind, section_short, same_ok, ok_err, both}
use Rattle.event_messages.proofs.laws.law_of_messages.Goals as goal

pub returns-clause-one : goal.returns-clause-one
returns-clause-one c = λ section messages others is too.
    same_ok messages others (messages_in section) (section_again c.law_of_fields.ensures c.law_of_descriptors.ensures.some section messages is) (section_again c.law_of_fields.ensures c.law_of_descriptors.ensures.some section others too)

pub returns-clause-ok : goal.returns-clause-ok
returns-clause-ok c = λ section messages. (section_again c.law_of_fields.ensures c.law_of_descriptors.ensures.some section messages, section_takes c.law_of_fields.ensures c.law_of_descriptors.ensures.some section messages)

pub returns-clause-kind : goal.returns-clause-kind
returns-clause-kind c = section_kind

pub returns-clause-short : goal.returns-clause-short
returns-clause-short c = λ section. (
  λ e.
      ((section_kind section).1 (λ f. both Kind Short (messages_in section) f e cc), λ messages is. ok_err messages Short (messages_in section) (section_again c.law_of_fields.ensures c.law_of_descriptors.ensures.some section messages is) e),
  λ is. section_short c.law_of_fields.ensures c.law_of_descriptors.ensures.some section is.0 is.1,
)
