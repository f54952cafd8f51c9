use Rattle.std.proofs.Common.{ap, sym, ◌∙◌}
use Rattle.std.proofs.lemmas.List.Elements.{filter_map-append}
use Rattle.carousel_blocks.specs.Held.{bytes_held}
use Rattle.carousel_blocks.specs.InForce.{in_force}
use Rattle.carousel_blocks.specs.Message.{message_of, messages_of}
use Rattle.carousel_laws.proofs.SectionLemmas.{same_held, stays_in_force}
use Rattle.carousel_laws.proofs.laws.law_of_carousel_freedom.Goals as goal

pub returns-clause-held : goal.returns-clause-held
returns-clause-held c = λ before first second dii number r.
    ap (λ messages. bytes_held messages number) (filter_map-append message_of before first)
    ∙ same_held c.law_of_messages.ensures c.law_of_block_order.ensures (messages_of before) dii first second number r
    ∙ sym (ap (λ messages. bytes_held messages number) (filter_map-append message_of before second))

pub returns-clause-force : goal.returns-clause-force
returns-clause-force c = λ before sections dii force repeat.
    ap in_force (filter_map-append message_of before sections)
    ∙ stays_in_force c.law_of_messages.ensures (messages_of before) dii sections force repeat
