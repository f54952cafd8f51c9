use Rattle.block_order_laws.proofs.OrderLemmas.{AlikeLaws, SettledLaws, come_to_the_same}
use Rattle.block_order_laws.proofs.SectionLemmas.{TableLaws}
use Rattle.block_order_laws.proofs.laws.law_of_first_loads.Goals as goal

pub returns : goal.returns
returns c =
    let tables : TableLaws = record { service = c.law_of_unread_sections.ensures.service; map = c.law_of_unread_sections.ensures.map } in
    let settled : SettledLaws = record {
      told = c.law_of_settled_paths.ensures.told;
      looks = c.law_of_settled_paths.ensures.looks;
      start = c.law_of_settled_paths.ensures.start;
      messages = c.law_of_settled_paths.ensures.messages;
      force = c.law_of_settled_paths.ensures.force;
    } in
    let alike : AlikeLaws = record {
      locks = c.law_of_same_services.ensures.locks;
      looks = c.law_of_same_services.ensures.looks;
      start = c.law_of_same_services.ensures.start;
      presence = c.law_of_same_services.ensures.presence;
      held = c.law_of_same_services.ensures.held;
    } in
    come_to_the_same tables settled alike
