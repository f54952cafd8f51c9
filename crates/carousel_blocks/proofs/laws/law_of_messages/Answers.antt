use Rattle.carousel_blocks.proofs.CarriedLaws.{read_message, message_carried}
use Rattle.carousel_blocks.proofs.laws.law_of_messages.Goals as goal

pub returns : goal.returns
returns c = λ section message. (
  read_message c.law_of_dii.ensures.ok c.law_of_ddb.ensures.ok section message,
  message_carried c.law_of_dii.ensures.ok c.law_of_ddb.ensures.ok section message,
)
