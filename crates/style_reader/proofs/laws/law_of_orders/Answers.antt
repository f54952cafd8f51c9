use Rattle.style_reader.proofs.OrderLaws.{given_by-append}
use Rattle.style_reader.proofs.laws.law_of_orders.Goals as goal

pub returns : goal.returns
returns c = given_by-append
