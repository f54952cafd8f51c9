use Rattle.std.proofs.Common.{refl}
use Rattle.carousel_blocks.specs.InForce.{in_force}
use Rattle.carousel_blocks.proofs.OrderLaws.{repeat_same}
use Rattle.carousel_blocks.proofs.ToldLaws.{changes-none, changes-repeated, changes-ignored}
use Rattle.carousel_blocks.proofs.laws.law_of_no_change.Goals as goal

pub returns-clause-same : goal.returns-clause-same
returns-clause-same c = λ messages. changes-none messages messages (λ n. refl)

pub returns-clause-repeated : goal.returns-clause-repeated
returns-clause-repeated c = λ messages dii other f e. changes-repeated messages other (repeat_same (in_force messages) dii other f e)

pub returns-clause-ignored : goal.returns-clause-ignored
returns-clause-ignored c = λ messages block e. changes-ignored messages block e
