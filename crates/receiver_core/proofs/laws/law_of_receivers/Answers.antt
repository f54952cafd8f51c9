use Rattle.receiver_core.proofs.ReceivingLaws.{all_given, front_of_standing}
use Rattle.receiver_core.proofs.laws.law_of_receivers.Goals as goal

pub returns-clause-front : goal.returns-clause-front
returns-clause-front c = front_of_standing

pub returns-clause-all : goal.returns-clause-all
returns-clause-all c = all_given
