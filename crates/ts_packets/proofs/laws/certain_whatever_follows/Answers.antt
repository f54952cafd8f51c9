use Rattle.ts_packets.proofs.Following.{IsCertainAt-stands, IsCertainAt-always}
use Rattle.ts_packets.proofs.laws.certain_whatever_follows.Goals as goal

pub returns : goal.returns
returns c = λ state place. (λ certain more may. IsCertainAt-stands state place more may certain, λ always. IsCertainAt-always state place always)
