use Rattle.std.specs.Prelude.{None}
use Rattle.module_store.proofs.SinceLaws.{has_messages_since, since_from, to_since}
use Rattle.module_store.proofs.laws.law_of_component_messages.Goals as goal

pub returns : goal.returns
returns c = record {
  messages = has_messages_since;
  places = λ told tag section. (
    λ i. let r = since_from None told tag section i in
        (r.0, record { stands = r.1.stands; pid = r.1.pid; before = r.1.before; behind = r.1.behind }),
    λ p. to_since None told tag section p.0 (record { stands = p.1.stands; pid = p.1.pid; before = p.1.before; behind = p.1.behind }),
  );
}
