use Rattle.std.proofs.Common.{◌≡◌, true, nat_eq, List, ℕ, refl, sym, subst}
use Rattle.std.proofs.lemmas.Bool.{eq-eqb, or_left}
use Rattle.style_cascade.specs.devices.Keys.{is_among}
use Rattle.style_cascade.proofs.chains.is_given.Goals as goal

pub returns-then-gives : goal.returns-then-gives
returns-then-gives c = λ h. record {
  rule = c.in-Some.first.now;
  among = c.rules.invariant c.in-Some.first.now (subst (λ (l : List ℕ). is_among c.in-Some.first.now l ≡ true) (sym (c.in-Some.ensures {u = tt}).cases.0) (or_left (nat_eq c.in-Some.first.now c.in-Some.first.now) (is_among c.in-Some.first.now c.in-Some.more.now) (eq-eqb c.in-Some.first.now c.in-Some.first.now refl)));
  gives = c.if-gives.ensures {u = tt} refl;
}
