use Rattle.std.proofs.Common.{inl, inr, subst}
use Rattle.style_cascade.specs.devices.Keys.{IsKeyOf}
use Rattle.style_cascade.specs.declared.keys.Key.{Key}
use Rattle.style_cascade.proofs.ChainLemmas.{OnOk-then}
use Rattle.style_cascade.proofs.chains.Chains.note_selector.Goals as goal

pub returns-in-Some-clause-only : goal.returns-in-Some-clause-only
returns-in-Some-clause-only c = OnOk-then c.note.result _ _ c.note.ensures.only (λ only key other h. elim (only key other h) [
  | inl old ↦ inl old
  | inr new ↦ inr (new.0, subst (λ (k : Key). IsKeyOf c.args.numbers.now.names.keys k c.args.selector.now) new.1 (c.in-Some.ensures {u = tt}).key)
])

pub returns-in-Some-clause-noted : goal.returns-in-Some-clause-noted
returns-in-Some-clause-noted c = OnOk-then c.note.result _ _ c.note.ensures.noted (λ gives known. record { key = c.in-Some.key; key_is = (c.in-Some.ensures {u = tt}).key; gives = gives })

pub returns-in-None-clause-noted : goal.returns-in-None-clause-noted
returns-in-None-clause-noted c = λ known. absurd (cc ((c.in-None.ensures {u = tt}).known known))
