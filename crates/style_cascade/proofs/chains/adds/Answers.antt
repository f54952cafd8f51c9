use Rattle.std.proofs.Common.{◌≡◌, true, List, inl, inr, refl, subst, ap, ◌∙◌}
use Rattle.std.specs.Prelude.{is_some}
use Rattle.style_reader.specs.declared.declarations.Declaration.{Declaration}
use Rattle.style_reader.specs.declared.properties.Property.{Property}
use Rattle.style_cascade.specs.Candidates.{last_value}
use Rattle.style_cascade.specs.devices.Chains.{GivesIn}
use Rattle.style_cascade.proofs.GivenLemmas.{last-parted}
use Rattle.style_cascade.proofs.chains.adds.Goals as goal

pub declarations-init : goal.declarations-init
declarations-init c = λ property h. inr (ap is_some (c.declarations_of-rest.ensures property) ∙ h)

pub declarations-preserved : goal.declarations-preserved
declarations-preserved c = λ property h. elim (c.declarations.invariant property h) [
  | inl gives ↦ inl gives
  | inr some ↦ elim (last-parted property c.in-Some.first.now c.in-Some.more.now (subst (λ (l : List Declaration). is_some (last_value property l) ≡ true) (c.in-Some.ensures {u = tt}).cases.0 some)) [
    | inl same ↦ inl (subst (λ (p : Property). GivesIn c.args.given.now c.args.rules.now p) same (c.if-not-is_given.ensures {u = tt} refl))
    | inr more ↦ inr more
  ]
]
