use Rattle.std.proofs.Common.{List, subst}
use Rattle.style_reader.specs.declared.declarations.Declaration.{Declaration}
use Rattle.style_cascade.specs.devices.Chains.{IsNoted}
use Rattle.style_cascade.proofs.ChainLemmas.{get-Contains}
use Rattle.style_cascade.proofs.index.Index.of_rules.Goals as goal

pub returns : goal.returns
returns c =
    let made = c.in_ok-chains.ensures {u = tt} in
    record {
      values = c.in_ok-given.ensures {u = tt};
      only = made.only;
      noted = λ number rule selector get among.
          subst (λ (g : List (List Declaration)). IsNoted c.in_ok-numbers.numbers.names.keys g number c.in_ok-chains.chains.chains selector) c.as_slice.ensures.value
          (made.noted number rule selector get among ((c.in_ok-numbers.ensures {u = tt}) rule selector (get-Contains c.args.rules.now number rule get) among));
    }
