use Rattle.std.proofs.Common.{◌≡◌, ℕ, List, subst, ap, ◌∙◌}
use Rattle.style_cascade.specs.devices.Chains.{chain_at, rules_in}
use Rattle.style_cascade.specs.devices.Keys.{key_specificity}
use Rattle.style_cascade.specs.devices.Rows.{Changes}
use Rattle.style_cascade.proofs.LookupLemmas.{key-sound}
use Rattle.style_cascade.proofs.index.Index.search_key.Goals as goal

pub returns-clause-sound : goal.returns-clause-sound
returns-clause-sound c = λ rules subject noted fits when sound.
    let at : c.as_slice.result.now ≡ chain_at c.args.self.now.chains.chains c.args.key = c.as_slice.ensures.value ∙ ap rules_in (c.in-Some.ensures {u = tt}).value in
    let changes : Changes c.args.self.now.given.items (chain_at c.args.self.now.chains.chains c.args.key) (key_specificity c.args.key) c.args.state c.args.row.now c.search_rules.new.row =
    subst (λ (l : List ℕ). Changes c.args.self.now.given.items l (key_specificity c.args.key) c.args.state c.args.row.now c.search_rules.new.row) at
    (subst (λ (n : ℕ). Changes c.args.self.now.given.items c.as_slice.result.now n c.args.state c.args.row.now c.search_rules.new.row) c.specificity.ensures c.search_rules.ensures.changes) in
    key-sound rules c.args.self.now.numbers.names.keys c.args.self.now.given.items c.args.self.now.chains.chains subject c.args.key c.args.state c.args.row.now c.search_rules.new.row noted fits when changes sound
