use Rattle.std.proofs.Common.{◌≡◌, true, Bor, List, ℕ, Option, sym, subst}
use Rattle.std.specs.Prelude.{option_copied}
use Rattle.style_cascade.specs.devices.Keys.{IsKnown, is_known}
use Rattle.style_cascade.proofs.numbers.Numbers.note.Goals as goal

pub returns-in_ok-insert-clause-known : goal.returns-in_ok-insert-clause-known
returns-in_ok-insert-clause-known c =
    subst (λ (o : Option (Bor (List ℕ))). IsKnown c.insert.new.self.keys (option_copied o)) (sym c.in-Some.is)
    (subst (λ (n : List ℕ). is_known c.insert.new.self.keys n ≡ true) (c.in_ok-name.ensures {u = tt}) (c.in_ok-insert.ensures {u = tt}).updates.1)
