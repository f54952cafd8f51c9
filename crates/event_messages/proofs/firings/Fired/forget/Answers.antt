use Rattle.std.proofs.Common.{rules, ◌≡◌, ◌∙◌, ap, sym, nat_eq, None}
use Rattle.std.specs.Map.{lookup}
use Rattle.event_messages.proofs.KeptLemmas.{forgotten-absent, forgotten-through, stands-forgotten}
use Rattle.event_messages.proofs.firings.Fired.forget.Goals as goal
use Rattle.event_messages.proofs.firings.Fired.forget.Goals.{in-Some, in_default}

pub returns-clause-forgotten : goal.returns-clause-forgotten
returns-clause-forgotten c =
    elim c.match-get_mut.branch [
      | in-Some w ↦
          ap (λ inside. inside.items.entries) w.self-inside-is
          ∙ forgotten-through c.args.item c.self.inside.items.entries c.args.self.now (c.get_mut.follows.lender w.forget.new.self).entries w.forget.new.self c.self.view_is
          c.get_mut.ensures.unique (c.get_mut.follows.holds w.forget.new.self).0 w.forget.ensures
      | in_default w ↦
          let stood : lookup (nat_eq c.args.item) c.args.self.now ≡ None = search rules in
          ap (λ inside. inside.items.entries) w.self-inside-is
          ∙ (ap (λ m. m.entries) c.get_mut.follows.holds-at-none ∙ (c.self.view_is ∙ sym (forgotten-absent c.args.item c.args.self.now stood)))
    ]

pub returns-clause-stands : goal.returns-clause-stands
returns-clause-stands c =
    stands-forgotten c.args.item c.args.self.now _ (returns-clause-forgotten c)
