use Rattle.std.proofs.Common.{◌∙◌, ℕ, List, length, ap, sym, subst, inr}
use Rattle.std.proofs.lemmas.List.{length-replicate}
use Rattle.std.proofs.lemmas.Bool.{eqb-true, eqb-false}
use Rattle.carousel_blocks.specs.Changes.{number_bound}
use Rattle.module_store.specs.Noted.{HasRoom}
use Rattle.module_store.proofs.NumberLaws.{delivery_zeros, has_room, table_room}
use Rattle.module_store.proofs.numbers.Numbers.make_room.Goals as goal

pub invariant_of-self : goal.invariant_of-self
unfolding number_bound
invariant_of-self c = inr (ap (λ (l : List ℕ). length l) c.in_ok-self-inside.ensures ∙ length-replicate {A = ℕ} 65536 0)

pub returns-in_ok-self-inside-clause-same : goal.returns-in_ok-self-inside-clause-same
returns-in_ok-self-inside-clause-same c =
    rw (← c.self.view_is) (delivery_zeros c.self.inside.table.items c.in_ok-self-inside.field-0.items 65536
    (sym c.self.inside.table.ok.0 ∙ eqb-true _ 0 (sym c.is_empty.ensures ∙ c.if-is_empty.true)) c.in_ok-self-inside.ensures)

pub returns-in_ok-self-inside-clause-room : goal.returns-in_ok-self-inside-clause-room
unfolding number_bound
returns-in_ok-self-inside-clause-room c = has_room c.in_ok-self-inside.field-0.items (ap (λ (l : List ℕ). length l) c.in_ok-self-inside.ensures ∙ length-replicate {A = ℕ} 65536 0)

pub returns-else-is_empty-clause-room : goal.returns-else-is_empty-clause-room
returns-else-is_empty-clause-room c =
    subst (λ (l : List (ℕ × ℕ)). HasRoom l) c.self.view_is (table_room c.self.inside.table.items c.self.invariant
    (λ none. eqb-false _ 0 (sym c.is_empty.ensures ∙ c.if-is_empty.false) (c.self.inside.table.ok.0 ∙ none)))
