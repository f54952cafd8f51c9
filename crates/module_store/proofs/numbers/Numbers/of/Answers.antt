use Rattle.std.proofs.Common.{◌≡◌, ◌<◌, ◌≤◌, ◌∙◌, ℕ, List, get_or, ap, sym, subst, length}
use Rattle.std.specs.List.{enumerate_from}
use Rattle.std.proofs.lemmas.Bool.{ltb-true, ltb-false}
use Rattle.std.proofs.lemmas.List.{get_or_read, get_or_past}
use Rattle.module_store.specs.Standing.{delivery_in}
use Rattle.module_store.proofs.NumberLaws.{delivery_at}
use Rattle.module_store.proofs.numbers.Numbers.of.Goals as goal

pub returns-in-None : goal.returns-in-None
returns-in-None c =
    let table = c.self.inside.table.items in
    let past : length table ≤ c.from.result = subst (λ (l : List ℕ). length l ≤ c.from.result) c.deref.ensures.value (ltb-false _ _ (sym c.in-None.ensures.lookup.0)) in
    rw (← c.self.view_is) (sym (ap (λ k. delivery_in (enumerate_from 0 table) k) (sym c.from.ensures) ∙ delivery_at table c.from.result ∙ get_or_past table c.from.result 0 past))

pub returns-in-Some : goal.returns-in-Some
returns-in-Some c =
    let table = c.self.inside.table.items in
    let low : c.from.result < length table = subst (λ (l : List ℕ). c.from.result < length l) c.deref.ensures.value (ltb-true _ _ (sym c.in-Some.ensures.lookup.0)) in
    let there : c.in-Some.number.now ≡ get_or table c.from.result c.in-Some.number.now = c.in-Some.ensures.lookup.1 ∙ ap (λ (l : List ℕ). get_or l c.from.result c.in-Some.number.now) c.deref.ensures.value in
    rw (← c.self.view_is) (get_or_read table c.from.result c.in-Some.number.now low there 0 ∙ sym (delivery_at table c.from.result) ∙ ap (λ k. delivery_in (enumerate_from 0 table) k) c.from.ensures)
