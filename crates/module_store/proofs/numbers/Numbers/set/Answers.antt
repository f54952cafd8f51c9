use Rattle.std.proofs.Common.{◌<◌, ◌∙◌, ℕ, List, ap, sym, subst, arith, length, length-set}
use Rattle.std.specs.List.{enumerate_from}
use Rattle.carousel_blocks.specs.Changes.{number_bound}
use Rattle.module_store.specs.Standing.{delivery_in}
use Rattle.module_store.specs.Noted.{HasRoom, with_number}
use Rattle.module_store.proofs.NumberLaws.{delivery_set, has_room, room_of}
use Rattle.module_store.proofs.numbers.Numbers.set.Goals as goal

pub index_mut-requires : goal.index_mut-requires
unfolding number_bound
index_mut-requires c =
    let all = room_of c.self.inside.table.items (subst (λ (l : List (ℕ × ℕ)). HasRoom l) (sym c.self.view_is) c.requires) in
    omega (arith, all, c.self.inside.table.ok.0, c.from.ensures)

pub returns-clause-room : goal.returns-clause-room
returns-clause-room c =
    let table = c.self.inside.table in
    let all = room_of table.items (subst (λ (l : List (ℕ × ℕ)). HasRoom l) (sym c.self.view_is) c.requires) in
    has_room _ (length-set table.items c.from.result c.args.number ∙ all)

pub returns-clause-number : goal.returns-clause-number
unfolding number_bound
returns-clause-number c = rw (← c.self.view_is) (λ other.
    let table = c.self.inside.table in
    let all = room_of table.items (subst (λ (l : List (ℕ × ℕ)). HasRoom l) (sym c.self.view_is) c.requires) in
    let low : c.from.result < length table.items = omega (arith, all, c.from.ensures) in
    delivery_set table.items c.from.result c.args.number other low
    ∙ ap (λ k. with_number k c.args.number (delivery_in (enumerate_from 0 table.items)) other) c.from.ensures)
