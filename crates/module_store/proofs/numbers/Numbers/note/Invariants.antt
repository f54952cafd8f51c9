use Rattle.std.proofs.Common.{◌≡◌, ℕ, drop}
use Rattle.module_store.specs.Noted.{HasRoom, noted, noted_count}
use Rattle.module_store.specs.Store.{deliveries_of}
use Rattle.module_store.specs.Standing.{delivery_in}
use Rattle.module_store.proofs.numbers.Numbers.note.Given as goal

abbrev pub invariant-changes : goal.invariant-changes
invariant-changes l = record {
  room : HasRoom l.self;
  numbers : (number : ℕ) → noted l.last (deliveries_of (drop l.change-index l.changes)) (delivery_in l.self) number ≡ noted l.fn.count (deliveries_of l.changes) (delivery_in l.fn.self) number;
  count : noted_count l.last (deliveries_of (drop l.change-index l.changes)) ≡ noted_count l.fn.count (deliveries_of l.changes);
}
