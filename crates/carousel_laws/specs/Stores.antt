-- What a store has after sections of one component, in their order. (This project's own.)
use Rattle.std.specs.Prelude.{ℕ, List, map}
use Rattle.module_store.specs.Since.{stored_behind}
use Rattle.module_store.specs.Since.Told.{Fed}
use Rattle.module_store.specs.Store.{Stored}

abbrev pub stored_after : Stored → ℕ → List (List ℕ) → Stored
stored_after stored tag sections = stored_behind stored (map (λ section. Fed tag section) sections)
