-- The event items of a document, node by node.
use Rattle.std.proofs.Common.{◌≡◌, ℕ, ◌+◌, ◌<◌, zero, suc, List, [], ◌∷◌, ◌++◌, length, take, refl, sym, ap, ◌∙◌, append_assoc, append-nil, add-one, add-zero, zero-add, arith}
use Rattle.std.specs.Prelude.{slice_get}
use Rattle.std.specs.Option.{option_map_or}
use Rattle.std.proofs.Math.Seq.{take-length}
use Rattle.dom_tree.specs.Items.{Item}
use Rattle.multipart_entities.specs.declared.paths.Path.{Path}
use Rattle.event_items.specs.EventItems.{event_items, item_at, items_from}

-- the items of one node more
more_from : (base : Path) (from : ℕ) (items : List Item) (number : ℕ) → number < length items
    → items_from base from (take (suc number) items)
    ≡ items_from base from (take number items) ++ option_map_or (item_at base (from + number)) (slice_get items number) []
more_from base from [] number h = absurd (omega arith)
more_from base from (item ∷ items) zero h =
    append-nil (item_at base from item) ∙ ap (λ (node : ℕ). item_at base node item) (sym (add-zero from))
more_from base from (item ∷ items) (suc number) h =
    let shift : suc from + number ≡ from + suc number = omega arith in
    let rest = more_from base (suc from) items number (omega arith) in
    rw (rest, shift, append_assoc) refl

pub one_more : (base : Path) (items : List Item) (number : ℕ) → number < length items
    → items_from base 0 (take number items) ++ option_map_or (item_at base number) (slice_get items number) []
    ≡ items_from base 0 (take (number + 1) items)
one_more base items number h =
    rw add-one (sym (more_from base 0 items number h ∙ ap (λ (node : ℕ). items_from base 0 (take number items) ++ option_map_or (item_at base node) (slice_get items number) []) (zero-add number)))

pub all_read : (base : Path) (items : List Item) (number : ℕ) → number ≡ length items → items_from base 0 (take number items) ≡ event_items base items
unfolding event_items
all_read base items number e = rw (e, take-length) refl
