-- Which nodes are subscribed at first, node by node, and what is written of a subscription.
use Rattle.std.proofs.Common.{◌≡◌, ◌≢◌, ◌∙◌, ℕ, Bool, zero, suc, ◌+◌, ◌<◌, List, [], ◌∷◌, ◌++◌, length, map, take, refl, sym, ap, add-one, arith}
use Rattle.std.specs.Prelude.{false, true, slice_get, slice_set, unwrap_or}
use Rattle.std.proofs.lemmas.List.{get_or-set_other, get_or-set_same}
use Rattle.std.proofs.lemmas.Option.{unwrap_or-slice_get}
use Rattle.std.specs.Option.{option_map_or}
use Rattle.std.proofs.Math.Seq.{take-length}
use Rattle.dom_tree.specs.Items.{Item}
use Rattle.event_items.specs.Subscriptions.{ItemsState, is_subscribed, starts_subscribed, with_subscribed}

more : (items : List Item) (number : ℕ) → number < length items
    → map starts_subscribed (take number items) ++ option_map_or starts_subscribed (slice_get items number) false ∷ []
    ≡ map starts_subscribed (take (suc number) items)
more [] number h = absurd (omega arith)
more (item ∷ items) zero h = refl
more (item ∷ items) (suc number) h = ap (λ rest. starts_subscribed item ∷ rest) (more items number (omega arith))

-- that of one node more
pub one_more : (items : List Item) (number : ℕ) → number < length items
    → map starts_subscribed (take number items) ++ option_map_or starts_subscribed (slice_get items number) false ∷ []
    ≡ map starts_subscribed (take (number + 1) items)
one_more items number h = rw add-one (more items number h)

pub all_looked_at : (items : List Item) (number : ℕ) → number ≡ length items → map starts_subscribed (take number items) ≡ map starts_subscribed items
all_looked_at items number e = rw (e, take-length) refl

-- ---- what is written

set-same : (xs : List Bool) (node : ℕ) (value : Bool) → node < length xs → unwrap_or (slice_get (slice_set xs node value) node) false ≡ value
set-same xs node value h = unwrap_or-slice_get (slice_set xs node value) node false ∙ get_or-set_same xs node value false h

set-other : (xs : List Bool) (node other : ℕ) (value : Bool) → other ≢ node
    → unwrap_or (slice_get (slice_set xs node value) other) false ≡ unwrap_or (slice_get xs other) false
set-other xs node other value ne =
    unwrap_or-slice_get (slice_set xs node value) other false
    ∙ get_or-set_other xs node other value false ne
    ∙ sym (unwrap_or-slice_get xs other false)

pub read_back : (node : ℕ) (subscribed : Bool) (s : ItemsState) → node < length s.subscribed → is_subscribed node (with_subscribed node subscribed s) ≡ subscribed
read_back node true s h = set-same s.subscribed node true h
read_back node false s h = set-same s.subscribed node false h

pub others_stay : (node other : ℕ) (subscribed : Bool) (s : ItemsState) → other ≢ node → is_subscribed other (with_subscribed node subscribed s) ≡ is_subscribed other s
others_stay node other true s ne = set-other s.subscribed node other true ne
others_stay node other false s ne = set-other s.subscribed node other false ne
