-- What a run keeps: the area at its start, and the areas behind its pieces that it stores. This
-- project's own.
use Rattle.std.specs.Prelude.{◌≡◌, ◌==◌, ◌||◌, ℕ, Bool, if◌then◌else◌, List, [], ◌∷◌}
use Rattle.std.specs.Prelude.{◌++◌, Some}
use Rattle.bml_bytes.specs.Areas.{area_length}
use Rattle.bml_bytes.specs.Words.{is_same}
use Rattle.bml_ports.specs.Counters.{counted}
use Rattle.bml_ports.specs.Keepers.{KeeperState, filled}
use Rattle.receiver_core.specs.Outputs.{Piece}

-- how many bytes an area of earlier versions has, which is the front of an area
abbrev pub earlier_area_length : ℕ
earlier_area_length = 1024

-- kept bytes are as many as an area has, today or in earlier versions, or there are none
abbrev pub is_area_length : ℕ → Bool
is_area_length size = (size == 0) || ((size == earlier_area_length) || (size == area_length))

-- the area that kept bytes are: behind them, all of its bytes are 0
abbrev pub area_of_kept : List ℕ → List ℕ
area_of_kept kept = filled area_length kept

-- ---- what is stored

-- the areas that are stored for pieces, one behind the other: each that differs from the area
-- before it
abbrev pub stores : List ℕ → List Piece → List (List ℕ)
stores area [] = []
stores area (piece ∷ pieces) =
    (if is_same piece.area area then [] else piece.area ∷ []) ++ stores piece.area pieces

-- the bytes that are kept behind stores: the area stored last, and without one what was kept before
abbrev pub kept_behind : List ℕ → List (List ℕ) → List ℕ
kept_behind kept [] = kept
kept_behind kept (area ∷ areas) = kept_behind area areas

-- the area behind pieces, which is that before them where there are none
abbrev pub area_after : List ℕ → List Piece → List ℕ
area_after area [] = area
area_after area (piece ∷ pieces) = area_after piece.area pieces

-- these areas were stored: where the keeper tells its bytes, those of the last one are left
abbrev pub HasKept : KeeperState → KeeperState → List (List ℕ) → Type 0
HasKept before behind areas =
    (bytes : List ℕ) → before.kept ≡ Some bytes → behind.kept ≡ Some (kept_behind bytes areas)

-- how many calls a keeper tells after one more for each area
abbrev pub calls_after : ℕ → List (List ℕ) → ℕ
calls_after calls [] = calls
calls_after calls (area ∷ areas) = calls_after (counted calls) areas

-- the keeper was called once to load, and then once for each of them, and no more
abbrev pub CallsFor : KeeperState → KeeperState → List (List ℕ) → Type 0
CallsFor before behind areas = behind.calls ≡ calls_after (counted before.calls) areas

pub record Keeps (before behind : KeeperState) (areas : List (List ℕ)) : Type 0 where
  pub kept : HasKept before behind areas
  pub calls : CallsFor before behind areas
