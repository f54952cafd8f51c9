-- Laws of the areas that are stored for pieces.
use Rattle.std.proofs.Common.{◌≡◌, ◌≢◌, ℕ, ◌-◌, Bool, true, false, cond, List, [], ◌∷◌}
use Rattle.std.proofs.Common.{◌++◌, All, length, replicate, refl, sym, ap, ap₂, ◌∙◌, subst, Some}
use Rattle.std.proofs.Common.{◌⊎◌, inl, inr, arith, append_assoc, append-nil, take_all}
use Rattle.std.proofs.lemmas.List.Elements.{All-head, All-tail}
use Rattle.std.specs.Cmp.Lexicographic.{bytes_decides}
use Rattle.bml_bytes.specs.Areas.{area_length}
use Rattle.bml_bytes.specs.Words.{is_same}
use Rattle.bml_ports.specs.Counters.{counted}
use Rattle.bml_ports.specs.Keepers.{KeeperState, filled}
use Rattle.receiver_core.specs.Outputs.{Piece}
use Rattle.replay_run.specs.Kept.{CallsFor, HasKept, Keeps, area_after, area_of_kept}
use Rattle.replay_run.specs.Kept.{calls_after, kept_behind, stores}
use Rattle.replay_run.specs.Putting.{FailsToKeep, KeepsOn, change}

-- ---- one area

-- the area that is kept isn't stored
pub no_change : (kept area : List ℕ) → area ≡ kept → change kept area ≡ []
no_change kept area same =
    let none : List (List ℕ) = [] in
    ap (λ b. cond b none (area ∷ [])) ((bytes_decides area kept).1 same)

change_by : (same : Bool) (kept area : List ℕ) → (same ≡ true → area ≡ kept) → area ≢ kept
    → cond same [] (area ∷ []) ≡ area ∷ []
change_by true kept area means differs = absurd (differs (means refl))
change_by false kept area means differs = refl

-- another one is
pub a_change : (kept area : List ℕ) → area ≢ kept → change kept area ≡ area ∷ []
a_change kept area differs =
    change_by (is_same area kept) kept area ((bytes_decides area kept).0) differs

-- ---- one piece more

pub area_after-push : (area : List ℕ) (pieces : List Piece) (piece : Piece)
    → area_after area (pieces ++ piece ∷ []) ≡ piece.area
area_after-push area [] piece = refl
area_after-push area (first ∷ pieces) piece = area_after-push first.area pieces piece

pub stores-push : (area : List ℕ) (pieces : List Piece) (piece : Piece)
    → stores area (pieces ++ piece ∷ [])
    ≡ stores area pieces ++ change (area_after area pieces) piece.area
stores-push area [] piece = append-nil (change area piece.area)
stores-push area (first ∷ pieces) piece =
    ap (λ l. change area first.area ++ l) (stores-push first.area pieces piece)
    ∙ sym (append_assoc (change area first.area) (stores first.area pieces)
    (change (area_after first.area pieces) piece.area))

-- ---- what is kept

kept_behind-append : (kept : List ℕ) (areas more : List (List ℕ))
    → kept_behind kept (areas ++ more) ≡ kept_behind (kept_behind kept areas) more
kept_behind-append kept [] more = refl
kept_behind-append kept (area ∷ areas) more = kept_behind-append area areas more

calls_after-append : (calls : ℕ) (areas more : List (List ℕ))
    → calls_after calls (areas ++ more) ≡ calls_after (calls_after calls areas) more
calls_after-append calls [] more = refl
calls_after-append calls (area ∷ areas) more = calls_after-append (counted calls) areas more

has_kept_more : (before mid new : KeeperState) (areas more : List (List ℕ))
    → HasKept before mid areas → HasKept mid new more → HasKept before new (areas ++ more)
has_kept_more before mid new areas more first next = λ bytes told.
    next (kept_behind bytes areas) (first bytes told)
    ∙ ap Some (sym (kept_behind-append bytes areas more))

keeps_more : (before mid new : KeeperState) (areas more : List (List ℕ))
    → Keeps before mid areas → KeepsOn mid new more → Keeps before new (areas ++ more)
keeps_more before mid new areas more first next = record {
  kept = has_kept_more before mid new areas more first.kept next.kept;
  calls = next.calls ∙ ap (λ n. calls_after n more) first.calls
      ∙ sym (calls_after-append (counted before.calls) areas more);
}

-- nothing was called
pub keeps_none : (keeper : KeeperState) (kept area : List ℕ) → area ≡ kept
    → KeepsOn keeper keeper (change kept area)
keeps_none keeper kept area same =
    let P : List (List ℕ) → Type 0 = λ l. KeepsOn keeper keeper l in
    subst P (sym (no_change kept area same))
    (record { kept = λ bytes told. told; calls = refl })

-- nothing was stored
pub keeps_still : (before mid new : KeeperState) (areas : List (List ℕ))
    → Keeps before mid areas → KeepsOn mid new [] → Keeps before new areas
keeps_still before mid new areas first next =
    let P : List (List ℕ) → Type 0 = λ l. Keeps before new l in
    subst P (append-nil areas) (keeps_more before mid new areas [] first next)

-- the area behind one piece more was stored, where it differs
pub keeps_piece : (before mid new : KeeperState) (area kept : List ℕ) (pieces : List Piece)
    (piece : Piece)
    → Keeps before mid (stores area pieces) → kept ≡ area_after area pieces
    → KeepsOn mid new (change kept piece.area) → Keeps before new (stores area (pieces ++ piece ∷ []))
keeps_piece before mid new area kept pieces piece keeps same more =
    let all : stores area pieces ++ change kept piece.area ≡ stores area (pieces ++ piece ∷ []) =
    ap (λ k. stores area pieces ++ change k piece.area) same ∙ sym (stores-push area pieces piece) in
    let P : List (List ℕ) → Type 0 = λ l. Keeps before new l in
    subst P all (keeps_more before mid new (stores area pieces) (change kept piece.area) keeps more)

-- or storing it failed
pub record FailsFor (before new : KeeperState) (area : List ℕ) (pieces : List Piece)
    (piece : Piece) : Type 0 where
  pub differs : piece.area ≢ area_after area pieces
  pub kept : HasKept before new (stores area pieces)
      ⊎ HasKept before new (stores area (pieces ++ piece ∷ []))
  pub calls : CallsFor before new (stores area (pieces ++ piece ∷ []))

kept_either : (before mid new : KeeperState) (areas all : List (List ℕ)) (area : List ℕ)
    → all ≡ areas ++ area ∷ [] → HasKept before mid areas
    → HasKept mid new [] ⊎ HasKept mid new (area ∷ [])
    → HasKept before new areas ⊎ HasKept before new all
kept_either before mid new areas all area same first (inl stays) =
    let P : List (List ℕ) → Type 0 = λ l. HasKept before new l in
    inl (subst P (append-nil areas) (has_kept_more before mid new areas [] first stays))
kept_either before mid new areas all area same first (inr stored) =
    let P : List (List ℕ) → Type 0 = λ l. HasKept before new l in
    inr (subst P (sym same) (has_kept_more before mid new areas (area ∷ []) first stored))

pub fails_piece : (before mid new : KeeperState) (area kept : List ℕ) (pieces : List Piece)
    (piece : Piece)
    → Keeps before mid (stores area pieces) → kept ≡ area_after area pieces
    → FailsToKeep mid new kept piece.area → FailsFor before new area pieces piece
fails_piece before mid new area kept pieces piece keeps same fails =
    let other : piece.area ≢ area_after area pieces = λ e. fails.differs (e ∙ sym same) in
    let all : stores area (pieces ++ piece ∷ []) ≡ stores area pieces ++ piece.area ∷ [] =
    stores-push area pieces piece
    ∙ ap (λ l. stores area pieces ++ l) (a_change (area_after area pieces) piece.area other) in
    record {
      differs = other;
      kept = kept_either before mid new (stores area pieces) (stores area (pieces ++ piece ∷ []))
          piece.area all keeps.kept fails.left;
      calls = fails.calls ∙ ap counted keeps.calls
          ∙ sym (calls_after-append (counted before.calls) (stores area pieces) (piece.area ∷ []))
          ∙ ap (calls_after (counted before.calls)) (sym all);
    }

-- ---- what the bytes that are kept come to

whole_area : (size : ℕ) (bytes : List ℕ) → length bytes ≡ size → filled size bytes ≡ bytes
whole_area size bytes same =
    let none : size - length bytes ≡ 0 = omega arith in
    ap₂ (λ l n. l ++ replicate n 0) (take_all size bytes (omega arith)) none ∙ append-nil bytes

kept_by : (same : Bool) (kept area stored : List ℕ) → (same ≡ true → stored ≡ area)
    → area_of_kept kept ≡ area → length stored ≡ area_length
    → area_of_kept (kept_behind kept (cond same [] (stored ∷ []))) ≡ stored
kept_by true kept area stored means is_area size = is_area ∙ sym (means refl)
kept_by false kept area stored means is_area size = whole_area area_length stored size

kept_area : (kept area : List ℕ) (pieces : List Piece) → area_of_kept kept ≡ area
    → All (λ (piece : Piece). length piece.area ≡ area_length) pieces
    → area_of_kept (kept_behind kept (stores area pieces)) ≡ area_after area pieces
kept_area kept area [] is_area sizes = is_area
kept_area kept area (piece ∷ pieces) is_area sizes =
    let size : length piece.area ≡ area_length =
    All-head (λ (p : Piece). length p.area ≡ area_length) piece pieces sizes in
    let now : List ℕ = kept_behind kept (change area piece.area) in
    ap area_of_kept (kept_behind-append kept (change area piece.area) (stores piece.area pieces))
    ∙ kept_area now piece.area pieces
    (kept_by (is_same piece.area area) kept area piece.area ((bytes_decides piece.area area).0)
    is_area size)
    (All-tail (λ (p : Piece). length p.area ≡ area_length) piece pieces sizes)

-- what is kept behind pieces is the area behind them
pub kept_is_area : (kept : List ℕ) (pieces : List Piece)
    → All (λ (piece : Piece). length piece.area ≡ area_length) pieces
    → area_of_kept (kept_behind kept (stores (area_of_kept kept) pieces))
    ≡ area_after (area_of_kept kept) pieces
kept_is_area kept pieces sizes = kept_area kept (area_of_kept kept) pieces refl sizes

-- where none of them changes the area, nothing is stored
pub stores_none : (area : List ℕ) (pieces : List Piece)
    → All (λ (piece : Piece). piece.area ≡ area) pieces → stores area pieces ≡ []
stores_none area [] same = refl
stores_none area (piece ∷ pieces) same =
    let here : piece.area ≡ area = All-head (λ (p : Piece). p.area ≡ area) piece pieces same in
    ap₂ (λ first l. first ++ stores l pieces) (no_change area piece.area here) here
    ∙ stores_none area pieces (All-tail (λ (p : Piece). p.area ≡ area) piece pieces same)
