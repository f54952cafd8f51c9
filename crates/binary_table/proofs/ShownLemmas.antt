-- The rows of bytes, one after another.
use Rattle.std.proofs.Common.{◌≡◌, ℕ, zero, suc, ◌+◌, ◌-◌, ◌<◌, ◌≤◌, List, [], ◌∷◌, ◌++◌, length, drop, Option, Some, None, refl, sym, ap, subst, ◌∙◌, arith, length-append, length-drop}
use Rattle.std.specs.Prelude.{option_map, map}
use Rattle.std.proofs.Math.ListN.{drop_of_length-le}
use Rattle.std.proofs.lemmas.List.{append-nil, append_assoc}
use Rattle.bml_bytes.specs.Fields.{FieldLaws, ◌>>=◌}
use Rattle.persistent_arrays.specs.declared.fields.Field.{Field}
use Rattle.persistent_arrays.specs.declared.kinds.FieldKind.{FieldKind}
use Rattle.persistent_arrays.specs.Reading.{Run, runs}
use Rattle.binary_table.specs.declared.layouts.Layout.{Layout}
use Rattle.binary_table.specs.declared.layouts.Row.{Row}
use Rattle.binary_table.specs.devices.Layouts.{IsLayoutOf, columns_from, stretches_from, tail_from}
use Rattle.binary_table.specs.devices.Places.{places_of, rests}
use Rattle.binary_table.specs.Tables.{row_at, rows_in}
use Rattle.binary_table.specs.devices.Shown.{all_there, seen}
use Rattle.binary_table.proofs.LookLemmas.{IsRow, is-row, map-joined}

-- the rows so far, and those that are left
pub record SoFar (most : ℕ) (kinds : List FieldKind) (bytes : List ℕ) (start : ℕ) (rows : List Row) : Type 0 where
  pub done : List (List Field)
  pub read : rows_in most (runs kinds) bytes ≡ option_map (λ (more : List (List Field)). done ++ more) (rows_in (most - length rows) (runs kinds) (drop start bytes))
  pub same : map all_there done ≡ map (seen (columns_from 0 0 0 kinds) bytes) rows

nothing-first : (found : Option (List (List Field))) → found ≡ option_map (λ (more : List (List Field)). [] ++ more) found
nothing-first None = refl
nothing-first (Some rows) = refl

pub started : (most start : ℕ) (kinds : List FieldKind) (bytes : List ℕ) (rows : List Row) → rows ≡ [] → start ≡ 0 → SoFar most kinds bytes start rows
started most start kinds bytes rows e f =
    let all : most - 0 ≡ most = omega arith in
    let first : SoFar most kinds bytes 0 [] = record {
      done = [];
      read = nothing-first (rows_in most (runs kinds) bytes) ∙ ap (λ (n : ℕ). option_map (λ (more : List (List Field)). [] ++ more) (rows_in n (runs kinds) bytes)) (sym all);
      same = refl;
    } in
    subst (λ (r : List Row). SoFar most kinds bytes start r) (sym e) (subst (λ (n : ℕ). SoFar most kinds bytes n []) (sym f) first)

-- what is at the front
some-left : (most : ℕ) (all : List Run) (left : List ℕ) (values : List Field) (rest : List ℕ) → 0 < length left → row_at all left ≡ Some (values, rest)
    → rows_in (suc most) all left ≡ option_map (λ (rows : List (List Field)). values ∷ rows) (rows_in most all rest)
unfolding rows_in
some-left most all [] values rest h e = absurd (omega arith)
some-left most all (byte ∷ left) values rest h e = ap (λ (found : Option (List Field × List ℕ)). found >>= λ read. option_map (λ rows. read.0 ∷ rows) (rows_in most all read.1)) e

none-left : (most : ℕ) (all : List Run) (left : List ℕ) → 0 < length left → row_at all left ≡ None → rows_in most all left ≡ None
unfolding rows_in
none-left most all [] h e = absurd (omega arith)
none-left zero all (byte ∷ left) h e = refl
none-left (suc most) all (byte ∷ left) h e = ap (λ (found : Option (List Field × List ℕ)). found >>= λ read. option_map (λ rows. read.0 ∷ rows) (rows_in most all read.1)) e

too-many : (all : List Run) (left : List ℕ) → 0 < length left → rows_in 0 all left ≡ None
unfolding rows_in
too-many all [] h = absurd (omega arith)
too-many all (byte ∷ left) h = refl

at-end : (most : ℕ) (all : List Run) → rows_in most all [] ≡ Some []
unfolding rows_in
at-end zero all = refl
at-end (suc most) all = refl

-- one more row
then-more : (done : List (List Field)) (values : List Field) (found : Option (List (List Field)))
    → option_map (λ (more : List (List Field)). done ++ more) (option_map (λ (rows : List (List Field)). values ∷ rows) found) ≡ option_map (λ (more : List (List Field)). (done ++ values ∷ []) ++ more) found
then-more done values None = refl
then-more done values (Some rows) = ap (λ (l : List (List Field)). Some l) (sym (append_assoc done (values ∷ []) rows))

layout-row : (laws : FieldLaws) (kinds : List FieldKind) (layout : Layout) (left : List ℕ) (found : Option (List (List ℕ) × List ℕ)) → IsLayoutOf kinds layout → found ≡ places_of layout.tail layout.stretches.items left → IsRow laws kinds left found
layout-row laws kinds layout left found h e =
    let same : places_of layout.tail layout.stretches.items left ≡ places_of (tail_from 0 0 kinds) (stretches_from 0 0 kinds) left =
    ap (λ (n : ℕ). places_of n layout.stretches.items left) h.tail ∙ ap (λ (l : List ℕ). places_of (tail_from 0 0 kinds) l left) h.stretches in
    subst (IsRow laws kinds left) (sym (e ∙ same)) (is-row laws kinds left)

pub next-row : (laws : FieldLaws) (most start : ℕ) (kinds : List FieldKind) (layout : Layout) (bytes : List ℕ) (rows new : List Row) (row : Row) → IsLayoutOf kinds layout → SoFar most kinds bytes start rows
    → start < length bytes → length rows < most → Some (rests bytes row.places.items, drop row.end bytes) ≡ places_of layout.tail layout.stretches.items (drop start bytes) → new ≡ rows ++ row ∷ [] → SoFar most kinds bytes row.end new
next-row laws most start kinds layout bytes rows new row h s within few e f =
    let is = layout-row laws kinds layout (drop start bytes) (Some (rests bytes row.places.items, drop row.end bytes)) h e in
    let l = length-drop start bytes in
    let some : 0 < length (drop start bytes) = omega arith in
    let n = length-append rows (row ∷ []) in
    let counted : length new ≡ length rows + 1 = ap length f ∙ n in
    let left : most - length rows ≡ suc (most - length new) = omega arith in
    record {
      done = s.done ++ is.0 ∷ [];
      read = s.read
          ∙ ap (λ (n : ℕ). option_map (λ (more : List (List Field)). s.done ++ more) (rows_in n (runs kinds) (drop start bytes))) left
          ∙ ap (option_map (λ (more : List (List Field)). s.done ++ more)) (some-left (most - length new) (runs kinds) (drop start bytes) is.0 (drop row.end bytes) some is.1)
          ∙ then-more s.done is.0 (rows_in (most - length new) (runs kinds) (drop row.end bytes));
      same = map-joined all_there s.done (is.0 ∷ [])
          ∙ ap (λ (v : List (List (Option Field))). v ++ all_there is.0 ∷ []) s.same
          ∙ ap (λ (v : List (Option Field)). map (seen (columns_from 0 0 0 kinds) bytes) rows ++ v ∷ []) is.2
          ∙ sym (map-joined (seen (columns_from 0 0 0 kinds) bytes) rows (row ∷ []))
          ∙ ap (map (seen (columns_from 0 0 0 kinds) bytes)) (sym f);
    }

-- no row, or no room for one
pub no-row : (laws : FieldLaws) (most start : ℕ) (kinds : List FieldKind) (layout : Layout) (bytes : List ℕ) (rows : List Row) → IsLayoutOf kinds layout → SoFar most kinds bytes start rows
    → start < length bytes → None ≡ places_of layout.tail layout.stretches.items (drop start bytes) → rows_in most (runs kinds) bytes ≡ None
no-row laws most start kinds layout bytes rows h s within e =
    let l = length-drop start bytes in
    let some : 0 < length (drop start bytes) = omega arith in
    s.read ∙ ap (option_map (λ (more : List (List Field)). s.done ++ more)) (none-left (most - length rows) (runs kinds) (drop start bytes) some (layout-row laws kinds layout (drop start bytes) None h e))

pub no-room : (most start : ℕ) (kinds : List FieldKind) (bytes : List ℕ) (rows : List Row) → SoFar most kinds bytes start rows → start < length bytes → most ≤ length rows → rows_in most (runs kinds) bytes ≡ None
no-room most start kinds bytes rows s within many =
    let l = length-drop start bytes in
    let some : 0 < length (drop start bytes) = omega arith in
    let none : most - length rows ≡ 0 = omega arith in
    s.read ∙ ap (λ (n : ℕ). option_map (λ (more : List (List Field)). s.done ++ more) (rows_in n (runs kinds) (drop start bytes))) none
    ∙ ap (option_map (λ (more : List (List Field)). s.done ++ more)) (too-many (runs kinds) (drop start bytes) some)

pub all-rows : (most start : ℕ) (kinds : List FieldKind) (bytes : List ℕ) (rows : List Row) → SoFar most kinds bytes start rows → length bytes ≤ start
    → (shown : List (List Field)) × (rows_in most (runs kinds) bytes ≡ Some shown) × (map all_there shown ≡ map (seen (columns_from 0 0 0 kinds) bytes) rows)
all-rows most start kinds bytes rows s past = (
  s.done,
  s.read ∙ ap (λ (l : List ℕ). option_map (λ (more : List (List Field)). s.done ++ more) (rows_in (most - length rows) (runs kinds) l)) (drop_of_length-le bytes past)
      ∙ ap (option_map (λ (more : List (List Field)). s.done ++ more)) (at-end (most - length rows) (runs kinds))
      ∙ ap (λ (l : List (List Field)). Some l) (append-nil s.done),
  s.same,
)
