-- What is read of bytes stands at their front; bytes are at most one list of rows.
use Rattle.std.proofs.Common.{◌≡◌, ℕ, zero, suc, ◌+◌, ◌<◌, ◌≤◌, List, [], ◌∷◌, ◌++◌, length, take, Option, Some, None, inl, inr, refl, sym, ap, subst, ◌∙◌, arith}
use Rattle.std.specs.Prelude.{◌↔◌, option_map, map}
use Rattle.std.specs.List.{flat_map}
use Rattle.std.specs.Int.{div_ceil}
use Rattle.std.proofs.lemmas.Bool.{lt-leb}
use Rattle.std.proofs.lemmas.List.{append-nil, append_assoc}
use Rattle.std.proofs.lemmas.List.Elements.{All-head}
use Rattle.std.proofs.lemmas.Option.{same_Some, none-some}
use Rattle.bml_bytes.specs.Fields.{◌>>=◌, bytes_at}
use Rattle.persistent_arrays.specs.declared.fields.Field.{Field}
use Rattle.persistent_arrays.specs.declared.fields.Field.TheVariants as fields
use Rattle.persistent_arrays.specs.declared.kinds.FieldKind.{FieldKind}
use Rattle.persistent_arrays.specs.declared.kinds.FieldKind.TheVariants.{Bit, Unsigned, Signed, Fixed, Varying}
use Rattle.persistent_arrays.specs.Fields.{field_value}
use Rattle.persistent_arrays.specs.Reading.{AreSpelled, HasOwnBytes, Run, BitRun, Single, bits_of, field_at, one_more_bit, run_at, runs}
use Rattle.persistent_arrays.specs.Structures.{IsKind, IsStructure}
use Rattle.binary_table.specs.Tables.{Table, row_at, rows_in}

-- each run that is read has bytes of its own
abbrev pub HaveOwnBytes : Type 0
HaveOwnBytes = (run : Run) (bytes rest : List ℕ) (values : List Field) → run_at run bytes ≡ Some (values, rest) → HasOwnBytes run bytes values rest

pub option_map-some : {A B : Type 0} (f : A → B) (found : Option A) (b : B) → option_map f found ≡ Some b → (a : A) × (found ≡ Some a) × (f a ≡ b)
option_map-some f None b e = absurd cc
option_map-some f (Some a) b e = (a, refl, same_Some (f a) b e)

pub bind_some : {A B : Type 0} (read : Option A) (go : A → Option B) (b : B) → (read >>= go) ≡ Some b → (a : A) × (read ≡ Some a) × (go a ≡ Some b)
bind_some None go b e = absurd cc
bind_some (Some a) go b e = (a, refl, e)

number-some : (size : ℕ) → IsKind (Unsigned size) → 0 < size
number-some size (inl e) = omega arith
number-some size (inr (inl e)) = omega arith
number-some size (inr (inr e)) = omega arith

text-some : (size : ℕ) → IsKind (Fixed size) → 0 < size
text-some size h = let l = h.0 in omega arith

both-fronts : (bytes first behind second rest : List ℕ) → bytes ≡ first ++ behind → behind ≡ second ++ rest → bytes ≡ (first ++ second) ++ rest
both-fronts bytes first behind second rest e f = e ∙ ap (λ (l : List ℕ). first ++ l) f ∙ sym (append_assoc first second rest)

module _ (owns : HaveOwnBytes) where
  -- a run that has bytes of its own is read of them, whatever stands behind
  run-front : (run : Run) (front more : List ℕ) (values : List Field) → run_at run front ≡ Some (values, []) → run_at run (front ++ more) ≡ Some (values, more)
  run-front run front more values e =
      let g = owns run front [] values e in
      let same : front ≡ g.own = g.whole ∙ append-nil g.own in
      subst (λ (l : List ℕ). run_at run (l ++ more) ≡ Some (values, more)) (sym same) (g.read more)

  pub row-front : (all : List Run) (front more : List ℕ) (values : List Field) → AreSpelled all front values → row_at all (front ++ more) ≡ Some (values, more)
  row-front [] front more values h =
      ap (λ (l : List ℕ). row_at [] (l ++ more)) h.0 ∙ ap (λ (v : List Field). Some (v, more)) (sym h.1)
  row-front (run ∷ all) front more values h =
      let own : List ℕ = h.0 in
      let rest : List ℕ = h.1 in
      let first : List Field = h.2 in
      let others : List Field = h.3 in
      let moved : front ++ more ≡ own ++ (rest ++ more) = ap (λ (l : List ℕ). l ++ more) h.4 ∙ append_assoc own rest more in
      ap (row_at (run ∷ all)) moved
      ∙ ap (λ found. found >>= λ read. option_map (λ more. (read.0 ++ more.0, more.1)) (row_at all read.1)) (run-front run own (rest ++ more) first h.6)
      ∙ ap (option_map (λ more. (first ++ more.0, more.1))) (row-front all rest more others h.7)
      ∙ ap (λ (v : List Field). Some (v, more)) (sym h.5)

  pub row-spelled : (all : List Run) (bytes rest : List ℕ) (values : List Field) → row_at all bytes ≡ Some (values, rest) → (front : List ℕ) × (bytes ≡ front ++ rest) × AreSpelled all front values
  row-spelled [] bytes rest values e =
      let p = same_Some ([], bytes) (values, rest) e in
      let none : values ≡ [] = sym (ap (λ q. q.0) p) in
      ([], ap (λ q. q.1) p, (refl, none))
  row-spelled (run ∷ all) bytes rest values e =
      let read = bind_some (run_at run bytes) (λ read. option_map (λ more. (read.0 ++ more.0, more.1)) (row_at all read.1)) (values, rest) e in
      let first : List Field = read.0.0 in
      let behind : List ℕ = read.0.1 in
      let next = option_map-some (λ (more : List Field × List ℕ). (first ++ more.0, more.1)) (row_at all behind) (values, rest) read.2 in
      let others : List Field = next.0.0 in
      let whole : first ++ others ≡ values = ap (λ q. q.0) next.2 in
      let left : next.0.1 ≡ rest = ap (λ q. q.1) next.2 in
      let g = owns run bytes behind first read.1 in
      let own : run_at run g.own ≡ Some (first, []) = ap (run_at run) (sym (append-nil g.own)) ∙ g.read [] in
      let h = row-spelled all behind rest others (next.1 ∙ ap (λ (l : List ℕ). Some (others, l)) left) in
      let joined : bytes ≡ (g.own ++ h.0) ++ rest = both-fronts bytes g.own behind h.0 rest g.whole h.1 in
      (g.own ++ h.0, joined, (g.own, h.0, first, others, refl, sym whole, own, h.2))

  -- ---- a row has one byte at least
  abbrev bits_read : ℕ → List ℕ × List ℕ → List Field × List ℕ
  bits_read count read = (map fields.Bit (take count (flat_map bits_of read.0)), read.1)

  abbrev field_read : FieldKind → List ℕ × List ℕ → List Field × List ℕ
  field_read kind read = (field_value kind read.0 ∷ [], read.1)

  abbrev bits_first : ℕ → List Run → Option (List ℕ × List ℕ) → Option (List Field × List ℕ)
  bits_first count all found = option_map (bits_read count) found >>= λ read. option_map (λ more. (read.0 ++ more.0, more.1)) (row_at all read.1)

  abbrev field_first : FieldKind → List Run → Option (List ℕ × List ℕ) → Option (List Field × List ℕ)
  field_first kind all found = option_map (field_read kind) found >>= λ read. option_map (λ more. (read.0 ++ more.0, more.1)) (row_at all read.1)

  none-there : (count : ℕ) → 0 < count → bytes_at count [] ≡ None
  unfolding bytes_at
  none-there count h = rw (lt-leb count 0 h) refl

  no-bits : (count : ℕ) (all : List Run) → row_at (BitRun (suc count) ∷ all) [] ≡ None
  no-bits count all =
      let some : 0 < div_ceil (suc count) 8 = omega arith in
      ap (bits_first (suc count) all) (none-there (div_ceil (suc count) 8) some)

  no-first-bit : (all : List Run) → row_at (one_more_bit all) [] ≡ None
  no-first-bit [] = no-bits 0 []
  no-first-bit (BitRun count ∷ all) = no-bits count all
  no-first-bit (Single kind ∷ all) = no-bits 0 (Single kind ∷ all)

  no-sized : (kind : FieldKind) (size : ℕ) (all : List Run) → 0 < size → ((bytes : List ℕ) → field_at kind bytes ≡ bytes_at size bytes) → row_at (Single kind ∷ all) [] ≡ None
  no-sized kind size all h same =
      ap (field_first kind all) (same [] ∙ none-there size h)

  pub some-bytes : (kinds : List FieldKind) → IsStructure kinds → row_at (runs kinds) [] ≡ None
  some-bytes [] h = absurd (h.some refl)
  some-bytes (Bit ∷ kinds) h = no-first-bit (runs kinds)
  some-bytes (Unsigned size ∷ kinds) h = no-sized (Unsigned size) size (runs kinds) (number-some size (All-head IsKind (Unsigned size) kinds h.sizes)) (λ _. refl)
  some-bytes (Signed size ∷ kinds) h = no-sized (Signed size) size (runs kinds) (number-some size (All-head IsKind (Signed size) kinds h.sizes)) (λ _. refl)
  some-bytes (Fixed size ∷ kinds) h = no-sized (Fixed size) size (runs kinds) (text-some size (All-head IsKind (Fixed size) kinds h.sizes)) (λ _. refl)
  some-bytes (Varying ∷ kinds) h = refl

  -- ---- rows
  pub rows-read : (most : ℕ) (kinds : List FieldKind) (bytes : List ℕ) (rows : List (List Field)) → IsStructure kinds → Table bytes kinds rows → length rows ≤ most → rows_in most (runs kinds) bytes ≡ Some rows
  unfolding rows_in
  rows-read zero kinds bytes [] s h few = ap (rows_in zero (runs kinds)) h
  rows-read (suc most) kinds bytes [] s h few = ap (rows_in (suc most) (runs kinds)) h
  rows-read zero kinds bytes (row ∷ rows) s h few = absurd (omega arith)
  rows-read (suc most) kinds [] (row ∷ rows) s h few =
      let read : row_at (runs kinds) [] ≡ Some (row, h.1) = ap (row_at (runs kinds)) h.2 ∙ row-front (runs kinds) h.0 h.1 row h.3 in
      absurd (none-some (row, h.1) (sym (some-bytes kinds s) ∙ read))
  rows-read (suc most) kinds (byte ∷ bytes) (row ∷ rows) s h few =
      let read : row_at (runs kinds) (byte ∷ bytes) ≡ Some (row, h.1) = ap (row_at (runs kinds)) h.2 ∙ row-front (runs kinds) h.0 h.1 row h.3 in
      ap (λ found. found >>= λ read. option_map (λ rows. read.0 ∷ rows) (rows_in most (runs kinds) read.1)) read
      ∙ ap (option_map (λ rows. row ∷ rows)) (rows-read most kinds h.1 rows s h.4 (omega arith))

  pub rows-spelled : (most : ℕ) (kinds : List FieldKind) (bytes : List ℕ) (rows : List (List Field)) → rows_in most (runs kinds) bytes ≡ Some rows → Table bytes kinds rows × (length rows ≤ most)
  unfolding rows_in
  rows-spelled zero kinds [] rows e = subst (λ rows. Table [] kinds rows × (length rows ≤ zero)) (same_Some [] rows e) (refl, omega arith)
  rows-spelled (suc most) kinds [] rows e = subst (λ rows. Table [] kinds rows × (length rows ≤ suc most)) (same_Some [] rows e) (refl, omega arith)
  rows-spelled zero kinds (byte ∷ bytes) rows e = absurd (none-some rows e)
  rows-spelled (suc most) kinds (byte ∷ bytes) rows e =
      let read = bind_some (row_at (runs kinds) (byte ∷ bytes)) (λ read. option_map (λ rows. read.0 ∷ rows) (rows_in most (runs kinds) read.1)) rows e in
      let row : List Field = read.0.0 in
      let rest : List ℕ = read.0.1 in
      let next = option_map-some (λ (rows : List (List Field)). row ∷ rows) (rows_in most (runs kinds) rest) rows read.2 in
      let g = row-spelled (runs kinds) (byte ∷ bytes) rest row read.1 in
      let again = rows-spelled most kinds rest next.0 next.1 in
      let few : length (row ∷ next.0) ≤ suc most = (let l = again.1 in omega arith) in
      subst (λ rows. Table (byte ∷ bytes) kinds rows × (length rows ≤ suc most)) next.2 ((g.0, rest, g.1, g.2, again.0), few)

  pub one-table : (bytes : List ℕ) (kinds : List FieldKind) (rows others : List (List Field)) → IsStructure kinds → Table bytes kinds rows → Table bytes kinds others → rows ≡ others
  one-table bytes kinds rows others s h g =
      same_Some rows others (sym (rows-read (length rows + length others) kinds bytes rows s h (omega arith)) ∙ rows-read (length rows + length others) kinds bytes others s g (omega arith))

  pub worked-out : (bytes : List ℕ) (kinds : List FieldKind) (rows : List (List Field)) (most : ℕ) → IsStructure kinds → (rows_in most (runs kinds) bytes ≡ Some rows) ↔ (Table bytes kinds rows × (length rows ≤ most))
  worked-out bytes kinds rows most s = (rows-spelled most kinds bytes rows, λ h. rows-read most kinds bytes rows s h.0 h.1)
