-- A row that is read field by field, with bits that are still open, is read run by run.
use Rattle.std.proofs.Common.{◌≡◌, ℕ, zero, suc, List, [], ◌∷◌, ◌++◌, length, take, Option, Some, None, refl, sym, ap, ◌∙◌, arith}
use Rattle.std.specs.Prelude.{option_map, map}
use Rattle.std.specs.List.{flat_map}
use Rattle.std.proofs.lemmas.Bool.{le-leb}
use Rattle.std.proofs.lemmas.List.{append-nil}
use Rattle.bml_bytes.specs.Fields.{◌>>=◌, bytes_at}
use Rattle.persistent_arrays.specs.declared.fields.Field.{Field}
use Rattle.persistent_arrays.specs.declared.fields.Field.TheVariants as fields
use Rattle.persistent_arrays.specs.declared.kinds.FieldKind.{FieldKind}
use Rattle.persistent_arrays.specs.declared.kinds.FieldKind.TheVariants.{Bit, Unsigned, Signed, Fixed, Varying}
use Rattle.persistent_arrays.specs.Reading.{Run, BitRun, Single, bits_of, one_more_bit, run_at, runs}
use Rattle.binary_table.specs.Tables.{row_at}

-- values in front of those that are read
abbrev pub in_front : List Field → Option (List Field × List ℕ) → Option (List Field × List ℕ)
in_front first found = option_map (λ (more : List Field × List ℕ). (first ++ more.0, more.1)) found

-- a run, and what is read behind it
abbrev pub run_then : Run → (List ℕ → Option (List Field × List ℕ)) → List ℕ → Option (List Field × List ℕ)
run_then run next bytes = run_at run bytes >>= λ read. in_front read.0 (next read.1)

-- the fields behind so many bits that begin at the front of bytes
abbrev pub walk : ℕ → List FieldKind → List ℕ → Option (List Field × List ℕ)
walk count [] bytes = run_at (BitRun count) bytes
walk count (Bit ∷ kinds) bytes = walk (suc count) kinds bytes
walk count (Unsigned size ∷ kinds) bytes = run_then (BitRun count) (run_then (Single (Unsigned size)) (walk 0 kinds)) bytes
walk count (Signed size ∷ kinds) bytes = run_then (BitRun count) (run_then (Single (Signed size)) (walk 0 kinds)) bytes
walk count (Fixed size ∷ kinds) bytes = run_then (BitRun count) (run_then (Single (Fixed size)) (walk 0 kinds)) bytes
walk count (Varying ∷ kinds) bytes = run_then (BitRun count) (run_then (Single Varying) (walk 0 kinds)) bytes

-- bits in front of runs
abbrev behind_bits : ℕ → List Run → List Run
behind_bits zero all = all
behind_bits (suc count) all = one_more_bit (behind_bits count all)

one-inside : (count : ℕ) (all : List Run) → behind_bits count (one_more_bit all) ≡ one_more_bit (behind_bits count all)
one-inside zero all = refl
one-inside (suc count) all = ap one_more_bit (one-inside count all)

bits-end : (count : ℕ) → behind_bits (suc count) [] ≡ BitRun (suc count) ∷ []
bits-end zero = refl
bits-end (suc count) = ap one_more_bit (bits-end count)

bits-single : (count : ℕ) (kind : FieldKind) (all : List Run) → behind_bits (suc count) (Single kind ∷ all) ≡ BitRun (suc count) ∷ Single kind ∷ all
bits-single zero kind all = refl
bits-single (suc count) kind all = ap one_more_bit (bits-single count kind all)

-- no bits take no bytes
none-asked : (bytes : List ℕ) → bytes_at 0 bytes ≡ Some ([], bytes)
unfolding bytes_at
none-asked bytes = rw (le-leb 0 (length bytes) (omega arith)) refl

abbrev bits_read : ℕ → List ℕ × List ℕ → List Field × List ℕ
bits_read count read = (map fields.Bit (take count (flat_map bits_of read.0)), read.1)

no-bits : (bytes : List ℕ) → run_at (BitRun 0) bytes ≡ Some ([], bytes)
no-bits bytes = ap (option_map (bits_read 0)) (none-asked bytes)

front-nothing : (found : Option (List Field × List ℕ)) → in_front [] found ≡ found
front-nothing None = refl
front-nothing (Some read) = refl

no-bits-then : (next : List ℕ → Option (List Field × List ℕ)) (bytes : List ℕ) → run_then (BitRun 0) next bytes ≡ next bytes
no-bits-then next bytes = ap (λ (found : Option (List Field × List ℕ)). found >>= λ read. in_front read.0 (next read.1)) (no-bits bytes) ∙ front-nothing (next bytes)

last-run : (found : Option (List Field × List ℕ)) → found ≡ (found >>= λ (read : List Field × List ℕ). in_front read.0 (row_at [] read.1))
last-run None = refl
last-run (Some read) = ap (λ (v : List Field). Some (v, read.1)) (sym (append-nil read.0))

then-same : (found : Option (List Field × List ℕ)) (one other : List ℕ → Option (List Field × List ℕ)) → ((bytes : List ℕ) → one bytes ≡ other bytes)
    → (found >>= λ (read : List Field × List ℕ). in_front read.0 (one read.1)) ≡ (found >>= λ (read : List Field × List ℕ). in_front read.0 (other read.1))
then-same None one other h = refl
then-same (Some read) one other h = ap (in_front read.0) (h read.1)

walk-single : (count : ℕ) (kind : FieldKind) (kinds : List FieldKind) (bytes : List ℕ) → ((b : List ℕ) → walk 0 kinds b ≡ row_at (runs kinds) b)
    → run_then (BitRun count) (run_then (Single kind) (walk 0 kinds)) bytes ≡ row_at (behind_bits count (Single kind ∷ runs kinds)) bytes
walk-single zero kind kinds bytes h =
    no-bits-then (run_then (Single kind) (walk 0 kinds)) bytes ∙ then-same (run_at (Single kind) bytes) (walk 0 kinds) (row_at (runs kinds)) h
walk-single (suc count) kind kinds bytes h =
    then-same (run_at (BitRun (suc count)) bytes) (run_then (Single kind) (walk 0 kinds)) (row_at (Single kind ∷ runs kinds)) (λ b. then-same (run_at (Single kind) b) (walk 0 kinds) (row_at (runs kinds)) h)
    ∙ ap (λ (all : List Run). row_at all bytes) (sym (bits-single count kind (runs kinds)))

walk-is : (count : ℕ) (kinds : List FieldKind) (bytes : List ℕ) → walk count kinds bytes ≡ row_at (behind_bits count (runs kinds)) bytes
walk-is zero [] bytes = no-bits bytes
walk-is (suc count) [] bytes = last-run (run_at (BitRun (suc count)) bytes) ∙ ap (λ (all : List Run). row_at all bytes) (sym (bits-end count))
walk-is count (Bit ∷ kinds) bytes = walk-is (suc count) kinds bytes ∙ ap (λ (all : List Run). row_at all bytes) (sym (one-inside count (runs kinds)))
walk-is count (Unsigned size ∷ kinds) bytes = walk-single count (Unsigned size) kinds bytes (walk-is 0 kinds)
walk-is count (Signed size ∷ kinds) bytes = walk-single count (Signed size) kinds bytes (walk-is 0 kinds)
walk-is count (Fixed size ∷ kinds) bytes = walk-single count (Fixed size) kinds bytes (walk-is 0 kinds)
walk-is count (Varying ∷ kinds) bytes = walk-single count Varying kinds bytes (walk-is 0 kinds)

pub walked : (kinds : List FieldKind) (bytes : List ℕ) → walk 0 kinds bytes ≡ row_at (runs kinds) bytes
walked kinds bytes = walk-is 0 kinds bytes
