-- What is read of a row by its places is what is read field by field.
use Rattle.std.proofs.Common.{◌≡◌, ℕ, zero, suc, ◌+◌, ◌-◌, ◌*◌, ◌/◌, ◌%◌, ◌<◌, ◌≤◌, Bool, false, cond, List, [], ◌∷◌, ◌++◌, length, take, drop, get_or, Option, Some, None, ◌⊎◌, inl, inr, refl, sym, ap, subst, ◌∙◌, arith, length-append, length-drop}
use Rattle.std.specs.Prelude.{option_map, map, slice_get}
use Rattle.std.specs.List.{flat_map}
use Rattle.std.specs.Int.{div_ceil}
use Rattle.std.proofs.lemmas.Bool.{le-leb, lt-leb, cases_lt}
use Rattle.std.proofs.lemmas.List.{append-nil, append_assoc, drop-drop, take_more}
use Rattle.std.proofs.lemmas.Option.{same_Some, none-some, slice_get-get_or}
use Rattle.bml_bytes.specs.Fields.{FieldLaws, ◌>>=◌, byte_at, bytes_at}
use Rattle.persistent_arrays.specs.declared.fields.Field.{Field}
use Rattle.persistent_arrays.specs.declared.fields.Field.TheVariants as fields
use Rattle.persistent_arrays.specs.declared.kinds.FieldKind.{FieldKind}
use Rattle.persistent_arrays.specs.declared.kinds.FieldKind.TheVariants.{Bit, Unsigned, Signed, Fixed, Varying}
use Rattle.persistent_arrays.specs.Fields.{field_value}
use Rattle.persistent_arrays.specs.Reading.{BitRun, Single, bits_of, field_at, run_at, runs}
use Rattle.binary_table.specs.declared.columns.Column.{Column}
use Rattle.binary_table.specs.devices.Layouts.{bit_column, byte_column, columns_from, open_bits, stretches_from, tail_from}
use Rattle.binary_table.specs.devices.Places.{behind_bytes, behind_text, look, places_behind, places_of, value_in}
use Rattle.binary_table.specs.Tables.{row_at}
use Rattle.binary_table.proofs.WalkLemmas.{in_front, run_then, walk, walked}

-- ---- what stands behind bytes
abbrev rest_of : List ℕ × List ℕ → List ℕ
rest_of read = read.1

behind-there : (count : ℕ) (left : List ℕ) → count ≤ length left → behind_bytes count left ≡ Some (drop count left)
unfolding bytes_at
behind-there count left h = ap (λ (t : Bool). option_map rest_of (cond t (Some (take count left, drop count left)) None)) (le-leb count (length left) h)

behind-past : (count : ℕ) (left : List ℕ) → length left < count → behind_bytes count left ≡ None
unfolding bytes_at
behind-past count left h = ap (λ (t : Bool). option_map rest_of (cond t (Some (take count left, drop count left)) None)) (lt-leb count (length left) h)

behind-known : (count : ℕ) (left here : List ℕ) → behind_bytes count left ≡ Some here → (count ≤ length left) × (here ≡ drop count left)
behind-known count left here e = by (cases_lt (length left) count)
  where
    by : (length left < count) ⊎ (count ≤ length left) → (count ≤ length left) × (here ≡ drop count left)
    by (inl h) = absurd (none-some here (sym (behind-past count left h) ∙ e))
    by (inr h) = (h, same_Some here (drop count left) (sym e ∙ behind-there count left h))

-- so many bytes, and then so many
pub behind-more : (a b : ℕ) (left here : List ℕ) → behind_bytes a left ≡ Some here → behind_bytes (a + b) left ≡ behind_bytes b here
behind-more a b left here e = by (cases_lt (length left) (a + b))
  where
    by : (length left < a + b) ⊎ (a + b ≤ length left) → behind_bytes (a + b) left ≡ behind_bytes b here
    by (inl h) =
        let k = behind-known a left here e in
        let l = length-drop a left in
        let n = ap length k.1 in
        let short : length here < b = omega arith in
        behind-past (a + b) left h ∙ sym (behind-past b here short)
    by (inr h) =
        let k = behind-known a left here e in
        let l = length-drop a left in
        let n = ap length k.1 in
        let long : b ≤ length here = omega arith in
        let same : drop b here ≡ drop (a + b) left = ap (drop b) k.1 ∙ drop-drop b a left in
        behind-there (a + b) left h ∙ ap (λ (l : List ℕ). Some l) (sym same) ∙ sym (behind-there b here long)

pub behind-nothing : (left : List ℕ) → behind_bytes 0 left ≡ Some left
behind-nothing left = behind-there 0 left (omega arith)

-- fewer bytes
pub behind-fewer : (a b : ℕ) (left next : List ℕ) → a ≤ b → behind_bytes b left ≡ Some next → (here : List ℕ) × (behind_bytes a left ≡ Some here)
behind-fewer a b left next h e =
    let k = behind-known b left next e in
    let fits : a ≤ length left = (let l = k.0 in omega arith) in
    (drop a left, behind-there a left fits)

behind-cons : (count byte : ℕ) (left : List ℕ) → behind_bytes (suc count) (byte ∷ left) ≡ behind_bytes count left
behind-cons count byte left =
    let one : behind_bytes 1 (byte ∷ left) ≡ Some left = behind-there 1 (byte ∷ left) (omega arith) in
    let turned : suc count ≡ 1 + count = omega arith in
    ap (λ (n : ℕ). behind_bytes n (byte ∷ left)) turned ∙ behind-more 1 count (byte ∷ left) left one

-- ---- bits
at-front : {A : Type 0} (xs ys : List A) (i : ℕ) → i < length xs → slice_get (xs ++ ys) i ≡ slice_get xs i
at-front [] ys i h = absurd (omega arith)
at-front (x ∷ xs) ys zero h = refl
at-front (x ∷ xs) ys (suc i) h = at-front xs ys i (omega arith)

at-behind : {A : Type 0} (xs ys : List A) (n i : ℕ) → n ≡ length xs + i → slice_get (xs ++ ys) n ≡ slice_get ys i
at-behind [] ys n i e = let same : n ≡ i = omega arith in ap (slice_get ys) same
at-behind (x ∷ xs) ys zero i e = absurd (omega arith)
at-behind (x ∷ xs) ys (suc n) i e = at-behind xs ys n i (omega arith)

bit-found : (read rest : List ℕ) (i : ℕ) → i < 8 * length read → (behind_bytes (i / 8) (read ++ rest) >>= value_in Bit (i % 8)) ≡ option_map fields.Bit (slice_get (flat_map bits_of read) i)
bit-found [] rest i h = absurd (omega arith)
bit-found (byte ∷ read) rest i h = by (cases_lt i 8) (bit-found read rest (i - 8))
  where
    by : (i < 8) ⊎ (8 ≤ i) → (i - 8 < 8 * length read → (behind_bytes ((i - 8) / 8) (read ++ rest) >>= value_in Bit ((i - 8) % 8)) ≡ option_map fields.Bit (slice_get (flat_map bits_of read) (i - 8))) → (behind_bytes (i / 8) (byte ∷ (read ++ rest)) >>= value_in Bit (i % 8)) ≡ option_map fields.Bit (slice_get (bits_of byte ++ flat_map bits_of read) i)
    by (inl few) again =
        let none : i / 8 ≡ 0 = omega arith in
        let same : i % 8 ≡ i = omega arith in
        ap (λ (n : ℕ). behind_bytes n (byte ∷ (read ++ rest)) >>= value_in Bit (i % 8)) none
        ∙ ap (λ (found : Option (List ℕ)). found >>= value_in Bit (i % 8)) (behind-nothing (byte ∷ (read ++ rest)))
        ∙ ap (λ (n : ℕ). option_map fields.Bit (slice_get (bits_of byte) n)) same
        ∙ ap (option_map fields.Bit) (sym (at-front (bits_of byte) (flat_map bits_of read) i few))
    by (inr many) again =
        let place : i / 8 ≡ suc ((i - 8) / 8) = omega arith in
        let bit : i % 8 ≡ (i - 8) % 8 = omega arith in
        let left : i - 8 < 8 * length read = omega arith in
        let whole : i ≡ 8 + (i - 8) = omega arith in
        ap (λ (n : ℕ). behind_bytes n (byte ∷ (read ++ rest)) >>= value_in Bit (i % 8)) place
        ∙ ap (λ (found : Option (List ℕ)). found >>= value_in Bit (i % 8)) (behind-cons ((i - 8) / 8) byte (read ++ rest))
        ∙ ap (λ (n : ℕ). behind_bytes ((i - 8) / 8) (read ++ rest) >>= value_in Bit n) bit
        ∙ again left
        ∙ ap (option_map fields.Bit) (sym (at-behind (bits_of byte) (flat_map bits_of read) i (i - 8) whole))

bits-count : (read : List ℕ) → length (flat_map bits_of read) ≡ 8 * length read
bits-count [] = refl
bits-count (byte ∷ read) =
    let again = bits-count read in
    let l = length-append (bits_of byte) (flat_map bits_of read) in
    let eight : length (bits_of byte) ≡ 8 = refl in
    omega arith

pub map-joined : {A B : Type 0} (f : A → B) (xs ys : List A) → map f (xs ++ ys) ≡ map f xs ++ map f ys
map-joined f [] ys = refl
map-joined {B = B} f (x ∷ xs) ys = ap (λ (l : List B). f x ∷ l) (map-joined f xs ys)

abbrev pub some_value : Field → Option Field
some_value value = Some value

abbrev bit_value : Bool → Field
bit_value bit = fields.Bit bit

-- the bits that begin at an offset behind a place
module _ (places : List (List ℕ)) (varying offset : ℕ) (left here read rest : List ℕ) (there : slice_get places varying ≡ Some left) (behind : behind_bytes offset left ≡ Some here) (whole : here ≡ read ++ rest) where
  look-bit : (i : ℕ) → look places (bit_column varying offset i) ≡ (behind_bytes (i / 8) (read ++ rest) >>= value_in Bit (i % 8))
  look-bit i =
      ap (λ (found : Option (List ℕ)). found >>= λ left. behind_bytes (offset + i / 8) left >>= λ here. value_in Bit (i % 8) here) there
      ∙ ap (λ (found : Option (List ℕ)). found >>= value_in Bit (i % 8)) (behind-more offset (i / 8) left here behind)
      ∙ ap (λ (l : List ℕ). behind_bytes (i / 8) l >>= value_in Bit (i % 8)) whole

  look-bits : (count : ℕ) → count ≤ 8 * length read → map some_value (map bit_value (take count (flat_map bits_of read))) ≡ map (look places) (open_bits varying offset count)
  look-bits zero h = refl
  look-bits (suc count) h =
      let all : List Bool = flat_map bits_of read in
      let n = bits-count read in
      let fits : count < length all = omega arith in
      let last : Bool = get_or all count false in
      let turned : suc count ≡ count + 1 = omega arith in
      let longer : take (suc count) all ≡ take count all ++ last ∷ [] = ap (λ (n : ℕ). take n all) turned ∙ take_more all count false fits in
      let value : look places (bit_column varying offset count) ≡ Some (fields.Bit last) =
      look-bit count ∙ bit-found read rest count (omega arith) ∙ ap (option_map bit_value) (slice_get-get_or all count false fits) in
      ap (λ (b : List Bool). map some_value (map bit_value b)) longer
      ∙ ap (map some_value) (map-joined bit_value (take count all) (last ∷ []))
      ∙ map-joined some_value (map bit_value (take count all)) (bit_value last ∷ [])
      ∙ ap (λ (v : List (Option Field)). v ++ Some (fields.Bit last) ∷ []) (look-bits count (omega arith))
      ∙ ap (λ (v : Option Field). map (look places) (open_bits varying offset count) ++ v ∷ []) (sym value)
      ∙ sym (map-joined (look places) (open_bits varying offset count) (bit_column varying offset count ∷ []))

-- ---- a row
at-before : (before later : List (List ℕ)) (left : List ℕ) (varying : ℕ) → length before ≡ varying → slice_get (before ++ left ∷ later) varying ≡ Some left
at-before before later left varying e = let n : varying ≡ length before + 0 = omega arith in at-behind before (left ∷ later) varying 0 n

-- What is read field by field, against the places behind the first. The columns show the values.
abbrev IsReadAs : Option (List Field × List ℕ) → List Column → List (List ℕ) → List ℕ → Option (List (List ℕ) × List ℕ) → Type 0
IsReadAs read columns before left None = read ≡ None
IsReadAs read columns before left (Some found) =
    (values : List Field) × (read ≡ Some (values, found.1)) × (map some_value values ≡ map (look (before ++ left ∷ found.0)) columns)

abbrev places_from : ℕ → ℕ → List FieldKind → List ℕ → Option (List (List ℕ) × List ℕ)
places_from offset count kinds left = places_behind (tail_from offset count kinds) (stretches_from offset count kinds) left

abbrev columns_with : ℕ → ℕ → ℕ → List FieldKind → List Column
columns_with varying offset count kinds = open_bits varying offset count ++ columns_from varying offset count kinds

abbrev bits_read : ℕ → List ℕ × List ℕ → List Field × List ℕ
bits_read count read = (map bit_value (take count (flat_map bits_of read.0)), read.1)

abbrev field_read : FieldKind → List ℕ × List ℕ → List Field × List ℕ
field_read kind read = (field_value kind read.0 ∷ [], read.1)

-- bytes are there for all that the first stretch has
text-there : (size : ℕ) (left : List ℕ) → behind_bytes size left ≡ None → behind_text size left ≡ None
text-there size left e = ap (λ (found : Option (List ℕ)). found >>= λ next. byte_at next >>= λ count. behind_bytes count.0 count.1) e

there-fewer : (a b : ℕ) (left : List ℕ) → a ≤ b → behind_bytes a left ≡ None → behind_bytes b left ≡ None
there-fewer a b left h e = by (behind_bytes b left) refl
  where
    by : (found : Option (List ℕ)) → behind_bytes b left ≡ found → behind_bytes b left ≡ None
    by None f = f
    by (Some next) f = (let g = behind-fewer a b left next h f in absurd (none-some g.0 (sym e ∙ g.1)))

no-places : (kinds : List FieldKind) (offset count : ℕ) (left : List ℕ) → behind_bytes (offset + div_ceil count 8) left ≡ None → places_from offset count kinds left ≡ None
no-places [] offset count left e = ap (option_map (λ (rest : List ℕ). ([], rest))) e
no-places (Bit ∷ kinds) offset count left e = no-places kinds offset (suc count) left (there-fewer (offset + div_ceil count 8) (offset + div_ceil (suc count) 8) left (omega arith) e)
no-places (Unsigned size ∷ kinds) offset count left e = no-places kinds (offset + div_ceil count 8 + size) 0 left (there-fewer (offset + div_ceil count 8) (offset + div_ceil count 8 + size + div_ceil 0 8) left (omega arith) e)
no-places (Signed size ∷ kinds) offset count left e = no-places kinds (offset + div_ceil count 8 + size) 0 left (there-fewer (offset + div_ceil count 8) (offset + div_ceil count 8 + size + div_ceil 0 8) left (omega arith) e)
no-places (Fixed size ∷ kinds) offset count left e = no-places kinds (offset + div_ceil count 8 + size) 0 left (there-fewer (offset + div_ceil count 8) (offset + div_ceil count 8 + size + div_ceil 0 8) left (omega arith) e)
no-places (Varying ∷ kinds) offset count left e =
    ap (λ (found : Option (List ℕ)). found >>= λ next. option_map (λ (found : List (List ℕ) × List ℕ). (next ∷ found.0, found.1)) (places_behind (tail_from 0 0 kinds) (stretches_from 0 0 kinds) next)) (text-there (offset + div_ceil count 8) left e)

module _ (laws : FieldLaws) where
  -- the bits, a field and what is read behind it
  shown : (places : List (List ℕ)) (varying offset count : ℕ) (left here mid : List ℕ) (read : List ℕ) (kind : FieldKind) (value : Field) (values : List Field) (columns : List Column)
      → slice_get places varying ≡ Some left → behind_bytes offset left ≡ Some here → bytes_at (div_ceil count 8) here ≡ Some (read, mid)
      → value_in kind 0 mid ≡ Some value → map some_value values ≡ map (look places) columns
      → map some_value (map bit_value (take count (flat_map bits_of read)) ++ (value ∷ values)) ≡ map (look places) (open_bits varying offset count ++ (byte_column kind varying (offset + div_ceil count 8) ∷ columns))
  shown places varying offset count left here mid read kind value values columns there behind bits field again =
      let g = laws.bytes (div_ceil count 8) here (read, mid) bits in
      let n = g.1 in
      let fits : count ≤ 8 * length read = omega arith in
      let middle : behind_bytes (offset + div_ceil count 8) left ≡ Some mid = behind-more offset (div_ceil count 8) left here behind ∙ ap (option_map rest_of) bits in
      let seen : look places (byte_column kind varying (offset + div_ceil count 8)) ≡ Some value =
      ap (λ (found : Option (List ℕ)). found >>= λ left. behind_bytes (offset + div_ceil count 8) left >>= λ here. value_in kind 0 here) there
      ∙ ap (λ (found : Option (List ℕ)). found >>= λ here. value_in kind 0 here) middle ∙ field in
      map-joined some_value (map bit_value (take count (flat_map bits_of read))) (value ∷ values)
      ∙ ap (λ (l : List (Option Field)). l ++ (Some value ∷ map some_value values)) (look-bits places varying offset left here read mid there behind g.0 count fits)
      ∙ ap (λ (l : List (Option Field)). map (look places) (open_bits varying offset count) ++ (Some value ∷ l)) again
      ∙ ap (λ (v : Option Field). map (look places) (open_bits varying offset count) ++ (v ∷ map (look places) columns)) (sym seen)
      ∙ sym (map-joined (look places) (open_bits varying offset count) (byte_column kind varying (offset + div_ceil count 8) ∷ columns))

  abbrev field_then : ℕ → FieldKind → List FieldKind → List ℕ → Option (List Field × List ℕ)
  field_then count kind kinds here = run_then (BitRun count) (run_then (Single kind) (walk 0 kinds)) here

  abbrev after_bits : ℕ → FieldKind → List FieldKind → Option (List ℕ × List ℕ) → Option (List Field × List ℕ)
  after_bits count kind kinds found = option_map (bits_read count) found >>= λ (read : List Field × List ℕ). in_front read.0 (run_then (Single kind) (walk 0 kinds) read.1)

  abbrev after_field : FieldKind → List FieldKind → Option (List ℕ × List ℕ) → Option (List Field × List ℕ)
  after_field kind kinds found = option_map (field_read kind) found >>= λ (read : List Field × List ℕ). in_front read.0 (walk 0 kinds read.1)

  -- the last bits
  last-bits : (varying offset count : ℕ) (left here : List ℕ) (before : List (List ℕ)) → behind_bytes offset left ≡ Some here → length before ≡ varying
      → IsReadAs (run_at (BitRun count) here) (open_bits varying offset count ++ []) before left (option_map (λ (rest : List ℕ). ([], rest)) (behind_bytes (offset + div_ceil count 8) left))
  last-bits varying offset count left here before behind e =
      subst (λ (found : Option (List ℕ)). IsReadAs (run_at (BitRun count) here) (open_bits varying offset count ++ []) before left (option_map (λ (rest : List ℕ). ([], rest)) found))
      (sym (behind-more offset (div_ceil count 8) left here behind)) (by (bytes_at (div_ceil count 8) here) refl)
    where
      by : (found : Option (List ℕ × List ℕ)) → bytes_at (div_ceil count 8) here ≡ found
          → IsReadAs (option_map (bits_read count) found) (open_bits varying offset count ++ []) before left (option_map (λ (rest : List ℕ). ([], rest)) (option_map rest_of found))
      by None f = refl
      by (Some read) f =
          let g = laws.bytes (div_ceil count 8) here read f in
          let n = g.1 in
          let fits : count ≤ 8 * length read.0 = omega arith in
          let places : List (List ℕ) = before ++ left ∷ [] in (
            map bit_value (take count (flat_map bits_of read.0)),
            refl,
            look-bits places varying offset left here read.0 read.1 (at-before before [] left varying e) behind g.0 count fits
                ∙ ap (map (look places)) (sym (append-nil (open_bits varying offset count))),
          )

  -- one more bit
  one-bit : (varying offset count : ℕ) (kinds : List FieldKind) (left : List ℕ) (before : List (List ℕ)) (read : Option (List Field × List ℕ)) (found : Option (List (List ℕ) × List ℕ))
      → IsReadAs read (columns_with varying offset (suc count) kinds) before left found → IsReadAs read (columns_with varying offset count (Bit ∷ kinds)) before left found
  one-bit varying offset count kinds left before read None h = h
  one-bit varying offset count kinds left before read (Some found) h =
      (h.0, h.1, h.2 ∙ ap (map (look (before ++ left ∷ found.0))) (append_assoc (open_bits varying offset count) (bit_column varying offset count ∷ []) (columns_from varying offset (suc count) kinds)))

  -- what was read before the places behind is read as the places say
  later-place : (read : Option (List Field × List ℕ)) (columns : List Column) (before : List (List ℕ)) (left next : List ℕ) (found : Option (List (List ℕ) × List ℕ))
      → IsReadAs read columns (before ++ left ∷ []) next found → IsReadAs read columns before left (option_map (λ (found : List (List ℕ) × List ℕ). (next ∷ found.0, found.1)) found)
  later-place read columns before left next None h = h
  later-place read columns before left next (Some found) h =
      (h.0, h.1, h.2 ∙ ap (λ (places : List (List ℕ)). map (look places) columns) (append_assoc before (left ∷ []) (next ∷ found.0)))

  none-read : (columns : List Column) (before : List (List ℕ)) (left : List ℕ) (read : Option (List Field × List ℕ)) (found : Option (List (List ℕ) × List ℕ)) → read ≡ None → found ≡ None → IsReadAs read columns before left found
  none-read columns before left read found e f = subst (IsReadAs read columns before left) (sym f) e

  module _ (kind : FieldKind) (varying offset count : ℕ) (kinds : List FieldKind) (left here : List ℕ) (before : List (List ℕ)) (columns : List Column)
      (behind : behind_bytes offset left ≡ Some here) (e : length before ≡ varying)
      (shows : (bytes : List ℕ) → value_in kind 0 bytes ≡ option_map (λ (read : List ℕ × List ℕ). field_value kind read.0) (field_at kind bytes)) where
    abbrev all_of : List Column
    all_of = open_bits varying offset count ++ (byte_column kind varying (offset + div_ceil count 8) ∷ columns)

    front-read : (read mid text next : List ℕ) (found : Option (List (List ℕ) × List ℕ)) → bytes_at (div_ceil count 8) here ≡ Some (read, mid) → field_at kind mid ≡ Some (text, next)
        → IsReadAs (walk 0 kinds next) columns before left found → IsReadAs (after_bits count kind kinds (Some (read, mid))) all_of before left found
    front-read read mid text next None bits field h =
        ap (λ (f : Option (List ℕ × List ℕ)). in_front (map bit_value (take count (flat_map bits_of read))) (after_field kind kinds f)) field
        ∙ ap (λ (f : Option (List Field × List ℕ)). in_front (map bit_value (take count (flat_map bits_of read))) (in_front (field_value kind text ∷ []) f)) h
    front-read read mid text next (Some found) bits field h =
        let value : value_in kind 0 mid ≡ Some (field_value kind text) = shows mid ∙ ap (option_map (λ (read : List ℕ × List ℕ). field_value kind read.0)) field in (
          map bit_value (take count (flat_map bits_of read)) ++ (field_value kind text ∷ h.0),
          ap (λ (f : Option (List ℕ × List ℕ)). in_front (map bit_value (take count (flat_map bits_of read))) (after_field kind kinds f)) field
              ∙ ap (λ (f : Option (List Field × List ℕ)). in_front (map bit_value (take count (flat_map bits_of read))) (in_front (field_value kind text ∷ []) f)) h.1,
          shown (before ++ left ∷ found.0) varying offset count left here mid read kind (field_value kind text) h.0 columns (at-before before found.0 left varying e) behind bits value h.2,
        )

    sized-field : (size : ℕ) (read mid : List ℕ) (field : Option (List ℕ × List ℕ)) (found : Option (List (List ℕ) × List ℕ)) → field_at kind mid ≡ field → field_at kind mid ≡ bytes_at size mid
        → bytes_at (div_ceil count 8) here ≡ Some (read, mid) → (behind_bytes (offset + div_ceil count 8 + size) left ≡ None → found ≡ None)
        → ((next : List ℕ) → behind_bytes (offset + div_ceil count 8 + size) left ≡ Some next → IsReadAs (walk 0 kinds next) columns before left found)
        → IsReadAs (after_bits count kind kinds (Some (read, mid))) all_of before left found
    sized-field size read mid None found f at bits none again =
        let middle : behind_bytes (offset + div_ceil count 8) left ≡ Some mid = behind-more offset (div_ceil count 8) left here behind ∙ ap (option_map rest_of) bits in
        let past : behind_bytes (offset + div_ceil count 8 + size) left ≡ None = behind-more (offset + div_ceil count 8) size left mid middle ∙ ap (option_map rest_of) (sym at ∙ f) in
        none-read all_of before left (after_bits count kind kinds (Some (read, mid))) found
        (ap (λ (f : Option (List ℕ × List ℕ)). in_front (map bit_value (take count (flat_map bits_of read))) (after_field kind kinds f)) f) (none past)
    sized-field size read mid (Some field) found f at bits none again =
        let middle : behind_bytes (offset + div_ceil count 8) left ≡ Some mid = behind-more offset (div_ceil count 8) left here behind ∙ ap (option_map rest_of) bits in
        let past : behind_bytes (offset + div_ceil count 8 + size) left ≡ Some field.1 = behind-more (offset + div_ceil count 8) size left mid middle ∙ ap (option_map rest_of) (sym at ∙ f) in
        front-read read mid field.0 field.1 found bits f (again field.1 past)

    -- a field of a fixed size
    sized : (size : ℕ) (bits : Option (List ℕ × List ℕ)) (found : Option (List (List ℕ) × List ℕ)) → bytes_at (div_ceil count 8) here ≡ bits → ((bytes : List ℕ) → field_at kind bytes ≡ bytes_at size bytes)
        → (behind_bytes (offset + div_ceil count 8 + size) left ≡ None → found ≡ None)
        → ((next : List ℕ) → behind_bytes (offset + div_ceil count 8 + size) left ≡ Some next → IsReadAs (walk 0 kinds next) columns before left found)
        → IsReadAs (after_bits count kind kinds bits) all_of before left found
    sized size None found f at none again =
        let middle : behind_bytes (offset + div_ceil count 8) left ≡ None = behind-more offset (div_ceil count 8) left here behind ∙ ap (option_map rest_of) f in
        none-read all_of before left None found refl (none (there-fewer (offset + div_ceil count 8) (offset + div_ceil count 8 + size) left (omega arith) middle))
    sized size (Some read) found f at none again = sized-field size read.0 read.1 (field_at kind read.1) found refl (at read.1) f none again

  -- the text behind a stretch
  text-behind : (mid : List ℕ) → (byte_at mid >>= λ count. behind_bytes count.0 count.1) ≡ option_map rest_of (field_at Varying mid)
  text-behind [] = refl
  text-behind (byte ∷ mid) = refl

  abbrev places_then : List FieldKind → Option (List ℕ) → Option (List (List ℕ) × List ℕ)
  places_then kinds found = found >>= λ next. option_map (λ (found : List (List ℕ) × List ℕ). (next ∷ found.0, found.1)) (places_from 0 0 kinds next)

  module _ (varying offset count : ℕ) (kinds : List FieldKind) (left here : List ℕ) (before : List (List ℕ)) (behind : behind_bytes offset left ≡ Some here) (e : length before ≡ varying)
      (again : (next : List ℕ) → IsReadAs (walk 0 kinds next) (columns_from (suc varying) 0 0 kinds) (before ++ left ∷ []) next (places_from 0 0 kinds next)) where
    abbrev varying_columns : List Column
    varying_columns = open_bits varying offset count ++ (byte_column Varying varying (offset + div_ceil count 8) ∷ columns_from (suc varying) 0 0 kinds)

    varying-field : (read mid : List ℕ) (field : Option (List ℕ × List ℕ)) → field_at Varying mid ≡ field → bytes_at (div_ceil count 8) here ≡ Some (read, mid)
        → IsReadAs (after_bits count Varying kinds (Some (read, mid))) varying_columns before left (places_then kinds (option_map rest_of field))
    varying-field read mid None f bits =
        ap (λ (f : Option (List ℕ × List ℕ)). in_front (map bit_value (take count (flat_map bits_of read))) (after_field Varying kinds f)) f
    varying-field read mid (Some field) f bits =
        front-read Varying varying offset count kinds left here before (columns_from (suc varying) 0 0 kinds) behind e (λ _. refl) read mid field.0 field.1 _ bits f
        (later-place (walk 0 kinds field.1) (columns_from (suc varying) 0 0 kinds) before left field.1 (places_from 0 0 kinds field.1) (again field.1))

    varied : (bits : Option (List ℕ × List ℕ)) → bytes_at (div_ceil count 8) here ≡ bits
        → IsReadAs (after_bits count Varying kinds bits) varying_columns before left (places_then kinds (behind_text (offset + div_ceil count 8) left))
    varied None f =
        let middle : behind_bytes (offset + div_ceil count 8) left ≡ None = behind-more offset (div_ceil count 8) left here behind ∙ ap (option_map rest_of) f in
        none-read varying_columns before left None (places_then kinds (behind_text (offset + div_ceil count 8) left)) refl (ap (places_then kinds) (text-there (offset + div_ceil count 8) left middle))
    varied (Some read) f =
        let middle : behind_bytes (offset + div_ceil count 8) left ≡ Some read.1 = behind-more offset (div_ceil count 8) left here behind ∙ ap (option_map rest_of) f in
        let text : behind_text (offset + div_ceil count 8) left ≡ option_map rest_of (field_at Varying read.1) =
        ap (λ (found : Option (List ℕ)). found >>= λ next. byte_at next >>= λ count. behind_bytes count.0 count.1) middle ∙ text-behind read.1 in
        subst (λ (found : Option (List ℕ)). IsReadAs (after_bits count Varying kinds (Some read)) varying_columns before left (places_then kinds found)) (sym text)
        (varying-field read.0 read.1 (field_at Varying read.1) refl f)

  abbrev still_none : ℕ → List FieldKind → List ℕ → Type 0
  still_none offset kinds left = behind_bytes offset left ≡ None → places_from offset 0 kinds left ≡ None

  none-still : (offset : ℕ) (kinds : List FieldKind) (left : List ℕ) → still_none offset kinds left
  none-still offset kinds left e = no-places kinds offset 0 left (there-fewer offset (offset + div_ceil 0 8) left (omega arith) e)

  reads : (kinds : List FieldKind) (varying offset count : ℕ) (left here : List ℕ) (before : List (List ℕ)) → behind_bytes offset left ≡ Some here → length before ≡ varying
      → IsReadAs (walk count kinds here) (columns_with varying offset count kinds) before left (places_from offset count kinds left)
  reads [] varying offset count left here before behind e = last-bits varying offset count left here before behind e
  reads (Bit ∷ kinds) varying offset count left here before behind e =
      one-bit varying offset count kinds left before (walk (suc count) kinds here) (places_from offset (suc count) kinds left) (reads kinds varying offset (suc count) left here before behind e)
  reads (Unsigned size ∷ kinds) varying offset count left here before behind e =
      sized (Unsigned size) varying offset count kinds left here before (columns_from varying (offset + div_ceil count 8 + size) 0 kinds) behind e (λ _. refl) size (bytes_at (div_ceil count 8) here)
      (places_from (offset + div_ceil count 8 + size) 0 kinds left) refl (λ _. refl) (none-still (offset + div_ceil count 8 + size) kinds left)
      (λ next b. reads kinds varying (offset + div_ceil count 8 + size) 0 left next before b e)
  reads (Signed size ∷ kinds) varying offset count left here before behind e =
      sized (Signed size) varying offset count kinds left here before (columns_from varying (offset + div_ceil count 8 + size) 0 kinds) behind e (λ _. refl) size (bytes_at (div_ceil count 8) here)
      (places_from (offset + div_ceil count 8 + size) 0 kinds left) refl (λ _. refl) (none-still (offset + div_ceil count 8 + size) kinds left)
      (λ next b. reads kinds varying (offset + div_ceil count 8 + size) 0 left next before b e)
  reads (Fixed size ∷ kinds) varying offset count left here before behind e =
      sized (Fixed size) varying offset count kinds left here before (columns_from varying (offset + div_ceil count 8 + size) 0 kinds) behind e (λ _. refl) size (bytes_at (div_ceil count 8) here)
      (places_from (offset + div_ceil count 8 + size) 0 kinds left) refl (λ _. refl) (none-still (offset + div_ceil count 8 + size) kinds left)
      (λ next b. reads kinds varying (offset + div_ceil count 8 + size) 0 left next before b e)
  reads (Varying ∷ kinds) varying offset count left here before behind e =
      let longer : length (before ++ left ∷ []) ≡ suc varying = (let l = length-append before (left ∷ []) in omega arith) in
      varied varying offset count kinds left here before behind e
      (λ next. reads kinds (suc varying) 0 0 next next (before ++ left ∷ []) (behind-nothing next) longer)
      (bytes_at (div_ceil count 8) here) refl

  -- ---- a row
  abbrev pub IsRow : List FieldKind → List ℕ → Option (List (List ℕ) × List ℕ) → Type 0
  IsRow kinds left None = row_at (runs kinds) left ≡ None
  IsRow kinds left (Some found) =
      (values : List Field) × (row_at (runs kinds) left ≡ Some (values, found.1)) × (map some_value values ≡ map (look found.0) (columns_from 0 0 0 kinds))

  row-from : (kinds : List FieldKind) (left : List ℕ) (found : Option (List (List ℕ) × List ℕ)) → IsReadAs (walk 0 kinds left) (columns_from 0 0 0 kinds) [] left found
      → IsRow kinds left (option_map (λ (found : List (List ℕ) × List ℕ). (left ∷ found.0, found.1)) found)
  row-from kinds left None h = sym (walked kinds left) ∙ h
  row-from kinds left (Some found) h = (h.0, sym (walked kinds left) ∙ h.1, h.2)

  pub is-row : (kinds : List FieldKind) (left : List ℕ) → IsRow kinds left (places_of (tail_from 0 0 kinds) (stretches_from 0 0 kinds) left)
  is-row kinds left = row-from kinds left (places_from 0 0 kinds left) (reads kinds 0 0 0 left left [] (behind-nothing left) refl)
