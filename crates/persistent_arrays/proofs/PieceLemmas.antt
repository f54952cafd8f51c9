-- What was packed is spelled by its bytes: each run is read of the bytes of its piece, with nothing left over.
use Rattle.std.proofs.Common.{◌≡◌, ℕ, zero, suc, ◌+◌, ◌-◌, ◌*◌, ◌^◌, ◌<◌, ◌≤◌, Bool, false, List, [], ◌∷◌, ◌++◌, length, take, drop, replicate, Option, Some, None, ◌⊎◌, inl, inr, refl, sym, ap, subst, ◌∙◌, arith, length-drop, take-append-drop}
use Rattle.std.specs.Prelude.{option_map, map}
use Rattle.std.specs.List.{flat_map}
use Rattle.std.specs.Int.{div_ceil}
use Rattle.std.proofs.lemmas.Bool.{cases_lt}
use Rattle.std.proofs.lemmas.List.{append-nil, append_assoc, length-take-le}
use Rattle.std.proofs.lemmas.Option.{same_Some, none-some}
use Rattle.bml_bytes.specs.Fields.{FieldLaws, bytes_at}
use Rattle.bml_bytes.specs.Numbers.{big_bytes, big_number}
use Rattle.persistent_arrays.specs.declared.fields.Field.{Field}
use Rattle.persistent_arrays.specs.declared.fields.Field.TheVariants as fields
use Rattle.persistent_arrays.specs.declared.kinds.FieldKind.{FieldKind}
use Rattle.persistent_arrays.specs.declared.kinds.FieldKind.TheVariants.{Bit, Unsigned, Signed, Fixed, Varying}
use Rattle.persistent_arrays.specs.Fields.{field_bytes, field_value}
use Rattle.persistent_arrays.specs.Kept.{kept_value, kept_values}
use Rattle.persistent_arrays.specs.Packing.{Piece, Bits, Bytes, cut_bits, packed, piece_bytes, pieces, weighed, with_bit}
use Rattle.persistent_arrays.specs.Reading.{AreSpelled, Run, BitRun, Single, Spelled, bits_of, field_at, one_more_bit, run_at, runs}
use Rattle.persistent_arrays.specs.devices.Packers.{bit_in}
use Rattle.persistent_arrays.proofs.BitLemmas.{bits_of-weighed}
use Rattle.persistent_arrays.proofs.KeptLemmas.{bind_some, field-back, option_map-some}
use Rattle.persistent_arrays.proofs.LayoutLemmas.{pieces-other}
use Rattle.persistent_arrays.proofs.PackingLemmas.{bit-parts}

-- ---- bits are read of the bytes that they were cut into
take-front : {A : Type 0} (xs ys : List A) → take (length xs) (xs ++ ys) ≡ xs
take-front [] ys = refl
take-front {A} (x ∷ xs) ys = ap (λ (l : List A). x ∷ l) (take-front xs ys)

take-past : {A : Type 0} (xs ys : List A) (m n : ℕ) → m ≡ length xs + n → take m (xs ++ ys) ≡ xs ++ take n ys
take-past [] ys m n e = let same : m ≡ n = omega arith in ap (λ (k : ℕ). take k ys) same
take-past (x ∷ xs) ys zero n e = absurd (omega arith)
take-past {A} (x ∷ xs) ys (suc m) n e = ap (λ (l : List A). x ∷ l) (take-past xs ys m n (omega arith))

take-whole : {A : Type 0} (n : ℕ) (xs : List A) → length xs ≤ n → take n xs ≡ xs
take-whole zero [] h = refl
take-whole zero (x ∷ xs) h = absurd (omega arith)
take-whole (suc n) [] h = refl
take-whole {A} (suc n) (x ∷ xs) h = ap (λ (l : List A). x ∷ l) (take-whole n xs (omega arith))

cut-count : (count : ℕ) (bits : List Bool) → length (cut_bits count bits) ≡ count
cut-count zero bits = refl
cut-count (suc count) bits = ap suc (cut-count count (drop 8 bits))

cut-read : (count : ℕ) (bits : List Bool) → length bits ≤ 8 * count → take (length bits) (flat_map bits_of (cut_bits count bits)) ≡ bits
cut-read zero [] h = refl
cut-read zero (bit ∷ bits) h = absurd (omega arith)
cut-read (suc count) bits h = by (cases_lt (length bits) 8) (cut-read count (drop 8 bits))
  where
    by : (length bits < 8) ⊎ (8 ≤ length bits) → (length (drop 8 bits) ≤ 8 * count → take (length (drop 8 bits)) (flat_map bits_of (cut_bits count (drop 8 bits))) ≡ drop 8 bits)
        → take (length bits) (bits_of (weighed 128 (take 8 bits)) ++ flat_map bits_of (cut_bits count (drop 8 bits))) ≡ bits
    by (inl few) again =
        let rest : List Bool = flat_map bits_of (cut_bits count (drop 8 bits)) in
        let zeros : List Bool = replicate (8 - length bits) false in
        let short : length bits ≤ 8 = omega arith in
        ap (λ (b : List Bool). take (length bits) (bits_of (weighed 128 b) ++ rest)) (take-whole 8 bits short)
        ∙ ap (λ (b : List Bool). take (length bits) (b ++ rest)) (bits_of-weighed bits short)
        ∙ ap (take (length bits)) (append_assoc bits zeros rest)
        ∙ take-front bits (zeros ++ rest)
    by (inr many) again =
        let first : List Bool = take 8 bits in
        let last : List Bool = drop 8 bits in
        let rest : List Bool = flat_map bits_of (cut_bits count last) in
        let eight : length first ≡ 8 = length-take-le 8 bits many in
        let d = length-drop 8 bits in
        let left : length last ≤ 8 * count = omega arith in
        let whole : length bits ≡ length first + length last = omega arith in
        let none : replicate (8 - length first) false ≡ [] = ap (λ (n : ℕ). replicate (8 - n) false) eight in
        let fits : length first ≤ 8 = omega arith in
        let same : bits_of (weighed 128 first) ≡ first = bits_of-weighed first fits ∙ ap (λ (b : List Bool). first ++ b) none ∙ append-nil first in
        ap (λ (b : List Bool). take (length bits) (b ++ rest)) same
        ∙ take-past first rest (length bits) (length last) whole
        ∙ ap (λ (b : List Bool). first ++ b) (again left)
        ∙ take-append-drop 8 bits

-- ---- runs and pieces, side by side
abbrev Together : List Run → List Piece → List Field → Type 0
Together [] [] values = values ≡ []
Together [] (piece ∷ all) values = ⊥
Together (run ∷ all) [] values = ⊥
Together (BitRun count ∷ all) (Bits bits ∷ others) values =
    (more : List Field) × (count ≡ length bits) × (values ≡ map fields.Bit bits ++ more) × Together all others more
Together (BitRun count ∷ all) (Bytes bytes ∷ others) values = ⊥
Together (Single kind ∷ all) (Bits bits ∷ others) values = ⊥
Together (Single kind ∷ all) (Bytes bytes ∷ others) values =
    (value : Field) × (more : List Field) × (values ≡ value ∷ more) × (run_at (Single kind) bytes ≡ Some (value ∷ [], [])) × Together all others more

one-more : (bit : Bool) (all : List Run) (others : List Piece) (values : List Field) → Together all others values → Together (one_more_bit all) (with_bit bit others) (fields.Bit bit ∷ values)
one-more bit [] [] values h = (values, refl, refl, h)
one-more bit [] (piece ∷ others) values h = absurd h
one-more bit (BitRun count ∷ all) [] values h = absurd h
one-more bit (Single kind ∷ all) [] values h = absurd h
one-more bit (BitRun count ∷ all) (Bits bits ∷ others) values h = (h.0, ap suc h.1, ap (λ (l : List Field). fields.Bit bit ∷ l) h.2, h.3)
one-more bit (BitRun count ∷ all) (Bytes bytes ∷ others) values h = absurd h
one-more bit (Single kind ∷ all) (Bits bits ∷ others) values h = absurd h
one-more bit (Single kind ∷ all) (Bytes bytes ∷ others) values h = (values, refl, refl, h)

runs-other : (kind : FieldKind) (value : Field) (front : List ℕ) (kinds : List FieldKind) → field_bytes kind value ≡ Some front → runs (kind ∷ kinds) ≡ Single kind ∷ runs kinds
runs-other Bit value front kinds e = absurd (cc e)
runs-other (Unsigned size) value front kinds e = refl
runs-other (Signed size) value front kinds e = refl
runs-other (Fixed size) value front kinds e = refl
runs-other Varying value front kinds e = refl

no-values : (kind : FieldKind) (kinds : List FieldKind) → pieces (kind ∷ kinds) [] ≡ None
no-values Bit kinds = refl
no-values (Unsigned size) kinds = refl
no-values (Signed size) kinds = refl
no-values (Fixed size) kinds = refl
no-values Varying kinds = refl

abbrev single_value : FieldKind → List ℕ × List ℕ → List Field × List ℕ
single_value kind read = (field_value kind read.0 ∷ [], read.1)

abbrev bit_values : ℕ → List ℕ × List ℕ → List Field × List ℕ
bit_values count read = (map fields.Bit (take count (flat_map bits_of read.0)), read.1)

module _ (laws : FieldLaws) (back : (count number : ℕ) → number < 256 ^ count → big_number (big_bytes count number) ≡ number) where
  single-read : (kind : FieldKind) (value : Field) (front : List ℕ) → field_bytes kind value ≡ Some front → run_at (Single kind) front ≡ Some (kept_value kind value ∷ [], [])
  single-read kind value front e =
      let field = field-back laws back kind value front e in
      ap (λ (b : List ℕ). option_map (single_value kind) (field_at kind b)) (sym (append-nil front))
      ∙ ap (option_map (single_value kind)) (field.read [])
      ∙ ap (λ (v : Field). Some (v ∷ [], [])) field.kept

  bits-read : (count : ℕ) (bits : List Bool) → count ≡ length bits → run_at (BitRun count) (piece_bytes (Bits bits)) ≡ Some (map fields.Bit bits, [])
  bits-read count bits e =
      let many : ℕ = div_ceil (length bits) 8 in
      let front : List ℕ = cut_bits many bits in
      let read : bytes_at many front ≡ Some (front, []) =
      ap (λ (n : ℕ). bytes_at n front) (sym (cut-count many bits)) ∙ ap (bytes_at (length front)) (sym (append-nil front)) ∙ laws.bytes_again front [] in
      let fits : length bits ≤ 8 * many = omega arith in
      ap (λ (n : ℕ). run_at (BitRun n) front) e
      ∙ ap (option_map (bit_values (length bits))) read
      ∙ ap (λ (b : List Bool). Some (map fields.Bit b, [])) (cut-read many bits fits)

  together : (kinds : List FieldKind) (values : List Field) (all : List Piece) → pieces kinds values ≡ Some all → Together (runs kinds) all (kept_values kinds values)
  together [] [] all e = subst (λ (p : List Piece). Together [] p []) (same_Some [] all e) refl
  together [] (value ∷ values) all e = absurd (none-some all e)
  together (kind ∷ kinds) [] all e = absurd (none-some all (sym (no-values kind kinds) ∙ e))
  together (kind ∷ kinds) (value ∷ values) all e = by (bit_in kind value) refl (together kinds values)
    where
      by : (found : Option Bool) → bit_in kind value ≡ found → ((others : List Piece) → pieces kinds values ≡ Some others → Together (runs kinds) others (kept_values kinds values)) → Together (runs (kind ∷ kinds)) all (kept_value kind value ∷ kept_values kinds values)
      by None none again =
          let field = bind_some (field_bytes kind value) (λ bytes. option_map (λ rest. Bytes bytes ∷ rest) (pieces kinds values)) all (sym (pieces-other kind value kinds values none) ∙ e) in
          let rest = option_map-some (λ (rest : List Piece). Bytes field.0 ∷ rest) (pieces kinds values) all field.2 in
          subst (λ (r : List Run). Together r all (kept_value kind value ∷ kept_values kinds values)) (sym (runs-other kind value field.0 kinds field.1))
          (subst (λ (p : List Piece). Together (Single kind ∷ runs kinds) p (kept_value kind value ∷ kept_values kinds values)) rest.2
          (kept_value kind value, kept_values kinds values, refl, single-read kind value field.0 field.1, again rest.0 rest.1))
      by (Some bit) some again =
          let same = bit-parts kind value bit some in
          let pieces_are : option_map (with_bit bit) (pieces kinds values) ≡ Some all =
          subst (λ (v : Field). pieces (Bit ∷ kinds) (v ∷ values) ≡ Some all) same.1 (subst (λ (k : FieldKind). pieces (k ∷ kinds) (value ∷ values) ≡ Some all) same.0 e) in
          let rest = option_map-some (with_bit bit) (pieces kinds values) all pieces_are in
          let bits : Together (runs (Bit ∷ kinds)) all (fields.Bit bit ∷ kept_values kinds values) =
          subst (λ (p : List Piece). Together (one_more_bit (runs kinds)) p (fields.Bit bit ∷ kept_values kinds values)) rest.2 (one-more bit (runs kinds) rest.0 (kept_values kinds values) (again rest.0 rest.1)) in
          subst (λ (k : FieldKind). Together (runs (k ∷ kinds)) all (kept_value k value ∷ kept_values kinds values)) (sym same.0)
          (subst (λ (v : Field). Together (runs (Bit ∷ kinds)) all (kept_value Bit v ∷ kept_values kinds values)) (sym same.1) bits)

  are-spelled : (all : List Run) (others : List Piece) (values : List Field) → Together all others values → AreSpelled all (flat_map piece_bytes others) values
  are-spelled [] [] values h = (refl, h)
  are-spelled [] (piece ∷ others) values h = absurd h
  are-spelled (BitRun count ∷ all) [] values h = absurd h
  are-spelled (Single kind ∷ all) [] values h = absurd h
  are-spelled (BitRun count ∷ all) (Bits bits ∷ others) values h =
      (piece_bytes (Bits bits), flat_map piece_bytes others, map fields.Bit bits, h.0, refl, h.2, bits-read count bits h.1, are-spelled all others h.0 h.3)
  are-spelled (BitRun count ∷ all) (Bytes bytes ∷ others) values h = absurd h
  are-spelled (Single kind ∷ all) (Bits bits ∷ others) values h = absurd h
  are-spelled (Single kind ∷ all) (Bytes bytes ∷ others) values h =
      (bytes, flat_map piece_bytes others, h.0 ∷ [], h.1, refl, h.2, h.3, are-spelled all others h.1 h.4)

  pub packed-spelled : (kinds : List FieldKind) (values : List Field) (bytes : List ℕ) → packed kinds values ≡ Some bytes → Spelled kinds bytes (kept_values kinds values)
  packed-spelled kinds values bytes e =
      let all = option_map-some (flat_map piece_bytes) (pieces kinds values) bytes e in
      subst (λ (b : List ℕ). AreSpelled (runs kinds) b (kept_values kinds values)) all.2 (are-spelled (runs kinds) all.0 (kept_values kinds values) (together kinds values all.0 all.1))
