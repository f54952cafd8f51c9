-- Fields that are packed one after another have the bytes of their pieces.
use Rattle.std.proofs.Common.{◌≡◌, ℕ, suc, ◌<◌, ◌≤◌, Bool, true, false, List, [], ◌∷◌, ◌++◌, length, drop, Option, Some, None, refl, sym, ap, subst, ◌∙◌, arith, length-append}
use Rattle.std.specs.Prelude.{option_map, ◌==◌}
use Rattle.std.specs.List.{flat_map}
use Rattle.std.specs.Int.{div_ceil}
use Rattle.std.proofs.lemmas.Bool.{eqb-true, eqb-false}
use Rattle.std.proofs.lemmas.List.{append-nil, take_all, take_at, drop_at}
use Rattle.bml_bytes.specs.Fields.{◌>>=◌}
use Rattle.persistent_arrays.specs.declared.fields.Field.{Field}
use Rattle.persistent_arrays.specs.declared.fields.Field.TheVariants as fields
use Rattle.persistent_arrays.specs.declared.kinds.FieldKind.{FieldKind}
use Rattle.persistent_arrays.specs.declared.kinds.FieldKind.TheVariants.{Bit, Unsigned, Signed, Fixed, Varying}
use Rattle.persistent_arrays.specs.Fields.{field_bytes}
use Rattle.persistent_arrays.specs.Packing.{Piece, Bits, Bytes, cut_bits, packed, piece_bytes, pieces, weighed, with_bit}
use Rattle.persistent_arrays.specs.devices.Packers.{bit_in, packed_behind, shared_byte}
use Rattle.persistent_arrays.proofs.PackingLemmas.{bit-parts, other-behind}

abbrev laid : List Piece → List ℕ
laid all = flat_map piece_bytes all

-- bits in front of pieces
abbrev before : List Bool → List Piece → List Piece
before [] all = all
before (bit ∷ bits) all = with_bit bit (before bits all)

before-last : (bits : List Bool) (bit : Bool) (all : List Piece) → before (bits ++ bit ∷ []) all ≡ before bits (with_bit bit all)
before-last [] bit all = refl
before-last (first ∷ bits) bit all = ap (with_bit first) (before-last bits bit all)

before-bits : (bits more : List Bool) (all : List Piece) → before bits (Bits more ∷ all) ≡ Bits (bits ++ more) ∷ all
before-bits [] more all = refl
before-bits (first ∷ bits) more all = ap (with_bit first) (before-bits bits more all)

abbrev NoBits : List Piece → Type 0
NoBits [] = Unit {0}
NoBits (Bits bits ∷ all) = ⊥
NoBits (Bytes bytes ∷ all) = Unit {0}

before-none : (first : Bool) (bits : List Bool) (all : List Piece) → NoBits all → before (first ∷ bits) all ≡ Bits (first ∷ bits) ∷ all
before-none first [] [] h = refl
before-none first [] (Bits bits ∷ all) h = absurd h
before-none first [] (Bytes bytes ∷ all) h = refl
before-none first (next ∷ bits) all h = ap (with_bit first) (before-none next bits all h)

-- the bytes of bits
one-byte : (bits : List Bool) → 0 < length bits → length bits ≤ 8 → piece_bytes (Bits bits) ≡ weighed 128 bits ∷ []
one-byte bits some h =
    let one : div_ceil (length bits) 8 ≡ 1 = omega arith in
    ap (λ (n : ℕ). cut_bits n bits) one ∙ ap (λ (b : List Bool). weighed 128 b ∷ []) (take_all 8 bits h)

eight : (bits more : List Bool) → length bits ≡ 8 → piece_bytes (Bits (bits ++ more)) ≡ weighed 128 bits ∷ piece_bytes (Bits more)
eight bits more h =
    let l = length-append bits more in
    let count : div_ceil (length (bits ++ more)) 8 ≡ suc (div_ceil (length more) 8) = omega arith in
    ap (λ (n : ℕ). cut_bits n (bits ++ more)) count
    ∙ ap (λ (b : List Bool). weighed 128 b ∷ cut_bits (div_ceil (length more) 8) (drop 8 (bits ++ more))) (take_at bits more 8 h)
    ∙ ap (λ (b : List Bool). weighed 128 bits ∷ cut_bits (div_ceil (length more) 8) b) (drop_at bits more 8 h)

shared-some : (bits : List Bool) → length bits ≡ 8 → shared_byte bits ≡ weighed 128 bits ∷ []
shared-some [] h = absurd (omega arith)
shared-some (bit ∷ bits) h = refl

-- pieces behind an open byte
closed : (bits : List Bool) (all : List Piece) → NoBits all → length bits ≤ 8 → laid (before bits all) ≡ shared_byte bits ++ laid all
closed [] all none h = refl
closed (first ∷ bits) all none h = ap laid (before-none first bits all none) ∙ ap (λ (b : List ℕ). b ++ laid all) (one-byte (first ∷ bits) (omega arith) h)

full-from : (bits more : List Bool) (all : List Piece) → length bits ≡ 8 → laid (before bits (Bits more ∷ all)) ≡ shared_byte bits ++ laid (Bits more ∷ all)
full-from bits more all h =
    ap laid (before-bits bits more all) ∙ ap (λ (b : List ℕ). b ++ laid all) (eight bits more h)
    ∙ ap (λ (b : List ℕ). b ++ laid (Bits more ∷ all)) (sym (shared-some bits h))

full : (bits : List Bool) (bit : Bool) (all : List Piece) → length bits ≡ 8 → laid (before bits (with_bit bit all)) ≡ shared_byte bits ++ laid (with_bit bit all)
full bits bit [] h = full-from bits (bit ∷ []) [] h
full bits bit (Bits more ∷ all) h = full-from bits (bit ∷ more) all h
full bits bit (Bytes bytes ∷ all) h = full-from bits (bit ∷ []) (Bytes bytes ∷ all) h

-- one more field in front
pub pieces-other : (kind : FieldKind) (value : Field) (kinds : List FieldKind) (values : List Field) → bit_in kind value ≡ None
    → pieces (kind ∷ kinds) (value ∷ values) ≡ (field_bytes kind value >>= λ bytes. option_map (λ rest. Bytes bytes ∷ rest) (pieces kinds values))
pieces-other Bit (fields.Bit bit) kinds values e = absurd cc
pieces-other Bit (fields.Whole number) kinds values e = refl
pieces-other Bit (fields.Words text) kinds values e = refl
pieces-other (Unsigned size) (fields.Bit bit) kinds values e = refl
pieces-other (Unsigned size) (fields.Whole number) kinds values e = refl
pieces-other (Unsigned size) (fields.Words text) kinds values e = refl
pieces-other (Signed size) (fields.Bit bit) kinds values e = refl
pieces-other (Signed size) (fields.Whole number) kinds values e = refl
pieces-other (Signed size) (fields.Words text) kinds values e = refl
pieces-other (Fixed size) (fields.Bit bit) kinds values e = refl
pieces-other (Fixed size) (fields.Whole number) kinds values e = refl
pieces-other (Fixed size) (fields.Words text) kinds values e = refl
pieces-other Varying (fields.Bit bit) kinds values e = refl
pieces-other Varying (fields.Whole number) kinds values e = refl
pieces-other Varying (fields.Words text) kinds values e = refl

joined-full : (bits : List Bool) (bit : Bool) (found : Option (List Piece)) → length bits ≡ 8
    → option_map (λ rest. shared_byte bits ++ rest) (option_map (λ all. laid (before (bit ∷ []) all)) found) ≡ option_map (λ all. laid (before bits all)) (option_map (with_bit bit) found)
joined-full bits bit None h = refl
joined-full bits bit (Some all) h = ap (λ (b : List ℕ). Some b) (sym (full bits bit all h))

joined-open : (bits : List Bool) (bit : Bool) (found : Option (List Piece))
    → option_map (λ all. laid (before (bits ++ bit ∷ []) all)) found ≡ option_map (λ all. laid (before bits all)) (option_map (with_bit bit) found)
joined-open bits bit None = refl
joined-open bits bit (Some all) = ap (λ (p : List Piece). Some (laid p)) (before-last bits bit all)

joined-other : (bits : List Bool) (found : Option (List ℕ)) (rest : Option (List Piece)) → length bits ≤ 8
    → (found >>= λ bytes. option_map (λ more. shared_byte bits ++ (bytes ++ more)) (option_map (λ all. laid (before [] all)) rest)) ≡ option_map (λ all. laid (before bits all)) (found >>= λ bytes. option_map (λ more. Bytes bytes ∷ more) rest)
joined-other bits None rest h = refl
joined-other bits (Some bytes) None h = refl
joined-other bits (Some bytes) (Some all) h = ap (λ (b : List ℕ). Some b) (sym (closed bits (Bytes bytes ∷ all) tt h))

module _ (kinds : List FieldKind) (values : List Field)
    (again : (bits : List Bool) → length bits ≤ 8 → packed_behind bits kinds values ≡ option_map (λ all. laid (before bits all)) (pieces kinds values)) where
  step-bit : (bits : List Bool) (bit full_byte : Bool) → (length bits == 8) ≡ full_byte → length bits ≤ 8
      → packed_behind bits (Bit ∷ kinds) (fields.Bit bit ∷ values) ≡ option_map (λ all. laid (before bits all)) (option_map (with_bit bit) (pieces kinds values))
  step-bit bits bit true e h = rw e (ap (option_map (λ rest. shared_byte bits ++ rest)) (again (bit ∷ []) (omega arith)) ∙ joined-full bits bit (pieces kinds values) (eqb-true (length bits) 8 e))
  step-bit bits bit false e h =
      let other = eqb-false (length bits) 8 e in
      let l = length-append bits (bit ∷ []) in
      let few : length (bits ++ bit ∷ []) ≤ 8 = omega arith in
      rw e (again (bits ++ bit ∷ []) few ∙ joined-open bits bit (pieces kinds values))

  step : (bits : List Bool) (kind : FieldKind) (value : Field) (found : Option Bool) → bit_in kind value ≡ found → length bits ≤ 8
      → packed_behind bits (kind ∷ kinds) (value ∷ values) ≡ option_map (λ all. laid (before bits all)) (pieces (kind ∷ kinds) (value ∷ values))
  step bits kind value None e h =
      other-behind bits kind value kinds values e
      ∙ ap (λ (r : Option (List ℕ)). field_bytes kind value >>= λ bytes. option_map (λ rest. shared_byte bits ++ (bytes ++ rest)) r) (again [] (omega arith))
      ∙ joined-other bits (field_bytes kind value) (pieces kinds values) h
      ∙ ap (option_map (λ all. laid (before bits all))) (sym (pieces-other kind value kinds values e))
  step bits kind value (Some bit) e h =
      let same = bit-parts kind value bit e in
      subst (λ (k : FieldKind). packed_behind bits (k ∷ kinds) (value ∷ values) ≡ option_map (λ all. laid (before bits all)) (pieces (k ∷ kinds) (value ∷ values))) (sym same.0)
      (subst (λ (v : Field). packed_behind bits (Bit ∷ kinds) (v ∷ values) ≡ option_map (λ all. laid (before bits all)) (pieces (Bit ∷ kinds) (v ∷ values))) (sym same.1)
      (step-bit bits bit (length bits == 8) refl h))

behind-is : (bits : List Bool) (kinds : List FieldKind) (values : List Field) → length bits ≤ 8 → packed_behind bits kinds values ≡ option_map (λ all. laid (before bits all)) (pieces kinds values)
behind-is bits [] [] h = ap (λ (b : List ℕ). Some b) (sym (closed bits [] tt h ∙ append-nil (shared_byte bits)))
behind-is bits [] (value ∷ values) h = refl
behind-is bits (Bit ∷ kinds) [] h = refl
behind-is bits (Unsigned size ∷ kinds) [] h = refl
behind-is bits (Signed size ∷ kinds) [] h = refl
behind-is bits (Fixed size ∷ kinds) [] h = refl
behind-is bits (Varying ∷ kinds) [] h = refl
behind-is bits (kind ∷ kinds) (value ∷ values) h = step kinds values (λ b k. behind-is b kinds values k) bits kind value (bit_in kind value) refl h

-- what is packed field by field is what is packed
pub packed-is : (kinds : List FieldKind) (values : List Field) → packed_behind [] kinds values ≡ packed kinds values
packed-is kinds values = behind-is [] kinds values (omega arith)
