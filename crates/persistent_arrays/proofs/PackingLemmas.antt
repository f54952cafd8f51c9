-- How fields are packed one after another.
use Rattle.std.proofs.Common.{◌≡◌, ℕ, suc, ◌<◌, ◌≤◌, nat_le, Bool, true, false, List, [], ◌∷◌, ◌++◌, length, Option, Some, None, ◌⊎◌, inl, inr, refl, sym, ap, subst, ◌∙◌, arith, length-append}
use Rattle.std.specs.Prelude.{option_map, ◌==◌}
use Rattle.std.proofs.lemmas.Bool.{le-leb, lt-leb, leb-true, leb-false, eq-eqb, ne_eqb, cases_Bool}
use Rattle.std.proofs.lemmas.List.{append_assoc}
use Rattle.std.proofs.lemmas.Option.{same_Some, cond_some}
use Rattle.bml_bytes.specs.Fields.{◌>>=◌}
use Rattle.persistent_arrays.specs.declared.fields.Field.{Field}
use Rattle.persistent_arrays.specs.declared.fields.Field.TheVariants as fields
use Rattle.persistent_arrays.specs.declared.kinds.FieldKind.{FieldKind}
use Rattle.persistent_arrays.specs.declared.kinds.FieldKind.TheVariants.{Bit, Unsigned, Signed, Fixed, Varying}
use Rattle.persistent_arrays.specs.Fields.{field_bytes}
use Rattle.persistent_arrays.specs.Packing.{within_array}
use Rattle.persistent_arrays.specs.devices.Packers.{bit_in, packed_after, packed_behind, shared_byte}

-- bytes in front of bytes in front of others
pub behind-both : (front more : List ℕ) (found : Option (List ℕ)) → option_map (λ rest. front ++ rest) (option_map (λ rest. more ++ rest) found) ≡ option_map (λ rest. (front ++ more) ++ rest) found
behind-both front more None = refl
behind-both front more (Some rest) = ap (λ (all : List ℕ). Some all) (sym (append_assoc front more rest))

behind-three : (front more last : List ℕ) (found : Option (List ℕ)) → option_map (λ rest. front ++ rest) (option_map (λ rest. more ++ (last ++ rest)) found) ≡ option_map (λ rest. ((front ++ more) ++ last) ++ rest) found
behind-three front more last None = refl
behind-three front more last (Some rest) = ap (λ (all : List ℕ). Some all) (sym (append_assoc front more (last ++ rest)) ∙ sym (append_assoc (front ++ more) last rest))

pub behind-nothing : (found : Option (List ℕ)) → option_map (λ rest. [] ++ rest) found ≡ found
behind-nothing None = refl
behind-nothing (Some rest) = refl

-- what has room
pub within-short : (bytes : List ℕ) → length bytes ≤ 64 → within_array (Some bytes) ≡ Some bytes
within-short bytes h = rw (le-leb (length bytes) 64 h) refl

pub within-long : (bytes : List ℕ) → 64 < length bytes → within_array (Some bytes) ≡ None
within-long bytes h = rw (lt-leb (length bytes) 64 h) refl

pub too-long : (front : List ℕ) (found : Option (List ℕ)) → 64 < length front → within_array (option_map (λ rest. front ++ rest) found) ≡ None
too-long front None h = refl
too-long front (Some rest) h = within-long (front ++ rest) (let l = length-append front rest in omega arith)

pub within-some : (found : Option (List ℕ)) (bytes : List ℕ) → within_array found ≡ Some bytes → (found ≡ Some bytes) × (length bytes ≤ 64)
within-some None bytes e = absurd cc
within-some (Some found) bytes e =
    let g = cond_some (nat_le (length found) 64) found bytes e in
    (ap (λ (b : List ℕ). Some b) g.1, subst (λ (b : List ℕ). length b ≤ 64) g.1 (leb-true (length found) 64 g.0))

within-none : (found : Option (List ℕ)) (bytes : List ℕ) → found ≡ Some bytes → within_array found ≡ None → 64 < length bytes
within-none None bytes e h = absurd cc
within-none (Some found) bytes e h = by (cases_Bool (nat_le (length bytes) 64))
  where
    by : (nat_le (length bytes) 64 ≡ true) ⊎ (nat_le (length bytes) 64 ≡ false) → 64 < length bytes
    by (inl fits) = absurd (let same : within_array (Some bytes) ≡ None = ap within_array (sym e) ∙ h in let some = within-short bytes (leb-true (length bytes) 64 fits) in cc)
    by (inr long) = leb-false (length bytes) 64 long

-- a bit
pub bit-parts : (kind : FieldKind) (value : Field) (bit : Bool) → bit_in kind value ≡ Some bit → (kind ≡ Bit) × (value ≡ fields.Bit bit)
bit-parts Bit (fields.Bit found) bit e = (refl, ap (λ (b : Bool). fields.Bit b) (same_Some found bit e))
bit-parts Bit (fields.Whole number) bit e = absurd cc
bit-parts Bit (fields.Words text) bit e = absurd cc
bit-parts (Unsigned size) value bit e = absurd cc
bit-parts (Signed size) value bit e = absurd cc
bit-parts (Fixed size) value bit e = absurd cc
bit-parts Varying value bit e = absurd cc

-- a field that is no bit
pub other-behind : (bits : List Bool) (kind : FieldKind) (value : Field) (kinds : List FieldKind) (values : List Field) → bit_in kind value ≡ None
    → packed_behind bits (kind ∷ kinds) (value ∷ values) ≡ (field_bytes kind value >>= λ bytes. option_map (λ rest. shared_byte bits ++ (bytes ++ rest)) (packed_behind [] kinds values))
other-behind bits Bit (fields.Bit bit) kinds values e = absurd cc
other-behind bits Bit (fields.Whole number) kinds values e = refl
other-behind bits Bit (fields.Words text) kinds values e = refl
other-behind bits (Unsigned size) (fields.Bit bit) kinds values e = refl
other-behind bits (Unsigned size) (fields.Whole number) kinds values e = refl
other-behind bits (Unsigned size) (fields.Words text) kinds values e = refl
other-behind bits (Signed size) (fields.Bit bit) kinds values e = refl
other-behind bits (Signed size) (fields.Whole number) kinds values e = refl
other-behind bits (Signed size) (fields.Words text) kinds values e = refl
other-behind bits (Fixed size) (fields.Bit bit) kinds values e = refl
other-behind bits (Fixed size) (fields.Whole number) kinds values e = refl
other-behind bits (Fixed size) (fields.Words text) kinds values e = refl
other-behind bits Varying (fields.Bit bit) kinds values e = refl
other-behind bits Varying (fields.Whole number) kinds values e = refl
other-behind bits Varying (fields.Words text) kinds values e = refl

module _ (bytes : List ℕ) (bits : List Bool) (kind : FieldKind) (value : Field) (kinds : List FieldKind) (values : List Field) where
  pub other-after : (more : List ℕ) → bit_in kind value ≡ None → field_bytes kind value ≡ Some more
      → packed_after bytes bits (kind ∷ kinds) (value ∷ values) ≡ packed_after ((bytes ++ shared_byte bits) ++ more) [] kinds values
  other-after more e h =
      let behind : packed_behind bits (kind ∷ kinds) (value ∷ values) ≡ option_map (λ rest. shared_byte bits ++ (more ++ rest)) (packed_behind [] kinds values) =
      other-behind bits kind value kinds values e ∙ ap (λ (f : Option (List ℕ)). f >>= λ b. option_map (λ rest. shared_byte bits ++ (b ++ rest)) (packed_behind [] kinds values)) h in
      ap (λ (f : Option (List ℕ)). option_map (λ rest. bytes ++ rest) f) behind ∙ behind-three bytes (shared_byte bits) more (packed_behind [] kinds values)

  pub other-unfit : bit_in kind value ≡ None → within_array (field_bytes kind value) ≡ None → within_array (packed_after bytes bits (kind ∷ kinds) (value ∷ values)) ≡ None
  other-unfit e h = by (field_bytes kind value) refl
    where
      by : (found : Option (List ℕ)) → field_bytes kind value ≡ found → within_array (packed_after bytes bits (kind ∷ kinds) (value ∷ values)) ≡ None
      by None f = ap (λ (r : Option (List ℕ)). within_array (option_map (λ rest. bytes ++ rest) r)) (other-behind bits kind value kinds values e ∙ ap (λ (f : Option (List ℕ)). f >>= λ b. option_map (λ rest. shared_byte bits ++ (b ++ rest)) (packed_behind [] kinds values)) f)
      by (Some more) f =
          let long = within-none (field_bytes kind value) more f h in
          let l = length-append (bytes ++ shared_byte bits) more in
          ap within_array (other-after more e f) ∙ too-long ((bytes ++ shared_byte bits) ++ more) (packed_behind [] kinds values) (omega arith)

  pub other-full : (more : List ℕ) → bit_in kind value ≡ None → field_bytes kind value ≡ Some more → 64 < length ((bytes ++ shared_byte bits) ++ more) → within_array (packed_after bytes bits (kind ∷ kinds) (value ∷ values)) ≡ None
  other-full more e f long = ap within_array (other-after more e f) ∙ too-long ((bytes ++ shared_byte bits) ++ more) (packed_behind [] kinds values) long

-- a bit behind others
module _ (bytes : List ℕ) (bits : List Bool) (bit : Bool) (kinds : List FieldKind) (values : List Field) where
  pub bit-open : (length bits ≡ 8 → ⊥) → packed_after bytes bits (Bit ∷ kinds) (fields.Bit bit ∷ values) ≡ packed_after bytes (bits ++ bit ∷ []) kinds values
  bit-open h = rw (ne_eqb (length bits) 8 h) refl

  pub bit-full : length bits ≡ 8 → packed_after bytes bits (Bit ∷ kinds) (fields.Bit bit ∷ values) ≡ packed_after (bytes ++ shared_byte bits) (bit ∷ []) kinds values
  bit-full h = rw (eq-eqb (length bits) 8 h) (behind-both bytes (shared_byte bits) (packed_behind (bit ∷ []) kinds values))

  pub bit-none : length bits ≡ 8 → 64 < length (bytes ++ shared_byte bits) → within_array (packed_after bytes bits (Bit ∷ kinds) (fields.Bit bit ∷ values)) ≡ None
  bit-none h long = ap within_array (bit-full h) ∙ too-long (bytes ++ shared_byte bits) (packed_behind (bit ∷ []) kinds values) long

-- a field for each value
module _ (kinds : List FieldKind) (values : List Field) (none : (bits : List Bool) → packed_behind bits kinds values ≡ None) where
  count-bit : (bits : List Bool) (bit full : Bool) → (length bits == 8) ≡ full → packed_behind bits (Bit ∷ kinds) (fields.Bit bit ∷ values) ≡ None
  count-bit bits bit true e = rw (e, none (bit ∷ [])) refl
  count-bit bits bit false e = rw (e, none (bits ++ bit ∷ [])) refl

  count-other : (bits : List Bool) (found : Option (List ℕ)) → (found >>= λ bytes. option_map (λ rest. shared_byte bits ++ (bytes ++ rest)) (packed_behind [] kinds values)) ≡ None
  count-other bits None = refl
  count-other bits (Some bytes) = rw (none []) refl

  count-step : (bits : List Bool) (kind : FieldKind) (value : Field) (found : Option Bool) → bit_in kind value ≡ found → packed_behind bits (kind ∷ kinds) (value ∷ values) ≡ None
  count-step bits kind value None e = other-behind bits kind value kinds values e ∙ count-other bits (field_bytes kind value)
  count-step bits kind value (Some bit) e =
      let same = bit-parts kind value bit e in
      subst (λ (k : FieldKind). packed_behind bits (k ∷ kinds) (value ∷ values) ≡ None) (sym same.0) (subst (λ (v : Field). packed_behind bits (Bit ∷ kinds) (v ∷ values) ≡ None) (sym same.1) (count-bit bits bit (length bits == 8) refl))

pub other-count : (bits : List Bool) (kinds : List FieldKind) (values : List Field) → (length kinds ≡ length values → ⊥) → packed_behind bits kinds values ≡ None
other-count bits [] [] h = absurd (h refl)
other-count bits [] (value ∷ values) h = refl
other-count bits (Bit ∷ kinds) [] h = refl
other-count bits (Unsigned size ∷ kinds) [] h = refl
other-count bits (Signed size ∷ kinds) [] h = refl
other-count bits (Fixed size ∷ kinds) [] h = refl
other-count bits (Varying ∷ kinds) [] h = refl
other-count bits (kind ∷ kinds) (value ∷ values) h = count-step kinds values (λ b. other-count b kinds values (λ e. h (ap suc e))) bits kind value (bit_in kind value) refl
