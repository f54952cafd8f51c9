-- What was packed is read as it is kept.
use Rattle.std.proofs.Common.{◌≡◌, ℕ, ◌-◌, ◌/◌, ◌%◌, ◌^◌, ◌<◌, ◌≤◌, nat_eq, nat_le, nat_lt, Bool, true, false, cond, List, [], ◌∷◌, ◌++◌, length, drop, replicate, Option, Some, None, refl, sym, ap, subst, ◌∙◌, arith, length-append}
use Rattle.std.specs.Prelude.{option_map, ◌==◌, ℤ}
use Rattle.std.specs.Int.{w32, cast_unsigned}
use Rattle.std.proofs.Math.Nat.{mod-lt, one-le-pow}
use Rattle.std.proofs.lemmas.Bool.{eqb-true, eqb-false, leb-true}
use Rattle.std.proofs.lemmas.List.{append-nil, append_assoc}
use Rattle.std.proofs.lemmas.Option.{same_Some, cond_some, none-some}
use Rattle.bml_bytes.specs.Codes.{bytes_of, codes}
use Rattle.bml_bytes.specs.Fields.{FieldLaws, ◌>>=◌, bytes_at}
use Rattle.bml_bytes.specs.Numbers.{big_bytes, big_number}
use Rattle.persistent_arrays.specs.declared.fields.Field.{Field}
use Rattle.persistent_arrays.specs.declared.fields.Field.TheVariants as fields
use Rattle.persistent_arrays.specs.declared.kinds.FieldKind.{FieldKind}
use Rattle.persistent_arrays.specs.declared.kinds.FieldKind.TheVariants.{Bit, Unsigned, Signed, Fixed, Varying}
use Rattle.persistent_arrays.specs.Fields.{field_bytes, field_value, low_number, signed_number, unsigned_number}
use Rattle.persistent_arrays.specs.Kept.{kept_value, kept_values}
use Rattle.persistent_arrays.specs.Packing.{packed, weighed}
use Rattle.persistent_arrays.specs.Reading.{bits_of, field_at, unpacked}
use Rattle.persistent_arrays.specs.devices.Packers.{bit_in, packed_behind, shared_byte}
use Rattle.persistent_arrays.specs.devices.Unpackers.{low_bits, unpacked_behind}
use Rattle.persistent_arrays.proofs.FieldLemmas.{filled-end, zeros-count}
use Rattle.persistent_arrays.proofs.BitLemmas.{bits_of-weighed}
use Rattle.persistent_arrays.proofs.LayoutLemmas.{packed-is}
use Rattle.persistent_arrays.proofs.RunLemmas.{unpacked-is}
use Rattle.persistent_arrays.proofs.PackingLemmas.{bit-parts, other-behind, other-count}

pub option_map-some : {A B : Type 0} (f : A → B) (found : Option A) (b : B) → option_map f found ≡ Some b → (a : A) × (found ≡ Some a) × (f a ≡ b)
option_map-some f None b e = absurd cc
option_map-some f (Some a) b e = (a, refl, same_Some (f a) b e)

pub bind_some : {A B : Type 0} (read : Option A) (go : A → Option B) (b : B) → (read >>= go) ≡ Some b → (a : A) × (read ≡ Some a) × (go a ≡ Some b)
bind_some None go b e = absurd cc
bind_some (Some a) go b e = (a, refl, e)

-- the bytes of a field are read from what begins with them, and have the kept value
pub record IsReadBack (kind : FieldKind) (value : Field) (bytes : List ℕ) : Type 0 where
  pub inside : List ℕ
  pub read : (more : List ℕ) → field_at kind (bytes ++ more) ≡ Some (inside, more)
  pub kept : field_value kind inside ≡ kept_value kind value

module _ (laws : FieldLaws) (back : (count number : ℕ) → number < 256 ^ count → big_number (big_bytes count number) ≡ number) where
  read-front : (size : ℕ) (bytes more : List ℕ) → length bytes ≡ size → bytes_at size (bytes ++ more) ≡ Some (bytes, more)
  read-front size bytes more e = subst (λ (n : ℕ). bytes_at n (bytes ++ more) ≡ Some (bytes, more)) e (laws.bytes_again bytes more)

  low-fits : (size : ℕ) (number : ℤ) → low_number size number < 256 ^ size
  low-fits size number = mod-lt (cast_unsigned w32 number) (pow-positive size)
    where
      pow-positive : (size : ℕ) → 0 < 256 ^ size
      pow-positive size = let e = one-le-pow size 256 (omega arith) in omega arith

  of_number : (size : ℕ) (number : ℤ) (bytes : List ℕ) → big_bytes size (low_number size number) ≡ bytes → length bytes ≡ size
  of_number size number bytes e = sym (ap length e) ∙ laws.number_bytes size (low_number size number)

  pub field-back : (kind : FieldKind) (value : Field) (bytes : List ℕ) → field_bytes kind value ≡ Some bytes → IsReadBack kind value bytes
  field-back Bit (fields.Bit bit) bytes e = absurd cc
  field-back Bit (fields.Whole number) bytes e = absurd cc
  field-back Bit (fields.Words text) bytes e = absurd cc
  field-back (Unsigned size) (fields.Bit bit) bytes e = absurd cc
  field-back (Unsigned size) (fields.Whole number) bytes e =
      let same = same_Some (big_bytes size (low_number size number)) bytes e in
      record {
        inside = bytes;
        read = λ more. read-front size bytes more (of_number size number bytes same);
        kept = ap (field_value (Unsigned size)) (sym same) ∙ ap (λ (n : ℕ). fields.Whole (unsigned_number n)) (back size (low_number size number) (low-fits size number));
      }
  field-back (Unsigned size) (fields.Words text) bytes e = absurd cc
  field-back (Signed size) (fields.Bit bit) bytes e = absurd cc
  field-back (Signed size) (fields.Whole number) bytes e =
      let same = same_Some (big_bytes size (low_number size number)) bytes e in
      record {
        inside = bytes;
        read = λ more. read-front size bytes more (of_number size number bytes same);
        kept = ap (field_value (Signed size)) (sym same) ∙ ap (λ (n : ℕ). fields.Whole (signed_number size n)) (back size (low_number size number) (low-fits size number));
      }
  field-back (Signed size) (fields.Words text) bytes e = absurd cc
  field-back (Fixed size) (fields.Bit bit) bytes e = absurd cc
  field-back (Fixed size) (fields.Whole number) bytes e = absurd cc
  field-back (Fixed size) (fields.Words text) bytes e =
      let made : List ℕ = bytes_of text ++ replicate (size - length (bytes_of text)) 0 in
      let g = cond_some (nat_le (length (bytes_of text)) size) made bytes e in
      let fits = leb-true (length (bytes_of text)) size g.0 in
      let long : length bytes ≡ size = sym (ap length g.1) ∙ (let l = length-append (bytes_of text) (replicate (size - length (bytes_of text)) 0) in let r = zeros-count (size - length (bytes_of text)) in omega arith) in
      record {
        inside = bytes;
        read = λ more. read-front size bytes more long;
        kept = ap (field_value (Fixed size)) (sym g.1) ∙ ap (λ (b : List ℕ). fields.Words (codes b)) (filled-end (bytes_of text) (size - length (bytes_of text)));
      }
  field-back Varying (fields.Bit bit) bytes e = absurd cc
  field-back Varying (fields.Whole number) bytes e = absurd cc
  field-back Varying (fields.Words text) bytes e =
      let made : List ℕ = length (bytes_of text) ∷ bytes_of text in
      let g = cond_some (nat_lt (length (bytes_of text)) 256) made bytes e in
      record {
        inside = bytes_of text;
        read = λ more. ap (λ (b : List ℕ). field_at Varying (b ++ more)) (sym g.1) ∙ laws.bytes_again (bytes_of text) more;
        kept = refl;
      }

  -- what bits at the front of an open byte come to
  record IsOpenedBack (bits : List Bool) (kinds : List FieldKind) (values : List Field) (bytes : List ℕ) : Type 0 where
    later : List Bool
    rest : List ℕ
    room : length (bits ++ later) ≤ 8
    written : bytes ≡ weighed 128 (bits ++ later) ∷ rest
    read : (behind : List ℕ) → unpacked_behind (later ++ replicate (8 - length (bits ++ later)) false) kinds (rest ++ behind) ≡ Some (kept_values kinds values)

  record IsBack (kinds : List FieldKind) (values : List Field) : Type 0 where
    closed : (bytes : List ℕ) → packed_behind [] kinds values ≡ Some bytes → (behind : List ℕ) → unpacked_behind [] kinds (bytes ++ behind) ≡ Some (kept_values kinds values)
    opened : (first : Bool) (more : List Bool) (bytes : List ℕ) → length (first ∷ more) ≤ 8 → packed_behind (first ∷ more) kinds values ≡ Some bytes → IsOpenedBack (first ∷ more) kinds values bytes

  -- a field that is no bit, whatever bits of an open byte are left
  abbrev NotBit : FieldKind → Type 0
  NotBit Bit = ⊥
  NotBit (Unsigned size) = Unit {0}
  NotBit (Signed size) = Unit {0}
  NotBit (Fixed size) = Unit {0}
  NotBit Varying = Unit {0}

  not_bit : (kind : FieldKind) (value : Field) (bytes : List ℕ) → field_bytes kind value ≡ Some bytes → NotBit kind
  not_bit Bit value bytes e = absurd (cc e)
  not_bit (Unsigned size) value bytes e = tt
  not_bit (Signed size) value bytes e = tt
  not_bit (Fixed size) value bytes e = tt
  not_bit Varying value bytes e = tt

  other-read : (bits : List Bool) (kind : FieldKind) (kinds : List FieldKind) (bytes : List ℕ) → NotBit kind
      → unpacked_behind bits (kind ∷ kinds) bytes ≡ (field_at kind bytes >>= λ field. option_map (λ values. field_value kind field.0 ∷ values) (unpacked_behind [] kinds field.1))
  other-read bits Bit kinds bytes h = absurd h
  other-read [] (Unsigned size) kinds bytes h = refl
  other-read [] (Signed size) kinds bytes h = refl
  other-read [] (Fixed size) kinds bytes h = refl
  other-read [] Varying kinds bytes h = refl
  other-read (bit ∷ bits) (Unsigned size) kinds bytes h = refl
  other-read (bit ∷ bits) (Signed size) kinds bytes h = refl
  other-read (bit ∷ bits) (Fixed size) kinds bytes h = refl
  other-read (bit ∷ bits) Varying kinds bytes h = refl

  -- a field that is no bit, and those behind it
  other-back : (kind : FieldKind) (value : Field) (kinds : List FieldKind) (values : List Field) (front rest : List ℕ) → IsBack kinds values → field_bytes kind value ≡ Some front → packed_behind [] kinds values ≡ Some rest
      → (bits : List Bool) (behind : List ℕ) → unpacked_behind bits (kind ∷ kinds) ((front ++ rest) ++ behind) ≡ Some (kept_value kind value ∷ kept_values kinds values)
  other-back kind value kinds values front rest back_rest e f bits behind =
      let field = field-back kind value front e in
      other-read bits kind kinds ((front ++ rest) ++ behind) (not_bit kind value front e)
      ∙ ap (λ (b : List ℕ). field_at kind b >>= λ field. option_map (λ values. field_value kind field.0 ∷ values) (unpacked_behind [] kinds field.1)) (append_assoc front rest behind)
      ∙ ap (λ (r : Option (List ℕ × List ℕ)). r >>= λ field. option_map (λ values. field_value kind field.0 ∷ values) (unpacked_behind [] kinds field.1)) (field.read (rest ++ behind))
      ∙ ap (λ (r : Option (List Field)). option_map (λ values. field_value kind field.inside ∷ values) r) (back_rest.closed rest f behind)
      ∙ ap (λ (v : Field). Some (v ∷ kept_values kinds values)) field.kept

  step-other : (kind : FieldKind) (value : Field) (kinds : List FieldKind) (values : List Field) → bit_in kind value ≡ None → IsBack kinds values → IsBack (kind ∷ kinds) (value ∷ values)
  step-other kind value kinds values none back_rest = record { closed = closed_step; opened = opened_step }
    where
      parts : (bits : List Bool) (bytes : List ℕ) → packed_behind bits (kind ∷ kinds) (value ∷ values) ≡ Some bytes
          → (front : List ℕ) × (rest : List ℕ) × (field_bytes kind value ≡ Some front) × (packed_behind [] kinds values ≡ Some rest) × (shared_byte bits ++ (front ++ rest) ≡ bytes)
      parts bits bytes e =
          let field = bind_some (field_bytes kind value) _ bytes (sym (other-behind bits kind value kinds values none) ∙ e) in
          let rest = option_map-some (λ (r : List ℕ). shared_byte bits ++ (field.0 ++ r)) (packed_behind [] kinds values) bytes field.2 in
          (field.0, rest.0, field.1, rest.1, rest.2)

      closed_step : (bytes : List ℕ) → packed_behind [] (kind ∷ kinds) (value ∷ values) ≡ Some bytes → (behind : List ℕ) → unpacked_behind [] (kind ∷ kinds) (bytes ++ behind) ≡ Some (kept_value kind value ∷ kept_values kinds values)
      closed_step bytes e behind =
          let p = parts [] bytes e in
          subst (λ (b : List ℕ). unpacked_behind [] (kind ∷ kinds) (b ++ behind) ≡ Some (kept_value kind value ∷ kept_values kinds values)) p.4 (other-back kind value kinds values p.0 p.1 back_rest p.2 p.3 [] behind)

      opened_step : (first : Bool) (more : List Bool) (bytes : List ℕ) → length (first ∷ more) ≤ 8 → packed_behind (first ∷ more) (kind ∷ kinds) (value ∷ values) ≡ Some bytes → IsOpenedBack (first ∷ more) (kind ∷ kinds) (value ∷ values) bytes
      opened_step first more bytes h e =
          let p = parts (first ∷ more) bytes e in
          let same : (first ∷ more) ++ [] ≡ first ∷ more = append-nil (first ∷ more) in
          record {
            later = [];
            rest = p.0 ++ p.1;
            room = subst (λ (b : List Bool). length b ≤ 8) (sym same) h;
            written = sym p.4 ∙ ap (λ (b : List Bool). weighed 128 b ∷ (p.0 ++ p.1)) (sym same);
            read = λ behind. other-back kind value kinds values p.0 p.1 back_rest p.2 p.3 (replicate (8 - length ((first ∷ more) ++ [])) false) behind;
          }

  head-same : (x y : Bool) (xs ys : List Bool) → x ∷ xs ≡ y ∷ ys → x ≡ y
  head-same x y xs ys e = cc

  -- a bit that begins a byte, and the fields behind it
  bit-back : (bit : Bool) (kinds : List FieldKind) (values : List Field) (bytes : List ℕ) → IsOpenedBack (bit ∷ []) kinds values bytes
      → (behind : List ℕ) → unpacked_behind [] (Bit ∷ kinds) (bytes ++ behind) ≡ Some (fields.Bit bit ∷ kept_values kinds values)
  bit-back bit kinds values bytes o behind =
      let byte : ℕ = weighed 128 (bit ∷ o.later) in
      let whole : bits_of byte ≡ bit ∷ (o.later ++ replicate (8 - length (bit ∷ o.later)) false) = bits_of-weighed (bit ∷ o.later) o.room in
      let low : low_bits byte ≡ o.later ++ replicate (8 - length (bit ∷ o.later)) false = ap (drop 1) whole in
      let top : (byte / 128 % 2 == 1) ≡ bit = head-same (byte / 128 % 2 == 1) bit (low_bits byte) (o.later ++ replicate (8 - length (bit ∷ o.later)) false) whole in
      ap (λ (b : List ℕ). unpacked_behind [] (Bit ∷ kinds) (b ++ behind)) o.written
      ∙ ap (λ (bits : List Bool). option_map (λ values. fields.Bit (byte / 128 % 2 == 1) ∷ values) (unpacked_behind bits kinds (o.rest ++ behind))) low
      ∙ ap (λ (r : Option (List Field)). option_map (λ values. fields.Bit (byte / 128 % 2 == 1) ∷ values) r) (o.read behind)
      ∙ ap (λ (b : Bool). Some (fields.Bit b ∷ kept_values kinds values)) top

  step-bit : (bit : Bool) (kinds : List FieldKind) (values : List Field) → IsBack kinds values → IsBack (Bit ∷ kinds) (fields.Bit bit ∷ values)
  step-bit bit kinds values back_rest = record { closed = closed_step; opened = opened_step }
    where
      closed_step : (bytes : List ℕ) → packed_behind [] (Bit ∷ kinds) (fields.Bit bit ∷ values) ≡ Some bytes → (behind : List ℕ) → unpacked_behind [] (Bit ∷ kinds) (bytes ++ behind) ≡ Some (fields.Bit bit ∷ kept_values kinds values)
      closed_step bytes e behind = bit-back bit kinds values bytes (back_rest.opened bit [] bytes (omega arith) e) behind

      opened_step : (first : Bool) (more : List Bool) (bytes : List ℕ) → length (first ∷ more) ≤ 8 → packed_behind (first ∷ more) (Bit ∷ kinds) (fields.Bit bit ∷ values) ≡ Some bytes → IsOpenedBack (first ∷ more) (Bit ∷ kinds) (fields.Bit bit ∷ values) bytes
      opened_step first more bytes h e = by (nat_eq (length (first ∷ more)) 8) refl e
        where
          by : (full : Bool) → nat_eq (length (first ∷ more)) 8 ≡ full
              → cond full (option_map (λ rest. shared_byte (first ∷ more) ++ rest) (packed_behind (bit ∷ []) kinds values)) (packed_behind ((first ∷ more) ++ bit ∷ []) kinds values) ≡ Some bytes
              → IsOpenedBack (first ∷ more) (Bit ∷ kinds) (fields.Bit bit ∷ values) bytes
          by true f e =
              let next = option_map-some (λ (r : List ℕ). shared_byte (first ∷ more) ++ r) (packed_behind (bit ∷ []) kinds values) bytes e in
              let same : (first ∷ more) ++ [] ≡ first ∷ more = append-nil (first ∷ more) in
              let eight = eqb-true (length (first ∷ more)) 8 f in
              let none : replicate (8 - length ((first ∷ more) ++ [])) false ≡ [] = ap (λ (b : List Bool). replicate (8 - length b) false) same ∙ ap (λ (n : ℕ). replicate (8 - n) false) eight in
              record {
                later = [];
                rest = next.0;
                room = subst (λ (b : List Bool). length b ≤ 8) (sym same) h;
                written = sym next.2 ∙ ap (λ (b : List Bool). weighed 128 b ∷ next.0) (sym same);
                read = λ behind. ap (λ (b : List Bool). unpacked_behind b (Bit ∷ kinds) (next.0 ++ behind)) none ∙ bit-back bit kinds values next.0 (back_rest.opened bit [] next.0 (omega arith) next.1) behind;
              }
          by false f e =
              let l = length-append (first ∷ more) (bit ∷ []) in
              let other = eqb-false (length (first ∷ more)) 8 f in
              let few : length (first ∷ (more ++ bit ∷ [])) ≤ 8 = omega arith in
              let o = back_rest.opened first (more ++ bit ∷ []) bytes few e in
              let same : ((first ∷ more) ++ bit ∷ []) ++ o.later ≡ (first ∷ more) ++ (bit ∷ o.later) = append_assoc (first ∷ more) (bit ∷ []) o.later in
              record {
                later = bit ∷ o.later;
                rest = o.rest;
                room = subst (λ (b : List Bool). length b ≤ 8) same o.room;
                written = o.written ∙ ap (λ (b : List Bool). weighed 128 b ∷ o.rest) same;
                read = λ behind.
                    ap (λ (r : Option (List Field)). option_map (λ values. fields.Bit bit ∷ values) r)
                    (subst (λ (b : List Bool). unpacked_behind (o.later ++ replicate (8 - length b) false) kinds (o.rest ++ behind) ≡ Some (kept_values kinds values)) same (o.read behind));
              }

  step-back : (kind : FieldKind) (value : Field) (kinds : List FieldKind) (values : List Field) → IsBack kinds values → IsBack (kind ∷ kinds) (value ∷ values)
  step-back kind value kinds values back_rest = by (bit_in kind value) refl
    where
      by : (found : Option Bool) → bit_in kind value ≡ found → IsBack (kind ∷ kinds) (value ∷ values)
      by None e = step-other kind value kinds values e back_rest
      by (Some bit) e =
          let same = bit-parts kind value bit e in
          subst (λ (k : FieldKind). IsBack (k ∷ kinds) (value ∷ values)) (sym same.0) (subst (λ (v : Field). IsBack (Bit ∷ kinds) (v ∷ values)) (sym same.1) (step-bit bit kinds values back_rest))

  packed-some : (bits : List Bool) (kinds : List FieldKind) (values : List Field) (bytes : List ℕ) → packed_behind bits kinds values ≡ None → packed_behind bits kinds values ≡ Some bytes → ⊥
  packed-some bits kinds values bytes n e = none-some bytes (sym n ∙ e)

  all-back : (kinds : List FieldKind) (values : List Field) → IsBack kinds values
  all-back [] [] = record {
    closed = λ bytes e behind. refl;
    opened = λ first more bytes h e. (let same : (first ∷ more) ++ [] ≡ first ∷ more = append-nil (first ∷ more) in record {
      later = [];
      rest = [];
      room = subst (λ (b : List Bool). length b ≤ 8) (sym same) h;
      written = sym (same_Some (weighed 128 (first ∷ more) ∷ []) bytes e) ∙ ap (λ (b : List Bool). weighed 128 b ∷ []) (sym same);
      read = λ behind. refl;
    });
  }
  all-back [] (value ∷ values) = record { closed = λ bytes e behind. absurd (none-some bytes e); opened = λ first more bytes h e. absurd (none-some bytes e) }
  all-back (kind ∷ kinds) [] = record {
    closed = λ bytes e behind. absurd (packed-some [] (kind ∷ kinds) [] bytes (other-count [] (kind ∷ kinds) [] (λ n. absurd (omega arith))) e);
    opened = λ first more bytes h e. absurd (packed-some (first ∷ more) (kind ∷ kinds) [] bytes (other-count (first ∷ more) (kind ∷ kinds) [] (λ n. absurd (omega arith))) e);
  }
  all-back (kind ∷ kinds) (value ∷ values) = step-back kind value kinds values (all-back kinds values)

  -- what was packed is read as it is kept, whatever stands behind it
  pub kept-back : (kinds : List FieldKind) (values : List Field) (bytes rest : List ℕ) → packed kinds values ≡ Some bytes → unpacked kinds (bytes ++ rest) ≡ Some (kept_values kinds values)
  kept-back kinds values bytes rest e = sym (unpacked-is kinds (bytes ++ rest)) ∙ (all-back kinds values).closed bytes (packed-is kinds values ∙ e) rest
