-- Descriptors laid end to end: what is read is what stands there, and what was written is read again.
use Rattle.std.proofs.Common.{◌≡◌, ℕ, zero, suc, ◌≤◌, ◌<◌, true, false, List, [], ◌∷◌, ◌++◌, length, Option, Some, None, refl, sym, ap, subst, ◌∙◌, arith}
use Rattle.std.specs.Prelude.{is_some, unwrap_or}
use Rattle.std.specs.List.{flat_map}
use Rattle.std.proofs.lemmas.List.{length-append, nil_from_length}
use Rattle.std.proofs.lemmas.Option.{same_Some}
use Rattle.bml_bytes.specs.Fields.{◌>>=◌, FieldLaws, byte_at, bytes_at}
use Rattle.table_fields.specs.Descriptors.{Descriptor, descriptor_bytes, AreDescriptors, descriptor_at, descriptors_within, descriptors_in}

-- a step that is read goes on with what it read
bind_with : {A B P : Type 0} (o : Option A) (f : A → Option B) (y : B) → (o >>= f) ≡ Some y → ((x : A) → o ≡ Some x → f x ≡ Some y → P) → P
bind_with None f y e go = absurd cc
bind_with (Some x) f y e go = go x refl e

abbrev described : ℕ → List ℕ × List ℕ → Descriptor × List ℕ
described tag content = (record { tag = tag; bytes = content.0 }, content.1)

abbrev behind_count : ℕ → ℕ × List ℕ → Option (Descriptor × List ℕ)
behind_count tag count = bytes_at count.0 count.1 >>= λ content. Some (described tag content)

abbrev behind_tag : ℕ × List ℕ → Option (Descriptor × List ℕ)
behind_tag tag = byte_at tag.1 >>= behind_count tag.0

pub descriptor_parts : (laws : FieldLaws) (bytes : List ℕ) (x : Descriptor × List ℕ) → descriptor_at bytes ≡ Some x → bytes ≡ descriptor_bytes x.0 ++ x.1
unfolding descriptor_at
descriptor_parts laws bytes x e =
    bind_with (byte_at bytes) behind_tag x e (λ tag tag-is e0.
    bind_with (byte_at tag.1) (behind_count tag.0) x e0 (λ count count-is e1.
    bind_with (bytes_at count.0 count.1) (λ (content : List ℕ × List ℕ). Some (described tag.0 content)) x e1 (λ content content-is e2.
    let parts = laws.bytes count.0 count.1 content content-is in
    let text : bytes ≡ tag.0 ∷ count.0 ∷ (content.0 ++ content.1) = laws.byte bytes tag tag-is ∙ ap (λ (rest : List ℕ). tag.0 ∷ rest) (laws.byte tag.1 count count-is ∙ ap (λ (rest : List ℕ). count.0 ∷ rest) parts.0) in
    subst (λ (y : Descriptor × List ℕ). bytes ≡ descriptor_bytes y.0 ++ y.1) (same_Some (described tag.0 content) x e2)
    (text ∙ ap (λ (n : ℕ). tag.0 ∷ n ∷ (content.0 ++ content.1)) (sym parts.1)))))

descriptor_again : (laws : FieldLaws) (d : Descriptor) (rest : List ℕ) → descriptor_at (descriptor_bytes d ++ rest) ≡ Some (d, rest)
unfolding descriptor_at
descriptor_again laws d rest = rw (laws.bytes_again d.bytes rest) refl

-- at least two bytes are taken
pub descriptor_shorter : (laws : FieldLaws) (bytes : List ℕ) (x : Descriptor × List ℕ) → descriptor_at bytes ≡ Some x → length x.1 < length bytes
descriptor_shorter laws bytes x e = omega (arith, ap (length {A = ℕ}) (descriptor_parts laws bytes x e), length-append x.0.bytes x.1)

-- any two bounds that suffice give the same
within_same : (laws : FieldLaws) (m n : ℕ) (bytes : List ℕ) → length bytes ≤ m → length bytes ≤ n → descriptors_within m bytes ≡ descriptors_within n bytes
unfolding descriptors_within
within_same laws zero zero bytes l r = refl
within_same laws zero (suc n) [] l r = refl
within_same laws zero (suc n) (b ∷ bytes) l r = absurd (omega arith)
within_same laws (suc m) zero [] l r = refl
within_same laws (suc m) zero (b ∷ bytes) l r = absurd (omega arith)
within_same laws (suc m) (suc n) [] l r = refl
within_same laws (suc m) (suc n) (b ∷ bytes) l r = step m n (descriptor_at (b ∷ bytes)) (λ x e. let s = descriptor_shorter laws (b ∷ bytes) x e in within_same laws m n x.1 (omega arith) (omega arith))
  where
    step : (m n : ℕ) (read : Option (Descriptor × List ℕ)) → ((x : Descriptor × List ℕ) → read ≡ Some x → descriptors_within m x.1 ≡ descriptors_within n x.1)
        → (read >>= λ first. descriptors_within m first.1 >>= λ others. Some (first.0 ∷ others)) ≡ (read >>= λ first. descriptors_within n first.1 >>= λ others. Some (first.0 ∷ others))
    step m n None same = refl
    step m n (Some x) same = ap (λ (o : Option (List Descriptor)). o >>= λ others. Some (x.0 ∷ others)) (same x refl)

-- one descriptor, and those behind it
pub descriptors_first : (laws : FieldLaws) (bytes : List ℕ) (x : Descriptor × List ℕ) → descriptor_at bytes ≡ Some x → descriptors_in bytes ≡ (descriptors_in x.1 >>= λ others. Some (x.0 ∷ others))
unfolding descriptors_in descriptors_within
descriptors_first laws [] x e = let s = descriptor_shorter laws [] x e in absurd (omega arith)
descriptors_first laws (b ∷ bytes) x e =
    let s = descriptor_shorter laws (b ∷ bytes) x e in
    let same : descriptors_within (length bytes) x.1 ≡ descriptors_within (length x.1) x.1 = within_same laws (length bytes) (length x.1) x.1 (omega arith) (omega arith) in
    rw (e, same) refl

-- where no descriptor stands, the bytes aren't descriptors
pub descriptors_none : (bytes : List ℕ) → 0 < length bytes → descriptor_at bytes ≡ None → descriptors_in bytes ≡ None
unfolding descriptors_in descriptors_within
descriptors_none [] lt e = absurd (omega arith)
descriptors_none (b ∷ bytes) lt e = rw e refl

pub descriptors_nil : descriptors_in [] ≡ Some []
unfolding descriptors_in descriptors_within
descriptors_nil = refl

within_parts : (laws : FieldLaws) (n : ℕ) (bytes : List ℕ) (ds : List Descriptor) → descriptors_within n bytes ≡ Some ds → bytes ≡ flat_map descriptor_bytes ds
unfolding descriptors_within
within_parts laws zero [] ds e = ap (flat_map descriptor_bytes) (same_Some [] ds e)
within_parts laws zero (b ∷ bytes) ds e = absurd cc
within_parts laws (suc n) [] ds e = ap (flat_map descriptor_bytes) (same_Some [] ds e)
within_parts laws (suc n) (b ∷ bytes) ds e =
    bind_with (descriptor_at (b ∷ bytes)) (λ (first : Descriptor × List ℕ). descriptors_within n first.1 >>= λ others. Some (first.0 ∷ others)) ds e (λ first first-is e0.
    bind_with (descriptors_within n first.1) (λ (others : List Descriptor). Some (first.0 ∷ others)) ds e0 (λ others others-is e1.
    descriptor_parts laws (b ∷ bytes) first first-is ∙ ap (λ (rest : List ℕ). descriptor_bytes first.0 ++ rest) (within_parts laws n first.1 others others-is) ∙ ap (flat_map descriptor_bytes) (same_Some (first.0 ∷ others) ds e1)))

pub descriptors_parts : (laws : FieldLaws) (bytes : List ℕ) (ds : List Descriptor) → descriptors_in bytes ≡ Some ds → AreDescriptors bytes ds
unfolding descriptors_in
descriptors_parts laws bytes ds e = within_parts laws (length bytes) bytes ds e

descriptors_written : (laws : FieldLaws) (ds : List Descriptor) → descriptors_in (flat_map descriptor_bytes ds) ≡ Some ds
descriptors_written laws [] = descriptors_nil
descriptors_written laws (d ∷ ds) =
    descriptors_first laws (descriptor_bytes d ++ flat_map descriptor_bytes ds) (d, flat_map descriptor_bytes ds) (descriptor_again laws d (flat_map descriptor_bytes ds))
    ∙ ap (λ (o : Option (List Descriptor)). o >>= λ others. Some (d ∷ others)) (descriptors_written laws ds)

pub descriptors_again : (laws : FieldLaws) (bytes : List ℕ) (ds : List Descriptor) → AreDescriptors bytes ds → descriptors_in bytes ≡ Some ds
descriptors_again laws bytes ds is = ap descriptors_in is ∙ descriptors_written laws ds

-- walking them

still_some : (d : Descriptor) (read : Option (List Descriptor)) → is_some (read >>= λ others. Some (d ∷ others)) ≡ is_some read
still_some d None = refl
still_some d (Some others) = refl

pub some_behind : (laws : FieldLaws) (bytes : List ℕ) (d : Descriptor) (behind : List ℕ) → descriptor_at bytes ≡ Some (d, behind) → is_some (descriptors_in bytes) ≡ is_some (descriptors_in behind)
some_behind laws bytes d behind e = ap is_some (descriptors_first laws bytes (d, behind) e) ∙ still_some d (descriptors_in behind)

put_front : (d : Descriptor) (read : Option (List Descriptor)) → is_some read ≡ true → unwrap_or (read >>= λ others. Some (d ∷ others)) [] ≡ d ∷ unwrap_or read []
put_front d None h = absurd cc
put_front d (Some others) h = refl

pub left_behind : (laws : FieldLaws) (bytes : List ℕ) (d : Descriptor) (behind : List ℕ) → descriptor_at bytes ≡ Some (d, behind) → is_some (descriptors_in bytes) ≡ true → unwrap_or (descriptors_in bytes) [] ≡ d ∷ unwrap_or (descriptors_in behind) []
left_behind laws bytes d behind e h =
    ap (λ (read : Option (List Descriptor)). unwrap_or read []) (descriptors_first laws bytes (d, behind) e)
    ∙ put_front d (descriptors_in behind) (sym (some_behind laws bytes d behind e) ∙ h)

-- at the end none is left
pub none_left : (bytes : List ℕ) → descriptor_at bytes ≡ None → is_some (descriptors_in bytes) ≡ true → unwrap_or (descriptors_in bytes) [] ≡ []
none_left [] e h = ap (λ (read : Option (List Descriptor)). unwrap_or read []) descriptors_nil
none_left (b ∷ bytes) e h = let none = descriptors_none (b ∷ bytes) (omega arith) e in let no : is_some (descriptors_in (b ∷ bytes)) ≡ false = ap is_some none in absurd cc

pub some_at_end : (bytes : List ℕ) → length bytes ≡ 0 → is_some (descriptors_in bytes) ≡ true
some_at_end bytes h = ap (λ (b : List ℕ). is_some (descriptors_in b)) (nil_from_length bytes h) ∙ ap is_some descriptors_nil

pub unwrapped : (read : Option (List Descriptor)) → is_some read ≡ true → Some (unwrap_or read []) ≡ read
unwrapped None h = absurd cc
unwrapped (Some ds) h = refl

pub never : (read : Option (List Descriptor)) → is_some read ≡ false → None ≡ read
never None h = refl
never (Some ds) h = absurd cc
