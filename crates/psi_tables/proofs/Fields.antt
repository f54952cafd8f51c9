-- Fields of a table: a field that is read is what stands there, and what was written is read again.
use Rattle.std.proofs.Common.{◌≡◌, ℕ, suc, ◌+◌, ◌≤◌, ◌↔◌, true, nat_le, nat_lt, List, [], ◌∷◌, ◌++◌, length, take, drop, Option, Some, None, refl, sym, ap, subst, ◌∙◌, append_assoc, arith}
use Rattle.std.specs.Prelude.{◌&&◌}
use Rattle.std.specs.List.{list_all}
use Rattle.std.proofs.lemmas.Bool.{and_parts}
use Rattle.std.proofs.lemmas.Bool.Decides.{nat_tests}
use Rattle.std.proofs.lemmas.List.{length-drop}
use Rattle.std.proofs.lemmas.Option.{same_Some, cond_some}
use Rattle.bml_bytes.specs.Fields.{◌>>=◌, FieldLaws, byte_at, number_at, bytes_at}
use Rattle.bml_bytes.specs.Numbers.{big_number}
use Rattle.table_fields.specs.Descriptors.{Descriptor, AreDescriptors, descriptors_in}

-- what is known of fields and of descriptors
pub record StreamLaws : Type 0 where
  pub fields : FieldLaws
  pub descriptors : (bytes : List ℕ) (descriptors : List Descriptor) → AreDescriptors bytes descriptors ↔ (descriptors_in bytes ≡ Some descriptors)

-- one text behind the other
pub one_text : (a x b y c : List ℕ) → a ≡ x ++ b → b ≡ y ++ c → a ≡ (x ++ y) ++ c
one_text a x b y c p q = p ∙ ap (λ (t : List ℕ). x ++ t) q ∙ sym (append_assoc x y c)

-- a step that is read goes on with what it read
pub bind_some : {A B : Type 0} (o : Option A) (f : A → Option B) (y : B) → (o >>= f) ≡ Some y → (x : A) × (o ≡ Some x) × (f x ≡ Some y)
bind_some None f y e = absurd cc
bind_some (Some x) f y e = (x, refl, e)

-- the same, with names for what was read
pub bind_with : {A B P : Type 0} (o : Option A) (f : A → Option B) (y : B) → (o >>= f) ≡ Some y → ((x : A) → o ≡ Some x → f x ≡ Some y → P) → P
bind_with None f y e go = absurd cc
bind_with (Some x) f y e go = go x refl e

-- how many bytes a field takes

pub byte_size : (bytes : List ℕ) (x : ℕ × List ℕ) → byte_at bytes ≡ Some x → length bytes ≡ suc (length x.1)
byte_size [] x e = absurd cc
byte_size (b ∷ bytes) x e = ap (λ (y : ℕ × List ℕ). suc (length y.1)) (same_Some (b, bytes) x e)

number_of_test : (a b : ℕ) → nat_le a b ≡ true → a ≤ b
number_of_test a b h = grind (arith, nat_tests)

pub number_size : (width : ℕ) (bytes : List ℕ) (x : ℕ × List ℕ) → number_at width bytes ≡ Some x → length x.1 + width ≡ length bytes
unfolding number_at
number_size width bytes x e =
    let made : ℕ × List ℕ = (big_number (take width bytes), drop width bytes) in
    let g = cond_some (nat_le width (length bytes) && list_all (λ byte. nat_lt byte 256) (take width bytes)) made x e in
    let tests = and_parts (nat_le width (length bytes)) (list_all (λ byte. nat_lt byte 256) (take width bytes)) g.0 in
    let enough = number_of_test width (length bytes) tests.0 in
    subst (λ (y : ℕ × List ℕ). length y.1 + width ≡ length bytes) g.1 (omega (arith, length-drop width bytes))

pub bytes_size : (count : ℕ) (bytes : List ℕ) (x : List ℕ × List ℕ) → bytes_at count bytes ≡ Some x → length x.1 ≤ length bytes
unfolding bytes_at
bytes_size count bytes x e =
    let made : List ℕ × List ℕ = (take count bytes, drop count bytes) in
    let g = cond_some (nat_le count (length bytes)) made x e in
    subst (λ (y : List ℕ × List ℕ). length y.1 ≤ length bytes) g.1 (omega (arith, length-drop count bytes))
