-- References: numbers that stop at 128, and what reading them leaves.
use Rattle.std.proofs.Common.{◌≡◌, ℕ, zero, suc, ◌+◌, ◌-◌, ◌*◌, ◌<◌, ◌≤◌, Bool, true, false, cond, List, [], ◌∷◌, ◌++◌, length, drop, Option, Some, None, refl, sym, ◌∙◌, ap, subst, arith, append_assoc}
use Rattle.std.specs.Prelude.{◌==◌, ◌&&◌, nat_le, nat_lt, min, codes as ascii}
use Rattle.std.proofs.lemmas.Bool.Decides.{nat_tests}
use Rattle.std.proofs.lemmas.List.{length-append}
use Rattle.std.proofs.Math.Nat.{mul-le-mul_left}
use Rattle.std.proofs.Math.Seq.{drop-append_seam}
use Rattle.bml_reader.specs.Bytes.{is_digit, is_hex_digit, front, behind, behind_mark}
use Rattle.bml_reader.specs.References.{Reference, hex_value, number_behind, closed_by, number_at, numeric_at, named_or, reference_at, read_behind}
use Rattle.bml_reader.proofs.ByteLemmas.{some-same, front-behind, behind_mark-is, passed}

big : (base n : ℕ) (ds : List ℕ) → 0 < base → 128 ≤ n → 128 ≤ number_behind base n ds
big base n [] p h = h
big base n (d ∷ ds) p h = big base (n * base + hex_value d) ds p (omega (arith, mul-le-mul_left n p))

saturate-by : (base n : ℕ) (ds : List ℕ) (t : Bool) → nat_le n 128 ≡ t → 0 < base → min 128 (number_behind base (min 128 n) ds) ≡ min 128 (number_behind base n ds)
saturate-by base n ds true e p =
    let small : min 128 n ≡ n = grind (arith, nat_tests) in
    ap (λ k. min 128 (number_behind base k ds)) small
saturate-by base n ds false e p =
    let large : 128 ≤ n = grind (arith, nat_tests) in
    let one : 128 ≤ number_behind base n ds = big base n ds p large in
    let other : 128 ≤ number_behind base (min 128 n) ds = big base (min 128 n) ds p (grind arith) in
    grind arith

-- a number that stops at 128 stays as good as the number
pub saturate : (base n : ℕ) (ds : List ℕ) → 0 < base → min 128 (number_behind base (min 128 n) ds) ≡ min 128 (number_behind base n ds)
saturate base n ds p = saturate-by base n ds (nat_le n 128) refl p

no-character-by : (r : Reference) (x y z : Bool) → z ≡ false → cond (x && (y && z)) (Some r) None ≡ None
no-character-by r x y true e = absurd (cc e)
no-character-by r true true false e = refl
no-character-by r true false false e = refl
no-character-by r false y false e = refl

no-character : (b n : ℕ) (l : List ℕ) → nat_lt n 128 ≡ false → closed_by n (b ∷ l) ≡ None
unfolding closed_by
no-character b n l e = no-character-by (record { character = n; rest = l }) (b == 59) (nat_le 1 n) (nat_lt n 128) e

closed_by-min-by : (n b : ℕ) (l : List ℕ) (t : Bool) → nat_lt n 128 ≡ t → closed_by (min 128 n) (b ∷ l) ≡ closed_by n (b ∷ l)
closed_by-min-by n b l true e = let small : min 128 n ≡ n = grind (arith, nat_tests) in ap (λ k. closed_by k (b ∷ l)) small
closed_by-min-by n b l false e = let large : nat_lt (min 128 n) 128 ≡ false = grind (arith, nat_tests) in no-character b (min 128 n) l large ∙ sym (no-character b n l e)

pub closed_by-min : (n : ℕ) (l : List ℕ) → closed_by (min 128 n) l ≡ closed_by n l
unfolding closed_by
closed_by-min n [] = refl
closed_by-min n (b ∷ l) = closed_by-min-by n b l (nat_lt n 128) refl

-- the list is something and these behind it
abbrev pub Suffix : List ℕ → List ℕ → Type 0
Suffix l r = (d : List ℕ) × (l ≡ d ++ r)

Suffix-cons : (b : ℕ) (l r : List ℕ) → Suffix l r → Suffix (b ∷ l) r
Suffix-cons b l r (d, e) = (b ∷ d, ap (λ z. b ∷ z) e)

named_or-by : (name : List ℕ) (character : ℕ) (l : List ℕ) (other : Option Reference) (r : Reference) (s : Option (List ℕ)) → behind_mark name l ≡ s → elim s [ Some rest ↦ Some (record { character = character; rest = rest }) | None ↦ other ] ≡ Some r → (other ≡ Some r → Suffix l r.rest) → Suffix l r.rest
named_or-by name character l other r (Some rest) q e k = subst (λ (x : Reference). Suffix l x.rest) (some-same (record { character = character; rest = rest }) r e) (name, behind_mark-is name l rest q)
named_or-by name character l other r None q e k = k e

named_or-suffix : (name : List ℕ) (character : ℕ) (l : List ℕ) (other : Option Reference) (r : Reference) → named_or name character l other ≡ Some r → (other ≡ Some r → Suffix l r.rest) → Suffix l r.rest
named_or-suffix name character l other r e k = named_or-by name character l other r (behind_mark name l) refl e k

closed_by-suffix : (n : ℕ) (l : List ℕ) (r : Reference) → closed_by n l ≡ Some r → Suffix l r.rest
unfolding closed_by
closed_by-suffix n [] r e = absurd (cc e)
closed_by-suffix n (b ∷ l) r e = passed ((b == 59) && (nat_le 1 n && nat_lt n 128)) (Some (record { character = n; rest = l })) r e (λ t f. subst (λ (x : Reference). Suffix (b ∷ l) x.rest) (some-same (record { character = n; rest = l }) r f) (b ∷ [], refl))

Suffix-behind : (test : ℕ → Bool) (l r : List ℕ) → Suffix (behind test l) r → Suffix l r
Suffix-behind test l r (d, e) = (front test l ++ d, front-behind test l ∙ (ap (λ z. front test l ++ z) e ∙ sym (simp append_assoc)))

number_at-suffix : (test : ℕ → Bool) (base : ℕ) (l : List ℕ) (r : Reference) → number_at test base l ≡ Some r → Suffix l r.rest
unfolding number_at
number_at-suffix test base l r e = passed (nat_lt 0 (length (front test l))) (closed_by (number_behind base 0 (front test l)) (behind test l)) r e (λ t f. Suffix-behind test l r.rest (closed_by-suffix (number_behind base 0 (front test l)) (behind test l) r f))

numeric_at-by : (b : ℕ) (l : List ℕ) (r : Reference) (t : Bool) → cond t (number_at is_hex_digit 16 l) (number_at is_digit 10 (b ∷ l)) ≡ Some r → Suffix (b ∷ l) r.rest
numeric_at-by b l r true e = Suffix-cons b l r.rest (number_at-suffix is_hex_digit 16 l r e)
numeric_at-by b l r false e = number_at-suffix is_digit 10 (b ∷ l) r e

numeric_at-suffix : (l : List ℕ) (r : Reference) → numeric_at l ≡ Some r → Suffix l r.rest
unfolding numeric_at
numeric_at-suffix [] r e = absurd (cc e)
numeric_at-suffix (b ∷ l) r e = numeric_at-by b l r (b == 120) e

number-behind-hash : (l : List ℕ) (r : Reference) (s : Option (List ℕ)) → behind_mark (ascii "#") l ≡ s → elim s [ Some rest ↦ numeric_at rest | None ↦ None ] ≡ Some r → Suffix l r.rest
number-behind-hash l r (Some rest) q e =
    let h = numeric_at-suffix rest r e in
    (ascii "#" ++ h.0, behind_mark-is (ascii "#") l rest q ∙ ap (λ z. ascii "#" ++ z) h.1)
number-behind-hash l r None q e = absurd (cc e)

pub reference_at-suffix : (l : List ℕ) (r : Reference) → reference_at l ≡ Some r → Suffix l r.rest
unfolding reference_at
reference_at-suffix l r e =
    named_or-suffix (ascii "lt;") 60 l _ r e (λ e1.
    named_or-suffix (ascii "gt;") 62 l _ r e1 (λ e2.
    named_or-suffix (ascii "amp;") 38 l _ r e2 (λ e3.
    named_or-suffix (ascii "quot;") 34 l _ r e3 (λ e4.
    named_or-suffix (ascii "apos;") 39 l _ r e4 (λ e5.
    number-behind-hash l r (behind_mark (ascii "#") l) refl e5)))))

-- Reading goes on behind a reference

read_behind-skip : (k : ℕ) (l : List ℕ) → read_behind k l ≡ read_behind 0 (drop k l)
unfolding read_behind
read_behind-skip zero l = refl
read_behind-skip (suc k) [] = refl
read_behind-skip (suc k) (b ∷ l) = read_behind-skip k l

drop-cut : (d l r : List ℕ) → l ≡ d ++ r → drop (length l - length r) l ≡ r
drop-cut d l r e =
    let n : length l - length r ≡ length d = omega (arith, ap length e, length-append d r) in
    ap (λ k. drop k l) n ∙ (ap (drop (length d)) e ∙ drop-append_seam d r)

pub read-reference : (l : List ℕ) (r : Reference) → reference_at l ≡ Some r → read_behind 0 (38 ∷ l) ≡ r.character ∷ read_behind 0 r.rest
unfolding read_behind
read-reference l r e =
    let h = reference_at-suffix l r e in
    rw e (ap (λ z. r.character ∷ z) (read_behind-skip (length l - length r.rest) l ∙ ap (read_behind 0) (drop-cut h.0 l r.rest h.1)))

pub reference-shorter : (l : List ℕ) (r : Reference) → reference_at l ≡ Some r → length r.rest ≤ length l
reference-shorter l r e = let h = reference_at-suffix l r e in omega (arith, ap length h.1, length-append h.0 r.rest)

pub read-plain : (b : ℕ) (l : List ℕ) → (b == 38) ≡ false → read_behind 0 (b ∷ l) ≡ b ∷ read_behind 0 l
unfolding read_behind
read-plain b l e = rw e refl

pub read-ampersand : (l : List ℕ) → reference_at l ≡ None → read_behind 0 (38 ∷ l) ≡ 38 ∷ read_behind 0 l
unfolding read_behind
read-ampersand l e = rw e refl

pub number_at-found : (test : ℕ → Bool) (base : ℕ) (l : List ℕ) → nat_lt 0 (length (front test l)) ≡ true → number_at test base l ≡ closed_by (number_behind base 0 (front test l)) (behind test l)
unfolding number_at
number_at-found test base l e = rw e refl

pub some-left : (l : List ℕ) → false ≡ (length l == 0) → nat_lt 0 (length l) ≡ true
some-left l e = grind (arith, nat_tests)

pub read-nothing : read_behind 0 [] ≡ []
unfolding read_behind
read-nothing = refl
