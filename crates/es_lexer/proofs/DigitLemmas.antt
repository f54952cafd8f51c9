-- The numbers that a few digits write.
use Rattle.std.proofs.Common.{◌≡◌, ℕ, zero, suc, ◌+◌, ◌*◌, Bool, true, false, cond, List, [], ◌∷◌, ◌++◌, length, Option, Some, None, refl, sym, ◌∙◌, ap, subst, arith}
use Rattle.std.specs.Prelude.{map, option_map, option_and_then}
use Rattle.bml_bytes.specs.Numbers.{number_in}
use Rattle.es_lexer.specs.Codes.{digit_value, is_hex_digit}
use Rattle.es_lexer.specs.Scanning.{Found, found, changed}
use Rattle.es_lexer.specs.ScannedLiterals.{hex_digits_at}
use Rattle.es_lexer.specs.Views.{hex_number}
use Rattle.std.specs.List.{list_all}
use Rattle.es_lexer.proofs.CodeLemmas.{both-back, some-same, mapped, none-map}

pub one_octal : (a : ℕ) → number_in 8 (map digit_value (a ∷ [])) ≡ digit_value a
unfolding number_in
one_octal a = omega arith

pub two_octal : (a b : ℕ) → number_in 8 (map digit_value (a ∷ b ∷ [])) ≡ digit_value a * 8 + digit_value b
unfolding number_in
two_octal a b = omega arith

pub three_octal : (a b c : ℕ) → number_in 8 (map digit_value (a ∷ b ∷ c ∷ [])) ≡ (digit_value a * 8 + digit_value b) * 8 + digit_value c
unfolding number_in
three_octal a b c = omega arith

pub ruleset octal_digits = (one_octal, two_octal, three_octal)

pub two_hex : (a b : ℕ) → number_in 16 (map digit_value (a ∷ b ∷ [])) ≡ digit_value a * 16 + digit_value b
unfolding number_in
two_hex a b = omega arith

pub ruleset hex_digits = (two_hex)

-- Four hexadecimal digits are two and two

four-by : (a b : ℕ) (codes : List ℕ) (t u : Bool) (o : Option (Found (List ℕ))) → hex_digits_at 2 codes ≡ o →
    cond t (option_map (changed (λ d. a ∷ d)) (cond u (option_map (changed (λ d. b ∷ d)) o) None)) None
    ≡ option_and_then (λ (f : Found (List ℕ)). option_map (changed (λ more. f.it ++ more)) (hex_digits_at 2 f.rest)) (cond t (option_map (changed (λ d. a ∷ d)) (cond u (option_map (changed (λ d. b ∷ d)) (Some (found [] codes))) None)) None)
four-by a b codes false u o e = refl
four-by a b codes true false o e = refl
four-by a b codes true true None e = rw e refl
four-by a b codes true true (Some g) e = rw e refl

one-by : (a : ℕ) (t : Bool) →
    cond t (option_map (changed (λ d. a ∷ d)) None) None
    ≡ option_and_then (λ (f : Found (List ℕ)). option_map (changed (λ more. f.it ++ more)) (hex_digits_at 2 f.rest)) (cond t (option_map (changed (λ d. a ∷ d)) None) None)
one-by a false = refl
one-by a true = refl

hex-four : (codes : List ℕ) → hex_digits_at 4 codes ≡ option_and_then (λ (f : Found (List ℕ)). option_map (changed (λ more. f.it ++ more)) (hex_digits_at 2 f.rest)) (hex_digits_at 2 codes)
unfolding hex_digits_at
hex-four [] = refl
hex-four (a ∷ []) = one-by a (is_hex_digit a)
hex-four (a ∷ b ∷ codes) = four-by a b codes (is_hex_digit a) (is_hex_digit b) (hex_digits_at 2 codes) refl

-- What so many hexadecimal digits are

pub record AreHexDigits (count : ℕ) (codes : List ℕ) (f : Found (List ℕ)) : Type 0 where
  pub is_it : codes ≡ f.it ++ f.rest
  pub long : length f.it ≡ count
  pub made_of : list_all is_hex_digit f.it ≡ true

hex_digits_at-is-by : (count code : ℕ) (codes : List ℕ) (f : Found (List ℕ)) (t : Bool) (o : Option (Found (List ℕ))) → is_hex_digit code ≡ t → ((g : Found (List ℕ)) → o ≡ Some g → AreHexDigits count codes g) → cond t (option_map (changed (λ d. code ∷ d)) o) None ≡ Some f → AreHexDigits (suc count) (code ∷ codes) f
hex_digits_at-is-by count code codes f false o q k e = absurd (cc e)
hex_digits_at-is-by count code codes f true None q k e = absurd (cc e)
hex_digits_at-is-by count code codes f true (Some g) q k e =
    let h = k g refl in
    subst (AreHexDigits (suc count) (code ∷ codes)) (some-same (found (code ∷ g.it) g.rest) f e) (record { is_it = ap (λ z. code ∷ z) h.is_it; long = omega (arith, h.long); made_of = both-back (is_hex_digit code) (list_all is_hex_digit g.it) q h.made_of })

pub hex_digits_at-is : (count : ℕ) (codes : List ℕ) (f : Found (List ℕ)) → hex_digits_at count codes ≡ Some f → AreHexDigits count codes f
unfolding hex_digits_at
hex_digits_at-is zero codes f e = subst (AreHexDigits 0 codes) (some-same (found [] codes) f e) (record { is_it = refl; long = refl; made_of = refl })
hex_digits_at-is (suc count) [] f e = absurd (cc e)
hex_digits_at-is (suc count) (code ∷ codes) f e = hex_digits_at-is-by count code codes f (is_hex_digit code) (hex_digits_at count codes) refl (hex_digits_at-is count codes) e

two-long : (l : List ℕ) → length l ≡ 2 → (a b : ℕ) × (l ≡ a ∷ b ∷ [])
two-long [] e = absurd (omega (arith, e))
two-long (a ∷ []) e = absurd (omega (arith, e))
two-long (a ∷ b ∷ []) e = (a, b, refl)
two-long (a ∷ b ∷ c ∷ l) e = absurd (omega (arith, e))

four-number : (a b c d : ℕ) → hex_number (a ∷ b ∷ c ∷ d ∷ []) ≡ hex_number (a ∷ b ∷ []) * 256 + hex_number (c ∷ d ∷ [])
unfolding number_in
four-number a b c d = omega arith

joined-number : (f g : List ℕ) → length f ≡ 2 → length g ≡ 2 → hex_number (f ++ g) ≡ hex_number f * 256 + hex_number g
joined-number f g p q =
    let x = two-long f p in
    let y = two-long g q in
    rw (x.2, y.2) (four-number x.0 x.1 y.0 y.1)

four-found : (codes : List ℕ) (f g : Found (List ℕ)) → hex_digits_at 2 codes ≡ Some f → hex_digits_at 2 f.rest ≡ Some g → hex_digits_at 4 codes ≡ Some (found (f.it ++ g.it) g.rest)
four-found codes f g p q = hex-four codes ∙ rw p (rw q refl)

pub four_hex : (codes : List ℕ) (high low : ℕ) (behind rest : List ℕ) → Some (found high behind) ≡ option_map (changed hex_number) (hex_digits_at 2 codes) → Some (found low rest) ≡ option_map (changed hex_number) (hex_digits_at 2 behind) → Some (found (high * 256 + low) rest) ≡ option_map (changed hex_number) (hex_digits_at 4 codes)
four_hex codes high low behind rest p q =
    mapped (changed hex_number) (hex_digits_at 2 codes) (found high behind) (sym p) (λ f fe fs.
    let same : f.rest ≡ behind = ap (λ (z : Found ℕ). z.rest) fs in
    mapped (changed hex_number) (hex_digits_at 2 behind) (found low rest) (sym q) (λ g ge gs.
    let n = joined-number f.it g.it (hex_digits_at-is 2 codes f fe).long (hex_digits_at-is 2 behind g ge).long in
    let h : hex_number f.it ≡ high = ap (λ (z : Found ℕ). z.it) fs in
    let l : hex_number g.it ≡ low = ap (λ (z : Found ℕ). z.it) gs in
    let number : high * 256 + low ≡ hex_number (f.it ++ g.it) = sym (n ∙ rw (h, l) refl) in
    let r : rest ≡ g.rest = sym (ap (λ (z : Found ℕ). z.rest) gs) in
    rw (four-found codes f g fe (ap (hex_digits_at 2) same ∙ ge), number, r) refl))

pub none_hex : (codes : List ℕ) → None ≡ option_map (changed hex_number) (hex_digits_at 2 codes) → None ≡ option_map (changed hex_number) (hex_digits_at 4 codes)
none_hex codes e =
    let none : hex_digits_at 2 codes ≡ None = none-map (changed hex_number) (hex_digits_at 2 codes) (sym e) in
    let four : hex_digits_at 4 codes ≡ None = hex-four codes ∙ rw none refl in
    sym (ap (option_map (changed hex_number)) four)

pub low_none_hex : (codes : List ℕ) (high : ℕ) (behind : List ℕ) → Some (found high behind) ≡ option_map (changed hex_number) (hex_digits_at 2 codes) → None ≡ option_map (changed hex_number) (hex_digits_at 2 behind) → None ≡ option_map (changed hex_number) (hex_digits_at 4 codes)
low_none_hex codes high behind p e =
    mapped (changed hex_number) (hex_digits_at 2 codes) (found high behind) (sym p) (λ f fe fs.
    let same : f.rest ≡ behind = ap (λ (z : Found ℕ). z.rest) fs in
    let none : hex_digits_at 2 f.rest ≡ None = ap (hex_digits_at 2) same ∙ none-map (changed hex_number) (hex_digits_at 2 behind) (sym e) in
    let four : hex_digits_at 4 codes ≡ None = hex-four codes ∙ rw fe (rw none refl) in
    sym (ap (option_map (changed hex_number)) four))
