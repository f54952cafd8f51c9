-- The characters of a text literal are found where they are spelled, and what is found is spelled there.
use Rattle.std.proofs.Common.{◌≡◌, ℕ, zero, suc, ◌<◌, ◌≤◌, Bool, true, false, cond, List, [], ◌∷◌, ◌++◌, length, Option, Some, None, refl, sym, ◌∙◌, ap, subst, arith, append_assoc}
use Rattle.std.specs.Prelude.{◌==◌, ◌||◌, ◌&&◌, map, nat_le, option_map, is_some}
use Rattle.std.specs.List.{list_all}
use Rattle.std.proofs.lemmas.Bool.{eqb-true, eq-eqb, ne_eqb, eqb-false, or_parts}
use Rattle.std.proofs.lemmas.Bool.Decides.{nat_tests}
use Rattle.bml_bytes.specs.Numbers.{number_in}
use Rattle.es_lexer.specs.Codes.{is_line_terminator, is_decimal_digit, is_octal_digit, is_hex_digit, digit_value, is_quote}
use Rattle.es_lexer.specs.Literals.{Character, character_spelling, inside_spelling, control_of, IsCharacter, IsLongestCharacter, AreCharacters}
use Rattle.es_lexer.specs.Literals.Character.{Plain, Control, OctalEscape, ByteEscape, CodeEscape, Itself}
use Rattle.es_lexer.specs.Scanning.{Found, found, changed}
use Rattle.es_lexer.specs.ScannedLiterals.{hex_digits_at, hex_escape_at, third_digit_at, second_digit_at, escape_at, character_at, inside_at, characters_at}
use Rattle.es_lexer.proofs.CodeLemmas.{some-same, mapped, both, both-back}
use Rattle.es_lexer.proofs.LiteralLemmas.{character_at-is, characters-end, characters-step}
use Rattle.es_lexer.proofs.DigitLemmas.{hex_digits_at-is, one_octal, two_octal, three_octal}

-- Digits

octal-value : (c : ℕ) → is_octal_digit c ≡ true → digit_value c ≤ 7
unfolding is_octal_digit digit_value
octal-value c e = grind (arith, nat_tests)

octal-low : (c : ℕ) → is_octal_digit c ≡ true → nat_le c 51 ≡ true → digit_value c ≤ 3
unfolding is_octal_digit digit_value
octal-low c e f = grind (arith, nat_tests)

octal-high : (c : ℕ) → is_octal_digit c ≡ true → nat_le c 51 ≡ false → 4 ≤ digit_value c
unfolding is_octal_digit digit_value
octal-high c e f = grind (arith, nat_tests)

octal-line : (c : ℕ) → is_octal_digit c ≡ true → is_line_terminator c ≡ false
unfolding is_octal_digit is_line_terminator
octal-line c e = grind (arith, nat_tests)

octal-small : (c n : ℕ) → is_octal_digit c ≡ true → 55 < n → (c == n) ≡ false
unfolding is_octal_digit
octal-small c n e h = grind (arith, nat_tests)

-- What is found may stand there

good-one : (quote a : ℕ) → is_octal_digit a ≡ true → IsCharacter quote (OctalEscape (a ∷ []))
good-one quote a p = (omega arith, omega arith, both-back (is_octal_digit a) true p refl, omega (arith, one_octal a, octal-value a p))

good-two : (quote a b : ℕ) → is_octal_digit a ≡ true → is_octal_digit b ≡ true → IsCharacter quote (OctalEscape (a ∷ b ∷ []))
good-two quote a b p q = (omega arith, omega arith, both-back (is_octal_digit a) (is_octal_digit b && true) p (both-back (is_octal_digit b) true q refl), omega (arith, two_octal a b, octal-value a p, octal-value b q))

good-three : (quote a b c : ℕ) → is_octal_digit a ≡ true → is_octal_digit b ≡ true → is_octal_digit c ≡ true → nat_le a 51 ≡ true → IsCharacter quote (OctalEscape (a ∷ b ∷ c ∷ []))
good-three quote a b c p q r l = (
  omega arith,
  omega arith,
  both-back (is_octal_digit a) (is_octal_digit b && (is_octal_digit c && true)) p (both-back (is_octal_digit b) (is_octal_digit c && true) q (both-back (is_octal_digit c) true r refl)),
  omega (arith, three_octal a b c, octal-low a p l, octal-value b q, octal-value c r),
)

good-third : (quote a b : ℕ) (codes : List ℕ) → is_octal_digit a ≡ true → is_octal_digit b ≡ true → nat_le a 51 ≡ true → IsCharacter quote (third_digit_at a b codes).it
unfolding third_digit_at
good-third quote a b [] p q l = good-two quote a b p q
good-third quote a b (c ∷ codes) p q l = by (is_octal_digit c) refl
  where
    by : (t : Bool) → is_octal_digit c ≡ t → IsCharacter quote (cond t (found (OctalEscape (a ∷ b ∷ c ∷ [])) codes) (found (OctalEscape (a ∷ b ∷ [])) (c ∷ codes))).it
    by true r = good-three quote a b c p q r l
    by false r = good-two quote a b p q

good-second : (quote a : ℕ) (codes : List ℕ) → is_octal_digit a ≡ true → IsCharacter quote (second_digit_at a codes).it
unfolding second_digit_at
good-second quote a [] p = good-one quote a p
good-second quote a (b ∷ codes) p = by (is_octal_digit b) (nat_le a 51) refl refl
  where
    by : (t u : Bool) → is_octal_digit b ≡ t → nat_le a 51 ≡ u → IsCharacter quote (cond t (cond u (third_digit_at a b codes) (found (OctalEscape (a ∷ b ∷ [])) codes)) (found (OctalEscape (a ∷ [])) (b ∷ codes))).it
    by true true q l = good-third quote a b codes p q l
    by true false q l = good-two quote a b p q
    by false u q l = good-one quote a p

plain-letter : (quote letter : ℕ) → letter ≡ 120 → IsCharacter quote (Itself letter)
unfolding is_line_terminator is_octal_digit control_of
plain-letter quote letter e = rw e (refl, refl, refl)

plain-unicode : (quote letter : ℕ) → letter ≡ 117 → IsCharacter quote (Itself letter)
unfolding is_line_terminator is_octal_digit control_of
plain-unicode quote letter e = rw e (refl, refl, refl)

good-hex-by : (quote count letter : ℕ) (make : List ℕ → Character) (codes : List ℕ) (o : Option (Found (List ℕ))) → hex_digits_at count codes ≡ o → ((digits : List ℕ) → length digits ≡ count → list_all is_hex_digit digits ≡ true → IsCharacter quote (make digits)) → IsCharacter quote (Itself letter) → let g : Found Character = elim o [ Some f ↦ changed make f | None ↦ found (Itself letter) codes ] in IsCharacter quote g.it
good-hex-by quote count letter make codes None e k s = s
good-hex-by quote count letter make codes (Some f) e k s = let h = hex_digits_at-is count codes f e in k f.it h.long h.made_of

good-hex : (quote count letter : ℕ) (make : List ℕ → Character) (codes : List ℕ) → ((digits : List ℕ) → length digits ≡ count → list_all is_hex_digit digits ≡ true → IsCharacter quote (make digits)) → IsCharacter quote (Itself letter) → IsCharacter quote (hex_escape_at count letter make codes).it
unfolding hex_escape_at
good-hex quote count letter make codes k s = good-hex-by quote count letter make codes (hex_digits_at count codes) refl k s

good-self : (quote code : ℕ) (codes : List ℕ) (o : Option ℕ) → control_of code ≡ o → is_line_terminator code ≡ false → is_octal_digit code ≡ false → IsCharacter quote (found (elim o [ Some meant ↦ Control code | None ↦ Itself code ]) codes).it
good-self quote code codes None e t u = (t, u, ap is_some e)
good-self quote code codes (Some meant) e t u = ap is_some e

good-escape-by : (quote code : ℕ) (codes : List ℕ) (f : Found Character) (t u v w : Bool) → is_line_terminator code ≡ t → is_octal_digit code ≡ u →
    cond t None (cond u (Some (second_digit_at code codes)) (cond v (Some (hex_escape_at 2 120 ByteEscape codes)) (cond w (Some (hex_escape_at 4 117 CodeEscape codes)) (Some (found (elim (control_of code) [ Some meant ↦ Control code | None ↦ Itself code ]) codes))))) ≡ Some f
    → IsCharacter quote f.it
good-escape-by quote code codes f true u v w p q e = absurd (cc e)
good-escape-by quote code codes f false true v w p q e = subst (λ (g : Found Character). IsCharacter quote g.it) (some-same (second_digit_at code codes) f e) (good-second quote code codes q)
good-escape-by quote code codes f false false true w p q e = subst (λ (g : Found Character). IsCharacter quote g.it) (some-same (hex_escape_at 2 120 ByteEscape codes) f e) (good-hex quote 2 120 ByteEscape codes (λ d l m. (l, m)) (plain-letter quote 120 refl))
good-escape-by quote code codes f false false false true p q e = subst (λ (g : Found Character). IsCharacter quote g.it) (some-same (hex_escape_at 4 117 CodeEscape codes) f e) (good-hex quote 4 117 CodeEscape codes (λ d l m. (l, m)) (plain-unicode quote 117 refl))
good-escape-by quote code codes f false false false false p q e = subst (λ (g : Found Character). IsCharacter quote g.it) (some-same (found (elim (control_of code) [ Some meant ↦ Control code | None ↦ Itself code ]) codes) f e) (good-self quote code codes (control_of code) refl p q)

good-escape : (quote : ℕ) (codes : List ℕ) (f : Found Character) → escape_at codes ≡ Some f → IsCharacter quote f.it
unfolding escape_at
good-escape quote [] f e = absurd (cc e)
good-escape quote (code ∷ codes) f e = good-escape-by quote code codes f (is_line_terminator code) (is_octal_digit code) (code == 120) (code == 117) refl refl e

good-by : (quote code : ℕ) (codes : List ℕ) (f : Found Character) (t u : Bool) → (code == 92) ≡ t → ((code == quote) || is_line_terminator code) ≡ u → cond t (escape_at codes) (cond u None (Some (found (Plain code) codes))) ≡ Some f → IsCharacter quote f.it
good-by quote code codes f true u p q e = good-escape quote codes f e
good-by quote code codes f false true p q e = absurd (cc e)
good-by quote code codes f false false p q e =
    let h = or_parts (code == quote) (is_line_terminator code) q in
    subst (λ (g : Found Character). IsCharacter quote g.it) (some-same (found (Plain code) codes) f e) (eqb-false code quote h.0, eqb-false code 92 p, h.1)

pub character_at-good : (quote : ℕ) (codes : List ℕ) (f : Found Character) → character_at quote codes ≡ Some f → IsCharacter quote f.it
unfolding character_at
character_at-good quote [] f e = absurd (cc e)
character_at-good quote (code ∷ codes) f e = good-by quote code codes f (code == 92) ((code == quote) || is_line_terminator code) refl refl e

-- What stands there is found, or a longer character

pub record FindsCharacter (quote : ℕ) (it : Character) (behind : List ℕ) : Type 0 where
  pub finds : Found Character
  pub at_front : character_at quote (character_spelling it ++ behind) ≡ Some finds
  pub long : length (character_spelling it) ≤ length (character_spelling finds.it)

abbrev pub FoundExactly : ℕ → Character → List ℕ → Type 0
FoundExactly quote it behind = character_at quote (character_spelling it ++ behind) ≡ Some (found it behind)

exactly : (quote : ℕ) (it : Character) (behind : List ℕ) → FoundExactly quote it behind → FindsCharacter quote it behind
exactly quote it behind e = record { finds = found it behind; at_front = e; long = omega arith }

plain-exact : (quote code : ℕ) (behind : List ℕ) → IsCharacter quote (Plain code) → FoundExactly quote (Plain code) behind
unfolding character_at
plain-exact quote code behind (q, b, l) = rw (ne_eqb code 92 b, ne_eqb code quote q, l) refl

escape-at : (quote : ℕ) (codes : List ℕ) → character_at quote (92 ∷ codes) ≡ escape_at codes
unfolding character_at
escape-at quote codes = refl

pub record IsLetter (letter : ℕ) : Type 0 where
  pub line : is_line_terminator letter ≡ false
  pub octal : is_octal_digit letter ≡ false
  pub hex : (letter == 120) ≡ false
  pub unicode : (letter == 117) ≡ false

letter-by : (letter number : ℕ) (meant : ℕ) (other : Option ℕ) (t : Bool) → (letter == number) ≡ t → IsLetter number → (is_some other ≡ true → IsLetter letter) → is_some (cond t (Some meant) other) ≡ true → IsLetter letter
letter-by letter number meant other true e k o h = subst IsLetter (sym (eqb-true letter number e)) k
letter-by letter number meant other false e k o h = o h

letters : (IsLetter 98) × (IsLetter 102) × (IsLetter 110) × (IsLetter 114) × (IsLetter 116)
unfolding is_line_terminator is_octal_digit
letters = (record { line = refl; octal = refl; hex = refl; unicode = refl }, record { line = refl; octal = refl; hex = refl; unicode = refl }, record { line = refl; octal = refl; hex = refl; unicode = refl }, record { line = refl; octal = refl; hex = refl; unicode = refl }, record { line = refl; octal = refl; hex = refl; unicode = refl })

control-letter : (letter : ℕ) → is_some (control_of letter) ≡ true → IsLetter letter
unfolding control_of
control-letter letter h =
    letter-by letter 98 8 _ (letter == 98) refl letters.0 (
    letter-by letter 102 12 _ (letter == 102) refl letters.1 (
    letter-by letter 110 10 _ (letter == 110) refl letters.2 (
    letter-by letter 114 13 _ (letter == 114) refl letters.3 (
    letter-by letter 116 9 _ (letter == 116) refl letters.4 (λ n. absurd (cc n)))))) h

some-control : (code : ℕ) (codes : List ℕ) (o : Option ℕ) → is_some o ≡ true → let c : Character = elim o [ Some meant ↦ Control code | None ↦ Itself code ] in Some (found c codes) ≡ Some (found (Control code) codes)
some-control code codes None e = absurd (cc e)
some-control code codes (Some meant) e = refl

none-control : (code : ℕ) (codes : List ℕ) (o : Option ℕ) → is_some o ≡ false → let c : Character = elim o [ Some meant ↦ Control code | None ↦ Itself code ] in Some (found c codes) ≡ Some (found (Itself code) codes)
none-control code codes None e = refl
none-control code codes (Some meant) e = absurd (cc e)

control-exact : (quote letter : ℕ) (behind : List ℕ) → IsCharacter quote (Control letter) → FoundExactly quote (Control letter) behind
unfolding escape_at
control-exact quote letter behind h =
    let k = control-letter letter h in
    escape-at quote (letter ∷ behind) ∙ rw (k.line, k.octal, k.hex, k.unicode) (some-control letter behind (control_of letter) h)

itself-exact : (quote code : ℕ) (behind : List ℕ) → IsCharacter quote (Itself code) → (code == 120) ≡ false → (code == 117) ≡ false → FoundExactly quote (Itself code) behind
unfolding escape_at
itself-exact quote code behind (l, o, n) x u = escape-at quote (code ∷ behind) ∙ rw (l, o, x, u) (none-control code behind (control_of code) n)

-- octal digits

octal-at : (quote a : ℕ) (codes : List ℕ) → is_octal_digit a ≡ true → character_at quote (92 ∷ a ∷ codes) ≡ Some (second_digit_at a codes)
unfolding escape_at
octal-at quote a codes p = escape-at quote (a ∷ codes) ∙ rw (octal-line a p, p) refl

second-none : (a b : ℕ) (codes : List ℕ) → is_octal_digit b ≡ false → second_digit_at a (b ∷ codes) ≡ found (OctalEscape (a ∷ [])) (b ∷ codes)
unfolding second_digit_at
second-none a b codes e = rw e refl

second-high : (a b : ℕ) (codes : List ℕ) → is_octal_digit b ≡ true → nat_le a 51 ≡ false → second_digit_at a (b ∷ codes) ≡ found (OctalEscape (a ∷ b ∷ [])) codes
unfolding second_digit_at
second-high a b codes e l = rw (e, l) refl

second-low : (a b : ℕ) (codes : List ℕ) → is_octal_digit b ≡ true → nat_le a 51 ≡ true → second_digit_at a (b ∷ codes) ≡ third_digit_at a b codes
unfolding second_digit_at
second-low a b codes e l = rw (e, l) refl

third-none : (a b c : ℕ) (codes : List ℕ) → is_octal_digit c ≡ false → third_digit_at a b (c ∷ codes) ≡ found (OctalEscape (a ∷ b ∷ [])) (c ∷ codes)
unfolding third_digit_at
third-none a b c codes e = rw e refl

third-some : (a b c : ℕ) (codes : List ℕ) → is_octal_digit c ≡ true → third_digit_at a b (c ∷ codes) ≡ found (OctalEscape (a ∷ b ∷ c ∷ [])) codes
unfolding third_digit_at
third-some a b c codes e = rw e refl

third-long : (a b : ℕ) (codes : List ℕ) → 3 ≤ length (character_spelling (third_digit_at a b codes).it)
unfolding third_digit_at
third-long a b [] = omega arith
third-long a b (c ∷ codes) = by (is_octal_digit c)
  where
    by : (t : Bool) → 3 ≤ length (character_spelling (cond t (found (OctalEscape (a ∷ b ∷ c ∷ [])) codes) (found (OctalEscape (a ∷ b ∷ [])) (c ∷ codes))).it)
    by true = omega arith
    by false = omega arith

second-long : (a : ℕ) (codes : List ℕ) → 2 ≤ length (character_spelling (second_digit_at a codes).it)
unfolding second_digit_at
second-long a [] = omega arith
second-long a (b ∷ codes) = by (is_octal_digit b) (nat_le a 51)
  where
    by : (t u : Bool) → 2 ≤ length (character_spelling (cond t (cond u (third_digit_at a b codes) (found (OctalEscape (a ∷ b ∷ [])) codes)) (found (OctalEscape (a ∷ [])) (b ∷ codes))).it)
    by true true = omega (arith, third-long a b codes)
    by true false = omega arith
    by false u = omega arith

-- an octal escape has one, two or three digits
pub data OctalForm (digits : List ℕ) : Type 0 where
  One : (a : ℕ) → digits ≡ a ∷ [] → is_octal_digit a ≡ true → OctalForm digits
  Two : (a b : ℕ) → digits ≡ a ∷ b ∷ [] → is_octal_digit a ≡ true → is_octal_digit b ≡ true → OctalForm digits
  Three : (a b c : ℕ) → digits ≡ a ∷ b ∷ c ∷ [] → is_octal_digit a ≡ true → is_octal_digit b ≡ true → is_octal_digit c ≡ true → nat_le a 51 ≡ true → OctalForm digits

low-first : (a b c : ℕ) → is_octal_digit a ≡ true → number_in 8 (map digit_value (a ∷ b ∷ c ∷ [])) ≤ 255 → (t : Bool) → nat_le a 51 ≡ t → t ≡ true
low-first a b c p h true e = refl
low-first a b c p h false e = absurd (omega (arith, three_octal a b c, octal-high a p e))

octal-form : (quote : ℕ) (digits : List ℕ) → IsCharacter quote (OctalEscape digits) → OctalForm digits
octal-form quote [] h = absurd (omega (arith, h.0))
octal-form quote (a ∷ []) h = One a refl (both (is_octal_digit a) true h.2).0
octal-form quote (a ∷ b ∷ []) h =
    let x = both (is_octal_digit a) (is_octal_digit b && true) h.2 in
    Two a b refl x.0 (both (is_octal_digit b) true x.1).0
octal-form quote (a ∷ b ∷ c ∷ []) h =
    let x = both (is_octal_digit a) (is_octal_digit b && (is_octal_digit c && true)) h.2 in
    let y = both (is_octal_digit b) (is_octal_digit c && true) x.1 in
    Three a b c refl x.0 y.0 (both (is_octal_digit c) true y.1).0 (low-first a b c x.0 h.3 (nat_le a 51) refl)
octal-form quote (a ∷ b ∷ c ∷ d ∷ digits) h = absurd (omega (arith, h.1))

three-exact : (quote a b c : ℕ) (behind : List ℕ) → is_octal_digit a ≡ true → is_octal_digit b ≡ true → is_octal_digit c ≡ true → nat_le a 51 ≡ true → FoundExactly quote (OctalEscape (a ∷ b ∷ c ∷ [])) behind
three-exact quote a b c behind p q r l = octal-at quote a (b ∷ c ∷ behind) p ∙ ap (λ f. Some f) (second-low a b (c ∷ behind) q l ∙ third-some a b c behind r)

two-finds : (quote a b : ℕ) (behind : List ℕ) → is_octal_digit a ≡ true → is_octal_digit b ≡ true → (t : Bool) → nat_le a 51 ≡ t → FindsCharacter quote (OctalEscape (a ∷ b ∷ [])) behind
two-finds quote a b behind p q true l = record { finds = third_digit_at a b behind; at_front = octal-at quote a (b ∷ behind) p ∙ ap (λ f. Some f) (second-low a b behind q l); long = omega (arith, third-long a b behind) }
two-finds quote a b behind p q false l = exactly quote (OctalEscape (a ∷ b ∷ [])) behind (octal-at quote a (b ∷ behind) p ∙ ap (λ f. Some f) (second-high a b behind q l))

octal-finds : (quote : ℕ) (digits behind : List ℕ) → OctalForm digits → FindsCharacter quote (OctalEscape digits) behind
octal-finds quote digits behind (One a e p) = subst (λ d. FindsCharacter quote (OctalEscape d) behind) (sym e) (record { finds = second_digit_at a behind; at_front = octal-at quote a behind p; long = omega (arith, second-long a behind) })
octal-finds quote digits behind (Two a b e p q) = subst (λ d. FindsCharacter quote (OctalEscape d) behind) (sym e) (two-finds quote a b behind p q (nat_le a 51) refl)
octal-finds quote digits behind (Three a b c e p q r l) = subst (λ d. FindsCharacter quote (OctalEscape d) behind) (sym e) (exactly quote (OctalEscape (a ∷ b ∷ c ∷ [])) behind (three-exact quote a b c behind p q r l))

-- hexadecimal digits

hex-found : (digits behind : List ℕ) → list_all is_hex_digit digits ≡ true → hex_digits_at (length digits) (digits ++ behind) ≡ Some (found digits behind)
unfolding hex_digits_at
hex-found [] behind h = refl
hex-found (d ∷ digits) behind h =
    let x = both (is_hex_digit d) (list_all is_hex_digit digits) h in
    rw x.0 (ap (option_map (changed (λ digits. d ∷ digits))) (hex-found digits behind x.1))

hex-at : (quote : ℕ) (codes : List ℕ) → character_at quote (92 ∷ 120 ∷ codes) ≡ Some (hex_escape_at 2 120 ByteEscape codes)
unfolding escape_at is_line_terminator is_octal_digit
hex-at quote codes = escape-at quote (120 ∷ codes) ∙ refl

unicode-at : (quote : ℕ) (codes : List ℕ) → character_at quote (92 ∷ 117 ∷ codes) ≡ Some (hex_escape_at 4 117 CodeEscape codes)
unfolding escape_at is_line_terminator is_octal_digit
unicode-at quote codes = escape-at quote (117 ∷ codes) ∙ refl

hex_escape-some : (count letter : ℕ) (make : List ℕ → Character) (codes : List ℕ) (f : Found (List ℕ)) → hex_digits_at count codes ≡ Some f → hex_escape_at count letter make codes ≡ changed make f
unfolding hex_escape_at
hex_escape-some count letter make codes f e = rw (e, hex_escape_at) refl

hex_escape-none : (count letter : ℕ) (make : List ℕ → Character) (codes : List ℕ) → hex_digits_at count codes ≡ None → hex_escape_at count letter make codes ≡ found (Itself letter) codes
unfolding hex_escape_at
hex_escape-none count letter make codes e = rw (e, hex_escape_at) refl

byte-exact : (quote : ℕ) (digits behind : List ℕ) → IsCharacter quote (ByteEscape digits) → FoundExactly quote (ByteEscape digits) behind
byte-exact quote digits behind h =
    let two : hex_digits_at 2 (digits ++ behind) ≡ Some (found digits behind) = subst (λ n. hex_digits_at n (digits ++ behind) ≡ Some (found digits behind)) h.0 (hex-found digits behind h.1) in
    hex-at quote (digits ++ behind) ∙ ap (λ f. Some f) (hex_escape-some 2 120 ByteEscape (digits ++ behind) (found digits behind) two)

code-exact : (quote : ℕ) (digits behind : List ℕ) → IsCharacter quote (CodeEscape digits) → FoundExactly quote (CodeEscape digits) behind
code-exact quote digits behind h =
    let four : hex_digits_at 4 (digits ++ behind) ≡ Some (found digits behind) = subst (λ n. hex_digits_at n (digits ++ behind) ≡ Some (found digits behind)) h.0 (hex-found digits behind h.1) in
    unicode-at quote (digits ++ behind) ∙ ap (λ f. Some f) (hex_escape-some 4 117 CodeEscape (digits ++ behind) (found digits behind) four)

-- a letter that no hexadecimal digits follow, or that they do

hex_escape-long : (count letter : ℕ) (make : List ℕ → Character) (codes : List ℕ) (o : Option (Found (List ℕ))) → hex_digits_at count codes ≡ o → ((digits : List ℕ) → 2 ≤ length (character_spelling (make digits))) → 2 ≤ length (character_spelling (hex_escape_at count letter make codes).it)
hex_escape-long count letter make codes None e k = rw (hex_escape-none count letter make codes e) (omega arith)
hex_escape-long count letter make codes (Some f) e k = rw (hex_escape-some count letter make codes f e) (k f.it)

itself-finds : (quote code : ℕ) (behind : List ℕ) (t u : Bool) → (code == 120) ≡ t → (code == 117) ≡ u → IsCharacter quote (Itself code) → FindsCharacter quote (Itself code) behind
itself-finds quote code behind true u x y h =
    let e : code ≡ 120 = eqb-true code 120 x in
    record {
      finds = hex_escape_at 2 120 ByteEscape behind;
      at_front = ap (λ c. character_at quote (92 ∷ c ∷ behind)) e ∙ hex-at quote behind;
      long = hex_escape-long 2 120 ByteEscape behind (hex_digits_at 2 behind) refl (λ d. omega arith);
    }
itself-finds quote code behind false true x y h =
    let e : code ≡ 117 = eqb-true code 117 y in
    record {
      finds = hex_escape_at 4 117 CodeEscape behind;
      at_front = ap (λ c. character_at quote (92 ∷ c ∷ behind)) e ∙ unicode-at quote behind;
      long = hex_escape-long 4 117 CodeEscape behind (hex_digits_at 4 behind) refl (λ d. omega arith);
    }
itself-finds quote code behind false false x y h = exactly quote (Itself code) behind (itself-exact quote code behind h x y)

pub finds-character : (quote : ℕ) (it : Character) (behind : List ℕ) → IsCharacter quote it → FindsCharacter quote it behind
finds-character quote (Plain code) behind h = exactly quote (Plain code) behind (plain-exact quote code behind h)
finds-character quote (Control letter) behind h = exactly quote (Control letter) behind (control-exact quote letter behind h)
finds-character quote (OctalEscape digits) behind h = octal-finds quote digits behind (octal-form quote digits h)
finds-character quote (ByteEscape digits) behind h = exactly quote (ByteEscape digits) behind (byte-exact quote digits behind h)
finds-character quote (CodeEscape digits) behind h = exactly quote (CodeEscape digits) behind (code-exact quote digits behind h)
finds-character quote (Itself code) behind h = itself-finds quote code behind (code == 120) (code == 117) refl refl h

-- The longest is found, also where a quote and more stand behind it

quote-codes : (quote : ℕ) → is_quote quote ≡ true → (is_octal_digit quote ≡ false) × (is_hex_digit quote ≡ false) × ((92 == quote) ≡ false)
unfolding is_quote is_octal_digit is_hex_digit is_decimal_digit
quote-codes quote e = (grind (arith, nat_tests), grind (arith, nat_tests), grind (arith, nat_tests))

second-ends : (quote a : ℕ) (more rest : List ℕ) → is_octal_digit quote ≡ false → is_octal_digit a ≡ true → IsLongestCharacter quote (OctalEscape (a ∷ [])) more → second_digit_at a (more ++ (quote ∷ rest)) ≡ found (OctalEscape (a ∷ [])) (more ++ (quote ∷ rest))
second-ends quote a [] rest q p h = second-none a quote rest q
second-ends quote a (b ∷ more) rest q p h = second-none a b (more ++ (quote ∷ rest)) (by (is_octal_digit b) refl)
  where
    by : (t : Bool) → is_octal_digit b ≡ t → t ≡ false
    by false e = refl
    by true e = absurd (omega (arith, h.longest (OctalEscape (a ∷ b ∷ [])) more refl (good-two quote a b p e)))

third-ends : (quote a b : ℕ) (more rest : List ℕ) → is_octal_digit quote ≡ false → is_octal_digit a ≡ true → is_octal_digit b ≡ true → nat_le a 51 ≡ true → IsLongestCharacter quote (OctalEscape (a ∷ b ∷ [])) more → third_digit_at a b (more ++ (quote ∷ rest)) ≡ found (OctalEscape (a ∷ b ∷ [])) (more ++ (quote ∷ rest))
third-ends quote a b [] rest q p r l h = third-none a b quote rest q
third-ends quote a b (c ∷ more) rest q p r l h = third-none a b c (more ++ (quote ∷ rest)) (by (is_octal_digit c) refl)
  where
    by : (t : Bool) → is_octal_digit c ≡ t → t ≡ false
    by false e = refl
    by true e = absurd (omega (arith, h.longest (OctalEscape (a ∷ b ∷ c ∷ [])) more refl (good-three quote a b c p r e l)))

two-ends : (quote a b : ℕ) (more rest : List ℕ) → is_octal_digit quote ≡ false → is_octal_digit a ≡ true → is_octal_digit b ≡ true → (t : Bool) → nat_le a 51 ≡ t → IsLongestCharacter quote (OctalEscape (a ∷ b ∷ [])) more → FoundExactly quote (OctalEscape (a ∷ b ∷ [])) (more ++ (quote ∷ rest))
two-ends quote a b more rest q p r true l h = octal-at quote a (b ∷ (more ++ (quote ∷ rest))) p ∙ ap (λ f. Some f) (second-low a b (more ++ (quote ∷ rest)) r l ∙ third-ends quote a b more rest q p r l h)
two-ends quote a b more rest q p r false l h = octal-at quote a (b ∷ (more ++ (quote ∷ rest))) p ∙ ap (λ f. Some f) (second-high a b (more ++ (quote ∷ rest)) r l)

octal-ends : (quote : ℕ) (digits more rest : List ℕ) → is_octal_digit quote ≡ false → OctalForm digits → IsLongestCharacter quote (OctalEscape digits) more → FoundExactly quote (OctalEscape digits) (more ++ (quote ∷ rest))
octal-ends quote digits more rest q (One a e p) h = subst (λ d. FoundExactly quote (OctalEscape d) (more ++ (quote ∷ rest))) (sym e) (octal-at quote a (more ++ (quote ∷ rest)) p ∙ ap (λ f. Some f) (second-ends quote a more rest q p (subst (λ d. IsLongestCharacter quote (OctalEscape d) more) e h)))
octal-ends quote digits more rest q (Two a b e p r) h = subst (λ d. FoundExactly quote (OctalEscape d) (more ++ (quote ∷ rest))) (sym e) (two-ends quote a b more rest q p r (nat_le a 51) refl (subst (λ d. IsLongestCharacter quote (OctalEscape d) more) e h))
octal-ends quote digits more rest q (Three a b c e p r s l) h = subst (λ d. FoundExactly quote (OctalEscape d) (more ++ (quote ∷ rest))) (sym e) (three-exact quote a b c (more ++ (quote ∷ rest)) p r s l)

-- hexadecimal digits don't go over a quote
hex-inside-by : (count quote code : ℕ) (more rest : List ℕ) (f : Found (List ℕ)) (t : Bool) (o : Option (Found (List ℕ))) → ((g : Found (List ℕ)) → o ≡ Some g → (r : List ℕ) × (more ≡ g.it ++ r)) → cond t (option_map (changed (λ digits. code ∷ digits)) o) None ≡ Some f → (r : List ℕ) × (code ∷ more ≡ f.it ++ r)
hex-inside-by count quote code more rest f false o k e = absurd (cc e)
hex-inside-by count quote code more rest f true None k e = absurd (cc e)
hex-inside-by count quote code more rest f true (Some g) k e =
    let x = k g refl in
    (x.0, ap (λ z. code ∷ z) x.1 ∙ ap (λ (z : Found (List ℕ)). z.it ++ x.0) (some-same (found (code ∷ g.it) g.rest) f e))

hex-inside : (count quote : ℕ) (more rest : List ℕ) (f : Found (List ℕ)) → is_hex_digit quote ≡ false → hex_digits_at count (more ++ (quote ∷ rest)) ≡ Some f → (r : List ℕ) × (more ≡ f.it ++ r)
unfolding hex_digits_at
hex-inside zero quote more rest f q e = (more, ap (λ (z : Found (List ℕ)). z.it ++ more) (some-same (found [] (more ++ (quote ∷ rest))) f e))
hex-inside (suc count) quote [] rest f q e = let n : hex_digits_at (suc count) (quote ∷ rest) ≡ None = rw q refl in absurd (cc)
hex-inside (suc count) quote (code ∷ more) rest f q e = hex-inside-by count quote code more rest f (is_hex_digit code) (hex_digits_at count (more ++ (quote ∷ rest))) (λ g h. hex-inside count quote more rest g q h) e

no-digits : (count letter quote : ℕ) (make : List ℕ → Character) (more rest : List ℕ) (o : Option (Found (List ℕ))) → hex_digits_at count (more ++ (quote ∷ rest)) ≡ o → is_hex_digit quote ≡ false → 0 < count
    → ((digits : List ℕ) → character_spelling (make digits) ≡ 92 ∷ letter ∷ digits) → ((digits : List ℕ) → length digits ≡ count → list_all is_hex_digit digits ≡ true → IsCharacter quote (make digits))
    → IsLongestCharacter quote (Itself letter) more → o ≡ None
no-digits count letter quote make more rest None e q p s k h = refl
no-digits count letter quote make more rest (Some f) e q p s k h =
    let x = hex-inside count quote more rest f q e in
    let d = hex_digits_at-is count (more ++ (quote ∷ rest)) f e in
    let same : character_spelling (make f.it) ++ x.0 ≡ 92 ∷ letter ∷ more = ap (λ z. z ++ x.0) (s f.it) ∙ ap (λ z. 92 ∷ letter ∷ z) (sym x.1) in
    absurd (omega (arith, h.longest (make f.it) x.0 same (k f.it d.long d.made_of), ap length (s f.it), d.long))

itself-ends : (quote code : ℕ) (more rest : List ℕ) → is_hex_digit quote ≡ false → (t u : Bool) → (code == 120) ≡ t → (code == 117) ≡ u → IsLongestCharacter quote (Itself code) more → FoundExactly quote (Itself code) (more ++ (quote ∷ rest))
itself-ends quote code more rest q true u x y h =
    let e : code ≡ 120 = eqb-true code 120 x in
    let behind = more ++ (quote ∷ rest) in
    let none : hex_digits_at 2 behind ≡ None = no-digits 2 120 quote ByteEscape more rest (hex_digits_at 2 behind) refl q (omega arith) (λ d. refl) (λ d l m. (l, m)) (subst (λ c. IsLongestCharacter quote (Itself c) more) e h) in
    subst (λ c. FoundExactly quote (Itself c) behind) (sym e) (hex-at quote behind ∙ ap (λ f. Some f) (hex_escape-none 2 120 ByteEscape behind none))
itself-ends quote code more rest q false true x y h =
    let e : code ≡ 117 = eqb-true code 117 y in
    let behind = more ++ (quote ∷ rest) in
    let none : hex_digits_at 4 behind ≡ None = no-digits 4 117 quote CodeEscape more rest (hex_digits_at 4 behind) refl q (omega arith) (λ d. refl) (λ d l m. (l, m)) (subst (λ c. IsLongestCharacter quote (Itself c) more) e h) in
    subst (λ c. FoundExactly quote (Itself c) behind) (sym e) (unicode-at quote behind ∙ ap (λ f. Some f) (hex_escape-none 4 117 CodeEscape behind none))
itself-ends quote code more rest q false false x y h = itself-exact quote code (more ++ (quote ∷ rest)) h.stands x y

longest-found : (quote : ℕ) (it : Character) (more rest : List ℕ) → is_quote quote ≡ true → IsLongestCharacter quote it more → FoundExactly quote it (more ++ (quote ∷ rest))
longest-found quote (Plain code) more rest q h = plain-exact quote code (more ++ (quote ∷ rest)) h.stands
longest-found quote (Control letter) more rest q h = control-exact quote letter (more ++ (quote ∷ rest)) h.stands
longest-found quote (OctalEscape digits) more rest q h = octal-ends quote digits more rest (quote-codes quote q).0 (octal-form quote digits h.stands) h
longest-found quote (ByteEscape digits) more rest q h = byte-exact quote digits (more ++ (quote ∷ rest)) h.stands
longest-found quote (CodeEscape digits) more rest q h = code-exact quote digits (more ++ (quote ∷ rest)) h.stands
longest-found quote (Itself code) more rest q h = itself-ends quote code more rest (quote-codes quote q).1 (code == 120) (code == 117) refl refl h

-- a character doesn't begin with the quote
pub record Begins (quote : ℕ) (spelled : List ℕ) : Type 0 where
  pub first : ℕ
  pub more : List ℕ
  pub is_it : spelled ≡ first ∷ more
  pub other : (first == quote) ≡ false

escape-begins : (quote : ℕ) (more : List ℕ) → is_quote quote ≡ true → Begins quote (92 ∷ more)
escape-begins quote more q = record { first = 92; more = more; is_it = refl; other = (quote-codes quote q).2 }

begins : (quote : ℕ) (it : Character) → is_quote quote ≡ true → IsCharacter quote it → Begins quote (character_spelling it)
begins quote (Plain code) q h = record { first = code; more = []; is_it = refl; other = ne_eqb code quote h.0 }
begins quote (Control letter) q h = escape-begins quote (letter ∷ []) q
begins quote (OctalEscape digits) q h = escape-begins quote digits q
begins quote (ByteEscape digits) q h = escape-begins quote (120 ∷ digits) q
begins quote (CodeEscape digits) q h = escape-begins quote (117 ∷ digits) q
begins quote (Itself code) q h = escape-begins quote (code ∷ []) q

-- The inside of a literal

step-at : (quote : ℕ) (codes : List ℕ) (f : Found Character) (b : Begins quote codes) → character_at quote codes ≡ Some f → characters_at quote codes ≡ option_map (changed (λ characters. f.it ∷ characters)) (characters_at quote f.rest)
step-at quote codes f b e = ap (characters_at quote) b.is_it ∙ characters-step quote b.first b.more f b.other (ap (character_at quote) (sym b.is_it) ∙ e)

begins-more : (quote : ℕ) (spelled more : List ℕ) → Begins quote spelled → Begins quote (spelled ++ more)
begins-more quote spelled more b = record { first = b.first; more = b.more ++ more; is_it = ap (λ z. z ++ more) b.is_it; other = b.other }

pub inside-found : (quote : ℕ) (characters : List Character) (rest : List ℕ) → is_quote quote ≡ true → AreCharacters quote characters → characters_at quote (inside_spelling characters ++ (quote ∷ rest)) ≡ Some (found characters rest)
inside-found quote [] rest q h = characters-end quote quote rest (eq-eqb quote quote refl)
inside-found quote (it ∷ characters) rest q (h, more) =
    let spelled = character_spelling it in
    let behind = inside_spelling characters ++ (quote ∷ rest) in
    let same : (spelled ++ inside_spelling characters) ++ (quote ∷ rest) ≡ spelled ++ behind = append_assoc spelled (inside_spelling characters) (quote ∷ rest) in
    ap (characters_at quote) same
    ∙ (step-at quote (spelled ++ behind) (found it behind) (begins-more quote spelled behind (begins quote it q h.stands)) (longest-found quote it (inside_spelling characters) rest q h)
    ∙ ap (option_map (changed (λ c. it ∷ c))) (inside-found quote characters rest q more))

-- and what is found stands there

pub record IsInside (quote : ℕ) (codes : List ℕ) (f : Found (List Character)) : Type 0 where
  pub spelled : codes ≡ inside_spelling f.it ++ (quote ∷ f.rest)
  pub characters : AreCharacters quote f.it

longest-of : (quote : ℕ) (codes : List ℕ) (f : Found Character) (inside rest : List ℕ) → character_at quote codes ≡ Some f → f.rest ≡ inside ++ (quote ∷ rest) → IsLongestCharacter quote f.it inside
longest-of quote codes f inside rest e s = record {
  stands = character_at-good quote codes f e;
  longest = λ other more same h.
      let b = finds-character quote other (more ++ (quote ∷ rest)) h in
      let whole : character_spelling other ++ (more ++ (quote ∷ rest)) ≡ codes =
      sym (append_assoc (character_spelling other) more (quote ∷ rest)) ∙ (ap (λ z. z ++ (quote ∷ rest)) same ∙ (append_assoc (character_spelling f.it) inside (quote ∷ rest) ∙ (ap (λ z. character_spelling f.it ++ z) (sym s) ∙ sym (character_at-is quote codes f e)))) in
      let one : b.finds ≡ f = some-same b.finds f (sym b.at_front ∙ (ap (character_at quote) whole ∙ e)) in
      subst (λ (g : Found Character). length (character_spelling other) ≤ length (character_spelling g.it)) one b.long;
}

inside-is-by : (most quote code : ℕ) (codes : List ℕ) (f : Found (List Character)) (t : Bool) (o : Option (Found Character)) → (code == quote) ≡ t → character_at quote (code ∷ codes) ≡ o
    → ((g : Found Character) (i : Found (List Character)) → inside_at most quote g.rest ≡ Some i → IsInside quote g.rest i)
    → cond t (Some (found {A = List Character} [] codes)) (elim o [ Some f ↦ option_map (changed (λ characters. f.it ∷ characters)) (inside_at most quote f.rest) | None ↦ None ]) ≡ Some f
    → IsInside quote (code ∷ codes) f
inside-is-by most quote code codes f true o q p k e = subst (IsInside quote (code ∷ codes)) (some-same (found [] codes) f e) (record { spelled = ap (λ c. c ∷ codes) (eqb-true code quote q); characters = tt })
inside-is-by most quote code codes f false None q p k e = absurd (cc e)
inside-is-by most quote code codes f false (Some g) q p k e =
    mapped (changed (λ characters. g.it ∷ characters)) (inside_at most quote g.rest) f e (λ i ie is.
    let h = k g i ie in
    subst (IsInside quote (code ∷ codes)) is (record {
      spelled = character_at-is quote (code ∷ codes) g p ∙ (ap (λ z. character_spelling g.it ++ z) h.spelled ∙ sym (append_assoc (character_spelling g.it) (inside_spelling i.it) (quote ∷ i.rest)));
      characters = (longest-of quote (code ∷ codes) g (inside_spelling i.it) i.rest p h.spelled, h.characters);
    }))

inside-is : (most quote : ℕ) (codes : List ℕ) (f : Found (List Character)) → inside_at most quote codes ≡ Some f → IsInside quote codes f
unfolding inside_at
inside-is zero quote codes f e = absurd (cc e)
inside-is (suc most) quote [] f e = absurd (cc e)
inside-is (suc most) quote (code ∷ codes) f e = inside-is-by most quote code codes f (code == quote) (character_at quote (code ∷ codes)) refl refl (λ g i h. inside-is most quote g.rest i h) e

pub characters-are : (quote : ℕ) (codes : List ℕ) (f : Found (List Character)) → characters_at quote codes ≡ Some f → IsInside quote codes f
unfolding characters_at
characters-are quote codes f e = inside-is (suc (length codes)) quote codes f e
