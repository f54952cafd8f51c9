-- Text literals character by character.
use Rattle.std.proofs.Common.{◌≡◌, ℕ, zero, suc, ◌<◌, Bool, true, false, cond, List, [], ◌∷◌, ◌++◌, length, Option, Some, None, refl, sym, ◌∙◌, ap, subst, arith, append_assoc, append-nil}
use Rattle.std.specs.Prelude.{◌==◌, ◌||◌, map, nat_le, option_map}
use Rattle.std.proofs.lemmas.Bool.{eqb-true, eq-eqb, ne_eqb}
use Rattle.std.proofs.lemmas.List.{length-append}
use Rattle.es_lexer.specs.Codes.{is_line_terminator, is_octal_digit}
use Rattle.es_lexer.specs.Literals.{Character, character_spelling, code_meant, control_of}
use Rattle.es_lexer.specs.Literals.Character.{Plain, Control, OctalEscape, ByteEscape, CodeEscape, Itself}
use Rattle.es_lexer.specs.Scanning.{Found, found, changed}
use Rattle.es_lexer.specs.ScannedLiterals.{hex_digits_at, hex_escape_at, third_digit_at, second_digit_at, escape_at, character_at, inside_at, characters_at}
use Rattle.es_lexer.proofs.CodeLemmas.{some-same, mapped, none-map}
use Rattle.es_lexer.proofs.DigitLemmas.{hex_digits_at-is}

-- What a character leaves

-- these codes are the character and what it leaves
abbrev pub IsFront : List ℕ → Found Character → Type 0
IsFront codes f = codes ≡ character_spelling f.it ++ f.rest

hex_escape_at-is-by : (count letter : ℕ) (make : List ℕ → Character) (codes : List ℕ) (o : Option (Found (List ℕ))) → hex_digits_at count codes ≡ o → ((digits : List ℕ) → character_spelling (make digits) ≡ 92 ∷ letter ∷ digits) → IsFront (92 ∷ letter ∷ codes) (elim o [ Some f ↦ changed make f | None ↦ found (Itself letter) codes ])
hex_escape_at-is-by count letter make codes None e s = refl
hex_escape_at-is-by count letter make codes (Some f) e s = ap (λ z. 92 ∷ letter ∷ z) (hex_digits_at-is count codes f e).is_it ∙ ap (λ z. z ++ f.rest) (sym (s f.it))

hex_escape_at-is : (count letter : ℕ) (make : List ℕ → Character) (codes : List ℕ) → ((digits : List ℕ) → character_spelling (make digits) ≡ 92 ∷ letter ∷ digits) → IsFront (92 ∷ letter ∷ codes) (hex_escape_at count letter make codes)
unfolding hex_escape_at
hex_escape_at-is count letter make codes s = hex_escape_at-is-by count letter make codes (hex_digits_at count codes) refl s

third-is : (first second : ℕ) (codes : List ℕ) → IsFront (92 ∷ first ∷ second ∷ codes) (third_digit_at first second codes)
unfolding third_digit_at
third-is first second [] = refl
third-is first second (third ∷ codes) = by (is_octal_digit third)
  where
    by : (t : Bool) → IsFront (92 ∷ first ∷ second ∷ third ∷ codes) (cond t (found (OctalEscape (first ∷ second ∷ third ∷ [])) codes) (found (OctalEscape (first ∷ second ∷ [])) (third ∷ codes)))
    by true = refl
    by false = refl

second-is : (first : ℕ) (codes : List ℕ) → IsFront (92 ∷ first ∷ codes) (second_digit_at first codes)
unfolding second_digit_at
second-is first [] = refl
second-is first (second ∷ codes) = by (is_octal_digit second) (nat_le first 51)
  where
    by : (t u : Bool) → IsFront (92 ∷ first ∷ second ∷ codes) (cond t (cond u (third_digit_at first second codes) (found (OctalEscape (first ∷ second ∷ [])) codes)) (found (OctalEscape (first ∷ [])) (second ∷ codes)))
    by false u = refl
    by true false = refl
    by true true = third-is first second codes

self-is : (code : ℕ) (codes : List ℕ) (o : Option ℕ) → IsFront (92 ∷ code ∷ codes) (found (elim o [ Some meant ↦ Control code | None ↦ Itself code ]) codes)
self-is code codes None = refl
self-is code codes (Some meant) = refl

escape_at-is-by : (code : ℕ) (codes : List ℕ) (f : Found Character) (t u v w : Bool) → (code == 120) ≡ v → (code == 117) ≡ w →
    cond t None (cond u (Some (second_digit_at code codes)) (cond v (Some (hex_escape_at 2 120 ByteEscape codes)) (cond w (Some (hex_escape_at 4 117 CodeEscape codes)) (Some (found (elim (control_of code) [ Some meant ↦ Control code | None ↦ Itself code ]) codes))))) ≡ Some f
    → IsFront (92 ∷ code ∷ codes) f
escape_at-is-by code codes f true u v w p q e = absurd (cc e)
escape_at-is-by code codes f false true v w p q e = subst (IsFront (92 ∷ code ∷ codes)) (some-same (second_digit_at code codes) f e) (second-is code codes)
escape_at-is-by code codes f false false true w p q e = subst (λ c. IsFront (92 ∷ c ∷ codes) f) (sym (eqb-true code 120 p)) (subst (IsFront (92 ∷ 120 ∷ codes)) (some-same (hex_escape_at 2 120 ByteEscape codes) f e) (hex_escape_at-is 2 120 ByteEscape codes (λ digits. refl)))
escape_at-is-by code codes f false false false true p q e = subst (λ c. IsFront (92 ∷ c ∷ codes) f) (sym (eqb-true code 117 q)) (subst (IsFront (92 ∷ 117 ∷ codes)) (some-same (hex_escape_at 4 117 CodeEscape codes) f e) (hex_escape_at-is 4 117 CodeEscape codes (λ digits. refl)))
escape_at-is-by code codes f false false false false p q e = subst (IsFront (92 ∷ code ∷ codes)) (some-same (found (elim (control_of code) [ Some meant ↦ Control code | None ↦ Itself code ]) codes) f e) (self-is code codes (control_of code))

escape_at-is : (codes : List ℕ) (f : Found Character) → escape_at codes ≡ Some f → IsFront (92 ∷ codes) f
unfolding escape_at
escape_at-is [] f e = absurd (cc e)
escape_at-is (code ∷ codes) f e = escape_at-is-by code codes f (is_line_terminator code) (is_octal_digit code) (code == 120) (code == 117) refl refl e

character_at-is-by : (quote code : ℕ) (codes : List ℕ) (f : Found Character) (t u : Bool) → (code == 92) ≡ t → cond t (escape_at codes) (cond u None (Some (found (Plain code) codes))) ≡ Some f → IsFront (code ∷ codes) f
character_at-is-by quote code codes f true u p e = subst (λ c. IsFront (c ∷ codes) f) (sym (eqb-true code 92 p)) (escape_at-is codes f e)
character_at-is-by quote code codes f false true p e = absurd (cc e)
character_at-is-by quote code codes f false false p e = subst (IsFront (code ∷ codes)) (some-same (found (Plain code) codes) f e) refl

pub character_at-is : (quote : ℕ) (codes : List ℕ) (f : Found Character) → character_at quote codes ≡ Some f → IsFront codes f
unfolding character_at
character_at-is quote [] f e = absurd (cc e)
character_at-is quote (code ∷ codes) f e = character_at-is-by quote code codes f (code == 92) ((code == quote) || is_line_terminator code) refl e

character-long : (it : Character) → 0 < length (character_spelling it)
character-long (Plain code) = omega arith
character-long (Control letter) = omega arith
character-long (OctalEscape digits) = omega arith
character-long (ByteEscape digits) = omega arith
character-long (CodeEscape digits) = omega arith
character-long (Itself code) = omega arith

pub character_at-shorter : (quote : ℕ) (codes : List ℕ) (f : Found Character) → character_at quote codes ≡ Some f → length f.rest < length codes
character_at-shorter quote codes f e = omega (arith, character-long f.it, ap length (character_at-is quote codes f e), length-append (character_spelling f.it) f.rest)

-- The characters of a literal don't depend on how many there may be

inside-more-by : (quote code : ℕ) (codes : List ℕ) (m n : ℕ) (t : Bool) (o : Option (Found Character)) → character_at quote (code ∷ codes) ≡ o
    → ((f : Found Character) → o ≡ Some f → inside_at m quote f.rest ≡ inside_at n quote f.rest)
    → cond t (Some (found {A = List Character} [] codes)) (elim o [ Some f ↦ option_map (changed (λ characters. f.it ∷ characters)) (inside_at m quote f.rest) | None ↦ None ])
    ≡ cond t (Some (found {A = List Character} [] codes)) (elim o [ Some f ↦ option_map (changed (λ characters. f.it ∷ characters)) (inside_at n quote f.rest) | None ↦ None ])
inside-more-by quote code codes m n true o e k = refl
inside-more-by quote code codes m n false None e k = refl
inside-more-by quote code codes m n false (Some f) e k = ap (option_map (changed (λ characters. f.it ∷ characters))) (k f refl)

pub inside-more : (m n : ℕ) (quote : ℕ) (codes : List ℕ) → length codes < m → length codes < n → inside_at m quote codes ≡ inside_at n quote codes
unfolding inside_at
inside-more zero n quote codes p q = absurd (omega (arith, p))
inside-more (suc m) zero quote codes p q = absurd (omega (arith, q))
inside-more (suc m) (suc n) quote [] p q = refl
inside-more (suc m) (suc n) quote (code ∷ codes) p q = inside-more-by quote code codes m n (code == quote) (character_at quote (code ∷ codes)) refl
    (λ f e. let s : length f.rest < length (code ∷ codes) = character_at-shorter quote (code ∷ codes) f e in inside-more m n quote f.rest (omega arith) (omega arith))

-- Steps of a walk through a literal

pub characters-none : (quote : ℕ) → characters_at quote [] ≡ None
unfolding characters_at inside_at
characters-none quote = refl

pub characters-end : (quote code : ℕ) (codes : List ℕ) → (code == quote) ≡ true → characters_at quote (code ∷ codes) ≡ Some (found [] codes)
unfolding characters_at inside_at
characters-end quote code codes e = rw e refl

pub characters-bad : (quote code : ℕ) (codes : List ℕ) → (code == quote) ≡ false → character_at quote (code ∷ codes) ≡ None → characters_at quote (code ∷ codes) ≡ None
unfolding characters_at inside_at
characters-bad quote code codes e n = rw (e, n) refl

pub characters-step : (quote code : ℕ) (codes : List ℕ) (f : Found Character) → (code == quote) ≡ false → character_at quote (code ∷ codes) ≡ Some f → characters_at quote (code ∷ codes) ≡ option_map (changed (λ characters. f.it ∷ characters)) (characters_at quote f.rest)
unfolding characters_at inside_at
characters-step quote code codes f e s =
    let less : length f.rest < length (code ∷ codes) = character_at-shorter quote (code ∷ codes) f s in
    rw (e, s) (ap (option_map (changed (λ characters. f.it ∷ characters))) (inside-more (suc (length codes)) (suc (length f.rest)) quote f.rest (omega arith) (omega arith)))

-- the text that some codes and then these characters mean
abbrev pub meant_behind : List ℕ → Option (Found (List Character)) → Option (Found (List ℕ))
meant_behind meant o = option_map (changed (λ characters. meant ++ map code_meant characters)) o

pub meant-step : (meant : List ℕ) (it : Character) (o : Option (Found (List Character))) → meant_behind meant (option_map (changed (λ characters. it ∷ characters)) o) ≡ meant_behind (meant ++ code_meant it ∷ []) o
meant-step meant it None = refl
meant-step meant it (Some f) = ap (λ z. Some (found z f.rest)) (sym (append_assoc meant (code_meant it ∷ []) (map code_meant f.it)))

pub meant-end : (meant rest : List ℕ) → meant_behind meant (Some (found [] rest)) ≡ Some (found meant rest)
meant-end meant rest = ap (λ z. Some (found z rest)) (append-nil meant)

-- The walk, as the code sees it

pub walk-none : (quote : ℕ) (rest meant : List ℕ) (all : Option (Found (List ℕ))) → rest ≡ [] → all ≡ meant_behind meant (characters_at quote rest) → None ≡ all
walk-none quote rest meant all e h = sym (h ∙ ap (λ z. meant_behind meant (characters_at quote z)) e ∙ ap (meant_behind meant) (characters-none quote))

pub walk-end : (quote code : ℕ) (rest behind meant text : List ℕ) (all : Option (Found (List ℕ))) → rest ≡ code ∷ behind → code ≡ quote → text ≡ meant → all ≡ meant_behind meant (characters_at quote rest) → Some (found text behind) ≡ all
walk-end quote code rest behind meant text all e q t h =
    let end : characters_at quote rest ≡ Some (found [] behind) = ap (characters_at quote) e ∙ characters-end quote code behind (eq-eqb code quote q) in
    ap (λ z. Some (found z behind)) t ∙ sym (h ∙ (ap (meant_behind meant) end ∙ meant-end meant behind))

pub walk-bad : (quote code : ℕ) (rest tail meant : List ℕ) (all : Option (Found (List ℕ))) → rest ≡ code ∷ tail → (code ≡ quote → ⊥) → None ≡ option_map (changed code_meant) (character_at quote rest) → all ≡ meant_behind meant (characters_at quote rest) → None ≡ all
walk-bad quote code rest tail meant all e n c h =
    let none : character_at quote rest ≡ None = none-map (changed code_meant) (character_at quote rest) (sym c) in
    let bad : characters_at quote rest ≡ None = ap (characters_at quote) e ∙ characters-bad quote code tail (ne_eqb code quote n) (ap (character_at quote) (sym e) ∙ none) in
    sym (h ∙ ap (meant_behind meant) bad)

pub walk-smaller : (quote meant : ℕ) (rest behind : List ℕ) → Some (found meant behind) ≡ option_map (changed code_meant) (character_at quote rest) → length behind < length rest
walk-smaller quote meant rest behind c =
    mapped (changed code_meant) (character_at quote rest) (found meant behind) (sym c) (λ f e s.
    let less : length f.rest < length rest = character_at-shorter quote rest f e in
    let same : f.rest ≡ behind = ap (λ (z : Found ℕ). z.rest) s in
    omega (arith, ap length same))

pub walk-step : (quote code one : ℕ) (rest tail behind meant more : List ℕ) (all : Option (Found (List ℕ))) → rest ≡ code ∷ tail → (code ≡ quote → ⊥) → Some (found one behind) ≡ option_map (changed code_meant) (character_at quote rest) → more ≡ meant ++ one ∷ [] → all ≡ meant_behind meant (characters_at quote rest) → all ≡ meant_behind more (characters_at quote behind)
walk-step quote code one rest tail behind meant more all e n c m h =
    mapped (changed code_meant) (character_at quote rest) (found one behind) (sym c) (λ f fe fs.
    let same : f.rest ≡ behind = ap (λ (z : Found ℕ). z.rest) fs in
    let meaning : code_meant f.it ≡ one = ap (λ (z : Found ℕ). z.it) fs in
    let step : characters_at quote rest ≡ option_map (changed (λ characters. f.it ∷ characters)) (characters_at quote f.rest) = ap (characters_at quote) e ∙ characters-step quote code tail f (ne_eqb code quote n) (ap (character_at quote) (sym e) ∙ fe) in
    h ∙ (ap (meant_behind meant) step
    ∙ (meant-step meant f.it (characters_at quote f.rest)
    ∙ (ap (λ z. meant_behind (meant ++ z ∷ []) (characters_at quote f.rest)) meaning
    ∙ (ap (λ z. meant_behind z (characters_at quote f.rest)) (sym m)
    ∙ ap (λ z. meant_behind more (characters_at quote z)) same)))))
