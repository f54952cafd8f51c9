-- Input elements are found where they stand, and what is found stands there.
use Rattle.std.proofs.Common.{◌≡◌, ◌≢◌, ℕ, ◌<◌, ◌≤◌, Bool, true, false, cond, List, [], ◌∷◌, ◌++◌, length, Option, Some, None, refl, sym, ◌∙◌, ap, subst, arith, append_assoc}
use Rattle.std.specs.Prelude.{◌==◌, ◌||◌, ◌&&◌, not, nat_le, nat_lt, option_map, codes as ascii}
use Rattle.std.specs.List.{list_all, list_any}
use Rattle.std.proofs.lemmas.Bool.{eqb-true, ne_eqb, eqb-false, or_parts, or_from, leb-true, le-leb, ltb-true, not-true}
use Rattle.std.proofs.lemmas.Bool.Decides.{nat_tests}
use Rattle.std.proofs.lemmas.List.{length-append}
use Rattle.es_lexer.specs.Codes.{is_white, is_line_terminator, is_letter, is_decimal_digit, is_octal_digit, is_hex_digit, is_identifier_start, is_identifier_part, is_identifier, is_quote}
use Rattle.es_lexer.specs.Spellings.{word_spelling, mark_spelling}
use Rattle.es_lexer.specs.Numbers.{Base, base_mark, is_digit_in, MayFollowMark, number_written, most_number, IsNumber}
use Rattle.es_lexer.specs.Numbers.Base.{Decimal, Octal, Hexadecimal}
use Rattle.es_lexer.specs.Literals.{Character, inside_spelling, IsLiteral}
use Rattle.es_lexer.specs.Elements.{InputElement, spelling, EndsAtFirst, IsElement, EndsNumber, Stands, IsLongest}
use Rattle.es_lexer.specs.Elements.InputElement.{WhiteSpace, LineTerminator, LineComment, BlockComment, Identifier, Reserved, Punctuation, Numeral, Literal}
use Rattle.es_lexer.specs.Scanning.{Found, found, changed, front, behind, stripped, up_to}
use Rattle.es_lexer.specs.Munching.{grown, longer, mark_at}
use Rattle.es_lexer.specs.ScannedNumbers.{Digits, ends_number, wants_digits, is_whole, digits_at, number_at}
use Rattle.es_lexer.specs.ScannedLiterals.{characters_at}
use Rattle.es_lexer.specs.ScannedElements.{word_of, named, name_at, is_in_line, punctuation_at, slash_at, numeral_at, literal_at, element_at}
use Rattle.es_lexer.specs.declared.words.ReservedWord.{ReservedWord}
use Rattle.es_lexer.specs.declared.words.ReservedWord.TheVariants.{Break, Case, Catch, Class, Const, Continue, Debugger, Default, Delete, Do, Else, Enum, Export, Extends, False, Finally, For, Function, If, Import, In, New, Null, Return, Super, Switch, This, Throw, True, Try, Typeof, Var, Void, While, With}
use Rattle.es_lexer.specs.declared.punctuators.Punctuator.{Punctuator}
use Rattle.es_lexer.specs.declared.punctuators.Punctuator.TheVariants.{OpenBrace, CloseBrace, OpenParenthesis, CloseParenthesis, OpenBracket, CloseBracket, Semicolon, Comma, Dot, Question, Colon, Complement, Not, Increment, Decrement, Assign, TimesAssign, DivideAssign, RemainderAssign, PlusAssign, MinusAssign, ShiftLeftAssign, ShiftRightAssign, UnsignedShiftRightAssign, AndAssign, XorAssign, OrAssign, LogicalOr, LogicalAnd, BitOr, BitXor, BitAnd, Equal, NotEqual, StrictEqual, StrictNotEqual, Less, Greater, LessOrEqual, GreaterOrEqual, ShiftLeft, ShiftRight, UnsignedShiftRight, Plus, Minus, Times, Divide, Remainder}
use Rattle.es_lexer.proofs.CodeLemmas.{both, both-back, some-same, mapped, passed, NoMarkIn, Ends, front-cons, front-run, behind-run, front-behind, front-all, stripped-append, stripped-is, up_to-first, up_to-is}
use Rattle.es_lexer.proofs.WordLemmas.{word_of-word, word_of-is, word_of-none}
use Rattle.es_lexer.proofs.MarkLemmas.{mark_at-is, mark_at-mark, mark_at-spelling, longer-is}
use Rattle.es_lexer.proofs.CharacterLemmas.{inside-found, characters-are}

-- Lists

pub same-front : (a b x y : List ℕ) → a ++ x ≡ b ++ y → length a ≡ length b → (a ≡ b) × (x ≡ y)
same-front [] [] x y e l = (refl, e)
same-front [] (d ∷ b) x y e l = absurd (omega (arith, l))
same-front (c ∷ a) [] x y e l = absurd (omega (arith, l))
same-front (c ∷ a) (d ∷ b) x y e l =
    let t : a ++ x ≡ b ++ y = cc in
    let h = same-front a b x y t (omega (arith, l)) in
    let first : c ≡ d = cc in
    (rw (first, h.0) refl, h.1)

front-more : (test : ℕ → Bool) (run x : List ℕ) → list_all test run ≡ true → front test (run ++ x) ≡ run ++ front test x
front-more test [] x h = refl
front-more test (r ∷ run) x h =
    let b = both (test r) (list_all test run) h in
    front-cons test r (run ++ x) b.0 ∙ ap (λ z. r ∷ z) (front-more test run x b.1)

-- Comments

ends-no-mark : (mark inside : List ℕ) → 0 < length mark → EndsAtFirst mark inside → NoMarkIn mark inside
ends-no-mark mark [] p h = tt
ends-no-mark mark (code ∷ codes) p h = (by (stripped mark (code ∷ (codes ++ mark))) refl, ends-no-mark mark codes p (λ b r e. h (code ∷ b) r (ap (λ z. code ∷ z) e)))
  where
    by : (o : Option (List ℕ)) → stripped mark (code ∷ (codes ++ mark)) ≡ o → o ≡ None
    by None e = refl
    by (Some r) e =
        let s : code ∷ (codes ++ mark) ≡ mark ++ r = stripped-is mark (code ∷ (codes ++ mark)) r e in
        let n : r ≡ [] = h [] r s in
        absurd (omega (arith, ap length s, ap length n, length-append codes mark, length-append mark r))

no-mark-ends : (mark inside : List ℕ) → NoMarkIn mark inside → EndsAtFirst mark inside
no-mark-ends mark [] h before more e = nothing more (omega (arith, ap length e, length-append before (mark ++ more), length-append mark more))
  where
    nothing : (l : List ℕ) → length l ≡ 0 → l ≡ []
    nothing [] q = refl
    nothing (c ∷ l) q = absurd (omega (arith, q))
no-mark-ends mark (code ∷ codes) h [] more e =
    let some : stripped mark (code ∷ (codes ++ mark)) ≡ Some more = ap (stripped mark) e ∙ stripped-append mark more in
    absurd (cc (h.0))
no-mark-ends mark (code ∷ codes) h (b ∷ before) more e =
    let t : codes ++ mark ≡ before ++ (mark ++ more) = cc in
    no-mark-ends mark codes h.1 before more t

in-line : (inside : List ℕ) → list_any is_line_terminator inside ≡ false → list_all is_in_line inside ≡ true
unfolding is_in_line
in-line [] h = refl
in-line (c ∷ inside) h =
    let x = or_parts (is_line_terminator c) (list_any is_line_terminator inside) h in
    both-back (not (is_line_terminator c)) (list_all is_in_line inside) (rw x.0 refl) (in-line inside x.1)

line-in : (inside : List ℕ) → list_all is_in_line inside ≡ true → list_any is_line_terminator inside ≡ false
unfolding is_in_line
line-in [] h = refl
line-in (c ∷ inside) h =
    let x = both (not (is_line_terminator c)) (list_all is_in_line inside) h in
    or_from (is_line_terminator c) (list_any is_line_terminator inside) (not-true (is_line_terminator c) x.0) (line-in inside x.1)

-- Names

pub named-spelling : (name : List ℕ) → spelling (named name) ≡ name
unfolding named
named-spelling name = by (word_of name) refl
  where
    by : (o : Option ReservedWord) → word_of name ≡ o → let e : InputElement = elim o [ Some word ↦ Reserved word | None ↦ Identifier name ] in spelling e ≡ name
    by None e = refl
    by (Some word) e = sym (word_of-is name word e)

named-stands : (name rest : List ℕ) → is_identifier name ≡ true → Stands (named name) rest
unfolding named
named-stands name rest h = by (word_of name) refl
  where
    by : (o : Option ReservedWord) → word_of name ≡ o → let e : InputElement = elim o [ Some word ↦ Reserved word | None ↦ Identifier name ] in Stands e rest
    by None e = ((h, word_of-none name e), tt)
    by (Some word) e = (tt, tt)

named-word : (word : ReservedWord) → named (word_spelling word) ≡ Reserved word
unfolding named
named-word word = rw (word_of-word word, named) refl

named-name : (name : List ℕ) → ((word : ReservedWord) → name ≢ word_spelling word) → named name ≡ Identifier name
unfolding named
named-name name h = by (word_of name) refl
  where
    by : (o : Option ReservedWord) → word_of name ≡ o → let e : InputElement = elim o [ Some word ↦ Reserved word | None ↦ Identifier name ] in e ≡ Identifier name
    by None e = refl
    by (Some word) e = absurd (h word (word_of-is name word e))

word-identifier : (word : ReservedWord) → is_identifier (word_spelling word) ≡ true
unfolding is_identifier_start is_identifier_part is_letter is_decimal_digit
word-identifier Break = refl
word-identifier Case = refl
word-identifier Catch = refl
word-identifier Class = refl
word-identifier Const = refl
word-identifier Continue = refl
word-identifier Debugger = refl
word-identifier Default = refl
word-identifier Delete = refl
word-identifier Do = refl
word-identifier Else = refl
word-identifier Enum = refl
word-identifier Export = refl
word-identifier Extends = refl
word-identifier False = refl
word-identifier Finally = refl
word-identifier For = refl
word-identifier Function = refl
word-identifier If = refl
word-identifier Import = refl
word-identifier In = refl
word-identifier New = refl
word-identifier Null = refl
word-identifier Return = refl
word-identifier Super = refl
word-identifier Switch = refl
word-identifier This = refl
word-identifier Throw = refl
word-identifier True = refl
word-identifier Try = refl
word-identifier Typeof = refl
word-identifier Var = refl
word-identifier Void = refl
word-identifier While = refl
word-identifier With = refl

start-part : (c : ℕ) → is_identifier_start c ≡ true → is_identifier_part c ≡ true
unfolding is_identifier_part
start-part c e = rw e refl

front-identifier : (c : ℕ) (l : List ℕ) → is_identifier_start c ≡ true → is_identifier (front is_identifier_part (c ∷ l)) ≡ true
front-identifier c l e = ap is_identifier (front-cons is_identifier_part c l (start-part c e)) ∙ both-back (is_identifier_start c) (list_all is_identifier_part (front is_identifier_part l)) e (front-all is_identifier_part l)

identifier-parts : (name : List ℕ) → is_identifier name ≡ true → list_all is_identifier_part name ≡ true
identifier-parts [] h = absurd (cc h)
identifier-parts (c ∷ more) h =
    let x = both (is_identifier_start c) (list_all is_identifier_part more) h in
    both-back (is_identifier_part c) (list_all is_identifier_part more) (start-part c x.0) x.1

-- Classes of the first code

break-class : (c : ℕ) → is_line_terminator c ≡ true → is_white c ≡ false
unfolding is_line_terminator is_white
break-class c e = grind (arith, nat_tests)

start-class : (c : ℕ) → is_identifier_start c ≡ true → (is_white c ≡ false) × (is_line_terminator c ≡ false)
unfolding is_identifier_start is_letter is_line_terminator is_white
start-class c e = (grind (arith, nat_tests), grind (arith, nat_tests))

digit-class : (c : ℕ) → is_decimal_digit c ≡ true → (is_white c ≡ false) × (is_line_terminator c ≡ false) × (is_identifier_start c ≡ false)
unfolding is_identifier_start is_letter is_line_terminator is_white is_decimal_digit
digit-class c e = (grind (arith, nat_tests), grind (arith, nat_tests), grind (arith, nat_tests))

quote-class : (c : ℕ) → is_quote c ≡ true → (is_white c ≡ false) × (is_line_terminator c ≡ false) × (is_identifier_start c ≡ false) × (is_decimal_digit c ≡ false)
unfolding is_identifier_start is_letter is_line_terminator is_white is_decimal_digit is_quote
quote-class c e = (grind (arith, nat_tests), grind (arith, nat_tests), grind (arith, nat_tests), grind (arith, nat_tests))

pub at-white : (c : ℕ) (l : List ℕ) → is_white c ≡ true → element_at (c ∷ l) ≡ Some (found (WhiteSpace c) l)
unfolding element_at
at-white c l e = rw e refl

at-break : (c : ℕ) (l : List ℕ) → is_line_terminator c ≡ true → element_at (c ∷ l) ≡ Some (found (LineTerminator c) l)
unfolding element_at
at-break c l e = rw (break-class c e, e) refl

at-name : (c : ℕ) (l : List ℕ) → is_identifier_start c ≡ true → element_at (c ∷ l) ≡ Some (name_at (c ∷ l))
unfolding element_at
at-name c l e = let x = start-class c e in rw (x.0, x.1, e) refl

at-digit : (c : ℕ) (l : List ℕ) → is_decimal_digit c ≡ true → element_at (c ∷ l) ≡ numeral_at (c ∷ l)
unfolding element_at
at-digit c l e = let x = digit-class c e in rw (x.0, x.1, x.2, e) refl

at-quote : (c : ℕ) (l : List ℕ) → is_quote c ≡ true → element_at (c ∷ l) ≡ literal_at c l
unfolding element_at
at-quote c l e = let x = quote-class c e in rw (x.0, x.1, x.2, x.3, e) refl

at-slash : (l : List ℕ) → element_at (47 ∷ l) ≡ slash_at l
unfolding element_at is_identifier_start is_letter is_line_terminator is_white is_decimal_digit is_quote
at-slash l = refl

-- Numbers

ends-number : (rest : List ℕ) → ends_number rest ≡ true → EndsNumber rest
unfolding ends_number
ends-number [] e = tt
ends-number (c ∷ rest) e = let x = or_parts (is_identifier_part c) (c == 46) (not-true (is_identifier_part c || (c == 46)) e) in (x.0, eqb-false c 46 x.1)

number-ends : (rest : List ℕ) → EndsNumber rest → ends_number rest ≡ true
unfolding ends_number
number-ends [] h = refl
number-ends (c ∷ rest) h = ap not (or_from (is_identifier_part c) (c == 46) h.0 (ne_eqb c 46 h.1))

part-hex : (c : ℕ) → is_identifier_part c ≡ false → is_hex_digit c ≡ false
unfolding is_identifier_part is_identifier_start is_letter is_decimal_digit is_hex_digit
part-hex c e = grind (arith, nat_tests)

part-decimal : (c : ℕ) → is_identifier_part c ≡ false → is_decimal_digit c ≡ false
unfolding is_identifier_part is_identifier_start is_letter is_decimal_digit
part-decimal c e = grind (arith, nat_tests)

part-octal : (c : ℕ) → is_identifier_part c ≡ false → is_octal_digit c ≡ false
unfolding is_identifier_part is_identifier_start is_letter is_decimal_digit is_octal_digit
part-octal c e = grind (arith, nat_tests)

ends-digits : (base : Base) (rest : List ℕ) → EndsNumber rest → Ends (is_digit_in base) rest
ends-digits base [] h = tt
ends-digits Decimal (c ∷ rest) h = part-decimal c h.0
ends-digits Octal (c ∷ rest) h = part-octal c h.0
ends-digits Hexadecimal (c ∷ rest) h = part-hex c h.0

abbrev digits : Base → List ℕ → Digits
digits base run = record { base = base; digits = run }

some-digits : (l : List ℕ) → nat_lt 0 (length l) ≡ true → l ≢ []
some-digits l e n = omega (arith, ltb-true 0 (length l) e, ap length n)

digits-some : (l : List ℕ) → l ≢ [] → nat_lt 0 (length l) ≡ true
digits-some [] n = absurd (n refl)
digits-some (c ∷ l) n = grind (arith, nat_tests)

wanted : (base : Base) (run : List ℕ) → MayFollowMark base run → cond (wants_digits base) (nat_lt 0 (length run)) true ≡ true
wanted Decimal run h = refl
wanted Octal run h = refl
wanted Hexadecimal run h = digits-some run h

whole-number : (base : Base) (run rest : List ℕ) → IsNumber base run → EndsNumber rest → is_whole base run rest ≡ true
unfolding is_whole
whole-number base run rest h e =
    both-back (cond (wants_digits base) (nat_lt 0 (length run)) true) (nat_le (number_written base run) most_number && ends_number rest) (wanted base run h.begins)
    (both-back (nat_le (number_written base run) most_number) (ends_number rest) (le-leb (number_written base run) most_number h.fits) (number-ends rest e))

digits-found : (base : Base) (run rest : List ℕ) → IsNumber base run → EndsNumber rest → digits_at base (run ++ rest) ≡ Some (found (digits base run) rest)
unfolding digits_at
digits-found base run rest h e =
    let f : front (is_digit_in base) (run ++ rest) ≡ run = front-run (is_digit_in base) run rest h.made_of (ends-digits base rest e) in
    let b : behind (is_digit_in base) (run ++ rest) ≡ rest = behind-run (is_digit_in base) run rest h.made_of (ends-digits base rest e) in
    rw (f, b, whole-number base run rest h e) refl

no-x-part : (c : ℕ) → is_identifier_part c ≡ false → (c == 120) ≡ false
unfolding is_identifier_part is_identifier_start is_letter is_decimal_digit
no-x-part c e = grind (arith, nat_tests)

no-x-octal : (c : ℕ) → is_octal_digit c ≡ true → (c == 120) ≡ false
unfolding is_octal_digit
no-x-octal c e = grind (arith, nat_tests)

not-hex : (c : ℕ) (l : List ℕ) → (c == 120) ≡ false → stripped (ascii "0x") (48 ∷ c ∷ l) ≡ None
not-hex c l e = rw e refl

octal-not-hex : (run rest : List ℕ) → list_all is_octal_digit run ≡ true → EndsNumber rest → stripped (ascii "0x") (48 ∷ (run ++ rest)) ≡ None
octal-not-hex [] [] h e = refl
octal-not-hex [] (c ∷ rest) h e = not-hex c rest (no-x-part c e.0)
octal-not-hex (c ∷ run) rest h e = not-hex c (run ++ rest) (no-x-octal c (both (is_octal_digit c) (list_all is_octal_digit run) h).0)

number-of-hex : (codes rest : List ℕ) → stripped (ascii "0x") codes ≡ Some rest → number_at codes ≡ digits_at Hexadecimal rest
unfolding number_at
number-of-hex codes rest e = rw (e, number_at) refl

number-of-octal : (codes rest : List ℕ) → stripped (ascii "0x") codes ≡ None → stripped (ascii "0") codes ≡ Some rest → number_at codes ≡ digits_at Octal rest
unfolding number_at
number-of-octal codes rest e f = rw (e, f, number_at) refl

number-of-decimal : (codes : List ℕ) → stripped (ascii "0x") codes ≡ None → stripped (ascii "0") codes ≡ None → number_at codes ≡ digits_at Decimal codes
unfolding number_at
number-of-decimal codes e f = rw (e, f, number_at) refl

not-zero : (c : ℕ) (l : List ℕ) → c ≢ 48 → (stripped (ascii "0x") (c ∷ l) ≡ None) × (stripped (ascii "0") (c ∷ l) ≡ None)
not-zero c l n = (rw (ne_eqb c 48 n) refl, rw (ne_eqb c 48 n) refl)

number-found : (base : Base) (run rest : List ℕ) → IsNumber base run → EndsNumber rest → number_at ((base_mark base ++ run) ++ rest) ≡ Some (found (digits base run) rest)
number-found Hexadecimal run rest h e = number-of-hex (48 ∷ 120 ∷ (run ++ rest)) (run ++ rest) refl ∙ digits-found Hexadecimal run rest h e
number-found Octal run rest h e = number-of-octal (48 ∷ (run ++ rest)) (run ++ rest) (octal-not-hex run rest h.made_of e) refl ∙ digits-found Octal run rest h e
number-found Decimal [] rest h e = absurd h.begins
number-found Decimal (c ∷ run) rest h e =
    let x = not-zero c (run ++ rest) h.begins in
    number-of-decimal (c ∷ (run ++ rest)) x.0 x.1 ∙ digits-found Decimal (c ∷ run) rest h e

-- a number's first code is a digit
pub record BeginsWith (test : ℕ → Bool) (spelled : List ℕ) : Type 0 where
  pub first : ℕ
  pub more : List ℕ
  pub is_it : spelled ≡ first ∷ more
  pub passes : test first ≡ true

number-begins : (base : Base) (run : List ℕ) → IsNumber base run → BeginsWith is_decimal_digit (base_mark base ++ run)
unfolding is_decimal_digit
number-begins Hexadecimal run h = record { first = 48; more = 120 ∷ run; is_it = refl; passes = refl }
number-begins Octal run h = record { first = 48; more = run; is_it = refl; passes = refl }
number-begins Decimal [] h = absurd h.begins
number-begins Decimal (c ∷ run) h = record { first = c; more = run; is_it = refl; passes = (both (is_decimal_digit c) (list_all is_decimal_digit run) h.made_of).0 }

-- what a number is that was found

pub record AreDigits (base : Base) (codes : List ℕ) (f : Found Digits) : Type 0 where
  pub base_is : f.it.base ≡ base
  pub run_is : f.it.digits ≡ front (is_digit_in base) codes
  pub is_it : codes ≡ f.it.digits ++ f.rest
  pub made_of : list_all (is_digit_in base) f.it.digits ≡ true
  pub wants : cond (wants_digits base) (nat_lt 0 (length f.it.digits)) true ≡ true
  pub fits : number_written base f.it.digits ≤ most_number
  pub ends : EndsNumber f.rest

whole-parts : (base : Base) (codes run rest : List ℕ) → run ≡ front (is_digit_in base) codes → codes ≡ run ++ rest → list_all (is_digit_in base) run ≡ true → is_whole base run rest ≡ true → AreDigits base codes (found (digits base run) rest)
unfolding is_whole
whole-parts base codes run rest r s m w =
    let x = both (cond (wants_digits base) (nat_lt 0 (length run)) true) (nat_le (number_written base run) most_number && ends_number rest) w in
    let y = both (nat_le (number_written base run) most_number) (ends_number rest) x.1 in
    record { base_is = refl; run_is = r; is_it = s; made_of = m; wants = x.0; fits = leb-true (number_written base run) most_number y.0; ends = ends-number rest y.1 }

digits-are : (base : Base) (codes : List ℕ) (f : Found Digits) → digits_at base codes ≡ Some f → AreDigits base codes f
unfolding digits_at
digits-are base codes f e =
    let run = front (is_digit_in base) codes in
    let rest = behind (is_digit_in base) codes in
    passed (is_whole base run rest) (Some (found (digits base run) rest)) f e (λ w s.
    subst (AreDigits base codes) (some-same (found (digits base run) rest) f s) (whole-parts base codes run rest refl (front-behind (is_digit_in base) codes) (front-all (is_digit_in base) codes) w))

pub record IsNumeral (codes : List ℕ) (f : Found Digits) : Type 0 where
  pub is_it : codes ≡ (base_mark f.it.base ++ f.it.digits) ++ f.rest
  pub number : IsNumber f.it.base f.it.digits
  pub ends : EndsNumber f.rest

numeral-by : (base : Base) (codes rest : List ℕ) (f : Found Digits) → codes ≡ base_mark base ++ rest → AreDigits base rest f → MayFollowMark base f.it.digits → IsNumeral codes f
numeral-by base codes rest f s h m = record {
  is_it = s ∙ (ap (λ z. base_mark base ++ z) h.is_it ∙ (sym (append_assoc (base_mark base) f.it.digits f.rest) ∙ ap (λ b. (base_mark b ++ f.it.digits) ++ f.rest) (sym h.base_is)));
  number = subst (λ b. IsNumber b f.it.digits) (sym h.base_is) (record { made_of = h.made_of; begins = m; fits = h.fits });
  ends = h.ends;
}

decimal-begins : (c : ℕ) (l : List ℕ) (f : Found Digits) → is_decimal_digit c ≡ true → (c == 48) ≡ false → f.it.digits ≡ front is_decimal_digit (c ∷ l) → MayFollowMark Decimal f.it.digits
decimal-begins c l f d n r = subst (MayFollowMark Decimal) (sym (r ∙ front-cons is_decimal_digit c l d)) (eqb-false c 48 n)

zero-none : (c : ℕ) (l : List ℕ) (t : Bool) → (c == 48) ≡ t → stripped (ascii "0") (c ∷ l) ≡ None → t ≡ false
zero-none c l false q e = refl
zero-none c l true q e = let s : stripped (ascii "0") (c ∷ l) ≡ Some l = rw q refl in absurd (cc)

number-is-by : (c : ℕ) (l : List ℕ) (f : Found Digits) (o p : Option (List ℕ)) → is_decimal_digit c ≡ true → stripped (ascii "0x") (c ∷ l) ≡ o → stripped (ascii "0") (c ∷ l) ≡ p → number_at (c ∷ l) ≡ Some f → IsNumeral (c ∷ l) f
number-is-by c l f (Some rest) p d x z e =
    let h = digits-are Hexadecimal rest f (sym (number-of-hex (c ∷ l) rest x) ∙ e) in
    numeral-by Hexadecimal (c ∷ l) rest f (stripped-is (ascii "0x") (c ∷ l) rest x) h (some-digits f.it.digits h.wants)
number-is-by c l f None (Some rest) d x z e =
    let h = digits-are Octal rest f (sym (number-of-octal (c ∷ l) rest x z) ∙ e) in
    numeral-by Octal (c ∷ l) rest f (stripped-is (ascii "0") (c ∷ l) rest z) h tt
number-is-by c l f None None d x z e =
    let h = digits-are Decimal (c ∷ l) f (sym (number-of-decimal (c ∷ l) x z) ∙ e) in
    numeral-by Decimal (c ∷ l) (c ∷ l) f refl h (decimal-begins c l f d (zero-none c l (c == 48) refl z) h.run_is)

number-is : (c : ℕ) (l : List ℕ) (f : Found Digits) → is_decimal_digit c ≡ true → number_at (c ∷ l) ≡ Some f → IsNumeral (c ∷ l) f
number-is c l f d e = number-is-by c l f (stripped (ascii "0x") (c ∷ l)) (stripped (ascii "0") (c ∷ l)) d refl refl e

-- What is found stands there

pub record StandsAtFront (codes : List ℕ) (f : Found InputElement) : Type 0 where
  pub is_it : codes ≡ spelling f.it ++ f.rest
  pub stands : Stands f.it f.rest

punctuation-is : (codes : List ℕ) (f : Found InputElement) → punctuation_at codes ≡ Some f → StandsAtFront codes f
unfolding punctuation_at
punctuation-is codes f e = mapped (changed Punctuation) (mark_at codes) f e (λ g ge gs. subst (StandsAtFront codes) gs (record { is_it = mark_at-is codes g ge; stands = (tt, tt) }))

line-is : (rest : List ℕ) → StandsAtFront (47 ∷ 47 ∷ rest) (found (LineComment (front is_in_line rest)) (behind is_in_line rest))
line-is rest = record { is_it = ap (λ z. 47 ∷ 47 ∷ z) (front-behind is_in_line rest); stands = (line-in (front is_in_line rest) (front-all is_in_line rest), tt) }

block-is : (rest : List ℕ) (f : Found (List ℕ)) → up_to (ascii "*/") rest ≡ Some f → StandsAtFront (47 ∷ 42 ∷ rest) (changed BlockComment f)
block-is rest f e =
    let h = up_to-is (ascii "*/") rest f e in
    record { is_it = ap (λ z. 47 ∷ 42 ∷ z) (h.is_it ∙ sym (append_assoc f.it (ascii "*/") f.rest)); stands = (no-mark-ends (ascii "*/") f.it h.first, tt) }

slash-line : (codes rest : List ℕ) → stripped (ascii "/") codes ≡ Some rest → slash_at codes ≡ Some (found (LineComment (front is_in_line rest)) (behind is_in_line rest))
unfolding slash_at
slash-line codes rest x = rw (x, slash_at) refl

slash-block : (codes rest : List ℕ) (f : Found (List ℕ)) → stripped (ascii "/") codes ≡ None → stripped (ascii "*") codes ≡ Some rest → up_to (ascii "*/") rest ≡ Some f → slash_at codes ≡ Some (changed BlockComment f)
unfolding slash_at
slash-block codes rest f x y u = rw (x, y, u, slash_at) refl

slash-open : (codes rest : List ℕ) → stripped (ascii "/") codes ≡ None → stripped (ascii "*") codes ≡ Some rest → up_to (ascii "*/") rest ≡ None → slash_at codes ≡ punctuation_at (47 ∷ codes)
unfolding slash_at
slash-open codes rest x y u = rw (x, y, u, slash_at) refl

slash-mark : (codes : List ℕ) → stripped (ascii "/") codes ≡ None → stripped (ascii "*") codes ≡ None → slash_at codes ≡ punctuation_at (47 ∷ codes)
unfolding slash_at
slash-mark codes x y = rw (x, y, slash_at) refl

-- what stands behind a `/`
pub data BehindSlash (codes : List ℕ) : Type 0 where
  Line : (rest : List ℕ) → codes ≡ 47 ∷ rest → slash_at codes ≡ Some (found (LineComment (front is_in_line rest)) (behind is_in_line rest)) → BehindSlash codes
  Block : (rest : List ℕ) (f : Found (List ℕ)) → codes ≡ 42 ∷ rest → up_to (ascii "*/") rest ≡ Some f → slash_at codes ≡ Some (changed BlockComment f) → BehindSlash codes
  Alone : slash_at codes ≡ punctuation_at (47 ∷ codes) → BehindSlash codes

behind-star : (codes rest : List ℕ) (o : Option (Found (List ℕ))) → stripped (ascii "/") codes ≡ None → stripped (ascii "*") codes ≡ Some rest → up_to (ascii "*/") rest ≡ o → BehindSlash codes
behind-star codes rest (Some f) x y u = Block rest f (stripped-is (ascii "*") codes rest y) u (slash-block codes rest f x y u)
behind-star codes rest None x y u = Alone (slash-open codes rest x y u)

behind-slash-by : (codes : List ℕ) (o p : Option (List ℕ)) → stripped (ascii "/") codes ≡ o → stripped (ascii "*") codes ≡ p → BehindSlash codes
behind-slash-by codes (Some rest) p x y = Line rest (stripped-is (ascii "/") codes rest x) (slash-line codes rest x)
behind-slash-by codes None (Some rest) x y = behind-star codes rest (up_to (ascii "*/") rest) x y refl
behind-slash-by codes None None x y = Alone (slash-mark codes x y)

behind-slash : (codes : List ℕ) → BehindSlash codes
behind-slash codes = behind-slash-by codes (stripped (ascii "/") codes) (stripped (ascii "*") codes) refl refl

slash-is : (codes : List ℕ) (f : Found InputElement) → BehindSlash codes → slash_at codes ≡ Some f → StandsAtFront (47 ∷ codes) f
slash-is codes f (Line rest s e) h =
    let g = found (LineComment (front is_in_line rest)) (behind is_in_line rest) in
    subst (λ z. StandsAtFront (47 ∷ z) f) (sym s) (subst (StandsAtFront (47 ∷ 47 ∷ rest)) (some-same g f (sym e ∙ h)) (line-is rest))
slash-is codes f (Block rest g s u e) h =
    subst (λ z. StandsAtFront (47 ∷ z) f) (sym s) (subst (StandsAtFront (47 ∷ 42 ∷ rest)) (some-same (changed BlockComment g) f (sym e ∙ h)) (block-is rest g u))
slash-is codes f (Alone e) h = punctuation-is (47 ∷ codes) f (sym e ∙ h)

numeral-is : (c : ℕ) (l : List ℕ) (f : Found InputElement) → is_decimal_digit c ≡ true → numeral_at (c ∷ l) ≡ Some f → StandsAtFront (c ∷ l) f
unfolding numeral_at
numeral-is c l f d e = mapped (changed (λ (d : Digits). Numeral d.base d.digits)) (number_at (c ∷ l)) f e (λ g ge gs.
    let h = number-is c l g d ge in
    subst (StandsAtFront (c ∷ l)) gs (record { is_it = h.is_it; stands = (h.number, h.ends) }))

literal-is : (quote : ℕ) (l : List ℕ) (f : Found InputElement) → is_quote quote ≡ true → literal_at quote l ≡ Some f → StandsAtFront (quote ∷ l) f
unfolding literal_at
literal-is quote l f q e = mapped (changed (Literal quote)) (characters_at quote l) f e (λ g ge gs.
    let h = characters-are quote l g ge in
    subst (StandsAtFront (quote ∷ l)) gs (record {
      is_it = ap (λ z. quote ∷ z) (h.spelled ∙ sym (append_assoc (inside_spelling g.it) (quote ∷ []) g.rest));
      stands = (record { quoted = q; inside = h.characters }, tt);
    }))

name-is : (c : ℕ) (l : List ℕ) → is_identifier_start c ≡ true → StandsAtFront (c ∷ l) (name_at (c ∷ l))
unfolding name_at
name-is c l e =
    let run = front is_identifier_part (c ∷ l) in
    let rest = behind is_identifier_part (c ∷ l) in
    record {
      is_it = front-behind is_identifier_part (c ∷ l) ∙ ap (λ z. z ++ rest) (sym (named-spelling run));
      stands = named-stands run rest (front-identifier c l e);
    }

element-is-by : (c : ℕ) (l : List ℕ) (f : Found InputElement) (t u v w x y : Bool) → is_white c ≡ t → is_line_terminator c ≡ u → is_identifier_start c ≡ v → is_decimal_digit c ≡ w → is_quote c ≡ x → (c == 47) ≡ y
    → cond t (Some (found (WhiteSpace c) l)) (cond u (Some (found (LineTerminator c) l)) (cond v (Some (name_at (c ∷ l))) (cond w (numeral_at (c ∷ l)) (cond x (literal_at c l) (cond y (slash_at l) (punctuation_at (c ∷ l))))))) ≡ Some f
    → StandsAtFront (c ∷ l) f
element-is-by c l f true u v w x y p q r s m n e = subst (StandsAtFront (c ∷ l)) (some-same (found (WhiteSpace c) l) f e) (record { is_it = refl; stands = (p, tt) })
element-is-by c l f false true v w x y p q r s m n e = subst (StandsAtFront (c ∷ l)) (some-same (found (LineTerminator c) l) f e) (record { is_it = refl; stands = (q, tt) })
element-is-by c l f false false true w x y p q r s m n e = subst (StandsAtFront (c ∷ l)) (some-same (name_at (c ∷ l)) f e) (name-is c l r)
element-is-by c l f false false false true x y p q r s m n e = numeral-is c l f s e
element-is-by c l f false false false false true y p q r s m n e = literal-is c l f m e
element-is-by c l f false false false false false true p q r s m n e = subst (λ z. StandsAtFront (z ∷ l) f) (sym (eqb-true c 47 n)) (slash-is l f (behind-slash l) e)
element-is-by c l f false false false false false false p q r s m n e = punctuation-is (c ∷ l) f e

element_at-stands : (codes : List ℕ) (f : Found InputElement) → element_at codes ≡ Some f → StandsAtFront codes f
unfolding element_at
element_at-stands [] f e = absurd (cc e)
element_at-stands (c ∷ l) f e = element-is-by c l f (is_white c) (is_line_terminator c) (is_identifier_start c) (is_decimal_digit c) (is_quote c) (c == 47) refl refl refl refl refl refl e

-- What stands there is found, or a longer element

pub record Finds (element : InputElement) (rest : List ℕ) : Type 0 where
  pub finds : Found InputElement
  pub at_front : element_at (spelling element ++ rest) ≡ Some finds
  pub long : length (spelling element) ≤ length (spelling finds.it)
  pub same : spelling finds.it ≡ spelling element → finds.it ≡ element

exact : (element : InputElement) (rest : List ℕ) → element_at (spelling element ++ rest) ≡ Some (found element rest) → Finds element rest
exact element rest e = record { finds = found element rest; at_front = e; long = omega arith; same = λ _. refl }

name-found : (name rest : List ℕ) → is_identifier name ≡ true → element_at (name ++ rest) ≡ Some (found (named (name ++ front is_identifier_part rest)) (behind is_identifier_part (name ++ rest)))
unfolding name_at
name-found [] rest h = absurd (cc h)
name-found (c ∷ more) rest h =
    at-name c (more ++ rest) (both (is_identifier_start c) (list_all is_identifier_part more) h).0
    ∙ ap (λ z. Some (found (named z) (behind is_identifier_part (c ∷ (more ++ rest))))) (front-more is_identifier_part (c ∷ more) rest (identifier-parts (c ∷ more) h))

name-finds : (name rest : List ℕ) (element : InputElement) → is_identifier name ≡ true → spelling element ≡ name → named name ≡ element → Finds element rest
name-finds name rest element h s n =
    let whole = name ++ front is_identifier_part rest in
    record {
      finds = found (named whole) (behind is_identifier_part (name ++ rest));
      at_front = ap (λ z. element_at (z ++ rest)) s ∙ name-found name rest h;
      long = omega (arith, ap length s, ap length (named-spelling whole), length-append name (front is_identifier_part rest));
      same = λ e. ap named (sym (named-spelling whole) ∙ (e ∙ s)) ∙ n;
    }

line-finds : (inside rest : List ℕ) → list_any is_line_terminator inside ≡ false → Finds (LineComment inside) rest
line-finds inside rest h =
    let whole = inside ++ rest in
    let more : front is_in_line whole ≡ inside ++ front is_in_line rest = front-more is_in_line inside rest (in-line inside h) in
    record {
      finds = found (LineComment (front is_in_line whole)) (behind is_in_line whole);
      at_front = at-slash (47 ∷ whole) ∙ slash-line (47 ∷ whole) whole refl;
      long = omega (arith, ap length more, length-append inside (front is_in_line rest));
      same = λ e. ap LineComment (cc e);
    }

block-finds : (inside rest : List ℕ) → EndsAtFirst (ascii "*/") inside → Finds (BlockComment inside) rest
block-finds inside rest h =
    let same : (inside ++ ascii "*/") ++ rest ≡ inside ++ (ascii "*/" ++ rest) = append_assoc inside (ascii "*/") rest in
    let u : up_to (ascii "*/") ((inside ++ ascii "*/") ++ rest) ≡ Some (found inside rest) = ap (up_to (ascii "*/")) same ∙ up_to-first (ascii "*/") inside rest (ends-no-mark (ascii "*/") inside (omega arith) h) in
    exact (BlockComment inside) rest (at-slash (42 ∷ ((inside ++ ascii "*/") ++ rest)) ∙ slash-block (42 ∷ ((inside ++ ascii "*/") ++ rest)) ((inside ++ ascii "*/") ++ rest) (found inside rest) refl refl u)

numeral-found : (codes : List ℕ) (d : Digits) (rest : List ℕ) → number_at codes ≡ Some (found d rest) → numeral_at codes ≡ Some (found (Numeral d.base d.digits) rest)
unfolding numeral_at
numeral-found codes d rest e = ap (option_map (changed (λ (d : Digits). Numeral d.base d.digits))) e

numeral-finds : (base : Base) (run rest : List ℕ) → IsNumber base run → EndsNumber rest → Finds (Numeral base run) rest
numeral-finds base run rest h e =
    let codes = (base_mark base ++ run) ++ rest in
    let b = number-begins base run h in
    let s : codes ≡ b.first ∷ (b.more ++ rest) = ap (λ z. z ++ rest) b.is_it in
    exact (Numeral base run) rest (ap element_at s ∙ (at-digit b.first (b.more ++ rest) b.passes ∙ (ap numeral_at (sym s) ∙ numeral-found codes (digits base run) rest (number-found base run rest h e))))

literal-found : (quote : ℕ) (codes : List ℕ) (characters : List Character) (rest : List ℕ) → characters_at quote codes ≡ Some (found characters rest) → literal_at quote codes ≡ Some (found (Literal quote characters) rest)
unfolding literal_at
literal-found quote codes characters rest e = ap (option_map (changed (Literal quote))) e

literal-finds : (quote : ℕ) (characters : List Character) (rest : List ℕ) → IsLiteral quote characters → Finds (Literal quote characters) rest
literal-finds quote characters rest h =
    let inside = inside_spelling characters in
    let same : (inside ++ quote ∷ []) ++ rest ≡ inside ++ (quote ∷ rest) = append_assoc inside (quote ∷ []) rest in
    exact (Literal quote characters) rest (at-quote quote ((inside ++ quote ∷ []) ++ rest) h.quoted ∙ literal-found quote ((inside ++ quote ∷ []) ++ rest) characters rest (ap (characters_at quote) same ∙ inside-found quote characters rest h.quoted h.inside))

-- Punctuators

grown-long-by : (mark : Punctuator) (code : ℕ) (codes : List ℕ) (o : Option Punctuator) → longer mark code ≡ o → ((more : Punctuator) → length (mark_spelling more) ≤ length (mark_spelling (grown more codes).it)) → let f : Found Punctuator = elim o [ Some more ↦ grown more codes | None ↦ found mark (code ∷ codes) ] in length (mark_spelling mark) ≤ length (mark_spelling f.it)
grown-long-by mark code codes None q k = omega arith
grown-long-by mark code codes (Some more) q k = omega (arith, k more, ap length (longer-is mark more code q), length-append (mark_spelling mark) (code ∷ []))

grown-long : (mark : Punctuator) (codes : List ℕ) → length (mark_spelling mark) ≤ length (mark_spelling (grown mark codes).it)
unfolding grown
grown-long mark [] = omega arith
grown-long mark (code ∷ codes) = grown-long-by mark code codes (longer mark code) refl (λ more. grown-long more codes)

pub mark-same : (mark other : Punctuator) → mark_spelling mark ≡ mark_spelling other → mark ≡ other
mark-same mark other e =
    let s : found mark [] ≡ found other [] = some-same (found mark []) (found other []) (sym (mark_at-spelling mark) ∙ (ap mark_at e ∙ mark_at-spelling other)) in
    ap (λ (f : Found Punctuator). f.it) s

punctuation-found : (mark : Punctuator) (rest : List ℕ) → punctuation_at (mark_spelling mark ++ rest) ≡ Some (changed Punctuation (grown mark rest))
unfolding punctuation_at
punctuation-found mark rest = ap (option_map (changed Punctuation)) (mark_at-mark mark rest)

punctuation-finds : (mark : Punctuator) (rest : List ℕ) → element_at (mark_spelling mark ++ rest) ≡ punctuation_at (mark_spelling mark ++ rest) → Finds (Punctuation mark) rest
punctuation-finds mark rest e = record {
  finds = changed Punctuation (grown mark rest);
  at_front = e ∙ punctuation-found mark rest;
  long = grown-long mark rest;
  same = λ s. ap Punctuation (mark-same (grown mark rest).it mark s);
}

slash-finds : (rest : List ℕ) → BehindSlash rest → Finds (Punctuation Divide) rest
slash-finds rest (Line inside s e) = record {
  finds = found (LineComment (front is_in_line inside)) (behind is_in_line inside);
  at_front = at-slash rest ∙ e;
  long = omega arith;
  same = λ q. absurd (omega (arith, ap length q));
}
slash-finds rest (Block inside f s u e) = record {
  finds = changed BlockComment f;
  at_front = at-slash rest ∙ e;
  long = omega arith;
  same = λ q. absurd (omega (arith, ap length q, length-append f.it (ascii "*/")));
}
slash-finds rest (Alone e) = punctuation-finds Divide rest (at-slash rest ∙ e)

mark-finds : (mark : Punctuator) (rest : List ℕ) → Finds (Punctuation mark) rest
unfolding element_at slash_at is_identifier_start is_letter is_line_terminator is_white is_decimal_digit is_quote
mark-finds OpenBrace rest = punctuation-finds OpenBrace rest refl
mark-finds CloseBrace rest = punctuation-finds CloseBrace rest refl
mark-finds OpenParenthesis rest = punctuation-finds OpenParenthesis rest refl
mark-finds CloseParenthesis rest = punctuation-finds CloseParenthesis rest refl
mark-finds OpenBracket rest = punctuation-finds OpenBracket rest refl
mark-finds CloseBracket rest = punctuation-finds CloseBracket rest refl
mark-finds Semicolon rest = punctuation-finds Semicolon rest refl
mark-finds Comma rest = punctuation-finds Comma rest refl
mark-finds Dot rest = punctuation-finds Dot rest refl
mark-finds Question rest = punctuation-finds Question rest refl
mark-finds Colon rest = punctuation-finds Colon rest refl
mark-finds Complement rest = punctuation-finds Complement rest refl
mark-finds Not rest = punctuation-finds Not rest refl
mark-finds Increment rest = punctuation-finds Increment rest refl
mark-finds Decrement rest = punctuation-finds Decrement rest refl
mark-finds Assign rest = punctuation-finds Assign rest refl
mark-finds TimesAssign rest = punctuation-finds TimesAssign rest refl
mark-finds DivideAssign rest = punctuation-finds DivideAssign rest refl
mark-finds RemainderAssign rest = punctuation-finds RemainderAssign rest refl
mark-finds PlusAssign rest = punctuation-finds PlusAssign rest refl
mark-finds MinusAssign rest = punctuation-finds MinusAssign rest refl
mark-finds ShiftLeftAssign rest = punctuation-finds ShiftLeftAssign rest refl
mark-finds ShiftRightAssign rest = punctuation-finds ShiftRightAssign rest refl
mark-finds UnsignedShiftRightAssign rest = punctuation-finds UnsignedShiftRightAssign rest refl
mark-finds AndAssign rest = punctuation-finds AndAssign rest refl
mark-finds XorAssign rest = punctuation-finds XorAssign rest refl
mark-finds OrAssign rest = punctuation-finds OrAssign rest refl
mark-finds LogicalOr rest = punctuation-finds LogicalOr rest refl
mark-finds LogicalAnd rest = punctuation-finds LogicalAnd rest refl
mark-finds BitOr rest = punctuation-finds BitOr rest refl
mark-finds BitXor rest = punctuation-finds BitXor rest refl
mark-finds BitAnd rest = punctuation-finds BitAnd rest refl
mark-finds Equal rest = punctuation-finds Equal rest refl
mark-finds NotEqual rest = punctuation-finds NotEqual rest refl
mark-finds StrictEqual rest = punctuation-finds StrictEqual rest refl
mark-finds StrictNotEqual rest = punctuation-finds StrictNotEqual rest refl
mark-finds Less rest = punctuation-finds Less rest refl
mark-finds Greater rest = punctuation-finds Greater rest refl
mark-finds LessOrEqual rest = punctuation-finds LessOrEqual rest refl
mark-finds GreaterOrEqual rest = punctuation-finds GreaterOrEqual rest refl
mark-finds ShiftLeft rest = punctuation-finds ShiftLeft rest refl
mark-finds ShiftRight rest = punctuation-finds ShiftRight rest refl
mark-finds UnsignedShiftRight rest = punctuation-finds UnsignedShiftRight rest refl
mark-finds Plus rest = punctuation-finds Plus rest refl
mark-finds Minus rest = punctuation-finds Minus rest refl
mark-finds Times rest = punctuation-finds Times rest refl
mark-finds Divide rest = slash-finds rest (behind-slash rest)
mark-finds Remainder rest = punctuation-finds Remainder rest refl

pub finds-element : (element : InputElement) (rest : List ℕ) → Stands element rest → Finds element rest
finds-element (WhiteSpace code) rest h = exact (WhiteSpace code) rest (at-white code rest h.0)
finds-element (LineTerminator code) rest h = exact (LineTerminator code) rest (at-break code rest h.0)
finds-element (LineComment inside) rest h = line-finds inside rest h.0
finds-element (BlockComment inside) rest h = block-finds inside rest h.0
finds-element (Identifier name) rest h = name-finds name rest (Identifier name) h.0.0 refl (named-name name h.0.1)
finds-element (Reserved word) rest h = name-finds (word_spelling word) rest (Reserved word) (word-identifier word) refl (named-word word)
finds-element (Punctuation mark) rest h = mark-finds mark rest
finds-element (Numeral base run) rest h = numeral-finds base run rest h.0 h.1
finds-element (Literal quote characters) rest h = literal-finds quote characters rest h.0

-- Both ways

pub record IsLongestAt (codes : List ℕ) (f : Found InputElement) : Type 0 where
  pub is_it : codes ≡ spelling f.it ++ f.rest
  pub longest : IsLongest f.it f.rest

pub element_at-is : (codes : List ℕ) (f : Found InputElement) → element_at codes ≡ Some f → IsLongestAt codes f
element_at-is codes f e =
    let h = element_at-stands codes f e in
    record {
      is_it = h.is_it;
      longest = record {
        stands = h.stands;
        longest = λ other more s k.
            let b = finds-element other more k in
            let one : b.finds ≡ f = some-same b.finds f (sym b.at_front ∙ (ap element_at (s ∙ sym h.is_it) ∙ e)) in
            subst (λ (g : Found InputElement). length (spelling other) ≤ length (spelling g.it)) one b.long;
      };
    }

pub element_at-longest : (element : InputElement) (rest : List ℕ) → IsLongest element rest → element_at (spelling element ++ rest) ≡ Some (found element rest)
element_at-longest element rest h =
    let b = finds-element element rest h.stands in
    let a = element_at-stands (spelling element ++ rest) b.finds b.at_front in
    let most : length (spelling b.finds.it) ≤ length (spelling element) = h.longest b.finds.it b.finds.rest (sym a.is_it) a.stands in
    let x = same-front (spelling b.finds.it) (spelling element) b.finds.rest rest (sym a.is_it) (omega (arith, most, b.long)) in
    b.at_front ∙ ap (λ f. Some f) (ap (λ e. found e b.finds.rest) (b.same x.0) ∙ ap (found element) x.1)

pub element_at-none : (codes : List ℕ) → element_at codes ≡ None → (element : InputElement) (rest : List ℕ) → codes ≡ spelling element ++ rest → Stands element rest → ⊥
element_at-none codes e element rest s h =
    let b = finds-element element rest h in
    let some : element_at codes ≡ Some b.finds = ap element_at s ∙ b.at_front in
    absurd (cc)

identifier-long : (name : List ℕ) → is_identifier name ≡ true → 0 < length name
identifier-long [] h = absurd (cc h)
identifier-long (c ∷ name) h = omega arith

mark-long : (mark : Punctuator) → 0 < length (mark_spelling mark)
mark-long OpenBrace = omega arith
mark-long CloseBrace = omega arith
mark-long OpenParenthesis = omega arith
mark-long CloseParenthesis = omega arith
mark-long OpenBracket = omega arith
mark-long CloseBracket = omega arith
mark-long Semicolon = omega arith
mark-long Comma = omega arith
mark-long Dot = omega arith
mark-long Question = omega arith
mark-long Colon = omega arith
mark-long Complement = omega arith
mark-long Not = omega arith
mark-long Increment = omega arith
mark-long Decrement = omega arith
mark-long Assign = omega arith
mark-long TimesAssign = omega arith
mark-long DivideAssign = omega arith
mark-long RemainderAssign = omega arith
mark-long PlusAssign = omega arith
mark-long MinusAssign = omega arith
mark-long ShiftLeftAssign = omega arith
mark-long ShiftRightAssign = omega arith
mark-long UnsignedShiftRightAssign = omega arith
mark-long AndAssign = omega arith
mark-long XorAssign = omega arith
mark-long OrAssign = omega arith
mark-long LogicalOr = omega arith
mark-long LogicalAnd = omega arith
mark-long BitOr = omega arith
mark-long BitXor = omega arith
mark-long BitAnd = omega arith
mark-long Equal = omega arith
mark-long NotEqual = omega arith
mark-long StrictEqual = omega arith
mark-long StrictNotEqual = omega arith
mark-long Less = omega arith
mark-long Greater = omega arith
mark-long LessOrEqual = omega arith
mark-long GreaterOrEqual = omega arith
mark-long ShiftLeft = omega arith
mark-long ShiftRight = omega arith
mark-long UnsignedShiftRight = omega arith
mark-long Plus = omega arith
mark-long Minus = omega arith
mark-long Times = omega arith
mark-long Divide = omega arith
mark-long Remainder = omega arith

-- an element has a code
pub element-long : (element : InputElement) → IsElement element → 0 < length (spelling element)
element-long (WhiteSpace code) h = omega arith
element-long (LineTerminator code) h = omega arith
element-long (LineComment inside) h = omega arith
element-long (BlockComment inside) h = omega arith
element-long (Identifier []) h = absurd (cc (h.0))
element-long (Identifier (c ∷ name)) h = omega arith
element-long (Reserved word) h = identifier-long (word_spelling word) (word-identifier word)
element-long (Punctuation mark) h = mark-long mark
element-long (Numeral base run) h = let b = number-begins base run h in omega (arith, ap length b.is_it)
element-long (Literal quote characters) h = omega arith
