-- Punctuators are found by their spelling, and the longest one is found.
use Rattle.std.proofs.Common.{◌≡◌, ℕ, Bool, true, false, cond, List, [], ◌∷◌, ◌++◌, Option, Some, None, refl, sym, ◌∙◌, ap, subst, append_assoc, append-nil}
use Rattle.std.specs.Prelude.{◌==◌}
use Rattle.std.proofs.lemmas.Bool.{eqb-true}
use Rattle.es_lexer.specs.Scanning.{Found, found}
use Rattle.es_lexer.specs.Spellings.{mark_spelling}
use Rattle.es_lexer.specs.Munching.{made_by, made_by_either, mark_of, longer, grown, mark_at}
use Rattle.es_lexer.proofs.CodeLemmas.{some-same}
use Rattle.es_lexer.specs.declared.punctuators.Punctuator.{Punctuator}
use Rattle.es_lexer.specs.declared.punctuators.Punctuator.TheVariants.{OpenBrace, CloseBrace, OpenParenthesis, CloseParenthesis, OpenBracket, CloseBracket, Semicolon, Comma, Dot, Question, Colon, Complement, Not, Increment, Decrement, Assign, TimesAssign, DivideAssign, RemainderAssign, PlusAssign, MinusAssign, ShiftLeftAssign, ShiftRightAssign, UnsignedShiftRightAssign, AndAssign, XorAssign, OrAssign, LogicalOr, LogicalAnd, BitOr, BitXor, BitAnd, Equal, NotEqual, StrictEqual, StrictNotEqual, Less, Greater, LessOrEqual, GreaterOrEqual, ShiftLeft, ShiftRight, UnsignedShiftRight, Plus, Minus, Times, Divide, Remainder}

-- One code more

made_by-is : (wanted code : ℕ) (mark found : Punctuator) (spelled : List ℕ) → made_by wanted code mark ≡ Some found → mark_spelling mark ≡ spelled ++ wanted ∷ [] → mark_spelling found ≡ spelled ++ code ∷ []
made_by-is wanted code mark found spelled e s = by (code == wanted) refl e
  where
    by : (t : Bool) → (code == wanted) ≡ t → cond t (Some mark) None ≡ Some found → mark_spelling found ≡ spelled ++ code ∷ []
    by true q e =
        let same : mark ≡ found = cc in
        ap mark_spelling (sym same) ∙ (s ∙ ap (λ c. spelled ++ c ∷ []) (sym (eqb-true code wanted q)))
    by false q e = absurd (cc e)

either-is : (one other code : ℕ) (first second found : Punctuator) (spelled : List ℕ) → made_by_either one first other second code ≡ Some found → mark_spelling first ≡ spelled ++ one ∷ [] → mark_spelling second ≡ spelled ++ other ∷ [] → mark_spelling found ≡ spelled ++ code ∷ []
either-is one other code first second found spelled e s t = by (code == one) refl e
  where
    by : (b : Bool) → (code == one) ≡ b → cond b (Some first) (cond (code == other) (Some second) None) ≡ Some found → mark_spelling found ≡ spelled ++ code ∷ []
    by true q e =
        let same : first ≡ found = cc in
        ap mark_spelling (sym same) ∙ (s ∙ ap (λ c. spelled ++ c ∷ []) (sym (eqb-true code one q)))
    by false q e = made_by-is other code second found spelled e t

pub longer-is : (mark more : Punctuator) (code : ℕ) → longer mark code ≡ Some more → mark_spelling more ≡ mark_spelling mark ++ code ∷ []
unfolding longer
longer-is OpenBrace more code e = absurd (cc e)
longer-is CloseBrace more code e = absurd (cc e)
longer-is OpenParenthesis more code e = absurd (cc e)
longer-is CloseParenthesis more code e = absurd (cc e)
longer-is OpenBracket more code e = absurd (cc e)
longer-is CloseBracket more code e = absurd (cc e)
longer-is Semicolon more code e = absurd (cc e)
longer-is Comma more code e = absurd (cc e)
longer-is Dot more code e = absurd (cc e)
longer-is Question more code e = absurd (cc e)
longer-is Colon more code e = absurd (cc e)
longer-is Complement more code e = absurd (cc e)
longer-is Not more code e = made_by-is 61 code NotEqual more (mark_spelling Not) e refl
longer-is Increment more code e = absurd (cc e)
longer-is Decrement more code e = absurd (cc e)
longer-is Assign more code e = made_by-is 61 code Equal more (mark_spelling Assign) e refl
longer-is TimesAssign more code e = absurd (cc e)
longer-is DivideAssign more code e = absurd (cc e)
longer-is RemainderAssign more code e = absurd (cc e)
longer-is PlusAssign more code e = absurd (cc e)
longer-is MinusAssign more code e = absurd (cc e)
longer-is ShiftLeftAssign more code e = absurd (cc e)
longer-is ShiftRightAssign more code e = absurd (cc e)
longer-is UnsignedShiftRightAssign more code e = absurd (cc e)
longer-is AndAssign more code e = absurd (cc e)
longer-is XorAssign more code e = absurd (cc e)
longer-is OrAssign more code e = absurd (cc e)
longer-is LogicalOr more code e = absurd (cc e)
longer-is LogicalAnd more code e = absurd (cc e)
longer-is BitOr more code e = either-is 61 124 code OrAssign LogicalOr more (mark_spelling BitOr) e refl refl
longer-is BitXor more code e = made_by-is 61 code XorAssign more (mark_spelling BitXor) e refl
longer-is BitAnd more code e = either-is 61 38 code AndAssign LogicalAnd more (mark_spelling BitAnd) e refl refl
longer-is Equal more code e = made_by-is 61 code StrictEqual more (mark_spelling Equal) e refl
longer-is NotEqual more code e = made_by-is 61 code StrictNotEqual more (mark_spelling NotEqual) e refl
longer-is StrictEqual more code e = absurd (cc e)
longer-is StrictNotEqual more code e = absurd (cc e)
longer-is Less more code e = either-is 61 60 code LessOrEqual ShiftLeft more (mark_spelling Less) e refl refl
longer-is Greater more code e = either-is 61 62 code GreaterOrEqual ShiftRight more (mark_spelling Greater) e refl refl
longer-is LessOrEqual more code e = absurd (cc e)
longer-is GreaterOrEqual more code e = absurd (cc e)
longer-is ShiftLeft more code e = made_by-is 61 code ShiftLeftAssign more (mark_spelling ShiftLeft) e refl
longer-is ShiftRight more code e = either-is 61 62 code ShiftRightAssign UnsignedShiftRight more (mark_spelling ShiftRight) e refl refl
longer-is UnsignedShiftRight more code e = made_by-is 61 code UnsignedShiftRightAssign more (mark_spelling UnsignedShiftRight) e refl
longer-is Plus more code e = either-is 43 61 code Increment PlusAssign more (mark_spelling Plus) e refl refl
longer-is Minus more code e = either-is 45 61 code Decrement MinusAssign more (mark_spelling Minus) e refl refl
longer-is Times more code e = made_by-is 61 code TimesAssign more (mark_spelling Times) e refl
longer-is Divide more code e = made_by-is 61 code DivideAssign more (mark_spelling Divide) e refl
longer-is Remainder more code e = made_by-is 61 code RemainderAssign more (mark_spelling Remainder) e refl

-- The first code

picked : (code wanted : ℕ) (mark found : Punctuator) (other : Option Punctuator) → mark_spelling mark ≡ wanted ∷ [] → (other ≡ Some found → mark_spelling found ≡ code ∷ []) → cond (code == wanted) (Some mark) other ≡ Some found → mark_spelling found ≡ code ∷ []
picked code wanted mark found other s k e = by (code == wanted) refl e
  where
    by : (t : Bool) → (code == wanted) ≡ t → cond t (Some mark) other ≡ Some found → mark_spelling found ≡ code ∷ []
    by true q e =
        let same : mark ≡ found = cc in
        ap mark_spelling (sym same) ∙ (s ∙ ap (λ c. c ∷ []) (sym (eqb-true code wanted q)))
    by false q e = k e

pub mark_of-is : (code : ℕ) (mark : Punctuator) → mark_of code ≡ Some mark → mark_spelling mark ≡ code ∷ []
unfolding mark_of
mark_of-is code mark =
    picked code 123 OpenBrace mark _ refl (
    picked code 125 CloseBrace mark _ refl (
    picked code 40 OpenParenthesis mark _ refl (
    picked code 41 CloseParenthesis mark _ refl (
    picked code 91 OpenBracket mark _ refl (
    picked code 93 CloseBracket mark _ refl (
    picked code 59 Semicolon mark _ refl (
    picked code 44 Comma mark _ refl (
    picked code 46 Dot mark _ refl (
    picked code 63 Question mark _ refl (
    picked code 58 Colon mark _ refl (
    picked code 126 Complement mark _ refl (
    picked code 33 Not mark _ refl (
    picked code 61 Assign mark _ refl (
    picked code 124 BitOr mark _ refl (
    picked code 94 BitXor mark _ refl (
    picked code 38 BitAnd mark _ refl (
    picked code 60 Less mark _ refl (
    picked code 62 Greater mark _ refl (
    picked code 43 Plus mark _ refl (
    picked code 45 Minus mark _ refl (
    picked code 42 Times mark _ refl (
    picked code 47 Divide mark _ refl (
    picked code 37 Remainder mark _ refl (λ e. absurd (cc e)))))))))))))))))))))))))

-- What is found stands there

grown-is-by : (mark : Punctuator) (code : ℕ) (codes : List ℕ) (o : Option Punctuator) → longer mark code ≡ o → ((more : Punctuator) → mark_spelling (grown more codes).it ++ (grown more codes).rest ≡ mark_spelling more ++ codes) → let f : Found Punctuator = elim o [ Some more ↦ grown more codes | None ↦ found mark (code ∷ codes) ] in mark_spelling f.it ++ f.rest ≡ mark_spelling mark ++ (code ∷ codes)
grown-is-by mark code codes None q k = refl
grown-is-by mark code codes (Some more) q k = k more ∙ (ap (λ s. s ++ codes) (longer-is mark more code q) ∙ append_assoc (mark_spelling mark) (code ∷ []) codes)

pub grown-is : (mark : Punctuator) (codes : List ℕ) → mark_spelling (grown mark codes).it ++ (grown mark codes).rest ≡ mark_spelling mark ++ codes
unfolding grown
grown-is mark [] = refl
grown-is mark (code ∷ codes) = grown-is-by mark code codes (longer mark code) refl (λ more. grown-is more codes)

pub mark_at-is : (codes : List ℕ) (f : Found Punctuator) → mark_at codes ≡ Some f → codes ≡ mark_spelling f.it ++ f.rest
unfolding mark_at
mark_at-is [] f e = absurd (cc e)
mark_at-is (code ∷ codes) f e = by (mark_of code) refl e
  where
    by : (o : Option Punctuator) → mark_of code ≡ o → elim o [ Some mark ↦ Some (grown mark codes) | None ↦ None ] ≡ Some f → code ∷ codes ≡ mark_spelling f.it ++ f.rest
    by None q e = absurd (cc e)
    by (Some mark) q e =
        let same : grown mark codes ≡ f = some-same (grown mark codes) f e in
        subst (λ (g : Found Punctuator). code ∷ codes ≡ mark_spelling g.it ++ g.rest) same (sym (grown-is mark codes ∙ ap (λ s. s ++ codes) (mark_of-is code mark q)))

-- What stands there is found, or a longer one

pub mark_at-mark : (mark : Punctuator) (codes : List ℕ) → mark_at (mark_spelling mark ++ codes) ≡ Some (grown mark codes)
unfolding mark_at mark_of longer grown
mark_at-mark OpenBrace codes = refl
mark_at-mark CloseBrace codes = refl
mark_at-mark OpenParenthesis codes = refl
mark_at-mark CloseParenthesis codes = refl
mark_at-mark OpenBracket codes = refl
mark_at-mark CloseBracket codes = refl
mark_at-mark Semicolon codes = refl
mark_at-mark Comma codes = refl
mark_at-mark Dot codes = refl
mark_at-mark Question codes = refl
mark_at-mark Colon codes = refl
mark_at-mark Complement codes = refl
mark_at-mark Not codes = refl
mark_at-mark Increment codes = refl
mark_at-mark Decrement codes = refl
mark_at-mark Assign codes = refl
mark_at-mark TimesAssign codes = refl
mark_at-mark DivideAssign codes = refl
mark_at-mark RemainderAssign codes = refl
mark_at-mark PlusAssign codes = refl
mark_at-mark MinusAssign codes = refl
mark_at-mark ShiftLeftAssign codes = refl
mark_at-mark ShiftRightAssign codes = refl
mark_at-mark UnsignedShiftRightAssign codes = refl
mark_at-mark AndAssign codes = refl
mark_at-mark XorAssign codes = refl
mark_at-mark OrAssign codes = refl
mark_at-mark LogicalOr codes = refl
mark_at-mark LogicalAnd codes = refl
mark_at-mark BitOr codes = refl
mark_at-mark BitXor codes = refl
mark_at-mark BitAnd codes = refl
mark_at-mark Equal codes = refl
mark_at-mark NotEqual codes = refl
mark_at-mark StrictEqual codes = refl
mark_at-mark StrictNotEqual codes = refl
mark_at-mark Less codes = refl
mark_at-mark Greater codes = refl
mark_at-mark LessOrEqual codes = refl
mark_at-mark GreaterOrEqual codes = refl
mark_at-mark ShiftLeft codes = refl
mark_at-mark ShiftRight codes = refl
mark_at-mark UnsignedShiftRight codes = refl
mark_at-mark Plus codes = refl
mark_at-mark Minus codes = refl
mark_at-mark Times codes = refl
mark_at-mark Divide codes = refl
mark_at-mark Remainder codes = refl

grown-nil : (mark : Punctuator) → grown mark [] ≡ found mark []
unfolding grown
grown-nil mark = refl

-- a punctuator is read whole from its spelling
pub mark_at-spelling : (mark : Punctuator) → mark_at (mark_spelling mark) ≡ Some (found mark [])
mark_at-spelling mark = ap mark_at (sym (append-nil (mark_spelling mark))) ∙ (mark_at-mark mark [] ∙ ap (λ f. Some f) (grown-nil mark))
