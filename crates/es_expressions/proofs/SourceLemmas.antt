-- Tokens of a text as lexemes: what their codes spell, and that there is one symbol for each.
use Rattle.std.proofs.Common.{◌≡◌, ℕ, ◌≤◌, Bool, List, [], ◌∷◌, ◌++◌, length, Option, Some, refl, sym, ◌∙◌, ap, subst, arith, take, ◌+◌, ◌<◌, add-one, slice_index_or}
use Rattle.std.proofs.Math.Seq.{take-suc}
use Rattle.std.proofs.lemmas.List.{take_all}
use Rattle.std.specs.Prelude.{nat_eq, find, slice_range}
use Rattle.std.specs.List.{All, AllByRecursion}
use Rattle.std.specs.Cmp.Lexicographic.{pointwise}
use Rattle.std.proofs.lemmas.Option.{same_Some}
use Rattle.std.proofs.lemmas.List.Elements.{All-from_recursion}
use Rattle.es_lexer.specs.Spellings.{word_spelling, mark_spelling}
use Rattle.es_lexer.specs.Tokens.{IsSpelled, StandInOrder}
use Rattle.es_lexer.specs.declared.token_types.Token.{Token}
use Rattle.es_lexer.specs.declared.token_types.TokenKind.{TokenKind}
use Rattle.es_lexer.specs.declared.token_types.TokenKind.TheVariants.{Name as NameKind, Word as WordKind, Mark as MarkKind, Number as NumberKind, Words as WordsKind}
use Rattle.es_lexer.specs.declared.words.ReservedWord.{ReservedWord}
use Rattle.es_lexer.specs.declared.words.ReservedWord.TheVariants.{Break, Case, Catch, Class, Const, Continue, Debugger, Default, Delete, Do, Else, Enum, Export, Extends, False, Finally, For, Function, If, Import, In, New, Null, Return, Super, Switch, This, Throw, True, Try, Typeof, Var, Void, While, With}
use Rattle.es_lexer.specs.declared.punctuators.Punctuator.{Punctuator}
use Rattle.es_lexer.specs.declared.punctuators.Punctuator.TheVariants.{OpenBrace, CloseBrace, OpenParenthesis, CloseParenthesis, OpenBracket, CloseBracket, Semicolon, Comma, Dot, Question, Colon, Complement, Not, Increment, Decrement, Assign, TimesAssign, DivideAssign, RemainderAssign, PlusAssign, MinusAssign, ShiftLeftAssign, ShiftRightAssign, UnsignedShiftRightAssign, AndAssign, XorAssign, OrAssign, LogicalOr, LogicalAnd, BitOr, BitXor, BitAnd, Equal, NotEqual, StrictEqual, StrictNotEqual, Less, Greater, LessOrEqual, GreaterOrEqual, ShiftLeft, ShiftRight, UnsignedShiftRight, Plus, Minus, Times, Divide, Remainder}
use Rattle.es_expressions.specs.Sources.{IsSymbol, IsLexeme, AreLexemes}
use Rattle.es_expressions.specs.declared.lexemes.Lexeme.{Lexeme}
use Rattle.es_expressions.specs.declared.lexemes.Symbol.{Symbol}
use Rattle.es_expressions.specs.declared.lexemes.Symbol.TheVariants.{Name, Word, Mark, Number, Words}

-- spellings differ: each is found by its own

abbrev spelled_so : {A : Type 0} → (A → List ℕ) → List A → List ℕ → Option A
spelled_so spelling_of all codes = find (λ a. pointwise nat_eq (spelling_of a) codes) all

apart : {A : Type 0} (spelling_of : A → List ℕ) (all : List A) (a b : A) → spelled_so spelling_of all (spelling_of a) ≡ Some a → spelled_so spelling_of all (spelling_of b) ≡ Some b → spelling_of a ≡ spelling_of b → a ≡ b
apart spelling_of all a b p q h = same_Some a b (sym p ∙ (ap (spelled_so spelling_of all) h ∙ q))

abbrev all_words : List ReservedWord
all_words = Break ∷ Case ∷ Catch ∷ Class ∷ Const ∷ Continue ∷ Debugger ∷ Default ∷ Delete ∷ Do ∷ Else ∷ Enum ∷ Export ∷ Extends ∷ False ∷ Finally ∷ For ∷ Function ∷ If ∷ Import ∷ In ∷ New ∷ Null ∷ Return ∷ Super ∷ Switch ∷ This ∷ Throw ∷ True ∷ Try ∷ Typeof ∷ Var ∷ Void ∷ While ∷ With ∷ []

found-word : (word : ReservedWord) → spelled_so word_spelling all_words (word_spelling word) ≡ Some word
found-word Break = refl
found-word _ = refl

words-apart : (a b : ReservedWord) → word_spelling a ≡ word_spelling b → a ≡ b
words-apart a b h = apart word_spelling all_words a b (found-word a) (found-word b) h

abbrev all_marks : List Punctuator
all_marks = OpenBrace ∷ CloseBrace ∷ OpenParenthesis ∷ CloseParenthesis ∷ OpenBracket ∷ CloseBracket ∷ Semicolon ∷ Comma ∷ Dot ∷ Question ∷ Colon ∷ Complement ∷ Not ∷ Increment ∷ Decrement ∷ Assign ∷ TimesAssign ∷ DivideAssign ∷ RemainderAssign ∷ PlusAssign ∷ MinusAssign ∷ ShiftLeftAssign ∷ ShiftRightAssign ∷ UnsignedShiftRightAssign ∷ AndAssign ∷ XorAssign ∷ OrAssign ∷ LogicalOr ∷ LogicalAnd ∷ BitOr ∷ BitXor ∷ BitAnd ∷ Equal ∷ NotEqual ∷ StrictEqual ∷ StrictNotEqual ∷ Less ∷ Greater ∷ LessOrEqual ∷ GreaterOrEqual ∷ ShiftLeft ∷ ShiftRight ∷ UnsignedShiftRight ∷ Plus ∷ Minus ∷ Times ∷ Divide ∷ Remainder ∷ []

found-mark : (mark : Punctuator) → spelled_so mark_spelling all_marks (mark_spelling mark) ≡ Some mark
found-mark OpenBrace = refl
found-mark _ = refl

marks-apart : (a b : Punctuator) → mark_spelling a ≡ mark_spelling b → a ≡ b
marks-apart a b h = apart mark_spelling all_marks a b (found-mark a) (found-mark b) h

-- one symbol, one lexeme, one list of lexemes

one-symbol : (kind : TokenKind) (codes : List ℕ) (a b : Symbol) → IsSymbol kind codes a → IsSymbol kind codes b → a ≡ b
one-symbol NameKind codes (Name n) (Name m) h g = ap (λ x. Name x) (h ∙ sym g)
one-symbol NameKind codes (Name n) _ h g = absurd g
one-symbol NameKind codes _ b h g = absurd h
one-symbol WordKind codes (Word n) (Word m) h g = ap (λ x. Word x) (words-apart n m (h ∙ sym g))
one-symbol WordKind codes (Word n) _ h g = absurd g
one-symbol WordKind codes _ b h g = absurd h
one-symbol MarkKind codes (Mark n) (Mark m) h g = ap (λ x. Mark x) (marks-apart n m (h ∙ sym g))
one-symbol MarkKind codes (Mark n) _ h g = absurd g
one-symbol MarkKind codes _ b h g = absurd h
one-symbol (NumberKind v) codes (Number n) (Number m) h g = ap (λ x. Number x) (h ∙ sym g)
one-symbol (NumberKind v) codes (Number n) _ h g = absurd g
one-symbol (NumberKind v) codes _ b h g = absurd h
one-symbol (WordsKind v) codes (Words n) (Words m) h g = ap (λ x. Words x) (h ∙ sym g)
one-symbol (WordsKind v) codes (Words n) _ h g = absurd g
one-symbol (WordsKind v) codes _ b h g = absurd h

abbrev made : Symbol → ℕ → ℕ → Bool → Lexeme
made symbol start stop broken = record { symbol = symbol; start = start; «end» = stop; after_break = broken }

same-made : (s u : Symbol) (a b c d : ℕ) (e f : Bool) → s ≡ u → a ≡ b → c ≡ d → e ≡ f → made s a c e ≡ made u b d f
same-made s u a b c d e f p q r t = cc

one-lexeme : (text : List ℕ) (token : Token) (a b : Lexeme) → IsLexeme text token a → IsLexeme text token b → a ≡ b
one-lexeme text token a b h g =
    same-made a.symbol b.symbol a.start b.start a.«end» b.«end» a.after_break b.after_break
    (one-symbol token.kind (slice_range text token.start token.«end») a.symbol b.symbol h.symbol g.symbol)
    (h.start ∙ sym g.start) (h.stop ∙ sym g.stop) (h.after_break ∙ sym g.after_break)

one-list : (text : List ℕ) (tokens : List Token) (xs ys : List Lexeme) → AreLexemes text tokens xs → AreLexemes text tokens ys → xs ≡ ys
one-list text [] [] [] h g = refl
one-list text [] [] (y ∷ ys) h g = absurd g
one-list text [] (x ∷ xs) ys h g = absurd h
one-list text (t ∷ ts) [] ys h g = absurd h
one-list text (t ∷ ts) (x ∷ xs) [] h g = absurd g
one-list text (t ∷ ts) (x ∷ xs) (y ∷ ys) h g =
    let first : x ≡ y = one-lexeme text t x y h.0 g.0 in
    let rest : xs ≡ ys = one-list text ts xs ys h.1 g.1 in
    cc

pub one-source : (text : List ℕ) (tokens others : List Token) (xs ys : List Lexeme) → tokens ≡ others → AreLexemes text tokens xs → AreLexemes text others ys → xs ≡ ys
one-source text tokens others xs ys same h g = one-list text tokens xs ys h (subst (λ ts. AreLexemes text ts ys) (sym same) g)

-- where tokens stand

pub record StandsIn (text : List ℕ) (token : Token) : Type 0 where
  pub from : token.start ≤ token.«end»
  pub within : token.«end» ≤ length text
  pub spelled : IsSpelled token.kind (slice_range text token.start token.«end»)

in-text : (text : List ℕ) (place : ℕ) (tokens : List Token) → StandInOrder text place tokens → place ≤ length text
in-text text place [] h = h
in-text text place (t ∷ ts) h = omega (arith, in-text text t.«end» ts h.3, h.0, h.1)

each-stands : (text : List ℕ) (place : ℕ) (tokens : List Token) → StandInOrder text place tokens → AllByRecursion (StandsIn text) tokens
each-stands text place [] h = tt
each-stands text place (t ∷ ts) h =
    (record { from = omega (arith, h.1); within = in-text text t.«end» ts h.3; spelled = h.2 }, each-stands text t.«end» ts h.3)

pub all-stand : (text : List ℕ) (tokens : List Token) → StandInOrder text 0 tokens → All (StandsIn text) tokens
all-stand text tokens h = All-from_recursion (StandsIn text) tokens (each-stands text 0 tokens h)

-- one token more

more-zipped : (text : List ℕ) (tokens : List Token) (xs : List Lexeme) (t : Token) (x : Lexeme) → AreLexemes text tokens xs → IsLexeme text t x → AreLexemes text (tokens ++ (t ∷ [])) (xs ++ (x ∷ []))
more-zipped text [] [] t x h g = (g, tt)
more-zipped text [] (y ∷ ys) t x h g = absurd h
more-zipped text (u ∷ us) [] t x h g = absurd h
more-zipped text (u ∷ us) (y ∷ ys) t x h g = (h.0, more-zipped text us ys t x h.1 g)

pub none-yet : (text : List ℕ) (tokens : List Token) (xs : List Lexeme) → xs ≡ [] → AreLexemes text (take 0 tokens) xs
none-yet text tokens xs none = subst (λ ys. AreLexemes text [] ys) (sym none) tt

pub at-item : (text : List ℕ) (tokens items : List Token) (n : ℕ) (t : Token) → StandInOrder text 0 tokens → items ≡ tokens → n < length items → t ≡ slice_index_or items n t → StandsIn text t
at-item text tokens items n t h same lt is =
    subst (λ u. StandsIn text u) (sym is) (all-stand text items (subst (λ ts. StandInOrder text 0 ts) (sym same) h) n t lt)

pub lexemes-more : (text : List ℕ) (items : List Token) (n : ℕ) (t : Token) (xs ys : List Lexeme) (x : Lexeme) → AreLexemes text (take n items) xs → n < length items → t ≡ slice_index_or items n t → IsLexeme text t x → ys ≡ xs ++ (x ∷ []) → AreLexemes text (take (n + 1) items) ys
lexemes-more text items n t xs ys x h lt is g more =
    let up : take (n + 1) items ≡ take n items ++ (t ∷ []) = ap (λ k. take k items) (add-one n) ∙ (take-suc items n t lt ∙ ap (λ u. take n items ++ (u ∷ [])) (sym is)) in
    subst (λ ts. AreLexemes text ts ys) (sym up) (subst (λ zs. AreLexemes text (take n items ++ (t ∷ [])) zs) (sym more) (more-zipped text (take n items) xs t x h g))

pub all-lexemes : (text : List ℕ) (tokens items : List Token) (n : ℕ) (xs : List Lexeme) → items ≡ tokens → length items ≤ n → AreLexemes text (take n items) xs → AreLexemes text tokens xs
all-lexemes text tokens items n xs same all h = subst (λ ts. AreLexemes text ts xs) (take_all n items all ∙ same) h
