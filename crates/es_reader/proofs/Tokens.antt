-- What tokens can't do: which never go on with an expression, and which never begin a statement.
use Rattle.std.proofs.Common.{◌≡◌, ◌≢◌, ℕ, ◌≤◌, Bool, true, false, ◌⊎◌, inl, inr, [], refl, ◌∙◌, ap, arith}
use Rattle.std.proofs.lemmas.Bool.Decides.{nat_tests}
use Rattle.es_lexer.specs.declared.words.ReservedWord.{ReservedWord}
use Rattle.es_lexer.specs.declared.words.ReservedWord.TheVariants.{Break, Continue, Else, For as ForWord, Function as FunctionWord, If as IfWord, In, Return as ReturnWord, Var as VarWord, While as WhileWord, This, Null, True, False, New, Delete, Void, Typeof}
use Rattle.es_lexer.specs.declared.punctuators.Punctuator.{Punctuator}
use Rattle.es_lexer.specs.declared.punctuators.Punctuator.TheVariants.{OpenBrace, CloseBrace, OpenParenthesis, CloseParenthesis, CloseBracket, Semicolon, Comma, Colon, Plus, Minus, Complement, Not, Increment, Decrement, LogicalOr, LogicalAnd, BitOr, BitXor, BitAnd, Equal, NotEqual, StrictEqual, StrictNotEqual, Less, Greater, LessOrEqual, GreaterOrEqual, ShiftLeft, ShiftRight, UnsignedShiftRight, Times, Divide, Remainder}
use Rattle.es_expressions.specs.Roles.{front, front_of, word_front, mark_front, joint, joint_of, mark_joint, unless_broken, strength}
use Rattle.es_expressions.specs.Phrases.{Phrase, spelled as spelled_expression}
use Rattle.es_expressions.specs.Phrases.Phrase.{Index, Member, Binary}
use Rattle.es_expressions.specs.Grammar.{IsExpression, level, takes_links_at}
use Rattle.es_expressions.specs.Beginnings.{IsWhole, least}
use Rattle.es_expressions.specs.declared.expressions.Extent.{Extent}
use Rattle.es_expressions.specs.declared.expressions.Extent.TheVariants.{WithCommas, WithoutCommas}
use Rattle.es_expressions.specs.declared.lexemes.Lexeme.{Lexeme}
use Rattle.es_expressions.specs.declared.lexemes.Symbol.{Symbol}
use Rattle.es_expressions.specs.declared.lexemes.Symbol.TheVariants.{Word, Mark}
use Rattle.es_expressions.specs.declared.roles.Front.TheVariants.{Nothing as NoFront}
use Rattle.es_expressions.specs.declared.roles.Joint.{Joint}
use Rattle.es_expressions.specs.declared.roles.Joint.TheVariants.{Step as StepJoint, Operator, Close, KeyEnd, Colon as ColonJoint, Nothing as NoJoint}
use Rattle.es_reader.specs.Grammar.{IsWord, IsMark, IsOf, GoesOn}
use Rattle.es_reader.proofs.ExpressionFacts.{ExpressionFacts, goes_on_with}

-- every expression is of some extent

positive : (k n : ℕ) → 1 ≤ k → Operator k ≡ Operator n → 1 ≤ n
positive k n a h = let e : k ≡ n = cc in omega arith

mark-positive : (m : Punctuator) (n : ℕ) → mark_joint m ≡ Operator n → 1 ≤ n
unfolding mark_joint
mark-positive LogicalOr n h = positive 4 n (omega arith) h
mark-positive LogicalAnd n h = positive 5 n (omega arith) h
mark-positive BitOr n h = positive 6 n (omega arith) h
mark-positive BitXor n h = positive 7 n (omega arith) h
mark-positive BitAnd n h = positive 8 n (omega arith) h
mark-positive Equal n h = positive 9 n (omega arith) h
mark-positive NotEqual n h = positive 9 n (omega arith) h
mark-positive StrictEqual n h = positive 9 n (omega arith) h
mark-positive StrictNotEqual n h = positive 9 n (omega arith) h
mark-positive Less n h = positive 10 n (omega arith) h
mark-positive Greater n h = positive 10 n (omega arith) h
mark-positive LessOrEqual n h = positive 10 n (omega arith) h
mark-positive GreaterOrEqual n h = positive 10 n (omega arith) h
mark-positive ShiftLeft n h = positive 11 n (omega arith) h
mark-positive ShiftRight n h = positive 11 n (omega arith) h
mark-positive UnsignedShiftRight n h = positive 11 n (omega arith) h
mark-positive Plus n h = positive 12 n (omega arith) h
mark-positive Minus n h = positive 12 n (omega arith) h
mark-positive Times n h = positive 13 n (omega arith) h
mark-positive Divide n h = positive 13 n (omega arith) h
mark-positive Remainder n h = positive 13 n (omega arith) h
mark-positive _ n h = absurd (cc)

symbol-positive : (s : Symbol) (n : ℕ) → joint_of s ≡ Operator n → 1 ≤ n
unfolding joint_of
symbol-positive (Mark m) n h = mark-positive m n h
symbol-positive _ n h = absurd (cc)

unbroken : (b : Bool) (j : Joint) (n : ℕ) → unless_broken b j ≡ Operator n → j ≡ Operator n
unbroken true StepJoint n h = absurd (cc)
unbroken true _ n h = h
unbroken false StepJoint n h = h
unbroken false _ n h = h

joint-positive : (t : Lexeme) (n : ℕ) → joint t ≡ Operator n → 1 ≤ n
unfolding joint
joint-positive t n h = symbol-positive t.symbol n (unbroken t.after_break (joint_of t.symbol) n h)

takes-from : (n : ℕ) → takes_links_at n ≡ true → 16 ≤ n
takes-from n h = grind (arith, nat_tests)

pub level-positive : (e : Phrase) → IsExpression e → 1 ≤ level e
level-positive (Index b o e c) h = omega (arith, takes-from (level b) h.1)
level-positive (Member b d x) h = omega (arith, takes-from (level b) h.1)
level-positive (Binary a k b) h = omega (arith, joint-positive k (strength k) h.1)
level-positive _ h = omega arith

pub whole-of : (extent : Extent) (e : Phrase) → IsOf extent e → IsWhole (least extent) (spelled_expression e []) e
whole-of WithCommas e h = record { expression = h; fits = level-positive e h; is_spelled = refl }
whole-of WithoutCommas e h = record { expression = h.0; fits = h.1; is_spelled = refl }

-- tokens with which no expression goes on

abbrev pub IsStop : Extent → Lexeme → Type 0
IsStop extent t = goes_on_with extent (joint t) ≡ false

pub stops : (facts : ExpressionFacts) (extent : Extent) (e : Phrase) (t : Lexeme) → IsOf extent e → IsStop extent t → GoesOn extent e t → ⊥
stops facts extent e t h s g =
    let k : goes_on_with extent (joint t) ≡ true = facts.goes_on extent (spelled_expression e []) e t (whole-of extent e h) g in
    absurd (cc)

unbroken-joint : (b : Bool) (j : Joint) → j ≢ StepJoint → unless_broken b j ≡ j
unbroken-joint true StepJoint n = absurd (n refl)
unbroken-joint true _ n = refl
unbroken-joint false StepJoint n = refl
unbroken-joint false _ n = refl

joint-of-mark : (m : Punctuator) (t : Lexeme) → mark_joint m ≢ StepJoint → IsMark m t → joint t ≡ mark_joint m
unfolding joint joint_of
joint-of-mark m t n h = ap (λ s. unless_broken t.after_break (joint_of s)) h ∙ unbroken-joint t.after_break (mark_joint m) n

joint-of-word : (w : ReservedWord) (t : Lexeme) → IsWord w t → joint t ≡ NoJoint
unfolding joint joint_of
joint-of-word w t h = ap (λ s. unless_broken t.after_break (joint_of s)) h ∙ unbroken-joint t.after_break NoJoint (λ e. absurd (cc))

none-goes : (extent : Extent) → goes_on_with extent NoJoint ≡ false
none-goes WithCommas = refl
none-goes WithoutCommas = refl

close-goes : (extent : Extent) → goes_on_with extent Close ≡ false
close-goes WithCommas = refl
close-goes WithoutCommas = refl

key-goes : (extent : Extent) → goes_on_with extent KeyEnd ≡ false
key-goes WithCommas = refl
key-goes WithoutCommas = refl

colon-goes : (extent : Extent) → goes_on_with extent ColonJoint ≡ false
colon-goes WithCommas = refl
colon-goes WithoutCommas = refl

pub semicolon-stops : (extent : Extent) (t : Lexeme) → IsMark Semicolon t → IsStop extent t
unfolding mark_joint
semicolon-stops extent t h = ap (λ j. goes_on_with extent j) (joint-of-mark Semicolon t (λ e. absurd (cc)) h) ∙ none-goes extent

pub brace-stops : (extent : Extent) (t : Lexeme) → IsMark CloseBrace t → IsStop extent t
unfolding mark_joint
brace-stops extent t h = ap (λ j. goes_on_with extent j) (joint-of-mark CloseBrace t (λ e. absurd (cc)) h) ∙ none-goes extent

pub close-stops : (extent : Extent) (t : Lexeme) → IsMark CloseParenthesis t → IsStop extent t
unfolding mark_joint
close-stops extent t h = ap (λ j. goes_on_with extent j) (joint-of-mark CloseParenthesis t (λ e. absurd (cc)) h) ∙ close-goes extent

pub bracket-stops : (extent : Extent) (t : Lexeme) → IsMark CloseBracket t → IsStop extent t
unfolding mark_joint
bracket-stops extent t h = ap (λ j. goes_on_with extent j) (joint-of-mark CloseBracket t (λ e. absurd (cc)) h) ∙ key-goes extent

pub colon-stops : (extent : Extent) (t : Lexeme) → IsMark Colon t → IsStop extent t
unfolding mark_joint
colon-stops extent t h = ap (λ j. goes_on_with extent j) (joint-of-mark Colon t (λ e. absurd (cc)) h) ∙ colon-goes extent

pub comma-stops : (t : Lexeme) → IsMark Comma t → IsStop WithoutCommas t
unfolding mark_joint
comma-stops t h = ap (λ j. goes_on_with WithoutCommas j) (joint-of-mark Comma t (λ e. absurd (cc)) h)

pub word-stops : (extent : Extent) (w : ReservedWord) (t : Lexeme) → IsWord w t → IsStop extent t
word-stops extent w t h = ap (λ j. goes_on_with extent j) (joint-of-word w t h) ∙ none-goes extent

-- what a statement's first token tells of it

pub data Kind : Type 0 where
  AtBlock AtVar AtEmpty AtIf AtWhile AtFor AtJump AtReturn AtExpression AtFunction AtNothing : Kind

unfoldable pub word_kind : ReservedWord → Kind
word_kind VarWord = AtVar
word_kind IfWord = AtIf
word_kind WhileWord = AtWhile
word_kind ForWord = AtFor
word_kind Break = AtJump
word_kind Continue = AtJump
word_kind ReturnWord = AtReturn
word_kind FunctionWord = AtFunction
word_kind This = AtExpression
word_kind Null = AtExpression
word_kind True = AtExpression
word_kind False = AtExpression
word_kind New = AtExpression
word_kind Delete = AtExpression
word_kind Void = AtExpression
word_kind Typeof = AtExpression
word_kind _ = AtNothing

unfoldable pub mark_kind : Punctuator → Kind
mark_kind OpenBrace = AtBlock
mark_kind Semicolon = AtEmpty
mark_kind OpenParenthesis = AtExpression
mark_kind Plus = AtExpression
mark_kind Minus = AtExpression
mark_kind Complement = AtExpression
mark_kind Not = AtExpression
mark_kind Increment = AtExpression
mark_kind Decrement = AtExpression
mark_kind _ = AtNothing

unfoldable pub symbol_kind : Symbol → Kind
symbol_kind (Word word) = word_kind word
symbol_kind (Mark mark) = mark_kind mark
symbol_kind _ = AtExpression

abbrev pub kind_of : Lexeme → Kind
kind_of t = symbol_kind t.symbol

word-front-kind : (w : ReservedWord) → word_front w ≢ NoFront → word_kind w ≡ AtExpression
unfolding word_front word_kind
word-front-kind This n = refl
word-front-kind Null n = refl
word-front-kind True n = refl
word-front-kind False n = refl
word-front-kind New n = refl
word-front-kind Delete n = refl
word-front-kind Void n = refl
word-front-kind Typeof n = refl
word-front-kind _ n = absurd (n refl)

mark-front-kind : (m : Punctuator) → mark_front m ≢ NoFront → mark_kind m ≡ AtExpression
unfolding mark_front mark_kind
mark-front-kind OpenParenthesis n = refl
mark-front-kind Plus n = refl
mark-front-kind Minus n = refl
mark-front-kind Complement n = refl
mark-front-kind Not n = refl
mark-front-kind Increment n = refl
mark-front-kind Decrement n = refl
mark-front-kind _ n = absurd (n refl)

symbol-front-kind : (s : Symbol) → front_of s ≢ NoFront → symbol_kind s ≡ AtExpression
unfolding front_of symbol_kind
symbol-front-kind (Word w) n = word-front-kind w n
symbol-front-kind (Mark m) n = mark-front-kind m n
symbol-front-kind _ n = refl

pub front-kind : (t : Lexeme) → front t ≢ NoFront → kind_of t ≡ AtExpression
front-kind t n = symbol-front-kind t.symbol n

word-kind : (w : ReservedWord) (t : Lexeme) → IsWord w t → kind_of t ≡ word_kind w
unfolding symbol_kind
word-kind w t h = ap symbol_kind h

mark-kind : (m : Punctuator) (t : Lexeme) → IsMark m t → kind_of t ≡ mark_kind m
unfolding symbol_kind
mark-kind m t h = ap symbol_kind h

pub var-kind : (t : Lexeme) → IsWord VarWord t → kind_of t ≡ AtVar
unfolding word_kind
var-kind t h = word-kind VarWord t h

pub if-kind : (t : Lexeme) → IsWord IfWord t → kind_of t ≡ AtIf
unfolding word_kind
if-kind t h = word-kind IfWord t h

pub while-kind : (t : Lexeme) → IsWord WhileWord t → kind_of t ≡ AtWhile
unfolding word_kind
while-kind t h = word-kind WhileWord t h

pub for-kind : (t : Lexeme) → IsWord ForWord t → kind_of t ≡ AtFor
unfolding word_kind
for-kind t h = word-kind ForWord t h

pub jump-kind : (t : Lexeme) → IsWord Break t ⊎ IsWord Continue t → kind_of t ≡ AtJump
unfolding word_kind
jump-kind t (inl h) = word-kind Break t h
jump-kind t (inr h) = word-kind Continue t h

pub return-kind : (t : Lexeme) → IsWord ReturnWord t → kind_of t ≡ AtReturn
unfolding word_kind
return-kind t h = word-kind ReturnWord t h

pub function-kind : (t : Lexeme) → IsWord FunctionWord t → kind_of t ≡ AtFunction
unfolding word_kind
function-kind t h = word-kind FunctionWord t h

pub else-kind : (t : Lexeme) → IsWord Else t → kind_of t ≡ AtNothing
unfolding word_kind
else-kind t h = word-kind Else t h

pub in-kind : (t : Lexeme) → IsWord In t → kind_of t ≡ AtNothing
unfolding word_kind
in-kind t h = word-kind In t h

pub open-kind : (t : Lexeme) → IsMark OpenBrace t → kind_of t ≡ AtBlock
unfolding mark_kind
open-kind t h = mark-kind OpenBrace t h

pub semicolon-kind : (t : Lexeme) → IsMark Semicolon t → kind_of t ≡ AtEmpty
unfolding mark_kind
semicolon-kind t h = mark-kind Semicolon t h

pub brace-kind : (t : Lexeme) → IsMark CloseBrace t → kind_of t ≡ AtNothing
unfolding mark_kind
brace-kind t h = mark-kind CloseBrace t h

pub close-kind : (t : Lexeme) → IsMark CloseParenthesis t → kind_of t ≡ AtNothing
unfolding mark_kind
close-kind t h = mark-kind CloseParenthesis t h
