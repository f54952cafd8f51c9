-- What a token begins: by cases, and an expression where it can stand in front of one.
use Rattle.std.proofs.Common.{◌≡◌, ◌≢◌, ◌≤◌, false, ◌⊎◌, inl, inr, List, [], ◌∷◌, refl, ap, arith}
use Rattle.es_lexer.specs.declared.words.ReservedWord.{ReservedWord}
use Rattle.es_lexer.specs.declared.words.ReservedWord.TheVariants.{Break, Continue, For as ForWord, Function as FunctionWord, If as IfWord, Return as ReturnWord, Var as VarWord, While as WhileWord, This, Null, True, False, New, Delete, Void, Typeof}
use Rattle.es_lexer.specs.declared.punctuators.Punctuator.{Punctuator}
use Rattle.es_lexer.specs.declared.punctuators.Punctuator.TheVariants.{OpenBrace, CloseParenthesis, OpenParenthesis, Semicolon, Plus, Minus, Complement, Not, Increment, Decrement}
use Rattle.es_expressions.specs.Roles.{front, front_of, word_front, mark_front, joint, joint_of, mark_joint}
use Rattle.es_expressions.specs.Phrases.{Phrase, spelled as spelled_expression}
use Rattle.es_expressions.specs.Phrases.Phrase.{Leaf, Group, NewPlain, Signed, Stepped}
use Rattle.es_expressions.specs.Grammar.{IsExpression, level}
use Rattle.es_expressions.specs.Beginnings.{Begins, least}
use Rattle.es_expressions.specs.declared.expressions.Extent.{Extent}
use Rattle.es_expressions.specs.declared.expressions.Extent.TheVariants.{WithCommas, WithoutCommas}
use Rattle.es_expressions.specs.declared.lexemes.Lexeme.{Lexeme}
use Rattle.es_expressions.specs.declared.lexemes.Symbol.{Symbol}
use Rattle.es_expressions.specs.declared.lexemes.Symbol.TheVariants.{Name, Word, Mark, Number, Words}
use Rattle.es_expressions.specs.declared.roles.Front.{Front}
use Rattle.es_expressions.specs.declared.roles.Front.TheVariants.{Whole, Group as GroupFront, Creation, Sign, Step as StepFront, Nothing as NoFront}
use Rattle.es_expressions.specs.declared.roles.Joint.TheVariants.{Close}
use Rattle.es_reader.specs.Grammar.{IsWord, IsMark}
use Rattle.es_reader.proofs.Tokens.{kind_of, symbol_kind, word_kind, mark_kind}
use Rattle.es_reader.proofs.Tokens.Kind.{AtExpression, AtNothing}

name_token : Lexeme
name_token = record { symbol = Name []; start = 0; «end» = 0; after_break = false }

close_token : Lexeme
close_token = record { symbol = Mark CloseParenthesis; start = 0; «end» = 0; after_break = false }

is-name : IsExpression (Leaf name_token)
unfolding name_token front_of
is-name = refl

is-close : joint close_token ≡ Close
unfolding close_token joint joint_of mark_joint
is-close = refl

least-bound : (extent : Extent) → least extent ≤ 2
least-bound WithCommas = omega arith
least-bound WithoutCommas = omega arith

begins-with : (extent : Extent) (e : Phrase) (t : Lexeme) (more : List Lexeme) → IsExpression e → 2 ≤ level e → spelled_expression e [] ≡ t ∷ more → Begins (least extent) (t ∷ [])
begins-with extent e t more h l same = record {
  more = more;
  whole_phrase = e;
  whole = record { expression = h; fits = (let b : least extent ≤ 2 = least-bound extent in omega arith); is_spelled = same };
}

front-begins : (extent : Extent) (t : Lexeme) (f : Front) → front t ≡ f → f ≢ NoFront → Begins (least extent) (t ∷ [])
unfolding name_token
front-begins extent t Whole e n = begins-with extent (Leaf t) t [] e (omega arith) refl
front-begins extent t GroupFront e n = begins-with extent (Group t (Leaf name_token) close_token) t (name_token ∷ (close_token ∷ [])) (e, is-name, is-close) (omega arith) refl
front-begins extent t Creation e n = begins-with extent (NewPlain t (Leaf name_token)) t (name_token ∷ []) (e, is-name, omega arith) (omega arith) refl
front-begins extent t Sign e n = begins-with extent (Signed t (Leaf name_token)) t (name_token ∷ []) (e, is-name, omega arith) (omega arith) refl
front-begins extent t StepFront e n = begins-with extent (Stepped t (Leaf name_token)) t (name_token ∷ []) (e, is-name, refl) (omega arith) refl
front-begins extent t NoFront e n = absurd (n refl)

-- a token that can stand in front of an expression begins one
pub begins-front : (extent : Extent) (t : Lexeme) → front t ≢ NoFront → Begins (least extent) (t ∷ [])
begins-front extent t n = front-begins extent t (front t) refl n

word-kind-front : (w : ReservedWord) → word_kind w ≡ AtExpression → word_front w ≢ NoFront
unfolding word_kind word_front
word-kind-front This k e = absurd (cc)
word-kind-front Null k e = absurd (cc)
word-kind-front True k e = absurd (cc)
word-kind-front False k e = absurd (cc)
word-kind-front New k e = absurd (cc)
word-kind-front Delete k e = absurd (cc)
word-kind-front Void k e = absurd (cc)
word-kind-front Typeof k e = absurd (cc)
word-kind-front _ k e = absurd (cc)

mark-kind-front : (m : Punctuator) → mark_kind m ≡ AtExpression → mark_front m ≢ NoFront
unfolding mark_kind mark_front
mark-kind-front OpenParenthesis k e = absurd (cc)
mark-kind-front Plus k e = absurd (cc)
mark-kind-front Minus k e = absurd (cc)
mark-kind-front Complement k e = absurd (cc)
mark-kind-front Not k e = absurd (cc)
mark-kind-front Increment k e = absurd (cc)
mark-kind-front Decrement k e = absurd (cc)
mark-kind-front _ k e = absurd (cc)

symbol-kind-front : (s : Symbol) → symbol_kind s ≡ AtExpression → front_of s ≢ NoFront
unfolding symbol_kind front_of
symbol-kind-front (Word w) k e = word-kind-front w k e
symbol-kind-front (Mark m) k e = mark-kind-front m k e
symbol-kind-front (Name n) k e = absurd (cc)
symbol-kind-front (Number n) k e = absurd (cc)
symbol-kind-front (Words n) k e = absurd (cc)

pub begins-kind : (extent : Extent) (t : Lexeme) → kind_of t ≡ AtExpression → Begins (least extent) (t ∷ [])
begins-kind extent t k = begins-front extent t (symbol-kind-front t.symbol k)

-- what the token begins

pub data TokenCase (t : Lexeme) : Type 0 where
  BeginsBlock : IsMark OpenBrace t → TokenCase t
  BeginsVar : IsWord VarWord t → TokenCase t
  BeginsEmpty : IsMark Semicolon t → TokenCase t
  BeginsIf : IsWord IfWord t → TokenCase t
  BeginsWhile : IsWord WhileWord t → TokenCase t
  BeginsFor : IsWord ForWord t → TokenCase t
  BeginsJump : IsWord Break t ⊎ IsWord Continue t → TokenCase t
  BeginsReturn : IsWord ReturnWord t → TokenCase t
  BeginsFunction : IsWord FunctionWord t → TokenCase t
  BeginsExpression : kind_of t ≡ AtExpression → TokenCase t
  BeginsNothing : kind_of t ≡ AtNothing → TokenCase t

word-case : (t : Lexeme) (w : ReservedWord) → IsWord w t → symbol_kind t.symbol ≡ word_kind w → TokenCase t
unfolding word_kind
word-case t VarWord e k = BeginsVar e
word-case t IfWord e k = BeginsIf e
word-case t WhileWord e k = BeginsWhile e
word-case t ForWord e k = BeginsFor e
word-case t Break e k = BeginsJump (inl e)
word-case t Continue e k = BeginsJump (inr e)
word-case t ReturnWord e k = BeginsReturn e
word-case t FunctionWord e k = BeginsFunction e
word-case t This e k = BeginsExpression k
word-case t Null e k = BeginsExpression k
word-case t True e k = BeginsExpression k
word-case t False e k = BeginsExpression k
word-case t New e k = BeginsExpression k
word-case t Delete e k = BeginsExpression k
word-case t Void e k = BeginsExpression k
word-case t Typeof e k = BeginsExpression k
word-case t _ e k = BeginsNothing k

mark-case : (t : Lexeme) (m : Punctuator) → IsMark m t → symbol_kind t.symbol ≡ mark_kind m → TokenCase t
unfolding mark_kind
mark-case t OpenBrace e k = BeginsBlock e
mark-case t Semicolon e k = BeginsEmpty e
mark-case t OpenParenthesis e k = BeginsExpression k
mark-case t Plus e k = BeginsExpression k
mark-case t Minus e k = BeginsExpression k
mark-case t Complement e k = BeginsExpression k
mark-case t Not e k = BeginsExpression k
mark-case t Increment e k = BeginsExpression k
mark-case t Decrement e k = BeginsExpression k
mark-case t _ e k = BeginsNothing k

symbol-case : (t : Lexeme) (s : Symbol) → t.symbol ≡ s → TokenCase t
unfolding symbol_kind
symbol-case t (Word w) e = word-case t w e (ap symbol_kind e)
symbol-case t (Mark m) e = mark-case t m e (ap symbol_kind e)
symbol-case t (Name n) e = BeginsExpression (ap symbol_kind e)
symbol-case t (Number n) e = BeginsExpression (ap symbol_kind e)
symbol-case t (Words n) e = BeginsExpression (ap symbol_kind e)

pub token-case : (t : Lexeme) → TokenCase t
token-case t = symbol-case t t.symbol refl
