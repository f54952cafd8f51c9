-- Parts of statements and of heads, read up to some token, go on to whole ones.
pub use Rattle.es_reader.specs.Stops.{FirstFrom, DeclarationFrom, DeclarationsFrom, SimpleFrom, HeadFrom}
use Rattle.std.proofs.Common.{◌≡◌, true, false, ◌⊎◌, List, [], ◌∷◌, ◌++◌, Option, Some, None, refl, sym, ◌∙◌, ap, subst, arith, append_assoc}
use Rattle.es_lexer.specs.declared.words.ReservedWord.TheVariants.{Break, Continue, For as ForWord, If as IfWord, In, Return as ReturnWord, Var as VarWord, While as WhileWord}
use Rattle.es_lexer.specs.declared.punctuators.Punctuator.TheVariants.{OpenParenthesis, CloseParenthesis, Semicolon, Comma, Assign as AssignMark}
use Rattle.es_expressions.specs.Roles.{front_of}
use Rattle.es_expressions.specs.Phrases.{Phrase, spelled as spelled_expression}
use Rattle.es_expressions.specs.Phrases.Phrase.{Leaf}
use Rattle.es_expressions.specs.Grammar.{IsExpression}
use Rattle.es_expressions.specs.Beginnings.{Begins as BeginsExpression, least}
use Rattle.es_expressions.specs.declared.expressions.Extent.{Extent}
use Rattle.es_expressions.specs.declared.expressions.Extent.TheVariants.{WithCommas, WithoutCommas}
use Rattle.es_expressions.specs.declared.lexemes.Lexeme.{Lexeme}
use Rattle.es_expressions.specs.declared.lexemes.Symbol.{Symbol}
use Rattle.es_expressions.specs.declared.lexemes.Symbol.TheVariants.{Name, Mark}
use Rattle.es_reader.specs.Statements.{Declaration, FurtherDeclaration, Declarations, First, Visitor, spelled_part, spelled_declaration, spelled_others, spelled_declarations, spelled_first, spelled_visitor}
use Rattle.es_reader.specs.Statements.Declaration.{Bare, Valued}
use Rattle.es_reader.specs.Statements.Simple.{Var, Expression, Jump, Return}
use Rattle.es_reader.specs.Statements.First.{NoFirst, FirstExpression, FirstVar}
use Rattle.es_reader.specs.Statements.Head.{If, While, For, ForIn}
use Rattle.es_reader.specs.Statements.Statement.{Alone}
use Rattle.es_reader.specs.Grammar.{IsWord, IsMark, IsName, IsOnLine, MayBe, BeginsOnLine, IsDeclaration, AreFurther, AreDeclarations, Setting, IsFirst, IsVisitor}
use Rattle.es_reader.specs.Programs.{Begins}
use Rattle.es_reader.specs.Openings.{Opening, Outer, place_in, written, AreRead, first_of}
use Rattle.es_reader.proofs.ExpressionFacts.{ExpressionFacts}
use Rattle.es_reader.proofs.Spelling.{expression-spelled, declarations-spelled, part-onward, first-onward, visitor-onward}
use Rattle.es_reader.proofs.Steps.{begins-statement, begins-head}

token : Symbol → Lexeme
token symbol = record { symbol = symbol; start = 0; «end» = 0; after_break = false }

semicolon : Lexeme
semicolon = token (Mark Semicolon)

is-semicolon : IsMark Semicolon semicolon
unfolding semicolon token
is-semicolon = refl

semicolon-line : IsOnLine semicolon
unfolding semicolon token
semicolon-line = refl

close : Lexeme
close = token (Mark CloseParenthesis)

is-close : IsMark CloseParenthesis close
unfolding close token
is-close = refl

open_token : Lexeme
open_token = token (Mark OpenParenthesis)

is-open : IsMark OpenParenthesis open_token
unfolding open_token token
is-open = refl

name_token : Lexeme
name_token = token (Name [])

is-name-token : IsName name_token
unfolding name_token token
is-name-token = refl

-- an expression begins with no tokens
is-leaf : IsExpression (Leaf name_token)
unfolding name_token token front_of
is-leaf = refl

pub begins-none : (extent : Extent) → BeginsExpression (least extent) []
begins-none WithCommas = record {
  more = name_token ∷ [];
  whole_phrase = Leaf name_token;
  whole = record { expression = is-leaf; fits = omega arith; is_spelled = refl };
}
begins-none WithoutCommas = record {
  more = name_token ∷ [];
  whole_phrase = Leaf name_token;
  whole = record { expression = is-leaf; fits = omega arith; is_spelled = refl };
}

-- the expression that goes on, in front of others
spelled-from : (e : Phrase) (x more rest : List Lexeme) → spelled_expression e [] ≡ x ++ more → spelled_expression e rest ≡ x ++ (more ++ rest)
spelled-from e x more rest h = expression-spelled e rest ∙ (ap (λ r. r ++ rest) h ∙ append_assoc x more rest)

-- declarations

pub declaration-none : DeclarationFrom []
declaration-none = record { declaration = Bare name_token; left = name_token ∷ []; is = is-name-token; same = refl }

pub declaration-named : (name : Lexeme) → IsName name → DeclarationFrom (name ∷ [])
declaration-named name n = record { declaration = Bare name; left = []; is = n; same = refl }

pub declaration-valued : (name operator : Lexeme) (x : List Lexeme) → IsName name → IsMark AssignMark operator → BeginsExpression (least WithoutCommas) x → DeclarationFrom (name ∷ (operator ∷ x))
declaration-valued name operator x n o b = record {
  declaration = Valued name operator b.whole_phrase;
  left = b.more;
  is = (n, o, (b.whole.expression, b.whole.fits));
  same = ap (λ r. name ∷ (operator ∷ r)) b.whole.is_spelled;
}

pub declaration-assigned : (name operator : Lexeme) → IsName name → IsMark AssignMark operator → DeclarationFrom (name ∷ (operator ∷ []))
declaration-assigned name operator n o = declaration-valued name operator [] n o (begins-none WithoutCommas)

pub declarations-first : (read : List Lexeme) → DeclarationFrom read → DeclarationsFrom read
declarations-first read d = record {
  declarations = record { first = d.declaration; others = [] };
  left = d.left;
  are = (d.is, tt);
  same = d.same;
}

others-more : (ds : List FurtherDeclaration) (comma : Lexeme) (d : Declaration) (rest : List Lexeme) → spelled_others (ds ++ (record { comma = comma; declaration = d } ∷ [])) rest ≡ spelled_others ds (comma ∷ spelled_declaration d rest)
others-more [] comma d rest = refl
others-more (f ∷ ds) comma d rest = ap (λ r. f.comma ∷ spelled_declaration f.declaration r) (others-more ds comma d rest)

are-others-more : (ds : List FurtherDeclaration) (comma : Lexeme) (d : Declaration) → AreFurther ds → IsMark Comma comma → IsDeclaration d → AreFurther (ds ++ (record { comma = comma; declaration = d } ∷ []))
are-others-more [] comma d h c i = (c, i, tt)
are-others-more (f ∷ ds) comma d h c i = (h.0, h.1, are-others-more ds comma d h.2 c i)

-- declarations and one more behind them
abbrev pub declared_more : Declarations → Lexeme → Declaration → Declarations
declared_more ds comma d = record { first = ds.first; others = ds.others ++ (record { comma = comma; declaration = d } ∷ []) }

pub declared-more : (ds : Declarations) (comma : Lexeme) (d : Declaration) (rest : List Lexeme) → spelled_declarations (declared_more ds comma d) rest ≡ spelled_declarations ds (comma ∷ spelled_declaration d rest)
declared-more ds comma d rest = ap (λ r. spelled_declaration ds.first r) (others-more ds.others comma d rest)

pub are-declared-more : (ds : Declarations) (comma : Lexeme) (d : Declaration) → AreDeclarations ds → IsMark Comma comma → IsDeclaration d → AreDeclarations (declared_more ds comma d)
are-declared-more ds comma d h c i = (h.0, are-others-more ds.others comma d h.1 c i)

pub declarations-further : (ds : Declarations) (comma : Lexeme) (read : List Lexeme) → AreDeclarations ds → IsMark Comma comma → DeclarationFrom read → DeclarationsFrom (spelled_declarations ds (comma ∷ read))
declarations-further ds comma read h c d = record {
  declarations = declared_more ds comma d.declaration;
  left = d.left;
  are = are-declared-more ds comma d.declaration h c d.is;
  same = declared-more ds comma d.declaration []
      ∙ (ap (λ r. spelled_declarations ds (comma ∷ r)) d.same
      ∙ (declarations-spelled ds (comma ∷ (read ++ d.left))
      ∙ (sym (append_assoc (spelled_declarations ds []) (comma ∷ read) d.left)
      ∙ ap (λ r. r ++ d.left) (sym (declarations-spelled ds (comma ∷ read))))));
}

-- statements that hold no other

pub var-from : (p : Setting) (word : Lexeme) (read : List Lexeme) → IsWord VarWord word → DeclarationsFrom read → SimpleFrom p (word ∷ read)
var-from p word read w d = record {
  simple = Var word d.declarations (Some semicolon);
  left = d.left ++ (semicolon ∷ []);
  is = λ rest. (w, d.are, is-semicolon);
  same = ap (λ r. word ∷ r) (declarations-spelled d.declarations (semicolon ∷ []) ∙ (ap (λ r. r ++ (semicolon ∷ [])) d.same ∙ append_assoc read d.left (semicolon ∷ [])));
}

pub expression-from : (p : Setting) (x : List Lexeme) → BeginsExpression (least WithCommas) x → SimpleFrom p x
expression-from p x b = record {
  simple = Expression b.whole_phrase (Some semicolon);
  left = b.more ++ (semicolon ∷ []);
  is = λ rest. (b.whole.expression, is-semicolon);
  same = spelled-from b.whole_phrase x b.more (semicolon ∷ []) b.whole.is_spelled;
}

pub jump-from : (p : Setting) (word : Lexeme) → IsWord Break word ⊎ IsWord Continue word → p.in_loop ≡ true → SimpleFrom p (word ∷ [])
jump-from p word w l = record { simple = Jump word (Some semicolon); left = semicolon ∷ []; is = λ rest. (w, l, is-semicolon); same = refl }

pub return-from : (p : Setting) (word : Lexeme) → IsWord ReturnWord word → p.in_function ≡ true → SimpleFrom p (word ∷ [])
return-from p word w f = record { simple = Return word None (Some semicolon); left = semicolon ∷ []; is = λ rest. (w, f, (is-semicolon, semicolon-line)); same = refl }

pub value-from : (p : Setting) (word first : Lexeme) (x : List Lexeme) → IsWord ReturnWord word → p.in_function ≡ true → IsOnLine first → BeginsExpression (least WithCommas) (first ∷ x) → SimpleFrom p (word ∷ (first ∷ x))
value-from p word first x w f l b = record {
  simple = Return word (Some b.whole_phrase) (Some semicolon);
  left = b.more ++ (semicolon ∷ []);
  is = λ rest. (w, f, b.whole.expression, subst (λ r. BeginsOnLine r) (sym b.whole.is_spelled) l, is-semicolon);
  same = ap (λ r. word ∷ r) (spelled-from b.whole_phrase (first ∷ x) b.more (semicolon ∷ []) b.whole.is_spelled);
}

-- what is read, and some tokens of such a statement behind it
pub begins-simple-from : (facts : ExpressionFacts) (os : List Opening) (outer : Outer) (others : List Lexeme) (t : Lexeme) (read : List Lexeme) → AreRead os outer others → first_of others ≡ Some t → SimpleFrom (place_in os outer) (t ∷ read) → Begins (written os outer (t ∷ read))
begins-simple-from facts os outer others t read r e f =
    begins-statement facts os outer others (Alone f.simple) (t ∷ read) f.left r (e ∙ sym (ap first_of f.same)) (λ rest c. f.is rest) f.same

-- heads

pub begins-head-from : (facts : ExpressionFacts) (os : List Opening) (outer : Outer) (others : List Lexeme) (t : Lexeme) (read : List Lexeme) → AreRead os outer others → first_of others ≡ Some t → HeadFrom (t ∷ read) → Begins (written os outer (t ∷ read))
begins-head-from facts os outer others t read r e f =
    begins-head facts os outer others f.head (t ∷ read) f.left r (e ∙ sym (ap first_of f.same)) f.is f.same

-- with no more tokens at its end
fewer : (t : Lexeme) (read : List Lexeme) → HeadFrom (read ++ (t ∷ [])) → HeadFrom read
fewer t read f = record { head = f.head; left = t ∷ f.left; is = f.is; same = f.same ∙ append_assoc read (t ∷ []) f.left }

pub if-test-from : (word open_mark : Lexeme) (x : List Lexeme) → IsWord IfWord word → IsMark OpenParenthesis open_mark → BeginsExpression (least WithCommas) x → HeadFrom (word ∷ (open_mark ∷ x))
if-test-from word open_mark x w o b = record {
  head = If word open_mark b.whole_phrase close;
  left = b.more ++ (close ∷ []);
  is = (w, o, b.whole.expression, is-close);
  same = ap (λ r. word ∷ (open_mark ∷ r)) (spelled-from b.whole_phrase x b.more (close ∷ []) b.whole.is_spelled);
}

pub if-open-from : (word open_mark : Lexeme) → IsWord IfWord word → IsMark OpenParenthesis open_mark → HeadFrom (word ∷ (open_mark ∷ []))
if-open-from word open_mark w o = if-test-from word open_mark [] w o (begins-none WithCommas)

pub if-from : (word : Lexeme) → IsWord IfWord word → HeadFrom (word ∷ [])
if-from word w = fewer open_token (word ∷ []) (if-open-from word open_token w is-open)

pub while-test-from : (word open_mark : Lexeme) (x : List Lexeme) → IsWord WhileWord word → IsMark OpenParenthesis open_mark → BeginsExpression (least WithCommas) x → HeadFrom (word ∷ (open_mark ∷ x))
while-test-from word open_mark x w o b = record {
  head = While word open_mark b.whole_phrase close;
  left = b.more ++ (close ∷ []);
  is = (w, o, b.whole.expression, is-close);
  same = ap (λ r. word ∷ (open_mark ∷ r)) (spelled-from b.whole_phrase x b.more (close ∷ []) b.whole.is_spelled);
}

pub while-open-from : (word open_mark : Lexeme) → IsWord WhileWord word → IsMark OpenParenthesis open_mark → HeadFrom (word ∷ (open_mark ∷ []))
while-open-from word open_mark w o = while-test-from word open_mark [] w o (begins-none WithCommas)

pub while-from : (word : Lexeme) → IsWord WhileWord word → HeadFrom (word ∷ [])
while-from word w = fewer open_token (word ∷ []) (while-open-from word open_token w is-open)

-- the head of a `for`: what stands first, and then two semicolons

pub first-none : FirstFrom []
first-none = record { first = NoFirst; left = []; is = tt; same = refl }

pub first-expression-from : (x : List Lexeme) → BeginsExpression (least WithCommas) x → FirstFrom x
first-expression-from x b = record { first = FirstExpression b.whole_phrase; left = b.more; is = b.whole.expression; same = b.whole.is_spelled }

pub first-var-from : (word : Lexeme) (read : List Lexeme) → IsWord VarWord word → DeclarationsFrom read → FirstFrom (word ∷ read)
first-var-from word read w d = record { first = FirstVar word d.declarations; left = d.left; is = (w, d.are); same = ap (λ r. word ∷ r) d.same }

pub for-first-from : (word open_mark : Lexeme) (read : List Lexeme) → IsWord ForWord word → IsMark OpenParenthesis open_mark → FirstFrom read → HeadFrom (word ∷ (open_mark ∷ read))
for-first-from word open_mark read w o f =
    let end_part : List Lexeme = semicolon ∷ (semicolon ∷ (close ∷ [])) in
    record {
      head = For word open_mark f.first semicolon None semicolon None close;
      left = f.left ++ end_part;
      is = (w, o, f.is, is-semicolon, tt, is-semicolon, tt, is-close);
      same = ap (λ r. word ∷ (open_mark ∷ r)) (first-onward f.first [] end_part ∙ (ap (λ r. r ++ end_part) f.same ∙ append_assoc read f.left end_part));
    }

pub for-open-from : (word open_mark : Lexeme) → IsWord ForWord word → IsMark OpenParenthesis open_mark → HeadFrom (word ∷ (open_mark ∷ []))
for-open-from word open_mark w o = for-first-from word open_mark [] w o first-none

pub for-from : (word : Lexeme) → IsWord ForWord word → HeadFrom (word ∷ [])
for-from word w = fewer open_token (word ∷ []) (for-open-from word open_token w is-open)

pub for-test-from : (word open_mark : Lexeme) (first : First) (mark : Lexeme) (x : List Lexeme) → IsWord ForWord word → IsMark OpenParenthesis open_mark → IsFirst first → IsMark Semicolon mark → BeginsExpression (least WithCommas) x → HeadFrom (word ∷ (open_mark ∷ spelled_first first (mark ∷ x)))
for-test-from word open_mark first mark x w o f m b =
    let end_part : List Lexeme = semicolon ∷ (close ∷ []) in
    record {
      head = For word open_mark first mark (Some b.whole_phrase) semicolon None close;
      left = b.more ++ end_part;
      is = (w, o, f, m, b.whole.expression, is-semicolon, tt, is-close);
      same = ap (λ r. word ∷ (open_mark ∷ r))
          (ap (λ r. spelled_first first (mark ∷ r)) (spelled-from b.whole_phrase x b.more end_part b.whole.is_spelled)
          ∙ first-onward first (mark ∷ x) (b.more ++ end_part));
    }

pub for-step-from : (word open_mark : Lexeme) (first : First) (mark : Lexeme) (test : Option Phrase) (second : Lexeme) (x : List Lexeme) → IsWord ForWord word → IsMark OpenParenthesis open_mark → IsFirst first → IsMark Semicolon mark → MayBe test → IsMark Semicolon second → BeginsExpression (least WithCommas) x → HeadFrom (word ∷ (open_mark ∷ spelled_first first (mark ∷ spelled_part test (second ∷ x))))
for-step-from word open_mark first mark test second x w o f m t n b =
    let end_part : List Lexeme = close ∷ [] in
    record {
      head = For word open_mark first mark test second (Some b.whole_phrase) close;
      left = b.more ++ end_part;
      is = (w, o, f, m, t, n, b.whole.expression, is-close);
      same = ap (λ r. word ∷ (open_mark ∷ r))
          (ap (λ r. spelled_first first (mark ∷ spelled_part test (second ∷ r))) (spelled-from b.whole_phrase x b.more end_part b.whole.is_spelled)
          ∙ (ap (λ r. spelled_first first (mark ∷ r)) (part-onward test (second ∷ x) (b.more ++ end_part))
          ∙ first-onward first (mark ∷ spelled_part test (second ∷ x)) (b.more ++ end_part)));
    }

pub for-object-from : (word open_mark : Lexeme) (visitor : Visitor) (in_word : Lexeme) (x : List Lexeme) → IsWord ForWord word → IsMark OpenParenthesis open_mark → IsVisitor visitor → IsWord In in_word → BeginsExpression (least WithCommas) x → HeadFrom (word ∷ (open_mark ∷ spelled_visitor visitor (in_word ∷ x)))
for-object-from word open_mark visitor in_word x w o v i b =
    let end_part : List Lexeme = close ∷ [] in
    record {
      head = ForIn word open_mark visitor in_word b.whole_phrase close;
      left = b.more ++ end_part;
      is = (w, o, v, i, b.whole.expression, is-close);
      same = ap (λ r. word ∷ (open_mark ∷ r))
          (ap (λ r. spelled_visitor visitor (in_word ∷ r)) (spelled-from b.whole_phrase x b.more end_part b.whole.is_spelled)
          ∙ visitor-onward visitor (in_word ∷ x) (b.more ++ end_part));
    }
