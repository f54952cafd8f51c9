-- What the trees of a program by the grammar mean is what its phrases mean.
use Rattle.std.proofs.Common.{◌≡◌, ◌⊎◌, ℕ, Bool, true, false, List, [], ◌∷◌, Option, Some, None, inl, inr, refl, ap, sym, map}
use Rattle.es_lexer.specs.declared.punctuators.Punctuator.{Punctuator}
use Rattle.es_lexer.specs.declared.punctuators.Punctuator.TheVariants as mark
use Rattle.es_lexer.specs.declared.words.ReservedWord.TheVariants as word
use Rattle.es_expressions.specs.Grammar.{IsExpression, is_target}
use Rattle.es_expressions.specs.Meaning.{leaf_form, meaning, node, parts_of, tree_of}
use Rattle.es_expressions.specs.Phrases.{Phrase}
use Rattle.es_expressions.specs.Phrases.Phrase.{Leaf, Group, Index as IndexPhrase, Member as MemberPhrase, CallEmpty, CallWith, NewPlain, NewEmpty, NewWith, Postfix, Signed as SignedPhrase, Stepped as SteppedPhrase, Binary as BinaryPhrase, Choice as ChoicePhrase, Assign as AssignPhrase, Comma as CommaPhrase}
use Rattle.es_expressions.specs.Roles.{front_of, is_name, joint, joint_of, mark_front, mark_joint, strength, unless_broken, word_front}
use Rattle.es_expressions.specs.Trees.{Tree, Trees, and_then}
use Rattle.es_expressions.specs.Trees.Tree.{TreeOf}
use Rattle.es_expressions.specs.Trees.Trees.{NoTrees, OneMore as OneMoreTree}
use Rattle.es_expressions.specs.declared.lexemes.Lexeme.{Lexeme}
use Rattle.es_expressions.specs.declared.lexemes.Symbol.{Symbol}
use Rattle.es_expressions.specs.declared.lexemes.Symbol.TheVariants as symbol
use Rattle.es_expressions.specs.declared.nodes.Form.{Form}
use Rattle.es_expressions.specs.declared.nodes.Form.TheVariants as form
use Rattle.es_expressions.specs.declared.roles.Front.TheVariants as front_is
use Rattle.es_expressions.specs.declared.roles.Joint.{Joint}
use Rattle.es_expressions.specs.declared.roles.Joint.TheVariants as joint_is
use Rattle.es_reader.specs.Grammar.{AreDeclarations, AreFurther, AreItems, AreStatements, IsDeclaration, IsFirst, IsFunction, IsHead, IsProgram, IsSimple, IsStatement, IsVisitor, MayBe, Setting, is_if, name_of}
use Rattle.es_reader.specs.Meaning.{declaration_tree, declaration_trees, end_with, first_tree, further_trees, head_form, head_start, jump_form, part_tree, simple_tree, statement_end, statement_tree, statement_trees, visitor_tree, with_head}
use Rattle.es_reader.specs.Programs.{functions_of, top_trees}
use Rattle.es_reader.specs.Statements as written
use Rattle.es_reader.specs.Statements.Declaration.{Bare, Valued}
use Rattle.es_reader.specs.Statements.First.{NoFirst as NoFirstWritten, FirstExpression as FirstExpressionWritten, FirstVar as FirstVarWritten}
use Rattle.es_reader.specs.Statements.Head.{If as IfWritten, While as WhileWritten, For as ForWritten, ForIn as ForInWritten}
use Rattle.es_reader.specs.Statements.Item.{Function as FunctionWritten, Single}
use Rattle.es_reader.specs.Statements.Simple.{Var as VarWritten, Empty as EmptyWritten, Expression as ExpressionWritten, Jump, Return as ReturnWritten}
use Rattle.es_reader.specs.Statements.Statement.{Alone, Block as BlockWritten, Headed, IfElse as IfElseWritten}
use Rattle.es_reader.specs.Statements.Statements.{NoStatements as NoStatementsWritten, OneMore as OneMoreWritten}
use Rattle.es_reader.specs.Statements.Visitor.{Target as TargetWritten, Variable}
use Rattle.es_shapes.specs.declared.operators.Operator.TheVariants as the
use Rattle.es_shapes.specs.Meanings.{IsName, IsStep, IsTarget, Means, MeansAll, MeansAssigned, MeansDeclaration, MeansDeclarations, MeansElse, MeansFirst, MeansFunction, MeansFunctions, MeansFurther, MeansHeaded, MeansJoined, MeansJump, MeansLeaf, MeansPart, MeansProgram, MeansSigned, MeansSimple, MeansStatement, MeansTop, MeansVisitor, Meant, list_of, with_last}
use Rattle.es_shapes.specs.Sources.{assigned_by, declarator_of, declarators_of, expression_by, expression_of, expressions_of, first_by, first_of, function_of, is_decrement, joined_by, of_mark, of_name, of_one, of_symbol, of_two, part_by, part_of, program_of, signed_by, statement_of, statements_of, target_of, value_in, visitor_by, visitor_of}
use Rattle.es_shapes.specs.Syntax.{Declarator, Expression}
use Rattle.es_shapes.specs.Syntax.Expression.{Member, Stepped}
use Rattle.es_shapes.specs.Syntax.Expressions.{NoExpressions, OneMore}
use Rattle.es_shapes.specs.Syntax.First.{FirstExpression}
use Rattle.es_shapes.specs.Syntax.Visitor.{VisitTarget}

-- ---- tokens

kept : (broken : Bool) (j k : Joint) → unless_broken broken j ≡ k
    → (k ≡ joint_is.Nothing → ⊥) → j ≡ k
kept true joint_is.Step k h some = absurd (some (sym h))
kept broken j k h some = h

-- the joint of a token that does something behind an operand is its symbol's
joint-kept : (token : Lexeme) (k : Joint) → joint token ≡ k → (k ≡ joint_is.Nothing → ⊥)
    → joint_of token.symbol ≡ k
unfolding joint
joint-kept token k h some = kept token.after_break (joint_of token.symbol) k h some

mark-not-whole : (m : Punctuator) → mark_front m ≡ front_is.Whole → ⊥
unfolding mark_front
mark-not-whole mark.Plus h = cc
mark-not-whole m h = cc

leaf-is : (s : Symbol) → front_of s ≡ front_is.Whole
    → MeansLeaf s (expression_by (leaf_form s) (Some s) NoExpressions)
unfolding front_of word_front
leaf-is (symbol.Name name) h = refl
leaf-is (symbol.Number number) h = refl
leaf-is (symbol.Words words) h = refl
leaf-is (symbol.Word word.This) h = refl
leaf-is (symbol.Word word.Null) h = refl
leaf-is (symbol.Word word.True) h = refl
leaf-is (symbol.Word word.False) h = refl
leaf-is (symbol.Word other) h = absurd (cc)
leaf-is (symbol.Mark m) h = absurd (mark-not-whole m h)

name-is : (s : Symbol) → is_name s ≡ true → IsName s (name_of s)
name-is (symbol.Name name) h = refl
name-is s h = absurd (cc)

member-is : (s : Symbol) (base : Expression) → is_name s ≡ true
    → of_name (λ name. of_one (λ base. Member base name) (OneMore base NoExpressions)) (Some s)
    ≡ Member base (name_of s)
member-is (symbol.Name name) base h = refl
member-is s base h = absurd (cc)

pub record IsStepOf (in_front : Bool) (s : Symbol) (operand found : Expression) : Type 0 where
  pub down : Bool
  pub step : IsStep s down
  pub is : found ≡ Stepped in_front down (target_of operand)

behind-step : (s : Symbol) (operand : Expression) → joint_of s ≡ joint_is.Step
    → IsStepOf false s operand (of_mark (λ mark. of_one (λ operand.
    Stepped false (is_decrement mark) (target_of operand)) (OneMore operand NoExpressions)) (Some s))
unfolding joint_of mark_joint
behind-step (symbol.Mark mark.Increment) operand h = record { down = false; step = refl; is = refl }
behind-step (symbol.Mark mark.Decrement) operand h = record { down = true; step = refl; is = refl }
behind-step s operand h = absurd (cc)

in-front-step : (s : Symbol) (operand : Expression) → front_of s ≡ front_is.Step
    → IsStepOf true s operand
    (of_symbol (λ symbol. of_one (signed_by symbol) (OneMore operand NoExpressions)) (Some s))
unfolding front_of mark_front word_front
in-front-step (symbol.Mark mark.Increment) operand h = record { down = false; step = refl; is = refl }
in-front-step (symbol.Mark mark.Decrement) operand h = record { down = true; step = refl; is = refl }
in-front-step (symbol.Word word.This) operand h = absurd (cc)
in-front-step s operand h = absurd (cc)

signed-is : (s : Symbol) (operand : Expression) → front_of s ≡ front_is.Sign
    → MeansSigned s operand
    (of_symbol (λ symbol. of_one (signed_by symbol) (OneMore operand NoExpressions)) (Some s))
unfolding front_of mark_front word_front
signed-is (symbol.Mark mark.Plus) operand h = refl
signed-is (symbol.Mark mark.Minus) operand h = refl
signed-is (symbol.Mark mark.Complement) operand h = refl
signed-is (symbol.Mark mark.Not) operand h = refl
signed-is (symbol.Word word.Delete) operand h = refl
signed-is (symbol.Word word.Typeof) operand h = refl
signed-is (symbol.Word word.Void) operand h = refl
signed-is s operand h = absurd (cc)

joined-is : (s : Symbol) (n : ℕ) (a b : Expression) → joint_of s ≡ joint_is.Operator n
    → MeansJoined s a b
    (of_mark (λ mark. of_two (joined_by mark) (OneMore a (OneMore b NoExpressions))) (Some s))
unfolding joint_of mark_joint
joined-is (symbol.Mark mark.LogicalAnd) n a b h = refl
joined-is (symbol.Mark mark.LogicalOr) n a b h = refl
joined-is (symbol.Mark mark.Times) n a b h = (the.Times, refl, refl)
joined-is (symbol.Mark mark.Divide) n a b h = (the.Divide, refl, refl)
joined-is (symbol.Mark mark.Remainder) n a b h = (the.Remainder, refl, refl)
joined-is (symbol.Mark mark.Plus) n a b h = (the.Plus, refl, refl)
joined-is (symbol.Mark mark.Minus) n a b h = (the.Minus, refl, refl)
joined-is (symbol.Mark mark.ShiftLeft) n a b h = (the.ShiftLeft, refl, refl)
joined-is (symbol.Mark mark.ShiftRight) n a b h = (the.ShiftRight, refl, refl)
joined-is (symbol.Mark mark.UnsignedShiftRight) n a b h = (the.UnsignedShiftRight, refl, refl)
joined-is (symbol.Mark mark.Less) n a b h = (the.Less, refl, refl)
joined-is (symbol.Mark mark.Greater) n a b h = (the.Greater, refl, refl)
joined-is (symbol.Mark mark.LessOrEqual) n a b h = (the.LessOrEqual, refl, refl)
joined-is (symbol.Mark mark.GreaterOrEqual) n a b h = (the.GreaterOrEqual, refl, refl)
joined-is (symbol.Mark mark.Equal) n a b h = (the.Equal, refl, refl)
joined-is (symbol.Mark mark.NotEqual) n a b h = (the.NotEqual, refl, refl)
joined-is (symbol.Mark mark.StrictEqual) n a b h = (the.StrictEqual, refl, refl)
joined-is (symbol.Mark mark.StrictNotEqual) n a b h = (the.StrictNotEqual, refl, refl)
joined-is (symbol.Mark mark.BitAnd) n a b h = (the.BitAnd, refl, refl)
joined-is (symbol.Mark mark.BitXor) n a b h = (the.BitXor, refl, refl)
joined-is (symbol.Mark mark.BitOr) n a b h = (the.BitOr, refl, refl)
joined-is s n a b h = absurd (cc)

assigned-is : (s : Symbol) (a b : Expression) → joint_of s ≡ joint_is.Assignment
    → MeansAssigned s (target_of a) b
    (of_mark (λ mark. of_two (λ target. assigned_by mark (target_of target))
    (OneMore a (OneMore b NoExpressions))) (Some s))
unfolding joint_of mark_joint
assigned-is (symbol.Mark mark.Assign) a b h = refl
assigned-is (symbol.Mark mark.TimesAssign) a b h = (the.Times, refl, refl)
assigned-is (symbol.Mark mark.DivideAssign) a b h = (the.Divide, refl, refl)
assigned-is (symbol.Mark mark.RemainderAssign) a b h = (the.Remainder, refl, refl)
assigned-is (symbol.Mark mark.PlusAssign) a b h = (the.Plus, refl, refl)
assigned-is (symbol.Mark mark.MinusAssign) a b h = (the.Minus, refl, refl)
assigned-is (symbol.Mark mark.ShiftLeftAssign) a b h = (the.ShiftLeft, refl, refl)
assigned-is (symbol.Mark mark.ShiftRightAssign) a b h = (the.ShiftRight, refl, refl)
assigned-is (symbol.Mark mark.UnsignedShiftRightAssign) a b h = (the.UnsignedShiftRight, refl, refl)
assigned-is (symbol.Mark mark.AndAssign) a b h = (the.BitAnd, refl, refl)
assigned-is (symbol.Mark mark.XorAssign) a b h = (the.BitXor, refl, refl)
assigned-is (symbol.Mark mark.OrAssign) a b h = (the.BitOr, refl, refl)
assigned-is s a b h = absurd (cc)

jump-is : (s : Symbol) (start stop : ℕ) → (s ≡ symbol.Word word.Break) ⊎ (s ≡ symbol.Word word.Continue)
    → MeansJump s (statement_of (TreeOf (node (jump_form s) start stop None) NoTrees))
unfolding statement_of statements_of
jump-is s start stop (inl h) = rw h refl
jump-is s start stop (inr h) = rw h refl

-- ---- expressions

name-target : (s : Symbol) → is_name s ≡ true
    → IsTarget (expression_by (leaf_form s) (Some s) NoExpressions)
    (target_of (expression_by (leaf_form s) (Some s) NoExpressions))
name-target (symbol.Name name) h = refl
name-target s h = absurd (cc)

member-target : (e base : Expression) (name : List ℕ) → e ≡ Member base name
    → IsTarget e (target_of e)
member-target e base name h = rw h refl

target-is : (p : Phrase) → IsExpression p → is_target p ≡ true
    → IsTarget (expression_of (tree_of p)) (target_of (expression_of (tree_of p)))
unfolding meaning expression_of expressions_of
target-is (Leaf t) h is = name-target t.symbol is
target-is (IndexPhrase b o e c) h is = refl
target-is (MemberPhrase b d x) h is =
    member-target _ (expression_of (tree_of b)) (name_of x.symbol)
    (member-is x.symbol (expression_of (tree_of b)) h.3)
target-is (Group o e c) h is = absurd (cc)
target-is p h is = absurd (cc)

with-last-is : (trees : Trees) (last : Tree)
    → expressions_of (and_then trees last) ≡ with_last (expressions_of trees) (expression_of last)
unfolding expressions_of
with-last-is NoTrees last = refl
with-last-is (OneMoreTree first rest) last = ap (OneMore (expression_of first)) (with-last-is rest last)

abbrev pub meant : Phrase → Meant
meant p = record { expression = expression_of (tree_of p); parts = expressions_of (parts_of p) }

pub means-is : (p : Phrase) → IsExpression p → Means p (meant p)
unfolding Means meaning expression_of expressions_of
means-is (Leaf t) h = (expression_of (tree_of (Leaf t)), leaf-is t.symbol h, refl)
means-is (Group o e c) h = (meant e, means-is e h.1, refl)
means-is (IndexPhrase b o e c) h = (meant b, meant e, means-is b h.0, means-is e h.3, refl)
means-is (MemberPhrase b d x) h = (
  meant b,
  name_of x.symbol,
  means-is b h.0,
  name-is x.symbol h.3,
  ap (λ (e : Expression). record { expression = e; parts = OneMore e NoExpressions })
      (member-is x.symbol (expression_of (tree_of b)) h.3),
)
means-is (CallEmpty f o c) h = (meant f, means-is f h.0, refl)
means-is (CallWith f o e c) h = (meant f, meant e, means-is f h.0, means-is e h.3, refl)
means-is (NewPlain n f) h = (meant f, means-is f h.1, refl)
means-is (NewEmpty n f o c) h = (meant f, means-is f h.1, refl)
means-is (NewWith n f o e c) h = (meant f, meant e, means-is f h.1, means-is e h.4, refl)
means-is (Postfix e k) h =
    let step = behind-step k.symbol (expression_of (tree_of e))
    (joint-kept k joint_is.Step h.2 (λ (n : joint_is.Step ≡ joint_is.Nothing). cc)) in (
      meant e,
      target_of (expression_of (tree_of e)),
      step.down,
      means-is e h.0,
      target-is e h.0 h.1,
      step.step,
      ap (λ (e : Expression). record { expression = e; parts = OneMore e NoExpressions }) step.is,
    )
means-is (SignedPhrase k e) h = (
  meant e,
  expression_of (tree_of (SignedPhrase k e)),
  means-is e h.1,
  signed-is k.symbol (expression_of (tree_of e)) h.0,
  refl,
)
means-is (SteppedPhrase k e) h =
    let step = in-front-step k.symbol (expression_of (tree_of e)) h.0 in (
      meant e,
      target_of (expression_of (tree_of e)),
      step.down,
      means-is e h.1,
      target-is e h.1 h.2,
      step.step,
      ap (λ (e : Expression). record { expression = e; parts = OneMore e NoExpressions }) step.is,
    )
means-is (BinaryPhrase a k b) h =
    let kept_joint = joint-kept k (joint_is.Operator (strength k)) h.1
    (λ (n : joint_is.Operator (strength k) ≡ joint_is.Nothing). cc) in (
      meant a,
      meant b,
      expression_of (tree_of (BinaryPhrase a k b)),
      means-is a h.0,
      means-is b h.2,
      joined-is k.symbol (strength k) (expression_of (tree_of a)) (expression_of (tree_of b))
          kept_joint,
      refl,
    )
means-is (ChoicePhrase a q b c d) h =
    (meant a, meant b, meant d, means-is a h.0, means-is b h.3, means-is d h.6, refl)
means-is (AssignPhrase a k b) h = (
  meant a,
  meant b,
  target_of (expression_of (tree_of a)),
  expression_of (tree_of (AssignPhrase a k b)),
  means-is a h.0,
  means-is b h.3,
  target-is a h.0 h.1,
  assigned-is k.symbol (expression_of (tree_of a)) (expression_of (tree_of b))
      (joint-kept k joint_is.Assignment h.2
      (λ (n : joint_is.Assignment ≡ joint_is.Nothing). cc)),
  refl,
)
means-is (CommaPhrase a k b) h =
    (meant a, meant b, means-is a h.0, means-is b h.2, ap list_of (with-last-is (parts_of a) (tree_of b)))

-- ---- expressions in heads

-- the tree of an expression is neither an absent part nor a `var`
abbrev pub is_part : Form → Bool
is_part form.Empty = false
is_part form.Var = false
is_part _ = true

abbrev pub is_part_tree : Tree → Bool
is_part_tree (TreeOf node children) = is_part node.form

leaf-part : (s : Symbol) → is_part (leaf_form s) ≡ true
leaf-part (symbol.Name name) = refl
leaf-part (symbol.Number number) = refl
leaf-part (symbol.Words words) = refl
leaf-part (symbol.Mark m) = refl
leaf-part (symbol.Word word.Null) = refl
leaf-part (symbol.Word word.True) = refl
leaf-part (symbol.Word word.False) = refl
leaf-part (symbol.Word other) = refl

part-tree : (p : Phrase) → is_part_tree (tree_of p) ≡ true
unfolding meaning
part-tree (Leaf t) = leaf-part t.symbol
part-tree (Group o e c) = part-tree e
part-tree (IndexPhrase b o e c) = refl
part-tree p = refl

first-part : (f : Form) (e : Expression) (ds : List Declarator) → is_part f ≡ true
    → first_by f e ds ≡ FirstExpression e
first-part form.Empty e ds h = absurd (cc)
first-part form.Var e ds h = absurd (cc)
first-part f e ds h = refl

first-tree : (t : Tree) → is_part_tree t ≡ true → first_of t ≡ FirstExpression (expression_of t)
unfolding first_of
first-tree (TreeOf node children) h = first-part node.form _ _ h

part-part : (f : Form) (e : Expression) → is_part f ≡ true → part_by f e ≡ Some e
part-part form.Empty e h = absurd (cc)
part-part form.Var e h = refl
part-part f e h = refl

part-tree-is : (t : Tree) → is_part_tree t ≡ true → part_of t ≡ Some (expression_of t)
unfolding part_of
part-tree-is (TreeOf node children) h = part-part node.form _ h

visitor-part : (f : Form) (e : Expression) (ds : List Declarator) → is_part f ≡ true
    → visitor_by f e ds ≡ VisitTarget (target_of e)
visitor-part form.Empty e ds h = absurd (cc)
visitor-part form.Var e ds h = absurd (cc)
visitor-part f e ds h = refl

visitor-tree : (t : Tree) → is_part_tree t ≡ true
    → visitor_of t ≡ VisitTarget (target_of (expression_of t))
unfolding visitor_of
visitor-tree (TreeOf node children) h = visitor-part node.form _ _ h

-- ---- statements

declaration-is : (d : written.Declaration) → IsDeclaration d
    → MeansDeclaration d (declarator_of (declaration_tree d))
unfolding declarator_of value_in
declaration-is (Bare name) h = (name-is name.symbol h, refl)
declaration-is (Valued name operator value) h =
    (meant value, name-is name.symbol h.0, means-is value h.2.0, refl)

further-are : (others : List written.FurtherDeclaration) → AreFurther others
    → MeansFurther others (declarators_of (further_trees others))
unfolding declarators_of
further-are [] h = refl
further-are (further ∷ others) h = (
  declarator_of (declaration_tree further.declaration),
  declarators_of (further_trees others),
  declaration-is further.declaration h.1,
  further-are others h.2,
  refl,
)

declarations-are : (ds : written.Declarations) → AreDeclarations ds
    → MeansDeclarations ds (declarators_of (declaration_trees ds))
unfolding declarators_of
declarations-are ds h = (
  declarator_of (declaration_tree ds.first),
  declarators_of (further_trees ds.others),
  declaration-is ds.first h.0,
  further-are ds.others h.1,
  refl,
)

part-is : (part : Option Phrase) (next : Lexeme) → MayBe part
    → MeansPart part (part_of (part_tree part next))
unfolding part_of
part-is None next h = refl
part-is (Some e) next h = (meant e, means-is e h, part-tree-is (tree_of e) (part-tree e))

first-is : (first : written.First) (next : Lexeme) → IsFirst first
    → MeansFirst first (first_of (first_tree first next))
unfolding first_of
first-is NoFirstWritten next h = refl
first-is (FirstExpressionWritten e) next h =
    (meant e, means-is e h, first-tree (tree_of e) (part-tree e))
first-is (FirstVarWritten word declarations) next h =
    (declarators_of (declaration_trees declarations), declarations-are declarations h.1, refl)

visitor-is : (v : written.Visitor) → IsVisitor v → MeansVisitor v (visitor_of (visitor_tree v))
unfolding visitor_of declarators_of declarator_of
visitor-is (TargetWritten e) h = (
  meant e,
  target_of (expression_of (tree_of e)),
  means-is e h.0,
  target-is e h.0 h.1,
  visitor-tree (tree_of e) (part-tree e),
)
visitor-is (Variable word name) h = (name_of name.symbol, name-is name.symbol h.1, refl)

simple-is : (place : Setting) (s : written.Simple) (rest : List Lexeme) → IsSimple place s rest
    → MeansSimple s (statement_of (simple_tree s))
unfolding statement_of statements_of value_in
simple-is place (VarWritten word declarations semicolon) rest h =
    (declarators_of (declaration_trees declarations), declarations-are declarations h.1, refl)
simple-is place (EmptyWritten semicolon) rest h = refl
simple-is place (ExpressionWritten e semicolon) rest h = (meant e, means-is e h.0, refl)
simple-is place (Jump word semicolon) rest h = jump-is word.symbol word.start (end_with word.«end» semicolon) h.0
simple-is place (ReturnWritten word None semicolon) rest h = (None, refl, refl)
simple-is place (ReturnWritten word (Some value) semicolon) rest h =
    (Some (expression_of (tree_of value)), (meant value, means-is value h.2, refl), refl)

headed-is : (h : written.Head) (body : Tree) (start stop : ℕ) → IsHead h
    → MeansHeaded h (statement_of body) (statement_of
    (TreeOf (node (head_form h) start stop None) (with_head h (OneMoreTree body NoTrees))))
unfolding statement_of statements_of
headed-is (IfWritten word o test c) body start stop is = (meant test, means-is test is.2, refl)
headed-is (WhileWritten word o test c) body start stop is = (meant test, means-is test is.2, refl)
headed-is (ForWritten word o first s test t update c) body start stop is = (
  first_of (first_tree first s),
  part_of (part_tree test t),
  part_of (part_tree update c),
  first-is first s is.2,
  part-is test t is.4,
  part-is update c is.6,
  refl,
)
headed-is (ForInWritten word o v w object c) body start stop is = (
  visitor_of (visitor_tree v),
  meant object,
  visitor-is v is.2,
  means-is object is.4,
  refl,
)

else-is : (h : written.Head) (body other : Tree) (start stop : ℕ) → IsHead h → is_if h ≡ true
    → MeansElse h (statement_of body) (statement_of other) (statement_of
    (TreeOf (node (head_form h) start stop None)
    (with_head h (OneMoreTree body (OneMoreTree other NoTrees)))))
unfolding statement_of statements_of
else-is (IfWritten word o test c) body other start stop is one = (meant test, means-is test is.2, refl)
else-is (WhileWritten word o test c) body other start stop is one = absurd (cc)
else-is (ForWritten word o first s test t update c) body other start stop is one = absurd (cc)
else-is (ForInWritten word o v w object c) body other start stop is one = absurd (cc)

mutual
  unfolding MeansStatement MeansAll statement_of statements_of

  statement-is : (place : Setting) (s : written.Statement) (rest : List Lexeme)
      → IsStatement place s rest → MeansStatement s (statement_of (statement_tree s))
  statement-is place (Alone simple) rest h = simple-is place simple rest h
  statement-is place (BlockWritten o inner c) rest h =
      (statements_of (statement_trees inner), all-are place inner (c ∷ rest) h.1, refl)
  statement-is place (Headed h body) rest is = (
    statement_of (statement_tree body),
    statement-is _ body rest is.1,
    headed-is h (statement_tree body) (head_start h) (statement_end body) is.0,
  )
  statement-is place (IfElseWritten h body e other) rest is = (
    statement_of (statement_tree body),
    statement_of (statement_tree other),
    statement-is place body _ is.2,
    statement-is place other rest is.4,
    else-is h (statement_tree body) (statement_tree other) (head_start h) (statement_end other)
        is.0 is.1,
  )

  all-are : (place : Setting) (all : written.Statements) (rest : List Lexeme)
      → AreStatements place all rest → MeansAll all (statements_of (statement_trees all))
  all-are place NoStatementsWritten rest h = refl
  all-are place (OneMoreWritten first others) rest h = (
    statement_of (statement_tree first),
    statements_of (statement_trees others),
    statement-is place first _ h.0,
    all-are place others rest h.1,
    refl,
  )

-- ---- programs

function-means : (declared : written.Declared) (rest : List Lexeme) → IsFunction declared rest
    → MeansFunction declared (function_of declared)
function-means declared rest h = record {
  name = name-is declared.name.symbol h.name;
  locals = refl;
  parameters = refl;
  body = all-are _ declared.body _ h.body;
}

functions-mean : (items : List written.Item) (rest : List Lexeme) → AreItems items rest
    → MeansFunctions (functions_of items) (map function_of (functions_of items))
functions-mean [] rest h = refl
functions-mean (FunctionWritten declared ∷ items) rest h = (
  function_of declared,
  map function_of (functions_of items),
  function-means declared _ h.0,
  functions-mean items rest h.1,
  refl,
)
functions-mean (Single statement ∷ items) rest h = functions-mean items rest h.1

top-means : (items : List written.Item) (rest : List Lexeme) → AreItems items rest
    → MeansTop items (statements_of (top_trees items))
unfolding statements_of
top-means [] rest h = refl
top-means (FunctionWritten declared ∷ items) rest h = top-means items rest h.1
top-means (Single statement ∷ items) rest h = (
  statement_of (statement_tree statement),
  statements_of (top_trees items),
  statement-is _ statement _ h.0,
  top-means items rest h.1,
  refl,
)

pub program-means : (tokens : List Lexeme) (items : List written.Item) → IsProgram tokens items
    → MeansProgram items (program_of items)
unfolding program_of
program-means tokens items h = record {
  variables = refl;
  functions = functions-mean items [] h.are;
  body = top-means items [] h.are;
}
