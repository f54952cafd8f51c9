-- The tree that an expression means (this project's own). Parentheses are no node, and a whole list with
-- commas is one node with its parts.
use Rattle.std.specs.Prelude.{ℕ, Option, Some, None}
use Rattle.es_expressions.specs.Phrases.{Phrase, start_of, end_of}
use Rattle.es_expressions.specs.Phrases.Phrase.{Leaf, Group, Index, Member, CallEmpty, CallWith, NewPlain, NewEmpty, NewWith, Postfix, Signed, Stepped, Binary, Choice, Assign, Comma}
use Rattle.es_expressions.specs.Trees.{Tree, Trees, and_then}
use Rattle.es_expressions.specs.Trees.Tree.{TreeOf}
use Rattle.es_expressions.specs.Trees.Trees.{NoTrees, OneMore}
use Rattle.es_lexer.specs.declared.words.ReservedWord.{ReservedWord}
use Rattle.es_lexer.specs.declared.words.ReservedWord.TheVariants.{Null, True, False}
use Rattle.es_expressions.specs.declared.lexemes.Symbol.{Symbol}
use Rattle.es_expressions.specs.declared.lexemes.Symbol.TheVariants.{Name, Word, Mark, Number, Words}
use Rattle.es_expressions.specs.declared.nodes.Node.{Node}
use Rattle.es_expressions.specs.declared.nodes.Form.{Form}
use Rattle.es_expressions.specs.declared.nodes.Form.TheVariants.{This as ThisForm, Name as NameForm, Null as NullForm, True as TrueForm, False as FalseForm, Number as NumberForm, Text as TextForm, Index as IndexForm, Member as MemberForm, Call as CallForm, New as NewForm, Postfix as PostfixForm, Prefix as PrefixForm, Binary as BinaryForm, Choice as ChoiceForm, Assignment as AssignmentForm, Comma as CommaForm}

abbrev pub word_form : ReservedWord → Form
word_form Null = NullForm
word_form True = TrueForm
word_form False = FalseForm
word_form _ = ThisForm

abbrev pub leaf_form : Symbol → Form
leaf_form (Name name) = NameForm
leaf_form (Word word) = word_form word
leaf_form (Number number) = NumberForm
leaf_form (Words words) = TextForm
leaf_form (Mark mark) = ThisForm

abbrev pub node : Form → ℕ → ℕ → Option Symbol → Node
node form start stop symbol = record { form = form; start = start; «end» = stop; symbol = symbol }

abbrev pub one : Tree → Trees
one a = OneMore a NoTrees

abbrev pub two : Tree → Tree → Trees
two a b = OneMore a (one b)

-- the tree of an expression, and the trees of the parts of a list with commas, of which any other
-- expression is the only one
pub record Meaning : Type 0 where
  pub tree : Tree
  pub parts : Trees

abbrev pub alone : Tree → Meaning
alone t = record { tree = t; parts = one t }

unfoldable pub meaning : Phrase → Meaning
meaning (Leaf t) = alone (TreeOf (node (leaf_form t.symbol) t.start t.«end» (Some t.symbol)) NoTrees)
meaning (Group o e c) = alone (meaning e).tree
meaning (Index b o e c) =
    alone (TreeOf (node IndexForm (start_of b) c.«end» None) (two (meaning b).tree (meaning e).tree))
meaning (Member b d x) =
    alone (TreeOf (node MemberForm (start_of b) x.«end» (Some x.symbol)) (one (meaning b).tree))
meaning (CallEmpty f o c) =
    alone (TreeOf (node CallForm (start_of f) c.«end» None) (one (meaning f).tree))
meaning (CallWith f o e c) =
    alone (TreeOf (node CallForm (start_of f) c.«end» None) (OneMore (meaning f).tree (meaning e).parts))
meaning (NewPlain n f) = alone (TreeOf (node NewForm n.start (end_of f) None) (one (meaning f).tree))
meaning (NewEmpty n f o c) = alone (TreeOf (node NewForm n.start c.«end» None) (one (meaning f).tree))
meaning (NewWith n f o e c) =
    alone (TreeOf (node NewForm n.start c.«end» None) (OneMore (meaning f).tree (meaning e).parts))
meaning (Postfix e k) =
    alone (TreeOf (node PostfixForm (start_of e) k.«end» (Some k.symbol)) (one (meaning e).tree))
meaning (Signed k e) =
    alone (TreeOf (node PrefixForm k.start (end_of e) (Some k.symbol)) (one (meaning e).tree))
meaning (Stepped k e) =
    alone (TreeOf (node PrefixForm k.start (end_of e) (Some k.symbol)) (one (meaning e).tree))
meaning (Binary a k b) =
    alone (TreeOf (node BinaryForm (start_of a) (end_of b) (Some k.symbol)) (two (meaning a).tree (meaning b).tree))
meaning (Choice a q b c d) =
    alone (TreeOf (node ChoiceForm (start_of a) (end_of d) None)
    (OneMore (meaning a).tree (two (meaning b).tree (meaning d).tree)))
meaning (Assign a k b) =
    alone (TreeOf (node AssignmentForm (start_of a) (end_of b) (Some k.symbol)) (two (meaning a).tree (meaning b).tree))
meaning (Comma a k b) = record {
  tree = TreeOf (node CommaForm (start_of a) (end_of b) None) (and_then (meaning a).parts (meaning b).tree);
  parts = and_then (meaning a).parts (meaning b).tree;
}

abbrev pub tree_of : Phrase → Tree
tree_of e = (meaning e).tree

abbrev pub parts_of : Phrase → Trees
parts_of e = (meaning e).parts
