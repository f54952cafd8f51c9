-- Which nodes are names and numbers, from what they are made of.
use Rattle.std.proofs.Common.{◌≡◌, Bool, true, false, Option, Some, None, refl}
use Rattle.es_lexer.specs.declared.punctuators.Punctuator.{Punctuator}
use Rattle.es_lexer.specs.declared.punctuators.Punctuator.TheVariants as mark
use Rattle.es_lexer.specs.declared.words.ReservedWord.{ReservedWord}
use Rattle.es_lexer.specs.declared.words.ReservedWord.TheVariants as word
use Rattle.es_expressions.specs.declared.lexemes.Symbol.{Symbol}
use Rattle.es_expressions.specs.declared.lexemes.Symbol.TheVariants as symbol
use Rattle.es_expressions.specs.declared.nodes.Form.{Form}
use Rattle.es_expressions.specs.declared.nodes.Form.TheVariants as form
use Rattle.es_shapes.specs.devices.Leaves.{is_name, is_simple}
use Rattle.es_shapes.specs.Sources.{assigned_by, expression_by, joined_by, of_list, of_mark, of_name, of_one, of_symbol, of_three, of_two, signed_by, signed_by_mark, signed_by_word, target_of}
use Rattle.es_shapes.specs.Syntax.{Expression, Expressions, Target}
use Rattle.es_shapes.specs.Syntax.Expression.{Choice, Call, Index, Member, Name, New}
use Rattle.es_shapes.specs.Syntax.Expressions.{NoExpressions, OneMore}

abbrev is_leaf : Form → Bool
is_leaf form.Name = true
is_leaf form.Number = true
is_leaf form.Text = true
is_leaf _ = false

none-of_two : (f : Expression → Expression → Expression) (p : Expressions)
    → ((a b : Expression) → is_simple (f a b) ≡ false) → is_simple (of_two f p) ≡ false
none-of_two f NoExpressions h = refl
none-of_two f (OneMore a NoExpressions) h = refl
none-of_two f (OneMore a (OneMore b more)) h = h a b

none-of_one : (f : Expression → Expression) (p : Expressions)
    → ((a : Expression) → is_simple (f a) ≡ false) → is_simple (of_one f p) ≡ false
none-of_one f NoExpressions h = refl
none-of_one f (OneMore a more) h = h a

none-of_list : (f : Expression → Expressions → Expression) (p : Expressions)
    → ((a : Expression) (b : Expressions) → is_simple (f a b) ≡ false) → is_simple (of_list f p) ≡ false
none-of_list f NoExpressions h = refl
none-of_list f (OneMore a more) h = h a more

none-of_three : (p : Expressions) → is_simple (of_three Choice p) ≡ false
none-of_three NoExpressions = refl
none-of_three (OneMore a NoExpressions) = refl
none-of_three (OneMore a (OneMore b NoExpressions)) = refl
none-of_three (OneMore a (OneMore b (OneMore d more))) = refl

none-of_mark : (f : Punctuator → Expression) (symbol : Option Symbol)
    → ((mark : Punctuator) → is_simple (f mark) ≡ false) → is_simple (of_mark f symbol) ≡ false
none-of_mark f (Some (symbol.Mark mark)) h = h mark
none-of_mark f _ h = refl

none-joined : (mark : Punctuator) (a b : Expression) → is_simple (joined_by mark a b) ≡ false
none-joined mark.LogicalAnd a b = refl
none-joined mark.LogicalOr a b = refl
none-joined _ a b = refl

none-assigned : (mark : Punctuator) (a : Target) (b : Expression)
    → is_simple (assigned_by mark a b) ≡ false
none-assigned mark.Assign a b = refl
none-assigned _ a b = refl

none-marked : (mark : Punctuator) (a : Expression) → is_simple (signed_by_mark mark a) ≡ false
none-marked mark.Minus a = refl
none-marked mark.Complement a = refl
none-marked mark.Not a = refl
none-marked mark.Increment a = refl
none-marked mark.Decrement a = refl
none-marked _ a = refl

none-worded : (word : ReservedWord) (a : Expression) → is_simple (signed_by_word word a) ≡ false
none-worded word.Delete a = refl
none-worded word.Typeof a = refl
none-worded _ a = refl

none-signed : (symbol : Symbol) (a : Expression) → is_simple (signed_by symbol a) ≡ false
none-signed (symbol.Mark mark) a = none-marked mark a
none-signed (symbol.Word word) a = none-worded word a
none-signed _ a = refl

none-prefix : (symbol : Option Symbol) (p : Expressions)
    → is_simple (of_symbol (λ symbol. of_one (signed_by symbol) p) symbol) ≡ false
none-prefix (Some symbol) p = none-of_one (signed_by symbol) p (none-signed symbol)
none-prefix None p = refl

none-member : (symbol : Option Symbol) (p : Expressions)
    → is_simple (of_name (λ name. of_one (λ base. Member base name) p) symbol) ≡ false
none-member (Some (symbol.Name name)) p = none-of_one (λ base. Member base name) p (λ a. refl)
none-member _ p = refl

-- what is no leaf is no name and no number
pub other-leaf : (form : Form) (symbol : Option Symbol) (p : Expressions) → is_leaf form ≡ false
    → is_simple (expression_by form symbol p) ≡ false
other-leaf form.Name symbol p h = absurd (cc)
other-leaf form.Number symbol p h = absurd (cc)
other-leaf form.Text symbol p h = absurd (cc)
other-leaf form.Index symbol p h = none-of_two Index p (λ a b. refl)
other-leaf form.Member symbol p h = none-member symbol p
other-leaf form.Call symbol p h = none-of_list Call p (λ a b. refl)
other-leaf form.New symbol p h = none-of_list New p (λ a b. refl)
other-leaf form.Postfix symbol p h = none-of_mark _ symbol (λ mark. none-of_one _ p (λ a. refl))
other-leaf form.Prefix symbol p h = none-prefix symbol p
other-leaf form.Binary symbol p h =
    none-of_mark _ symbol (λ mark. none-of_two (joined_by mark) p (none-joined mark))
other-leaf form.Choice symbol p h = none-of_three p
other-leaf form.Assignment symbol p h =
    none-of_mark _ symbol (λ mark. none-of_two _ p (λ a b. none-assigned mark (target_of a) b))
other-leaf _ symbol p h = refl

-- and so no name
not-simple : (e : Expression) → is_simple e ≡ false → is_name e ≡ false
not-simple (Name name) h = h
not-simple _ h = refl

pub other-form : (form : Form) (symbol : Option Symbol) (p : Expressions) → is_leaf form ≡ false
    → is_name (expression_by form symbol p) ≡ false
other-form form symbol p h = not-simple (expression_by form symbol p) (other-leaf form symbol p h)

pub ruleset named_leaves = (other-leaf, other-form)
