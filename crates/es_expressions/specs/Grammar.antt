-- Which phrases are expressions (ECMA-262 second edition, section 11, in this profile). Each form has a
-- level, and its operands the least level that the grammar's rule for it asks:
--
--   1 Expr = Assign {"," Assign}; 2 Assign = Cond | Target op Assign, Cond = Binary ["?" Assign ":" Assign];
--   4 to 13 binary operators by strength, all from the left; 14 operators in front; 15 `++` and `--`
--   behind; 16 calls and what is read of them; 17 `new` without arguments; 18 members of what is no call,
--   `new` with arguments; 19 tokens and groups
use Rattle.std.specs.Prelude.{◌≡◌, ℕ, suc, ◌≤◌, Bool, true, false, ◌&&◌, nat_le, nat_eq, not, min}
use Rattle.es_expressions.specs.Roles.{front, joint, strength, is_name}
use Rattle.es_expressions.specs.Phrases.{Phrase}
use Rattle.es_expressions.specs.Phrases.Phrase.{Leaf, Group, Index, Member, CallEmpty, CallWith, NewPlain, NewEmpty, NewWith, Postfix, Signed, Stepped, Binary, Choice, Assign, Comma}
use Rattle.es_expressions.specs.declared.roles.Front.TheVariants.{Whole, Group as GroupFront, Creation, Sign, Step as StepFront}
use Rattle.es_expressions.specs.declared.roles.Joint.TheVariants.{Dot, Key, Call, Step as StepJoint, Operator, Choice as ChoiceJoint, Assignment, Comma as CommaJoint, Close, KeyEnd, Colon}

abbrev pub level : Phrase → ℕ
level (Leaf t) = 19
level (Group o e c) = 19
level (Index b o e c) = min 18 (level b)
level (Member b d x) = min 18 (level b)
level (CallEmpty f o c) = 16
level (CallWith f o e c) = 16
level (NewPlain n f) = 17
level (NewEmpty n f o c) = 18
level (NewWith n f o e c) = 18
level (Postfix e k) = 15
level (Signed k e) = 14
level (Stepped k e) = 14
level (Binary a k b) = strength k
level (Choice a q b c d) = 2
level (Assign a k b) = 2
level (Comma a k b) = 1

-- a name or a member, not in parentheses
abbrev pub is_target : Phrase → Bool
is_target (Leaf t) = is_name t.symbol
is_target (Index b o e c) = true
is_target (Member b d x) = true
is_target _ = false

-- whether `.x`, `[e]` and arguments may follow: not behind a `new` without arguments, whose own they
-- would be
abbrev pub takes_links_at : ℕ → Bool
takes_links_at n = nat_le 16 n && not (nat_eq n 17)

abbrev pub takes_links : Phrase → Bool
takes_links e = takes_links_at (level e)

abbrev pub IsExpression : Phrase → Type 0
IsExpression (Leaf t) = front t ≡ Whole
IsExpression (Group o e c) =
    (front o ≡ GroupFront) × IsExpression e × (joint c ≡ Close)
IsExpression (Index b o e c) =
    IsExpression b × (takes_links b ≡ true)
    × (joint o ≡ Key) × IsExpression e × (joint c ≡ KeyEnd)
IsExpression (Member b d x) =
    IsExpression b × (takes_links b ≡ true) × (joint d ≡ Dot) × (is_name x.symbol ≡ true)
IsExpression (CallEmpty f o c) =
    IsExpression f × (takes_links f ≡ true) × (joint o ≡ Call) × (joint c ≡ Close)
IsExpression (CallWith f o e c) =
    IsExpression f × (takes_links f ≡ true)
    × (joint o ≡ Call) × IsExpression e × (joint c ≡ Close)
IsExpression (NewPlain n f) = (front n ≡ Creation) × IsExpression f × (17 ≤ level f)
IsExpression (NewEmpty n f o c) =
    (front n ≡ Creation) × IsExpression f × (18 ≤ level f)
    × (joint o ≡ Call) × (joint c ≡ Close)
IsExpression (NewWith n f o e c) =
    (front n ≡ Creation) × IsExpression f × (18 ≤ level f)
    × (joint o ≡ Call) × IsExpression e × (joint c ≡ Close)
IsExpression (Postfix e k) = IsExpression e × (is_target e ≡ true) × (joint k ≡ StepJoint)
IsExpression (Signed k e) = (front k ≡ Sign) × IsExpression e × (14 ≤ level e)
IsExpression (Stepped k e) = (front k ≡ StepFront) × IsExpression e × (is_target e ≡ true)
IsExpression (Binary a k b) =
    IsExpression a × (joint k ≡ Operator (strength k)) × IsExpression b
    × (strength k ≤ level a) × (suc (strength k) ≤ level b)
IsExpression (Choice a q b c d) =
    IsExpression a × (4 ≤ level a) × (joint q ≡ ChoiceJoint) × IsExpression b × (2 ≤ level b)
    × (joint c ≡ Colon) × IsExpression d × (2 ≤ level d)
IsExpression (Assign a k b) =
    IsExpression a × (is_target a ≡ true) × (joint k ≡ Assignment)
    × IsExpression b × (2 ≤ level b)
IsExpression (Comma a k b) =
    IsExpression a × (joint k ≡ CommaJoint) × IsExpression b × (2 ≤ level b)
