-- A device of the proofs: expressions read token by token, over a list of open forms, the innermost first.
use Rattle.std.specs.Prelude.{◌≡◌, ℕ, suc, ◌≤◌, ◌⊎◌, Bool, true, false, nat_le, nat_lt, min, List, [], ◌∷◌, Option, Some, None}
use Rattle.es_expressions.specs.Roles.{front, joint, strength, is_name}
use Rattle.es_expressions.specs.Phrases.{Phrase, spelled}
use Rattle.es_expressions.specs.Phrases.Phrase.{Leaf, Group, Index, Member, CallEmpty, CallWith, NewPlain, NewEmpty, NewWith, Postfix, Signed, Stepped, Binary, Choice, Assign, Comma}
use Rattle.es_expressions.specs.Grammar.{IsExpression, level, is_target, takes_links}
use Rattle.es_expressions.specs.declared.lexemes.Lexeme.{Lexeme}
use Rattle.es_expressions.specs.declared.roles.Front.{Front}
use Rattle.es_expressions.specs.declared.roles.Front.TheVariants.{Whole, Group as GroupFront, Creation, Sign, Step as StepFront, Nothing as NoFront}
use Rattle.es_expressions.specs.declared.roles.Joint.{Joint}
use Rattle.es_expressions.specs.declared.roles.Joint.TheVariants.{Dot, Key, Call, Step as StepJoint, Operator, Choice as ChoiceJoint, Assignment, Comma as CommaJoint, Close, KeyEnd, Colon, Nothing as NoJoint}

-- a form whose last operand is still to come, or goes on
pub data Opening : Type 0 where
  InGroup : (open_mark : Lexeme) → Opening
  InKey : (base : Phrase) → (open_mark : Lexeme) → Opening
  InCall : (callee : Phrase) → (open_mark : Lexeme) → Opening
  InNew : (word : Lexeme) → Opening
  InNewCall : (word : Lexeme) → (callee : Phrase) → (open_mark : Lexeme) → Opening
  InSigned : (operator : Lexeme) → Opening
  InStepped : (operator : Lexeme) → Opening
  InBinary : (left : Phrase) → (operator : Lexeme) → Opening
  InChosen : (test : Phrase) → (question : Lexeme) → Opening
  InOther : (test : Phrase) → (question : Lexeme) → (chosen : Phrase) → (colon : Lexeme) → Opening
  InAssign : (target : Phrase) → (operator : Lexeme) → Opening
  InComma : (front : Phrase) → (comma : Lexeme) → Opening

-- the least level of the operand to come
abbrev pub hole : Opening → ℕ
hole (InGroup o) = 1
hole (InKey b o) = 1
hole (InCall f o) = 1
hole (InNew n) = 17
hole (InNewCall n f o) = 1
hole (InSigned k) = 14
hole (InStepped k) = 16
hole (InBinary a k) = suc (strength k)
hole (InChosen a q) = 2
hole (InOther a q b c) = 2
hole (InAssign a k) = 2
hole (InComma a k) = 2

-- the same of a form that ends with its operand, and 0 of one that ends at a mark
abbrev pub edge : Opening → ℕ
edge (InNew n) = 17
edge (InSigned k) = 14
edge (InStepped k) = 16
edge (InBinary a k) = suc (strength k)
edge (InOther a q b c) = 2
edge (InAssign a k) = 2
edge (InComma a k) = 2
edge _ = 0

-- the level of the form
abbrev pub made_level : Opening → ℕ
made_level (InGroup o) = 19
made_level (InKey b o) = min 18 (level b)
made_level (InCall f o) = 16
made_level (InNew n) = 17
made_level (InNewCall n f o) = 18
made_level (InSigned k) = 14
made_level (InStepped k) = 14
made_level (InBinary a k) = strength k
made_level (InChosen a q) = 2
made_level (InOther a q b c) = 2
made_level (InAssign a k) = 2
made_level (InComma a k) = 1

abbrev pub hole_of : ℕ → List Opening → ℕ
hole_of base [] = base
hole_of base (opening ∷ openings) = hole opening

abbrev pub edge_of : List Opening → ℕ
edge_of [] = 0
edge_of (opening ∷ openings) = edge opening

abbrev pub if_target : Bool → Phrase → Option Phrase
if_target true e = Some e
if_target false e = None

-- the form where its operand ends without a mark, and None where it can't
abbrev pub closed : Opening → Phrase → Option Phrase
closed (InNew n) e = Some (NewPlain n e)
closed (InSigned k) e = Some (Signed k e)
closed (InStepped k) e = if_target (is_target e) (Stepped k e)
closed (InBinary a k) e = Some (Binary a k e)
closed (InOther a q b c) e = Some (Choice a q b c e)
closed (InAssign a k) e = Some (Assign a k e)
closed (InComma a k) e = Some (Comma a k e)
closed _ e = None

-- how far a token reaches: it goes on with the innermost form whose hole is not above it
abbrev pub reach : Joint → ℕ
reach Dot = 18
reach Key = 18
reach Call = 17
reach StepJoint = 15
reach (Operator n) = n
reach ChoiceJoint = 2
reach Assignment = 2
reach CommaJoint = 1
reach _ = 0

abbrev pub is_close : Joint → Bool
is_close Close = true
is_close _ = false

-- an operand and the forms round it
pub record Operand : Type 0 where
  pub phrase : Phrase
  pub openings : List Opening

abbrev pub operand : Phrase → List Opening → Operand
operand e fs = record { phrase = e; openings = fs }

abbrev pub settled_by : Bool → Option Phrase → (Phrase → Option Operand) → Option Operand → Option Operand
settled_by true (Some e) go stay = go e
settled_by true None go stay = None
settled_by false e go stay = stay

-- closes the forms that end in front of a token that reaches so far
unfoldable pub settled : List Opening → ℕ → Phrase → Option Operand
settled [] r e = Some (operand e [])
settled (f ∷ fs) r e = settled_by (nat_lt r (edge f)) (closed f e) (λ whole. settled fs r whole) (Some (operand e (f ∷ fs)))

-- an operand is to come; stands there; stands there with a `.` behind it
pub data State : Type 0 where
  Before : (openings : List Opening) → State
  Behind : (phrase : Phrase) → (openings : List Opening) → State
  Naming : (phrase : Phrase) → (dot : Lexeme) → (openings : List Opening) → State

abbrev pub behind : Operand → State
behind o = Behind o.phrase o.openings

abbrev pub when : {A : Type 0} → Bool → A → Option A
when true a = Some a
when false a = None

-- a `(` behind an operand opens the arguments of the `new` round it, or else a call
abbrev pub with_call : Lexeme → Phrase → List Opening → List Opening
with_call t e (InNew n ∷ fs) = InNewCall n e t ∷ fs
with_call t e fs = InCall e t ∷ fs

abbrev pub with_close : Lexeme → Phrase → List Opening → Option State
with_close t e (InGroup o ∷ fs) = Some (Behind (Group o e t) fs)
with_close t e (InCall f o ∷ fs) = Some (Behind (CallWith f o e t) fs)
with_close t e (InNewCall n f o ∷ fs) = Some (Behind (NewWith n f o e t) fs)
with_close t e _ = None

abbrev pub with_key_end : Lexeme → Phrase → List Opening → Option State
with_key_end t e (InKey b o ∷ fs) = Some (Behind (Index b o e t) fs)
with_key_end t e _ = None

abbrev pub with_colon : Lexeme → Phrase → List Opening → Option State
with_colon t e (InChosen a q ∷ fs) = Some (Before (InOther a q e t ∷ fs))
with_colon t e _ = None

-- the token behind an operand, where no form round it ends before
abbrev pub join : ℕ → Joint → Lexeme → Phrase → List Opening → Option State
join base Dot t e fs = when (takes_links e) (Naming e t fs)
join base Key t e fs = when (takes_links e) (Before (InKey e t ∷ fs))
join base Call t e fs = when (takes_links e) (Before (with_call t e fs))
join base StepJoint t e fs = when (is_target e) (Behind (Postfix e t) fs)
join base (Operator n) t e fs = when (nat_le n (level e)) (Before (InBinary e t ∷ fs))
join base ChoiceJoint t e fs = when (nat_le 4 (level e)) (Before (InChosen e t ∷ fs))
join base Assignment t e fs = when (is_target e) (Before (InAssign e t ∷ fs))
join base CommaJoint t e fs = when (nat_le (hole_of base fs) 1) (Before (InComma e t ∷ fs))
join base Close t e fs = with_close t e fs
join base KeyEnd t e fs = with_key_end t e fs
join base Colon t e fs = with_colon t e fs
join base NoJoint t e fs = None

-- a `)` where no argument came
abbrev pub with_empty : Joint → Lexeme → List Opening → Option State
with_empty Close t (InCall f o ∷ fs) = Some (Behind (CallEmpty f o t) fs)
with_empty Close t (InNewCall n f o ∷ fs) = Some (Behind (NewEmpty n f o t) fs)
with_empty _ t _ = None

-- the token where an operand is to come
abbrev pub begin : ℕ → Front → Lexeme → List Opening → Option State
begin base Whole t fs = Some (Behind (Leaf t) fs)
begin base GroupFront t fs = Some (Before (InGroup t ∷ fs))
begin base Creation t fs = Some (Before (InNew t ∷ fs))
begin base Sign t fs = when (nat_le (hole_of base fs) 14) (Before (InSigned t ∷ fs))
begin base StepFront t fs = when (nat_le (hole_of base fs) 14) (Before (InStepped t ∷ fs))
begin base NoFront t fs = with_empty (joint t) t fs

abbrev pub joined : ℕ → Lexeme → Option Operand → Option State
joined base t None = None
joined base t (Some o) = join base (joint t) t o.phrase o.openings

-- what a token makes of a state, and None where none goes on with it
unfoldable pub move : ℕ → State → Lexeme → Option State
move base (Before fs) t = begin base (front t) t fs
move base (Behind e fs) t = joined base t (settled fs (reach (joint t)) e)
move base (Naming e d fs) t = when (is_name t.symbol) (Behind (Member e d t) fs)

abbrev pub alone_in : Option Operand → Option Phrase
alone_in None = None
alone_in (Some o) = elim o.openings [ [] ↦ Some o.phrase | _ ∷ _ ↦ None ]

-- the whole expression of a state, where it is one
unfoldable pub finish : State → Option Phrase
finish (Before fs) = None
finish (Behind e fs) = alone_in (settled fs 0 e)
finish (Naming e d fs) = None

abbrev pub run_on : Option State → (State → Option State) → Option State
run_on None go = None
run_on (Some s) go = go s

unfoldable pub run : ℕ → List Lexeme → State → Option State
run base [] s = Some s
run base (t ∷ ts) s = run_on (move base s t) (λ next. run base ts next)

-- the tokens of an open form, in front of others
abbrev pub opened : Opening → List Lexeme → List Lexeme
opened (InGroup o) rest = o ∷ rest
opened (InKey b o) rest = spelled b (o ∷ rest)
opened (InCall f o) rest = spelled f (o ∷ rest)
opened (InNew n) rest = n ∷ rest
opened (InNewCall n f o) rest = n ∷ spelled f (o ∷ rest)
opened (InSigned k) rest = k ∷ rest
opened (InStepped k) rest = k ∷ rest
opened (InBinary a k) rest = spelled a (k ∷ rest)
opened (InChosen a q) rest = spelled a (q ∷ rest)
opened (InOther a q b c) rest = spelled a (q ∷ spelled b (c ∷ rest))
opened (InAssign a k) rest = spelled a (k ∷ rest)
opened (InComma a k) rest = spelled a (k ∷ rest)

abbrev pub ahead : List Opening → List Lexeme → List Lexeme
ahead [] rest = rest
ahead (f ∷ fs) rest = ahead fs (opened f rest)

-- the tokens of a state, in front of others
abbrev pub in_front : State → List Lexeme → List Lexeme
in_front (Before fs) rest = ahead fs rest
in_front (Behind e fs) rest = ahead fs (spelled e rest)
in_front (Naming e d fs) rest = ahead fs (spelled e (d ∷ rest))

-- what stands in an open form is right
abbrev pub IsOpen : Opening → Type 0
IsOpen (InGroup o) = front o ≡ GroupFront
IsOpen (InKey b o) = IsExpression b × (takes_links b ≡ true) × (joint o ≡ Key)
IsOpen (InCall f o) = IsExpression f × (takes_links f ≡ true) × (joint o ≡ Call)
IsOpen (InNew n) = front n ≡ Creation
IsOpen (InNewCall n f o) = (front n ≡ Creation) × IsExpression f × (18 ≤ level f) × (joint o ≡ Call)
IsOpen (InSigned k) = front k ≡ Sign
IsOpen (InStepped k) = front k ≡ StepFront
IsOpen (InBinary a k) = IsExpression a × (joint k ≡ Operator (strength k)) × (strength k ≤ level a)
IsOpen (InChosen a q) = IsExpression a × (4 ≤ level a) × (joint q ≡ ChoiceJoint)
IsOpen (InOther a q b c) =
    IsExpression a × (4 ≤ level a) × (joint q ≡ ChoiceJoint)
    × IsExpression b × (2 ≤ level b) × (joint c ≡ Colon)
IsOpen (InAssign a k) = IsExpression a × (is_target a ≡ true) × (joint k ≡ Assignment)
IsOpen (InComma a k) = IsExpression a × (joint k ≡ CommaJoint)

-- the open forms fit into each other
abbrev pub AreOpen : ℕ → List Opening → Type 0
AreOpen base [] = Unit {0}
AreOpen base (f ∷ fs) = IsOpen f × (hole_of base fs ≤ made_level f) × AreOpen base fs

-- an operand may stand there, and stays so when links come behind it
abbrev pub Fits : ℕ → Phrase → List Opening → Type 0
Fits base e fs = (takes_links e ≡ true) ⊎ (hole_of base fs ≤ 15)

abbrev pub IsRight : ℕ → State → Type 0
IsRight base (Before fs) = AreOpen base fs
IsRight base (Behind e fs) =
    IsExpression e × AreOpen base fs × (hole_of base fs ≤ level e) × Fits base e fs
IsRight base (Naming e d fs) =
    IsExpression e × AreOpen base fs × (hole_of base fs ≤ level e) × (takes_links e ≡ true)
    × (joint d ≡ Dot)

-- the operand that stands last where a phrase was read, and the forms that it leaves open
abbrev pub unwound : Phrase → List Opening → Operand
unwound (NewPlain n f) fs = unwound f (InNew n ∷ fs)
unwound (Signed k e) fs = unwound e (InSigned k ∷ fs)
unwound (Stepped k e) fs = unwound e (InStepped k ∷ fs)
unwound (Binary a k b) fs = unwound b (InBinary a k ∷ fs)
unwound (Choice a q b c d) fs = unwound d (InOther a q b c ∷ fs)
unwound (Assign a k b) fs = unwound b (InAssign a k ∷ fs)
unwound (Comma a k b) fs = unwound b (InComma a k ∷ fs)
unwound e fs = operand e fs

-- the edge of the outermost of them
abbrev pub outer_edge : Phrase → ℕ
outer_edge (NewPlain n f) = 17
outer_edge (Signed k e) = 14
outer_edge (Stepped k e) = 16
outer_edge (Binary a k b) = suc (strength k)
outer_edge (Choice a q b c d) = 2
outer_edge (Assign a k b) = 2
outer_edge (Comma a k b) = 2
outer_edge _ = 20
