-- A device of the proofs: what the operands and frames that the code keeps stand for.
use Rattle.std.specs.Prelude.{◌≡◌, ℕ, suc, Bool, true, false, List, [], ◌∷◌, ◌++◌, Option, Some, None, min}
use Rattle.es_expressions.specs.Roles.{strength, joint, front}
use Rattle.es_expressions.specs.Phrases.{Phrase, start_of, end_of}
use Rattle.es_expressions.specs.Phrases.Phrase.{CallEmpty as CallEmptyPhrase, NewEmpty as NewEmptyPhrase, Group as GroupPhrase, Index as IndexPhrase, CallWith as CallWithPhrase, NewWith as NewWithPhrase, Comma as CommaPhrase}
use Rattle.es_expressions.specs.Grammar.{level, is_target}
use Rattle.es_expressions.specs.Trees.{Trees, depth, deepest}
use Rattle.es_expressions.specs.Meaning.{tree_of, parts_of}
use Rattle.es_expressions.specs.Nodes.{NodeRow, IsTreeAt}
use Rattle.es_expressions.specs.Trees.Trees.{NoTrees, OneMore}
use Rattle.es_expressions.specs.Machine.{Opening, Operand as SpecOperand, State, finish, join, begin, move, with_empty}
use Rattle.es_expressions.specs.Beginnings.{Tells}
use Rattle.es_expressions.specs.declared.expressions.Found.{Found}
use Rattle.es_expressions.specs.declared.lexemes.Lexeme.{Lexeme}
use Rattle.es_expressions.specs.declared.roles.Joint.{Joint}
use Rattle.es_expressions.specs.Machine.Opening.{InGroup, InKey, InCall, InNew, InNewCall, InSigned, InStepped, InBinary, InChosen, InOther, InAssign, InComma}
use Rattle.es_expressions.specs.Machine.State.{Before as SpecBefore, Behind as SpecBehind, Naming as SpecNaming}
use Rattle.es_expressions.specs.declared.nodes.Node.{Node as TheNode}
use Rattle.es_expressions.specs.declared.operands.Single.{Single}
use Rattle.es_expressions.specs.declared.operands.Content.{Content}
use Rattle.es_expressions.specs.declared.operands.Content.TheVariants.{Node, Parts}
use Rattle.es_expressions.specs.declared.operands.Operand.{Operand}
use Rattle.es_expressions.specs.declared.frames.Frame.{Frame}
use Rattle.es_expressions.specs.declared.frames.Frame.TheVariants.{Group, Key, Call, New, NewCall, Signed, Stepped, Binary, Chosen, Other, Assign, Comma}
use Rattle.es_expressions.specs.declared.places.Place.{Place}
use Rattle.es_expressions.specs.declared.places.Place.TheVariants.{Before, Behind, Naming}
use Rattle.es_expressions.specs.declared.places.Step.{Step}
use Rattle.es_expressions.specs.declared.places.Step.TheVariants.{Taken, Left}

-- nodes were added behind the others, and nothing else happened
pub record Grows (before after : List NodeRow) : Type 0 where
  pub more : List NodeRow
  pub added : after ≡ before ++ more

abbrev pub is_list : Phrase → Bool
is_list (CommaPhrase a k b) = true
is_list _ = false

-- trees have these numbers, one by one
abbrev pub StandAt : Trees → List NodeRow → List ℕ → Type 0
StandAt NoTrees rows [] = Unit {0}
StandAt (OneMore first rest) rows (number ∷ numbers) = IsTreeAt first rows number × StandAt rest rows numbers
StandAt NoTrees rows (number ∷ numbers) = ⊥
StandAt (OneMore first rest) rows [] = ⊥

-- the node of an expression
pub record IsSingle (rows : List NodeRow) (s : Single) (e : Phrase) : Type 0 where
  pub level_is : s.level ≡ level e
  pub start : s.start ≡ start_of e
  pub stop : s.«end» ≡ end_of e
  pub height : s.height ≡ min 65 (depth (tree_of e))
  pub tree : IsTreeAt (tree_of e) rows s.node

abbrev pub ContentStands : Content → List NodeRow → Phrase → Type 0
ContentStands (Node number) rows e = (is_list e ≡ false) × IsTreeAt (tree_of e) rows number
ContentStands (Parts numbers) rows e = (is_list e ≡ true) × StandAt (parts_of e) rows numbers.items

-- an expression: by its node, or a list with commas by the nodes of its parts
pub record Stands (rows : List NodeRow) (o : Operand) (e : Phrase) : Type 0 where
  pub level_is : o.level ≡ level e
  pub target : o.is_target ≡ is_target e
  pub start : o.start ≡ start_of e
  pub stop : o.«end» ≡ end_of e
  pub height : o.height ≡ min 65 (deepest (parts_of e))
  pub content : ContentStands o.content rows e

abbrev pub FrameStands : Frame → List NodeRow → Opening → Type 0
FrameStands (Group start) rows (InGroup o) = start ≡ o.start
FrameStands (Key base) rows (InKey e o) = IsSingle rows base e
FrameStands (Call callee) rows (InCall e o) = IsSingle rows callee e
FrameStands (New start) rows (InNew n) = start ≡ n.start
FrameStands (NewCall start callee) rows (InNewCall n e o) = (start ≡ n.start) × IsSingle rows callee e
FrameStands (Signed start symbol) rows (InSigned k) = (start ≡ k.start) × (symbol ≡ k.symbol)
FrameStands (Stepped start symbol) rows (InStepped k) = (start ≡ k.start) × (symbol ≡ k.symbol)
FrameStands (Binary left symbol n) rows (InBinary e k) =
    IsSingle rows left e × (symbol ≡ k.symbol) × (n ≡ strength k)
FrameStands (Chosen test) rows (InChosen e q) = IsSingle rows test e
FrameStands (Other test chosen) rows (InOther e q f c) = IsSingle rows test e × IsSingle rows chosen f
FrameStands (Assign target symbol) rows (InAssign e k) = IsSingle rows target e × (symbol ≡ k.symbol)
FrameStands (Comma front) rows (InComma e k) = Stands rows front e
FrameStands _ rows _ = ⊥

-- the frames, the innermost first, stand for these open forms
abbrev pub AreStanding : List Frame → List NodeRow → List Opening → Type 0
AreStanding [] rows [] = Unit {0}
AreStanding (x ∷ xs) rows (f ∷ fs) = FrameStands x rows f × AreStanding xs rows fs
AreStanding [] rows (f ∷ fs) = ⊥
AreStanding (x ∷ xs) rows [] = ⊥

-- the hole of what a frame stands for, and its edge
abbrev pub frame_hole : Frame → ℕ
frame_hole (New start) = 17
frame_hole (Signed start symbol) = 14
frame_hole (Stepped start symbol) = 16
frame_hole (Binary left symbol n) = suc n
frame_hole (Chosen test) = 2
frame_hole (Other test chosen) = 2
frame_hole (Assign target symbol) = 2
frame_hole (Comma front) = 2
frame_hole _ = 1

abbrev pub frame_edge : Frame → ℕ
frame_edge (New start) = 17
frame_edge (Signed start symbol) = 14
frame_edge (Stepped start symbol) = 16
frame_edge (Binary left symbol n) = suc n
frame_edge (Other test chosen) = 2
frame_edge (Assign target symbol) = 2
frame_edge (Comma front) = 2
frame_edge _ = 0

abbrev pub innermost_hole : ℕ → List Frame → ℕ
innermost_hole base [] = base
innermost_hole base (x ∷ xs) = frame_hole x

abbrev pub innermost_edge : List Frame → ℕ
innermost_edge [] = 0
innermost_edge (x ∷ xs) = frame_edge x

-- an operand stands for a phrase, or there is neither
abbrev pub MayStand : List NodeRow → Option Operand → Option Phrase → Type 0
MayStand rows None None = Unit {0}
MayStand rows (Some o) (Some e) = Stands rows o e
MayStand rows None (Some e) = ⊥
MayStand rows (Some o) None = ⊥

-- the operand and the frames left stand for what a settling left, or there is no operand
abbrev pub IsSettledAs : List NodeRow → Option Operand → List Frame → Option SpecOperand → Type 0
IsSettledAs rows None frames None = (fs : List Opening) × AreStanding frames rows fs
IsSettledAs rows (Some o) frames (Some p) = Stands rows o p.phrase × AreStanding frames rows p.openings
IsSettledAs rows None frames (Some p) = ⊥
IsSettledAs rows (Some o) frames None = ⊥

abbrev pub PlaceStands : Place → List NodeRow → List Frame → State → Type 0
PlaceStands Before rows frames (SpecBefore fs) = AreStanding frames rows fs
PlaceStands (Behind o) rows frames (SpecBehind e fs) = Stands rows o e × AreStanding frames rows fs
PlaceStands (Naming base) rows frames (SpecNaming e d fs) = IsSingle rows base e × AreStanding frames rows fs
PlaceStands _ rows frames _ = ⊥

-- what is left where a token isn't taken ends as the state before it
pub record EndsAs (place : Place) (rows : List NodeRow) (frames : List Frame) (s : State) : Type 0 where
  pub state : State
  pub stands : PlaceStands place rows frames state
  pub same : finish state ≡ finish s

-- an operand of one node
abbrev pub noded : ℕ → Bool → ℕ → TheNode → ℕ → Operand
noded n target height node number = record {
  level = n;
  is_target = target;
  height = height;
  start = node.start;
  «end» = node.«end»;
  content = Node number;
}

-- a token was taken, and the state stands for the next, or it was left
abbrev pub IsTakenAs : Step → List NodeRow → List Frame → State → Option State → Type 0
IsTakenAs (Taken place) rows frames s (Some n) = PlaceStands place rows frames n
IsTakenAs (Left place) rows frames s None = EndsAs place rows frames s
IsTakenAs (Taken place) rows frames s None = ⊥
IsTakenAs (Left place) rows frames s (Some n) = ⊥

-- nodes and open frames
pub record Held : Type 0 where
  pub rows : List NodeRow
  pub frames : List Frame

abbrev pub held : List NodeRow → List Frame → Held
held rows frames = record { rows = rows; frames = frames }

-- a token of this role came behind an operand, and it was taken or left as in the definition
abbrev pub Joins : ℕ → Joint → Lexeme → Operand → Held → Held → Step → Type 0
Joins base j t o before after step =
    (fs : List Opening) (e : Phrase) → joint t ≡ j → AreStanding before.frames before.rows fs
    → Stands before.rows o e → IsTakenAs step after.rows after.frames (SpecBehind e fs) (join base j t e fs)

-- a token came where an operand is to come
abbrev pub Begins : ℕ → Lexeme → Held → Held → Step → Type 0
Begins base t before after step =
    (fs : List Opening) → AreStanding before.frames before.rows fs
    → IsTakenAs step after.rows after.frames (SpecBefore fs) (begin base (front t) t fs)

-- a token came
abbrev pub Moves : ℕ → Place → Lexeme → Held → Held → Step → Type 0
Moves base place t before after step =
    (s : State) → PlaceStands place before.rows before.frames s
    → IsTakenAs step after.rows after.frames s (move base s t)

-- a `)` came, or another token, where no argument did
abbrev pub Empties : Lexeme → Held → Held → Step → Type 0
Empties t before after step =
    (fs : List Opening) → AreStanding before.frames before.rows fs
    → IsTakenAs step after.rows after.frames (SpecBefore fs) (with_empty (joint t) t fs)

abbrev pub IsFoundAs : List NodeRow → Option Found → Option Phrase → Type 0
IsFoundAs rows None None = Unit {0}
IsFoundAs rows (Some f) (Some e) = Tells e rows f
IsFoundAs rows None (Some e) = ⊥
IsFoundAs rows (Some f) None = ⊥

-- the frames that a `)` ends, a `]`, a `:`, and a `)` where no argument came
abbrev pub is_closing : Frame → Bool
is_closing (Group s) = true
is_closing (Call s) = true
is_closing (NewCall s f) = true
is_closing _ = false

abbrev pub is_key : Frame → Bool
is_key (Key s) = true
is_key _ = false

abbrev pub is_chosen : Frame → Bool
is_chosen (Chosen s) = true
is_chosen _ = false

abbrev pub is_empty_call : Frame → Bool
is_empty_call (Call s) = true
is_empty_call (NewCall s f) = true
is_empty_call _ = false

-- the forms that these marks complete
abbrev pub completed_by : Lexeme → Opening → Phrase → Option Phrase
completed_by t (InGroup o) e = Some (GroupPhrase o e t)
completed_by t (InCall f o) e = Some (CallWithPhrase f o e t)
completed_by t (InNewCall n f o) e = Some (NewWithPhrase n f o e t)
completed_by t _ e = None

abbrev pub indexed_by : Lexeme → Opening → Phrase → Option Phrase
indexed_by t (InKey b o) e = Some (IndexPhrase b o e t)
indexed_by t _ e = None

abbrev pub opened_by : Lexeme → Opening → Phrase → Option Opening
opened_by t (InChosen a q) e = Some (InOther a q e t)
opened_by t _ e = None

abbrev pub MayOpen : Frame → List NodeRow → Option Opening → Type 0
MayOpen x rows (Some f) = FrameStands x rows f
MayOpen x rows None = ⊥

abbrev pub emptied_by : Lexeme → Opening → Option Phrase
emptied_by t (InCall f o) = Some (CallEmptyPhrase f o t)
emptied_by t (InNewCall n f o) = Some (NewEmptyPhrase n f o t)
emptied_by t _ = None
