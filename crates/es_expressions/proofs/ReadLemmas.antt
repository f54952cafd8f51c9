-- Each expression is read, and leaves its last operand open.
use Rattle.std.proofs.Common.{◌≡◌, ℕ, ◌≤◌, ◌<◌, true, List, [], ◌∷◌, Some, refl, ◌∙◌, ap, arith}
use Rattle.std.proofs.lemmas.Bool.{le-leb}
use Rattle.es_expressions.specs.Roles.{front, joint, strength, is_name}
use Rattle.es_expressions.specs.Phrases.{Phrase, spelled}
use Rattle.es_expressions.specs.Phrases.Phrase.{Leaf, Group, Index, Member, CallEmpty, CallWith, NewPlain, NewEmpty, NewWith, Postfix, Signed, Stepped, Binary, Choice, Assign, Comma}
use Rattle.es_expressions.specs.Grammar.{IsExpression, level, takes_links}
use Rattle.es_expressions.specs.Machine.{Opening, hole_of, edge_of, reach, settled, State, behind, when, with_call, join, with_empty, begin, joined, move, run_on, run, unwound, outer_edge}
use Rattle.es_expressions.specs.Machine.Opening.{InGroup, InKey, InCall, InNew, InNewCall, InSigned, InStepped, InBinary, InChosen, InOther, InAssign, InComma}
use Rattle.es_expressions.specs.Machine.State.{Before, Behind, Naming}
use Rattle.es_expressions.specs.declared.lexemes.Lexeme.{Lexeme}
use Rattle.es_expressions.specs.declared.roles.Front.{Front}
use Rattle.es_expressions.specs.declared.roles.Front.TheVariants.{Whole, Group as GroupFront, Creation, Sign, Step as StepFront, Nothing as NoFront}
use Rattle.es_expressions.specs.declared.roles.Joint.{Joint}
use Rattle.es_expressions.specs.declared.roles.Joint.TheVariants.{Dot, Key, Call, Step as StepJoint, Operator, Choice as ChoiceJoint, Assignment, Comma as CommaJoint, Close, KeyEnd, Colon}
use Rattle.es_expressions.proofs.RoleLemmas.{joint-bounds, close-front}
use Rattle.es_expressions.proofs.LevelLemmas.{takes-from, takes-back, level-positive, edge-positive, target-edge, target-level, links-edge, new-edge, spine-level}
use Rattle.es_expressions.proofs.SettleLemmas.{settled-stays, spine, edge-hole, hole-bound}

pub stepped : (base : ℕ) (t : Lexeme) (ts : List Lexeme) (s n : State) → move base s t ≡ Some n → run base (t ∷ ts) s ≡ run base ts n
unfolding run
stepped base t ts s n h = ap (λ o. run_on o (λ next. run base ts next)) h

pub begins : (base : ℕ) (t : Lexeme) (f : Front) (fs : List Opening) → front t ≡ f → move base (Before fs) t ≡ begin base f t fs
unfolding move
begins base t f fs h = ap (λ x. begin base x t fs) h

pub joins : (base : ℕ) (t : Lexeme) (j : Joint) (e : Phrase) (fs : List Opening) → joint t ≡ j → IsExpression e → reach j < outer_edge e → edge_of fs ≤ reach j → move base (behind (unwound e fs)) t ≡ join base j t e fs
unfolding move
joins base t j e fs h g lt le =
    ap (λ x. joined base t (settled (unwound e fs).openings (reach x) (unwound e fs).phrase)) h
    ∙ (ap (joined base t) (spine e (reach j) fs g lt ∙ settled-stays (reach j) e fs le)
    ∙ ap (λ x. join base x t e fs) h)

pub names : (base : ℕ) (e : Phrase) (d x : Lexeme) (fs : List Opening) → is_name x.symbol ≡ true → move base (Naming e d fs) x ≡ Some (Behind (Member e d x) fs)
unfolding move
names base e d x fs h = ap (λ b. when b (Behind (Member e d x) fs)) h

plain-call : (base : ℕ) (t : Lexeme) (e : Phrase) (fs : List Opening) → hole_of base fs ≤ 16 → with_call t e fs ≡ (InCall e t ∷ fs)
plain-call base t e [] h = refl
plain-call base t e (InNew n ∷ fs) h = absurd (omega arith)
plain-call base t e (_ ∷ fs) h = refl

high-links : (e : Phrase) → 18 ≤ level e → takes_links e ≡ true
high-links e h = takes-back (level e) (omega arith) (λ x. omega arith)

-- each token in its place

takes : (base : ℕ) (t : Lexeme) (j : Joint) (e : Phrase) (fs : List Opening) (n : State) → joint t ≡ j → IsExpression e → reach j < outer_edge e → edge_of fs ≤ reach j → join base j t e fs ≡ Some n → (ts : List Lexeme) → run base (t ∷ ts) (behind (unwound e fs)) ≡ run base ts n
takes base t j e fs n h g lt le to ts = stepped base t ts (behind (unwound e fs)) n (joins base t j e fs h g lt le ∙ to)

links : (base : ℕ) → base ≤ 2 → (t : Lexeme) (j : Joint) (e : Phrase) (fs : List Opening) (n : State) → joint t ≡ j → IsExpression e → takes_links e ≡ true → 17 ≤ reach j → reach j ≤ 18 → join base j t e fs ≡ Some n → (ts : List Lexeme) → run base (t ∷ ts) (behind (unwound e fs)) ≡ run base ts n
links base b t j e fs n h g l low high to ts = takes base t j e fs n h g (omega (arith, links-edge e l)) (omega (arith, edge-hole base fs, hole-bound base b fs)) to ts

starts : (base : ℕ) (t : Lexeme) (f : Front) (fs : List Opening) (n : State) → front t ≡ f → begin base f t fs ≡ Some n → (ts : List Lexeme) → run base (t ∷ ts) (Before fs) ≡ run base ts n
starts base t f fs n h to ts = stepped base t ts (Before fs) n (begins base t f fs h ∙ to)

empties : (base : ℕ) (t : Lexeme) (fs : List Opening) (n : State) → joint t ≡ Close → with_empty Close t fs ≡ Some n → (ts : List Lexeme) → run base (t ∷ ts) (Before fs) ≡ run base ts n
empties base t fs n h to ts = starts base t NoFront fs n (close-front t h) (ap (λ j. with_empty j t fs) h ∙ to) ts

pub reads : (base : ℕ) → base ≤ 2 → (e : Phrase) (fs : List Opening) (rest : List Lexeme) → IsExpression e → hole_of base fs ≤ level e → run base (spelled e rest) (Before fs) ≡ run base rest (behind (unwound e fs))
reads base b (Leaf t) fs rest h fit = starts base t Whole fs (Behind (Leaf t) fs) h refl rest
reads base b (Group o e c) fs rest h fit =
    starts base o GroupFront fs (Before (InGroup o ∷ fs)) h.0 refl (spelled e (c ∷ rest))
    ∙ (reads base b e (InGroup o ∷ fs) (c ∷ rest) h.1 (level-positive e h.1)
    ∙ takes base c Close e (InGroup o ∷ fs) (Behind (Group o e c) fs) h.2 h.1 (omega (arith, edge-positive e h.1)) (omega arith) refl rest)
reads base b (Index x o e c) fs rest h fit =
    reads base b x fs (o ∷ spelled e (c ∷ rest)) h.0 (omega arith)
    ∙ (links base b o Key x fs (Before (InKey x o ∷ fs)) h.2 h.0 h.1 (omega arith) (omega arith) (ap (λ y. when y (Before (InKey x o ∷ fs))) h.1) (spelled e (c ∷ rest))
    ∙ (reads base b e (InKey x o ∷ fs) (c ∷ rest) h.3 (level-positive e h.3)
    ∙ takes base c KeyEnd e (InKey x o ∷ fs) (Behind (Index x o e c) fs) h.4 h.3 (omega (arith, edge-positive e h.3)) (omega arith) refl rest))
reads base b (Member x d n) fs rest h fit =
    reads base b x fs (d ∷ (n ∷ rest)) h.0 (omega arith)
    ∙ (links base b d Dot x fs (Naming x d fs) h.2 h.0 h.1 (omega arith) (omega arith) (ap (λ y. when y (Naming x d fs)) h.1) (n ∷ rest)
    ∙ stepped base n rest (Naming x d fs) (Behind (Member x d n) fs) (names base x d n fs h.3))
reads base b (CallEmpty f o c) fs rest h fit =
    reads base b f fs (o ∷ (c ∷ rest)) h.0 (omega (arith, takes-from (level f) h.1))
    ∙ (links base b o Call f fs (Before (InCall f o ∷ fs)) h.2 h.0 h.1 (omega arith) (omega arith) (ap (λ y. when y (Before (with_call o f fs))) h.1 ∙ ap (λ y. Some (Before y)) (plain-call base o f fs fit)) (c ∷ rest)
    ∙ empties base c (InCall f o ∷ fs) (Behind (CallEmpty f o c) fs) h.3 refl rest)
reads base b (CallWith f o e c) fs rest h fit =
    reads base b f fs (o ∷ spelled e (c ∷ rest)) h.0 (omega (arith, takes-from (level f) h.1))
    ∙ (links base b o Call f fs (Before (InCall f o ∷ fs)) h.2 h.0 h.1 (omega arith) (omega arith) (ap (λ y. when y (Before (with_call o f fs))) h.1 ∙ ap (λ y. Some (Before y)) (plain-call base o f fs fit)) (spelled e (c ∷ rest))
    ∙ (reads base b e (InCall f o ∷ fs) (c ∷ rest) h.3 (level-positive e h.3)
    ∙ takes base c Close e (InCall f o ∷ fs) (Behind (CallWith f o e c) fs) h.4 h.3 (omega (arith, edge-positive e h.3)) (omega arith) refl rest))
reads base b (NewPlain n f) fs rest h fit =
    starts base n Creation fs (Before (InNew n ∷ fs)) h.0 refl (spelled f rest)
    ∙ reads base b f (InNew n ∷ fs) rest h.1 h.2
reads base b (NewEmpty n f o c) fs rest h fit =
    starts base n Creation fs (Before (InNew n ∷ fs)) h.0 refl (spelled f (o ∷ (c ∷ rest)))
    ∙ (reads base b f (InNew n ∷ fs) (o ∷ (c ∷ rest)) h.1 (omega (arith, h.2))
    ∙ (takes base o Call f (InNew n ∷ fs) (Before (InNewCall n f o ∷ fs)) h.3 h.1 (omega (arith, new-edge f h.2)) (omega arith) (ap (λ y. when y (Before (InNewCall n f o ∷ fs))) (high-links f h.2)) (c ∷ rest)
    ∙ empties base c (InNewCall n f o ∷ fs) (Behind (NewEmpty n f o c) fs) h.4 refl rest))
reads base b (NewWith n f o e c) fs rest h fit =
    starts base n Creation fs (Before (InNew n ∷ fs)) h.0 refl (spelled f (o ∷ spelled e (c ∷ rest)))
    ∙ (reads base b f (InNew n ∷ fs) (o ∷ spelled e (c ∷ rest)) h.1 (omega (arith, h.2))
    ∙ (takes base o Call f (InNew n ∷ fs) (Before (InNewCall n f o ∷ fs)) h.3 h.1 (omega (arith, new-edge f h.2)) (omega arith) (ap (λ y. when y (Before (InNewCall n f o ∷ fs))) (high-links f h.2)) (spelled e (c ∷ rest))
    ∙ (reads base b e (InNewCall n f o ∷ fs) (c ∷ rest) h.4 (level-positive e h.4)
    ∙ takes base c Close e (InNewCall n f o ∷ fs) (Behind (NewWith n f o e c) fs) h.5 h.4 (omega (arith, edge-positive e h.4)) (omega arith) refl rest)))
reads base b (Postfix e k) fs rest h fit =
    reads base b e fs (k ∷ rest) h.0 (omega (arith, target-level e h.0 h.1))
    ∙ takes base k StepJoint e fs (Behind (Postfix e k) fs) h.2 h.0 (omega (arith, target-edge e h.1)) (omega (arith, edge-hole base fs)) (ap (λ y. when y (Behind (Postfix e k) fs)) h.1) rest
reads base b (Signed k e) fs rest h fit =
    starts base k Sign fs (Before (InSigned k ∷ fs)) h.0 (ap (λ y. when y (Before (InSigned k ∷ fs))) (le-leb (hole_of base fs) 14 fit)) (spelled e rest)
    ∙ reads base b e (InSigned k ∷ fs) rest h.1 h.2
reads base b (Stepped k e) fs rest h fit =
    starts base k StepFront fs (Before (InStepped k ∷ fs)) h.0 (ap (λ y. when y (Before (InStepped k ∷ fs))) (le-leb (hole_of base fs) 14 fit)) (spelled e rest)
    ∙ reads base b e (InStepped k ∷ fs) rest h.1 (target-level e h.1 h.2)
reads base b (Binary x k y) fs rest h fit =
    let bounds = joint-bounds k (strength k) h.1 in
    reads base b x fs (k ∷ spelled y rest) h.0 (omega (arith, h.3))
    ∙ (takes base k (Operator (strength k)) x fs (Before (InBinary x k ∷ fs)) h.1 h.0 (spine-level (strength k) x (omega (arith, bounds.0)) bounds.1 h.3) (omega (arith, edge-hole base fs)) (ap (λ z. when z (Before (InBinary x k ∷ fs))) (le-leb (strength k) (level x) h.3)) (spelled y rest)
    ∙ reads base b y (InBinary x k ∷ fs) rest h.2 h.4)
reads base b (Choice x q y c z) fs rest h fit =
    reads base b x fs (q ∷ spelled y (c ∷ spelled z rest)) h.0 (omega (arith, h.1))
    ∙ (takes base q ChoiceJoint x fs (Before (InChosen x q ∷ fs)) h.2 h.0 (omega (arith, spine-level 4 x (omega arith) (omega arith) h.1)) (omega (arith, edge-hole base fs)) (ap (λ w. when w (Before (InChosen x q ∷ fs))) (le-leb 4 (level x) h.1)) (spelled y (c ∷ spelled z rest))
    ∙ (reads base b y (InChosen x q ∷ fs) (c ∷ spelled z rest) h.3 h.4
    ∙ (takes base c Colon y (InChosen x q ∷ fs) (Before (InOther x q y c ∷ fs)) h.5 h.3 (omega (arith, edge-positive y h.3)) (omega arith) refl (spelled z rest)
    ∙ reads base b z (InOther x q y c ∷ fs) rest h.6 h.7)))
reads base b (Assign x k y) fs rest h fit =
    reads base b x fs (k ∷ spelled y rest) h.0 (omega (arith, target-level x h.0 h.1))
    ∙ (takes base k Assignment x fs (Before (InAssign x k ∷ fs)) h.2 h.0 (omega (arith, target-edge x h.1)) (omega (arith, edge-hole base fs)) (ap (λ w. when w (Before (InAssign x k ∷ fs))) h.1) (spelled y rest)
    ∙ reads base b y (InAssign x k ∷ fs) rest h.3 h.4)
reads base b (Comma x k y) fs rest h fit =
    reads base b x fs (k ∷ spelled y rest) h.0 (omega (arith, level-positive x h.0))
    ∙ (takes base k CommaJoint x fs (Before (InComma x k ∷ fs)) h.1 h.0 (omega (arith, edge-positive x h.0)) (omega (arith, edge-hole base fs)) (ap (λ w. when w (Before (InComma x k ∷ fs))) (le-leb (hole_of base fs) 1 fit)) (spelled y rest)
    ∙ reads base b y (InComma x k ∷ fs) rest h.2 h.3)
