-- Each right state goes on to an expression: what is open is filled.
use Rattle.std.proofs.Common.{◌≡◌, ◌≢◌, ℕ, ◌≤◌, true, false, inl, inr, List, [], ◌∷◌, refl, arith}
use Rattle.es_expressions.specs.Roles.{front, joint}
use Rattle.es_expressions.specs.Phrases.{Phrase, spelled}
use Rattle.es_expressions.specs.Phrases.Phrase.{Leaf, Group, Index, Member, CallWith, NewEmpty, NewWith, Signed, Stepped, Binary, Choice, Assign, Comma}
use Rattle.es_expressions.specs.Grammar.{IsExpression, level, takes_links}
use Rattle.es_expressions.specs.Machine.{Opening, hole_of, State, in_front, Fits, IsRight}
use Rattle.es_expressions.specs.Machine.Opening.{InGroup, InKey, InCall, InNew, InNewCall, InSigned, InStepped, InBinary, InChosen, InOther, InAssign, InComma}
use Rattle.es_expressions.specs.Machine.State.{Before, Behind, Naming}
use Rattle.es_expressions.specs.declared.lexemes.Lexeme.{Lexeme}
use Rattle.es_expressions.specs.declared.lexemes.Symbol.{Symbol}
use Rattle.es_expressions.specs.declared.roles.Front.TheVariants.{Whole}
use Rattle.es_expressions.specs.declared.roles.Joint.TheVariants.{Dot, Call, Close, KeyEnd, Colon}
use Rattle.es_lexer.specs.declared.punctuators.Punctuator.{Punctuator}
use Rattle.es_lexer.specs.declared.punctuators.Punctuator.TheVariants.{OpenParenthesis as OpenMark, CloseParenthesis as CloseMark, CloseBracket as BracketMark, Dot as DotMark, Colon as ColonMark}
use Rattle.es_expressions.specs.declared.lexemes.Symbol.TheVariants.{Name as NameSymbol, Mark as MarkSymbol}
use Rattle.es_expressions.specs.Roles.{front_of, joint_of, mark_joint}
use Rattle.es_expressions.proofs.RoleLemmas.{strength-bound}
use Rattle.es_expressions.proofs.LevelLemmas.{takes-from, takes-min}
use Rattle.es_expressions.proofs.SettleLemmas.{hole-bound}

abbrev token_of : Symbol → Lexeme
token_of s = record { symbol = s; start = 0; «end» = 0; after_break = false }

abbrev mark : Punctuator → Lexeme
mark m = token_of (MarkSymbol m)

abbrev x : Lexeme
x = token_of (NameSymbol [])

x-front : front x ≡ Whole
unfolding front_of
x-front = refl

call-joint : joint (mark OpenMark) ≡ Call
unfolding joint joint_of mark_joint
call-joint = refl

close-joint : joint (mark CloseMark) ≡ Close
unfolding joint joint_of mark_joint
close-joint = refl

bracket-joint : joint (mark BracketMark) ≡ KeyEnd
unfolding joint joint_of mark_joint
bracket-joint = refl

dot-joint : joint (mark DotMark) ≡ Dot
unfolding joint joint_of mark_joint
dot-joint = refl

colon-joint : joint (mark ColonMark) ≡ Colon
unfolding joint joint_of mark_joint
colon-joint = refl

-- an operand in open forms goes on to an expression
pub record Filled (base : ℕ) (s : State) : Type 0 where
  pub more : List Lexeme
  pub whole : Phrase
  pub expression : IsExpression whole
  pub fits : base ≤ level whole
  pub is_spelled : in_front s more ≡ spelled whole []

fit-links : (base : ℕ) (e : Phrase) (fs : List Opening) → Fits base e fs → 16 ≤ hole_of base fs → takes_links e ≡ true
fit-links base e fs f h = elim f [ inl k ↦ k | inr k ↦ absurd (omega arith) ]

high : (n : ℕ) → 17 ≤ n → n ≢ 17 → 18 ≤ n
high n a b = omega arith

pub fills : (base : ℕ) → base ≤ 2 → (fs : List Opening) (e : Phrase) → IsRight base (Behind e fs) → Filled base (Behind e fs)
fills base b [] e r = record { more = []; whole = e; expression = r.0; fits = r.2; is_spelled = refl }
fills base b (InGroup o ∷ fs) e r =
    let a = r.1 in
    let q : Filled base (Behind (Group o e (mark CloseMark)) fs) = fills base b fs (Group o e (mark CloseMark)) ((a.0, r.0, close-joint), a.2, omega (arith, hole-bound base b fs), inl refl) in
    record { more = mark CloseMark ∷ q.more; whole = q.whole; expression = q.expression; fits = q.fits; is_spelled = q.is_spelled }
fills base b (InKey y o ∷ fs) e r =
    let a = r.1 in
    let q : Filled base (Behind (Index y o e (mark BracketMark)) fs) = fills base b fs (Index y o e (mark BracketMark)) ((a.0.0, a.0.1, a.0.2, r.0, bracket-joint), a.2, a.1, inl (takes-min (level y) a.0.1)) in
    record { more = mark BracketMark ∷ q.more; whole = q.whole; expression = q.expression; fits = q.fits; is_spelled = q.is_spelled }
fills base b (InCall f o ∷ fs) e r =
    let a = r.1 in
    let q : Filled base (Behind (CallWith f o e (mark CloseMark)) fs) = fills base b fs (CallWith f o e (mark CloseMark)) ((a.0.0, a.0.1, a.0.2, r.0, close-joint), a.2, a.1, inl refl) in
    record { more = mark CloseMark ∷ q.more; whole = q.whole; expression = q.expression; fits = q.fits; is_spelled = q.is_spelled }
fills base b (InNew n ∷ fs) e r =
    let a = r.1 in
    let k : takes_links e ≡ true = fit-links base e (InNew n ∷ fs) r.3 (omega arith) in
    let l : 18 ≤ level e = high (level e) r.2 (takes-from (level e) k).1 in
    let q : Filled base (Behind (NewEmpty n e (mark OpenMark) (mark CloseMark)) fs) = fills base b fs (NewEmpty n e (mark OpenMark) (mark CloseMark)) ((a.0, r.0, l, call-joint, close-joint), a.2, omega (arith, a.1), inl refl) in
    record { more = mark OpenMark ∷ (mark CloseMark ∷ q.more); whole = q.whole; expression = q.expression; fits = q.fits; is_spelled = q.is_spelled }
fills base b (InNewCall n f o ∷ fs) e r =
    let a = r.1 in
    let q : Filled base (Behind (NewWith n f o e (mark CloseMark)) fs) = fills base b fs (NewWith n f o e (mark CloseMark)) ((a.0.0, a.0.1, a.0.2, a.0.3, r.0, close-joint), a.2, a.1, inl refl) in
    record { more = mark CloseMark ∷ q.more; whole = q.whole; expression = q.expression; fits = q.fits; is_spelled = q.is_spelled }
fills base b (InSigned k ∷ fs) e r =
    let a = r.1 in
    let q : Filled base (Behind (Signed k e) fs) = fills base b fs (Signed k e) ((a.0, r.0, r.2), a.2, a.1, inr (omega (arith, a.1))) in
    record { more = q.more; whole = q.whole; expression = q.expression; fits = q.fits; is_spelled = q.is_spelled }
fills base b (InStepped k ∷ fs) e r =
    let a = r.1 in
    let l : takes_links e ≡ true = fit-links base e (InStepped k ∷ fs) r.3 (omega arith) in
    let q : Filled base (Behind (Stepped k (Member e (mark DotMark) x)) fs) = fills base b fs (Stepped k (Member e (mark DotMark) x)) ((a.0, (r.0, l, dot-joint, refl), refl), a.2, a.1, inr (omega (arith, a.1))) in
    record { more = mark DotMark ∷ (x ∷ q.more); whole = q.whole; expression = q.expression; fits = q.fits; is_spelled = q.is_spelled }
fills base b (InBinary y k ∷ fs) e r =
    let a = r.1 in
    let q : Filled base (Behind (Binary y k e) fs) = fills base b fs (Binary y k e) ((a.0.0, a.0.1, r.0, a.0.2, r.2), a.2, a.1, inr (omega (arith, a.1, strength-bound k))) in
    record { more = q.more; whole = q.whole; expression = q.expression; fits = q.fits; is_spelled = q.is_spelled }
fills base b (InChosen y k ∷ fs) e r =
    let a = r.1 in
    let q : Filled base (Behind (Choice y k e (mark ColonMark) (Leaf x)) fs) = fills base b fs (Choice y k e (mark ColonMark) (Leaf x)) ((a.0.0, a.0.1, a.0.2, r.0, r.2, colon-joint, x-front, omega arith), a.2, a.1, inr (omega (arith, a.1))) in
    record { more = mark ColonMark ∷ (x ∷ q.more); whole = q.whole; expression = q.expression; fits = q.fits; is_spelled = q.is_spelled }
fills base b (InOther y k z c ∷ fs) e r =
    let a = r.1 in
    let q : Filled base (Behind (Choice y k z c e) fs) = fills base b fs (Choice y k z c e) ((a.0.0, a.0.1, a.0.2, a.0.3, a.0.4, a.0.5, r.0, r.2), a.2, a.1, inr (omega (arith, a.1))) in
    record { more = q.more; whole = q.whole; expression = q.expression; fits = q.fits; is_spelled = q.is_spelled }
fills base b (InAssign y k ∷ fs) e r =
    let a = r.1 in
    let q : Filled base (Behind (Assign y k e) fs) = fills base b fs (Assign y k e) ((a.0.0, a.0.1, a.0.2, r.0, r.2), a.2, a.1, inr (omega (arith, a.1))) in
    record { more = q.more; whole = q.whole; expression = q.expression; fits = q.fits; is_spelled = q.is_spelled }
fills base b (InComma y k ∷ fs) e r =
    let a = r.1 in
    let q : Filled base (Behind (Comma y k e) fs) = fills base b fs (Comma y k e) ((a.0.0, a.0.1, r.0, r.2), a.2, a.1, inr (omega (arith, a.1))) in
    record { more = q.more; whole = q.whole; expression = q.expression; fits = q.fits; is_spelled = q.is_spelled }

pub fills-all : (base : ℕ) → base ≤ 2 → (s : State) → IsRight base s → Filled base s
fills-all base b (Before fs) r =
    let q : Filled base (Behind (Leaf x) fs) = fills base b fs (Leaf x) (x-front, r, omega (arith, hole-bound base b fs), inl refl) in
    record { more = x ∷ q.more; whole = q.whole; expression = q.expression; fits = q.fits; is_spelled = q.is_spelled }
fills-all base b (Behind e fs) r = fills base b fs e r
fills-all base b (Naming e d fs) r =
    let q : Filled base (Behind (Member e d x) fs) = fills base b fs (Member e d x) ((r.0, r.3, r.4, refl), r.1, omega (arith, hole-bound base b fs, r.2), inl (takes-min (level e) r.3)) in
    record { more = x ∷ q.more; whole = q.whole; expression = q.expression; fits = q.fits; is_spelled = q.is_spelled }
