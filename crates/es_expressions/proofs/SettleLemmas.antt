-- Forms that end in front of a token.
use Rattle.std.proofs.Common.{◌≡◌, ℕ, ◌≤◌, ◌<◌, Bool, true, false, List, [], ◌∷◌, Option, Some, None, refl, ◌∙◌, ap, arith}
use Rattle.std.proofs.lemmas.Bool.{lt-ltb, le-ltb}
use Rattle.std.proofs.lemmas.Option.{same_Some}
use Rattle.es_expressions.specs.Roles.{joint}
use Rattle.es_expressions.specs.Phrases.{Phrase}
use Rattle.es_expressions.specs.Phrases.Phrase.{NewPlain, Signed, Stepped, Binary, Choice, Assign, Comma}
use Rattle.es_expressions.specs.Grammar.{IsExpression}
use Rattle.es_expressions.specs.Machine.{Opening, edge, hole_of, edge_of, if_target, closed, Operand, operand, settled_by, settled, State, when, join, joined, run_on, unwound, outer_edge}
use Rattle.es_expressions.specs.Machine.Opening.{InNew, InSigned, InStepped, InBinary, InOther, InAssign, InComma}
use Rattle.es_expressions.specs.declared.lexemes.Lexeme.{Lexeme}
use Rattle.es_expressions.proofs.RoleLemmas.{strength-bound}
use Rattle.es_expressions.proofs.LevelLemmas.{edge-level, target-edge}

pub settled-stays : (r : ℕ) (e : Phrase) (fs : List Opening) → edge_of fs ≤ r → settled fs r e ≡ Some (operand e fs)
unfolding settled
settled-stays r e [] h = refl
settled-stays r e (f ∷ fs) h = ap (λ b. settled_by b (closed f e) (λ w. settled fs r w) (Some (operand e (f ∷ fs)))) (le-ltb r (edge f) h)

pub settled-closes : (r : ℕ) (e whole : Phrase) (f : Opening) (fs : List Opening) → r < edge f → closed f e ≡ Some whole → settled (f ∷ fs) r e ≡ settled fs r whole
unfolding settled
settled-closes r e whole f fs h c =
    ap (λ b. settled_by b (closed f e) (λ w. settled fs r w) (Some (operand e (f ∷ fs)))) (lt-ltb r (edge f) h)
    ∙ ap (λ x. settled_by true x (λ w. settled fs r w) (Some (operand e (f ∷ fs)))) c

pub settled-fails : (r : ℕ) (e : Phrase) (f : Opening) (fs : List Opening) → r < edge f → closed f e ≡ None → settled (f ∷ fs) r e ≡ None
unfolding settled
settled-fails r e f fs h c =
    ap (λ b. settled_by b (closed f e) (λ w. settled fs r w) (Some (operand e (f ∷ fs)))) (lt-ltb r (edge f) h)
    ∙ ap (λ x. settled_by true x (λ w. settled fs r w) (Some (operand e (f ∷ fs)))) c

pub spine : (e : Phrase) (r : ℕ) (fs : List Opening) → IsExpression e → r < outer_edge e → settled (unwound e fs).openings r (unwound e fs).phrase ≡ settled fs r e
spine (NewPlain n f) r fs h lt =
    spine f r (InNew n ∷ fs) h.1 (omega (arith, edge-level f, h.2))
    ∙ settled-closes r f (NewPlain n f) (InNew n) fs lt refl
spine (Signed k e) r fs h lt =
    spine e r (InSigned k ∷ fs) h.1 (omega (arith, edge-level e, h.2))
    ∙ settled-closes r e (Signed k e) (InSigned k) fs lt refl
spine (Stepped k e) r fs h lt =
    spine e r (InStepped k ∷ fs) h.1 (omega (arith, target-edge e h.2))
    ∙ settled-closes r e (Stepped k e) (InStepped k) fs lt (ap (λ b. if_target b (Stepped k e)) h.2)
spine (Binary a k b) r fs h lt =
    spine b r (InBinary a k ∷ fs) h.2 (omega (arith, edge-level b, h.4))
    ∙ settled-closes r b (Binary a k b) (InBinary a k) fs lt refl
spine (Choice a q b c d) r fs h lt =
    spine d r (InOther a q b c ∷ fs) h.6 (omega (arith, edge-level d, h.7))
    ∙ settled-closes r d (Choice a q b c d) (InOther a q b c) fs lt refl
spine (Assign a k b) r fs h lt =
    spine b r (InAssign a k ∷ fs) h.3 (omega (arith, edge-level b, h.4))
    ∙ settled-closes r b (Assign a k b) (InAssign a k) fs lt refl
spine (Comma a k b) r fs h lt =
    spine b r (InComma a k ∷ fs) h.2 (omega (arith, edge-level b, h.3))
    ∙ settled-closes r b (Comma a k b) (InComma a k) fs lt refl
spine _ r fs h lt = refl

pub edge-hole : (base : ℕ) (fs : List Opening) → edge_of fs ≤ hole_of base fs
edge-hole base [] = omega arith
edge-hole base (InNew n ∷ fs) = omega arith
edge-hole base (_ ∷ fs) = omega arith

pub hole-bound : (base : ℕ) → base ≤ 2 → (fs : List Opening) → hole_of base fs ≤ 17
hole-bound base b [] = omega arith
hole-bound base b (InBinary a k ∷ fs) = omega (arith, strength-bound k)
hole-bound base b (_ ∷ fs) = omega arith

pub low-hole : (base : ℕ) → base ≤ 2 → (r : ℕ) → 2 ≤ r → (fs : List Opening) → edge_of fs ≤ r → hole_of base fs ≤ r
low-hole base b r low [] h = omega arith
low-hole base b r low (InNew n ∷ fs) h = omega arith
low-hole base b r low (_ ∷ fs) h = omega arith

-- What a settling comes to, by its two cases

pub settle-cases : {P : Type 0} (b : Bool) (c : Option Phrase) (go : Phrase → Option Operand) (stay : Option Operand) (o : Operand) → settled_by b c go stay ≡ Some o → ((w : Phrase) → b ≡ true → c ≡ Some w → go w ≡ Some o → P) → (b ≡ false → stay ≡ Some o → P) → P
settle-cases true (Some w) go stay o h k l = k w refl refl h
settle-cases true None go stay o h k l = absurd (cc)
settle-cases false c go stay o h k l = l refl h

pub when-cases : {A P : Type 0} (b : Bool) (a n : A) → when b a ≡ Some n → (b ≡ true → a ≡ n → P) → P
when-cases true a n h k = k refl (same_Some a n h)
when-cases false a n h k = absurd (cc)

pub run-cases : {P : Type 0} (o : Option State) (go : State → Option State) (n : State) → run_on o go ≡ Some n → ((m : State) → o ≡ Some m → go m ≡ Some n → P) → P
run-cases (Some m) go n h k = k m refl h
run-cases None go n h k = absurd (cc)

pub joined-cases : {P : Type 0} (base : ℕ) (t : Lexeme) (o : Option Operand) (n : State) → joined base t o ≡ Some n → ((p : Operand) → o ≡ Some p → join base (joint t) t p.phrase p.openings ≡ Some n → P) → P
joined-cases base t (Some p) n h k = k p refl h
joined-cases base t None n h k = absurd (cc)
