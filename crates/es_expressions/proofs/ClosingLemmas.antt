-- Open forms that end: what the reader's closing comes to, in plain variables.
use Rattle.std.proofs.Common.{◌≡◌, ℕ, ◌≤◌, ◌<◌, true, false, List, [], ◌∷◌, Option, Some, None, refl, sym, ◌∙◌, ap, subst}
use Rattle.std.specs.Prelude.{nat_lt}
use Rattle.std.proofs.lemmas.Bool.{ltb-true, ltb-false}
use Rattle.es_expressions.specs.Roles.{strength}
use Rattle.es_expressions.specs.Phrases.{Phrase}
use Rattle.es_expressions.specs.Phrases.Phrase.{NewPlain, Signed, Stepped, Binary, Choice, Assign, Comma}
use Rattle.es_expressions.specs.Nodes.{NodeRow}
use Rattle.es_expressions.specs.Machine.{Opening, edge, edge_of, if_target, closed, Operand as SpecOperand, settled}
use Rattle.es_expressions.specs.Machine.Opening.{InNew, InSigned, InStepped, InBinary, InOther, InAssign, InComma}
use Rattle.es_expressions.specs.Standings.{Grows, IsSingle, Stands, FrameStands, AreStanding, frame_edge, innermost_edge, MayStand, IsSettledAs, Held}
use Rattle.es_expressions.specs.declared.lexemes.Lexeme.{Lexeme}
use Rattle.es_expressions.specs.declared.lexemes.Symbol.{Symbol}
use Rattle.es_expressions.specs.declared.operands.Single.{Single}
use Rattle.es_expressions.specs.declared.operands.Operand.{Operand}
use Rattle.es_expressions.specs.declared.frames.Frame.{Frame}
use Rattle.es_expressions.specs.declared.frames.Frame.TheVariants.{New, Signed as SignedFrame, Stepped as SteppedFrame, Binary as BinaryFrame, Other, Assign as AssignFrame, Comma as CommaFrame}
use Rattle.es_expressions.proofs.StandLemmas.{frames-grown}
use Rattle.es_expressions.proofs.SettleLemmas.{settled-closes, settled-stays, settled-fails}
use Rattle.es_expressions.proofs.JoinLemmas.{edge-as, edges-as}
use Rattle.es_expressions.proofs.StandLemmas.{grows-trans}

pub closes-new : (rows after : List NodeRow) (start : ℕ) (o w : Operand) → ((n : Lexeme) (e : Phrase) → start ≡ n.start → Stands rows o e → Stands after w (NewPlain n e)) → (f : Opening) (e : Phrase) → FrameStands (New start) rows f → Stands rows o e → MayStand after (Some w) (closed f e)
closes-new rows after start o w made (InNew n) e h k = made n e h k
closes-new rows after start o w made _ e h k = absurd h

pub closes-signed : (rows after : List NodeRow) (start : ℕ) (symbol : Symbol) (o w : Operand) → ((t : Lexeme) (e : Phrase) → start ≡ t.start → symbol ≡ t.symbol → Stands rows o e → Stands after w (Signed t e)) → (f : Opening) (e : Phrase) → FrameStands (SignedFrame start symbol) rows f → Stands rows o e → MayStand after (Some w) (closed f e)
closes-signed rows after start symbol o w made (InSigned t) e h k = made t e h.0 h.1 k
closes-signed rows after start symbol o w made _ e h k = absurd h

pub closes-stepped : (rows after : List NodeRow) (start : ℕ) (symbol : Symbol) (o w : Operand) → o.is_target ≡ true → ((t : Lexeme) (e : Phrase) → start ≡ t.start → symbol ≡ t.symbol → Stands rows o e → Stands after w (Stepped t e)) → (f : Opening) (e : Phrase) → FrameStands (SteppedFrame start symbol) rows f → Stands rows o e → MayStand after (Some w) (closed f e)
closes-stepped rows after start symbol o w target made (InStepped t) e h k = subst (λ b. MayStand after (Some w) (if_target b (Stepped t e))) (sym target ∙ k.target) (made t e h.0 h.1 k)
closes-stepped rows after start symbol o w target made _ e h k = absurd h

pub refuses-stepped : (rows after : List NodeRow) (start : ℕ) (symbol : Symbol) (o : Operand) → o.is_target ≡ false → (f : Opening) (e : Phrase) → FrameStands (SteppedFrame start symbol) rows f → Stands rows o e → MayStand after None (closed f e)
refuses-stepped rows after start symbol o target (InStepped t) e h k = subst (λ b. MayStand after None (if_target b (Stepped t e))) (sym target ∙ k.target) tt
refuses-stepped rows after start symbol o target _ e h k = absurd h

pub closes-binary : (rows after : List NodeRow) (left : Single) (symbol : Symbol) (n : ℕ) (o w : Operand) → ((a e : Phrase) (t : Lexeme) → symbol ≡ t.symbol → n ≡ strength t → IsSingle rows left a → Stands rows o e → Stands after w (Binary a t e)) → (f : Opening) (e : Phrase) → FrameStands (BinaryFrame left symbol n) rows f → Stands rows o e → MayStand after (Some w) (closed f e)
closes-binary rows after left symbol n o w made (InBinary a t) e h k = made a e t h.1 h.2 h.0 k
closes-binary rows after left symbol n o w made _ e h k = absurd h

pub closes-other : (rows after : List NodeRow) (test chosen : Single) (o w : Operand) → ((a b e : Phrase) (q c : Lexeme) → IsSingle rows test a → IsSingle rows chosen b → Stands rows o e → Stands after w (Choice a q b c e)) → (f : Opening) (e : Phrase) → FrameStands (Other test chosen) rows f → Stands rows o e → MayStand after (Some w) (closed f e)
closes-other rows after test chosen o w made (InOther a q b c) e h k = made a b e q c h.0 h.1 k
closes-other rows after test chosen o w made _ e h k = absurd h

pub closes-assign : (rows after : List NodeRow) (target : Single) (symbol : Symbol) (o w : Operand) → ((a e : Phrase) (t : Lexeme) → symbol ≡ t.symbol → IsSingle rows target a → Stands rows o e → Stands after w (Assign a t e)) → (f : Opening) (e : Phrase) → FrameStands (AssignFrame target symbol) rows f → Stands rows o e → MayStand after (Some w) (closed f e)
closes-assign rows after target symbol o w made (InAssign a t) e h k = made a e t h.1 h.0 k
closes-assign rows after target symbol o w made _ e h k = absurd h

pub closes-comma : (rows after : List NodeRow) (before : Operand) (o w : Operand) → ((a e : Phrase) (t : Lexeme) → Stands rows before a → Stands rows o e → Stands after w (Comma a t e)) → (f : Opening) (e : Phrase) → FrameStands (CommaFrame before) rows f → Stands rows o e → MayStand after (Some w) (closed f e)
closes-comma rows after before o w made (InComma a t) e h k = made a e t h k
closes-comma rows after before o w made _ e h k = absurd h

-- the loop

pub record StillSettles (rows : List NodeRow) (xs : List Frame) (o : Operand) (r : ℕ) (goal : Option SpecOperand) : Type 0 where
  pub openings : List Opening
  pub phrase : Phrase
  pub are_standing : AreStanding xs rows openings
  pub stands : Stands rows o phrase
  pub same : goal ≡ settled openings r phrase

pub record KeepsSettling (before : Held) (o : Operand) (r : ℕ) (after : Held) (now : Operand) : Type 0 where
  pub grows : Grows before.rows after.rows
  pub still : (fs : List Opening) (e : Phrase) → AreStanding before.frames before.rows fs → Stands before.rows o e → StillSettles after.rows after.frames now r (settled fs r e)

pub starts-settling : (at_first : Held) (o : Operand) (r : ℕ) → Grows at_first.rows at_first.rows → KeepsSettling at_first o r at_first o
starts-settling b o r g = record { grows = g; still = λ fs e a k. record { openings = fs; phrase = e; are_standing = a; stands = k; same = refl } }

abbrev pub Closing : List NodeRow → List NodeRow → Frame → Operand → Option Operand → Type 0
Closing rows after x o w = (f : Opening) (e : Phrase) → FrameStands x rows f → Stands rows o e → MayStand after w (closed f e)

by-whole : (rows after : List NodeRow) (x : Frame) (ys : List Frame) (r : ℕ) (o w : Operand) (goal : Option SpecOperand) (f : Opening) (gs : List Opening) (e : Phrase) (c : Option Phrase) → closed f e ≡ c → r < edge f → AreStanding ys after gs → MayStand after (Some w) c → goal ≡ settled (f ∷ gs) r e → StillSettles after ys w r goal
by-whole rows after x ys r o w goal f gs e None q lt a m same = absurd m
by-whole rows after x ys r o w goal f gs e (Some p) q lt a m same = record { openings = gs; phrase = p; are_standing = a; stands = m; same = same ∙ settled-closes r e p f gs lt q }

one-closed : (rows after : List NodeRow) (x : Frame) (ys : List Frame) (r : ℕ) (o w : Operand) (goal : Option SpecOperand) (gs : List Opening) (e : Phrase) → nat_lt r (frame_edge x) ≡ true → AreStanding (x ∷ ys) rows gs → Stands rows o e → Grows rows after → Closing rows after x o (Some w) → goal ≡ settled gs r e → StillSettles after ys w r goal
one-closed rows after x ys r o w goal [] e lt a k g c same = absurd a
one-closed rows after x ys r o w goal (f ∷ gs) e lt a k g c same =
    by-whole rows after x ys r o w goal f gs e (closed f e) refl (ltb-true r (edge f) (ap (λ n. nat_lt r n) (sym (edge-as x rows f a.0)) ∙ lt)) (frames-grown rows after ys gs g a.1) (c f e a.0 k) same

pub keeps-settling : (before after next : Held) (o now w : Operand) (r : ℕ) (x : Frame) → KeepsSettling before o r after now → after.frames ≡ (x ∷ next.frames) → nat_lt r (frame_edge x) ≡ true → Grows after.rows next.rows → Closing after.rows next.rows x now (Some w) → KeepsSettling before o r next w
keeps-settling before after next o now w r x k same lt g c = record {
  grows = grows-trans before.rows after.rows next.rows k.grows g;
  still = λ fs e a s. let t = k.still fs e a s in
      one-closed after.rows next.rows x next.frames r now w (settled fs r e) t.openings t.phrase lt (subst (λ z. AreStanding z after.rows t.openings) same t.are_standing) t.stands g c t.same;
}

-- the loop ends

pub settles : (before after : Held) (o now : Operand) (r : ℕ) (ys : List Frame) → KeepsSettling before o r after now → ys ≡ after.frames → nat_lt r (innermost_edge after.frames) ≡ false → (fs : List Opening) (e : Phrase) → AreStanding before.frames before.rows fs → Stands before.rows o e → IsSettledAs after.rows (Some now) ys (settled fs r e)
settles before after o now r ys k same denied fs e a s =
    let t = k.still fs e a s in
    let low : edge_of t.openings ≤ r = ltb-false r (edge_of t.openings) (ap (λ n. nat_lt r n) (sym (edges-as after.frames after.rows t.openings t.are_standing)) ∙ denied) in
    subst (λ z. IsSettledAs after.rows (Some now) ys z) (sym (t.same ∙ settled-stays r t.phrase t.openings low))
    (t.stands, subst (λ z. AreStanding z after.rows t.openings) (sym same) t.are_standing)

by-none : (rows after : List NodeRow) (ys : List Frame) (r : ℕ) (goal : Option SpecOperand) (f : Opening) (gs : List Opening) (e : Phrase) (c : Option Phrase) → closed f e ≡ c → r < edge f → AreStanding ys after gs → MayStand after None c → goal ≡ settled (f ∷ gs) r e → IsSettledAs after None ys goal
by-none rows after ys r goal f gs e (Some p) q lt a m same = absurd m
by-none rows after ys r goal f gs e None q lt a m same = subst (λ z. IsSettledAs after None ys z) (sym (same ∙ settled-fails r e f gs lt q)) (gs, a)

none-closed : (rows after : List NodeRow) (x : Frame) (ys : List Frame) (r : ℕ) (o : Operand) (goal : Option SpecOperand) (gs : List Opening) (e : Phrase) → nat_lt r (frame_edge x) ≡ true → AreStanding (x ∷ ys) rows gs → Stands rows o e → Grows rows after → Closing rows after x o None → goal ≡ settled gs r e → IsSettledAs after None ys goal
none-closed rows after x ys r o goal [] e lt a k g c same = absurd a
none-closed rows after x ys r o goal (f ∷ gs) e lt a k g c same =
    by-none rows after ys r goal f gs e (closed f e) refl (ltb-true r (edge f) (ap (λ n. nat_lt r n) (sym (edge-as x rows f a.0)) ∙ lt)) (frames-grown rows after ys gs g a.1) (c f e a.0 k) same

pub fails : (before after next : Held) (o now : Operand) (r : ℕ) (x : Frame) → KeepsSettling before o r after now → after.frames ≡ (x ∷ next.frames) → nat_lt r (frame_edge x) ≡ true → Grows after.rows next.rows → Closing after.rows next.rows x now None → (fs : List Opening) (e : Phrase) → AreStanding before.frames before.rows fs → Stands before.rows o e → IsSettledAs next.rows None next.frames (settled fs r e)
fails before after next o now r x k same lt g c fs e a s =
    let t = k.still fs e a s in
    none-closed after.rows next.rows x next.frames r now (settled fs r e) t.openings t.phrase lt (subst (λ z. AreStanding z after.rows t.openings) same t.are_standing) t.stands g c t.same
