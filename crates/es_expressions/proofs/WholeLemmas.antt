-- What the states say of the tokens read: what goes on, what is whole, and that there is one tree.
use Rattle.std.proofs.Common.{◌≡◌, ℕ, ◌≤◌, List, [], ◌∷◌, ◌++◌, Option, Some, None, refl, sym, ◌∙◌, ap, arith, append-nil}
use Rattle.std.proofs.lemmas.Option.{same_Some}
use Rattle.es_expressions.specs.Phrases.{Phrase}
use Rattle.es_expressions.specs.Grammar.{IsExpression}
use Rattle.es_expressions.specs.Machine.{Opening, Operand, operand, settled, State, behind, move, alone_in, finish, run_on, run, in_front, IsRight, unwound}
use Rattle.es_expressions.specs.Machine.State.{Before, Behind, Naming}
use Rattle.es_expressions.specs.declared.lexemes.Lexeme.{Lexeme}
use Rattle.es_expressions.specs.Beginnings.{IsWhole, Begins}
use Rattle.es_expressions.proofs.LevelLemmas.{edge-positive}
use Rattle.es_expressions.proofs.SettleLemmas.{spine}
use Rattle.es_expressions.proofs.ReadLemmas.{reads}
use Rattle.es_expressions.proofs.FrontLemmas.{settled-front, run-front}
use Rattle.es_expressions.proofs.RightLemmas.{settled-right, run-right}
use Rattle.es_expressions.proofs.FillLemmas.{Filled, fills-all}

-- the state after these tokens
abbrev pub HasRead : ℕ → List Lexeme → State → Type 0
HasRead base ts s = run base ts (Before []) ≡ Some s

onward : (o : Option State) (f g k : State → Option State) → ((n : State) → k n ≡ run_on (f n) g) → run_on o k ≡ run_on (run_on o f) g
onward None f g k h = refl
onward (Some n) f g k h = h n

pub run-append : (base : ℕ) (ts us : List Lexeme) (s : State) → run base (ts ++ us) s ≡ run_on (run base ts s) (λ n. run base us n)
unfolding run
run-append base [] us s = refl
run-append base (t ∷ ts) us s = onward (move base s t) (λ n. run base ts n) (λ n. run base us n) (λ n. run base (ts ++ us) n) (λ n. run-append base ts us n)

pub whole-run : (base : ℕ) → base ≤ 2 → (ts : List Lexeme) (e : Phrase) → IsWhole base ts e → HasRead base ts (behind (unwound e []))
unfolding run
whole-run base b ts e w = ap (λ x. run base x (Before [])) (sym w.is_spelled) ∙ reads base b e [] [] w.expression w.fits

finish-unwound : (e : Phrase) → IsExpression e → finish (behind (unwound e [])) ≡ Some e
unfolding finish settled
finish-unwound e g = ap alone_in (spine e 0 [] g (omega (arith, edge-positive e g)))

pub one-phrase : (base : ℕ) → base ≤ 2 → (ts : List Lexeme) (e f : Phrase) → IsWhole base ts e → IsWhole base ts f → e ≡ f
one-phrase base b ts e f p q =
    let s = same_Some (behind (unwound e [])) (behind (unwound f [])) (sym (whole-run base b ts e p) ∙ whole-run base b ts f q) in
    same_Some e f (sym (finish-unwound e p.expression) ∙ (ap finish s ∙ finish-unwound f q.expression))

pub read-finish : (base : ℕ) → base ≤ 2 → (ts : List Lexeme) (s : State) (e : Phrase) → HasRead base ts s → IsWhole base ts e → finish s ≡ Some e
read-finish base b ts s e h w =
    let same = same_Some s (behind (unwound e [])) (sym h ∙ whole-run base b ts e w) in
    ap finish same ∙ finish-unwound e w.expression

pub read-none : (base : ℕ) → base ≤ 2 → (ts : List Lexeme) (s : State) → HasRead base ts s → finish s ≡ None → (e : Phrase) → IsWhole base ts e → ⊥
read-none base b ts s h n e w = let q = sym n ∙ read-finish base b ts s e h w in absurd (cc)

alone-is : (o : Operand) (e : Phrase) → alone_in (Some o) ≡ Some e → o ≡ operand e []
alone-is o e h = first o.phrase o.openings e h
  where
    first : (p : Phrase) (fs : List Opening) (e : Phrase) → alone_in (Some (operand p fs)) ≡ Some e → operand p fs ≡ operand e []
    first p [] e h = ap (λ x. operand x []) (same_Some p e h)
    first p (f ∷ fs) e h = absurd (cc)

settled-is : (o : Option Operand) (e : Phrase) → alone_in o ≡ Some e → o ≡ Some (operand e [])
settled-is None e h = absurd (cc)
settled-is (Some o) e h = ap (λ x. Some x) (alone-is o e h)

finish-whole : (base : ℕ) (ts : List Lexeme) (s : State) (e : Phrase) → IsRight base s → ((rest : List Lexeme) → in_front s rest ≡ ts ++ rest) → finish s ≡ Some e → IsWhole base ts e
unfolding finish
finish-whole base ts (Before fs) e r f h = absurd (cc)
finish-whole base ts (Naming p d fs) e r f h = absurd (cc)
finish-whole base ts (Behind p fs) e r f h =
    let same : settled fs 0 p ≡ Some (operand e []) = settled-is (settled fs 0 p) e h in
    let s = settled-right base fs 0 p (operand e []) r.0 r.1 r.2 same in
    record { expression = s.expression; fits = s.fits; is_spelled = settled-front fs 0 p (operand e []) [] same ∙ (f [] ∙ append-nil ts) }

pub read-whole : (base : ℕ) → base ≤ 2 → (ts : List Lexeme) (s : State) (e : Phrase) → HasRead base ts s → finish s ≡ Some e → IsWhole base ts e
read-whole base b ts s e h w = finish-whole base ts s e (run-right base b ts (Before []) s tt h) (λ rest. run-front base ts (Before []) s rest h) w

pub read-begins : (base : ℕ) → base ≤ 2 → (ts : List Lexeme) (s : State) → HasRead base ts s → Begins base ts
read-begins base b ts s h =
    let f : Filled base s = fills-all base b s (run-right base b ts (Before []) s tt h) in
    record {
      more = f.more;
      whole_phrase = f.whole;
      whole = record { expression = f.expression; fits = f.fits; is_spelled = sym f.is_spelled ∙ run-front base ts (Before []) s f.more h };
    }

pub read-no-more : (base : ℕ) → base ≤ 2 → (ts : List Lexeme) (s : State) (t : Lexeme) → HasRead base ts s → move base s t ≡ None → Begins base (ts ++ (t ∷ [])) → ⊥
unfolding run
read-no-more base b ts s t h n g =
    let all : HasRead base ((ts ++ (t ∷ [])) ++ g.more) (behind (unwound g.whole_phrase [])) = whole-run base b ((ts ++ (t ∷ [])) ++ g.more) g.whole_phrase g.whole in
    let split : run base ((ts ++ (t ∷ [])) ++ g.more) (Before []) ≡ run_on (run base (ts ++ (t ∷ [])) (Before [])) (λ m. run base g.more m) = run-append base (ts ++ (t ∷ [])) g.more (Before []) in
    let first : run base (ts ++ (t ∷ [])) (Before []) ≡ None = run-append base ts (t ∷ []) (Before []) ∙ (ap (λ o. run_on o (λ m. run base (t ∷ []) m)) h ∙ ap (λ o. run_on o (λ m. run base [] m)) n) in
    let none : run base ((ts ++ (t ∷ [])) ++ g.more) (Before []) ≡ None = split ∙ ap (λ o. run_on o (λ m. run base g.more m)) first in
    let both : None ≡ Some (behind (unwound g.whole_phrase [])) = sym none ∙ all in
    absurd (cc)

pub read-more : (base : ℕ) (ts : List Lexeme) (s n : State) (t : Lexeme) → HasRead base ts s → move base s t ≡ Some n → HasRead base (ts ++ (t ∷ [])) n
unfolding run
read-more base ts s n t h m = run-append base ts (t ∷ []) (Before []) ∙ (ap (λ o. run_on o (λ m. run base (t ∷ []) m)) h ∙ ap (λ o. run_on o (λ m. run base [] m)) m)
