-- Whether an expression begins with tokens, and whether they are one, is told by the states of reading.
use Rattle.std.proofs.Common.{◌≡◌, ℕ, ◌≤◌, inl, inr, List, [], Option, Some, None, refl, sym, ◌∙◌, ap}
use Rattle.std.specs.Prelude.{◌⊎◌}
use Rattle.es_expressions.specs.Phrases.{Phrase}
use Rattle.es_expressions.specs.Machine.{State, behind, finish, run_on, run, unwound}
use Rattle.es_expressions.specs.Machine.State.{Before}
use Rattle.es_expressions.specs.declared.lexemes.Lexeme.{Lexeme}
use Rattle.es_expressions.specs.Beginnings.{IsWhole, Begins}
use Rattle.es_expressions.proofs.WholeLemmas.{run-append, whole-run, read-none, read-whole, read-begins}

stuck-begins : (base : ℕ) → base ≤ 2 → (ts : List Lexeme) → run base ts (Before []) ≡ None → Begins base ts → ⊥
stuck-begins base b ts n g =
    let all = whole-run base b _ g.whole_phrase g.whole in
    let none = run-append base ts g.more (Before []) ∙ ap (λ o. run_on o (λ m. run base g.more m)) n in
    let both : None ≡ Some (behind (unwound g.whole_phrase [])) = sym none ∙ all in
    absurd (cc)

stuck-whole : (base : ℕ) → base ≤ 2 → (ts : List Lexeme) → run base ts (Before []) ≡ None → (e : Phrase) → IsWhole base ts e → ⊥
stuck-whole base b ts n e w =
    let both : None ≡ Some (behind (unwound e [])) = sym n ∙ whole-run base b ts e w in
    absurd (cc)

pub begins-or-not : (base : ℕ) → base ≤ 2 → (ts : List Lexeme) → Begins base ts ⊎ (Begins base ts → ⊥)
begins-or-not base b ts = by (run base ts (Before [])) refl
  where
    by : (o : Option State) → run base ts (Before []) ≡ o → Begins base ts ⊎ (Begins base ts → ⊥)
    by None n = inr (stuck-begins base b ts n)
    by (Some s) h = inl (read-begins base b ts s h)

whole-in : (base : ℕ) → base ≤ 2 → (ts : List Lexeme) (s : State) → run base ts (Before []) ≡ Some s → ((e : Phrase) × IsWhole base ts e) ⊎ ((e : Phrase) → IsWhole base ts e → ⊥)
whole-in base b ts s h = by (finish s) refl
  where
    by : (o : Option Phrase) → finish s ≡ o → ((e : Phrase) × IsWhole base ts e) ⊎ ((e : Phrase) → IsWhole base ts e → ⊥)
    by None n = inr (read-none base b ts s h n)
    by (Some e) f = inl (e, read-whole base b ts s e h f)

pub whole-or-not : (base : ℕ) → base ≤ 2 → (ts : List Lexeme) → ((e : Phrase) × IsWhole base ts e) ⊎ ((e : Phrase) → IsWhole base ts e → ⊥)
whole-or-not base b ts = by (run base ts (Before [])) refl
  where
    by : (o : Option State) → run base ts (Before []) ≡ o → ((e : Phrase) × IsWhole base ts e) ⊎ ((e : Phrase) → IsWhole base ts e → ⊥)
    by None n = inr (stuck-whole base b ts n)
    by (Some s) h = whole-in base b ts s h
