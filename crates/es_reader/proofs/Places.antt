-- Tokens that go on to a program have no bad place, and a bad place is the only one.
use Rattle.std.proofs.Common.{◌≡◌, ℕ, ◌+◌, ◌≤◌, ◌<◌, inl, inr, List, ◌++◌, length, take, drop, sym, ◌∙◌, ap, arith, append_assoc}
use Rattle.std.proofs.lemmas.Bool.{cases_order}
use Rattle.std.proofs.lemmas.List.{take-append-drop, take-take}
use Rattle.es_expressions.specs.declared.lexemes.Lexeme.{Lexeme}
use Rattle.es_reader.specs.Statements.{Item}
use Rattle.es_reader.specs.Grammar.{IsProgram}
use Rattle.es_reader.specs.Programs.{Begins, IsBadAt}

pub begins-whole : (tokens : List Lexeme) (items : List Item) (n : ℕ) → IsProgram tokens items → Begins (take n tokens)
begins-whole tokens items n h = record {
  more = drop n tokens;
  items = items;
  whole = record { are = h.are; is_spelled = h.is_spelled ∙ sym (take-append-drop n tokens) };
}

pub begins-fewer : (tokens : List Lexeme) (p q : ℕ) → p ≤ q → Begins (take q tokens) → Begins (take p tokens)
begins-fewer tokens p q h b =
    let cut : take p tokens ++ drop p (take q tokens) ≡ take q tokens =
    ap (λ x. x ++ drop p (take q tokens)) (sym (take-take p q tokens h)) ∙ take-append-drop p (take q tokens) in
    record {
      more = drop p (take q tokens) ++ b.more;
      items = b.items;
      whole = record {
        are = b.whole.are;
        is_spelled = b.whole.is_spelled
            ∙ (ap (λ x. x ++ b.more) (sym cut) ∙ append_assoc (take p tokens) (drop p (take q tokens)) b.more);
      };
    }

pub never-both : (tokens : List Lexeme) (items : List Item) (place : ℕ) → IsProgram tokens items → IsBadAt tokens place → ⊥
never-both tokens items place h b =
    elim (cases_order place (length tokens)) [
      | inl e ↦ b.no_whole e items h
      | inr (inl l) ↦ b.no_more l (begins-whole tokens items (place + 1) h)
      | inr (inr g) ↦ absurd (omega (arith, b.within, g))
    ]

no-later : (tokens : List Lexeme) (p q : ℕ) → p < q → IsBadAt tokens p → IsBadAt tokens q → ⊥
no-later tokens p q l b c =
    let within : q ≤ length tokens = c.within in
    b.no_more (omega arith) (begins-fewer tokens (p + 1) q (omega arith) c.goes_on)

pub only-place : (tokens : List Lexeme) (p q : ℕ) → IsBadAt tokens p → IsBadAt tokens q → p ≡ q
only-place tokens p q b c =
    elim (cases_order p q) [
      | inl e ↦ e
      | inr (inl l) ↦ absurd (no-later tokens p q l b c)
      | inr (inr g) ↦ absurd (no-later tokens q p g c b)
    ]
