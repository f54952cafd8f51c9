-- Of each place among tokens it is told whether a statement may end there.
use Rattle.std.proofs.Common.{◌≡◌, ℕ, ◌+◌, ◌≤◌, Bool, true, false, inl, inr, List, length, Option, Some, None, refl}
use Rattle.std.specs.Prelude.{slice_get}
use Rattle.es_lexer.specs.declared.punctuators.Punctuator.TheVariants.{CloseBrace, Semicolon}
use Rattle.es_expressions.specs.declared.lexemes.Lexeme.{Lexeme}
use Rattle.es_reader.specs.Grammar.{IsMark}
use Rattle.es_reader.specs.Parts.{IsThere, IsEndAt, IsReturnEndAt, IsNoEnd}
use Rattle.es_reader.specs.declared.wholes.Ended.{Ended}
use Rattle.es_reader.proofs.PartLemmas.{ends-by-semicolon, no-end, ends-last, ends-before, returns-by-semicolon, returns-last, returns-before}
use Rattle.es_reader.proofs.DecidedTokens.{mark-or-not}

pub data EndThere (tokens : List Lexeme) (place stop : ℕ) : Type 0 where
  Ends : (ended : Ended) → IsEndAt tokens place stop ended → EndThere tokens place stop
  EndsNot : IsThere IsNoEnd tokens place → EndThere tokens place stop

pub end-there : (tokens : List Lexeme) (place stop : ℕ) → place ≤ length tokens → EndThere tokens place stop
end-there tokens place stop l = by (slice_get tokens place) refl
  where
    line : (t : Lexeme) → slice_get tokens place ≡ Some t → (IsMark Semicolon t → ⊥) → (IsMark CloseBrace t → ⊥) → (b : Bool) → t.after_break ≡ b → EndThere tokens place stop
    line t e s c true h = Ends (record { «end» = stop; behind = place }) (ends-before tokens place stop t l e (inr h) s)
    line t e s c false h = EndsNot (no-end tokens place t e s c h)

    by : (o : Option Lexeme) → slice_get tokens place ≡ o → EndThere tokens place stop
    by None e = Ends (record { «end» = stop; behind = place }) (ends-last tokens place stop l e)
    by (Some t) e = elim (mark-or-not Semicolon t) [
      | inl m ↦ Ends (record { «end» = t.«end»; behind = place + 1 }) (ends-by-semicolon tokens place stop t e m)
      | inr s ↦ elim (mark-or-not CloseBrace t) [
        | inl b ↦ Ends (record { «end» = stop; behind = place }) (ends-before tokens place stop t l e (inl b) s)
        | inr c ↦ line t e s c t.after_break refl
      ]
    ]

pub data ReturnEndThere (tokens : List Lexeme) (place stop : ℕ) : Type 0 where
  Returns : (ended : Ended) → IsReturnEndAt tokens place stop ended → ReturnEndThere tokens place stop
  ReturnsNot : IsThere IsNoEnd tokens place → ReturnEndThere tokens place stop

pub return-end-there : (tokens : List Lexeme) (place stop : ℕ) → place ≤ length tokens → ReturnEndThere tokens place stop
return-end-there tokens place stop l = by (slice_get tokens place) refl
  where
    line : (t : Lexeme) → slice_get tokens place ≡ Some t → (IsMark CloseBrace t → ⊥) → (b : Bool) → t.after_break ≡ b → ReturnEndThere tokens place stop
    line t e c true h = Returns (record { «end» = stop; behind = place }) (returns-before tokens place stop t l e (inr h))
    line t e c false h = elim (mark-or-not Semicolon t) [
      | inl m ↦ Returns (record { «end» = t.«end»; behind = place + 1 }) (returns-by-semicolon tokens place stop t e m h)
      | inr s ↦ ReturnsNot (no-end tokens place t e s c h)
    ]

    by : (o : Option Lexeme) → slice_get tokens place ≡ o → ReturnEndThere tokens place stop
    by None e = Returns (record { «end» = stop; behind = place }) (returns-last tokens place stop l e)
    by (Some t) e = elim (mark-or-not CloseBrace t) [
      | inl b ↦ Returns (record { «end» = stop; behind = place }) (returns-before tokens place stop t l e (inl b))
      | inr c ↦ line t e c t.after_break refl
    ]
