-- The ends of statements.
use Rattle.std.proofs.Common.{◌≡◌, ℕ, ◌+◌, ◌≤◌, Bool, true, false, ◌⊎◌, List, length, Some, None, refl, sym, subst, arith}
use Rattle.std.specs.Prelude.{slice_get, IsTrue}
use Rattle.std.proofs.lemmas.Option.{slice_get_within}
use Rattle.es_lexer.specs.declared.punctuators.Punctuator.TheVariants.{CloseBrace, Semicolon}
use Rattle.es_expressions.specs.declared.lexemes.Lexeme.{Lexeme}
use Rattle.es_reader.specs.Grammar.{IsMark, IsOnLine}
use Rattle.es_reader.specs.Parts.{IsThere, IsEndAt, IsReturnEndAt, IsNoEnd, MayEnd, MayReturn}
use Rattle.es_reader.proofs.RangeLemmas.{drop-there, drop-past}

pub ends-by-semicolon : (tokens : List Lexeme) (place stop : ℕ) (t : Lexeme) → slice_get tokens place ≡ Some t → IsMark Semicolon t → IsEndAt tokens place stop (record { «end» = t.«end»; behind = place + 1 })
ends-by-semicolon tokens place stop t h m = record {
  from = omega arith;
  within = let l = slice_get_within tokens place t h in omega arith;
  semicolon = Some t;
  is = m;
  is_spelled = sym (drop-there tokens place t h);
  stops = refl;
}

pub returns-by-semicolon : (tokens : List Lexeme) (place stop : ℕ) (t : Lexeme) → slice_get tokens place ≡ Some t → IsMark Semicolon t → IsOnLine t → IsReturnEndAt tokens place stop (record { «end» = t.«end»; behind = place + 1 })
returns-by-semicolon tokens place stop t h m l = record {
  from = omega arith;
  within = let l = slice_get_within tokens place t h in omega arith;
  semicolon = Some t;
  is = (m, l);
  is_spelled = sym (drop-there tokens place t h);
  stops = refl;
}

pub no-end : (tokens : List Lexeme) (place : ℕ) (t : Lexeme) → slice_get tokens place ≡ Some t → (IsMark Semicolon t → ⊥) → (IsMark CloseBrace t → ⊥) → IsOnLine t → IsThere IsNoEnd tokens place
no-end tokens place t h s b l = (t, h, (s, b, l))

pub ends-last : (tokens : List Lexeme) (place stop : ℕ) → place ≤ length tokens → slice_get tokens place ≡ None → IsEndAt tokens place stop (record { «end» = stop; behind = place })
ends-last tokens place stop l h = record {
  from = omega arith;
  within = l;
  semicolon = None;
  is = subst (λ ts. MayEnd ts) (sym (drop-past tokens place h)) tt;
  is_spelled = refl;
  stops = refl;
}

pub ends-before : (tokens : List Lexeme) (place stop : ℕ) (t : Lexeme) → place ≤ length tokens → slice_get tokens place ≡ Some t → IsMark CloseBrace t ⊎ (t.after_break ≡ true) → (IsMark Semicolon t → ⊥) → IsEndAt tokens place stop (record { «end» = stop; behind = place })
ends-before tokens place stop t l h m n = record {
  from = omega arith;
  within = l;
  semicolon = None;
  is = subst (λ ts. MayEnd ts) (sym (drop-there tokens place t h)) (m, n);
  is_spelled = refl;
  stops = refl;
}

pub returns-last : (tokens : List Lexeme) (place stop : ℕ) → place ≤ length tokens → slice_get tokens place ≡ None → IsReturnEndAt tokens place stop (record { «end» = stop; behind = place })
returns-last tokens place stop l h = record {
  from = omega arith;
  within = l;
  semicolon = None;
  is = subst (λ ts. MayReturn ts) (sym (drop-past tokens place h)) tt;
  is_spelled = refl;
  stops = refl;
}

pub returns-before : (tokens : List Lexeme) (place stop : ℕ) (t : Lexeme) → place ≤ length tokens → slice_get tokens place ≡ Some t → IsMark CloseBrace t ⊎ (t.after_break ≡ true) → IsReturnEndAt tokens place stop (record { «end» = stop; behind = place })
returns-before tokens place stop t l h m = record {
  from = omega arith;
  within = l;
  semicolon = None;
  is = subst (λ ts. MayReturn ts) (sym (drop-there tokens place t h)) m;
  is_spelled = refl;
  stops = refl;
}

-- what a test that failed says
pub fails : (P : Type 0) (b : Bool) → (P → IsTrue b) → b ≡ false → P → ⊥
fails P b h e p = let t = h p in absurd (cc)
