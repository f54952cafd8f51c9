-- What is told of a place among tokens: something stands there, or it is bad at a place.
use Rattle.std.proofs.Common.{◌≡◌, ℕ, ◌≤◌, ◌<◌, List, length, drop}
use Rattle.es_expressions.specs.declared.lexemes.Lexeme.{Lexeme}

-- it stands there as it is written, up to the place behind it
pub record StandsThere {A : Type 0} (Is : A → List Lexeme → Type 0) (spelled : A → List Lexeme → List Lexeme) (tokens : List Lexeme) (place behind : ℕ) (x : A) : Type 0 where
  pub from : place < behind
  pub within : behind ≤ length tokens
  pub is : Is x (drop behind tokens)
  pub is_spelled : spelled x (drop behind tokens) ≡ drop place tokens

pub data Decided {A : Type 0} (Is : A → List Lexeme → Type 0) (spelled : A → List Lexeme → List Lexeme) (Bad : ℕ → Type 0) (tokens : List Lexeme) (place : ℕ) : Type 0 where
  There : (behind : ℕ) → (x : A) → StandsThere Is spelled tokens place behind x → Decided Is spelled Bad tokens place
  Nothing : (bad : ℕ) → Bad bad → Decided Is spelled Bad tokens place
