-- A device of the proofs: what the reader's laws take of the expressions: that tokens are those of one expression,
-- that only some tokens go on with an expression, what an expression begins with, and that it has tokens.
use Rattle.std.specs.Prelude.{◌≡◌, ◌≢◌, true, List, [], ◌∷◌, ◌++◌}
use Rattle.es_expressions.specs.Phrases.{Phrase}
use Rattle.es_expressions.specs.Roles.{front, joint}
pub use Rattle.es_expressions.specs.Beginnings.{goes_on_with}
use Rattle.es_expressions.specs.Beginnings.{IsWhole, Begins, least}
use Rattle.es_expressions.specs.declared.lexemes.Lexeme.{Lexeme}
use Rattle.es_expressions.specs.declared.expressions.Extent.{Extent}
use Rattle.es_expressions.specs.declared.roles.Front.TheVariants.{Nothing as NoFront}

pub record ExpressionFacts : Type 0 where
  pub one : (extent : Extent) (tokens : List Lexeme) (e other : Phrase) → IsWhole (least extent) tokens e
      → IsWhole (least extent) tokens other → e ≡ other
  pub goes_on : (extent : Extent) (tokens : List Lexeme) (e : Phrase) (t : Lexeme)
      → IsWhole (least extent) tokens e → Begins (least extent) (tokens ++ t ∷ [])
      → goes_on_with extent (joint t) ≡ true
  pub first : (extent : Extent) (t : Lexeme) (more : List Lexeme) → Begins (least extent) (t ∷ more)
      → front t ≢ NoFront
  pub some : (extent : Extent) (e : Phrase) → IsWhole (least extent) [] e → ⊥
