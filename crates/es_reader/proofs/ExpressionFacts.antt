-- What the reader's laws take of the expressions.
pub use Rattle.es_reader.specs.ExpressionFacts.{goes_on_with, ExpressionFacts}
