-- A device of the proofs: where the reader stops among tokens.
use Rattle.std.specs.Prelude.{◌≡◌, ℕ, ◌≤◌, List, [], Some, None, length, slice_range, slice_get}
use Rattle.es_expressions.specs.Machine.{State, run, move}
use Rattle.es_expressions.specs.Machine.State.{Before}
use Rattle.es_expressions.specs.Standings.{Held, PlaceStands, EndsAs}
use Rattle.es_expressions.specs.declared.lexemes.Lexeme.{Lexeme}
use Rattle.es_expressions.specs.declared.places.Place.{Place}
use Rattle.es_expressions.specs.declared.expressions.Stop.{Stop}

-- the tokens from a place to another are read, and this is where the reader stands
pub record IsAt (base : ℕ) (tokens : List Lexeme) (start stop : ℕ) (after : Held) (place : Place) : Type 0 where
  pub from : start ≤ stop
  pub within : stop ≤ length tokens
  pub state : State
  pub read : run base (slice_range tokens start stop) (Before []) ≡ Some state
  pub stands : PlaceStands place after.rows after.frames state

-- with the token there nothing goes on, or there is none
pub record StopsAt (base : ℕ) (tokens : List Lexeme) (start : ℕ) (after : Held) (stop : Stop) : Type 0 where
  pub from : start ≤ stop.«end»
  pub within : stop.«end» ≤ length tokens
  pub state : State
  pub read : run base (slice_range tokens start stop.«end») (Before []) ≡ Some state
  pub no_more : (t : Lexeme) → slice_get tokens stop.«end» ≡ Some t → move base state t ≡ None
  pub ends : EndsAs stop.place after.rows after.frames state
