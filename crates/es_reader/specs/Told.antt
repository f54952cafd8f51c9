-- What contracts see of a function's declaration (this project's own).
use Rattle.std.specs.Prelude.{ℕ, List, [], ◌∷◌, ◌++◌, cond}
use Rattle.es_reader.specs.Programs.{ToldFunction, is_among}
use Rattle.es_reader.specs.declared.programs.FunctionDecl.{FunctionDecl}

abbrev pub told_function : FunctionDecl → ToldFunction
told_function f = record {
  name = f.name;
  locals = f.locals.items;
  parameters = f.parameters;
  body = f.body.items;
}

-- names and one more, unless it is among them
abbrev pub with_name : List (List ℕ) → List ℕ → List (List ℕ)
with_name names name = cond (is_among name names) names (names ++ (name ∷ []))

abbrev pub with_names : List (List ℕ) → List (List ℕ) → List (List ℕ)
with_names names [] = names
with_names names (name ∷ more) = with_names (with_name names name) more
