use Rattle.std.proofs.Common.{◌≡◌, ℕ, ◌+◌, ◌∷◌, ◌++◌, [], List, Option, length, sym, ap, ◌∙◌, arith, length-append}
use Rattle.std.proofs.lemmas.List.{replicate_more}
use Rattle.std.specs.Prelude.{replicate}
use Rattle.style_reader.specs.declared.properties.StyleValue.{StyleValue}
use Rattle.style_cascade.proofs.PlaceLemmas.{AreFitting-empty, cell_of-empty, no_value}
use Rattle.style_cascade.proofs.tables.Table.new.Goals as goal

pub cells-preserved : goal.cells-preserved
cells-preserved c =
    let old : List (Option StyleValue) = c.cells.cells.items in
    let pushed : c.push.new.self.items ≡ old ++ no_value ∷ [] = (c.in_ok-push.ensures {u = tt}).items in
    let long : length c.push.new.self.items ≡ length old + 1 = ap length pushed ∙ length-append old (no_value ∷ []) in
    record {
      empty = pushed ∙ ap (λ (l : List (Option StyleValue)). l ++ no_value ∷ []) c.cells.invariant.empty ∙ replicate_more (length old) no_value ∙ sym (ap (λ (n : ℕ). replicate n no_value) long);
      within = omega (arith, long);
    }

pub invariant_of-result : goal.invariant_of-result
invariant_of-result c = AreFitting-empty (length c.cells.cells.items) c.cells.cells.items c.cells.invariant.empty

pub returns-clause-empty : goal.returns-clause-empty
returns-clause-empty c = cell_of-empty (length c.cells.cells.items) c.cells.cells.items c.cells.invariant.empty
