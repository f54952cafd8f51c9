use Rattle.std.proofs.Common.{◌≡◌, ℕ, ◌+◌, ◌∷◌, ◌++◌, [], List, Option, length, sym, ap, ◌∙◌, arith, length-append}
use Rattle.std.proofs.lemmas.List.{replicate_more}
use Rattle.std.specs.Prelude.{replicate}
use Rattle.style_cascade.specs.declared.rows.Found.{Found}
use Rattle.style_cascade.proofs.RowLemmas.{found_in-empty, no_found}
use Rattle.style_cascade.proofs.rows.Row.new.Goals as goal

pub cells-preserved : goal.cells-preserved
cells-preserved c =
    let old : List (Option Found) = c.cells.cells.items in
    let pushed : c.push.new.self.items ≡ old ++ no_found ∷ [] = (c.in_ok-push.ensures {u = tt}).items in
    let long : length c.push.new.self.items ≡ length old + 1 = ap length pushed ∙ length-append old (no_found ∷ []) in
    record {
      empty = pushed ∙ ap (λ (l : List (Option Found)). l ++ no_found ∷ []) c.cells.invariant.empty ∙ replicate_more (length old) no_found ∙ sym (ap (λ (n : ℕ). replicate n no_found) long);
      within = omega (arith, long);
    }

pub returns : goal.returns
returns c = found_in-empty (length c.cells.cells.items) c.cells.cells.items c.cells.invariant.empty
