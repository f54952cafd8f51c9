use Rattle.std.proofs.Common.{◌≡◌, List, ℕ, [], ◌++◌, ◌∙◌, sym, ap, append-nil}
use Rattle.bml_reader.specs.References.{read_behind}
use Rattle.bml_reader.proofs.ReferenceLemmas.{read-nothing}
use Rattle.bml_reader.proofs.references.push_read.Goals as goal

pub returns : goal.returns
returns c =
    let out : List ℕ = c.characters.out.items in
    let nothing : c.characters.rest.now ≡ [] = (c.in_default.ensures {u = tt}).read in
    sym (append-nil out) ∙ (ap (λ z. out ++ z) (sym (ap (read_behind 0) nothing ∙ read-nothing)) ∙ c.characters.invariant)
