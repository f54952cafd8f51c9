use Rattle.std.proofs.Common.{◌≡◌, ℕ, List, ◌∷◌, false, Some, None, ◌∙◌, sym, ap, subst, arith}
use Rattle.std.specs.Prelude.{◌==◌, option_map}
use Rattle.std.proofs.lemmas.Bool.Decides.{nat_tests}
use Rattle.bml_reader.specs.References.{Reference, reference_at, read_behind}
use Rattle.bml_reader.specs.devices.ReferenceViews.{found_reference}
use Rattle.bml_reader.proofs.ReferenceLemmas.{read-reference, reference-shorter, read-plain, read-ampersand}
use Rattle.bml_reader.proofs.references.character.Goals as goal

pub returns-then-byte-ne38-clause-read : goal.returns-then-byte-ne38-clause-read
returns-then-byte-ne38-clause-read c =
    let b : ℕ = c.in_ok-byte.byte.now in
    let more : List ℕ = c.in_ok-byte.more.now in
    let other : (b == 38) ≡ false = grind (arith, nat_tests) in
    subst (λ (l : List ℕ). read_behind 0 l ≡ b ∷ read_behind 0 more) (sym c.in_ok-byte.ensures.cases.0) (read-plain b more other)

pub returns-in-Some-clause-read : goal.returns-in-Some-clause-read
returns-in-Some-clause-read c =
    let b : ℕ = c.in_ok-byte.byte.now in
    let more : List ℕ = c.in_ok-byte.more.now in
    let r : Reference = found_reference (c.in-Some.read, c.in-Some.rest) in
    let is : b ≡ 38 = grind (arith, nat_tests) in
    let e : reference_at more ≡ Some r = sym c.reference.ensures ∙ ap (option_map found_reference) c.in-Some.is in
    ap (read_behind 0) c.in_ok-byte.ensures.cases.0 ∙ (ap (λ z. read_behind 0 (z ∷ more)) is ∙ read-reference more r e)

pub returns-in-Some-clause-shorter : goal.returns-in-Some-clause-shorter
returns-in-Some-clause-shorter c =
    let more : List ℕ = c.in_ok-byte.more.now in
    let r : Reference = found_reference (c.in-Some.read, c.in-Some.rest) in
    let e : reference_at more ≡ Some r = sym c.reference.ensures ∙ ap (option_map found_reference) c.in-Some.is in
    omega (arith, reference-shorter more r e, c.in_ok-byte.ensures.cases.1)

pub returns-in-None-clause-read : goal.returns-in-None-clause-read
returns-in-None-clause-read c =
    let b : ℕ = c.in_ok-byte.byte.now in
    let more : List ℕ = c.in_ok-byte.more.now in
    let is : b ≡ 38 = grind (arith, nat_tests) in
    let e : reference_at more ≡ None = sym c.reference.ensures ∙ ap (option_map found_reference) c.in-None.is in
    ap (read_behind 0) c.in_ok-byte.ensures.cases.0 ∙ (ap (λ z. read_behind 0 (z ∷ more)) is ∙ (read-ampersand more e ∙ ap (λ z. z ∷ read_behind 0 more) (sym is)))
