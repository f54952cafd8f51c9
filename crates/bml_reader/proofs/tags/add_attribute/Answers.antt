use Rattle.std.proofs.Common.{◌≡◌, None, ◌∙◌, sym, ap}
use Rattle.std.specs.Prelude.{is_some}
use Rattle.std.specs.Option.{option_copied}
use Rattle.std.specs.HashMap.{get}
use Rattle.bml_bytes.specs.Words.{is_same}
use Rattle.bml_reader.proofs.EntryLemmas.{value_in-map, attributes-last}
use Rattle.bml_reader.proofs.tags.add_attribute.Goals as goal

pub returns-in-Some-clause-new : goal.returns-in-Some-clause-new
returns-in-Some-clause-new c =
    sym (ap is_some (c.get.ensures.value ∙ value_in-map c.args.attributes.now c.args.name)) ∙ ap (λ o. is_some (option_copied o)) c.in-Some.is

pub returns-in_ok-insert-in-None-clause-new : goal.returns-in_ok-insert-in-None-clause-new
returns-in_ok-insert-in-None-clause-new c =
    sym (ap is_some (c.get.ensures.value ∙ value_in-map c.args.attributes.now c.args.name)) ∙ ap (λ o. is_some (option_copied o)) c.in-None.is

pub returns-in_ok-insert-in-None-clause-last : goal.returns-in_ok-insert-in-None-clause-last
returns-in_ok-insert-in-None-clause-last c =
    let none : get is_same c.args.attributes.now c.args.name ≡ None = sym c.get.ensures.value ∙ ap option_copied c.in-None.is in
    λ _. attributes-last c.args.attributes.now c.insert.new.self c.args.name c.args.value none c.in_ok-insert-in-None.ensures.entries
