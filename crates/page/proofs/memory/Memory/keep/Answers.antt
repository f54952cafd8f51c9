use Rattle.std.proofs.Common.{◌≡◌, ◌∙◌, ℕ, sym, ap, subst}
use Rattle.std.specs.Prelude.{Option}
use Rattle.document_load.specs.ToldDocuments.{told_document}
use Rattle.page.specs.Remembering.{number_at}
use Rattle.page.specs.devices.Memories.{HasPlaces, MemoryState, entries_with, memory_with}
use Rattle.page.proofs.MemoryLaws.{entry_under, places_behind}
use Rattle.page.proofs.memory.Memory.keep.Goals as goal

pub returns-in_default : goal.returns-in_default
returns-in_default c = λ modules stands.
    let none = sym (c.seen_number.ensures modules stands) ∙ c.in_default.is in
    subst (λ (m : MemoryState). m ≡ memory_with (entries_with (number_at modules c.args.path.now) c.args.path.now c.args.needs.items (told_document c.args.document.now) m.entries) m.hits) c.self.view_is
    (ap (λ (o : Option ℕ). memory_with (entries_with o c.args.path.now c.args.needs.items (told_document c.args.document.now) c.self.inside.cache) c.self.inside.hits) (sym none))

pub invariant_of-self : goal.invariant_of-self
invariant_of-self c =
    let places : HasPlaces (told_document c.args.document.now) = c.requires in
    places_behind c.keep.result c.self.inside.cache c.keep.new.self (entry_under c.in_ok-key.key (record { needs = c.args.needs; document = c.in_ok-document.document })) c.keep.ensures.ok c.keep.ensures.err
    (subst HasPlaces (sym (c.in_ok-document.ensures {u = tt})) places) c.self.invariant
