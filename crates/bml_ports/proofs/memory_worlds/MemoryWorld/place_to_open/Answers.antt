use Rattle.std.proofs.Common.{◌≡◌, IsNone, MatchOption, ap, ◌∙◌, subst, List, ℕ, true, false}
use Rattle.bml_ports.specs.declared.memory_worlds.MemoryFile.{MemoryFile}
use Rattle.bml_ports.specs.MemoryPlaces.{IsFound}
use Rattle.bml_ports.specs.MemoryWorlds.{source_named}
use Rattle.bml_ports.proofs.Finding.{OpeningFails-found, IfSome-match}
use Rattle.bml_ports.proofs.memory_worlds.MemoryWorld.place_to_open.Goals as goal

found_place : (c : goal.After-place_of) → MatchOption c.place_of.result (IsNone (source_named c.args.self.now.files c.args.name.now)) (λ place. IsFound c.args.self.now.files c.args.name.now place)
found_place c =
    let P : List MemoryFile → Type 0 = λ files. MatchOption c.place_of.result (IsNone (source_named files c.args.name.now)) (λ place. IsFound files c.args.name.now place) in
    subst P (c.as_slice.ensures.value ∙ ap (λ world. world.files) c.self.view_is) c.place_of.ensures

pub returns-clause-fails : goal.returns-clause-fails
returns-clause-fails c = OpeningFails-found c.args.self.now c.args.name.now c.place_of.result (λ h. let e : false ≡ true = c.if-fails_next.ensures.1 h in cc) (λ h. let e : false ≡ true = c.if-was_opened.ensures.1 h in cc) (found_place c)

pub returns-clause-found : goal.returns-clause-found
returns-clause-found c = IfSome-match {X = ℕ} c.place_of.result (IsNone (source_named c.args.self.now.files c.args.name.now)) (λ place. IsFound c.args.self.now.files c.args.name.now place) (found_place c)
