-- The kinds of event items, by their names (after beitem of BML, ARIB STD-B24 volume 2).
use Rattle.std.specs.Prelude.{ℕ, List, [], ◌∷◌, Option, codes, find}
use Rattle.bml_bytes.specs.Words.{is_same}
use Rattle.event_queue.specs.declared.item_kinds.ItemKind.{ItemKind}
use Rattle.event_queue.specs.declared.item_kinds.ItemKind.TheVariants as kinds

-- the value of the attribute `type`, and what scripts and lines call the event
abbrev pub kind_name : ItemKind → List ℕ
kind_name kinds.EventMessageFired = codes "EventMessageFired"
kind_name kinds.ModuleUpdated = codes "ModuleUpdated"
kind_name kinds.ModuleLocked = codes "ModuleLocked"
kind_name kinds.DataButtonPressed = codes "DataButtonPressed"
kind_name kinds.DataEventChanged = codes "DataEventChanged"

abbrev pub all_kinds : List ItemKind
all_kinds =
    kinds.EventMessageFired ∷ kinds.ModuleUpdated ∷ kinds.ModuleLocked
    ∷ kinds.DataButtonPressed ∷ kinds.DataEventChanged ∷ []

-- names compare by case; an item of any other type never fires
abbrev pub kind_named : List ℕ → Option ItemKind
kind_named name = find (λ kind. is_same name (kind_name kind)) all_kinds
