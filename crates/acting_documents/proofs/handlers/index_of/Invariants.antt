use Rattle.std.proofs.Common.{map, take}
use Rattle.document_load.specs.ScriptViews.{told_handler}
use Rattle.acting_documents.specs.devices.Handlers.{IsIndexOf}
use Rattle.acting_documents.proofs.handlers.index_of.Given as goal

abbrev pub invariant-handlers : goal.invariant-handlers
invariant-handlers l = IsIndexOf l.places.entries (map told_handler (take l.handler-index l.handlers))
