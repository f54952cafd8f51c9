use Rattle.std.proofs.Common.{take}
use Rattle.std.specs.Io.{StartsWith}
use Rattle.acting_documents.specs.devices.Doings.{Does}
use Rattle.acting_documents.specs.Beginnings.{run_scripts as spec_run_scripts}
use Rattle.acting_documents.proofs.documents.ActingDocument.run_places.Given as goal

abbrev pub invariant-scripts : goal.invariant-scripts
invariant-scripts l = (Does (spec_run_scripts (take l.place-index l.places)) l.fn.self l.self l.fn.out.items l.out.items) × (StartsWith l.out.items l.fn.out.items)
