use Rattle.std.proofs.Common.{subst}
use Rattle.std.specs.Prelude.{option_map}
use Rattle.document_load.specs.ToldDocuments.{told_document}
use Rattle.page.specs.devices.Memories.{Recalls}
use Rattle.page.proofs.PendingLaws.{provides_read, provides_recalled}
use Rattle.page.proofs.pending.document_of.Goals as goal

pub returns-in-Some-clause-provides : goal.returns-in-Some-clause-provides
returns-in-Some-clause-provides c =
    provides_recalled c.law_of_seen_numbers.ensures.paths c.law_of_seen_numbers.ensures.some c.args.modules.now c.args.path.now c.args.draft (told_document c.in-Some.document) c.args.memory.now c.recall.new.self
    (subst (λ o. Recalls c.args.modules.now c.args.path.now (option_map told_document o) c.args.memory.now c.recall.new.self) c.in-Some.is c.in_ok-document.ensures.recalls)

pub returns-in-None-clause-provides : goal.returns-in-None-clause-provides
returns-in-None-clause-provides c =
    provides_read c.read_and_keep.result c.law_of_seen_numbers.ensures.paths c.law_of_seen_numbers.ensures.some c.args.modules.now c.args.path.now c.args.draft c.args.memory.now c.recall.new.self c.read_and_keep.new.memory
    (subst (λ o. Recalls c.args.modules.now c.args.path.now (option_map told_document o) c.args.memory.now c.recall.new.self) c.in-None.is c.in_ok-document.ensures.recalls)
    c.read_and_keep.ensures.finished c.read_and_keep.ensures.keeps
