use Rattle.std.proofs.Common.{subst, sym, rules}
use Rattle.std.specs.Prelude.{IfOk, option_map}
use Rattle.document_load.specs.ToldDocuments.{told_document}
use Rattle.page.specs.devices.Memories.{MemoryState, Recalls}
use Rattle.page.specs.devices.Pendings.{LoadsUnread}
use Rattle.page.proofs.PendingLaws.{remembered_unread}
use Rattle.page.proofs.loading.load_unread.Goals as goal

pub load_read-requires : goal.load_read-requires
load_read-requires c = λ modules stands. sym (c.in-Found.ensures.look modules stands)

pub returns-in-Some-clause-loads : goal.returns-in-Some-clause-loads
returns-in-Some-clause-loads c =
    remembered_unread c.load_remembered.result c.law_of_seen_numbers.ensures.paths c.law_of_seen_numbers.ensures.some c.args.modules.now c.args.is_start c.args.path (told_document c.in-Some.document) c.args.memory.now c.recall.new.self c.args.out.now.items
    c.load_remembered.new.out.items (search rules)
    (subst (λ o. Recalls c.args.modules.now c.args.path (option_map told_document o) c.args.memory.now c.recall.new.self) c.in-Some.is c.in_ok-document.ensures.recalls) c.load_remembered.ensures.loads

pub returns-in-None-clause-loads : goal.returns-in-None-clause-loads
returns-in-None-clause-loads c =
    let none = subst (λ o. Recalls c.args.modules.now c.args.path (option_map told_document o) c.args.memory.now c.recall.new.self) c.in-None.is c.in_ok-document.ensures.recalls in
    subst (λ (m : MemoryState). IfOk c.load_read.result (λ load. LoadsUnread c.args.modules.now c.args.is_start c.args.path load m c.load_read.new.memory c.args.out.now.items c.load_read.new.out.items)) none.1 c.load_read.ensures.loads
