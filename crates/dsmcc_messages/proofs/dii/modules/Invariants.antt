use Rattle.std.proofs.Common.{◌≡◌, ◌-◌}
use Rattle.dsmcc_messages.specs.Reading.{entries_at, modules_at}
use Rattle.dsmcc_messages.proofs.EntryLoop.{with_front}
use Rattle.dsmcc_messages.proofs.dii.modules.Given as goal

abbrev pub invariant-loop : goal.invariant-loop
invariant-loop l = modules_at l.fn.cursor ≡ with_front l.entries.items (entries_at (l.count - l.counter) l.cursor)
