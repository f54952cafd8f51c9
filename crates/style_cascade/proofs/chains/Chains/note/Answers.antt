use Rattle.std.proofs.Common.{refl}
use Rattle.style_cascade.proofs.ChainLemmas.{changed-by, changed-kept, changed-noted, changed-only, changed-seen, seen-noted}
use Rattle.style_cascade.proofs.chains.Chains.note.Goals as goal

pub returns-then-has_seen-clause-noted : goal.returns-then-has_seen-clause-noted
returns-then-has_seen-clause-noted c = seen-noted c.args.given.now c.args.key c.args.number c.args.self.now.chains (c.if-has_seen.ensures {u = tt} refl) c.requires

pub returns-clause-seen : goal.returns-clause-seen
returns-clause-seen c = changed-seen _ _ _ _ _ _ (changed-by c.args.given.now c.args.key c.args.number (record { seen = c.args.number; rules = c.in_ok-rules.rules }) c.take-before.result.items c.args.self.now.chains c.take-before.new.self.chains c.insert.new.self c.take-before.ensures.rules c.take-before.ensures.others (c.in_ok-insert.ensures {u = tt}).updates.0 refl (c.in_ok-rules.ensures {u = tt})) c.requires

pub returns-clause-kept : goal.returns-clause-kept
returns-clause-kept c = changed-kept _ _ _ _ _ _ (changed-by c.args.given.now c.args.key c.args.number (record { seen = c.args.number; rules = c.in_ok-rules.rules }) c.take-before.result.items c.args.self.now.chains c.take-before.new.self.chains c.insert.new.self c.take-before.ensures.rules c.take-before.ensures.others (c.in_ok-insert.ensures {u = tt}).updates.0 refl (c.in_ok-rules.ensures {u = tt}))

pub returns-clause-only : goal.returns-clause-only
returns-clause-only c = changed-only _ _ _ _ _ _ (changed-by c.args.given.now c.args.key c.args.number (record { seen = c.args.number; rules = c.in_ok-rules.rules }) c.take-before.result.items c.args.self.now.chains c.take-before.new.self.chains c.insert.new.self c.take-before.ensures.rules c.take-before.ensures.others (c.in_ok-insert.ensures {u = tt}).updates.0 refl (c.in_ok-rules.ensures {u = tt}))

pub returns-clause-noted : goal.returns-clause-noted
returns-clause-noted c = changed-noted _ _ _ _ _ _ (changed-by c.args.given.now c.args.key c.args.number (record { seen = c.args.number; rules = c.in_ok-rules.rules }) c.take-before.result.items c.args.self.now.chains c.take-before.new.self.chains c.insert.new.self c.take-before.ensures.rules c.take-before.ensures.others (c.in_ok-insert.ensures {u = tt}).updates.0 refl (c.in_ok-rules.ensures {u = tt})) c.requires
