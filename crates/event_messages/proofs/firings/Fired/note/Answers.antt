use Rattle.std.proofs.Common.{rules, ◌≡◌, ◌∙◌, ap, nat_eq, cond, Some, None, []}
use Rattle.std.specs.Map.{lookup}
use Rattle.event_messages.proofs.KeptLemmas.{Sets, stands-fired, on-ok, on-err, noted-first, noted-again, noted-new, noted-through, same-through}
use Rattle.event_messages.proofs.firings.Fired.note.Goals as goal

pub returns-in-Some-clause-ok : goal.returns-in-Some-clause-ok
returns-in-Some-clause-ok c =
    let old = c.args.self.now in
    let new = (c.get_mut.follows.lender c.note.new.self).entries in
    let written = ((c.get_mut.follows.holds c.note.new.self).3 (search rules)).0 in
    let sets : Sets c.args.item (Some c.note.new.self) old new = λ other. written other ∙ ap (λ entries. cond (nat_eq c.args.item other) (Some c.note.new.self) (lookup (nat_eq other) entries)) c.self.view_is in
    let stood : lookup (nat_eq c.args.item) old ≡ Some c.in-Some.firings.now = search rules in
    on-ok c.note.result (λ noted. stands-fired c.args.item c.args.message.now old new c.in-Some.firings.now c.note.new.self sets (noted-again (lookup (nat_eq c.args.item) old) c.in-Some.firings.now stood) noted) c.note.ensures.ok

pub returns-clause-ok : goal.returns-clause-ok
returns-clause-ok c =
    let old = c.args.self.now in
    let new = c.insert.new.self.entries in
    let sets : Sets c.args.item (Some c.note-2.new.self) old new = λ other. search rules in
    let stood : lookup (nat_eq c.args.item) old ≡ None = search rules in
    stands-fired c.args.item c.args.message.now old new [] c.note-2.new.self sets (noted-first (lookup (nat_eq c.args.item) old) stood) (search rules)

pub returns-in-Some-clause-noted : goal.returns-in-Some-clause-noted
returns-in-Some-clause-noted c =
    let old = c.args.self.now in
    let new = (c.get_mut.follows.lender c.note.new.self).entries in
    let stood : lookup (nat_eq c.args.item) old ≡ Some c.in-Some.firings.now = search rules in
    on-ok c.note.result
    (noted-through c.args.item c.args.message.now c.self.inside.items.entries old new c.in-Some.firings.now c.note.new.self c.self.view_is stood (c.get_mut.follows.holds c.note.new.self).0)
    c.note.ensures.ok

pub returns-in-Some-clause-err : goal.returns-in-Some-clause-err
returns-in-Some-clause-err c =
    let old = c.args.self.now in
    let new = (c.get_mut.follows.lender c.note.new.self).entries in
    let stood : lookup (nat_eq c.args.item) old ≡ Some c.in-Some.firings.now = search rules in
    on-err c.note.result
    (same-through c.args.item c.self.inside.items.entries old new c.in-Some.firings.now c.note.new.self c.self.view_is stood (c.get_mut.follows.holds c.note.new.self).0)
    c.note.ensures.err

pub returns-clause-noted : goal.returns-clause-noted
returns-clause-noted c =
    let old = c.args.self.now in
    let stood : lookup (nat_eq c.args.item) old ≡ None = search rules in
    noted-new c.args.item c.args.message.now old c.insert.new.self.entries c.note-2.new.self stood (search rules) (search rules)
