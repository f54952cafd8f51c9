use Rattle.std.proofs.Common.{◌≡◌, None, refl, rules}
use Rattle.std.proofs.lemmas.Result.{err_from_is_err_and}
use Rattle.psi_tables.specs.Reading.{entry_at, items_in}
use Rattle.psi_tables.proofs.Entries.{entry_shortens}
use Rattle.psi_tables.proofs.ItemLoop.{goes_on, ends_short, ends_well, fault_is}
use Rattle.psi_tables.proofs.pat.entries.Goals as goal

pub returns-in_err-entry : goal.returns-in_err-entry
returns-in_err-entry c =
    let p = err_from_is_err_and c.from_residual.result c.from_residual.ensures.1 in
    let none : entry_at c.loop-rest.rest.now ≡ None = rw (← c.first_entry.ensures, c.in_err-entry.ensures.ok_part) refl in
    let short = fault_is c.first_entry.result c.in_err-entry.field-0.0 c.in_err-entry.ensures.value in
    rw (p.1, p.2, short) (ends_short entry_at c.loop-rest.entries.items c.loop-rest.rest.now (items_in entry_at c.args.bytes.now) (search rules) none c.loop-rest.invariant)

pub loop-rest-smaller : goal.loop-rest-smaller
loop-rest-smaller c = entry_shortens.shorter c.loop-rest.rest.now (c.in_ok-entry.entry, c.in_ok-entry.behind.now) (rw (← c.first_entry.ensures, c.in_ok-entry.ensures.ok_part) refl)

pub loop-rest-preserved : goal.loop-rest-preserved
loop-rest-preserved c =
    rw c.in_ok-push.ensures.items (goes_on entry_at entry_shortens c.loop-rest.entries.items c.loop-rest.rest.now c.in_ok-entry.entry c.in_ok-entry.behind.now (items_in entry_at c.args.bytes.now) (rw (← c.first_entry.ensures, c.in_ok-entry.ensures.ok_part) refl) c.loop-rest.invariant)

pub returns : goal.returns
returns c = (ends_well entry_at c.loop-rest.entries.items c.loop-rest.rest.now (items_in entry_at c.args.bytes.now) (search rules) c.loop-rest.invariant)
