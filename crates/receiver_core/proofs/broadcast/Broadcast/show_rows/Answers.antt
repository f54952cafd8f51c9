use Rattle.std.proofs.Common.{◌≡◌, [], rules}
use Rattle.page.specs.Inputs.{display_of}
use Rattle.receiver_core.specs.Broadcasts.{BroadcastState}
use Rattle.receiver_core.proofs.BroadcastLaws.{on_ok, page_made, rows_made, with_page}
use Rattle.receiver_core.proofs.broadcast.Broadcast.show_rows.Goals as goal

pub returns-clause-makes : goal.returns-clause-makes
returns-clause-makes c =
    let inside = c.self.inside in
    let old : BroadcastState = record { services = inside.services; modules = inside.modules; page = inside.page } in
    let page = c.show.new.self in
    let lines = c.show.new.out.items in
    let none : c.new-lines.result.items ≡ [] = search rules in
    let same : c.deref.result.now ≡ lines = search rules in
    rw (← c.self.view_is)
    (on_ok c.add_rows.result
    (rows_made c.args.spacing c.args.align old (with_page old page) _ lines _
    c.args.out.now.items c.add_rows.new.out.items none
    (page_made (λ s. record { state = s; text = display_of s }) old page _ lines
    c.in_ok-show.ensures.shown) same)
    c.add_rows.ensures.rows)
