use Rattle.std.proofs.Common.{FitsSigned, rules}
use Rattle.std.specs.Int.{w32}
use Rattle.std.proofs.lemmas.Int.{to_z-of_z}
use Rattle.receiver_core.specs.Broadcasts.{BroadcastState}
use Rattle.page.specs.Inputs.{display_of}
use Rattle.receiver_core.proofs.BroadcastLaws.{date_made, key_made, on_ok, page_made, random_added, release_made, rows_shown, shown, with_page}
use Rattle.receiver_core.proofs.broadcast.Broadcast.input.Goals as goal

pub returns-in-Key-clause-makes : goal.returns-in-Key-clause-makes
returns-in-Key-clause-makes c =
    rw c.in-Key.is
    (on_ok c.key_turn.result
    (key_made c.in-Key.code _ _ c.args.out.now.items c.key_turn.new.out.items)
    c.key_turn.ensures.makes)

pub returns-in-Release-clause-makes : goal.returns-in-Release-clause-makes
returns-in-Release-clause-makes c =
    rw c.in-Release.is
    (on_ok c.key_turn-in-Release.result
    (release_made c.in-Release.code _ _ c.args.out.now.items c.key_turn-in-Release.new.out.items)
    c.key_turn-in-Release.ensures.makes)

pub returns-in-Random-clause-makes : goal.returns-in-Random-clause-makes
returns-in-Random-clause-makes c =
    let inside = c.self.inside in
    let old : BroadcastState = record { services = inside.services; modules = inside.modules; page = inside.page } in
    rw c.in-Random.is
    (rw (← c.self.view_is)
    (on_ok c.add_random.result
    (λ added. random_added c.in-Random.word old c.add_random.new.self c.args.out.now.items added
    c.add_random.ensures.area)
    c.add_random.ensures.added))

pub returns-in-Show-clause-makes : goal.returns-in-Show-clause-makes
returns-in-Show-clause-makes c =
    let inside = c.self-in-Show.inside in
    let old : BroadcastState = record { services = inside.services; modules = inside.modules; page = inside.page } in
    let page = c.show.new.self in
    let before = c.args.out.now.items in
    let after = c.show.new.out.items in
    rw c.in-Show.is
    (rw (← c.self-in-Show.view_is)
    (on_ok c.show.result
    (λ drawn. shown old (with_page old page) before after
    (page_made (λ s. record { state = s; text = display_of s }) old page before after drawn))
    c.show.ensures.shown))

pub returns-in-Rows-clause-makes : goal.returns-in-Rows-clause-makes
returns-in-Rows-clause-makes c =
    rw c.in-Rows.is
    (on_ok c.show_rows.result
    (rows_shown c.in-Rows.spacing c.in-Rows.align _ _ c.args.out.now.items c.show_rows.new.out.items)
    c.show_rows.ensures.makes)

pub returns-in-Date-clause-makes : goal.returns-in-Date-clause-makes
returns-in-Date-clause-makes c =
    let fits : FitsSigned w32 c.in-Date.day = search rules in
    rw c.in-Date.is
    (date_made (to_z-of_z w32 c.in-Date.day fits) c.in-Date.second _ _ c.args.out.now.items
    (c.set_date.ensures.makes c.args.out.now.items))
