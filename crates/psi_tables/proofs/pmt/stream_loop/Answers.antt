use Rattle.std.proofs.Common.{◌≡◌, None, refl, rules}
use Rattle.std.proofs.lemmas.Result.{err_from_is_err_and}
use Rattle.psi_tables.specs.Reading.{stream_at, items_in}
use Rattle.psi_tables.proofs.StreamFields.{stream_shortens}
use Rattle.psi_tables.proofs.ItemLoop.{goes_on, ends_short, ends_well, fault_is}
use Rattle.psi_tables.proofs.pmt.stream_loop.Goals as goal

pub returns-in_err-stream : goal.returns-in_err-stream
returns-in_err-stream c =
    let p = err_from_is_err_and c.from_residual.result c.from_residual.ensures.1 in
    let none : stream_at c.loop-rest.rest.now ≡ None = rw (← c.first_stream.ensures, c.in_err-stream.ensures.ok_part) refl in
    let short = fault_is c.first_stream.result c.in_err-stream.field-0.0 c.in_err-stream.ensures.value in
    rw (p.1, p.2, short) (ends_short stream_at c.loop-rest.streams.items c.loop-rest.rest.now (items_in stream_at c.args.bytes.now) (search rules) none c.loop-rest.invariant)

pub loop-rest-smaller : goal.loop-rest-smaller
loop-rest-smaller c = stream_shortens.shorter c.loop-rest.rest.now (c.in_ok-stream.stream, c.in_ok-stream.behind.now) (rw (← c.first_stream.ensures, c.in_ok-stream.ensures.ok_part) refl)

pub loop-rest-preserved : goal.loop-rest-preserved
loop-rest-preserved c =
    rw c.in_ok-push.ensures.items (goes_on stream_at stream_shortens c.loop-rest.streams.items c.loop-rest.rest.now c.in_ok-stream.stream c.in_ok-stream.behind.now (items_in stream_at c.args.bytes.now) (rw (← c.first_stream.ensures, c.in_ok-stream.ensures.ok_part) refl) c.loop-rest.invariant)

pub returns : goal.returns
returns c = rw c.from.ensures (ends_well stream_at c.loop-rest.streams.items c.loop-rest.rest.now (items_in stream_at c.args.bytes.now) (search rules) c.loop-rest.invariant)
