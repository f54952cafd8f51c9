use Rattle.std.proofs.Common.{◌≡◌, ◌+◌, max, length, take, get_or, ◌∙◌, ap, arith}
use Rattle.std.proofs.lemmas.List.{take_more}
use Rattle.nv_journal.specs.declared.disks.Extent.{Extent}
use Rattle.nv_journal.specs.Disks.{furthest}
use Rattle.nv_journal.proofs.Marked.{furthest-push}
use Rattle.nv_journal.proofs.memory_disks.greatest_length.Goals as goal

abbrev nothing : Extent
nothing = record { place = 0; size = 0 }

pub loop-extent-preserved : goal.loop-extent-preserved
loop-extent-preserved c =
    let written = c.args.written.now in
    let index = c.loop-extent.extent-index in
    let least = length c.args.settled.now in
    let one = get_or written index nothing in
    let more : furthest least (take (index + 1) written) ≡ max (furthest least (take index written)) (one.place + one.size) =
    ap (furthest least) (take_more written index nothing (omega arith)) ∙ furthest-push least (take index written) one
    in
    let before = c.loop-extent.invariant in
    record {
      least = omega (arith, before.least, c.max-greatest.ensures);
      most = omega (arith, more, before.most, c.max-greatest.ensures, c.min.ensures, c.saturating_add-end.ensures);
      fits = omega (arith, before.fits, c.max-greatest.ensures, c.min.ensures);
    }
