use Rattle.std.proofs.Common.{◌≡◌, length, rules}
use Rattle.bml_bytes.specs.Areas.{area_length}
use Rattle.nv_journal.proofs.Loaded.{gives}
use Rattle.nv_journal.proofs.journals.read_area.Goals as goal

pub returns-clause-content : goal.returns-clause-content
returns-clause-content g c =
    let r = rw c.place.ensures at c.in_ok-read_at.ensures.content in
    let fits : length c.read_at.new.into ≡ area_length = search rules in
    gives c.args.slot _ _ _ _ _ _ c.into.invariant fits r
