use Rattle.std.proofs.Common.{◌≡◌, false, is_none, rules}
use Rattle.bml_ports.proofs.Finding.{HasOpened-asked}
use Rattle.bml_ports.proofs.memory_worlds.has_opened.Goals as goal

pub returns : goal.returns
returns c =
    let there : is_none c.args.port.now.place ≡ false = search rules in
    HasOpened-asked c.args.files.now c.args.port.now c.in-Some.asked c.args.name.now c.eq.result c.requires.placed there c.in-Some.is c.eq.ensures
