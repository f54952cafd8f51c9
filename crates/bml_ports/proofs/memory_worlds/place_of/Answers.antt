use Rattle.bml_ports.proofs.Finding.{IsFound-position}
use Rattle.bml_ports.proofs.memory_worlds.place_of.Goals as goal

pub returns : goal.returns
returns c = IsFound-position c.args.files.now c.args.name.now c.position_of.result c.position_of.ensures
