use Rattle.bml_ports.proofs.Reading.{drop-read}
use Rattle.bml_ports.proofs.memory_worlds.MemorySource.read.Goals as goal

pub returns-clause-bytes : goal.returns-clause-bytes
returns-clause-bytes c =
    let given = c.copy_from-given in
    drop-read c.args.self.now.bytes given.new.buf c.args.port.now.taken given.result given.ensures.within given.ensures.copied given.ensures.some
