use Rattle.std.proofs.Common.{ap}
use Rattle.section_writer.specs.Packets.{laid}
use Rattle.carousel_writer.proofs.Exact.{entries-exactly, held-exactly, media-exactly}
use Rattle.carousel_writer.proofs.Fitting.{files-fit}
use Rattle.carousel_writer.proofs.GoodFileLaws.{are-good}
use Rattle.carousel_writer.proofs.Whole.{intact-whole, messages-whole, packets-whole, sections-whole}
use Rattle.carousel_writer.proofs.laws.law_of_streams.Goals as goal

pub returns-clause-packets : goal.returns-clause-packets
returns-clause-packets c files good types = ap laid (packets-whole c.laws_below.ensures files)

pub returns-clause-sections : goal.returns-clause-sections
returns-clause-sections c files good types = sections-whole c.laws_below.ensures files (files-fit c.laws_below.ensures.limits files types (are-good files good))

pub returns-clause-intact : goal.returns-clause-intact
returns-clause-intact c files good types = intact-whole c.laws_below.ensures files (files-fit c.laws_below.ensures.limits files types (are-good files good))

pub returns-clause-messages : goal.returns-clause-messages
returns-clause-messages c files good types = messages-whole c.laws_below.ensures files (files-fit c.laws_below.ensures.limits files types (are-good files good))

pub returns-clause-held : goal.returns-clause-held
returns-clause-held c files good types = held-exactly c.laws_below.ensures files (files-fit c.laws_below.ensures.limits files types (are-good files good))

pub returns-clause-entries : goal.returns-clause-entries
returns-clause-entries c files good types = entries-exactly c.laws_below.ensures files (files-fit c.laws_below.ensures.limits files types (are-good files good))

pub returns-clause-media : goal.returns-clause-media
returns-clause-media c files good types = media-exactly c.laws_below.ensures files (files-fit c.laws_below.ensures.limits files types (are-good files good))
