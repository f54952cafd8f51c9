use Rattle.std.proofs.Common.{◌≡◌, ◌≢◌, List, rules, sym, subst}
use Rattle.std.specs.Prelude.{Result, Ok, Err, IfOk, IfErr, MatchResult}
use Rattle.dom_tree.specs.Items.{Item}
use Rattle.bml_reader.specs.Faults.{HasFault, ReadsWell}
use Rattle.bml_reader.specs.Readings.{reading_of}
use Rattle.bml_reader.specs.declared.faults.DocFault.{DocFault}
use Rattle.bml_reader.specs.declared.faults.DocFault.TheVariants.{Malformed, NoMemory}
use Rattle.bml_reader.proofs.ReadingLemmas.{answer-reads, fault-reads}
use Rattle.bml_reader.proofs.documents.read_document.Goals as goal

pub returns-in-Ok-true-clause-reading : goal.returns-in-Ok-true-clause-reading
returns-in-Ok-true-clause-reading c =
    let ok : IfOk c.finish.result (λ tree. ReadsWell c.args.bytes.now tree) = search rules in
    let err : IfErr c.finish.result (λ fault. HasFault c.args.bytes.now fault) = search rules in
    answer-reads c.args.bytes.now c.finish.result ok err

pub returns-in-Ok-false-clause-reading : goal.returns-in-Ok-false-clause-reading
returns-in-Ok-false-clause-reading c =
    let fault : HasFault c.args.bytes.now Malformed = search rules in
    subst (λ (r : Result (List Item) DocFault). MatchResult r (λ tree. reading_of c.args.bytes.now ≡ Ok tree) (λ f. f ≢ NoMemory → reading_of c.args.bytes.now ≡ Err f)) (sym c.refuse.ensures)
    (λ n. fault-reads c.args.bytes.now Malformed n fault)
