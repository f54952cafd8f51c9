use Rattle.std.proofs.Common.{◌-◌, length}
use Rattle.es_reader.specs.Statements.{Declarations}
use Rattle.es_reader.specs.Parts.{MayGrow}
use Rattle.es_reader.specs.Simples.{AreDeclaredAt}
use Rattle.es_reader.proofs.declarations.read_declarations.Given as goal

abbrev pub invariant-declarations : goal.invariant-declarations
invariant-declarations l = record {
  grows : MayGrow l.fn.nodes l.nodes;
  are : (d : Declarations) × AreDeclaredAt l.tokens l.place l.nodes d l.fn.names l.names l.declared;
}

abbrev pub decreases-declarations : goal.decreases-declarations
decreases-declarations l = length l.tokens - l.declared.behind
