use Rattle.es_shapes.proofs.BridgeLemmas.{body-is, program-is, programs-are, top-is, tree-is, trees-are}
use Rattle.es_shapes.proofs.told_laws.law_of_told_programs.Goals as goal

pub returns-clause-tree : goal.returns-clause-tree
returns-clause-tree c = tree-is

pub returns-clause-trees : goal.returns-clause-trees
returns-clause-trees c = trees-are

pub returns-clause-program : goal.returns-clause-program
returns-clause-program c = program-is

pub returns-clause-programs : goal.returns-clause-programs
returns-clause-programs c = programs-are

pub returns-clause-top : goal.returns-clause-top
returns-clause-top c = top-is

pub returns-clause-body : goal.returns-clause-body
returns-clause-body c = body-is
