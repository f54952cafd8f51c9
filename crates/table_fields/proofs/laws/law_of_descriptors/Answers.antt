use Rattle.std.proofs.Common.{◌≡◌, List, Option, Some}
use Rattle.table_fields.specs.Descriptors.{Descriptor, descriptors_in}
use Rattle.table_fields.proofs.DescriptorLemmas.{descriptors_parts, descriptors_again}
use Rattle.table_fields.proofs.laws.law_of_descriptors.Goals as goal

same_some : (read : Option (List Descriptor)) (descriptors others : List Descriptor) → read ≡ Some descriptors → read ≡ Some others → descriptors ≡ others
same_some read descriptors others e f = cc

pub returns-clause-one : goal.returns-clause-one
returns-clause-one c = λ bytes descriptors others is too. same_some (descriptors_in bytes) descriptors others (descriptors_again c.law_of_fields.ensures bytes descriptors is) (descriptors_again c.law_of_fields.ensures bytes others too)

pub returns-clause-some : goal.returns-clause-some
returns-clause-some c = λ bytes descriptors. (descriptors_again c.law_of_fields.ensures bytes descriptors, descriptors_parts c.law_of_fields.ensures bytes descriptors)
