use Rattle.std.proofs.Common.{◌-◌, ◌+◌, ◌*◌, length, take, drop, ap, ◌∙◌}
use Rattle.persistent_arrays.specs.Packing.{packed}
use Rattle.persistent_arrays.specs.Reading.{unpacked}
use Rattle.persistent_arrays.proofs.ArrayLemmas.{written}
use Rattle.persistent_arrays.proofs.KeptLemmas.{kept-back}
use Rattle.persistent_arrays.proofs.PackingLemmas.{within-some}
use Rattle.persistent_arrays.proofs.PieceLemmas.{packed-spelled}
use Rattle.persistent_arrays.proofs.laws.law_of_kept_fields.Goals as goal

pub returns-clause-spelled : goal.returns-clause-spelled
returns-clause-spelled c = packed-spelled c.law_of_fields.ensures c.law_of_big_numbers.ensures.read_back

pub returns-clause-bytes : goal.returns-clause-bytes
returns-clause-bytes c = kept-back c.law_of_fields.ensures c.law_of_big_numbers.ensures.read_back

pub returns-clause-array : goal.returns-clause-array
returns-clause-array c = λ kinds values bytes area slot long h e.
    let found = within-some (packed kinds values) bytes e in
    ap (unpacked kinds) (written area bytes slot long h found.1)
    ∙ kept-back c.law_of_fields.ensures c.law_of_big_numbers.ensures.read_back kinds values bytes (take (64 - length bytes) (drop (64 * slot + length bytes) area)) found.0
