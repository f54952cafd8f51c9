use Rattle.bml_bytes.proofs.FieldLaws.{byte_at-parts, number_at-parts, number_at-again, bytes_at-parts, bytes_at-again}
use Rattle.bml_bytes.proofs.NumberLaws.{length-digits_in}
use Rattle.bml_bytes.proofs.laws.law_of_fields.Goals as goal

pub returns : goal.returns
returns c = record { byte = byte_at-parts; number = number_at-parts; number_again = number_at-again; number_bytes = length-digits_in 256; bytes = bytes_at-parts; bytes_again = bytes_at-again }
