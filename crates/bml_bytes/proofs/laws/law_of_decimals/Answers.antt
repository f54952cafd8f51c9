use Rattle.bml_bytes.proofs.NumeralLaws.{begins-decimal_digits, decimal_digits-one, list_all-decimal_digits, decimal_number-decimal_digits, decimal_number-more, decimal_field-decimal_digits}
use Rattle.std.proofs.Common.{arith}
use Rattle.std.proofs.lemmas.List.Sums.{AllPass-from_list_all}
use Rattle.bml_bytes.specs.Numerals.{is_decimal_digit, decimal_digits}
use Rattle.bml_bytes.proofs.laws.law_of_decimals.Goals as goal

pub returns-clause-number : goal.returns-clause-number
returns-clause-number c = decimal_number-decimal_digits

pub returns-clause-field : goal.returns-clause-field
returns-clause-field c = decimal_field-decimal_digits

pub returns-clause-digits : goal.returns-clause-digits
returns-clause-digits c = λ number. AllPass-from_list_all is_decimal_digit (decimal_digits number) (list_all-decimal_digits number)

pub returns-clause-first : goal.returns-clause-first
returns-clause-first c = λ number h. (begins-decimal_digits number).first (omega arith)

pub returns-clause-one : goal.returns-clause-one
returns-clause-one c = decimal_digits-one

pub returns-clause-more : goal.returns-clause-more
returns-clause-more c = decimal_number-more
