use Rattle.std.proofs.Common.{◌≡◌, ℕ, Option, sym, ap, ◌∙◌, take}
use Rattle.bml_bytes.specs.Fields.{with_left}
use Rattle.bml_bytes.specs.Numbers.{number_in}
use Rattle.bml_bytes.proofs.FieldLaws.{number_at-none, number_at-some}
use Rattle.bml_bytes.proofs.NumberLaws.{big_from-part, read_field, read_fits}
use Rattle.bml_bytes.proofs.cursors.Cursor.u24.Goals as goal

pub returns-clause-number : goal.returns-clause-number
returns-clause-number c = c.read_u24.ensures ∙ big_from-part 3 c.in_ok-bytes.bytes.now c.args.self.now c.in_ok-bytes.ensures.enough c.in_ok-bytes.ensures.part

pub returns-clause-read : goal.returns-clause-read
returns-clause-read c =
    let number : c.read_u24.result ≡ number_in 256 (take 3 c.args.self.now) = returns-clause-number c in
    let field = c.in_ok-bytes.ensures in
    read_field 3 c.read_u24.result c.in_ok-bytes.bytes.now c.args.self.now c.take.new.self field.bytes field.enough field.part number field.read

pub returns-clause-fits : goal.returns-clause-fits
returns-clause-fits c =
    let number : c.read_u24.result ≡ number_in 256 (take 3 c.args.self.now) = returns-clause-number c in
    let field = c.in_ok-bytes.ensures in
    read_fits 3 c.read_u24.result c.in_ok-bytes.bytes.now c.args.self.now field.bytes field.enough field.part number

pub returns-in_err-bytes-clause-field : goal.returns-in_err-bytes-clause-field
returns-in_err-bytes-clause-field c =
    ap (λ (result : Option ℕ). with_left (λ (number : ℕ). number) result c.take.new.self) c.from_residual.ensures
    ∙ sym (number_at-none 3 c.args.self.now c.in_err-bytes.ensures.enough)

pub returns-clause-field : goal.returns-clause-field
returns-clause-field c =
    let number : c.read_u24.result ≡ number_in 256 (take 3 c.args.self.now) = returns-clause-number c in
    let field = c.in_ok-bytes.ensures in
    number_at-some 3 c.read_u24.result c.in_ok-bytes.bytes.now c.take.new.self c.args.self.now field.bytes field.enough field.part number field.left
