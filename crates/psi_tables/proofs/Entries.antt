-- Numbers behind reserved bits, and the entries of a PAT: what is read is what stands there, and what was written is
-- read again.
use Rattle.std.proofs.Common.{◌≡◌, ℕ, ◌+◌, ◌-◌, ◌*◌, ◌/◌, ◌%◌, ◌^◌, ◌<◌, List, ◌++◌, length, Option, Some, refl, sym, ap, subst, ◌∙◌, append_assoc, arith}
use Rattle.std.proofs.lemmas.Option.{same_Some}
use Rattle.bml_bytes.specs.Fields.{FieldLaws, ◌>>=◌, number_at}
use Rattle.bml_bytes.specs.Numbers.{big_bytes}
use Rattle.psi_tables.specs.declared.pat.PatEntry.{PatEntry}
use Rattle.psi_tables.specs.Table.{IsNarrow}
use Rattle.psi_tables.specs.Pat.{IsPatEntry}
use Rattle.psi_tables.specs.Reading.{narrow_at, entry_at}
use Rattle.psi_tables.proofs.Fields.{one_text, bind_some, number_size}
use Rattle.psi_tables.proofs.Items.{Shortens, ItemLaws}

-- two bytes are reserved bits and a number of a width, and these are two bytes
pub record Splits (width : ℕ) : Type 0 where
  pub high : (n : ℕ) → n < 256 ^ 2 → n / 2 ^ width < 2 ^ (16 - width)
  pub low : (n : ℕ) → n % 2 ^ width < 2 ^ width
  pub whole : (n : ℕ) → n / 2 ^ width * 2 ^ width + n % 2 ^ width ≡ n
  pub fits : (reserved n : ℕ) → reserved < 2 ^ (16 - width) → n < 2 ^ width → reserved * 2 ^ width + n < 256 ^ 2
  pub back : (reserved n : ℕ) → n < 2 ^ width → (reserved * 2 ^ width + n) % 2 ^ width ≡ n

pub thirteen : Splits 13
thirteen = record { high = λ n lt. omega arith; low = λ n. omega arith; whole = λ n. omega arith; fits = λ reserved n a b. omega arith; back = λ reserved n a. omega arith }

pub twelve : Splits 12
twelve = record { high = λ n lt. omega arith; low = λ n. omega arith; whole = λ n. omega arith; fits = λ reserved n a b. omega arith; back = λ reserved n a. omega arith }

pub narrow_takes : (laws : FieldLaws) (width : ℕ) (splits : Splits width) (bytes : List ℕ) (x : ℕ × List ℕ) → narrow_at width bytes ≡ Some x → (text : List ℕ) × (bytes ≡ text ++ x.1) × IsNarrow width x.0 text
unfolding narrow_at
narrow_takes laws width splits bytes x e =
    let number = bind_some (number_at 2 bytes) (λ (number : ℕ × List ℕ). Some (number.0 % 2 ^ width, number.1)) x e in
    let n : ℕ = number.0.0 in
    let t = laws.number 2 bytes number.0 number.1 in
    let made : ℕ × List ℕ = (n % 2 ^ width, number.0.1) in
    subst (λ (y : ℕ × List ℕ). (text : List ℕ) × (bytes ≡ text ++ y.1) × IsNarrow width y.0 text) (same_Some made x number.2)
    (big_bytes 2 n, t.0, record { reserved = n / 2 ^ width; reserved_fits = splits.high n t.1; number_fits = splits.low n; written = ap (big_bytes 2) (sym (splits.whole n)) })

pub narrow_again : (laws : FieldLaws) (width : ℕ) (splits : Splits width) (number : ℕ) (text rest : List ℕ) → IsNarrow width number text → narrow_at width (text ++ rest) ≡ Some (number, rest)
unfolding narrow_at
narrow_again laws width splits number text rest is =
    let whole : ℕ = is.reserved * 2 ^ width + number in
    let read : number_at 2 (text ++ rest) ≡ Some (whole, rest) = ap (λ (front : List ℕ). number_at 2 (front ++ rest)) is.written ∙ laws.number_again 2 whole rest (splits.fits is.reserved number is.reserved_fits is.number_fits) in
    ap (λ (o : Option (ℕ × List ℕ)). o >>= λ number. Some (number.0 % 2 ^ width, number.1)) read
    ∙ ap (λ (n : ℕ). Some (n, rest)) (splits.back is.reserved number is.number_fits)

pub narrow_size : (width : ℕ) (bytes : List ℕ) (x : ℕ × List ℕ) → narrow_at width bytes ≡ Some x → length x.1 + 2 ≡ length bytes
unfolding narrow_at
narrow_size width bytes x e =
    let number = bind_some (number_at 2 bytes) (λ (number : ℕ × List ℕ). Some (number.0 % 2 ^ width, number.1)) x e in
    let made : ℕ × List ℕ = (number.0.0 % 2 ^ width, number.0.1) in
    subst (λ (y : ℕ × List ℕ). length y.1 + 2 ≡ length bytes) (same_Some made x number.2) (number_size 2 bytes number.0 number.1)

-- an entry

abbrev behind_program : ℕ × List ℕ → Option (PatEntry × List ℕ)
behind_program program = narrow_at 13 program.1 >>= λ pid. Some (record { program = program.0; pid = pid.0 }, pid.1)

abbrev entry_of : ℕ → ℕ × List ℕ → PatEntry × List ℕ
entry_of program pid = (record { program = program; pid = pid.0 }, pid.1)

pub entry_takes : (laws : FieldLaws) (bytes : List ℕ) (x : PatEntry × List ℕ) → entry_at bytes ≡ Some x → (text : List ℕ) × (bytes ≡ text ++ x.1) × IsPatEntry x.0 text
unfolding entry_at
entry_takes laws bytes x e =
    let program = bind_some (number_at 2 bytes) behind_program x e in
    let pid = bind_some (narrow_at 13 program.0.1) (λ (pid : ℕ × List ℕ). Some (entry_of program.0.0 pid)) x program.2 in
    let t0 = laws.number 2 bytes program.0 program.1 in
    let t1 = narrow_takes laws 13 thirteen program.0.1 pid.0 pid.1 in
    subst (λ (y : PatEntry × List ℕ). (text : List ℕ) × (bytes ≡ text ++ y.1) × IsPatEntry y.0 text) (same_Some (entry_of program.0.0 pid.0) x pid.2)
    (big_bytes 2 program.0.0 ++ t1.0, one_text bytes (big_bytes 2 program.0.0) program.0.1 t1.0 pid.0.1 t0.0 t1.1, record { pid_bytes = t1.0; program_fits = omega (arith, t0.1); pid_written = t1.2; written = refl })

pub entry_again : (laws : FieldLaws) (entry : PatEntry) (text rest : List ℕ) → IsPatEntry entry text → entry_at (text ++ rest) ≡ Some (entry, rest)
unfolding entry_at
entry_again laws entry text rest is =
    let whole : text ++ rest ≡ big_bytes 2 entry.program ++ (is.pid_bytes ++ rest) = ap (λ (front : List ℕ). front ++ rest) is.written ∙ append_assoc (big_bytes 2 entry.program) is.pid_bytes rest in
    ap entry_at whole
    ∙ rw (laws.number_again 2 entry.program (is.pid_bytes ++ rest) (omega (arith, is.program_fits)), narrow_again laws 13 thirteen entry.pid is.pid_bytes rest is.pid_written) refl

entry_shorter : (bytes : List ℕ) (x : PatEntry × List ℕ) → entry_at bytes ≡ Some x → length x.1 < length bytes
unfolding entry_at
entry_shorter bytes x e =
    let program = bind_some (number_at 2 bytes) behind_program x e in
    let pid = bind_some (narrow_at 13 program.0.1) (λ (pid : ℕ × List ℕ). Some (entry_of program.0.0 pid)) x program.2 in
    subst (λ (y : PatEntry × List ℕ). length y.1 < length bytes) (same_Some (entry_of program.0.0 pid.0) x pid.2)
    (omega (arith, number_size 2 bytes program.0 program.1, narrow_size 13 program.0.1 pid.0 pid.1))

pub entry_shortens : Shortens entry_at
entry_shortens = record { shorter = entry_shorter }

pub entry_laws : (laws : FieldLaws) → ItemLaws entry_at IsPatEntry
entry_laws laws = record { takes = entry_takes laws; again = entry_again laws; short = entry_shortens }
