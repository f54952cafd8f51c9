use Rattle.std.proofs.Common.{◌≡◌, ℕ, ◌-◌, ◌≤◌, nat_le, List, length, replicate, Some, None, cond, sym, ap, ◌∙◌, arith, rules, length-append}
use Rattle.std.proofs.lemmas.Bool.{le-leb}
use Rattle.bml_bytes.specs.Codes.{bytes_of}
use Rattle.persistent_arrays.specs.Fields.{filled}
use Rattle.persistent_arrays.specs.Packing.{within_array}
use Rattle.persistent_arrays.proofs.FieldLemmas.{zeros-count}
use Rattle.persistent_arrays.proofs.PackingLemmas.{within-short, within-some}
use Rattle.persistent_arrays.proofs.packing.fixed_bytes.Goals as goal

made : (size : ℕ) (bytes : List ℕ) → size ≤ 64 → length bytes ≤ size → within_array (cond (nat_le (length bytes) size) (Some (filled size bytes)) None) ≡ Some (filled size bytes)
made size bytes h fits =
    let l = length-append bytes (replicate (size - length bytes) 0) in
    let n = zeros-count (size - length bytes) in
    let short : length (filled size bytes) ≤ 64 = omega arith in
    rw (le-leb (length bytes) size fits) (within-short (filled size bytes) short)

whole : (size from : ℕ) (text bytes new : List ℕ) → size ≤ 64 → within_array (Some (bytes_of text)) ≡ Some bytes → from ≡ size → length bytes ≤ from → new ≡ filled from bytes
    → Some new ≡ within_array (cond (nat_le (length (bytes_of text)) size) (Some (filled size (bytes_of text))) None)
whole size from text bytes new h e s fits f =
    let same : bytes_of text ≡ bytes = cc (within-some (Some (bytes_of text)) bytes e).0 in
    let short : length bytes ≤ size = omega arith in
    ap (λ (l : List ℕ). Some l) (f ∙ ap (λ (n : ℕ). filled n bytes) s) ∙ sym (made size bytes h short)
    ∙ ap (λ (b : List ℕ). within_array (cond (nat_le (length b) size) (Some (filled size b)) None)) (sym same)

pub returns : goal.returns
returns c =
    let fits : length c.in_ok-bytes.bytes.items ≤ c.from.result = search rules in
    whole c.args.size c.from.result c.args.text.now c.in_ok-bytes.bytes.items c.fill.new.bytes.items c.requires.1 (sym c.in_ok-bytes.ensures) c.from.ensures fits c.in_ok-fill.ensures.bytes
