use Rattle.std.proofs.Common.{◌≡◌, ◌++◌, ℕ, ℤ, pos, List, append_assoc, rules}
use Rattle.std.specs.Prelude.{codes, OnOk, Result}
use Rattle.bml_bytes.specs.Numerals.{decimal_digits, signed_decimal_digits}
use Rattle.document_stages.proofs.event_lines.push_slot.Goals as goal

behind : {A E : Type 0} (r : Result A E) (old word mid new : List ℕ) (slot : ℕ) (number : ℤ) → mid ≡ old ++ word → number ≡ pos slot → OnOk r (new ≡ mid ++ signed_decimal_digits number) → OnOk r (new ≡ old ++ (word ++ decimal_digits slot))
behind r old word mid new slot number is same ok =
    rw (← append_assoc old word (decimal_digits slot), ← is) (rw same at ok)

pub returns-clause-ok : goal.returns-clause-ok
returns-clause-ok c =
    behind c.push_decimal.result c.args.out.now.items (codes "kept nvram://~/") c.push_word.new.out.items c.push_decimal.new.out.items c.args.slot _ c.in_ok-push_word.ensures.ok (search rules) c.push_decimal.ensures.ok
