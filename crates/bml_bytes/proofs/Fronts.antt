-- What a list begins with.
use Rattle.std.proofs.Common.{◌≡◌, ℕ, ◌+◌, List, ◌++◌, length, take, drop, sym, ap, ◌∙◌, arith, length-append}
use Rattle.std.specs.Io.{StartsWith}
use Rattle.std.proofs.Math.Seq.{take-append_seam}
use Rattle.std.proofs.lemmas.List.{take-append-drop, take-append-le}

-- what begins with a list begins with that list's front
pub begins-with_front : (old more between new : List ℕ) → between ≡ old ++ more → StartsWith new between → StartsWith new old
begins-with_front old more between new e starts =
    let long : length between ≡ length old + length more = ap (length {A = ℕ}) e ∙ length-append old more in
    let whole : between ++ drop (length between) new ≡ new = ap (λ (front : List ℕ). front ++ drop (length between) new) (sym starts) ∙ take-append-drop (length between) new in
    ap (take (length old)) (sym whole)
    ∙ take-append-le (length old) between (drop (length between) new) (omega arith)
    ∙ ap (take (length old)) e
    ∙ take-append_seam old more
