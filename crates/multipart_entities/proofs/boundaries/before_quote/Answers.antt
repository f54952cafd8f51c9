use Rattle.std.proofs.Common.{◌≡◌, ◌<◌, List, ℕ, [], length, take, ◌∙◌, sym, ap, arith}
use Rattle.std.specs.Prelude.{if◌then◌else◌}
use Rattle.std.specs.List.{before_first, position_or_len}
use Rattle.multipart_entities.specs.Boundaries.{is_quote}
use Rattle.multipart_entities.proofs.PlaceLemmas.{any-first, any-none}
use Rattle.multipart_entities.proofs.boundaries.before_quote.Goals as goal

pub returns-then-size-bytes : goal.returns-then-size-bytes
returns-then-size-bytes c =
    let bytes : List ℕ = c.args.bytes.now in
    sym (ap (λ b. if b then before_first is_quote bytes else []) (any-none is_quote bytes (sym c.size_before_quote-size.ensures.count ∙ c.if-size-bytes.true)))

pub returns : goal.returns
returns c =
    let bytes : List ℕ = c.args.bytes.now in
    let at : c.size_before_quote-size.result ≡ position_or_len is_quote bytes = c.size_before_quote-size.ensures.count in
    let inside : position_or_len is_quote bytes < length bytes = omega (arith, at) in
    ap (λ n. take n bytes) at ∙ sym (ap (λ b. if b then before_first is_quote bytes else []) (any-first is_quote bytes inside))
