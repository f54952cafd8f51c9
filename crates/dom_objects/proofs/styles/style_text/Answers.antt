use Rattle.std.proofs.Common.{ℕ, ◌<◌, ◌++◌, List, ap, ◌∙◌}
use Rattle.std.proofs.lemmas.List.Elements.{All-same}
use Rattle.style_reader.specs.Values.{printed}
use Rattle.dom_objects.proofs.AsciiLemmas.{ascii-printed}
use Rattle.dom_objects.proofs.styles.style_text.Goals as goal

pub ascii_text-requires : goal.ascii_text-requires
ascii_text-requires c =
    let value = printed c.args.property c.get-value.result in
    All-same (λ (byte : ℕ). byte < 128) c.deref.result.now value
    (c.deref.ensures.value ∙ c.in_ok-push_value.ensures.ok ∙ ap (λ (bytes : List ℕ). bytes ++ value) c.new-bytes.ensures.items)
    (ascii-printed c.law_of_decimals.ensures.digits c.args.property c.get-value.result)
