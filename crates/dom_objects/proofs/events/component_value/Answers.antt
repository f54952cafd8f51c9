use Rattle.std.proofs.Common.{ℕ, ◌<◌, ◌++◌, List, ap, ◌∙◌}
use Rattle.std.specs.Prelude.{codes}
use Rattle.std.proofs.lemmas.List.Elements.{All-same}
use Rattle.bml_bytes.specs.Numerals.{hex_digits}
use Rattle.dom_objects.specs.Reads.{component_text}
use Rattle.dom_objects.proofs.AsciiLemmas.{ascii-component}
use Rattle.dom_objects.proofs.events.component_value.Goals as goal

pub ascii_text-requires : goal.ascii_text-requires
ascii_text-requires c =
    All-same (λ (byte : ℕ). byte < 128) c.deref.result.now (component_text c.args.component)
    (c.deref.ensures.value ∙ c.in_ok-push_hex.ensures.ok
    ∙ ap (λ (bytes : List ℕ). bytes ++ hex_digits 2 c.from.result) (c.in_ok-push_word.ensures.ok ∙ ap (λ (bytes : List ℕ). bytes ++ codes "/") c.new-bytes.ensures.items)
    ∙ ap (λ (number : ℕ). codes "/" ++ hex_digits 2 number) c.from.ensures)
    (ascii-component c.args.component)
