use Rattle.std.proofs.Common.{ℕ, ◌<◌, ◌∙◌}
use Rattle.std.proofs.lemmas.List.Elements.{All-same}
use Rattle.event_queue.specs.Events.{name_of}
use Rattle.dom_objects.proofs.AsciiLemmas.{ascii-name}
use Rattle.dom_objects.proofs.events.event_value.Goals as goal

pub ascii_text-requires : goal.ascii_text-requires
ascii_text-requires c =
    All-same (λ (byte : ℕ). byte < 128) c.as_bytes.result.now (name_of c.in-Some.current.now)
    (c.as_bytes.ensures.value ∙ c.name.ensures) (ascii-name c.in-Some.current.now)
