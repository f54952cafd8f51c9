-- The lines that tell of events and of what scripts do, each with the line feed that ends it. (This project's own.)
-- Numbers are decimal.
use Rattle.std.specs.Prelude.{ℕ, List, ◌++◌, codes}
use Rattle.bml_bytes.specs.Numerals.{decimal_digits}
use Rattle.multipart_entities.specs.declared.paths.Path.{Path}
use Rattle.multipart_entities.specs.Paths.{path_text}
use Rattle.event_queue.specs.Events.{name_of}
use Rattle.event_queue.specs.declared.events.Event.{Event}

-- an event was posted where no place was left for it
abbrev pub lost_line_of : List ℕ → List ℕ
lost_line_of name = codes "lost " ++ (name ++ codes "\n")

abbrev pub lost_line : Event → List ℕ
lost_line event = lost_line_of (name_of event)

-- a script launched the document at this path
abbrev pub launch_line : Path → List ℕ
launch_line path = codes "launch " ++ (path_text path ++ codes "\n")

-- it played the sound of this number
abbrev pub sound_line : ℕ → List ℕ
sound_line sound = codes "sound " ++ (decimal_digits sound ++ codes "\n")

-- it wrote so many bytes of the persistent array of this number
abbrev pub kept_line : ℕ → ℕ → List ℕ
kept_line slot size =
    codes "kept nvram://~/"
    ++ (decimal_digits slot ++ (codes " " ++ (decimal_digits size ++ codes "\n")))
