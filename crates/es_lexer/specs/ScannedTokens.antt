-- A device of the proofs: the tokens of a text or the place of its fault, computed from the front
-- on.
use Rattle.std.specs.Prelude.{ℕ, zero, suc, ◌-◌, Bool, false, ◌||◌, List, [], ◌∷◌, ◌++◌, length, Option, Some, None, option_map, Result, Ok, Err}
use Rattle.es_lexer.specs.Elements.{InputElement, kind_of, has_line_break}
use Rattle.es_lexer.specs.Scanning.{Found, changed}
use Rattle.es_lexer.specs.ScannedElements.{element_at}
use Rattle.es_lexer.specs.declared.token_types.Token.{Token}
use Rattle.es_lexer.specs.declared.token_types.TokenKind.{TokenKind}

-- all that the tokens need of an element
pub record Seen : Type 0 where
  pub kind : Option TokenKind
  pub breaks : Bool

abbrev pub seen_of : InputElement → Seen
seen_of element = record { kind = kind_of element; breaks = has_line_break element }

abbrev pub seen_at : List ℕ → Option (Found Seen)
seen_at codes = option_map (changed seen_of) (element_at codes)

abbrev pub Outcome : Type 0
Outcome = Result (List Token) ℕ

-- these tokens, and then those of the outcome
abbrev pub with_front : List Token → Outcome → Outcome
with_front tokens (Ok more) = Ok (tokens ++ more)
with_front tokens (Err place) = Err place

-- what stands at the end of a text of `whole` codes, where a line break stands in front of it or
-- doesn't; there are fewer elements than `most`
unfoldable pub outcome_within : ℕ → ℕ → Bool → List ℕ → Outcome
outcome_within zero whole broken codes = Err zero
outcome_within (suc most) whole broken [] = Ok []
outcome_within (suc most) whole broken (code ∷ codes) =
    elim (seen_at (code ∷ codes)) [
      | None ↦ Err (whole - length (code ∷ codes))
      | Some f ↦ elim f.it.kind [
        | None ↦ outcome_within most whole (broken || f.it.breaks) f.rest
        | Some kind ↦ with_front (record { kind = kind; start = whole - length (code ∷ codes); «end» = whole - length f.rest; after_break = broken } ∷ []) (outcome_within most whole false f.rest)
      ]
    ]

unfoldable pub outcome_from : ℕ → Bool → List ℕ → Outcome
outcome_from whole broken codes = outcome_within (suc (length codes)) whole broken codes

unfoldable pub outcome_of : List ℕ → Outcome
outcome_of text = outcome_from (length text) false text
