-- A device of the proofs: what the elements in the code stand for.
use Rattle.std.specs.Prelude.{ℕ, true, false, List, Some, None}
use Rattle.std.specs.List.{list_any}
use Rattle.std.specs.Borrow.{Bor}
use Rattle.es_lexer.specs.Codes.{is_line_terminator}
use Rattle.es_lexer.specs.Scanning.{Found, found}
use Rattle.es_lexer.specs.ScannedTokens.{Seen}
use Rattle.es_lexer.specs.declared.elements.Element.{Element}
use Rattle.es_lexer.specs.declared.elements.Element.TheVariants.{Blank, Break, Token}

abbrev pub element_seen : Element → Seen
element_seen Blank = record { kind = None; breaks = false }
element_seen Break = record { kind = None; breaks = true }
element_seen (Token kind) = record { kind = Some kind; breaks = false }

abbrev pub found_element : Element × Bor (List ℕ) → Found Seen
found_element p = found (element_seen p.0) p.1.now

-- a comment with this inside
abbrev pub seen_inside : List ℕ → Seen
seen_inside inside = record { kind = None; breaks = list_any is_line_terminator inside }
