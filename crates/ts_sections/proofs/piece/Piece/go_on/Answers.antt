use Rattle.std.proofs.Common.{◌≡◌, false, true, sym, ap, ◌∙◌}
use Rattle.ts_sections.specs.Sections.{begins_whole}
use Rattle.ts_sections.proofs.TakeLemmas.{go_on-all, go_on-section}
use Rattle.ts_sections.proofs.piece.Piece.go_on.Goals as goal

pub returns-then-not-starts_section : goal.returns-then-not-starts_section
returns-then-not-starts_section c =
    let none : begins_whole c.gather-count.new.buffer.items ≡ false = ap begins_whole (sym c.as_slice.ensures.value) ∙ sym c.starts_section.ensures ∙ c.if-not-starts_section.true in
    go_on-all _ _ _ _ _ _ c.self.view_is c.requires.known c.requires.begun c.gather-count.ensures.items (c.gather-count.ensures.part none).0 (c.gather-count.ensures.part none).1

pub returns : goal.returns
returns c =
    let whole : begins_whole c.gather-count.new.buffer.items ≡ true = ap begins_whole (sym c.as_slice.ensures.value) ∙ sym c.starts_section.ensures ∙ c.if-not-starts_section.false in
    go_on-section _ _ _ _ _ _ c.self.view_is c.requires.known c.gather-count.ensures.items c.gather-count.ensures.within whole (c.gather-count.ensures.whole whole)
