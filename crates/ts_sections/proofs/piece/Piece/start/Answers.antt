use Rattle.std.proofs.Common.{sym, ◌∙◌, rules, []}
use Rattle.ts_sections.proofs.TakeLemmas.{TakesAll-known, TakesAll-stuffing, TakesSection-whole, part-start}
use Rattle.ts_sections.proofs.piece.Piece.start.Goals as goal

pub returns-then-starts_section : goal.returns-then-starts_section
returns-then-starts_section c =
    rw (c.requires.begins, c.clear.ensures, c.size_of_section.ensures.size) (TakesSection-whole c.args.bytes.now (sym c.starts_section.ensures ∙ c.if-starts_section.true))

pub returns-then-starts_stuffing : goal.returns-then-starts_stuffing
returns-then-starts_stuffing c = rw c.requires.begins (TakesAll-stuffing c.args.bytes.now (c.starts_stuffing.ensures.0 c.if-starts_stuffing.true))

pub returns-else-starts_stuffing : goal.returns-else-starts_stuffing
returns-else-starts_stuffing c =
    rw (c.requires.begins, c.append.ensures.items, c.clear.ensures)
    (TakesAll-known [] c.args.bytes.now (part-start c.args.bytes.now (sym c.starts_section.ensures ∙ c.if-starts_section.false) (λ e. search rules)))
