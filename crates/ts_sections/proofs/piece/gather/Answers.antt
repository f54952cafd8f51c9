use Rattle.std.proofs.Common.{◌≡◌, arith, length, length-drop, take, drop, ◌-◌, ap, ◌∙◌}
use Rattle.ts_sections.specs.Sections.{section_size}
use Rattle.ts_sections.proofs.TakeLemmas.{gather-body, gather-items, rest-all}
use Rattle.ts_sections.proofs.piece.gather.Goals as goal

pub returns-clause-items : goal.returns-clause-items
returns-clause-items c = gather-items _ _ _ _ _ _ (omega arith) c.fill-header.ensures.items c.fill.ensures.items

pub returns-clause-part : goal.returns-clause-part
returns-clause-part c none =
    let count = c.fill-header.result in
    let bytes = c.args.bytes.now in
    let header = c.fill-header.new.buffer.items in
    let rest = take (length bytes - count) (drop count bytes) in
    let size : c.size_of_section-size.result ≡ section_size header = c.size_of_section-size.ensures.size ∙ ap section_size c.as_slice.ensures.value in
    let left : length rest ≡ length bytes - count = ap length (rest-all bytes count (omega arith)) ∙ length-drop count bytes in
    gather-body c.args.buffer.now.items bytes header rest c.fill.new.buffer.items count c.fill.result c.requires.part c.requires.begun c.fill-header.ensures.count c.fill-header.ensures.items (omega arith) left (rw size at c.fill.ensures.count) c.fill.ensures.items none
