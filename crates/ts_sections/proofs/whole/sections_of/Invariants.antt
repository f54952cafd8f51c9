use Rattle.std.proofs.Common.{◌≡◌, ◌+◌, length, map, take}
use Rattle.ts_sections.specs.Sections.{sections}
use Rattle.ts_sections.specs.Assembly.{StandsFor, IsDrained}
use Rattle.ts_sections.proofs.whole.sections_of.Given as goal

abbrev pub invariant-loop-packet : goal.invariant-loop-packet
invariant-loop-packet l =
    StandsFor l.assembler (take l.packet-index l.packets) (map (λ section. section.items) l.found.items) × IsDrained l.assembler × (map (λ section. section.items) l.found.items ≡ sections (take l.packet-index l.packets))

abbrev pub invariant-loop-section : goal.invariant-loop-section
invariant-loop-section l = StandsFor l.assembler (take (l.packet-index + 1) l.packets) (map (λ section. section.items) l.found.items)

abbrev pub decreases-loop-section : goal.decreases-loop-section
decreases-loop-section l = length l.assembler.waiting
