use Rattle.std.proofs.Common.{sym, subst, ◌∙◌}
use Rattle.ts_sections.specs.Assembly.{AssemblerState, StandsFor}
use Rattle.ts_sections.specs.devices.Remainder.{kept_of}
use Rattle.ts_sections.proofs.AssemblerLemmas.{ahead-beginning, ahead-going_on, stands_behind}
use Rattle.ts_sections.proofs.assembler.Assembler.push.Goals.{then-not-goes_on, else-not-goes_on}
use Rattle.ts_sections.proofs.assembler.Assembler.push.Goals as goal

pub returns-clause-stands : goal.returns-clause-stands
returns-clause-stands c = λ packets given s.
    let packet = c.args.packet.now in
    let finished = c.finish.ensures.finishes in
    let readable = sym c.is_readable.ensures ∙ c.if-not-is_readable.false in
    let unrepeated = sym c.repeats.ensures ∙ c.if-repeats.false in
    let between = finished.gives.stands packets given (subst (λ (a : AssemblerState). StandsFor a packets given) (sym c.self.view_is) s) in
    let kept = kept_of c.self.inside.last c.finish.new.rest c.finish.new.piece in
    elim c.if-not-goes_on.branch [
      | then-not-goes_on w ↦
          rw (w.self-inside-is, w.abandon.ensures.known, c.of-self-inside.ensures.tokens)
          (stands_behind kept _ packet (λ behind. ahead-beginning kept packet w.abandon.new.self.gathered behind finished.taken readable unrepeated (sym c.goes_on.ensures ∙ w.if-not-goes_on.true) finished.ended) packets given between)
      | else-not-goes_on w ↦
          rw (w.self-inside-is, c.of-self-inside.ensures.tokens)
          (stands_behind kept _ packet (λ behind. ahead-going_on kept packet kept.gathered behind finished.taken readable unrepeated (sym c.goes_on.ensures ∙ w.if-not-goes_on.false)) packets given between)
    ]
