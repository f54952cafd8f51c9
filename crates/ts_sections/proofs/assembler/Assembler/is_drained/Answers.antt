use Rattle.std.proofs.Common.{◌∙◌, sym}
use Rattle.ts_sections.proofs.AssemblerLemmas.{done-empty, empty-done}
use Rattle.ts_sections.proofs.assembler.Assembler.is_drained.Goals as goal

pub returns-in-Some : goal.returns-in-Some
returns-in-Some c =
    let inside = c.self.inside in
    let test = rw c.bytes.ensures.bytes at c.is_done.ensures in
    rw (← c.self.view_is, c.in-Some.is) (
      λ h. done-empty inside.piece.known c.in-Some.packet inside.rest.place inside.rest.mark (sym test ∙ h),
      λ h. test ∙ empty-done inside.piece.known c.in-Some.packet inside.rest.place inside.rest.mark h,
    )
