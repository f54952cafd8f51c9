use Rattle.std.proofs.Common.{◌≡◌, List, ℕ, Option, refl, sym, ap, subst, ◌∙◌}
use Rattle.ts_sections.specs.devices.Ahead.{Kept}
use Rattle.ts_sections.specs.Assembly.{AssemblerState, GivesNext}
use Rattle.ts_sections.specs.devices.Remainder.{last_bytes, section_of, state_of}
use Rattle.ts_sections.proofs.assembler.Assembler.next.Goals as goal

pub returns-in-Some : goal.returns-in-Some
returns-in-Some c =
    let inside = c.assembler.inside in
    let same = ap (λ (a : AssemblerState). a.kept) c.assembler.view_is in
    let last : inside.last ≡ c.self.inside.last = ap (λ (k : Kept). k.before) same in
    let gathered : inside.piece.gathered ≡ c.advance-found.new.piece.gathered = ap (λ (k : Kept). k.gathered) same in
    let gives = rw c.in-Some.is at c.advance-found.ensures.found in
    let section : section_of (last_bytes c.self.inside.last) c.advance-found.new.piece.gathered c.in-Some.found ≡ c.section_at.result.now =
    ap (λ (before : Option (List ℕ)). section_of (last_bytes before) c.advance-found.new.piece.gathered c.in-Some.found) (sym last)
    ∙ ap (λ (bytes : List ℕ). section_of (last_bytes inside.last) bytes c.in-Some.found) (sym gathered) ∙ sym c.section_at.ensures in
    ((refl, (λ _. tt), subst (λ (s : List ℕ). GivesNext c.args.self.now (state_of c.self.inside.last c.advance-found.new.rest c.advance-found.new.piece) s) section (rw c.self.view_is at gives)), record { after = tt })
