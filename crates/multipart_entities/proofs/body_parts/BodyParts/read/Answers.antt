use Rattle.std.proofs.Common.{refl, sym, ◌∙◌}
use Rattle.multipart_entities.proofs.BodyPartLemmas.{on-ok, stand-skip, stand-some}
use Rattle.multipart_entities.proofs.body_parts.BodyParts.read.Goals as goal

pub returns-in-Some-clause-stands : goal.returns-in-Some-clause-stands
returns-in-Some-clause-stands c = λ inside done h.
    on-ok c.add.result c.add.ensures
    (λ e. stand-some c.args.bytes.now c.args.self.now (record { count = c.saturating_add-self.result; parts = c.add.new.self }) done c.args.start c.args.end c.in-Some.part h c.saturating_add-self.ensures
    (sym ((c.in_ok-part.ensures {u = tt}).part inside) ∙ c.in-Some.is) e)

pub returns-in-None-clause-stands : goal.returns-in-None-clause-stands
returns-in-None-clause-stands c = λ inside done h.
    stand-skip c.args.bytes.now c.args.self.now (record { count = c.saturating_add-self.result; parts = c.args.self.now.parts }) done c.args.start c.args.end h c.saturating_add-self.ensures
    (sym ((c.in_ok-part.ensures {u = tt}).part inside) ∙ c.in-None.is) refl
