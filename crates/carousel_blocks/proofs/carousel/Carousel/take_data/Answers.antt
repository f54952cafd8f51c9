use Rattle.std.proofs.Common.{arith, sym, ap, subst, List, ◌++◌, ◌∙◌, append-nil}
use Rattle.std.proofs.lemmas.Result.{IfOk-weaker, on_ok_weaker}
use Rattle.dsmcc_messages.specs.Ddb.{fields_of}
use Rattle.carousel_blocks.specs.Message.{Message}
use Rattle.carousel_blocks.specs.Carousel.{StandsFor}
use Rattle.carousel_blocks.specs.Changes.{changes, number_bound}
use Rattle.carousel_blocks.proofs.SectionLaws.{carries_block, carries_nothing}
use Rattle.carousel_blocks.proofs.StageLaws.{whole_number, whole_of_block, whole_of_none}
use Rattle.carousel_blocks.proofs.ToldLaws.{changes-still}
use Rattle.carousel_blocks.proofs.carousel.Carousel.take_data.Goals as goal

pub returns-in-Ok-clause-stands : goal.returns-in-Ok-clause-stands
returns-in-Ok-clause-stands c =
    let carried = carries_block c.args.section.now (fields_of c.in-Ok.ddb) c.in-Ok.ensures.reading in
    on_ok_weaker c.take_ddb.result (λ stands h s. subst (λ (l : List Message). StandsFor c.take_ddb.new.self (h ++ l)) (sym carried) (stands h s)) c.take_ddb.ensures.stands

pub returns-in-Ok-clause-changes : goal.returns-in-Ok-clause-changes
returns-in-Ok-clause-changes c =
    let carried = carries_block c.args.section.now (fields_of c.in-Ok.ddb) c.in-Ok.ensures.reading in
    IfOk-weaker c.take_ddb.result _ _ (λ found is h s. is h s ∙ ap (λ (l : List Message). changes h (h ++ l)) (sym carried)) c.take_ddb.ensures.changes

pub returns-in-Err-clause-stands : goal.returns-in-Err-clause-stands
returns-in-Err-clause-stands c = λ h s.
    let carried = carries_nothing c.args.section.now c.in-Err.field-0 c.in-Err.ensures.reading in
    subst (λ (l : List Message). StandsFor c.args.self.now l) (sym (ap (λ l. h ++ l) carried ∙ append-nil h)) s

pub returns-in-Err-clause-changes : goal.returns-in-Err-clause-changes
returns-in-Err-clause-changes c = λ h s.
    let carried = carries_nothing c.args.section.now c.in-Err.field-0 c.in-Err.ensures.reading in
    c.new.ensures.items ∙ changes-still h ∙ ap (changes h) (sym (ap (λ l. h ++ l) carried ∙ append-nil h))

pub returns-in-Ok-clause-number : goal.returns-in-Ok-clause-number
unfolding number_bound
returns-in-Ok-clause-number c = λ h number bytes made.
    let block = fields_of c.in-Ok.ddb in
    let same = whole_number h block number bytes (sym (whole_of_block c.args.section.now block c.in-Ok.ensures.reading h) ∙ made) in
    omega (arith, c.take_ddb.ensures.low, same)

pub returns-in-Err-clause-number : goal.returns-in-Err-clause-number
returns-in-Err-clause-number c = λ h number bytes made.
    absurd (let p = whole_of_none c.args.section.now c.in-Err.field-0 c.in-Err.ensures.reading h ∙ made in cc)
