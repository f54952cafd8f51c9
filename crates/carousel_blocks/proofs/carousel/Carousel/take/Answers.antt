use Rattle.std.proofs.Common.{◌≡◌, ◌∙◌, ℕ, sym, subst, List, [], ◌∷◌, ◌++◌}
use Rattle.std.specs.Prelude.{Result, Ok, Err, OnOk}
use Rattle.std.proofs.lemmas.Result.{IfOk-weaker, on_ok_weaker}
use Rattle.bml_bytes.specs.declared.refusals.TableFault.{TableFault}
use Rattle.bml_bytes.specs.declared.refusals.TableRefusal.{TableRefusal}
use Rattle.bml_bytes.specs.declared.refusals.TableRefusal.TheVariants.{Fault}
use Rattle.dsmcc_messages.specs.declared.dii.Dii.{Dii}
use Rattle.dsmcc_messages.specs.Reading.{IsRead, dii_in}
use Rattle.carousel_blocks.specs.Message.{Message, messages_of, data_in}
use Rattle.carousel_blocks.specs.Carousel.{StandsFor}
use Rattle.carousel_blocks.specs.Changes.{changes}
use Rattle.carousel_blocks.proofs.StageLaws.{whole_of_dii}
use Rattle.carousel_blocks.proofs.SectionLaws.{carries_dii, carries_other}
use Rattle.carousel_blocks.proofs.carousel.Carousel.take.Goals as goal

no_dii : (section : List ℕ) (refusal : TableRefusal) (fault : TableFault) → refusal ≡ Fault fault → IsRead {X = Dii} (Err refusal) (dii_in section) → messages_of (section ∷ []) ≡ data_in section
no_dii section refusal fault e read = carries_other section fault (subst (λ (r : TableRefusal). IsRead {X = Dii} (Err r) (dii_in section)) e read)

pub returns-in-Ok-clause-stands : goal.returns-in-Ok-clause-stands
returns-in-Ok-clause-stands c =
    let carried = carries_dii c.args.section.now c.in-Ok.dii c.in-Ok.ensures.reading in
    on_ok_weaker c.take_dii.result (λ stands h s. subst (λ (l : List Message). StandsFor c.take_dii.new.self (h ++ l)) (sym carried) (stands h s)) c.take_dii.ensures.stands

pub returns-in-Ok-clause-changes : goal.returns-in-Ok-clause-changes
returns-in-Ok-clause-changes c =
    let carried = carries_dii c.args.section.now c.in-Ok.dii c.in-Ok.ensures.reading in
    IfOk-weaker c.take_dii.result _ _ (λ found is h s. subst (λ (l : List Message). found.items ≡ changes h (h ++ l)) (sym carried) (is h s)) c.take_dii.ensures.changes

pub returns-in-Err-Fault-clause-stands : goal.returns-in-Err-Fault-clause-stands
returns-in-Err-Fault-clause-stands c =
    let carried = no_dii c.args.section.now c.in-Err-Fault.field-0 c.in-Err-Fault.field-0-0 c.in-Err-Fault.field-0-is c.in-Err-Fault.ensures.reading in
    on_ok_weaker c.take_data.result (λ stands h s. subst (λ (l : List Message). StandsFor c.take_data.new.self (h ++ l)) (sym carried) (stands h s)) c.take_data.ensures.stands

pub returns-in-Err-Fault-clause-changes : goal.returns-in-Err-Fault-clause-changes
returns-in-Err-Fault-clause-changes c =
    let carried = no_dii c.args.section.now c.in-Err-Fault.field-0 c.in-Err-Fault.field-0-0 c.in-Err-Fault.field-0-is c.in-Err-Fault.ensures.reading in
    IfOk-weaker c.take_data.result _ _ (λ found is h s. subst (λ (l : List Message). found.items ≡ changes h (h ++ l)) (sym carried) (is h s)) c.take_data.ensures.changes

on_ok : {A E P : Type 0} (r : Result A E) → P → OnOk r P
on_ok (Ok x) p = p
on_ok (Err e) p = tt

pub returns-in-Ok-clause-number : goal.returns-in-Ok-clause-number
returns-in-Ok-clause-number c =
    on_ok c.take_dii.result (λ h number bytes made. absurd (let p = whole_of_dii c.args.section.now c.in-Ok.dii c.in-Ok.ensures.reading h ∙ made in cc))

pub returns-in-Err-Fault-clause-number : goal.returns-in-Err-Fault-clause-number
returns-in-Err-Fault-clause-number c = on_ok c.take_data.result c.take_data.ensures.number
