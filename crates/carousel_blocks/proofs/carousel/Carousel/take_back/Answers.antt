use Rattle.std.proofs.Common.{List, ◌++◌, ◌∙◌, refl, sym, subst}
use Rattle.std.specs.Prelude.{Result}
use Rattle.bml_bytes.specs.declared.refusals.TableFault.{TableFault}
use Rattle.dsmcc_messages.specs.Ddb.{DataBlock, fields_of}
use Rattle.carousel_blocks.specs.Message.{Message}
use Rattle.carousel_blocks.specs.Carousel.{StandsFor}
use Rattle.carousel_blocks.specs.Steps.{TakesBackBy}
use Rattle.carousel_blocks.proofs.SectionLaws.{carries_other, carries_block}
use Rattle.carousel_blocks.proofs.StageLaws.{carries_no_dii, whole_of_block, whole_of_none}
use Rattle.carousel_blocks.proofs.BackLaws.{stands_back}
use Rattle.carousel_blocks.proofs.carousel.Carousel.take_back.Goals as goal

pub returns-in-Ok-clause-block : goal.returns-in-Ok-clause-block
returns-in-Ok-clause-block c =
    subst (λ (carried : Result DataBlock TableFault). TakesBackBy carried c.args.self.now c.take_block_back.new.self) c.in-Ok.ensures.reading c.take_block_back.ensures

pub returns-in-Err-clause-block : goal.returns-in-Err-clause-block
returns-in-Err-clause-block c =
    subst (λ (carried : Result DataBlock TableFault). TakesBackBy carried c.args.self.now c.args.self.now) c.in-Err.ensures.reading (record { transaction = refl; download = refl; modules = λ number. refl })

pub returns-in-Ok-clause-before : goal.returns-in-Ok-clause-before
returns-in-Ok-clause-before c = λ messages number bytes made stands.
    let section = c.args.section.now in
    let block = fields_of c.in-Ok.ddb in
    let carried = c.in-Ok.ensures.reading in
    let none = carries_no_dii section block carried in
    let is = carries_other section none.0 none.1 ∙ carries_block section block carried in
    stands_back c.args.self.now c.take_block_back.new.self block c.take_block_back.ensures messages (number, bytes) (sym (whole_of_block section block carried messages) ∙ made)
    (subst (λ (l : List Message). StandsFor c.args.self.now (messages ++ l)) is stands)

pub returns-in-Err-clause-before : goal.returns-in-Err-clause-before
returns-in-Err-clause-before c = λ messages number bytes made stands.
    absurd (let p = whole_of_none c.args.section.now c.in-Err.field-0 c.in-Err.ensures.reading messages ∙ made in cc)
