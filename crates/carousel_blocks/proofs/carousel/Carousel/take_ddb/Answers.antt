use Rattle.std.proofs.Common.{◌≡◌, ◌<◌, ◌∷◌, ◌++◌, [], sym, ap, ◌∙◌, arith}
use Rattle.std.specs.Prelude.{option_to_list}
use Rattle.dsmcc_messages.specs.Ddb.{fields_of}
use Rattle.carousel_blocks.specs.Changes.{number_bound}
use Rattle.carousel_blocks.proofs.StandingFor.{stands_block}
use Rattle.carousel_blocks.proofs.ToldLaws.{told_block}
use Rattle.carousel_blocks.proofs.carousel.Carousel.take_ddb.Goals as goal

pub returns-in_default-clause-stands : goal.returns-in_default-clause-stands
returns-in_default-clause-stands c = stands_block c.args.self.now c.put_block.new.self (fields_of c.args.ddb) c.in_ok-put.put c.in_ok-put.ensures.taken

pub returns-in_default-clause-changes : goal.returns-in_default-clause-changes
unfolding number_bound
returns-in_default-clause-changes c = λ h s.
    let fits : c.args.ddb.«module» < number_bound = omega arith in
    c.new.ensures.items ∙ ap option_to_list (sym c.in_default.is)
    ∙ told_block c.args.self.now c.put_block.new.self (fields_of c.args.ddb) c.in_ok-put.put c.in_ok-put.ensures.taken fits c.change_by.result c.change_by.ensures.told h s

pub returns-in-Ok-clause-stands : goal.returns-in-Ok-clause-stands
returns-in-Ok-clause-stands c = stands_block c.args.self.now c.put_block.new.self (fields_of c.args.ddb) c.in_ok-put.put c.in_ok-put.ensures.taken

pub returns-in-Ok-clause-changes : goal.returns-in-Ok-clause-changes
unfolding number_bound
returns-in-Ok-clause-changes c = λ h s.
    let fits : c.args.ddb.«module» < number_bound = omega arith in
    c.in-Ok.ensures ∙ ap option_to_list (sym c.in-Some.is)
    ∙ told_block c.args.self.now c.put_block.new.self (fields_of c.args.ddb) c.in_ok-put.put c.in_ok-put.ensures.taken fits c.change_by.result c.change_by.ensures.told h s

pub returns-in-Err-clause-same : goal.returns-in-Err-clause-same
returns-in-Err-clause-same c = c.in_ok-put.ensures.back c.in-Some.change.«module» c.take_block_back.new.self c.in-Some.ensures.completed c.take_block_back.ensures
