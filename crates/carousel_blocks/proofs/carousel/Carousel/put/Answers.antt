use Rattle.std.specs.Prelude.{Result, Ok, Err, IfOk, OnOk, OnErr}
use Rattle.std.proofs.lemmas.Result.{IfOk-weaker}
use Rattle.dsmcc_messages.specs.Ddb.{fields_of}
use Rattle.carousel_blocks.proofs.StandingFor.{stands_block, stands_same, answers_block}
use Rattle.carousel_blocks.proofs.carousel.Carousel.put.Goals as goal

on_ok_by : {X E A : Type 0} {P : X → Type 0} (r : Result X E) → ((x : X) → P x → A) → IfOk r P → OnOk r A
on_ok_by (Ok x) then p = then x p
on_ok_by (Err e) then p = tt

on_err_weaker : {A E P Q : Type 0} (r : Result A E) → (P → Q) → OnErr r P → OnErr r Q
on_err_weaker (Ok x) then p = tt
on_err_weaker (Err e) then p = then p

pub returns-clause-stands : goal.returns-clause-stands
returns-clause-stands c = on_ok_by c.put_block.result (λ put takes. stands_block c.args.self.now c.put_block.new.self (fields_of c.args.ddb.now) put takes) c.put_block.ensures.taken

pub returns-clause-answer : goal.returns-clause-answer
returns-clause-answer c = IfOk-weaker c.put_block.result _ _ (λ put takes. answers_block c.args.self.now c.put_block.new.self (fields_of c.args.ddb.now) put takes) c.put_block.ensures.taken

pub returns-clause-before : goal.returns-clause-before
returns-clause-before c = on_err_weaker c.put_block.result (λ same h s. stands_same c.args.self.now c.put_block.new.self h same s) c.put_block.ensures.same
