use Rattle.std.specs.Prelude.{Result, Ok, Err, IfOk, OnOk, OnErr}
use Rattle.dsmcc_messages.specs.Ddb.{fields_of}
use Rattle.carousel_blocks.proofs.StandingFor.{takes_block_by, keeps_same_by}
use Rattle.carousel_blocks.proofs.BackLaws.{kept_back}
use Rattle.carousel_blocks.proofs.carousel.Carousel.put_block.Goals as goal

both : {X E A : Type 0} {P Q : X → Type 0} (r : Result X E) → OnOk r A → IfOk r P → (A → (x : X) → P x → Q x) → IfOk r Q
both (Ok x) a p then = then a x p
both (Err e) a p then = tt

on_err_weaker : {A E P Q : Type 0} (r : Result A E) → (P → Q) → OnErr r P → OnErr r Q
on_err_weaker (Ok x) then p = tt
on_err_weaker (Err e) then p = then p

pub returns-clause-taken : goal.returns-clause-taken
returns-clause-taken c =
    let b = c.self.inside in
    both c.put_block.result c.put_block.ensures.kept c.put_block.ensures.answer (λ kept put is.
    takes_block_by b.transaction b.download b.modules b.buffers c.put_block.new.buffers (fields_of c.args.ddb.now) put c.args.self.now c.self.view_is kept is)

pub returns-clause-same : goal.returns-clause-same
returns-clause-same c =
    let b = c.self.inside in
    on_err_weaker c.put_block.result (λ same. keeps_same_by b.transaction b.download b.modules b.buffers c.put_block.new.buffers c.args.self.now c.self.view_is (record { are = c.put_block.ensures.are; same = same })) c.put_block.ensures.same

pub returns-clause-back : goal.returns-clause-back
returns-clause-back c =
    let b = c.self.inside in
    both c.put_block.result c.put_block.ensures.kept c.put_block.ensures.answer (λ kept put is number later completed back.
    kept_back b.transaction b.download b.modules b.buffers c.put_block.new.buffers c.args.self.now c.self.view_is c.self.invariant (fields_of c.args.ddb.now) put number later kept is completed back)
