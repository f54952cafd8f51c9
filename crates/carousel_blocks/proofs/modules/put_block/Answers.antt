use Rattle.std.proofs.Common.{◌≡◌, ap, ◌∙◌, subst, refl, ℕ, List}
use Rattle.std.specs.Prelude.{IsSome, Option, Result, Ok, Err, OnOk, OnErr}
use Rattle.std.proofs.lemmas.Result.{IfOk-weaker, on_ok_weaker}
use Rattle.carousel_blocks.specs.declared.put.Put.{Put}
use Rattle.carousel_blocks.specs.Steps.{with_block_in}
use Rattle.carousel_blocks.proofs.BackLaws.{kept_alike}
use Rattle.dsmcc_messages.specs.Ddb.{fields_of}
use Rattle.slab.specs.Slab.{get, with_value}
use Rattle.slab.proofs.SlabLemmas.{Updates-with_value}
use Rattle.carousel_blocks.specs.Buffers.{BufferState}
use Rattle.carousel_blocks.proofs.PutLaws.{none_asks, kept_without, answer_without, meets, fits_there, shape_stays, are_with, kept_with_block, answer_with}
use Rattle.carousel_blocks.proofs.modules.put_block.Goals as goal

pub returns-in_default-clause-kept : goal.returns-in_default-clause-kept
returns-in_default-clause-kept c =
    let modules = c.args.modules.now in
    let buffers = c.args.buffers.now in
    let block = fields_of c.args.ddb.now in
    kept_without modules buffers block (none_asks modules buffers block c.requires c.in_default.ensures)

pub returns-in_default-clause-answer : goal.returns-in_default-clause-answer
returns-in_default-clause-answer c =
    let modules = c.args.modules.now in
    let buffers = c.args.buffers.now in
    let block = fields_of c.args.ddb.now in
    answer_without modules buffers block (none_asks modules buffers block c.requires c.in_default.ensures)

pub put_in-requires : goal.put_in-requires
put_in-requires c =
    let modules = c.args.modules.now in
    let buffers = c.args.buffers.now in
    let block = fields_of c.args.ddb.now in
    let k = meets modules buffers block c.in-Some.key c.requires c.in-Some.ensures in
    fits_there modules buffers block c.in-Some.key c.in-Some-get_mut.buffer.now k c.in-Some-get_mut.ensures.value

pub returns-in-None-clause-kept : goal.returns-in-None-clause-kept
returns-in-None-clause-kept c =
    let modules = c.args.modules.now in
    let buffers = c.args.buffers.now in
    let block = fields_of c.args.ddb.now in
    let k = meets modules buffers block c.in-Some.key c.requires c.in-Some.ensures in
    absurd (let p = c.in-None.ensures.value ∙ k.held in cc)

pub returns-in-None-clause-answer : goal.returns-in-None-clause-answer
returns-in-None-clause-answer c =
    let modules = c.args.modules.now in
    let buffers = c.args.buffers.now in
    let block = fields_of c.args.ddb.now in
    let k = meets modules buffers block c.in-Some.key c.requires c.in-Some.ensures in
    absurd (let p = c.in-None.ensures.value ∙ k.held in cc)

shape_after : {E : Type 0} (r : Result Put E) (number : ℕ) (block : List ℕ) (was now : BufferState) → OnOk r (now ≡ with_block_in number block was) → OnErr r (now ≡ was) → now.shape ≡ was.shape
shape_after (Ok put) number block was now ok err = ap (λ b. b.shape) ok ∙ shape_stays number block was
shape_after (Err e) number block was now ok err = ap (λ b. b.shape) err

on_err_weaker : {A E P Q : Type 0} (r : Result A E) → (P → Q) → OnErr r P → OnErr r Q
on_err_weaker (Ok x) then p = tt
on_err_weaker (Err e) then p = then p

pub returns-in-Some-get_mut-clause-are : goal.returns-in-Some-get_mut-clause-are
returns-in-Some-get_mut-clause-are c =
    let modules = c.args.modules.now in
    let buffers = c.args.buffers.now in
    let block = fields_of c.args.ddb.now in
    let was = c.in-Some-get_mut.buffer.now in
    let now = c.put_in.new.buffer in
    let there = c.in-Some-get_mut.ensures.value in
    let has : IsSome (get buffers c.in-Some.key) = subst (λ (o : Option BufferState). IsSome o) there refl in
    let updates = Updates-with_value buffers c.in-Some.key now has in
    are_with modules buffers (with_value buffers c.in-Some.key now) c.in-Some.key was now c.requires there
    (shape_after c.put_in.result block.number block.block was now c.put_in.ensures.block c.put_in.ensures.same) updates

pub returns-in-Some-get_mut-clause-kept : goal.returns-in-Some-get_mut-clause-kept
returns-in-Some-get_mut-clause-kept c =
    let modules = c.args.modules.now in
    let buffers = c.args.buffers.now in
    let block = fields_of c.args.ddb.now in
    let k = meets modules buffers block c.in-Some.key c.requires c.in-Some.ensures in
    let was = c.in-Some-get_mut.buffer.now in
    let now = c.put_in.new.buffer in
    let there = c.in-Some-get_mut.ensures.value in
    let has : IsSome (get buffers c.in-Some.key) = subst (λ (o : Option BufferState). IsSome o) there refl in
    let updates = Updates-with_value buffers c.in-Some.key now has in
    on_ok_weaker c.put_in.result (λ is. kept_with_block modules buffers (with_value buffers c.in-Some.key now) block c.in-Some.key was now c.requires k there is updates) c.put_in.ensures.block

pub returns-in-Some-get_mut-clause-answer : goal.returns-in-Some-get_mut-clause-answer
returns-in-Some-get_mut-clause-answer c =
    let modules = c.args.modules.now in
    let buffers = c.args.buffers.now in
    let block = fields_of c.args.ddb.now in
    let k = meets modules buffers block c.in-Some.key c.requires c.in-Some.ensures in
    IfOk-weaker c.put_in.result _ _ (λ put is. is ∙ answer_with modules buffers block c.in-Some.key c.in-Some-get_mut.buffer.now k c.in-Some-get_mut.ensures.value) c.put_in.ensures.answer

pub returns-in-Some-get_mut-clause-same : goal.returns-in-Some-get_mut-clause-same
returns-in-Some-get_mut-clause-same c =
    on_err_weaker c.put_in.result (λ same. kept_alike c.args.modules.now c.args.buffers.now c.in-Some.key c.in-Some-get_mut.buffer.now c.put_in.new.buffer c.in-Some-get_mut.ensures.value same) c.put_in.ensures.same
