use Rattle.std.proofs.Common.{ap, ◌∙◌, subst, refl}
use Rattle.std.specs.Prelude.{IsSome, Option}
use Rattle.dsmcc_messages.specs.Ddb.{fields_of}
use Rattle.slab.specs.Slab.{get, with_value}
use Rattle.slab.proofs.SlabLemmas.{Updates-with_value}
use Rattle.carousel_blocks.specs.Buffers.{BufferState}
use Rattle.carousel_blocks.proofs.PutLaws.{none_asks, meets, are_with}
use Rattle.carousel_blocks.proofs.BackLaws.{kept_without_any, kept_without_block}
use Rattle.carousel_blocks.proofs.modules.take_back.Goals as goal

pub returns-in_default-clause-kept : goal.returns-in_default-clause-kept
returns-in_default-clause-kept c =
    let modules = c.args.modules.now in
    let buffers = c.args.buffers.now in
    let block = fields_of c.args.ddb.now in
    kept_without_any modules buffers block (none_asks modules buffers block c.requires c.in_default.ensures)

pub returns-in-Some-get_mut-clause-are : goal.returns-in-Some-get_mut-clause-are
returns-in-Some-get_mut-clause-are c =
    let modules = c.args.modules.now in
    let buffers = c.args.buffers.now in
    let was = c.in-Some-get_mut.buffer.now in
    let now = c.take_back.new.self in
    let there = c.in-Some-get_mut.ensures.value in
    let has : IsSome (get buffers c.in-Some.key) = subst (λ (o : Option BufferState). IsSome o) there refl in
    are_with modules buffers (with_value buffers c.in-Some.key now) c.in-Some.key was now c.requires there (ap (λ b. b.shape) c.take_back.ensures) (Updates-with_value buffers c.in-Some.key now has)

pub returns-in-Some-get_mut-clause-kept : goal.returns-in-Some-get_mut-clause-kept
returns-in-Some-get_mut-clause-kept c =
    let modules = c.args.modules.now in
    let buffers = c.args.buffers.now in
    let block = fields_of c.args.ddb.now in
    let k = meets modules buffers block c.in-Some.key c.requires c.in-Some.ensures in
    let was = c.in-Some-get_mut.buffer.now in
    let now = c.take_back.new.self in
    let there = c.in-Some-get_mut.ensures.value in
    let has : IsSome (get buffers c.in-Some.key) = subst (λ (o : Option BufferState). IsSome o) there refl in
    kept_without_block modules buffers (with_value buffers c.in-Some.key now) block c.in-Some.key was now c.requires k there c.take_back.ensures (Updates-with_value buffers c.in-Some.key now has)

pub returns-in-None-clause-kept : goal.returns-in-None-clause-kept
returns-in-None-clause-kept c =
    let modules = c.args.modules.now in
    let buffers = c.args.buffers.now in
    let block = fields_of c.args.ddb.now in
    let k = meets modules buffers block c.in-Some.key c.requires c.in-Some.ensures in
    absurd (let p = c.in-None.ensures.value ∙ k.held in cc)
