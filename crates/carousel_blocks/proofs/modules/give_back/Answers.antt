use Rattle.std.proofs.Common.{ap, sym, ◌∙◌, nat_eq}
use Rattle.std.specs.HashMap.{get as value_at}
use Rattle.carousel_blocks.specs.Drafts.{is_key, key_of}
use Rattle.carousel_blocks.proofs.ModuleLaws.{keep_used}
use Rattle.carousel_blocks.proofs.modules.give_back.Goals as goal

pub returns-then-not-has_key : goal.returns-then-not-has_key
returns-then-not-has_key c =
    let modules = c.args.modules.now in
    let key = c.args.key in
    keep_used modules c.args.buffers.now c.try_remove-unused.new.self key c.in-Some.buffer.now c.requires (sym c.in-Some.ensures)
    (ap (λ n. is_key key (key_of (value_at nat_eq modules n))) (sym c.number.ensures) ∙ sym c.has_key.ensures ∙ c.if-not-has_key.true)
    c.try_remove-unused.ensures.updates
