use Rattle.std.proofs.Common.{sym, ap, refl, ◌∙◌, ◌+◌}
use Rattle.carousel_blocks.specs.declared.modules.Draft.{Draft}
use Rattle.carousel_blocks.specs.Modules.{blocks_for}
use Rattle.carousel_blocks.proofs.ModuleLaws.{keep_grown}
use Rattle.carousel_blocks.proofs.DraftLaws.{draft_again, draft_more, covers_made}
use Rattle.carousel_blocks.proofs.modules.Draft.add.Goals as goal

pub key_for-requires-clause-covers : goal.key_for-requires-clause-covers
key_for-requires-clause-covers c = let d = c.args.self.now in covers_made d.download d.block_size d.size c.args.entry c.of-standing.result c.of-standing.ensures

pub returns-in_err-key-clause-keeps : goal.returns-in_err-key-clause-keeps
returns-in_err-key-clause-keeps c = keep_grown c.args.old.now c.args.buffers.now c.key_for.new.buffers c.requires.modules c.key_for.ensures.grows

pub returns-in_err-insert-clause-keeps : goal.returns-in_err-insert-clause-keeps
returns-in_err-insert-clause-keeps c = keep_grown c.args.old.now c.args.buffers.now c.key_for.new.buffers c.requires.modules c.key_for.ensures.grows

pub returns-clause-keeps : goal.returns-clause-keeps
returns-clause-keeps c = keep_grown c.args.old.now c.args.buffers.now c.key_for.new.buffers c.requires.modules c.key_for.ensures.grows

pub returns-then-contains_key-clause-added : goal.returns-then-contains_key-clause-added
returns-then-contains_key-clause-added c = λ dii kept_module before same is. draft_again dii kept_module before c.args.self.now c.args.buffers.now c.args.entry (sym c.contains_key.ensures ∙ c.if-contains_key.true) is

pub returns-clause-added : goal.returns-clause-added
returns-clause-added c = λ dii kept_module before same is.
    let old = c.args.self.now in
    let s = c.of-standing.result in
    let more : Draft = record { download = old.download; block_size = old.block_size; size = old.size + c.counted_size.result; modules = c.insert.new.self } in
    draft_more dii kept_module before old more c.args.buffers.now c.key_for.new.buffers c.args.entry s c.in_ok-key.key
    (sym c.contains_key.ensures ∙ c.if-contains_key.false)
    c.of-standing.ensures
    c.key_for.ensures.grows
    c.in_ok-key.ensures.backed
    (c.in_ok-key.ensures.kept ∙ ap (λ k. blocks_for k s) (same s.entry.id))
    refl refl (ap (λ n. old.size + n) c.counted_size.ensures)
    c.in_ok-insert.ensures.updates
    is
