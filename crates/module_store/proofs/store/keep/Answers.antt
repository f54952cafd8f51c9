use Rattle.std.proofs.Common.{rules}
use Rattle.std.proofs.lemmas.Fn.{filter_same}
use Rattle.module_store.specs.Store.{is_kept}
use Rattle.module_store.proofs.store.keep.Goals as goal

pub returns : goal.returns
returns c =
    filter_same _ (λ slot. is_kept c.args.components.now slot.tag slot.pid) _ (λ x b f' k. search rules) c.args.slots.now.items c.retain.new.self.items c.retain.ensures.filtered
