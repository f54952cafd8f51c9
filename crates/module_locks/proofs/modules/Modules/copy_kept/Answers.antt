use Rattle.std.proofs.Common.{◌≡◌, ◌∙◌, ◌<◌, length, get_or, set, ap, sym, arith}
use Rattle.std.proofs.lemmas.List.{get_or_default, length-set, with_items_is}
use Rattle.module_locks.proofs.CopyLaws.{at_store, copied_more, copied_own, copied_part, copied_stands}
use Rattle.module_locks.proofs.modules.Modules.copy_kept.Goals as goal

pub returns-in_err-copy_lock-clause-stays : goal.returns-in_err-copy_lock-clause-stays
returns-in_err-copy_lock-clause-stays c = λ modules stands.
    let now = set c.locks.lock-items c.locks.lock-index c.copy_lock.new.lock in
    let long : length now ≡ c.self.inside.locks.len
    = length-set c.locks.lock-items c.locks.lock-index c.copy_lock.new.lock ∙ c.locks.auto.lock-items ∙ ap length c.deref_mut-lock-items.ensures.value ∙ sym c.self.inside.locks.ok.0 in
    let low : c.locks.lock-index < length c.locks.lock-items = omega arith in
    let old = get_or c.locks.lock-items c.locks.lock-index c.lock-item.result in
    let is = get_or_default c.locks.lock-items c.locks.lock-index c.lock-item.result old low in
    copied_part c.args.self.now c.self.inside.store c.self.inside.locks.items c.deref_mut-lock-items.result.now c.locks.lock-items _ c.locks.lock-index
    c.self.view_is c.deref_mut-lock-items.ensures.value c.locks.invariant modules stands old c.copy_lock.new.lock low is
    (λ stored its held. c.copy_lock.ensures.stays stored its held) (with_items_is c.self.inside.locks now long)

pub locks-preserved : goal.locks-preserved
locks-preserved c =
    let low : c.locks.lock-index < length c.locks.lock-items = omega arith in
    let old = get_or c.locks.lock-items c.locks.lock-index c.lock-item.result in
    let is = get_or_default c.locks.lock-items c.locks.lock-index c.lock-item.result old low in
    let viewed = at_store c.args.self.now c.self.inside.store c.self.inside.locks.items c.self.view_is in
    copied_more c.args.self.now.store c.deref_mut-lock-items.result.now c.locks.lock-items c.locks.lock-index old c.copy_lock.new.lock c.locks.invariant low is
    (λ stored its held. c.copy_lock.ensures.stays stored (viewed stored its) held) (λ stored its held. c.in_ok-copy_lock.ensures.own stored (viewed stored its) held)

pub returns-clause-stays : goal.returns-clause-stays
returns-clause-stays c = λ modules stands.
    let long : length c.locks.lock-items ≡ c.self.inside.locks.len = c.locks.auto.lock-items ∙ ap length c.deref_mut-lock-items.ensures.value ∙ sym c.self.inside.locks.ok.0 in
    copied_stands c.args.self.now c.self.inside.store c.self.inside.locks.items c.deref_mut-lock-items.result.now c.locks.lock-items _ c.locks.lock-index
    c.self.view_is c.deref_mut-lock-items.ensures.value c.locks.invariant modules stands (with_items_is c.self.inside.locks c.locks.lock-items long)

pub returns-clause-own : goal.returns-clause-own
returns-clause-own c = λ modules stands.
    let long : length c.locks.lock-items ≡ c.self.inside.locks.len = c.locks.auto.lock-items ∙ ap length c.deref_mut-lock-items.ensures.value ∙ sym c.self.inside.locks.ok.0 in
    copied_own c.args.self.now c.self.inside.store c.self.inside.locks.items c.deref_mut-lock-items.result.now c.locks.lock-items _ c.locks.lock-index
    c.self.view_is c.deref_mut-lock-items.ensures.value c.locks.invariant modules stands (omega arith) (with_items_is c.self.inside.locks c.locks.lock-items long)
