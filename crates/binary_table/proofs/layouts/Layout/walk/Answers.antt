use Rattle.std.proofs.Common.{◌≡◌, ℕ, ◌-◌, ◌<◌, List, length, drop, get_or, sym, ap, subst, ◌∙◌, arith}
use Rattle.binary_table.specs.devices.Places.{behind_bytes, behind_text, places_of}
use Rattle.binary_table.proofs.PlaceLemmas.{end-drop, end-short, first-end, first-place, last-end, loop-more, loop-over, next-end, no-end, row-end, told, untold}
use Rattle.binary_table.proofs.layouts.Layout.walk.Goals as goal

pub stretches-init : goal.stretches-init
stretches-init c = record {
  shown = first-place c.args.self.now.tail c.args.self.now.stretches.items c.args.bytes.now c.args.places.now.items c.args.left.now c.requires;
  behind = first-end c.args.bytes.now c.args.places.now.items c.args.left.now c.requires;
}

pub overflow_sub-bytes : goal.overflow_sub-bytes
overflow_sub-bytes c =
    let t = told c.skip_text.new.left c.in-Some.over (behind_text _ c.stretches.left) c.in-Some.ensures in
    let short = end-short c.args.bytes.now c.skip_text.new.left (next-end c.law_of_fields.ensures c.args.bytes.now c.stretches.left c.skip_text.new.left _ c.stretches.invariant.behind t.0) in
    let n = t.1 in
    omega arith

pub stretches-preserved : goal.stretches-preserved
stretches-preserved c =
    let stretch : ℕ = get_or c.deref-stretch-items.result.now c.stretches.stretch-index 0 in
    let t = told c.skip_text.new.left c.in-Some.over (behind_text stretch c.stretches.left) c.in-Some.ensures in
    let behind = next-end c.law_of_fields.ensures c.args.bytes.now c.stretches.left c.skip_text.new.left stretch c.stretches.invariant.behind t.0 in
    let place : drop (length c.args.bytes.now - c.in-Some.over) c.args.bytes.now ≡ c.skip_text.new.left = ap (λ (n : ℕ). drop (length c.args.bytes.now - n) c.args.bytes.now) t.1 ∙ end-drop c.args.bytes.now c.skip_text.new.left behind in
    record {
      shown = loop-more c.args.self.now.tail c.stretches.stretch-index (length c.args.bytes.now - c.in-Some.over) stretch c.args.self.now.stretches.items c.args.bytes.now c.stretches.places.items c.push.new.self.items c.stretches.left c.skip_text.new.left
          (places_of c.args.self.now.tail c.args.self.now.stretches.items c.args.left.now) (subst (λ (l : List ℕ). c.stretches.stretch-index < length l) c.deref-stretch-items.ensures.value c.stretches-test.true) (ap (λ (l : List ℕ). get_or l c.stretches.stretch-index 0) (sym c.deref-stretch-items.ensures.value)) c.stretches.invariant.shown t.0 c.in_ok-push.ensures.items place;
      behind = behind;
    }

pub returns-in_default-skip : goal.returns-in_default-skip
returns-in_default-skip c =
    let whole = loop-over c.args.self.now.tail c.stretches.stretch-index c.args.self.now.stretches.items c.args.bytes.now c.stretches.places.items c.stretches.left (places_of c.args.self.now.tail c.args.self.now.stretches.items c.args.left.now) (omega arith) c.stretches.invariant.shown in
    sym (no-end c.args.self.now.tail c.args.bytes.now c.stretches.places.items c.stretches.left _ whole (untold c.skip.new.left (behind_bytes c.args.self.now.tail c.stretches.left) c.in_default-skip.ensures))

pub overflow_sub-end : goal.overflow_sub-end
overflow_sub-end c =
    let t = told c.skip.new.left c.in-Some-skip.over (behind_bytes c.args.self.now.tail c.stretches.left) c.in-Some-skip.ensures in
    let short = end-short c.args.bytes.now c.skip.new.left (last-end c.law_of_fields.ensures c.args.bytes.now c.stretches.left c.skip.new.left c.args.self.now.tail c.stretches.invariant.behind t.0) in
    let n = t.1 in
    omega arith

pub returns : goal.returns
returns c =
    let t = told c.skip.new.left c.in-Some-skip.over (behind_bytes c.args.self.now.tail c.stretches.left) c.in-Some-skip.ensures in
    let whole = loop-over c.args.self.now.tail c.stretches.stretch-index c.args.self.now.stretches.items c.args.bytes.now c.stretches.places.items c.stretches.left (places_of c.args.self.now.tail c.args.self.now.stretches.items c.args.left.now) (omega arith) c.stretches.invariant.shown in
    let behind = last-end c.law_of_fields.ensures c.args.bytes.now c.stretches.left c.skip.new.left c.args.self.now.tail c.stretches.invariant.behind t.0 in
    let place : drop (length c.args.bytes.now - c.in-Some-skip.over) c.args.bytes.now ≡ c.skip.new.left = ap (λ (n : ℕ). drop (length c.args.bytes.now - n) c.args.bytes.now) t.1 ∙ end-drop c.args.bytes.now c.skip.new.left behind in
    row-end c.args.self.now.tail (length c.args.bytes.now - c.in-Some-skip.over) c.args.bytes.now c.stretches.places.items c.stretches.left c.skip.new.left _ whole t.0 place
