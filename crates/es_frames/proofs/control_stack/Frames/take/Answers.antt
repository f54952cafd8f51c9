use Rattle.std.proofs.Common.{◌≡◌, ◌∙◌, ◌-◌, List, length, take, ap, sym, arith}
use Rattle.std.specs.Prelude.{Some, reverse, slice_get}
use Rattle.es_frames.specs.declared.control_stack.Mark.{Mark}
use Rattle.es_frames.specs.Frames.{next_item, without_item}
use Rattle.es_frames.specs.Nested.{frames_in}
use Rattle.es_frames.proofs.StackLemmas.{frames-no_item, frames-taken, next-no_item, reverse-from_last}
use Rattle.es_frames.proofs.control_stack.Frames.take.Goals as goal

pub returns-then-len-first_item-clause-item : goal.returns-then-len-first_item-clause-item
returns-then-len-first_item-clause-item g c =
    let marks = c.self.inside.marks.items in
    let last : slice_get marks (length marks - 1) ≡ Some c.in-Some.mark.now = sym (c.in-Some.ensures.value ∙ ap (λ (xs : List Mark). slice_get xs (length xs - 1)) c.deref.ensures.value) in
    let taken = frames-taken marks c.in-Some.mark.now (reverse (take (length marks - 1) marks)) c.self.inside.values.items c.self.inside.items.items c.pop.new.self.items c.pop.result (reverse-from_last marks c.in-Some.mark.now last) c.pop.ensures.items (c.pop.ensures.variant.1 (omega arith)) (omega arith) c.self.invariant.nested in
    taken.0 ∙ ap next_item c.self.view_is

pub returns-then-len-first_item-clause-without : goal.returns-then-len-first_item-clause-without
returns-then-len-first_item-clause-without g c =
    let marks = c.self.inside.marks.items in
    let last : slice_get marks (length marks - 1) ≡ Some c.in-Some.mark.now = sym (c.in-Some.ensures.value ∙ ap (λ (xs : List Mark). slice_get xs (length xs - 1)) c.deref.ensures.value) in
    let taken = frames-taken marks c.in-Some.mark.now (reverse (take (length marks - 1) marks)) c.self.inside.values.items c.self.inside.items.items c.pop.new.self.items c.pop.result (reverse-from_last marks c.in-Some.mark.now last) c.pop.ensures.items (c.pop.ensures.variant.1 (omega arith)) (omega arith) c.self.invariant.nested in
    taken.1 ∙ ap without_item c.self.view_is

pub returns-else-len-first_item-clause-item : goal.returns-else-len-first_item-clause-item
returns-else-len-first_item-clause-item g c =
    let marks = c.self.inside.marks.items in
    let values = c.self.inside.values.items in
    let items = c.self.inside.items.items in
    let last : slice_get marks (length marks - 1) ≡ Some c.in-Some.mark.now = sym (c.in-Some.ensures.value ∙ ap (λ (xs : List Mark). slice_get xs (length xs - 1)) c.deref.ensures.value) in
    let below = reverse (take (length marks - 1) marks) in
    sym (next-no_item c.in-Some.mark.now below values items (omega arith))
    ∙ ap next_item (ap (λ ms. frames_in ms values items) (sym (reverse-from_last marks c.in-Some.mark.now last)) ∙ c.self.view_is)

pub returns-else-len-first_item-clause-without : goal.returns-else-len-first_item-clause-without
returns-else-len-first_item-clause-without g c =
    let marks = c.self.inside.marks.items in
    let values = c.self.inside.values.items in
    let items = c.self.inside.items.items in
    let last : slice_get marks (length marks - 1) ≡ Some c.in-Some.mark.now = sym (c.in-Some.ensures.value ∙ ap (λ (xs : List Mark). slice_get xs (length xs - 1)) c.deref.ensures.value) in
    let below = reverse (take (length marks - 1) marks) in
    let is = ap (λ ms. frames_in ms values items) (sym (reverse-from_last marks c.in-Some.mark.now last)) ∙ c.self.view_is in
    sym is ∙ (frames-no_item c.in-Some.mark.now below values items (omega arith) ∙ ap without_item is)
