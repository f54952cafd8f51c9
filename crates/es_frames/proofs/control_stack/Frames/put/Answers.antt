use Rattle.std.proofs.Common.{◌∙◌, [], ◌∷◌, ℕ, length, ap, sym, subst}
use Rattle.std.specs.Prelude.{reverse}
use Rattle.std.proofs.lemmas.List.{length-append}
use Rattle.es_frames.specs.Frames.{with_item}
use Rattle.es_frames.specs.Nested.{AreNested, frames_in}
use Rattle.es_frames.proofs.StackLemmas.{frames-put, nested-put}
use Rattle.es_frames.proofs.control_stack.Frames.put.Goals as goal

pub invariant_of-self-2 : goal.invariant_of-self-2
invariant_of-self-2 g c =
    let marks = reverse c.self.inside.marks.items in
    let values = length c.self.inside.values.items in
    let items = c.self.inside.items.items in
    record {
      nested = subst (λ (n : ℕ). AreNested marks values n) (sym (ap length c.in_ok-push.ensures.items ∙ length-append items (c.args.item ∷ []))) (nested-put marks values (length items) c.self.invariant.nested);
      depth = c.self.invariant.depth;
    }

pub returns-clause-ok : goal.returns-clause-ok
returns-clause-ok g c =
    let marks = reverse c.self.inside.marks.items in
    let values = c.self.inside.values.items in
    let items = c.self.inside.items.items in
    ap (λ xs. frames_in marks values xs) c.in_ok-push.ensures.items
    ∙ (frames-put marks values items c.args.item c.self.invariant.nested ∙ ap (λ frames. with_item frames c.args.item) c.self.view_is)
