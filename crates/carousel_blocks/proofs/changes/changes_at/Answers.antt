use Rattle.std.proofs.Common.{sym, ap, ◌∙◌, append-nil, arith}
use Rattle.std.specs.Prelude.{Some, None}
use Rattle.std.proofs.lemmas.List.{get_or_default}
use Rattle.carousel_blocks.specs.Modules.{kept_at}
use Rattle.carousel_blocks.specs.Changes.{number_bound}
use Rattle.carousel_blocks.specs.Steps.{entry_change_at}
use Rattle.carousel_blocks.proofs.NumberLaws.{filter_map-push}
use Rattle.carousel_blocks.proofs.changes.changes_at.Goals as goal
use Rattle.carousel_blocks.proofs.changes.changes_at.Goals.{in-Some+in_ok-push, in_default}

pub numbers-preserved : goal.numbers-preserved
numbers-preserved c =
    let f = entry_change_at (kept_at c.args.old.now c.args.buffers.now) (kept_at c.args.new.now c.args.buffers.now) in
    let ns = c.args.numbers.now in
    let i = c.numbers.number-index in
    let before = c.numbers.changes.items in
    elim c.match-change_at.branch [
      | in-Some+in_ok-push w ↦
          ap (λ v. v.items) w.changes-is ∙ w.in_ok-push.ensures.items
          ∙ filter_map-push f ns i (Some w.in-Some.change) before c.numbers-test.true (sym w.in-Some.is ∙ c.change_at.ensures) c.numbers.invariant
      | in_default w ↦
          ap (λ v. v.items) w.changes-is ∙ sym (append-nil before)
          ∙ filter_map-push f ns i None before c.numbers-test.true (sym w.in_default.is ∙ c.change_at.ensures) c.numbers.invariant
    ]

pub returns-clause-fit : goal.returns-clause-fit
unfolding number_bound
returns-clause-fit c = λ k d h. let e = get_or_default c.args.numbers.now k d 0 h in let f = c.type_inv.numbers k in omega arith
