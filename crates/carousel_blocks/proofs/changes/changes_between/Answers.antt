use Rattle.std.proofs.Common.{ap, ◌∙◌, subst, ◌<◌, ℕ, List}
use Rattle.std.specs.Prelude.{Result, Ok, Err, IfOk, OnOk, All}
use Rattle.std.specs.List.{filter_map}
use Rattle.carousel_blocks.specs.Modules.{kept_at}
use Rattle.carousel_blocks.specs.Changes.{number_bound}
use Rattle.carousel_blocks.specs.Steps.{entry_change_at}
use Rattle.carousel_blocks.proofs.ChangeLaws.{changes_listed}
use Rattle.carousel_blocks.proofs.changes.changes_between.Goals as goal

both : {X E A : Type 0} {P Q : X → Type 0} (r : Result X E) → OnOk r A → IfOk r P → (A → (x : X) → P x → Q x) → IfOk r Q
both (Ok x) a p then = then a x p
both (Err e) a p then = tt

pub returns : goal.returns
returns c =
    let f = entry_change_at (kept_at c.args.old.now c.args.buffers.now) (kept_at c.args.new.now c.args.buffers.now) in
    let ns = c.in_ok-numbers.numbers.items in
    let same = c.deref.ensures.value in
    let listed = changes_listed c.args.old.now c.args.new.now c.args.buffers.now ns c.in_ok-numbers.ensures.rises c.in_ok-numbers.ensures.old c.in_ok-numbers.ensures.new in
    both c.changes_at.result c.changes_at.ensures.fit c.changes_at.ensures.changes (λ fit found is.
    is ∙ ap (filter_map f) same ∙ listed (subst (λ (ms : List ℕ). All (λ n. n < number_bound) ms) same fit))
