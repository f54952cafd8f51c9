use Rattle.std.proofs.Common.{None, Some, sym, arith}
use Rattle.persistent_arrays.proofs.SpelledLemmas.{read-worked_out}
use Rattle.persistent_arrays.proofs.SpellingLemmas.{last-pushed, next-pushed, other-pushed, shorter-next, spells-none, structure-pushed}
use Rattle.persistent_arrays.proofs.structures.Structure.read.Goals as goal

pub invariant_of-result : goal.invariant_of-result
invariant_of-result c =
    let structure =
    structure-pushed c.args.text.now c.kinds.kinds.items c.push_kind.new.kinds.items c.kinds.left.now c.in-Some.kind c.in-Some.behind.now c.kinds.invariant c.in-Some.ensures c.in_ok-push_kind.ensures.items c.in_default-next_code.ensures in
    record { structure = structure; few = c.in_ok-push_kind.ensures.few }

pub returns-in_default-next_code : goal.returns-in_default-next_code
returns-in_default-next_code c =
    let spelled =
    last-pushed c.args.text.now c.kinds.kinds.items c.push_kind.new.kinds.items c.kinds.left.now c.in-Some.kind c.in-Some.behind.now c.kinds.invariant c.in-Some.ensures c.in_ok-push_kind.ensures.items c.in_default-next_code.ensures in
    record { spells = spelled; spelled = read-worked_out c.args.text.now (Some c.push_kind.new.kinds.items) spelled }

pub returns-then-comma-from : goal.returns-then-comma-from
returns-then-comma-from c =
    let none =
    other-pushed c.args.text.now c.kinds.kinds.items c.push_kind.new.kinds.items c.kinds.left.now c.in-Some.kind c.in-Some.behind.now c.kinds.invariant c.in-Some.ensures c.in_ok-push_kind.ensures.items
    c.in-Some-next_code.comma c.in-Some-next_code.next.now c.in-Some-next_code.ensures (λ e. omega (arith, c.from.ensures)) in
    record { spells = none; spelled = read-worked_out c.args.text.now None none }

pub kinds-smaller : goal.kinds-smaller
kinds-smaller c = shorter-next c.kinds.left.now c.in-Some.kind c.in-Some.behind.now c.in-Some-next_code.comma c.in-Some-next_code.next.now c.in-Some.ensures c.in-Some-next_code.ensures

pub kinds-preserved : goal.kinds-preserved
kinds-preserved c =
    next-pushed c.args.text.now c.kinds.kinds.items c.push_kind.new.kinds.items c.kinds.left.now c.in-Some.kind c.in-Some.behind.now c.kinds.invariant c.in-Some.ensures c.in_ok-push_kind.ensures.items
    c.in-Some-next_code.comma c.in-Some-next_code.next.now c.in-Some-next_code.ensures (omega (arith, c.from.ensures))

pub returns : goal.returns
returns c =
    let none = spells-none c.args.text.now c.kinds.kinds.items c.kinds.left.now c.kinds.invariant (sym c.in_default.ensures) in
    record { spells = none; spelled = read-worked_out c.args.text.now None none }
