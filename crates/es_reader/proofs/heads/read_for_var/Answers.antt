use Rattle.std.proofs.Common.{arith, ◌+◌}
use Rattle.es_reader.specs.Statements.First.{FirstVar}
use Rattle.es_reader.proofs.PartLemmas.{fails}
use Rattle.es_reader.proofs.BadLemmas.{handed, if-bad}
use Rattle.es_reader.proofs.HeadBadLemmas.{for-declarations-stop-at}
use Rattle.es_reader.proofs.HeadLemmas.{if-ok, first-var-at, variable-at}
use Rattle.es_reader.proofs.TreeLemmas.{grows-trans, grows-by}
use Rattle.es_reader.proofs.heads.read_for_var.Goals as goal

pub read_for_parts-requires-clause-first : goal.read_for_parts-requires-clause-first
read_for_parts-requires-clause-first c =
    let d = (c.in_ok-declared.ensures {u = tt}).declared in
    (FirstVar c.requires.var.0 d.0, first-var-at c.args.tokens.now (c.args.place + 2) c.read_declarations.new.nodes c.push.new.self c.args.names.now c.read_declarations.new.names c.in_ok-declared.declared c.index-tokens-place.result c.in_ok-node.node (c.args.place + 3) (omega arith) c.requires.var d.0 d.1 (c.in_ok-declared.ensures {u = tt}).no_comma (λ b i. fails _ c.is_in_behind.result c.is_in_behind.ensures.1 c.if-is_in_behind.false (b, i)) (c.in_ok-node.ensures {u = tt}).number (c.in_ok-node.ensures {u = tt}).pushed)

pub read_for_in-requires-clause-visitor : goal.read_for_in-requires-clause-visitor
read_for_in-requires-clause-visitor c =
    let v = variable-at c.args.tokens.now (c.args.place + 2) c.read_declarations.new.nodes c.push.new.self c.args.names.now c.read_declarations.new.names c.in_ok-declared.declared c.index-tokens-place.result c.in_ok-node.node (c.args.place + 3) (omega arith) c.requires.var (c.in_ok-declared.ensures {u = tt}).declared (c.is_in_behind.ensures.0 c.if-is_in_behind.true).0 (c.in_ok-node.ensures {u = tt}).number (c.in_ok-node.ensures {u = tt}).pushed in
    (v.0, v.1)

pub returns-clause-grows : goal.returns-clause-grows
returns-clause-grows c = if-ok c.read_for_parts.result _ _ (λ x g. grows-trans c.args.nodes.now c.read_declarations.new.nodes c.read_for_parts.new.nodes (c.in_ok-declared.ensures {u = tt}).grows (grows-trans c.read_declarations.new.nodes c.push.new.self c.read_for_parts.new.nodes (grows-by c.read_declarations.new.nodes c.push.new.self _ (c.in_ok-node.ensures {u = tt}).pushed) g)) c.read_for_parts.ensures.grows

pub returns-then-is_in_behind-clause-grows : goal.returns-then-is_in_behind-clause-grows
returns-then-is_in_behind-clause-grows c = if-ok c.read_for_in.result _ _ (λ x g. grows-trans c.args.nodes.now c.read_declarations.new.nodes c.read_for_in.new.nodes (c.in_ok-declared.ensures {u = tt}).grows (grows-trans c.read_declarations.new.nodes c.push.new.self c.read_for_in.new.nodes (grows-by c.read_declarations.new.nodes c.push.new.self _ (c.in_ok-node.ensures {u = tt}).pushed) g)) c.read_for_in.ensures.grows

pub returns-clause-head : goal.returns-clause-head
returns-clause-head c =
    let d = (c.in_ok-declared.ensures {u = tt}).declared in
    if-ok c.read_for_parts.result _ _ (λ read h. h (FirstVar c.requires.var.0 d.0) c.args.names.now c.read_declarations.new.names
    (first-var-at c.args.tokens.now (c.args.place + 2) c.read_declarations.new.nodes c.push.new.self c.args.names.now c.read_declarations.new.names c.in_ok-declared.declared c.index-tokens-place.result c.in_ok-node.node (c.args.place + 3) (omega arith) c.requires.var d.0 d.1 (c.in_ok-declared.ensures {u = tt}).no_comma (λ b i. fails _ c.is_in_behind.result c.is_in_behind.ensures.1 c.if-is_in_behind.false (b, i)) (c.in_ok-node.ensures {u = tt}).number (c.in_ok-node.ensures {u = tt}).pushed)
    d.1.names) c.read_for_parts.ensures.head

pub returns-then-is_in_behind-clause-head : goal.returns-then-is_in_behind-clause-head
returns-then-is_in_behind-clause-head c =
    let v = variable-at c.args.tokens.now (c.args.place + 2) c.read_declarations.new.nodes c.push.new.self c.args.names.now c.read_declarations.new.names c.in_ok-declared.declared c.index-tokens-place.result c.in_ok-node.node (c.args.place + 3) (omega arith) c.requires.var (c.in_ok-declared.ensures {u = tt}).declared (c.is_in_behind.ensures.0 c.if-is_in_behind.true).0 (c.in_ok-node.ensures {u = tt}).number (c.in_ok-node.ensures {u = tt}).pushed in
    if-ok c.read_for_in.result _ _ (λ read h. h v.0 c.args.names.now c.read_declarations.new.names v.1 v.2) c.read_for_in.ensures.head

pub returns-in_err-declared-clause-bad : goal.returns-in_err-declared-clause-bad
returns-in_err-declared-clause-bad c = handed c.from_residual.result c.in_err-declared.field-0.0 _ c.from_residual.ensures.1 (if-bad c.in_err-declared.field-0.0 _ _ (for-declarations-stop-at c.args.tokens.now c.args.place c.requires.word c.requires.open c.requires.var (c.args.place + 3) (omega arith)) (c.in_err-declared.ensures {u = tt}).bad)
