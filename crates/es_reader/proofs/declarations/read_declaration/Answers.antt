use Rattle.std.proofs.Common.{arith, rules, ◌+◌}
use Rattle.std.proofs.lemmas.Option.{slice_get_within}
use Rattle.es_reader.proofs.BadLemmas.{handed, if-bad, no-name-at, no-value-at}
use Rattle.es_reader.proofs.DeclarationLemmas.{bare-at, valued-at}
use Rattle.es_lexer.specs.declared.punctuators.Punctuator.TheVariants.{Assign}
use Rattle.es_reader.specs.Grammar.{IsMark}
use Rattle.es_reader.specs.Parts.{IsThere}
use Rattle.es_reader.proofs.PartLemmas.{fails}
use Rattle.es_reader.proofs.declarations.read_declaration.Goals as goal

pub read_whole-requires : goal.read_whole-requires
read_whole-requires c =
    let m = c.is_mark_at.ensures.0 (search rules) in
    let l = slice_get_within c.args.tokens.now (c.args.place + 1) m.0 m.1 in
    omega (arith, l)

pub returns-then-not-is_mark_at-clause-declared : goal.returns-then-not-is_mark_at-clause-declared
returns-then-not-is_mark_at-clause-declared c =
    bare-at c.args.tokens.now c.args.place c.args.nodes.now c.push.new.self c.in_ok-node.node c.args.names.now c.add.new.self c.in_ok-name.name.now c.in_ok-share.field-0
    c.index-tokens-place.result c.index-tokens-place-2.result c.index-tokens-place-2.result c.new.result.items
    (c.in_ok-name.ensures {u = tt}).name c.new.ensures.items (c.in_ok-share.ensures {u = tt}) (c.in_ok-node.ensures {u = tt}).number (c.in_ok-node.ensures {u = tt}).pushed (c.in_ok-add.ensures {u = tt}).names (fails (IsThere (IsMark Assign) c.args.tokens.now (c.args.place + 1)) c.is_mark_at.result c.is_mark_at.ensures.1 (search rules))

pub returns-clause-declared : goal.returns-clause-declared
returns-clause-declared c =
    valued-at c.args.tokens.now c.args.place c.read_whole.new.nodes c.push-2.new.self c.in_ok-node-2.node c.deeper.result c.args.names.now c.add.new.self c.in_ok-name.name.now c.in_ok-share.field-0
    c.index-tokens-place.result c.in_ok-children.children.items c.in_ok-value.value
    (c.in_ok-name.ensures {u = tt}).name (c.is_mark_at.ensures.0 (search rules)) (c.in_ok-value.ensures {u = tt}).whole (c.in_ok-children.ensures {u = tt}).items (c.in_ok-share.ensures {u = tt}) (c.in_ok-node-2.ensures {u = tt}).number (c.in_ok-node-2.ensures {u = tt}).pushed (c.in_ok-add.ensures {u = tt}).names c.deeper.ensures

pub returns-in_err-name-clause-bad : goal.returns-in_err-name-clause-bad
returns-in_err-name-clause-bad c = handed c.from_residual.result c.in_err-name.field-0.0 _ c.from_residual.ensures.1 (if-bad c.in_err-name.field-0.0 _ _ (no-name-at c.args.tokens.now c.args.place c.requires) (c.in_err-name.ensures {u = tt}).lacks)

pub returns-in_err-value-clause-bad : goal.returns-in_err-value-clause-bad
returns-in_err-value-clause-bad c =
    handed c.from_residual-in_err-value.result c.in_err-value.field-0.0 _ c.from_residual-in_err-value.ensures.1
    (if-bad c.in_err-value.field-0.0 _ _ (no-value-at c.args.tokens.now c.args.place c.in_ok-name.name.now (c.in_ok-name.ensures {u = tt}).name (c.is_mark_at.ensures.0 (search rules))) (c.in_err-value.ensures {u = tt}).stops)

pub bounds-tokens-place : goal.bounds-tokens-place
bounds-tokens-place c = let n = (c.in_ok-name.ensures {u = tt}).name in let l = slice_get_within c.args.tokens.now c.args.place n.0 n.1 in omega (arith, l)

pub bounds-tokens-place-in_ok-add : goal.bounds-tokens-place-in_ok-add
bounds-tokens-place-in_ok-add c = let n = (c.in_ok-name.ensures {u = tt}).name in let l = slice_get_within c.args.tokens.now c.args.place n.0 n.1 in omega (arith, l)

pub bounds-tokens-place-in_ok-add-2 : goal.bounds-tokens-place-in_ok-add-2
bounds-tokens-place-in_ok-add-2 c = let n = (c.in_ok-name.ensures {u = tt}).name in let l = slice_get_within c.args.tokens.now c.args.place n.0 n.1 in omega (arith, l)

pub bounds-tokens-place-in_ok-add-3 : goal.bounds-tokens-place-in_ok-add-3
bounds-tokens-place-in_ok-add-3 c = let n = (c.in_ok-name.ensures {u = tt}).name in let l = slice_get_within c.args.tokens.now c.args.place n.0 n.1 in omega (arith, l)
