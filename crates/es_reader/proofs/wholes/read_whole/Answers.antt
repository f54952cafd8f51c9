use Rattle.std.proofs.Common.{arith}
use Rattle.es_reader.proofs.PhraseLemmas.{whole-before, whole-at}
use Rattle.es_reader.proofs.wholes.read_whole.Goals as goal

pub bounds-tokens-place : goal.bounds-tokens-place
bounds-tokens-place c =
    let w = whole-before c.args.extent c.args.tokens.now c.args.place c.read_expression.new.nodes c.in_ok-behind.field-0 c.in-Some.found (c.in_ok-behind.ensures {u = tt}).reading c.in-Some.is in
    omega (arith, w.0, w.1)

pub bounds-tokens-place-in-Some : goal.bounds-tokens-place-in-Some
bounds-tokens-place-in-Some c =
    let w = whole-before c.args.extent c.args.tokens.now c.args.place c.read_expression.new.nodes c.in_ok-behind.field-0 c.in-Some.found (c.in_ok-behind.ensures {u = tt}).reading c.in-Some.is in
    omega (arith, w.0, w.1)

pub overflow_sub-result : goal.overflow_sub-result
overflow_sub-result c =
    let w = whole-before c.args.extent c.args.tokens.now c.args.place c.read_expression.new.nodes c.in_ok-behind.field-0 c.in-Some.found (c.in_ok-behind.ensures {u = tt}).reading c.in-Some.is in
    omega (arith, w.0, w.1)

pub bounds-tokens-behind : goal.bounds-tokens-behind
bounds-tokens-behind c =
    let w = whole-before c.args.extent c.args.tokens.now c.args.place c.read_expression.new.nodes c.in_ok-behind.field-0 c.in-Some.found (c.in_ok-behind.ensures {u = tt}).reading c.in-Some.is in
    omega (arith, w.0, w.1)

pub bounds-tokens-behind-in-Some : goal.bounds-tokens-behind-in-Some
bounds-tokens-behind-in-Some c =
    let w = whole-before c.args.extent c.args.tokens.now c.args.place c.read_expression.new.nodes c.in_ok-behind.field-0 c.in-Some.found (c.in_ok-behind.ensures {u = tt}).reading c.in-Some.is in
    omega (arith, w.0, w.1)

pub returns-in-Some-clause-whole : goal.returns-in-Some-clause-whole
returns-in-Some-clause-whole c =
    whole-at c.args.extent c.args.tokens.now c.args.place c.read_expression.new.nodes c.in_ok-behind.field-0 c.in-Some.found c.index-tokens-place.result c.index-tokens-behind.result (c.in_ok-behind.ensures {u = tt}).reading c.in-Some.is
