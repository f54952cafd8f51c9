use Rattle.std.proofs.Common.{◌∙◌}
use Rattle.std.specs.Prelude.{option_map, map}
use Rattle.es_lexer.specs.Literals.{code_meant}
use Rattle.es_lexer.specs.Scanning.{changed}
use Rattle.es_lexer.specs.ScannedLiterals.{characters_at}
use Rattle.es_lexer.proofs.CodeLemmas.{nothing-left}
use Rattle.es_lexer.proofs.LiteralLemmas.{walk-none, walk-end, walk-bad, walk-smaller, walk-step}
use Rattle.es_lexer.proofs.literals.literal.Goals as goal

pub returns-in-None : goal.returns-in-None
returns-in-None c =
    let all = option_map (changed (map code_meant)) (characters_at c.args.quote c.args.codes.now) in
    walk-none c.args.quote c.characters.rest.now c.characters.meant.items all (nothing-left c.characters.rest.now (c.in-None.ensures {u = tt}).cases) c.characters.invariant

pub returns-then-code-quote : goal.returns-then-code-quote
returns-then-code-quote c =
    let all = option_map (changed (map code_meant)) (characters_at c.args.quote c.args.codes.now) in
    walk-end c.args.quote c.in-Some.code.now c.characters.rest.now c.in-Some.behind.now c.characters.meant.items c.in_ok-text-in-Some.text all (c.in-Some.ensures {u = tt}).cases.0 c.if-code-quote.true ((c.in_ok-text-in-Some.ensures {u = tt}) ∙ c.as_slice.ensures.value) c.characters.invariant

pub returns-in-None-character : goal.returns-in-None-character
returns-in-None-character c =
    let all = option_map (changed (map code_meant)) (characters_at c.args.quote c.args.codes.now) in
    walk-bad c.args.quote c.in-Some.code.now c.characters.rest.now c.in-Some.behind.now c.characters.meant.items all (c.in-Some.ensures {u = tt}).cases.0 c.if-code-quote.false (c.in-None-character.ensures {u = tt}) c.characters.invariant

pub characters-smaller : goal.characters-smaller
characters-smaller c = walk-smaller c.args.quote c.in-Some-character.code c.characters.rest.now c.in-Some-character.behind.now (c.in-Some-character.ensures {u = tt})

pub characters-preserved : goal.characters-preserved
characters-preserved c =
    let all = option_map (changed (map code_meant)) (characters_at c.args.quote c.args.codes.now) in
    walk-step c.args.quote c.in-Some.code.now c.in-Some-character.code c.characters.rest.now c.in-Some.behind.now c.in-Some-character.behind.now c.characters.meant.items c.push.new.self.items all (c.in-Some.ensures {u = tt}).cases.0 c.if-code-quote.false (c.in-Some-character.ensures {u = tt}) (c.in_ok-push-in-Some-character.ensures {u = tt}).items c.characters.invariant
