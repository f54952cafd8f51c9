use Rattle.es_reader.specs.Stops.{SimpleBad}
use Rattle.es_reader.proofs.BadLemmas.{handed, if-bad}
use Rattle.es_reader.proofs.LoopBadLemmas.{alone-bad}
use Rattle.std.proofs.Common.{refl, subst, ◌∙◌}
use Rattle.es_reader.specs.Grammar.{Setting}
use Rattle.es_reader.specs.Openings.{place_in}
use Rattle.es_reader.specs.Simples.{IsSimpleAt}
use Rattle.es_reader.proofs.KeepLemmas.{loop-inside, function-inside}
use Rattle.es_reader.proofs.LoopLemmas.{simple-held, setting-is}
use Rattle.es_reader.proofs.reader.Reader.read_alone.Goals as goal

pub attach-requires : goal.attach-requires
attach-requires c =
    let r = c.requires.reads in
    let loop = loop-inside c.args.self.now.forms c.args.self.now.nodes r.openings r.outer r.keeps.forms in
    let inside = function-inside c.args.self.now.function c.args.self.now.nodes r.openings r.outer c.is_some-in_function.result r.keeps.function c.is_some-in_function.ensures in
    let x = (c.in_ok-stated.ensures {u = tt}).simple in
    simple-held c.args.tokens.now c.args.place c.in_loop-in_loop.result c.is_some-in_function.result c.args.self.now _ c.in_ok-stated.stated r
    (x.0, subst (λ (p : Setting). IsSimpleAt p c.args.tokens.now c.args.place c.read_simple.new.nodes x.0 c.args.self.now.names c.read_simple.new.names c.in_ok-stated.stated) (setting-is c.in_loop-in_loop.result c.is_some-in_function.result (place_in r.openings r.outer) (c.in_loop-in_loop.ensures ∙ loop) inside) x.1)
    (c.in_ok-stated.ensures {u = tt}).grows refl refl refl refl refl

pub returns-in_err-stated-clause-bad : goal.returns-in_err-stated-clause-bad
returns-in_err-stated-clause-bad c =
    let r = c.requires.reads in
    let loop = loop-inside c.args.self.now.forms c.args.self.now.nodes r.openings r.outer r.keeps.forms in
    let inside = function-inside c.args.self.now.function c.args.self.now.nodes r.openings r.outer c.is_some-in_function.result r.keeps.function c.is_some-in_function.ensures in
    handed c.from_residual.result c.in_err-stated.field-0.0 _ c.from_residual.ensures.1 (if-bad c.in_err-stated.field-0.0 _ _ (λ bad s. alone-bad c.args.tokens.now c.args.place c.args.self.now r c.requires.alone bad
    (subst (λ (p : Setting). SimpleBad p c.args.tokens.now c.args.place bad) (setting-is c.in_loop-in_loop.result c.is_some-in_function.result (place_in r.openings r.outer) (c.in_loop-in_loop.ensures ∙ loop) inside) s)) (c.in_err-stated.ensures {u = tt}).bad)
