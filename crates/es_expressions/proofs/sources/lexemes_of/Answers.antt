use Rattle.es_expressions.proofs.SourceLemmas.{none-yet, at-item, lexemes-more, all-lexemes}
use Rattle.es_expressions.proofs.sources.lexemes_of.Goals as goal

pub loop-token-init : goal.loop-token-init
loop-token-init c = none-yet c.args.text.now c.deref-token-items.result.now c.in_ok-lexemes.lexemes.items (c.in_ok-lexemes.ensures {u = tt}).items

pub push_lexeme-requires : goal.push_lexeme-requires
push_lexeme-requires c =
    let s = at-item c.args.text.now c.in_ok-found.found.items c.deref-token-items.result.now c.loop-token.token-index c.token-item.result
    (c.law_of_spans.ensures c.args.text.now c.in_ok-found.found.items (c.in_ok-found.ensures {u = tt}).ok)
    c.deref-token-items.ensures.value c.loop-token-test.true c.token-item.is in
    record { from = s.from; within = s.within; spelled = s.spelled }

pub loop-token-preserved : goal.loop-token-preserved
loop-token-preserved c =
    let more = c.in_ok-push_lexeme.ensures {u = tt} in
    lexemes-more c.args.text.now c.deref-token-items.result.now c.loop-token.token-index c.token-item.result c.loop-token.lexemes.items c.push_lexeme.new.lexemes.items more.0
    c.loop-token.invariant c.loop-token-test.true c.token-item.is more.1 more.2

pub returns-clause-ok : goal.returns-clause-ok
returns-clause-ok c = (
  c.in_ok-found.found.items,
  (c.in_ok-found.ensures {u = tt}).ok,
  all-lexemes c.args.text.now c.in_ok-found.found.items c.deref-token-items.result.now c.loop-token.token-index c.loop-token.lexemes.items
      c.deref-token-items.ensures.value c.loop-token-test.false c.loop-token.invariant,
)
