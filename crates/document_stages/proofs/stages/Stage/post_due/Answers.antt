use Rattle.std.proofs.Common.{◌∙◌, ap, arith, rules}
use Rattle.document_stages.specs.Acting.{with_due_events}
use Rattle.document_stages.specs.Stages.{StageState}
use Rattle.document_stages.proofs.TimerLemmas.{have-fired-all, have-fired-more, have-fired-most}
use Rattle.document_stages.proofs.stages.Stage.post_due.Goals as goal

pub returns-then-not-branch-clause-posted : goal.returns-then-not-branch-clause-posted
returns-then-not-branch-clause-posted c =
    have-fired-all c.firings._firing c.args.moment c.in_ok-fire_timer.field-0 _ c.firings.self.acting _ c.firings.invariant.fired (search rules) c.in_ok-fire_timer.ensures.there (search rules)
    ∙ ap (λ (s : StageState). with_due_events c.args.moment (record s.acting { now = c.args.moment })) c.self.view_is

pub firings-preserved : goal.firings-preserved
firings-preserved c = record {
  fired =
      have-fired-more c.firings._firing c.args.moment c.in_ok-fire_timer.field-0 _ c.firings.self.acting _ (omega arith) c.firings.invariant.fired (search rules) c.in_ok-fire_timer.ensures.there (search rules);
  worked = c.fire_timer.ensures.worked ∙ c.firings.invariant.worked;
}

pub returns-clause-posted : goal.returns-clause-posted
returns-clause-posted c =
    have-fired-most c.firings._firing c.args.moment _ c.firings.self.acting (omega arith) c.firings.invariant.fired
    ∙ ap (λ (s : StageState). with_due_events c.args.moment (record s.acting { now = c.args.moment })) c.self.view_is
