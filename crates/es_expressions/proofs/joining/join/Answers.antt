use Rattle.std.proofs.Common.{refl, sym, subst}
use Rattle.es_expressions.specs.Standings.{Joins, held}
use Rattle.es_expressions.specs.declared.places.Place.TheVariants.{Behind}
use Rattle.es_expressions.specs.declared.places.Step.TheVariants.{Left}
use Rattle.es_expressions.specs.declared.roles.Joint.{Joint}
use Rattle.es_expressions.specs.declared.roles.Joint.TheVariants.{Nothing}
use Rattle.es_expressions.proofs.FormLemmas.{if-one}
use Rattle.es_expressions.proofs.JoinLemmas.{refused}
use Rattle.es_expressions.proofs.joining.join.Goals as goal

pub returns-in-Dot-clause-joins : goal.returns-in-Dot-clause-joins
returns-in-Dot-clause-joins c = if-one c.dot.result c.dot.ensures.joins (λ s j. subst (λ (x : Joint). Joins c.args.base x c.args.token.now c.args.operand (held c.args.nodes.now c.args.frames.now) (held c.dot.new.nodes c.args.frames.now) s) (sym c.in-Dot.is) (j c.args.base c.args.token.now c.args.frames.now))

pub returns-in-Key-clause-joins : goal.returns-in-Key-clause-joins
returns-in-Key-clause-joins c = if-one c.key.result c.key.ensures.joins (λ s j. subst (λ (x : Joint). Joins c.args.base x c.args.token.now c.args.operand (held c.args.nodes.now c.args.frames.now) (held c.key.new.nodes c.key.new.frames) s) (sym c.in-Key.is) (j c.args.base c.args.token.now))

pub returns-in-Call-clause-joins : goal.returns-in-Call-clause-joins
returns-in-Call-clause-joins c = if-one c.call.result c.call.ensures.joins (λ s j. subst (λ (x : Joint). Joins c.args.base x c.args.token.now c.args.operand (held c.args.nodes.now c.args.frames.now) (held c.call.new.nodes c.call.new.frames) s) (sym c.in-Call.is) (j c.args.base c.args.token.now))

pub returns-in-Step-clause-joins : goal.returns-in-Step-clause-joins
returns-in-Step-clause-joins c = if-one c.step.result c.step.ensures.joins (λ s j. subst (λ (x : Joint). Joins c.args.base x c.args.token.now c.args.operand (held c.args.nodes.now c.args.frames.now) (held c.step.new.nodes c.args.frames.now) s) (sym c.in-Step.is) (j c.args.base c.args.frames.now))

pub returns-in-Operator-clause-joins : goal.returns-in-Operator-clause-joins
returns-in-Operator-clause-joins c = if-one c.operator.result c.operator.ensures.joins (λ s j. subst (λ (x : Joint). Joins c.args.base x c.args.token.now c.args.operand (held c.args.nodes.now c.args.frames.now) (held c.operator.new.nodes c.operator.new.frames) s) (sym c.in-Operator.is) (j c.args.base))

pub returns-in-Choice-clause-joins : goal.returns-in-Choice-clause-joins
returns-in-Choice-clause-joins c = if-one c.question.result c.question.ensures.joins (λ s j. subst (λ (x : Joint). Joins c.args.base x c.args.token.now c.args.operand (held c.args.nodes.now c.args.frames.now) (held c.question.new.nodes c.question.new.frames) s) (sym c.in-Choice.is) (j c.args.base c.args.token.now))

pub returns-in-Assignment-clause-joins : goal.returns-in-Assignment-clause-joins
returns-in-Assignment-clause-joins c = if-one c.assign.result c.assign.ensures.joins (λ s j. subst (λ (x : Joint). Joins c.args.base x c.args.token.now c.args.operand (held c.args.nodes.now c.args.frames.now) (held c.assign.new.nodes c.assign.new.frames) s) (sym c.in-Assignment.is) (j c.args.base))

pub returns-in-Close-clause-joins : goal.returns-in-Close-clause-joins
returns-in-Close-clause-joins c = if-one c.close.result c.close.ensures.joins (λ s j. subst (λ (x : Joint). Joins c.args.base x c.args.token.now c.args.operand (held c.args.nodes.now c.args.frames.now) (held c.close.new.nodes c.close.new.frames) s) (sym c.in-Close.is) (j c.args.base))

pub returns-in-KeyEnd-clause-joins : goal.returns-in-KeyEnd-clause-joins
returns-in-KeyEnd-clause-joins c = if-one c.end_key.result c.end_key.ensures.joins (λ s j. subst (λ (x : Joint). Joins c.args.base x c.args.token.now c.args.operand (held c.args.nodes.now c.args.frames.now) (held c.end_key.new.nodes c.end_key.new.frames) s) (sym c.in-KeyEnd.is) (j c.args.base))

pub returns-in-Colon-clause-joins : goal.returns-in-Colon-clause-joins
returns-in-Colon-clause-joins c = if-one c.colon.result c.colon.ensures.joins (λ s j. subst (λ (x : Joint). Joins c.args.base x c.args.token.now c.args.operand (held c.args.nodes.now c.args.frames.now) (held c.colon.new.nodes c.colon.new.frames) s) (sym c.in-Colon.is) (j c.args.base c.args.token.now))

pub returns-in-Nothing-clause-joins : goal.returns-in-Nothing-clause-joins
returns-in-Nothing-clause-joins c = subst (λ (x : Joint). Joins c.args.base x c.args.token.now c.args.operand (held c.args.nodes.now c.args.frames.now) (held c.args.nodes.now c.args.frames.now) (Left (Behind c.args.operand))) (sym c.in-Nothing.is) (refused c.args.base Nothing c.args.token.now c.args.operand c.args.nodes.now c.args.frames.now (λ e fs k a. refl))
