use Rattle.std.proofs.Common.{◌∙◌, sym, subst}
use Rattle.std.proofs.lemmas.Option.{none-some}
use Rattle.replay_run.specs.Completeness.{RunCompletes}
use Rattle.replay_run.specs.Headline.{RunMeansBy}
use Rattle.replay_run.specs.Opening.{LeavesFiles}
use Rattle.replay_run.specs.Outside.{Outside, outside}
use Rattle.replay_run.specs.Reasons.{RunHasItsReason}
use Rattle.replay_run.specs.Status.{outcome_of}
use Rattle.replay_run.proofs.CompletenessLaws.{comes_to_end, generates_to_end, generating_caused}
use Rattle.replay_run.proofs.RunLaws.{generates_usage, outcome_caused, outcome_faulted}
use Rattle.replay_run.proofs.RunLaws.{outcome_obeyed}
use Rattle.replay_run.proofs.run_command.run.Goals as goal

-- ---- a replay

pub returns-in-Some-Replay-clause-headline : goal.returns-in-Some-Replay-clause-headline
returns-in-Some-Replay-clause-headline g c = λ read right.
    let asked = rw c.in-Some-Replay.field-0-is at c.in-Some-Replay.ensures in
    subst (λ o. RunMeansBy read o
    (outside (g.W.World.told c.args.world.now) (g.K.Keeper.told c.args.keeper.now)
    (g.S.Sink.told c.args.out.now))
    (outside (g.W.World.told c.replay.new.world) (g.K.Keeper.told c.replay.new.keeper)
    (g.S.Sink.told c.replay.new.out)) c.status_of.result) asked
    (rw c.status_of.ensures (c.replay.ensures.ends read right))

pub returns-in-Some-Replay-clause-reader : goal.returns-in-Some-Replay-clause-reader
returns-in-Some-Replay-clause-reader g c =
    let told = c.law_of_the_reader.ensures in
    let asked = rw c.in-Some-Replay.field-0-is at c.in-Some-Replay.ensures in (
      told.0,
      told.1,
      subst (λ o. RunMeansBy told.0 o
          (outside (g.W.World.told c.args.world.now) (g.K.Keeper.told c.args.keeper.now)
          (g.S.Sink.told c.args.out.now))
          (outside (g.W.World.told c.replay.new.world) (g.K.Keeper.told c.replay.new.keeper)
          (g.S.Sink.told c.replay.new.out)) c.status_of.result) asked
          (rw c.status_of.ensures (c.replay.ensures.ends told.0 told.1)),
    )

pub returns-in-Some-Replay-clause-reason : goal.returns-in-Some-Replay-clause-reason
returns-in-Some-Replay-clause-reason g c =
    let asked = rw c.in-Some-Replay.field-0-is at c.in-Some-Replay.ensures in
    subst (λ o. RunHasItsReason o
    (outside (g.W.World.told c.args.world.now) (g.K.Keeper.told c.args.keeper.now)
    (g.S.Sink.told c.args.out.now))
    (outside (g.W.World.told c.replay.new.world) (g.K.Keeper.told c.replay.new.keeper)
    (g.S.Sink.told c.replay.new.out)) c.status_of.result) asked
    (rw c.status_of.ensures c.replay.ensures.reason)

pub returns-in-Some-Replay-clause-complete : goal.returns-in-Some-Replay-clause-complete
returns-in-Some-Replay-clause-complete g c =
    let asked = rw c.in-Some-Replay.field-0-is at c.in-Some-Replay.ensures in
    let before : Outside =
    outside (g.W.World.told c.args.world.now) (g.K.Keeper.told c.args.keeper.now)
    (g.S.Sink.told c.args.out.now) in
    let behind : Outside =
    outside (g.W.World.told c.replay.new.world) (g.K.Keeper.told c.replay.new.keeper)
    (g.S.Sink.told c.replay.new.out) in
    subst (λ o. RunCompletes o before behind c.status_of.result) asked
    (rw c.status_of.ensures (λ stream notes kept files told free.
    comes_to_end (outcome_of c.replay.result) stream notes kept before behind
    (c.replay.ensures.reason stream notes kept files told)
    (outcome_caused c.replay.result before behind c.replay.ensures.cause)
    (outcome_obeyed c.replay.result c.replay.ensures.obeyed) free))

pub returns-in-Some-Replay-clause-left : goal.returns-in-Some-Replay-clause-left
returns-in-Some-Replay-clause-left g c =
    let asked = rw c.in-Some-Replay.field-0-is at c.in-Some-Replay.ensures in
    subst (λ o. LeavesFiles o (g.W.World.told c.args.world.now)
    (g.W.World.told c.replay.new.world)) asked
    (λ stream notes files. c.replay.ensures.left stream notes files.0 files.1)

-- ---- generated files

pub returns-in-Some-Gen-clause-headline : goal.returns-in-Some-Gen-clause-headline
returns-in-Some-Gen-clause-headline g c = λ read right.
    let asked = rw c.in-Some-Gen.field-0-is at c.in-Some-Gen.ensures in
    subst (λ o. RunMeansBy read o
    (outside (g.W.World.told c.args.world.now) (g.K.Keeper.told c.args.keeper.now)
    (g.S.Sink.told c.args.out.now))
    (outside (g.W.World.told c.args.world.now) (g.K.Keeper.told c.args.keeper.now)
    (g.S.Sink.told c.generate.new.out)) c.status_of-in-Some-Gen.result) asked
    (rw c.status_of-in-Some-Gen.ensures (c.generate.ensures.ends read right
    (g.W.World.told c.args.world.now) (g.K.Keeper.told c.args.keeper.now)))

pub returns-in-Some-Gen-clause-reader : goal.returns-in-Some-Gen-clause-reader
returns-in-Some-Gen-clause-reader g c =
    let told = c.law_of_the_reader.ensures in
    let asked = rw c.in-Some-Gen.field-0-is at c.in-Some-Gen.ensures in (
      told.0,
      told.1,
      subst (λ o. RunMeansBy told.0 o
          (outside (g.W.World.told c.args.world.now) (g.K.Keeper.told c.args.keeper.now)
          (g.S.Sink.told c.args.out.now))
          (outside (g.W.World.told c.args.world.now) (g.K.Keeper.told c.args.keeper.now)
          (g.S.Sink.told c.generate.new.out)) c.status_of-in-Some-Gen.result) asked
          (rw c.status_of-in-Some-Gen.ensures (c.generate.ensures.ends told.0 told.1
          (g.W.World.told c.args.world.now) (g.K.Keeper.told c.args.keeper.now))),
    )

pub returns-in-Some-Gen-clause-cause : goal.returns-in-Some-Gen-clause-cause
returns-in-Some-Gen-clause-cause g c =
    let told = c.law_of_the_reader.ensures in
    rw c.status_of-in-Some-Gen.ensures
    (generating_caused (outcome_of c.generate.result) told.0 c.in-Some-Gen.seed c.in-Some-Gen.count
    _ _ (c.generate.ensures.ends told.0 told.1 (g.W.World.told c.args.world.now)
    (g.K.Keeper.told c.args.keeper.now)) (outcome_faulted c.generate.result _ c.generate.ensures.cause))

pub returns-in-Some-Gen-clause-complete : goal.returns-in-Some-Gen-clause-complete
returns-in-Some-Gen-clause-complete g c =
    let told = c.law_of_the_reader.ensures in
    let asked = rw c.in-Some-Gen.field-0-is at c.in-Some-Gen.ensures in
    let before : Outside =
    outside (g.W.World.told c.args.world.now) (g.K.Keeper.told c.args.keeper.now)
    (g.S.Sink.told c.args.out.now) in
    let behind : Outside =
    outside (g.W.World.told c.args.world.now) (g.K.Keeper.told c.args.keeper.now)
    (g.S.Sink.told c.generate.new.out) in
    subst (λ o. RunCompletes o before behind c.status_of-in-Some-Gen.result) asked
    (rw c.status_of-in-Some-Gen.ensures (λ free.
    generates_to_end (outcome_of c.generate.result) told.0 c.in-Some-Gen.seed c.in-Some-Gen.count
    before behind (c.generate.ensures.ends told.0 told.1 (g.W.World.told c.args.world.now)
    (g.K.Keeper.told c.args.keeper.now)) (outcome_faulted c.generate.result _ c.generate.ensures.cause)
    free))

pub returns-in-Some-Gen-clause-usage : goal.returns-in-Some-Gen-clause-usage
returns-in-Some-Gen-clause-usage g c =
    let told = c.law_of_the_reader.ensures in
    let asked = rw c.in-Some-Gen.field-0-is at c.in-Some-Gen.ensures in (
      λ e. absurd (generates_usage told.0 c.in-Some-Gen.seed c.in-Some-Gen.count _ _
          (outcome_of c.generate.result)
          (c.generate.ensures.ends told.0 told.1 (g.W.World.told c.args.world.now)
          (g.K.Keeper.told c.args.keeper.now)) (sym c.status_of-in-Some-Gen.ensures ∙ e)),
      λ none. absurd (none-some _ (sym none ∙ sym asked)),
    )

pub returns-in-Some-Gen-clause-unused : goal.returns-in-Some-Gen-clause-unused
returns-in-Some-Gen-clause-unused g c =
    let told = c.law_of_the_reader.ensures in
    λ e. absurd (generates_usage told.0 c.in-Some-Gen.seed c.in-Some-Gen.count _ _
    (outcome_of c.generate.result)
    (c.generate.ensures.ends told.0 told.1 (g.W.World.told c.args.world.now)
    (g.K.Keeper.told c.args.keeper.now)) (sym c.status_of-in-Some-Gen.ensures ∙ e))
