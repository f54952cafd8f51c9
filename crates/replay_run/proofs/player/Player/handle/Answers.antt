use Rattle.std.proofs.Common.{inr, refl}
use Rattle.std.proofs.lemmas.Result.{MatchResult-weaker}
use Rattle.replay_run.proofs.StoppingLaws.{turns_unread}
use Rattle.replay_run.proofs.player.Player.handle.Goals as goal

pub returns-in-Tick-clause-stopped : goal.returns-in-Tick-clause-stopped
returns-in-Tick-clause-stopped g c =
    rw c.in-Tick.is (MatchResult-weaker c.pass_time.result c.pass_time.ensures.stopped (λ x p. p)
    (λ status stops. stops _))

pub returns-in-Input-clause-stopped : goal.returns-in-Input-clause-stopped
returns-in-Input-clause-stopped g c =
    rw c.in-Input.is (MatchResult-weaker c.play_input.result c.play_input.ensures.stopped (λ x p. p)
    (λ status stops. stops _))

pub returns-in-Tick-clause-reading : goal.returns-in-Tick-clause-reading
returns-in-Tick-clause-reading g c =
    rw c.in-Tick.is (MatchResult-weaker c.pass_time.result c.pass_time.ensures.cause (λ x p. p)
    (λ status stops. turns_unread status _ _ _ _ _ stops))

pub returns-in-Input-clause-reading : goal.returns-in-Input-clause-reading
returns-in-Input-clause-reading g c =
    rw c.in-Input.is (MatchResult-weaker c.play_input.result c.play_input.ensures.cause (λ x p. p)
    (λ status stops. turns_unread status _ _ _ _ _ stops))

pub returns-in-Tick-clause-last_read : goal.returns-in-Tick-clause-last_read
returns-in-Tick-clause-last_read g c = inr refl

pub returns-in-Input-clause-last_read : goal.returns-in-Input-clause-last_read
returns-in-Input-clause-last_read g c = inr refl
