-- A command as its caller holds it, with the names behind references. This project's own.
use Rattle.replay_run.specs.declared.words.Command.{Command as Held}
use Rattle.replay_run.specs.declared.words.Command.TheVariants as held
use Rattle.replay_run.specs.declared.words.Replay.{Replay as HeldReplay}
use Rattle.replay_run.specs.Words.{Command, ReplayWords}
use Rattle.replay_run.specs.Words.Command.{Generate, Replay}

-- a replay with the names themselves
abbrev pub replay_seen : HeldReplay → ReplayWords
replay_seen replay =
    record { selection = replay.selection; stream = replay.stream.now; notes = replay.notes.now }

-- the command with the names themselves
abbrev pub command_seen : Held → Command
command_seen (held.Replay replay) = Replay (replay_seen replay)
command_seen (held.Gen seed count) = Generate seed count
