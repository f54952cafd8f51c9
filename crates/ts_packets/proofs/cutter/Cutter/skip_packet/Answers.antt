use Rattle.std.proofs.Common.{[], ◌∷◌, ◌+◌, ◌-◌, take, drop, ap}
use Rattle.ts_packets.proofs.Following.{window-skip, window-shorter, window-gives}
use Rattle.ts_packets.proofs.Standing.{StandsFor-gives}
use Rattle.ts_packets.specs.Cutter.{CutterState}
use Rattle.ts_packets.proofs.cutter.Cutter.skip_packet.Goals as goal

pub returns-clause-held : goal.returns-clause-held
returns-clause-held c = let i = c.self.inside in window-skip _ i.buffer i.start i.end i.ended c.self.view_is c.requires.front

pub returns-clause-gives : goal.returns-clause-gives
returns-clause-gives c =
    let i = c.self.inside in
    window-gives _ i.buffer i.start i.end i.ended c.self.view_is c.requires.front

pub returns-clause-shorter : goal.returns-clause-shorter
returns-clause-shorter c = let i = c.self.inside in window-shorter _ i.buffer i.start i.end i.ended c.self.view_is c.requires.front

pub returns-clause-stands : goal.returns-clause-stands
returns-clause-stands c =
    let i = c.self.inside in
    λ stream given stands.
    StandsFor-gives c.args.self.now (record { held = take (i.end - (i.start + 188)) (drop (i.start + 188) i.buffer); ended = i.ended })
    stream given (take 188 c.args.self.now.held ∷ []) (ap (λ (s : CutterState). s.ended) c.self.view_is) (returns-clause-gives c) stands
