use Rattle.std.proofs.Common.{◌≡◌, ℕ, ◌+◌, ◌-◌, ◌≤◌, ◌++◌, List, length, take, drop, sym, ◌∙◌, ap, subst, arith}
use Rattle.std.proofs.lemmas.List.{length-take-le}
use Rattle.ts_packets.specs.Cutter.{CutterState}
use Rattle.ts_packets.specs.declared.cutter.Cutter.TheInside.{Inside}
use Rattle.ts_packets.proofs.Following.{window-feed}
use Rattle.ts_packets.proofs.Standing.{StandsFor-feed}
use Rattle.ts_packets.proofs.cutter.Cutter.feed.Goals as goal
use Rattle.ts_packets.proofs.cutter.Cutter.feed.Goals.{then-self-count-gt-CAPACITY, else-self-count-gt-CAPACITY}

-- the fields hold these bytes, within the buffer
record Holds (fields : Inside) (held : List ℕ) : Type 0 where
  window : take (fields.end - fields.start) (drop fields.start fields.buffer) ≡ held
  order : fields.start ≤ fields.end
  within : fields.end ≤ length fields.buffer

fed : (fields : Inside) (held new more : List ℕ) (count : ℕ) → Holds fields held → length more ≡ count
    → take (fields.end + length more) new ≡ take fields.end fields.buffer ++ more
    → take (fields.end + count - fields.start) (drop fields.start new) ≡ held ++ more
fed fields held new more count holds len written =
    window-feed fields.buffer new more fields.start fields.end count holds.order holds.within len written
    ∙ ap (λ bytes. bytes ++ more) holds.window

at_front : (count : ℕ) (new buffer : List ℕ) (start : ℕ) → take count new ≡ take count (drop start buffer) → take (count - 0) (drop 0 new) ≡ take count (drop start buffer)
at_front count new buffer start moved = let e : count - 0 ≡ count = omega arith in rw e moved

pub returns-clause-held : goal.returns-clause-held
returns-clause-held c =
    let i = c.self.inside in
    let held : take (i.end - i.start) (drop i.start i.buffer) ≡ c.args.self.now.held = ap (λ (s : CutterState). s.held) c.self.view_is in
    let holds : Holds c.if-self-count-gt-CAPACITY.self-inside c.args.self.now.held =
    elim c.if-self-count-gt-CAPACITY.branch [
      | then-self-count-gt-CAPACITY w ↦
          let from : Holds (record { buffer = w.move_to_front.new.bytes; start = 0; end = i.end - i.start; ended = i.ended }) c.args.self.now.held =
          record { window = at_front (i.end - i.start) _ i.buffer i.start w.move_to_front.ensures.moved ∙ held; order = omega arith; within = omega (arith, w.move_to_front.ensures.len) } in
          subst (λ fields. Holds fields c.args.self.now.held) (sym w.self-inside-is) from
      | else-self-count-gt-CAPACITY w ↦
          let from : Holds i c.args.self.now.held = record { window = held; order = c.self.invariant.0; within = omega arith } in
          subst (λ fields. Holds fields c.args.self.now.held) (sym w.self-inside-is) from
    ] in
    fed _ _ _ (take c.min-count.result c.args.bytes.now) c.min-count.result holds (length-take-le c.min-count.result c.args.bytes.now (omega arith)) c.put.ensures.written

pub returns-clause-stands : goal.returns-clause-stands
returns-clause-stands c = λ stream given stands.
    StandsFor-feed c.args.self.now _ stream (take c.min-count.result c.args.bytes.now) given c.requires.open_end (returns-clause-held c) stands
