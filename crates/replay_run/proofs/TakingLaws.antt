-- How the packets of a stream in memory are taken one by one.
use Rattle.std.proofs.Common.{◌≡◌, ℕ, ◌+◌, List, [], ◌∷◌, ◌++◌, map, length, sym, ap, ◌∙◌, subst}
use Rattle.std.proofs.Common.{append_assoc, append-nil, arith, length-append}
use Rattle.std.proofs.lemmas.List.{map-append}
use Rattle.receiver_core.specs.Outputs.Input.{Packet}
use Rattle.receiver_core.specs.Receiving.{ReceiverState}
use Rattle.ts_packets.specs.Cutter.{CutterState}
use Rattle.ts_packets.specs.Packets.{packets_of}
use Rattle.replay_run.specs.devices.Printing.{Prints}
use Rattle.replay_run.proofs.PrintingLaws.{prints_more, prints_nothing}

-- so many packets were taken: they are the first of the stream, and the others are those of what the
-- cutter holds and of the bytes that are left
pub record HasTaken (stream : List ℕ) (packets : ℕ) (cutter : CutterState) (left : List ℕ)
    (old new : ReceiverState) (before after : List ℕ) : Type 0 where
  pub taken : List (List ℕ)
  pub count : packets ≡ length taken
  pub whole : packets_of stream ≡ taken ++ packets_of (cutter.held ++ left)
  pub prints : Prints (map Packet taken) old new before after

pub takes_none : (stream : List ℕ) (packets : ℕ) (cutter : CutterState) (state : ReceiverState)
    (text : List ℕ) → packets ≡ 0 → cutter.held ≡ []
    → HasTaken stream packets cutter stream state state text text
takes_none stream packets cutter state text none empty = record {
  taken = [];
  count = none;
  whole = ap (λ l. packets_of (l ++ stream)) (sym empty);
  prints = prints_nothing state text;
}

-- the cutter and the bytes that are left changed, and hold the same packets
pub takes_same : (stream : List ℕ) (packets : ℕ) (cutter now : CutterState) (left rest : List ℕ)
    (old new : ReceiverState) (before after : List ℕ)
    → packets_of (cutter.held ++ left) ≡ packets_of (now.held ++ rest)
    → HasTaken stream packets cutter left old new before after
    → HasTaken stream packets now rest old new before after
takes_same stream packets cutter now left rest old new before after same t = record {
  taken = t.taken;
  count = t.count;
  whole = t.whole ∙ ap (λ l. t.taken ++ l) same;
  prints = t.prints;
}

-- one more was taken
pub takes_more : (stream : List ℕ) (packets : ℕ) (cutter now : CutterState) (left : List ℕ)
    (packet : List ℕ) (old mid new : ReceiverState) (before between after : List ℕ)
    → packets_of (cutter.held ++ left) ≡ (packet ∷ []) ++ packets_of (now.held ++ left)
    → Prints (Packet packet ∷ []) mid new between after
    → HasTaken stream packets cutter left old mid before between
    → HasTaken stream (packets + 1) now left old new before after
takes_more stream packets cutter now left packet old mid new before between after cut more t = record {
  taken = t.taken ++ packet ∷ [];
  count = omega (arith, t.count, length-append t.taken (packet ∷ []));
  whole = t.whole ∙ ap (λ l. t.taken ++ l) cut
      ∙ sym (append_assoc t.taken (packet ∷ []) (packets_of (now.held ++ left)));
  prints = subst (λ l. Prints l old new before after) (sym (map-append Packet t.taken (packet ∷ [])))
      (prints_more (map Packet t.taken) (Packet packet ∷ []) old mid new before between after
      t.prints more);
}

-- all were taken
pub takes_all : (stream : List ℕ) (packets : ℕ) (cutter : CutterState) (left : List ℕ)
    (old new : ReceiverState) (before after : List ℕ)
    → packets_of (cutter.held ++ left) ≡ []
    → HasTaken stream packets cutter left old new before after
    → (packets ≡ length (packets_of stream))
    × Prints (map Packet (packets_of stream)) old new before after
takes_all stream packets cutter left old new before after none t =
    let all : t.taken ≡ packets_of stream =
    sym (t.whole ∙ ap (λ l. t.taken ++ l) none ∙ append-nil t.taken) in (
      t.count ∙ ap length all,
      subst (λ l. Prints (map Packet l) old new before after) all t.prints,
    )
