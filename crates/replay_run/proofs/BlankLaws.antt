-- How bytes may go on of which no packet, or no line, is whole.
use Rattle.std.proofs.Common.{◌≡◌, ◌≢◌, ℕ, zero, suc, ◌+◌, ◌-◌, ◌<◌, ◌≤◌, false, List, [], ◌∷◌, ◌++◌}
use Rattle.std.proofs.Common.{All, length, drop, get_or, refl, sym, ap, ◌∙◌, ◌==◌, ◌⊎◌, inl, inr}
use Rattle.std.proofs.Common.{true, arith, append-nil, length-append, slice_get, Some, ne_eqb}
use Rattle.std.proofs.lemmas.Bool.{cases_lt}
use Rattle.std.proofs.lemmas.List.{get_or_append_left, get_or_at, get_or-drop}
use Rattle.std.proofs.lemmas.List.Elements.{All-append, All-weaker}
use Rattle.ts_packets.specs.Cutter.{CutterState, DropsFront, IsWaiting}
use Rattle.ts_packets.specs.Packets.{ArePackets, StandsAt, packets_of}
use Rattle.replay_run.specs.declared.record.Line.TheVariants.{Bad}
use Rattle.replay_run.specs.Record.{lines_of}
use Rattle.replay_run.specs.RecordReader.{IsUnfinished, ReaderState}
use Rattle.replay_run.proofs.LineLaws.{lines_of_long}

-- what is known of packets
pub record PacketLaws : Type 0 where
  pub computed : (bytes : List ℕ) → ArePackets bytes (packets_of bytes)
  pub unique : (bytes : List ℕ) (packets : List (List ℕ)) → ArePackets bytes packets
      → packets ≡ packets_of bytes

-- so many bytes that are 0
abbrev pub zeros : ℕ → List ℕ
zeros zero = []
zeros (suc count) = 0 ∷ zeros count

length-zeros : (count : ℕ) → length (zeros count) ≡ count
length-zeros zero = refl
length-zeros (suc count) = omega (arith, length-zeros count)

zero_at : (count place : ℕ) → get_or (zeros count) place 0 ≡ 0
zero_at zero place = refl
zero_at (suc count) zero = refl
zero_at (suc count) (suc place) = zero_at count place

zero_behind : (held : List ℕ) (count place : ℕ) → length held ≤ place
    → get_or (held ++ zeros count) place 0 ≡ 0
zero_behind [] count place behind = zero_at count place
zero_behind (x ∷ held) count zero behind = absurd (omega (arith, behind))
zero_behind (x ∷ held) count (suc place) behind =
    zero_behind held count place (omega (arith, behind))

-- a sync byte isn't among them
sync_before : (held : List ℕ) (count place : ℕ) → get_or (held ++ zeros count) place 0 ≡ 71
    → place < length held
sync_before held count place sync = by_place held count place sync (cases_lt place (length held))
  where
    by_place : (held : List ℕ) (count place : ℕ) → get_or (held ++ zeros count) place 0 ≡ 71
        → (place < length held) ⊎ (length held ≤ place) → place < length held
    by_place held count place sync (inl before) = before
    by_place held count place sync (inr behind) =
        absurd (omega (arith, sync, zero_behind held count place behind))

-- where a cutter waits for more, no packet stands if they come
blank_place : (state : CutterState) → IsWaiting state → (place : ℕ)
    → StandsAt (state.held ++ zeros 188) place → ⊥
blank_place state waiting place stands =
    let more = zeros 188 in
    let first : place < length state.held = sync_before state.held 188 place stands.sync in
    let sync : get_or state.held place 0 ≡ 71 =
    sym (get_or_append_left state.held more 0 place first) ∙ stands.sync in
    by state place waiting first sync stands.behind
  where
    by : (state : CutterState) (place : ℕ) → IsWaiting state → place < length state.held
        → get_or state.held place 0 ≡ 71
        → (get_or (state.held ++ zeros 188) (place + 188) 0 ≡ 71)
        ⊎ (length (state.held ++ zeros 188) ≡ place + 188)
        → ⊥
    by state place waiting first sync (inl again) =
        let second : place + 188 < length state.held =
        sync_before state.held 188 (place + 188) again in
        waiting.none place (record {
          sync = sync;
          behind = inl (sym (get_or_append_left state.held (zeros 188) 0 (place + 188) second)
              ∙ again);
        })
    by state place waiting first sync (inr over) =
        omega (arith, over, first, length-append state.held (zeros 188), length-zeros 188)

pub blank_packets : PacketLaws → (state : CutterState) → IsWaiting state
    → packets_of (state.held ++ zeros 188) ≡ []
blank_packets laws state waiting =
    sym (laws.unique (state.held ++ zeros 188) []
    (λ place stands. blank_place state waiting place stands))

-- and one does if a packet comes
some_packet : (bytes : List ℕ) (packets : List (List ℕ)) (place : ℕ) → ArePackets bytes packets
    → StandsAt bytes place
    → (packet : List ℕ) × (others : List (List ℕ)) × (packets ≡ packet ∷ others)
some_packet bytes [] place are stands = absurd (are place stands)
some_packet bytes (packet ∷ others) place are stands = (packet, others, refl)

pub packet_comes : PacketLaws → (held : List ℕ)
    → (packet : List ℕ) × (others : List (List ℕ))
    × (packets_of (held ++ 71 ∷ zeros 187) ≡ packet ∷ others)
packet_comes laws held =
    let bytes = held ++ 71 ∷ zeros 187 in
    let stands : StandsAt bytes (length held) = record {
      sync = get_or_at held 71 (zeros 187) 0 (length held) refl;
      behind = inr (omega (arith, length-append held (71 ∷ zeros 187), length-zeros 187));
    } in
    some_packet bytes (packets_of bytes) (length held) (laws.computed bytes) stands

-- bytes left out in front of what is held tell no packet
pub waiting_behind : (old new : CutterState) → DropsFront old new → IsWaiting old → IsWaiting new
waiting_behind old new drops waiting = record {
  open_end = drops.ended ∙ waiting.open_end;
  none = λ place certain.
      let n = length old.held - length new.held in
      let sync : get_or old.held (n + place) 0 ≡ 71 =
      sym (ap (λ l. get_or l place 0) drops.held ∙ get_or-drop n old.held place 0) ∙ certain.sync in
      waiting.none (n + place) (record {
        sync = sync;
        behind = again old new n place drops.held drops.ended waiting.open_end certain.behind;
      });
}
  where
    again : (old new : CutterState) (n place : ℕ) → new.held ≡ drop n old.held
        → new.ended ≡ old.ended → old.ended ≡ false
        → (get_or new.held (place + 188) 0 ≡ 71)
        ⊎ ((new.ended ≡ true) × (length new.held ≡ place + 188))
        → (get_or old.held (n + place + 188) 0 ≡ 71)
        ⊎ ((old.ended ≡ true) × (length old.held ≡ n + place + 188))
    again old new n place held ended open_end (inl sync) =
        let at : n + place + 188 ≡ n + (place + 188) = omega arith in
        inl (ap (λ k. get_or old.held k 0) at
        ∙ sym (ap (λ l. get_or l (place + 188) 0) held ∙ get_or-drop n old.held (place + 188) 0)
        ∙ sync)
    again old new n place held ended open_end (inr over) =
        let clash : true ≡ false = sym over.0 ∙ ended ∙ open_end in cc

-- ---- lines

not_line_feed : (count : ℕ) → All (λ byte. (byte == 10) ≡ false) (zeros count)
not_line_feed zero k d l = absurd (omega (arith, l))
not_line_feed (suc count) zero d l = refl
not_line_feed (suc count) (suc k) d l = not_line_feed count k d (omega (arith, l))

-- a line whose end isn't there is bad if they come
pub blank_line : (reader : ReaderState) → IsUnfinished reader
    → slice_get (lines_of (reader.held ++ zeros 130)) 0 ≡ Some Bad
blank_line reader unfinished =
    let line = reader.held ++ zeros 130 in
    let clear : All (λ byte. (byte == 10) ≡ false) line =
    All-append (λ byte. (byte == 10) ≡ false) reader.held (zeros 130)
    (All-weaker (λ byte. byte ≢ 10) (λ byte. (byte == 10) ≡ false)
    (λ byte n. ne_eqb byte 10 n) reader.held unfinished.no_line_feed) (not_line_feed 130) in
    ap (λ l. slice_get (lines_of l) 0) (sym (append-nil line))
    ∙ lines_of_long line [] clear
    (omega (arith, length-append reader.held (zeros 130), length-zeros 130))
