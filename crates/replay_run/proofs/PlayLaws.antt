-- Laws of what items hand over.
use Rattle.std.proofs.Common.{◌≡◌, ℕ, ◌+◌, ◌-◌, ◌≤◌, List, [], ◌∷◌, ◌++◌, map, length, take, drop}
use Rattle.std.proofs.Common.{refl, sym, ap, ◌∙◌, append_assoc, append-nil, take_all}
use Rattle.std.proofs.Common.{take-append-drop, drop_of_length-le, length-drop, eq-eqb, eqb-true, true≢false}
use Rattle.std.proofs.Common.{arith, ◌≢◌, Bool, true, false, not, nat_eq, Option, Some, None, option_map}
use Rattle.std.proofs.Common.{cond}
use Rattle.std.proofs.Math.Seq.{take-add}
use Rattle.std.specs.Option.{option_eq}
use Rattle.std.proofs.lemmas.List.{map-append}
use Rattle.std.proofs.lemmas.List.Sums.{sum_by-append}
use Rattle.receiver_core.specs.Fronts.{IsFront}
use Rattle.receiver_core.specs.Outputs.{Input}
use Rattle.receiver_core.specs.Outputs.Input.{Packet, Tick}
use Rattle.replay_run.specs.declared.record.RecordItem.{RecordItem}
use Rattle.replay_run.specs.Midway.{TakesMore, item_of_count}
use Rattle.replay_run.specs.Play.{inputs_of_item, packets_behind, inputs_of, packets_left}
use Rattle.replay_run.specs.Play.{is_packet, packet_count}

-- further items hand over what they do with the packets left
pub inputs_of-append : (packets : List (List ℕ)) (items more : List RecordItem)
    → inputs_of packets (items ++ more) ≡ inputs_of packets items ++ inputs_of
    (packets_left packets items) more
unfolding inputs_of packets_left
inputs_of-append packets [] more = refl
inputs_of-append packets (item ∷ items) more =
    ap (λ l. inputs_of_item item packets ++ l)
    (inputs_of-append (packets_behind item packets) items more)
    ∙ sym (append_assoc (inputs_of_item item packets)
    (inputs_of (packets_behind item packets) items)
    (inputs_of (packets_left (packets_behind item packets) items) more))

pub front_of_inputs : (packets : List (List ℕ)) (items more : List RecordItem)
    → IsFront (inputs_of packets items) (inputs_of packets (items ++ more))
front_of_inputs packets items more =
    record {
      rest = inputs_of (packets_left packets items) more;
      joined = inputs_of-append packets items more;
    }

-- one item more
pub inputs_of-push : (packets : List (List ℕ)) (items : List RecordItem) (item : RecordItem)
    → inputs_of packets (items ++ item ∷ []) ≡ inputs_of packets items ++ inputs_of_item item
    (packets_left packets items)
unfolding inputs_of
inputs_of-push packets items item =
    inputs_of-append packets items (item ∷ []) ∙ ap (λ l. inputs_of packets items ++ l)
    (append-nil (inputs_of_item item (packets_left packets items)))

pub packets_left-push : (packets : List (List ℕ)) (items : List RecordItem) (item : RecordItem)
    → packets_left packets (items ++ item ∷ []) ≡ packets_behind item (packets_left packets items)
unfolding packets_left
packets_left-push packets [] item = refl
packets_left-push packets (first ∷ items) item =
    packets_left-push (packets_behind first packets) items item

pub no_items : (packets : List (List ℕ)) → (inputs_of packets [] ≡ [])
    × (packets_left packets [] ≡ packets)
unfolding inputs_of packets_left
no_items packets = (refl, refl)

-- ---- packets among inputs

packet_count-append : (inputs more : List Input) → packet_count (inputs ++ more)
    ≡ packet_count inputs + packet_count more
packet_count-append inputs more = sum_by-append (λ input. cond (is_packet input) 1 0) inputs more

pub packet_count-packet : (inputs : List Input) (packet : List ℕ)
    → packet_count (inputs ++ Packet packet ∷ []) ≡ packet_count inputs + 1
packet_count-packet inputs packet = packet_count-append inputs (Packet packet ∷ [])

pub packet_count-other : (inputs : List Input) (input : Input) → is_packet input ≡ false
    → packet_count (inputs ++ input ∷ []) ≡ packet_count inputs
packet_count-other inputs input other =
    let none : packet_count (input ∷ []) ≡ 0 = rw other in
    packet_count-append inputs (input ∷ []) ∙ omega arith

-- ticks are none
pub same_count : (inputs : List Input) (first second : ℕ)
    → packet_count (inputs ++ Tick second ∷ []) ≡ packet_count (inputs ++ Tick first ∷ [])
same_count inputs first second =
    packet_count-other inputs (Tick second) refl ∙ sym (packet_count-other inputs (Tick first) refl)

-- ---- packets that are taken one by one

-- behind so many packets
abbrev pub with_packets : List Input → ℕ → List (List ℕ) → List Input
with_packets inputs count ahead = inputs ++ map Packet (take count ahead)

pub with_none : (inputs : List Input) (ahead : List (List ℕ)) → with_packets inputs 0 ahead ≡ inputs
with_none inputs ahead = append-nil inputs

-- some, and then more
pub with_more : (inputs : List Input) (some more : ℕ) (ahead : List (List ℕ))
    → with_packets (with_packets inputs some ahead) more (drop some ahead)
    ≡ with_packets inputs (some + more) ahead
with_more inputs some more ahead =
    append_assoc inputs (map Packet (take some ahead)) (map Packet (take more (drop some ahead)))
    ∙ ap (λ l. inputs ++ l)
    (sym (map-append Packet (take some ahead) (take more (drop some ahead))))
    ∙ ap (λ l. inputs ++ map Packet l) (sym (take-add some more ahead))

-- an item takes that many, or more
pub record Allows (most : Option ℕ) (count : ℕ) : Type 0 where
  pub bound : (n : ℕ) → most ≡ Some n → count ≤ n

-- so many of those that it takes
pub front_of_taken : (inputs : List Input) (most : Option ℕ) (count : ℕ) (ahead : List (List ℕ))
    → Allows most count
    → IsFront (with_packets inputs count ahead)
    (inputs ++ inputs_of_item (item_of_count most) ahead)
front_of_taken inputs None count ahead allows = record {
  rest = map Packet (drop count ahead);
  joined = ap (λ l. inputs ++ map Packet l) (sym (take-append-drop count ahead))
      ∙ ap (λ l. inputs ++ l) (map-append Packet (take count ahead) (drop count ahead))
      ∙ sym (append_assoc inputs (map Packet (take count ahead)) (map Packet (drop count ahead)));
}
front_of_taken inputs (Some n) count ahead allows =
    let split : count + (n - count) ≡ n = let most : count ≤ n = allows.bound n refl in
    omega arith in
    record {
      rest = map Packet (take (n - count) (drop count ahead));
      joined = sym (with_more inputs count (n - count) ahead
          ∙ ap (λ k. with_packets inputs k ahead) split);
    }

-- a test that tells two optional numbers apart
pub told_apart : (test : Bool) (last : Option ℕ) (now : ℕ) → test
    ≡ not (option_eq nat_eq last (Some now)) → test ≡ true → last ≢ Some now
told_apart test last now means e same =
    let equal : option_eq nat_eq last (Some now) ≡ true =
    ap (λ o. option_eq nat_eq o (Some now)) same ∙ eq-eqb now now refl in
    true≢false (sym e ∙ means ∙ ap not equal)

same_number : (last : Option ℕ) (now : ℕ) → option_eq nat_eq last (Some now) ≡ true
    → last ≡ Some now
same_number None now e = let clash : false ≡ true = e in cc
same_number (Some n) now e = ap Some (eqb-true n now e)

-- and one that doesn't
pub told_alike : (test : Bool) (last : Option ℕ) (now : ℕ) → test
    ≡ not (option_eq nat_eq last (Some now)) → test ≡ false → last ≡ Some now
told_alike test last now means e =
    same_number last now (not_false (option_eq nat_eq last (Some now)) (sym means ∙ e))
  where
    not_false : (b : Bool) → not b ≡ false → b ≡ true
    not_false true e = refl
    not_false false e = sym e

-- they are as many as it takes
pub took_enough : (most last : Option ℕ) (start now count : ℕ) → last
    ≡ option_map (λ n. start + n) most → now ≡ start + count → last ≡ Some now → most ≡ Some count
took_enough None last start now count are moved e = let clash : None ≡ Some now = sym are ∙ e in cc
took_enough (Some n) last start now count are moved e =
    let same : start + n ≡ now = cc in
    let all : n ≡ count = omega arith in
    ap Some all

-- or fewer
pub took_less : (most last : Option ℕ) (start now count : ℕ) → last
    ≡ option_map (λ n. start + n) most → now ≡ start + count → last ≢ Some now → Allows most count
    → Allows most (count + 1)
took_less most last start now count are moved other allows = record {
  bound = λ n e.
      let within : count ≤ n = allows.bound n e in
      let differ : count ≢ n =
      λ same. other (are ∙ ap (option_map (λ k. start + k)) e ∙ ap (λ k. Some (start + k))
      (sym same) ∙ ap Some (sym moved)) in
      omega arith;
}

-- or all that there are
pub took_all : (inputs : List Input) (most : Option ℕ) (count : ℕ) (ahead : List (List ℕ))
    → Allows most count → drop count ahead ≡ []
    → (with_packets inputs count ahead ≡ inputs ++ inputs_of_item (item_of_count most) ahead)
    × (drop count ahead ≡ packets_behind (item_of_count most) ahead)
took_all inputs None count ahead allows none =
    let few : length ahead ≤ count = omega (arith, length-drop count ahead, ap length none) in
    (ap (λ l. inputs ++ map Packet l) (take_all count ahead few), none)
took_all inputs (Some n) count ahead allows none =
    let few : length ahead ≤ count = omega (arith, length-drop count ahead, ap length none) in
    let most : count ≤ n = allows.bound n refl in
    let more : length ahead ≤ n = omega arith in (
      ap (λ l. inputs ++ map Packet l) (take_all count ahead few ∙ sym (take_all n ahead more)),
      none ∙ sym (drop_of_length-le ahead more),
    )

-- it would take one more
pub allows_more : (most : Option ℕ) (count : ℕ) → Allows most (count + 1)
    → TakesMore (item_of_count most) count
allows_more None count allows = tt
allows_more (Some n) count allows = omega (arith, allows.bound n refl)
