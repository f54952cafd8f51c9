-- Laws of the packets that items take, and of those that they would take besides.
use Rattle.std.proofs.Common.{◌≡◌, ◌≢◌, ℕ, suc, ◌+◌, ◌-◌, ◌<◌, ◌≤◌, List, [], ◌∷◌, ◌++◌, map, length}
use Rattle.std.proofs.Common.{take, drop, refl, sym, ap, ap₂, ◌∙◌, subst, append_assoc, append-nil}
use Rattle.std.proofs.Common.{take_all, drop_of_length-le, length-drop}
use Rattle.std.proofs.Common.{length-append, arith, ◌⊎◌, inl, inr}
use Rattle.std.proofs.Math.Seq.{take-append-add}
use Rattle.std.proofs.lemmas.Bool.{cases_lt}
use Rattle.std.proofs.lemmas.List.{drop-append-le, map-append, take-append-le}
use Rattle.receiver_core.specs.Fronts.{IsFront}
use Rattle.receiver_core.specs.Outputs.{Input, input_of}
use Rattle.receiver_core.specs.Outputs.Input.{Packet, Tick as Passing}
use Rattle.receiver_core.specs.declared.broadcast.Input.TheVariants as handed
use Rattle.replay_run.specs.declared.record.RecordItem.{RecordItem}
use Rattle.replay_run.specs.declared.record.RecordItem.TheVariants.{All, Packets, Tick}
use Rattle.replay_run.specs.declared.record.RecordItem.TheVariants.{Input as Other}
use Rattle.replay_run.specs.Midway.{TakeJust, TakesJust, TakesMore}
use Rattle.replay_run.specs.Play.{inputs_of, inputs_of_item, packets_behind, packets_left}
use Rattle.replay_run.proofs.PlayLaws.{inputs_of-append, inputs_of-push, packets_left-push}

no_length : {A : Type 0} (xs : List A) → length xs ≡ 0 → xs ≡ []
no_length [] e = refl
no_length (x ∷ xs) e = absurd (omega (arith, e))

-- ---- items that took all that they ask for

further_by : (item : RecordItem) (first rest new : ℕ) → TakesJust item (first + rest) new
    → (more : ℕ) × (new ≡ first + more) × TakesJust item rest more
further_by All first rest new t = absurd t
further_by (Packets count) first rest new t = (rest + count, omega (arith, t), refl)
further_by (Tick count) first rest new t = (rest, t, refl)
further_by (Other input) first rest new t = (rest, t, refl)

first_item : (item : RecordItem) (old new : ℕ) → old ≡ 0 → TakesJust item old new
    → TakeJust (item ∷ []) new
first_item All old new none t = absurd t
first_item (Packets count) old new none t = (0, omega (arith, t, none), refl)
first_item (Tick count) old new none t = t ∙ none
first_item (Other input) old new none t = t ∙ none

-- and one item more
pub just_push : (items : List RecordItem) (item : RecordItem) (old new : ℕ) → TakeJust items old
    → TakesJust item old new → TakeJust (items ++ item ∷ []) new
just_push [] item old new all t = first_item item old new all t
just_push (All ∷ items) item old new all t = absurd all
just_push (Packets count ∷ items) item old new all t =
    let here : TakesJust item (count + all.0) new =
    subst (λ n. TakesJust item n new) all.1 t in
    let further = further_by item count all.0 new here in
    (further.0, further.1, just_push items item all.0 further.0 all.2 further.2)
just_push (Tick count ∷ items) item old new all t = just_push items item old new all t
just_push (Other input ∷ items) item old new all t = just_push items item old new all t

-- packets behind those that they take change nothing, and are left
pub just_taken : (items : List RecordItem) (packets more : List (List ℕ))
    → TakeJust items (length packets)
    → (inputs_of (packets ++ more) items ≡ inputs_of packets items)
    × (packets_left (packets ++ more) items ≡ more)
unfolding inputs_of packets_left
just_taken [] packets more all = (refl, ap (λ l. l ++ more) (no_length packets all))
just_taken (All ∷ items) packets more all = absurd all
just_taken (Packets count ∷ items) packets more all =
    let fits : count ≤ length packets = omega (arith, all.1) in
    let front = take-append-le count packets more fits in
    let behind = drop-append-le count packets more fits in
    let size : all.0 ≡ length (drop count packets) =
    omega (arith, all.1, length-drop count packets) in
    let others = just_taken items (drop count packets) more (subst (TakeJust items) size all.2) in (
      ap₂ (λ l m. map Packet l ++ m) front (ap (λ l. inputs_of l items) behind ∙ others.0),
      ap (λ l. packets_left l items) behind ∙ others.1,
    )
just_taken (Tick count ∷ items) packets more all =
    let others = just_taken items packets more all in
    (ap (λ l. Passing count ∷ l) others.0, others.1)
just_taken (Other input ∷ items) packets more all =
    let others = just_taken items packets more all in
    (ap (λ l. input_of input ∷ l) others.0, others.1)

-- ---- items that leave what is behind some packets took these

none_left : (items : List RecordItem) → packets_left [] items ≡ []
unfolding packets_left
none_left [] = refl
none_left (All ∷ items) = none_left items
none_left (Packets count ∷ items) =
    let none : drop count [] ≡ [] = drop_of_length-le [] (omega arith) in
    ap (λ l. packets_left l items) none ∙ none_left items
none_left (Tick count ∷ items) = none_left items
none_left (Other input ∷ items) = none_left items

took_some : (items : List RecordItem) (packets more : List (List ℕ)) (count : ℕ)
    → length (packets_left (drop count (packets ++ more)) items) ≤ length more
    → (length packets < count) ⊎ (count ≤ length packets)
    → (length (packets_left (drop count packets ++ more) items) ≤ length more
    → packets_left (drop count packets) items ≡ [])
    → packets_left (drop count packets) items ≡ []
took_some items packets more count few (inl long) others =
    let none : drop count packets ≡ [] = drop_of_length-le packets (omega (arith, long)) in
    ap (λ l. packets_left l items) none ∙ none_left items
took_some items packets more count few (inr fits) others =
    others (subst (λ l. length (packets_left l items) ≤ length more)
    (drop-append-le count packets more fits) few)

took_within : (items : List RecordItem) (packets more : List (List ℕ))
    → length (packets_left (packets ++ more) items) ≤ length more
    → packets_left packets items ≡ []
unfolding packets_left
took_within [] packets more few =
    no_length packets (omega (arith, few, length-append packets more))
took_within (All ∷ items) packets more few = none_left items
took_within (Packets count ∷ items) packets more few =
    took_some items packets more count few (cases_lt (length packets) count)
    (took_within items (drop count packets) more)
took_within (Tick count ∷ items) packets more few = took_within items packets more few
took_within (Other input ∷ items) packets more few = took_within items packets more few

pub took_first : (items : List RecordItem) (packets more : List (List ℕ))
    → packets_left (packets ++ more) items ≡ more → packets_left packets items ≡ []
took_first items packets more same =
    took_within items packets more (omega (arith, ap length same))

-- ---- an item that takes one packet more

pub takes_next : (item : RecordItem) (packets : List (List ℕ)) (next : List ℕ)
    → TakesMore item (length packets) → packets_behind item (packets ++ next ∷ []) ≡ []
takes_next All packets next more = refl
takes_next (Packets count) packets next more =
    drop_of_length-le (packets ++ next ∷ []) (omega (arith, more, length-append packets (next ∷ [])))
takes_next (Tick count) packets next more = absurd more
takes_next (Other input) packets next more = absurd more

-- where there is none, it takes those that there are
takes_these : (item : RecordItem) (packets : List (List ℕ)) → TakesMore item (length packets)
    → (inputs_of_item item (packets ++ []) ≡ map Packet packets)
    × (packets_behind item (packets ++ []) ≡ [])
takes_these All packets more = (ap (map Packet) (append-nil packets), refl)
takes_these (Packets count) packets more = (
  ap (λ l. map Packet (take count l)) (append-nil packets)
      ∙ ap (map Packet) (take_all count packets (omega (arith, more))),
  ap (drop count) (append-nil packets) ∙ drop_of_length-le packets (omega (arith, more)),
)
takes_these (Tick count) packets more = absurd more
takes_these (Other input) packets more = absurd more

-- and where there is one, it takes it
takes_besides : (item : RecordItem) (packets : List (List ℕ)) (next : List ℕ)
    (others : List (List ℕ)) → TakesMore item (length packets)
    → (rest : List Input) × (inputs_of_item item (packets ++ next ∷ others)
    ≡ map Packet packets ++ Packet next ∷ rest)
takes_besides All packets next others more =
    (map Packet others, map-append Packet packets (next ∷ others))
takes_besides (Packets count) packets next others more =
    let few = count - length packets - 1 in
    let all : length packets + suc few ≡ count = omega (arith, more) in (
      map Packet (take few others),
      ap (λ n. map Packet (take n (packets ++ next ∷ others))) (sym all)
          ∙ ap (map Packet) (take-append-add packets (next ∷ others) (suc few))
          ∙ map-append Packet packets (next ∷ take few others),
    )
takes_besides (Tick count) packets next others more = absurd more
takes_besides (Other input) packets next others more = absurd more

-- those that there are come first
takes_first : (item : RecordItem) (packets more : List (List ℕ)) → TakesMore item (length packets)
    → IsFront (map Packet packets) (inputs_of_item item (packets ++ more))
takes_first item packets [] takes = record {
  rest = [];
  joined = (takes_these item packets takes).0 ∙ sym (append-nil (map Packet packets));
}
takes_first item packets (next ∷ others) takes =
    let besides = takes_besides item packets next others takes in
    record { rest = Packet next ∷ besides.0; joined = besides.1 }

-- ---- in the middle of an item

-- what is handed over by items, and by one of which some packets were taken
abbrev pub handed_over : List RecordItem → List (List ℕ) → List (List ℕ) → List Input
handed_over items before some = inputs_of before items ++ map Packet some

hands_over : (items more : List RecordItem) (item : RecordItem) (before some rest : List (List ℕ))
    → TakeJust items (length before)
    → inputs_of ((before ++ some) ++ rest) ((items ++ item ∷ []) ++ more)
    ≡ (inputs_of before items ++ inputs_of_item item (some ++ rest))
    ++ inputs_of (packets_behind item (some ++ rest)) more
hands_over items more item before some rest all =
    let packets = (before ++ some) ++ rest in
    let taken = just_taken items before (some ++ rest) all in
    let inputs : inputs_of packets items ≡ inputs_of before items =
    ap (λ l. inputs_of l items) (append_assoc before some rest) ∙ taken.0 in
    let left : packets_left packets items ≡ some ++ rest =
    ap (λ l. packets_left l items) (append_assoc before some rest) ∙ taken.1 in
    inputs_of-append packets (items ++ item ∷ []) more
    ∙ ap₂ (λ l m. l ++ inputs_of m more)
    (inputs_of-push packets items item ∙ ap₂ (λ l m. l ++ inputs_of_item item m) inputs left)
    (packets_left-push packets items item ∙ ap (packets_behind item) left)

-- it stands in front of all, whatever packets come
pub handed_first : (items more : List RecordItem) (item : RecordItem)
    (before some rest : List (List ℕ))
    → TakeJust items (length before) → TakesMore item (length some)
    → IsFront (handed_over items before some)
    (inputs_of ((before ++ some) ++ rest) ((items ++ item ∷ []) ++ more))
handed_first items more item before some rest all takes =
    let front = takes_first item some rest takes in
    let behind = inputs_of (packets_behind item (some ++ rest)) more in
    record {
      rest = front.rest ++ behind;
      joined = hands_over items more item before some rest all
          ∙ ap (λ l. (inputs_of before items ++ l) ++ behind) front.joined
          ∙ ap (λ l. l ++ behind)
          (sym (append_assoc (inputs_of before items) (map Packet some) front.rest))
          ∙ append_assoc (handed_over items before some) front.rest behind;
    }

-- no packet is the first of these
abbrev NoPacketFirst : List Input → Type 0
NoPacketFirst inputs = (packet : List ℕ) (rest : List Input) → inputs ≢ Packet packet ∷ rest

no_packet_first : (items : List RecordItem) → NoPacketFirst (inputs_of [] items)
unfolding inputs_of
no_packet_first [] packet rest e = let clash : [] ≡ Packet packet ∷ rest = e in cc
no_packet_first (All ∷ items) packet rest e = no_packet_first items packet rest e
no_packet_first (Packets count ∷ items) packet rest e =
    let taken : take count [] ≡ [] = take_all count [] (omega arith) in
    let left : drop count [] ≡ [] = drop_of_length-le [] (omega arith) in
    no_packet_first items packet rest
    (sym (ap₂ (λ l m. map Packet l ++ inputs_of m items) taken left) ∙ e)
no_packet_first (Tick count ∷ items) packet rest e =
    let clash : Passing count ∷ inputs_of [] items ≡ Packet packet ∷ rest = e in cc
no_packet_first (Other (handed.Key key) ∷ items) packet rest e =
    let clash : input_of (handed.Key key) ∷ inputs_of [] items ≡ Packet packet ∷ rest = e in cc
no_packet_first (Other (handed.Release key) ∷ items) packet rest e =
    let clash : input_of (handed.Release key) ∷ inputs_of [] items ≡ Packet packet ∷ rest = e in cc
no_packet_first (Other (handed.Random word) ∷ items) packet rest e =
    let clash : input_of (handed.Random word) ∷ inputs_of [] items ≡ Packet packet ∷ rest = e in cc
no_packet_first (Other (handed.Date day second) ∷ items) packet rest e =
    let clash : input_of (handed.Date day second) ∷ inputs_of [] items
    ≡ Packet packet ∷ rest = e in cc
no_packet_first (Other handed.Show ∷ items) packet rest e =
    let clash : input_of handed.Show ∷ inputs_of [] items ≡ Packet packet ∷ rest = e in cc
no_packet_first (Other (handed.Rows spacing align) ∷ items) packet rest e =
    let clash : input_of (handed.Rows spacing align) ∷ inputs_of [] items
    ≡ Packet packet ∷ rest = e in cc

-- what stands in front of two that go on differently stands in front of what they have in common
front_of_both : (some common one other : List Input) (packet : List ℕ) → NoPacketFirst one
    → IsFront some (common ++ one) → IsFront some (common ++ Packet packet ∷ other)
    → IsFront some common
front_of_both [] common one other packet never a b = record { rest = common; joined = refl }
front_of_both (x ∷ some) [] one other packet never a b =
    let e : Packet packet ∷ other ≡ x ∷ (some ++ b.rest) = b.joined in
    let same : x ≡ Packet packet = cc in
    absurd (never packet (some ++ a.rest) (a.joined ∙ ap (λ y. y ∷ (some ++ a.rest)) same))
front_of_both (x ∷ some) (y ∷ common) one other packet never a b =
    let e : y ∷ (common ++ one) ≡ x ∷ (some ++ a.rest) = a.joined in
    let f : y ∷ (common ++ Packet packet ∷ other) ≡ x ∷ (some ++ b.rest) = b.joined in
    let same : y ≡ x = cc in
    let one_tail : common ++ one ≡ some ++ a.rest = cc in
    let other_tail : common ++ Packet packet ∷ other ≡ some ++ b.rest = cc in
    let front = front_of_both some common one other packet never
    (record { rest = a.rest; joined = one_tail }) (record { rest = b.rest; joined = other_tail }) in
    record { rest = front.rest; joined = ap₂ (λ z l. z ∷ l) same front.joined }

-- so what stands in front of all, with no packet more and with one, was handed over
pub handed_decided : (inputs : List Input) (items more : List RecordItem) (item : RecordItem)
    (before some : List (List ℕ)) (next : List ℕ) (others : List (List ℕ))
    → TakeJust items (length before) → TakesMore item (length some)
    → IsFront inputs (inputs_of ((before ++ some) ++ []) ((items ++ item ∷ []) ++ more))
    → IsFront inputs
    (inputs_of ((before ++ some) ++ next ∷ others) ((items ++ item ∷ []) ++ more))
    → IsFront inputs (handed_over items before some)
handed_decided inputs items more item before some next others all takes without with_one =
    let none = takes_these item some takes in
    let besides = takes_besides item some next others takes in
    let behind = inputs_of (packets_behind item (some ++ next ∷ others)) more in
    let first = inputs_of before items in
    let one : inputs_of ((before ++ some) ++ []) ((items ++ item ∷ []) ++ more)
    ≡ handed_over items before some ++ inputs_of [] more =
    hands_over items more item before some [] all
    ∙ ap₂ (λ l m. (first ++ l) ++ inputs_of m more) none.0 none.1 in
    let other : inputs_of ((before ++ some) ++ next ∷ others) ((items ++ item ∷ []) ++ more)
    ≡ handed_over items before some ++ Packet next ∷ (besides.0 ++ behind) =
    hands_over items more item before some (next ∷ others) all
    ∙ ap (λ l. (first ++ l) ++ behind) besides.1
    ∙ ap (λ l. l ++ behind)
    (sym (append_assoc first (map Packet some) (Packet next ∷ besides.0)))
    ∙ append_assoc (handed_over items before some) (Packet next ∷ besides.0) behind in
    front_of_both inputs (handed_over items before some) (inputs_of [] more)
    (besides.0 ++ behind) next (no_packet_first more)
    (subst (λ (l : List Input). IsFront inputs l) one without)
    (subst (λ (l : List Input). IsFront inputs l) other with_one)
