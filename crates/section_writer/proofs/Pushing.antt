-- How the packets of payloads are appended one by one.
use Rattle.std.proofs.Common.{◌≡◌, ℕ, zero, suc, ◌+◌, ◌/◌, ◌%◌, ◌<◌, ◌≤◌, Bool, true, false, List, [], ◌∷◌, ◌++◌, length, take, drop, refl, sym, ap, subst, ◌∙◌, arith, append_assoc, append-nil, length-drop, if◌then◌else◌}
use Rattle.std.specs.Io.{StartsWith}
use Rattle.std.proofs.lemmas.List.{length-take, take-append-drop, take-append-le}
use Rattle.section_writer.specs.Packets.{PacketContent, packet_bytes, packets_from, cut_contents, packet_count, stuffed, section_contents, laid}
use Rattle.section_writer.specs.devices.Appending.{Appends}
use Rattle.section_writer.proofs.ContentLaws.{fill}

pub packets_from-same : (pid a b : ℕ) (contents : List PacketContent) → a % 16 ≡ b % 16 → packets_from pid a contents ≡ packets_from pid b contents
packets_from-same pid a b [] h = refl
packets_from-same pid a b (content ∷ contents) h =
    let next : (a + 1) % 16 ≡ (b + 1) % 16 = omega arith in
    ap (λ n. (0x47 ∷ ((if content.starts then 0x40 else 0) + pid / 256) ∷ pid % 256 ∷ (0x10 + n) ∷ content.payload) ∷ packets_from pid (a + 1) contents) h
    ∙ ap (λ x. packet_bytes pid b content ∷ x) (packets_from-same pid (a + 1) (b + 1) contents next)

pub length-cut : (starts : Bool) (count : ℕ) (bytes : List ℕ) → length (cut_contents starts count bytes) ≡ count
length-cut starts zero bytes = refl
length-cut starts (suc more) bytes = ap suc (length-cut false more (drop 184 bytes))

pub record Pushing (old now : List ℕ) (pid counter next : ℕ) (starts : Bool) (payloads rest : List ℕ) : Type 0 where
  pub bytes : now ++ laid (packets_from pid next (cut_contents starts (length rest / 184) rest)) ≡ old ++ laid (packets_from pid counter (cut_contents true (length payloads / 184) payloads))
  pub counted : (next + length rest / 184) % 16 ≡ (counter + length payloads / 184) % 16
  pub small : next < 16
  pub whole : length rest % 184 ≡ 0

pub pushed : (old now now' : List ℕ) (pid counter next next' : ℕ) (starts : Bool) (payloads rest payload behind : List ℕ) → Pushing old now pid counter next starts payloads rest → 184 ≤ length rest
    → payload ≡ take 184 rest → behind ≡ drop 184 rest → now' ≡ now ++ packet_bytes pid next (record { starts = starts; payload = payload }) → next' ≡ (next + 1) % 16
    → Pushing old now' pid counter next' false payloads behind
pushed old now now' pid counter next next' starts payloads rest payload behind h long p b o n =
    let left : length behind ≡ length (drop 184 rest) = ap length b in
    let size = length-drop 184 rest in
    let count : length rest / 184 ≡ suc (length behind / 184) = omega arith in
    let m = length behind / 184 in
    let more = h.counted in
    let small = h.small in
    let whole = h.whole in
    record {
      bytes =
          ap (λ x. x ++ laid (packets_from pid next' (cut_contents false m behind))) (o ∙ ap (λ x. now ++ packet_bytes pid next (record { starts = starts; payload = x })) p)
          ∙ ap (λ x. (now ++ packet_bytes pid next (record { starts = starts; payload = take 184 rest })) ++ laid x) (packets_from-same pid next' (next + 1) (cut_contents false m behind) (omega arith) ∙ ap (λ x. packets_from pid (next + 1) (cut_contents false m x)) b)
          ∙ append_assoc now (packet_bytes pid next (record { starts = starts; payload = take 184 rest })) (laid (packets_from pid (next + 1) (cut_contents false m (drop 184 rest))))
          ∙ ap (λ k. now ++ laid (packets_from pid next (cut_contents starts k rest))) (sym count)
          ∙ h.bytes;
      counted = omega arith;
      small = omega arith;
      whole = omega arith;
    }

pub pushed-all : (old now : List ℕ) (pid counter next : ℕ) (starts : Bool) (payloads rest : List ℕ) → Pushing old now pid counter next starts payloads rest → length rest < 184
    → Appends old now pid counter (cut_contents true (length payloads / 184) payloads) next
pushed-all old now pid counter next starts payloads rest h short =
    let none : length rest / 184 ≡ 0 = omega arith in
    let more = h.counted in
    let small = h.small in
    record {
      bytes = sym (append-nil now) ∙ ap (λ k. now ++ laid (packets_from pid next (cut_contents starts k rest))) (sym none) ∙ h.bytes;
      counter_is = omega (arith, length-cut true (length payloads / 184) payloads);
    }

-- the payloads of a section
pub payloads-whole : (section payloads : List ℕ) → payloads ≡ 0 ∷ stuffed section → length payloads % 184 ≡ 0
payloads-whole section payloads e = omega (arith, ap length e, fill section)

pub Appends-section : (old new section payloads : List ℕ) (pid counter next : ℕ) → payloads ≡ 0 ∷ stuffed section → Appends old new pid counter (cut_contents true (length payloads / 184) payloads) next → Appends old new pid counter (section_contents section) next
Appends-section old new section payloads pid counter next e h =
    let count : length payloads / 184 ≡ packet_count section = omega (arith, ap length e, fill section) in
    let same : cut_contents true (length payloads / 184) payloads ≡ section_contents section = ap (λ n. cut_contents true n payloads) count ∙ ap (cut_contents true (packet_count section)) e in
    subst (λ l. Appends old new pid counter l next) same h

-- what begins with a list that begins with another begins with this one
pub begins : (old between new : List ℕ) → StartsWith between old → StartsWith new between → StartsWith new old
begins old between new h k =
    let short : length old ≤ length between = omega (arith, sym (ap (length {A = ℕ}) h), length-take (length old) between) in
    let whole : between ++ drop (length between) new ≡ new = ap (λ (front : List ℕ). front ++ drop (length between) new) (sym k) ∙ take-append-drop (length between) new in
    ap (take (length old)) (sym whole) ∙ take-append-le (length old) between (drop (length between) new) short ∙ h
