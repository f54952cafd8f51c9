-- The packets of a PID since it was wanted stand at places of the list of all that was handed in.
use Rattle.std.proofs.Common.{◌≡◌, ℕ, zero, suc, ◌<◌, ◌==◌, Bool, true, false, ◌&&◌, List, [], ◌∷◌, ◌++◌, length, refl, sym, ap, ◌∙◌, subst, arith, append_assoc, if◌then◌else◌, ◌⊎◌, inl, inr}
use Rattle.std.specs.Prelude.{slice_get, slice_index_or, Contains, Some}
use Rattle.std.proofs.lemmas.Bool.{eq-eqb, eqb-true}
use Rattle.std.proofs.lemmas.List.Elements.{Contains-append_left, Contains-append_right, Contains-append_cases}
use Rattle.ts_packets.specs.Packet.{pid_of}
use Rattle.section_demultiplexer.specs.Demultiplexing.{of_wanted, with_next}
use Rattle.section_demultiplexer.specs.Since.{Told, Pushed, Followed, stays_wanted, packet_on, packets_since, IsSince, ArePacketsSince}

-- ---- one more at the end

stays_pushed : (pid : ℕ) (told : List Told) (packet : List ℕ) → stays_wanted pid (told ++ Pushed packet ∷ []) ≡ stays_wanted pid told
stays_pushed pid [] packet = refl
stays_pushed pid (Pushed first ∷ told) packet = stays_pushed pid told packet
stays_pushed pid (Followed wanted ∷ told) packet = ap (λ b. wanted pid && b) (stays_pushed pid told packet)

stays_followed : (pid : ℕ) (told : List Told) (wanted : ℕ → Bool) → stays_wanted pid (told ++ Followed wanted ∷ []) ≡ (stays_wanted pid told && wanted pid)
stays_followed pid [] wanted = by (wanted pid)
  where
    by : (b : Bool) → (b && true) ≡ b
    by true = refl
    by false = refl
stays_followed pid (Pushed first ∷ told) wanted = stays_followed pid told wanted
stays_followed pid (Followed before ∷ told) wanted = ap (λ b. before pid && b) (stays_followed pid told wanted) ∙ assoc (before pid) (stays_wanted pid told) (wanted pid)
  where
    assoc : (a b c : Bool) → (a && (b && c)) ≡ ((a && b) && c)
    assoc true b c = refl
    assoc false b c = refl

since_pushed : (told : List Told) (packet : List ℕ) (pid : ℕ) → packets_since (told ++ Pushed packet ∷ []) pid ≡ with_next (pid_of packet) packet (packets_since told) pid
since_pushed [] packet pid = by (pid_of packet == pid)
  where
    by : (b : Bool) → ((if b then packet ∷ [] else []) ++ []) ≡ (if b then [] ++ packet ∷ [] else [])
    by true = refl
    by false = refl
since_pushed (first ∷ told) packet pid =
    rw (stays_pushed pid told packet, since_pushed told packet pid) (by (pid_of packet == pid) (if stays_wanted pid told then packet_on pid first else []))
  where
    by : (b : Bool) (front : List (List ℕ))
        → (front ++ (if b then packets_since told pid ++ packet ∷ [] else packets_since told pid)) ≡ (if b then (front ++ packets_since told pid) ++ packet ∷ [] else front ++ packets_since told pid)
    by true front = sym (append_assoc front (packets_since told pid) (packet ∷ []))
    by false front = refl

since_followed : (told : List Told) (wanted : ℕ → Bool) (pid : ℕ) → packets_since (told ++ Followed wanted ∷ []) pid ≡ of_wanted wanted (packets_since told) pid
since_followed [] wanted pid = by (wanted pid)
  where
    by : (b : Bool) → ((if true then packet_on pid (Followed wanted) else []) ++ []) ≡ (if b then [] else [])
    by true = refl
    by false = refl
since_followed (first ∷ told) wanted pid =
    rw (stays_followed pid told wanted, since_followed told wanted pid) (by (stays_wanted pid told) (wanted pid))
  where
    by : (kept is : Bool)
        → ((if kept && is then packet_on pid first else []) ++ (if is then packets_since told pid else [])) ≡ (if is then (if kept then packet_on pid first else []) ++ packets_since told pid else [])
    by true true = refl
    by true false = refl
    by false true = refl
    by false false = refl

pub packets_are_since : ArePacketsSince
packets_are_since = record { none = λ pid. refl; pushed = since_pushed; followed = since_followed }

-- ---- places

first_of : (a b : Bool) → (a && b) ≡ true → a ≡ true
first_of true b h = refl
first_of false b h = h

second_of : (a b : Bool) → (a && b) ≡ true → b ≡ true
second_of true b h = h
second_of false b h = cc

both_of : (a b : Bool) → a ≡ true → b ≡ true → (a && b) ≡ true
both_of true b h k = k
both_of false b h k = h

wanted_at : (pid : ℕ) (told : List Told) (place : ℕ) (wanted : ℕ → Bool) → stays_wanted pid told ≡ true → slice_get told place ≡ Some (Followed wanted) → wanted pid ≡ true
wanted_at pid [] place wanted stays at_place = cc
wanted_at pid (Pushed packet ∷ told) zero wanted stays at_place = cc
wanted_at pid (Followed before ∷ told) zero wanted stays at_place =
    let same : before ≡ wanted = cc in ap (λ (w : ℕ → Bool). w pid) (sym same) ∙ first_of (before pid) (stays_wanted pid told) stays
wanted_at pid (Pushed packet ∷ told) (suc place) wanted stays at_place = wanted_at pid told place wanted stays at_place
wanted_at pid (Followed before ∷ told) (suc place) wanted stays at_place = wanted_at pid told place wanted (second_of (before pid) (stays_wanted pid told) stays) at_place

all_wanted : (pid : ℕ) (told : List Told) → ((place : ℕ) (wanted : ℕ → Bool) → slice_get told place ≡ Some (Followed wanted) → wanted pid ≡ true) → stays_wanted pid told ≡ true
all_wanted pid [] each = refl
all_wanted pid (Pushed packet ∷ told) each = all_wanted pid told (λ place wanted h. each (suc place) wanted h)
all_wanted pid (Followed wanted ∷ told) each =
    both_of (wanted pid) (stays_wanted pid told) (each 0 wanted refl) (all_wanted pid told (λ place w h. each (suc place) w h))

only_one : (x y : List ℕ) → Contains (y ∷ []) x → y ≡ x
only_one x y c = by c.0 c.1 c.2 where
  by : (k : ℕ) → k < length (y ∷ []) → slice_index_or (y ∷ []) k x ≡ x → y ≡ x
  by zero l e = e
  by (suc k) l e = absurd (omega arith)

record Here (pid : ℕ) (first : Told) (packet : List ℕ) : Type 0 where
  is : first ≡ Pushed packet
  on : pid_of packet ≡ pid

here_on : (pid : ℕ) (first : Told) (packet : List ℕ) → Contains (packet_on pid first) packet → Here pid first packet
here_on pid (Followed wanted) packet c = absurd (let l = c.1 in omega arith)
here_on pid (Pushed first) packet c = by (pid_of first == pid) refl c where
  by : (t : Bool) → (pid_of first == pid) ≡ t → Contains (if t then first ∷ [] else []) packet → Here pid (Pushed first) packet
  by true e c = let same = only_one packet first c in record { is = ap (λ p. Pushed p) same; on = ap pid_of (sym same) ∙ eqb-true (pid_of first) pid e }
  by false e c = absurd (let l = c.1 in omega arith)

in_first : (t : Bool) (pid : ℕ) (first : Told) (packet : List ℕ) → Contains (if t then packet_on pid first else []) packet → (t ≡ true) × Here pid first packet
in_first true pid first packet c = (refl, here_on pid first packet c)
in_first false pid first packet c = absurd (let l = c.1 in omega arith)

pub since_from : (told : List Told) (pid : ℕ) (packet : List ℕ) → Contains (packets_since told pid) packet → (place : ℕ) × IsSince told pid packet place
since_from [] pid packet c = absurd (let l = c.1 in omega arith)
since_from (first ∷ told) pid packet c =
    by (Contains-append_cases (if stays_wanted pid told then packet_on pid first else []) (packets_since told pid) packet c) (since_from told pid packet) where
      by : Contains (if stays_wanted pid told then packet_on pid first else []) packet ⊎ Contains (packets_since told pid) packet
          → (Contains (packets_since told pid) packet → (place : ℕ) × IsSince told pid packet place) → (place : ℕ) × IsSince (first ∷ told) pid packet place
      by (inl x) again =
          let p = in_first (stays_wanted pid told) pid first packet x in
          (0, record { stands = ap (λ t. Some t) p.1.is; on = p.1.on; wanted = λ other w l h. behind p.0 other w l h })
        where
          behind : stays_wanted pid told ≡ true → (other : ℕ) (w : ℕ → Bool) → 0 < other → slice_get (first ∷ told) other ≡ Some (Followed w) → w pid ≡ true
          behind s zero w l h = absurd (omega arith)
          behind s (suc k) w l h = wanted_at pid told k w s h
      by (inr x) again = let r = again x in (suc r.0, record { stands = r.1.stands; on = r.1.on; wanted = λ other w l h. behind r.0 r.1 other w l h })
        where
          behind : (place : ℕ) → IsSince told pid packet place → (other : ℕ) (w : ℕ → Bool) → suc place < other → slice_get (first ∷ told) other ≡ Some (Followed w) → w pid ≡ true
          behind place s zero w l h = absurd (omega arith)
          behind place s (suc k) w l h = s.wanted k w (omega arith) h

pub to_since : (told : List Told) (pid : ℕ) (packet : List ℕ) (place : ℕ) → IsSince told pid packet place → Contains (packets_since told pid) packet
to_since [] pid packet place s = absurd (let h = s.stands in cc)
to_since (first ∷ told) pid packet zero s =
    let h = s.stands in
    let is : first ≡ Pushed packet = cc in
    let stays : stays_wanted pid told ≡ true = all_wanted pid told (λ place w e. s.wanted (suc place) w (omega arith) e) in
    let e : (if stays_wanted pid told then packet_on pid first else []) ≡ packet ∷ [] =
    ap (λ (b : Bool). if b then packet_on pid first else []) stays ∙ ap (packet_on pid) is ∙ ap (λ (b : Bool). if b then packet ∷ [] else []) (eq-eqb (pid_of packet) pid s.on) in
    Contains-append_left (if stays_wanted pid told then packet_on pid first else []) (packets_since told pid) packet (subst (λ (l : List (List ℕ)). Contains l packet) (sym e) (0, omega arith, refl))
to_since (first ∷ told) pid packet (suc place) s =
    Contains-append_right (if stays_wanted pid told then packet_on pid first else []) (packets_since told pid) packet
    (to_since told pid packet place (record { stands = s.stands; on = s.on; wanted = λ k w l h. s.wanted (suc k) w (omega arith) h }))
