-- A section behind others, whatever other PIDs there are.
use Rattle.std.proofs.Common.{◌≡◌, ◌≢◌, ℕ, ◌+◌, ◌<◌, ◌==◌, List, [], ◌∷◌, ◌++◌, length, refl, sym, ap, ◌∙◌, append-nil}
use Rattle.std.specs.List.{All, flat_map}
use Rattle.std.proofs.lemmas.Bool.{eq-eqb, ne_eqb}
use Rattle.std.proofs.lemmas.List.Concat.{flat_map-append}
use Rattle.std.proofs.lemmas.List.Elements.{All-nil, All-cons, All-append, filter-append}
use Rattle.ts_packets.specs.Packet.{IsPacket, pid_of}
use Rattle.ts_packets.specs.Packets.{packets_of}
use Rattle.ts_sections.specs.Sections.{sections}
use Rattle.ts_sections.specs.Sending.{IsSection}
use Rattle.section_writer.specs.Packets.{PacketContent, packet_bytes, packets_from, section_contents, laid, stream_bytes, stream_packets}
use Rattle.section_writer.specs.Received.{Carries, IsCutWhole, packets_on, sections_on}
use Rattle.section_writer.specs.devices.Appending.{Appends}
use Rattle.section_writer.specs.devices.LawsBelow.{Below}
use Rattle.section_writer.proofs.ContentLaws.{section-sound}
use Rattle.section_writer.proofs.PacketFields.{IsPacket-written, pid-written}
use Rattle.section_writer.proofs.Sending.{counter-more, stream-more}
use Rattle.section_writer.proofs.StreamLaws.{packets_from-packets, stream-packets, stream-sections}

-- ---- packets behind whole packets

pub cut-more : Below → (old : List ℕ) (packets : List (List ℕ)) → IsCutWhole old → All IsPacket packets → packets_of (old ++ laid packets) ≡ packets_of old ++ packets
cut-more laws old packets whole each =
    ap (λ x. packets_of (x ++ laid packets)) (sym whole)
    ∙ ap packets_of (sym (flat_map-append (λ packet. packet) (packets_of old) packets))
    ∙ laws.apart (packets_of old ++ packets) (All-append IsPacket (packets_of old) packets (laws.cut old) each)

whole-more : Below → (old : List ℕ) (packets : List (List ℕ)) → IsCutWhole old → All IsPacket packets → IsCutWhole (old ++ laid packets)
whole-more laws old packets whole each =
    ap laid (cut-more laws old packets whole each)
    ∙ flat_map-append (λ packet. packet) (packets_of old) packets
    ∙ ap (λ x. x ++ laid packets) whole

-- one packet
pub cut-one : Below → (old new : List ℕ) (pid counter : ℕ) (content : PacketContent) → length content.payload ≡ 184 → new ≡ old ++ packet_bytes pid counter content
    → IsCutWhole old → packets_of new ≡ packets_of old ++ packet_bytes pid counter content ∷ []
cut-one laws old new pid counter content size e whole =
    let packet = packet_bytes pid counter content in
    let each : All IsPacket (packet ∷ []) = All-cons IsPacket packet [] (IsPacket-written pid counter content size) (All-nil IsPacket) in
    ap packets_of (e ∙ ap (λ x. old ++ x) (sym (append-nil packet))) ∙ cut-more laws old (packet ∷ []) whole each

-- ---- the packets of a PID

pub all-on : (pid counter : ℕ) (contents : List PacketContent) → pid < 8192 → packets_on pid (packets_from pid counter contents) ≡ packets_from pid counter contents
all-on pid counter [] h = refl
all-on pid counter (content ∷ contents) h =
    rw (eq-eqb _ pid (pid-written pid counter content h)) (ap (λ x. packet_bytes pid counter content ∷ x) (all-on pid (counter + 1) contents h))

none-on : (pid other counter : ℕ) (contents : List PacketContent) → pid < 8192 → other ≢ pid → packets_on other (packets_from pid counter contents) ≡ []
none-on pid other counter [] h differs = refl
none-on pid other counter (content ∷ contents) h differs =
    rw (ne_eqb _ other (λ e. differs (sym e ∙ pid-written pid counter content h))) (none-on pid other (counter + 1) contents h differs)

-- ---- a section more

section-packets : (pid counter : ℕ) (section : List ℕ) → All IsPacket (packets_from pid counter (section_contents section))
section-packets pid counter section = packets_from-packets pid counter (section_contents section) (section-sound section)

pub carried : Below → (old new : List ℕ) (pid counter next : ℕ) (section : List ℕ) → pid < 8192 → Appends old new pid counter (section_contents section) next
    → (sent : List (List ℕ)) → Carries old pid counter sent → Carries new pid next (sent ++ section ∷ [])
carried laws old new pid counter next section fits h sent s =
    let own = packets_from pid counter (section_contents section) in
    let each = section-packets pid counter section in
    record {
      whole = rw h.bytes (whole-more laws old own s.whole each);
      packets =
          ap (λ x. packets_on pid (packets_of x)) h.bytes
          ∙ ap (packets_on pid) (cut-more laws old own s.whole each)
          ∙ filter-append (λ packet. pid_of packet == pid) (packets_of old) own
          ∙ ap (λ x. x ++ packets_on pid own) s.packets
          ∙ ap (λ x. stream_packets pid sent ++ x) (all-on pid counter (section_contents section) fits)
          ∙ sym (stream-more pid counter sent section s.next);
      next = counter-more pid counter next sent section s.next h.counter_is;
    }

pub others : Below → (old new : List ℕ) (pid counter next : ℕ) (section : List ℕ) → pid < 8192 → Appends old new pid counter (section_contents section) next
    → (other behind : ℕ) (sent : List (List ℕ)) → other ≢ pid → Carries old other behind sent → Carries new other behind sent
others laws old new pid counter next section fits h other behind sent differs s =
    let own = packets_from pid counter (section_contents section) in
    let each = section-packets pid counter section in
    record {
      whole = rw h.bytes (whole-more laws old own s.whole each);
      packets =
          ap (λ x. packets_on other (packets_of x)) h.bytes
          ∙ ap (packets_on other) (cut-more laws old own s.whole each)
          ∙ filter-append (λ packet. pid_of packet == other) (packets_of old) own
          ∙ ap (λ x. x ++ packets_on other own) s.packets
          ∙ ap (λ x. stream_packets other sent ++ x) (none-on pid other counter (section_contents section) fits differs)
          ∙ append-nil (stream_packets other sent);
      next = s.next;
    }

-- ---- what is read

pub packets-whole : Below → (pid : ℕ) (sent : List (List ℕ)) → packets_of (stream_bytes pid sent) ≡ stream_packets pid sent
packets-whole laws pid sent = laws.apart (stream_packets pid sent) (stream-packets pid sent)

pub sections-whole : Below → (pid : ℕ) (sent : List (List ℕ)) → pid < 8192 → All IsSection sent → sections_on pid (stream_bytes pid sent) ≡ sent
sections-whole laws pid sent h each =
    ap (λ x. sections (packets_on pid x)) (packets-whole laws pid sent)
    ∙ ap sections (all-on pid 0 (flat_map section_contents sent) h)
    ∙ stream-sections laws pid sent h each

pub sections-carried : Below → (bytes : List ℕ) (pid counter : ℕ) (sent : List (List ℕ)) → pid < 8192 → All IsSection sent → Carries bytes pid counter sent → sections_on pid bytes ≡ sent
sections-carried laws bytes pid counter sent h each s = ap sections s.packets ∙ stream-sections laws pid sent h each

pub none-carried : Below → (pid : ℕ) → Carries [] pid 0 []
none-carried laws pid =
    let none : packets_of [] ≡ [] = laws.apart [] (All-nil IsPacket) in
    record { whole = ap laid none; packets = ap (packets_on pid) none; next = refl }
