-- The modules of a round, and the rounds, one after another.
use Rattle.std.proofs.Common.{◌≡◌, ℕ, zero, suc, ◌+◌, ◌<◌, ◌≤◌, List, [], ◌∷◌, ◌++◌, length, get_or, take, map, sym, ap, subst, ◌∙◌, arith, append-nil, append_assoc}
use Rattle.std.specs.List.{flat_map}
use Rattle.std.proofs.Math.Seq.{take-suc}
use Rattle.std.proofs.lemmas.List.{take_all, map-append}
use Rattle.std.proofs.lemmas.List.Concat.{flat_map-append}
use Rattle.carousel_blocks.specs.Message.{Message, Indication, Data}
use Rattle.section_writer.specs.Received.{IsStreamOf}
use Rattle.carousel_writer.specs.declared.files.FileModule.{FileModule}
use Rattle.carousel_writer.specs.declared.files.Files.{Files}
use Rattle.carousel_writer.specs.Messages.{message_section}
use Rattle.carousel_writer.specs.Streams.{dii_of, blocks_of, round_of, rounds_of}
use Rattle.carousel_writer.specs.devices.Appending.{AppendsSections}
use Rattle.carousel_writer.proofs.Sending.{sent-both}

abbrev pub sections_of_round : Files → List FileModule → List (List ℕ)
sections_of_round files modules = map message_section (Indication (dii_of files) ∷ map Data (flat_map (blocks_of files) modules))

pub round-begun : (files : Files) (old new : List ℕ) (counter next : ℕ) (section : List ℕ) → section ≡ message_section (Indication (dii_of files)) → AppendsSections old counter new next files.pid (section ∷ []) → AppendsSections old counter new next files.pid (sections_of_round files [])
round-begun files old new counter next section e h = subst (λ x. AppendsSections old counter new next files.pid (x ∷ [])) e h

more-modules : (files : Files) (modules : List FileModule) (file : FileModule) → sections_of_round files (modules ++ file ∷ []) ≡ sections_of_round files modules ++ map message_section (map Data (blocks_of files file))
more-modules files modules file =
    let blocks = flat_map (blocks_of files) modules in
    ap (λ x. map message_section (Indication (dii_of files) ∷ map Data x)) (flat_map-append (blocks_of files) modules (file ∷ []) ∙ ap (λ x. blocks ++ x) (append-nil (blocks_of files file)))
    ∙ ap (λ x. map message_section (Indication (dii_of files) ∷ x)) (map-append Data blocks (blocks_of files file))
    ∙ map-append message_section (Indication (dii_of files) ∷ map Data blocks) (map Data (blocks_of files file))

pub round-more : (files : Files) (old now new : List ℕ) (counter between next i : ℕ) (modules : List FileModule) (file : FileModule) → i < length modules → file ≡ get_or modules i file
    → AppendsSections old counter now between files.pid (sections_of_round files (take i modules)) → AppendsSections now between new next files.pid (map message_section (map Data (blocks_of files file))) → AppendsSections old counter new next files.pid (sections_of_round files (take (i + 1) modules))
round-more files old now new counter between next i modules file below is before own =
    let e : i + 1 ≡ suc i = omega arith in
    let taken : take (i + 1) modules ≡ take i modules ++ file ∷ [] = ap (λ k. take k modules) e ∙ take-suc modules i file below ∙ ap (λ x. take i modules ++ x ∷ []) (sym is) in
    subst (AppendsSections old counter new next files.pid) (sym (ap (sections_of_round files) taken ∙ more-modules files (take i modules) file))
    (sent-both old now new files.pid counter between next (sections_of_round files (take i modules)) (map message_section (map Data (blocks_of files file))) before own)

pub round-all : (files : Files) (old new : List ℕ) (counter next i : ℕ) → length files.modules.items ≤ i → AppendsSections old counter new next files.pid (sections_of_round files (take i files.modules.items)) → AppendsSections old counter new next files.pid (map message_section (round_of files))
round-all files old new counter next i h sent = subst (λ x. AppendsSections old counter new next files.pid (sections_of_round files x)) (take_all i files.modules.items h) sent

rounds-end : (n : ℕ) (round : List Message) → rounds_of (suc n) round ≡ rounds_of n round ++ round
rounds-end zero round = append-nil round
rounds-end (suc n) round = ap (λ x. round ++ x) (rounds-end n round) ∙ sym (append_assoc round (rounds_of n round) round)

pub rounds-more : (files : Files) (old new : List ℕ) (counter next n : ℕ) → IsStreamOf old files.pid counter (map message_section (rounds_of n (round_of files))) → AppendsSections old counter new next files.pid (map message_section (round_of files))
    → IsStreamOf new files.pid next (map message_section (rounds_of (n + 1) (round_of files)))
rounds-more files old new counter next n held sent =
    let e : n + 1 ≡ suc n = omega arith in
    subst (IsStreamOf new files.pid next) (sym (ap (λ k. map message_section (rounds_of k (round_of files))) e ∙ ap (map message_section) (rounds-end n (round_of files)) ∙ map-append message_section (rounds_of n (round_of files)) (round_of files)))
    (sent (map message_section (rounds_of n (round_of files))) held)
