use Rattle.std.proofs.Common.{◌≡◌, ℕ, List, true, sym, ap, subst, ◌∙◌}
use Rattle.std.specs.List.{All}
use Rattle.std.specs.Prelude.{option_and_then}
use Rattle.ts_packets.specs.Packets.{packets_of}
use Rattle.ts_sections.specs.Intact.{IsIntact}
use Rattle.dsmcc_messages.specs.Reading.{descriptor_in}
use Rattle.carousel_blocks.specs.Held.{bytes_held}
use Rattle.carousel_blocks.specs.Carousel.{entry_in_force}
use Rattle.carousel_writer.specs.GoodFiles.{are_good_files}
use Rattle.section_writer.specs.Packets.{laid}
use Rattle.section_writer.specs.Received.{sections_on}
use Rattle.carousel_writer.specs.Received.{messages_on}
use Rattle.carousel_writer.proofs.write.write_stream.Goals as goal

pub bytes_of_stream-requires-clause-pid : goal.bytes_of_stream-requires-clause-pid
bytes_of_stream-requires-clause-pid c =
    let files = c.args.files.now in
    let good : are_good_files files ≡ true = sym c.in_ok-are_good_files.ensures ∙ c.if-not-branch.false in
    (c.law_of_good_files.ensures files good).pid

pub bytes_of_stream-requires-clause-positive : goal.bytes_of_stream-requires-clause-positive
bytes_of_stream-requires-clause-positive c =
    let files = c.args.files.now in
    let good : are_good_files files ≡ true = sym c.in_ok-are_good_files.ensures ∙ c.if-not-branch.false in
    (c.law_of_good_files.ensures files good).positive

pub bytes_of_stream-requires-clause-short : goal.bytes_of_stream-requires-clause-short
bytes_of_stream-requires-clause-short c =
    let files = c.args.files.now in
    let good : are_good_files files ≡ true = sym c.in_ok-are_good_files.ensures ∙ c.if-not-branch.false in
    (c.law_of_good_files.ensures files good).short

pub bytes_of_stream-requires-clause-few : goal.bytes_of_stream-requires-clause-few
bytes_of_stream-requires-clause-few c =
    let files = c.args.files.now in
    let good : are_good_files files ≡ true = sym c.in_ok-are_good_files.ensures ∙ c.if-not-branch.false in
    (c.law_of_good_files.ensures files good).few

pub bytes_of_stream-requires-clause-count : goal.bytes_of_stream-requires-clause-count
bytes_of_stream-requires-clause-count c =
    let files = c.args.files.now in
    let good : are_good_files files ≡ true = sym c.in_ok-are_good_files.ensures ∙ c.if-not-branch.false in
    (c.law_of_good_files.ensures files good).count

pub bytes_of_stream-requires-clause-media : goal.bytes_of_stream-requires-clause-media
bytes_of_stream-requires-clause-media c =
    let files = c.args.files.now in
    let good : are_good_files files ≡ true = sym c.in_ok-are_good_files.ensures ∙ c.if-not-branch.false in
    (c.law_of_good_files.ensures files good).media

pub bytes_of_stream-requires-clause-sizes : goal.bytes_of_stream-requires-clause-sizes
bytes_of_stream-requires-clause-sizes c =
    let files = c.args.files.now in
    let good : are_good_files files ≡ true = sym c.in_ok-are_good_files.ensures ∙ c.if-not-branch.false in
    (c.law_of_good_files.ensures files good).sizes

pub bytes_of_stream-requires-clause-section : goal.bytes_of_stream-requires-clause-section
bytes_of_stream-requires-clause-section c =
    let files = c.args.files.now in
    let good : are_good_files files ≡ true = sym c.in_ok-are_good_files.ensures ∙ c.if-not-branch.false in
    (c.law_of_good_files.ensures files good).section

pub returns-clause-packets : goal.returns-clause-packets
returns-clause-packets c =
    let files = c.args.files.now in
    let good : are_good_files files ≡ true = sym c.in_ok-are_good_files.ensures ∙ c.if-not-branch.false in
    let same = c.in_ok-bytes_of_stream.ensures in
    subst (λ (b : List ℕ). laid (packets_of b) ≡ b) (sym same) (c.law_of_streams.ensures.packets files good c.numbers_have_types.ensures)

pub returns-clause-sections : goal.returns-clause-sections
returns-clause-sections c =
    let files = c.args.files.now in
    let good : are_good_files files ≡ true = sym c.in_ok-are_good_files.ensures ∙ c.if-not-branch.false in
    let same = c.in_ok-bytes_of_stream.ensures in
    ap (sections_on files.pid) same ∙ c.law_of_streams.ensures.sections files good c.numbers_have_types.ensures

pub returns-clause-intact : goal.returns-clause-intact
returns-clause-intact c =
    let files = c.args.files.now in
    let good : are_good_files files ≡ true = sym c.in_ok-are_good_files.ensures ∙ c.if-not-branch.false in
    let same = c.in_ok-bytes_of_stream.ensures in
    subst (λ (l : List (List ℕ)). All IsIntact l) (sym (ap (sections_on files.pid) same ∙ c.law_of_streams.ensures.sections files good c.numbers_have_types.ensures)) (c.law_of_streams.ensures.intact files good c.numbers_have_types.ensures)

pub returns-clause-held : goal.returns-clause-held
returns-clause-held c =
    let files = c.args.files.now in
    let good : are_good_files files ≡ true = sym c.in_ok-are_good_files.ensures ∙ c.if-not-branch.false in
    let same = c.in_ok-bytes_of_stream.ensures in
    λ number. ap (λ b. bytes_held (messages_on files.pid b) number) same ∙ c.law_of_streams.ensures.held files good c.numbers_have_types.ensures number

pub returns-clause-entries : goal.returns-clause-entries
returns-clause-entries c =
    let files = c.args.files.now in
    let good : are_good_files files ≡ true = sym c.in_ok-are_good_files.ensures ∙ c.if-not-branch.false in
    let same = c.in_ok-bytes_of_stream.ensures in
    λ number. ap (λ b. entry_in_force (messages_on files.pid b) number) same ∙ c.law_of_streams.ensures.entries files good c.numbers_have_types.ensures number

pub returns-clause-media : goal.returns-clause-media
returns-clause-media c =
    let files = c.args.files.now in
    let good : are_good_files files ≡ true = sym c.in_ok-are_good_files.ensures ∙ c.if-not-branch.false in
    let same = c.in_ok-bytes_of_stream.ensures in
    λ number. ap (λ b. option_and_then (λ entry. descriptor_in entry.info 0x01) (entry_in_force (messages_on files.pid b) number)) same ∙ c.law_of_streams.ensures.media files good c.numbers_have_types.ensures number
