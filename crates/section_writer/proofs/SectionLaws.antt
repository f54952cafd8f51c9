-- A section that is written is intact, and is one section.
use Rattle.std.proofs.Common.{◌≡◌, ◌≢◌, ◌+◌, ◌≤◌, ℕ, List, length, arith, length-append}
use Rattle.std.specs.Int.{w32, to_be_bytes}
use Rattle.std.proofs.lemmas.Bool.{and_from, le-leb, ne_eqb, not_from_false}
use Rattle.ts_sections.specs.Crc.{remainder_of}
use Rattle.ts_sections.specs.Intact.{IsIntact}
use Rattle.ts_sections.specs.Sections.{section_size}
use Rattle.ts_sections.specs.Sending.{IsSection}
use Rattle.section_writer.specs.declared.heads.SectionHead.{SectionHead}
use Rattle.section_writer.specs.Sections.{front_bytes, section_bytes}
use Rattle.section_writer.specs.devices.LawsBelow.{Below}

pub length-section : (head : SectionHead) (body : List ℕ) → length (section_bytes head body) ≡ length body + 12
length-section head body = omega (arith, length-append body (to_be_bytes w32 (remainder_of (front_bytes head body))))

pub IsIntact-written : Below → (head : SectionHead) (body : List ℕ) → length body ≤ 4084 → IsIntact (section_bytes head body)
IsIntact-written laws head body fits =
    let size = length-section head body in
    record {
      long_form = omega (arith, size);
      indicator = omega arith;
      whole = omega (arith, size);
      remainder = laws.crc (front_bytes head body);
    }

pub IsSection-written : (head : SectionHead) (body : List ℕ) → head.table_id ≢ 0xFF → length body ≤ 4084 → IsSection (section_bytes head body)
IsSection-written head body h fits =
    let size = length-section head body in
    let section = section_bytes head body in
    let all : section_size section ≡ length section = omega (arith, size) in
    record {
      begins = and_from _ _ (not_from_false _ (ne_eqb head.table_id 255 h)) (and_from _ _ (le-leb 3 (length section) (omega (arith, size))) (le-leb (section_size section) (length section) (omega (arith, all))));
      all = all;
    }
