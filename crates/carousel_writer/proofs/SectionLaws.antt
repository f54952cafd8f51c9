-- How long a section is that is written, and its body.
use Rattle.std.proofs.Common.{◌≡◌, ℕ, ◌+◌, ◌-◌, List, length, arith, length-append}
use Rattle.std.specs.Int.{w32, to_be_bytes}
use Rattle.std.proofs.Math.Seq.{take-append_seam}
use Rattle.ts_sections.specs.Crc.{remainder_of}
use Rattle.section_writer.specs.declared.heads.SectionHead.{SectionHead}
use Rattle.section_writer.specs.Sections.{front_bytes, section_bytes}
use Rattle.table_fields.specs.Sections.{body}

pub length-section : (head : SectionHead) (content : List ℕ) → length (section_bytes head content) ≡ length content + 12
length-section head content = omega (arith, length-append content (to_be_bytes w32 (remainder_of (front_bytes head content))))

pub body-written : (head : SectionHead) (content : List ℕ) → body (section_bytes head content) ≡ content
body-written head content =
    let size = length-section head content in
    let count : length (section_bytes head content) - 12 ≡ length content = omega (arith, size) in
    rw count (take-append_seam content (to_be_bytes w32 (remainder_of (front_bytes head content))))
