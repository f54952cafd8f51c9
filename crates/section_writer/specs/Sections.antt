-- A section in the long form (ISO/IEC 13818-1, 2.4.4.11): the one section of its table. Reserved bits are 0 (this
-- project's own).
use Rattle.std.specs.Prelude.{ℕ, ◌+◌, ◌*◌, ◌/◌, ◌%◌, List, ◌∷◌, ◌++◌, length, if◌then◌else◌}
use Rattle.std.specs.Int.{w32, to_be_bytes}
use Rattle.ts_sections.specs.Crc.{remainder_of}
use Rattle.section_writer.specs.declared.heads.SectionHead.{SectionHead}

-- version_number and current_next_indicator
abbrev pub version_byte : SectionHead → ℕ
version_byte head = head.version * 2 + (if head.is_current then 1 else 0)

-- what stands before the CRC_32: table_id; section_syntax_indicator 1 and section_length, which counts what is behind it
-- to the section's end; table_id_extension; the version; section_number and last_section_number 0; and the body
abbrev pub front_bytes : SectionHead → List ℕ → List ℕ
front_bytes head body =
    head.table_id ∷ (0x80 + (length body + 9) / 256) ∷ (length body + 9) % 256
    ∷ head.extension / 256 ∷ head.extension % 256
    ∷ version_byte head ∷ 0 ∷ 0 ∷ body

-- and its CRC_32 (annex A)
abbrev pub section_bytes : SectionHead → List ℕ → List ℕ
section_bytes head body =
    front_bytes head body ++ to_be_bytes w32 (remainder_of (front_bytes head body))
