-- What the descriptors of a stream say of its component. (ETSI EN 300 468; ARIB STD-B10, part 2.)
use Rattle.std.specs.Prelude.{◌==◌, Bool, ◌&&◌, ℕ, List, length, slice_index, find, option_map, Option}
use Rattle.table_fields.specs.Descriptors.{Descriptor}

-- a stream identifier descriptor (ETSI EN 300 468, 6.2.39; ARIB STD-B10, part 2), which has the one byte
-- component_tag. One of another length is none: this project's own rule.
abbrev pub is_stream_identifier : Descriptor → Bool
is_stream_identifier descriptor = (descriptor.tag == 0x52) && (length descriptor.bytes == 1)

-- the component_tag of the first stream identifier descriptor, where there is one
abbrev pub component_tag_in : List Descriptor → Option ℕ
component_tag_in descriptors = option_map (λ descriptor. slice_index descriptor.bytes 0) (find is_stream_identifier descriptors)
