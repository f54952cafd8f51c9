-- A device of the proofs: descriptors that borrow their bytes.
use Rattle.table_fields.specs.declared.descriptors.Descriptor as borrowed
use Rattle.table_fields.specs.Descriptors.{Descriptor}

-- the descriptor with the bytes that it borrows
abbrev pub descriptor_of : borrowed.Descriptor → Descriptor
descriptor_of descriptor = record { tag = descriptor.tag; bytes = descriptor.bytes.now }
