-- Devices of the proofs, which nobody has to believe.
pub mod FieldsRead
pub mod Printed
pub mod RowsAhead
