pub mod States
pub mod Matching
pub mod Candidates
pub mod Writes
pub mod Cascade
pub mod Keeping
pub mod StyledTrees
pub mod devices
