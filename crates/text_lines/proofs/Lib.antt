pub mod CutLaws
pub mod NumberLaws
pub mod OnlyRows
pub mod PrintingLaws
pub mod LineLaws
pub mod ReadBackLaws
pub mod RowLaws
