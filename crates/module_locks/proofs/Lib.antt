pub mod ListLaws
pub mod HeldLaws
pub mod KeptLaws
pub mod StandingLaws
pub mod CopyLaws
pub mod SeenLaws
pub mod HistoryLaws
