pub mod NeedLemmas
pub mod GiftLemmas
pub mod StyleLemmas
pub mod ScriptLemmas
