pub mod PacketFields
pub mod ContentLaws
pub mod StreamLaws
pub mod SectionLaws
pub mod Pushing
pub mod Sending
pub mod Carrying
