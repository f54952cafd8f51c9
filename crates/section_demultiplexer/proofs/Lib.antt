pub mod ChannelLaws
pub mod StandingLaws
pub mod SinceLaws
