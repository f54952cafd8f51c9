pub mod SoleWords
