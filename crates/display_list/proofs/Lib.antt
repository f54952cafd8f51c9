mod BoxLemmas
mod FirstLemmas
mod LineLemmas
mod OrderLemmas
mod PlaceLemmas
mod TextLemmas
mod ValueLemmas
mod ShowLemmas
