mod AsciiLemmas
mod ChangeLemmas
mod PlainLemmas
mod RowLemmas
