mod CallLemmas
mod ItemLemmas
mod StyleLemmas
mod TimerLemmas
