-- The words that a seed gives: those of PCG XSH RR 64/32 (O'Neill, "PCG: a family of simple fast space-efficient
-- statistically good algorithms for random number generation"), seeded by a number as the Rust crate rand_core does it.
-- That they are these is this project's own choice.
use Rattle.std.specs.Prelude.{ℕ}
use Rattle.rand_core.specs.Pcg32Seed.{pcg32_seed}
use Rattle.rand_pcg.specs.Lcg.{Lcg, advance}
use Rattle.rand_pcg.specs.Pcg.{multiplier_64, pcg32, pcg32_of_seed}

-- the generator that a seed gives
abbrev pub seeded : ℕ → Lcg
seeded seed = pcg32_of_seed (pcg32_seed 16 seed)

-- the generator after so many words
abbrev pub after : ℕ → Lcg → Lcg
after count generator = advance 64 multiplier_64 count generator

-- the word that it gives next
abbrev pub next_word : Lcg → ℕ
next_word generator = (pcg32 generator).0

-- the words of a seed, by their numbers from 0
abbrev pub word : ℕ → ℕ → ℕ
word seed number = next_word (after number (seeded seed))
