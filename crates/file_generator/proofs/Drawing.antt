-- Words that are drawn one after another.
use Rattle.std.proofs.Common.{◌≡◌, ℕ, zero, suc, ◌+◌, ◌%◌, List, [], ◌∷◌, ◌++◌, map, refl, sym, ap, ◌∙◌, arith, suc-add, add-one}
use Rattle.std.specs.List.{range_with_len}
use Rattle.std.proofs.lemmas.List.{map-append}
use Rattle.rand_pcg.proofs.LcgLemmas.{advance_more, advance_zero}
use Rattle.rand_pcg.specs.Lcg.{Lcg, next, next_state, state_after}
use Rattle.rand_pcg.specs.Pcg.{multiplier_64, pcg32}
use Rattle.file_generator.specs.Words.{after, next_word, seeded, word}
use Rattle.file_generator.specs.Modules.{drawn_bytes, first_word, size_of}
use Rattle.file_generator.specs.devices.Drawing.{DrawsModule, bytes_behind}

-- ---- the generator after some words, and after more

state_after-sum : (w m p a b s : ℕ) → state_after w m p a (state_after w m p b s) ≡ state_after w m p (b + a) s
unfolding state_after
state_after-sum w m p a zero s = let e : a ≡ 0 + a = omega arith in ap (λ n. state_after w m p n s) e
state_after-sum w m p a (suc b) s = state_after-sum w m p a b (next_state w m p s) ∙ ap (λ n. state_after w m p n s) (sym (suc-add b a))

pub after-sum : (a b : ℕ) (g : Lcg) → after a (after b g) ≡ after (b + a) g
after-sum a b g = ap (λ s. record g { state = s }) (state_after-sum 64 multiplier_64 g.increment a b g.state)

next-is : (g : Lcg) → next 64 multiplier_64 g ≡ after 1 g
next-is g = sym (advance_zero 64 multiplier_64 (next 64 multiplier_64 g)) ∙ advance_more 64 multiplier_64 0 g

pub next-after : (n : ℕ) (g : Lcg) → next 64 multiplier_64 (after n g) ≡ after (n + 1) g
next-after n g = next-is (after n g) ∙ after-sum 1 n g

-- ---- the bytes

pub range-more : (a n : ℕ) → range_with_len a (suc n) ≡ range_with_len a n ++ (a + n) ∷ []
range-more a zero = let e : a ≡ a + 0 = omega arith in ap (λ k. k ∷ []) e
range-more a (suc n) = let e : (a + 1) + n ≡ a + suc n = omega arith in ap (λ x. a ∷ x) (range-more (a + 1) n ∙ ap (λ k. range_with_len (a + 1) n ++ k ∷ []) e)

pub bytes-more : (n : ℕ) (g : Lcg) → bytes_behind (n + 1) g ≡ bytes_behind n g ++ (next_word (after n g) % 256) ∷ []
bytes-more n g =
    let e : n + 1 ≡ suc n = omega arith in
    let z : 0 + n ≡ n = omega arith in
    ap (λ k. bytes_behind k g) e ∙ ap (map (λ number. next_word (after number g) % 256)) (range-more 0 n ∙ ap (λ k. range_with_len 0 n ++ k ∷ []) z)
    ∙ map-append (λ number. next_word (after number g) % 256) (range_with_len 0 n) (n ∷ [])

-- one byte more
pub byte-drawn : (n w : ℕ) (start words new : Lcg) (old bytes : List ℕ) → words ≡ after n start → (w, new) ≡ pcg32 words → old ≡ bytes_behind n start → bytes ≡ old ++ (w % 256) ∷ []
    → (bytes ≡ bytes_behind (n + 1) start) × (new ≡ after (n + 1) start)
byte-drawn n w start words new old bytes h step o b =
    let w_is : w ≡ next_word (after n start) = ap (λ (t : ℕ × Lcg). t.0) step ∙ ap next_word h in
    (b ∙ ap (λ l. l ++ (w % 256) ∷ []) o ∙ ap (λ k. bytes_behind n start ++ (k % 256) ∷ []) w_is ∙ sym (bytes-more n start), ap (λ (t : ℕ × Lcg). t.1) step ∙ ap (next 64 multiplier_64) h ∙ next-after n start)

-- ---- a module

-- words that come after some of a generator are words of that generator
bytes-from : (a b n : ℕ) (g : Lcg) → map (λ number. next_word (after number (after a g)) % 256) (range_with_len b n) ≡ map (λ number. next_word (after number g) % 256) (range_with_len (a + b) n)
bytes-from a b zero g = refl
bytes-from a b (suc n) g =
    let e : a + (b + 1) ≡ (a + b) + 1 = omega arith in
    let rest = bytes-from a (b + 1) n g ∙ ap (λ k. map (λ number. next_word (after number g) % 256) (range_with_len k n)) e in
    ap (λ s. (next_word s % 256) ∷ map (λ number. next_word (after number (after a g)) % 256) (range_with_len (b + 1) n)) (after-sum b a g) ∙ ap (λ l. (next_word (after (a + b) g) % 256) ∷ l) rest

pub draws-module : (old between new : Lcg) (first size : ℕ) (bytes : List ℕ) → (first, between) ≡ pcg32 old → size ≡ size_of first → bytes ≡ bytes_behind size between → new ≡ after size between → DrawsModule old bytes new
draws-module old between new first size bytes step s b n =
    let size_is : size ≡ size_of (next_word old) = s ∙ ap size_of (ap (λ (t : ℕ × Lcg). t.0) step) in
    let between_is : between ≡ after 1 old = ap (λ (t : ℕ × Lcg). t.1) step ∙ next-is old in
    record {
      bytes_are = b ∙ ap (bytes_behind size) between_is ∙ ap (λ k. bytes_behind k (after 1 old)) size_is;
      words_are = n ∙ ap (after size) between_is ∙ after-sum size 1 old ∙ ap (λ k. after (1 + k) old) size_is;
    }

pub module-drawn : (seed index : ℕ) (old new : Lcg) (bytes : List ℕ) → old ≡ after (first_word seed index) (seeded seed) → DrawsModule old bytes new
    → (bytes ≡ drawn_bytes seed index) × (new ≡ after (first_word seed (index + 1)) (seeded seed))
unfolding first_word
module-drawn seed index old new bytes o d =
    let g = seeded seed in
    let place = first_word seed index in
    let size = size_of (word seed place) in
    let z : (place + 1) + 0 ≡ place + 1 = omega arith in
    let sum : place + (1 + size) ≡ place + 1 + size = omega arith in
    let next_index : suc index ≡ index + 1 = omega arith in (
      d.bytes_are ∙ ap (λ s. bytes_behind (size_of (next_word s)) (after 1 s)) o ∙ ap (bytes_behind size) (after-sum 1 place g) ∙ bytes-from (place + 1) 0 size g
          ∙ ap (λ k. map (λ number. word seed number % 256) (range_with_len k size)) z,
      d.words_are ∙ ap (λ s. after (1 + size_of (next_word s)) s) o ∙ after-sum (1 + size) place g ∙ ap (λ k. after k g) sum ∙ ap (λ k. after (first_word seed k) g) next_index,
    )
