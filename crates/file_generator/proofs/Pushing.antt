-- Modules appended one after another.
use Rattle.std.proofs.Common.{◌≡◌, ℕ, suc, ◌+◌, List, [], ◌∷◌, ◌++◌, map, refl, sym, ap, ◌∙◌, arith, append_assoc}
use Rattle.std.specs.List.{range_with_len}
use Rattle.std.proofs.lemmas.List.{map-append}
use Rattle.rand_pcg.proofs.LcgLemmas.{advance_zero}
use Rattle.rand_pcg.specs.Lcg.{Lcg}
use Rattle.rand_pcg.specs.Pcg.{multiplier_64}
use Rattle.bml_bytes.specs.Codes.{codes}
use Rattle.file_generator.specs.GeneratedFiles.{ModuleSeen, drawn_module, menu_module}
use Rattle.file_generator.specs.Menu.{menu_entity}
use Rattle.file_generator.specs.Modules.{drawn_bytes, first_word}
use Rattle.file_generator.specs.Words.{after, seeded}
use Rattle.file_generator.proofs.Drawing.{range-more}

seen : ℕ → List ℕ → List ℕ → ModuleSeen
seen id media bytes = record { id = id; version = 1; media = media; bytes = bytes }

-- the first module
pub menu-pushed : (old new : List ModuleSeen) (bytes : List ℕ) → bytes ≡ menu_entity → new ≡ old ++ record { id = 0; version = 1; media = codes []; bytes = bytes } ∷ [] → new ≡ old ++ menu_module ∷ []
unfolding codes seen
menu-pushed old new bytes b h = h ∙ ap (λ x. old ++ seen 0 [] x ∷ []) b

pub begun : (seed : ℕ) → seeded seed ≡ after (first_word seed 0) (seeded seed)
unfolding first_word
begun seed = sym (advance_zero 64 multiplier_64 (seeded seed))

-- one that is drawn
drawn-more : (seed n : ℕ) → map (drawn_module seed) (range_with_len 0 (n + 1)) ≡ map (drawn_module seed) (range_with_len 0 n) ++ drawn_module seed n ∷ []
drawn-more seed n =
    let e : n + 1 ≡ suc n = omega arith in
    let z : 0 + n ≡ n = omega arith in
    ap (λ k. map (drawn_module seed) (range_with_len 0 k)) e ∙ ap (map (drawn_module seed)) (range-more 0 n ∙ ap (λ k. range_with_len 0 n ++ k ∷ []) z) ∙ map-append (drawn_module seed) (range_with_len 0 n) (n ∷ [])

pub drawn-pushed : (seed n : ℕ) (first old new : List ModuleSeen) (media bytes : List ℕ) → old ≡ first ++ menu_module ∷ map (drawn_module seed) (range_with_len 0 n) → media ≡ (drawn_module seed n).media → bytes ≡ drawn_bytes seed n
    → new ≡ old ++ record { id = n + 1; version = 1; media = media; bytes = bytes } ∷ [] → new ≡ first ++ menu_module ∷ map (drawn_module seed) (range_with_len 0 (n + 1))
unfolding seen
drawn-pushed seed n first old new media bytes o m b h =
    h ∙ ap (λ x. old ++ seen (n + 1) x bytes ∷ []) m ∙ ap (λ x. old ++ seen (n + 1) (drawn_module seed n).media x ∷ []) b ∙ ap (λ l. l ++ drawn_module seed n ∷ []) o
    ∙ append_assoc first (menu_module ∷ map (drawn_module seed) (range_with_len 0 n)) (drawn_module seed n ∷ []) ∙ ap (λ l. first ++ menu_module ∷ l) (sym (drawn-more seed n))

pub drawn-media : (seed n : ℕ) → codes (drawn_module seed n).media ≡ (drawn_module seed n).media
unfolding codes
drawn-media seed n = refl
