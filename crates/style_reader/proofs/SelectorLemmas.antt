-- Selectors, part by part.
use Rattle.std.proofs.Common.{◌≡◌, ℕ, ◌-◌, false, List, [], ◌∷◌, ◌++◌, length, take, drop, Option, Some, None, refl, ◌∙◌}
use Rattle.std.specs.Prelude.{option_map, position, codes}
use Rattle.std.specs.List.{list_any, slice_split}
use Rattle.bml_bytes.specs.Words.{is_same}
use Rattle.style_reader.specs.Characters.{trimmed}
use Rattle.style_reader.specs.Declarations.{is_colon}
use Rattle.style_reader.specs.Readings.{all_selectors, asked_of, asked_tag, before_pseudo_class, begins_mark, marked, parted, pseudo_class_of, selector_of, selectors_of}
use Rattle.style_reader.specs.Rules.{is_comma}
use Rattle.style_reader.specs.devices.Views.{IsParted, pieces_from}
use Rattle.style_reader.specs.declared.selectors.PseudoClass.{PseudoClass}
use Rattle.style_reader.specs.declared.selectors.Selector.{Selector}
use Rattle.style_reader.proofs.PieceLemmas.{position-none, position-some, rest_whole}

-- ---- pseudo-classes

pub before-without : (text : List ℕ) → list_any is_colon text ≡ false → Some (parted text None) ≡ before_pseudo_class text
unfolding before_pseudo_class
before-without text e = rw e refl

pub before-with : (text subject word : List ℕ) (found : Option PseudoClass) → IsParted is_colon text subject word → found ≡ pseudo_class_of word → option_map (λ (p : PseudoClass). parted subject (Some p)) found ≡ before_pseudo_class text
unfolding before_pseudo_class
before-with text subject word found cut e = rw (cut.has_one, e, cut.behind_is, cut.before_is) refl

-- ---- what is asked of an element

pub asked-marked : (text : List ℕ) (place : ℕ) → is_same text (codes "*") ≡ false → Some place ≡ position begins_mark text → marked (take place text) (take (length text - place) (drop place text)) ≡ asked_of text
unfolding asked_of
asked-marked text place star e =
    let found = position-some begins_mark text place e in
    rw (rest_whole place text, star, found.0, found.1) refl

pub asked-alone : (text : List ℕ) → is_same text (codes "*") ≡ false → None ≡ position begins_mark text → asked_tag text ≡ asked_of text
unfolding asked_of
asked-alone text star e = rw (star, position-none begins_mark text e) refl

-- ---- selectors, where some are read

-- one that is none
pub selectors-bad : (read : List Selector) (rest piece text : List ℕ) (behind : Option (List ℕ)) → option_map (λ (more : List Selector). read ++ more) (all_selectors (slice_split is_comma rest)) ≡ all_selectors (slice_split is_comma text) → slice_split is_comma rest ≡ pieces_from is_comma piece behind → None ≡ selector_of (trimmed piece) → None ≡ selectors_of text
unfolding selectors_of
selectors-bad read rest piece text behind so_far cut bad = by behind cut ∙ so_far
  where
    by : (behind : Option (List ℕ)) → slice_split is_comma rest ≡ pieces_from is_comma piece behind → None ≡ option_map (λ (more : List Selector). read ++ more) (all_selectors (slice_split is_comma rest))
    by None cut = rw (cut, ← bad) refl
    by (Some more) cut = rw (cut, ← bad) refl

-- the last one
pub selectors-last : (read : List Selector) (selector : Selector) (rest piece text : List ℕ) → option_map (λ (more : List Selector). read ++ more) (all_selectors (slice_split is_comma rest)) ≡ all_selectors (slice_split is_comma text) → slice_split is_comma rest ≡ pieces_from is_comma piece None → Some selector ≡ selector_of (trimmed piece) → Some (read ++ selector ∷ []) ≡ selectors_of text
unfolding selectors_of
selectors-last read selector rest piece text so_far cut good = by ∙ so_far
  where
    by : Some (read ++ selector ∷ []) ≡ option_map (λ (more : List Selector). read ++ more) (all_selectors (slice_split is_comma rest))
    by = rw (cut, ← good) refl
