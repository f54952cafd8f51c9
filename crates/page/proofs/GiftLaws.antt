-- What is found of the needs of a draft, need by need.
use Rattle.std.proofs.Common.{◌≡◌, ◌∙◌, ℕ, zero, suc, ◌+◌, ◌<◌, List, [], ◌∷◌, length, refl, sym, ap, add-one, arith}
use Rattle.std.specs.Option.{option_map_or}
use Rattle.std.specs.Prelude.{Option, Some, None, map, option_and_then, replicate, slice_get, slice_set}
use Rattle.module_locks.specs.Locks.{Modules}
use Rattle.module_locks.specs.Standing.{ModulesState, StandsFor}
use Rattle.document_load.specs.Drafts.{DraftState, with_gift, with_gifts}
use Rattle.page.specs.Loading.{text_at}
use Rattle.page.specs.devices.Gifts.{GivesFound, with_found}

-- what is given once the first needs had their turn
pub gifts_below : {A B : Type 0} → (A → Option B) → ℕ → List A → List (Option B)
gifts_below found number [] = []
gifts_below found zero (need ∷ needs) = None ∷ gifts_below found zero needs
gifts_below found (suc number) (need ∷ needs) = found need ∷ gifts_below found number needs

abbrev put_found : {B : Type 0} → ℕ → Option B → List (Option B) → List (Option B)
put_found number None gifts = gifts
put_found number (Some text) gifts = slice_set gifts number (Some text)

none_below : {A B : Type 0} (found : A → Option B) (needs : List A) → gifts_below found 0 needs ≡ replicate (length needs) None
unfolding gifts_below
none_below found [] = refl
none_below found (need ∷ needs) = ap (λ l. None ∷ l) (none_below found needs)

all_below : {A B : Type 0} (found : A → Option B) (needs : List A) → gifts_below found (length needs) needs ≡ map found needs
unfolding gifts_below
all_below found [] = refl
all_below found (need ∷ needs) = ap (λ l. found need ∷ l) (all_below found needs)

one_below : {A B : Type 0} (found : A → Option B) (number : ℕ) (needs : List A) → number < length needs → gifts_below found (suc number) needs ≡ put_found number (option_and_then found (slice_get needs number)) (gifts_below found number needs)
unfolding gifts_below
one_below found number [] h = absurd (omega arith)
one_below found zero (need ∷ needs) h = by (found need) (gifts_below found zero needs)
  where
    by : {B : Type 0} (o : Option B) (gifts : List (Option B)) → o ∷ gifts ≡ put_found 0 o (None ∷ gifts)
    by None gifts = refl
    by (Some text) gifts = refl
one_below found (suc number) (need ∷ needs) h =
    ap (λ l. found need ∷ l) (one_below found number needs (omega arith)) ∙ by number (found need) (option_and_then found (slice_get needs number)) (gifts_below found number needs)
  where
    by : {B : Type 0} (number : ℕ) (first o : Option B) (gifts : List (Option B)) → first ∷ put_found number o gifts ≡ put_found (suc number) o (first ∷ gifts)
    by number first None gifts = refl
    by number first (Some text) gifts = refl

with_found-gifts : (modules : Modules) (number : ℕ) (gifts : List (Option (List ℕ))) (draft : DraftState) → with_found modules number (with_gifts gifts draft) ≡ with_gifts (put_found number (option_and_then (text_at modules) (slice_get draft.needs number)) gifts) draft
with_found-gifts modules number gifts draft = by (option_and_then (text_at modules) (slice_get draft.needs number))
  where
    by : (o : Option (List ℕ)) → option_map_or (λ text. with_gift number text (with_gifts gifts draft)) o (with_gifts gifts draft) ≡ with_gifts (put_found number o gifts) draft
    by None = refl
    by (Some text) = refl

-- ---- the loop

-- what is found of the first needs is given
pub record GivesBelow (state : ModulesState) (number : ℕ) (old new : DraftState) : Type 0 where
  pub needs : new.needs ≡ old.needs
  pub below : old.given ≡ replicate (length old.needs) None
      → (modules : Modules) → StandsFor state modules → new ≡ with_gifts (gifts_below (text_at modules) number old.needs) old

pub GivesBelow-start : (state : ModulesState) (draft : DraftState) → GivesBelow state 0 draft draft
GivesBelow-start state draft = record {
  needs = refl;
  below = λ nothing modules stands. ap (λ gifts. with_gifts gifts draft) (nothing ∙ sym (none_below (text_at modules) draft.needs));
}

pub GivesBelow-more : (state : ModulesState) (number : ℕ) (old new more : DraftState) → number < length old.needs → GivesBelow state number old new → more.needs ≡ new.needs → ((modules : Modules) → StandsFor state modules → more ≡ with_found modules number new) → GivesBelow state (number + 1) old more
GivesBelow-more state number old new more within so_far same gives = record {
  needs = same ∙ so_far.needs;
  below = λ nothing modules stands.
      gives modules stands ∙ ap (with_found modules number) (so_far.below nothing modules stands)
      ∙ with_found-gifts modules number (gifts_below (text_at modules) number old.needs) old
      ∙ ap (λ gifts. with_gifts gifts old) (sym (one_below (text_at modules) number old.needs within) ∙ ap (λ (n : ℕ). gifts_below (text_at modules) n old.needs) (sym (add-one number)));
}

pub GivesBelow-end : (state : ModulesState) (number : ℕ) (old new : DraftState) → number ≡ length old.needs → GivesBelow state number old new → GivesFound state old new
GivesBelow-end state number old new all so_far = λ nothing modules stands.
    so_far.below nothing modules stands
    ∙ ap (λ gifts. with_gifts gifts old) (ap (λ (n : ℕ). gifts_below (text_at modules) n old.needs) all ∙ all_below (text_at modules) old.needs)
