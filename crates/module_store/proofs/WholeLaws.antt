-- The parts of the module that a section makes whole.
use Rattle.std.proofs.Common.{◌≡◌, ◌≢◌, ◌∙◌, ℕ, true, false, cond, List, Option, Some, None, refl, sym, ap, subst}
use Rattle.std.specs.Prelude.{option_map}
use Rattle.std.specs.Option.{option_map_or}
use Rattle.std.proofs.lemmas.Bool.{eq-eqb, ne_eqb}
use Rattle.carousel_blocks.specs.Message.{Message}
use Rattle.carousel_blocks.specs.Staging.{made_whole}
use Rattle.multipart_entities.specs.declared.parts.Part.{Part}
use Rattle.module_store.specs.Resources.{holds_entity, info_in_force}
use Rattle.module_store.specs.Entities.{ArePartsOf, StagesParts, parts_at, with_parts}

module _ (old new : List (ℕ × List Part)) (messages : List Message) (section : List ℕ) (number : ℕ)
    (is : Some number ≡ option_map (λ whole. whole.0) (made_whole messages section)) where
  its_number : (whole : ℕ × List ℕ) → made_whole messages section ≡ Some whole → number ≡ whole.0
  its_number whole e = let h : Some number ≡ Some whole.0 = is ∙ ap (λ o. option_map (λ whole. whole.0) o) e in cc

  -- it holds no entity
  pub stages_none : false ≡ option_map_or holds_entity (info_in_force messages number) false → StagesParts old old messages section
  stages_none no_entity = record {
    whole = λ other info bytes low e told holds.
        let told_here = ap (λ n. info_in_force messages n) (its_number (other, bytes) e) ∙ told in
        let contrary : false ≡ true = no_entity ∙ ap (λ o. option_map_or holds_entity o false) told_here ∙ holds in
        absurd cc;
    others = λ other differ. refl;
  }

  -- another number is that of no module made whole
  apart : (other : ℕ) → ((bytes : List ℕ) → made_whole messages section ≡ Some (other, bytes) → ⊥) → number ≢ other
  apart other differ same = by_whole (made_whole messages section) refl is
    where
      by_whole : (o : Option (ℕ × List ℕ)) → made_whole messages section ≡ o → Some number ≡ option_map (λ whole. whole.0) o → ⊥
      by_whole None e h = absurd cc
      by_whole (Some whole) e h =
          let first : whole.0 ≡ other = sym (its_number whole e) ∙ same in
          differ whole.1 (e ∙ ap (λ n. let w : ℕ × List ℕ = (n, whole.1) in Some w) first)

  pub stages_put : (parts : Option (List Part)) → ((other : ℕ) (bytes : List ℕ) → made_whole messages section ≡ Some (other, bytes) → ArePartsOf bytes parts)
      → ((other : ℕ) → parts_at new other ≡ with_parts number parts (parts_at old) other) → StagesParts old new messages section
  stages_put parts are put = record {
    whole = λ other info bytes low e told holds.
        let same = eq-eqb number other (its_number (other, bytes) e) in
        subst (λ o. ArePartsOf bytes o) (sym (put other ∙ ap (λ b. cond b parts (parts_at old other)) same)) (are other bytes e);
    others = λ other differ. put other ∙ ap (λ b. cond b parts (parts_at old other)) (ne_eqb number other (apart other differ));
  }
