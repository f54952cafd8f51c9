-- What a module has under a name.
use Rattle.std.proofs.Common.{◌≡◌, ◌∙◌, ℕ, ◌+◌, ◌<◌, ◌≤◌, Bool, true, false, List, length, All, Option, Some, None, refl, sym, ap, subst, inl, inr, arith, Bor}
use Rattle.std.specs.Prelude.{◌⊎◌, find, option_map, option_copied, MatchOption, IfSome, is_some, option_and_then, Result, Ok, Err}
use Rattle.std.specs.List.{slice_range}
use Rattle.std.specs.Result.{result_ok}
use Rattle.dsmcc_messages.specs.declared.entry.Entry.{Entry}
use Rattle.dsmcc_messages.specs.declared.dii.Dii.{Dii}
use Rattle.carousel_blocks.specs.declared.standing.SkipCause.{SkipCause}
use Rattle.carousel_blocks.specs.declared.standing.Standing.{Standing}
use Rattle.carousel_blocks.specs.Message.{Message}
use Rattle.carousel_blocks.specs.InForce.{in_force, standing_of}
use Rattle.carousel_blocks.specs.Held.{bytes_held}
use Rattle.carousel_blocks.specs.Carousel.{entry_in_force, skip_in_force}
use Rattle.carousel_blocks.specs.Changes.{number_bound}
use Rattle.multipart_entities.specs.declared.faults.EntityFault.{EntityFault}
use Rattle.multipart_entities.specs.declared.parts.Part.{Part}
use Rattle.multipart_entities.specs.Parts.{is_named, named_parts, place_of}
use Rattle.module_store.specs.Resources.{HasAtMost, holds_entity, part_in, whole_named, named_as, named_in, found_or_missing, look_at, look_unless, look_by, look_behind, look_in, info_in_force}
use Rattle.module_store.specs.Entities.{IsInside, ArePartsOf, KeepsParts, parts_at}
use Rattle.module_store.proofs.FindLaws.{found_has}

-- ---- the bytes of a part

-- what is found under a name lies within the bytes
pub place_inside : (size : ℕ) (place : ℕ × ℕ) (name : List ℕ) (parts : List Part) → All (IsInside size) parts → Some place ≡ place_of name parts → (place.0 ≤ place.1) × (place.1 ≤ size)
place_inside size place name parts inside e = by_part (find (is_named name) parts) refl e
  where
    by_part : (o : Option Part) → find (is_named name) parts ≡ o → Some place ≡ option_map (λ part. (part.start, part.end)) o → (place.0 ≤ place.1) × (place.1 ≤ size)
    by_part None found e = absurd cc
    by_part (Some part) found e =
        let within = found_has (IsInside size) (is_named name) parts part inside found in
        let same : place ≡ (part.start, part.end) = cc in
        let start : place.0 ≡ part.start = ap (λ (p : ℕ × ℕ). p.0) same in
        let end : place.1 ≡ part.end = ap (λ (p : ℕ × ℕ). p.1) same in
        (omega (arith, within.0), omega (arith, within.1))

-- the bytes from a place up to another, where both lie within
pub sliced : (bytes : List ℕ) (start end : ℕ) (found : Option (Bor (List ℕ))) → (start ≤ end) × (end ≤ length bytes)
    → MatchOption found ((end < start) ⊎ (length bytes < end)) (λ x. (start ≤ end) × (end ≤ length bytes) × (x.now ≡ slice_range bytes start end) × (length x.now + start ≡ end))
    → option_copied found ≡ Some (slice_range bytes start end)
sliced bytes start end None within (inl h) = absurd (omega (arith, within.0))
sliced bytes start end None within (inr h) = absurd (omega (arith, within.1))
sliced bytes start end (Some x) within h = ap (λ (l : List ℕ). Some l) h.2

-- ---- by what a module holds

of_none : (bytes name : List ℕ) (parts : Result (List Part) EntityFault) → None ≡ result_ok parts → part_in bytes name parts ≡ None
of_none bytes name (Err fault) e = refl
of_none bytes name (Ok parts) e = absurd cc

of_some : (bytes name : List ℕ) (kept : List Part) (parts : Result (List Part) EntityFault) → Some kept ≡ result_ok parts
    → part_in bytes name parts ≡ option_map (λ place. slice_range bytes place.0 place.1) (place_of name kept)
of_some bytes name kept (Err fault) e = absurd cc
of_some bytes name kept (Ok parts) e = let same : kept ≡ parts = cc in ap (λ l. option_map (λ place. slice_range bytes place.0 place.1) (place_of name l)) (sym same)

pub entity_without_parts : (is_entity : Bool) (bytes name : List ℕ) → is_entity ≡ true → ArePartsOf bytes None → named_as is_entity bytes name ≡ None
unfolding named_as
entity_without_parts is_entity bytes name holds parts = rw holds (of_none bytes name (named_parts bytes) parts.are)

pub entity_with_parts : (is_entity : Bool) (bytes name : List ℕ) (kept : List Part) → is_entity ≡ true → ArePartsOf bytes (Some kept)
    → named_as is_entity bytes name ≡ option_map (λ place. slice_range bytes place.0 place.1) (place_of name kept)
unfolding named_as
entity_with_parts is_entity bytes name kept holds parts = rw holds (of_some bytes name kept (named_parts bytes) parts.are)

pub one_resource : (is_entity : Bool) (bytes name : List ℕ) → is_entity ≡ false → named_as is_entity bytes name ≡ whole_named bytes name
unfolding named_as
one_resource is_entity bytes name holds = rw holds refl

-- ---- a module that is held

module _ (messages : List Message) (number : ℕ) (name : List ℕ) (entry : Entry) (bytes : List ℕ) (found : Option (List ℕ))
    (is_held : Some bytes ≡ bytes_held messages number) (has : found ≡ named_in entry.info bytes name) where
  by_skip : (skip : Option SkipCause) (info : List ℕ) → entry.info ≡ info → false ≡ is_some skip → found_or_missing found ≡ look_unless skip info (bytes_held messages number) name
  by_skip None info same e = ap (λ o. found_or_missing o) (has ∙ ap (λ i. named_in i bytes name) same) ∙ ap (λ o. look_at info o name) is_held
  by_skip (Some cause) info same e = absurd cc

  by_standing : (o : Option Standing) → Some entry ≡ option_map (λ s. s.entry) o → false ≡ is_some (option_and_then (λ s. s.skip) o) → found_or_missing found ≡ look_by o (bytes_held messages number) name
  by_standing None e s = absurd cc
  by_standing (Some standing) e s = let same : entry ≡ standing.entry = cc in by_skip standing.skip standing.entry.info (ap (λ (x : Entry). x.info) same) s

  by_dii : (o : Option Dii) → Some entry ≡ option_map (λ s. s.entry) (standing_of o number) → false ≡ is_some (option_and_then (λ s. s.skip) (standing_of o number))
      → found_or_missing found ≡ look_behind o messages number name
  by_dii None e s = absurd cc
  by_dii (Some dii) e s = by_standing (standing_of (Some dii) number) e s

  pub look_held : Some entry ≡ entry_in_force messages number → false ≡ is_some (skip_in_force messages number) → found_or_missing found ≡ look_in (Some messages) number name
  look_held e s = by_dii (in_force messages) e s

-- the parts that are kept for it
pub parts_held : (entities : List (ℕ × List Part)) (messages : List Message) (number : ℕ) (entry : Entry) (bytes : List ℕ) (kept : Option (List Part)) → KeepsParts entities messages → number < number_bound
    → Some entry ≡ entry_in_force messages number → Some bytes ≡ bytes_held messages number → kept ≡ parts_at entities number → holds_entity entry.info ≡ true → ArePartsOf bytes kept
parts_held entities messages number entry bytes kept keeps low e h k holds =
    let told : info_in_force messages number ≡ Some entry.info = ap (λ o. option_map (λ (x : Entry). x.info) o) (sym e) in
    subst (λ o. ArePartsOf bytes o) (sym k) (keeps number entry.info bytes low told holds (sym h))

-- what is found has no more bytes than its module
pub few_found : (found : Option (Bor (List ℕ))) (size limit : ℕ) → size ≤ limit → IfSome found (λ f. length f.now ≤ size) → HasAtMost limit (found_or_missing (option_copied found))
few_found None size limit most within = tt
few_found (Some f) size limit most within = omega (arith, within)
