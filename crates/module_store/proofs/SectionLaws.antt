-- What a section makes of the parts that are kept, and of the modules when nothing is told.
use Rattle.std.proofs.Common.{◌≡◌, ◌≢◌, ◌∙◌, ℕ, zero, suc, ◌+◌, ◌<◌, ◌≤◌, Bool, true, false, cond, eqb, List, [], ◌∷◌, ◌++◌, Option, Some, None, refl, sym, ap, subst, inl, inr, arith}
use Rattle.std.specs.Prelude.{◌&&◌, ◌||◌, ◌⊎◌, not, is_some}
use Rattle.std.specs.Option.{option_map_or}
use Rattle.std.specs.List.{filter_map, range_with_len, cons_option}
use Rattle.std.specs.Result.{result_ok}
use Rattle.std.proofs.lemmas.Bool.{eq-eqb, ne_eqb}
use Rattle.std.proofs.lemmas.Bool.Decides.{eqb_tells}
use Rattle.std.proofs.lemmas.List.{append-nil}
use Rattle.carousel_blocks.specs.declared.standing.Standing.{Standing}
use Rattle.carousel_blocks.specs.declared.changes.Change.{Change}
use Rattle.carousel_blocks.specs.Message.{Message, message_of, messages_of}
use Rattle.carousel_blocks.specs.InForce.{in_force, standing_of}
use Rattle.carousel_blocks.specs.Held.{bytes_held, same_standing}
use Rattle.carousel_blocks.specs.Changes.{change_of, change_at, changes, number_bound, gone, changed, appeared, completed, line_of}
use Rattle.carousel_blocks.specs.Staging.{made_whole, whole_with}
use Rattle.multipart_entities.specs.declared.parts.Part.{Part}
use Rattle.multipart_entities.specs.Lines.{lines_of}
use Rattle.multipart_entities.specs.Entities.{entity}
use Rattle.multipart_entities.specs.Parts.{named_parts}
use Rattle.module_store.specs.Resources.{holds_entity, info_in_force}
use Rattle.module_store.specs.Entities.{ArePartsOf, KeepsParts, StagesParts, parts_at, is_reset, without_reset}
use Rattle.module_store.specs.Carousels.{MessageLaws}

-- ---- one module among the changes

-- a module's change has its number
own_number : (number : ℕ) (old new : Option Standing) (was now : Option (List ℕ)) (change : Change) → change_of number old new was now ≡ Some change → change.module ≡ number
own_number number None None was now change e = absurd cc
own_number number (Some old) None was now change e = let same : gone number ≡ change = cc in ap (λ (c : Change). c.module) (sym same)
own_number number None (Some new) was now change e = let same : appeared number (line_of new now) ≡ change = cc in ap (λ (c : Change). c.module) (sym same)
own_number number (Some old) (Some new) was now change e = by_test (same_standing old new) (not (is_some was) && is_some now) e
  where
    by_test : (same newly : Bool) → cond same (cond newly (Some (completed number new.entry)) None) (Some (changed number (line_of new now))) ≡ Some change → change.module ≡ number
    by_test true true e = let same : completed number new.entry ≡ change = cc in ap (λ (c : Change). c.module) (sym same)
    by_test true false e = absurd cc
    by_test false newly e = let same : changed number (line_of new now) ≡ change = cc in ap (λ (c : Change). c.module) (sym same)

-- a change of its entry, where it has one
abbrev resets : Option Change → Bool
resets change = option_map_or (λ c. is_some c.status) change false

module _ (change : ℕ → Option Change) (own : (number : ℕ) (c : Change) → change number ≡ Some c → c.module ≡ number) where
  passes_by : (number from : ℕ) (o : Option Change) (behind : List Change) → change from ≡ o → from ≢ number → is_reset number (cons_option o behind) ≡ is_reset number behind
  passes_by number from None behind e differ = refl
  passes_by number from (Some c) behind e differ =
      let apart : eqb c.module number ≡ false = ne_eqb c.module number (λ same. differ (sym (own from c e) ∙ same)) in
      ap (λ b. (b && is_some c.status) || is_reset number behind) apart

  not_below : (number from count : ℕ) → number < from → is_reset number (filter_map change (range_with_len from count)) ≡ false
  not_below number from zero low = refl
  not_below number from (suc count) low =
      let differ : from ≢ number = omega arith in
      passes_by number from (change from) (filter_map change (range_with_len (from + 1) count)) refl differ ∙ not_below number (from + 1) count (omega arith)

  or_false : (b : Bool) → (b || false) ≡ b
  or_false true = refl
  or_false false = refl

  here : (number : ℕ) (o : Option Change) (behind : List Change) → change number ≡ o → is_reset number behind ≡ false → is_reset number (cons_option o behind) ≡ resets o
  here number None behind e none = none
  here number (Some c) behind e none =
      ap (λ b. (b && is_some c.status) || is_reset number behind) (eq-eqb c.module number (own number c e)) ∙ ap (λ b. is_some c.status || b) none ∙ or_false (is_some c.status)

  reset_within : (number from count : ℕ) → from ≤ number → number < from + count → is_reset number (filter_map change (range_with_len from count)) ≡ resets (change number)
  reset_within number from zero low high = absurd (omega arith)
  reset_within number from (suc count) low high = by_place (eqb_tells from number) (λ low. reset_within number (from + 1) count low (omega arith))
    where
      by_place : ((eqb from number ≡ true) × (from ≡ number)) ⊎ ((eqb from number ≡ false) × (from ≢ number))
          → (from + 1 ≤ number → is_reset number (filter_map change (range_with_len (from + 1) count)) ≡ resets (change number))
          → is_reset number (filter_map change (range_with_len from (suc count))) ≡ resets (change number)
      by_place (inl same) behind =
          let none = not_below number (from + 1) count (omega arith) in
          ap (λ n. is_reset number (cons_option (change n) (filter_map change (range_with_len (from + 1) count)))) same.1
          ∙ here number (change number) (filter_map change (range_with_len (from + 1) count)) refl none
      by_place (inr differ) behind = passes_by number from (change from) (filter_map change (range_with_len (from + 1) count)) refl differ.1 ∙ behind (omega arith)

  none_within : (number from count : ℕ) → from ≤ number → number < from + count → filter_map change (range_with_len from count) ≡ [] → change number ≡ None
  none_within number from zero low high e = absurd (omega arith)
  none_within number from (suc count) low high e = by_first (change from) refl e (eqb_tells from number) (λ low behind. none_within number (from + 1) count low (omega arith) behind)
    where
      by_first : (o : Option Change) → change from ≡ o → cons_option o (filter_map change (range_with_len (from + 1) count)) ≡ []
          → ((eqb from number ≡ true) × (from ≡ number)) ⊎ ((eqb from number ≡ false) × (from ≢ number))
          → (from + 1 ≤ number → filter_map change (range_with_len (from + 1) count) ≡ [] → change number ≡ None) → change number ≡ None
      by_first (Some c) first e place behind = absurd cc
      by_first None first e (inl same) behind = ap (λ n. change n) (sym same.1) ∙ first
      by_first None first e (inr differ) behind = behind (omega arith) e

module _ (before now : List Message) (number : ℕ) where
  pub owns : (other : ℕ) (change : Change) → change_at before now other ≡ Some change → change.module ≡ other
  owns other change e = own_number other (standing_of (in_force before) other) (standing_of (in_force now) other) (bytes_held before other) (bytes_held now other) change e

  pub reset_by : number < number_bound → is_reset number (changes before now) ≡ resets (change_at before now number)
  unfolding changes
  reset_by low = reset_within (change_at before now) owns number 0 number_bound (omega arith) (omega arith)

  pub none_told : number < number_bound → changes before now ≡ [] → change_at before now number ≡ None
  unfolding changes
  none_told low e = none_within (change_at before now) owns number 0 number_bound (omega arith) (omega arith) e

-- ---- the parts

-- no bytes are no entity
no_entity : result_ok (named_parts []) ≡ None
unfolding entity lines_of
no_entity = refl

pub no_parts : ArePartsOf [] None
no_parts = record { are = sym no_entity; inside = tt }

-- what a section makes whole, by its message
pub made_by : (messages : List Message) (section : List ℕ) (message : Option Message) → message_of section ≡ message → made_whole messages section ≡ whole_with messages message
unfolding made_whole
made_by messages section message e = ap (λ o. whole_with messages o) e

module _ (laws : MessageLaws) (old staged : List (ℕ × List Part)) (messages : List Message) (section : List ℕ) (stages : StagesParts old staged messages section) where
  -- nothing is made whole without a message
  none_whole : (number : ℕ) → message_of section ≡ None → (bytes : List ℕ) → made_whole messages section ≡ Some (number, bytes) → ⊥
  none_whole number e bytes made = let contrary = sym (made_by messages section None e) ∙ made in cc

  -- a module of which nothing is told isn't made whole
  not_whole : (message : Message) (number : ℕ) → message_of section ≡ Some message → change_at messages (messages ++ message ∷ []) number ≡ None
      → (bytes : List ℕ) → made_whole messages section ≡ Some (number, bytes) → ⊥
  not_whole message number e none bytes made =
      let told = laws.change messages message number bytes (sym (made_by messages section (Some message) e) ∙ made) in
      let contrary = sym told.1 ∙ none in
      cc

  -- where the carousel stays, what is made whole wasn't held
  pub parts_kept : KeepsParts old messages → KeepsParts staged messages
  parts_kept keeps number info bytes low told holds is_held = by_message (message_of section) refl
    where
      stay : ((bytes : List ℕ) → made_whole messages section ≡ Some (number, bytes) → ⊥) → ArePartsOf bytes (parts_at staged number)
      stay differ = subst (λ o. ArePartsOf bytes o) (sym (stages.others number differ)) (keeps number info bytes low told holds is_held)

      by_message : (o : Option Message) → message_of section ≡ o → ArePartsOf bytes (parts_at staged number)
      by_message None e = stay (none_whole number e)
      by_message (Some message) e = stay (λ other made.
          let change = laws.change messages message number other (sym (made_by messages section (Some message) e) ∙ made) in
          let contrary = sym (laws.before messages message number change.0 change.1 change.2) ∙ is_held in
          cc)

  module _ (new : List (ℕ × List Part)) (found : List Change) (reset : (number : ℕ) → parts_at new number ≡ without_reset found (parts_at staged) number) where
    -- the parts of a module whose entry stays
    unless_reset : (number : ℕ) (bytes : List ℕ) → is_reset number found ≡ false → ArePartsOf bytes (parts_at staged number) → ArePartsOf bytes (parts_at new number)
    unless_reset number bytes e parts =
        subst (λ o. ArePartsOf bytes o) (sym (reset number ∙ ap (λ b. let o : Option (List Part) = cond b None (parts_at staged number) in o) e)) parts

    if_reset : (number : ℕ) → is_reset number found ≡ true → parts_at new number ≡ None
    if_reset number e = reset number ∙ ap (λ b. let o : Option (List Part) = cond b None (parts_at staged number) in o) e

    without_message : message_of section ≡ None → found ≡ changes messages (messages ++ []) → KeepsParts old messages → KeepsParts new (messages ++ [])
    without_message e are keeps number info bytes low told holds is_held =
        let same = append-nil messages in
        let none : found ≡ [] = are ∙ ap (λ m. changes messages m) same ∙ laws.none messages in
        let kept = keeps number info bytes low (ap (λ m. info_in_force m number) (sym same) ∙ told) holds (ap (λ m. bytes_held m number) (sym same) ∙ is_held) in
        unless_reset number bytes (ap (λ l. is_reset number l) none) (subst (λ o. ArePartsOf bytes o) (sym (stages.others number (none_whole number e))) kept)

    module _ (message : Message) (e : message_of section ≡ Some message) (are : found ≡ changes messages (messages ++ message ∷ [])) (keeps : KeepsParts old messages) where
      by_change : (number : ℕ) (info bytes : List ℕ) → number < number_bound → info_in_force (messages ++ message ∷ []) number ≡ Some info → holds_entity info ≡ true
          → bytes_held (messages ++ message ∷ []) number ≡ Some bytes → (o : Option Change) → change_at messages (messages ++ message ∷ []) number ≡ o → is_reset number found ≡ resets o
          → ArePartsOf bytes (parts_at new number)
      by_change number info bytes low told holds is_held None change is_reset =
          let same = laws.same messages message number change in
          let kept = keeps number info bytes low (sym same.info ∙ told) holds (sym same.bytes ∙ is_held) in
          unless_reset number bytes is_reset (subst (λ o. ArePartsOf bytes o) (sym (stages.others number (not_whole message number e change))) kept)
      by_change number info bytes low told holds is_held (Some c) change is_reset = by_status c.status refl
        where
          by_status : (o : Option ℕ) → c.status ≡ o → ArePartsOf bytes (parts_at new number)
          by_status None status =
              let whole = laws.whole messages message number c change status in
              let same : whole.0 ≡ bytes = let h = sym whole.1 ∙ is_held in cc in
              let made = made_by messages section (Some message) e ∙ whole.2 in
              let told_before = sym (laws.info messages message number c change status) ∙ told in
              unless_reset number bytes (is_reset ∙ ap (λ (s : Option ℕ). is_some s) status)
              (subst (λ b. ArePartsOf b (parts_at staged number)) same (stages.whole number info whole.0 low made told_before holds))
          by_status (Some s) status =
              let is_new = ap (λ (s : Option ℕ). is_some s) status in
              let empty = laws.new messages message number c bytes change is_new is_held in
              subst (λ b. ArePartsOf b (parts_at new number)) (sym empty) (subst (λ o. ArePartsOf [] o) (sym (if_reset number (is_reset ∙ is_new))) no_parts)

      with_message : KeepsParts new (messages ++ message ∷ [])
      with_message number info bytes low told holds is_held =
          by_change number info bytes low told holds is_held (change_at messages (messages ++ message ∷ []) number) refl
          (ap (λ l. is_reset number l) are ∙ reset_by messages (messages ++ message ∷ []) number low)

    pub parts_taken : found ≡ changes messages (messages ++ messages_of (section ∷ [])) → KeepsParts old messages → KeepsParts new (messages ++ messages_of (section ∷ []))
    parts_taken = by_message (message_of section) refl
      where
        by_message : (o : Option Message) → message_of section ≡ o → found ≡ changes messages (messages ++ cons_option o []) → KeepsParts old messages → KeepsParts new (messages ++ cons_option o [])
        by_message None e = without_message e
        by_message (Some message) e = with_message message e
