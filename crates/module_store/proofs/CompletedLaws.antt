-- The module that a section completed, by the changes that it told.
use Rattle.std.proofs.Common.{◌≡◌, ◌≢◌, ◌∙◌, ℕ, zero, suc, ◌+◌, ◌<◌, ◌≤◌, Bool, true, false, cond, eqb, List, [], ◌∷◌, ◌++◌, Option, Some, None, refl, sym, ap, inl, inr, arith}
use Rattle.std.specs.Prelude.{◌⊎◌, find, is_none, option_map}
use Rattle.std.specs.List.{filter_map, range_with_len, cons_option}
use Rattle.std.proofs.lemmas.Bool.Decides.{eqb_tells}
use Rattle.std.proofs.lemmas.List.{append-nil}
use Rattle.carousel_blocks.specs.declared.changes.Change.{Change}
use Rattle.carousel_blocks.specs.Message.{Message, message_of, messages_of}
use Rattle.carousel_blocks.specs.Held.{bytes_held}
use Rattle.carousel_blocks.specs.Changes.{change_at, changes, number_bound}
use Rattle.carousel_blocks.specs.Staging.{made_whole}
use Rattle.module_store.specs.Carousels.{MessageLaws}
use Rattle.module_store.specs.Resources.{info_in_force}
use Rattle.module_store.proofs.SectionLaws.{made_by, owns}

abbrev pub without_status : Change → Bool
without_status change = is_none change.status

record Passes (change : ℕ → Option Change) (c : Change) : Type 0 where
  number : ℕ
  is : change number ≡ Some c
  status : is_none c.status ≡ true

passes_among : (change : ℕ → Option Change) (c : Change) (from count : ℕ) → find without_status (filter_map change (range_with_len from count)) ≡ Some c → Passes change c
passes_among change c from zero e = absurd cc
passes_among change c from (suc count) e = by (change from) refl e (passes_among change c (from + 1) count) where
  by : (o : Option Change) → change from ≡ o → find without_status (cons_option o (filter_map change (range_with_len (from + 1) count))) ≡ Some c
      → (find without_status (filter_map change (range_with_len (from + 1) count)) ≡ Some c → Passes change c) → Passes change c
  by None there e again = again e
  by (Some d) there e again = by_status (is_none d.status) refl e
    where
      by_status : (t : Bool) → is_none d.status ≡ t → cond t (Some d) (find without_status (filter_map change (range_with_len (from + 1) count))) ≡ Some c → Passes change c
      by_status true s e = let q : d ≡ c = cc in record { number = from; is = there ∙ ap (λ (x : Change). Some x) q; status = ap (λ (x : Change). is_none x.status) (sym q) ∙ s }
      by_status false s e = again e

none_among : (change : ℕ → Option Change) (c : Change) (number from count : ℕ) → from ≤ number → number < from + count → find without_status (filter_map change (range_with_len from count)) ≡ None
    → change number ≡ Some c → is_none c.status ≡ true → ⊥
none_among change c number from zero low high e is status = omega arith
none_among change c number from (suc count) low high e is status =
    by (change from) refl e (eqb_tells from number) (λ low e. none_among change c number (from + 1) count low (omega arith) e is status)
  where
    by : (o : Option Change) → change from ≡ o → find without_status (cons_option o (filter_map change (range_with_len (from + 1) count))) ≡ None
        → ((eqb from number ≡ true) × (from ≡ number)) ⊎ ((eqb from number ≡ false) × (from ≢ number))
        → (from + 1 ≤ number → find without_status (filter_map change (range_with_len (from + 1) count)) ≡ None → ⊥) → ⊥
    by None there e (inl same) again = let p = sym there ∙ ap change same.1 ∙ is in cc
    by None there e (inr differ) again = again (omega arith) e
    by (Some d) there e (inl same) again =
        let p : d ≡ c = let q = sym there ∙ ap change same.1 ∙ is in cc in
        by_status (is_none d.status) (ap (λ (x : Change). is_none x.status) p ∙ status) e
      where
        by_status : (t : Bool) → t ≡ true → cond t (Some d) (find without_status (filter_map change (range_with_len (from + 1) count))) ≡ None → ⊥
        by_status true s e = cc
        by_status false s e = cc
    by (Some d) there e (inr differ) again = again (omega arith) (behind (is_none d.status) e)
      where
        behind : (t : Bool) → cond t (Some d) (find without_status (filter_map change (range_with_len (from + 1) count))) ≡ None → find without_status (filter_map change (range_with_len (from + 1) count)) ≡ None
        behind true e = absurd cc
        behind false e = e

no_status : (o : Option ℕ) → is_none o ≡ true → o ≡ None
no_status None e = refl
no_status (Some s) e = absurd cc

-- the module that was completed, with its bytes
pub record Completes (messages : List Message) (section : List ℕ) (number : ℕ) : Type 0 where
  pub bytes : List ℕ
  pub made : made_whole messages section ≡ Some (number, bytes)
  pub is_held : bytes_held (messages ++ messages_of (section ∷ [])) number ≡ Some bytes
  pub info : info_in_force (messages ++ messages_of (section ∷ [])) number ≡ info_in_force messages number

module _ (laws : MessageLaws) (messages : List Message) (section : List ℕ) (found : List Change) where
  pub completes : found ≡ changes messages (messages ++ messages_of (section ∷ [])) → (number : ℕ) → Some number ≡ option_map (λ c. c.module) (find without_status found) → Completes messages section number
  unfolding changes
  completes are number is = by_found (find without_status found) refl is
    where
      by_found : (o : Option Change) → find without_status found ≡ o → Some number ≡ option_map (λ c. c.module) o → Completes messages section number
      by_found None f is = absurd cc
      by_found (Some c) f is = by_message (message_of section) refl (sym (ap (find without_status) are) ∙ f)
        where
          numbered : c.module ≡ number
          numbered = cc

          by_message : (m : Option Message) → message_of section ≡ m → find without_status (changes messages (messages ++ cons_option m [])) ≡ Some c → Completes messages section number
          by_message None e f =
              let none = ap (λ l. find without_status l) (ap (λ l. changes messages l) (append-nil messages) ∙ laws.none messages) in
              absurd (let p = sym none ∙ f in cc)
          by_message (Some message) e f =
              let now = messages ++ message ∷ [] in
              let p = passes_among (change_at messages now) c 0 number_bound f in
              let same : p.number ≡ number = sym (owns messages now number p.number c p.is) ∙ numbered in
              let told : change_at messages now number ≡ Some c = ap (change_at messages now) (sym same) ∙ p.is in
              let status = no_status c.status p.status in
              let whole = laws.whole messages message number c told status in
              let behind : messages ++ messages_of (section ∷ []) ≡ now = ap (λ m. messages ++ cons_option m []) e in
              record {
                bytes = whole.0;
                made = made_by messages section (Some message) e ∙ whole.2;
                is_held = ap (λ l. bytes_held l number) behind ∙ whole.1;
                info = ap (λ l. info_in_force l number) behind ∙ laws.info messages message number c told status;
              }

  pub none_completed : found ≡ changes messages (messages ++ messages_of (section ∷ [])) → None ≡ option_map (λ c. c.module) (find without_status found) → (number : ℕ) (bytes : List ℕ) → number < number_bound
      → made_whole messages section ≡ Some (number, bytes) → ⊥
  unfolding changes
  none_completed are none number bytes low made = by_message (message_of section) refl (sym (ap (find without_status) are) ∙ absent (find without_status found) none)
    where
      absent : (o : Option Change) → None ≡ option_map (λ (c : Change). c.module) o → o ≡ None
      absent None e = refl
      absent (Some c) e = absurd cc

      by_message : (m : Option Message) → message_of section ≡ m → find without_status (changes messages (messages ++ cons_option m [])) ≡ None → ⊥
      by_message None e f = let p = sym (made_by messages section None e) ∙ made in cc
      by_message (Some message) e f =
          let told = laws.change messages message number bytes (sym (made_by messages section (Some message) e) ∙ made) in
          none_among (change_at messages (messages ++ message ∷ [])) told.0 number 0 number_bound (omega arith) (omega arith) f told.1 (ap (λ (s : Option ℕ). is_none s) told.2)
