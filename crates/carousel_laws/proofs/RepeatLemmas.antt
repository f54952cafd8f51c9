-- What one more section changes as long as the DII in force is only repeated: a module may be delivered, and nothing else.
use Rattle.std.proofs.Common.{◌≡◌, ℕ, ◌<◌, ◌^◌, ◌==◌, Bool, true, false, not, ◌&&◌, ◌||◌, List, [], ◌∷◌, ◌++◌, refl, sym, ap, ◌∙◌, subst, eqb-true, append-nil, if◌then◌else◌}
use Rattle.std.specs.Prelude.{All, Option, Some, None, is_some, option_and_then, option_map, option_to_list, bytes_eq}
use Rattle.std.specs.List.{cons_option}
use Rattle.std.proofs.lemmas.Bool.{eq-eqb, eqb-false}
use Rattle.std.proofs.lemmas.List.Elements.{All-cons, All-nil}
use Rattle.std.proofs.lemmas.Slice.Eq.{bytes_eq-Decides}
use Rattle.dsmcc_messages.specs.declared.dii.Dii.{Dii}
use Rattle.dsmcc_messages.specs.Ddb.{DataBlock}
use Rattle.carousel_blocks.specs.declared.changes.Change.{Change}
use Rattle.carousel_blocks.specs.declared.put.Put.{Put}
use Rattle.carousel_blocks.specs.declared.put.Put.TheVariants as puts
use Rattle.carousel_blocks.specs.declared.standing.SkipCause.{SkipCause}
use Rattle.carousel_blocks.specs.declared.standing.SkipCause.TheVariants.{Compressed, Large}
use Rattle.carousel_blocks.specs.declared.standing.Standing.{Standing}
use Rattle.carousel_blocks.specs.Carousel.{put_after}
use Rattle.carousel_blocks.specs.Changes.{change_at, change_of, changed, changes, completed, line_of}
use Rattle.carousel_blocks.specs.Held.{bytes_held, bytes_kept, counting_blocks, kept_with, same_skip, same_standing}
use Rattle.carousel_blocks.specs.InForce.{in_force, standing_of}
use Rattle.carousel_blocks.specs.Message.{Message, Indication, Data, message_of, messages_of}
use Rattle.carousel_blocks.specs.Staging.{IsSameModule, whole_by, whole_with}
use Rattle.module_locks.specs.Locks.{delivers}
use Rattle.carousel_laws.specs.Freedom.{OnlyRepeat}
use Rattle.carousel_laws.specs.Services.{IsDelivery}
use Rattle.carousel_laws.proofs.CompletingLemmas.{completed_module}
use Rattle.carousel_laws.proofs.SectionLemmas.{ReadingLaw, first_there, stays_in_force}

-- the laws of the carousel that are used
pub record ChangeLaws : Type 0 where
  pub reading : ReadingLaw
  pub same : (messages : List Message) → changes messages messages ≡ []
  pub repeated : (messages : List Message) (dii other : Dii) → in_force messages ≡ Some dii → other.transaction ≡ dii.transaction
      → changes messages (messages ++ Indication other ∷ []) ≡ []
  pub block : (messages : List Message) (block : DataBlock) → block.module < 2 ^ 16
      → changes messages (messages ++ Data block ∷ []) ≡ option_to_list (change_at messages (messages ++ Data block ∷ []) block.module)
  pub untold : (messages : List Message) (message : Message) (number : ℕ) → change_at messages (messages ++ message ∷ []) number ≡ None
      → IsSameModule messages (messages ++ message ∷ []) number
  pub whole : (messages : List Message) (message : Message) (number : ℕ) (change : Change)
      → change_at messages (messages ++ message ∷ []) number ≡ Some change → change.status ≡ None
      → (bytes : List ℕ) × (bytes_held (messages ++ message ∷ []) number ≡ Some bytes) × (whole_with messages (Some message) ≡ Some (number, bytes))

-- ---- an entry is the same as itself

same_skip_as_itself : (cause : Option SkipCause) → same_skip cause cause ≡ true
same_skip_as_itself None = refl
same_skip_as_itself (Some Compressed) = refl
same_skip_as_itself (Some Large) = refl

all_seven : (a b c d e f g : Bool) → a ≡ true → b ≡ true → c ≡ true → d ≡ true → e ≡ true → f ≡ true → g ≡ true
    → (a && (b && (c && (d && (e && (f && g)))))) ≡ true
all_seven a b c d e f g ha hb hc hd he hf hg = cc

same_as_itself : (s : Standing) → same_standing s s ≡ true
same_as_itself s =
    all_seven (s.download == s.download) (s.block_size == s.block_size) (s.entry.id == s.entry.id) (s.entry.size == s.entry.size)
    (s.entry.version == s.entry.version) (bytes_eq s.entry.info s.entry.info) (same_skip s.skip s.skip)
    (eq-eqb s.download s.download refl) (eq-eqb s.block_size s.block_size refl) (eq-eqb s.entry.id s.entry.id refl)
    (eq-eqb s.entry.size s.entry.size refl) (eq-eqb s.entry.version s.entry.version refl)
    ((bytes_eq-Decides s.entry.info s.entry.info).1 refl) (same_skip_as_itself s.skip)

-- ---- what is told of one module

-- it is held now, and wasn't before
abbrev pub is_new : Option (List ℕ) → Option (List ℕ) → Bool
is_new before now = not (is_some before) && is_some now

abbrev new_change : ℕ → Bool → Standing → Option Change
new_change number new s = if new then Some (completed number s.entry) else None

change_of_same : (number : ℕ) (s : Standing) (before now : Option (List ℕ)) → change_of number (Some s) (Some s) before now ≡ new_change number (is_new before now) s
change_of_same number s before now =
    ap (λ t. if t then new_change number (is_new before now) s else Some (changed number (line_of s now))) (same_as_itself s)

-- without an entry nothing is held
none_held : (messages : List Message) (number : ℕ) → standing_of (in_force messages) number ≡ None → bytes_held messages number ≡ None
unfolding bytes_held
none_held messages number none = ap (λ s. option_and_then bytes_kept (option_map (kept_with (counting_blocks None number messages)) s)) none

-- Between two lists with the same DII in force: what is told of a module by its entry, which is the same.
module _ (before now : List Message) (force : in_force now ≡ in_force before) where
  change_is : (number : ℕ) → change_at before now number
      ≡ change_of number (standing_of (in_force before) number) (standing_of (in_force before) number) (bytes_held before number) (bytes_held now number)
  change_is number =
      ap (λ d. change_of number (standing_of (in_force before) number) (standing_of d number) (bytes_held before number) (bytes_held now number)) force

  abbrev new_at : ℕ → Bool
  new_at number = is_new (bytes_held before number) (bytes_held now number)

  -- a module that is held now, and wasn't before, was completed
  new_is_completed : (number : ℕ) → new_at number ≡ true → (s : Standing) × (change_at before now number ≡ Some (completed number s.entry))
  new_is_completed number new = by (standing_of (in_force before) number) refl where
    by : (o : Option Standing) → standing_of (in_force before) number ≡ o → (s : Standing) × (change_at before now number ≡ Some (completed number s.entry))
    by None is =
        let none = none_held now number (ap (λ d. standing_of d number) force ∙ is) in
        let not_new : is_new (bytes_held before number) None ≡ true = ap (λ b. is_new (bytes_held before number) b) (sym none) ∙ new in
        absurd (never (is_some (bytes_held before number)) not_new)
      where
        never : (t : Bool) → (not t && false) ≡ true → ⊥
        never true e = cc
        never false e = cc
    by (Some s) is = (
      s,
      change_is number
          ∙ ap (λ o. change_of number o o (bytes_held before number) (bytes_held now number)) is
          ∙ change_of_same number s (bytes_held before number) (bytes_held now number)
          ∙ ap (λ t. new_change number t s) new,
    )

  -- a module that was held is not told of
  held_untold : (number : ℕ) (bytes : List ℕ) → bytes_held before number ≡ Some bytes → change_at before now number ≡ None
  held_untold number bytes held =
      change_is number
      ∙ ap (λ o. change_of number (standing_of (in_force before) number) (standing_of (in_force before) number) o (bytes_held now number)) held
      ∙ quiet (standing_of (in_force before) number)
    where
      quiet : (o : Option Standing) → change_of number o o (Some bytes) (bytes_held now number) ≡ None
      quiet None = refl
      quiet (Some s) = change_of_same number s (Some bytes) (bytes_held now number)

  -- what is told of one module delivers it, or nothing is told
  told_is_delivery : (number : ℕ) → All IsDelivery (option_to_list (change_at before now number))
  told_is_delivery number = subst (λ (o : Option Change). All IsDelivery (option_to_list o)) (sym (change_is number)) (by (standing_of (in_force before) number)) where
    by : (o : Option Standing) → All IsDelivery (option_to_list (change_of number o o (bytes_held before number) (bytes_held now number)))
    by None = All-nil IsDelivery
    by (Some s) =
        subst (λ (o : Option Change). All IsDelivery (option_to_list o)) (sym (change_of_same number s (bytes_held before number) (bytes_held now number)))
        (made (new_at number))
      where
        made : (t : Bool) → All IsDelivery (option_to_list (new_change number t s))
        made true = All-cons IsDelivery (completed number s.entry) [] (record { version = s.entry.version; size = s.entry.size; line_is = refl }) (All-nil IsDelivery)
        made false = All-nil IsDelivery

  -- it is this module exactly where it is held now, and wasn't before
  told_delivers : (number its : ℕ) → delivers number (option_to_list (change_at before now its)) ≡ ((its == number) && new_at its)
  told_delivers number its = ap (λ (o : Option Change). delivers number (option_to_list o)) (change_is its) ∙ by (standing_of (in_force before) its) refl where
    ends_false : (t u : Bool) → false ≡ (t && (not u && false))
    ends_false true true = refl
    ends_false true false = refl
    ends_false false u = refl

    made : (t n : Bool) (s : Standing) → (its == number) ≡ t → delivers number (option_to_list (new_change its n s)) ≡ (t && n)
    made true true s is = ap (λ t. (t && true) || false) is
    made false true s is = ap (λ t. (t && true) || false) is
    made true false s is = refl
    made false false s is = refl

    by : (o : Option Standing) → standing_of (in_force before) its ≡ o
        → delivers number (option_to_list (change_of its o o (bytes_held before its) (bytes_held now its))) ≡ ((its == number) && new_at its)
    by None is =
        let none = none_held now its (ap (λ d. standing_of d its) force ∙ is) in
        ends_false (its == number) (is_some (bytes_held before its)) ∙ ap (λ b. (its == number) && is_new (bytes_held before its) b) (sym none)
    by (Some s) is =
        ap (λ (o : Option Change). delivers number (option_to_list o)) (change_of_same its s (bytes_held before its) (bytes_held now its))
        ∙ made (its == number) (new_at its) s refl

-- a block makes its own module whole
own_module : (messages : List Message) (block : DataBlock) (number : ℕ) (bytes : List ℕ) → whole_with messages (Some (Data block)) ≡ Some (number, bytes) → number ≡ block.module
own_module messages block number bytes whole = by (put_after messages block) refl whole where
  by : (put : Put) → put_after messages block ≡ put → whole_by messages block put ≡ Some (number, bytes) → number ≡ block.module
  by puts.Ignored is whole = absurd cc
  by puts.Kept is whole = absurd cc
  by (puts.Completed other) is whole = has (bytes_held (messages ++ Data block ∷ []) other) whole where
    has : (o : Option (List ℕ)) → option_map {U = ℕ × List ℕ} (λ bytes. (other, bytes)) o ≡ Some (number, bytes) → number ≡ block.module
    has None e = absurd cc
    has (Some held) e = sym (ap its_number e) ∙ completed_module messages block other is where
      its_number : Option (ℕ × List ℕ) → ℕ
      its_number None = number
      its_number (Some whole) = whole.0

-- ---- one more section

module _ (laws : ChangeLaws) (messages : List Message) (dii : Dii) (section : List ℕ) (is : in_force messages ≡ Some dii) (repeat : OnlyRepeat dii.transaction (section ∷ [])) where
  abbrev pub after : List Message
  after = messages ++ messages_of (section ∷ [])

  pub still_in_force : in_force after ≡ Some dii
  still_in_force = stays_in_force laws.reading messages dii (section ∷ []) is repeat

  same_force : in_force after ≡ in_force messages
  same_force = still_in_force ∙ sym is

  -- what is held stays
  pub held_stays : (number : ℕ) (bytes : List ℕ) → bytes_held messages number ≡ Some bytes → bytes_held after number ≡ Some bytes
  held_stays number bytes held = by (message_of section) same_force where
    by : (o : Option Message) → in_force (messages ++ cons_option o []) ≡ in_force messages → bytes_held (messages ++ cons_option o []) number ≡ Some bytes
    by None force = ap (λ l. bytes_held l number) (append-nil messages) ∙ held
    by (Some message) force =
        (laws.untold messages message number (held_untold messages (messages ++ message ∷ []) force number bytes held)).bytes ∙ held

  -- all that is told are deliveries
  pub all_deliveries : All IsDelivery (changes messages after)
  all_deliveries = by (message_of section) refl same_force where
    none : (l : List Change) → l ≡ [] → All IsDelivery l
    none l e = subst (λ (x : List Change). All IsDelivery x) (sym e) (All-nil IsDelivery)

    by : (o : Option Message) → message_of section ≡ o → in_force (messages ++ cons_option o []) ≡ in_force messages → All IsDelivery (changes messages (messages ++ cons_option o []))
    by None e force = none (changes messages (messages ++ [])) (ap (changes messages) (append-nil messages) ∙ laws.same messages)
    by (Some (Indication other)) e force =
        none (changes messages (messages ++ Indication other ∷ []))
        (laws.repeated messages dii other is (repeat section other (first_there section []) ((laws.reading section (Indication other)).1 e)))
    by (Some (Data block)) e force =
        subst (λ (l : List Change). All IsDelivery l) (sym (laws.block messages block ((laws.reading section (Data block)).1 e).module_fits))
        (told_is_delivery messages (messages ++ Data block ∷ []) force block.module)

  -- a module is delivered exactly where it is held now, and wasn't before
  pub delivers_new : (number : ℕ) → delivers number (changes messages after) ≡ is_new (bytes_held messages number) (bytes_held after number)
  delivers_new number = by (message_of section) refl same_force where
    not_both : (t : Bool) → false ≡ (not t && t)
    not_both true = refl
    not_both false = refl

    -- what can't be new isn't
    old : (message : Message) → in_force (messages ++ message ∷ []) ≡ in_force messages
        → ((bytes : List ℕ) → whole_with messages (Some message) ≡ Some (number, bytes) → ⊥)
        → false ≡ is_new (bytes_held messages number) (bytes_held (messages ++ message ∷ []) number)
    old message force never = tested (is_new (bytes_held messages number) (bytes_held (messages ++ message ∷ []) number)) refl where
      tested : (t : Bool) → is_new (bytes_held messages number) (bytes_held (messages ++ message ∷ []) number) ≡ t → false ≡ t
      tested false e = refl
      tested true e =
          let told = new_is_completed messages (messages ++ message ∷ []) force number e in
          let whole = laws.whole messages message number (completed number told.0.entry) told.1 refl in
          absurd (never whole.0 whole.2)

    by : (o : Option Message) → message_of section ≡ o → in_force (messages ++ cons_option o []) ≡ in_force messages
        → delivers number (changes messages (messages ++ cons_option o [])) ≡ is_new (bytes_held messages number) (bytes_held (messages ++ cons_option o []) number)
    by None e force =
        ap (delivers number) (ap (changes messages) (append-nil messages) ∙ laws.same messages)
        ∙ not_both (is_some (bytes_held messages number))
        ∙ ap (λ l. is_new (bytes_held messages number) (bytes_held l number)) (sym (append-nil messages))
    by (Some (Indication other)) e force =
        ap (delivers number) (laws.repeated messages dii other is (repeat section other (first_there section []) ((laws.reading section (Indication other)).1 e)))
        ∙ old (Indication other) force (λ bytes whole. let none : None ≡ Some (number, bytes) = whole in cc)
    by (Some (Data block)) e force =
        ap (delivers number) (laws.block messages block ((laws.reading section (Data block)).1 e).module_fits)
        ∙ told_delivers messages now force number block.module
        ∙ own (block.module == number) refl
      where
        now : List Message
        now = messages ++ Data block ∷ []

        own : (t : Bool) → (block.module == number) ≡ t
            → (t && is_new (bytes_held messages block.module) (bytes_held now block.module)) ≡ is_new (bytes_held messages number) (bytes_held now number)
        own true same = ap (λ n. is_new (bytes_held messages n) (bytes_held now n)) (eqb-true block.module number same)
        own false other = old (Data block) force (λ bytes whole. eqb-false block.module number other (sym (own_module messages block number bytes whole)))
