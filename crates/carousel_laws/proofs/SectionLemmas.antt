-- From lists of sections to the lists of their messages.
use Rattle.std.proofs.Common.{◌≡◌, ℕ, zero, suc, ◌<◌, ◌==◌, Bool, true, false, ◌&&◌, List, [], ◌∷◌, ◌++◌, length, refl, sym, ap, ◌∙◌, subst, arith, eqb-true, cond, find, ◌⊎◌, inl, inr, if◌then◌else◌}
use Rattle.std.specs.Prelude.{◌↔◌, Contains, nat_lt, slice_index_or, fold, Option, Some, None}
use Rattle.std.specs.List.{cons_option}
use Rattle.std.proofs.lemmas.Bool.{and_parts, eq-eqb}
use Rattle.std.proofs.lemmas.List.Elements.{Contains-append_right, Contains-append_cases}
use Rattle.std.proofs.lemmas.List.Sums.{fold-append}
use Rattle.dsmcc_messages.specs.declared.dii.Dii.{Dii}
use Rattle.dsmcc_messages.specs.Ddb.{DataBlock}
use Rattle.carousel_blocks.specs.declared.standing.Standing.{Standing}
use Rattle.carousel_blocks.specs.Message.{Message, Indication, Data, CarriesMessage, message_of, messages_of}
use Rattle.carousel_blocks.specs.InForce.{in_force, is_of_module, later, standings, standing_of}
use Rattle.carousel_blocks.specs.Held.{block_length, count_of, is_asked_by, bytes_held}
use Rattle.carousel_blocks.specs.Order.{data_of, OnlyRepeats, SameBlocks, AreConsistent}
use Rattle.carousel_laws.specs.Freedom.{Bring, OnlyRepeat, HaveOneReading, Repeats}

-- the laws of the carousel that are used
abbrev pub ReadingLaw : Type 0
ReadingLaw = (section : List ℕ) (message : Message) → CarriesMessage section message ↔ (message_of section ≡ Some message)

abbrev pub OrderLaw : Type 0
OrderLaw = (messages first second : List Message) (dii : Dii) (number : ℕ)
    → in_force messages ≡ Some dii → OnlyRepeats dii.transaction first → OnlyRepeats dii.transaction second → SameBlocks first second
    → AreConsistent (standing_of (Some dii) number) first
    → bytes_held (messages ++ first) number ≡ bytes_held (messages ++ second) number

-- ---- what a list has

pub first_there : {X : Type 0} (x : X) (xs : List X) → Contains (x ∷ xs) x
first_there x xs = (0, omega arith, refl)

further_there : {X : Type 0} (y : X) (xs : List X) (x : X) → Contains xs x → Contains (y ∷ xs) x
further_there y xs x there = Contains-append_right (y ∷ []) xs x there

none_there : {X : Type 0} (x : X) → Contains [] x → ⊥
none_there x there = let place = there.1 in omega arith

first_or_further : {X : Type 0} (y : X) (xs : List X) (x : X) → Contains (y ∷ xs) x → (y ≡ x) ⊎ Contains xs x
first_or_further {X = X} y xs x there = by (Contains-append_cases (y ∷ []) xs x there) where
  only : (k : ℕ) → k < length (y ∷ []) → slice_index_or (y ∷ []) k x ≡ x → y ≡ x
  only zero fits is = is
  only (suc k) fits is = absurd (omega arith)

  by : Contains (y ∷ []) x ⊎ Contains xs x → (y ≡ x) ⊎ Contains xs x
  by (inl one) = inl (only one.0 one.1 one.2)
  by (inr more) = inr more

-- ---- the DIIs

one_there : {X : Type 0} (x : X) (xs : List X) (y : X) → Contains (x ∷ []) y → Contains (x ∷ xs) y
one_there x xs y there = by (first_or_further x [] y there) where
  by : (x ≡ y) ⊎ Contains [] y → Contains (x ∷ xs) y
  by (inl same) = subst (λ z. Contains (x ∷ xs) z) same (first_there x xs)
  by (inr none) = absurd (none_there y none)

pub first_repeats : (transaction : ℕ) (section : List ℕ) (sections : List (List ℕ)) → OnlyRepeat transaction (section ∷ sections) → OnlyRepeat transaction (section ∷ [])
first_repeats transaction section sections repeat = λ other dii there. repeat other dii (one_there section sections other there)

pub others_repeat : (transaction : ℕ) (section : List ℕ) (sections : List (List ℕ)) → OnlyRepeat transaction (section ∷ sections) → OnlyRepeat transaction sections
others_repeat transaction section sections repeat = λ other dii there. repeat other dii (further_there section sections other there)

pub only_repeats : ReadingLaw → (transaction : ℕ) (sections : List (List ℕ)) → OnlyRepeat transaction sections → OnlyRepeats transaction (messages_of sections)
only_repeats law transaction [] repeat = tt
only_repeats law transaction (section ∷ sections) repeat =
    by (message_of section) refl (only_repeats law transaction sections (λ other dii there. repeat other dii (further_there section sections other there)))
  where
    by : (message : Option Message) → message_of section ≡ message → OnlyRepeats transaction (messages_of sections)
        → OnlyRepeats transaction (cons_option message (messages_of sections))
    by None is rest = rest
    by (Some (Data block)) is rest = rest
    by (Some (Indication dii)) is rest = (repeat section dii (first_there section sections) ((law section (Indication dii)).1 is), rest)

later_repeated : (force : Option Dii) (dii other : Dii) → force ≡ Some dii → other.transaction ≡ dii.transaction → later force (Indication other) ≡ Some dii
later_repeated force dii other is repeated =
    ap (λ x. later x (Indication other)) is
    ∙ ap (λ (t : Bool). Some (if t then dii else other)) (eq-eqb other.transaction dii.transaction repeated)

later_data : (force : Option Dii) (block : DataBlock) → later force (Data block) ≡ force
later_data None block = refl
later_data (Some dii) block = refl

force_after : (messages : List Message) (force : Option Dii) (dii : Dii) → force ≡ Some dii → OnlyRepeats dii.transaction messages → fold later force messages ≡ Some dii
force_after [] force dii is repeat = is
force_after (Indication other ∷ messages) force dii is repeat =
    force_after messages (later force (Indication other)) dii (later_repeated force dii other is repeat.0) repeat.1
force_after (Data block ∷ messages) force dii is repeat =
    force_after messages (later force (Data block)) dii (later_data force block ∙ is) repeat

-- the DII in force stays
pub stays_in_force : ReadingLaw → (messages : List Message) (dii : Dii) (sections : List (List ℕ)) → in_force messages ≡ Some dii → OnlyRepeat dii.transaction sections
    → in_force (messages ++ messages_of sections) ≡ Some dii
stays_in_force law messages dii sections force repeat =
    fold-append later None messages (messages_of sections)
    ∙ force_after (messages_of sections) (in_force messages) dii force (only_repeats law dii.transaction sections repeat)

-- ---- the blocks

block_there : (sections : List (List ℕ)) (block : DataBlock) (section : List ℕ) → Contains sections section → message_of section ≡ Some (Data block)
    → Contains (data_of (messages_of sections)) block
block_there [] block section there is = absurd (none_there section there)
block_there (other ∷ sections) block section there is =
    by (first_or_further other sections section there) (λ more. block_there sections block section more is)
  where
    further : (message : Option Message) → Contains (data_of (messages_of sections)) block → Contains (data_of (cons_option message (messages_of sections))) block
    further None more = more
    further (Some (Indication dii)) more = more
    further (Some (Data before)) more = further_there before (data_of (messages_of sections)) block more

    by : (other ≡ section) ⊎ Contains sections section → (Contains sections section → Contains (data_of (messages_of sections)) block)
        → Contains (data_of (messages_of (other ∷ sections))) block
    by (inl same) again =
        subst (λ (message : Option Message). Contains (data_of (cons_option message (messages_of sections))) block) (sym (ap message_of same ∙ is))
        (first_there block (data_of (messages_of sections)))
    by (inr more) again = further (message_of other) (again more)

brought_to : ReadingLaw → (sections : List (List ℕ)) (block : DataBlock) → Bring sections block → Contains (data_of (messages_of sections)) block
brought_to law sections block bring = block_there sections block bring.0 bring.1 ((law bring.0 (Data block)).0 bring.2)

brought_from : ReadingLaw → (sections : List (List ℕ)) (block : DataBlock) → Contains (data_of (messages_of sections)) block → Bring sections block
brought_from law [] block there = absurd (none_there block there)
brought_from law (section ∷ sections) block there = by (message_of section) refl (λ more. further (brought_from law sections block more)) there where
  further : Bring sections block → Bring (section ∷ sections) block
  further bring = (bring.0, further_there section sections bring.0 bring.1, bring.2)

  here : (first : DataBlock) → message_of section ≡ Some (Data first) → (first ≡ block) ⊎ Contains (data_of (messages_of sections)) block
      → (Contains (data_of (messages_of sections)) block → Bring (section ∷ sections) block) → Bring (section ∷ sections) block
  here first is (inl same) again = (section, first_there section sections, (law section (Data block)).1 (is ∙ ap (λ b. Some (Data b)) same))
  here first is (inr more) again = again more

  by : (message : Option Message) → message_of section ≡ message → (Contains (data_of (messages_of sections)) block → Bring (section ∷ sections) block)
      → Contains (data_of (cons_option message (messages_of sections))) block → Bring (section ∷ sections) block
  by None is again there = again there
  by (Some (Indication dii)) is again there = again there
  by (Some (Data first)) is again there = here first is (first_or_further first (data_of (messages_of sections)) block there) again

same_blocks : ReadingLaw → (first second : List (List ℕ)) → ((block : DataBlock) → Bring first block ↔ Bring second block) → SameBlocks (messages_of first) (messages_of second)
same_blocks law first second same = λ block. (
  λ there. brought_to law second block ((same block).0 (brought_from law first block there)),
  λ there. brought_to law first block ((same block).1 (brought_from law second block there)),
)

-- ---- one reading

pub find_passes : {X : Type 0} (test : X → Bool) (xs : List X) (x : X) → find test xs ≡ Some x → test x ≡ true
find_passes test [] x is = absurd cc
find_passes test (y ∷ xs) x is = by (test y) refl (find_passes test xs x) is where
  by : (t : Bool) → test y ≡ t → (find test xs ≡ Some x → test x ≡ true) → cond t (Some y) (find test xs) ≡ Some x → test x ≡ true
  by true passes again is = let same : y ≡ x = cc in ap test (sym same) ∙ passes
  by false passes again is = again is

-- an entry asks for blocks of its own module alone
asked_module : (dii : Dii) (number : ℕ) (block : DataBlock) → is_asked_by (standing_of (Some dii) number) block ≡ true → block.module ≡ number
asked_module dii number block asked = by (find (is_of_module number) (standings dii)) refl asked where
  by : (found : Option Standing) → find (is_of_module number) (standings dii) ≡ found → is_asked_by found block ≡ true → block.module ≡ number
  by None is asked = cc
  by (Some s) is asked =
      let ends : Bool = (block.version == s.entry.version) && (length block.block == block_length s block.number) in
      let fields = (and_parts (nat_lt block.number (count_of s)) ((block.download == s.download) && ((block.module == s.entry.id) && ends)) asked).1 in
      let its = (and_parts (block.module == s.entry.id) ends (and_parts (block.download == s.download) ((block.module == s.entry.id) && ends) fields).1).0 in
      eqb-true block.module s.entry.id its ∙ eqb-true s.entry.id number (find_passes (is_of_module number) (standings dii) s is)

consistent : ReadingLaw → (dii : Dii) (number : ℕ) (sections : List (List ℕ)) → HaveOneReading dii sections
    → AreConsistent (standing_of (Some dii) number) (messages_of sections)
consistent law dii number sections readings = λ a b a_there b_there a_asked b_asked same.
    let a_is = asked_module dii number a a_asked in
    let b_is = asked_module dii number b b_asked in
    readings a b (brought_from law sections a a_there) (brought_from law sections b b_there)
    (ap (λ other. is_asked_by (standing_of (Some dii) other) a) a_is ∙ a_asked)
    (ap (λ other. is_asked_by (standing_of (Some dii) other) b) b_is ∙ b_asked)
    (a_is ∙ sym b_is) same

-- ---- what is held

pub same_held : ReadingLaw → OrderLaw → (messages : List Message) (dii : Dii) (first second : List (List ℕ)) (number : ℕ) → Repeats messages dii first second
    → bytes_held (messages ++ messages_of first) number ≡ bytes_held (messages ++ messages_of second) number
same_held law order messages dii first second number r =
    order messages (messages_of first) (messages_of second) dii number r.force
    (only_repeats law dii.transaction first r.first_repeats) (only_repeats law dii.transaction second r.second_repeats)
    (same_blocks law first second r.same) (consistent law dii number first r.readings)
