-- From the messages of a component to what a store holds and finds.
use Rattle.std.proofs.Common.{◌≡◌, ℕ, ◌==◌, Bool, true, false, List, [], ◌∷◌, ◌++◌, map, refl, sym, ap, ◌∙◌, eqb-true, cond, append-nil, append_assoc, if◌then◌else◌}
use Rattle.std.specs.Prelude.{Option, Some, None, option_map, option_and_then}
use Rattle.std.proofs.lemmas.Bool.{eqb-false, eq-eqb, ne_eqb}
use Rattle.std.proofs.lemmas.List.Elements.{filter_map-append}
use Rattle.dsmcc_messages.specs.declared.dii.Dii.{Dii}
use Rattle.carousel_blocks.specs.Message.{Message, message_of, messages_of}
use Rattle.carousel_blocks.specs.InForce.{in_force, standing_of}
use Rattle.carousel_blocks.specs.Held.{bytes_held}
use Rattle.multipart_entities.specs.declared.paths.Path.{Path}
use Rattle.module_store.specs.Resources.{look, look_by, look_behind, look_in, info_in_force, presence, presence_at, presence_in, start_component, start_name, start_path}
use Rattle.module_store.specs.Store.{Followed, Stored, component_in, followed_with, held_in, messages_of_component, with_section}
use Rattle.carousel_laws.specs.Freedom.{Repeats}
use Rattle.carousel_laws.specs.Stores.{stored_after}
use Rattle.carousel_laws.proofs.SectionLemmas.{ReadingLaw, OrderLaw, same_held, stays_in_force}

-- ---- the messages of a component after sections

-- the messages of these sections after those of the component, where they are its own
abbrev pub with_messages : Bool → List (List ℕ) → Option (List Message) → Option (List Message)
with_messages true sections before = option_map (λ messages. messages ++ messages_of sections) before
with_messages false sections before = before

pub after_one : (tag other : ℕ) (section : List ℕ) (components : List Followed)
    → option_map (λ (c : Followed). c.messages) (component_in (map (followed_with tag section) components) other)
    ≡ with_messages (other == tag) (section ∷ []) (option_map (λ (c : Followed). c.messages) (component_in components other))
after_one tag other section [] = by (other == tag) where
  by : (t : Bool) → None ≡ with_messages t (section ∷ []) None
  by true = refl
  by false = refl
after_one tag other section (c ∷ components) = by (c.tag == tag) refl (c.tag == other) refl (after_one tag other section components) where
  rest : Option Followed
  rest = component_in (map (followed_with tag section) components) other

  extended : Followed
  extended = record { tag = c.tag; pid = c.pid; messages = c.messages ++ messages_of (section ∷ []) }

  as_told : (t : Bool) → (other == tag) ≡ t → with_messages t (section ∷ []) (Some c.messages) ≡ with_messages (other == tag) (section ∷ []) (Some c.messages)
  as_told t is = ap (λ b. with_messages b (section ∷ []) (Some c.messages)) (sym is)

  by : (x : Bool) → (c.tag == tag) ≡ x → (y : Bool) → (c.tag == other) ≡ y
      → option_map (λ (d : Followed). d.messages) rest ≡ with_messages (other == tag) (section ∷ []) (option_map (λ (d : Followed). d.messages) (component_in components other))
      → option_map (λ (d : Followed). d.messages) (cond ((if x then extended else c).tag == other) (Some (if x then extended else c)) rest)
      ≡ with_messages (other == tag) (section ∷ []) (option_map (λ (d : Followed). d.messages) (cond y (Some c) (component_in components other)))
  by true own true found again =
      ap (λ b. option_map (λ (d : Followed). d.messages) (cond b (Some extended) rest)) found
      ∙ as_told true (eq-eqb other tag (sym (eqb-true c.tag other found) ∙ eqb-true c.tag tag own))
  by true own false found again = ap (λ b. option_map (λ (d : Followed). d.messages) (cond b (Some extended) rest)) found ∙ again
  by false own true found again =
      ap (λ b. option_map (λ (d : Followed). d.messages) (cond b (Some c) rest)) found
      ∙ as_told false (ne_eqb other tag (λ q. eqb-false c.tag tag own (eqb-true c.tag other found ∙ q)))
  by false own false found again = ap (λ b. option_map (λ (d : Followed). d.messages) (cond b (Some c) rest)) found ∙ again

-- those of the component itself
pub after_its_own : (tag : ℕ) (section : List ℕ) (stored : Stored) (messages : List Message) → messages_of_component stored tag ≡ Some messages
    → messages_of_component (with_section tag section stored) tag ≡ Some (messages ++ messages_of (section ∷ []))
after_its_own tag section stored messages its =
    after_one tag tag section stored.components
    ∙ ap (λ t. with_messages t (section ∷ []) (messages_of_component stored tag)) (eq-eqb tag tag refl)
    ∙ ap (with_messages true (section ∷ [])) its

after_more : (t : Bool) (section : List ℕ) (sections : List (List ℕ)) (before : Option (List Message))
    → with_messages t sections (with_messages t (section ∷ []) before) ≡ with_messages t (section ∷ sections) before
after_more false section sections before = refl
after_more true section sections None = refl
after_more true section sections (Some messages) =
    ap (λ x. Some x)
    (append_assoc messages (messages_of (section ∷ [])) (messages_of sections)
    ∙ ap (λ x. messages ++ x) (sym (filter_map-append message_of (section ∷ []) sections)))

after_none : (t : Bool) (before : Option (List Message)) → before ≡ with_messages t [] before
after_none false before = refl
after_none true None = refl
after_none true (Some messages) = ap (λ x. Some x) (sym (append-nil messages))

after_all : (tag other : ℕ) (sections : List (List ℕ)) (stored : Stored)
    → messages_of_component (stored_after stored tag sections) other ≡ with_messages (other == tag) sections (messages_of_component stored other)
after_all tag other [] stored = after_none (other == tag) (messages_of_component stored other)
after_all tag other (section ∷ sections) stored =
    after_all tag other sections (with_section tag section stored)
    ∙ ap (with_messages (other == tag) sections) (after_one tag other section stored.components)
    ∙ after_more (other == tag) section sections (messages_of_component stored other)

-- ---- what is the same of both

-- the same DII is in force, and the same is held
record IsAlike (one other : List Message) : Type 0 where
  pub force : in_force one ≡ in_force other
  pub held : (number : ℕ) → bytes_held one number ≡ bytes_held other number

-- what follows from the DII in force and from what is held is the same after both lists
same_of : {A : Type 0} (f : Option (List Message) → A) → ((one other : List Message) → IsAlike one other → f (Some one) ≡ f (Some other)) → ReadingLaw → OrderLaw
    → (stored : Stored) (tag : ℕ) (messages : List Message) (dii : Dii) (first second : List (List ℕ)) (other : ℕ)
    → messages_of_component stored tag ≡ Some messages → Repeats messages dii first second
    → f (messages_of_component (stored_after stored tag first) other) ≡ f (messages_of_component (stored_after stored tag second) other)
same_of f follows law order stored tag messages dii first second other is r =
    ap f (after_all tag other first stored) ∙ by (other == tag) refl ∙ sym (ap f (after_all tag other second stored))
  where
    alike : IsAlike (messages ++ messages_of first) (messages ++ messages_of second)
    alike = record {
      force = stays_in_force law messages dii first r.force r.first_repeats ∙ sym (stays_in_force law messages dii second r.force r.second_repeats);
      held = λ number. same_held law order messages dii first second number r;
    }

    by : (t : Bool) → (other == tag) ≡ t
        → f (with_messages t first (messages_of_component stored other)) ≡ f (with_messages t second (messages_of_component stored other))
    by false own = refl
    by true own =
        let its : messages_of_component stored other ≡ Some messages = ap (messages_of_component stored) (eqb-true other tag own) ∙ is in
        ap (λ x. f (with_messages true first x)) its
        ∙ follows (messages ++ messages_of first) (messages ++ messages_of second) alike
        ∙ sym (ap (λ x. f (with_messages true second x)) its)

pub held_alike : ReadingLaw → OrderLaw → (stored : Stored) (tag : ℕ) (messages : List Message) (dii : Dii) (first second : List (List ℕ)) (component number : ℕ)
    → messages_of_component stored tag ≡ Some messages → Repeats messages dii first second
    → held_in (stored_after stored tag first) component number ≡ held_in (stored_after stored tag second) component number
held_alike law order stored tag messages dii first second component number is r =
    same_of (λ x. option_and_then (λ messages. bytes_held messages number) x) (λ one other a. a.held number) law order stored tag messages dii first second component is r

look_alike : (number : ℕ) (name : List ℕ) (one other : List Message) → IsAlike one other → look_in (Some one) number name ≡ look_in (Some other) number name
look_alike number name one other a = ap (λ force. look_behind force one number name) a.force ∙ by (in_force other) where
  by : (force : Option Dii) → look_behind force one number name ≡ look_behind force other number name
  by None = refl
  by (Some dii) = ap (λ bytes. look_by (standing_of (Some dii) number) bytes name) (a.held number)

pub looks_alike : ReadingLaw → OrderLaw → (stored : Stored) (tag : ℕ) (messages : List Message) (dii : Dii) (first second : List (List ℕ)) (path : Path)
    → messages_of_component stored tag ≡ Some messages → Repeats messages dii first second
    → look (stored_after stored tag first) path ≡ look (stored_after stored tag second) path
looks_alike law order stored tag messages dii first second path is r =
    same_of (λ x. look_in x path.module path.name) (look_alike path.module path.name) law order stored tag messages dii first second path.component is r

abbrev pub path_with : Option (List ℕ) → Path
path_with info = record { component = start_component; «module» = 0; name = start_name info }

pub start_alike : ReadingLaw → OrderLaw → (stored : Stored) (tag : ℕ) (messages : List Message) (dii : Dii) (first second : List (List ℕ))
    → messages_of_component stored tag ≡ Some messages → Repeats messages dii first second
    → start_path (stored_after stored tag first) ≡ start_path (stored_after stored tag second)
start_alike law order stored tag messages dii first second is r =
    same_of (λ x. path_with (option_and_then (λ messages. info_in_force messages 0) x))
    (λ one other a. ap (λ force. path_with (option_map (λ entry. entry.info) (option_map (λ s. s.entry) (standing_of force 0)))) a.force)
    law order stored tag messages dii first second start_component is r

pub presence_alike : ReadingLaw → OrderLaw → (stored : Stored) (tag : ℕ) (messages : List Message) (dii : Dii) (first second : List (List ℕ)) (component number : ℕ)
    → messages_of_component stored tag ≡ Some messages → Repeats messages dii first second
    → presence (stored_after stored tag first) component number ≡ presence (stored_after stored tag second) component number
presence_alike law order stored tag messages dii first second component number is r =
    same_of (λ x. presence_in x number)
    (λ one other a. ap (λ force. presence_at (standing_of force number) (bytes_held one number)) a.force ∙ ap (presence_at (standing_of (in_force other) number)) (a.held number))
    law order stored tag messages dii first second component is r
