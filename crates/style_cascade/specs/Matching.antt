-- Which elements a selector matches, and in which state (CSS level 1, 1.4 and 1.5, and CSS level 2,
-- 5.3 and 5.11.3; that an active element doesn't match `:focus` is this project's own).
use Rattle.std.specs.Prelude.{ℕ, Bool, true, false, ◌&&◌, List, [], Option, Some, None, option_map, codes}
use Rattle.std.specs.List.{list_any}
use Rattle.std.specs.Option.{option_map_or}
use Rattle.bml_bytes.specs.Words.{is_same}
use Rattle.dom_tree.specs.Items.{Item, tag_of, value_of}
use Rattle.style_reader.specs.Values.{words_of}
use Rattle.style_reader.specs.declared.selectors.Selector.{Selector}
use Rattle.style_reader.specs.declared.selectors.Mark.{Mark}
use Rattle.style_reader.specs.declared.selectors.Mark.TheVariants.{Class, Id}
use Rattle.style_reader.specs.declared.selectors.PseudoClass.{PseudoClass}
use Rattle.style_reader.specs.declared.selectors.PseudoClass.TheVariants as pseudo_classes
use Rattle.style_cascade.specs.declared.states.State.{State}
use Rattle.style_cascade.specs.declared.states.State.TheVariants as states
use Rattle.style_cascade.specs.declared.subjects.Subject.{Subject}

-- the words of an attribute
abbrev pub words_in : Option (List ℕ) → List (List ℕ)
words_in value = option_map_or words_of value []

-- what styles ask of an element: its tag, its id, its classes and its attribute `style`
abbrev pub subject_with : List Item → ℕ → List ℕ → Subject
subject_with items node tag =
    record {
      tag = tag;
      id = value_of items node (codes "id");
      classes = words_in (value_of items node (codes "class"));
      style = value_of items node (codes "style");
    }

-- that of an element, and none of a text
unfoldable pub subject_of : List Item → ℕ → Option Subject
subject_of items node = option_map (subject_with items node) (tag_of items node)

abbrev pub has_tag : Option (List ℕ) → Subject → Bool
has_tag None subject = true
has_tag (Some tag) subject = is_same subject.tag tag

abbrev pub has_mark : Option Mark → Subject → Bool
has_mark None subject = true
has_mark (Some (Class name)) subject = list_any (is_same name) subject.classes
has_mark (Some (Id name)) subject = option_map_or (is_same name) subject.id false

abbrev pub is_for_state : Option PseudoClass → State → Bool
is_for_state None state = true
is_for_state (Some pseudo_classes.Focus) states.Normal = false
is_for_state (Some pseudo_classes.Focus) states.Focus = true
is_for_state (Some pseudo_classes.Focus) states.Active = false
is_for_state (Some pseudo_classes.Active) states.Normal = false
is_for_state (Some pseudo_classes.Active) states.Focus = false
is_for_state (Some pseudo_classes.Active) states.Active = true

-- the selector matches the element in the state
unfoldable pub matches : Selector → Subject → State → Bool
matches selector subject state =
    has_tag selector.tag subject
    && (has_mark selector.mark subject && is_for_state selector.pseudo_class state)
