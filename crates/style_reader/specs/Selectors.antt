-- Selectors (CSS level 1, 1, 1.2, 1.4 and 1.5; `*` and the pseudo-classes are those of CSS level 2,
-- 5.3 and 5.11.3; in this project's own profile): `*`, `tag`, `.class`, `#id`, `tag.class` and
-- `tag#id`, each also with `:focus` or `:active` behind. Names go by case, pseudo-classes without.
use Rattle.std.specs.Prelude.{◌≡◌, ℕ, ◌+◌, ◌*◌, true, List, [], ◌++◌, Option, Some, None, codes as ascii}
use Rattle.style_reader.specs.Characters.{is_name, is_word}
use Rattle.style_reader.specs.declared.selectors.Selector.{Selector}
use Rattle.style_reader.specs.declared.selectors.Mark.{Mark}
use Rattle.style_reader.specs.declared.selectors.Mark.TheVariants.{Class, Id}
use Rattle.style_reader.specs.declared.selectors.PseudoClass.{PseudoClass}
use Rattle.style_reader.specs.declared.selectors.PseudoClass.TheVariants.{Focus, Active}

-- the tag, where one is asked for; `*` stands where nothing is asked for at all
abbrev pub tag_text : Option (List ℕ) → Option Mark → List ℕ
tag_text (Some tag) mark = tag
tag_text None (Some mark) = []
tag_text None None = ascii "*"

-- the class or the id
abbrev pub mark_text : Option Mark → List ℕ
mark_text None = []
mark_text (Some (Class name)) = ascii "." ++ name
mark_text (Some (Id name)) = ascii "#" ++ name

abbrev pub IsPseudoClassText : Option PseudoClass → List ℕ → Type 0
IsPseudoClassText None text = text ≡ []
IsPseudoClassText (Some Focus) text = is_word (ascii ":focus") text ≡ true
IsPseudoClassText (Some Active) text = is_word (ascii ":active") text ≡ true

-- what is named has a name
abbrev pub IsNamedTag : Option (List ℕ) → Type 0
IsNamedTag None = Unit {0}
IsNamedTag (Some tag) = is_name tag ≡ true

abbrev pub IsNamedMark : Option Mark → Type 0
IsNamedMark None = Unit {0}
IsNamedMark (Some (Class name)) = is_name name ≡ true
IsNamedMark (Some (Id name)) = is_name name ≡ true

-- the text is the selector; nothing stands between its parts
pub record IsSelector (selector : Selector) (text : List ℕ) : Type 0 where
  pub behind : List ℕ
  pub end_to_end : text ≡ tag_text selector.tag selector.mark ++ (mark_text selector.mark ++ behind)
  pub tag_named : IsNamedTag selector.tag
  pub mark_named : IsNamedMark selector.mark
  pub pseudo_class : IsPseudoClassText selector.pseudo_class behind

-- ---- how specific a selector is (CSS level 1, 3.2)

-- its ids, then its classes and pseudo-classes, then its tags; each is below ten, so that they are
-- digits of one number
abbrev pub one_if_some : {A : Type 0} → Option A → ℕ
one_if_some None = 0
one_if_some (Some one) = 1

abbrev pub mark_weight : Option Mark → ℕ
mark_weight None = 0
mark_weight (Some (Class name)) = 10
mark_weight (Some (Id name)) = 100

unfoldable pub specificity : Selector → ℕ
specificity selector =
    mark_weight selector.mark + 10 * one_if_some selector.pseudo_class + one_if_some selector.tag
