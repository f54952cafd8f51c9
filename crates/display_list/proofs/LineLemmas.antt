-- Lines that are appended part by part.
use Rattle.std.proofs.Common.{◌≡◌, ℕ, List, [], ◌∷◌, ◌++◌, ℤ, to_z, of_z, FitsSigned, ap, ◌∙◌, append_assoc}
use Rattle.std.specs.Int.{w16}
use Rattle.std.proofs.lemmas.Int.{to_z-of_z}
use Rattle.std.specs.Prelude.{codes}
use Rattle.std.specs.List.{join_with_byte}
use Rattle.bml_bytes.specs.Numerals.{decimal_digits}
use Rattle.display_list.specs.Show.{box_line, clock_line, focus_line, number_field, picture_front, picture_line, place_fields, text_front, text_line}
use Rattle.display_list.specs.declared.node_styles.NodeStyle.{NodeStyle}
use Rattle.display_list.specs.declared.places.Place.{Place}

pub four-fields : (out x y w h a b c : List ℕ) → a ≡ out ++ (x ++ 32 ∷ [] ++ y) → b ≡ a ++ 32 ∷ [] → c ≡ b ++ (w ++ 32 ∷ [] ++ h) → c ≡ out ++ join_with_byte 32 (x ∷ y ∷ w ∷ h ∷ [])
four-fields out x y w h a b c ea eb ec = rw (ec, eb, ea) (simp append_assoc)

pub two-parts : (out x y a b : List ℕ) → a ≡ out ++ x → b ≡ a ++ y → b ≡ out ++ (x ++ y)
two-parts out x y a b ea eb = rw (eb, ea) (simp append_assoc)

pub three-parts : (out x y z a b c : List ℕ) → a ≡ out ++ x → b ≡ a ++ y → c ≡ b ++ z → c ≡ out ++ (x ++ y ++ z)
three-parts out x y z a b c ea eb ec = rw (ec, eb, ea) (simp append_assoc)

pub box-parts : (out x y z t u v a b c d : List ℕ) → a ≡ out ++ x → b ≡ a ++ y → c ≡ b ++ (z ++ t ++ u) → d ≡ c ++ v → d ≡ out ++ (x ++ y ++ z ++ t ++ u ++ v)
box-parts out x y z t u v a b c d ea eb ec ed = rw (ed, ec, eb, ea) (simp append_assoc)

pub front-parts : (out x y z t u a b c d : List ℕ) → a ≡ out ++ x → b ≡ a ++ y → c ≡ b ++ (z ++ t) → d ≡ c ++ u → d ≡ out ++ (x ++ y ++ z ++ t ++ u)
front-parts out x y z t u a b c d ea eb ec ed = rw (ed, ec, eb, ea) (simp append_assoc)

pub picture-parts : (out x y z t u a b c : List ℕ) → a ≡ out ++ x → b ≡ a ++ (y ++ z ++ t) → c ≡ b ++ u → c ≡ out ++ (x ++ y ++ z ++ t ++ u)
picture-parts out x y z t u a b c ea eb ec = rw (ec, eb, ea) (simp append_assoc)

-- a fact on all of some lines, on their definition
pub clock_line-is : (out text : List ℕ) (clock : ℕ) → text ≡ out ++ (codes "show " ++ decimal_digits clock ++ codes "\n") → text ≡ out ++ clock_line clock
unfolding clock_line
clock_line-is out text clock e = e

pub box_line-is : (out text : List ℕ) (place : Place) (style : NodeStyle) → text ≡ out ++ (codes "box " ++ place_fields place ++ number_field style.background ++ number_field style.border_width ++ number_field style.border_color ++ codes "\n") → text ≡ out ++ box_line place style
unfolding box_line
box_line-is out text place style e = e

pub text_line-is : (out all : List ℕ) (place : Place) (style : NodeStyle) (bytes : List ℕ) → all ≡ out ++ (text_front place style ++ bytes ++ codes "\n") → all ≡ out ++ text_line place style bytes
unfolding text_line
text_line-is out all place style bytes e = e

pub focus_line-is : (out text : List ℕ) (place : Place) → text ≡ out ++ (codes "focus " ++ place_fields place ++ codes "\n") → text ≡ out ++ focus_line place
unfolding focus_line
focus_line-is out text place e = e

-- a number printed, which was handed on before
pub number_field-again : (out before : List ℕ) (z : ℤ) → FitsSigned w16 z → out ≡ before ++ number_field (to_z w16 (of_z w16 z)) → out ≡ before ++ number_field z
number_field-again out before z fits e = e ∙ ap (λ (n : ℤ). before ++ number_field n) (to_z-of_z w16 z fits)

pub picture_line-is : (out text : List ℕ) (place : Place) (media_type name : List ℕ) → text ≡ out ++ (picture_front place ++ media_type ++ codes " " ++ name ++ codes "\n") → text ≡ out ++ picture_line place media_type name
unfolding picture_line
picture_line-is out text place media_type name e = e
