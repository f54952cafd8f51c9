-- Declarations, part by part.
use Rattle.std.proofs.Common.{◌≡◌, ℕ, false, List, [], ◌∷◌, ◌++◌, Option, Some, None, refl, sym, ◌∙◌, ap, append-nil, append_assoc}
use Rattle.std.specs.Prelude.{option_and_then, option_map}
use Rattle.std.specs.Option.{option_to_list}
use Rattle.std.specs.List.{cons_option, filter_map, list_any, slice_split}
use Rattle.style_reader.specs.Characters.{trimmed}
use Rattle.style_reader.specs.Declarations.{declaration_of, declaration_with, declarations_in, is_colon, is_semicolon, property_of}
use Rattle.style_reader.specs.Values.{value_of}
use Rattle.style_reader.specs.devices.Views.{IsParted, pieces_from}
use Rattle.style_reader.specs.declared.declarations.Declaration.{Declaration}
use Rattle.style_reader.specs.declared.properties.Property.{Property}
use Rattle.style_reader.specs.declared.properties.StyleValue.{StyleValue}

abbrev pub given : Property → StyleValue → Declaration
given property value = record { property = property; value = value }

pub declaration-bare : (text : List ℕ) → list_any is_colon text ≡ false → None ≡ declaration_of text
unfolding declaration_of
declaration-bare text e = rw e refl

-- what a text with a colon declares
pub declaration-parted : (text name value : List ℕ) → IsParted is_colon text name value → declaration_of text ≡ option_and_then (declaration_with value) (property_of (trimmed name))
unfolding declaration_of
declaration-parted text name value cut = rw (cut.has_one, cut.behind_is, cut.before_is) refl

pub declaration-unnamed : (text name value : List ℕ) → IsParted is_colon text name value → None ≡ property_of (trimmed name) → None ≡ declaration_of text
declaration-unnamed text name value cut e = sym (declaration-parted text name value cut ∙ ap (option_and_then (declaration_with value)) (sym e))

pub declaration-named : (text name value : List ℕ) (property : Property) (found : Option StyleValue) → IsParted is_colon text name value → Some property ≡ property_of (trimmed name) → found ≡ value_of property value → option_map (λ (value : StyleValue). given property value) found ≡ declaration_of text
declaration-named text name value property found cut named e =
    sym (declaration-parted text name value cut ∙ ap (option_and_then (declaration_with value)) (sym named) ∙ ap (option_map (λ (value : StyleValue). given property value)) (sym e))

-- ---- declarations, one behind the other

onto : {A : Type 0} (front more : List A) (one : Option A) → (front ++ option_to_list one) ++ more ≡ front ++ cons_option one more
onto front more None = ap (λ (xs : List _). xs ++ more) (append-nil front)
onto front more (Some x) = append_assoc front (x ∷ []) more

-- the last piece
pub declarations-last : (read new : List Declaration) (rest piece text : List ℕ) → read ++ filter_map declaration_of (slice_split is_semicolon rest) ≡ filter_map declaration_of (slice_split is_semicolon text) → slice_split is_semicolon rest ≡ pieces_from is_semicolon piece None → new ≡ read ++ option_to_list (declaration_of piece) → new ≡ declarations_in text
unfolding declarations_in
declarations-last read new rest piece text so_far cut pushed =
    pushed ∙ sym (append-nil (read ++ option_to_list (declaration_of piece)))
    ∙ onto read [] (declaration_of piece)
    ∙ ap (λ (pieces : List (List ℕ)). read ++ filter_map declaration_of pieces) (sym cut)
    ∙ so_far
