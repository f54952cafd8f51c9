-- Declarations as they are spelled, and those that are read.
use Rattle.std.proofs.Common.{◌≡◌, ℕ, Bool, true, false, cond, List, ◌∷◌, ◌++◌, Option, Some, None, refl, sym, ◌∙◌, ap}
use Rattle.std.specs.Prelude.{option_and_then, option_map}
use Rattle.std.specs.List.{after_first, before_first, list_any}
use Rattle.style_reader.specs.Characters.{trimmed}
use Rattle.style_reader.specs.Declarations.{IsDeclaration, declaration_of, declaration_with, is_colon, property_of}
use Rattle.style_reader.specs.Values.{value_of}
use Rattle.style_reader.specs.declared.declarations.Declaration.{Declaration}
use Rattle.style_reader.specs.declared.properties.Property.{Property}
use Rattle.style_reader.specs.declared.properties.StyleValue.{StyleValue}
use Rattle.style_reader.proofs.BlockLaws.{the_code}
use Rattle.style_reader.proofs.CutLemmas.{joined-at, parted-at}
use Rattle.style_reader.proofs.DeclarationLemmas.{declaration-parted}
use Rattle.style_reader.proofs.NameLaws.{property_of-found, property_of-named}

-- what is spelled is read
pub declaration-spelled : (declaration : Declaration) (text : List ℕ) → IsDeclaration declaration text → declaration_of text ≡ Some declaration
declaration-spelled declaration text is =
    ap declaration_of is.end_to_end
    ∙ declaration-parted (is.name ++ (58 ∷ is.value)) is.name is.value (parted-at is_colon is.name is.value 58 is.first_colon refl)
    ∙ rw (property_of-named declaration.property (trimmed is.name) is.name_is, is.value_is) refl

-- what is read is spelled so
valued : (value : List ℕ) (property : Property) (declaration : Declaration) → declaration_with value property ≡ Some declaration → (property ≡ declaration.property) × (value_of declaration.property value ≡ Some declaration.value)
valued value property declaration e = by (value_of property value) refl e
  where
    by : (found : Option StyleValue) → value_of property value ≡ found → option_map (λ (v : StyleValue). record { property = property; value = v }) found ≡ Some declaration → (property ≡ declaration.property) × (value_of declaration.property value ≡ Some declaration.value)
    by None is h = absurd (cc h)
    by (Some v) is h =
        let same : record { property = property; value = v } ≡ declaration = cc in
        let named : property ≡ declaration.property = ap (λ (d : Declaration). d.property) same in
        let given : v ≡ declaration.value = ap (λ (d : Declaration). d.value) same in
        (named, ap (λ (p : Property). value_of p value) (sym named) ∙ is ∙ ap Some given)

pub declaration-read : (declaration : Declaration) (text : List ℕ) → declaration_of text ≡ Some declaration → IsDeclaration declaration text
unfolding declaration_of
declaration-read declaration text e = by (list_any is_colon text) refl e
  where
    found : (name value : List ℕ) → text ≡ name ++ (58 ∷ value) → list_any is_colon name ≡ false → (o : Option Property) → property_of (trimmed name) ≡ o → option_and_then (declaration_with value) o ≡ Some declaration → IsDeclaration declaration text
    found name value whole lacks None is h = absurd (cc h)
    found name value whole lacks (Some property) is h =
        let parts = valued value property declaration h in
        record {
          name = name;
          value = value;
          end_to_end = whole;
          first_colon = lacks;
          name_is = property_of-found (trimmed name) declaration.property (is ∙ ap Some parts.0);
          value_is = parts.1;
        }

    by : (b : Bool) → list_any is_colon text ≡ b → cond b (option_and_then (declaration_with (after_first is_colon text)) (property_of (trimmed (before_first is_colon text)))) None ≡ Some declaration → IsDeclaration declaration text
    by true is h =
        let cut = joined-at is_colon text is in
        let name = before_first is_colon text in
        let value = after_first is_colon text in
        let whole : text ≡ name ++ (58 ∷ value) = cut.end_to_end ∙ ap (λ (c : ℕ). name ++ (c ∷ value)) (the_code cut.code 58 cut.passes) in
        found name value whole cut.lacks (property_of (trimmed name)) refl h
    by false is h = absurd (cc h)
