-- The texts of the forms resolve.
use Rattle.std.proofs.Common.{◌≡◌, ◌≢◌, ℕ, true, false, eqb, leb, List, [], ◌∷◌, ◌++◌, length, Option, Some, None, refl, sym, ap, ◌∙◌, append_assoc, arith}
use Rattle.std.specs.Prelude.{option_map, codes as ascii}
use Rattle.std.specs.List.{All}
use Rattle.std.proofs.lemmas.Bool.Decides.{nat_tests}
use Rattle.std.proofs.lemmas.List.Splits.{slice_split_none, slice_split_at}
use Rattle.std.proofs.lemmas.List.Sums.{list_all-from_AllPass}
use Rattle.multipart_entities.specs.declared.paths.Path.{Path}
use Rattle.multipart_entities.specs.Paths.{component_in, fields_of, hex_field, is_hex_digit, is_slash, name_field, path_in}
use Rattle.multipart_entities.specs.PathForms.{behind_root, component_path_in, module_in, resource_in}
use Rattle.multipart_entities.specs.PathTexts.{AreDigits, IsField, IsName, IsPathText, IsRoot, PathText, named_by, number_of, root_text, text_of}
use Rattle.multipart_entities.specs.PathTexts.PathText.{ByName, InComponent, OfModule, OfResource}
use Rattle.multipart_entities.proofs.FormLemmas.{behind_host-more, behind_root-more, component_path_in-more, module_in-more, module_in-one, name_in-one}
use Rattle.multipart_entities.proofs.RootLemmas.{component_of-one, path_of_text-root}

-- ---- fields

not_slash : (code : ℕ) → code ≢ 47 → is_slash code ≡ false
not_slash code h = grind (arith, nat_tests)

no_slash : (field : List ℕ) → IsField field → All (λ code. is_slash code ≡ false) field
no_slash field h = λ k d below. not_slash _ (h k d below)

pub fields_of-at : (field rest : List ℕ) → IsField field → fields_of (field ++ 47 ∷ rest) ≡ field ∷ fields_of rest
fields_of-at field rest h = slice_split_at is_slash field 47 rest (no_slash field h) refl

pub fields_of-last : (field : List ℕ) → IsField field → fields_of field ≡ field ∷ []
fields_of-last field h = slice_split_none is_slash field (no_slash field h)

digit_not_slash : (code : ℕ) → is_hex_digit code ≡ true → code ≢ 47
digit_not_slash code h = grind (arith, nat_tests)

pub digits_field : (count : ℕ) (digits : List ℕ) → AreDigits count digits → IsField digits
digits_field count digits h = λ k d below. digit_not_slash _ (h.digits_only k d below)

-- ---- numbers and names

pub hex_field-is : (count : ℕ) (digits : List ℕ) → AreDigits count digits → hex_field count digits ≡ Some (number_of digits)
hex_field-is count digits h =
    let whole : eqb (length digits) count ≡ true = let e = h.count_is in grind (arith, nat_tests) in
    rw (whole, list_all-from_AllPass is_hex_digit digits h.digits_only) refl

pub name_field-is : (name : List ℕ) → IsName name → name_field name ≡ Some name
name_field-is name h =
    let some : leb 1 (length name) ≡ true = let few = h.some in grind (arith, nat_tests) in
    let most : leb (length name) 64 ≡ true = let many = h.most in grind (arith, nat_tests) in
    rw (some, most) refl

-- ---- the root

host_fields : (host rest : List ℕ) → IsField host → fields_of ((host ++ 47 ∷ []) ++ rest) ≡ host ∷ fields_of rest
host_fields host rest h = ap fields_of (append_assoc host (47 ∷ []) rest) ∙ fields_of-at host rest h

pub root_fields : (host : Option (List ℕ)) (rest : List ℕ) → IsRoot host → behind_root (fields_of (root_text host ++ rest)) ≡ Some (fields_of rest)
root_fields None rest h = behind_root-more (47 ∷ rest) [] rest refl
root_fields (Some host) rest h =
    let more = (host ++ 47 ∷ []) ++ rest in
    behind_root-more (root_text (Some host) ++ rest) (ascii "arib-dc:") (47 ∷ more) refl
    ∙ behind_host-more (47 ∷ more) [] more host rest refl (host_fields host rest h)

-- ---- what stands behind it

module_is : (component : ℕ) (digits : List ℕ) → AreDigits 4 digits → module_in component (fields_of digits) ≡ Some (record { component = component; «module» = number_of digits; name = [] })
module_is component digits h = rw (module_in-one component digits (fields_of-last digits (digits_field 4 digits h)), hex_field-is 4 digits h) refl

resource_is : (component : ℕ) (digits name : List ℕ) → AreDigits 4 digits → IsName name → resource_in component digits (fields_of name) ≡ Some (record { component = component; «module» = number_of digits; name = name })
resource_is component digits name h named = rw (hex_field-is 4 digits h, name_in-one name (fields_of-last name named.field), name_field-is name named) refl

in_component : (component rest : List ℕ) → AreDigits 2 component → component_path_in (fields_of (component ++ 47 ∷ rest)) ≡ module_in (number_of component) (fields_of rest)
in_component component rest h = rw (component_path_in-more (component ++ 47 ∷ rest) component rest (fields_of-at component rest (digits_field 2 component h)), hex_field-is 2 component h) refl

module_text : (base : Path) (host : Option (List ℕ)) (component digits : List ℕ) → IsRoot host → AreDigits 2 component → AreDigits 4 digits → path_in base (fields_of (root_text host ++ (component ++ 47 ∷ digits))) ≡ Some (record { component = number_of component; «module» = number_of digits; name = [] })
module_text base host component digits root first second =
    path_of_text-root base (root_text host ++ (component ++ 47 ∷ digits)) (component ++ 47 ∷ digits) (sym (root_fields host (component ++ 47 ∷ digits) root))
    ∙ (in_component component digits first ∙ module_is (number_of component) digits second)

resource_text : (base : Path) (host : Option (List ℕ)) (component digits name : List ℕ) → IsRoot host → AreDigits 2 component → AreDigits 4 digits → IsName name → path_in base (fields_of (root_text host ++ (component ++ 47 ∷ (digits ++ 47 ∷ name)))) ≡ Some (record { component = number_of component; «module» = number_of digits; name = name })
resource_text base host component digits name root first second named =
    let rest = digits ++ 47 ∷ name in
    path_of_text-root base (root_text host ++ (component ++ 47 ∷ rest)) (component ++ 47 ∷ rest) (sym (root_fields host (component ++ 47 ∷ rest) root))
    ∙ (in_component component rest first
    ∙ (module_in-more (number_of component) rest digits name (fields_of-at digits name (digits_field 4 digits second)) ∙ resource_is (number_of component) digits name second named))

-- ---- paths from the base

name_text : (base : Path) (name : List ℕ) → IsName name → path_in base (fields_of name) ≡ Some (record { component = base.component; «module» = base.module; name = name })
unfolding path_in
name_text base name h = ap (path_in base) (fields_of-last name h.field) ∙ ap (option_map (λ (n : List ℕ). let path : Path = record { component = base.component; «module» = base.module; name = n } in path)) (name_field-is name h)

parent_text : (base : Path) (digits name : List ℕ) → AreDigits 4 digits → IsName name → path_in base (fields_of (46 ∷ 46 ∷ 47 ∷ (digits ++ 47 ∷ name))) ≡ Some (record { component = base.component; «module» = number_of digits; name = name })
unfolding path_in
parent_text base digits name h named =
    ap (λ (fields : List (List ℕ)). path_in base ((46 ∷ 46 ∷ []) ∷ fields)) (fields_of-at digits name (digits_field 4 digits h) ∙ ap (λ (fields : List (List ℕ)). digits ∷ fields) (fields_of-last name named.field))
    ∙ rw (hex_field-is 4 digits h, name_field-is name named) refl

-- ---- all of them

pub text_resolves : (base : Path) (text : PathText) → IsPathText text → path_in base (fields_of (text_of text)) ≡ Some (named_by base text)
text_resolves base (ByName name) h = name_text base name h
text_resolves base (InComponent digits name) h = parent_text base digits name h.0 h.1
text_resolves base (OfModule host component digits) h = module_text base host component digits h.0 h.1 h.2
text_resolves base (OfResource host component digits name) h = resource_text base host component digits name h.0 h.1 h.2 h.3

pub reference_refers : (host : Option (List ℕ)) (digits : List ℕ) → IsRoot host → AreDigits 2 digits → component_in (fields_of (root_text host ++ digits)) ≡ Some (number_of digits)
reference_refers host digits root h =
    let codes = root_text host ++ digits in
    component_of-one codes codes digits refl (sym (root_fields host digits root)) (fields_of-last digits (digits_field 2 digits h)) ∙ hex_field-is 2 digits h
