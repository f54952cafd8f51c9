-- The forms of paths at the first slash of a text.
use Rattle.std.proofs.Common.{◌≡◌, ℕ, ◌≤◌, Bool, true, false, cond, eqb, List, [], ◌∷◌, length, Option, Some, None, refl, ap, ◌∙◌, arith}
use Rattle.std.specs.Prelude.{option_map, option_and_then, codes as ascii}
use Rattle.std.proofs.lemmas.Bool.Decides.{nat_tests}
use Rattle.std.proofs.lemmas.List.Splits.{length-slice_split}
use Rattle.multipart_entities.specs.declared.paths.Path.{Path}
use Rattle.bml_bytes.specs.Words.{is_same}
use Rattle.multipart_entities.specs.Paths.{is_slash, fields_of, name_field, hex_field, module_path}
use Rattle.multipart_entities.specs.PathForms.{behind_host, behind_root, component_path_in, module_in, name_in, relative_in, resource_in}

-- each text has a field
pub some_field : (codes : List ℕ) → 1 ≤ length (fields_of codes)
some_field codes = let e = length-slice_split is_slash codes in omega arith

-- a field is empty where it has no code
pub is_same-empty : (front : List ℕ) → is_same front [] ≡ eqb (length front) 0
is_same-empty [] = refl
is_same-empty (code ∷ front) = grind (arith, nat_tests)

-- ---- a name

pub name_in-one : (codes : List ℕ) → fields_of codes ≡ codes ∷ [] → name_in (fields_of codes) ≡ name_field codes
unfolding name_in
name_in-one codes e = ap name_in e

name_in-fields : (front : List ℕ) (fields : List (List ℕ)) → 1 ≤ length fields → name_in (front ∷ fields) ≡ None
unfolding name_in
name_in-fields front [] h = absurd (omega arith)
name_in-fields front (field ∷ fields) h = refl

pub name_in-more : (codes front rest : List ℕ) → fields_of codes ≡ front ∷ fields_of rest → name_in (fields_of codes) ≡ None
name_in-more codes front rest e = ap name_in e ∙ name_in-fields front (fields_of rest) (some_field rest)

-- ---- the root

pub behind_root-one : (codes : List ℕ) → fields_of codes ≡ codes ∷ [] → behind_root (fields_of codes) ≡ None
unfolding behind_root
behind_root-one codes e = ap behind_root e

behind_root-fields : (front : List ℕ) (fields : List (List ℕ)) → 1 ≤ length fields → behind_root (front ∷ fields) ≡ cond (is_same front []) (Some fields) (cond (is_same front (ascii "arib-dc:")) (behind_host fields) None)
unfolding behind_root
behind_root-fields front [] h = absurd (omega arith)
behind_root-fields front (field ∷ fields) h = refl

pub behind_root-more : (codes front rest : List ℕ) → fields_of codes ≡ front ∷ fields_of rest → behind_root (fields_of codes) ≡ cond (eqb (length front) 0) (Some (fields_of rest)) (cond (is_same front (ascii "arib-dc:")) (behind_host (fields_of rest)) None)
behind_root-more codes front rest e =
    ap behind_root e
    ∙ (behind_root-fields front (fields_of rest) (some_field rest)
    ∙ ap (λ (empty : Bool). cond empty (Some (fields_of rest)) (cond (is_same front (ascii "arib-dc:")) (behind_host (fields_of rest)) None)) (is_same-empty front))

pub behind_host-one : (codes : List ℕ) → fields_of codes ≡ codes ∷ [] → behind_host (fields_of codes) ≡ None
unfolding behind_host
behind_host-one codes e = ap behind_host e

pub behind_host-two : (codes empty host : List ℕ) → fields_of codes ≡ empty ∷ fields_of host → fields_of host ≡ host ∷ [] → behind_host (fields_of codes) ≡ None
unfolding behind_host
behind_host-two codes empty host e behind = ap behind_host (e ∙ ap (λ (fields : List (List ℕ)). empty ∷ fields) behind)

behind_host-fields : (empty host : List ℕ) (fields : List (List ℕ)) → 1 ≤ length fields → behind_host (empty ∷ host ∷ fields) ≡ cond (is_same empty []) (Some fields) None
unfolding behind_host
behind_host-fields empty host [] h = absurd (omega arith)
behind_host-fields empty host (field ∷ fields) h = refl

pub behind_host-more : (codes empty middle host rest : List ℕ) → fields_of codes ≡ empty ∷ fields_of middle → fields_of middle ≡ host ∷ fields_of rest → behind_host (fields_of codes) ≡ cond (eqb (length empty) 0) (Some (fields_of rest)) None
behind_host-more codes empty middle host rest e behind =
    ap behind_host (e ∙ ap (λ (fields : List (List ℕ)). empty ∷ fields) behind)
    ∙ (behind_host-fields empty host (fields_of rest) (some_field rest)
    ∙ ap (λ (none : Bool). cond none (Some (fields_of rest)) None) (is_same-empty empty))

-- ---- a module

pub module_in-one : (component : ℕ) (codes : List ℕ) → fields_of codes ≡ codes ∷ [] → module_in component (fields_of codes) ≡ module_path component codes
unfolding module_in
module_in-one component codes e = ap (module_in component) e

module_in-fields : (component : ℕ) (digits : List ℕ) (fields : List (List ℕ)) → 1 ≤ length fields → module_in component (digits ∷ fields) ≡ resource_in component digits fields
unfolding module_in
module_in-fields component digits [] h = absurd (omega arith)
module_in-fields component digits (field ∷ fields) h = refl

pub module_in-more : (component : ℕ) (codes digits rest : List ℕ) → fields_of codes ≡ digits ∷ fields_of rest → module_in component (fields_of codes) ≡ resource_in component digits (fields_of rest)
module_in-more component codes digits rest e = ap (module_in component) e ∙ module_in-fields component digits (fields_of rest) (some_field rest)

-- ---- a component

pub module_in-nothing : (o : Option ℕ) → option_and_then (λ component. module_in component []) o ≡ None
unfolding module_in
module_in-nothing None = refl
module_in-nothing (Some component) = refl

pub component_path_in-one : (codes : List ℕ) → fields_of codes ≡ codes ∷ [] → component_path_in (fields_of codes) ≡ None
unfolding component_path_in
component_path_in-one codes e = ap component_path_in e ∙ module_in-nothing (hex_field 2 codes)

pub component_path_in-more : (codes field rest : List ℕ) → fields_of codes ≡ field ∷ fields_of rest → component_path_in (fields_of codes) ≡ option_and_then (λ component. module_in component (fields_of rest)) (hex_field 2 field)
unfolding component_path_in
component_path_in-more codes field rest e = ap component_path_in e

-- ---- a path from the base

pub relative_in-one : (base : Path) (codes : List ℕ) → fields_of codes ≡ codes ∷ [] → relative_in base (fields_of codes) ≡ option_map (λ (name : List ℕ). let path : Path = record { component = base.component; «module» = base.module; name = name } in path) (name_field codes)
unfolding relative_in
relative_in-one base codes e = ap (relative_in base) e

nothing_of : (parent : Bool) (o : Option Path) → o ≡ None → cond parent o None ≡ None
nothing_of true o e = e
nothing_of false o e = refl

pub resource_in-none : (component : ℕ) (o : Option ℕ) → option_and_then (λ (number : ℕ). option_map (λ (name : List ℕ). let path : Path = record { component = component; «module» = number; name = name } in path) (name_in [])) o ≡ None
unfolding name_in
resource_in-none component None = refl
resource_in-none component (Some number) = refl

pub relative_in-two : (base : Path) (codes front digits : List ℕ) → fields_of codes ≡ front ∷ fields_of digits → fields_of digits ≡ digits ∷ [] → relative_in base (fields_of codes) ≡ None
unfolding relative_in
relative_in-two base codes front digits e behind =
    ap (relative_in base) (e ∙ ap (λ (fields : List (List ℕ)). front ∷ fields) behind) ∙ nothing_of (is_same front (ascii "..")) (resource_in base.component digits []) (resource_in-none base.component (hex_field 4 digits))

pub relative_in-more : (base : Path) (codes front middle digits rest : List ℕ) → fields_of codes ≡ front ∷ fields_of middle → fields_of middle ≡ digits ∷ fields_of rest → relative_in base (fields_of codes) ≡ cond (is_same front (ascii "..")) (resource_in base.component digits (fields_of rest)) None
unfolding relative_in
relative_in-more base codes front middle digits rest e behind = ap (relative_in base) (e ∙ ap (λ (fields : List (List ℕ)). front ∷ fields) behind)

relative_in-fields : (base : Path) (front : List ℕ) (fields : List (List ℕ)) → 1 ≤ length fields → is_same front (ascii "..") ≡ false → relative_in base (front ∷ fields) ≡ None
unfolding relative_in
relative_in-fields base front [] h e = absurd (omega arith)
relative_in-fields base front (digits ∷ fields) h e = rw e refl

pub relative_in-other : (base : Path) (codes front rest : List ℕ) → fields_of codes ≡ front ∷ fields_of rest → is_same front (ascii "..") ≡ false → relative_in base (fields_of codes) ≡ None
relative_in-other base codes front rest e other = ap (relative_in base) e ∙ relative_in-fields base front (fields_of rest) (some_field rest) other
