-- Paths and references to components, by what stands behind their root.
use Rattle.std.proofs.Common.{◌≡◌, ℕ, Bool, true, false, ◌&&◌, cond, List, [], ◌∷◌, length, ◌≤◌, Option, Some, None, refl, sym, ap, ◌∙◌, arith}
use Rattle.std.specs.Prelude.{option_map, option_and_then, codes as ascii}
use Rattle.multipart_entities.specs.declared.paths.Path.{Path}
use Rattle.bml_bytes.specs.Words.{is_same}
use Rattle.multipart_entities.specs.Paths.{component_in, fields_of, hex_field, path_in}
use Rattle.multipart_entities.specs.PathForms.{behind_host, behind_root, component_path_in, module_in, name_in, relative_in, resource_in}
use Rattle.multipart_entities.proofs.FormLemmas.{some_field, module_in-nothing, resource_in-none}

-- ---- references to components

-- the component behind a root
abbrev component_by : Option (List (List ℕ)) → Option ℕ
component_by None = None
component_by (Some (field ∷ [])) = hex_field 2 field
component_by (Some fields) = None

of_neither : (scheme : Bool) → component_by (cond scheme None None) ≡ None
of_neither true = refl
of_neither false = refl

of_scheme : (scheme empty : Bool) (fields : List (List ℕ)) → component_by (cond scheme (cond empty (Some fields) None) None) ≡ cond (scheme && empty) (component_by (Some fields)) None
of_scheme true true fields = refl
of_scheme true false fields = refl
of_scheme false empty fields = refl

none_either : {A : Type 0} (b : Bool) (o : Option A) → o ≡ None → cond b o None ≡ None
none_either true o e = e
none_either false o e = refl

component_in-by : (fields : List (List ℕ)) → component_in fields ≡ component_by (behind_root fields)
unfolding component_in behind_root behind_host
component_in-by [] = refl
component_in-by (front ∷ []) = refl
component_in-by ([] ∷ a ∷ []) = refl
component_in-by ((code ∷ front) ∷ a ∷ []) = sym (of_neither (is_same (code ∷ front) (ascii "arib-dc:")))
component_in-by ([] ∷ a ∷ b ∷ []) = refl
component_in-by ((code ∷ front) ∷ a ∷ b ∷ []) = sym (of_neither (is_same (code ∷ front) (ascii "arib-dc:")))
component_in-by ([] ∷ a ∷ b ∷ c ∷ []) = refl
component_in-by ((code ∷ front) ∷ a ∷ b ∷ c ∷ []) = sym (of_scheme (is_same (code ∷ front) (ascii "arib-dc:")) (is_same a []) (c ∷ []))
component_in-by ([] ∷ a ∷ b ∷ c ∷ d ∷ fields) = refl
component_in-by ((code ∷ front) ∷ a ∷ b ∷ c ∷ d ∷ fields) =
    sym (of_scheme (is_same (code ∷ front) (ascii "arib-dc:")) (is_same a []) (c ∷ d ∷ fields) ∙ none_either (is_same (code ∷ front) (ascii "arib-dc:") && is_same a []) None refl)

pub component_of-none : (text codes : List ℕ) → codes ≡ text → None ≡ behind_root (fields_of codes) → component_in (fields_of text) ≡ None
component_of-none text codes same e = rw (← same) (component_in-by (fields_of codes) ∙ ap component_by (sym e))

pub component_of-one : (text codes rest : List ℕ) → codes ≡ text → Some (fields_of rest) ≡ behind_root (fields_of codes) → fields_of rest ≡ rest ∷ [] → component_in (fields_of text) ≡ hex_field 2 rest
component_of-one text codes rest same e one = rw (← same) (component_in-by (fields_of codes) ∙ (ap component_by (sym e) ∙ ap (λ (fields : List (List ℕ)). component_by (Some fields)) one))

component_by-more : (front : List ℕ) (fields : List (List ℕ)) → 1 ≤ length fields → component_by (Some (front ∷ fields)) ≡ None
component_by-more front [] h = absurd (omega arith)
component_by-more front (field ∷ fields) h = refl

pub component_of-more : (text codes rest front more : List ℕ) → codes ≡ text → Some (fields_of rest) ≡ behind_root (fields_of codes) → fields_of rest ≡ front ∷ fields_of more → component_in (fields_of text) ≡ None
component_of-more text codes rest front more same e behind =
    rw (← same) (component_in-by (fields_of codes) ∙ (ap component_by (sym e) ∙ (ap (λ (fields : List (List ℕ)). component_by (Some fields)) behind ∙ component_by-more front (fields_of more) (some_field more))))

-- ---- paths

-- the path behind a root, or else from the base
abbrev path_by : Path → List (List ℕ) → Option (List (List ℕ)) → Option Path
path_by base fields None = relative_in base fields
path_by base fields (Some rest) = component_path_in rest

-- where there are more fields than a path has
none_of : (component : ℕ) (a b : List ℕ) (fields : List (List ℕ)) (o : Option ℕ) → option_and_then (λ (number : ℕ). option_map (λ (name : List ℕ). let path : Path = record { component = component; «module» = number; name = name } in path) (name_in (a ∷ b ∷ fields))) o ≡ None
unfolding name_in
none_of component a b fields None = refl
none_of component a b fields (Some number) = refl

module_in-long : (digits a b : List ℕ) (fields : List (List ℕ)) (o : Option ℕ) → option_and_then (λ component. module_in component (digits ∷ a ∷ b ∷ fields)) o ≡ None
unfolding module_in
module_in-long digits a b fields None = refl
module_in-long digits a b fields (Some component) = none_of component a b fields (hex_field 4 digits)

component_path_in-long : (a b c d : List ℕ) (fields : List (List ℕ)) → component_path_in (a ∷ b ∷ c ∷ d ∷ fields) ≡ None
unfolding component_path_in
component_path_in-long a b c d fields = module_in-long b c d fields (hex_field 2 a)

component_path_in-short : (a : List ℕ) → component_path_in (a ∷ []) ≡ None
unfolding component_path_in
component_path_in-short a = module_in-nothing (hex_field 2 a)

relative_in-long : (base : Path) (front a b c : List ℕ) (fields : List (List ℕ)) → relative_in base (front ∷ a ∷ b ∷ c ∷ fields) ≡ None
unfolding relative_in
relative_in-long base front a b c fields = none_either (is_same front (ascii "..")) (resource_in base.component a (b ∷ c ∷ fields)) (none_of base.component b c fields (hex_field 4 a))

relative_in-short : (base : Path) (front a : List ℕ) → relative_in base (front ∷ a ∷ []) ≡ None
unfolding relative_in
relative_in-short base front a = none_either (is_same front (ascii "..")) (resource_in base.component a []) (resource_in-none base.component (hex_field 4 a))

by_neither : (base : Path) (fields : List (List ℕ)) (scheme : Bool) → path_by base fields (cond scheme None None) ≡ relative_in base fields
by_neither base fields true = refl
by_neither base fields false = refl

by_scheme : (base : Path) (fields rest : List (List ℕ)) (scheme empty : Bool) → relative_in base fields ≡ None → path_by base fields (cond scheme (cond empty (Some rest) None) None) ≡ cond (scheme && empty) (component_path_in rest) None
by_scheme base fields rest true true e = refl
by_scheme base fields rest true false e = e
by_scheme base fields rest false empty e = e

-- a path that doesn't begin with a slash
path_in-named : (base : Path) (code : ℕ) (front : List ℕ) (fields : List (List ℕ)) → path_in base ((code ∷ front) ∷ fields) ≡ path_by base ((code ∷ front) ∷ fields) (behind_root ((code ∷ front) ∷ fields))
unfolding path_in behind_root behind_host component_path_in module_in name_in relative_in
path_in-named base code front [] = refl
path_in-named base code front (a ∷ []) =
    sym (by_neither base ((code ∷ front) ∷ a ∷ []) (is_same (code ∷ front) (ascii "arib-dc:")) ∙ relative_in-short base (code ∷ front) a)
path_in-named base code front (a ∷ b ∷ []) =
    sym (by_neither base ((code ∷ front) ∷ a ∷ b ∷ []) (is_same (code ∷ front) (ascii "arib-dc:")))
path_in-named base code front (a ∷ b ∷ c ∷ []) =
    sym (by_scheme base ((code ∷ front) ∷ a ∷ b ∷ c ∷ []) (c ∷ []) (is_same (code ∷ front) (ascii "arib-dc:")) (is_same a []) (relative_in-long base (code ∷ front) a b c [])
    ∙ none_either (is_same (code ∷ front) (ascii "arib-dc:") && is_same a []) (component_path_in (c ∷ [])) (component_path_in-short c))
path_in-named base code front (a ∷ b ∷ c ∷ d ∷ []) =
    sym (by_scheme base ((code ∷ front) ∷ a ∷ b ∷ c ∷ d ∷ []) (c ∷ d ∷ []) (is_same (code ∷ front) (ascii "arib-dc:")) (is_same a []) (relative_in-long base (code ∷ front) a b c (d ∷ [])))
path_in-named base code front (a ∷ b ∷ c ∷ d ∷ e ∷ []) =
    sym (by_scheme base ((code ∷ front) ∷ a ∷ b ∷ c ∷ d ∷ e ∷ []) (c ∷ d ∷ e ∷ []) (is_same (code ∷ front) (ascii "arib-dc:")) (is_same a []) (relative_in-long base (code ∷ front) a b c (d ∷ e ∷ [])))
path_in-named base code front (a ∷ b ∷ c ∷ d ∷ e ∷ f ∷ fields) =
    sym (by_scheme base ((code ∷ front) ∷ a ∷ b ∷ c ∷ d ∷ e ∷ f ∷ fields) (c ∷ d ∷ e ∷ f ∷ fields) (is_same (code ∷ front) (ascii "arib-dc:")) (is_same a []) (relative_in-long base (code ∷ front) a b c (d ∷ e ∷ f ∷ fields))
    ∙ none_either (is_same (code ∷ front) (ascii "arib-dc:") && is_same a []) (component_path_in (c ∷ d ∷ e ∷ f ∷ fields)) (component_path_in-long c d e f fields))

-- a path that does
path_in-rooted : (base : Path) (fields : List (List ℕ)) → path_in base ([] ∷ fields) ≡ path_by base ([] ∷ fields) (behind_root ([] ∷ fields))
unfolding path_in behind_root behind_host component_path_in module_in name_in relative_in
path_in-rooted base [] = refl
path_in-rooted base (a ∷ []) = sym (component_path_in-short a)
path_in-rooted base (a ∷ b ∷ []) = refl
path_in-rooted base (a ∷ b ∷ c ∷ []) = refl
path_in-rooted base (a ∷ b ∷ c ∷ d ∷ []) = sym (component_path_in-long a b c d [])
path_in-rooted base (a ∷ b ∷ c ∷ d ∷ e ∷ []) = sym (component_path_in-long a b c d (e ∷ []))
path_in-rooted base (a ∷ b ∷ c ∷ d ∷ e ∷ f ∷ fields) = sym (component_path_in-long a b c d (e ∷ f ∷ fields))

path_in-by : (base : Path) (fields : List (List ℕ)) → path_in base fields ≡ path_by base fields (behind_root fields)
unfolding path_in behind_root relative_in
path_in-by base [] = refl
path_in-by base ([] ∷ fields) = path_in-rooted base fields
path_in-by base ((code ∷ front) ∷ fields) = path_in-named base code front fields

pub path_of_text-none : (base : Path) (codes : List ℕ) → None ≡ behind_root (fields_of codes) → path_in base (fields_of codes) ≡ relative_in base (fields_of codes)
path_of_text-none base codes e = path_in-by base (fields_of codes) ∙ ap (path_by base (fields_of codes)) (sym e)

pub path_of_text-root : (base : Path) (codes rest : List ℕ) → Some (fields_of rest) ≡ behind_root (fields_of codes) → path_in base (fields_of codes) ≡ component_path_in (fields_of rest)
path_of_text-root base codes rest e = path_in-by base (fields_of codes) ∙ ap (path_by base (fields_of codes)) (sym e)
