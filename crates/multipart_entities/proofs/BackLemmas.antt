-- A text that resolves is of one of the forms.
use Rattle.std.proofs.Common.{◌≡◌, ◌≢◌, ℕ, Bool, true, false, cond, eqb, leb, ◌&&◌, List, [], ◌∷◌, ◌++◌, length, Option, Some, None, ◌⊎◌, inl, inr, refl, sym, ap, ◌∙◌, append_assoc, arith}
use Rattle.std.specs.Prelude.{option_map, option_and_then, codes as ascii}
use Rattle.std.specs.List.{list_all}
use Rattle.std.proofs.lemmas.Bool.{cases_eq}
use Rattle.std.proofs.lemmas.Bool.Decides.{nat_tests}
use Rattle.std.proofs.lemmas.List.Elements.{All-nil, All-cons}
use Rattle.std.proofs.lemmas.List.Sums.{AllPass-from_list_all}
use Rattle.std.proofs.lemmas.Slice.Eq.{bytes_eq-Decides}
use Rattle.multipart_entities.specs.declared.paths.Path.{Path}
use Rattle.bml_bytes.specs.Words.{is_same}
use Rattle.multipart_entities.specs.Paths.{component_in, fields_of, hex_field, is_hex_digit, name_field, path_in, module_path}
use Rattle.multipart_entities.specs.PathForms.{behind_host, behind_root, component_path_in, module_in, name_in, relative_in, resource_in}
use Rattle.multipart_entities.specs.PathTexts.{AreDigits, IsField, IsName, IsPathText, IsRoot, PathText, named_by, number_of, root_text, text_of}
use Rattle.multipart_entities.specs.PathTexts.PathText.{ByName, InComponent, OfModule, OfResource}
use Rattle.multipart_entities.proofs.FormLemmas.{behind_host-more, behind_host-one, behind_host-two, behind_root-more, behind_root-one, component_path_in-more, component_path_in-one, module_in-more, module_in-one, name_in-more, name_in-one, relative_in-more, relative_in-one, relative_in-two}
use Rattle.multipart_entities.proofs.RootLemmas.{component_of-more, component_of-none, component_of-one, path_of_text-none, path_of_text-root}
use Rattle.multipart_entities.proofs.TextLemmas.{fields_of-at, fields_of-last}

-- ---- what options are made of

none_some : {A P : Type 0} (x : A) → None ≡ Some x → P
none_some x e = absurd (cc e)

and_then_some : {A B : Type 0} (f : A → Option B) (o : Option A) (y : B) → option_and_then f o ≡ Some y → (x : A) × (o ≡ Some x) × (f x ≡ Some y)
and_then_some f None y e = none_some y e
and_then_some f (Some x) y e = (x, refl, e)

map_some : {A B : Type 0} (f : A → B) (o : Option A) (y : B) → option_map f o ≡ Some y → (x : A) × (o ≡ Some x) × (f x ≡ y)
map_some f None y e = none_some y e
map_some f (Some x) y e = (x, refl, cc e)

some_if : {A : Type 0} (b : Bool) (x y : A) → cond b (Some x) None ≡ Some y → (b ≡ true) × (x ≡ y)
some_if true x y e = (refl, cc e)
some_if false x y e = none_some y e

and_both : (a b : Bool) → (a && b) ≡ true → (a ≡ true) × (b ≡ true)
and_both true b e = (refl, e)
and_both false b e = absurd (cc e)

-- ---- a text at its first slash

pub data Cut (text : List ℕ) : Type 0 where
  Whole : IsField text → Cut text
  At : (front rest : List ℕ) → IsField front → front ++ 47 ∷ rest ≡ text → Cut text

cut_more : (code : ℕ) (text : List ℕ) → code ≢ 47 → Cut text → Cut (code ∷ text)
cut_more code text other (Whole h) = Whole (All-cons (λ c. c ≢ 47) code text other h)
cut_more code text other (At front rest h e) = At (code ∷ front) rest (All-cons (λ c. c ≢ 47) code front other h) (ap (λ (codes : List ℕ). code ∷ codes) e)

cut_at : (code : ℕ) (text : List ℕ) → (code ≡ 47) ⊎ (code ≢ 47) → Cut text → Cut (code ∷ text)
cut_at code text (inl e) behind = At [] text (All-nil (λ c. c ≢ 47)) (ap (λ (c : ℕ). c ∷ text) (sym e))
cut_at code text (inr other) behind = cut_more code text other behind

cut : (text : List ℕ) → Cut text
cut [] = Whole (All-nil (λ c. c ≢ 47))
cut (code ∷ text) = cut_at code text (cases_eq code 47) (cut text)

-- its fields there
fields_at : (text front rest : List ℕ) → IsField front → front ++ 47 ∷ rest ≡ text → fields_of text ≡ front ∷ fields_of rest
fields_at text front rest h e = ap fields_of (sym e) ∙ fields_of-at front rest h

-- ---- numbers and names

hex_back : (count : ℕ) (digits : List ℕ) (number : ℕ) → hex_field count digits ≡ Some number → AreDigits count digits × (number_of digits ≡ number)
hex_back count digits number e =
    let taken = some_if (eqb (length digits) count && list_all is_hex_digit digits) (number_of digits) number e in
    let both = and_both (eqb (length digits) count) (list_all is_hex_digit digits) taken.0 in
    (record { count_is = let whole = both.0 in grind (arith, nat_tests); digits_only = AllPass-from_list_all is_hex_digit digits both.1 }, taken.1)

name_back : (codes name : List ℕ) → IsField codes → name_field codes ≡ Some name → IsName codes × (codes ≡ name)
name_back codes name h e =
    let taken = some_if (leb 1 (length codes) && leb (length codes) 64) codes name e in
    let both = and_both (leb 1 (length codes)) (leb (length codes) 64) taken.0 in
    (record { some = let few = both.0 in grind (arith, nat_tests); most = let many = both.1 in grind (arith, nat_tests); field = h }, taken.1)

name_in_back : (codes name : List ℕ) → Cut codes → name_in (fields_of codes) ≡ Some name → IsName codes × (codes ≡ name)
name_in_back codes name (Whole h) e = name_back codes name h (sym (name_in-one codes (fields_of-last codes h)) ∙ e)
name_in_back codes name (At front rest h same) e = none_some name (sym (name_in-more codes front rest (fields_at codes front rest h same)) ∙ e)

-- ---- the root

-- what stands behind a root of the text
pub record Rooted (text : List ℕ) (fields : List (List ℕ)) : Type 0 where
  pub host : Option (List ℕ)
  pub rest : List ℕ
  pub root : IsRoot host
  pub same : root_text host ++ rest ≡ text
  pub behind : fields ≡ fields_of rest

pub record Hosted (text : List ℕ) (fields : List (List ℕ)) : Type 0 where
  pub host : List ℕ
  pub rest : List ℕ
  pub root : IsField host
  pub same : 47 ∷ (host ++ 47 ∷ rest) ≡ text
  pub behind : fields ≡ fields_of rest

hosted_empty : (empty text middle host rest : List ℕ) (fields : List (List ℕ)) → empty ++ 47 ∷ middle ≡ text → IsField host → host ++ 47 ∷ rest ≡ middle → cond (eqb (length empty) 0) (Some (fields_of rest)) None ≡ Some fields → Hosted text fields
hosted_empty [] text middle host rest fields e h same taken =
    record { host = host; rest = rest; root = h; same = ap (λ (codes : List ℕ). 47 ∷ codes) same ∙ e; behind = cc taken }
hosted_empty (code ∷ empty) text middle host rest fields e h same taken =
    let other : eqb (length (code ∷ empty)) 0 ≡ false = grind (arith, nat_tests) in
    none_some fields (ap (λ (b : Bool). cond b (Some (fields_of rest)) None) (sym other) ∙ taken)

hosted_at : (text empty middle : List ℕ) (fields : List (List ℕ)) → IsField empty → empty ++ 47 ∷ middle ≡ text → Cut middle → behind_host (fields_of text) ≡ Some fields → Hosted text fields
hosted_at text empty middle fields h e (Whole last) taken =
    none_some fields (sym (behind_host-two text empty middle (fields_at text empty middle h e) (fields_of-last middle last)) ∙ taken)
hosted_at text empty middle fields h e (At host rest field same) taken =
    hosted_empty empty text middle host rest fields e field same (sym (behind_host-more text empty middle host rest (fields_at text empty middle h e) (fields_at middle host rest field same)) ∙ taken)

hosted : (text : List ℕ) (fields : List (List ℕ)) → Cut text → behind_host (fields_of text) ≡ Some fields → Hosted text fields
hosted text fields (Whole h) taken = none_some fields (sym (behind_host-one text (fields_of-last text h)) ∙ taken)
hosted text fields (At empty middle h e) taken = hosted_at text empty middle fields h e (cut middle) taken

rooted_host : (text front more : List ℕ) (fields : List (List ℕ)) → ascii "arib-dc:" ≡ front → front ++ 47 ∷ more ≡ text → Hosted more fields → Rooted text fields
rooted_host text front more fields scheme e h =
    let regrouped : root_text (Some h.host) ++ h.rest ≡ ascii "arib-dc:" ++ 47 ∷ (47 ∷ (h.host ++ 47 ∷ h.rest)) = ap (λ (codes : List ℕ). ascii "arib-dc://" ++ codes) (append_assoc h.host (47 ∷ []) h.rest) in
    record {
      host = Some h.host;
      rest = h.rest;
      root = h.root;
      same = regrouped ∙ (ap (λ (codes : List ℕ). ascii "arib-dc:" ++ 47 ∷ codes) h.same ∙ (ap (λ (codes : List ℕ). codes ++ 47 ∷ more) scheme ∙ e));
      behind = h.behind;
    }

rooted_scheme : (scheme : Bool) (text front more : List ℕ) (fields : List (List ℕ)) → is_same front (ascii "arib-dc:") ≡ scheme → front ++ 47 ∷ more ≡ text → cond scheme (behind_host (fields_of more)) None ≡ Some fields → Rooted text fields
rooted_scheme true text front more fields is e taken = rooted_host text front more fields (sym ((bytes_eq-Decides front (ascii "arib-dc:")).0 is)) e (hosted more fields (cut more) taken)
rooted_scheme false text front more fields is e taken = none_some fields taken

rooted_at : (front text more : List ℕ) (fields : List (List ℕ)) → front ++ 47 ∷ more ≡ text → cond (eqb (length front) 0) (Some (fields_of more)) (cond (is_same front (ascii "arib-dc:")) (behind_host (fields_of more)) None) ≡ Some fields → Rooted text fields
rooted_at [] text more fields e taken = record { host = None; rest = more; root = tt; same = e; behind = cc taken }
rooted_at (code ∷ front) text more fields e taken =
    let other : eqb (length (code ∷ front)) 0 ≡ false = grind (arith, nat_tests) in
    rooted_scheme (is_same (code ∷ front) (ascii "arib-dc:")) text (code ∷ front) more fields refl e
    (ap (λ (b : Bool). cond b (Some (fields_of more)) (cond (is_same (code ∷ front) (ascii "arib-dc:")) (behind_host (fields_of more)) None)) (sym other) ∙ taken)

rooted : (text : List ℕ) (fields : List (List ℕ)) → Cut text → behind_root (fields_of text) ≡ Some fields → Rooted text fields
rooted text fields (Whole h) taken = none_some fields (sym (behind_root-one text (fields_of-last text h)) ∙ taken)
rooted text fields (At front more h e) taken =
    rooted_at front text more fields e (sym (behind_root-more text front more (fields_at text front more h e)) ∙ taken)

-- ---- what stands behind it

-- digits and a name in a component
pub record ResourceIs (component : ℕ) (digits name : List ℕ) (path : Path) : Type 0 where
  pub second : AreDigits 4 digits
  pub named : IsName name
  pub is : record { component = component; «module» = number_of digits; name = name } ≡ path

resource_of : (component number : ℕ) (digits codes name : List ℕ) (path : Path) → AreDigits 4 digits × (number_of digits ≡ number) → IsName codes × (codes ≡ name) → record { component = component; «module» = number; name = name } ≡ path → ResourceIs component digits codes path
resource_of component number digits codes name path second named e =
    record {
      second = second.0;
      named = named.0;
      is = (λ i. record { component = component; «module» = second.1 i; name = named.1 i }) ∙ e;
    }

resource_back : (component : ℕ) (digits codes : List ℕ) (path : Path) → resource_in component digits (fields_of codes) ≡ Some path → ResourceIs component digits codes path
resource_back component digits codes path e =
    let number = and_then_some (λ (n : ℕ). option_map (λ (name : List ℕ). let p : Path = record { component = component; «module» = n; name = name } in p) (name_in (fields_of codes))) (hex_field 4 digits) path e in
    let name = map_some (λ (n : List ℕ). let p : Path = record { component = component; «module» = number.0; name = n } in p) (name_in (fields_of codes)) path number.2 in
    resource_of component number.0 digits codes name.0 path (hex_back 4 digits number.0 number.1) (name_in_back codes name.0 (cut codes) name.1) name.2

-- `mmmm` or `mmmm/name` in a component
pub data ModuleIs (component : ℕ) (codes : List ℕ) (path : Path) : Type 0 where
  Alone : AreDigits 4 codes → record { component = component; «module» = number_of codes; name = [] } ≡ path → ModuleIs component codes path
  Named : (digits name : List ℕ) → digits ++ 47 ∷ name ≡ codes → ResourceIs component digits name path → ModuleIs component codes path

module_alone : (component : ℕ) (codes : List ℕ) (path : Path) → module_path component codes ≡ Some path → ModuleIs component codes path
module_alone component codes path e =
    let number = map_some (λ (n : ℕ). let p : Path = record { component = component; «module» = n; name = [] } in p) (hex_field 4 codes) path e in
    let second = hex_back 4 codes number.0 number.1 in
    Alone second.0 ((λ i. record { component = component; «module» = second.1 i; name = [] }) ∙ number.2)

module_back : (component : ℕ) (codes : List ℕ) (path : Path) → Cut codes → module_in component (fields_of codes) ≡ Some path → ModuleIs component codes path
module_back component codes path (Whole h) e = module_alone component codes path (sym (module_in-one component codes (fields_of-last codes h)) ∙ e)
module_back component codes path (At digits name h same) e =
    Named digits name same (resource_back component digits name path (sym (module_in-more component codes digits name (fields_at codes digits name h same)) ∙ e))

-- `cc/mmmm` or `cc/mmmm/name`
pub record ComponentIs (codes : List ℕ) (path : Path) : Type 0 where
  pub field : List ℕ
  pub rest : List ℕ
  pub same : field ++ 47 ∷ rest ≡ codes
  pub first : AreDigits 2 field
  pub behind : ModuleIs (number_of field) rest path

component_at : (codes field rest : List ℕ) (path : Path) → field ++ 47 ∷ rest ≡ codes → option_and_then (λ component. module_in component (fields_of rest)) (hex_field 2 field) ≡ Some path → ComponentIs codes path
component_at codes field rest path same e =
    let number = and_then_some (λ component. module_in component (fields_of rest)) (hex_field 2 field) path e in
    let first = hex_back 2 field number.0 number.1 in
    record {
      field = field;
      rest = rest;
      same = same;
      first = first.0;
      behind = module_back (number_of field) rest path (cut rest) (ap (λ (component : ℕ). module_in component (fields_of rest)) first.1 ∙ number.2);
    }

component_back : (codes : List ℕ) (path : Path) → Cut codes → component_path_in (fields_of codes) ≡ Some path → ComponentIs codes path
component_back codes path (Whole h) e = none_some path (sym (component_path_in-one codes (fields_of-last codes h)) ∙ e)
component_back codes path (At field rest h same) e =
    component_at codes field rest path same (sym (component_path_in-more codes field rest (fields_at codes field rest h same)) ∙ e)

-- ---- all of them

abbrev pub Spelled : Path → Path → List ℕ → Type 0
Spelled base path codes = (text : PathText) × IsPathText text × (text_of text ≡ codes) × (named_by base text ≡ path)

spelled_module : (base path : Path) (host : Option (List ℕ)) (codes rest field behind : List ℕ) → IsRoot host → root_text host ++ rest ≡ codes → field ++ 47 ∷ behind ≡ rest → AreDigits 2 field → ModuleIs (number_of field) behind path → Spelled base path codes
spelled_module base path host codes rest field behind root same first component (Alone second is) =
    (OfModule host field behind, (root, component, second), ap (λ (text : List ℕ). root_text host ++ text) first ∙ same, is)
spelled_module base path host codes rest field behind root same first component (Named digits name parts h) =
    (OfResource host field digits name, (root, component, h.second, h.named), ap (λ (text : List ℕ). root_text host ++ (field ++ 47 ∷ text)) parts ∙ (ap (λ (text : List ℕ). root_text host ++ text) first ∙ same), h.is)

spelled_root : (base path : Path) (codes : List ℕ) (fields : List (List ℕ)) → Rooted codes fields → component_path_in fields ≡ Some path → Spelled base path codes
spelled_root base path codes fields h e =
    let found = component_back h.rest path (cut h.rest) (ap component_path_in (sym h.behind) ∙ e) in
    spelled_module base path h.host codes h.rest found.field found.rest h.root h.same found.same found.first found.behind

spelled_name : (base path : Path) (codes : List ℕ) → IsField codes → relative_in base (fields_of codes) ≡ Some path → Spelled base path codes
spelled_name base path codes h e =
    let name = map_some (λ (n : List ℕ). let p : Path = record { component = base.component; «module» = base.module; name = n } in p) (name_field codes) path (sym (relative_in-one base codes (fields_of-last codes h)) ∙ e) in
    let named = name_back codes name.0 h name.1 in
    (ByName codes, named.0, refl, (λ i. record { component = base.component; «module» = base.module; name = named.1 i }) ∙ name.2)

spelled_parent : (base path : Path) (codes front rest digits name : List ℕ) → ascii ".." ≡ front → front ++ 47 ∷ rest ≡ codes → digits ++ 47 ∷ name ≡ rest → ResourceIs base.component digits name path → Spelled base path codes
spelled_parent base path codes front rest digits name parent same parts h =
    (InComponent digits name, (h.second, h.named), ap (λ (text : List ℕ). ascii ".." ++ 47 ∷ text) parts ∙ (ap (λ (text : List ℕ). text ++ 47 ∷ rest) parent ∙ same), h.is)

spelled_resource : (parent : Bool) (base path : Path) (codes front rest digits name : List ℕ) → is_same front (ascii "..") ≡ parent → front ++ 47 ∷ rest ≡ codes → digits ++ 47 ∷ name ≡ rest → cond parent (resource_in base.component digits (fields_of name)) None ≡ Some path → Spelled base path codes
spelled_resource true base path codes front rest digits name is same parts e =
    spelled_parent base path codes front rest digits name (sym ((bytes_eq-Decides front (ascii "..")).0 is)) same parts (resource_back base.component digits name path e)
spelled_resource false base path codes front rest digits name is same parts e = none_some path e

spelled_fields : (base path : Path) (codes front rest : List ℕ) → IsField front → front ++ 47 ∷ rest ≡ codes → Cut rest → relative_in base (fields_of codes) ≡ Some path → Spelled base path codes
spelled_fields base path codes front rest h same (Whole last) e =
    none_some path (sym (relative_in-two base codes front rest (fields_at codes front rest h same) (fields_of-last rest last)) ∙ e)
spelled_fields base path codes front rest h same (At digits name field parts) e =
    spelled_resource (is_same front (ascii "..")) base path codes front rest digits name refl same parts
    (sym (relative_in-more base codes front rest digits name (fields_at codes front rest h same) (fields_at rest digits name field parts)) ∙ e)

spelled_relative : (base path : Path) (codes : List ℕ) → Cut codes → relative_in base (fields_of codes) ≡ Some path → Spelled base path codes
spelled_relative base path codes (Whole h) e = spelled_name base path codes h e
spelled_relative base path codes (At front rest h same) e = spelled_fields base path codes front rest h same (cut rest) e

-- the fields behind a root, told by what is found
path_of_root : (base : Path) (codes : List ℕ) (fields : List (List ℕ)) → Rooted codes fields → behind_root (fields_of codes) ≡ Some fields → path_in base (fields_of codes) ≡ component_path_in fields
path_of_root base codes fields h e = path_of_text-root base codes h.rest (sym (e ∙ ap Some h.behind)) ∙ ap component_path_in (sym h.behind)

spelled_by : (root : Option (List (List ℕ))) (base path : Path) (codes : List ℕ) → behind_root (fields_of codes) ≡ root → path_in base (fields_of codes) ≡ Some path → Spelled base path codes
spelled_by None base path codes is e = spelled_relative base path codes (cut codes) (sym (path_of_text-none base codes (sym is)) ∙ e)
spelled_by (Some fields) base path codes is e =
    let found = rooted codes fields (cut codes) is in
    spelled_root base path codes fields found (sym (path_of_root base codes fields found is) ∙ e)

pub text_spelled : (base path : Path) (codes : List ℕ) → path_in base (fields_of codes) ≡ Some path → Spelled base path codes
text_spelled base path codes e = spelled_by (behind_root (fields_of codes)) base path codes refl e

-- ---- references to components

abbrev pub SpelledReference : List ℕ → ℕ → Type 0
SpelledReference codes component = (host : Option (List ℕ)) × (digits : List ℕ) × IsRoot host × AreDigits 2 digits × (root_text host ++ digits ≡ codes) × (number_of digits ≡ component)

reference_behind : (codes : List ℕ) (component : ℕ) (fields : List (List ℕ)) (h : Rooted codes fields) → Cut h.rest → behind_root (fields_of codes) ≡ Some fields → component_in (fields_of codes) ≡ Some component → SpelledReference codes component
reference_behind codes component fields h (Whole last) is e =
    let first = hex_back 2 h.rest component (sym (component_of-one codes codes h.rest refl (sym (is ∙ ap Some h.behind)) (fields_of-last h.rest last)) ∙ e) in
    (h.host, h.rest, h.root, first.0, h.same, first.1)
reference_behind codes component fields h (At front more field same) is e =
    none_some component (sym (component_of-more codes codes h.rest front more refl (sym (is ∙ ap Some h.behind)) (fields_at h.rest front more field same)) ∙ e)

reference_by : (root : Option (List (List ℕ))) (codes : List ℕ) (component : ℕ) → behind_root (fields_of codes) ≡ root → component_in (fields_of codes) ≡ Some component → SpelledReference codes component
reference_by None codes component is e = none_some component (sym (component_of-none codes codes refl (sym is)) ∙ e)
reference_by (Some fields) codes component is e =
    let found = rooted codes fields (cut codes) is in
    reference_behind codes component fields found (cut found.rest) is e

pub reference_spelled : (codes : List ℕ) (component : ℕ) → component_in (fields_of codes) ≡ Some component → SpelledReference codes component
reference_spelled codes component e = reference_by (behind_root (fields_of codes)) codes component refl e
