-- What names lack, and names of properties.
use Rattle.std.proofs.Common.{◌≡◌, ℕ, Bool, true, false, cond, List, [], ◌∷◌, map, Some, refl, sym, ◌∙◌, ap}
use Rattle.std.proofs.lemmas.Bool.{eqb-true}
use Rattle.std.specs.Prelude.{◌&&◌, nat_eq, find}
use Rattle.std.specs.Char.{to_ascii_lowercase}
use Rattle.std.specs.List.{list_all, list_any}
use Rattle.bml_bytes.specs.Words.{is_same}
use Rattle.style_reader.specs.Characters.{is_letter, is_name, is_name_code, is_name_start, is_word}
use Rattle.style_reader.specs.Declarations.{is_colon, property_of}
use Rattle.style_reader.specs.Properties.{all_properties, name_of, script_name_of}
use Rattle.style_reader.specs.Readings.{begins_mark}
use Rattle.style_reader.specs.declared.properties.Property.{Property}
use Rattle.style_reader.specs.declared.properties.Property.TheVariants.{Left, Top, Width, Height, Visibility, ZIndex, NavIndex, NavUp, NavDown, NavLeft, NavRight, UsedKeyList, ColorIndex, BackgroundColorIndex, BorderWidth, BorderColorIndex, FontSize}

-- ---- texts that are the same

pub and-true : (a b : Bool) → (a && b) ≡ true → (a ≡ true) × (b ≡ true)
and-true true b e = (refl, e)
and-true false b e = absurd (cc e)

pub same-text : (a b : List ℕ) → is_same a b ≡ true → a ≡ b
same-text [] [] e = refl
same-text [] (y ∷ b) e = absurd (cc e)
same-text (x ∷ a) [] e = absurd (cc e)
same-text (x ∷ a) (y ∷ b) e =
    let parts = and-true (nat_eq x y) (is_same a b) e in
    let first = eqb-true x y parts.0 in
    let more = same-text a b parts.1 in
    cc

-- ---- properties

abbrev lower : List ℕ → List ℕ
lower text = map to_ascii_lowercase text

-- the first property whose name is this one is the property of that name
named-itself : (p : Property) → find (λ (q : Property). is_same (lower (name_of p)) (lower (name_of q))) all_properties ≡ Some p
named-itself Left = refl
named-itself Top = refl
named-itself Width = refl
named-itself Height = refl
named-itself Visibility = refl
named-itself ZIndex = refl
named-itself NavIndex = refl
named-itself NavUp = refl
named-itself NavDown = refl
named-itself NavLeft = refl
named-itself NavRight = refl
named-itself UsedKeyList = refl
named-itself ColorIndex = refl
named-itself BackgroundColorIndex = refl
named-itself BorderWidth = refl
named-itself BorderColorIndex = refl
named-itself FontSize = refl

scripted-itself : (p : Property) → find (λ (q : Property). is_same (script_name_of p) (script_name_of q)) all_properties ≡ Some p
scripted-itself Left = refl
scripted-itself Top = refl
scripted-itself Width = refl
scripted-itself Height = refl
scripted-itself Visibility = refl
scripted-itself ZIndex = refl
scripted-itself NavIndex = refl
scripted-itself NavUp = refl
scripted-itself NavDown = refl
scripted-itself NavLeft = refl
scripted-itself NavRight = refl
scripted-itself UsedKeyList = refl
scripted-itself ColorIndex = refl
scripted-itself BackgroundColorIndex = refl
scripted-itself BorderWidth = refl
scripted-itself BorderColorIndex = refl
scripted-itself FontSize = refl

-- a text that is a property's name names it
pub property_of-named : (property : Property) (name : List ℕ) → is_word (name_of property) name ≡ true → property_of name ≡ Some property
property_of-named property name e =
    let same : lower name ≡ lower (name_of property) = same-text (lower name) (lower (name_of property)) e in
    ap (λ (n : List ℕ). find (λ (q : Property). is_same n (lower (name_of q))) all_properties) same ∙ named-itself property

-- and what a text names has that name
find-passes : (test : Property → Bool) (list : List Property) (property : Property) → find test list ≡ Some property → test property ≡ true
find-passes test [] property e = absurd (cc e)
find-passes test (q ∷ list) property e = by (test q) refl (find-passes test list property) e
  where
    by : (b : Bool) → test q ≡ b → (find test list ≡ Some property → test property ≡ true) → cond b (Some q) (find test list) ≡ Some property → test property ≡ true
    by true is more h = let same : q ≡ property = cc in rw (← same) is
    by false is more h = more h

pub property_of-found : (name : List ℕ) (property : Property) → property_of name ≡ Some property → is_word (name_of property) name ≡ true
property_of-found name property e = find-passes (λ (q : Property). is_word (name_of q) name) all_properties property e

some-same : (p q : Property) → Some p ≡ Some q → p ≡ q
some-same p q e = cc

pub name_of-one : (p q : Property) → name_of p ≡ name_of q → p ≡ q
name_of-one p q e =
    some-same p q (sym (named-itself p) ∙ ap (λ (n : List ℕ). find (λ (r : Property). is_same (lower n) (lower (name_of r))) all_properties) e ∙ named-itself q)

pub script_name_of-one : (p q : Property) → script_name_of p ≡ script_name_of q → p ≡ q
script_name_of-one p q e =
    some-same p q (sym (scripted-itself p) ∙ ap (λ (n : List ℕ). find (λ (r : Property). is_same n (script_name_of r)) all_properties) e ∙ scripted-itself q)

-- ---- names in selectors

-- colons and the marks of classes and ids stand in no name
pub no-code : (other : ℕ) → is_name_code other ≡ false → (code : ℕ) → is_name_code code ≡ true → nat_eq code other ≡ false
no-code other never code e = by (nat_eq code other) refl
  where
    by : (b : Bool) → nat_eq code other ≡ b → b ≡ false
    by true is = let same = ap is_name_code (eqb-true code other is) in absurd (cc)
    by false is = refl

colon-never : is_name_code 58 ≡ false
unfolding is_name_code is_name_start is_letter
colon-never = refl

dot-never : is_name_code 46 ≡ false
unfolding is_name_code is_name_start is_letter
dot-never = refl

sign-never : is_name_code 35 ≡ false
unfolding is_name_code is_name_start is_letter
sign-never = refl

no-mark : (code : ℕ) → is_name_code code ≡ true → begins_mark code ≡ false
no-mark code e = rw (no-code 46 dot-never code e, no-code 35 sign-never code e) refl

start-code : (code : ℕ) → is_name_start code ≡ true → is_name_code code ≡ true
unfolding is_name_code
start-code code e = rw e refl

lacks-each : (test : ℕ → Bool) → ((code : ℕ) → is_name_code code ≡ true → test code ≡ false) → (text : List ℕ) → list_all is_name_code text ≡ true → list_any test text ≡ false
lacks-each test none [] e = refl
lacks-each test none (code ∷ text) e =
    let parts = and-true (is_name_code code) (list_all is_name_code text) e in
    rw (none code parts.0) (lacks-each test none text parts.1)

pub name-codes : (name : List ℕ) → is_name name ≡ true → list_all is_name_code name ≡ true
name-codes [] e = absurd (cc e)
name-codes (first ∷ more) e =
    let parts = and-true (is_name_start first) (list_all is_name_code more) e in
    rw (start-code first parts.0) parts.1

pub name-colon : (name : List ℕ) → is_name name ≡ true → list_any is_colon name ≡ false
name-colon name e = lacks-each is_colon (no-code 58 colon-never) name (name-codes name e)

pub name-mark : (name : List ℕ) → is_name name ≡ true → list_any begins_mark name ≡ false
name-mark name e = lacks-each begins_mark no-mark name (name-codes name e)

pub named-by_name : (property : Property) → property_of (name_of property) ≡ Some property
named-by_name property = named-itself property
