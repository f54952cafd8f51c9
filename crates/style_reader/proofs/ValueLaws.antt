-- Values that are read, and those that are printed.
use Rattle.std.proofs.Common.{◌≡◌, ℕ, ◌+◌, ◌≤◌, Bool, true, false, cond, List, [], ◌∷◌, length, Option, Some, None, ℤ, refl, ◌∙◌, subst, arith}
use Rattle.std.proofs.lemmas.Bool.Decides.{nat_tests}
use Rattle.std.specs.Prelude.{◌&&◌, nat_le, option_and_then, codes}
use Rattle.std.specs.List.{list_all, list_any}
use Rattle.style_reader.specs.Characters.{is_word, trimmed}
use Rattle.style_reader.specs.Properties.{Values, values_of}
use Rattle.style_reader.specs.Properties.Values.{Pixels, Numbers, NumbersOrNone, VisibleOrHidden, KeyGroups}
use Rattle.style_reader.specs.Values.{fits, group_among, is_among, is_between, is_key_word, key_groups, numeral, pixel_count, signed, value_among, value_of, whole_between, words_of}
use Rattle.style_reader.specs.declared.properties.Property.{Property}
use Rattle.style_reader.specs.declared.properties.StyleValue.{StyleValue}
use Rattle.style_reader.specs.declared.properties.StyleValue.TheVariants.{Whole, NoValue, Visible, Hidden, Keys}

-- ---- each value that is read is one of the property's

whole-among : (values : Values) (least most : ℤ) → ((number : ℤ) → is_among values (Whole number) ≡ is_between least most number) → (found : Option ℤ) (value : StyleValue) → option_and_then (whole_between least most) found ≡ Some value → is_among values value ≡ true
whole-among values least most same None value e = absurd (cc e)
whole-among values least most same (Some number) value e = by (is_between least most number) refl e
  where
    by : (b : Bool) → is_between least most number ≡ b → cond b (Some (Whole number)) None ≡ Some value → is_among values value ≡ true
    by true is h = let this : Whole number ≡ value = cc in subst (λ (v : StyleValue). is_among values v ≡ true) this (same number ∙ is)
    by false is h = absurd (cc h)

word-or : (values : Values) (b : Bool) (word : StyleValue) (other : Option StyleValue) (value : StyleValue) → is_among values word ≡ true → (other ≡ Some value → is_among values value ≡ true) → cond b (Some word) other ≡ Some value → is_among values value ≡ true
word-or values true word other value is more e = let this : word ≡ value = cc in subst (λ (v : StyleValue). is_among values v ≡ true) this is
word-or values false word other value is more e = more e

-- a group that a word names
some-group : (words : List (List ℕ)) → nat_le 1 (length words) ≡ true → list_all is_key_word words ≡ true → 1 ≤ group_among words (codes "basic") 1 + (group_among words (codes "data-button") 2 + group_among words (codes "numeric-tuning") 4)
some-group [] some all = absurd (cc some)
some-group (word ∷ words) some all = by (is_word (codes "basic") word) (is_word (codes "data-button") word) (is_word (codes "numeric-tuning") word) refl refl refl all
  where
    by : (b d n : Bool) → is_word (codes "basic") word ≡ b → is_word (codes "data-button") word ≡ d → is_word (codes "numeric-tuning") word ≡ n → (cond b true (cond d true n) && list_all is_key_word words) ≡ true → 1 ≤ group_among (word ∷ words) (codes "basic") 1 + (group_among (word ∷ words) (codes "data-button") 2 + group_among (word ∷ words) (codes "numeric-tuning") 4)
    by true d n is_b is_d is_n h = rw is_b (omega arith)
    by false true n is_b is_d is_n h = rw is_d (omega arith)
    by false false true is_b is_d is_n h = rw is_n (omega arith)
    by false false false is_b is_d is_n h = absurd (cc h)

group-small : (words : List (List ℕ)) (word : List ℕ) (group : ℕ) → group_among words word group ≤ group
group-small words word group = by (list_any (is_word word) words)
  where
    by : (b : Bool) → cond b group 0 ≤ group
    by true = omega arith
    by false = omega arith

in-groups : (n : ℕ) → 1 ≤ n → n ≤ 7 → (nat_le 1 n && nat_le n 7) ≡ true
in-groups n some most = let a : nat_le 1 n ≡ true = grind (arith, nat_tests) in let b : nat_le n 7 ≡ true = grind (arith, nat_tests) in rw (a, b) refl

groups-among : (words : List (List ℕ)) (value : StyleValue) → key_groups words ≡ Some value → is_among KeyGroups value ≡ true
groups-among words value e = by (nat_le 1 (length words)) (list_all is_key_word words) refl refl e
  where
    by : (a b : Bool) → nat_le 1 (length words) ≡ a → list_all is_key_word words ≡ b → cond (a && b) (Some (Keys (group_among words (codes "basic") 1 + (group_among words (codes "data-button") 2 + group_among words (codes "numeric-tuning") 4)))) None ≡ Some value → is_among KeyGroups value ≡ true
    by true true some all h =
        let least = some-group words some all in
        let basic = group-small words (codes "basic") 1 in
        let button = group-small words (codes "data-button") 2 in
        let tuning = group-small words (codes "numeric-tuning") 4 in
        let this : Keys (group_among words (codes "basic") 1 + (group_among words (codes "data-button") 2 + group_among words (codes "numeric-tuning") 4)) ≡ value = cc in
        subst (λ (v : StyleValue). is_among KeyGroups v ≡ true) this (in-groups (group_among words (codes "basic") 1 + (group_among words (codes "data-button") 2 + group_among words (codes "numeric-tuning") 4)) least (omega arith))
    by true false some all h = absurd (cc h)
    by false b some all h = absurd (cc h)

among : (values : Values) (text : List ℕ) (value : StyleValue) → value_among values text ≡ Some value → is_among values value ≡ true
among (Pixels least most) text value e = whole-among (Pixels least most) least most (λ number. refl) (signed pixel_count least text) value e
among (Numbers least most) text value e = whole-among (Numbers least most) least most (λ number. refl) (signed numeral least text) value e
among (NumbersOrNone least most) text value e =
    word-or (NumbersOrNone least most) (is_word (codes "none") text) NoValue (option_and_then (whole_between least most) (signed numeral least text)) value refl (whole-among (NumbersOrNone least most) least most (λ number. refl) (signed numeral least text) value) e
among VisibleOrHidden text value e =
    word-or VisibleOrHidden (is_word (codes "visible") text) Visible (cond (is_word (codes "hidden") text) (Some Hidden) None) value refl (word-or VisibleOrHidden (is_word (codes "hidden") text) Hidden None value refl (λ h. absurd (cc h))) e
among KeyGroups text value e = word-or KeyGroups (is_word (codes "none") text) NoValue (key_groups (words_of text)) value refl (groups-among (words_of text) value) e

pub fits-read : (property : Property) (text : List ℕ) (value : StyleValue) → value_of property text ≡ Some value → fits property value ≡ true
unfolding value_of fits
fits-read property text value e = among (values_of property) (trimmed text) value e
