-- The name of an array is its front and its number.
use Rattle.std.proofs.Common.{◌≡◌, ◌↔◌, ℕ, zero, suc, ◌+◌, ◌<◌, ◌≤◌, nat_eq, nat_lt, Bool, true, cond, List, [], ◌++◌, length, take, drop, Option, Some, None, ◌⊎◌, inl, inr, refl, sym, ap, subst, ◌∙◌, arith}
use Rattle.std.specs.Prelude.{◌&&◌, codes as ascii, IfSome, MatchOption}
use Rattle.bml_bytes.specs.Fields.{◌>>=◌}
use Rattle.std.specs.List.{range_with_len}
use Rattle.std.proofs.lemmas.Bool.{eqb-true, and_parts, cases_lt, lt-ltb, ltb-true}
use Rattle.std.proofs.lemmas.List.{append-nil, drop_at, take-append-drop, nil_from_length}
use Rattle.std.proofs.lemmas.Option.{cond_some, none-some, some_pair_parts}
use Rattle.bml_bytes.specs.Numerals.{decimal_digits}
use Rattle.bml_bytes.specs.Words.{is_same}
use Rattle.persistent_arrays.specs.Arrays.{array_count}
use Rattle.persistent_arrays.specs.Names.{Names, array_name, array_named}
use Rattle.persistent_arrays.specs.devices.Spelling.{number_of_array, numeral_at}
use Rattle.persistent_arrays.proofs.FindingLemmas.{IsAmong, found-written, same_codes, written-found}
use Rattle.persistent_arrays.proofs.NumeralLemmas.{numeral-again, numeral-parts}

front : List ℕ
front = ascii "nvram://~/"

front-size : length front ≡ 10
unfolding front
front-size = refl

named : (name : List ℕ) (slot : ℕ) → Names name slot → name ≡ front ++ decimal_digits slot
unfolding front
named name slot h = h.written

digits-of : (name : List ℕ) (slot : ℕ) → Names name slot → numeral_at (drop 10 name) ≡ Some (slot, [])
digits-of name slot h =
    let digits : drop 10 name ≡ decimal_digits slot = ap (drop 10) (named name slot h) ∙ drop_at front (decimal_digits slot) 10 front-size in
    let few : slot < 100 = (let s = h.is_array in omega arith) in
    ap numeral_at (digits ∙ sym (append-nil (decimal_digits slot))) ∙ numeral-again slot [] few refl

read-named : (name : List ℕ) (found : ℕ) → is_same (take 10 name) (ascii "nvram://~/") ≡ true → numeral_at (drop 10 name) ≡ Some (found, []) → found < array_count → Names name found
unfolding front
read-named name found same read small =
    let digits = (numeral-parts (drop 10 name) (found, []) read).written in
    let begun : take 10 name ≡ front = same_codes (take 10 name) front same in
    record {
      is_array = small;
      written = sym (take-append-drop 10 name) ∙ ap (λ (f : List ℕ). f ++ drop 10 name) begun ∙ ap (λ (d : List ℕ). front ++ d) (digits ∙ append-nil (decimal_digits found));
    }

array-again : (name : List ℕ) (slot : ℕ) → Names name slot → number_of_array (drop 10 name) ≡ Some slot
array-again name slot h =
    ap (λ (read : Option (ℕ × List ℕ)). read >>= λ found. cond (nat_eq (length found.1) 0 && nat_lt found.0 array_count) (Some found.0) None) (digits-of name slot h)
    ∙ ap (λ (test : Bool). cond test (Some slot) None) (lt-ltb slot array_count h.is_array)

bind_some : {A B : Type 0} (read : Option A) (go : A → Option B) (b : B) → (read >>= go) ≡ Some b → (a : A) × (read ≡ Some a) × (go a ≡ Some b)
bind_some None go b e = absurd cc
bind_some (Some a) go b e = (a, refl, e)

found-named : (name : List ℕ) (slot : ℕ) → is_same (take 10 name) (ascii "nvram://~/") ≡ true → number_of_array (drop 10 name) ≡ Some slot → Names name slot
found-named name slot same e =
    let read = bind_some (numeral_at (drop 10 name)) _ slot e in
    let test = cond_some (nat_eq (length read.0.1) 0 && nat_lt read.0.0 array_count) read.0.0 slot read.2 in
    let parts = and_parts (nat_eq (length read.0.1) 0) (nat_lt read.0.0 array_count) test.0 in
    let nothing : read.0.1 ≡ [] = nil_from_length read.0.1 (eqb-true (length read.0.1) 0 parts.0) in
    let small : slot < array_count = subst (λ (n : ℕ). n < array_count) test.1 (ltb-true read.0.0 array_count parts.1) in
    read-named name slot same (read.1 ∙ ap (λ (n : ℕ). Some (n, read.0.1)) test.1 ∙ ap (λ (b : List ℕ). Some (slot, b)) nothing) small

pub slot-read : (name codes begun digits : List ℕ) (found : Option ℕ) → codes ≡ name → begun ≡ take 10 codes → digits ≡ drop 10 codes → is_same begun (ascii "nvram://~/") ≡ true → found ≡ number_of_array digits → MatchOption found ((slot : ℕ) → ¬ Names name slot) (λ slot. Names name slot)
slot-read name codes begun digits None c f d s e = λ slot h. none-some slot (e ∙ ap number_of_array (d ∙ ap (drop 10) c) ∙ array-again name slot h)
slot-read name codes begun digits (Some slot) c f d s e =
    found-named name slot (subst (λ (part : List ℕ). is_same part (ascii "nvram://~/") ≡ true) (f ∙ ap (take 10) c) s) (sym (e ∙ ap number_of_array (d ∙ ap (drop 10) c)))

-- a text names at most one array
pub named-once : (name : List ℕ) (slot other : ℕ) → Names name slot → Names name other → slot ≡ other
named-once name slot other h g = (some_pair_parts slot other [] [] (sym (digits-of name slot h) ∙ digits-of name other g)).0

-- ---- the array that a text names, worked out

among-range : (from count number : ℕ) → from ≤ number → number < from + count → IsAmong number (range_with_len from count)
among-range from zero number h g = absurd (omega arith)
among-range from (suc count) number h g = by (cases_lt from number) (λ above. among-range (from + 1) count number (omega arith) (omega arith))
  where
    by : (from < number) ⊎ (number ≤ from) → (from < number → IsAmong number (range_with_len (from + 1) count)) → IsAmong number (range_with_len from (suc count))
    by (inl above) later = inr (later above)
    by (inr below) later = inl (omega arith)

range-bounds : (from count number : ℕ) → IsAmong number (range_with_len from count) → number < from + count
range-bounds from zero number is = absurd is
range-bounds from (suc count) number (inl here) = omega arith
range-bounds from (suc count) number (inr later) = let below = range-bounds (from + 1) count number later in omega arith

names-array : (name : List ℕ) (slot : ℕ) → array_named name ≡ Some slot → Names name slot
unfolding array_named
names-array name slot e =
    let found = found-written array_name name (range_with_len 0 array_count) slot e in
    record { is_array = range-bounds 0 array_count slot found.0; written = found.1 }

array-found : (name : List ℕ) (slot : ℕ) → Names name slot → array_named name ≡ Some slot
unfolding array_named
array-found name slot h =
    ap array_named h.written ∙ written-found array_name (range_with_len 0 array_count) slot one (among-range 0 array_count slot (omega arith) h.is_array)
  where
    one : (other : ℕ) → IsAmong other (range_with_len 0 array_count) → array_name slot ≡ array_name other → other ≡ slot
    one other among e =
        named-once name other slot (record { is_array = range-bounds 0 array_count other among; written = h.written ∙ e }) h

pub named-worked_out : (name : List ℕ) (slot : ℕ) → (array_named name ≡ Some slot) ↔ Names name slot
named-worked_out name slot = (names-array name slot, array-found name slot)

pub read-array_named : (name : List ℕ) (found : Option ℕ) → MatchOption found ((slot : ℕ) → ¬ Names name slot) (λ slot. Names name slot) → found ≡ array_named name
read-array_named name (Some slot) names = sym (array-found name slot names)
read-array_named name None none = by (array_named name) refl
  where
    by : (found : Option ℕ) → array_named name ≡ found → None ≡ found
    by None e = refl
    by (Some slot) e = absurd (none slot (names-array name slot e))

pub few-arrays : (name : List ℕ) (found : Option ℕ) → MatchOption found ((slot : ℕ) → ¬ Names name slot) (λ slot. Names name slot) → IfSome found (λ slot. slot < array_count)
few-arrays name None none = tt
few-arrays name (Some slot) names = names.is_array
