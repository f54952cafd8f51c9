-- The three forms of the text that calls a function, and no other.
use Rattle.std.proofs.Common.{◌≡◌, ◌↔◌, ℕ, ◌+◌, ◌-◌, nat_le, Bool, true, false, cond, List, [], ◌∷◌, ◌++◌, length, take, drop, Option, Some, None, ◌⊎◌, inl, inr, refl, sym, ap, subst, ◌∙◌, arith}
use Rattle.std.specs.Prelude.{◌&&◌, codes, option_and_then}
use Rattle.std.specs.List.{list_all}
use Rattle.std.specs.Option.{option_or}
use Rattle.std.proofs.lemmas.Bool.{and_parts, le-leb}
use Rattle.std.proofs.lemmas.List.{append_assoc, drop_at, length-append, take-append-drop}
use Rattle.std.proofs.lemmas.List.Folds.{list_all-append}
use Rattle.std.proofs.lemmas.Option.{same_Some}
use Rattle.std.proofs.Math.Seq.{drop-append_seam, take-append_seam}
use Rattle.bml_bytes.specs.Words.{is_same}
use Rattle.browser_objects.specs.Functions.{Calls, before_ending, is_name, is_name_part, is_name_start, name_before, name_in, named_function}

-- equal codes are equal texts
abbrev SameTexts : Type 0
SameTexts = (text other : List ℕ) → (is_same text other ≡ true) ↔ (text ≡ other)

-- what a test lets pass
taken : {X : Type 0} (test : Bool) (x y : X) → cond test (Some x) None ≡ Some y → (test ≡ true) × (x ≡ y)
taken true x y e = (refl, same_Some x y e)
taken false x y e = absurd cc

-- ---- what has the form of a name or an ending

name-is : (text name : List ℕ) → name_in text ≡ Some name → (is_name name ≡ true) × (text ≡ name)
name-is text name e =
    let found = taken (is_name text) text name e in
    (subst (λ (t : List ℕ). is_name t ≡ true) found.1 found.0, found.1)

before-is : SameTexts → (ending text front : List ℕ) → before_ending ending text ≡ Some front → text ≡ front ++ ending
before-is same ending text front e =
    let place = length text - length ending in
    let found = taken (nat_le (length ending) (length text) && is_same (drop place text) ending) (take place text) front e in
    let parts = and_parts (nat_le (length ending) (length text)) (is_same (drop place text) ending) found.0 in
    let end : drop place text ≡ ending = (same (drop place text) ending).0 parts.1 in
    sym (take-append-drop place text) ∙ ap (λ (l : List ℕ). l ++ drop place text) found.1 ∙ ap (λ (l : List ℕ). front ++ l) end

name-before-is : SameTexts → (ending text name : List ℕ) → name_before ending text ≡ Some name
    → (is_name name ≡ true) × (text ≡ name ++ ending)
name-before-is same ending text name e = step (before_ending ending text) refl e
  where
    step : (found : Option (List ℕ)) → before_ending ending text ≡ found → option_and_then name_in found ≡ Some name
        → (is_name name ≡ true) × (text ≡ name ++ ending)
    step None is g = absurd cc
    step (Some front) is g =
        let n = name-is front name g in
        (n.0, before-is same ending text front is ∙ ap (λ (l : List ℕ). l ++ ending) n.1)

one-of : {X : Type 0} (a b : Option X) (x : X) → option_or a b ≡ Some x → (a ≡ Some x) ⊎ (b ≡ Some x)
one-of None b x e = inr e
one-of (Some y) b x e = inl e

pub calls-of : SameTexts → (name text : List ℕ) → named_function text ≡ Some name → Calls name text
calls-of same name text e =
    elim (one-of (name_in text) (option_or (name_before (codes "()") text) (name_before (codes "();") text)) name e) [
      | inl alone ↦ let n = name-is text name alone in record { named = n.0; form = inl n.1 }
      | inr rest ↦
          elim (one-of (name_before (codes "()") text) (name_before (codes "();") text) name rest) [
            | inl called ↦
                let n = name-before-is same (codes "()") text name called in
                record { named = n.0; form = inr (inl n.1) }
            | inr stated ↦
                let n = name-before-is same (codes "();") text name stated in
                record { named = n.0; form = inr (inr n.1) }
          ]
    ]

-- ---- each form is read

name-read : (name : List ℕ) → is_name name ≡ true → name_in name ≡ Some name
name-read name h = rw h refl

before-read : SameTexts → (ending front : List ℕ) → before_ending ending (front ++ ending) ≡ Some front
before-read same ending front =
    let size : length (front ++ ending) ≡ length front + length ending = length-append front ending in
    let place : length (front ++ ending) - length ending ≡ length front = omega arith in
    let long : nat_le (length ending) (length (front ++ ending)) ≡ true = le-leb (length ending) (length (front ++ ending)) (omega arith) in
    rw (long, place, drop-append_seam front ending, take-append_seam front ending, (same ending ending).1 refl) refl

name-before-read : SameTexts → (ending name : List ℕ) → is_name name ≡ true → name_before ending (name ++ ending) ≡ Some name
name-before-read same ending name h = rw (before-read same ending name) (name-read name h)

last-false : (a b c : Bool) → c ≡ false → (a && (b && c)) ≡ false
last-false true true c e = e
last-false true false c e = refl
last-false false b c e = refl

-- a name with codes behind it that belong to no name is no name
no-name : (name behind : List ℕ) → is_name name ≡ true → list_all is_name_part behind ≡ false → name_in (name ++ behind) ≡ None
no-name [] behind h g = absurd cc
no-name (first ∷ rest) behind h g =
    rw (list_all-append is_name_part rest behind, last-false (is_name_start first) (list_all is_name_part rest) (list_all is_name_part behind) g) refl

-- a statement ends with no call
no-call : (name : List ℕ) → name_before (codes "()") (name ++ codes "();") ≡ None
no-call name =
    let apart : name ++ codes "();" ≡ (name ++ codes "(") ++ codes ");" = sym (append_assoc name (codes "(") (codes ");")) in
    let size : length (name ++ codes "();") ≡ length name + 3 = length-append name (codes "();") in
    let front : length (name ++ codes "(") ≡ length (name ++ codes "();") - 2 =
    let e = length-append name (codes "(") in omega arith in
    let end : drop (length (name ++ codes "();") - 2) (name ++ codes "();") ≡ codes ");" =
    ap (drop (length (name ++ codes "();") - 2)) apart
    ∙ drop_at (name ++ codes "(") (codes ");") (length (name ++ codes "();") - 2) front in
    ap (option_and_then name_in) (none-before (nat_le 2 (length (name ++ codes "();"))) (drop (length (name ++ codes "();") - 2) (name ++ codes "();")) (take (length (name ++ codes "();") - 2) (name ++ codes "();")) end)
  where
    none-before : (long : Bool) (end front : List ℕ) → end ≡ codes ");"
        → cond (long && is_same end (codes "()")) (Some front) None ≡ None
    none-before true end front e = rw e refl
    none-before false end front e = refl

form-read : SameTexts → (name text : List ℕ) → is_name name ≡ true
    → (text ≡ name) ⊎ ((text ≡ name ++ codes "()") ⊎ (text ≡ name ++ codes "();"))
    → named_function text ≡ Some name
form-read same name text h form =
    elim form [
      | inl alone ↦ rw (alone, name-read name h) refl
      | inr rest ↦
          elim rest [
            | inl called ↦
                rw (called, no-name name (codes "()") h refl, name-before-read same (codes "()") name h) refl
            | inr stated ↦
                rw (stated, no-name name (codes "();") h refl, no-call name) (name-before-read same (codes "();") name h)
          ]
    ]

pub read-of : SameTexts → (name text : List ℕ) → Calls name text → named_function text ≡ Some name
read-of same name text c = form-read same name text c.named c.form
