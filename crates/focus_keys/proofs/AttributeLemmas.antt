-- The first attribute of a name.
use Rattle.std.proofs.Common.{◌≡◌, ℕ, zero, suc, ◌<◌, Bool, true, false, cond, List, [], ◌∷◌, length, Some, None, find, option_map, ap, ◌∙◌, arith, refl}
use Rattle.std.specs.Prelude.{slice_get}
use Rattle.std.proofs.lemmas.Cmp.{nat_list_eq_equiv}
use Rattle.bml_bytes.specs.Words.{is_same}
use Rattle.dom_tree.specs.Items.{Attribute, value_in}

-- none of the first attributes has the name
pub record LackName (name : List ℕ) (attributes : List Attribute) (count : ℕ) : Type 0 where
  pub lack : (k : ℕ) (attribute : Attribute) → k < count → slice_get attributes k ≡ Some attribute → is_same attribute.name name ≡ false

-- the tests of a name, either way round
turned : (name other : List ℕ) → is_same name other ≡ is_same other name
turned name other = nat_list_eq_equiv.symm name other

behind : (name : List ℕ) (x : Attribute) (xs : List Attribute) (count : ℕ) → LackName name (x ∷ xs) (suc count) → LackName name xs count
behind name x xs count before = record { lack = λ k attribute low got. before.lack (suc k) attribute (omega (arith, low)) got }

first : (name : List ℕ) (x : Attribute) (xs : List Attribute) (b : Bool) → is_same x.name name ≡ b → value_in (x ∷ xs) name ≡ cond b (Some x.value) (value_in xs name)
first name x xs b e = ap (λ (c : Bool). option_map (λ (a : Attribute). a.value) (cond c (Some x) (find (λ (a : Attribute). is_same name a.name) xs))) (turned name x.name ∙ e) ∙ by b
  where
    by : (c : Bool) → option_map (λ (a : Attribute). a.value) (cond c (Some x) (find (λ (a : Attribute). is_same name a.name) xs)) ≡ cond c (Some x.value) (value_in xs name)
    by true = refl
    by false = refl

pub value_in-found : (name : List ℕ) (attributes : List Attribute) (k : ℕ) (attribute : Attribute) → LackName name attributes k → slice_get attributes k ≡ Some attribute → is_same attribute.name name ≡ true → value_in attributes name ≡ Some attribute.value
value_in-found name [] k attribute before got e = cc
value_in-found name (x ∷ xs) zero attribute before got e = let same : x ≡ attribute = cc in first name x xs true (ap (λ (a : Attribute). is_same a.name name) same ∙ e) ∙ ap (λ (a : Attribute). Some a.value) same
value_in-found name (x ∷ xs) (suc k) attribute before got e = first name x xs false (before.lack 0 x (omega arith) refl) ∙ value_in-found name xs k attribute (behind name x xs k before) got e

pub value_in-none : (name : List ℕ) (attributes : List Attribute) → LackName name attributes (length attributes) → value_in attributes name ≡ None
value_in-none name [] before = refl
value_in-none name (x ∷ xs) before = first name x xs false (before.lack 0 x (omega arith) refl) ∙ value_in-none name xs (behind name x xs (length xs) before)
