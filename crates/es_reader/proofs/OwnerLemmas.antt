-- What each node is given: the first function that it is inside of.
use Rattle.std.proofs.Common.{◌≡◌, ◌∙◌, ◌+◌, ◌-◌, ◌<◌, ◌≤◌, ◌⊎◌, ◌↔◌, inl, inr, ℕ, zero, suc, List, [], ◌∷◌, ◌++◌, length, replicate, Bool, true, false, Option, Some, None, refl, sym, ap, subst, arith}
use Rattle.std.specs.Prelude.{min, nat_lt, if◌then◌else◌, slice_get, slice_set}
use Rattle.std.specs.Option.{option_map, option_map_or}
use Rattle.std.proofs.Math.Nat.{eq-or-lt_of_le}
use Rattle.std.proofs.lemmas.Bool.{lt-ltb, ltb-true}
use Rattle.std.proofs.lemmas.List.{length-replicate}
use Rattle.std.proofs.lemmas.Option.{none-some, same_Some, slice_get_within}
use Rattle.es_expressions.specs.Nodes.{NodeRow}
use Rattle.es_expressions.specs.declared.nodes.Node.{Node}
use Rattle.es_reader.specs.Locals.{IsInside, LeadsDown, StandsIn}
use Rattle.es_reader.specs.Programs.{ToldFunction, ToldProgram}
use Rattle.es_reader.specs.devices.Owners.{children_at, earlier, given, given_all, given_below, handed_by, handed_down, handed_from, owner_at, owners_in, started}

-- the node has this function or an earlier one
abbrev Has : List (Option ℕ) → ℕ → ℕ → Type 0
Has owners number function =
    (owner : ℕ) × (slice_get owners number ≡ Some (Some owner)) × (owner ≤ function)

-- whatever a node has is so
abbrev Are : (ℕ → ℕ → Type 0) → List (Option ℕ) → Type 0
Are P owners = (number function : ℕ) → slice_get owners number ≡ Some (Some function) → P number function

-- ---- one node is given

earlier-within : (function : ℕ) (owner : Option ℕ) → earlier function owner ≤ function
earlier-within function None = omega arith
earlier-within function (Some owner) = omega arith

given-here : (owners : List (Option ℕ)) (number function : ℕ) → number < length owners
    → Has (given owners number function) number function
given-here [] number function l = absurd (omega arith)
given-here (owner ∷ owners) zero function l = (earlier function owner, refl, earlier-within function owner)
given-here (owner ∷ owners) (suc number) function l = given-here owners number function (omega arith)

earlier-keeps : (function other : ℕ) (owner : Option ℕ) (kept : ℕ) → Some owner ≡ Some (Some kept)
    → kept ≤ other → earlier function owner ≤ other
earlier-keeps function other None kept e l = absurd (none-some kept (same_Some None (Some kept) e))
earlier-keeps function other (Some owner) kept e l =
    let same : owner ≡ kept = same_Some owner kept (same_Some (Some owner) (Some kept) e) in
    omega arith

given-keeps : (owners : List (Option ℕ)) (number function other wanted : ℕ)
    → Has owners other wanted → Has (given owners number function) other wanted
given-keeps [] number function other wanted h = h
given-keeps (owner ∷ owners) zero function zero wanted h =
    (earlier function owner, refl, earlier-keeps function wanted owner h.0 h.1 h.2)
given-keeps (owner ∷ owners) zero function (suc other) wanted h = h
given-keeps (owner ∷ owners) (suc number) function zero wanted h = h
given-keeps (owner ∷ owners) (suc number) function (suc other) wanted h =
    given-keeps owners number function other wanted h

given-length : (owners : List (Option ℕ)) (number function : ℕ)
    → length (given owners number function) ≡ length owners
given-length [] number function = refl
given-length (owner ∷ owners) zero function = refl
given-length (owner ∷ owners) (suc number) function = ap suc (given-length owners number function)

given-behind : (owners : List (Option ℕ)) (number function other : ℕ) → number < other
    → slice_get (given owners number function) other ≡ slice_get owners other
given-behind [] number function other l = refl
given-behind (owner ∷ owners) zero function zero l = absurd (omega arith)
given-behind (owner ∷ owners) zero function (suc other) l = refl
given-behind (owner ∷ owners) (suc number) function zero l = refl
given-behind (owner ∷ owners) (suc number) function (suc other) l =
    given-behind owners number function other (omega arith)

earlier-is : (P : ℕ → Type 0) (function : ℕ) (owner : Option ℕ)
    → ((kept : ℕ) → Some owner ≡ Some (Some kept) → P kept) → P function
    → P (earlier function owner)
earlier-is P function None old new = new
earlier-is P function (Some owner) old new =
    by (eq-or-lt_of_le (omega arith))
  where
    by : (min owner function ≡ owner) ⊎ (min owner function < owner) → P (min owner function)
    by (inl e) = subst P (sym e) (old owner refl)
    by (inr l) = let e : function ≡ min owner function = omega arith in subst P e new

given-are : (P : ℕ → ℕ → Type 0) (owners : List (Option ℕ)) (number function : ℕ) → Are P owners
    → P number function → Are P (given owners number function)
given-are P [] number function old new other kept e = old other kept e
given-are P (owner ∷ owners) zero function old new zero kept e =
    subst (P zero) (same_Some (earlier function owner) kept (same_Some (Some (earlier function owner)) (Some kept) e))
    (earlier-is (P zero) function owner (old zero) new)
given-are P (owner ∷ owners) zero function old new (suc other) kept e = old (suc other) kept e
given-are P (owner ∷ owners) (suc number) function old new zero kept e = old zero kept e
given-are P (owner ∷ owners) (suc number) function old new (suc other) kept e =
    given-are (λ x. P (suc x)) owners number function (λ x. old (suc x)) new other kept e

-- as the code writes it
pub given_set : (owners : List (Option ℕ)) (number function : ℕ) (owner : Option ℕ)
    → slice_get owners number ≡ Some owner
    → slice_set owners number (Some (earlier function owner)) ≡ given owners number function
given_set [] number function owner e = absurd (none-some owner e)
given_set (first ∷ owners) zero function owner e =
    ap (λ x. Some (earlier function x) ∷ owners) (sym (same_Some first owner e))
given_set (first ∷ owners) (suc number) function owner e =
    ap (λ xs. first ∷ xs) (given_set owners number function owner e)

pub given_past : (owners : List (Option ℕ)) (number function : ℕ)
    → slice_get owners number ≡ None → owners ≡ given owners number function
given_past [] number function e = refl
given_past (first ∷ owners) zero function e = absurd (none-some first (sym e))
given_past (first ∷ owners) (suc number) function e =
    ap (λ xs. first ∷ xs) (given_past owners number function e)

-- ---- loops of the code

pub none_more : (count : ℕ) → replicate {A = Option ℕ} count None ++ (None ∷ []) ≡ replicate (count + 1) None
none_more count =
    let up : suc count ≡ count + 1 = omega arith in
    more count ∙ ap (λ n. replicate {A = Option ℕ} n None) up
  where
    more : (count : ℕ) → replicate {A = Option ℕ} count None ++ (None ∷ []) ≡ replicate (suc count) None
    more zero = refl
    more (suc count) = ap (λ xs. None ∷ xs) (more count)

pub down_step : (rows : List NodeRow) (number : ℕ) (owners : List (Option ℕ)) → 0 < number
    → handed_down rows number owners ≡ handed_down rows (number - 1) (handed_from rows (number - 1) owners)
down_step rows zero owners l = absurd (omega arith)
down_step rows (suc number) owners l =
    let e : suc number - 1 ≡ number = omega arith in
    ap (λ n. handed_down rows n (handed_from rows n owners)) (sym e)

pub node_there : (rows : List NodeRow) (number : ℕ) (node : Node)
    → Some node ≡ option_map (λ (row : NodeRow). row.node) (slice_get rows number) → number < length rows
node_there rows number node e = by (slice_get rows number) refl e
  where
    by : (found : Option NodeRow) → slice_get rows number ≡ found
        → Some node ≡ option_map (λ (row : NodeRow). row.node) found → number < length rows
    by None r h = absurd (none-some node (sym h))
    by (Some row) r h = slice_get_within rows number row r

pub node_past : (rows : List NodeRow) (number : ℕ)
    → None ≡ option_map (λ (row : NodeRow). row.node) (slice_get rows number) → length rows ≤ number
node_past [] number e = omega arith
node_past (row ∷ rows) zero e = absurd (none-some row.node e)
node_past (row ∷ rows) (suc number) e = let l = node_past rows number e in omega arith

-- ---- nodes below a bound

module _ (bound function : ℕ) where
  below-keeps : (number : ℕ) (owners : List (Option ℕ)) (other wanted : ℕ) → Has owners other wanted
      → Has (given_below bound function number owners) other wanted
  below-keeps number owners other wanted h = by (nat_lt number bound)
    where
      by : (is : Bool) → Has (if is then given owners number function else owners) other wanted
      by true = given-keeps owners number function other wanted h
      by false = h

  below-length : (number : ℕ) (owners : List (Option ℕ))
      → length (given_below bound function number owners) ≡ length owners
  below-length number owners = by (nat_lt number bound)
    where
      by : (is : Bool) → length (if is then given owners number function else owners) ≡ length owners
      by true = given-length owners number function
      by false = refl

  below-behind : (number : ℕ) (owners : List (Option ℕ)) (other : ℕ) → bound ≤ other
      → slice_get (given_below bound function number owners) other ≡ slice_get owners other
  below-behind number owners other l = by (nat_lt number bound) refl
    where
      by : (is : Bool) → nat_lt number bound ≡ is
          → slice_get (if is then given owners number function else owners) other ≡ slice_get owners other
      by true e = let m : number < bound = ltb-true number bound e in
          given-behind owners number function other (omega arith)
      by false e = refl

  below-here : (number : ℕ) (owners : List (Option ℕ)) → number < bound → number < length owners
      → Has (given_below bound function number owners) number function
  below-here number owners l m = by (nat_lt number bound) refl
    where
      by : (is : Bool) → nat_lt number bound ≡ is
          → Has (if is then given owners number function else owners) number function
      by true e = given-here owners number function m
      by false e = let no : true ≡ false = sym (lt-ltb number bound l) ∙ e in absurd (cc)

  below-are : (P : ℕ → ℕ → Type 0) (number : ℕ) (owners : List (Option ℕ)) → Are P owners
      → (number < bound → P number function) → Are P (given_below bound function number owners)
  below-are P number owners old new = by (nat_lt number bound) refl
    where
      by : (is : Bool) → nat_lt number bound ≡ is
          → Are P (if is then given owners number function else owners)
      by true e = given-are P owners number function old (new (ltb-true number bound e))
      by false e = old

  all-keeps : (numbers : List ℕ) (owners : List (Option ℕ)) (other wanted : ℕ)
      → Has owners other wanted → Has (given_all bound function numbers owners) other wanted
  all-keeps [] owners other wanted h = h
  all-keeps (number ∷ numbers) owners other wanted h =
      all-keeps numbers (given_below bound function number owners) other wanted
      (below-keeps number owners other wanted h)

  all-length : (numbers : List ℕ) (owners : List (Option ℕ))
      → length (given_all bound function numbers owners) ≡ length owners
  all-length [] owners = refl
  all-length (number ∷ numbers) owners =
      all-length numbers (given_below bound function number owners) ∙ below-length number owners

  all-behind : (numbers : List ℕ) (owners : List (Option ℕ)) (other : ℕ) → bound ≤ other
      → slice_get (given_all bound function numbers owners) other ≡ slice_get owners other
  all-behind [] owners other l = refl
  all-behind (number ∷ numbers) owners other l =
      all-behind numbers (given_below bound function number owners) other l
      ∙ below-behind number owners other l

  all-here : (numbers : List ℕ) (owners : List (Option ℕ)) (place number : ℕ)
      → slice_get numbers place ≡ Some number → number < bound → number < length owners
      → Has (given_all bound function numbers owners) number function
  all-here [] owners place number e l m = absurd (none-some number e)
  all-here (first ∷ numbers) owners zero number e l m =
      let same : first ≡ number = same_Some first number e in
      all-keeps numbers (given_below bound function first owners) number function
      (subst (λ x. Has (given_below bound function first owners) x function) same
      (below-here first owners (omega arith) (omega arith)))
  all-here (first ∷ numbers) owners (suc place) number e l m =
      all-here numbers (given_below bound function first owners) place number e l
      (omega (arith, below-length first owners))

  all-are : (P : ℕ → ℕ → Type 0) (numbers : List ℕ) (owners : List (Option ℕ)) → Are P owners
      → ((place number : ℕ) → slice_get numbers place ≡ Some number → number < bound → P number function)
      → Are P (given_all bound function numbers owners)
  all-are P [] owners old new = old
  all-are P (number ∷ numbers) owners old new =
      all-are P numbers (given_below bound function number owners)
      (below-are P number owners old (λ l. new zero number refl l))
      (λ place other e l. new (suc place) other e l)

-- ---- the statements of bodies

module _ (bound : ℕ) where
  started-keeps : (functions : List ToldFunction) (first : ℕ) (owners : List (Option ℕ))
      (other wanted : ℕ) → Has owners other wanted
      → Has (started bound first functions owners) other wanted
  started-keeps [] first owners other wanted h = h
  started-keeps (told ∷ functions) first owners other wanted h =
      started-keeps functions (first + 1) (given_all bound first told.body owners) other wanted
      (all-keeps bound first told.body owners other wanted h)

  started-length : (functions : List ToldFunction) (first : ℕ) (owners : List (Option ℕ))
      → length (started bound first functions owners) ≡ length owners
  started-length [] first owners = refl
  started-length (told ∷ functions) first owners =
      started-length functions (first + 1) (given_all bound first told.body owners)
      ∙ all-length bound first told.body owners

  started-here : (functions : List ToldFunction) (first : ℕ) (owners : List (Option ℕ))
      (index : ℕ) (declared : ToldFunction) (place number : ℕ)
      → slice_get functions index ≡ Some declared → slice_get declared.body place ≡ Some number
      → number < bound → number < length owners
      → Has (started bound first functions owners) number (first + index)
  started-here [] first owners index declared place number f e l m = absurd (none-some declared f)
  started-here (told ∷ functions) first owners zero declared place number f e l m =
      let same : told ≡ declared = same_Some told declared f in
      let here : slice_get told.body place ≡ Some number = ap (λ (x : ToldFunction). slice_get x.body place) same ∙ e in
      let at : first ≡ first + 0 = omega arith in
      subst (Has (started bound first (told ∷ functions) owners) number) at
      (started-keeps functions (first + 1) (given_all bound first told.body owners) number first
      (all-here bound first told.body owners place number here l m))
  started-here (told ∷ functions) first owners (suc index) declared place number f e l m =
      let at : first + 1 + index ≡ first + suc index = omega arith in
      subst (Has (started bound first (told ∷ functions) owners) number) at
      (started-here functions (first + 1) (given_all bound first told.body owners) index declared place number f e l
      (omega (arith, all-length bound first told.body owners)))

  started-are : (P : ℕ → ℕ → Type 0) (functions : List ToldFunction) (first : ℕ)
      (owners : List (Option ℕ)) → Are P owners
      → ((index : ℕ) (declared : ToldFunction) (place number : ℕ)
      → slice_get functions index ≡ Some declared → slice_get declared.body place ≡ Some number
      → P number (first + index))
      → Are P (started bound first functions owners)
  started-are P [] first owners old new = old
  started-are P (told ∷ functions) first owners old new =
      started-are P functions (first + 1) (given_all bound first told.body owners)
      (all-are bound first P told.body owners old
      (λ place number e l. let at : first + 0 ≡ first = omega arith in subst (P number) at (new zero told place number refl e)))
      (λ index declared place number f e. let at : first + suc index ≡ first + 1 + index = omega arith in
      subst (P number) at (new (suc index) declared place number f e))

-- ---- what a node has

pub owned : (owners : List (Option ℕ)) (number function : ℕ) → slice_get owners number ≡ Some (Some function)
    → owner_at owners number ≡ Some function
owned owners number function e = ap (λ (found : Option (Option ℕ)). option_map_or (λ (owner : Option ℕ). owner) found None) e

pub owner-is : (owners : List (Option ℕ)) (number function : ℕ) → owner_at owners number ≡ Some function
    → slice_get owners number ≡ Some (Some function)
owner-is owners number function e = by (slice_get owners number) e
  where
    by : (found : Option (Option ℕ)) → option_map_or (λ (owner : Option ℕ). owner) found None ≡ Some function
        → found ≡ Some (Some function)
    by None h = absurd (none-some function h)
    by (Some owner) h = ap Some h

-- ---- children

module _ (rows : List NodeRow) where
  -- each node from one on has handed its function down to its children
  abbrev HaveHanded : ℕ → List (Option ℕ) → Type 0
  HaveHanded from owners =
      (number function : ℕ) (row : NodeRow) (place child : ℕ) → from ≤ number
      → slice_get owners number ≡ Some (Some function) → slice_get rows number ≡ Some row
      → slice_get row.children place ≡ Some child → child < number → Has owners child function

  by-keeps : (number : ℕ) (owner : Option ℕ) (owners : List (Option ℕ)) (other wanted : ℕ)
      → Has owners other wanted → Has (handed_by rows number owner owners) other wanted
  by-keeps number None owners other wanted h = h
  by-keeps number (Some function) owners other wanted h =
      all-keeps number function (children_at rows number) owners other wanted h

  by-length : (number : ℕ) (owner : Option ℕ) (owners : List (Option ℕ))
      → length (handed_by rows number owner owners) ≡ length owners
  by-length number None owners = refl
  by-length number (Some function) owners = all-length number function (children_at rows number) owners

  by-behind : (number : ℕ) (owner : Option ℕ) (owners : List (Option ℕ)) (other : ℕ) → number ≤ other
      → slice_get (handed_by rows number owner owners) other ≡ slice_get owners other
  by-behind number None owners other l = refl
  by-behind number (Some function) owners other l =
      all-behind number function (children_at rows number) owners other l

  by-here : (number function : ℕ) (owner : Option ℕ) (owners : List (Option ℕ)) (row : NodeRow) (place child : ℕ)
      → owner ≡ Some function → slice_get rows number ≡ Some row → slice_get row.children place ≡ Some child
      → child < number → child < length owners → Has (handed_by rows number owner owners) child function
  by-here number function None owners row place child o r c l m = absurd (none-some function o)
  by-here number function (Some owner) owners row place child o r c l m =
      let same : owner ≡ function = same_Some owner function o in
      let at : slice_get (children_at rows number) place ≡ Some child =
      ap (λ found. slice_get (option_map_or (λ (x : NodeRow). x.children) found []) place) r ∙ c in
      subst (Has (given_all number owner (children_at rows number) owners) child) same
      (all-here number owner (children_at rows number) owners place child at l m)

  hand-one : (number : ℕ) (owners : List (Option ℕ)) → HaveHanded (suc number) owners
      → HaveHanded number (handed_from rows number owners)
  hand-one number owners h other function row place child from o r c l = by (eq-or-lt_of_le from)
    where
      by : (number ≡ other) ⊎ (number < other) → Has (handed_from rows number owners) child function
      by (inl e) =
          let before : slice_get owners other ≡ Some (Some function) =
          sym (by-behind number (owner_at owners number) owners other from) ∙ o in
          let within = slice_get_within owners other (Some function) before in
          by-here number function (owner_at owners number) owners row place child
          (ap (owner_at owners) e ∙ owned owners other function before)
          (ap (slice_get rows) e ∙ r) c (omega arith) (omega arith)
      by (inr m) =
          by-keeps number (owner_at owners number) owners child function
          (h other function row place child (omega arith)
          (sym (by-behind number (owner_at owners number) owners other from) ∙ o) r c l)

  hand-all : (number : ℕ) (owners : List (Option ℕ)) → HaveHanded number owners
      → HaveHanded zero (handed_down rows number owners)
  hand-all zero owners h = h
  hand-all (suc number) owners h =
      hand-all number (handed_from rows number owners) (hand-one number owners h)

  down-keeps : (number : ℕ) (owners : List (Option ℕ)) (other wanted : ℕ) → Has owners other wanted
      → Has (handed_down rows number owners) other wanted
  down-keeps zero owners other wanted h = h
  down-keeps (suc number) owners other wanted h =
      down-keeps number (handed_from rows number owners) other wanted
      (by-keeps number (owner_at owners number) owners other wanted h)

  down-length : (number : ℕ) (owners : List (Option ℕ))
      → length (handed_down rows number owners) ≡ length owners
  down-length zero owners = refl
  down-length (suc number) owners =
      down-length number (handed_from rows number owners)
      ∙ by-length number (owner_at owners number) owners

  -- what goes from a node to its children goes to all
  abbrev GoesDown : (ℕ → ℕ → Type 0) → Type 0
  GoesDown P =
      (number function : ℕ) (row : NodeRow) (place child : ℕ) → P number function
      → slice_get rows number ≡ Some row → slice_get row.children place ≡ Some child → child < number
      → P child function

  child-of : (number place child : ℕ) → slice_get (children_at rows number) place ≡ Some child
      → (row : NodeRow) × (slice_get rows number ≡ Some row) × (slice_get row.children place ≡ Some child)
  child-of number place child e = by (slice_get rows number) refl e
    where
      by : (found : Option NodeRow) → slice_get rows number ≡ found
          → slice_get (option_map_or (λ (x : NodeRow). x.children) found []) place ≡ Some child
          → (row : NodeRow) × (slice_get rows number ≡ Some row) × (slice_get row.children place ≡ Some child)
      by None r c = absurd (none-some child c)
      by (Some row) r c = (row, r, c)

  down-are : (P : ℕ → ℕ → Type 0) → GoesDown P → (number : ℕ) (owners : List (Option ℕ)) → Are P owners
      → Are P (handed_down rows number owners)
  down-are P goes zero owners old = old
  down-are P goes (suc number) owners old =
      down-are P goes number (handed_from rows number owners) (by (owner_at owners number) refl)
    where
      by : (owner : Option ℕ) → owner_at owners number ≡ owner → Are P (handed_by rows number owner owners)
      by None e = old
      by (Some function) e =
          all-are number function P (children_at rows number) owners old
          (λ place child c l. let found = child-of number place child c in
          goes number function found.0 place child (old number function (owner-is owners number function e)) found.1 found.2 l)

  led-down : (owners : List (Option ℕ)) → HaveHanded zero owners → (places : List ℕ) (from number function : ℕ)
      → Has owners from function → LeadsDown rows from places number → Has owners number function
  led-down owners h [] from number function has leads =
      subst (λ x. Has owners x function) leads has
  led-down owners h (place ∷ places) from number function has (row, r, child, c, l, leads) =
      let next = h from has.0 row place child (omega arith) has.1 r c l in
      led-down owners h places child number function (next.0, next.1, omega arith) leads

  down-one : (places : List ℕ) (from number : ℕ) (row : NodeRow) (place child : ℕ)
      → LeadsDown rows from places number → slice_get rows number ≡ Some row
      → slice_get row.children place ≡ Some child → child < number
      → LeadsDown rows from (places ++ (place ∷ [])) child
  down-one [] from number row place child leads r c l =
      (row, ap (slice_get rows) leads ∙ r, child, c, omega arith, refl)
  down-one (first ∷ places) from number row place child (other, o, next, n, m, leads) r c l =
      (other, o, next, n, m, down-one places next number row place child leads r c l)

-- ---- all together

none-at : (count number : ℕ) (function : ℕ) → slice_get (replicate {A = Option ℕ} count None) number ≡ Some (Some function) → ⊥
none-at zero number function e = none-some (Some function) e
none-at (suc count) zero function e = none-some function (same_Some None (Some function) e)
none-at (suc count) (suc number) function e = none-at count number function e

abbrev none_owned : ℕ → List (Option ℕ)
none_owned count = replicate count None

module _ (told : ToldProgram) where
  abbrev owners : List (Option ℕ)
  owners = owners_in told.rows told.functions

  abbrev first_owners : List (Option ℕ)
  first_owners = started (length told.rows) 0 told.functions (none_owned (length told.rows))

  start-length : length (none_owned (length told.rows)) ≡ length told.rows
  start-length = length-replicate (length told.rows) None

  first-length : length first_owners ≡ length told.rows
  first-length =
      started-length (length told.rows) told.functions 0 (none_owned (length told.rows))
      ∙ length-replicate (length told.rows) None

  owners-length : length owners ≡ length told.rows
  owners-length = down-length told.rows (length told.rows) first_owners ∙ first-length

  handed : HaveHanded told.rows zero owners
  handed =
      hand-all told.rows (length told.rows) first_owners
      (λ number function row place child from o r c l.
      let within = slice_get_within told.rows number row r in absurd (omega arith))

  starts-below : (start number : ℕ) (places : List ℕ) (row : NodeRow) → slice_get told.rows number ≡ Some row
      → LeadsDown told.rows start places number → start < length told.rows
  starts-below start number [] row r leads =
      slice_get_within told.rows start row (ap (slice_get told.rows) leads ∙ r)
  starts-below start number (place ∷ places) row r leads =
      slice_get_within told.rows start leads.0 leads.1

  has : (number function : ℕ) (row : NodeRow) → slice_get told.rows number ≡ Some row
      → IsInside told function number → Has owners number function
  has number function row r inside =
      let below : inside.start < length told.rows = starts-below inside.start number inside.places row r inside.leads in
      let at : 0 + function ≡ function = omega arith in
      led-down told.rows owners handed inside.places inside.start number function
      (down-keeps told.rows (length told.rows) first_owners inside.start function
      (subst (Has first_owners inside.start) at
      (started-here (length told.rows) told.functions 0 (none_owned (length told.rows)) function inside.declared
      inside.place inside.start inside.is inside.begins below (omega (arith, start-length)))))
      inside.leads

  insides : Are (λ number function. IsInside told function number) owners
  insides =
      down-are told.rows (λ number function. IsInside told function number)
      (λ number function row place child inside r c l. record {
        declared = inside.declared;
        is = inside.is;
        place = inside.place;
        start = inside.start;
        begins = inside.begins;
        places = inside.places ++ (place ∷ []);
        leads = down-one told.rows inside.places inside.start number row place child inside.leads r c l;
      })
      (length told.rows) first_owners
      (started-are (length told.rows) (λ number function. IsInside told function number) told.functions 0
      (none_owned (length told.rows))
      (λ number function e. absurd (none-at (length told.rows) number function e))
      (λ index declared place number f e. let at : index ≡ 0 + index = omega arith in
      subst (λ x. IsInside told x number) at (record {
        declared = declared;
        is = f;
        place = place;
        start = number;
        begins = e;
        places = [];
        leads = refl;
      })))

  row-there : (xs : List NodeRow) (number : ℕ) → number < length xs → (row : NodeRow) × (slice_get xs number ≡ Some row)
  row-there [] number l = absurd (omega arith)
  row-there (x ∷ xs) zero l = (x, refl)
  row-there (x ∷ xs) (suc number) l = row-there xs number (omega arith)

  pub stands : (number function : ℕ) → owner_at owners number ≡ Some function → StandsIn told number function
  stands number function e =
      let at = owner-is owners number function e in
      let within = slice_get_within owners number (Some function) at in
      let row = row-there told.rows number (omega (arith, owners-length)) in
      record {
        row = row.0;
        there = row.1;
        inside = insides number function at;
        first = λ other l inside.
            let has_one = has number other row.0 row.1 inside in
            let same : has_one.0 ≡ function =
            same_Some has_one.0 function (same_Some (Some has_one.0) (Some function) (sym has_one.1 ∙ at)) in
            let m = has_one.2 in
            omega arith;
      }

  pub stood : (number function : ℕ) → StandsIn told number function → owner_at owners number ≡ Some function
  stood number function stands =
      by (has number function stands.row stands.there stands.inside)
    where
      by : Has owners number function → owner_at owners number ≡ Some function
      by (owner, e, l) = cases (eq-or-lt_of_le l)
        where
          cases : (owner ≡ function) ⊎ (owner < function) → owner_at owners number ≡ Some function
          cases (inl same) = owned owners number owner e ∙ ap Some same
          cases (inr m) = absurd (stands.first owner m (insides number owner e))

  pub standing : (number function : ℕ) → (owner_at owners number ≡ Some function) ↔ StandsIn told number function
  standing number function = (stands number function, stood number function)
