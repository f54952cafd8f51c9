-- The rules of style texts, node by node, and the text in an element, child by child.
use Rattle.std.proofs.Common.{◌≡◌, ℕ, zero, suc, ◌+◌, ◌-◌, ◌<◌, List, [], ◌∷◌, ◌++◌, length, Option, Some, None, refl, sym, ◌∙◌, ap, subst, append_assoc, append-nil, add-one, add-zero, arith}
use Rattle.std.specs.Prelude.{◌↔◌, Contains, IfSome}
use Rattle.std.specs.Option.{option_map_or}
use Rattle.std.specs.List.{cons_option, filter_map, flat_map, range_with_len}
use Rattle.std.proofs.lemmas.Grind.{flat_map-append}
use Rattle.std.proofs.lemmas.List.Elements.{filter_map-append}
use Rattle.dom_tree.specs.Items.{Item, parent_of}
use Rattle.dom_tree.specs.NodeNumbers.{number_of}
use Rattle.dom_tree.specs.declared.node_ids.NodeId.{NodeId}
use Rattle.dom_tree.specs.Walks.{after, children_of, first, siblings_of}
use Rattle.style_reader.specs.Readings.{rules_of}
use Rattle.style_reader.specs.declared.rules.Rule.{Rule}
use Rattle.document_load.specs.StyleTexts.{child_text, given_for, own_text, rules_by_texts, style_text, text_at}

-- ---- nodes

-- the rules of the nodes below this number
abbrev pub rules_below : List Item → List ℕ → List (Option (List ℕ)) → ℕ → List Rule
rules_below items named given number = flat_map rules_of (filter_map (style_text items named given) (range_with_len 0 number))

range_more : (from count : ℕ) → range_with_len from (suc count) ≡ range_with_len from count ++ (from + count) ∷ []
range_more from zero = ap (λ (n : ℕ). n ∷ []) (sym (add-zero from))
range_more from (suc count) =
    let shift : from + 1 + count ≡ from + suc count = omega arith in
    ap (λ (l : List ℕ). from ∷ l) (range_more (from + 1) count ∙ ap (λ (n : ℕ). range_with_len (from + 1) count ++ n ∷ []) shift)

pub range_next : (count : ℕ) → range_with_len 0 (count + 1) ≡ range_with_len 0 count ++ count ∷ []
range_next count =
    let from_zero : 0 + count ≡ count = omega arith in
    ap (range_with_len 0) (add-one count) ∙ range_more 0 count ∙ ap (λ (n : ℕ). range_with_len 0 count ++ n ∷ []) from_zero

rules_one : (text : Option (List ℕ)) → flat_map rules_of (cons_option text []) ≡ option_map_or rules_of text []
rules_one None = refl
rules_one (Some text) = append-nil (rules_of text)

rules_behind : (style : ℕ → Option (List ℕ)) (numbers : List ℕ) (number : ℕ) → flat_map rules_of (filter_map style (numbers ++ number ∷ [])) ≡ flat_map rules_of (filter_map style numbers) ++ option_map_or rules_of (style number) []
rules_behind style numbers number =
    ap (flat_map rules_of) (filter_map-append style numbers (number ∷ []))
    ∙ flat_map-append rules_of (filter_map style numbers) (filter_map style (number ∷ []))
    ∙ ap (λ (l : List Rule). flat_map rules_of (filter_map style numbers) ++ l) (rules_one (style number))

-- one node more
pub rules_below-more : (items : List Item) (named : List ℕ) (given : List (Option (List ℕ))) (number : ℕ) (gift : List ℕ) (rules more : List Rule) → rules ≡ rules_below items named given number → gift ≡ given_for named given number → more ≡ rules ++ option_map_or rules_of (text_at items number gift) [] → more ≡ rules_below items named given (number + 1)
rules_below-more items named given number gift rules more so_far same e =
    e
    ∙ ap (λ (l : List Rule). l ++ option_map_or rules_of (text_at items number gift) []) so_far
    ∙ ap (λ (g : List ℕ). rules_below items named given number ++ option_map_or rules_of (text_at items number g) []) same
    ∙ sym (rules_behind (style_text items named given) (range_with_len 0 number) number)
    ∙ ap (λ (l : List ℕ). flat_map rules_of (filter_map (style_text items named given) l)) (sym (range_next number))

-- all of them
pub rules_below-all : (items : List Item) (named : List ℕ) (given : List (Option (List ℕ))) (count : ℕ) (rules : List Rule) → rules ≡ rules_below items named given count → count ≡ length items → rules ≡ rules_by_texts items named given
unfolding rules_by_texts
rules_below-all items named given count rules e all = e ∙ ap (rules_below items named given) all

-- ---- children

Contains-middle : (xs ys : List ℕ) (n : ℕ) → Contains (xs ++ n ∷ ys) n
Contains-middle [] ys n = (0, omega arith, refl)
Contains-middle (x ∷ xs) ys n = let c = Contains-middle xs ys n in (suc c.0, omega (arith, c.1), c.2)

first-cons : (xs : List ℕ) (n : ℕ) → Some n ≡ first xs → (ys : List ℕ) × (xs ≡ n ∷ ys)
first-cons [] n e = absurd (cc e)
first-cons (x ∷ xs) n e = let same : x ≡ n = cc in (xs, ap (λ (m : ℕ). m ∷ xs) same)

first-none : (xs : List ℕ) → None ≡ first xs → xs ≡ []
first-none [] e = refl
first-none (x ∷ xs) e = absurd (cc e)

-- the texts among these children are joined; those that are left begin with the next
pub record JoinsChildren (items : List Item) (node : ℕ) (next : Option ℕ) (codes : List ℕ) : Type 0 where
  pub done : List ℕ
  pub left : List ℕ
  pub all : children_of items node ≡ done ++ left
  pub follows : next ≡ first left
  pub joined : codes ≡ flat_map (child_text items) done

pub JoinsChildren-start : (items : List Item) (node : ℕ) (next : Option ℕ) (codes : List ℕ) → codes ≡ [] → next ≡ first (children_of items node) → JoinsChildren items node next codes
JoinsChildren-start items node next codes e n = record { done = []; left = children_of items node; all = refl; follows = n; joined = e }

-- what the laws of children and parents say of this element
pub record AreChildren (items : List Item) (node : ℕ) : Type 0 where
  pub hang : (child : ℕ) → Contains (children_of items node) child → parent_of items child ≡ Some node
  pub within : (child : ℕ) → parent_of items child ≡ Some node → child < length items
  pub next : (child : ℕ) (done left : List ℕ) → children_of items node ≡ done ++ child ∷ left → after (siblings_of items child) child ≡ first left

pub AreChildren-law : (items : List Item) (node : ℕ) → ((i : List Item) (n child : ℕ) → Contains (children_of i n) child ↔ (parent_of i child ≡ Some n)) → ((i : List Item) (n up : ℕ) → parent_of i n ≡ Some up → n < length i) → ((i : List Item) (n child : ℕ) (done left : List ℕ) → children_of i n ≡ done ++ child ∷ left → after (siblings_of i child) child ≡ first left) → AreChildren items node
AreChildren-law items node hang within next = record {
  hang = λ child. (hang items node child).0;
  within = λ child. within items child node;
  next = λ child done left. next items node child done left;
}

-- the next child is a node
pub JoinsChildren-within : (items : List Item) (node : ℕ) (next : Option ℕ) (child : ℕ) (codes : List ℕ) → AreChildren items node → JoinsChildren items node next codes → next ≡ Some child → child < length items
JoinsChildren-within items node next child codes law s e =
    let rest = first-cons s.left child (sym e ∙ s.follows) in
    let split = s.all ∙ ap (λ (l : List ℕ). s.done ++ l) rest.1 in
    law.within child (law.hang child (subst (λ (l : List ℕ). Contains l child) (sym split) (Contains-middle s.done rest.0 child)))

-- one child more
pub JoinsChildren-more : (items : List Item) (node : ℕ) (next : Option ℕ) (child : ℕ) (codes : List ℕ) (following : Option ℕ) (more : List ℕ) → AreChildren items node → JoinsChildren items node next codes → next ≡ Some child → more ≡ codes ++ child_text items child → following ≡ after (siblings_of items child) child → JoinsChildren items node following more
JoinsChildren-more items node next child codes following more law s e text f =
    let rest = first-cons s.left child (sym e ∙ s.follows) in
    let split = s.all ∙ ap (λ (l : List ℕ). s.done ++ l) rest.1 in
    record {
      done = s.done ++ child ∷ [];
      left = rest.0;
      all = split ∙ sym (append_assoc s.done (child ∷ []) rest.0);
      follows = f ∙ law.next child s.done rest.0 split;
      joined = text ∙ ap (λ (l : List ℕ). l ++ child_text items child) s.joined ∙ sym (flat_map-append (child_text items) s.done (child ∷ []) ∙ ap (λ (l : List ℕ). flat_map (child_text items) s.done ++ l) (append-nil (child_text items child)));
    }

-- no child is left
pub JoinsChildren-end : (items : List Item) (node : ℕ) (next : Option ℕ) (codes : List ℕ) → JoinsChildren items node next codes → next ≡ None → codes ≡ own_text items node
unfolding own_text
JoinsChildren-end items node next codes s e =
    let nothing = first-none s.left (sym e ∙ s.follows) in
    let whole = s.all ∙ ap (λ (l : List ℕ). s.done ++ l) nothing ∙ append-nil s.done in
    s.joined ∙ ap (flat_map (child_text items)) (sym whole)

-- the next child stands behind the one before, so that fewer nodes follow
pub fewer-left : (count : ℕ) (old new : Option NodeId) (child : NodeId) → old ≡ Some child → child.0 < count → IfSome new (λ n. (child.0 < n.0) × (n.0 < count)) → option_map_or (λ (n : ℕ). count - n) (number_of new) 0 < option_map_or (λ (n : ℕ). count - n) (number_of old) 0
fewer-left count old None child e low h = rw e (omega arith)
fewer-left count old (Some next) child e low h = rw e (omega (arith, h.0, h.1))
