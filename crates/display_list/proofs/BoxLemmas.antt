-- The elements that are drawn, node by node.
use Rattle.std.proofs.Common.{◌≡◌, ℕ, zero, suc, ◌+◌, Bool, true, false, cond, List, [], ◌∷◌, ◌++◌, length, map, filter, ℤ, refl, sym, ◌∙◌, ap, append-nil, add-one, arith}
use Rattle.std.specs.List.{flat_map, range_with_len}
use Rattle.std.proofs.lemmas.List.{map-append}
use Rattle.display_list.specs.Shown.{Shown, style_at}
use Rattle.display_list.specs.Places.{boxes_of, drawn_nodes, has_tag, in_order, is_box_tag, is_drawn, is_under_body, is_visible}
use Rattle.display_list.specs.Show.{element_lines}
use Rattle.display_list.specs.devices.Views.{drawn_box, node_id}
use Rattle.display_list.specs.declared.node_styles.NodeStyle.{NodeStyle}
use Rattle.display_list.specs.declared.scenes.DrawnBox.{DrawnBox}
use Rattle.display_list.proofs.OrderLemmas.{in_order-map}

filter-cons : (b : Bool) (k : ℕ) (xs ys zs : List ℕ) → xs ≡ ys ++ zs → cond b (k ∷ xs) xs ≡ cond b (k ∷ ys) ys ++ zs
filter-cons true k xs ys zs e = ap (λ (l : List ℕ). k ∷ l) e
filter-cons false k xs ys zs e = e

filter-range : (p : ℕ → Bool) (from count : ℕ) → filter p (range_with_len from (suc count)) ≡ filter p (range_with_len from count) ++ cond (p (from + count)) ((from + count) ∷ []) []
filter-range p from zero = let same : from + 0 ≡ from = omega arith in rw same refl
filter-range p from (suc count) =
    let same : from + 1 + count ≡ from + suc count = omega arith in
    filter-cons (p from) from (filter p (range_with_len (from + 1) (suc count))) (filter p (range_with_len (from + 1) count)) (cond (p (from + suc count)) ((from + suc count) ∷ []) [])
    (filter-range p (from + 1) count ∙ ap (λ (n : ℕ). filter p (range_with_len (from + 1) count) ++ cond (p n) (n ∷ []) []) same)

-- the boxes that are drawn among the first nodes
unfoldable pub boxes_below : Shown → ℕ → List DrawnBox
boxes_below shown count = map (drawn_box shown) (filter (is_drawn shown) (range_with_len 0 count))

pub boxes_below-none : (shown : Shown) → [] ≡ boxes_below shown 0
unfolding boxes_below
boxes_below-none shown = refl

boxes_below-more : (shown : Shown) (node : ℕ) → boxes_below shown (node + 1) ≡ boxes_below shown node ++ map (drawn_box shown) (cond (is_drawn shown node) (node ∷ []) [])
unfolding boxes_below
boxes_below-more shown node =
    let zero_more : 0 + node ≡ node = omega arith in
    rw add-one (ap (map (drawn_box shown)) (filter-range (is_drawn shown) 0 node))
    ∙ map-append (drawn_box shown) (filter (is_drawn shown) (range_with_len 0 node)) (cond (is_drawn shown (0 + node)) ((0 + node) ∷ []) [])
    ∙ ap (λ (n : ℕ). map (drawn_box shown) (filter (is_drawn shown) (range_with_len 0 node)) ++ map (drawn_box shown) (cond (is_drawn shown n) (n ∷ []) [])) zero_more

pub boxes_below-drawn : (shown : Shown) (node : ℕ) (old new : List DrawnBox) → is_drawn shown node ≡ true → old ≡ boxes_below shown node → new ≡ old ++ drawn_box shown node ∷ [] → new ≡ boxes_below shown (node + 1)
boxes_below-drawn shown node old new drawn e more =
    more ∙ ap (λ (l : List DrawnBox). l ++ drawn_box shown node ∷ []) e
    ∙ sym (boxes_below-more shown node ∙ ap (λ (b : Bool). boxes_below shown node ++ map (drawn_box shown) (cond b (node ∷ []) [])) drawn)

pub boxes_below-other : (shown : Shown) (node : ℕ) (old : List DrawnBox) → is_drawn shown node ≡ false → old ≡ boxes_below shown node → old ≡ boxes_below shown (node + 1)
boxes_below-other shown node old drawn e =
    e ∙ sym (boxes_below-more shown node ∙ ap (λ (b : Bool). boxes_below shown node ++ map (drawn_box shown) (cond b (node ∷ []) [])) drawn ∙ append-nil (boxes_below shown node))

pub boxes_below-all : (shown : Shown) (count : ℕ) (boxes : List DrawnBox) → count ≡ length shown.items → boxes ≡ boxes_below shown count → boxes ≡ map (drawn_box shown) (drawn_nodes shown)
unfolding boxes_below drawn_nodes
boxes_below-all shown count boxes all e = e ∙ ap (λ (n : ℕ). map (drawn_box shown) (filter (is_drawn shown) (range_with_len 0 n))) all

pub boxes_of-is : (shown : Shown) (drawn boxes : List DrawnBox) → drawn ≡ map (drawn_box shown) (drawn_nodes shown) → boxes ≡ in_order (λ (b : DrawnBox). b.level) drawn → boxes ≡ map (drawn_box shown) (boxes_of shown)
unfolding boxes_of
boxes_of-is shown drawn boxes d e =
    e ∙ ap (in_order (λ (b : DrawnBox). b.level)) d ∙ in_order-map (λ (b : DrawnBox). b.level) (drawn_box shown) (drawn_nodes shown)

-- the lines of some boxes

abbrev pub box_lines : Shown → DrawnBox → List ℕ
box_lines shown drawn = element_lines shown drawn.node.0

pub box_lines-map : (shown : Shown) (nodes : List ℕ) → flat_map (box_lines shown) (map (drawn_box shown) nodes) ≡ flat_map (element_lines shown) nodes
box_lines-map shown [] = refl
box_lines-map shown (node ∷ nodes) = ap (λ (l : List ℕ). element_lines shown node ++ l) (box_lines-map shown nodes)

-- whether an element is drawn

pub is_drawn-visible : (shown : Shown) (node : ℕ) → has_tag is_box_tag shown.items node ≡ true → is_under_body shown.items node ≡ true → is_visible shown node ≡ is_drawn shown node
unfolding is_drawn
is_drawn-visible shown node b u = rw (b, u) refl

pub is_drawn-outside : (shown : Shown) (node : ℕ) → has_tag is_box_tag shown.items node ≡ true → is_under_body shown.items node ≡ false → false ≡ is_drawn shown node
unfolding is_drawn
is_drawn-outside shown node b u = rw (b, u) refl

pub is_drawn-other : (shown : Shown) (node : ℕ) → has_tag is_box_tag shown.items node ≡ false → false ≡ is_drawn shown node
unfolding is_drawn
is_drawn-other shown node b = rw b refl

-- an element that was kept with its level
pub pushed-is : (shown : Shown) (node : ℕ) (old new : List DrawnBox) (style : NodeStyle) (level : ℤ) → level ≡ style.level → style ≡ style_at shown node → new ≡ old ++ record { node = node_id node; level = level } ∷ [] → new ≡ old ++ drawn_box shown node ∷ []
pushed-is shown node old new style level l s e = e ∙ (λ i. old ++ record { node = node_id node; level = (l ∙ ap (λ (t : NodeStyle). t.level) s) i } ∷ [])
