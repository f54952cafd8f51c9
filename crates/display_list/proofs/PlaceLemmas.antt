-- The sums of offsets along a path, what stands under the body, and what holds a text.
use Rattle.std.proofs.Common.{◌≡◌, ℕ, zero, suc, ◌+◌, ◌*◌, ◌<◌, ◌≤◌, Bool, true, false, cond, not, nat_eq, List, [], ◌∷◌, ◌++◌, length, length-append, ◌⊎◌, inl, inr, get_or, map, filter, find, Option, Some, None, ℤ, pos, negsuc, ◌+ℤ◌, ◌≤ℤ◌, to_z, of_z, refl, sym, ◌∙◌, ap, subst, arith}
use Rattle.std.specs.Prelude.{◌||◌, option_map, IfSome, FitsSigned}
use Rattle.std.specs.Int.{w16, w32}
use Rattle.std.specs.Option.{option_map_or}
use Rattle.std.specs.List.{list_any}
use Rattle.std.proofs.lemmas.Bool.{cases_eq}
use Rattle.std.proofs.lemmas.Int.{ints}
use Rattle.dom_tree.specs.Items.{Item, parent_of}
use Rattle.dom_tree.specs.Walks.{path_of, IsTree}
use Rattle.dom_tree.specs.declared.node_ids.NodeId.{NodeId}
use Rattle.display_list.specs.Shown.{Shown, no_style, style_at}
use Rattle.display_list.specs.Bodies.{body_of}
use Rattle.display_list.specs.Places.{ancestors_of, has_tag, holder_of, is_box_tag, is_inline_tag, is_under_body, offset_of, place_of, total, total_of}
use Rattle.display_list.specs.devices.Views.{added_by, holder_inside, node_id, node_place_around, node_place_of, node_place_outside, origin_of, place_in, ArePlaces, IsNear, IsNearPlace}
use Rattle.display_list.specs.declared.node_styles.NodeStyle.{NodeStyle}
use Rattle.display_list.specs.declared.places.NodePlace.{NodePlace}
use Rattle.display_list.specs.declared.places.Place.{Place}

-- What a step up the path adds

zero-more : (z : ℤ) → z ≡ pos 0 +ℤ z
zero-more z = omega (arith, ints)

total-step : (own : ℕ → ℤ) (placed : Bool) (node : ℕ) (rest : List ℕ) → total (map own (cond placed (node ∷ rest) rest)) ≡ cond placed (own node) (pos 0) +ℤ total (map own rest)
total-step own true node rest = refl
total-step own false node rest = zero-more (total (map own rest))

around-by : (offset : NodeStyle → ℤ) (shown : Shown) (up : Option ℕ) → total_of offset shown (option_map_or (path_of shown.items) up []) ≡ option_map_or (origin_of offset shown) up (pos 0)
unfolding origin_of
around-by offset shown None = refl
around-by offset shown (Some up) = refl

origin_of-step : (offset : NodeStyle → ℤ) (shown : Shown) (node : ℕ) → path_of shown.items node ≡ node ∷ ancestors_of shown.items node → origin_of offset shown node ≡ added_by shown.items node (offset (style_at shown node)) +ℤ option_map_or (origin_of offset shown) (parent_of shown.items node) (pos 0)
unfolding origin_of
origin_of-step offset shown node path =
    let own : ℕ → ℤ = λ n. offset (style_at shown n) in
    ap (total_of offset shown) path
    ∙ (total-step own (has_tag is_box_tag shown.items node) node (filter (has_tag is_box_tag shown.items) (ancestors_of shown.items node))
    ∙ ap (λ (z : ℤ). added_by shown.items node (offset (style_at shown node)) +ℤ z) (around-by offset shown (parent_of shown.items node)))

offset_of-is : (offset : NodeStyle → ℤ) (shown : Shown) (node : ℕ) → offset (style_at shown node) +ℤ option_map_or (origin_of offset shown) (parent_of shown.items node) (pos 0) ≡ offset_of offset shown node
unfolding offset_of
offset_of-is offset shown node = ap (λ (z : ℤ). offset (style_at shown node) +ℤ z) (sym (around-by offset shown (parent_of shown.items node)))

under-none : (body : Option ℕ) → option_map_or (λ (b : ℕ). list_any (λ (n : ℕ). nat_eq n b) []) body false ≡ false
under-none None = refl
under-none (Some b) = refl

under-around : (items : List Item) (up : Option ℕ) → option_map_or (λ (b : ℕ). list_any (λ (n : ℕ). nat_eq n b) (option_map_or (path_of items) up [])) (body_of items) false ≡ option_map_or (is_under_body items) up false
unfolding is_under_body
under-around items None = under-none (body_of items)
under-around items (Some up) = refl

under-node : (body : Option ℕ) (node : ℕ) (rest : List ℕ) → option_map_or (λ (b : ℕ). list_any (λ (n : ℕ). nat_eq n b) (node ∷ rest)) body false ≡ option_map_or (λ (b : ℕ). nat_eq node b) body false || option_map_or (λ (b : ℕ). list_any (λ (n : ℕ). nat_eq n b) rest) body false
under-node None node rest = refl
under-node (Some b) node rest = refl

is_under_body-step : (items : List Item) (node : ℕ) → path_of items node ≡ node ∷ ancestors_of items node → is_under_body items node ≡ option_map_or (λ (b : ℕ). nat_eq node b) (body_of items) false || option_map_or (is_under_body items) (parent_of items node) false
unfolding is_under_body
is_under_body-step items node path =
    ap (λ (nodes : List ℕ). option_map_or (λ (b : ℕ). list_any (λ (n : ℕ). nat_eq n b) nodes) (body_of items) false) path
    ∙ (under-node (body_of items) node (ancestors_of items node)
    ∙ ap (λ (under : Bool). option_map_or (λ (b : ℕ). nat_eq node b) (body_of items) false || under) (under-around items (parent_of items node)))

-- each node is the first on its path
pub record HavePaths (items : List Item) : Type 0 where
  pub step : (node : ℕ) → path_of items node ≡ node ∷ ancestors_of items node

pub HavePaths-law : (items : List Item) → IsTree items → ((i : List Item) → IsTree i → (node : ℕ) → path_of i node ≡ node ∷ option_map_or (path_of i) (parent_of i node) []) → HavePaths items
HavePaths-law items tree step = record { step = step items tree }

find-first : (b : Bool) (up : ℕ) (rest : Option ℕ) → option_map node_id (cond (not b) (Some up) rest) ≡ cond b (option_map node_id rest) (Some (node_id up))
find-first true up rest = refl
find-first false up rest = refl

holder_of-up : (items : List Item) (node : ℕ) (up : Option ℕ) → HavePaths items → parent_of items node ≡ up → holder_inside items (option_map_or (λ (n : ℕ). option_map node_id (holder_of items n)) up None) up ≡ option_map node_id (holder_of items node)
unfolding holder_of
holder_of-up items node None paths e = ap (λ (o : Option ℕ). option_map node_id (find (λ (n : ℕ). not (has_tag is_inline_tag items n)) (option_map_or (path_of items) o []))) (sym e)
holder_of-up items node (Some up) paths e =
    let outside : ℕ → Bool = λ n. not (has_tag is_inline_tag items n) in
    sym (ap (λ (o : Option ℕ). option_map node_id (find outside (option_map_or (path_of items) o []))) e
    ∙ (ap (λ (l : List ℕ). option_map node_id (find outside l)) (paths.step up)
    ∙ find-first (has_tag is_inline_tag items up) up (find outside (ancestors_of items up))))

-- where the element around stands, part by part

around-x : (shown : Shown) (up : Option ℕ) → (option_map_or (node_place_of shown) up node_place_outside).x ≡ option_map_or (origin_of (λ style. style.left) shown) up (pos 0)
around-x shown None = refl
around-x shown (Some up) = refl

around-y : (shown : Shown) (up : Option ℕ) → (option_map_or (node_place_of shown) up node_place_outside).y ≡ option_map_or (origin_of (λ style. style.top) shown) up (pos 0)
around-y shown None = refl
around-y shown (Some up) = refl

around-under : (shown : Shown) (up : Option ℕ) → (option_map_or (node_place_of shown) up node_place_outside).is_under_body ≡ option_map_or (is_under_body shown.items) up false
around-under shown None = refl
around-under shown (Some up) = refl

around-holder : (shown : Shown) (up : Option ℕ) → (option_map_or (node_place_of shown) up node_place_outside).holder ≡ option_map_or (λ (n : ℕ). option_map node_id (holder_of shown.items n)) up None
around-holder shown None = refl
around-holder shown (Some up) = refl

place_in-by : (shown : Shown) (count : ℕ) (places : List NodePlace) (up : Option ℕ) → ArePlaces shown count places → IfSome up (λ n. n < count) → place_in places up ≡ option_map_or (node_place_of shown) up node_place_outside
place_in-by shown count places None are low = refl
place_in-by shown count places (Some up) are low = are.each up node_place_outside low

-- one node more

get-front : (xs : List NodePlace) (x : NodePlace) (k : ℕ) (d : NodePlace) → k < length xs → get_or (xs ++ x ∷ []) k d ≡ get_or xs k d
get-front [] x k d low = absurd (omega (arith, low))
get-front (y ∷ ys) x zero d low = refl
get-front (y ∷ ys) x (suc k) d low = get-front ys x k d (omega arith)

get-last : (xs : List NodePlace) (x : NodePlace) (d : NodePlace) → get_or (xs ++ x ∷ []) (length xs) d ≡ x
get-last [] x d = refl
get-last (y ∷ ys) x d = get-last ys x d

at-more : (P : ℕ → NodePlace → Type 0) (xs : List NodePlace) (x : NodePlace) (count : ℕ) → length xs ≡ count → ((k : ℕ) (d : NodePlace) → k < count → P k (get_or xs k d)) → P count x → (k : ℕ) (d : NodePlace) → k < count + 1 → P k (get_or (xs ++ x ∷ []) k d)
at-more P xs x count long all one k d low = by (cases_eq k count)
  where
    by : (k ≡ count) ⊎ (k ≡ count → ⊥) → P k (get_or (xs ++ x ∷ []) k d)
    by (inl same) =
        let last : get_or (xs ++ x ∷ []) k d ≡ x = ap (λ (n : ℕ). get_or (xs ++ x ∷ []) n d) (same ∙ sym long) ∙ get-last xs x d in
        subst (P k) (sym last) (subst (λ (n : ℕ). P n x) (sym same) one)
    by (inr other) =
        let inside : k < count = omega arith in
        subst (P k) (sym (get-front xs x k d (omega arith))) (all k d inside)

pub ArePlaces-none : (shown : Shown) (places : List NodePlace) → places ≡ [] → ArePlaces shown 0 places
ArePlaces-none shown places e = record {
  count_is = ap length e;
  each = λ node other low. absurd (omega (arith, low));
  near = λ node other low. absurd (omega (arith, low));
}

pub ArePlaces-more : (shown : Shown) (count : ℕ) (old new : List NodePlace) (place : NodePlace) → ArePlaces shown count old → place ≡ node_place_of shown count → IsNearPlace count place → new ≡ old ++ place ∷ [] → ArePlaces shown (count + 1) new
ArePlaces-more shown count old new place are e near more =
    subst (ArePlaces shown (count + 1)) (sym more)
    record {
      count_is = length-append old (place ∷ []) ∙ ap (λ (n : ℕ). n + 1) are.count_is;
      each = at-more (λ (k : ℕ) (p : NodePlace). p ≡ node_place_of shown k) old place count are.count_is are.each e;
      near = at-more IsNearPlace old place count are.count_is are.near near;
    }

-- a sum that another offset can be added to
pub record IsAround (node : ℕ) (sum : ℤ) : Type 0 where
  pub low : pos 0 ≤ℤ (sum +ℤ pos (32768 * node))
  pub high : sum ≤ℤ pos (32768 * node)

IsAround-near : (node up : ℕ) (z : ℤ) → up < node → IsNear up z → IsAround node z
IsAround-near node up z h n = record { low = omega (arith, ints, n.low, n.high); high = omega (arith, ints, n.low, n.high) }

IsAround-zero : (node : ℕ) → IsAround node (pos 0)
IsAround-zero node = record { low = omega (arith, ints); high = omega (arith, ints) }

-- what is known of where the element around stands
pub record StandsAround (shown : Shown) (node : ℕ) (outer : NodePlace) : Type 0 where
  pub place : outer ≡ node_place_around shown node
  pub x : IsAround node outer.x
  pub y : IsAround node outer.y

around-near : (shown : Shown) (count node : ℕ) (places : List NodePlace) (up : Option ℕ) → ArePlaces shown count places → node ≤ count → IfSome up (λ n. n < node) → IsAround node (place_in places up).x × IsAround node (place_in places up).y
around-near shown count node places None are h low = (IsAround-zero node, IsAround-zero node)
around-near shown count node places (Some up) are h low =
    let near = are.near up node_place_outside (omega arith) in
    (IsAround-near node up _ low near.x, IsAround-near node up _ low near.y)

within-count : (count node : ℕ) (up : Option ℕ) → node ≤ count → IfSome up (λ n. n < node) → IfSome up (λ n. n < count)
within-count count node None h low = low
within-count count node (Some up) h low = omega arith

pub StandsAround-is : (shown : Shown) (count node : ℕ) (places : List NodePlace) (outer : NodePlace) → ArePlaces shown count places → node ≤ count → IfSome (parent_of shown.items node) (λ n. n < node) → outer ≡ place_in places (parent_of shown.items node) → StandsAround shown node outer
StandsAround-is shown count node places outer are h low e =
    let near = around-near shown count node places (parent_of shown.items node) are h low in
    record {
      place = e ∙ place_in-by shown count places (parent_of shown.items node) are (within-count count node (parent_of shown.items node) h low);
      x = subst (λ (o : NodePlace). IsAround node o.x) (sym e) near.0;
      y = subst (λ (o : NodePlace). IsAround node o.y) (sym e) near.1;
    }

-- where a node stands, from its parts
pub node_place_of-is : (shown : Shown) (node : ℕ) (outer : NodePlace) (x y left top : ℤ) (is_body under : Bool) (holder : Option NodeId) → HavePaths shown.items → outer ≡ node_place_around shown node → left ≡ added_by shown.items node (style_at shown node).left → top ≡ added_by shown.items node (style_at shown node).top → x ≡ left +ℤ outer.x → y ≡ top +ℤ outer.y → is_body ≡ option_map_or (λ (b : ℕ). nat_eq node b) (body_of shown.items) false → under ≡ is_body || outer.is_under_body → holder ≡ holder_inside shown.items outer.holder (parent_of shown.items node) → (let place : NodePlace = record { x = x; y = y; is_under_body = under; holder = holder } in place) ≡ node_place_of shown node
node_place_of-is shown node outer x y left top is_body under holder paths around l t ex ey body u h =
    let up = parent_of shown.items node in
    let x_is : x ≡ origin_of (λ style. style.left) shown node = ex ∙ (λ i. l i +ℤ (ap (λ (o : NodePlace). o.x) around ∙ around-x shown up) i) ∙ sym (origin_of-step (λ style. style.left) shown node (paths.step node)) in
    let y_is : y ≡ origin_of (λ style. style.top) shown node = ey ∙ (λ i. t i +ℤ (ap (λ (o : NodePlace). o.y) around ∙ around-y shown up) i) ∙ sym (origin_of-step (λ style. style.top) shown node (paths.step node)) in
    let under_is : under ≡ is_under_body shown.items node = u ∙ (λ i. body i || (ap (λ (o : NodePlace). o.is_under_body) around ∙ around-under shown up) i) ∙ sym (is_under_body-step shown.items node (paths.step node)) in
    let holder_is : holder ≡ option_map node_id (holder_of shown.items node) = h ∙ ap (λ (o : Option NodeId). holder_inside shown.items o up) (ap (λ (o : NodePlace). o.holder) around ∙ around-holder shown up) ∙ holder_of-up shown.items node up paths refl in
    λ i. record { x = x_is i; y = y_is i; is_under_body = under_is i; holder = holder_is i }

pub near-sum : (node : ℕ) (left outer x : ℤ) → FitsSigned w16 left → x ≡ left +ℤ outer → IsAround node outer → IsNear node x
near-sum node left outer x fits e around = record { low = omega (arith, ints, fits.sfits, around.low, around.high); high = omega (arith, ints, fits.sfits, around.low, around.high) }

-- the box of an element, from its parts
pub place_of-is : (shown : Shown) (node : ℕ) (outer : NodePlace) (style : NodeStyle) (x y : ℤ) → style ≡ style_at shown node → outer ≡ node_place_around shown node → x ≡ style.left +ℤ outer.x → y ≡ style.top +ℤ outer.y → (let place : Place = record { x = x; y = y; width = style.width; height = style.height } in place) ≡ place_of shown node
unfolding place_of
place_of-is shown node outer style x y s around ex ey =
    let up = parent_of shown.items node in
    let x_is : x ≡ offset_of (λ style. style.left) shown node = ex ∙ (λ i. (s i).left +ℤ (ap (λ (o : NodePlace). o.x) around ∙ around-x shown up) i) ∙ offset_of-is (λ style. style.left) shown node in
    let y_is : y ≡ offset_of (λ style. style.top) shown node = ey ∙ (λ i. (s i).top +ℤ (ap (λ (o : NodePlace). o.y) around ∙ around-y shown up) i) ∙ offset_of-is (λ style. style.top) shown node in
    λ i. record { x = x_is i; y = y_is i; width = (s i).width; height = (s i).height }

pub under-here : (is_body outer under : Bool) → is_body ≡ true → under ≡ true → under ≡ is_body || outer
under-here is_body outer under b u = rw b u

pub under-outer : (is_body outer under : Bool) → is_body ≡ false → under ≡ outer → under ≡ is_body || outer
under-outer is_body outer under b u = rw b u

-- a style that was read
style-read : (styles : List NodeStyle) (node : ℕ) (d e : NodeStyle) → node < length styles → get_or styles node d ≡ get_or styles node e
style-read [] node d e low = absurd (omega (arith, low))
style-read (s ∷ styles) zero d e low = refl
style-read (s ∷ styles) (suc node) d e low = style-read styles node d e (omega arith)

pub added_by-read : (offset : NodeStyle → ℤ) (items : List Item) (styles : List NodeStyle) (node : ℕ) (d : NodeStyle) (z : ℤ) → node < length styles → z ≡ added_by items node (offset (get_or styles node d)) → z ≡ added_by items node (offset (get_or styles node no_style))
added_by-read offset items styles node d z low e = e ∙ ap (λ (s : NodeStyle). added_by items node (offset s)) (style-read styles node d no_style low)

pub place-widths : (x y w h width height : ℤ) (place : Place) → w ≡ width → h ≡ height → (let p : Place = record { x = x; y = y; width = width; height = height } in p) ≡ place → (let p : Place = record { x = x; y = y; width = w; height = h } in p) ≡ place
place-widths x y w h width height place ew eh e = (λ i. record { x = x; y = y; width = ew i; height = eh i }) ∙ e

fits-bounds : (z : ℤ) → pos 0 ≤ℤ (z +ℤ pos 1073741824) → z ≤ℤ pos 1073741824 → FitsSigned w32 z
fits-bounds (pos n) low high = record { sfits = omega (arith, ints, low, high) }
fits-bounds (negsuc n) low high = record { sfits = omega (arith, ints, low, high) }

pub fits-sum : (node : ℕ) (a b left outer : ℤ) → a ≡ left → b ≡ outer → FitsSigned w16 left → IsAround node outer → node < 16384 → FitsSigned w32 (a +ℤ b)
fits-sum node a b left outer ea eb fits around few =
    rw (ea, eb) (fits-bounds (left +ℤ outer) (omega (arith, ints, fits.sfits, around.low, around.high)) (omega (arith, ints, fits.sfits, around.low, around.high)))

pub around-again : (node : ℕ) (outer : ℤ) → IsAround node outer → node < 16384 → to_z w32 (of_z w32 outer) ≡ outer
around-again node outer around few = omega (arith, ints, around.low, around.high)
