-- What goes with a component.
use Rattle.std.proofs.Common.{◌≡◌, ◌∙◌, ℕ, zero, suc, ◌+◌, add-one, arith, true, false, cond, List, [], ◌∷◌, ◌++◌, Option, Some, None, refl, sym, ap}
use Rattle.std.specs.Prelude.{map, is_some}
use Rattle.std.specs.List.{flat_map, range_with_len}
use Rattle.std.proofs.lemmas.Bool.{eqb-true}
use Rattle.std.proofs.lemmas.List.{append-nil}
use Rattle.std.proofs.lemmas.Grind.{flat_map-append}
use Rattle.psi_tables.specs.declared.components.Component.{Component}
use Rattle.carousel_blocks.specs.declared.changes.Change.{Change}
use Rattle.carousel_blocks.specs.Changes.{departures}
use Rattle.carousel_blocks.specs.Carousel as of_carousel
use Rattle.module_store.specs.Store.{Followed, Stored, component_in, is_kept, gone_with, tag_bound, gone_below, gone_by}
use Rattle.module_store.specs.Standing.{ComponentState, StoreState, StandsFor, has_tag, component_with}
use Rattle.module_store.proofs.FindLaws.{found_passes}
use Rattle.module_store.proofs.FeedLaws.{has_followed}

module _ (components : List Component) (tag pid : ℕ) (component : Followed) (tagged : component.tag ≡ tag) (placed : component.pid ≡ pid) where
  keeps : is_kept components component.tag component.pid ≡ is_kept components tag pid
  keeps = ap (λ t. is_kept components t component.pid) tagged ∙ ap (λ p. is_kept components tag p) placed

  -- nothing where the component is kept
  pub nothing_goes : (gone : List (ℕ × Change)) → is_kept components tag pid ≡ true → gone ≡ gone ++ gone_with components (Some component)
  nothing_goes gone kept = rw (keeps ∙ kept) (sym (append-nil gone))

  -- else its modules
  pub modules_go : (gone now : List (ℕ × Change)) (found : List Change) → is_kept components tag pid ≡ false → found ≡ departures component.messages → now ≡ gone ++ map (λ change. (tag, change)) found
      → now ≡ gone ++ gone_with components (Some component)
  modules_go gone now found leaves are is =
      is ∙ ap (λ l. gone ++ map (λ change. (tag, change)) l) are ∙ ap (λ t. gone ++ map (λ change. (t, change)) (departures component.messages)) (sym tagged)
      ∙ ap (λ b. gone ++ cond b [] (map (λ change. (component.tag, change)) (departures component.messages))) (sym (keeps ∙ leaves))

-- ---- all components, in their order

range_more : (from n : ℕ) → range_with_len from (suc n) ≡ range_with_len from n ++ (from + n) ∷ []
range_more from zero = let e : from ≡ from + 0 = omega arith in ap (λ k. k ∷ []) e
range_more from (suc n) = let e : from + 1 + n ≡ from + suc n = omega arith in ap (λ l. from ∷ l) (range_more (from + 1) n ∙ ap (λ k. range_with_len (from + 1) n ++ k ∷ []) e)

-- one component more
pub gone_below_more : (tag : ℕ) (components : List Component) (stored : Stored) (gone now : List (ℕ × Change)) → gone ≡ gone_below tag components stored
    → now ≡ gone ++ gone_with components (component_in stored.components tag) → now ≡ gone_below (tag + 1) components stored
gone_below_more tag components stored gone now before is =
    let f = λ (t : ℕ). gone_with components (component_in stored.components t) in
    let e : 0 + tag ≡ tag = omega arith in
    let next : range_with_len 0 (tag + 1) ≡ range_with_len 0 tag ++ tag ∷ [] = ap (λ n. range_with_len 0 n) (add-one tag) ∙ range_more 0 tag ∙ ap (λ k. range_with_len 0 tag ++ k ∷ []) e in
    is ∙ ap (λ l. l ++ f tag) before ∙ ap (λ l. gone_below tag components stored ++ l) (sym (append-nil (f tag)))
    ∙ sym (flat_map-append f (range_with_len 0 tag) (tag ∷ [])) ∙ ap (λ l. flat_map f l) (sym next)

pub gone_below_all : (bound : ℕ) (components : List Component) (stored : Stored) → bound ≡ 256 → gone_below bound components stored ≡ gone_by components stored
unfolding tag_bound
gone_below_all bound components stored e = ap (λ n. gone_below n components stored) e

-- ---- one component

module _ (state : StoreState) (tag : ℕ) (components : List Component) (stored : Stored) (stands : StandsFor state stored) where
  pub no_component : (gone : List (ℕ × Change)) → None ≡ component_with state.components tag → gone ≡ gone ++ gone_with components (component_in stored.components tag)
  no_component gone none = by_component (component_in stored.components tag) refl
    where
      by_component : (o : Option Followed) → component_in stored.components tag ≡ o → gone ≡ gone ++ gone_with components o
      by_component None e = sym (append-nil gone)
      by_component (Some component) e =
          let there = stands.tags tag ∙ ap (λ (o : Option Followed). is_some o) e in
          let not_there = ap (λ (o : Option ComponentState). is_some o) (sym none) in
          absurd cc

  pub its_modules : (slot : ComponentState) (gone now : List (ℕ × Change)) → Some slot ≡ component_with state.components tag
      → ((component : Followed) → component.tag ≡ slot.tag → component.pid ≡ slot.pid → of_carousel.StandsFor slot.carousel component.messages → now ≡ gone ++ gone_with components (Some component))
      → now ≡ gone ++ gone_with components (component_in stored.components tag)
  its_modules slot gone now looked go =
      let f = has_followed state.components state.count stored stands tag slot (sym looked) in
      let tagged : slot.tag ≡ tag = eqb-true slot.tag tag (found_passes (has_tag tag) state.components slot (sym looked)) in
      go f.0 (f.2 ∙ sym tagged) (sym f.3.pid) f.3.carousel ∙ ap (λ o. gone ++ gone_with components o) (sym f.1)
