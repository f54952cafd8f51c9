-- How the styles follow the focus.
use Rattle.std.proofs.Common.{◌≡◌, ℕ, Bool, true, false, List, Option, refl, ap}
use Rattle.std.specs.Prelude.{if◌then◌else◌}
use Rattle.dom_tree.specs.Items.{Item}
use Rattle.dom_tree.specs.declared.node_ids.NodeId.{NodeId}
use Rattle.style_cascade.specs.Keeping.{IsRight, StylesState}
use Rattle.style_cascade.specs.States.{is_node, present_state}
use Rattle.style_cascade.specs.declared.states.Focus.{Focus}
use Rattle.style_cascade.specs.declared.states.State.{State}
use Rattle.style_cascade.specs.declared.states.State.TheVariants as states

-- the styles were told that the state of this node may have changed
abbrev pub Follows : List Item → Option NodeId → StylesState → StylesState → Type 0
Follows items told old new =
    (before after : ℕ → State)
    → ((other : ℕ) → is_node other told ≡ false → after other ≡ before other)
    → IsRight items before old → IsRight items after new

-- the states after at one node, and others elsewhere
abbrev mixed : Option NodeId → (ℕ → State) → (ℕ → State) → ℕ → State
mixed told after before n = if is_node n told then after n else before n

mixed-others : (told : Option NodeId) (after before : ℕ → State) (n : ℕ) → is_node n told ≡ false → mixed told after before n ≡ before n
mixed-others told after before n other = ap (λ (t : Bool). if t then after n else before n) other

abbrev state_by : Bool → Bool → State
state_by active focus = if active then states.Active else if focus then states.Focus else states.Normal

-- a node that is none of four has the normal state before and after
settled : (old_focus old_active focus active : Bool) → active ≡ false → state_by active focus ≡ (if focus then state_by active focus else (if old_active then state_by active focus else (if old_focus then state_by active focus else state_by old_active old_focus)))
settled old_focus old_active true active other = refl
settled old_focus true false active other = refl
settled true false false active other = refl
settled false false false active other = ap (λ (t : Bool). state_by t false) other

last : (before after : Focus) (n : ℕ) → is_node n after.active ≡ false → present_state after n ≡ mixed after.focus (present_state after) (mixed before.active (present_state after) (mixed before.focus (present_state after) (present_state before))) n
unfolding present_state
last before after n other = settled (is_node n before.focus) (is_node n before.active) (is_node n after.focus) (is_node n after.active) other

-- once the old and the new focus and active element were told, the styles are right for the new ones
pub focus-followed : (items : List Item) (before after : Focus) (s0 s1 s2 s3 s4 : StylesState) → Follows items before.focus s0 s1 → Follows items before.active s1 s2 → Follows items after.focus s2 s3 → Follows items after.active s3 s4 → IsRight items (present_state before) s0 → IsRight items (present_state after) s4
focus-followed items before after s0 s1 s2 s3 s4 f1 f2 f3 f4 right =
    let new = present_state after in
    let m1 = mixed before.focus new (present_state before) in
    let m2 = mixed before.active new m1 in
    let m3 = mixed after.focus new m2 in
    f4 m3 new (last before after)
    (f3 m2 m3 (mixed-others after.focus new m2)
    (f2 m1 m2 (mixed-others before.active new m1)
    (f1 (present_state before) m1 (mixed-others before.focus new (present_state before)) right)))
