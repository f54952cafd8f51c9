-- What the reader keeps at the end says which faults a tree has.
use Rattle.std.proofs.Common.{◌≡◌, ℕ, suc, ◌+◌, ◌<◌, ◌≤◌, Bool, true, false, List, refl, sym, ◌∙◌, ap, arith}
use Rattle.std.specs.Prelude.{◌||◌, not, nat_le, nat_lt, max, codes as ascii}
use Rattle.std.proofs.lemmas.Bool.Decides.{nat_tests}
use Rattle.bml_bytes.specs.Words.{is_same}
use Rattle.dom_tree.specs.Nested.{Nested, items_of}
use Rattle.dom_tree.specs.Nested.Nested.{NoNodes, ElementNode, TextNode}
use Rattle.bml_reader.specs.Faults.{most_levels, levels, HasWrongRoot, IsTooDeep}
use Rattle.bml_reader.specs.Readings.{has_other_root}
use Rattle.bml_reader.proofs.MachineLemmas.{goes_deep, is_same-itself, is_same-is}

or-left : (a b : Bool) → a ≡ true → (a || b) ≡ true
or-left true b e = refl
or-left false b e = absurd (cc e)

or-right : (a b : Bool) → b ≡ true → (a || b) ≡ true
or-right true b e = refl
or-right false b e = e

either : {P : Type 0} (a b : Bool) → (a || b) ≡ true → (a ≡ true → P) → (b ≡ true → P) → P
either true b e f g = f refl
either false b e f g = g e

deep-past : (level : ℕ) (t : Nested) → goes_deep level t ≡ true → most_levels < level + levels t
deep-past level NoNodes e = absurd (cc e)
deep-past level (TextNode text following) e = deep-past level following e
deep-past level (ElementNode tag attributes children following) e =
    either (nat_le most_levels level) (goes_deep (suc level) children || goes_deep level following) e
    (λ a. let h : most_levels ≤ level = grind (arith, nat_tests) in grind arith)
    (λ a. either (goes_deep (suc level) children) (goes_deep level following) a
    (λ b. let h = deep-past (suc level) children b in grind arith)
    (λ b. let h = deep-past level following b in grind arith))

past-deep-by : (level : ℕ) (tag : List ℕ) (children following : Nested) (b c : Bool) → nat_le most_levels level ≡ b → nat_lt most_levels (suc level + levels children) ≡ c → (most_levels < suc level + levels children → 0 < levels children → goes_deep (suc level) children ≡ true) → (most_levels < level + levels following → 0 < levels following → goes_deep level following ≡ true) → most_levels < level + max (1 + levels children) (levels following) → (b || (goes_deep (suc level) children || goes_deep level following)) ≡ true
past-deep-by level tag children following true c p q f g h = refl
past-deep-by level tag children following false true p q f g h =
    let few : level < most_levels = grind (arith, nat_tests) in
    let a : most_levels < suc level + levels children = grind (arith, nat_tests) in
    or-left (goes_deep (suc level) children) (goes_deep level following) (f a (omega arith))
past-deep-by level tag children following false false p q f g h =
    let few : level < most_levels = grind (arith, nat_tests) in
    let a : suc level + levels children ≤ most_levels = grind (arith, nat_tests) in
    let b : most_levels < level + levels following = grind arith in
    or-right (goes_deep (suc level) children) (goes_deep level following) (g b (omega arith))

past-deep : (level : ℕ) (t : Nested) → most_levels < level + levels t → 0 < levels t → goes_deep level t ≡ true
past-deep level NoNodes h p = absurd (omega arith)
past-deep level (TextNode text following) h p = past-deep level following h p
past-deep level (ElementNode tag attributes children following) h p =
    past-deep-by level tag children following (nat_le most_levels level) (nat_lt most_levels (suc level + levels children)) refl refl (past-deep (suc level) children) (past-deep level following) h

pub too-deep : (t : Nested) → goes_deep 0 t ≡ true → IsTooDeep t
too-deep t e = let h = deep-past 0 t e in omega (arith, h)

pub not-too-deep : (t : Nested) → goes_deep 0 t ≡ false → IsTooDeep t → ⊥
not-too-deep t e h =
    let d : goes_deep 0 t ≡ true = past-deep 0 t (omega (arith, h)) (omega (arith, h)) in
    let bad : true ≡ false = sym d ∙ e in cc

pub wrong-root : (t : Nested) → has_other_root (items_of t) ≡ true → HasWrongRoot t
wrong-root NoNodes e = absurd (cc e)
wrong-root (TextNode text following) e = absurd (cc e)
wrong-root (ElementNode tag attributes children following) e = λ same.
    let yes_it : is_same tag (ascii "bml") ≡ true = ap (is_same tag) (sym same) ∙ is_same-itself tag in
    let bad : false ≡ true = sym (ap not yes_it) ∙ e in cc

right-by : (tag : List ℕ) (b : Bool) → is_same tag (ascii "bml") ≡ b → not b ≡ false → tag ≡ ascii "bml"
right-by tag true q e = is_same-is tag (ascii "bml") q
right-by tag false q e = absurd (cc e)

pub right-root : (t : Nested) → has_other_root (items_of t) ≡ false → HasWrongRoot t → ⊥
right-root NoNodes e h = h
right-root (TextNode text following) e h = h
right-root (ElementNode tag attributes children following) e h = h (right-by tag (is_same tag (ascii "bml")) refl e)
