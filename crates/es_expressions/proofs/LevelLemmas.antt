-- Levels of expressions, and the edges of the forms that they leave open.
use Rattle.std.proofs.Common.{◌≡◌, ◌≢◌, ℕ, ◌≤◌, ◌<◌, true, refl, arith, min}
use Rattle.std.proofs.lemmas.Bool.Decides.{nat_tests}
use Rattle.es_expressions.specs.Roles.{strength}
use Rattle.es_expressions.specs.Phrases.{Phrase}
use Rattle.es_expressions.specs.Phrases.Phrase.{Leaf, Index, Member, NewPlain, Postfix, Signed, Stepped, Binary, Choice, Assign, Comma}
use Rattle.es_expressions.specs.Grammar.{IsExpression, level, is_target, takes_links, takes_links_at}
use Rattle.es_expressions.specs.Machine.{outer_edge}
use Rattle.es_expressions.proofs.RoleLemmas.{joint-bounds, strength-bound}

pub takes-from : (n : ℕ) → takes_links_at n ≡ true → (16 ≤ n) × (n ≢ 17)
takes-from n h = (grind (arith, nat_tests), λ e. grind (arith, nat_tests))

pub takes-back : (n : ℕ) → 16 ≤ n → n ≢ 17 → takes_links_at n ≡ true
takes-back n a b = grind (arith, nat_tests)

pub takes-min : (n : ℕ) → takes_links_at n ≡ true → takes_links_at (min 18 n) ≡ true
takes-min n h = let s = takes-from n h in takes-back (min 18 n) (omega arith) (λ e. s.1 (omega arith))

pub level-positive : (e : Phrase) → IsExpression e → 1 ≤ level e
level-positive (Index b o e c) h = omega (arith, takes-from (level b) h.1)
level-positive (Member b d x) h = omega (arith, takes-from (level b) h.1)
level-positive (Binary a k b) h = omega (arith, joint-bounds k (strength k) h.1)
level-positive _ h = omega arith

pub edge-positive : (e : Phrase) → IsExpression e → 2 ≤ outer_edge e
edge-positive (Binary a k b) h = omega (arith, joint-bounds k (strength k) h.1)
edge-positive _ h = omega arith

pub edge-level : (e : Phrase) → level e ≤ outer_edge e
edge-level (Leaf t) = omega arith
edge-level _ = omega arith

pub target-edge : (e : Phrase) → is_target e ≡ true → outer_edge e ≡ 20
target-edge (Leaf t) h = refl
target-edge (Index b o e c) h = refl
target-edge (Member b d x) h = refl
target-edge _ h = absurd (cc)

pub target-links : (e : Phrase) → IsExpression e → is_target e ≡ true → takes_links e ≡ true
target-links (Leaf t) g h = refl
target-links (Index b o e c) g h = takes-min (level b) g.1
target-links (Member b d x) g h = takes-min (level b) g.1
target-links _ g h = absurd (cc)

pub target-level : (e : Phrase) → IsExpression e → is_target e ≡ true → 16 ≤ level e
target-level e g h = (takes-from (level e) (target-links e g h)).0

pub links-edge : (e : Phrase) → takes_links e ≡ true → outer_edge e ≡ 20
links-edge (NewPlain n f) h = absurd (cc)
links-edge (Postfix e k) h = refl
links-edge (Signed k e) h = absurd (cc)
links-edge (Stepped k e) h = absurd (cc)
links-edge (Binary a k b) h = absurd (omega (arith, strength-bound k, takes-from (strength k) h))
links-edge (Choice a q b c d) h = absurd (cc)
links-edge (Assign a k b) h = absurd (cc)
links-edge (Comma a k b) h = absurd (cc)
links-edge _ h = refl

pub new-edge : (e : Phrase) → 18 ≤ level e → outer_edge e ≡ 20
new-edge (NewPlain n f) h = absurd (omega arith)
new-edge (Signed k e) h = absurd (omega arith)
new-edge (Stepped k e) h = absurd (omega arith)
new-edge (Binary a k b) h = absurd (omega (arith, strength-bound k))
new-edge (Choice a q b c d) h = absurd (omega arith)
new-edge (Assign a k b) h = absurd (omega arith)
new-edge (Comma a k b) h = absurd (omega arith)
new-edge _ h = refl

pub spine-level : (r : ℕ) (e : Phrase) → 3 ≤ r → r ≤ 13 → r ≤ level e → r < outer_edge e
spine-level r (Leaf t) a b c = omega arith
spine-level r _ a b c = omega arith
