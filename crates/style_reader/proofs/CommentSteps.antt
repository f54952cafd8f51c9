-- Texts with their comments, code by code.
use Rattle.std.proofs.Common.{◌≡◌, ℕ, suc, ◌<◌, Bool, true, false, cond, nat_eq, List, [], ◌∷◌, length, Some, None, refl, ap, arith}
use Rattle.std.specs.Prelude.{◌&&◌}
use Rattle.style_reader.specs.Readings.{plain_from}
use Rattle.style_reader.specs.devices.Views.{behind_pair}

-- behind the end of a comment
closed-by : (b : Bool) (first second : ℕ) (rest outside : List ℕ) → cond b (Some rest) None ≡ Some outside → cond b (plain_from false rest) (plain_from true (second ∷ rest)) ≡ plain_from false outside
closed-by true first second rest outside e = let same : rest ≡ outside = cc in ap (plain_from false) same
closed-by false first second rest outside e = absurd (cc e)

pub plain-closed : (text outside : List ℕ) → behind_pair 42 47 text ≡ Some outside → plain_from true text ≡ plain_from false outside
unfolding plain_from
plain-closed [] outside e = absurd (cc e)
plain-closed (a ∷ []) outside e = absurd (cc e)
plain-closed (a ∷ b ∷ rest) outside e = closed-by (nat_eq a 42 && nat_eq b 47) a b rest outside e

still-by : (c : Bool) (b : ℕ) (rest : List ℕ) → cond c (Some rest) None ≡ None → cond c (plain_from false rest) (plain_from true (b ∷ rest)) ≡ plain_from true (b ∷ rest)
still-by true b rest e = absurd (cc e)
still-by false b rest e = refl

-- one code more of a comment
pub plain-inside : (first : ℕ) (more : List ℕ) → behind_pair 42 47 (first ∷ more) ≡ None → plain_from true (first ∷ more) ≡ plain_from true more
unfolding plain_from
plain-inside a [] e = refl
plain-inside a (b ∷ rest) e = still-by (nat_eq a 42 && nat_eq b 47) b rest e

opened-by : (c : Bool) (a b : ℕ) (rest inside : List ℕ) → cond c (Some rest) None ≡ Some inside → cond c (32 ∷ plain_from true rest) (a ∷ plain_from false (b ∷ rest)) ≡ 32 ∷ plain_from true inside
opened-by true a b rest inside e = let same : rest ≡ inside = cc in ap (λ (t : List ℕ). 32 ∷ plain_from true t) same
opened-by false a b rest inside e = absurd (cc e)

-- a comment begins
pub plain-opened : (text inside : List ℕ) → behind_pair 47 42 text ≡ Some inside → plain_from false text ≡ 32 ∷ plain_from true inside
unfolding plain_from
plain-opened [] inside e = absurd (cc e)
plain-opened (a ∷ []) inside e = absurd (cc e)
plain-opened (a ∷ b ∷ rest) inside e = opened-by (nat_eq a 47 && nat_eq b 42) a b rest inside e

outside-by : (c : Bool) (a b : ℕ) (rest : List ℕ) → cond c (Some rest) None ≡ None → cond c (32 ∷ plain_from true rest) (a ∷ plain_from false (b ∷ rest)) ≡ a ∷ plain_from false (b ∷ rest)
outside-by true a b rest e = absurd (cc e)
outside-by false a b rest e = refl

-- one code more outside of comments
pub plain-outside : (first : ℕ) (more : List ℕ) → behind_pair 47 42 (first ∷ more) ≡ None → plain_from false (first ∷ more) ≡ first ∷ plain_from false more
unfolding plain_from
plain-outside a [] e = refl
plain-outside a (b ∷ rest) e = outside-by (nat_eq a 47 && nat_eq b 42) a b rest e

-- nothing is left
pub plain-end : (inside : Bool) → plain_from inside [] ≡ []
unfolding plain_from
plain-end true = refl
plain-end false = refl

shorter-by : (c : Bool) (a b : ℕ) (rest found : List ℕ) → cond c (Some rest) None ≡ Some found → length found < suc (suc (length rest))
shorter-by true a b rest found e = let same : rest ≡ found = cc in let long = ap length same in omega arith
shorter-by false a b rest found e = absurd (cc e)

pub length-behind_pair : (first second : ℕ) (text found : List ℕ) → behind_pair first second text ≡ Some found → length found < length text
length-behind_pair first second [] found e = absurd (cc e)
length-behind_pair first second (a ∷ []) found e = absurd (cc e)
length-behind_pair first second (a ∷ b ∷ rest) found e = shorter-by (nat_eq a first && nat_eq b second) a b rest found e

pub ruleset comment_steps = (plain-closed, plain-inside, plain-opened, plain-outside, plain-end, length-behind_pair)
