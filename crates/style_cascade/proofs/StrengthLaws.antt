-- The strongest of some declarations, and the places of declarations.
use Rattle.std.proofs.Common.{◌≡◌, ℕ, zero, suc, ◌+◌, Bool, true, false, List, [], ◌∷◌, ◌++◌, Option, Some, None, ◌⊎◌, inl, inr, length, refl, sym, ◌∙◌, ap, subst, arith}
use Rattle.std.proofs.lemmas.Bool.Decides.{nat_tests}
use Rattle.std.proofs.lemmas.List.Elements.{Contains-append_cases}
use Rattle.std.specs.Prelude.{◌==◌, nat_le, nat_lt, ◌&&◌, ◌||◌, Contains, IsTrue, IfSome, if◌then◌else◌, slice_get}
use Rattle.style_reader.specs.Rules.{Given, given_by, given_by_rule, given_from, given_to_each}
use Rattle.style_reader.specs.Selectors.{specificity}
use Rattle.style_reader.specs.declared.declarations.Declaration.{Declaration}
use Rattle.style_reader.specs.declared.rules.Rule.{Rule}
use Rattle.style_reader.specs.declared.selectors.Selector.{Selector}
use Rattle.style_cascade.specs.Candidates.{is_at_least, strongest, strongest_from, stronger}

-- ---- at least as strong

abbrev at_least : ℕ → ℕ → ℕ → ℕ → Bool
at_least s o t p = nat_lt t s || ((s == t) && nat_le p o)

at_least-self : (s o : ℕ) → at_least s o s o ≡ true
at_least-self s o = grind (arith, nat_tests)

at_least-through : (s o t p u q : ℕ) → at_least s o t p ≡ true → at_least t p u q ≡ true → at_least s o u q ≡ true
at_least-through s o t p u q h k = grind (arith, nat_tests)

at_least-either : (s o t p : ℕ) → at_least s o t p ≡ false → at_least t p s o ≡ true
at_least-either s o t p h = grind (arith, nat_tests)

self : (one : Given) → IsTrue (is_at_least one one)
self one = at_least-self (specificity one.selector) one.order

pub through : (one two three : Given) → IsTrue (is_at_least one two) → IsTrue (is_at_least two three) → IsTrue (is_at_least one three)
through one two three h k = at_least-through (specificity one.selector) one.order (specificity two.selector) two.order (specificity three.selector) three.order h k

choice-both : (t : Bool) (best given : Given) → is_at_least given best ≡ t → IsTrue (is_at_least (if t then given else best) given) × IsTrue (is_at_least (if t then given else best) best)
choice-both true best given e = (self given, e)
choice-both false best given e = (at_least-either (specificity given.selector) given.order (specificity best.selector) best.order e, self best)

stronger-both : (best : Option Given) (given : Given) → IsTrue (is_at_least (stronger best given) given) × IfSome best (λ b. IsTrue (is_at_least (stronger best given) b))
stronger-both None given = (self given, tt)
stronger-both (Some best) given = choice-both (is_at_least given best) best given refl

-- ---- the strongest is at least as strong as each

above_best : (best : Option Given) (one before : Given) (given : Given) → IsTrue (is_at_least one (stronger best given)) → best ≡ Some before → IsTrue (is_at_least one before)
above_best None one before given h e = absurd (cc e)
above_best (Some best) one before given h e =
    let same : best ≡ before = cc e in
    subst (λ (b : Given). IsTrue (is_at_least one b)) same (through one (stronger (Some best) given) best h (stronger-both (Some best) given).1)

pub from-best : (given : List Given) (best : Option Given) (one before : Given) → strongest_from best given ≡ Some one → best ≡ Some before → IsTrue (is_at_least one before)
from-best [] best one before e is =
    let both : Some one ≡ Some before = sym e ∙ is in
    let same : one ≡ before = cc both in
    subst (λ (b : Given). IsTrue (is_at_least one b)) same (self one)
from-best (first ∷ more) best one before e is = above_best best one before first (from-best more (Some (stronger best first)) one (stronger best first) e refl) is

from-each : (given : List Given) (best : Option Given) (one other : Given) → strongest_from best given ≡ Some one → Contains given other → IsTrue (is_at_least one other)
from-each [] best one other e (k, h, is) = absurd (omega (arith, h))
from-each (first ∷ more) best one other e (zero, h, is) =
    subst (λ (b : Given). IsTrue (is_at_least one b)) is (through one (stronger best first) first (from-best more (Some (stronger best first)) one (stronger best first) e refl) (stronger-both best first).0)
from-each (first ∷ more) best one other e (suc k, h, is) = from-each more (Some (stronger best first)) one other e (k, omega (arith, h), is)

pub strongest-each : (given : List Given) (one other : Given) → strongest given ≡ Some one → Contains given other → IsTrue (is_at_least one other)
unfolding strongest
strongest-each given one other e c = from-each given None one other e c

-- ---- the strongest is among them

choice-is : (t : Bool) (best given one : Given) → (if t then given else best) ≡ one → (best ≡ one) ⊎ (given ≡ one)
choice-is true best given one e = inr e
choice-is false best given one e = inl e

stronger-is : (best : Option Given) (given one : Given) → stronger best given ≡ one → (best ≡ Some one) ⊎ (given ≡ one)
stronger-is None given one e = inr e
stronger-is (Some best) given one e = elim (choice-is (is_at_least given best) best given one e) [ inl h ↦ inl (ap (λ (g : Given). Some g) h) | inr h ↦ inr h ]

here : (first : Given) (more : List Given) (one : Given) → first ≡ one → Contains (first ∷ more) one
here first more one e = (0, omega arith, e)

behind : (first : Given) (more : List Given) (one : Given) → Contains more one → Contains (first ∷ more) one
behind first more one c = (suc c.0, omega (arith, c.1), c.2)

from-among : (given : List Given) (best : Option Given) (one : Given) → strongest_from best given ≡ Some one → (best ≡ Some one) ⊎ Contains given one
from-among [] best one e = inl e
from-among (first ∷ more) best one e = by (from-among more (Some (stronger best first)) one e)
  where
    at_first : (best ≡ Some one) ⊎ (first ≡ one) → (best ≡ Some one) ⊎ Contains (first ∷ more) one
    at_first (inl h) = inl h
    at_first (inr h) = inr (here first more one h)

    by : (Some (stronger best first) ≡ Some one) ⊎ Contains more one → (best ≡ Some one) ⊎ Contains (first ∷ more) one
    by (inl h) = let is : stronger best first ≡ one = cc h in at_first (stronger-is best first one is)
    by (inr c) = inr (behind first more one c)

pub strongest-among : (given : List Given) (one : Given) → strongest given ≡ Some one → Contains given one
unfolding strongest
strongest-among given one e = elim (from-among given None one e) [ inl h ↦ absurd (cc h) | inr c ↦ c ]

from-some : (given : List Given) (best : Given) → strongest_from (Some best) given ≡ None → ⊥
from-some [] best e = cc e
from-some (first ∷ more) best e = from-some more (stronger (Some best) first) e

pub strongest-none : (given : List Given) → strongest given ≡ None → given ≡ []
unfolding strongest
strongest-none [] e = refl
strongest-none (first ∷ more) e = absurd (from-some more (stronger None first) e)

-- ---- one place in the order is one declaration

abbrev all_declarations : List Rule → List Declaration
all_declarations [] = []
all_declarations (rule ∷ more) = rule.declarations ++ all_declarations more

abbrev declaration_in : Given → Declaration
declaration_in given = record { property = given.property; value = given.value }

-- where so many declarations stand before
record IsPlaced (before : ℕ) (declarations : List Declaration) (given : Given) : Type 0 where
  place : ℕ
  order : given.order ≡ before + place
  found : slice_get declarations place ≡ Some (declaration_in given)

each-placed : (selectors : List Selector) (order : ℕ) (declaration : Declaration) (given : Given) → Contains (given_to_each selectors order declaration) given → (given.order ≡ order) × (declaration ≡ declaration_in given)
each-placed [] order declaration given (k, h, is) = absurd (omega (arith, h))
each-placed (selector ∷ more) order declaration given (zero, h, is) = (sym (ap (λ (g : Given). g.order) is), ap declaration_in is)
each-placed (selector ∷ more) order declaration given (suc k, h, is) = each-placed more order declaration given (k, omega (arith, h), is)

rule-placed : (declarations : List Declaration) (order : ℕ) (selectors : List Selector) (given : Given) → Contains (given_by_rule order selectors declarations) given → IsPlaced order declarations given
rule-placed [] order selectors given (k, h, is) = absurd (omega (arith, h))
rule-placed (declaration ∷ more) order selectors given c =
    elim (Contains-append_cases (given_to_each selectors order declaration) (given_by_rule (order + 1) selectors more) given c) [
      | inl d ↦
          let at = each-placed selectors order declaration given d in
          record { place = 0; order = omega (arith, at.0); found = ap (λ (d : Declaration). Some d) at.1 }
      | inr d ↦
          let at : IsPlaced (order + 1) more given = rule-placed more (order + 1) selectors given d in
          record { place = suc at.place; order = omega (arith, at.order); found = at.found }
    ]

get-front : (front back : List Declaration) (k : ℕ) (d : Declaration) → slice_get front k ≡ Some d → slice_get (front ++ back) k ≡ Some d
get-front [] back k d e = absurd (cc e)
get-front (x ∷ front) back zero d e = e
get-front (x ∷ front) back (suc k) d e = get-front front back k d e

get-back : (front back : List Declaration) (k : ℕ) → slice_get (front ++ back) (length front + k) ≡ slice_get back k
get-back [] back k = ap (slice_get back) (none_plus k)
  where
    none_plus : (n : ℕ) → 0 + n ≡ n
    none_plus n = omega arith
get-back (x ∷ front) back k = ap (slice_get (x ∷ (front ++ back))) (suc_plus (length front) k) ∙ get-back front back k
  where
    suc_plus : (n m : ℕ) → suc n + m ≡ suc (n + m)
    suc_plus n m = omega arith

all-placed : (rules : List Rule) (order : ℕ) (given : Given) → Contains (given_from order rules) given → IsPlaced order (all_declarations rules) given
all-placed [] order given (k, h, is) = absurd (omega (arith, h))
all-placed (rule ∷ more) order given c =
    elim (Contains-append_cases (given_by_rule order rule.selectors rule.declarations) (given_from (order + length rule.declarations) more) given c) [
      | inl d ↦
          let at : IsPlaced order rule.declarations given = rule-placed rule.declarations order rule.selectors given d in
          record { place = at.place; order = at.order; found = get-front rule.declarations (all_declarations more) at.place (declaration_in given) at.found }
      | inr d ↦
          let at : IsPlaced (order + length rule.declarations) (all_declarations more) given = all-placed more (order + length rule.declarations) given d in
          record {
            place = length rule.declarations + at.place;
            order = omega (arith, at.order);
            found = get-back rule.declarations (all_declarations more) at.place ∙ at.found;
          }
    ]

pub order-one : (rules : List Rule) (one other : Given) → Contains (given_by rules) one → Contains (given_by rules) other → one.order ≡ other.order → (one.property ≡ other.property) × (one.value ≡ other.value)
unfolding given_by
order-one rules one other c d e =
    let first : IsPlaced 0 (all_declarations rules) one = all-placed rules 0 one c in
    let second : IsPlaced 0 (all_declarations rules) other = all-placed rules 0 other d in
    let place : first.place ≡ second.place = omega (arith, first.order, second.order, e) in
    let both : Some (declaration_in one) ≡ Some (declaration_in other) = sym first.found ∙ ap (slice_get (all_declarations rules)) place ∙ second.found in
    let same : declaration_in one ≡ declaration_in other = cc both in
    (ap (λ (d : Declaration). d.property) same, ap (λ (d : Declaration). d.value) same)
