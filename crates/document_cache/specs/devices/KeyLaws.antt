-- A device of the proofs: keys that are the same are equal.
use Rattle.std.proofs.Common.{◌≡◌, ℕ, ◌==◌, Bool, true, false, ◌&&◌, List, refl, ◌∙◌, ap, subst}
use Rattle.std.proofs.lemmas.Bool.{eqb-true}
use Rattle.std.proofs.lemmas.Slice.Eq.{bytes_eq-Decides}
use Rattle.std.specs.Cmp.{IsEquivalence, decided, unsigned_Decides}
use Rattle.std.specs.Cmp.Derive.{both_true}
use Rattle.document_cache.specs.Caching.{is_same_key}
use Rattle.document_cache.specs.declared.keys.CacheKey.{CacheKey}

both : (a b : Bool) → (a && b) ≡ true → (a ≡ true) × (b ≡ true)
both true b h = (refl, h)
both false b h = cc

-- a key of its parts
abbrev of_parts : ℕ → ℕ → ℕ → List ℕ → CacheKey
of_parts own component part name =
    record { path = record { component = component; «module» = part; name = name }; own = own }

pub is_same_key-true : (key other : CacheKey) → is_same_key key other ≡ true → key ≡ other
is_same_key-true key other h =
    let one = both (key.own == other.own) _ h in
    let two = both (key.path.component == other.path.component) _ one.1 in
    let three = both (key.path.module == other.path.module) _ two.1 in
    let own : key.own ≡ other.own = eqb-true key.own other.own one.0 in
    let component : key.path.component ≡ other.path.component = eqb-true _ _ two.0 in
    let part : key.path.module ≡ other.path.module = eqb-true _ _ three.0 in
    let name : key.path.name ≡ other.path.name = (bytes_eq-Decides _ _).0 three.1 in
    ap (λ x. of_parts x key.path.component key.path.module key.path.name) own
    ∙ (ap (λ x. of_parts other.own x key.path.module key.path.name) component
    ∙ (ap (λ x. of_parts other.own other.path.component x key.path.name) part
    ∙ ap (λ x. of_parts other.own other.path.component other.path.module x) name))

pub is_same_key-same : (key : CacheKey) → is_same_key key key ≡ true
is_same_key-same key =
    let own : (key.own == key.own) ≡ true = (unsigned_Decides key.own key.own).1 refl in
    let component : (key.path.component == key.path.component) ≡ true = (unsigned_Decides _ _).1 refl in
    let part : (key.path.module == key.path.module) ≡ true = (unsigned_Decides _ _).1 refl in
    both_true own (both_true component (both_true part ((bytes_eq-Decides key.path.name key.path.name).1 refl)))

-- two keys are the same exactly where they are equal
pub is_same_key-equiv : IsEquivalence is_same_key
is_same_key-equiv =
    decided is_same_key (λ key other. (is_same_key-true key other, λ e. subst (λ k. is_same_key key k ≡ true) e (is_same_key-same key)))
