-- Chains of rule numbers.
use Rattle.std.proofs.Common.{◌≡◌, ℕ, zero, suc, ◌+◌, ◌-◌, ◌<◌, ◌≤◌, Bool, true, false, ◌||◌, nat_eq, List, [], ◌∷◌, ◌++◌, Option, Some, None, Result, Ok, Err, ◌⊎◌, inl, inr, cond, length, refl, rules, sym, ◌∙◌, ap, subst, arith}
use Rattle.std.proofs.lemmas.Bool.{and_parts, cases_Bool, cases_lt, eq-eqb, eqb-true, or_cases, or_left}
use Rattle.std.proofs.lemmas.List.Folds.{list_any-append}
use Rattle.std.proofs.lemmas.Option.{slice_get_read}
use Rattle.std.specs.Prelude.{◌&&◌, Contains, OnOk, slice_get}
use Rattle.std.specs.HashMap.{HashMap, get}
use Rattle.std.specs.Option.{option_eq}
use denote.Enum.Bare.{sameb, same_true}
use Rattle.style_reader.specs.declared.declarations.Declaration.{Declaration}
use Rattle.style_reader.specs.declared.properties.Property.{Property}
use Rattle.style_reader.specs.declared.selectors.Selector.{Selector}
use Rattle.style_cascade.specs.contracts.keys.When.{the_type as the_whens}
use Rattle.style_cascade.specs.devices.Chains.{AreSeen, GivesIn, GivesSome, HasSeen, IsGiving, IsNoted, IsSeen, KeepsChains, Notes, chain_at, rules_in}
use Rattle.style_cascade.specs.devices.Keys.{is_among, same_key}
use Rattle.style_cascade.specs.declared.chains.Chain.{Chain}
use Rattle.style_cascade.specs.declared.keys.Key.{Key}
use Rattle.style_cascade.specs.declared.keys.When.{When}
use Rattle.style_cascade.specs.declared.keys.When.TheVariants as whens

pub below-or_at : (n m : ℕ) → n < m + 1 → (n < m) ⊎ (n ≡ m)
below-or_at n m h = elim (cases_lt n m) [ inl lt ↦ inl lt | inr ge ↦ inr (omega (arith, ge, h)) ]

pub OnOk-then : {T E : Type 0} (r : Result T E) (P Q : Type 0) → OnOk r P → (P → Q) → OnOk r Q
OnOk-then (Ok x) P Q h f = f h
OnOk-then (Err e) P Q h f = h

pub from-or_at : (n m : ℕ) → m - 1 ≤ n → (m ≤ n) ⊎ (n ≡ m - 1)
from-or_at n m h = elim (cases_lt n m) [ inl lt ↦ inr (omega (arith, lt, h)) | inr ge ↦ inl ge ]

-- ---- keys

option-one : (a b : Option ℕ) → option_eq nat_eq a b ≡ true → a ≡ b
option-one None None e = refl
option-one None (Some b) e = absurd (cc e)
option-one (Some a) None e = absurd (cc e)
option-one (Some a) (Some b) e = ap (λ (n : ℕ). Some n) (eqb-true a b e)

option-self : (a : Option ℕ) → option_eq nat_eq a a ≡ true
option-self None = refl
option-self (Some a) = eq-eqb a a refl

pub key-one : (one other : Key) → same_key one other ≡ true → one ≡ other
key-one one other e =
    let first = and_parts (option_eq nat_eq one.asked.tag other.asked.tag && (option_eq nat_eq one.asked.class other.asked.class && option_eq nat_eq one.asked.id other.asked.id)) (sameb the_whens one.when other.when) e in
    let second = and_parts (option_eq nat_eq one.asked.tag other.asked.tag) (option_eq nat_eq one.asked.class other.asked.class && option_eq nat_eq one.asked.id other.asked.id) first.0 in
    let third = and_parts (option_eq nat_eq one.asked.class other.asked.class) (option_eq nat_eq one.asked.id other.asked.id) second.1 in
    let tag : one.asked.tag ≡ other.asked.tag = option-one one.asked.tag other.asked.tag second.0 in
    let class : one.asked.class ≡ other.asked.class = option-one one.asked.class other.asked.class third.0 in
    let id : one.asked.id ≡ other.asked.id = option-one one.asked.id other.asked.id third.1 in
    let when : one.when ≡ other.when = same_true the_whens (search rules) one.when other.when first.1 in
    λ j. record { asked = record { tag = tag j; class = class j; id = id j }; when = when j }

when-self : (when : When) → sameb the_whens when when ≡ true
when-self whens.Always = refl
when-self whens.Focused = refl
when-self whens.Active = refl

both : (a b : Bool) → a ≡ true → b ≡ true → (a && b) ≡ true
both true b e f = f
both false b e f = absurd (cc e)

pub key-self : (key : Key) → same_key key key ≡ true
key-self key =
    both (option_eq nat_eq key.asked.tag key.asked.tag && (option_eq nat_eq key.asked.class key.asked.class && option_eq nat_eq key.asked.id key.asked.id)) (sameb the_whens key.when key.when)
    (both (option_eq nat_eq key.asked.tag key.asked.tag) (option_eq nat_eq key.asked.class key.asked.class && option_eq nat_eq key.asked.id key.asked.id) (option-self key.asked.tag)
    (both (option_eq nat_eq key.asked.class key.asked.class) (option_eq nat_eq key.asked.id key.asked.id) (option-self key.asked.class) (option-self key.asked.id)))
    (when-self key.when)

-- ---- a rule more

among-last : (rules : List ℕ) (number : ℕ) → is_among number (rules ++ number ∷ []) ≡ true
among-last [] number = or_left (nat_eq number number) false (eq-eqb number number refl)
among-last (first ∷ rules) number = or_more (nat_eq number first) (is_among number (rules ++ number ∷ [])) (among-last rules number)
  where
    or_more : (x y : Bool) → y ≡ true → (x || y) ≡ true
    or_more true y e = refl
    or_more false y e = e

pub notes-none : (given : List (List Declaration)) (rules : List ℕ) (number : ℕ) → ((property : Property) → IsGiving given number property → GivesIn given rules property) → Notes given rules number rules
notes-none given rules number gives = record { kept = λ other h. h; only = λ other h. inl h; gives = gives }

pub notes-one : (given : List (List Declaration)) (rules more : List ℕ) (number : ℕ) → more ≡ rules ++ number ∷ [] → Notes given rules number more
notes-one given rules more number is = record {
  kept = λ other h. at other ∙ or_left (is_among other rules) (is_among other (number ∷ [])) h;
  only = λ other h. only other (or_cases (is_among other rules) (is_among other (number ∷ [])) (sym (at other) ∙ h));
  gives = λ property h. record { rule = number; among = ap (is_among number) is ∙ among-last rules number; gives = h };
}
  where
    at : (other : ℕ) → is_among other more ≡ (is_among other rules || is_among other (number ∷ []))
    at other = ap (is_among other) is ∙ list_any-append (nat_eq other) rules (number ∷ [])

    one : (other : ℕ) → (nat_eq other number ≡ true) ⊎ (false ≡ true) → other ≡ number
    one other (inl e) = eqb-true other number e
    one other (inr e) = absurd (cc e)

    only : (other : ℕ) → (is_among other rules ≡ true) ⊎ (is_among other (number ∷ []) ≡ true) → (is_among other rules ≡ true) ⊎ (other ≡ number)
    only other (inl h) = inl h
    only other (inr h) = inr (one other (or_cases (nat_eq other number) false h))

-- ---- a chain more

-- the selector has this chain, and each other what it had
pub record IsChanged {S T : Type 0} (given : List (List Declaration)) (key : Key) (number : ℕ) (chain : Chain) (before : HashMap Key Chain S) (after : HashMap Key Chain T) : Type 0 where
  pub has : (other : Key) → get same_key after other ≡ cond (same_key key other) (Some chain) (get same_key before other)
  pub seen : chain.seen ≡ number
  pub notes : Notes given (chain_at before key) number chain.rules.items

taken-put : (t : Bool) (chain : Chain) (old mid new : Option Chain) → mid ≡ cond t None old → new ≡ cond t (Some chain) mid → new ≡ cond t (Some chain) old
taken-put true chain old mid new e f = f
taken-put false chain old mid new e f = f ∙ e

changed-same : {S T : Type 0} (given : List (List Declaration)) (key : Key) (number : ℕ) (chain : Chain) (before : HashMap Key Chain S) (after : HashMap Key Chain T) → IsChanged given key number chain before after → (other : Key) → same_key key other ≡ true → get same_key after other ≡ Some chain
changed-same given key number chain before after changed other e = changed.has other ∙ ap (λ (t : Bool). cond t (Some chain) (get same_key before other)) e

changed-other : {S T : Type 0} (given : List (List Declaration)) (key : Key) (number : ℕ) (chain : Chain) (before : HashMap Key Chain S) (after : HashMap Key Chain T) → IsChanged given key number chain before after → (other : Key) → same_key key other ≡ false → get same_key after other ≡ get same_key before other
changed-other given key number chain before after changed other e = changed.has other ∙ ap (λ (t : Bool). cond t (Some chain) (get same_key before other)) e

pub changed-kept : {S T : Type 0} (given : List (List Declaration)) (key : Key) (number : ℕ) (chain : Chain) (before : HashMap Key Chain S) (after : HashMap Key Chain T) → IsChanged given key number chain before after → KeepsChains before after
changed-kept given key number chain before after changed other rule h = elim (cases_Bool (same_key key other)) [
  | inl e ↦ ap (λ (o : Option Chain). is_among rule (rules_in o)) (changed-same given key number chain before after changed other e) ∙ changed.notes.kept rule (subst (λ (k : Key). is_among rule (chain_at before k) ≡ true) (sym (key-one key other e)) h)
  | inr e ↦ ap (λ (o : Option Chain). is_among rule (rules_in o)) (changed-other given key number chain before after changed other e) ∙ h
]

pub changed-only : {S T : Type 0} (given : List (List Declaration)) (key : Key) (number : ℕ) (chain : Chain) (before : HashMap Key Chain S) (after : HashMap Key Chain T) → IsChanged given key number chain before after → (at : Key) (other : ℕ) → is_among other (chain_at after at) ≡ true → (is_among other (chain_at before at) ≡ true) ⊎ ((other ≡ number) × (key ≡ at))
changed-only given key number chain before after changed at other h = elim (cases_Bool (same_key key at)) [
  | inl e ↦
      let same : key ≡ at = key-one key at e in
      elim (changed.notes.only other (sym (ap (λ (o : Option Chain). is_among other (rules_in o)) (changed-same given key number chain before after changed at e)) ∙ h)) [
        | inl among ↦ inl (subst (λ (k : Key). is_among other (chain_at before k) ≡ true) same among)
        | inr is ↦ inr (is, same)
      ]
  | inr e ↦ inl (sym (ap (λ (o : Option Chain). is_among other (rules_in o)) (changed-other given key number chain before after changed at e)) ∙ h)
]

from-before : (given : List (List Declaration)) (number : ℕ) (chain : Option Chain) → ((c : Chain) → chain ≡ Some c → IsSeen given number c) → (other : ℕ) → is_among other (rules_in chain) ≡ true → number ≤ other
from-before given number None seen other h = absurd (cc h)
from-before given number (Some chain) seen other h = (seen chain refl).from other h

from-notes : {S T : Type 0} (given : List (List Declaration)) (key : Key) (number : ℕ) (chain : Chain) (before : HashMap Key Chain S) (after : HashMap Key Chain T) → IsChanged given key number chain before after → AreSeen given number before → (other : ℕ) → is_among other chain.rules.items ≡ true → number ≤ other
from-notes given key number chain before after changed seen other h = elim (changed.notes.only other h) [
  | inl among ↦ from-before given number (get same_key before key) (λ c e. seen key c e) other among
  | inr is ↦ omega (arith, is)
]

gives-notes : {S T : Type 0} (given : List (List Declaration)) (key : Key) (number : ℕ) (chain : Chain) (before : HashMap Key Chain S) (after : HashMap Key Chain T) → IsChanged given key number chain before after → AreSeen given number before → (property : Property) → IsGiving given number property → GivesSome given chain.rules.items number property
gives-notes given key number chain before after changed seen property h =
    let found : GivesIn given chain.rules.items property = changed.notes.gives property h in
    record { rule = found.rule; among = found.among; later = from-notes given key number chain before after changed seen found.rule found.among; gives = found.gives }

pub changed-noted : {S T : Type 0} (given : List (List Declaration)) (key : Key) (number : ℕ) (chain : Chain) (before : HashMap Key Chain S) (after : HashMap Key Chain T) → IsChanged given key number chain before after → AreSeen given number before → (property : Property) → IsGiving given number property → GivesSome given (chain_at after key) number property
changed-noted given key number chain before after changed seen property h =
    subst (λ (o : Option Chain). GivesSome given (rules_in o) number property) (sym (changed-same given key number chain before after changed key (key-self key))) (gives-notes given key number chain before after changed seen property h)

pub changed-seen : {S T : Type 0} (given : List (List Declaration)) (key : Key) (number : ℕ) (chain : Chain) (before : HashMap Key Chain S) (after : HashMap Key Chain T) → IsChanged given key number chain before after → AreSeen given number before → AreSeen given number after
changed-seen given key number chain before after changed seen other found is = elim (cases_Bool (same_key key other)) [
  | inl e ↦
      let both : Some found ≡ Some chain = sym is ∙ changed-same given key number chain before after changed other e in
      let same : found ≡ chain = cc both in
      subst (λ (c : Chain). IsSeen given number c) (sym same) own
  | inr e ↦ seen other found (sym (changed-other given key number chain before after changed other e) ∙ is)
]
  where
    own : IsSeen given number chain
    own = record {
      from = from-notes given key number chain before after changed seen;
      gives = λ property h. subst (λ (n : ℕ). GivesSome given chain.rules.items n property) (sym changed.seen) (gives-notes given key number chain before after changed seen property (subst (λ (n : ℕ). IsGiving given n property) changed.seen h));
    }

-- ---- what was seen

pub seen-noted : {S : Type 0} (given : List (List Declaration)) (key : Key) (number : ℕ) (chains : HashMap Key Chain S) → HasSeen chains key number → AreSeen given number chains → (property : Property) → IsGiving given number property → GivesSome given (chain_at chains key) number property
seen-noted given key number chains has seen property h =
    subst (λ (o : Option Chain). GivesSome given (rules_in o) number property) (sym has.1)
    (subst (λ (n : ℕ). GivesSome given has.0.rules.items n property) has.2
    ((seen key has.0 has.1).gives property (subst (λ (n : ℕ). IsGiving given n property) (sym has.2) h)))

pub seen-weaker : {S : Type 0} (given : List (List Declaration)) (number less : ℕ) (chains : HashMap Key Chain S) → less ≤ number → AreSeen given number chains → AreSeen given less chains
seen-weaker given number less chains h seen key chain is =
    let one : IsSeen given number chain = seen key chain is in
    record { from = λ other k. omega (arith, h, one.from other k); gives = one.gives }

pub seen-none : {S : Type 0} (given : List (List Declaration)) (number : ℕ) (chains : HashMap Key Chain S) → ((key : Key) → get same_key chains key ≡ None) → AreSeen given number chains
seen-none given number chains none key chain is = let e : None ≡ Some chain = sym (none key) ∙ is in absurd (cc e)

pub noted-kept : {S T : Type 0} (names : List (List ℕ)) (given : List (List Declaration)) (number : ℕ) (before : HashMap Key Chain S) (after : HashMap Key Chain T) (selector : Selector) → KeepsChains before after → IsNoted names given number before selector → IsNoted names given number after selector
noted-kept names given number before after selector kept noted =
    record {
      key = noted.key;
      key_is = noted.key_is;
      gives = λ property h.
          let found : GivesSome given (chain_at before noted.key) number property = noted.gives property h in
          record { rule = found.rule; among = kept noted.key found.rule found.among; later = found.later; gives = found.gives };
    }

pub get-Contains : {A : Type 0} (items : List A) (place : ℕ) (item : A) → slice_get items place ≡ Some item → Contains items item
get-Contains [] place item e = absurd (cc e)
get-Contains (x ∷ items) zero item e = let same : x ≡ item = cc e in (0, omega arith, same)
get-Contains (x ∷ items) (suc place) item e =
    let found : Contains items item = get-Contains items place item e in
    (suc found.0, omega (arith, found.1), found.2)

-- what holds of each that was reached holds of each that is contained, once all were
pub each-contained : {A : Type 0} (P : A → Type 0) (items : List A) (place : ℕ) → ((k : ℕ) (item : A) → k < place → slice_get items k ≡ Some item → P item) → length items ≤ place → (item : A) → Contains items item → P item
each-contained P items place each all item among =
    each among.0 item (omega (arith, all, among.1)) (slice_get_read items (length items) among.0 item refl among.1 (sym among.2))

pub changed-by : {S T U : Type 0} (given : List (List Declaration)) (key : Key) (number : ℕ) (chain : Chain) (rules : List ℕ) (before : HashMap Key Chain S) (mid : HashMap Key Chain T) (after : HashMap Key Chain U) → rules ≡ chain_at before key → ((other : Key) → get same_key mid other ≡ cond (same_key key other) None (get same_key before other)) → ((other : Key) → get same_key after other ≡ cond (same_key key other) (Some chain) (get same_key mid other)) → chain.seen ≡ number → Notes given rules number chain.rules.items → IsChanged given key number chain before after
changed-by given key number chain rules before mid after is taken put seen notes = record {
  has = λ other. taken-put (same_key key other) chain (get same_key before other) (get same_key mid other) (get same_key after other) (taken other) (put other);
  seen = seen;
  notes = subst (λ (l : List ℕ). Notes given l number chain.rules.items) is notes;
}
