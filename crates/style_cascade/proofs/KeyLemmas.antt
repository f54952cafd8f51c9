-- Numbers of names, and the keys of selectors.
use Rattle.std.proofs.Common.{◌≡◌, ℕ, ◌+◌, ◌*◌, Bool, true, false, ◌||◌, nat_eq, List, [], ◌∷◌, Option, Some, None, ◌⊎◌, inl, inr, cond, get_or, refl, sym, ◌∙◌, ap, subst, arith}
use Rattle.std.proofs.lemmas.Bool.{and_from, eqb-true, or_cases, or_left}
use Rattle.std.proofs.lemmas.List.Quantifiers.{position-Some}
use Rattle.std.specs.Prelude.{◌&&◌, option_map}
use Rattle.std.specs.List.{list_any}
use Rattle.std.specs.Option.{option_map_or}
use Rattle.std.specs.Cmp.Lexicographic.{bytes_decides}
use Rattle.bml_bytes.specs.Words.{is_same}
use Rattle.style_reader.specs.Selectors.{mark_weight, one_if_some, specificity}
use Rattle.style_reader.specs.declared.selectors.Mark.{Mark}
use Rattle.style_reader.specs.declared.selectors.Mark.TheVariants.{Class, Id}
use Rattle.style_reader.specs.declared.selectors.PseudoClass.{PseudoClass}
use Rattle.style_reader.specs.declared.selectors.PseudoClass.TheVariants as pseudo_classes
use Rattle.style_reader.specs.declared.selectors.Selector.{Selector}
use Rattle.style_cascade.specs.Matching.{has_mark, has_tag, is_for_state, matches}
use Rattle.style_cascade.specs.devices.Keys.{AreClasses, AreKnown, IsCounted, IsFor, IsForTag, IsKeyOf, IsKnown, KnowsMore, asked_with, class_in, id_in, is_among, is_for_when, key_specificity, number_in, number_of, when_of, when_weight}
use Rattle.style_cascade.specs.declared.keys.Key.{Key}
use Rattle.style_cascade.specs.declared.keys.When.{When}
use Rattle.style_cascade.specs.declared.states.State.{State}
use Rattle.style_cascade.specs.declared.states.State.TheVariants as states
use Rattle.style_cascade.specs.declared.subjects.Subject.{Subject}

-- ---- numbers

-- names of one number are one
pub number-one : (names : List (List ℕ)) (name other : List ℕ) (number : ℕ) → number_of names name ≡ Some number → number_of names other ≡ Some number → name ≡ other
number-one names name other number e f =
    let none : List ℕ = [] in
    let here : is_same name (get_or names number none) ≡ true = (position-Some (is_same name) names number none e).1 in
    let there : is_same other (get_or names number none) ≡ true = (position-Some (is_same other) names number none f).1 in
    (bytes_decides name (get_or names number none)).0 here ∙ sym ((bytes_decides other (get_or names number none)).0 there)

-- a name with the number of this one is this one
pub numbered : (names : List (List ℕ)) (asked : Option (List ℕ)) (name : List ℕ) (number : ℕ) → number_of names name ≡ Some number → number_in names asked ≡ Some (Some number) → asked ≡ Some name
numbered names None name number e f = absurd (cc f)
numbered names (Some other) name number e f = ap (λ (n : List ℕ). Some n) (number-one names other name number (unmapped (number_of names other) f) e)
  where
    unmapped : (o : Option ℕ) → option_map (λ (n : ℕ). Some n) o ≡ Some (Some number) → o ≡ Some number
    unmapped None g = absurd (cc g)
    unmapped (Some n) g = let same : n ≡ number = cc g in ap (λ (k : ℕ). Some k) same

-- what has no number isn't asked for
pub unnumbered : (names : List (List ℕ)) (asked : Option (List ℕ)) → number_in names asked ≡ Some None → asked ≡ None
unnumbered names None e = refl
unnumbered names (Some name) e = absurd (by (number_of names name) e)
  where
    by : (o : Option ℕ) → option_map (λ (n : ℕ). Some n) o ≡ Some None → ⊥
    by None f = cc f
    by (Some n) f = cc f

-- ---- what is asked of an element

for-tag_none : (names : List (List ℕ)) (subject : Subject) → IsForTag names subject None
for-tag_none names subject asked e = subst (λ (o : Option (List ℕ)). has_tag o subject ≡ true) (sym (unnumbered names asked e)) refl

pub for-none : (names : List (List ℕ)) (subject : Subject) → IsForTag names subject None
for-none names subject = for-tag_none names subject

pub for-tag : (names : List (List ℕ)) (subject : Subject) (number : ℕ) → number_of names subject.tag ≡ Some number → IsForTag names subject (Some number)
for-tag names subject number e asked f = subst (λ (o : Option (List ℕ)). has_tag o subject ≡ true) (sym (numbered names asked subject.tag number e f)) ((bytes_decides subject.tag subject.tag).1 refl)

mark-none : (names : List (List ℕ)) (mark : Option Mark) (subject : Subject) → number_in names (class_in mark) ≡ Some None → number_in names (id_in mark) ≡ Some None → has_mark mark subject ≡ true
mark-none names None subject e f = refl
mark-none names (Some (Class name)) subject e f = absurd (cc (unnumbered names (Some name) e))
mark-none names (Some (Id name)) subject e f = absurd (cc (unnumbered names (Some name) f))

mark-id : (names : List (List ℕ)) (mark : Option Mark) (subject : Subject) (id : List ℕ) (number : ℕ) → subject.id ≡ Some id → number_of names id ≡ Some number → number_in names (id_in mark) ≡ Some (Some number) → has_mark mark subject ≡ true
mark-id names None subject id number is e f = absurd (cc f)
mark-id names (Some (Class name)) subject id number is e f = absurd (cc f)
mark-id names (Some (Id name)) subject id number is e f =
    let both : Some name ≡ Some id = numbered names (Some name) id number e f in
    let same : name ≡ id = cc both in
    subst (λ (o : Option (List ℕ)). option_map_or (is_same name) o false ≡ true) (sym is) ((bytes_decides name id).1 same)

mark-class : (names : List (List ℕ)) (mark : Option Mark) (subject : Subject) (numbers : List ℕ) (number : ℕ) → AreClasses names subject.classes numbers → is_among number numbers ≡ true → number_in names (class_in mark) ≡ Some (Some number) → has_mark mark subject ≡ true
mark-class names None subject numbers number classes among f = absurd (cc f)
mark-class names (Some (Id name)) subject numbers number classes among f = absurd (cc f)
mark-class names (Some (Class name)) subject numbers number classes among f = classes.only name number among (unmapped (number_of names name) f)
  where
    unmapped : (o : Option ℕ) → option_map (λ (n : ℕ). Some n) o ≡ Some (Some number) → o ≡ Some number
    unmapped None g = absurd (cc g)
    unmapped (Some n) g = let same : n ≡ number = cc g in ap (λ (k : ℕ). Some k) same

pub for-unmarked : (names : List (List ℕ)) (subject : Subject) (tag : Option ℕ) → IsForTag names subject tag → IsFor names subject (asked_with tag None None)
for-unmarked names subject tag fits selector asked = (fits selector.tag asked.tag, mark-none names selector.mark subject asked.class asked.id)

pub for-id : (names : List (List ℕ)) (subject : Subject) (tag : Option ℕ) (id : List ℕ) (number : ℕ) → IsForTag names subject tag → subject.id ≡ Some id → number_of names id ≡ Some number → IsFor names subject (asked_with tag None (Some number))
for-id names subject tag id number fits is e selector asked = (fits selector.tag asked.tag, mark-id names selector.mark subject id number is e asked.id)

pub for-class : (names : List (List ℕ)) (subject : Subject) (tag : Option ℕ) (numbers : List ℕ) (number : ℕ) → IsForTag names subject tag → AreClasses names subject.classes numbers → is_among number numbers ≡ true → IsFor names subject (asked_with tag (Some number) None)
for-class names subject tag numbers number fits classes among selector asked = (fits selector.tag asked.tag, mark-class names selector.mark subject numbers number classes among asked.class)

-- ---- keys

when-state : (pseudo_class : Option PseudoClass) (state : State) → is_for_when (when_of pseudo_class) state ≡ is_for_state pseudo_class state
when-state None state = refl
when-state (Some pseudo_classes.Focus) states.Normal = refl
when-state (Some pseudo_classes.Focus) states.Focus = refl
when-state (Some pseudo_classes.Focus) states.Active = refl
when-state (Some pseudo_classes.Active) states.Normal = refl
when-state (Some pseudo_classes.Active) states.Focus = refl
when-state (Some pseudo_classes.Active) states.Active = refl

pub key-state : (names : List (List ℕ)) (key : Key) (selector : Selector) (state : State) → IsKeyOf names key selector → is_for_when key.when state ≡ is_for_state selector.pseudo_class state
key-state names key selector state is = ap (λ (w : When). is_for_when w state) is.when ∙ when-state selector.pseudo_class state

pub key-matching : (names : List (List ℕ)) (key : Key) (selector : Selector) (subject : Subject) (state : State) → IsKeyOf names key selector → IsFor names subject key.asked → is_for_when key.when state ≡ true → matches selector subject state ≡ true
unfolding matches
key-matching names key selector subject state is fits when =
    let both = fits selector is.asked in
    and_from (has_tag selector.tag subject) (has_mark selector.mark subject && is_for_state selector.pseudo_class state) both.0
    (and_from (has_mark selector.mark subject) (is_for_state selector.pseudo_class state) both.1 (sym (key-state names key selector state is) ∙ when))

one-number : (names : List (List ℕ)) (asked : Option (List ℕ)) (number : Option ℕ) → number_in names asked ≡ Some number → one_if_some number ≡ one_if_some asked
one-number names None None e = refl
one-number names None (Some number) e = absurd (cc e)
one-number names (Some name) None e = absurd (cc (unnumbered names (Some name) e))
one-number names (Some name) (Some number) e = refl

mark_weight-is : (mark : Option Mark) → mark_weight mark ≡ 100 * one_if_some (id_in mark) + 10 * one_if_some (class_in mark)
mark_weight-is None = refl
mark_weight-is (Some (Class name)) = refl
mark_weight-is (Some (Id name)) = refl

when_weight-is : (pseudo_class : Option PseudoClass) → when_weight (when_of pseudo_class) ≡ 10 * one_if_some pseudo_class
when_weight-is None = refl
when_weight-is (Some pseudo_classes.Focus) = refl
when_weight-is (Some pseudo_classes.Active) = refl

sums : (m p t i c w u n k : ℕ) → m ≡ 100 * i + 10 * c → w ≡ 10 * p → n ≡ i → k ≡ c → u ≡ t → 100 * n + 10 * k + w + u ≡ m + 10 * p + t
sums m p t i c w u n k e f g h j = omega (arith, e, f, g, h, j)

-- a selector is as specific as its key
pub key-specific : (names : List (List ℕ)) (key : Key) (selector : Selector) → IsKeyOf names key selector → key_specificity key ≡ specificity selector
unfolding key_specificity specificity
key-specific names key selector is =
    sums (mark_weight selector.mark) (one_if_some selector.pseudo_class) (one_if_some selector.tag) (one_if_some (id_in selector.mark)) (one_if_some (class_in selector.mark)) (when_weight key.when) (one_if_some key.asked.tag) (one_if_some key.asked.id) (one_if_some key.asked.class)
    (mark_weight-is selector.mark) (ap when_weight is.when ∙ when_weight-is selector.pseudo_class) (one-number names (id_in selector.mark) key.asked.id is.asked.id) (one-number names (class_in selector.mark) key.asked.class is.asked.class) (one-number names selector.tag key.asked.tag is.asked.tag)

-- ---- classes, one by one

pub record AreListed (names classes rest : List (List ℕ)) (numbers : List ℕ) : Type 0 where
  pub all : (name : List ℕ) (number : ℕ) → list_any (is_same name) classes ≡ true → number_of names name ≡ Some number → (is_among number numbers ≡ true) ⊎ (list_any (is_same name) rest ≡ true)
  pub only : (name : List ℕ) (number : ℕ) → is_among number numbers ≡ true → number_of names name ≡ Some number → list_any (is_same name) classes ≡ true
  pub within : (name : List ℕ) → list_any (is_same name) rest ≡ true → list_any (is_same name) classes ≡ true

pub listed-start : (names classes rest : List (List ℕ)) (numbers : List ℕ) → rest ≡ classes → numbers ≡ [] → AreListed names classes rest numbers
listed-start names classes rest numbers e f = record {
  all = λ name number h k. inr (subst (λ (l : List (List ℕ)). list_any (is_same name) l ≡ true) (sym e) h);
  only = λ name number h k. absurd (none number (subst (λ (l : List ℕ). is_among number l ≡ true) f h));
  within = λ name h. subst (λ (l : List (List ℕ)). list_any (is_same name) l ≡ true) e h;
}
  where
    none : (number : ℕ) → is_among number [] ≡ true → ⊥
    none number h = cc h

pub listed-more : (names classes rest behind : List (List ℕ)) (first : List ℕ) (numbers more : List ℕ) → rest ≡ first ∷ behind → IsCounted names first numbers more → AreListed names classes rest numbers → AreListed names classes behind more
listed-more names classes rest behind first numbers more is counted list = record {
  all = λ name number h k. all name number k (list.all name number h k);
  only = λ name number h k. only name number k (counted.only number h);
  within = λ name h. list.within name (subst (λ (l : List (List ℕ)). list_any (is_same name) l ≡ true) (sym is) (or_right (is_same name first) (list_any (is_same name) behind) h));
}
  where
    or_right : (x y : Bool) → y ≡ true → (x || y) ≡ true
    or_right true y e = refl
    or_right false y e = e

    at : (name : List ℕ) (number : ℕ) → number_of names name ≡ Some number → (is_same name first ≡ true) ⊎ (list_any (is_same name) behind ≡ true) → (is_among number more ≡ true) ⊎ (list_any (is_same name) behind ≡ true)
    at name number k (inl e) = inl (counted.own number (sym (ap (number_of names) ((bytes_decides name first).0 e)) ∙ k))
    at name number k (inr e) = inr e

    all : (name : List ℕ) (number : ℕ) → number_of names name ≡ Some number → (is_among number numbers ≡ true) ⊎ (list_any (is_same name) rest ≡ true) → (is_among number more ≡ true) ⊎ (list_any (is_same name) behind ≡ true)
    all name number k (inl h) = inl (counted.kept number h)
    all name number k (inr h) =
        let parted : list_any (is_same name) (first ∷ behind) ≡ true = subst (λ (l : List (List ℕ)). list_any (is_same name) l ≡ true) is h in
        at name number k (or_cases (is_same name first) (list_any (is_same name) behind) parted)

    only : (name : List ℕ) (number : ℕ) → number_of names name ≡ Some number → (is_among number numbers ≡ true) ⊎ (number_of names first ≡ Some number) → list_any (is_same name) classes ≡ true
    only name number k (inl h) = list.only name number h k
    only name number k (inr e) =
        let same : name ≡ first = number-one names name first number k e in
        list.within name (subst (λ (l : List (List ℕ)). list_any (is_same name) l ≡ true) (sym is) (or_left (is_same name first) (list_any (is_same name) behind) ((bytes_decides name first).1 same)))

pub listed-end : (names classes rest : List (List ℕ)) (numbers : List ℕ) → AreListed names classes rest numbers → rest ≡ [] → AreClasses names classes numbers
listed-end names classes rest numbers list is = record {
  all = λ name number h k. elim (list.all name number h k) [
    | inl among ↦ among
    | inr h ↦ let none : list_any (is_same name) [] ≡ true = subst (λ (l : List (List ℕ)). list_any (is_same name) l ≡ true) is h in absurd (cc none)
  ];
  only = list.only;
}

-- no number comes
pub counted-none : (names : List (List ℕ)) (first : List ℕ) (numbers : List ℕ) → number_of names first ≡ None → IsCounted names first numbers numbers
counted-none names first numbers none = record { kept = λ number h. h; own = λ number e. absurd (cc (none, e)); only = λ number h. inl h }

-- a number comes
pub counted-one : (names : List (List ℕ)) (first : List ℕ) (one : ℕ) (numbers more : List ℕ) → number_of names first ≡ Some one → ((number : ℕ) → is_among number more ≡ cond (nat_eq one number) true (is_among number numbers)) → IsCounted names first numbers more
counted-one names first one numbers more is has = record {
  kept = λ number h. has number ∙ kept (nat_eq one number) (is_among number numbers) h;
  own = λ number e. let same : one ≡ number = cc (sym is ∙ e) in has number ∙ ap (λ (t : Bool). cond t true (is_among number numbers)) (test one number same);
  only = λ number h. only number (nat_eq one number) refl (sym (has number) ∙ h);
}
  where
    kept : (t b : Bool) → b ≡ true → cond t true b ≡ true
    kept true b e = refl
    kept false b e = e

    test : (n m : ℕ) → n ≡ m → nat_eq n m ≡ true
    test n m e = search (arith, e)

    only : (number : ℕ) (t : Bool) → nat_eq one number ≡ t → cond t true (is_among number numbers) ≡ true → (is_among number numbers ≡ true) ⊎ (number_of names first ≡ Some number)
    only number true e h = inr (is ∙ ap (λ (n : ℕ). Some n) (eqb-true one number e))
    only number false e h = inl h

-- ---- names that are known

name-more : (before after : List (List ℕ)) (name : Option (List ℕ)) → KnowsMore before after → IsKnown before name → IsKnown after name
name-more before after None more h = tt
name-more before after (Some name) more h = more name h

pub known-more : (before after : List (List ℕ)) (selector : Selector) → KnowsMore before after → AreKnown before selector → AreKnown after selector
known-more before after selector more known = record {
  tag = name-more before after selector.tag more known.tag;
  class = name-more before after (class_in selector.mark) more known.class;
  id = name-more before after (id_in selector.mark) more known.id;
}
