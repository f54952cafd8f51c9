-- The text of an array and its length.
use Rattle.std.proofs.Common.{◌≡◌, ℕ, zero, suc, ◌+◌, ◌-◌, ◌*◌, ◌^◌, ◌<◌, ◌≤◌, Bool, true, false, List, [], ◌∷◌, ◌++◌, length, take, refl, sym, ◌∙◌, ap, arith, add-one, append_assoc, length-append, ◌⊎◌, inl, inr, subst, lit<}
use Rattle.std.specs.Prelude.{nat_lt, nat_eq, ◌&&◌, if◌then◌else◌, min, slice_index_or, Option, option_to_list, Some, None, unwrap_or, map, codes}
use Rattle.std.specs.Option.{option_map_or}
use Rattle.std.specs.Map.{lookup}
use Rattle.std.specs.List.{IsDistinct, AllByRecursion, AllPass}
use Rattle.std.specs.Cmp.Lexicographic.{bytes_decides}
use Rattle.std.proofs.lemmas.Bool.Decides.{nat_tests}
use Rattle.bml_bytes.specs.Numerals.{decimal_digits, decimal_number, is_decimal_digit}
use Rattle.bml_bytes.specs.Words.{is_same}
use Rattle.es_values.specs.declared.values.Value.{Value}
use Rattle.es_values.specs.declared.values.Value.TheVariants.{Undefined}
use Rattle.es_values.specs.Heaps.{index_of, is_length}
use Rattle.es_values.specs.Conversions.{element_text, joined, separator_at, text_at}
use Rattle.es_values.specs.Lengths.{element_codes, elements_codes, texts_length}
use Rattle.es_values.specs.Slots.{HaveOwnNames, standing}
use Rattle.es_values.proofs.ListSteps.{standing-next, standing-whole}

-- Joining place by place

append-nothing : {X : Type 0} (xs : List X) → xs ≡ xs ++ []
append-nothing [] = refl
append-nothing (x ∷ xs) = ap (λ ys. x ∷ ys) (append-nothing xs)

pub joined-none : (out : List ℕ) (ps : List (List ℕ × Value)) (sep : List ℕ) → out ≡ out ++ joined ps sep 0
unfolding joined
joined-none out ps sep = append-nothing out

joined-suc : (ps : List (List ℕ × Value)) (sep : List ℕ) (k : ℕ) → joined ps sep (k + 1) ≡ joined ps sep k ++ (separator_at sep k ++ text_at ps k)
unfolding joined
joined-suc ps sep k = rw add-one refl

pub joined-next : (first out next : List ℕ) (ps : List (List ℕ × Value)) (sep : List ℕ) (k : ℕ) → out ≡ first ++ joined ps sep k → next ≡ out ++ (separator_at sep k ++ text_at ps k) → next ≡ first ++ joined ps sep (k + 1)
joined-next first out next ps sep k e step =
    let assoc : (first ++ joined ps sep k) ++ (separator_at sep k ++ text_at ps k) ≡ first ++ (joined ps sep k ++ (separator_at sep k ++ text_at ps k)) = simp append_assoc in
    step ∙ (ap (λ l. l ++ (separator_at sep k ++ text_at ps k)) e ∙ (assoc ∙ ap (λ l. first ++ l) (sym (joined-suc ps sep k))))

length-separator : (sep : List ℕ) (k : ℕ) → length (separator_at sep k) + (k - 1) * length sep ≡ k * length sep
length-separator sep zero = omega arith
length-separator sep (suc k) = let e : suc k - 1 ≡ k = omega arith in rw e (omega arith)

length-joined-by : (ps : List (List ℕ × Value)) (sep : List ℕ) (k : ℕ) → length (joined ps sep k) ≡ (k - 1) * length sep + texts_length ps k → length (joined ps sep (suc k)) ≡ (suc k - 1) * length sep + texts_length ps (suc k)
unfolding joined
length-joined-by ps sep k h =
    let e : suc k - 1 ≡ k = omega arith in
    rw (length-append (joined ps sep k) (separator_at sep k ++ text_at ps k), length-append (separator_at sep k) (text_at ps k), h, e)
    (omega (arith, length-separator sep k))

length-joined-zero : (ps : List (List ℕ × Value)) (sep : List ℕ) → length (joined ps sep zero) ≡ (zero - 1) * length sep + texts_length ps zero
unfolding joined
length-joined-zero ps sep = omega arith

pub length-joined : (ps : List (List ℕ × Value)) (sep : List ℕ) (k : ℕ) → length (joined ps sep k) ≡ (k - 1) * length sep + texts_length ps k
length-joined ps sep zero = length-joined-zero ps sep
length-joined ps sep (suc k) = length-joined-by ps sep k (length-joined ps sep k)

-- the length, from sums that stop at the greatest number
pub capped-length : (ps : List (List ℕ × Value)) (sep : List ℕ) (k separators many texts all : ℕ) → separators ≡ k - 1 → many ≡ min (separators * length sep) (2 ^ 64 - 1) → texts ≡ min (texts_length ps k) (2 ^ 64 - 1) → all ≡ min (many + texts) (2 ^ 64 - 1) → all ≡ min (length (joined ps sep k)) (2 ^ 64 - 1)
capped-length ps sep k separators many texts all s m t a =
    let m' : many ≡ min ((k - 1) * length sep) (2 ^ 64 - 1) = m ∙ ap (λ n. min (n * length sep) (2 ^ 64 - 1)) s in
    rw (length-joined ps sep k) (capped ((k - 1) * length sep) (texts_length ps k) many texts all m' t a)
  where
    capped : (x y many texts all : ℕ) → many ≡ min x (2 ^ 64 - 1) → texts ≡ min y (2 ^ 64 - 1) → all ≡ min (many + texts) (2 ^ 64 - 1) → all ≡ min (x + y) (2 ^ 64 - 1)
    capped x y many texts all m t a = omega arith

-- The places of an array by its properties

elements_codes-snoc : (count : ℕ) (ps : List (List ℕ × Value)) (p : List ℕ × Value) → elements_codes count (ps ++ p ∷ []) ≡ elements_codes count ps + element_codes count p
elements_codes-snoc count [] p = let e : (n : ℕ) → n + 0 ≡ 0 + n = λ n. omega arith in e (element_codes count p)
elements_codes-snoc count (q ∷ ps) p =
    let e : (a b c : ℕ) → a + (b + c) ≡ (a + b) + c = λ a b c. omega arith in
    ap (λ n. element_codes count q + n) (elements_codes-snoc count ps p) ∙ e (element_codes count q) (elements_codes count ps) (element_codes count p)

elements_codes-slot : (count : ℕ) (ps : List (List ℕ × Value)) (s : Option (List ℕ × Value)) → elements_codes count (ps ++ option_to_list s) ≡ elements_codes count ps + elements_codes count (option_to_list s)
elements_codes-slot count ps None = ap (elements_codes count) (sym (append-nothing ps)) ∙ (let e : (n : ℕ) → n ≡ n + 0 = λ n. omega arith in e (elements_codes count ps))
elements_codes-slot count ps (Some p) = elements_codes-snoc count ps p ∙ (let e : (n m : ℕ) → n + m ≡ n + (m + 0) = λ n m. omega arith in e (elements_codes count ps) (element_codes count p))

capped : (x y total more next : ℕ) → total ≡ min x (2 ^ 64 - 1) → more ≡ y → next ≡ min (total + more) (2 ^ 64 - 1) → next ≡ min (x + y) (2 ^ 64 - 1)
capped x y total more next t m step = omega arith

pub codes-next : (count : ℕ) (slots : List (Option (List ℕ × Value))) (i total more next : ℕ) (s : Option (List ℕ × Value)) → i < length slots → s ≡ slice_index_or slots i s → more ≡ elements_codes count (option_to_list s) → next ≡ min (total + more) (2 ^ 64 - 1) → total ≡ min (elements_codes count (standing (take i slots))) (2 ^ 64 - 1) → next ≡ min (elements_codes count (standing (take (i + 1) slots))) (2 ^ 64 - 1)
codes-next count slots i total more next s below read m step t =
    rw (standing-next slots i s below read, elements_codes-slot count (standing (take i slots)) s)
    (capped (elements_codes count (standing (take i slots))) (elements_codes count (option_to_list s)) total more next t m step)

-- the text of one place more
pub texts-next : (ps : List (List ℕ × Value)) (k total more next : ℕ) → more ≡ length (text_at ps k) → next ≡ min (total + more) (2 ^ 64 - 1) → total ≡ min (texts_length ps k) (2 ^ 64 - 1) → next ≡ min (texts_length ps (k + 1)) (2 ^ 64 - 1)
texts-next ps k total more next m step t = rw add-one (capped (texts_length ps k) (length (text_at ps k)) total more next t m step)

and-both : (a b : Bool) → (a && b) ≡ true → (a ≡ true) × (b ≡ true)
and-both true true h = (refl, refl)
and-both true false h = absurd (cc h)
and-both false b h = absurd (cc h)

some-by : (t : Bool) (m i : ℕ) → (if t then Some m else None) ≡ Some i → (t ≡ true) × (m ≡ i)
some-by true m i h = (refl, cc h)
some-by false m i h = absurd (cc h)

-- an index is the number whose decimal text the name is
pub index_of-is : (name : List ℕ) (i : ℕ) → index_of name ≡ Some i → (name ≡ decimal_digits i) × (i < 2147483647)
unfolding index_of
index_of-is name i h =
    let n = decimal_number name in
    let parts = some-by (nat_lt n 2147483647 && is_same name (decimal_digits n)) n i h in
    let both = and-both (nat_lt n 2147483647) (is_same name (decimal_digits n)) parts.0 in
    let same : name ≡ decimal_digits n = (bytes_decides name (decimal_digits n)).0 both.1 in
    let e : n ≡ i = parts.1 in
    let small : n < 2147483647 = grind (arith, nat_tests, both.0) in
    (same ∙ ap decimal_digits e, omega (arith, small, e))

index-by : (name : List ℕ) (n i : ℕ) → n ≡ i → name ≡ decimal_digits i → i < 2147483647 → (if nat_lt n 2147483647 && is_same name (decimal_digits n) then Some n else None) ≡ Some i
index-by name n i e same small =
    let below : nat_lt n 2147483647 ≡ true = grind (arith, nat_tests) in
    let equal : is_same name (decimal_digits n) ≡ true = (bytes_decides name (decimal_digits n)).1 (same ∙ ap decimal_digits (sym e)) in
    rw (below, equal) (ap Some e)

pub index_of-digits : ((n : ℕ) → decimal_number (decimal_digits n) ≡ n) → (i : ℕ) → i < 2147483647 → index_of (decimal_digits i) ≡ Some i
unfolding index_of
index_of-digits back i small = index-by (decimal_digits i) (decimal_number (decimal_digits i)) i (back i) refl small

text_at-by : (p : List ℕ × Value) (ps : List (List ℕ × Value)) (k : ℕ) (t : Bool) → is_same (decimal_digits k) p.0 ≡ t → text_at (p ∷ ps) k ≡ (if t then element_text p.1 else text_at ps k)
text_at-by p ps k true h = ap (λ b. element_text (unwrap_or (if b then Some p.1 else lookup (is_same (decimal_digits k)) ps) Undefined)) h
text_at-by p ps k false h = ap (λ b. element_text (unwrap_or (if b then Some p.1 else lookup (is_same (decimal_digits k)) ps) Undefined)) h

-- a property that is no element among the first adds nothing
texts-other : (p : List ℕ × Value) (ps : List (List ℕ × Value)) (count : ℕ) → ((k : ℕ) → k < count → is_same (decimal_digits k) p.0 ≡ false) → texts_length (p ∷ ps) count ≡ texts_length ps count
texts-other p ps zero h = refl
texts-other p ps (suc k) h =
    let below : k < suc k = omega arith in
    ap (λ n. n + length (text_at (p ∷ ps) k)) (texts-other p ps k (λ j small. h j (omega arith)))
    ∙ ap (λ text. texts_length ps k + length text) (text_at-by p ps k false (h k below))

pub digits-other : ((n : ℕ) → decimal_number (decimal_digits n) ≡ n) → (k i : ℕ) → (k ≡ i → ⊥) → is_same (decimal_digits k) (decimal_digits i) ≡ false
digits-other back k i h = by (is_same (decimal_digits k) (decimal_digits i)) refl
  where
    by : (t : Bool) → is_same (decimal_digits k) (decimal_digits i) ≡ t → t ≡ false
    by true e = absurd (h (sym (back k) ∙ (ap decimal_number ((bytes_decides (decimal_digits k) (decimal_digits i)).0 e) ∙ back i)))
    by false e = refl

equal_or_other : (k i : ℕ) → (k ≡ i) ⊎ (k ≡ i → ⊥)
equal_or_other k i = by (nat_eq k i) refl
  where
    by : (t : Bool) → nat_eq k i ≡ t → (k ≡ i) ⊎ (k ≡ i → ⊥)
    by true e = inl (grind (arith, nat_tests))
    by false e = inr (λ h. grind (arith, nat_tests))

-- an element adds its text, where it is among the first and no other property has its name
texts-one : ((n : ℕ) → decimal_number (decimal_digits n) ≡ n) → (p : List ℕ × Value) (ps : List (List ℕ × Value)) (i count : ℕ) → p.0 ≡ decimal_digits i → text_at ps i ≡ [] → texts_length (p ∷ ps) count ≡ (if nat_lt i count then length (element_text p.1) else 0) + texts_length ps count
texts-one back p ps i zero e none = let f : nat_lt i 0 ≡ false = grind (arith, nat_tests) in rw f refl
texts-one back p ps i (suc k) e none =
    elim (equal_or_other k i) [
      | inl same ↦
          let now : nat_lt i k ≡ false = grind (arith, nat_tests) in
          let after : nat_lt i (suc k) ≡ true = grind (arith, nat_tests) in
          let found : is_same (decimal_digits k) p.0 ≡ true = (bytes_decides (decimal_digits k) p.0).1 (ap decimal_digits same ∙ sym e) in
          let here : length (text_at (p ∷ ps) k) ≡ length (element_text p.1) = ap length (text_at-by p ps k true found) in
          let nothing : length (text_at ps k) ≡ 0 = ap (λ j. length (text_at ps j)) same ∙ ap length none in
          let before : texts_length (p ∷ ps) k ≡ 0 + texts_length ps k = texts-one back p ps i k e none ∙ ap (λ t. (if t then length (element_text p.1) else 0) + texts_length ps k) now in
          ap (λ n. n + length (text_at (p ∷ ps) k)) before ∙ (ap (λ n. (0 + texts_length ps k) + n) here
          ∙ (sum (length (element_text p.1)) (texts_length ps k) (length (text_at ps k)) nothing
          ∙ ap (λ t. (if t then length (element_text p.1) else 0) + (texts_length ps k + length (text_at ps k))) (sym after)))
      | inr other ↦
          let same : nat_lt i (suc k) ≡ nat_lt i k = grind (arith, nat_tests) in
          let apart : is_same (decimal_digits k) p.0 ≡ false = ap (is_same (decimal_digits k)) e ∙ digits-other back k i other in
          ap (λ n. n + length (text_at (p ∷ ps) k)) (texts-one back p ps i k e none)
          ∙ (ap (λ text. ((if nat_lt i k then length (element_text p.1) else 0) + texts_length ps k) + length text) (text_at-by p ps k false apart)
          ∙ (assoc (if nat_lt i k then length (element_text p.1) else 0) (texts_length ps k) (length (text_at ps k))
          ∙ ap (λ t. (if t then length (element_text p.1) else 0) + (texts_length ps k + length (text_at ps k))) (sym same)))
    ]
  where
    sum : (a b z : ℕ) → z ≡ 0 → (0 + b) + a ≡ a + (b + z)
    sum a b z e = omega arith

    assoc : (a b c : ℕ) → (a + b) + c ≡ a + (b + c)
    assoc a b c = omega arith

none-among : (q : List ℕ) (ps : List (List ℕ × Value)) → AllByRecursion (λ y. is_same q y ≡ false) (map (λ p. p.0) ps) → lookup (is_same q) ps ≡ None
none-among q [] h = refl
none-among q (p ∷ ps) h = ap (λ b. if b then Some p.1 else lookup (is_same q) ps) h.0 ∙ none-among q ps h.1

pub distinct-parts : (k : List ℕ) (ks : List (List ℕ)) → IsDistinct is_same (k ∷ ks) → AllByRecursion (λ y. is_same k y ≡ false) ks × IsDistinct is_same ks
unfolding IsDistinct
distinct-parts k ks h = h

nothing-at : (ps : List (List ℕ × Value)) (i : ℕ) → lookup (is_same (decimal_digits i)) ps ≡ None → text_at ps i ≡ []
nothing-at ps i h = ap (λ o. element_text (unwrap_or o Undefined)) h

no-texts : (count : ℕ) → texts_length [] count ≡ 0
no-texts zero = refl
no-texts (suc k) = let e : (n : ℕ) → n ≡ 0 → n + 0 ≡ 0 = λ n h. omega arith in e (texts_length [] k) (no-texts k)

codes-by : ((n : ℕ) → decimal_number (decimal_digits n) ≡ n) → (p : List ℕ × Value) (ps : List (List ℕ × Value)) (count : ℕ) (o : Option ℕ) → index_of p.0 ≡ o → count ≤ 2147483647 → AllByRecursion (λ y. is_same p.0 y ≡ false) (map (λ q. q.0) ps) → texts_length (p ∷ ps) count ≡ option_map_or (λ index. if nat_lt index count then length (element_text p.1) else 0) o 0 + texts_length ps count
codes-by back p ps count None e small apart =
    texts-other p ps count (λ k below. other k below) ∙ zero-plus (texts_length ps count)
  where
    zero-plus : (n : ℕ) → n ≡ 0 + n
    zero-plus n = omega arith

    other : (k : ℕ) → k < count → is_same (decimal_digits k) p.0 ≡ false
    other k below = by (is_same (decimal_digits k) p.0) refl
      where
        by : (t : Bool) → is_same (decimal_digits k) p.0 ≡ t → t ≡ false
        by true h =
            let same : decimal_digits k ≡ p.0 = (bytes_decides (decimal_digits k) p.0).0 h in
            let found : index_of p.0 ≡ Some k = ap index_of (sym same) ∙ index_of-digits back k (omega arith) in
            absurd (cc (sym e ∙ found))
        by false h = refl
codes-by back p ps count (Some i) e small apart =
    let is = index_of-is p.0 i e in
    let none : lookup (is_same (decimal_digits i)) ps ≡ None = ap (λ q. lookup (is_same q) ps) (sym is.0) ∙ none-among p.0 ps apart in
    texts-one back p ps i count is.0 (nothing-at ps i none)

pub codes-all : ((n : ℕ) → decimal_number (decimal_digits n) ≡ n) → (ps : List (List ℕ × Value)) (count : ℕ) → count ≤ 2147483647 → IsDistinct is_same (map (λ p. p.0) ps) → texts_length ps count ≡ elements_codes count ps
codes-all back [] count small h = no-texts count
codes-all back (p ∷ ps) count small h =
    let parts = distinct-parts p.0 (map (λ q. q.0) ps) h in
    codes-by back p ps count (index_of p.0) refl small parts.0
    ∙ ap (λ n. element_codes count p + n) (codes-all back ps count small parts.1)

pub codes-total : ((n : ℕ) → decimal_number (decimal_digits n) ≡ n) → (ps : List (List ℕ × Value)) (slots : List (Option (List ℕ × Value))) (count i total : ℕ) → length slots ≤ i → standing slots ≡ ps → count ≤ 2147483647 → HaveOwnNames ps → total ≡ min (elements_codes count (standing (take i slots))) (2 ^ 64 - 1) → total ≡ min (texts_length ps count) (2 ^ 64 - 1)
codes-total back ps slots count i total long is small distinct h =
    h ∙ (ap (λ l. min (elements_codes count l) (2 ^ 64 - 1)) (standing-whole slots i long ∙ is) ∙ ap (λ n. min n (2 ^ 64 - 1)) (sym (codes-all back ps count small distinct)))

-- no number's decimal text is `length`
pub not-length : ((n : ℕ) → AllPass is_decimal_digit (decimal_digits n)) → (n : ℕ) → is_length (decimal_digits n) ≡ false
not-length digits n = by (is_length (decimal_digits n)) refl
  where
    by : (t : Bool) → is_length (decimal_digits n) ≡ t → t ≡ false
    by true h =
        let same : decimal_digits n ≡ codes "length" = (bytes_decides (decimal_digits n) (codes "length")).0 h in
        let letter : is_decimal_digit 108 ≡ true = subst (AllPass is_decimal_digit) same (digits n) 0 0 (lit< tt) in
        absurd (cc letter)
    by false h = refl
