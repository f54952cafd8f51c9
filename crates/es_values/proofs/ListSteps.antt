-- The step of a loop over the places of a list.
use Rattle.std.proofs.Common.{◌≡◌, ℕ, ◌+◌, ◌<◌, Bool, List, [], ◌∷◌, ◌++◌, length, take, map, refl, sym, ◌∙◌, ap, arith, zero, suc, ◌≤◌}
use Rattle.std.specs.Prelude.{count_by, slice_get, slice_index_or, if◌then◌else◌, Option, None, Some, option_to_list}
use Rattle.std.proofs.lemmas.List.{take_more, map-append}
use Rattle.std.proofs.lemmas.Option.{slice_get_within, slice_get_read, get_or_from_slice_get}
use Rattle.std.proofs.lemmas.List.Sums.{sum_by-append}
use Rattle.es_values.specs.declared.values.Value.{Value}
use Rattle.es_values.specs.Slots.{standing}

pub take-next : {X : Type 0} (xs : List X) (i : ℕ) (x : X) → slice_get xs i ≡ Some x → take (i + 1) xs ≡ take i xs ++ x ∷ []
take-next xs i x h = take_more xs i x (slice_get_within xs i x h) ∙ ap (λ y. take i xs ++ y ∷ []) (get_or_from_slice_get xs i x x h)

take-nothing : (X : Type 0) (n : ℕ) → let none : List X = [] in take n none ≡ none
take-nothing X zero = refl
take-nothing X (suc n) = refl

pub take-all : {X : Type 0} (n : ℕ) (xs : List X) → length xs ≤ n → take n xs ≡ xs
take-all {X = X} n [] h = take-nothing X n
take-all zero (x ∷ xs) h = let e : suc (length xs) ≤ 0 = h in absurd (omega arith)
take-all (suc n) (x ∷ xs) h = ap (λ l. x ∷ l) (take-all n xs (omega arith))

-- the properties of one slot more

pub standing-last : (slots : List (Option (List ℕ × Value))) (s : Option (List ℕ × Value)) → standing (slots ++ s ∷ []) ≡ standing slots ++ option_to_list s
standing-last [] None = refl
standing-last [] (Some p) = refl
standing-last (None ∷ slots) s = standing-last slots s
standing-last (Some p ∷ slots) s = ap (λ l. p ∷ l) (standing-last slots s)

pub standing-next : (slots : List (Option (List ℕ × Value))) (i : ℕ) (s : Option (List ℕ × Value)) → i < length slots → s ≡ slice_index_or slots i s → standing (take (i + 1) slots) ≡ standing (take i slots) ++ option_to_list s
standing-next slots i s below read =
    ap standing (take-next slots i s (slice_get_read slots (length slots) i s refl below read)) ∙ standing-last (take i slots) s

pub standing-whole : (slots : List (Option (List ℕ × Value))) (i : ℕ) → length slots ≤ i → standing (take i slots) ≡ standing slots
standing-whole slots i long = ap standing (take-all i slots long)

pub names-next : (slots : List (Option (List ℕ × Value))) (i : ℕ) (s : Option (List ℕ × Value)) (done next : List (List ℕ)) → i < length slots → s ≡ slice_index_or slots i s → next ≡ done ++ map (λ p. p.0) (option_to_list s) → done ≡ map (λ p. p.0) (standing (take i slots)) → next ≡ map (λ p. p.0) (standing (take (i + 1) slots))
names-next slots i s done next below read step e =
    step ∙ (ap (λ l. l ++ map (λ (p : List ℕ × Value). p.0) (option_to_list s)) e
    ∙ (sym (map-append (λ (p : List ℕ × Value). p.0) (standing (take i slots)) (option_to_list s))
    ∙ ap (map (λ (p : List ℕ × Value). p.0)) (sym (standing-next slots i s below read))))

pub count-next : (test : List ℕ × Value → Bool) (slots : List (Option (List ℕ × Value))) (i n m : ℕ) (s : Option (List ℕ × Value)) → i < length slots → s ≡ slice_index_or slots i s → m ≡ count_by test (option_to_list s) → n ≡ count_by test (standing (take i slots)) → n + m ≡ count_by test (standing (take (i + 1) slots))
count-next test slots i n m s below read step e =
    ap (λ k. k + m) e ∙ (ap (λ k. count_by test (standing (take i slots)) + k) step
    ∙ (sym (sum_by-append (λ p. if test p then 1 else 0) (standing (take i slots)) (option_to_list s))
    ∙ ap (count_by test) (sym (standing-next slots i s below read))))
