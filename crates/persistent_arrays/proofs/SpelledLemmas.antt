-- What a text spells, worked out, is what it spells.
use Rattle.std.proofs.Common.{◌≡◌, ◌↔◌, ℕ, zero, suc, ◌+◌, ◌<◌, ◌≤◌, nat_eq, Bool, true, false, cond, List, [], ◌∷◌, ◌++◌, map, Option, Some, None, ◌⊎◌, inl, inr, refl, sym, ap, subst, ◌∙◌, arith}
use Rattle.std.specs.Prelude.{◌≢◌, All, MatchOption, option_map}
use Rattle.std.specs.List.{range_with_len}
use Rattle.std.proofs.lemmas.Bool.{cases_lt, eqb-false, eqb-true, ne_eqb}
use Rattle.std.proofs.lemmas.List.{append_assoc}
use Rattle.std.proofs.lemmas.List.Elements.{All-nil, All-cons, All-head, All-tail}
use Rattle.std.proofs.lemmas.Option.{same_Some, some_pair_parts}
use Rattle.bml_bytes.specs.Fields.{◌>>=◌}
use Rattle.bml_bytes.specs.Numerals.{decimal_digits}
use Rattle.persistent_arrays.specs.declared.kinds.FieldKind.{FieldKind}
use Rattle.persistent_arrays.specs.declared.kinds.FieldKind.TheVariants.{Bit, Unsigned, Signed, Fixed, Varying}
use Rattle.persistent_arrays.specs.Structures.{IsKind, Spells, all_kinds, between_commas, code_in_front, kind_spelled, kinds_spelled, spelling, structure_spelled, with_commas}
use Rattle.persistent_arrays.specs.devices.Spelling.{kind_at}
use Rattle.persistent_arrays.proofs.FindingLemmas.{IsAmong, found-written, written-found}
use Rattle.persistent_arrays.proofs.NumeralLemmas.{digits-one, digits-two}
use Rattle.persistent_arrays.proofs.SpellingLemmas.{kind_at-again, small_number}

-- ---- one kind

fixed-among : (from count size : ℕ) → from ≤ size → size < from + count → IsAmong (Fixed size) (map Fixed (range_with_len from count))
fixed-among from zero size h g = absurd (omega arith)
fixed-among from (suc count) size h g = by (cases_lt from size) (λ above. fixed-among (from + 1) count size (omega arith) (omega arith))
  where
    by : (from < size) ⊎ (size ≤ from) → (from < size → IsAmong (Fixed size) (map Fixed (range_with_len (from + 1) count))) → IsAmong (Fixed size) (map Fixed (range_with_len from (suc count)))
    by (inl above) later = inr (later above)
    by (inr below) later = let same : from ≡ size = omega arith in inl (ap (λ (n : ℕ). Fixed n) same)

fixed-sizes : (from count : ℕ) (kind : FieldKind) → 1 ≤ from → from + count ≤ 65 → IsAmong kind (map Fixed (range_with_len from count)) → IsKind kind
fixed-sizes from zero kind h g is = absurd is
fixed-sizes from (suc count) kind h g (inl here) = subst IsKind here (h, omega arith)
fixed-sizes from (suc count) kind h g (inr later) = fixed-sizes (from + 1) count kind (omega arith) (omega arith) later

kind-among : (kind : FieldKind) → IsKind kind → IsAmong kind all_kinds
kind-among Bit is = inl refl
kind-among (Unsigned size) (inl one) = inr (inl (ap (λ (n : ℕ). Unsigned n) (sym one)))
kind-among (Unsigned size) (inr (inl two)) = inr (inr (inl (ap (λ (n : ℕ). Unsigned n) (sym two))))
kind-among (Unsigned size) (inr (inr four)) = inr (inr (inr (inl (ap (λ (n : ℕ). Unsigned n) (sym four)))))
kind-among (Signed size) (inl one) = inr (inr (inr (inr (inl (ap (λ (n : ℕ). Signed n) (sym one))))))
kind-among (Signed size) (inr (inl two)) = inr (inr (inr (inr (inr (inl (ap (λ (n : ℕ). Signed n) (sym two)))))))
kind-among (Signed size) (inr (inr four)) = inr (inr (inr (inr (inr (inr (inl (ap (λ (n : ℕ). Signed n) (sym four))))))))
kind-among (Fixed size) is = inr (inr (inr (inr (inr (inr (inr (inr (fixed-among 1 64 size is.0 (let most = is.1 in omega arith)))))))))
kind-among Varying is = inr (inr (inr (inr (inr (inr (inr (inl refl)))))))

among-kinds : (kind : FieldKind) → IsAmong kind all_kinds → IsKind kind
among-kinds kind (inl here) = subst IsKind here tt
among-kinds kind (inr (inl here)) = subst IsKind here (inl refl)
among-kinds kind (inr (inr (inl here))) = subst IsKind here (inr (inl refl))
among-kinds kind (inr (inr (inr (inl here)))) = subst IsKind here (inr (inr refl))
among-kinds kind (inr (inr (inr (inr (inl here))))) = subst IsKind here (inl refl)
among-kinds kind (inr (inr (inr (inr (inr (inl here)))))) = subst IsKind here (inr (inl refl))
among-kinds kind (inr (inr (inr (inr (inr (inr (inl here))))))) = subst IsKind here (inr (inr refl))
among-kinds kind (inr (inr (inr (inr (inr (inr (inr (inl here)))))))) = subst IsKind here tt
among-kinds kind (inr (inr (inr (inr (inr (inr (inr (inr later)))))))) = fixed-sizes 1 64 kind (omega arith) (omega arith) later

spelled-one : (kind other : FieldKind) → IsKind kind → IsKind other → spelling kind ≡ spelling other → kind ≡ other
spelled-one kind other is also e =
    (some_pair_parts kind other [] [] (sym (kind_at-again kind [] is) ∙ ap (λ (s : List ℕ). kind_at (s ++ [])) e ∙ kind_at-again other [] also)).0

kind-found : (text : List ℕ) (kind : FieldKind) → kind_spelled text ≡ Some kind → IsKind kind × (text ≡ spelling kind)
kind-found text kind e = let found = found-written spelling text all_kinds kind e in (among-kinds kind found.0, found.1)

kind-spelled : (kind : FieldKind) → IsKind kind → kind_spelled (spelling kind) ≡ Some kind
kind-spelled kind is = written-found spelling all_kinds kind (λ other among e. spelled-one other kind (among-kinds other among) is (sym e)) (kind-among kind is)

-- ---- several kinds

kinds-spelled : (kinds : List FieldKind) → All IsKind kinds → kinds_spelled (map spelling kinds) ≡ Some kinds
kinds-spelled [] are = refl
kinds-spelled (kind ∷ kinds) are =
    ap (λ (found : Option FieldKind). found >>= λ kind. option_map (λ kinds. kind ∷ kinds) (kinds_spelled (map spelling kinds))) (kind-spelled kind (All-head IsKind kind kinds are))
    ∙ ap (option_map (λ (kinds : List FieldKind). kind ∷ kinds)) (kinds-spelled kinds (All-tail IsKind kind kinds are))

record AreFound (texts : List (List ℕ)) (kinds : List FieldKind) : Type 0 where
  sizes : All IsKind kinds
  written : texts ≡ map spelling kinds

kinds-found : (texts : List (List ℕ)) (kinds : List FieldKind) → kinds_spelled texts ≡ Some kinds → AreFound texts kinds
kinds-found [] kinds e = subst (AreFound []) (same_Some [] kinds e) (record { sizes = All-nil IsKind; written = refl })
kinds-found (text ∷ texts) kinds e = first (kind_spelled text) refl e (λ others later. kinds-found texts others later)
  where
    rest : (kind : FieldKind) → kind_spelled text ≡ Some kind → (found : Option (List FieldKind)) → kinds_spelled texts ≡ found → option_map (λ kinds. kind ∷ kinds) found ≡ Some kinds
        → ((others : List FieldKind) → kinds_spelled texts ≡ Some others → AreFound texts others) → AreFound (text ∷ texts) kinds
    rest kind one None others e later = absurd cc
    rest kind one (Some others) are e later =
        let is = kind-found text kind one in
        let more = later others are in
        subst (AreFound (text ∷ texts)) (same_Some (kind ∷ others) kinds e)
        (record { sizes = All-cons IsKind kind others is.0 more.sizes; written = ap (λ (t : List ℕ). t ∷ texts) is.1 ∙ ap (λ (t : List (List ℕ)). spelling kind ∷ t) more.written })

    first : (found : Option FieldKind) → kind_spelled text ≡ found → (found >>= λ kind. option_map (λ kinds. kind ∷ kinds) (kinds_spelled texts)) ≡ Some kinds
        → ((others : List FieldKind) → kinds_spelled texts ≡ Some others → AreFound texts others) → AreFound (text ∷ texts) kinds
    first None one e later = absurd cc
    first (Some kind) one e later = rest kind one (kinds_spelled texts) refl e later

-- ---- commas

-- no code is a comma
abbrev HasNoComma : List ℕ → Type 0
HasNoComma [] = Unit {0}
HasNoComma (code ∷ codes) = (code ≡ 44 → ⊥) × HasNoComma codes

no_comma-append : (one other : List ℕ) → HasNoComma one → HasNoComma other → HasNoComma (one ++ other)
no_comma-append [] other h g = g
no_comma-append (code ∷ one) other h g = (h.0, no_comma-append one other h.1 g)

no_comma-digits : (number : ℕ) → number < 100 → HasNoComma (decimal_digits number)
no_comma-digits number h = by (cases_lt number 10)
  where
    by : (number < 10) ⊎ (10 ≤ number) → HasNoComma (decimal_digits number)
    by (inl below) = subst HasNoComma (sym (digits-one number below)) ((λ e. absurd (omega arith)), tt)
    by (inr large) = subst HasNoComma (sym (digits-two number large h)) ((λ e. absurd (omega arith)), ((λ e. absurd (omega arith)), tt))

no_comma-sized : (letter size unit : ℕ) → (letter ≡ 44 → ⊥) → size < 100 → (unit ≡ 44 → ⊥) → HasNoComma (letter ∷ 58 ∷ (decimal_digits size ++ unit ∷ []))
no_comma-sized letter size unit l s u = (l, (eqb-false 58 44 refl, no_comma-append (decimal_digits size) (unit ∷ []) (no_comma-digits size s) (u, tt)))

no_comma-spelling : (kind : FieldKind) → IsKind kind → HasNoComma (spelling kind)
no_comma-spelling Bit is = (eqb-false 66 44 refl, (eqb-false 58 44 refl, (eqb-false 49 44 refl, (eqb-false 98 44 refl, tt))))
no_comma-spelling (Unsigned size) is = no_comma-sized 85 size 66 (eqb-false 85 44 refl) (small_number size is) (eqb-false 66 44 refl)
no_comma-spelling (Signed size) is = no_comma-sized 73 size 66 (eqb-false 73 44 refl) (small_number size is) (eqb-false 66 44 refl)
no_comma-spelling (Fixed size) is = no_comma-sized 83 size 66 (eqb-false 83 44 refl) (let most = is.1 in omega arith) (eqb-false 66 44 refl)
no_comma-spelling Varying is = (eqb-false 83 44 refl, (eqb-false 58 44 refl, (eqb-false 49 44 refl, (eqb-false 86 44 refl, tt))))

between-last : (text : List ℕ) → HasNoComma text → between_commas text ≡ text ∷ []
unfolding between_commas
between-last [] h = refl
between-last (code ∷ text) h = rw (ne_eqb code 44 h.0, between-last text h.1) refl

between-first : (text rest : List ℕ) → HasNoComma text → between_commas (text ++ 44 ∷ rest) ≡ text ∷ between_commas rest
unfolding between_commas
between-first [] rest h = refl
between-first (code ∷ text) rest h = rw (ne_eqb code 44 h.0, between-first text rest h.1) refl

between-spellings : (kinds : List FieldKind) → kinds ≢ [] → All IsKind kinds → between_commas (with_commas (map spelling kinds)) ≡ map spelling kinds
between-spellings [] some are = absurd (some refl)
between-spellings (kind ∷ []) some are = between-last (spelling kind) (no_comma-spelling kind (All-head IsKind kind [] are))
between-spellings (kind ∷ next ∷ kinds) some are =
    ap between_commas (append_assoc (spelling kind) (44 ∷ []) (with_commas (map spelling (next ∷ kinds))))
    ∙ between-first (spelling kind) (with_commas (map spelling (next ∷ kinds))) (no_comma-spelling kind (All-head IsKind kind (next ∷ kinds) are))
    ∙ ap (λ (texts : List (List ℕ)). spelling kind ∷ texts) (between-spellings (next ∷ kinds) (λ e. absurd cc) (All-tail IsKind kind (next ∷ kinds) are))

comma-in_front : (texts : List (List ℕ)) → texts ≢ [] → with_commas ([] ∷ texts) ≡ 44 ∷ with_commas texts
comma-in_front [] some = absurd (some refl)
comma-in_front (text ∷ texts) some = refl

code-in_front : (code : ℕ) (texts : List (List ℕ)) → texts ≢ [] → with_commas (code_in_front code texts) ≡ code ∷ with_commas texts
code-in_front code [] some = absurd (some refl)
code-in_front code (text ∷ []) some = refl
code-in_front code (text ∷ next ∷ texts) some = refl

some-in_front : (code : ℕ) (texts : List (List ℕ)) → code_in_front code texts ≢ []
some-in_front code [] e = absurd cc
some-in_front code (text ∷ texts) e = absurd cc

some-between : (text : List ℕ) → between_commas text ≢ []
unfolding between_commas
some-between [] e = absurd cc
some-between (code ∷ codes) e = by (nat_eq code 44) e
  where
    by : (comma : Bool) → cond comma ([] ∷ between_commas codes) (code_in_front code (between_commas codes)) ≡ [] → ⊥
    by true e = absurd cc
    by false e = some-in_front code (between_commas codes) e

between-joined : (text : List ℕ) → with_commas (between_commas text) ≡ text
unfolding between_commas
between-joined [] = refl
between-joined (code ∷ codes) = by (nat_eq code 44) refl (between-joined codes)
  where
    by : (comma : Bool) → nat_eq code 44 ≡ comma → with_commas (between_commas codes) ≡ codes → with_commas (cond comma ([] ∷ between_commas codes) (code_in_front code (between_commas codes))) ≡ code ∷ codes
    by true e joined = comma-in_front (between_commas codes) (some-between codes) ∙ ap (λ (rest : List ℕ). 44 ∷ rest) joined ∙ ap (λ (c : ℕ). c ∷ codes) (sym (eqb-true code 44 e))
    by false e joined = code-in_front code (between_commas codes) (some-between codes) ∙ ap (λ (rest : List ℕ). code ∷ rest) joined

-- ---- the structure

spells-found : (text : List ℕ) (kinds : List FieldKind) → structure_spelled text ≡ Some kinds → Spells text kinds
spells-found text kinds e =
    let found = kinds-found (between_commas text) kinds e in
    record {
      some = λ none. some-between text (found.written ∙ ap (map spelling) none);
      sizes = found.sizes;
      written = sym (between-joined text) ∙ ap with_commas found.written;
    }

found-spelled : (text : List ℕ) (kinds : List FieldKind) → Spells text kinds → structure_spelled text ≡ Some kinds
found-spelled text kinds h =
    ap structure_spelled h.written ∙ ap kinds_spelled (between-spellings kinds h.some h.sizes) ∙ kinds-spelled kinds h.sizes

pub spelled-worked_out : (text : List ℕ) (kinds : List FieldKind) → (structure_spelled text ≡ Some kinds) ↔ Spells text kinds
spelled-worked_out text kinds = (spells-found text kinds, found-spelled text kinds)

pub read-worked_out : (text : List ℕ) (found : Option (List FieldKind)) → MatchOption found ((kinds : List FieldKind) → ¬ Spells text kinds) (λ kinds. Spells text kinds) → found ≡ structure_spelled text
read-worked_out text (Some kinds) spelled = sym (found-spelled text kinds spelled)
read-worked_out text None none = by (structure_spelled text) refl
  where
    by : (found : Option (List FieldKind)) → structure_spelled text ≡ found → None ≡ found
    by None e = refl
    by (Some kinds) e = absurd (none kinds (spells-found text kinds e))
