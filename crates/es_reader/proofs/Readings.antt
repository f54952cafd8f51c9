-- What is read between places, as lists of tokens.
use Rattle.std.proofs.Common.{◌≡◌, ℕ, zero, suc, ◌+◌, ◌-◌, ◌≤◌, ◌<◌, List, [], ◌∷◌, ◌++◌, length, take, drop, Some, refl, sym, ◌∙◌, ap, subst, arith}
use Rattle.std.specs.Prelude.{slice_get, slice_range}
use Rattle.std.proofs.lemmas.List.{drop-drop, length-drop}
use Rattle.std.proofs.lemmas.List.Folds.{drop_split}
use Rattle.std.proofs.Math.Seq.{take-add}
use Rattle.es_expressions.specs.Phrases.{Phrase}
use Rattle.es_expressions.specs.Beginnings.{IsWhole, Begins as BeginsExpression, least}
use Rattle.es_expressions.specs.declared.expressions.Extent.{Extent}
use Rattle.es_expressions.specs.declared.lexemes.Lexeme.{Lexeme}
use Rattle.es_reader.specs.Grammar.{GoesOn}
use Rattle.es_reader.specs.Openings.{first_of}
use Rattle.es_reader.proofs.Standing.{first-token}
use Rattle.es_reader.proofs.PartStops.{ExpressionStops, GoesNoFurther}
use Rattle.es_reader.proofs.HeadStops.{Lacks}

-- the token at a place is the first one from there on
pub first-there : (xs : List Lexeme) (n : ℕ) → first_of (drop n xs) ≡ slice_get xs n
first-there [] zero = refl
first-there [] (suc n) = refl
first-there (x ∷ xs) zero = refl
first-there (x ∷ xs) (suc n) = first-there xs n

pub lacks-at : (Is : Lexeme → Type 0) (tokens : List Lexeme) (place : ℕ) → ((t : Lexeme) → slice_get tokens place ≡ Some t → Is t → ⊥) → Lacks Is (drop place tokens)
lacks-at Is tokens place n = λ t e i. n t (sym (first-there tokens place) ∙ e) i

pub no-further-at : (extent : Extent) (e : Phrase) (tokens : List Lexeme) (place : ℕ) → ((t : Lexeme) → slice_get tokens place ≡ Some t → GoesOn extent e t → ⊥) → GoesNoFurther extent e (drop place tokens)
no-further-at extent e tokens place n = λ t q g. n t (sym (first-there tokens place) ∙ q) g

-- one token more
pub range-next : (tokens : List Lexeme) (place stop : ℕ) (t : Lexeme) (more : List Lexeme) → place ≤ stop → drop stop tokens ≡ t ∷ more → (stop < length tokens) × (slice_range tokens place (stop + 1) ≡ slice_range tokens place stop ++ (t ∷ []))
range-next tokens place stop t more l e =
    let up : (stop + 1) - place ≡ (stop - place) + 1 = omega arith in
    let there : place + (stop - place) ≡ stop = omega arith in
    let rest : drop (stop - place) (drop place tokens) ≡ t ∷ more = drop-drop (stop - place) place tokens ∙ (ap (λ n. drop n tokens) there ∙ e) in
    let long : length (drop stop tokens) ≡ suc (length more) = ap (λ r. length r) e in (
      omega (arith, length-drop stop tokens),
      ap (λ n. take n (drop place tokens)) up ∙ (take-add (stop - place) 1 (drop place tokens)
          ∙ ap (λ r. take (stop - place) (drop place tokens) ++ take 1 r) rest),
    )

pub expression-stops-at : (extent : Extent) (tokens : List Lexeme) (place stop : ℕ) → place ≤ stop → BeginsExpression (least extent) (slice_range tokens place stop) → (stop < length tokens → BeginsExpression (least extent) (slice_range tokens place (stop + 1)) → ⊥) → ((e : Phrase) → IsWhole (least extent) (slice_range tokens place stop) e → ⊥) → ExpressionStops extent (slice_range tokens place stop) (drop stop tokens)
expression-stops-at extent tokens place stop l b n w = record {
  goes_on = b;
  no_more = λ t first g.
      let r = first-token (drop stop tokens) t first in
      let x = range-next tokens place stop t r.0 l r.1 in
      n x.0 (subst (λ y. BeginsExpression (least extent) y) (sym x.1) g);
  not_whole = w;
}

-- what is read stands in front of what is left
pub range-left : (tokens : List Lexeme) (place stop : ℕ) → place ≤ stop → slice_range tokens place stop ++ drop stop tokens ≡ drop place tokens
range-left tokens place stop l = sym (drop_split tokens place stop l)
