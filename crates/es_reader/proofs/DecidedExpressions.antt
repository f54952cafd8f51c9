-- Of each place among tokens it is told whether an expression stands there.
use Rattle.std.proofs.Common.{◌≡◌, ℕ, zero, suc, ◌+◌, ◌-◌, ◌≤◌, ◌<◌, false, ◌⊎◌, inl, inr, List, [], ◌∷◌, ◌++◌, length, refl, sym, ◌∙◌, ap, subst, arith, take, drop}
use Rattle.std.specs.Prelude.{slice_range, min}
use Rattle.std.proofs.lemmas.Option.{slice_get_within}
use Rattle.es_expressions.specs.Roles.{front_of}
use Rattle.es_expressions.specs.Phrases.{Phrase, start_of, end_of}
use Rattle.es_expressions.specs.Phrases.Phrase.{Leaf}
use Rattle.es_expressions.specs.Grammar.{IsExpression, is_target}
use Rattle.es_expressions.specs.Beginnings.{IsWhole, Begins, least}
use Rattle.es_expressions.specs.Meaning.{tree_of}
use Rattle.es_expressions.specs.Nodes.{NodeRow}
use Rattle.es_expressions.specs.declared.expressions.Extent.{Extent}
use Rattle.es_expressions.specs.declared.expressions.Extent.TheVariants.{WithCommas, WithoutCommas}
use Rattle.es_expressions.specs.declared.lexemes.Lexeme.{Lexeme}
use Rattle.es_expressions.specs.declared.lexemes.Symbol.TheVariants.{Name}
use Rattle.es_reader.specs.Levels.{levels_of}
use Rattle.es_reader.specs.Parts.{IsWholeAt, StopsIn}
use Rattle.es_reader.specs.declared.wholes.Whole.{Whole}
use Rattle.es_reader.proofs.LaidOutTrees.{laid-out}
use Rattle.es_reader.proofs.RangeLemmas.{range-more}
use Rattle.es_reader.proofs.PhraseLemmas.{placed, is-of}

-- what the law of beginnings says
pub record BeginFacts : Type 0 where
  pub begins : (extent : Extent) (tokens : List Lexeme) → Begins (least extent) tokens ⊎ (Begins (least extent) tokens → ⊥)
  pub whole : (extent : Extent) (tokens : List Lexeme) → ((e : Phrase) × IsWhole (least extent) tokens e) ⊎ ((e : Phrase) → IsWhole (least extent) tokens e → ⊥)

-- the longest part of the tokens behind a place with which an expression begins

record Longest (extent : Extent) (tokens : List Lexeme) (place : ℕ) : Type 0 where
  pub stop : ℕ
  pub from : place ≤ stop
  pub within : stop ≤ length tokens
  pub goes_on : Begins (least extent) (slice_range tokens place stop)
  pub no_more : stop < length tokens → Begins (least extent) (slice_range tokens place (stop + 1)) → ⊥

longest : (f : BeginFacts) (extent : Extent) (tokens : List Lexeme) (left place stop : ℕ) → place ≤ stop → stop + left ≡ length tokens → Begins (least extent) (slice_range tokens place stop) → Longest extent tokens place
longest f extent tokens zero place stop l e b = record { stop = stop; from = l; within = omega arith; goes_on = b; no_more = λ lt m. absurd (omega arith) }
longest f extent tokens (suc left) place stop l e b = elim (f.begins extent (slice_range tokens place (stop + 1))) [
  | inl more ↦ longest f extent tokens left place (stop + 1) (omega arith) (omega arith) more
  | inr none ↦ record { stop = stop; from = l; within = omega arith; goes_on = b; no_more = λ lt m. none m }
]

a_name : Lexeme
a_name = record { symbol = Name []; start = 0; «end» = 0; after_break = false }

is-name : IsExpression (Leaf a_name)
unfolding a_name front_of
is-name = refl

begins-empty : (extent : Extent) → Begins (least extent) []
begins-empty extent = record {
  more = a_name ∷ [];
  whole_phrase = Leaf a_name;
  whole = record { expression = is-name; fits = low extent; is_spelled = refl };
}
  where
    low : (extent : Extent) → least extent ≤ 19
    low WithCommas = omega arith
    low WithoutCommas = omega arith

empty-range : (tokens : List Lexeme) (place : ℕ) → slice_range tokens place place ≡ []
empty-range tokens place = let z : place - place ≡ 0 = omega arith in ap (λ n. take n (drop place tokens)) z

longest-from : (f : BeginFacts) (extent : Extent) (tokens : List Lexeme) (place : ℕ) → place ≤ length tokens → Longest extent tokens place
longest-from f extent tokens place l =
    longest f extent tokens (length tokens - place) place place (omega arith) (omega arith) (subst (λ ts. Begins (least extent) ts) (sym (empty-range tokens place)) (begins-empty extent))

-- an expression stands at the place, or none does and there is a token with which none goes on
pub data ExpressionThere (extent : Extent) (tokens : List Lexeme) (place : ℕ) : Type 0 where
  Found : (rows : List NodeRow) → (e : Phrase) → (whole : Whole) → IsWholeAt extent tokens place rows e whole → ExpressionThere extent tokens place
  Lacking : (stop : ℕ) → StopsIn extent tokens place stop → ExpressionThere extent tokens place

pub expression-there : (f : BeginFacts) (extent : Extent) (tokens : List Lexeme) (place : ℕ) → place ≤ length tokens → ExpressionThere extent tokens place
expression-there f extent tokens place l = by (longest-from f extent tokens place l)
  where
    found : (g : Longest extent tokens place) (e : Phrase) → IsWhole (least extent) (slice_range tokens place g.stop) e → ExpressionThere extent tokens place
    found g e w =
        let p = (placed extent tokens place g.stop e g.from g.within w).2 in
        let t = laid-out (tree_of e) [] in
        Found t.after e (record { node = t.number; height = min 65 (levels_of e); is_target = is_target e; start = start_of e; «end» = end_of e; behind = g.stop }) (record {
          from = p.from;
          within = g.within;
          is = is-of extent (slice_range tokens place g.stop) e w;
          is_spelled = p.is_spelled;
          no_more = λ n a b. g.no_more (slice_get_within tokens g.stop n a) (subst (λ ts. Begins (least extent) ts) (ap (λ ts. ts ++ (n ∷ [])) w.is_spelled ∙ sym (range-more tokens place g.stop n g.from a)) b);
          tree = t.at;
          height = refl;
          target = refl;
          start = refl;
          stop = refl;
        })

    by : Longest extent tokens place → ExpressionThere extent tokens place
    by g = elim (f.whole extent (slice_range tokens place g.stop)) [
      | inl w ↦ found g w.0 w.1
      | inr n ↦ Lacking g.stop (record { from = g.from; within = g.within; goes_on = g.goes_on; no_more = g.no_more; not_whole = n })
    ]
