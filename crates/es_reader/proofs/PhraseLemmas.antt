-- The first and the last token of an expression, and what is read of one.
use Rattle.std.proofs.Common.{◌≡◌, ℕ, ◌-◌, ◌≤◌, ◌<◌, List, [], ◌∷◌, ◌++◌, length, Option, Some, None, refl, sym, ◌∙◌, ap, subst, arith, drop}
use Rattle.std.specs.Prelude.{slice_get, slice_range, MatchOption, slice_index_or}
use Rattle.std.proofs.lemmas.Option.{slice_get_within, get_or_from_slice_get}
use Rattle.std.proofs.lemmas.List.Folds.{drop_split}
use Rattle.es_expressions.specs.Phrases.{Phrase, spelled, start_of, end_of}
use Rattle.es_expressions.specs.Phrases.Phrase.{Leaf, Group, Index, Member, CallEmpty, CallWith, NewPlain, NewEmpty, NewWith, Postfix, Signed, Stepped, Binary, Choice, Assign, Comma}
use Rattle.es_expressions.specs.Beginnings.{IsWhole, Begins, IsReading, Tells, least}
use Rattle.es_expressions.specs.Nodes.{NodeRow}
use Rattle.es_expressions.specs.declared.expressions.Extent.{Extent}
use Rattle.es_expressions.specs.declared.expressions.Extent.TheVariants.{WithCommas, WithoutCommas}
use Rattle.es_expressions.specs.declared.expressions.Found.{Found}
use Rattle.es_expressions.specs.declared.expressions.Reading.{Reading}
use Rattle.es_expressions.specs.declared.lexemes.Lexeme.{Lexeme}
use Rattle.es_reader.specs.Grammar.{IsOf}
use Rattle.es_reader.specs.Parts.{IsWholeAt, StopsIn}
use Rattle.es_reader.proofs.Spelling.{expression-spelled, expression-onward}
use Rattle.es_reader.proofs.RangeLemmas.{assoc, there-of, before-of, range-more}

pub first-token : (e : Phrase) (rest : List Lexeme) → (t : Lexeme) × (more : List Lexeme) × (spelled e rest ≡ t ∷ more) × (start_of e ≡ t.start)
first-token (Leaf t) rest = (t, rest, refl, refl)
first-token (Group o e c) rest = (o, spelled e (c ∷ rest), refl, refl)
first-token (Index b o e c) rest = first-token b (o ∷ spelled e (c ∷ rest))
first-token (Member b d x) rest = first-token b (d ∷ (x ∷ rest))
first-token (CallEmpty f o c) rest = first-token f (o ∷ (c ∷ rest))
first-token (CallWith f o e c) rest = first-token f (o ∷ spelled e (c ∷ rest))
first-token (NewPlain n f) rest = (n, spelled f rest, refl, refl)
first-token (NewEmpty n f o c) rest = (n, spelled f (o ∷ (c ∷ rest)), refl, refl)
first-token (NewWith n f o e c) rest = (n, spelled f (o ∷ spelled e (c ∷ rest)), refl, refl)
first-token (Postfix e k) rest = first-token e (k ∷ rest)
first-token (Signed k e) rest = (k, spelled e rest, refl, refl)
first-token (Stepped k e) rest = (k, spelled e rest, refl, refl)
first-token (Binary a k b) rest = first-token a (k ∷ spelled b rest)
first-token (Choice a q b c d) rest = first-token a (q ∷ spelled b (c ∷ spelled d rest))
first-token (Assign a k b) rest = first-token a (k ∷ spelled b rest)
first-token (Comma a k b) rest = first-token a (k ∷ spelled b rest)

abbrev pub LastToken : Phrase → Type 0
LastToken e = (front : List Lexeme) × (l : Lexeme) × ((rest : List Lexeme) → spelled e rest ≡ front ++ (l ∷ rest)) × (end_of e ≡ l.«end»)

-- the last token stands behind what is in front of it
behind-of : (e : Phrase) (front : List Lexeme) (p : LastToken e) (whole : Phrase) → ((rest : List Lexeme) → spelled whole rest ≡ front ++ spelled e rest) → end_of whole ≡ end_of e → LastToken whole
behind-of e front p whole h g = (front ++ p.0, p.1, (λ rest. h rest ∙ (ap (λ z. front ++ z) (p.2 rest) ∙ assoc front p.0 (p.1 ∷ rest))), g ∙ p.3)

mark-last : (e : Phrase) (more : List Lexeme) (l : Lexeme) (whole : Phrase) → ((rest : List Lexeme) → spelled whole rest ≡ spelled e (more ++ (l ∷ rest))) → end_of whole ≡ l.«end» → LastToken whole
mark-last e more l whole h g = (spelled e more, l, (λ rest. h rest ∙ expression-onward e more (l ∷ rest)), g)

inner-last : (b e : Phrase) (o c : Lexeme) (rest : List Lexeme) → spelled b (o ∷ spelled e (c ∷ rest)) ≡ spelled b (o ∷ spelled e []) ++ (c ∷ rest)
inner-last b e o c rest = ap (λ z. spelled b (o ∷ z)) (expression-spelled e (c ∷ rest)) ∙ expression-onward b (o ∷ spelled e []) (c ∷ rest)

pub last-token : (e : Phrase) → LastToken e
last-token (Leaf t) = ([], t, (λ rest. refl), refl)
last-token (Group o e c) = (o ∷ spelled e [], c, (λ rest. ap (λ z. o ∷ z) (expression-spelled e (c ∷ rest))), refl)
last-token (Index b o e c) = (spelled b (o ∷ spelled e []), c, (λ rest. inner-last b e o c rest), refl)
last-token (Member b d x) = mark-last b (d ∷ []) x (Member b d x) (λ rest. refl) refl
last-token (CallEmpty f o c) = mark-last f (o ∷ []) c (CallEmpty f o c) (λ rest. refl) refl
last-token (CallWith f o e c) = (spelled f (o ∷ spelled e []), c, (λ rest. inner-last f e o c rest), refl)
last-token (NewPlain n f) = behind-of f (n ∷ []) (last-token f) (NewPlain n f) (λ rest. refl) refl
last-token (NewEmpty n f o c) = (n ∷ (spelled f (o ∷ [])), c, (λ rest. ap (λ z. n ∷ z) (expression-onward f (o ∷ []) (c ∷ rest))), refl)
last-token (NewWith n f o e c) = (n ∷ spelled f (o ∷ spelled e []), c, (λ rest. ap (λ z. n ∷ z) (inner-last f e o c rest)), refl)
last-token (Postfix e k) = mark-last e [] k (Postfix e k) (λ rest. refl) refl
last-token (Signed k e) = behind-of e (k ∷ []) (last-token e) (Signed k e) (λ rest. refl) refl
last-token (Stepped k e) = behind-of e (k ∷ []) (last-token e) (Stepped k e) (λ rest. refl) refl
last-token (Binary a k b) = behind-of b (spelled a (k ∷ [])) (last-token b) (Binary a k b) (λ rest. expression-onward a (k ∷ []) (spelled b rest)) refl
last-token (Choice a q b c d) = behind-of d (spelled a (q ∷ spelled b (c ∷ []))) (last-token d) (Choice a q b c d)
    (λ rest. ap (λ z. spelled a (q ∷ z)) (expression-onward b (c ∷ []) (spelled d rest)) ∙ expression-onward a (q ∷ spelled b (c ∷ [])) (spelled d rest)) refl
last-token (Assign a k b) = behind-of b (spelled a (k ∷ [])) (last-token b) (Assign a k b) (λ rest. expression-onward a (k ∷ []) (spelled b rest)) refl
last-token (Comma a k b) = behind-of b (spelled a (k ∷ [])) (last-token b) (Comma a k b) (λ rest. expression-onward a (k ∷ []) (spelled b rest)) refl

pub is-of : (extent : Extent) (tokens : List Lexeme) (e : Phrase) → IsWhole (least extent) tokens e → IsOf extent e
is-of WithCommas tokens e w = w.expression
is-of WithoutCommas tokens e w = (w.expression, w.fits)

-- what a whole reading says
pub record Placed (tokens : List Lexeme) (place stop : ℕ) (e : Phrase) (first last : Lexeme) : Type 0 where
  pub from : place < stop
  pub is_spelled : spelled e (drop stop tokens) ≡ drop place tokens
  pub first_there : slice_get tokens place ≡ Some first
  pub last_there : slice_get tokens (stop - 1) ≡ Some last
  pub start : start_of e ≡ first.start
  pub end_is : end_of e ≡ last.«end»

pub placed : (extent : Extent) (tokens : List Lexeme) (place stop : ℕ) (e : Phrase) → place ≤ stop → stop ≤ length tokens → IsWhole (least extent) (slice_range tokens place stop) e → (first : Lexeme) × (last : Lexeme) × Placed tokens place stop e first last
placed extent tokens place stop e a b w =
    let there : spelled e (drop stop tokens) ≡ drop place tokens = expression-spelled e (drop stop tokens) ∙ (ap (λ z. z ++ drop stop tokens) w.is_spelled ∙ sym (drop_split tokens place stop a)) in
    let f = first-token e (drop stop tokens) in
    let l = last-token e in
    let q = before-of tokens place stop l.0 l.1 (omega arith) b (sym there ∙ l.2 (drop stop tokens)) in (
      f.0,
      l.1,
      record {
        from = omega (arith, q.0);
        is_spelled = there;
        first_there = there-of tokens place f.0 f.1 (sym there ∙ f.2);
        last_there = q.1;
        start = f.3;
        end_is = l.3;
      },
    )

-- what is told of a whole expression

abbrev FoundAs : (extent : Extent) (tokens : List Lexeme) (place stop : ℕ) (rows : List NodeRow) → Option Found → Type 0
FoundAs extent tokens place stop rows o = MatchOption o
    ((e : Phrase) → IsWhole (least extent) (slice_range tokens place stop) e → ⊥)
    (λ f. (e : Phrase) × IsWhole (least extent) (slice_range tokens place stop) e × Tells e rows f)

pub found-whole : (extent : Extent) (tokens : List Lexeme) (place : ℕ) (rows : List NodeRow) (reading : Reading) (f : Found) → IsReading (least extent) tokens place rows reading → reading.found ≡ Some f → (e : Phrase) × IsWhole (least extent) (slice_range tokens place reading.«end») e × Tells e rows f
found-whole extent tokens place rows reading f r h = subst (λ x. FoundAs extent tokens place reading.«end» rows x) h r.found

pub whole-before : (extent : Extent) (tokens : List Lexeme) (place : ℕ) (rows : List NodeRow) (reading : Reading) (f : Found) → IsReading (least extent) tokens place rows reading → reading.found ≡ Some f → (place < reading.«end») × (reading.«end» ≤ length tokens)
whole-before extent tokens place rows reading f r h =
    let w = found-whole extent tokens place rows reading f r h in
    let p = placed extent tokens place reading.«end» w.0 r.from r.within w.1 in
    (p.2.from, r.within)

pub whole-at : (extent : Extent) (tokens : List Lexeme) (place : ℕ) (rows : List NodeRow) (reading : Reading) (f : Found) (t u : Lexeme) → IsReading (least extent) tokens place rows reading → reading.found ≡ Some f
    → (e : Phrase) × IsWholeAt extent tokens place rows e (record { node = f.node; height = f.height; is_target = f.is_target; start = (slice_index_or tokens place t).start; «end» = (slice_index_or tokens (reading.«end» - 1) u).«end»; behind = reading.«end» })
whole-at extent tokens place rows reading f t u r h =
    let w = found-whole extent tokens place rows reading f r h in
    let p = placed extent tokens place reading.«end» w.0 r.from r.within w.1 in
    let q = p.2 in (
      w.0,
      record {
        from = q.from;
        within = r.within;
        is = is-of extent (slice_range tokens place reading.«end») w.0 w.1;
        is_spelled = q.is_spelled;
        no_more = λ n a b. r.no_more (slice_get_within tokens reading.«end» n a) (subst (λ ts. Begins (least extent) ts) (ap (λ ts. ts ++ (n ∷ [])) w.1.is_spelled ∙ sym (range-more tokens place reading.«end» n r.from a)) b);
        tree = w.2.tree;
        height = w.2.height;
        target = w.2.target;
        start = ap (λ x. x.start) (get_or_from_slice_get tokens place p.0 t q.first_there) ∙ sym q.start;
        stop = ap (λ x. x.«end») (get_or_from_slice_get tokens (reading.«end» - 1) p.1 u q.last_there) ∙ sym q.end_is;
      },
    )

pub stops-in : (extent : Extent) (tokens : List Lexeme) (place : ℕ) (rows : List NodeRow) (reading : Reading) → IsReading (least extent) tokens place rows reading → reading.found ≡ None → StopsIn extent tokens place reading.«end»
stops-in extent tokens place rows reading r h = record {
  from = r.from;
  within = r.within;
  goes_on = r.goes_on;
  no_more = r.no_more;
  not_whole = subst (λ x. FoundAs extent tokens place reading.«end» rows x) h r.found;
}
