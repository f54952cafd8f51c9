-- Tokens between two places, and where the reader stops among them.
use Rattle.std.proofs.Common.{◌≡◌, ℕ, suc, ◌+◌, ◌-◌, ◌≤◌, ◌<◌, List, [], ◌∷◌, ◌++◌, length, inl, inr, Option, Some, None, refl, sym, ◌∙◌, ap, subst, arith, take, drop, length-drop}
use Rattle.std.specs.Prelude.{slice_get, slice_range, MatchOption}
use Rattle.std.proofs.lemmas.Option.{slice_get_within, slice_get_read, slice_get_cases, get_or_from_slice_get, same_Some}
use Rattle.std.proofs.Math.Seq.{take-suc}
use Rattle.std.proofs.lemmas.List.{get_or-drop}
use Rattle.es_expressions.specs.Phrases.{Phrase}
use Rattle.es_expressions.specs.Nodes.{NodeRow}
use Rattle.es_expressions.specs.Beginnings.{IsWhole, Begins, Tells, IsReading}
use Rattle.es_expressions.specs.Machine.{State, run, move, finish}
use Rattle.es_expressions.specs.Machine.State.{Before}
use Rattle.es_expressions.specs.Standings.{Held, held, PlaceStands, IsTakenAs, Moves, IsFoundAs}
use Rattle.es_expressions.specs.Stops.{IsAt, StopsAt}
use Rattle.es_expressions.specs.declared.lexemes.Lexeme.{Lexeme}
use Rattle.es_expressions.specs.declared.frames.Frame.{Frame}
use Rattle.es_expressions.specs.declared.places.Place.{Place}
use Rattle.es_expressions.specs.declared.places.Place.TheVariants.{Before as BeforePlace}
use Rattle.es_expressions.specs.declared.places.Step.TheVariants.{Taken, Left}
use Rattle.es_expressions.specs.declared.expressions.Stop.{Stop}
use Rattle.es_expressions.specs.declared.expressions.Found.{Found}
use Rattle.es_expressions.proofs.WholeLemmas.{read-more, read-begins, read-no-more, read-whole, read-none}

take-more : (ys : List Lexeme) (n : ℕ) (x : Lexeme) → slice_get ys n ≡ Some x → take (suc n) ys ≡ take n ys ++ (x ∷ [])
take-more ys n x h = take-suc ys n x (slice_get_within ys n x h) ∙ ap (λ y. take n ys ++ (y ∷ [])) (get_or_from_slice_get ys n x x h)

get-drop : (a n : ℕ) (xs : List Lexeme) (x : Lexeme) → slice_get xs (a + n) ≡ Some x → slice_get (drop a xs) n ≡ Some x
get-drop a n xs x h = slice_get_read (drop a xs) (length (drop a xs)) n x refl (omega (arith, length-drop a xs, slice_get_within xs (a + n) x h)) (sym (get_or-drop a xs n x ∙ get_or_from_slice_get xs (a + n) x x h))

pub range-more : (xs : List Lexeme) (a b : ℕ) (x : Lexeme) → a ≤ b → slice_get xs b ≡ Some x → slice_range xs a (b + 1) ≡ slice_range xs a b ++ (x ∷ [])
range-more xs a b x le h =
    let up : (b + 1) - a ≡ suc (b - a) = omega arith in
    let there : a + (b - a) ≡ b = omega arith in
    ap (λ n. take n (drop a xs)) up ∙ take-more (drop a xs) (b - a) x (get-drop a (b - a) xs x (ap (λ n. slice_get xs n) there ∙ h))

pub range-none : (xs : List Lexeme) (a : ℕ) → slice_range xs a a ≡ []
range-none xs a = let none : a - a ≡ 0 = omega arith in ap (λ n. take n (drop a xs)) none

pub starts-at : (base : ℕ) (tokens : List Lexeme) (start : ℕ) (rows : List NodeRow) (frames : List Frame) → start ≤ length tokens → frames ≡ [] → IsAt base tokens start start (held rows frames) BeforePlace
unfolding run
starts-at base tokens start rows frames h none = record {
  from = omega arith;
  within = h;
  state = Before [];
  read = ap (λ ts. run base ts (Before [])) (range-none tokens start);
  stands = subst (λ z. PlaceStands BeforePlace rows z (Before [])) (sym none) tt;
}

step-at : (base : ℕ) (tokens : List Lexeme) (start stop : ℕ) (before after : Held) (place next : Place) (t : Lexeme) (a : IsAt base tokens start stop before place) (o : Option State) → move base a.state t ≡ o → slice_get tokens stop ≡ Some t → IsTakenAs (Taken next) after.rows after.frames a.state o → IsAt base tokens start (stop + 1) after next
step-at base tokens start stop before after place next t a None m g k = absurd k
step-at base tokens start stop before after place next t a (Some n) m g k = record {
  from = omega (arith, a.from);
  within = omega (arith, slice_get_within tokens stop t g);
  state = n;
  read = ap (λ ts. run base ts (Before [])) (range-more tokens start stop t a.from g) ∙ read-more base (slice_range tokens start stop) a.state n t a.read m;
  stands = k;
}

pub goes-on-at : (base : ℕ) (tokens : List Lexeme) (start stop : ℕ) (before after : Held) (place next : Place) (t : Lexeme) → IsAt base tokens start stop before place → slice_get tokens stop ≡ Some t → Moves base place t before after (Taken next) → IsAt base tokens start (stop + 1) after next
goes-on-at base tokens start stop before after place next t a g m = step-at base tokens start stop before after place next t a (move base a.state t) refl g (m a.state a.stands)

left-at : (base : ℕ) (tokens : List Lexeme) (start stop : ℕ) (before after : Held) (place last : Place) (t : Lexeme) (a : IsAt base tokens start stop before place) (o : Option State) → move base a.state t ≡ o → slice_get tokens stop ≡ Some t → IsTakenAs (Left last) after.rows after.frames a.state o → StopsAt base tokens start after (record { «end» = stop; place = last })
left-at base tokens start stop before after place last t a (Some n) m g k = absurd k
left-at base tokens start stop before after place last t a None m g k = record {
  from = a.from;
  within = a.within;
  state = a.state;
  read = a.read;
  no_more = λ u h. ap (λ v. move base a.state v) (same_Some u t (sym h ∙ g)) ∙ m;
  ends = k;
}

pub stops-left : (base : ℕ) (tokens : List Lexeme) (start stop : ℕ) (before after : Held) (place last : Place) (t : Lexeme) → IsAt base tokens start stop before place → slice_get tokens stop ≡ Some t → Moves base place t before after (Left last) → StopsAt base tokens start after (record { «end» = stop; place = last })
stops-left base tokens start stop before after place last t a g m = left-at base tokens start stop before after place last t a (move base a.state t) refl g (m a.state a.stands)

pub stops-end : (base : ℕ) (tokens : List Lexeme) (start stop : ℕ) (after : Held) (place : Place) → IsAt base tokens start stop after place → slice_get tokens stop ≡ None → StopsAt base tokens start after (record { «end» = stop; place = place })
stops-end base tokens start stop after place a g = record {
  from = a.from;
  within = a.within;
  state = a.state;
  read = a.read;
  no_more = λ u h. let q = sym g ∙ h in absurd (cc);
  ends = record { state = a.state; stands = a.stands; same = refl };
}

-- what is told

found-none : (base : ℕ) → base ≤ 2 → (ts : List Lexeme) (rows : List NodeRow) (s : State) (found : Option Found) (o : Option Phrase) → run base ts (Before []) ≡ Some s → finish s ≡ o → IsFoundAs rows found o → MatchOption found ((e : Phrase) → IsWhole base ts e → ⊥) (λ f. (e : Phrase) × IsWhole base ts e × Tells e rows f)
found-none base b ts rows s None None r f k = read-none base b ts s r f
found-none base b ts rows s (Some x) (Some e) r f k = (e, read-whole base b ts s e r f, k)
found-none base b ts rows s None (Some e) r f k = absurd k
found-none base b ts rows s (Some x) None r f k = absurd k

next-of : (xs : List Lexeme) (n : ℕ) → n < length xs → (x : Lexeme) × (slice_get xs n ≡ Some x)
next-of xs n h = elim (slice_get_cases xs n).1 [ inl r ↦ (r.0, r.2) | inr r ↦ absurd (omega (arith, r.0, h)) ]

pub is-reading : (base : ℕ) → base ≤ 2 → (tokens : List Lexeme) (start : ℕ) (middle : Held) (rows : List NodeRow) (stop : Stop) (found : Option Found) → StopsAt base tokens start middle stop → ((s : State) → PlaceStands stop.place middle.rows middle.frames s → IsFoundAs rows found (finish s)) → IsReading base tokens start rows (record { «end» = stop.«end»; found = found })
is-reading base b tokens start middle rows stop found s f = record {
  from = s.from;
  within = s.within;
  goes_on = read-begins base b (slice_range tokens start stop.«end») s.state s.read;
  no_more = λ lt g. let x = next-of tokens stop.«end» lt in
      read-no-more base b (slice_range tokens start stop.«end») s.state x.0 s.read (s.no_more x.0 x.1) (subst (λ ts. Begins base ts) (range-more tokens start stop.«end» x.0 s.from x.1) g);
  found = found-none base b (slice_range tokens start stop.«end») rows s.state found (finish s.state) s.read refl (subst (λ o. IsFoundAs rows found o) s.ends.same (f s.ends.state s.ends.stands));
}
