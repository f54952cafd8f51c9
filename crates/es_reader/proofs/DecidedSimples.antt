-- Of each place among tokens it is told whether a statement stands there that holds no other.
use Rattle.std.proofs.Common.{◌≡◌, ℕ, ◌+◌, ◌≤◌, Bool, true, false, ◌⊎◌, inl, inr, List, [], ◌∷◌, length, Some, refl, sym, ◌∙◌, ap, arith, drop}
use Rattle.std.specs.Prelude.{slice_get, slice_index_or, min}
use Rattle.std.proofs.lemmas.Option.{slice_get_within}
use Rattle.es_lexer.specs.declared.words.ReservedWord.TheVariants.{Break, Continue, Return as ReturnWord, Var as VarWord}
use Rattle.es_lexer.specs.declared.punctuators.Punctuator.TheVariants.{Semicolon, Comma}
use Rattle.es_expressions.specs.Phrases.{Phrase}
use Rattle.es_expressions.specs.Nodes.{NodeRow}
use Rattle.es_expressions.specs.declared.expressions.Extent.TheVariants.{WithCommas}
use Rattle.es_expressions.specs.declared.lexemes.Lexeme.{Lexeme}
use Rattle.es_reader.specs.Statements.{Simple, Declarations, spelled_simple, spelled_declarations}
use Rattle.es_reader.specs.Statements.Simple.{Var}
use Rattle.es_reader.specs.Grammar.{IsMark, IsWord, Setting, IsSimple, DeclarationGoesOn, last_of}
use Rattle.es_reader.specs.Meaning.{jump_form}
use Rattle.es_reader.specs.Parts.{IsThere, IsNoEnd, IsWholeAt}
use Rattle.es_reader.specs.Simples.{IsSimpleAt}
use Rattle.es_reader.specs.Stops.{BehindWord, IsSimpleWord, SimpleStops, IsOther, SimpleBad}
use Rattle.es_reader.specs.declared.simples.Stated.{Stated}
use Rattle.es_reader.specs.declared.wholes.Whole.{Whole}
use Rattle.es_reader.proofs.RangeLemmas.{drop-there}
use Rattle.es_reader.proofs.Readings.{first-there}
use Rattle.es_reader.proofs.Spelling.{declarations-onward}
use Rattle.es_reader.proofs.SimpleStops.{var-no-end}
use Rattle.es_reader.proofs.SimpleLemmas.{ends-part, empty-at, jump-at, return-at, value-at, alone-at}
use Rattle.es_reader.proofs.BadLemmas.{var-stops-at, jump-no-end-at, return-stops-at, value-stops-at, value-no-end-at}
use Rattle.es_reader.proofs.Decided.{Decided}
use Rattle.es_reader.proofs.Decided.Decided.{There, Nothing}
use Rattle.es_reader.proofs.DecidedTokens.{word-or-not, mark-or-not}
use Rattle.es_reader.proofs.DecidedEnds.{EndThere, end-there, return-end-there}
use Rattle.es_reader.proofs.DecidedEnds.EndThere.{Ends, EndsNot}
use Rattle.es_reader.proofs.DecidedEnds.ReturnEndThere.{Returns, ReturnsNot}
use Rattle.es_reader.proofs.DecidedExpressions.{BeginFacts, expression-there}
use Rattle.es_reader.proofs.DecidedExpressions.ExpressionThere.{Found, Lacking}
use Rattle.es_reader.proofs.DecidedDeclarations.{AreAt, declarations-there}
use Rattle.es_reader.proofs.DecidedDeclarations.DeclarationsThere.{AllDeclare, AllStop}

abbrev pub SimpleThere : Setting → List Lexeme → ℕ → Type 0
SimpleThere p tokens place = Decided (IsSimple p) spelled_simple (SimpleBad p tokens place) tokens place

of-at : (p : Setting) (tokens : List Lexeme) (place : ℕ) (rows : List NodeRow) (before after : List (List ℕ)) (stated : Stated) → (x : Simple) × IsSimpleAt p tokens place rows x before after stated → SimpleThere p tokens place
of-at p tokens place rows before after stated x = There stated.behind x.0 (record { from = x.1.from; within = x.1.within; is = x.1.is; is_spelled = x.1.is_spelled })

module _ (f : BeginFacts) (p : Setting) (tokens : List Lexeme) (place : ℕ) (t : Lexeme) (there : slice_get tokens place ≡ Some t) where
  next-within : place + 1 ≤ length tokens
  next-within = let l = slice_get_within tokens place t there in omega arith

  var-no-end-there : (w : IsWord VarWord t) (behind : ℕ) (d : Declarations) → AreAt tokens (place + 1) behind d → (IsThere (IsMark Comma) tokens behind → ⊥) → IsThere IsNoEnd tokens behind → BehindWord IsSimpleWord (λ word. SimpleStops p) tokens place behind
  var-no-end-there w behind d a no_comma n = record {
    within = a.within;
    word = t;
    is = inl (inl w);
    more = spelled_declarations d [];
    parts = ap (λ x. t ∷ x) (sym (declarations-onward d [] (drop behind tokens)) ∙ a.is_spelled) ∙ sym (drop-there tokens place t there);
    stops = λ facts. var-no-end facts p t d (drop behind tokens) n.0 w a.are
        (λ u g h. a.no_more u (sym (first-there tokens behind) ∙ g) (λ m. no_comma (u, sym (first-there tokens behind) ∙ g, m)) h)
        (first-there tokens behind ∙ n.1) n.2;
  }

  var-end : (w : IsWord VarWord t) (behind : ℕ) (d : Declarations) → AreAt tokens (place + 1) behind d → (IsThere (IsMark Comma) tokens behind → ⊥) → EndThere tokens behind 0 → SimpleThere p tokens place
  var-end w behind d a no_comma (EndsNot n) = Nothing behind (inl (var-no-end-there w behind d a no_comma n))
  var-end w behind d a no_comma (Ends ended e) = There ended.behind (Var t d e.semicolon) (record {
    from = omega (arith, a.from, e.from);
    within = e.within;
    is = (w, a.are, ends-part (DeclarationGoesOn (last_of d.first d.others)) tokens behind 0 ended e (λ x h g. a.no_more x h (λ m. no_comma (x, h, m)) g));
    is_spelled = ap (λ x. t ∷ spelled_declarations d x) e.is_spelled ∙ (ap (λ x. t ∷ x) a.is_spelled ∙ sym (drop-there tokens place t there));
  })

  var-there : IsWord VarWord t → SimpleThere p tokens place
  var-there w = elim (declarations-there f tokens (place + 1) next-within) [
    | AllDeclare behind d a no_comma ↦ var-end w behind d a no_comma (end-there tokens behind 0 a.within)
    | AllStop bad s ↦ Nothing bad (inl (var-stops-at tokens place (t, there, w) bad s p))
  ]

  jump-there : IsWord Break t ⊎ IsWord Continue t → p.in_loop ≡ true → SimpleThere p tokens place
  jump-there w loop = elim (end-there tokens (place + 1) (slice_index_or tokens place t).«end» next-within) [
    | Ends ended e ↦ of-at p tokens place _ [] [] _ (jump-at tokens place [] _ (jump_form t.symbol) ended t t [] 0 (t, there, (w, refl)) e refl refl refl p [] loop)
    | EndsNot n ↦ Nothing (place + 1) (inl (jump-no-end-at tokens place t there w (place + 1) (refl, n) p loop))
  ]

  value-end : IsWord ReturnWord t → p.in_function ≡ true → IsThere IsNoEnd tokens (place + 1) → (rows : List NodeRow) (e : Phrase) (whole : Whole) → IsWholeAt WithCommas tokens (place + 1) rows e whole → SimpleThere p tokens place
  value-end w inside n rows e whole h = elim (end-there tokens whole.behind whole.«end» h.within) [
    | Ends ended i ↦ of-at p tokens place _ [] [] _ (value-at tokens place rows _ whole ended t (whole.node ∷ []) (length rows) (min 65 (whole.height + 1)) (t, there, w) n (e, h) i refl refl refl refl p [] inside)
    | EndsNot k ↦ Nothing whole.behind (inl (return-stops-at tokens place (t, there, w) n whole.behind (value-no-end-at tokens (place + 1) rows whole (e, h) whole.behind (refl, k)) p inside))
  ]

  value-there : IsWord ReturnWord t → p.in_function ≡ true → IsThere IsNoEnd tokens (place + 1) → SimpleThere p tokens place
  value-there w inside n = elim (expression-there f WithCommas tokens (place + 1) next-within) [
    | Found rows e whole h ↦ value-end w inside n rows e whole h
    | Lacking stop s ↦ Nothing stop (inl (return-stops-at tokens place (t, there, w) n stop (value-stops-at tokens (place + 1) stop s) p inside))
  ]

  return-there : IsWord ReturnWord t → p.in_function ≡ true → SimpleThere p tokens place
  return-there w inside = elim (return-end-there tokens (place + 1) (slice_index_or tokens place t).«end» next-within) [
    | Returns ended e ↦ of-at p tokens place _ [] [] _ (return-at tokens place [] _ ended t t [] 0 (t, there, w) e refl refl refl p [] inside)
    | ReturnsNot n ↦ value-there w inside n
  ]

  alone-end : IsOther p t → (rows : List NodeRow) (e : Phrase) (whole : Whole) → IsWholeAt WithCommas tokens place rows e whole → SimpleThere p tokens place
  alone-end o rows e whole h = elim (end-there tokens whole.behind whole.«end» h.within) [
    | Ends ended i ↦ of-at p tokens place _ [] [] _ (alone-at tokens place rows _ whole ended (whole.node ∷ []) (length rows) (min 65 (whole.height + 1)) (e, h) i refl refl refl refl p [])
    | EndsNot k ↦ Nothing whole.behind (inr (value-no-end-at tokens place rows whole (e, h) whole.behind (refl, k), (t, there, o)))
  ]

  alone-there : IsOther p t → SimpleThere p tokens place
  alone-there o = elim (expression-there f WithCommas tokens place (let l = next-within in omega arith)) [
    | Found rows e whole h ↦ alone-end o rows e whole h
    | Lacking stop s ↦ Nothing stop (inr (value-stops-at tokens place stop s, (t, there, o)))
  ]

  return-or-alone : (IsWord VarWord t → ⊥) → (IsMark Semicolon t → ⊥) → (p.in_loop ≡ true → IsWord Break t ⊎ IsWord Continue t → ⊥) → (b : Bool) → p.in_function ≡ b → SimpleThere p tokens place
  return-or-alone v s j true i = elim (word-or-not ReturnWord t) [
    | inl w ↦ return-there w i
    | inr n ↦ alone-there (record { no_var = v; no_semicolon = s; no_jump = j; no_return = λ k w. n w })
  ]
  return-or-alone v s j false i = alone-there (record { no_var = v; no_semicolon = s; no_jump = j; no_return = λ k w. let q = sym i ∙ k in absurd (cc) })

  jump-or-other : (IsWord VarWord t → ⊥) → (IsMark Semicolon t → ⊥) → (b : Bool) → p.in_loop ≡ b → SimpleThere p tokens place
  jump-or-other v s true i = elim (word-or-not Break t) [
    | inl w ↦ jump-there (inl w) i
    | inr n ↦ elim (word-or-not Continue t) [
      | inl w ↦ jump-there (inr w) i
      | inr m ↦ return-or-alone v s (λ k w. elim w [ inl x ↦ n x | inr x ↦ m x ]) p.in_function refl
    ]
  ]
  jump-or-other v s false i = return-or-alone v s (λ k w. let q = sym i ∙ k in absurd (cc)) p.in_function refl

  pub simple-there : SimpleThere p tokens place
  simple-there = elim (word-or-not VarWord t) [
    | inl w ↦ var-there w
    | inr v ↦ elim (mark-or-not Semicolon t) [
      | inl m ↦ of-at p tokens place _ [] [] _ (empty-at tokens place [] _ t t t [] 0 (t, there, m) refl refl refl p [])
      | inr s ↦ jump-or-other v s p.in_loop refl
    ]
  ]
