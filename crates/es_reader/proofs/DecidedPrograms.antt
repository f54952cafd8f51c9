-- Of all tokens it is told whether they are a program, and which one, or at which place they go on to none.
use Rattle.std.proofs.Common.{◌≡◌, ℕ, zero, suc, ◌+◌, ◌≤◌, Bool, true, false, ◌⊎◌, inl, inr, List, [], ◌∷◌, length, Option, Some, None, refl, sym, ◌∙◌, subst, arith, drop, drop_of_length-le}
use Rattle.std.specs.Prelude.{slice_get}
use Rattle.std.proofs.lemmas.Option.{slice_get_within, slice_get_cases}
use Rattle.es_lexer.specs.declared.words.ReservedWord.TheVariants.{Else as ElseWord, For as ForWord, Function as FunctionWord, If as IfWord, While as WhileWord}
use Rattle.es_lexer.specs.declared.punctuators.Punctuator.TheVariants.{OpenBrace, CloseBrace}
use Rattle.es_expressions.specs.declared.lexemes.Lexeme.{Lexeme}
use Rattle.es_expressions.specs.declared.nodes.Form.TheVariants.{If as IfForm, While as WhileForm}
use Rattle.es_reader.specs.Statements.{Head, Statement, Item}
use Rattle.es_reader.specs.Statements.Head.{For}
use Rattle.es_reader.specs.Statements.First.{NoFirst}
use Rattle.es_reader.specs.Statements.Statement.{Alone, Block, Headed, IfElse}
use Rattle.es_reader.specs.Grammar.{IsMark, IsWord, is_if, NoElse, IsProgram}
use Rattle.es_reader.specs.Programs.{IsBadAt}
use Rattle.es_reader.specs.Openings.{Opening, Outer, place_in}
use Rattle.es_reader.specs.Openings.Opening.{InBlock, InHead, InElse}
use Rattle.es_reader.specs.Openings.Outer.{InProgram, InFunction}
use Rattle.es_reader.specs.Parts.{IsThere}
use Rattle.es_reader.specs.Heads.{IsTestWord}
use Rattle.es_reader.specs.Standing.{Stands, Ended, IsAlone}
use Rattle.es_reader.specs.ExpressionFacts.{ExpressionFacts}
use Rattle.es_reader.proofs.RangeLemmas.{drop-there}
use Rattle.es_reader.proofs.Readings.{first-there}
use Rattle.es_reader.proofs.Tokens.{kind_of, function-kind, for-kind}
use Rattle.es_reader.proofs.Uniqueness.{head-kinds, IsHeadKind}
use Rattle.es_reader.proofs.Steps.{no-if, no-else-first}
use Rattle.es_reader.proofs.Standing.{stands-first, ended-simple, stands-head, stands-block, ended-block, stands-front, stands-function, stands-in-block, stands-in-function, stands-in-program, ended-head, stands-else, ended-else, is-program, bad-brace, bad-function, bad-end}
use Rattle.es_reader.proofs.HeadStops.{head-bad}
use Rattle.es_reader.proofs.FrontStops.{front-bad}
use Rattle.es_reader.proofs.LoopBadLemmas.{simply-bad, test-kind}
use Rattle.es_reader.proofs.Decided.Decided.{There, Nothing}
use Rattle.es_reader.proofs.DecidedTokens.{mark-or-not, word-or-not, word-there}
use Rattle.es_reader.proofs.DecidedExpressions.{BeginFacts}
use Rattle.es_reader.proofs.DecidedSimples.{simple-there}
use Rattle.es_reader.proofs.DecidedHeads.{HeadThere, test-there, for-there}
use Rattle.es_reader.proofs.DecidedFronts.{front-there}

module _ (facts : ExpressionFacts) (begins : BeginFacts) (tokens : List Lexeme) where
  -- a program is read up to a place that is this one or a later one
  record Reaches (least : ℕ) : Type 0 where
    pub next : ℕ
    pub from : least ≤ next
    pub os : List Opening
    pub outer : Outer
    pub stands : Stands os outer tokens next

  -- an `else` goes on with the statement of a head, or none does
  else-or-not : (head : Head) (place : ℕ) → ((is_if head ≡ true) × IsThere (IsWord ElseWord) tokens place) ⊎ NoElse head (drop place tokens)
  else-or-not head place = by (is_if head) refl
    where
      by : (b : Bool) → is_if head ≡ b → ((is_if head ≡ true) × IsThere (IsWord ElseWord) tokens place) ⊎ NoElse head (drop place tokens)
      by false i = inr (no-if head (drop place tokens) i)
      by true i = elim (word-there ElseWord tokens place) [
        | inl w ↦ inl (i, w)
        | inr n ↦ inr (no-else-first head (drop place tokens) (λ t g k. n (t, sym (first-there tokens place) ∙ g, k)))
      ]

  -- a whole statement is put where it belongs
  attach : (os : List Opening) (outer : Outer) (s : Statement) (place least : ℕ) → least ≤ place → Ended os outer tokens s place → Reaches least
  attach [] (InProgram done) s place least l e = record { next = place; from = l; os = []; outer = _; stands = stands-in-program done tokens place s e }
  attach [] (InFunction done front body) s place least l e = record { next = place; from = l; os = []; outer = _; stands = stands-in-function done front body tokens place s e }
  attach (InBlock o done ∷ os) outer s place least l e = record { next = place; from = l; os = _; outer = outer; stands = stands-in-block os outer tokens place o done s e }
  attach (InElse head body w ∷ os) outer s place least l e = attach os outer (IfElse head body w s) place least l (ended-else os outer tokens place head body w s e)
  attach (InHead head ∷ os) outer s place least l e = elim (else-or-not head place) [
    | inr n ↦ attach os outer (Headed head s) place least l (ended-head os outer tokens place head s e n)
    | inl (i, w) ↦ record { next = place + 1; from = omega arith; os = _; outer = outer; stands = stands-else os outer tokens place (place + 1) head s w.0 e (let k = slice_get_within tokens place w.0 w.1 in omega arith) i w.2 (sym (drop-there tokens place w.0 w.1)) }
  ]

  -- one step
  abbrev Goes : ℕ → Type 0
  Goes place = Reaches (place + 1) ⊎ ((bad : ℕ) × IsBadAt tokens bad)

  module _ (place : ℕ) (t : Lexeme) (there : slice_get tokens place ≡ Some t) where
    next-within : place + 1 ≤ length tokens
    next-within = let l = slice_get_within tokens place t there in omega arith

    alone : (os : List Opening) (outer : Outer) → Stands os outer tokens place → IsAlone t → Goes place
    alone os outer s a = elim (simple-there begins (place_in os outer) tokens place t there) [
      | There behind x h ↦ inl (attach os outer (Alone x) behind (place + 1) (let k = h.from in omega arith) (ended-simple facts os outer tokens place behind x s h.within h.is h.is_spelled))
      | Nothing bad b ↦ inr (bad, simply-bad facts os outer tokens place s (t, there, a) bad b)
    ]

    block : (os : List Opening) (outer : Outer) → Stands os outer tokens place → IsMark OpenBrace t → Goes place
    block os outer s b = inl (record { next = place + 1; from = omega arith; os = _; outer = outer; stands = stands-block facts os outer tokens place (place + 1) t s next-within b (sym (drop-there tokens place t there)) })

    close : (os : List Opening) (outer : Outer) → Stands os outer tokens place → IsMark CloseBrace t → Goes place
    close (InBlock o done ∷ os) outer s b = inl (attach os outer (Block o done t) (place + 1) (place + 1) (omega arith) (ended-block facts os outer tokens place (place + 1) o done t s next-within b (sym (drop-there tokens place t there))))
    close [] (InFunction done front body) s b = inl (record { next = place + 1; from = omega arith; os = []; outer = _; stands = stands-function facts done front body tokens place (place + 1) t s next-within b (sym (drop-there tokens place t there)) })
    close [] (InProgram done) s b = inr (place, bad-brace facts [] (InProgram done) tokens place t (drop (place + 1) tokens) s (drop-there tokens place t there) b tt)
    close (InHead head ∷ os) outer s b = inr (place, bad-brace facts (InHead head ∷ os) outer tokens place t (drop (place + 1) tokens) s (drop-there tokens place t there) b tt)
    close (InElse head body w ∷ os) outer s b = inr (place, bad-brace facts (InElse head body w ∷ os) outer tokens place t (drop (place + 1) tokens) s (drop-there tokens place t there) b tt)

    head-goes : (Is : Lexeme → Type 0) → ((u : Lexeme) → Is u → IsHeadKind (kind_of u)) → (os : List Opening) (outer : Outer) → Stands os outer tokens place → HeadThere Is tokens place → Goes place
    head-goes Is kind os outer s (There behind h x) = inl (record { next = behind; from = (let k = x.from in omega arith); os = _; outer = outer; stands = stands-head facts os outer tokens place behind h s x.within x.is x.is_spelled })
    head-goes Is kind os outer s (Nothing bad b) = inr (bad, head-bad facts os outer tokens place bad b.word b.more s b.within b.parts (kind b.word b.is) (b.stops facts))

    function : (os : List Opening) (outer : Outer) → Stands os outer tokens place → IsWord FunctionWord t → Goes place
    function [] (InProgram done) s w = elim (front-there tokens place (t, there, w)) [
      | There behind front x ↦ inl (record { next = behind; from = (let k = x.from in omega arith); os = []; outer = _; stands = stands-front facts done tokens place behind front s x.within x.is x.is_spelled })
      | Nothing bad b ↦ inr (bad, front-bad facts done tokens place bad b.word b.more s b.within b.parts (function-kind b.word b.is) (b.stops facts))
    ]
    function [] (InFunction done front body) s w = inr (place, bad-function facts [] (InFunction done front body) tokens place t (drop (place + 1) tokens) s (drop-there tokens place t there) (function-kind t w) tt)
    function (o ∷ os) outer s w = inr (place, bad-function facts (o ∷ os) outer tokens place t (drop (place + 1) tokens) s (drop-there tokens place t there) (function-kind t w) tt)

    for-word-kind : (u : Lexeme) → IsWord ForWord u → IsHeadKind (kind_of u)
    for-word-kind u w = subst (λ k. IsHeadKind k) (sym (for-kind u w)) (head-kinds (For u u NoFirst u None u None u))

    step : (os : List Opening) (outer : Outer) → Stands os outer tokens place → Goes place
    step os outer s = elim (mark-or-not OpenBrace t) [
      | inl b ↦ block os outer s b
      | inr n1 ↦ elim (mark-or-not CloseBrace t) [
        | inl b ↦ close os outer s b
        | inr n2 ↦ elim (word-or-not IfWord t) [
          | inl w ↦ head-goes (IsTestWord IfForm) (test-kind IfForm) os outer s (test-there begins tokens place IfForm (t, there, inl (w, refl)))
          | inr n3 ↦ elim (word-or-not WhileWord t) [
            | inl w ↦ head-goes (IsTestWord WhileForm) (test-kind WhileForm) os outer s (test-there begins tokens place WhileForm (t, there, inr (w, refl)))
            | inr n4 ↦ elim (word-or-not ForWord t) [
              | inl w ↦ head-goes (IsWord ForWord) for-word-kind os outer s (for-there begins tokens place (t, there, w))
              | inr n5 ↦ elim (word-or-not FunctionWord t) [
                | inl w ↦ function os outer s w
                | inr n6 ↦ alone os outer s (record { no_open = n1; no_close = n2; no_if = n3; no_while = n4; no_for = n5; no_function = n6 })
              ]
            ]
          ]
        ]
      ]
    ]

  -- all steps
  abbrev pub Decided : Type 0
  Decided = ((items : List Item) × IsProgram tokens items) ⊎ ((place : ℕ) × IsBadAt tokens place)

  at-end : (os : List Opening) (outer : Outer) (place : ℕ) → Stands os outer tokens place → length tokens ≤ place → Decided
  at-end [] (InProgram done) place s l = inl (done, is-program done tokens place s (drop_of_length-le tokens l))
  at-end [] (InFunction done front body) place s l = inr (place, bad-end facts [] (InFunction done front body) tokens place s (drop_of_length-le tokens l) tt)
  at-end (o ∷ os) outer place s l = inr (place, bad-end facts (o ∷ os) outer tokens place s (drop_of_length-le tokens l) tt)

  -- what stands next: no token, or one with which a step is made
  next-step : (os : List Opening) (outer : Outer) (place : ℕ) → Stands os outer tokens place → (length tokens ≤ place) ⊎ Goes place
  next-step os outer place s = by (slice_get tokens place) refl
    where
      past : slice_get tokens place ≡ None → length tokens ≤ place
      past e = elim (slice_get_cases tokens place).1 [ inl r ↦ let q = sym e ∙ r.2 in absurd (cc) | inr r ↦ omega (arith, r.0) ]

      by : (o : Option Lexeme) → slice_get tokens place ≡ o → (length tokens ≤ place) ⊎ Goes place
      by None e = inl (past e)
      by (Some t) e = inr (step place t e os outer s)

  onward : (left : ℕ) (os : List Opening) (outer : Outer) (place : ℕ) → Stands os outer tokens place → length tokens ≤ place + left → Decided
  onward zero os outer place s l = at-end os outer place s (omega arith)
  onward (suc left) os outer place s l = elim (next-step os outer place s) [
    | inl past ↦ at-end os outer place s past
    | inr (inl r) ↦ onward left r.os r.outer r.next r.stands (let k = r.from in omega arith)
    | inr (inr b) ↦ inr b
  ]

  pub decided : Decided
  decided = onward (length tokens) [] (InProgram []) 0 (stands-first tokens) (omega arith)
