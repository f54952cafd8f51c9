-- Of each place among tokens it is told whether the head of a statement stands there.
use Rattle.std.proofs.Common.{◌≡◌, ℕ, ◌+◌, ◌≤◌, Bool, true, false, inl, inr, List, [], ◌∷◌, length, Option, refl, sym, ◌∙◌, ap, subst, arith, drop}
use Rattle.std.specs.Prelude.{min}
use Rattle.std.proofs.lemmas.Option.{slice_get_within}
use Rattle.es_lexer.specs.declared.words.ReservedWord.TheVariants.{For as ForWord, In, Var as VarWord}
use Rattle.es_lexer.specs.declared.punctuators.Punctuator.{Punctuator}
use Rattle.es_lexer.specs.declared.punctuators.Punctuator.TheVariants.{OpenParenthesis, CloseParenthesis, Semicolon, Comma}
use Rattle.es_expressions.specs.Phrases.{Phrase}
use Rattle.es_expressions.specs.Nodes.{NodeRow}
use Rattle.es_expressions.specs.declared.expressions.Extent.TheVariants.{WithCommas}
use Rattle.es_expressions.specs.declared.nodes.Form.{Form}
use Rattle.es_expressions.specs.declared.lexemes.Lexeme.{Lexeme}
use Rattle.es_reader.specs.Statements.{Declaration, FurtherDeclaration, Declarations, First, Visitor, Head, spelled_head, spelled_first, spelled_part, spelled_visitor}
use Rattle.es_reader.specs.Statements.Declaration.{Bare, Valued}
use Rattle.es_reader.specs.Statements.First.{NoFirst, FirstExpression, FirstVar}
use Rattle.es_reader.specs.Statements.Visitor.{Target, Variable}
use Rattle.es_reader.specs.Statements.Head.{If, While, For, ForIn}
use Rattle.es_reader.specs.Grammar.{IsMark, IsWord, IsHead}
use Rattle.es_reader.specs.Meaning.{first_tree, visitor_tree}
use Rattle.es_reader.specs.Levels.{first_levels, visitor_levels}
use Rattle.es_reader.specs.Parts.{IsThere, IsWholeAt, StopsIn}
use Rattle.es_reader.specs.Simples.{are_bare}
use Rattle.es_reader.specs.Heads.{IsTestWord, IsFirstAt, IsPartAt, IsVisitorAt}
use Rattle.es_reader.specs.Stops.{BehindWord, HeadStops}
use Rattle.es_reader.specs.declared.heads.HeadPart.{HeadPart}
use Rattle.es_reader.specs.declared.wholes.Whole.{Whole}
use Rattle.es_reader.proofs.RangeLemmas.{drop-there}
use Rattle.es_reader.proofs.Readings.{first-there}
use Rattle.es_reader.proofs.HeadStops.{first-declarations-lack}
use Rattle.es_reader.proofs.HeadLemmas.{opened, closed, absent-at, no-part-at, part-at, lacks-there, no-first-at, first-at, target-at}
use Rattle.es_reader.proofs.HeadBadLemmas.{test-no-open-at, test-stops-at, test-no-close-at, for-no-open-at, for-expression-stops-at, for-declarations-stop-at, for-no-semicolon-at, for-test-stops-at, for-no-second-at, for-step-stops-at, for-no-close-at, for-object-stops-at, for-object-no-close-at}
use Rattle.es_reader.proofs.Decided.{Decided}
use Rattle.es_reader.proofs.Decided.Decided.{There, Nothing}
use Rattle.es_reader.proofs.LaidOutTrees.{laid-out}
use Rattle.es_reader.proofs.DecidedTokens.{mark-there, word-there}
use Rattle.es_reader.proofs.DecidedExpressions.{BeginFacts, expression-there}
use Rattle.es_reader.proofs.DecidedExpressions.ExpressionThere.{Found, Lacking}
use Rattle.es_reader.proofs.DecidedDeclarations.{AreAt, declarations-there}
use Rattle.es_reader.proofs.DecidedDeclarations.DeclarationsThere.{AllDeclare, AllStop}

-- behind a word of this kind
abbrev pub HeadThere : (Lexeme → Type 0) → List Lexeme → ℕ → Type 0
HeadThere Is tokens place = Decided (λ (h : Head) (rest : List Lexeme). IsHead h) spelled_head (BehindWord Is (λ word. HeadStops) tokens place) tokens place

behind-there : (Is : Lexeme → Type 0) (tokens : List Lexeme) (place : ℕ) → IsThere Is tokens place → place + 1 ≤ length tokens
behind-there Is tokens place t = let l = slice_get_within tokens place t.0 t.1 in omega arith

-- `if` and `while`

test-is : (tokens : List Lexeme) (place : ℕ) (form : Form) (w : IsThere (IsTestWord form) tokens place) (o : IsThere (IsMark OpenParenthesis) tokens (place + 1)) (rows : List NodeRow) (e : Phrase) (whole : Whole) → IsWholeAt WithCommas tokens (place + 2) rows e whole → (c : IsThere (IsMark CloseParenthesis) tokens whole.behind) → HeadThere (IsTestWord form) tokens place
test-is tokens place which (t, g, inl i) o rows e whole h c = There (whole.behind + 1) (If t o.0 e c.0) (record {
  from = let k = h.from in omega arith;
  within = behind-there (IsMark CloseParenthesis) tokens whole.behind c;
  is = (i.0, o.2, h.is, c.2);
  is_spelled = ap (λ z. t ∷ (o.0 ∷ z)) (closed tokens (place + 2) rows e whole c.0 h c.1) ∙ opened tokens place t o.0 g o.1;
})
test-is tokens place which (t, g, inr i) o rows e whole h c = There (whole.behind + 1) (While t o.0 e c.0) (record {
  from = let k = h.from in omega arith;
  within = behind-there (IsMark CloseParenthesis) tokens whole.behind c;
  is = (i.0, o.2, h.is, c.2);
  is_spelled = ap (λ z. t ∷ (o.0 ∷ z)) (closed tokens (place + 2) rows e whole c.0 h c.1) ∙ opened tokens place t o.0 g o.1;
})

inside-within : (tokens : List Lexeme) (place : ℕ) → IsThere (IsMark OpenParenthesis) tokens (place + 1) → place + 2 ≤ length tokens
inside-within tokens place o = let l = behind-there (IsMark OpenParenthesis) tokens (place + 1) o in omega arith

pub test-there : (f : BeginFacts) (tokens : List Lexeme) (place : ℕ) (form : Form) → IsThere (IsTestWord form) tokens place → HeadThere (IsTestWord form) tokens place
test-there f tokens place form w = elim (mark-there OpenParenthesis tokens (place + 1)) [
  | inr n ↦ Nothing (place + 1) (test-no-open-at tokens place form w (place + 1) (refl, n))
  | inl o ↦ elim (expression-there f WithCommas tokens (place + 2) (inside-within tokens place o)) [
    | Lacking stop s ↦ Nothing stop (test-stops-at tokens place form o.0 w o.1 o.2 stop s)
    | Found rows e whole h ↦ elim (mark-there CloseParenthesis tokens whole.behind) [
      | inr n ↦ Nothing whole.behind (test-no-close-at tokens place form rows o.0 whole w o.1 o.2 (e, h) whole.behind (refl, n))
      | inl c ↦ test-is tokens place form w o rows e whole h c
    ]
  ]
]

-- `for`

data PartThere (mark : Punctuator) (tokens : List Lexeme) (place : ℕ) : Type 0 where
  Part : (rows : List NodeRow) → (e : Option Phrase) → (part : HeadPart) → IsPartAt mark tokens place rows e part → PartThere mark tokens place
  PartNot : (bad : ℕ) → StopsIn WithCommas tokens place bad × (IsThere (IsMark mark) tokens place → ⊥) → PartThere mark tokens place

part-there : (f : BeginFacts) (mark : Punctuator) (tokens : List Lexeme) (place : ℕ) → place ≤ length tokens → PartThere mark tokens place
part-there f mark tokens place l = elim (mark-there mark tokens place) [
  | inl m ↦ (let a = no-part-at mark tokens place _ _ m l (absent-at tokens place [] _ m.0 [] 0 refl refl refl) in Part _ a.0 _ a.1)
  | inr n ↦ elim (expression-there f WithCommas tokens place l) [
    | Found rows e whole h ↦ (let a = part-at mark tokens place rows whole n (e, h) in Part rows a.0 _ a.1)
    | Lacking stop s ↦ PartNot stop (s, n)
  ]
]

module _ (f : BeginFacts) (tokens : List Lexeme) (place : ℕ) (w : IsThere (IsWord ForWord) tokens place) (o : IsThere (IsMark OpenParenthesis) tokens (place + 1)) where
  abbrev ForThere : Type 0
  ForThere = HeadThere (IsWord ForWord) tokens place

  module _ (rows : List NodeRow) (first : First) (part : HeadPart) (x : IsFirstAt tokens (place + 2) rows first part) (m : IsThere (IsMark Semicolon) tokens part.behind) where
    for-is : (more : List NodeRow) (e : Option Phrase) (test : HeadPart) → IsPartAt Semicolon tokens (part.behind + 1) more e test → (s : IsThere (IsMark Semicolon) tokens test.behind) → (after : List NodeRow) (k : Option Phrase) (step : HeadPart) → IsPartAt CloseParenthesis tokens (test.behind + 1) after k step → (c : IsThere (IsMark CloseParenthesis) tokens step.behind) → ForThere
    for-is more e test y s after k step z c = There (step.behind + 1) (For w.0 o.0 first m.0 e s.0 k c.0) (record {
      from = omega (arith, x.from, y.from, z.from);
      within = behind-there (IsMark CloseParenthesis) tokens step.behind c;
      is = (w.2, o.2, x.is, m.2, y.is, s.2, z.is, c.2);
      is_spelled = ap (λ v. w.0 ∷ (o.0 ∷ spelled_first first (m.0 ∷ spelled_part e (s.0 ∷ spelled_part k v)))) (sym (drop-there tokens step.behind c.0 c.1))
          ∙ (ap (λ v. w.0 ∷ (o.0 ∷ spelled_first first (m.0 ∷ spelled_part e (s.0 ∷ v)))) z.is_spelled
          ∙ (ap (λ v. w.0 ∷ (o.0 ∷ spelled_first first (m.0 ∷ spelled_part e v))) (sym (drop-there tokens test.behind s.0 s.1))
          ∙ (ap (λ v. w.0 ∷ (o.0 ∷ spelled_first first (m.0 ∷ v))) y.is_spelled
          ∙ (ap (λ v. w.0 ∷ (o.0 ∷ spelled_first first v)) (sym (drop-there tokens part.behind m.0 m.1))
          ∙ (ap (λ v. w.0 ∷ (o.0 ∷ v)) x.is_spelled ∙ opened tokens place w.0 o.0 w.1 o.1)))));
    })

    step-there : (more : List NodeRow) (e : Option Phrase) (test : HeadPart) → IsPartAt Semicolon tokens (part.behind + 1) more e test → (s : IsThere (IsMark Semicolon) tokens test.behind) → ForThere
    step-there more e test y s = elim (part-there f CloseParenthesis tokens (test.behind + 1) (behind-there (IsMark Semicolon) tokens test.behind s)) [
      | PartNot bad q ↦ Nothing bad (for-step-stops-at tokens place rows more part test m.0 s.0 w o (first, x) m.1 m.2 (e, y) s.1 s.2 bad q)
      | Part after k step z ↦ elim (mark-there CloseParenthesis tokens step.behind) [
        | inr n ↦ Nothing step.behind (for-no-close-at tokens place rows more after part test step m.0 s.0 w o (first, x) m.1 m.2 (e, y) s.1 s.2 (k, z) step.behind (refl, n))
        | inl c ↦ for-is more e test y s after k step z c
      ]
    ]

    parts-there : ForThere
    parts-there = elim (part-there f Semicolon tokens (part.behind + 1) (behind-there (IsMark Semicolon) tokens part.behind m)) [
      | PartNot bad q ↦ Nothing bad (for-test-stops-at tokens place rows part m.0 w o (first, x) m.1 m.2 bad q)
      | Part more e test y ↦ elim (mark-there Semicolon tokens test.behind) [
        | inr n ↦ Nothing test.behind (for-no-second-at tokens place rows more part test m.0 w o (first, x) m.1 m.2 (e, y) test.behind (refl, n))
        | inl s ↦ step-there more e test y s
      ]
    ]

  first-parts : (rows : List NodeRow) (first : First) (part : HeadPart) → IsFirstAt tokens (place + 2) rows first part → ForThere
  first-parts rows first part x = elim (mark-there Semicolon tokens part.behind) [
    | inr n ↦ Nothing part.behind (for-no-semicolon-at tokens place rows part w o (first, x) part.behind (refl, n))
    | inl m ↦ parts-there rows first part x m
  ]

  in-is : (rows : List NodeRow) (v : Visitor) (part : HeadPart) → IsVisitorAt tokens (place + 2) rows v part → (i : IsThere (IsWord In) tokens part.behind) → (more : List NodeRow) (e : Phrase) (whole : Whole) → IsWholeAt WithCommas tokens (part.behind + 1) more e whole → (c : IsThere (IsMark CloseParenthesis) tokens whole.behind) → ForThere
  in-is rows v part x i more e whole y c = There (whole.behind + 1) (ForIn w.0 o.0 v i.0 e c.0) (record {
    from = omega (arith, x.from, y.from);
    within = behind-there (IsMark CloseParenthesis) tokens whole.behind c;
    is = (w.2, o.2, x.is, i.2, y.is, c.2);
    is_spelled = ap (λ z. w.0 ∷ (o.0 ∷ spelled_visitor v (i.0 ∷ z))) (closed tokens (part.behind + 1) more e whole c.0 y c.1)
        ∙ (ap (λ z. w.0 ∷ (o.0 ∷ spelled_visitor v z)) (sym (drop-there tokens part.behind i.0 i.1))
        ∙ (ap (λ z. w.0 ∷ (o.0 ∷ z)) x.is_spelled ∙ opened tokens place w.0 o.0 w.1 o.1));
  })

  in-there : (rows : List NodeRow) (v : Visitor) (part : HeadPart) → IsVisitorAt tokens (place + 2) rows v part → IsThere (IsWord In) tokens part.behind → ForThere
  in-there rows v part x i = elim (expression-there f WithCommas tokens (part.behind + 1) (behind-there (IsWord In) tokens part.behind i)) [
    | Lacking stop s ↦ Nothing stop (for-object-stops-at tokens place rows part w o (v, x) i stop s)
    | Found more e whole y ↦ elim (mark-there CloseParenthesis tokens whole.behind) [
      | inr n ↦ Nothing whole.behind (for-object-no-close-at tokens place rows more part whole w o (v, x) i (e, y) whole.behind (refl, n))
      | inl c ↦ in-is rows v part x i more e whole y c
    ]
  ]

  -- behind a `var`

  module _ (v : IsThere (IsWord VarWord) tokens (place + 2)) (behind : ℕ) where
    next-is : place + 3 ≡ (place + 2) + 1
    next-is = omega arith

    var-spelled : (x : List Lexeme) → x ≡ drop (place + 3) tokens → v.0 ∷ x ≡ drop (place + 2) tokens
    var-spelled x e = ap (λ z. v.0 ∷ z) e ∙ (ap (λ k. v.0 ∷ drop k tokens) next-is ∙ sym (drop-there tokens (place + 2) v.0 v.1))

    var-parts : (d : Declarations) → AreAt tokens (place + 3) behind d → (IsThere (IsMark Comma) tokens behind → ⊥) → (are_bare d ≡ true → IsThere (IsWord In) tokens behind → ⊥) → ForThere
    var-parts d a no_comma no_in =
        let t = laid-out (first_tree (FirstVar v.0 d) v.0) [] in
        let part : HeadPart = record { node = t.number; height = min 65 (first_levels (FirstVar v.0 d)); behind = behind } in
        first-parts t.after (FirstVar v.0 d) part (record {
          from = omega (arith, a.from);
          within = a.within;
          is = (v.2, a.are);
          is_spelled = var-spelled _ a.is_spelled;
          tree = λ next h. t.at;
          height = refl;
          stops = λ facts z. first-declarations-lack facts v.0 d (drop behind tokens) v.2 a.are
              (λ x g h. a.no_more x (sym (first-there tokens behind) ∙ g) (λ m. no_comma (x, sym (first-there tokens behind) ∙ g, m)) h)
              (lacks-there (IsMark Semicolon) tokens behind z)
              (λ name e. lacks-there (IsWord In) tokens behind (no_in (ap are_bare e)));
        })

    var-in : (d : Declarations) → AreAt tokens (place + 3) behind d → are_bare d ≡ true → IsThere (IsWord In) tokens behind → ForThere
    var-in d a b i = by d.first d.others refl refl
      where
        by : (first : Declaration) (others : List FurtherDeclaration) → d.first ≡ first → d.others ≡ others → ForThere
        by (Bare name) [] p q =
            let e : d ≡ record { first = Bare name; others = [] } = ap (λ g. record { first = g; others = d.others }) p ∙ ap (λ u. record { first = Bare name; others = u }) q in
            let c : AreAt tokens (place + 3) behind (record { first = Bare name; others = [] }) = subst (λ (g : Declarations). AreAt tokens (place + 3) behind g) e a in
            let t = laid-out (visitor_tree (Variable v.0 name)) [] in
            in-there t.after (Variable v.0 name) (record { node = t.number; height = min 65 (visitor_levels (Variable v.0 name)); behind = behind }) (record {
              from = omega (arith, c.from);
              within = c.within;
              is = (v.2, c.are.0);
              is_spelled = var-spelled _ c.is_spelled;
              tree = t.at;
              height = refl;
            }) i
        by (Bare name) (u ∷ us) p q = let e : are_bare d ≡ are_bare (record { first = Bare name; others = u ∷ us }) = ap (λ g. are_bare (record { first = g; others = d.others })) p ∙ ap (λ z. are_bare (record { first = Bare name; others = z })) q in absurd (cc)
        by (Valued name operator value) [] p q = let e : are_bare d ≡ are_bare (record { first = Valued name operator value; others = [] }) = ap (λ g. are_bare (record { first = g; others = d.others })) p ∙ ap (λ z. are_bare (record { first = Valued name operator value; others = z })) q in absurd (cc)
        by (Valued name operator value) (u ∷ us) p q = let e : are_bare d ≡ are_bare (record { first = Valued name operator value; others = u ∷ us }) = ap (λ g. are_bare (record { first = g; others = d.others })) p ∙ ap (λ z. are_bare (record { first = Valued name operator value; others = z })) q in absurd (cc)

    var-or-in : (d : Declarations) → AreAt tokens (place + 3) behind d → (IsThere (IsMark Comma) tokens behind → ⊥) → (b : Bool) → are_bare d ≡ b → ForThere
    var-or-in d a no_comma false b = var-parts d a no_comma (λ k i. let q = sym b ∙ k in absurd (cc))
    var-or-in d a no_comma true b = elim (word-there In tokens behind) [
      | inl i ↦ var-in d a b i
      | inr n ↦ var-parts d a no_comma (λ k i. n i)
    ]

  for-var : IsThere (IsWord VarWord) tokens (place + 2) → ForThere
  for-var v = elim (declarations-there f tokens (place + 3) (let l = behind-there (IsWord VarWord) tokens (place + 2) v in omega arith)) [
    | AllDeclare behind d a no_comma ↦ var-or-in v behind d a no_comma (are_bare d) refl
    | AllStop bad s ↦ Nothing bad (for-declarations-stop-at tokens place w o v (place + 3) (omega arith) bad s)
  ]

  -- behind an expression

  expression-parts : (rows : List NodeRow) (e : Phrase) (whole : Whole) → IsWholeAt WithCommas tokens (place + 2) rows e whole → (IsThere (IsMark Semicolon) tokens (place + 2) → ⊥) → (IsThere (IsWord VarWord) tokens (place + 2) → ⊥) → (whole.is_target ≡ true → IsThere (IsWord In) tokens whole.behind → ⊥) → ForThere
  expression-parts rows e whole h s v n = first-parts rows (FirstExpression e) (record { node = whole.node; height = whole.height; behind = whole.behind }) (first-at tokens (place + 2) rows e whole h s v n)

  target-or-parts : (rows : List NodeRow) (e : Phrase) (whole : Whole) → IsWholeAt WithCommas tokens (place + 2) rows e whole → (IsThere (IsMark Semicolon) tokens (place + 2) → ⊥) → (IsThere (IsWord VarWord) tokens (place + 2) → ⊥) → (b : Bool) → whole.is_target ≡ b → ForThere
  target-or-parts rows e whole h s v false b = expression-parts rows e whole h s v (λ k i. let q = sym b ∙ k in absurd (cc))
  target-or-parts rows e whole h s v true b = elim (word-there In tokens whole.behind) [
    | inl i ↦ in-there rows (Target e) (record { node = whole.node; height = whole.height; behind = whole.behind }) (target-at tokens (place + 2) rows e whole h b) i
    | inr n ↦ expression-parts rows e whole h s v (λ k i. n i)
  ]

  for-rest : ForThere
  for-rest = elim (word-there VarWord tokens (place + 2)) [
    | inl v ↦ for-var v
    | inr v ↦ elim (mark-there Semicolon tokens (place + 2)) [
      | inl m ↦ first-parts _ NoFirst _ (no-first-at tokens (place + 2) _ _ m (inside-within tokens place o) (absent-at tokens (place + 2) [] _ m.0 [] 0 refl refl refl))
      | inr s ↦ elim (expression-there f WithCommas tokens (place + 2) (inside-within tokens place o)) [
        | Found rows e whole h ↦ target-or-parts rows e whole h s v whole.is_target refl
        | Lacking stop k ↦ Nothing stop (for-expression-stops-at tokens place w o s v stop k)
      ]
    ]
  ]

pub for-there : (f : BeginFacts) (tokens : List Lexeme) (place : ℕ) → IsThere (IsWord ForWord) tokens place → HeadThere (IsWord ForWord) tokens place
for-there f tokens place w = elim (mark-there OpenParenthesis tokens (place + 1)) [
  | inr n ↦ Nothing (place + 1) (for-no-open-at tokens place w (place + 1) (refl, n))
  | inl o ↦ for-rest f tokens place w o
]
