-- What is read of heads.
use Rattle.std.proofs.Common.{◌≡◌, ℕ, ◌+◌, ◌≤◌, true, inl, inr, List, [], ◌∷◌, ◌++◌, length, Option, Some, None, refl, sym, ◌∙◌, ap, subst, arith, drop, max, Ok, Err}
use Rattle.std.specs.Prelude.{slice_get, slice_index_or, Result, IfOk}
use Rattle.std.proofs.lemmas.Option.{slice_get_within, get_or_from_slice_get}
use Rattle.es_lexer.specs.declared.words.ReservedWord.TheVariants.{For as ForWord, In, Var as VarWord}
use Rattle.es_lexer.specs.declared.punctuators.Punctuator.{Punctuator}
use Rattle.es_lexer.specs.declared.punctuators.Punctuator.TheVariants.{OpenParenthesis, CloseParenthesis, Semicolon, Comma}
use Rattle.es_expressions.specs.Phrases.{Phrase, spelled as spelled_expression}
use Rattle.es_expressions.specs.Meaning.{node, one, tree_of}
use Rattle.es_expressions.specs.Nodes.{NodeRow}
use Rattle.es_expressions.specs.Trees.Trees.{NoTrees}
use Rattle.es_expressions.specs.declared.expressions.Extent.TheVariants.{WithCommas}
use Rattle.es_expressions.specs.declared.lexemes.Lexeme.{Lexeme}
use Rattle.es_expressions.specs.declared.nodes.Form.{Form}
use Rattle.es_expressions.specs.declared.nodes.Form.TheVariants.{For as ForForm, ForIn as ForInForm, Var as VarForm, Empty as EmptyForm}
use Rattle.es_reader.specs.Statements.{Declaration, FurtherDeclaration, Declarations, First, Visitor, Head, spelled_first, spelled_part, spelled_visitor}
use Rattle.es_reader.specs.Statements.Declaration.{Bare, Valued}
use Rattle.es_reader.specs.Statements.First.{NoFirst, FirstExpression, FirstVar}
use Rattle.es_reader.specs.Statements.Visitor.{Target, Variable}
use Rattle.es_reader.specs.Statements.Head.{If, While, For, ForIn}
use Rattle.es_reader.specs.Grammar.{IsMark, IsWord}
use Rattle.es_reader.specs.Meaning.{declarations_end, declaration_trees, with_head, first_tree, part_tree, visitor_tree}
use Rattle.es_reader.specs.Programs.{AreTreesOf, first_names, visitor_names}
use Rattle.es_reader.specs.Told.{with_names}
use Rattle.es_reader.specs.Parts.{IsThere, IsWholeAt, MayGrow}
use Rattle.es_reader.specs.Simples.{AreDeclaredAt, are_bare}
use Rattle.es_reader.specs.Heads.{IsTestWord, IsHeadAt, IsFirstAt, IsPartAt, IsVisitorAt, IsAbsentAt}
use Rattle.es_reader.specs.declared.declarations.DeclaredNames.{DeclaredNames}
use Rattle.es_reader.specs.declared.heads.HeadRead.{HeadRead}
use Rattle.es_reader.specs.declared.heads.HeadPart.{HeadPart}
use Rattle.es_reader.specs.declared.wholes.Whole.{Whole}
use Rattle.es_reader.specs.Openings.{first_of}
use Rattle.es_reader.proofs.Spelling.{expression-onward}
use Rattle.es_reader.proofs.PartStops.{part-lacks}
use Rattle.es_reader.proofs.HeadStops.{EndsFirst, Lacks, first-expression-stops, first-declarations-lack}
use Rattle.es_reader.proofs.Readings.{first-there, no-further-at}
use Rattle.es_reader.proofs.RangeLemmas.{drop-there}
use Rattle.es_reader.proofs.TreeLemmas.{row, pushed-tree, tree-grows}
use Rattle.es_reader.proofs.DeclarationLemmas.{same-node}

pub if-ok : {A E : Type 0} (r : Result A E) (P Q : A → Type 0) → ((x : A) → P x → Q x) → IfOk r P → IfOk r Q
if-ok (Ok x) P Q h p = h x p
if-ok (Err e) P Q h p = tt

pub opened : (tokens : List Lexeme) (place : ℕ) (word mark : Lexeme) → slice_get tokens place ≡ Some word → slice_get tokens (place + 1) ≡ Some mark → word ∷ (mark ∷ drop (place + 2) tokens) ≡ drop place tokens
opened tokens place word mark w m =
    let up : place + 2 ≡ (place + 1) + 1 = omega arith in
    ap (λ k. word ∷ (mark ∷ drop k tokens)) up ∙ (ap (λ x. word ∷ x) (sym (drop-there tokens (place + 1) mark m)) ∙ sym (drop-there tokens place word w))

pub closed : (tokens : List Lexeme) (place : ℕ) (rows : List NodeRow) (e : Phrase) (whole : Whole) (mark : Lexeme) → IsWholeAt WithCommas tokens place rows e whole → slice_get tokens whole.behind ≡ Some mark → spelled_expression e (mark ∷ drop (whole.behind + 1) tokens) ≡ drop place tokens
closed tokens place rows e whole mark w m = ap (λ x. spelled_expression e x) (sym (drop-there tokens whole.behind mark m)) ∙ w.is_spelled

pub test-at : (tokens : List Lexeme) (place : ℕ) (rows : List NodeRow) (form : Form) (test : Whole) (t open_mark close_mark : Lexeme) (read : HeadRead)
    → IsThere (IsTestWord form) tokens place → slice_get tokens (place + 1) ≡ Some open_mark → IsMark OpenParenthesis open_mark
    → (e : Phrase) × IsWholeAt WithCommas tokens (place + 2) rows e test → slice_get tokens test.behind ≡ Some close_mark → IsMark CloseParenthesis close_mark
    → read.form ≡ form → read.start ≡ (slice_index_or tokens place t).start → read.children.items ≡ test.node ∷ [] → read.height ≡ test.height → read.behind ≡ test.behind + 1
    → (names : List (List ℕ)) → (h : Head) × IsHeadAt tokens place rows h names names read
test-at tokens place rows which test t o c read (word, there, inl w) om oi ws cm ci rf rs rc rh rb names =
    let x = ws.1 in (
      If word o ws.0 c,
      record {
        from = omega (arith, x.from);
        within = let l = slice_get_within tokens test.behind c cm in omega arith;
        is = (w.0, oi, x.is, ci);
        is_spelled = ap (λ k. word ∷ (o ∷ spelled_expression ws.0 (c ∷ drop k tokens))) rb ∙ (ap (λ z. word ∷ (o ∷ z)) (closed tokens (place + 2) rows ws.0 test c x cm) ∙ opened tokens place word o there om);
        form = rf ∙ w.1;
        start = rs ∙ ap (λ z. z.start) (get_or_from_slice_get tokens place word t there);
        trees = subst (λ (ns : List ℕ). AreTreesOf (one (tree_of ws.0)) rows ns) (sym rc) (x.tree, tt);
        height = rh ∙ x.height;
        names = refl;
      },
    )
test-at tokens place rows which test t o c read (word, there, inr w) om oi ws cm ci rf rs rc rh rb names =
    let x = ws.1 in (
      While word o ws.0 c,
      record {
        from = omega (arith, x.from);
        within = let l = slice_get_within tokens test.behind c cm in omega arith;
        is = (w.0, oi, x.is, ci);
        is_spelled = ap (λ k. word ∷ (o ∷ spelled_expression ws.0 (c ∷ drop k tokens))) rb ∙ (ap (λ z. word ∷ (o ∷ z)) (closed tokens (place + 2) rows ws.0 test c x cm) ∙ opened tokens place word o there om);
        form = rf ∙ w.1;
        start = rs ∙ ap (λ z. z.start) (get_or_from_slice_get tokens place word t there);
        trees = subst (λ (ns : List ℕ). AreTreesOf (one (tree_of ws.0)) rows ns) (sym rc) (x.tree, tt);
        height = rh ∙ x.height;
        names = refl;
      },
    )

pub absent-at : (tokens : List Lexeme) (place : ℕ) (before after : List NodeRow) (t : Lexeme) (kids : List ℕ) (number : ℕ)
    → kids ≡ [] → number ≡ length before → after ≡ before ++ (row (node EmptyForm (slice_index_or tokens place t).start (slice_index_or tokens place t).start None) kids ∷ [])
    → IsAbsentAt tokens place after (record { node = number; height = 1; behind = place })
absent-at tokens place before after t kids number none n p = record {
  behind = refl;
  tree = λ next h.
      let start : (slice_index_or tokens place t).start ≡ next.start = ap (λ z. z.start) (get_or_from_slice_get tokens place next t h) in
      pushed-tree before after (node EmptyForm (slice_index_or tokens place t).start (slice_index_or tokens place t).start None) (node EmptyForm next.start next.start None) NoTrees [] number tt n
      (p ∙ ap (λ k. before ++ (row (node EmptyForm (slice_index_or tokens place t).start (slice_index_or tokens place t).start None) k ∷ [])) none)
      (same-node EmptyForm (slice_index_or tokens place t).start (slice_index_or tokens place t).start next.start next.start None None start start refl);
  height = refl;
}

pub no-part-at : (mark : Punctuator) (tokens : List Lexeme) (place : ℕ) (rows : List NodeRow) (part : HeadPart) → IsThere (IsMark mark) tokens place → place ≤ length tokens → IsAbsentAt tokens place rows part → (e : Option Phrase) × IsPartAt mark tokens place rows e part
no-part-at mark tokens place rows part there l a = (
  None,
  record {
    from = let b = a.behind in omega arith;
    within = let b = a.behind in omega arith;
    is = tt;
    is_spelled = ap (λ k. drop k tokens) a.behind;
    tree = λ next h. a.tree next (ap (λ k. slice_get tokens k) (sym a.behind) ∙ h);
    height = a.height;
    ends = subst (λ k. IsThere (IsMark mark) tokens k) (sym a.behind) there;
  },
)

pub part-at : (mark : Punctuator) (tokens : List Lexeme) (place : ℕ) (rows : List NodeRow) (whole : Whole) → (IsThere (IsMark mark) tokens place → ⊥) → (e : Phrase) × IsWholeAt WithCommas tokens place rows e whole → (e : Option Phrase) × IsPartAt mark tokens place rows e (record { node = whole.node; height = whole.height; behind = whole.behind })
part-at mark tokens place rows whole other ws = let w = ws.1 in (
  Some ws.0,
  record {
    from = omega (arith, w.from);
    within = w.within;
    is = w.is;
    is_spelled = w.is_spelled;
    tree = λ next h. w.tree;
    height = w.height;
    ends = (other, w.no_more);
  },
)

-- the first part

pub lacks-whole : (Is : Lexeme → Type 0) (tokens : List Lexeme) (place : ℕ) (x others : List Lexeme) → x ++ others ≡ drop place tokens → (IsThere Is tokens place → ⊥) → Lacks Is (x ++ others)
lacks-whole Is tokens place x others e n = λ t f i. n (t, sym (first-there tokens place) ∙ (sym (ap first_of e) ∙ f), i)

pub lacks-there : (Is : Lexeme → Type 0) (tokens : List Lexeme) (place : ℕ) → (IsThere Is tokens place → ⊥) → Lacks Is (drop place tokens)
lacks-there Is tokens place n = λ t f i. n (t, sym (first-there tokens place) ∙ f, i)

pub no-first-at : (tokens : List Lexeme) (place : ℕ) (rows : List NodeRow) (part : HeadPart) → IsThere (IsMark Semicolon) tokens place → place ≤ length tokens → IsAbsentAt tokens place rows part → IsFirstAt tokens place rows NoFirst part
no-first-at tokens place rows part there l a = record {
  from = let b = a.behind in omega arith;
  within = let b = a.behind in omega arith;
  is = tt;
  is_spelled = ap (λ k. drop k tokens) a.behind;
  tree = λ next h. a.tree next (ap (λ k. slice_get tokens k) (sym a.behind) ∙ h);
  height = a.height;
  stops = λ facts n. absurd (n (subst (λ k. IsThere (IsMark Semicolon) tokens k) (sym a.behind) there));
}

pub first-at : (tokens : List Lexeme) (place : ℕ) (rows : List NodeRow) (e : Phrase) (whole : Whole) → IsWholeAt WithCommas tokens place rows e whole → (IsThere (IsMark Semicolon) tokens place → ⊥) → (IsThere (IsWord VarWord) tokens place → ⊥) → (whole.is_target ≡ true → IsThere (IsWord In) tokens whole.behind → ⊥) → IsFirstAt tokens place rows (FirstExpression e) (record { node = whole.node; height = whole.height; behind = whole.behind })
first-at tokens place rows e whole w no_semicolon no_var no_in = record {
  from = omega (arith, w.from);
  within = w.within;
  is = w.is;
  is_spelled = w.is_spelled;
  tree = λ next h. w.tree;
  height = w.height;
  stops = λ facts n. first-expression-stops (spelled_expression e []) (drop whole.behind tokens)
      (part-lacks facts EndsFirst e (drop whole.behind tokens) w.is (no-further-at WithCommas e tokens whole.behind w.no_more)
      (λ t f a. elim a [ inl m ↦ n (t, sym (first-there tokens whole.behind) ∙ f, m) | inr q ↦ no_in (w.target ∙ q.1) (t, sym (first-there tokens whole.behind) ∙ f, q.0) ]))
      (lacks-whole (IsMark Semicolon) tokens place (spelled_expression e []) (drop whole.behind tokens) (sym (expression-onward e [] (drop whole.behind tokens)) ∙ w.is_spelled) no_semicolon)
      (lacks-whole (IsWord VarWord) tokens place (spelled_expression e []) (drop whole.behind tokens) (sym (expression-onward e [] (drop whole.behind tokens)) ∙ w.is_spelled) no_var);
}

pub target-at : (tokens : List Lexeme) (place : ℕ) (rows : List NodeRow) (e : Phrase) (whole : Whole) → IsWholeAt WithCommas tokens place rows e whole → whole.is_target ≡ true → IsVisitorAt tokens place rows (Target e) (record { node = whole.node; height = whole.height; behind = whole.behind })
target-at tokens place rows e whole w t = record {
  from = omega (arith, w.from);
  within = w.within;
  is = (w.is, sym w.target ∙ t);
  is_spelled = w.is_spelled;
  tree = w.tree;
  height = w.height;
}

pub first-var-at : (tokens : List Lexeme) (place : ℕ) (middle after : List NodeRow) (names behind : List (List ℕ)) (declared : DeclaredNames) (t : Lexeme) (number : ℕ) (next : ℕ) → next ≡ place + 1
    → (word : IsThere (IsWord VarWord) tokens place) → (d : Declarations) → AreDeclaredAt tokens next middle d names behind declared
    → (IsThere (IsMark Comma) tokens declared.behind → ⊥) → (declared.is_bare ≡ true → IsThere (IsWord In) tokens declared.behind → ⊥)
    → number ≡ length middle → after ≡ middle ++ (row (node VarForm (slice_index_or tokens place t).start declared.«end» None) declared.nodes.items ∷ [])
    → IsFirstAt tokens place after (FirstVar word.0 d) (record { node = number; height = declared.height; behind = declared.behind })
first-var-at tokens place middle after names behind declared t number next up word d w no_comma no_in n p =
    let start : (slice_index_or tokens place t).start ≡ word.0.start = ap (λ x. x.start) (get_or_from_slice_get tokens place word.0 t word.1) in
    record {
      from = omega (arith, w.from);
      within = w.within;
      is = (word.2, w.are);
      is_spelled = ap (λ x. word.0 ∷ x) w.is_spelled ∙ (ap (λ k. word.0 ∷ drop k tokens) up ∙ sym (drop-there tokens place word.0 word.1));
      tree = λ x h. pushed-tree middle after (node VarForm (slice_index_or tokens place t).start declared.«end» None) (node VarForm word.0.start (declarations_end d) None) (declaration_trees d) declared.nodes.items number w.trees n p
          (same-node VarForm (slice_index_or tokens place t).start declared.«end» word.0.start (declarations_end d) None None start w.stops refl);
      height = w.height;
      stops = λ facts z. first-declarations-lack facts word.0 d (drop declared.behind tokens) word.2 w.are
          (λ x f g. w.no_more x (sym (first-there tokens declared.behind) ∙ f) (λ m. no_comma (x, sym (first-there tokens declared.behind) ∙ f, m)) g)
          (lacks-there (IsMark Semicolon) tokens declared.behind z)
          (λ name e. lacks-there (IsWord In) tokens declared.behind (no_in (w.bare ∙ ap are_bare e)));
    }

-- one bare name before `in`
bare-of : (d : Declarations) → are_bare d ≡ true → (name : Lexeme) × (d ≡ record { first = Bare name; others = [] })
bare-of d h = of d.first d.others h refl refl
  where
    of : (first : Declaration) (others : List FurtherDeclaration) → are_bare (record { first = first; others = others }) ≡ true → d.first ≡ first → d.others ≡ others → (name : Lexeme) × (d ≡ record { first = Bare name; others = [] })
    of (Bare name) [] h p q = (name, ap (λ f. record { first = f; others = d.others }) p ∙ ap (λ o. record { first = Bare name; others = o }) q)
    of (Bare name) (x ∷ xs) h p q = absurd (cc)
    of (Valued name operator value) [] h p q = absurd (cc)
    of (Valued name operator value) (x ∷ xs) h p q = absurd (cc)

pub variable-at : (tokens : List Lexeme) (place : ℕ) (middle after : List NodeRow) (names behind : List (List ℕ)) (declared : DeclaredNames) (t : Lexeme) (number : ℕ) (next : ℕ) → next ≡ place + 1
    → IsThere (IsWord VarWord) tokens place → (d : Declarations) × AreDeclaredAt tokens next middle d names behind declared → declared.is_bare ≡ true
    → number ≡ length middle → after ≡ middle ++ (row (node VarForm (slice_index_or tokens place t).start declared.«end» None) declared.nodes.items ∷ [])
    → (v : Visitor) × IsVisitorAt tokens place after v (record { node = number; height = declared.height; behind = declared.behind }) × (behind ≡ with_names names (visitor_names v))
variable-at tokens place middle after names behind declared t number next up word ds b n p =
    let is = bare-of ds.0 (sym ds.1.bare ∙ b) in
    let w : AreDeclaredAt tokens next middle (record { first = Bare is.0; others = [] }) names behind declared = subst (λ (d : Declarations). AreDeclaredAt tokens next middle d names behind declared) is.1 ds.1 in (
      Variable word.0 is.0,
      record {
        from = omega (arith, w.from);
        within = w.within;
        is = (word.2, w.are.0);
        is_spelled = ap (λ x. word.0 ∷ x) w.is_spelled ∙ (ap (λ k. word.0 ∷ drop k tokens) up ∙ sym (drop-there tokens place word.0 word.1));
        tree = pushed-tree middle after (node VarForm (slice_index_or tokens place t).start declared.«end» None) (node VarForm word.0.start (declarations_end (record { first = Bare is.0; others = [] })) None) (declaration_trees (record { first = Bare is.0; others = [] })) declared.nodes.items number w.trees n p
            (same-node VarForm (slice_index_or tokens place t).start declared.«end» word.0.start (declarations_end (record { first = Bare is.0; others = [] })) None None (ap (λ x. x.start) (get_or_from_slice_get tokens place word.0 t word.1)) w.stops refl);
        height = w.height;
      },
      w.names,
    )

-- the two of `for`

pub parts-at : (tokens : List Lexeme) (place : ℕ) (rows middle after : List NodeRow) (first test step : HeadPart) (t semicolon second close_mark : Lexeme) (read : HeadRead)
    → IsThere (IsWord ForWord) tokens place → IsThere (IsMark OpenParenthesis) tokens (place + 1)
    → slice_get tokens first.behind ≡ Some semicolon → IsMark Semicolon semicolon → (e : Option Phrase) × IsPartAt Semicolon tokens (first.behind + 1) middle e test
    → slice_get tokens test.behind ≡ Some second → IsMark Semicolon second → (e : Option Phrase) × IsPartAt CloseParenthesis tokens (test.behind + 1) after e step
    → slice_get tokens step.behind ≡ Some close_mark → IsMark CloseParenthesis close_mark → MayGrow rows middle → MayGrow middle after → MayGrow rows after
    → read.form ≡ ForForm → read.start ≡ (slice_index_or tokens place t).start → read.children.items ≡ first.node ∷ (test.node ∷ (step.node ∷ [])) → read.height ≡ max first.height (max test.height step.height) → read.behind ≡ step.behind + 1
    → (f : First) (names behind : List (List ℕ)) → IsFirstAt tokens (place + 2) rows f first → behind ≡ with_names names (first_names f) → (h : Head) × IsHeadAt tokens place after h names behind read
parts-at tokens place rows middle after first test step t semicolon second close_mark read word open_there s1 m1 p2 s2 m2 p3 s3 m3 g1 g2 g3 rf rs rc rh rb f names behind x n =
    let y = p2.1 in
    let z = p3.1 in
    let o = open_there.0 in (
      For word.0 o f semicolon p2.0 second p3.0 close_mark,
      record {
        from = omega (arith, x.from, y.from, z.from);
        within = let l = slice_get_within tokens step.behind close_mark s3 in omega arith;
        is = (word.2, open_there.2, x.is, m1, y.is, m2, z.is, m3);
        is_spelled = ap (λ k. word.0 ∷ (o ∷ spelled_first f (semicolon ∷ spelled_part p2.0 (second ∷ spelled_part p3.0 (close_mark ∷ drop k tokens))))) rb
            ∙ (ap (λ w. word.0 ∷ (o ∷ spelled_first f (semicolon ∷ spelled_part p2.0 (second ∷ spelled_part p3.0 w)))) (sym (drop-there tokens step.behind close_mark s3))
            ∙ (ap (λ w. word.0 ∷ (o ∷ spelled_first f (semicolon ∷ spelled_part p2.0 (second ∷ w)))) z.is_spelled
            ∙ (ap (λ w. word.0 ∷ (o ∷ spelled_first f (semicolon ∷ spelled_part p2.0 w))) (sym (drop-there tokens test.behind second s2))
            ∙ (ap (λ w. word.0 ∷ (o ∷ spelled_first f (semicolon ∷ w))) y.is_spelled
            ∙ (ap (λ w. word.0 ∷ (o ∷ spelled_first f w)) (sym (drop-there tokens first.behind semicolon s1))
            ∙ (ap (λ w. word.0 ∷ (o ∷ w)) x.is_spelled ∙ opened tokens place word.0 o word.1 open_there.1))))));
        form = rf;
        start = rs ∙ ap (λ w. w.start) (get_or_from_slice_get tokens place word.0 t word.1);
        trees = subst (λ (ns : List ℕ). AreTreesOf (with_head (For word.0 o f semicolon p2.0 second p3.0 close_mark) NoTrees) after ns) (sym rc)
            (tree-grows (first_tree f semicolon) rows after first.node g3 (x.tree semicolon s1), (tree-grows (part_tree p2.0 second) middle after test.node g2 (y.tree second s2), (z.tree close_mark s3, tt)));
        height = let a = x.height in let b = y.height in let c = z.height in omega arith;
        names = n;
      },
    )

pub in-at : (tokens : List Lexeme) (place : ℕ) (rows after : List NodeRow) (visitor : HeadPart) (object : Whole) (t close_mark : Lexeme) (read : HeadRead)
    → IsThere (IsWord ForWord) tokens place → IsThere (IsMark OpenParenthesis) tokens (place + 1)
    → IsThere (IsWord In) tokens visitor.behind → (e : Phrase) × IsWholeAt WithCommas tokens (visitor.behind + 1) after e object
    → slice_get tokens object.behind ≡ Some close_mark → IsMark CloseParenthesis close_mark → MayGrow rows after
    → read.form ≡ ForInForm → read.start ≡ (slice_index_or tokens place t).start → read.children.items ≡ visitor.node ∷ (object.node ∷ []) → read.height ≡ max visitor.height object.height → read.behind ≡ object.behind + 1
    → (v : Visitor) (names behind : List (List ℕ)) → IsVisitorAt tokens (place + 2) rows v visitor → behind ≡ with_names names (visitor_names v) → (h : Head) × IsHeadAt tokens place after h names behind read
in-at tokens place rows after visitor object t close_mark read word open_there in_there ws s3 m3 g rf rs rc rh rb v names behind x n =
    let y = ws.1 in
    let o = open_there.0 in (
      ForIn word.0 o v in_there.0 ws.0 close_mark,
      record {
        from = omega (arith, x.from, y.from);
        within = let l = slice_get_within tokens object.behind close_mark s3 in omega arith;
        is = (word.2, open_there.2, x.is, in_there.2, y.is, m3);
        is_spelled = ap (λ k. word.0 ∷ (o ∷ spelled_visitor v (in_there.0 ∷ spelled_expression ws.0 (close_mark ∷ drop k tokens)))) rb
            ∙ (ap (λ w. word.0 ∷ (o ∷ spelled_visitor v (in_there.0 ∷ w))) (closed tokens (visitor.behind + 1) after ws.0 object close_mark y s3)
            ∙ (ap (λ w. word.0 ∷ (o ∷ spelled_visitor v w)) (sym (drop-there tokens visitor.behind in_there.0 in_there.1))
            ∙ (ap (λ w. word.0 ∷ (o ∷ w)) x.is_spelled ∙ opened tokens place word.0 o word.1 open_there.1)));
        form = rf;
        start = rs ∙ ap (λ w. w.start) (get_or_from_slice_get tokens place word.0 t word.1);
        trees = subst (λ (ns : List ℕ). AreTreesOf (with_head (ForIn word.0 o v in_there.0 ws.0 close_mark) NoTrees) after ns) (sym rc)
            (tree-grows (visitor_tree v) rows after visitor.node g x.tree, (y.tree, tt));
        height = let a = x.height in let b = y.height in omega arith;
        names = n;
      },
    )
