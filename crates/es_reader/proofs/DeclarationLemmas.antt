-- What is read of the names of a `var`.
use Rattle.std.proofs.Common.{◌≡◌, ℕ, ◌+◌, ◌≤◌, Bool, true, false, not, inl, inr, List, [], ◌∷◌, ◌++◌, length, Option, Some, refl, sym, ◌∙◌, ap, subst, arith, drop, min, max}
use Rattle.std.specs.Prelude.{slice_index_or}
use Rattle.std.proofs.lemmas.Option.{slice_get_within, get_or_from_slice_get}
use Rattle.es_lexer.specs.declared.punctuators.Punctuator.TheVariants.{Assign, Comma}
use Rattle.es_expressions.specs.Roles.{is_name}
use Rattle.es_expressions.specs.Phrases.{Phrase}
use Rattle.es_expressions.specs.Meaning.{node, one, tree_of}
use Rattle.es_expressions.specs.Nodes.{NodeRow, IsTreeAt}
use Rattle.es_expressions.specs.Trees.Trees.{NoTrees, OneMore}
use Rattle.es_expressions.specs.declared.expressions.Extent.TheVariants.{WithoutCommas}
use Rattle.es_expressions.specs.declared.lexemes.Lexeme.{Lexeme}
use Rattle.es_expressions.specs.declared.lexemes.Symbol.{Symbol}
use Rattle.es_expressions.specs.declared.lexemes.Symbol.TheVariants.{Name}
use Rattle.es_expressions.specs.declared.nodes.Form.{Form}
use Rattle.es_expressions.specs.declared.nodes.Form.TheVariants.{Declarator as DeclaratorForm}
use Rattle.es_reader.specs.Statements.{Declaration, FurtherDeclaration, Declarations, spelled_declaration, spelled_others, spelled_declarations}
use Rattle.es_reader.specs.Statements.Declaration.{Bare, Valued}
use Rattle.es_reader.specs.Grammar.{IsMark, IsName, IsDeclaration, AreFurther, DeclarationGoesOn, last_of, name_of}
use Rattle.es_reader.specs.Meaning.{declaration_end, declaration_tree, declaration_trees, further_trees}
use Rattle.es_reader.specs.Levels.{declaration_levels, further_levels}
use Rattle.es_reader.specs.Programs.{declared_name, declared_names, further_names, AreTreesOf}
use Rattle.es_reader.specs.Parts.{IsThere, IsWholeAt, MayGrow}
use Rattle.es_reader.specs.Simples.{is_bare, is_only_bare, DeclarationStops, IsDeclaredAt, AreDeclaredAt}
use Rattle.es_reader.specs.Told.{with_name, with_names}
use Rattle.es_reader.specs.declared.declarations.Declared.{Declared}
use Rattle.es_reader.specs.declared.declarations.DeclaredNames.{DeclaredNames}
use Rattle.es_reader.specs.declared.wholes.Whole.{Whole}
use Rattle.es_reader.proofs.RangeLemmas.{drop-there}
use Rattle.es_reader.proofs.TreeLemmas.{row, pushed-tree, trees-grow}

pub same-node : (f : Form) (a b c d : ℕ) (s t : Option Symbol) → a ≡ c → b ≡ d → s ≡ t → node f a b s ≡ node f c d t
same-node f a b c d s t p q r = ap (λ x. node f x b s) p ∙ (ap (λ y. node f c y s) q ∙ ap (λ z. node f c d z) r)

pub name-there : (token : Lexeme) (name : List ℕ) → token.symbol ≡ Name name → IsName token
name-there token name h = ap is_name h

pub name-is : (token : Lexeme) (name : List ℕ) → token.symbol ≡ Name name → name ≡ name_of token.symbol
name-is token name h = sym (ap name_of h)

bare-stops : (token t : Lexeme) → (IsMark Assign t → ⊥) → (IsMark Comma t → ⊥) → DeclarationGoesOn (Bare token) t → ⊥
bare-stops token t n c (inl m) = c m
bare-stops token t n c (inr m) = n m

pub bare-at : (tokens : List Lexeme) (place : ℕ) (before rows : List NodeRow) (number : ℕ) (names after : List (List ℕ)) (name share : List ℕ) (t u v : Lexeme) (kids : List ℕ)
    → IsThere (λ token. token.symbol ≡ Name name) tokens place → kids ≡ [] → share ≡ name → number ≡ length before
    → rows ≡ before ++ (row (node DeclaratorForm (slice_index_or tokens place t).start (slice_index_or tokens place u).«end» (Some (Name share))) kids ∷ [])
    → after ≡ with_name names name → (IsThere (IsMark Assign) tokens (place + 1) → ⊥)
    → (d : Declaration) × IsDeclaredAt tokens place rows d names after (record { node = number; height = 1; has_value = false; «end» = (slice_index_or tokens place v).«end»; behind = place + 1 })
bare-at tokens place before rows number names after name share t u v kids there none same n p m lacks =
    let token = there.0 in
    let first : (w : Lexeme) → slice_index_or tokens place w ≡ token = λ w. get_or_from_slice_get tokens place token w there.1 in (
      Bare token,
      record {
        from = omega arith;
        within = let l = slice_get_within tokens place token there.1 in omega arith;
        is = name-there token name there.2;
        is_spelled = sym (drop-there tokens place token there.1);
        no_more = λ x h c g. bare-stops token x (λ q. lacks (x, h, q)) c g;
        tree = pushed-tree before rows (node DeclaratorForm (slice_index_or tokens place t).start (slice_index_or tokens place u).«end» (Some (Name share))) (node DeclaratorForm token.start token.«end» (Some token.symbol)) NoTrees [] number tt n
            (p ∙ ap (λ k. before ++ (row (node DeclaratorForm (slice_index_or tokens place t).start (slice_index_or tokens place u).«end» (Some (Name share))) k ∷ [])) none)
            (same-node DeclaratorForm (slice_index_or tokens place t).start (slice_index_or tokens place u).«end» token.start token.«end» (Some (Name share)) (Some token.symbol)
            (ap (λ x. x.start) (first t)) (ap (λ x. x.«end») (first u)) (ap (λ x. Some (Name x)) same ∙ ap (λ x. Some x) (sym there.2)));
        height = refl;
        has_value = refl;
        stops = ap (λ x. x.«end») (first v);
        names = m ∙ ap (λ x. with_name names x) (name-is token name there.2);
      },
    )

pub valued-at : (tokens : List Lexeme) (place : ℕ) (middle rows : List NodeRow) (number height : ℕ) (names after : List (List ℕ)) (name share : List ℕ) (t : Lexeme) (kids : List ℕ) (whole : Whole)
    → IsThere (λ token. token.symbol ≡ Name name) tokens place → IsThere (IsMark Assign) tokens (place + 1)
    → (e : Phrase) × IsWholeAt WithoutCommas tokens (place + 2) middle e whole
    → kids ≡ whole.node ∷ [] → share ≡ name → number ≡ length middle
    → rows ≡ middle ++ (row (node DeclaratorForm (slice_index_or tokens place t).start whole.«end» (Some (Name share))) kids ∷ [])
    → after ≡ with_name names name → height ≡ min 65 (whole.height + 1)
    → (d : Declaration) × IsDeclaredAt tokens place rows d names after (record { node = number; height = height; has_value = true; «end» = whole.«end»; behind = whole.behind })
valued-at tokens place middle rows number height names after name share t kids whole there operator value one_kid same n p m high =
    let token = there.0 in
    let first : slice_index_or tokens place t ≡ token = get_or_from_slice_get tokens place token t there.1 in
    let w = value.1 in
    let up : (place + 1) + 1 ≡ place + 2 = omega arith in (
      Valued token operator.0 value.0,
      record {
        from = omega (arith, w.from);
        within = w.within;
        is = (name-there token name there.2, operator.2, w.is);
        is_spelled = ap (λ x. token ∷ (operator.0 ∷ x)) w.is_spelled
            ∙ (ap (λ k. token ∷ (operator.0 ∷ drop k tokens)) (sym up)
            ∙ (ap (λ x. token ∷ x) (sym (drop-there tokens (place + 1) operator.0 operator.1)) ∙ sym (drop-there tokens place token there.1)));
        no_more = λ x h c g. elim g [ inl q ↦ c q | inr q ↦ w.no_more x h q ];
        tree = pushed-tree middle rows (node DeclaratorForm (slice_index_or tokens place t).start whole.«end» (Some (Name share))) (node DeclaratorForm token.start (declaration_end (Valued token operator.0 value.0)) (Some token.symbol)) (one (tree_of value.0)) (whole.node ∷ []) number (w.tree, tt) n
            (p ∙ ap (λ k. middle ++ (row (node DeclaratorForm (slice_index_or tokens place t).start whole.«end» (Some (Name share))) k ∷ [])) one_kid)
            (same-node DeclaratorForm (slice_index_or tokens place t).start whole.«end» token.start (declaration_end (Valued token operator.0 value.0)) (Some (Name share)) (Some token.symbol)
            (ap (λ x. x.start) first) w.stop (ap (λ x. Some (Name x)) same ∙ ap (λ x. Some x) (sym there.2)));
        height = let h = w.height in omega arith;
        has_value = refl;
        stops = w.stop;
        names = m ∙ ap (λ x. with_name names x) (name-is token name there.2);
      },
    )

-- one more behind the others

pub others-more : (ds : List FurtherDeclaration) (f : FurtherDeclaration) (rest : List Lexeme) → spelled_others (ds ++ (f ∷ [])) rest ≡ spelled_others ds (f.comma ∷ spelled_declaration f.declaration rest)
others-more [] f rest = refl
others-more (d ∷ ds) f rest = ap (λ x. d.comma ∷ spelled_declaration d.declaration x) (others-more ds f rest)

pub further-are : (ds : List FurtherDeclaration) (f : FurtherDeclaration) → AreFurther ds → IsMark Comma f.comma → IsDeclaration f.declaration → AreFurther (ds ++ (f ∷ []))
further-are [] f h c i = (c, i, tt)
further-are (d ∷ ds) f h c i = (h.0, h.1, further-are ds f h.2 c i)

pub last-more : (d : Declaration) (ds : List FurtherDeclaration) (f : FurtherDeclaration) → last_of d (ds ++ (f ∷ [])) ≡ f.declaration
last-more d [] f = refl
last-more d (e ∷ ds) f = last-more e.declaration ds f

levels-more : (ds : List FurtherDeclaration) (f : FurtherDeclaration) → further_levels (ds ++ (f ∷ [])) ≡ max (further_levels ds) (declaration_levels f.declaration)
levels-more [] f = omega arith
levels-more (d ∷ ds) f = let h = levels-more ds f in omega arith

trees-more : (ds : List FurtherDeclaration) (f : FurtherDeclaration) (rows : List NodeRow) (ns : List ℕ) (n : ℕ) → AreTreesOf (further_trees ds) rows ns → IsTreeAt (declaration_tree f.declaration) rows n → AreTreesOf (further_trees (ds ++ (f ∷ []))) rows (ns ++ (n ∷ []))
trees-more [] f rows [] n h t = (t, tt)
trees-more [] f rows (m ∷ ns) n h t = absurd h
trees-more (d ∷ ds) f rows [] n h t = absurd h
trees-more (d ∷ ds) f rows (m ∷ ns) n h t = (h.0, trees-more ds f rows ns n h.1 t)

all-trees-more : (d : Declaration) (ds : List FurtherDeclaration) (f : FurtherDeclaration) (rows : List NodeRow) (ns : List ℕ) (n : ℕ) → AreTreesOf (OneMore (declaration_tree d) (further_trees ds)) rows ns → IsTreeAt (declaration_tree f.declaration) rows n → AreTreesOf (OneMore (declaration_tree d) (further_trees (ds ++ (f ∷ [])))) rows (ns ++ (n ∷ []))
all-trees-more d ds f rows [] n h t = absurd h
all-trees-more d ds f rows (m ∷ ns) n h t = (h.0, trees-more ds f rows ns n h.1 t)

names-more : (ds : List FurtherDeclaration) (f : FurtherDeclaration) → further_names (ds ++ (f ∷ [])) ≡ further_names ds ++ (declared_name f.declaration ∷ [])
names-more [] f = refl
names-more (d ∷ ds) f = ap (λ x. declared_name d.declaration ∷ x) (names-more ds f)

pub with-more : (known xs ys : List (List ℕ)) → with_names known (xs ++ ys) ≡ with_names (with_names known xs) ys
with-more known [] ys = refl
with-more known (x ∷ xs) ys = with-more (with_name known x) xs ys

not-only-bare : (d : Declaration) (ds : List FurtherDeclaration) (f : FurtherDeclaration) → is_only_bare d (ds ++ (f ∷ [])) ≡ false
not-only-bare d [] f = refl
not-only-bare d (e ∷ ds) f = refl

not-not : (b : Bool) → b ≡ not (not b)
not-not true = refl
not-not false = refl

pub declarations-start : (tokens : List Lexeme) (place : ℕ) (rows : List NodeRow) (names after : List (List ℕ)) (first : Declared) (nodes : List ℕ) (d : Declaration) → IsDeclaredAt tokens place rows d names after first → nodes ≡ first.node ∷ [] → (declared : DeclaredNames) → declared.nodes.items ≡ nodes → declared.height ≡ first.height → declared.is_bare ≡ not first.has_value → declared.«end» ≡ first.«end» → declared.behind ≡ first.behind
    → (ds : Declarations) × AreDeclaredAt tokens place rows ds names after declared
declarations-start tokens place rows names after first nodes d h n declared i a b e k = (
  record { first = d; others = [] },
  record {
    from = omega (arith, h.from);
    within = omega (arith, h.within);
    are = (h.is, tt);
    is_spelled = ap (λ x. spelled_declaration d (drop x tokens)) k ∙ h.is_spelled;
    no_more = subst (λ x. DeclarationStops tokens x d) (sym k) h.no_more;
    trees = subst (λ (ns : List ℕ). AreTreesOf (declaration_trees (record { first = d; others = [] })) rows ns) (sym (i ∙ n)) (h.tree, tt);
    height = let x = h.height in let y = positive d in omega arith;
    bare = b ∙ (ap not h.has_value ∙ sym (not-not (is_bare d)));
    stops = e ∙ h.stops;
    names = h.names;
  },
)
  where
    positive : (d : Declaration) → 1 ≤ declaration_levels d
    positive (Bare name) = omega arith
    positive (Valued name operator value) = omega arith

pub declarations-more : (tokens : List Lexeme) (place : ℕ) (rows more : List NodeRow) (names after behind : List (List ℕ)) (before declared : DeclaredNames) (further : Declared)
    → (ds : Declarations) × AreDeclaredAt tokens place rows ds names after before → IsThere (IsMark Comma) tokens before.behind
    → (d : Declaration) × IsDeclaredAt tokens (before.behind + 1) more d after behind further → MayGrow rows more
    → declared.nodes.items ≡ before.nodes.items ++ (further.node ∷ []) → declared.height ≡ max before.height further.height → declared.is_bare ≡ false → declared.«end» ≡ further.«end» → declared.behind ≡ further.behind
    → (ds : Declarations) × AreDeclaredAt tokens place more ds names behind declared
declarations-more tokens place rows more names after behind before declared further old comma new g i a b e k =
    let ds = old.0 in
    let h = old.1 in
    let d = new.0 in
    let w = new.1 in
    let f : FurtherDeclaration = record { comma = comma.0; declaration = d } in
    let all : Declarations = record { first = ds.first; others = ds.others ++ (f ∷ []) } in (
      all,
      record {
        from = omega (arith, h.from, w.from);
        within = omega (arith, w.within);
        are = (h.are.0, further-are ds.others f h.are.1 comma.2 w.is);
        is_spelled = ap (λ x. spelled_declarations all (drop x tokens)) k
            ∙ (ap (λ x. spelled_declaration ds.first x) (others-more ds.others f (drop further.behind tokens))
            ∙ (ap (λ x. spelled_declaration ds.first (spelled_others ds.others (comma.0 ∷ x))) w.is_spelled
            ∙ (ap (λ x. spelled_declaration ds.first (spelled_others ds.others x)) (sym (drop-there tokens before.behind comma.0 comma.1)) ∙ h.is_spelled)));
        no_more = subst (λ x. DeclarationStops tokens declared.behind x) (sym (last-more ds.first ds.others f)) (subst (λ x. DeclarationStops tokens x d) (sym k) w.no_more);
        trees = subst (λ (ns : List ℕ). AreTreesOf (declaration_trees all) more ns) (sym i) (all-trees-more ds.first ds.others f more before.nodes.items further.node (trees-grow (declaration_trees ds) rows more before.nodes.items g h.trees) w.tree);
        height = let x = h.height in let y = w.height in let z = levels-more ds.others f in omega arith;
        bare = b ∙ sym (not-only-bare ds.first ds.others f);
        stops = e ∙ (w.stops ∙ ap declaration_end (sym (last-more ds.first ds.others f)));
        names = w.names ∙ (ap (λ x. with_name x (declared_name d)) h.names
            ∙ (sym (with-more names (declared_names ds) (declared_name d ∷ [])) ∙ ap (λ x. with_names names (declared_name ds.first ∷ x)) (sym (names-more ds.others f))));
      },
    )
