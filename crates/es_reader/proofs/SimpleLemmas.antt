-- What is read of statements that hold no other.
use Rattle.std.proofs.Common.{◌≡◌, ℕ, ◌+◌, true, ◌⊎◌, List, [], ◌∷◌, ◌++◌, length, Option, Some, None, refl, sym, ◌∙◌, ap, subst, arith, drop, min}
use Rattle.std.specs.Prelude.{slice_get, slice_index_or}
use Rattle.std.proofs.lemmas.Option.{slice_get_within, get_or_from_slice_get, same_Some}
use Rattle.es_lexer.specs.declared.words.ReservedWord.TheVariants.{Break, Continue, Var as VarWord, Return as ReturnWord}
use Rattle.es_lexer.specs.declared.punctuators.Punctuator.TheVariants.{Comma, Semicolon}
use Rattle.es_expressions.specs.Phrases.{Phrase, spelled as spelled_expression, start_of, end_of}
use Rattle.es_expressions.specs.Meaning.{node, one, tree_of}
use Rattle.es_expressions.specs.Nodes.{NodeRow}
use Rattle.es_expressions.specs.Trees.Trees.{NoTrees}
use Rattle.es_expressions.specs.declared.expressions.Extent.TheVariants.{WithCommas}
use Rattle.es_expressions.specs.declared.lexemes.Lexeme.{Lexeme}
use Rattle.es_expressions.specs.declared.nodes.Node.{Node as TheNode}
use Rattle.es_expressions.specs.declared.nodes.Form.{Form}
use Rattle.es_expressions.specs.declared.nodes.Form.TheVariants.{Var as VarForm, Empty as EmptyForm, Return as ReturnForm, Expression as ExpressionForm}
use Rattle.es_reader.specs.Statements.{Declarations, Simple, spelled_declarations, spelled_end}
use Rattle.es_reader.specs.Statements.Simple.{Var, Empty, Expression, Jump, Return}
use Rattle.es_reader.specs.Grammar.{IsMark, IsWord, IsOnLine, IsEnd, IsReturnEnd, GoesOn, DeclarationGoesOn, last_of, Setting, BeginsOnLine}
use Rattle.es_reader.specs.Meaning.{end_with, jump_form, declarations_end, declaration_trees}
use Rattle.es_reader.specs.Openings.{first_of}
use Rattle.es_reader.specs.Parts.{IsThere, IsWholeAt, IsEndAt, IsReturnEndAt, IsEnding, IsReturning, NoReturnEnd}
use Rattle.es_reader.specs.Simples.{AreDeclaredAt, IsSimpleAt}
use Rattle.es_reader.specs.declared.declarations.DeclaredNames.{DeclaredNames}
use Rattle.es_reader.specs.declared.wholes.Whole.{Whole}
use Rattle.es_reader.specs.declared.wholes.Ended.{Ended}
use Rattle.es_reader.proofs.LookAhead.{expression-front}
use Rattle.es_reader.proofs.RangeLemmas.{drop-there, there-of}
use Rattle.es_reader.proofs.PhraseLemmas.{first-token}
use Rattle.es_reader.proofs.TreeLemmas.{row, pushed-tree}
use Rattle.es_reader.proofs.DeclarationLemmas.{same-node}

pub is-end : (GoOn : Lexeme → Type 0) (s : Option Lexeme) (rest : List Lexeme) → IsEnding s rest → ((t : Lexeme) (more : List Lexeme) → rest ≡ t ∷ more → GoOn t → ⊥) → IsEnd GoOn s rest
is-end GoOn (Some s) rest h g = h
is-end GoOn None [] h g = tt
is-end GoOn None (t ∷ more) h g = record { may = h.0; no_semicolon = h.1; no_more = g t more refl }

pub is-return-end : (s : Option Lexeme) (rest : List Lexeme) → IsReturning s rest → IsReturnEnd s rest
is-return-end (Some s) rest h = h
is-return-end None [] h = tt
is-return-end None (t ∷ more) h = h

-- where a `;` is the end, nothing is asked of what stands behind it
pub ends-part : (GoOn : Lexeme → Type 0) (tokens : List Lexeme) (place stop : ℕ) (ended : Ended) (e : IsEndAt tokens place stop ended) → ((t : Lexeme) → slice_get tokens place ≡ Some t → GoOn t → ⊥) → IsEnd GoOn e.semicolon (drop ended.behind tokens)
ends-part GoOn tokens place stop ended e g = with_end e.semicolon (drop ended.behind tokens) e.is e.is_spelled
  where
    with_end : (s : Option Lexeme) (rest : List Lexeme) → IsEnding s rest → spelled_end s rest ≡ drop place tokens → IsEnd GoOn s rest
    with_end (Some s) rest h q = h
    with_end None rest h q = is-end GoOn None rest h (λ t more r. g t (there-of tokens place t more (sym q ∙ r)))

-- a pushed node of a form
abbrev pub Pushed : (before after : List NodeRow) (nd : TheNode) (kids : List ℕ) (number : ℕ) → Type 0
Pushed before after nd kids number = (number ≡ length before) × (after ≡ before ++ (row nd kids ∷ []))

pub var-at : (tokens : List Lexeme) (place : ℕ) (middle after : List NodeRow) (names behind : List (List ℕ)) (declared : DeclaredNames) (ended : Ended) (t : Lexeme) (number : ℕ)
    → IsThere (IsWord VarWord) tokens place → (d : Declarations) × AreDeclaredAt tokens (place + 1) middle d names behind declared
    → (IsThere (IsMark Comma) tokens declared.behind → ⊥) → IsEndAt tokens declared.behind declared.«end» ended
    → number ≡ length middle → after ≡ middle ++ (row (node VarForm (slice_index_or tokens place t).start ended.«end» None) declared.nodes.items ∷ [])
    → (p : Setting) → (x : Simple) × IsSimpleAt p tokens place after x names behind (record { node = number; height = declared.height; «end» = ended.«end»; behind = ended.behind })
var-at tokens place middle after names behind declared ended t number word ds no_comma e n p setting =
    let d = ds.0 in
    let w = ds.1 in
    let start : (slice_index_or tokens place t).start ≡ word.0.start = ap (λ x. x.start) (get_or_from_slice_get tokens place word.0 t word.1) in
    let stop : ended.«end» ≡ end_with (declarations_end d) e.semicolon = e.stops ∙ ap (λ x. end_with x e.semicolon) w.stops in (
      Var word.0 d e.semicolon,
      record {
        from = omega (arith, w.from, e.from);
        within = e.within;
        is = (word.2, w.are, ends-part (DeclarationGoesOn (last_of d.first d.others)) tokens declared.behind declared.«end» ended e (λ x h g. w.no_more x h (λ m. no_comma (x, h, m)) g));
        is_spelled = ap (λ x. word.0 ∷ spelled_declarations d x) e.is_spelled ∙ (ap (λ x. word.0 ∷ x) w.is_spelled ∙ sym (drop-there tokens place word.0 word.1));
        tree = pushed-tree middle after (node VarForm (slice_index_or tokens place t).start ended.«end» None) (node VarForm word.0.start (end_with (declarations_end d) e.semicolon) None) (declaration_trees d) declared.nodes.items number w.trees n p
            (same-node VarForm (slice_index_or tokens place t).start ended.«end» word.0.start (end_with (declarations_end d) e.semicolon) None None start stop refl);
        height = w.height;
        stops = stop;
        names = w.names;
      },
    )

pub empty-at : (tokens : List Lexeme) (place : ℕ) (before after : List NodeRow) (t u v : Lexeme) (kids : List ℕ) (number : ℕ)
    → IsThere (IsMark Semicolon) tokens place → kids ≡ []
    → number ≡ length before → after ≡ before ++ (row (node EmptyForm (slice_index_or tokens place t).start (slice_index_or tokens place u).«end» None) kids ∷ [])
    → (p : Setting) (names : List (List ℕ)) → (x : Simple) × IsSimpleAt p tokens place after x names names (record { node = number; height = 1; «end» = (slice_index_or tokens place v).«end»; behind = place + 1 })
empty-at tokens place before after t u v kids number there none n p setting names =
    let token = there.0 in
    let first : (w : Lexeme) → slice_index_or tokens place w ≡ token = λ w. get_or_from_slice_get tokens place token w there.1 in (
      Empty token,
      record {
        from = omega arith;
        within = let l = slice_get_within tokens place token there.1 in omega arith;
        is = there.2;
        is_spelled = sym (drop-there tokens place token there.1);
        tree = pushed-tree before after (node EmptyForm (slice_index_or tokens place t).start (slice_index_or tokens place u).«end» None) (node EmptyForm token.start token.«end» None) NoTrees [] number tt n
            (p ∙ ap (λ k. before ++ (row (node EmptyForm (slice_index_or tokens place t).start (slice_index_or tokens place u).«end» None) k ∷ [])) none)
            (same-node EmptyForm (slice_index_or tokens place t).start (slice_index_or tokens place u).«end» token.start token.«end» None None (ap (λ x. x.start) (first t)) (ap (λ x. x.«end») (first u)) refl);
        height = refl;
        stops = ap (λ x. x.«end») (first v);
        names = refl;
      },
    )

abbrev pub IsJump : Form → Lexeme → Type 0
IsJump form t = (IsWord Break t ⊎ IsWord Continue t) × (jump_form t.symbol ≡ form)

pub jump-at : (tokens : List Lexeme) (place : ℕ) (before after : List NodeRow) (form : Form) (ended : Ended) (t u : Lexeme) (kids : List ℕ) (number : ℕ)
    → IsThere (IsJump form) tokens place → IsEndAt tokens (place + 1) (slice_index_or tokens place u).«end» ended → kids ≡ []
    → number ≡ length before → after ≡ before ++ (row (node form (slice_index_or tokens place t).start ended.«end» None) kids ∷ [])
    → (p : Setting) (names : List (List ℕ)) → p.in_loop ≡ true → (x : Simple) × IsSimpleAt p tokens place after x names names (record { node = number; height = 1; «end» = ended.«end»; behind = ended.behind })
jump-at tokens place before after form ended t u kids number there e none n p setting names loop =
    let token = there.0 in
    let first : (w : Lexeme) → slice_index_or tokens place w ≡ token = λ w. get_or_from_slice_get tokens place token w there.1 in
    let stop : ended.«end» ≡ end_with token.«end» e.semicolon = e.stops ∙ ap (λ x. end_with x e.semicolon) (ap (λ x. x.«end») (first u)) in (
      Jump token e.semicolon,
      record {
        from = omega (arith, e.from);
        within = e.within;
        is = (there.2.0, loop, ends-part (λ next. ⊥) tokens (place + 1) (slice_index_or tokens place u).«end» ended e (λ x h g. g));
        is_spelled = ap (λ x. token ∷ x) e.is_spelled ∙ sym (drop-there tokens place token there.1);
        tree = pushed-tree before after (node form (slice_index_or tokens place t).start ended.«end» None) (node (jump_form token.symbol) token.start (end_with token.«end» e.semicolon) None) NoTrees [] number tt n
            (p ∙ ap (λ k. before ++ (row (node form (slice_index_or tokens place t).start ended.«end» None) k ∷ [])) none)
            (same-node form (slice_index_or tokens place t).start ended.«end» token.start (end_with token.«end» e.semicolon) None None (ap (λ x. x.start) (first t)) stop refl
            ∙ ap (λ f. node f token.start (end_with token.«end» e.semicolon) None) (sym there.2.1));
        height = refl;
        stops = stop;
        names = refl;
      },
    )

pub return-at : (tokens : List Lexeme) (place : ℕ) (before after : List NodeRow) (ended : Ended) (t u : Lexeme) (kids : List ℕ) (number : ℕ)
    → IsThere (IsWord ReturnWord) tokens place → IsReturnEndAt tokens (place + 1) (slice_index_or tokens place u).«end» ended → kids ≡ []
    → number ≡ length before → after ≡ before ++ (row (node ReturnForm (slice_index_or tokens place t).start ended.«end» None) kids ∷ [])
    → (p : Setting) (names : List (List ℕ)) → p.in_function ≡ true → (x : Simple) × IsSimpleAt p tokens place after x names names (record { node = number; height = 1; «end» = ended.«end»; behind = ended.behind })
return-at tokens place before after ended t u kids number there e none n p setting names inside =
    let token = there.0 in
    let first : (w : Lexeme) → slice_index_or tokens place w ≡ token = λ w. get_or_from_slice_get tokens place token w there.1 in
    let stop : ended.«end» ≡ end_with token.«end» e.semicolon = e.stops ∙ ap (λ x. end_with x e.semicolon) (ap (λ x. x.«end») (first u)) in (
      Return token None e.semicolon,
      record {
        from = omega (arith, e.from);
        within = e.within;
        is = (there.2, inside, is-return-end e.semicolon (drop ended.behind tokens) e.is);
        is_spelled = ap (λ x. token ∷ x) e.is_spelled ∙ sym (drop-there tokens place token there.1);
        tree = pushed-tree before after (node ReturnForm (slice_index_or tokens place t).start ended.«end» None) (node ReturnForm token.start (end_with token.«end» e.semicolon) None) NoTrees [] number tt n
            (p ∙ ap (λ k. before ++ (row (node ReturnForm (slice_index_or tokens place t).start ended.«end» None) k ∷ [])) none)
            (same-node ReturnForm (slice_index_or tokens place t).start ended.«end» token.start (end_with token.«end» e.semicolon) None None (ap (λ x. x.start) (first t)) stop refl);
        height = refl;
        stops = stop;
        names = refl;
      },
    )

begins-on-line : (tokens : List Lexeme) (place : ℕ) (e : Phrase) (rest : List Lexeme) (t : Lexeme) → spelled_expression e rest ≡ drop place tokens → slice_get tokens place ≡ Some t → IsOnLine t → BeginsOnLine (spelled_expression e [])
begins-on-line tokens place e rest t s h l =
    let f = first-token e [] in
    let same : Some f.0 ≡ Some t = ap first_of (sym f.2) ∙ (expression-front e [] rest ∙ (ap first_of s ∙ ap first_of (drop-there tokens place t h))) in
    subst (λ ts. BeginsOnLine ts) (sym f.2) (subst (λ x. IsOnLine x) (sym (same_Some f.0 t same)) l)

pub value-at : (tokens : List Lexeme) (place : ℕ) (middle after : List NodeRow) (whole : Whole) (ended : Ended) (t : Lexeme) (kids : List ℕ) (number height : ℕ)
    → IsThere (IsWord ReturnWord) tokens place → NoReturnEnd tokens (place + 1)
    → (e : Phrase) × IsWholeAt WithCommas tokens (place + 1) middle e whole → IsEndAt tokens whole.behind whole.«end» ended → kids ≡ whole.node ∷ [] → height ≡ min 65 (whole.height + 1)
    → number ≡ length middle → after ≡ middle ++ (row (node ReturnForm (slice_index_or tokens place t).start ended.«end» None) kids ∷ [])
    → (p : Setting) (names : List (List ℕ)) → p.in_function ≡ true → (x : Simple) × IsSimpleAt p tokens place after x names names (record { node = number; height = height; «end» = ended.«end»; behind = ended.behind })
value-at tokens place middle after whole ended t kids number height there value ws e one_kid high n p setting names inside =
    let token = there.0 in
    let w = ws.1 in
    let start : (slice_index_or tokens place t).start ≡ token.start = ap (λ x. x.start) (get_or_from_slice_get tokens place token t there.1) in
    let stop : ended.«end» ≡ end_with (end_of ws.0) e.semicolon = e.stops ∙ ap (λ x. end_with x e.semicolon) w.stop in (
      Return token (Some ws.0) e.semicolon,
      record {
        from = omega (arith, w.from, e.from);
        within = e.within;
        is = (there.2, inside, w.is, begins-on-line tokens (place + 1) ws.0 (drop whole.behind tokens) value.0 w.is_spelled value.1 value.2.2, ends-part (GoesOn WithCommas ws.0) tokens whole.behind whole.«end» ended e w.no_more);
        is_spelled = ap (λ x. token ∷ spelled_expression ws.0 x) e.is_spelled ∙ (ap (λ x. token ∷ x) w.is_spelled ∙ sym (drop-there tokens place token there.1));
        tree = pushed-tree middle after (node ReturnForm (slice_index_or tokens place t).start ended.«end» None) (node ReturnForm token.start (end_with (end_of ws.0) e.semicolon) None) (one (tree_of ws.0)) (whole.node ∷ []) number (w.tree, tt) n
            (p ∙ ap (λ k. middle ++ (row (node ReturnForm (slice_index_or tokens place t).start ended.«end» None) k ∷ [])) one_kid)
            (same-node ReturnForm (slice_index_or tokens place t).start ended.«end» token.start (end_with (end_of ws.0) e.semicolon) None None start stop refl);
        height = let h = w.height in omega arith;
        stops = stop;
        names = refl;
      },
    )

pub alone-at : (tokens : List Lexeme) (place : ℕ) (middle after : List NodeRow) (whole : Whole) (ended : Ended) (kids : List ℕ) (number height : ℕ)
    → (e : Phrase) × IsWholeAt WithCommas tokens place middle e whole → IsEndAt tokens whole.behind whole.«end» ended → kids ≡ whole.node ∷ [] → height ≡ min 65 (whole.height + 1)
    → number ≡ length middle → after ≡ middle ++ (row (node ExpressionForm whole.start ended.«end» None) kids ∷ [])
    → (p : Setting) (names : List (List ℕ)) → (x : Simple) × IsSimpleAt p tokens place after x names names (record { node = number; height = height; «end» = ended.«end»; behind = ended.behind })
alone-at tokens place middle after whole ended kids number height ws e one_kid high n p setting names =
    let w = ws.1 in
    let stop : ended.«end» ≡ end_with (end_of ws.0) e.semicolon = e.stops ∙ ap (λ x. end_with x e.semicolon) w.stop in (
      Expression ws.0 e.semicolon,
      record {
        from = omega (arith, w.from, e.from);
        within = e.within;
        is = (w.is, ends-part (GoesOn WithCommas ws.0) tokens whole.behind whole.«end» ended e w.no_more);
        is_spelled = ap (λ x. spelled_expression ws.0 x) e.is_spelled ∙ w.is_spelled;
        tree = pushed-tree middle after (node ExpressionForm whole.start ended.«end» None) (node ExpressionForm (start_of ws.0) (end_with (end_of ws.0) e.semicolon) None) (one (tree_of ws.0)) (whole.node ∷ []) number (w.tree, tt) n
            (p ∙ ap (λ k. middle ++ (row (node ExpressionForm whole.start ended.«end» None) k ∷ [])) one_kid)
            (same-node ExpressionForm whole.start ended.«end» (start_of ws.0) (end_with (end_of ws.0) e.semicolon) None None w.start stop refl);
        height = let h = w.height in omega arith;
        stops = stop;
        names = refl;
      },
    )
