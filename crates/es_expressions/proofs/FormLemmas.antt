-- A new node stands for its form, form by form, in plain variables.
use Rattle.std.proofs.Common.{◌≡◌, ℕ, suc, ◌+◌, Bool, true, false, cond, List, [], ◌∷◌, ◌++◌, length, Some, None, refl, sym, ◌∙◌, ap, subst, arith, min, max}
use Rattle.es_expressions.specs.Phrases.{Phrase, start_of, end_of}
use Rattle.es_expressions.specs.Phrases.Phrase.{Leaf, Group, Index, Member, CallEmpty, CallWith, NewPlain, NewEmpty, NewWith, Postfix, Signed, Stepped, Binary, Choice, Assign, Comma}
use Rattle.es_expressions.specs.Trees.{Tree, Trees, is_beside, depth, depth_with, deepest}
use Rattle.es_expressions.specs.Trees.Trees.{NoTrees, OneMore}
use Rattle.es_expressions.specs.Meaning.{meaning, one, node, tree_of, parts_of}
use Rattle.es_expressions.specs.Nodes.{NodeRow}
use Rattle.es_expressions.specs.Standings.{StandAt, IsSingle, Stands, noded}
use Rattle.es_expressions.specs.declared.lexemes.Lexeme.{Lexeme}
use Rattle.es_expressions.specs.declared.lexemes.Symbol.{Symbol}
use Rattle.es_expressions.specs.declared.nodes.Form.{Form}
use Rattle.es_expressions.specs.declared.operands.Single.{Single}
use Rattle.es_expressions.specs.declared.operands.Content.TheVariants.{Node}
use Rattle.es_expressions.specs.declared.operands.Operand.{Operand}
use Rattle.std.specs.Prelude.{Result, Ok, Err, IfOk, nat_eq}
use Rattle.std.proofs.lemmas.Bool.Decides.{nat_tests}
use Rattle.es_expressions.specs.Roles.{strength, is_name}
use Rattle.es_expressions.specs.Meaning.{leaf_form, two}
use Rattle.es_expressions.specs.declared.nodes.Form.TheVariants.{Index as IndexForm, Member as MemberForm, Call as CallForm, New as NewForm, Postfix as PostfixForm, Prefix as PrefixForm, Binary as BinaryForm, Choice as ChoiceForm, Assignment as AssignmentForm}
use Rattle.es_expressions.proofs.StandLemmas.{row, made-stands, node-same, AllBelow, depth-more, depth-one, depth-positive, depth-none, deepest-more, depth-plain, deepest-and_then, stand-one-more}

pub if-both : {A E : Type 0} {P Q R : A → Type 0} (r : Result A E) → IfOk r P → IfOk r Q → ((a : A) → P a → Q a → R a) → IfOk r R
if-both (Ok a) p q f = f a p q
if-both (Err e) p q f = tt

pub if-one : {A E : Type 0} {P R : A → Type 0} (r : Result A E) → IfOk r P → ((a : A) → P a → R a) → IfOk r R
if-one (Ok a) p f = f a p
if-one (Err e) p f = tt

-- depths of a node's children: where the first is beside it and the others are below, and where all are below

past-first : (k : ℕ) → nat_eq (k + 1) 0 ≡ false
past-first k = grind (arith, nat_tests)

one-chain : (t : Tree) (parent : Form) → is_beside parent 0 ≡ true → depth_with (one t) parent 0 ≡ depth t
one-chain t parent h =
    let a = depth-more t NoTrees parent 0 in
    let b : cond (is_beside parent 0) (depth t) (suc (depth t)) ≡ depth t = ap (λ x. cond x (depth t) (suc (depth t))) h in
    omega (arith, depth-none parent 1, depth-positive t)

more-chain : (t : Tree) (ts : Trees) (parent : Form) → is_beside parent 0 ≡ true → AllBelow parent 1 → depth_with (OneMore t ts) parent 0 ≡ max (depth t) (suc (deepest ts))
more-chain t ts parent h g =
    let a = depth-more t ts parent 0 in
    let b : cond (is_beside parent 0) (depth t) (suc (depth t)) ≡ depth t = ap (λ x. cond x (depth t) (suc (depth t))) h in
    omega (arith, depth-plain ts parent 1 g)

two-chain : (t u : Tree) (parent : Form) → is_beside parent 0 ≡ true → AllBelow parent 1 → depth_with (two t u) parent 0 ≡ max (depth t) (suc (depth u))
two-chain t u parent h g = more-chain t (one u) parent h g ∙ ap (λ n. max (depth t) (suc n)) (depth-one u)

one-plain : (t : Tree) (parent : Form) → AllBelow parent 0 → depth_with (one t) parent 0 ≡ suc (depth t)
one-plain t parent h = depth-plain (one t) parent 0 h ∙ ap suc (depth-one t)

more-plain : (t : Tree) (ts : Trees) (parent : Form) → AllBelow parent 0 → depth_with (OneMore t ts) parent 0 ≡ suc (max (depth t) (deepest ts))
more-plain t ts parent h = depth-plain (OneMore t ts) parent 0 h ∙ ap suc (deepest-more t ts)

two-plain : (t u : Tree) (parent : Form) → AllBelow parent 0 → depth_with (two t u) parent 0 ≡ suc (max (depth t) (depth u))
two-plain t u parent h = more-plain t (one u) parent h ∙ ap (λ n. suc (max (depth t) n)) (depth-one u)

three-plain : (t u v : Tree) (parent : Form) → AllBelow parent 0 → depth_with (OneMore t (two u v)) parent 0 ≡ suc (max (depth t) (max (depth u) (depth v)))
three-plain t u v parent h = more-plain t (two u v) parent h ∙ ap (λ n. suc (max (depth t) n)) (deepest-more u (one v) ∙ ap (λ n. max (depth u) n) (depth-one v))

leaf-height : (parent : Form) → 1 ≡ min 65 (depth_with NoTrees parent 0)
leaf-height parent = let d = depth-none parent 0 in omega arith

stand-same : (ts : Trees) (rows : List NodeRow) (ms ns : List ℕ) → ms ≡ ns → StandAt ts rows ns → StandAt ts rows ms
stand-same ts rows ms ns h s = subst (λ x. StandAt ts rows x) (sym h) s

pub index-stands : (rows after : List NodeRow) (o : Operand) (numbers : List ℕ) (lev height : ℕ) (s k : Single) (b e : Phrase) (p c : Lexeme) → o ≡ noded lev true height (node IndexForm (s.start) (c.«end») (None)) (length rows) → after ≡ rows ++ (row (node IndexForm (s.start) (c.«end») (None)) numbers ∷ []) → numbers ≡ (s.node ∷ (k.node ∷ [])) → lev ≡ min 18 s.level → height ≡ max s.height (min 65 (k.height + 1)) → IsSingle rows s b → IsSingle rows k e → Stands after o (Index b p e c)
unfolding meaning
index-stands rows after o numbers lev height s k b e p c same added listed h_level h_height h_s h_k =
    made-stands rows after o lev true height (node IndexForm (s.start) (c.«end») (None)) (node IndexForm (start_of b) (c.«end») (None)) numbers (two (tree_of b) (tree_of e)) (Index b p e c) same added
    (node-same IndexForm (s.start) (c.«end») (start_of b) (c.«end») (None) h_s.start refl) refl refl (h_level ∙ ap (λ n. min 18 n) h_s.level_is) refl refl refl
    (let d = two-chain (tree_of b) (tree_of e) IndexForm refl past-first in omega (arith, h_height, h_s.height, h_k.height)) (stand-same (two (tree_of b) (tree_of e)) rows numbers (s.node ∷ (k.node ∷ [])) listed ((h_s.tree, (h_k.tree, tt))))

pub member-stands : (rows after : List NodeRow) (o : Operand) (numbers : List ℕ) (lev height : ℕ) (symbol : Symbol) (s : Single) (b : Phrase) (d x : Lexeme) → o ≡ noded lev true height (node MemberForm (s.start) (x.«end») (Some symbol)) (length rows) → after ≡ rows ++ (row (node MemberForm (s.start) (x.«end») (Some symbol)) numbers ∷ []) → numbers ≡ (s.node ∷ []) → lev ≡ min 18 s.level → height ≡ s.height → symbol ≡ x.symbol → IsSingle rows s b → Stands after o (Member b d x)
unfolding meaning
member-stands rows after o numbers lev height symbol s b d x same added listed h_level h_height h_symbol h_s =
    made-stands rows after o lev true height (node MemberForm (s.start) (x.«end») (Some symbol)) (node MemberForm (start_of b) (x.«end») (Some x.symbol)) numbers (one (tree_of b)) (Member b d x) same added
    (ap (λ z. node MemberForm (s.start) (x.«end») (Some z)) h_symbol ∙ node-same MemberForm (s.start) (x.«end») (start_of b) (x.«end») (Some x.symbol) h_s.start refl) refl refl (h_level ∙ ap (λ n. min 18 n) h_s.level_is) refl refl refl
    (let d = one-chain (tree_of b) MemberForm refl in omega (arith, h_height, h_s.height)) (stand-same (one (tree_of b)) rows numbers (s.node ∷ []) listed ((h_s.tree, tt)))

pub call-empty-stands : (rows after : List NodeRow) (o : Operand) (numbers : List ℕ) (lev height : ℕ) (s : Single) (f : Phrase) (p c : Lexeme) → o ≡ noded lev false height (node CallForm (s.start) (c.«end») (None)) (length rows) → after ≡ rows ++ (row (node CallForm (s.start) (c.«end») (None)) numbers ∷ []) → numbers ≡ (s.node ∷ []) → lev ≡ 16 → height ≡ s.height → IsSingle rows s f → Stands after o (CallEmpty f p c)
unfolding meaning
call-empty-stands rows after o numbers lev height s f p c same added listed h_level h_height h_s =
    made-stands rows after o lev false height (node CallForm (s.start) (c.«end») (None)) (node CallForm (start_of f) (c.«end») (None)) numbers (one (tree_of f)) (CallEmpty f p c) same added
    (node-same CallForm (s.start) (c.«end») (start_of f) (c.«end») (None) h_s.start refl) refl refl (h_level) refl refl refl
    (let d = one-chain (tree_of f) CallForm refl in omega (arith, h_height, h_s.height)) (stand-same (one (tree_of f)) rows numbers (s.node ∷ []) listed ((h_s.tree, tt)))

pub call-with-stands : (rows after : List NodeRow) (o : Operand) (numbers : List ℕ) (lev height : ℕ) (s : Single) (a : Operand) (f e : Phrase) (p c : Lexeme) → o ≡ noded lev false height (node CallForm (s.start) (c.«end») (None)) (length rows) → after ≡ rows ++ (row (node CallForm (s.start) (c.«end») (None)) numbers ∷ []) → StandAt (OneMore (tree_of f) (parts_of e)) rows numbers → lev ≡ 16 → height ≡ max s.height (min 65 (a.height + 1)) → IsSingle rows s f → Stands rows a e → Stands after o (CallWith f p e c)
unfolding meaning
call-with-stands rows after o numbers lev height s a f e p c same added listed h_level h_height h_s h_a =
    made-stands rows after o lev false height (node CallForm (s.start) (c.«end») (None)) (node CallForm (start_of f) (c.«end») (None)) numbers (OneMore (tree_of f) (parts_of e)) (CallWith f p e c) same added
    (node-same CallForm (s.start) (c.«end») (start_of f) (c.«end») (None) h_s.start refl) refl refl (h_level) refl refl refl
    (let d = more-chain (tree_of f) (parts_of e) CallForm refl past-first in omega (arith, h_height, h_s.height, h_a.height)) (listed)

pub creation-stands : (rows after : List NodeRow) (o : Operand) (numbers : List ℕ) (lev height : ℕ) (start : ℕ) (s : Single) (n : Lexeme) (f : Phrase) → o ≡ noded lev false height (node NewForm (start) (s.«end») (None)) (length rows) → after ≡ rows ++ (row (node NewForm (start) (s.«end») (None)) numbers ∷ []) → numbers ≡ (s.node ∷ []) → lev ≡ 17 → height ≡ min 65 (s.height + 1) → start ≡ n.start → IsSingle rows s f → Stands after o (NewPlain n f)
unfolding meaning
creation-stands rows after o numbers lev height start s n f same added listed h_level h_height h_start h_s =
    made-stands rows after o lev false height (node NewForm (start) (s.«end») (None)) (node NewForm (n.start) (end_of f) (None)) numbers (one (tree_of f)) (NewPlain n f) same added
    (node-same NewForm (start) (s.«end») (n.start) (end_of f) (None) h_start h_s.stop) refl refl (h_level) refl refl refl
    (let d = one-plain (tree_of f) NewForm (λ k. refl) in omega (arith, h_height, h_s.height)) (stand-same (one (tree_of f)) rows numbers (s.node ∷ []) listed ((h_s.tree, tt)))

pub creation-empty-stands : (rows after : List NodeRow) (o : Operand) (numbers : List ℕ) (lev height : ℕ) (start : ℕ) (s : Single) (n p c : Lexeme) (f : Phrase) → o ≡ noded lev false height (node NewForm (start) (c.«end») (None)) (length rows) → after ≡ rows ++ (row (node NewForm (start) (c.«end») (None)) numbers ∷ []) → numbers ≡ (s.node ∷ []) → lev ≡ 18 → height ≡ min 65 (s.height + 1) → start ≡ n.start → IsSingle rows s f → Stands after o (NewEmpty n f p c)
unfolding meaning
creation-empty-stands rows after o numbers lev height start s n p c f same added listed h_level h_height h_start h_s =
    made-stands rows after o lev false height (node NewForm (start) (c.«end») (None)) (node NewForm (n.start) (c.«end») (None)) numbers (one (tree_of f)) (NewEmpty n f p c) same added
    (node-same NewForm (start) (c.«end») (n.start) (c.«end») (None) h_start refl) refl refl (h_level) refl refl refl
    (let d = one-plain (tree_of f) NewForm (λ k. refl) in omega (arith, h_height, h_s.height)) (stand-same (one (tree_of f)) rows numbers (s.node ∷ []) listed ((h_s.tree, tt)))

pub creation-with-stands : (rows after : List NodeRow) (o : Operand) (numbers : List ℕ) (lev height : ℕ) (start : ℕ) (s : Single) (a : Operand) (n p c : Lexeme) (f e : Phrase) → o ≡ noded lev false height (node NewForm (start) (c.«end») (None)) (length rows) → after ≡ rows ++ (row (node NewForm (start) (c.«end») (None)) numbers ∷ []) → StandAt (OneMore (tree_of f) (parts_of e)) rows numbers → lev ≡ 18 → height ≡ min 65 (max s.height a.height + 1) → start ≡ n.start → IsSingle rows s f → Stands rows a e → Stands after o (NewWith n f p e c)
unfolding meaning
creation-with-stands rows after o numbers lev height start s a n p c f e same added listed h_level h_height h_start h_s h_a =
    made-stands rows after o lev false height (node NewForm (start) (c.«end») (None)) (node NewForm (n.start) (c.«end») (None)) numbers (OneMore (tree_of f) (parts_of e)) (NewWith n f p e c) same added
    (node-same NewForm (start) (c.«end») (n.start) (c.«end») (None) h_start refl) refl refl (h_level) refl refl refl
    (let d = more-plain (tree_of f) (parts_of e) NewForm (λ k. refl) in omega (arith, h_height, h_s.height, h_a.height)) (listed)

pub postfix-stands : (rows after : List NodeRow) (o : Operand) (numbers : List ℕ) (lev height : ℕ) (symbol : Symbol) (s : Single) (e : Phrase) (k : Lexeme) → o ≡ noded lev false height (node PostfixForm (s.start) (k.«end») (Some symbol)) (length rows) → after ≡ rows ++ (row (node PostfixForm (s.start) (k.«end») (Some symbol)) numbers ∷ []) → numbers ≡ (s.node ∷ []) → lev ≡ 15 → height ≡ min 65 (s.height + 1) → symbol ≡ k.symbol → IsSingle rows s e → Stands after o (Postfix e k)
unfolding meaning
postfix-stands rows after o numbers lev height symbol s e k same added listed h_level h_height h_symbol h_s =
    made-stands rows after o lev false height (node PostfixForm (s.start) (k.«end») (Some symbol)) (node PostfixForm (start_of e) (k.«end») (Some k.symbol)) numbers (one (tree_of e)) (Postfix e k) same added
    (ap (λ z. node PostfixForm (s.start) (k.«end») (Some z)) h_symbol ∙ node-same PostfixForm (s.start) (k.«end») (start_of e) (k.«end») (Some k.symbol) h_s.start refl) refl refl (h_level) refl refl refl
    (let d = one-plain (tree_of e) PostfixForm (λ k. refl) in omega (arith, h_height, h_s.height)) (stand-same (one (tree_of e)) rows numbers (s.node ∷ []) listed ((h_s.tree, tt)))

pub signed-stands : (rows after : List NodeRow) (o : Operand) (numbers : List ℕ) (lev height : ℕ) (symbol : Symbol) (start : ℕ) (s : Single) (e : Phrase) (k : Lexeme) → o ≡ noded lev false height (node PrefixForm (start) (s.«end») (Some symbol)) (length rows) → after ≡ rows ++ (row (node PrefixForm (start) (s.«end») (Some symbol)) numbers ∷ []) → numbers ≡ (s.node ∷ []) → lev ≡ 14 → height ≡ min 65 (s.height + 1) → symbol ≡ k.symbol → start ≡ k.start → IsSingle rows s e → Stands after o (Signed k e)
unfolding meaning
signed-stands rows after o numbers lev height symbol start s e k same added listed h_level h_height h_symbol h_start h_s =
    made-stands rows after o lev false height (node PrefixForm (start) (s.«end») (Some symbol)) (node PrefixForm (k.start) (end_of e) (Some k.symbol)) numbers (one (tree_of e)) (Signed k e) same added
    (ap (λ z. node PrefixForm (start) (s.«end») (Some z)) h_symbol ∙ node-same PrefixForm (start) (s.«end») (k.start) (end_of e) (Some k.symbol) h_start h_s.stop) refl refl (h_level) refl refl refl
    (let d = one-plain (tree_of e) PrefixForm (λ k. refl) in omega (arith, h_height, h_s.height)) (stand-same (one (tree_of e)) rows numbers (s.node ∷ []) listed ((h_s.tree, tt)))

pub stepped-stands : (rows after : List NodeRow) (o : Operand) (numbers : List ℕ) (lev height : ℕ) (symbol : Symbol) (start : ℕ) (s : Single) (e : Phrase) (k : Lexeme) → o ≡ noded lev false height (node PrefixForm (start) (s.«end») (Some symbol)) (length rows) → after ≡ rows ++ (row (node PrefixForm (start) (s.«end») (Some symbol)) numbers ∷ []) → numbers ≡ (s.node ∷ []) → lev ≡ 14 → height ≡ min 65 (s.height + 1) → symbol ≡ k.symbol → start ≡ k.start → IsSingle rows s e → Stands after o (Stepped k e)
unfolding meaning
stepped-stands rows after o numbers lev height symbol start s e k same added listed h_level h_height h_symbol h_start h_s =
    made-stands rows after o lev false height (node PrefixForm (start) (s.«end») (Some symbol)) (node PrefixForm (k.start) (end_of e) (Some k.symbol)) numbers (one (tree_of e)) (Stepped k e) same added
    (ap (λ z. node PrefixForm (start) (s.«end») (Some z)) h_symbol ∙ node-same PrefixForm (start) (s.«end») (k.start) (end_of e) (Some k.symbol) h_start h_s.stop) refl refl (h_level) refl refl refl
    (let d = one-plain (tree_of e) PrefixForm (λ k. refl) in omega (arith, h_height, h_s.height)) (stand-same (one (tree_of e)) rows numbers (s.node ∷ []) listed ((h_s.tree, tt)))

pub binary-stands : (rows after : List NodeRow) (o : Operand) (numbers : List ℕ) (lev height : ℕ) (symbol : Symbol) (s u : Single) (a b : Phrase) (k : Lexeme) → o ≡ noded lev false height (node BinaryForm (s.start) (u.«end») (Some symbol)) (length rows) → after ≡ rows ++ (row (node BinaryForm (s.start) (u.«end») (Some symbol)) numbers ∷ []) → numbers ≡ (s.node ∷ (u.node ∷ [])) → lev ≡ strength k → height ≡ max s.height (min 65 (u.height + 1)) → symbol ≡ k.symbol → IsSingle rows s a → IsSingle rows u b → Stands after o (Binary a k b)
unfolding meaning
binary-stands rows after o numbers lev height symbol s u a b k same added listed h_level h_height h_symbol h_s h_u =
    made-stands rows after o lev false height (node BinaryForm (s.start) (u.«end») (Some symbol)) (node BinaryForm (start_of a) (end_of b) (Some k.symbol)) numbers (two (tree_of a) (tree_of b)) (Binary a k b) same added
    (ap (λ z. node BinaryForm (s.start) (u.«end») (Some z)) h_symbol ∙ node-same BinaryForm (s.start) (u.«end») (start_of a) (end_of b) (Some k.symbol) h_s.start h_u.stop) refl refl (h_level) refl refl refl
    (let d = two-chain (tree_of a) (tree_of b) BinaryForm refl past-first in omega (arith, h_height, h_s.height, h_u.height)) (stand-same (two (tree_of a) (tree_of b)) rows numbers (s.node ∷ (u.node ∷ [])) listed ((h_s.tree, (h_u.tree, tt))))

pub assign-stands : (rows after : List NodeRow) (o : Operand) (numbers : List ℕ) (lev height : ℕ) (symbol : Symbol) (s u : Single) (a b : Phrase) (k : Lexeme) → o ≡ noded lev false height (node AssignmentForm (s.start) (u.«end») (Some symbol)) (length rows) → after ≡ rows ++ (row (node AssignmentForm (s.start) (u.«end») (Some symbol)) numbers ∷ []) → numbers ≡ (s.node ∷ (u.node ∷ [])) → lev ≡ 2 → height ≡ min 65 (max s.height u.height + 1) → symbol ≡ k.symbol → IsSingle rows s a → IsSingle rows u b → Stands after o (Assign a k b)
unfolding meaning
assign-stands rows after o numbers lev height symbol s u a b k same added listed h_level h_height h_symbol h_s h_u =
    made-stands rows after o lev false height (node AssignmentForm (s.start) (u.«end») (Some symbol)) (node AssignmentForm (start_of a) (end_of b) (Some k.symbol)) numbers (two (tree_of a) (tree_of b)) (Assign a k b) same added
    (ap (λ z. node AssignmentForm (s.start) (u.«end») (Some z)) h_symbol ∙ node-same AssignmentForm (s.start) (u.«end») (start_of a) (end_of b) (Some k.symbol) h_s.start h_u.stop) refl refl (h_level) refl refl refl
    (let d = two-plain (tree_of a) (tree_of b) AssignmentForm (λ k. refl) in omega (arith, h_height, h_s.height, h_u.height)) (stand-same (two (tree_of a) (tree_of b)) rows numbers (s.node ∷ (u.node ∷ [])) listed ((h_s.tree, (h_u.tree, tt))))

pub choice-stands : (rows after : List NodeRow) (o : Operand) (numbers : List ℕ) (lev height : ℕ) (s u v : Single) (a b d : Phrase) (q c : Lexeme) → o ≡ noded lev false height (node ChoiceForm (s.start) (v.«end») (None)) (length rows) → after ≡ rows ++ (row (node ChoiceForm (s.start) (v.«end») (None)) numbers ∷ []) → numbers ≡ (s.node ∷ (u.node ∷ (v.node ∷ []))) → lev ≡ 2 → height ≡ min 65 (max s.height (max u.height v.height) + 1) → IsSingle rows s a → IsSingle rows u b → IsSingle rows v d → Stands after o (Choice a q b c d)
unfolding meaning
choice-stands rows after o numbers lev height s u v a b d q c same added listed h_level h_height h_s h_u h_v =
    made-stands rows after o lev false height (node ChoiceForm (s.start) (v.«end») (None)) (node ChoiceForm (start_of a) (end_of d) (None)) numbers (OneMore (tree_of a) (two (tree_of b) (tree_of d))) (Choice a q b c d) same added
    (node-same ChoiceForm (s.start) (v.«end») (start_of a) (end_of d) (None) h_s.start h_v.stop) refl refl (h_level) refl refl refl
    (let d = three-plain (tree_of a) (tree_of b) (tree_of d) ChoiceForm (λ k. refl) in omega (arith, h_height, h_s.height, h_u.height, h_v.height)) (stand-same (OneMore (tree_of a) (two (tree_of b) (tree_of d))) rows numbers (s.node ∷ (u.node ∷ (v.node ∷ []))) listed ((h_s.tree, (h_u.tree, (h_v.tree, tt)))))

pub leaf-stands : (rows after : List NodeRow) (o : Operand) (numbers : List ℕ) (form : Form) (symbol : Symbol) (target : Bool) (t : Lexeme) → o ≡ noded 19 target 1 (node form t.start t.«end» (Some symbol)) (length rows) → after ≡ rows ++ (row (node form t.start t.«end» (Some symbol)) numbers ∷ []) → numbers ≡ [] → form ≡ leaf_form t.symbol → symbol ≡ t.symbol → target ≡ is_name t.symbol → Stands after o (Leaf t)
unfolding meaning
leaf-stands rows after o numbers form symbol target t same added listed f s g =
    made-stands rows after o 19 target 1 (node form t.start t.«end» (Some symbol)) (node (leaf_form t.symbol) t.start t.«end» (Some t.symbol)) numbers NoTrees (Leaf t) same added
    (ap (λ x. node x t.start t.«end» (Some symbol)) f ∙ ap (λ x. node (leaf_form t.symbol) t.start t.«end» (Some x)) s) refl refl refl g refl refl
    (leaf-height (leaf_form t.symbol)) (stand-same NoTrees rows numbers [] listed tt)

pub group-stands : (rows : List NodeRow) (o : Operand) (start : ℕ) (s : Single) (e : Phrase) (p c : Lexeme) → o ≡ record { level = 19; is_target = false; height = s.height; start = start; «end» = c.«end»; content = Node s.node } → start ≡ p.start → IsSingle rows s e → Stands rows o (Group p e c)
unfolding meaning
group-stands rows o start s e p c same h g =
    let made : Stands rows (record { level = 19; is_target = false; height = s.height; start = start; «end» = c.«end»; content = Node s.node }) (Group p e c) =
    record { level_is = refl; target = refl; start = h; stop = refl; height = g.height ∙ ap (λ n. min 65 n) (sym (depth-one (tree_of e))); content = (refl, g.tree) } in
    subst (λ x. Stands rows x (Group p e c)) (sym same) made

pub comma-stands : (rows : List NodeRow) (before : Operand) (s : Single) (numbers : List ℕ) (a b : Phrase) (k : Lexeme) → Stands rows before a → IsSingle rows s b → StandAt (parts_of a) rows numbers → StandAt (parts_of (Comma a k b)) rows (numbers ++ (s.node ∷ []))
unfolding meaning
comma-stands rows before s numbers a b k h g p = stand-one-more (parts_of a) (tree_of b) rows numbers s.node p g.tree

pub comma-height : (rows : List NodeRow) (before : Operand) (s : Single) (a b : Phrase) (k : Lexeme) → Stands rows before a → IsSingle rows s b → max before.height s.height ≡ min 65 (deepest (parts_of (Comma a k b)))
unfolding meaning
comma-height rows before s a b k h g = let d = deepest-and_then (parts_of a) (tree_of b) in omega (arith, h.height, g.height)
