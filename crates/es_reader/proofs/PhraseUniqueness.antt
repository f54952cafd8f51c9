-- Tokens are those of at most one expression, of at most one list of declarations, and of at most one statement
-- that holds no other.
pub use Rattle.es_reader.specs.Stops.{EndsBy}
use Rattle.std.proofs.Common.{◌≡◌, true, ◌⊎◌, inl, inr, List, [], ◌∷◌, ◌++◌, Option, Some, None, refl, sym, ◌∙◌, ap, subst, append_assoc, append-nil}
use Rattle.es_lexer.specs.declared.punctuators.Punctuator.TheVariants.{CloseBrace, Semicolon, Comma, Assign as AssignMark}
use Rattle.es_expressions.specs.Phrases.{Phrase, spelled as spelled_expression}
use Rattle.es_expressions.specs.Phrases.Phrase.{Leaf, Group, Index, Member, CallEmpty, CallWith, NewPlain, NewEmpty, NewWith, Postfix, Signed, Stepped, Binary, Choice, Assign, Comma as CommaPhrase}
use Rattle.es_expressions.specs.Grammar.{IsExpression}
use Rattle.es_expressions.specs.Beginnings.{IsWhole, Begins, least}
use Rattle.es_expressions.specs.declared.expressions.Extent.{Extent}
use Rattle.es_expressions.specs.declared.expressions.Extent.TheVariants.{WithCommas, WithoutCommas}
use Rattle.es_expressions.specs.declared.lexemes.Lexeme.{Lexeme}
use Rattle.es_reader.specs.Statements.{Declaration, FurtherDeclaration, Declarations, Simple, spelled_end, spelled_declaration, spelled_others, spelled_declarations, spelled_simple}
use Rattle.es_reader.specs.Statements.Declaration.{Bare, Valued}
use Rattle.es_reader.specs.Statements.Simple.{Var, Empty, Expression, Jump, Return}
use Rattle.es_reader.specs.Grammar.{IsMark, IsOnLine, IsOf, GoesOn, IsEnd, IsReturnEnd, BeginsOnLine, IsDeclaration, AreFurther, AreDeclarations, last_of, DeclarationGoesOn, Setting, IsSimple}
use Rattle.es_reader.proofs.ExpressionFacts.{ExpressionFacts}
use Rattle.es_reader.proofs.Spelling.{expression-spelled}
use Rattle.es_reader.proofs.Tokens.{Kind, kind_of, IsStop, stops, whole-of, semicolon-stops, comma-stops, front-kind, var-kind, jump-kind, return-kind, semicolon-kind, brace-kind}
use Rattle.es_reader.proofs.Tokens.Kind.{AtVar, AtEmpty, AtJump, AtReturn, AtExpression, AtNothing}

pub same-head : {A : Type 0} (x y : A) (xs ys : List A) → x ∷ xs ≡ y ∷ ys → x ≡ y
same-head x y xs ys h = cc

pub same-tail : {A : Type 0} (x y : A) (xs ys : List A) → x ∷ xs ≡ y ∷ ys → xs ≡ ys
same-tail x y xs ys h = cc

pub ended : (GoOn : Lexeme → Type 0) (rest : List Lexeme) (t : Lexeme) (more : List Lexeme) → EndsBy GoOn rest → rest ≡ t ∷ more → GoOn t → ⊥
ended GoOn rest t more h e = subst (λ x. EndsBy GoOn x) e h

pub end-by : (GoOn : Lexeme → Type 0) (s : Option Lexeme) (rest : List Lexeme) → ((t : Lexeme) → IsMark Semicolon t → GoOn t → ⊥) → IsEnd GoOn s rest → EndsBy GoOn (spelled_end s rest)
end-by GoOn (Some s) rest n h = n s h
end-by GoOn None [] n h = tt
end-by GoOn None (t ∷ ts) n h = h.no_more

pub same-end : (GoOn GoesToo : Lexeme → Type 0) (s t : Option Lexeme) (R S : List Lexeme) → IsEnd GoOn s R → IsEnd GoesToo t S → spelled_end s R ≡ spelled_end t S → (s ≡ t) × (R ≡ S)
same-end GoOn GoesToo None None R S h g e = (refl, e)
same-end GoOn GoesToo (Some s) (Some t) R S h g e = (ap (λ x. Some x) (same-head s t R S e), same-tail s t R S e)
same-end GoOn GoesToo None (Some t) [] S h g e = absurd (cc)
same-end GoOn GoesToo None (Some t) (r ∷ R) S h g e = absurd (h.no_semicolon (ap (λ x. x.symbol) (same-head r t R S e) ∙ g))
same-end GoOn GoesToo (Some s) None R [] h g e = absurd (cc)
same-end GoOn GoesToo (Some s) None R (r ∷ S) h g e = absurd (g.no_semicolon (ap (λ x. x.symbol) (sym (same-head s r R S e)) ∙ h))

no-return-end : (r t : Lexeme) → IsMark CloseBrace r ⊎ (r.after_break ≡ true) → r ≡ t → IsMark Semicolon t → IsOnLine t → ⊥
no-return-end r t (inl b) e m l = let k : r.symbol ≡ t.symbol = ap (λ x. x.symbol) e in absurd (cc)
no-return-end r t (inr b) e m l = let k : r.after_break ≡ t.after_break = ap (λ x. x.after_break) e in absurd (cc)

pub same-return-end : (s t : Option Lexeme) (R S : List Lexeme) → IsReturnEnd s R → IsReturnEnd t S → spelled_end s R ≡ spelled_end t S → (s ≡ t) × (R ≡ S)
same-return-end None None R S h g e = (refl, e)
same-return-end (Some s) (Some t) R S h g e = (ap (λ x. Some x) (same-head s t R S e), same-tail s t R S e)
same-return-end None (Some t) [] S h g e = absurd (cc)
same-return-end None (Some t) (r ∷ R) S h g e = absurd (no-return-end r t h (same-head r t R S e) g.0 g.1)
same-return-end (Some s) None R [] h g e = absurd (cc)
same-return-end (Some s) None R (r ∷ S) h g e = absurd (no-return-end r s g (sym (same-head s r R S e)) h.0 h.1)

-- expressions

-- two ways to cut the same tokens
pub data Cut (a b R S : List Lexeme) : Type 0 where
  Same : a ≡ b → R ≡ S → Cut a b R S
  Longer : (t : Lexeme) → (more : List Lexeme) → b ≡ a ++ (t ∷ more) → R ≡ t ∷ (more ++ S) → Cut a b R S
  Shorter : (t : Lexeme) → (more : List Lexeme) → a ≡ b ++ (t ∷ more) → S ≡ t ∷ (more ++ R) → Cut a b R S

cut-behind : (t u : Lexeme) (a b R S : List Lexeme) → t ≡ u → Cut a b R S → Cut (t ∷ a) (u ∷ b) R S
cut-behind t u a b R S h (Same p q) = let k : t ∷ a ≡ u ∷ b = cc in Same k q
cut-behind t u a b R S h (Longer v more p q) = let k : u ∷ b ≡ t ∷ (a ++ (v ∷ more)) = cc in Longer v more k q
cut-behind t u a b R S h (Shorter v more p q) = let k : t ∷ a ≡ u ∷ (b ++ (v ∷ more)) = cc in Shorter v more k q

pub cut : (a b R S : List Lexeme) → a ++ R ≡ b ++ S → Cut a b R S
cut [] [] R S h = Same refl h
cut [] (t ∷ b) R S h = Longer t b refl h
cut (t ∷ a) [] R S h = Shorter t a refl (sym h)
cut (t ∷ a) (u ∷ b) R S h = cut-behind t u a b R S (same-head t u (a ++ R) (b ++ S) h) (cut a b R S (same-tail t u (a ++ R) (b ++ S) h))

-- a longer expression goes on with the next token
longer-goes-on : (extent : Extent) (e f : Phrase) (t : Lexeme) (more : List Lexeme) → IsOf extent f → spelled_expression f [] ≡ spelled_expression e [] ++ (t ∷ more) → GoesOn extent e t
longer-goes-on extent e f t more h p =
    let w : IsWhole (least extent) (spelled_expression f []) f = whole-of extent f h in
    record {
      more = more;
      whole_phrase = f;
      whole = record { expression = w.expression; fits = w.fits; is_spelled = p ∙ sym (append_assoc (spelled_expression e []) (t ∷ []) more) };
    }

cut-expression : (facts : ExpressionFacts) (extent : Extent) (e f : Phrase) (R S : List Lexeme) → IsOf extent e → IsOf extent f → EndsBy (GoesOn extent e) R → EndsBy (GoesOn extent f) S → Cut (spelled_expression e []) (spelled_expression f []) R S → (e ≡ f) × (R ≡ S)
cut-expression facts extent e f R S h g p q (Same a b) =
    let w : IsWhole (least extent) (spelled_expression f []) f = whole-of extent f g in
    (facts.one extent (spelled_expression e []) e f (whole-of extent e h) (record { expression = w.expression; fits = w.fits; is_spelled = sym a }), b)
cut-expression facts extent e f R S h g p q (Longer t more a b) = absurd (ended (GoesOn extent e) R t (more ++ S) p b (longer-goes-on extent e f t more g a))
cut-expression facts extent e f R S h g p q (Shorter t more a b) = absurd (ended (GoesOn extent f) S t (more ++ R) q b (longer-goes-on extent f e t more h a))

pub same-expression : (facts : ExpressionFacts) (extent : Extent) (e f : Phrase) (R S : List Lexeme) → IsOf extent e → IsOf extent f → EndsBy (GoesOn extent e) R → EndsBy (GoesOn extent f) S → spelled_expression e R ≡ spelled_expression f S → (e ≡ f) × (R ≡ S)
same-expression facts extent e f R S h g p q i =
    cut-expression facts extent e f R S h g p q
    (cut (spelled_expression e []) (spelled_expression f []) R S (sym (expression-spelled e R) ∙ (i ∙ expression-spelled f S)))

-- in front of tokens that never go on
pub same-expression-before : (facts : ExpressionFacts) (e f : Phrase) (c d : Lexeme) (R S : List Lexeme) → IsExpression e → IsExpression f → IsStop WithCommas c → IsStop WithCommas d → spelled_expression e (c ∷ R) ≡ spelled_expression f (d ∷ S) → (e ≡ f) × ((c ≡ d) × (R ≡ S))
same-expression-before facts e f c d R S h g p q i =
    let s = same-expression facts WithCommas e f (c ∷ R) (d ∷ S) h g (stops facts WithCommas e c h p) (stops facts WithCommas f d g q) i in
    (s.0, (same-head c d R S s.1, same-tail c d R S s.1))

-- first tokens

pub record Begun (tokens : List Lexeme) (kind : Kind) : Type 0 where
  pub token : Lexeme
  pub more : List Lexeme
  pub begins : tokens ≡ token ∷ more
  pub tells : kind_of token ≡ kind

pub same-kind : (a b : List Lexeme) (k l : Kind) → Begun a k → Begun b l → a ≡ b → k ≡ l
same-kind a b k l h g e =
    let s : h.token ≡ g.token = same-head h.token g.token h.more g.more (sym h.begins ∙ (e ∙ g.begins)) in
    sym h.tells ∙ (ap (λ t. kind_of t) s ∙ g.tells)

pub begun : (t : Lexeme) (more : List Lexeme) (k : Kind) → kind_of t ≡ k → Begun (t ∷ more) k
begun t more k h = record { token = t; more = more; begins = refl; tells = h }

record HasToken (tokens : List Lexeme) : Type 0 where
  token : Lexeme
  more : List Lexeme
  begins : tokens ≡ token ∷ more

a-token : (t : Lexeme) (more : List Lexeme) → HasToken (t ∷ more)
a-token t more = record { token = t; more = more; begins = refl }

expression-token : (e : Phrase) (rest : List Lexeme) → HasToken (spelled_expression e rest)
expression-token (Leaf t) rest = a-token t rest
expression-token (Group o e c) rest = a-token o (spelled_expression e (c ∷ rest))
expression-token (Index b o e c) rest = expression-token b (o ∷ spelled_expression e (c ∷ rest))
expression-token (Member b d x) rest = expression-token b (d ∷ (x ∷ rest))
expression-token (CallEmpty f o c) rest = expression-token f (o ∷ (c ∷ rest))
expression-token (CallWith f o e c) rest = expression-token f (o ∷ spelled_expression e (c ∷ rest))
expression-token (NewPlain n f) rest = a-token n (spelled_expression f rest)
expression-token (NewEmpty n f o c) rest = a-token n (spelled_expression f (o ∷ (c ∷ rest)))
expression-token (NewWith n f o e c) rest = a-token n (spelled_expression f (o ∷ spelled_expression e (c ∷ rest)))
expression-token (Postfix e k) rest = expression-token e (k ∷ rest)
expression-token (Signed k e) rest = a-token k (spelled_expression e rest)
expression-token (Stepped k e) rest = a-token k (spelled_expression e rest)
expression-token (Binary a k b) rest = expression-token a (k ∷ spelled_expression b rest)
expression-token (Choice a q b c d) rest = expression-token a (q ∷ spelled_expression b (c ∷ spelled_expression d rest))
expression-token (Assign a k b) rest = expression-token a (k ∷ spelled_expression b rest)
expression-token (CommaPhrase a k b) rest = expression-token a (k ∷ spelled_expression b rest)

pub expression-begun : (facts : ExpressionFacts) (extent : Extent) (e : Phrase) (rest : List Lexeme) → IsOf extent e → Begun (spelled_expression e rest) AtExpression
expression-begun facts extent e rest h =
    let t : HasToken (spelled_expression e []) = expression-token e [] in
    let w : IsWhole (least extent) (spelled_expression e []) e = whole-of extent e h in
    let b : Begins (least extent) (t.token ∷ t.more) = record {
      more = [];
      whole_phrase = e;
      whole = record { expression = w.expression; fits = w.fits; is_spelled = t.begins ∙ sym (append-nil (t.token ∷ t.more)) };
    } in
    record {
      token = t.token;
      more = t.more ++ rest;
      begins = expression-spelled e rest ∙ ap (λ x. x ++ rest) t.begins;
      tells = front-kind t.token (facts.first extent t.token t.more b);
    }

-- declarations

-- what goes on with a declaration itself
abbrev pub ValueGoesOn : Declaration → Lexeme → Type 0
ValueGoesOn (Bare name) token = IsMark AssignMark token
ValueGoesOn (Valued name operator value) token = GoesOn WithoutCommas value token

pub value-ends : (d : Declaration) (R : List Lexeme) → EndsBy (DeclarationGoesOn d) R → EndsBy (ValueGoesOn d) R
value-ends d [] h = tt
value-ends (Bare name) (t ∷ R) h = λ a. h (inr a)
value-ends (Valued name operator value) (t ∷ R) h = λ a. h (inr a)

pub comma-ends : (facts : ExpressionFacts) (d : Declaration) (t : Lexeme) → IsDeclaration d → IsMark Comma t → ValueGoesOn d t → ⊥
comma-ends facts (Bare name) t h c a = absurd (cc)
comma-ends facts (Valued name operator value) t h c a = stops facts WithoutCommas value t h.2 (comma-stops t c) a

pub comma-goes-on : (d : Declaration) (t : Lexeme) → IsMark Comma t → DeclarationGoesOn d t
comma-goes-on (Bare name) t h = inl h
comma-goes-on (Valued name operator value) t h = inl h

pub same-declaration : (facts : ExpressionFacts) (d e : Declaration) (R S : List Lexeme) → IsDeclaration d → IsDeclaration e → EndsBy (ValueGoesOn d) R → EndsBy (ValueGoesOn e) S → spelled_declaration d R ≡ spelled_declaration e S → (d ≡ e) × (R ≡ S)
same-declaration facts (Bare name) (Bare other) R S h g p q i =
    (ap (λ x. Bare x) (same-head name other R S i), same-tail name other R S i)
same-declaration facts (Bare name) (Valued other operator value) R S h g p q i =
    absurd (ended (λ t. IsMark AssignMark t) R operator (spelled_expression value S) p (same-tail name other R (operator ∷ spelled_expression value S) i) g.1)
same-declaration facts (Valued name operator value) (Bare other) R S h g p q i =
    absurd (ended (λ t. IsMark AssignMark t) S operator (spelled_expression value R) q (sym (same-tail name other (operator ∷ spelled_expression value R) S i)) h.1)
same-declaration facts (Valued name operator value) (Valued other mark more) R S h g p q i =
    let n : name ≡ other = same-head name other (operator ∷ spelled_expression value R) (mark ∷ spelled_expression more S) i in
    let j : operator ∷ spelled_expression value R ≡ mark ∷ spelled_expression more S = same-tail name other (operator ∷ spelled_expression value R) (mark ∷ spelled_expression more S) i in
    let o : operator ≡ mark = same-head operator mark (spelled_expression value R) (spelled_expression more S) j in
    let s = same-expression facts WithoutCommas value more R S h.2 g.2 p q (same-tail operator mark (spelled_expression value R) (spelled_expression more S) j) in
    (λ k. Valued (n k) (o k) (s.0 k), s.1)

pub same-declared-all : (facts : ExpressionFacts) (d e : Declaration) (ds es : List FurtherDeclaration) (R S : List Lexeme) → IsDeclaration d → IsDeclaration e → AreFurther ds → AreFurther es → EndsBy (DeclarationGoesOn (last_of d ds)) R → EndsBy (DeclarationGoesOn (last_of e es)) S → spelled_declaration d (spelled_others ds R) ≡ spelled_declaration e (spelled_others es S) → (d ≡ e) × ((ds ≡ es) × (R ≡ S))
same-declared-all facts d e [] [] R S h g hs gs p q i =
    let s = same-declaration facts d e R S h g (value-ends d R p) (value-ends e S q) i in (s.0, (refl, s.1))
same-declared-all facts d e [] (f ∷ es) R S h g hs gs p q i =
    let s = same-declaration facts d e R (f.comma ∷ spelled_declaration f.declaration (spelled_others es S)) h g (value-ends d R p) (comma-ends facts e f.comma g gs.0) i in
    absurd (ended (DeclarationGoesOn d) R f.comma (spelled_declaration f.declaration (spelled_others es S)) p s.1 (comma-goes-on d f.comma gs.0))
same-declared-all facts d e (f ∷ ds) [] R S h g hs gs p q i =
    let s = same-declaration facts d e (f.comma ∷ spelled_declaration f.declaration (spelled_others ds R)) S h g (comma-ends facts d f.comma h hs.0) (value-ends e S q) i in
    absurd (ended (DeclarationGoesOn e) S f.comma (spelled_declaration f.declaration (spelled_others ds R)) q (sym s.1) (comma-goes-on e f.comma hs.0))
same-declared-all facts d e (f ∷ ds) (k ∷ es) R S h g hs gs p q i =
    let x : List Lexeme = spelled_declaration f.declaration (spelled_others ds R) in
    let y : List Lexeme = spelled_declaration k.declaration (spelled_others es S) in
    let s = same-declaration facts d e (f.comma ∷ x) (k.comma ∷ y) h g (comma-ends facts d f.comma h hs.0) (comma-ends facts e k.comma g gs.0) i in
    let c : f.comma ≡ k.comma = same-head f.comma k.comma x y s.1 in
    let r = same-declared-all facts f.declaration k.declaration ds es R S hs.1 gs.1 hs.2 gs.2 p q (same-tail f.comma k.comma x y s.1) in
    (s.0, ((λ j. record { comma = c j; declaration = r.0 j } ∷ r.1.0 j), r.1.1))

pub same-declarations : (facts : ExpressionFacts) (d e : Declarations) (R S : List Lexeme) → AreDeclarations d → AreDeclarations e → EndsBy (DeclarationGoesOn (last_of d.first d.others)) R → EndsBy (DeclarationGoesOn (last_of e.first e.others)) S → spelled_declarations d R ≡ spelled_declarations e S → (d ≡ e) × (R ≡ S)
same-declarations facts d e R S h g p q i =
    let s = same-declared-all facts d.first e.first d.others e.others R S h.0 g.0 h.1 g.1 p q i in
    (λ k. record { first = s.0 k; others = s.1.0 k }, s.1.1)

pub last-declaration : (d : Declaration) (ds : List FurtherDeclaration) → IsDeclaration d → AreFurther ds → IsDeclaration (last_of d ds)
last-declaration d [] h hs = h
last-declaration d (f ∷ ds) h hs = last-declaration f.declaration ds hs.1 hs.2

pub semicolon-declaration : (facts : ExpressionFacts) (d : Declaration) (t : Lexeme) → IsDeclaration d → IsMark Semicolon t → DeclarationGoesOn d t → ⊥
semicolon-declaration facts (Bare name) t h b (inl comma) = absurd (cc)
semicolon-declaration facts (Bare name) t h b (inr assign) = absurd (cc)
semicolon-declaration facts (Valued name operator value) t h b (inl comma) = absurd (cc)
semicolon-declaration facts (Valued name operator value) t h b (inr g) = stops facts WithoutCommas value t h.2 (semicolon-stops WithoutCommas t b) g

pub semicolon-last : (facts : ExpressionFacts) (d : Declarations) (t : Lexeme) → AreDeclarations d → IsMark Semicolon t → DeclarationGoesOn (last_of d.first d.others) t → ⊥
semicolon-last facts d t h m = semicolon-declaration facts (last_of d.first d.others) t (last-declaration d.first d.others h.0 h.1) m

-- statements that hold no other

abbrev pub simple_kind : Simple → Kind
simple_kind (Var word declarations semicolon) = AtVar
simple_kind (Empty semicolon) = AtEmpty
simple_kind (Expression expression semicolon) = AtExpression
simple_kind (Jump word semicolon) = AtJump
simple_kind (Return word value semicolon) = AtReturn

pub simple-begun : (facts : ExpressionFacts) (p : Setting) (s : Simple) (R : List Lexeme) → IsSimple p s R → Begun (spelled_simple s R) (simple_kind s)
simple-begun facts p (Var word declarations semicolon) R h = begun word (spelled_declarations declarations (spelled_end semicolon R)) AtVar (var-kind word h.0)
simple-begun facts p (Empty semicolon) R h = begun semicolon R AtEmpty (semicolon-kind semicolon h)
simple-begun facts p (Expression expression semicolon) R h = expression-begun facts WithCommas expression (spelled_end semicolon R) h.0
simple-begun facts p (Jump word semicolon) R h = begun word (spelled_end semicolon R) AtJump (jump-kind word h.0)
simple-begun facts p (Return word None semicolon) R h = begun word (spelled_end semicolon R) AtReturn (return-kind word h.0)
simple-begun facts p (Return word (Some value) semicolon) R h = begun word (spelled_expression value (spelled_end semicolon R)) AtReturn (return-kind word h.0)

pub ended-expression : (facts : ExpressionFacts) (e : Phrase) (s : Option Lexeme) (R : List Lexeme) → IsExpression e → IsEnd (GoesOn WithCommas e) s R → EndsBy (GoesOn WithCommas e) (spelled_end s R)
ended-expression facts e s R h i = end-by (GoesOn WithCommas e) s R (λ t m. stops facts WithCommas e t h (semicolon-stops WithCommas t m)) i

same-ended-expression : (facts : ExpressionFacts) (e f : Phrase) (s t : Option Lexeme) (R S : List Lexeme) → IsExpression e → IsExpression f → IsEnd (GoesOn WithCommas e) s R → IsEnd (GoesOn WithCommas f) t S → spelled_expression e (spelled_end s R) ≡ spelled_expression f (spelled_end t S) → (e ≡ f) × ((s ≡ t) × (R ≡ S))
same-ended-expression facts e f s t R S h g p q i =
    let x = same-expression facts WithCommas e f (spelled_end s R) (spelled_end t S) h g (ended-expression facts e s R h p) (ended-expression facts f t S g q) i in
    let y = same-end (GoesOn WithCommas e) (GoesOn WithCommas f) s t R S p q x.1 in
    (x.0, (y.0, y.1))

-- behind a `return` without a value no value stands
no-value : (facts : ExpressionFacts) (s : Option Lexeme) (R : List Lexeme) (e : Phrase) (S : List Lexeme) → IsReturnEnd s R → IsExpression e → BeginsOnLine (spelled_expression e []) → spelled_end s R ≡ spelled_expression e S → ⊥
no-value facts (Some t) R e S h g b i =
    let k : AtEmpty ≡ AtExpression = same-kind (t ∷ R) (spelled_expression e S) AtEmpty AtExpression (begun t R AtEmpty (semicolon-kind t h.0)) (expression-begun facts WithCommas e S g) i in
    absurd (cc)
no-value facts None R e S h g b i =
    let t : HasToken (spelled_expression e []) = expression-token e [] in
    let l : IsOnLine t.token = subst (λ x. BeginsOnLine x) t.begins b in
    let x : Begun (spelled_expression e S) AtExpression = expression-begun facts WithCommas e S g in
    let q : t.token ∷ (t.more ++ S) ≡ spelled_expression e S = sym (expression-spelled e S ∙ ap (λ y. y ++ S) t.begins) in
    let u : t.token ≡ x.token = same-head t.token x.token (t.more ++ S) x.more (q ∙ x.begins) in
    let j : IsReturnEnd None (t.token ∷ (t.more ++ S)) = subst (λ y. IsReturnEnd None y) (i ∙ sym q) h in
    let n : kind_of t.token ≡ AtExpression = ap (λ y. kind_of y) u ∙ x.tells in
    elim j [ inl m ↦ (let k : AtNothing ≡ AtExpression = sym (brace-kind t.token m) ∙ n in absurd (cc)) | inr m ↦ absurd (cc (m, l)) ]

pub same-simple : (facts : ExpressionFacts) (p q : Setting) (s t : Simple) (R S : List Lexeme) → IsSimple p s R → IsSimple q t S → spelled_simple s R ≡ spelled_simple t S → (s ≡ t) × (R ≡ S)
same-simple facts p q (Var word declarations semicolon) (Var other more mark) R S h g i =
    let x : List Lexeme = spelled_declarations declarations (spelled_end semicolon R) in
    let y : List Lexeme = spelled_declarations more (spelled_end mark S) in
    let w : word ≡ other = same-head word other x y i in
    let d = same-declarations facts declarations more (spelled_end semicolon R) (spelled_end mark S) h.1 g.1
    (end-by (DeclarationGoesOn (last_of declarations.first declarations.others)) semicolon R (λ t m. semicolon-last facts declarations t h.1 m) h.2)
    (end-by (DeclarationGoesOn (last_of more.first more.others)) mark S (λ t m. semicolon-last facts more t g.1 m) g.2) (same-tail word other x y i) in
    let r = same-end (DeclarationGoesOn (last_of declarations.first declarations.others)) (DeclarationGoesOn (last_of more.first more.others)) semicolon mark R S h.2 g.2 d.1 in
    (λ j. Var (w j) (d.0 j) (r.0 j), r.1)
same-simple facts p q (Empty semicolon) (Empty mark) R S h g i =
    (ap (λ x. Empty x) (same-head semicolon mark R S i), same-tail semicolon mark R S i)
same-simple facts p q (Expression expression semicolon) (Expression other mark) R S h g i =
    let r = same-ended-expression facts expression other semicolon mark R S h.0 g.0 h.1 g.1 i in
    (λ j. Expression (r.0 j) (r.1.0 j), r.1.1)
same-simple facts p q (Jump word semicolon) (Jump other mark) R S h g i =
    let w : word ≡ other = same-head word other (spelled_end semicolon R) (spelled_end mark S) i in
    let r = same-end (λ next. ⊥) (λ next. ⊥) semicolon mark R S h.2 g.2 (same-tail word other (spelled_end semicolon R) (spelled_end mark S) i) in
    (λ j. Jump (w j) (r.0 j), r.1)
same-simple facts p q (Return word None semicolon) (Return other None mark) R S h g i =
    let w : word ≡ other = same-head word other (spelled_end semicolon R) (spelled_end mark S) i in
    let r = same-return-end semicolon mark R S h.2 g.2 (same-tail word other (spelled_end semicolon R) (spelled_end mark S) i) in
    (λ j. Return (w j) None (r.0 j), r.1)
same-simple facts p q (Return word (Some value) semicolon) (Return other (Some more) mark) R S h g i =
    let x : List Lexeme = spelled_expression value (spelled_end semicolon R) in
    let y : List Lexeme = spelled_expression more (spelled_end mark S) in
    let w : word ≡ other = same-head word other x y i in
    let r = same-ended-expression facts value more semicolon mark R S h.2 g.2 h.4 g.4 (same-tail word other x y i) in
    (λ j. Return (w j) (Some (r.0 j)) (r.1.0 j), r.1.1)
same-simple facts p q (Return word None semicolon) (Return other (Some more) mark) R S h g i =
    absurd (no-value facts semicolon R more (spelled_end mark S) h.2 g.2 g.3 (same-tail word other (spelled_end semicolon R) (spelled_expression more (spelled_end mark S)) i))
same-simple facts p q (Return word (Some value) semicolon) (Return other None mark) R S h g i =
    absurd (no-value facts mark S value (spelled_end semicolon R) g.2 h.2 h.3 (sym (same-tail word other (spelled_expression value (spelled_end semicolon R)) (spelled_end mark S) i)))
same-simple facts p q s t R S h g i =
    let k : simple_kind s ≡ simple_kind t = same-kind (spelled_simple s R) (spelled_simple t S) (simple_kind s) (simple_kind t) (simple-begun facts p s R h) (simple-begun facts q t S g) i in
    absurd (cc)
