-- Where expressions and declarations go on no more, as parts of statements and heads.
pub use Rattle.es_reader.specs.Stops.{ValueStops, DeclarationStops, DeclarationsStop}
use Rattle.std.proofs.Common.{◌≡◌, List, [], ◌∷◌, ◌++◌, Option, Some, refl, sym, ◌∙◌, ap, subst, append_assoc, append-nil}
use Rattle.es_lexer.specs.declared.punctuators.Punctuator.TheVariants.{CloseBrace, Semicolon, Comma, Assign as AssignMark}
use Rattle.es_expressions.specs.Phrases.{Phrase, spelled as spelled_expression}
use Rattle.es_expressions.specs.Grammar.{IsExpression}
use Rattle.es_expressions.specs.Beginnings.{IsWhole, Begins as BeginsExpression, least}
use Rattle.es_expressions.specs.declared.expressions.Extent.{Extent}
use Rattle.es_expressions.specs.declared.expressions.Extent.TheVariants.{WithCommas, WithoutCommas}
use Rattle.es_expressions.specs.declared.lexemes.Lexeme.{Lexeme}
use Rattle.es_reader.specs.Statements.{Declaration, FurtherDeclaration, Declarations, spelled_end, spelled_declaration, spelled_others, spelled_declarations}
use Rattle.es_reader.specs.Statements.Declaration.{Bare, Valued}
use Rattle.es_reader.specs.Grammar.{IsMark, IsName, IsOnLine, IsOf, GoesOn, IsEnd, IsDeclaration, AreFurther, AreDeclarations, last_of, DeclarationGoesOn}
use Rattle.es_reader.specs.Openings.{first_of}
use Rattle.es_reader.proofs.ExpressionFacts.{ExpressionFacts}
use Rattle.es_reader.proofs.Spelling.{expression-spelled, declarations-spelled}
use Rattle.es_reader.proofs.Tokens.{IsStop, stops, whole-of}
use Rattle.es_reader.proofs.Uniqueness.{EndsBy, ended, same-tail, same-expression, ended-expression, ValueGoesOn, value-ends, comma-ends, comma-goes-on, same-declaration}
use Rattle.es_reader.proofs.BadPlaces.{expression-read}
use Rattle.es_reader.proofs.Forms.{no-end}
use Rattle.es_reader.proofs.Partials.{declaration-none, declaration-valued, declarations-first, declarations-further}
use Rattle.es_reader.proofs.Standing.{first-token}

-- the token neither ends a statement nor stands behind a line break
abbrev pub EndsNothing : Lexeme → Type 0
EndsNothing token = (IsMark Semicolon token → ⊥) × (IsMark CloseBrace token → ⊥) × IsOnLine token

-- an expression begins with the tokens that were read, none goes on with the next one, and they are none
pub record ExpressionStops (extent : Extent) (x others : List Lexeme) : Type 0 where
  pub goes_on : BeginsExpression (least extent) x
  pub no_more : (t : Lexeme) → first_of others ≡ Some t → BeginsExpression (least extent) (x ++ (t ∷ [])) → ⊥
  pub not_whole : (e : Phrase) → IsWhole (least extent) x e → ⊥

-- the expression doesn't go on with the next token
abbrev pub GoesNoFurther : Extent → Phrase → List Lexeme → Type 0
GoesNoFurther extent e others = (t : Lexeme) → first_of others ≡ Some t → GoesOn extent e t → ⊥

ends-alike : (extent : Extent) (e : Phrase) (behind others : List Lexeme) → first_of behind ≡ first_of others → GoesNoFurther extent e others → EndsBy (GoesOn extent e) behind
ends-alike extent e [] others first n = tt
ends-alike extent e (t ∷ behind) others first n = n t (sym first)

pub begins-itself : (extent : Extent) (e : Phrase) → IsOf extent e → BeginsExpression (least extent) (spelled_expression e [])
begins-itself extent e h =
    let w : IsWhole (least extent) (spelled_expression e []) e = whole-of extent e h in
    record {
      more = [];
      whole_phrase = e;
      whole = record { expression = w.expression; fits = w.fits; is_spelled = sym (append-nil (spelled_expression e [])) };
    }

-- an expression that comes there is the one that was read
same-there : (facts : ExpressionFacts) (extent : Extent) (e f : Phrase) (x R behind others : List Lexeme) → IsOf extent e → IsOf extent f → spelled_expression e [] ≡ x → GoesNoFurther extent e others → EndsBy (GoesOn extent f) R → first_of behind ≡ first_of others → spelled_expression f R ≡ x ++ behind → (f ≡ e) × (R ≡ behind)
same-there facts extent e f x R behind others h g is n ends first same =
    same-expression facts extent f e R behind g h ends (ends-alike extent e behind others first n)
    (same ∙ (ap (λ r. r ++ behind) (sym is) ∙ sym (expression-spelled e behind)))

-- a part of a head that some tokens may follow

pub record PartStops (Accepts : Phrase → Lexeme → Type 0) (x others : List Lexeme) : Type 0 where
  pub goes_on : BeginsExpression (least WithCommas) x
  pub never : (e : Phrase) (c : Lexeme) (R behind : List Lexeme) → IsExpression e → IsStop WithCommas c → Accepts e c
      → first_of behind ≡ first_of others → spelled_expression e (c ∷ R) ≡ x ++ behind → ⊥

pub part-stops : (facts : ExpressionFacts) (Accepts : Phrase → Lexeme → Type 0) (x others : List Lexeme) → ExpressionStops WithCommas x others → PartStops Accepts x others
part-stops facts Accepts x others s = record {
  goes_on = s.goes_on;
  never = λ e c R behind h stop a first same.
      let r = expression-read WithCommas x behind others e (c ∷ R) h (stops facts WithCommas e c h stop) same first s.goes_on s.no_more in
      s.not_whole e r.0;
}

pub part-lacks : (facts : ExpressionFacts) (Accepts : Phrase → Lexeme → Type 0) (e : Phrase) (others : List Lexeme) → IsExpression e → GoesNoFurther WithCommas e others → ((t : Lexeme) → first_of others ≡ Some t → Accepts e t → ⊥) → PartStops Accepts (spelled_expression e []) others
part-lacks facts Accepts e others h n lacks = record {
  goes_on = begins-itself WithCommas e h;
  never = λ f c R behind g stop a first same.
      let r = same-there facts WithCommas e f (spelled_expression e []) (c ∷ R) behind others h g refl n (stops facts WithCommas f c g stop) first same in
      lacks c (sym (ap first_of r.1 ∙ first)) (subst (λ p. Accepts p c) r.0 a);
}

-- the value of a statement that may end behind it

pub value-stops : (facts : ExpressionFacts) (x others : List Lexeme) → ExpressionStops WithCommas x others → ValueStops x others
value-stops facts x others s = record {
  goes_on = s.goes_on;
  never = λ e semicolon rest behind h i first same.
      let r = expression-read WithCommas x behind others e (spelled_end semicolon rest) h (ended-expression facts e semicolon rest h i) same first s.goes_on s.no_more in
      s.not_whole e r.0;
}

pub no-end-there : (GoOn : Lexeme → Type 0) (semicolon : Option Lexeme) (rest behind others : List Lexeme) (t : Lexeme) → IsEnd GoOn semicolon rest → spelled_end semicolon rest ≡ behind → first_of behind ≡ first_of others → first_of others ≡ Some t → EndsNothing t → ⊥
no-end-there GoOn semicolon rest behind others t i e first k n =
    let b = first-token behind t (first ∙ k) in
    no-end GoOn semicolon rest t b.0 i (e ∙ b.1) n.0 n.1 n.2

pub value-no-end : (facts : ExpressionFacts) (e : Phrase) (others : List Lexeme) (t : Lexeme) → IsExpression e → GoesNoFurther WithCommas e others → first_of others ≡ Some t → EndsNothing t → ValueStops (spelled_expression e []) others
value-no-end facts e others t h n k z = record {
  goes_on = begins-itself WithCommas e h;
  never = λ f semicolon rest behind g i first same.
      let r = same-there facts WithCommas e f (spelled_expression e []) (spelled_end semicolon rest) behind others h g refl n (ended-expression facts f semicolon rest g i) first same in
      no-end-there (GoesOn WithCommas f) semicolon rest behind others t i r.1 first k z;
}

-- a declaration, with others behind it

no-name-there : (d : Declaration) (R behind others : List Lexeme) → IsDeclaration d → ((t : Lexeme) → first_of others ≡ Some t → IsName t → ⊥) → first_of behind ≡ first_of others → spelled_declaration d R ≡ behind → ⊥
no-name-there (Bare name) R behind others h n first same = n name (sym (ap first_of same ∙ first)) h
no-name-there (Valued name operator value) R behind others h n first same = n name (sym (ap first_of same ∙ first)) h.0

pub declaration-no-name : (others : List Lexeme) → ((t : Lexeme) → first_of others ≡ Some t → IsName t → ⊥) → DeclarationStops [] others
declaration-no-name others n = record {
  goes_on = declaration-none;
  never = λ d more R behind h hs ends first same. no-name-there d (spelled_others more R) behind others h n first same;
}

-- what stands behind the value of a declaration does not go on with it
value-ended : (facts : ExpressionFacts) (d : Declaration) (more : List FurtherDeclaration) (R : List Lexeme) → IsDeclaration d → AreFurther more → EndsBy (DeclarationGoesOn (last_of d more)) R → EndsBy (ValueGoesOn d) (spelled_others more R)
value-ended facts d [] R h hs ends = value-ends d R ends
value-ended facts d (f ∷ more) R h hs ends = comma-ends facts d f.comma h hs.0

no-assign : (facts : ExpressionFacts) (name : Lexeme) (more : List FurtherDeclaration) (R : List Lexeme) (t : Lexeme) (tail : List Lexeme) → IsName name → AreFurther more → EndsBy (DeclarationGoesOn (last_of (Bare name) more)) R → spelled_others more R ≡ t ∷ tail → IsMark AssignMark t → ⊥
no-assign facts name more R t tail n hs ends e a = ended (ValueGoesOn (Bare name)) (spelled_others more R) t tail (value-ended facts (Bare name) more R n hs ends) e a

value-stopped : (facts : ExpressionFacts) (name operator : Lexeme) (x others : List Lexeme) (d : Declaration) (more : List FurtherDeclaration) (R behind : List Lexeme) → IsMark AssignMark operator → ExpressionStops WithoutCommas x others → IsDeclaration d → AreFurther more → EndsBy (DeclarationGoesOn (last_of d more)) R → first_of behind ≡ first_of others → spelled_declaration d (spelled_others more R) ≡ name ∷ (operator ∷ (x ++ behind)) → ⊥
value-stopped facts name operator x others (Bare n) more R behind a s h hs ends first same =
    no-assign facts n more R operator (x ++ behind) h hs ends (same-tail n name (spelled_others more R) (operator ∷ (x ++ behind)) same) a
value-stopped facts name operator x others (Valued n o v) more R behind a s h hs ends first same =
    let y : List Lexeme = spelled_expression v (spelled_others more R) in
    let e : y ≡ x ++ behind = same-tail o operator y (x ++ behind) (same-tail n name (o ∷ y) (operator ∷ (x ++ behind)) same) in
    let r = expression-read WithoutCommas x behind others v (spelled_others more R) h.2 (value-ended facts (Valued n o v) more R h hs ends) e first s.goes_on s.no_more in
    s.not_whole v r.0

pub declaration-value-stops : (facts : ExpressionFacts) (name operator : Lexeme) (x others : List Lexeme) → IsName name → IsMark AssignMark operator → ExpressionStops WithoutCommas x others → DeclarationStops (name ∷ (operator ∷ x)) others
declaration-value-stops facts name operator x others n a s = record {
  goes_on = declaration-valued name operator x n a s.goes_on;
  never = λ d more R behind h hs ends first same. value-stopped facts name operator x others d more R behind a s h hs ends first same;
}

-- declarations

pub first-stops : (x others : List Lexeme) → DeclarationStops x others → DeclarationsStop x others
first-stops x others s = record {
  goes_on = declarations-first x s.goes_on;
  never = λ ds R behind h ends first same. s.never ds.first ds.others R behind h.0 h.1 ends first same;
}

-- declarations that begin as others do, which a comma follows, go on with a declaration behind it
pub record FurtherThere (R S : List Lexeme) : Type 0 where
  pub declaration : Declaration
  pub more : List FurtherDeclaration
  pub is : IsDeclaration declaration
  pub are : AreFurther more
  pub ends : EndsBy (DeclarationGoesOn (last_of declaration more)) R
  pub same : spelled_declaration declaration (spelled_others more R) ≡ S

pub further-there : (facts : ExpressionFacts) (d e : Declaration) (ds es : List FurtherDeclaration) (R : List Lexeme) (c : Lexeme) (S : List Lexeme) → IsDeclaration d → IsDeclaration e → AreFurther ds → AreFurther es → EndsBy (DeclarationGoesOn (last_of d ds)) R → IsMark Comma c → spelled_declaration d (spelled_others ds R) ≡ spelled_declaration e (spelled_others es (c ∷ S)) → FurtherThere R S
further-there facts d e [] [] R c S h g hs gs ends m i =
    let s = same-declaration facts d e R (c ∷ S) h g (value-ends d R ends) (comma-ends facts e c g m) i in
    absurd (ended (DeclarationGoesOn d) R c S ends s.1 (comma-goes-on d c m))
further-there facts d e [] (f ∷ es) R c S h g hs gs ends m i =
    let y : List Lexeme = spelled_declaration f.declaration (spelled_others es (c ∷ S)) in
    let s = same-declaration facts d e R (f.comma ∷ y) h g (value-ends d R ends) (comma-ends facts e f.comma g gs.0) i in
    absurd (ended (DeclarationGoesOn d) R f.comma y ends s.1 (comma-goes-on d f.comma gs.0))
further-there facts d e (f ∷ ds) [] R c S h g hs gs ends m i =
    let y : List Lexeme = spelled_declaration f.declaration (spelled_others ds R) in
    let s = same-declaration facts d e (f.comma ∷ y) (c ∷ S) h g (comma-ends facts d f.comma h hs.0) (comma-ends facts e c g m) i in
    record { declaration = f.declaration; more = ds; is = hs.1; are = hs.2; ends = ends; same = same-tail f.comma c y S s.1 }
further-there facts d e (f ∷ ds) (k ∷ es) R c S h g hs gs ends m i =
    let y : List Lexeme = spelled_declaration f.declaration (spelled_others ds R) in
    let z : List Lexeme = spelled_declaration k.declaration (spelled_others es (c ∷ S)) in
    let s = same-declaration facts d e (f.comma ∷ y) (k.comma ∷ z) h g (comma-ends facts d f.comma h hs.0) (comma-ends facts e k.comma g gs.0) i in
    further-there facts f.declaration k.declaration ds es R c S hs.1 gs.1 hs.2 gs.2 ends m (same-tail f.comma k.comma y z s.1)

pub further-stops : (facts : ExpressionFacts) (ds : Declarations) (comma : Lexeme) (x others : List Lexeme) → AreDeclarations ds → IsMark Comma comma → DeclarationStops x others → DeclarationsStop (spelled_declarations ds (comma ∷ x)) others
further-stops facts ds comma x others g c s = record {
  goes_on = declarations-further ds comma x g c s.goes_on;
  never = λ es R behind h ends first same.
      let e : spelled_declarations es R ≡ spelled_declarations ds (comma ∷ (x ++ behind)) =
      same ∙ (ap (λ r. r ++ behind) (declarations-spelled ds (comma ∷ x))
      ∙ (append_assoc (spelled_declarations ds []) (comma ∷ x) behind ∙ sym (declarations-spelled ds (comma ∷ (x ++ behind))))) in
      let f : FurtherThere R (x ++ behind) = further-there facts es.first ds.first es.others ds.others R comma (x ++ behind) h.0 g.0 h.1 g.1 ends c e in
      s.never f.declaration f.more R behind f.is f.are f.ends first f.same;
}
