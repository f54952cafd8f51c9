-- Where heads go on no more.
pub use Rattle.es_reader.specs.Stops.{FirstStops, HeadStops}
use Rattle.std.proofs.Common.{◌≡◌, ℕ, ◌≤◌, true, ◌⊎◌, inl, inr, List, [], ◌∷◌, ◌++◌, length, drop, Option, Some, None, sym, ◌∙◌, ap}
use Rattle.es_lexer.specs.declared.words.ReservedWord.TheVariants.{For as ForWord, If as IfWord, In, Var as VarWord, While as WhileWord}
use Rattle.es_lexer.specs.declared.punctuators.Punctuator.TheVariants.{OpenParenthesis, CloseParenthesis, Semicolon}
use Rattle.es_expressions.specs.Phrases.{Phrase, spelled as spelled_expression}
use Rattle.es_expressions.specs.Grammar.{IsExpression, is_target}
use Rattle.es_expressions.specs.declared.expressions.Extent.TheVariants.{WithCommas}
use Rattle.es_expressions.specs.declared.lexemes.Lexeme.{Lexeme}
use Rattle.es_reader.specs.Statements.{Declarations, First, Visitor, Head, spelled_part, spelled_declarations, spelled_first, spelled_visitor}
use Rattle.es_reader.specs.Statements.Declaration.{Bare}
use Rattle.es_reader.specs.Statements.First.{NoFirst, FirstExpression, FirstVar}
use Rattle.es_reader.specs.Statements.Visitor.{Target, Variable}
use Rattle.es_reader.specs.Grammar.{IsWord, IsMark, MayBe, AreDeclarations, last_of, DeclarationGoesOn, IsFirst, IsVisitor}
use Rattle.es_reader.specs.Programs.{IsBadAt}
use Rattle.es_reader.specs.Openings.{Opening, Outer, first_of}
use Rattle.es_reader.proofs.ExpressionFacts.{ExpressionFacts}
use Rattle.es_reader.proofs.Spelling.{declarations-spelled, first-onward, part-onward, visitor-onward}
use Rattle.es_reader.proofs.Tokens.{kind_of, IsStop, close-stops, semicolon-stops, word-stops, if-kind, while-kind, for-kind, var-kind}
use Rattle.es_reader.proofs.Tokens.Kind.{AtVar, AtExpression}
use Rattle.es_reader.proofs.Uniqueness.{IsHeadKind, same-head, same-tail, same-kind, begun, expression-begun, same-declarations, semicolon-last, in-no-value, same-first, same-part, same-visitor, first-no-visitor, semicolon-apart}
use Rattle.es_reader.proofs.BadPlaces.{first-behind}
use Rattle.es_reader.proofs.Forms.{as-if, as-while, ForForm, as-for}
use Rattle.es_reader.proofs.Forms.ForForm.{WithSteps, WithVisitor}
use Rattle.es_reader.proofs.Partials.{if-from, if-test-from, while-from, while-test-from, first-expression-from, first-var-from, for-from, for-first-from, for-test-from, for-step-from, for-object-from}
use Rattle.es_reader.proofs.Standing.{Stands, bad-head}
use Rattle.es_reader.proofs.PartStops.{PartStops, DeclarationsStop}
use Rattle.es_reader.proofs.SimpleStops.{declarations-itself, declarations-end}

-- a part that a `)` follows, and one that a `;` follows
abbrev pub ClosesPart : Phrase → Lexeme → Type 0
ClosesPart e t = IsMark CloseParenthesis t

abbrev pub EndsPart : Phrase → Lexeme → Type 0
EndsPart e t = IsMark Semicolon t

-- what is first in the head of a `for`, which a `;` follows or, where it is a target, `in`
abbrev pub EndsFirst : Phrase → Lexeme → Type 0
EndsFirst e t = IsMark Semicolon t ⊎ (IsWord In t × (is_target e ≡ true))

-- no token of this kind comes next
abbrev pub Lacks : (Lexeme → Type 0) → List Lexeme → Type 0
Lacks Is others = (t : Lexeme) → first_of others ≡ Some t → Is t → ⊥

pub lacked : (Is : Lexeme → Type 0) (others behind : List Lexeme) (t : Lexeme) (more : List Lexeme) → Lacks Is others → first_of behind ≡ first_of others → t ∷ more ≡ behind → Is t → ⊥
lacked Is others behind t more n first e i = n t (sym (ap first_of e ∙ first)) i

-- `if`

pub if-no-open : (word : Lexeme) (others : List Lexeme) → IsWord IfWord word → Lacks (IsMark OpenParenthesis) others → HeadStops (word ∷ []) others
if-no-open word others w n = record {
  goes_on = if-from word w;
  never = λ h rest behind i first same.
      let f = (as-if h rest word behind i same (if-kind word w)).0 in
      lacked (IsMark OpenParenthesis) others behind f.open_mark (spelled_expression f.test (f.close_mark ∷ rest)) n first f.same f.opens;
}

pub if-test-stops : (word open_mark : Lexeme) (x others : List Lexeme) → IsWord IfWord word → IsMark OpenParenthesis open_mark → PartStops ClosesPart x others → HeadStops (word ∷ (open_mark ∷ x)) others
if-test-stops word open_mark x others w o p = record {
  goes_on = if-test-from word open_mark x w o p.goes_on;
  never = λ h rest behind i first same.
      let f = (as-if h rest word (open_mark ∷ (x ++ behind)) i same (if-kind word w)).0 in
      p.never f.test f.close_mark rest behind f.is (close-stops WithCommas f.close_mark f.closes) f.closes first
      (same-tail f.open_mark open_mark (spelled_expression f.test (f.close_mark ∷ rest)) (x ++ behind) f.same);
}

-- `while`

pub while-no-open : (word : Lexeme) (others : List Lexeme) → IsWord WhileWord word → Lacks (IsMark OpenParenthesis) others → HeadStops (word ∷ []) others
while-no-open word others w n = record {
  goes_on = while-from word w;
  never = λ h rest behind i first same.
      let f = (as-while h rest word behind i same (while-kind word w)).0 in
      lacked (IsMark OpenParenthesis) others behind f.open_mark (spelled_expression f.test (f.close_mark ∷ rest)) n first f.same f.opens;
}

pub while-test-stops : (word open_mark : Lexeme) (x others : List Lexeme) → IsWord WhileWord word → IsMark OpenParenthesis open_mark → PartStops ClosesPart x others → HeadStops (word ∷ (open_mark ∷ x)) others
while-test-stops word open_mark x others w o p = record {
  goes_on = while-test-from word open_mark x w o p.goes_on;
  never = λ h rest behind i first same.
      let f = (as-while h rest word (open_mark ∷ (x ++ behind)) i same (while-kind word w)).0 in
      p.never f.test f.close_mark rest behind f.is (close-stops WithCommas f.close_mark f.closes) f.closes first
      (same-tail f.open_mark open_mark (spelled_expression f.test (f.close_mark ∷ rest)) (x ++ behind) f.same);
}

-- `for`

no-open : (h : Head) (word : Lexeme) (rest others behind : List Lexeme) → Lacks (IsMark OpenParenthesis) others → first_of behind ≡ first_of others → ForForm h word rest behind → ⊥
no-open h word rest others behind n first (WithSteps o a s e m x c is i1 i2 i3 i4 i5 i6 i7 same) =
    lacked (IsMark OpenParenthesis) others behind o (spelled_first a (s ∷ spelled_part e (m ∷ spelled_part x (c ∷ rest)))) n first same i1
no-open h word rest others behind n first (WithVisitor o v s e c is i1 i2 i3 i4 i5 same) =
    lacked (IsMark OpenParenthesis) others behind o (spelled_visitor v (s ∷ spelled_expression e (c ∷ rest))) n first same i1

pub for-no-open : (word : Lexeme) (others : List Lexeme) → IsWord ForWord word → Lacks (IsMark OpenParenthesis) others → HeadStops (word ∷ []) others
for-no-open word others w n = record {
  goes_on = for-from word w;
  never = λ h rest behind i first same. no-open h word rest others behind n first (as-for h rest word behind i same (for-kind word w));
}

-- what stands first goes on no more

for-first-never : (h : Head) (word open_mark : Lexeme) (x rest others behind : List Lexeme) → FirstStops x others → first_of behind ≡ first_of others → ForForm h word rest (open_mark ∷ (x ++ behind)) → ⊥
for-first-never h word open_mark x rest others behind f first (WithSteps o a s e m y c is i1 i2 i3 i4 i5 i6 i7 same) =
    let z : List Lexeme = spelled_part e (m ∷ spelled_part y (c ∷ rest)) in
    f.never_first a s z behind i2 i3 first (same-tail o open_mark (spelled_first a (s ∷ z)) (x ++ behind) same)
for-first-never h word open_mark x rest others behind f first (WithVisitor o v s e c is i1 i2 i3 i4 i5 same) =
    let z : List Lexeme = spelled_expression e (c ∷ rest) in
    f.never_visitor v s z behind i2 i3 first (same-tail o open_mark (spelled_visitor v (s ∷ z)) (x ++ behind) same)

pub for-first-stops : (word open_mark : Lexeme) (x others : List Lexeme) → IsWord ForWord word → IsMark OpenParenthesis open_mark → FirstStops x others → HeadStops (word ∷ (open_mark ∷ x)) others
for-first-stops word open_mark x others w o f = record {
  goes_on = for-first-from word open_mark x w o f.goes_on;
  never = λ h rest behind i first same.
      for-first-never h word open_mark x rest others behind f first (as-for h rest word (open_mark ∷ (x ++ behind)) i same (for-kind word w));
}

-- an expression there, which begins neither with `;` nor with `var`
expression-never-first : (x others : List Lexeme) → PartStops EndsFirst x others → Lacks (IsMark Semicolon) (x ++ others) → Lacks (IsWord VarWord) (x ++ others) → (f : First) (t : Lexeme) (R behind : List Lexeme) → IsFirst f → IsMark Semicolon t → first_of behind ≡ first_of others → spelled_first f (t ∷ R) ≡ x ++ behind → ⊥
expression-never-first x others p n v NoFirst t R behind h m first same =
    lacked (IsMark Semicolon) (x ++ others) (x ++ behind) t R n (first-behind x behind others first) same m
expression-never-first x others p n v (FirstExpression e) t R behind h m first same =
    p.never e t R behind h (semicolon-stops WithCommas t m) (inl m) first same
expression-never-first x others p n v (FirstVar word ds) t R behind h m first same =
    lacked (IsWord VarWord) (x ++ others) (x ++ behind) word (spelled_declarations ds (t ∷ R)) v (first-behind x behind others first) same h.0

expression-never-visitor : (x others : List Lexeme) → PartStops EndsFirst x others → Lacks (IsWord VarWord) (x ++ others) → (v : Visitor) (t : Lexeme) (R behind : List Lexeme) → IsVisitor v → IsWord In t → first_of behind ≡ first_of others → spelled_visitor v (t ∷ R) ≡ x ++ behind → ⊥
expression-never-visitor x others p n (Target e) t R behind h m first same =
    p.never e t R behind h.0 (word-stops WithCommas In t m) (inr (m, h.1)) first same
expression-never-visitor x others p n (Variable word name) t R behind h m first same =
    lacked (IsWord VarWord) (x ++ others) (x ++ behind) word (name ∷ (t ∷ R)) n (first-behind x behind others first) same h.0

pub first-expression-stops : (x others : List Lexeme) → PartStops EndsFirst x others → Lacks (IsMark Semicolon) (x ++ others) → Lacks (IsWord VarWord) (x ++ others) → FirstStops x others
first-expression-stops x others p n v = record {
  goes_on = first-expression-from x p.goes_on;
  never_first = expression-never-first x others p n v;
  never_visitor = expression-never-visitor x others p v;
}

-- the kinds of first tokens tell `var` from `;` and from an expression
var-no-semicolon : (word t : Lexeme) → IsWord VarWord word → IsMark Semicolon t → t ≡ word → ⊥
var-no-semicolon word t w m e = let k : t.symbol ≡ word.symbol = ap (λ x. x.symbol) e in absurd (cc)

expression-no-var : (facts : ExpressionFacts) (e : Phrase) (rest : List Lexeme) (word : Lexeme) (more : List Lexeme) → IsExpression e → IsWord VarWord word → spelled_expression e rest ≡ word ∷ more → ⊥
expression-no-var facts e rest word more h w same =
    let k : AtExpression ≡ AtVar = same-kind (spelled_expression e rest) (word ∷ more) AtExpression AtVar (expression-begun facts WithCommas e rest h) (begun word more AtVar (var-kind word w)) same in
    absurd (cc)

-- declarations there that go on no more

declarations-never-first : (facts : ExpressionFacts) (word : Lexeme) (x others : List Lexeme) → IsWord VarWord word → DeclarationsStop x others → (f : First) (t : Lexeme) (R behind : List Lexeme) → IsFirst f → IsMark Semicolon t → first_of behind ≡ first_of others → spelled_first f (t ∷ R) ≡ word ∷ (x ++ behind) → ⊥
declarations-never-first facts word x others w d NoFirst t R behind h m first same = var-no-semicolon word t w m (same-head t word R (x ++ behind) same)
declarations-never-first facts word x others w d (FirstExpression e) t R behind h m first same = expression-no-var facts e (t ∷ R) word (x ++ behind) h w same
declarations-never-first facts word x others w d (FirstVar v ds) t R behind h m first same =
    d.never ds (t ∷ R) behind h.1 (semicolon-last facts ds t h.1 m) first (same-tail v word (spelled_declarations ds (t ∷ R)) (x ++ behind) same)

declarations-never-visitor : (facts : ExpressionFacts) (word : Lexeme) (x others : List Lexeme) → IsWord VarWord word → DeclarationsStop x others → (v : Visitor) (t : Lexeme) (R behind : List Lexeme) → IsVisitor v → IsWord In t → first_of behind ≡ first_of others → spelled_visitor v (t ∷ R) ≡ word ∷ (x ++ behind) → ⊥
declarations-never-visitor facts word x others w d (Target e) t R behind h m first same = expression-no-var facts e (t ∷ R) word (x ++ behind) h.0 w same
declarations-never-visitor facts word x others w d (Variable v name) t R behind h m first same =
    d.never (record { first = Bare name; others = [] }) (t ∷ R) behind (h.1, tt) (in-no-value name t m) first
    (same-tail v word (name ∷ (t ∷ R)) (x ++ behind) same)

pub first-declarations-stop : (facts : ExpressionFacts) (word : Lexeme) (x others : List Lexeme) → IsWord VarWord word → DeclarationsStop x others → FirstStops (word ∷ x) others
first-declarations-stop facts word x others w d = record {
  goes_on = first-var-from word x w d.goes_on;
  never_first = declarations-never-first facts word x others w d;
  never_visitor = declarations-never-visitor facts word x others w d;
}

-- whole declarations there, behind which neither a `;` comes nor, where they are one name, `in`

-- one name without a value
abbrev pub one_name : Lexeme → Declarations
one_name name = record { first = Bare name; others = [] }

abbrev pub DeclarationsGoNoFurther : Declarations → List Lexeme → Type 0
DeclarationsGoNoFurther ds others = (t : Lexeme) → first_of others ≡ Some t → DeclarationGoesOn (last_of ds.first ds.others) t → ⊥

declarations-lack-first : (facts : ExpressionFacts) (word : Lexeme) (ds : Declarations) (others : List Lexeme) → IsWord VarWord word → AreDeclarations ds → DeclarationsGoNoFurther ds others → Lacks (IsMark Semicolon) others → (f : First) (t : Lexeme) (R behind : List Lexeme) → IsFirst f → IsMark Semicolon t → first_of behind ≡ first_of others → spelled_first f (t ∷ R) ≡ word ∷ (spelled_declarations ds [] ++ behind) → ⊥
declarations-lack-first facts word ds others w g n l NoFirst t R behind h m first same = var-no-semicolon word t w m (same-head t word R (spelled_declarations ds [] ++ behind) same)
declarations-lack-first facts word ds others w g n l (FirstExpression e) t R behind h m first same = expression-no-var facts e (t ∷ R) word (spelled_declarations ds [] ++ behind) h w same
declarations-lack-first facts word ds others w g n l (FirstVar v es) t R behind h m first same =
    let r = same-declarations facts es ds (t ∷ R) behind h.1 g (semicolon-last facts es t h.1 m) (declarations-end ds behind others first n)
    (same-tail v word (spelled_declarations es (t ∷ R)) (spelled_declarations ds [] ++ behind) same ∙ sym (declarations-spelled ds behind)) in
    lacked (IsMark Semicolon) others behind t R l first r.1 m

declarations-lack-visitor : (facts : ExpressionFacts) (word : Lexeme) (ds : Declarations) (others : List Lexeme) → IsWord VarWord word → AreDeclarations ds → DeclarationsGoNoFurther ds others → ((name : Lexeme) → ds ≡ one_name name → Lacks (IsWord In) others) → (v : Visitor) (t : Lexeme) (R behind : List Lexeme) → IsVisitor v → IsWord In t → first_of behind ≡ first_of others → spelled_visitor v (t ∷ R) ≡ word ∷ (spelled_declarations ds [] ++ behind) → ⊥
declarations-lack-visitor facts word ds others w g n l (Target e) t R behind h m first same = expression-no-var facts e (t ∷ R) word (spelled_declarations ds [] ++ behind) h.0 w same
declarations-lack-visitor facts word ds others w g n l (Variable v name) t R behind h m first same =
    let r = same-declarations facts (one_name name) ds (t ∷ R) behind (h.1, tt) g (in-no-value name t m) (declarations-end ds behind others first n)
    (same-tail v word (name ∷ (t ∷ R)) (spelled_declarations ds [] ++ behind) same ∙ sym (declarations-spelled ds behind)) in
    lacked (IsWord In) others behind t R (l name (sym r.0)) first r.1 m

pub first-declarations-lack : (facts : ExpressionFacts) (word : Lexeme) (ds : Declarations) (others : List Lexeme) → IsWord VarWord word → AreDeclarations ds → DeclarationsGoNoFurther ds others → Lacks (IsMark Semicolon) others → ((name : Lexeme) → ds ≡ one_name name → Lacks (IsWord In) others) → FirstStops (word ∷ spelled_declarations ds []) others
first-declarations-lack facts word ds others w g n l i = record {
  goes_on = first-var-from word (spelled_declarations ds []) w (declarations-itself ds g);
  never_first = declarations-lack-first facts word ds others w g n l;
  never_visitor = declarations-lack-visitor facts word ds others w g n i;
}

-- what stands behind the first `;`, between the two, and behind `in`

part-never : (Accepts : Lexeme → Type 0) (e : Option Phrase) (x others : List Lexeme) (t : Lexeme) (R behind : List Lexeme) → PartStops (λ e. Accepts) x others → Lacks Accepts (x ++ others) → MayBe e → IsStop WithCommas t → Accepts t → first_of behind ≡ first_of others → spelled_part e (t ∷ R) ≡ x ++ behind → ⊥
part-never Accepts None x others t R behind p n h s a first same = lacked Accepts (x ++ others) (x ++ behind) t R n (first-behind x behind others first) same a
part-never Accepts (Some e) x others t R behind p n h s a first same = p.never e t R behind h s a first same

for-test-never : (facts : ExpressionFacts) (h : Head) (word open_mark : Lexeme) (a : First) (mark : Lexeme) (x rest others behind : List Lexeme) → IsFirst a → IsMark Semicolon mark → PartStops EndsPart x others → Lacks (IsMark Semicolon) (x ++ others) → first_of behind ≡ first_of others → ForForm h word rest (open_mark ∷ (spelled_first a (mark ∷ x) ++ behind)) → ⊥
for-test-never facts h word open_mark a mark x rest others behind g k p n first (WithSteps o b s e m y c is i1 i2 i3 i4 i5 i6 i7 same) =
    let z : List Lexeme = spelled_part y (c ∷ rest) in
    let q : spelled_first b (s ∷ spelled_part e (m ∷ z)) ≡ spelled_first a (mark ∷ (x ++ behind)) =
    same-tail o open_mark (spelled_first b (s ∷ spelled_part e (m ∷ z))) (spelled_first a (mark ∷ x) ++ behind) same ∙ sym (first-onward a (mark ∷ x) behind) in
    let r = same-first facts b a s mark (spelled_part e (m ∷ z)) (x ++ behind) i2 g i3 k q in
    part-never (IsMark Semicolon) e x others m z behind p n i4 (semicolon-stops WithCommas m i5) i5 first r.1.1
for-test-never facts h word open_mark a mark x rest others behind g k p n first (WithVisitor o v s e c is i1 i2 i3 i4 i5 same) =
    let z : List Lexeme = spelled_expression e (c ∷ rest) in
    first-no-visitor facts a v mark s (x ++ behind) z g i2 k i3
    (sym (same-tail o open_mark (spelled_visitor v (s ∷ z)) (spelled_first a (mark ∷ x) ++ behind) same ∙ sym (first-onward a (mark ∷ x) behind)))

pub for-test-stops : (facts : ExpressionFacts) (word open_mark : Lexeme) (a : First) (mark : Lexeme) (x others : List Lexeme) → IsWord ForWord word → IsMark OpenParenthesis open_mark → IsFirst a → IsMark Semicolon mark → PartStops EndsPart x others → Lacks (IsMark Semicolon) (x ++ others) → HeadStops (word ∷ (open_mark ∷ spelled_first a (mark ∷ x))) others
for-test-stops facts word open_mark a mark x others w o g k p n = record {
  goes_on = for-test-from word open_mark a mark x w o g k p.goes_on;
  never = λ h rest behind i first same.
      for-test-never facts h word open_mark a mark x rest others behind g k p n first
      (as-for h rest word (open_mark ∷ (spelled_first a (mark ∷ x) ++ behind)) i same (for-kind word w));
}

steps-onward : (a : First) (mark : Lexeme) (e : Option Phrase) (second : Lexeme) (x behind : List Lexeme) → spelled_first a (mark ∷ spelled_part e (second ∷ x)) ++ behind ≡ spelled_first a (mark ∷ spelled_part e (second ∷ (x ++ behind)))
steps-onward a mark e second x behind =
    sym (first-onward a (mark ∷ spelled_part e (second ∷ x)) behind) ∙ ap (λ r. spelled_first a (mark ∷ r)) (sym (part-onward e (second ∷ x) behind))

for-step-never : (facts : ExpressionFacts) (h : Head) (word open_mark : Lexeme) (a : First) (mark : Lexeme) (test : Option Phrase) (second : Lexeme) (x rest others behind : List Lexeme) → IsFirst a → IsMark Semicolon mark → MayBe test → IsMark Semicolon second → PartStops ClosesPart x others → Lacks (IsMark CloseParenthesis) (x ++ others) → first_of behind ≡ first_of others → ForForm h word rest (open_mark ∷ (spelled_first a (mark ∷ spelled_part test (second ∷ x)) ++ behind)) → ⊥
for-step-never facts h word open_mark a mark test second x rest others behind g k u l p n first (WithSteps o b s e m y c is i1 i2 i3 i4 i5 i6 i7 same) =
    let z : List Lexeme = spelled_part y (c ∷ rest) in
    let q : spelled_first b (s ∷ spelled_part e (m ∷ z)) ≡ spelled_first a (mark ∷ spelled_part test (second ∷ (x ++ behind))) =
    same-tail o open_mark (spelled_first b (s ∷ spelled_part e (m ∷ z))) (spelled_first a (mark ∷ spelled_part test (second ∷ x)) ++ behind) same ∙ steps-onward a mark test second x behind in
    let r = same-first facts b a s mark (spelled_part e (m ∷ z)) (spelled_part test (second ∷ (x ++ behind))) i2 g i3 k q in
    let t = same-part facts e test m second z (x ++ behind) i4 u (semicolon-stops WithCommas m i5) (semicolon-stops WithCommas second l) (semicolon-apart m i5) (semicolon-apart second l) r.1.1 in
    part-never (IsMark CloseParenthesis) y x others c rest behind p n i6 (close-stops WithCommas c i7) i7 first t.1.1
for-step-never facts h word open_mark a mark test second x rest others behind g k u l p n first (WithVisitor o v s e c is i1 i2 i3 i4 i5 same) =
    let z : List Lexeme = spelled_expression e (c ∷ rest) in
    first-no-visitor facts a v mark s (spelled_part test (second ∷ (x ++ behind))) z g i2 k i3
    (sym (same-tail o open_mark (spelled_visitor v (s ∷ z)) (spelled_first a (mark ∷ spelled_part test (second ∷ x)) ++ behind) same ∙ steps-onward a mark test second x behind))

pub for-step-stops : (facts : ExpressionFacts) (word open_mark : Lexeme) (a : First) (mark : Lexeme) (test : Option Phrase) (second : Lexeme) (x others : List Lexeme) → IsWord ForWord word → IsMark OpenParenthesis open_mark → IsFirst a → IsMark Semicolon mark → MayBe test → IsMark Semicolon second → PartStops ClosesPart x others → Lacks (IsMark CloseParenthesis) (x ++ others) → HeadStops (word ∷ (open_mark ∷ spelled_first a (mark ∷ spelled_part test (second ∷ x)))) others
for-step-stops facts word open_mark a mark test second x others w o g k u l p n = record {
  goes_on = for-step-from word open_mark a mark test second x w o g k u l p.goes_on;
  never = λ h rest behind i first same.
      for-step-never facts h word open_mark a mark test second x rest others behind g k u l p n first
      (as-for h rest word (open_mark ∷ (spelled_first a (mark ∷ spelled_part test (second ∷ x)) ++ behind)) i same (for-kind word w));
}

for-object-never : (facts : ExpressionFacts) (h : Head) (word open_mark : Lexeme) (a : Visitor) (in_word : Lexeme) (x rest others behind : List Lexeme) → IsVisitor a → IsWord In in_word → PartStops ClosesPart x others → first_of behind ≡ first_of others → ForForm h word rest (open_mark ∷ (spelled_visitor a (in_word ∷ x) ++ behind)) → ⊥
for-object-never facts h word open_mark a in_word x rest others behind g k p first (WithSteps o b s e m y c is i1 i2 i3 i4 i5 i6 i7 same) =
    let z : List Lexeme = spelled_part e (m ∷ spelled_part y (c ∷ rest)) in
    first-no-visitor facts b a s in_word z (x ++ behind) i2 g i3 k
    (same-tail o open_mark (spelled_first b (s ∷ z)) (spelled_visitor a (in_word ∷ x) ++ behind) same ∙ sym (visitor-onward a (in_word ∷ x) behind))
for-object-never facts h word open_mark a in_word x rest others behind g k p first (WithVisitor o v s e c is i1 i2 i3 i4 i5 same) =
    let z : List Lexeme = spelled_expression e (c ∷ rest) in
    let r = same-visitor facts v a s in_word z (x ++ behind) i2 g i3 k
    (same-tail o open_mark (spelled_visitor v (s ∷ z)) (spelled_visitor a (in_word ∷ x) ++ behind) same ∙ sym (visitor-onward a (in_word ∷ x) behind)) in
    p.never e c rest behind i4 (close-stops WithCommas c i5) i5 first r.1.1

pub for-object-stops : (facts : ExpressionFacts) (word open_mark : Lexeme) (a : Visitor) (in_word : Lexeme) (x others : List Lexeme) → IsWord ForWord word → IsMark OpenParenthesis open_mark → IsVisitor a → IsWord In in_word → PartStops ClosesPart x others → HeadStops (word ∷ (open_mark ∷ spelled_visitor a (in_word ∷ x))) others
for-object-stops facts word open_mark a in_word x others w o g k p = record {
  goes_on = for-object-from word open_mark a in_word x w o g k p.goes_on;
  never = λ h rest behind i first same.
      for-object-never facts h word open_mark a in_word x rest others behind g k p first
      (as-for h rest word (open_mark ∷ (spelled_visitor a (in_word ∷ x) ++ behind)) i same (for-kind word w));
}

-- where the reader stands, such a place is bad
pub head-bad : (facts : ExpressionFacts) (os : List Opening) (outer : Outer) (tokens : List Lexeme) (start place : ℕ) (t : Lexeme) (x : List Lexeme) → Stands os outer tokens start → place ≤ length tokens → t ∷ (x ++ drop place tokens) ≡ drop start tokens → IsHeadKind (kind_of t) → HeadStops (t ∷ x) (drop place tokens) → IsBadAt tokens place
head-bad facts os outer tokens start place t x h l e k s =
    bad-head facts os outer tokens start place t x h l e k s.goes_on (λ y rest behind i first same. s.never y rest behind i first same)
