-- Where statements that hold no other go on no more.
pub use Rattle.es_reader.specs.Stops.{SimpleStops}
use Rattle.std.proofs.Common.{◌≡◌, ℕ, ◌≤◌, true, ◌⊎◌, List, [], ◌∷◌, ◌++◌, length, drop, Some, sym, ◌∙◌, subst, append-nil}
use Rattle.std.proofs.lemmas.Option.{same_Some}
use Rattle.es_lexer.specs.declared.words.ReservedWord.TheVariants.{Break, Continue, Return as ReturnWord, Var as VarWord}
use Rattle.es_expressions.specs.declared.lexemes.Lexeme.{Lexeme}
use Rattle.es_reader.specs.Statements.{Declarations, spelled_end, spelled_declarations}
use Rattle.es_reader.specs.Grammar.{IsWord, IsOnLine, AreDeclarations, last_of, DeclarationGoesOn, Setting}
use Rattle.es_reader.specs.Openings.{Opening, Outer, place_in, first_of}
use Rattle.es_reader.specs.Programs.{IsBadAt}
use Rattle.es_reader.proofs.ExpressionFacts.{ExpressionFacts}
use Rattle.es_reader.proofs.Spelling.{declarations-spelled}
use Rattle.es_reader.proofs.Tokens.{kind_of, var-kind, jump-kind, return-kind}
use Rattle.es_reader.proofs.Tokens.Kind.{AtExpression}
use Rattle.es_reader.proofs.Uniqueness.{IsSimpleKind, EndsBy, end-by, same-declarations, semicolon-last}
use Rattle.es_reader.proofs.BadPlaces.{first-behind}
use Rattle.es_reader.proofs.Forms.{VarForm, as-var, ExpressionForm, as-expression, JumpForm, as-jump, ReturnForm, as-return, no-return-end}
use Rattle.es_reader.proofs.Forms.ReturnForm.{NoValue, WithValue}
use Rattle.es_reader.proofs.Partials.{DeclarationsFrom, SimpleFrom, var-from, expression-from, jump-from, return-from, value-from}
use Rattle.es_reader.proofs.Standing.{Stands, bad-simple, first-token}
use Rattle.es_reader.proofs.PartStops.{EndsNothing, ValueStops, DeclarationsStop, no-end-there}

-- an expression
pub expression-simple-stops : (facts : ExpressionFacts) (p : Setting) (t : Lexeme) (x others : List Lexeme) → kind_of t ≡ AtExpression → ValueStops (t ∷ x) others → SimpleStops p (t ∷ x) others
expression-simple-stops facts p t x others k v = record {
  goes_on = expression-from p (t ∷ x) v.goes_on;
  never = λ s rest behind h first same.
      let f : ExpressionForm rest (t ∷ (x ++ behind)) = as-expression facts p s rest t (x ++ behind) h same k in
      v.never f.expression f.semicolon rest behind f.is f.ends first f.same;
}

-- `var`
pub var-stops : (facts : ExpressionFacts) (p : Setting) (word : Lexeme) (x others : List Lexeme) → IsWord VarWord word → DeclarationsStop x others → SimpleStops p (word ∷ x) others
var-stops facts p word x others w d = record {
  goes_on = var-from p word x w d.goes_on;
  never = λ s rest behind h first same.
      let f : VarForm rest (x ++ behind) = as-var facts p s rest word (x ++ behind) h same (var-kind word w) in
      d.never f.declarations (spelled_end f.semicolon rest) behind f.are
      (end-by (DeclarationGoesOn (last_of f.declarations.first f.declarations.others)) f.semicolon rest (λ t m. semicolon-last facts f.declarations t f.are m) f.ends)
      first f.same;
}

-- declarations go on with themselves
pub declarations-itself : (ds : Declarations) → AreDeclarations ds → DeclarationsFrom (spelled_declarations ds [])
declarations-itself ds h = record { declarations = ds; left = []; are = h; same = sym (append-nil (spelled_declarations ds [])) }

pub declarations-end : (ds : Declarations) (behind others : List Lexeme) → first_of behind ≡ first_of others → ((t : Lexeme) → first_of others ≡ Some t → DeclarationGoesOn (last_of ds.first ds.others) t → ⊥) → EndsBy (DeclarationGoesOn (last_of ds.first ds.others)) behind
declarations-end ds [] others first n = tt
declarations-end ds (t ∷ behind) others first n = n t (sym first)

pub var-no-end : (facts : ExpressionFacts) (p : Setting) (word : Lexeme) (ds : Declarations) (others : List Lexeme) (t : Lexeme) → IsWord VarWord word → AreDeclarations ds → ((u : Lexeme) → first_of others ≡ Some u → DeclarationGoesOn (last_of ds.first ds.others) u → ⊥) → first_of others ≡ Some t → EndsNothing t → SimpleStops p (word ∷ spelled_declarations ds []) others
var-no-end facts p word ds others t w g n k z = record {
  goes_on = var-from p word (spelled_declarations ds []) w (declarations-itself ds g);
  never = λ s rest behind h first same.
      let f : VarForm rest (spelled_declarations ds [] ++ behind) = as-var facts p s rest word (spelled_declarations ds [] ++ behind) h same (var-kind word w) in
      let r = same-declarations facts f.declarations ds (spelled_end f.semicolon rest) behind f.are g
      (end-by (DeclarationGoesOn (last_of f.declarations.first f.declarations.others)) f.semicolon rest (λ t m. semicolon-last facts f.declarations t f.are m) f.ends)
      (declarations-end ds behind others first n) (f.same ∙ sym (declarations-spelled ds behind)) in
      no-end-there (DeclarationGoesOn (last_of f.declarations.first f.declarations.others)) f.semicolon rest behind others t f.ends r.1 first k z;
}

-- `break` and `continue`
pub jump-no-end : (facts : ExpressionFacts) (p : Setting) (word : Lexeme) (others : List Lexeme) (t : Lexeme) → IsWord Break word ⊎ IsWord Continue word → p.in_loop ≡ true → first_of others ≡ Some t → EndsNothing t → SimpleStops p (word ∷ []) others
jump-no-end facts p word others t w l k z = record {
  goes_on = jump-from p word w l;
  never = λ s rest behind h first same.
      let f : JumpForm p rest behind = as-jump facts p s rest word behind h same (jump-kind word w) in
      no-end-there (λ next. ⊥) f.semicolon rest behind others t f.ends f.same first k z;
}

-- `return`, where no end stands behind it and so a value has to come

value-goes-on : (p : Setting) (word : Lexeme) (x others : List Lexeme) (t : Lexeme) → IsWord ReturnWord word → p.in_function ≡ true → first_of (x ++ others) ≡ Some t → IsOnLine t → ValueStops x others → SimpleFrom p (word ∷ x)
value-goes-on p word [] others t w f k l v = return-from p word w f
value-goes-on p word (u ∷ x) others t w f k l v = value-from p word u x w f (subst (λ r. IsOnLine r) (sym (same_Some u t k)) l) v.goes_on

return-never : (p : Setting) (x others rest behind : List Lexeme) (t : Lexeme) → first_of (x ++ others) ≡ Some t → EndsNothing t → ValueStops x others → first_of behind ≡ first_of others → ReturnForm p rest (x ++ behind) → ⊥
return-never p x others rest behind t k z v first (NoValue semicolon f e same) =
    let b = first-token (x ++ behind) t (first-behind x behind others first ∙ k) in
    no-return-end semicolon rest t b.0 e (same ∙ b.1) z.0 z.1 z.2
return-never p x others rest behind t k z v first (WithValue value semicolon f i b e same) = v.never value semicolon rest behind i e first same

pub return-stops : (facts : ExpressionFacts) (p : Setting) (word : Lexeme) (x others : List Lexeme) (t : Lexeme) → IsWord ReturnWord word → p.in_function ≡ true → first_of (x ++ others) ≡ Some t → EndsNothing t → ValueStops x others → SimpleStops p (word ∷ x) others
return-stops facts p word x others t w f k z v = record {
  goes_on = value-goes-on p word x others t w f k z.2 v;
  never = λ s rest behind h first same.
      return-never p x others rest behind t k z v first (as-return facts p s rest word (x ++ behind) h same (return-kind word w));
}

-- where the reader stands, such a place is bad
pub simple-bad : (facts : ExpressionFacts) (os : List Opening) (outer : Outer) (tokens : List Lexeme) (start place : ℕ) (t : Lexeme) (x : List Lexeme) → Stands os outer tokens start → place ≤ length tokens → t ∷ (x ++ drop place tokens) ≡ drop start tokens → IsSimpleKind (kind_of t) → SimpleStops (place_in os outer) (t ∷ x) (drop place tokens) → IsBadAt tokens place
simple-bad facts os outer tokens start place t x h l e k s =
    bad-simple facts os outer tokens start place t x h l e k s.goes_on (λ y rest behind i first same. s.never y rest behind i first same)
