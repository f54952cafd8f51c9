-- Where the fronts of functions go on no more.
pub use Rattle.es_reader.specs.Stops.{FrontStops}
use Rattle.std.proofs.Common.{◌≡◌, ℕ, ◌≤◌, true, false, List, [], ◌∷◌, ◌++◌, length, drop, Some, refl, sym, ◌∙◌, ap, subst, append_assoc}
use Rattle.std.specs.List.{IsDistinct}
use Rattle.bml_bytes.specs.Words.{is_same}
use Rattle.es_lexer.specs.declared.words.ReservedWord.TheVariants.{Function as FunctionWord}
use Rattle.es_lexer.specs.declared.punctuators.Punctuator.TheVariants.{OpenBrace, OpenParenthesis, CloseParenthesis, Comma}
use Rattle.es_expressions.specs.Roles.{is_name}
use Rattle.es_expressions.specs.declared.lexemes.Lexeme.{Lexeme}
use Rattle.es_reader.specs.Statements.{FurtherName, Parameters, Item, spelled_names, spelled_parameters}
use Rattle.es_reader.specs.Statements.Parameters.{NoParameters, SomeParameters}
use Rattle.es_reader.specs.Grammar.{IsWord, IsMark, IsName, AreNames, AreParameters, name_of, names_of, parameter_names}
use Rattle.es_reader.specs.Programs.{IsBadAt, is_among}
use Rattle.es_reader.specs.Openings.{Front, spelled_front, first_of}
use Rattle.es_reader.specs.Openings.Outer.{InProgram}
use Rattle.es_reader.proofs.ExpressionFacts.{ExpressionFacts}
use Rattle.es_reader.proofs.Tokens.{kind_of}
use Rattle.es_reader.proofs.Tokens.Kind.{AtFunction}
use Rattle.es_reader.proofs.Standing.{Stands, bad-front}
use Rattle.es_reader.proofs.Spelling.{names-spelled, parameters-spelled}
use Rattle.es_reader.proofs.Uniqueness.{same-head, same-tail, same-two, same-parameters}
use Rattle.es_reader.proofs.Fronts.{distinct-apart, names-begin, front-begun, front-named, front-opened, front-parameters, front-comma, front-closed}
use Rattle.es_reader.proofs.HeadStops.{Lacks, lacked}

pub front-no-name : (word : Lexeme) (others : List Lexeme) → IsWord FunctionWord word → Lacks IsName others → FrontStops word (word ∷ []) others
front-no-name word others w n = record {
  goes_on = front-begun word w;
  never = λ f rest behind h first same.
      lacked IsName others behind f.name (f.open_mark ∷ spelled_parameters f.parameters (f.close_mark ∷ (f.open_brace ∷ rest))) n first
      (same-tail f.word word (f.name ∷ (f.open_mark ∷ spelled_parameters f.parameters (f.close_mark ∷ (f.open_brace ∷ rest)))) behind same) h.name;
}

behind-name : (f : Front) (rest : List Lexeme) (word name : Lexeme) (more : List Lexeme) → spelled_front f rest ≡ word ∷ (name ∷ more) → f.open_mark ∷ spelled_parameters f.parameters (f.close_mark ∷ (f.open_brace ∷ rest)) ≡ more
behind-name f rest word name more same =
    (same-two f.word f.name word name (f.open_mark ∷ spelled_parameters f.parameters (f.close_mark ∷ (f.open_brace ∷ rest))) more same).1.1

behind-open : (f : Front) (rest : List Lexeme) (word name open_mark : Lexeme) (more : List Lexeme) → spelled_front f rest ≡ word ∷ (name ∷ (open_mark ∷ more)) → spelled_parameters f.parameters (f.close_mark ∷ (f.open_brace ∷ rest)) ≡ more
behind-open f rest word name open_mark more same =
    same-tail f.open_mark open_mark (spelled_parameters f.parameters (f.close_mark ∷ (f.open_brace ∷ rest))) more (behind-name f rest word name (open_mark ∷ more) same)

pub front-no-open : (word name : Lexeme) (others : List Lexeme) → IsWord FunctionWord word → IsName name → Lacks (IsMark OpenParenthesis) others → FrontStops word (word ∷ (name ∷ [])) others
front-no-open word name others w n l = record {
  goes_on = front-named word name w n;
  never = λ f rest behind h first same.
      lacked (IsMark OpenParenthesis) others behind f.open_mark (spelled_parameters f.parameters (f.close_mark ∷ (f.open_brace ∷ rest))) l first
      (behind-name f rest word name behind same) h.open_mark;
}

-- behind the `(` neither a name nor a `)`
opened-never : (ps : Parameters) (c : Lexeme) (R others behind : List Lexeme) → AreParameters ps → IsMark CloseParenthesis c → Lacks IsName others → Lacks (IsMark CloseParenthesis) others → first_of behind ≡ first_of others → spelled_parameters ps (c ∷ R) ≡ behind → ⊥
opened-never NoParameters c R others behind h m n l first same = lacked (IsMark CloseParenthesis) others behind c R l first same m
opened-never (SomeParameters p qs) c R others behind h m n l first same = lacked IsName others behind p (spelled_names qs (c ∷ R)) n first same h.0

pub front-no-parameter : (word name open_mark : Lexeme) (others : List Lexeme) → IsWord FunctionWord word → IsName name → IsMark OpenParenthesis open_mark → Lacks IsName others → Lacks (IsMark CloseParenthesis) others → FrontStops word (word ∷ (name ∷ (open_mark ∷ []))) others
front-no-parameter word name open_mark others w n o l k = record {
  goes_on = front-opened word name open_mark w n o;
  never = λ f rest behind h first same.
      opened-never f.parameters f.close_mark (f.open_brace ∷ rest) others behind h.parameters h.close_mark l k first (behind-open f rest word name open_mark behind same);
}

-- behind a parameter neither a comma nor a `)`
more-never : (more : List FurtherName) (c : Lexeme) (R others behind : List Lexeme) → AreNames more → IsMark CloseParenthesis c → Lacks (IsMark Comma) others → Lacks (IsMark CloseParenthesis) others → first_of behind ≡ first_of others → spelled_names more (c ∷ R) ≡ behind → ⊥
more-never [] c R others behind h m n l first same = lacked (IsMark CloseParenthesis) others behind c R l first same m
more-never (x ∷ more) c R others behind h m n l first same = lacked (IsMark Comma) others behind x.comma (x.name ∷ spelled_names more (c ∷ R)) n first same h.0

-- the names behind those that were read
are-behind : (ns more : List FurtherName) → AreNames (ns ++ more) → AreNames more
are-behind [] more h = h
are-behind (n ∷ ns) more h = are-behind ns more h.2

record MoreNames (ps : Parameters) (first : Lexeme) (ns : List FurtherName) (c : Lexeme) (R S : List Lexeme) : Type 0 where
  more : List FurtherName
  is : ps ≡ SomeParameters first (ns ++ more)
  are : AreNames more
  same : spelled_names more (c ∷ R) ≡ S

close-no-name : (c t : Lexeme) → IsMark CloseParenthesis c → IsName t → c ≡ t → ⊥
close-no-name c t m n e =
    let k : is_name c.symbol ≡ true = ap (λ x. is_name x.symbol) e ∙ n in
    let l : is_name c.symbol ≡ false = ap (λ x. is_name x) m in
    absurd (cc)

more-names : (ps : Parameters) (first : Lexeme) (ns : List FurtherName) (c : Lexeme) (R S : List Lexeme) → AreParameters ps → AreParameters (SomeParameters first ns) → IsMark CloseParenthesis c → spelled_parameters ps (c ∷ R) ≡ first ∷ spelled_names ns S → MoreNames ps first ns c R S
more-names NoParameters first ns c R S h g m same = absurd (close-no-name c first m g.0 (same-head c first R (spelled_names ns S) same))
more-names (SomeParameters p qs) first ns c R S h g m same =
    let e : p ≡ first = same-head p first (spelled_names qs (c ∷ R)) (spelled_names ns S) same in
    let r = names-begin qs ns c R S m g.1 (same-tail p first (spelled_names qs (c ∷ R)) (spelled_names ns S) same) in
    record {
      more = r.0;
      is = (λ k. SomeParameters (e k) (r.1 k));
      are = are-behind ns r.0 (subst (λ x. AreNames x) r.1 h.1);
      same = r.2;
    }

pub front-no-comma : (word name open_mark first : Lexeme) (ns : List FurtherName) (others : List Lexeme) → IsWord FunctionWord word → IsName name → IsMark OpenParenthesis open_mark → AreParameters (SomeParameters first ns) → IsDistinct is_same (parameter_names (SomeParameters first ns)) → Lacks (IsMark Comma) others → Lacks (IsMark CloseParenthesis) others → FrontStops word (word ∷ (name ∷ (open_mark ∷ spelled_parameters (SomeParameters first ns) []))) others
front-no-comma word name open_mark first ns others w n o p d l k = record {
  goes_on = front-parameters word name open_mark (SomeParameters first ns) w n o p d;
  never = λ f rest behind h starts same.
      let r : MoreNames f.parameters first ns f.close_mark (f.open_brace ∷ rest) behind = more-names f.parameters first ns f.close_mark (f.open_brace ∷ rest) behind h.parameters p h.close_mark
      (behind-open f rest word name open_mark ((first ∷ spelled_names ns []) ++ behind) same ∙ ap (λ x. first ∷ x) (sym (names-spelled ns behind))) in
      more-never r.more f.close_mark (f.open_brace ∷ rest) others behind r.are h.close_mark l k starts r.same;
}

-- behind a comma no name, or one that is among the others

further-never : (first : Lexeme) (ns more : List FurtherName) (c : Lexeme) (R : List Lexeme) (comma : Lexeme) (others behind : List Lexeme) → AreNames more → IsMark CloseParenthesis c → IsDistinct is_same (parameter_names (SomeParameters first (ns ++ more))) → ((t : Lexeme) → first_of others ≡ Some t → IsName t → is_among (name_of t.symbol) (parameter_names (SomeParameters first ns)) ≡ true) → IsMark Comma comma → first_of behind ≡ first_of others → spelled_names more (c ∷ R) ≡ comma ∷ behind → ⊥
further-never first ns [] c R comma others behind h m d n k starts same =
    let e : c.symbol ≡ comma.symbol = ap (λ x. x.symbol) (same-head c comma R behind same) in absurd (cc)
further-never first ns (x ∷ more) c R comma others behind h m d n k starts same =
    let b : x.name ∷ spelled_names more (c ∷ R) ≡ behind = same-tail x.comma comma (x.name ∷ spelled_names more (c ∷ R)) behind same in
    let a : is_among (name_of x.name.symbol) (parameter_names (SomeParameters first ns)) ≡ true = n x.name (sym (ap first_of b ∙ starts)) h.1 in
    let e : is_among (name_of x.name.symbol) (parameter_names (SomeParameters first ns)) ≡ false =
    distinct-apart (parameter_names (SomeParameters first ns)) (name_of x.name.symbol) (names_of more)
    (subst (λ y. IsDistinct is_same (name_of first.symbol ∷ y)) (names-of-append ns (x ∷ more)) d) in
    absurd (cc (a, e))
  where
    names-of-append : (ns more : List FurtherName) → names_of (ns ++ more) ≡ names_of ns ++ names_of more
    names-of-append [] more = refl
    names-of-append (n ∷ ns) more = ap (λ y. name_of n.name.symbol ∷ y) (names-of-append ns more)

pub front-no-further : (word name open_mark first : Lexeme) (ns : List FurtherName) (comma : Lexeme) (others : List Lexeme) → IsWord FunctionWord word → IsName name → IsMark OpenParenthesis open_mark → AreParameters (SomeParameters first ns) → IsDistinct is_same (parameter_names (SomeParameters first ns)) → IsMark Comma comma → ((t : Lexeme) → first_of others ≡ Some t → IsName t → is_among (name_of t.symbol) (parameter_names (SomeParameters first ns)) ≡ true) → FrontStops word (word ∷ (name ∷ (open_mark ∷ spelled_parameters (SomeParameters first ns) (comma ∷ [])))) others
front-no-further word name open_mark first ns comma others w n o p d c l = record {
  goes_on = front-comma word name open_mark first ns comma w n o p d c;
  never = λ f rest behind h starts same.
      let e : (first ∷ spelled_names ns (comma ∷ [])) ++ behind ≡ first ∷ spelled_names ns (comma ∷ behind) = ap (λ x. first ∷ x)
      (ap (λ x. x ++ behind) (names-spelled ns (comma ∷ [])) ∙ (append_assoc (spelled_names ns []) (comma ∷ []) behind ∙ sym (names-spelled ns (comma ∷ behind)))) in
      let r : MoreNames f.parameters first ns f.close_mark (f.open_brace ∷ rest) (comma ∷ behind) = more-names f.parameters first ns f.close_mark (f.open_brace ∷ rest) (comma ∷ behind) h.parameters p h.close_mark
      (behind-open f rest word name open_mark ((first ∷ spelled_names ns (comma ∷ [])) ++ behind) same ∙ e) in
      further-never first ns r.more f.close_mark (f.open_brace ∷ rest) comma others behind r.are h.close_mark
      (subst (λ q. IsDistinct is_same (parameter_names q)) r.is h.differ) l c starts r.same;
}

-- behind the `)` no `{`
pub front-no-brace : (word name open_mark : Lexeme) (ps : Parameters) (close : Lexeme) (others : List Lexeme) → IsWord FunctionWord word → IsName name → IsMark OpenParenthesis open_mark → AreParameters ps → IsDistinct is_same (parameter_names ps) → IsMark CloseParenthesis close → Lacks (IsMark OpenBrace) others → FrontStops word (word ∷ (name ∷ (open_mark ∷ spelled_parameters ps (close ∷ [])))) others
front-no-brace word name open_mark ps close others w n o p d c l = record {
  goes_on = front-closed word name open_mark ps close w n o p d c;
  never = λ f rest behind h starts same.
      let e : spelled_parameters ps (close ∷ []) ++ behind ≡ spelled_parameters ps (close ∷ behind) =
      ap (λ x. x ++ behind) (parameters-spelled ps (close ∷ [])) ∙ (append_assoc (spelled_parameters ps []) (close ∷ []) behind ∙ sym (parameters-spelled ps (close ∷ behind))) in
      let r = same-parameters f.parameters ps f.close_mark close (f.open_brace ∷ rest) behind h.parameters p h.close_mark c
      (behind-open f rest word name open_mark (spelled_parameters ps (close ∷ []) ++ behind) same ∙ e) in
      lacked (IsMark OpenBrace) others behind f.open_brace rest l starts r.1.1 h.open_brace;
}

-- where the reader stands, such a place is bad
pub front-bad : (facts : ExpressionFacts) (done : List Item) (tokens : List Lexeme) (start place : ℕ) (t : Lexeme) (x : List Lexeme) → Stands [] (InProgram done) tokens start → place ≤ length tokens → t ∷ (x ++ drop place tokens) ≡ drop start tokens → kind_of t ≡ AtFunction → FrontStops t (t ∷ x) (drop place tokens) → IsBadAt tokens place
front-bad facts done tokens start place t x h l e k s =
    bad-front facts done tokens start place t x h l e k s.goes_on (λ y rest behind i first same. s.never y rest behind i first same)
