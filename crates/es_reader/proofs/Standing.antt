-- Where the reader stands among the tokens: what is read in front of the place, and what may come there. Each step
-- of the reader keeps this, and from it follows what a place at which it stops is.
use Rattle.std.proofs.Common.{◌≡◌, ℕ, ◌≤◌, true, false, inl, List, [], ◌∷◌, ◌++◌, length, take, drop, Some, None, refl, sym, ◌∙◌, ap, subst, arith, append-nil}
use Rattle.std.proofs.lemmas.List.{take-append-drop}
use Rattle.std.proofs.lemmas.Option.{same_Some}
use Rattle.es_lexer.specs.declared.words.ReservedWord.TheVariants.{Else}
use Rattle.es_lexer.specs.declared.punctuators.Punctuator.TheVariants.{OpenBrace, CloseBrace}
use Rattle.es_expressions.specs.declared.lexemes.Lexeme.{Lexeme}
use Rattle.es_reader.specs.Statements.{Simple, Head, Statement, Statements, Item, spelled_simple, spelled_head, spelled}
use Rattle.es_reader.specs.Statements.Simple.{Jump, Return}
use Rattle.es_reader.specs.Statements.Statement.{Alone, Block, Headed, IfElse}
use Rattle.es_reader.specs.Statements.Statements.{NoStatements}
use Rattle.es_reader.specs.Statements.Item.{Function, Single}
use Rattle.es_reader.specs.Grammar.{IsWord, IsMark, IsSimple, IsHead, is_if, NoElse, IsStatement, IsProgram, Setting}
use Rattle.es_reader.specs.Programs.{Begins, IsBadAt}
use Rattle.es_reader.specs.Openings.{Opening, Front, IsFront, Outer, place_in, spelled_front, written, AreRead, MayFollow, MayCome, first_of, Leads}
use Rattle.es_reader.specs.Openings.Opening.{InBlock, InHead, InElse}
use Rattle.es_reader.specs.Openings.Outer.{InProgram, InFunction}
pub use Rattle.es_reader.specs.Standing.{Stands, Ended}
use Rattle.es_reader.proofs.ExpressionFacts.{ExpressionFacts}
use Rattle.es_reader.proofs.Tokens.{kind_of, brace-kind}
use Rattle.es_reader.proofs.Tokens.Kind.{AtFunction, AtNothing, AtJump, AtReturn}
use Rattle.es_reader.proofs.Spelling.{statement-spelled, simple-spelled, head-spelled, head-onward, front-spelled, written-spelled, written-onward}
use Rattle.es_reader.proofs.LookAhead.{simple-ahead, no-else-ahead}
use Rattle.es_reader.proofs.Uniqueness.{simple_kind, head_kind, IsSimpleKind, IsHeadKind, simple-kinds, head-kinds, declared_of}
use Rattle.es_reader.proofs.Steps.{and_then, read-in-block, written-in-block, read-in-function, written-in-function, read-in-program, written-in-program, read-else, read-function, written-function, read-front, begins-read, simple-read, head-read, block-read, front-read, closes-block, closes-function, else-read, no-else-read, SimpleComes, simple-comes, HeadComes, head-comes, FrontComes, front-comes, no-end-in-block, nothing-in-block, no-function-in-block, no-end-in-function, nothing-in-function, no-function-in-function, nothing-in-program, no-end-in-head, nothing-in-head, no-function-in-head, no-end-in-else, nothing-in-else, no-function-in-else}
use Rattle.es_reader.proofs.BadPlaces.{leads-over, leads-as, read-between, bad-place}
use Rattle.es_reader.proofs.Forms.{JumpForm, as-jump, ReturnForm, as-return}
use Rattle.es_reader.proofs.Forms.ReturnForm.{NoValue, WithValue}
use Rattle.es_reader.proofs.Fronts.{FrontFrom, begins-front-from}
use Rattle.es_reader.proofs.Partials.{SimpleFrom, begins-simple-from, HeadFrom, begins-head-from}

step-leads : (P Q : List Lexeme → Type 0) (tokens : List Lexeme) (start next : ℕ) (x : List Lexeme) → x ++ drop next tokens ≡ drop start tokens → ((coming : List Lexeme) → first_of coming ≡ first_of (drop next tokens) → P (x ++ coming) → Q coming) → Leads P (take start tokens) (drop start tokens) → Leads Q (take next tokens) (drop next tokens)
step-leads P Q tokens start next x e step h =
    subst (λ r. Leads Q r (drop next tokens)) (sym (read-between tokens start next x e))
    (leads-over P Q (take start tokens) x (drop next tokens) step (subst (λ r. Leads P (take start tokens) r) (sym e) h))

step-written : (os : List Opening) (outer : Outer) (tokens : List Lexeme) (start next : ℕ) (x : List Lexeme) → written os outer [] ≡ take start tokens → x ++ drop next tokens ≡ drop start tokens → written os outer x ≡ take next tokens
step-written os outer tokens start next x w e =
    written-spelled os outer x ∙ (ap (λ r. r ++ x) w ∙ sym (read-between tokens start next x e))

-- the start of a program
pub stands-first : (tokens : List Lexeme) → Stands [] (InProgram []) tokens 0
stands-first tokens = record {
  within = omega arith;
  is_written = refl;
  read = tt;
  leads = λ items coming are same first. (items, are, same);
}

-- a statement that holds no other
pub ended-simple : (facts : ExpressionFacts) (os : List Opening) (outer : Outer) (tokens : List Lexeme) (start next : ℕ) (s : Simple) → Stands os outer tokens start → next ≤ length tokens → IsSimple (place_in os outer) s (drop next tokens) → spelled_simple s (drop next tokens) ≡ drop start tokens → Ended os outer tokens (Alone s) next
ended-simple facts os outer tokens start next s h l i e =
    let x : List Lexeme = spelled_simple s [] in
    let cut : x ++ drop next tokens ≡ drop start tokens = sym (simple-spelled s (drop next tokens)) ∙ e in
    record {
      within = l;
      is_written = step-written os outer tokens start next x h.is_written cut;
      is = i;
      read = subst (λ r. AreRead os outer r) (sym e) h.read;
      leads = step-leads (MayCome os outer) (MayFollow os outer) tokens start next x cut
          (λ coming first m. simple-read facts os outer s coming (subst (λ r. MayCome os outer r) (sym (simple-spelled s coming)) m)
          (simple-ahead facts (place_in os outer) s (drop next tokens) coming (inl (sym first)) i))
          h.leads;
    }

-- a head
pub stands-head : (facts : ExpressionFacts) (os : List Opening) (outer : Outer) (tokens : List Lexeme) (start next : ℕ) (head : Head) → Stands os outer tokens start → next ≤ length tokens → IsHead head → spelled_head head (drop next tokens) ≡ drop start tokens → Stands (InHead head ∷ os) outer tokens next
stands-head facts os outer tokens start next head h l i e =
    let x : List Lexeme = spelled_head head [] in
    let cut : x ++ drop next tokens ≡ drop start tokens = sym (head-spelled head (drop next tokens)) ∙ e in
    record {
      within = l;
      is_written = step-written os outer tokens start next x h.is_written cut;
      read = (i, subst (λ r. AreRead os outer r) (sym e) h.read);
      leads = step-leads (MayCome os outer) (MayCome (InHead head ∷ os) outer) tokens start next x cut
          (λ coming first m. head-read facts os outer head coming (subst (λ r. MayCome os outer r) (sym (head-spelled head coming)) m) i)
          h.leads;
    }

-- a `{`
pub stands-block : (facts : ExpressionFacts) (os : List Opening) (outer : Outer) (tokens : List Lexeme) (start next : ℕ) (o : Lexeme) → Stands os outer tokens start → next ≤ length tokens → IsMark OpenBrace o → o ∷ drop next tokens ≡ drop start tokens → Stands (InBlock o NoStatements ∷ os) outer tokens next
stands-block facts os outer tokens start next o h l i e = record {
  within = l;
  is_written = step-written os outer tokens start next (o ∷ []) h.is_written e;
  read = (i, tt, subst (λ r. AreRead os outer r) (sym e) h.read);
  leads = step-leads (MayCome os outer) (MayCome (InBlock o NoStatements ∷ os) outer) tokens start next (o ∷ []) e
      (λ coming first m. block-read facts os outer o coming m i) h.leads;
}

-- the `}` of a block
pub ended-block : (facts : ExpressionFacts) (os : List Opening) (outer : Outer) (tokens : List Lexeme) (start next : ℕ) (o : Lexeme) (done : Statements) (c : Lexeme) → Stands (InBlock o done ∷ os) outer tokens start → next ≤ length tokens → IsMark CloseBrace c → c ∷ drop next tokens ≡ drop start tokens → Ended os outer tokens (Block o done c) next
ended-block facts os outer tokens start next o done c h l i e =
    let r : AreRead (InBlock o done ∷ os) outer (c ∷ drop next tokens) = subst (λ y. AreRead (InBlock o done ∷ os) outer y) (sym e) h.read in
    record {
      within = l;
      is_written = step-written (InBlock o done ∷ os) outer tokens start next (c ∷ []) h.is_written e;
      is = (r.0, r.1, i);
      read = r.2;
      leads = step-leads (MayCome (InBlock o done ∷ os) outer) (MayFollow os outer) tokens start next (c ∷ []) e
          (λ coming first m. closes-block facts os outer o done c coming m i) h.leads;
    }

-- the front of a function
pub stands-front : (facts : ExpressionFacts) (done : List Item) (tokens : List Lexeme) (start next : ℕ) (front : Front) → Stands [] (InProgram done) tokens start → next ≤ length tokens → IsFront front → spelled_front front (drop next tokens) ≡ drop start tokens → Stands [] (InFunction done front NoStatements) tokens next
stands-front facts done tokens start next front h l i e =
    let x : List Lexeme = spelled_front front [] in
    let cut : x ++ drop next tokens ≡ drop start tokens = sym (front-spelled front (drop next tokens)) ∙ e in
    record {
      within = l;
      is_written = step-written [] (InProgram done) tokens start next x h.is_written cut;
      read = read-front done front (drop next tokens) (subst (λ r. AreRead [] (InProgram done) r) (sym e) h.read) i;
      leads = step-leads (MayCome [] (InProgram done)) (MayCome [] (InFunction done front NoStatements)) tokens start next x cut
          (λ coming first m. front-read facts done front coming (subst (λ r. MayCome [] (InProgram done) r) (sym (front-spelled front coming)) m) i)
          h.leads;
    }

-- the `}` of a function
pub stands-function : (facts : ExpressionFacts) (done : List Item) (front : Front) (body : Statements) (tokens : List Lexeme) (start next : ℕ) (c : Lexeme) → Stands [] (InFunction done front body) tokens start → next ≤ length tokens → IsMark CloseBrace c → c ∷ drop next tokens ≡ drop start tokens → Stands [] (InProgram (done ++ (Function (declared_of front body c) ∷ []))) tokens next
stands-function facts done front body tokens start next c h l i e = record {
  within = l;
  is_written = written-function done front body c [] ∙ step-written [] (InFunction done front body) tokens start next (c ∷ []) h.is_written e;
  read = read-function done front body c (drop next tokens) (subst (λ y. AreRead [] (InFunction done front body) y) (sym e) h.read) i;
  leads = step-leads (MayCome [] (InFunction done front body)) (MayCome [] (InProgram (done ++ (Function (declared_of front body c) ∷ [])))) tokens start next (c ∷ []) e
      (λ coming first m. closes-function facts done front body c coming m i) h.leads;
}

-- a whole statement, in a block, a function and the program

pub stands-in-block : (os : List Opening) (outer : Outer) (tokens : List Lexeme) (place : ℕ) (o : Lexeme) (done : Statements) (s : Statement) → Ended (InBlock o done ∷ os) outer tokens s place → Stands (InBlock o (and_then done s) ∷ os) outer tokens place
stands-in-block os outer tokens place o done s h = record {
  within = h.within;
  is_written = written-in-block os outer o done s [] ∙ h.is_written;
  read = read-in-block os outer o done s (drop place tokens) h.read h.is;
  leads = h.leads;
}

pub stands-in-function : (done : List Item) (front : Front) (body : Statements) (tokens : List Lexeme) (place : ℕ) (s : Statement) → Ended [] (InFunction done front body) tokens s place → Stands [] (InFunction done front (and_then body s)) tokens place
stands-in-function done front body tokens place s h = record {
  within = h.within;
  is_written = written-in-function done front body s [] ∙ h.is_written;
  read = read-in-function done front body s (drop place tokens) h.read h.is;
  leads = h.leads;
}

pub stands-in-program : (done : List Item) (tokens : List Lexeme) (place : ℕ) (s : Statement) → Ended [] (InProgram done) tokens s place → Stands [] (InProgram (done ++ (Single s ∷ []))) tokens place
stands-in-program done tokens place s h = record {
  within = h.within;
  is_written = written-in-program done s [] ∙ h.is_written;
  read = read-in-program done s (drop place tokens) h.read h.is;
  leads = h.leads;
}

-- a whole statement behind a head, and behind an `else`

pub ended-head : (os : List Opening) (outer : Outer) (tokens : List Lexeme) (place : ℕ) (head : Head) (s : Statement) → Ended (InHead head ∷ os) outer tokens s place → NoElse head (drop place tokens) → Ended os outer tokens (Headed head s) place
ended-head os outer tokens place head s h n = record {
  within = h.within;
  is_written = h.is_written;
  is = (h.read.0, h.is, n);
  read = h.read.1;
  leads = leads-as (MayFollow (InHead head ∷ os) outer) (MayFollow os outer) (take place tokens) (drop place tokens)
      (λ coming first m. no-else-read os outer head coming m (no-else-ahead head (drop place tokens) coming (inl (sym first)) n)) h.leads;
}

else-written : (os : List Opening) (outer : Outer) (tokens : List Lexeme) (start : ℕ) (head : Head) (s : Statement) (e : Lexeme) → written (InHead head ∷ os) outer (spelled s []) ≡ take start tokens → written (InElse head s e ∷ os) outer [] ≡ take start tokens ++ (e ∷ [])
else-written os outer tokens start head s e w =
    ap (λ r. written os outer (spelled_head head r)) (statement-spelled s (e ∷ []))
    ∙ (ap (λ r. written os outer r) (head-onward head (spelled s []) (e ∷ []))
    ∙ (written-onward os outer (spelled_head head (spelled s [])) (e ∷ []) ∙ ap (λ r. r ++ (e ∷ [])) w))

pub stands-else : (os : List Opening) (outer : Outer) (tokens : List Lexeme) (start next : ℕ) (head : Head) (s : Statement) (e : Lexeme) → Ended (InHead head ∷ os) outer tokens s start → next ≤ length tokens → is_if head ≡ true → IsWord Else e → e ∷ drop next tokens ≡ drop start tokens → Stands (InElse head s e ∷ os) outer tokens next
stands-else os outer tokens start next head s e h l i w q = record {
  within = l;
  is_written = else-written os outer tokens start head s e h.is_written ∙ sym (read-between tokens start next (e ∷ []) q);
  read = read-else os outer head s e (drop next tokens) (subst (λ r. AreRead (InHead head ∷ os) outer (spelled s r)) (sym q) h.read)
      (subst (λ r. IsStatement (place_in (InHead head ∷ os) outer) s r) (sym q) h.is) i w;
  leads = step-leads (MayFollow (InHead head ∷ os) outer) (MayCome (InElse head s e ∷ os) outer) tokens start next (e ∷ []) q
      (λ coming first m. else-read os outer head s e coming m i w) h.leads;
}

pub ended-else : (os : List Opening) (outer : Outer) (tokens : List Lexeme) (place : ℕ) (head : Head) (body : Statement) (e : Lexeme) (s : Statement) → Ended (InElse head body e ∷ os) outer tokens s place → Ended os outer tokens (IfElse head body e s) place
ended-else os outer tokens place head body e s h = record {
  within = h.within;
  is_written = h.is_written;
  is = (h.read.0, h.read.1, h.read.2, h.read.3, h.is);
  read = h.read.4;
  leads = h.leads;
}

-- the end of a program
pub is-program : (done : List Item) (tokens : List Lexeme) (place : ℕ) → Stands [] (InProgram done) tokens place → drop place tokens ≡ [] → IsProgram tokens done
is-program done tokens place h e = record {
  are = subst (λ r. AreRead [] (InProgram done) r) e h.read;
  is_spelled = h.is_written ∙ (sym (append-nil (take place tokens)) ∙ (ap (λ r. take place tokens ++ r) (sym e) ∙ take-append-drop place tokens));
}

-- bad places

-- behind some tokens of what comes where the reader stands
pub bad-behind : (os : List Opening) (outer : Outer) (tokens : List Lexeme) (start place : ℕ) (x : List Lexeme) → Stands os outer tokens start → place ≤ length tokens → x ++ drop place tokens ≡ drop start tokens → Begins (written os outer x) → ((behind : List Lexeme) → first_of behind ≡ first_of (drop place tokens) → MayCome os outer (x ++ behind) → ⊥) → IsBadAt tokens place
bad-behind os outer tokens start place x h l e b never =
    bad-place (MayCome os outer) tokens place (take start tokens) x l (read-between tokens start place x e)
    (subst (λ r. Leads (MayCome os outer) (take start tokens) r) (sym e) h.leads)
    (subst (λ r. Begins r) (step-written os outer tokens start place x h.is_written e ∙ read-between tokens start place x e) b) never

-- where the reader stands
pub bad-here : (facts : ExpressionFacts) (os : List Opening) (outer : Outer) (tokens : List Lexeme) (place : ℕ) → Stands os outer tokens place → ((behind : List Lexeme) → first_of behind ≡ first_of (drop place tokens) → MayCome os outer behind → ⊥) → IsBadAt tokens place
bad-here facts os outer tokens place h never =
    bad-behind os outer tokens place place [] h h.within refl (begins-read facts os outer (drop place tokens) h.read) never

-- in a statement that holds no other
pub bad-simple : (facts : ExpressionFacts) (os : List Opening) (outer : Outer) (tokens : List Lexeme) (start place : ℕ) (t : Lexeme) (x : List Lexeme) → Stands os outer tokens start → place ≤ length tokens → t ∷ (x ++ drop place tokens) ≡ drop start tokens → IsSimpleKind (kind_of t) → SimpleFrom (place_in os outer) (t ∷ x) → ((s : Simple) (rest behind : List Lexeme) → IsSimple (place_in os outer) s rest → first_of behind ≡ first_of (drop place tokens) → spelled_simple s rest ≡ t ∷ (x ++ behind) → ⊥) → IsBadAt tokens place
bad-simple facts os outer tokens start place t x h l e k f never =
    bad-behind os outer tokens start place (t ∷ x) h l e
    (begins-simple-from facts os outer (drop start tokens) t x h.read (sym (ap first_of e)) f)
    (λ behind first m.
    let c : SimpleComes os outer (t ∷ (x ++ behind)) = simple-comes facts os outer t (x ++ behind) m k in
    never c.simple c.rest behind c.is first (sym c.same))

-- in a head
pub bad-head : (facts : ExpressionFacts) (os : List Opening) (outer : Outer) (tokens : List Lexeme) (start place : ℕ) (t : Lexeme) (x : List Lexeme) → Stands os outer tokens start → place ≤ length tokens → t ∷ (x ++ drop place tokens) ≡ drop start tokens → IsHeadKind (kind_of t) → HeadFrom (t ∷ x) → ((head : Head) (rest behind : List Lexeme) → IsHead head → first_of behind ≡ first_of (drop place tokens) → spelled_head head rest ≡ t ∷ (x ++ behind) → ⊥) → IsBadAt tokens place
bad-head facts os outer tokens start place t x h l e k f never =
    bad-behind os outer tokens start place (t ∷ x) h l e
    (begins-head-from facts os outer (drop start tokens) t x h.read (sym (ap first_of e)) f)
    (λ behind first m.
    let c : HeadComes os outer (t ∷ (x ++ behind)) = head-comes facts os outer t (x ++ behind) m k in
    never c.head c.rest behind c.is first (sym c.same))

-- in the front of a function
pub bad-front : (facts : ExpressionFacts) (done : List Item) (tokens : List Lexeme) (start place : ℕ) (t : Lexeme) (x : List Lexeme) → Stands [] (InProgram done) tokens start → place ≤ length tokens → t ∷ (x ++ drop place tokens) ≡ drop start tokens → kind_of t ≡ AtFunction → FrontFrom t (t ∷ x) → ((front : Front) (rest behind : List Lexeme) → IsFront front → first_of behind ≡ first_of (drop place tokens) → spelled_front front rest ≡ t ∷ (x ++ behind) → ⊥) → IsBadAt tokens place
bad-front facts done tokens start place t x h l e k f never =
    bad-behind [] (InProgram done) tokens start place (t ∷ x) h l e
    (begins-front-from facts done (drop start tokens) t (t ∷ x) h.read (sym (ap first_of e)) f)
    (λ behind first m.
    let c : FrontComes done (t ∷ (x ++ behind)) = front-comes facts done t (x ++ behind) m k in
    never c.front c.rest behind c.is first (sym c.same))

-- the kind of such a statement
pub simple-kind-of : (t : Lexeme) (s : Simple) → kind_of t ≡ simple_kind s → IsSimpleKind (kind_of t)
simple-kind-of t s e = subst (λ k. IsSimpleKind k) (sym e) (simple-kinds s)

pub head-kind-of : (t : Lexeme) (h : Head) → kind_of t ≡ head_kind h → IsHeadKind (kind_of t)
head-kind-of t h e = subst (λ k. IsHeadKind k) (sym e) (head-kinds h)

-- tokens that can't come where the reader stands

pub first-nothing : (behind : List Lexeme) → first_of behind ≡ None → behind ≡ []
first-nothing [] e = refl
first-nothing (t ∷ ts) e = absurd (cc)

pub first-token : (behind : List Lexeme) (t : Lexeme) → first_of behind ≡ Some t → (more : List Lexeme) × (behind ≡ t ∷ more)
first-token [] t e = absurd (cc)
first-token (u ∷ us) t e = (us, λ k. same_Some u t e k ∷ us)

-- whether no `}` closes what is innermost
abbrev pub IsNoBlock : List Opening → Outer → Type 0
IsNoBlock [] (InProgram done) = Unit {0}
IsNoBlock [] (InFunction done front body) = ⊥
IsNoBlock (InBlock o done ∷ os) outer = ⊥
IsNoBlock (InHead head ∷ os) outer = Unit {0}
IsNoBlock (InElse head body e ∷ os) outer = Unit {0}

-- whether something is open
abbrev pub IsInside : List Opening → Outer → Type 0
IsInside [] (InProgram done) = ⊥
IsInside [] (InFunction done front body) = Unit {0}
IsInside (opening ∷ os) outer = Unit {0}

never-token : (facts : ExpressionFacts) (os : List Opening) (outer : Outer) (t : Lexeme) (more : List Lexeme) → kind_of t ≡ AtNothing → (IsMark CloseBrace t → ⊥) → MayCome os outer (t ∷ more) → ⊥
never-token facts [] (InProgram done) t more k n m = nothing-in-program facts done t more m k
never-token facts [] (InFunction done front body) t more k n m = n (nothing-in-function facts done front body t more m k)
never-token facts (InBlock o done ∷ os) outer t more k n m = n (nothing-in-block facts os outer o done t more m k)
never-token facts (InHead head ∷ os) outer t more k n m = nothing-in-head facts os outer head t more m k
never-token facts (InElse head body e ∷ os) outer t more k n m = nothing-in-else facts os outer head body e t more m k

never-brace : (facts : ExpressionFacts) (os : List Opening) (outer : Outer) (t : Lexeme) (more : List Lexeme) → kind_of t ≡ AtNothing → IsNoBlock os outer → MayCome os outer (t ∷ more) → ⊥
never-brace facts [] (InProgram done) t more k n m = nothing-in-program facts done t more m k
never-brace facts [] (InFunction done front body) t more k n m = n
never-brace facts (InBlock o done ∷ os) outer t more k n m = n
never-brace facts (InHead head ∷ os) outer t more k n m = nothing-in-head facts os outer head t more m k
never-brace facts (InElse head body e ∷ os) outer t more k n m = nothing-in-else facts os outer head body e t more m k

never-function : (facts : ExpressionFacts) (os : List Opening) (outer : Outer) (t : Lexeme) (more : List Lexeme) → kind_of t ≡ AtFunction → IsInside os outer → MayCome os outer (t ∷ more) → ⊥
never-function facts [] (InProgram done) t more k n m = n
never-function facts [] (InFunction done front body) t more k n m = no-function-in-function facts done front body t more m k
never-function facts (InBlock o done ∷ os) outer t more k n m = no-function-in-block facts os outer o done t more m k
never-function facts (InHead head ∷ os) outer t more k n m = no-function-in-head facts os outer head t more m k
never-function facts (InElse head body e ∷ os) outer t more k n m = no-function-in-else facts os outer head body e t more m k

never-end : (facts : ExpressionFacts) (os : List Opening) (outer : Outer) → IsInside os outer → MayCome os outer [] → ⊥
never-end facts [] (InProgram done) n m = n
never-end facts [] (InFunction done front body) n m = no-end-in-function facts done front body m
never-end facts (InBlock o done ∷ os) outer n m = no-end-in-block facts os outer o done m
never-end facts (InHead head ∷ os) outer n m = no-end-in-head facts os outer head m
never-end facts (InElse head body e ∷ os) outer n m = no-end-in-else facts os outer head body e m

bad-first : (facts : ExpressionFacts) (os : List Opening) (outer : Outer) (tokens : List Lexeme) (place : ℕ) (t : Lexeme) (more : List Lexeme) → Stands os outer tokens place → drop place tokens ≡ t ∷ more → ((others : List Lexeme) → MayCome os outer (t ∷ others) → ⊥) → IsBadAt tokens place
bad-first facts os outer tokens place t more h e never =
    bad-here facts os outer tokens place h (λ behind first m.
    let b = first-token behind t (first ∙ ap first_of e) in
    never b.0 (subst (λ r. MayCome os outer r) b.1 m))

-- a token with which no statement begins, and that is no `}`
pub bad-token : (facts : ExpressionFacts) (os : List Opening) (outer : Outer) (tokens : List Lexeme) (place : ℕ) (t : Lexeme) (more : List Lexeme) → Stands os outer tokens place → drop place tokens ≡ t ∷ more → kind_of t ≡ AtNothing → (IsMark CloseBrace t → ⊥) → IsBadAt tokens place
bad-token facts os outer tokens place t more h e k n =
    bad-first facts os outer tokens place t more h e (λ others m. never-token facts os outer t others k n m)

-- a `}` that closes nothing
pub bad-brace : (facts : ExpressionFacts) (os : List Opening) (outer : Outer) (tokens : List Lexeme) (place : ℕ) (t : Lexeme) (more : List Lexeme) → Stands os outer tokens place → drop place tokens ≡ t ∷ more → IsMark CloseBrace t → IsNoBlock os outer → IsBadAt tokens place
bad-brace facts os outer tokens place t more h e b n =
    bad-first facts os outer tokens place t more h e (λ others m. never-brace facts os outer t others (brace-kind t b) n m)

-- a `function` that stands in something
pub bad-function : (facts : ExpressionFacts) (os : List Opening) (outer : Outer) (tokens : List Lexeme) (place : ℕ) (t : Lexeme) (more : List Lexeme) → Stands os outer tokens place → drop place tokens ≡ t ∷ more → kind_of t ≡ AtFunction → IsInside os outer → IsBadAt tokens place
bad-function facts os outer tokens place t more h e k n =
    bad-first facts os outer tokens place t more h e (λ others m. never-function facts os outer t others k n m)

-- the end of the tokens, where something is open
pub bad-end : (facts : ExpressionFacts) (os : List Opening) (outer : Outer) (tokens : List Lexeme) (place : ℕ) → Stands os outer tokens place → drop place tokens ≡ [] → IsInside os outer → IsBadAt tokens place
bad-end facts os outer tokens place h e n =
    bad-here facts os outer tokens place h (λ behind first m.
    never-end facts os outer n (subst (λ r. MayCome os outer r) (first-nothing behind (first ∙ ap first_of e)) m))

-- a `break` or `continue` in no loop, and a `return` in no function

pub bad-jump : (facts : ExpressionFacts) (os : List Opening) (outer : Outer) (tokens : List Lexeme) (place : ℕ) (t : Lexeme) (more : List Lexeme) → Stands os outer tokens place → drop place tokens ≡ t ∷ more → kind_of t ≡ AtJump → (place_in os outer).in_loop ≡ false → IsBadAt tokens place
bad-jump facts os outer tokens place t more h e k n =
    bad-first facts os outer tokens place t more h e (λ others m.
    let c : SimpleComes os outer (t ∷ others) = simple-comes facts os outer t others m (simple-kind-of t (Jump t None) k) in
    let j : JumpForm (place_in os outer) c.rest others = as-jump facts (place_in os outer) c.simple c.rest t others c.is (sym c.same) k in
    let l : (place_in os outer).in_loop ≡ true = j.in_loop in
    absurd (cc (l, n)))

pub bad-return : (facts : ExpressionFacts) (os : List Opening) (outer : Outer) (tokens : List Lexeme) (place : ℕ) (t : Lexeme) (more : List Lexeme) → Stands os outer tokens place → drop place tokens ≡ t ∷ more → kind_of t ≡ AtReturn → (place_in os outer).in_function ≡ false → IsBadAt tokens place
bad-return facts os outer tokens place t more h e k n =
    bad-first facts os outer tokens place t more h e (λ others m.
    let c : SimpleComes os outer (t ∷ others) = simple-comes facts os outer t others m (simple-kind-of t (Return t None None) k) in
    returns (place_in os outer) c.rest others n (as-return facts (place_in os outer) c.simple c.rest t others c.is (sym c.same) k))
  where
    returns : (p : Setting) (rest others : List Lexeme) → p.in_function ≡ false → ReturnForm p rest others → ⊥
    returns p rest others n (NoValue semicolon f e s) = absurd (cc (n, f))
    returns p rest others n (WithValue value semicolon f i b e s) = absurd (cc (n, f))
