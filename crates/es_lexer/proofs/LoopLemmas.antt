-- The loop over the elements of a text.
use Rattle.std.proofs.Common.{◌≡◌, ◌≢◌, ℕ, suc, ◌-◌, ◌<◌, ◌≤◌, Bool, true, false, List, [], ◌∷◌, ◌++◌, length, Some, None, refl, sym, ◌∙◌, ap, subst, arith, append_assoc, append-nil}
use Rattle.std.specs.Prelude.{◌||◌, ◌==◌, Result, Ok, Err}
use Rattle.std.proofs.lemmas.List.{length-append}
use Rattle.es_lexer.specs.Elements.{spelling}
use Rattle.es_lexer.specs.Tokens.{Tokens, IsBadAt}
use Rattle.es_lexer.specs.Scanning.{Found, changed}
use Rattle.es_lexer.specs.ScannedElements.{NoCommentIn, element_at}
use Rattle.es_lexer.specs.ScannedTokens.{Seen, seen_of, seen_at, Outcome, with_front, outcome_within, outcome_from, outcome_of}
use Rattle.es_lexer.specs.declared.token_types.Token.{Token}
use Rattle.es_lexer.specs.declared.token_types.TokenKind.{TokenKind}
use Rattle.es_lexer.specs.declared.token_types.LexRefusal.{LexRefusal}
use Rattle.es_lexer.specs.declared.token_types.LexRefusal.TheVariants.{Bad}
use Rattle.es_lexer.proofs.CodeLemmas.{mapped, nothing-left, no-comment-suffix}
use Rattle.std.proofs.lemmas.Bool.{eqb-true}
use Rattle.es_lexer.proofs.ElementLemmas.{element_at-is, element-long}
use Rattle.es_lexer.proofs.TokenLemmas.{token, after, outcome-step, outcome-bad, outcome-end, outcome-same, with-both, tokens-computed, computed-tokens, computed-bad}

-- What is kept: the tokens so far, and those of the rest
pub record Keeps (text : List ℕ) (tokens : List Token) (rest : List ℕ) (broken unclosed : Bool) : Type 0 where
  pub front : List ℕ
  pub is_it : text ≡ front ++ rest
  pub same : outcome_of text ≡ with_front tokens (outcome_from (length text) broken rest)
  pub closed : unclosed ≡ true → NoCommentIn rest

pub keeps-start : (text : List ℕ) (rest : List ℕ) (tokens : List Token) → rest ≡ text → tokens ≡ [] → Keeps text tokens rest false false
unfolding outcome_of
keeps-start text rest tokens r t = record {
  front = [];
  is_it = sym r;
  same = with-nothing (outcome_from (length text) false text) ∙ (ap (λ z. with_front [] (outcome_from (length text) false z)) (sym r) ∙ ap (λ z. with_front z (outcome_from (length text) false rest)) (sym t));
  closed = λ e. absurd (cc e);
}
  where
    with-nothing : (o : Outcome) → o ≡ with_front [] o
    with-nothing (Ok tokens) = refl
    with-nothing (Err place) = refl

-- the element that was seen is one, with a code
pub record SeenAt (rest : List ℕ) (f : Found Seen) : Type 0 where
  pub spelled : List ℕ
  pub is_it : rest ≡ spelled ++ f.rest
  pub some : 0 < length spelled

pub seen-is : (rest : List ℕ) (f : Found Seen) → seen_at rest ≡ Some f → SeenAt rest f
seen-is rest f e = mapped (changed seen_of) (element_at rest) f e (λ g ge gs.
    let h = element_at-is rest g ge in
    subst (SeenAt rest) gs (record { spelled = spelling g.it; is_it = h.is_it; some = element-long g.it h.longest.stands.0 }))

pub seen-shorter : (rest : List ℕ) (f : Found Seen) → seen_at rest ≡ Some f → length f.rest < length rest
seen-shorter rest f e = let h = seen-is rest f e in omega (arith, ap length h.is_it, h.some, length-append h.spelled f.rest)

from-step : (whole : ℕ) (broken : Bool) (rest : List ℕ) (f : Found Seen) → rest ≢ [] → seen_at rest ≡ Some f → outcome_from whole broken rest ≡ after (length rest) whole broken rest f
unfolding outcome_from
from-step whole broken rest f n e = outcome-step (length rest) whole broken rest f n e

from-same : (most whole : ℕ) (broken : Bool) (rest : List ℕ) → length rest < most → outcome_within most whole broken rest ≡ outcome_from whole broken rest
unfolding outcome_from
from-same most whole broken rest p = outcome-same most (suc (length rest)) whole broken rest p (omega arith)

-- an element that is no token
pub keeps-gap : (text : List ℕ) (tokens : List Token) (rest : List ℕ) (broken unclosed : Bool) (f : Found Seen) (now : Bool) → Keeps text tokens rest broken unclosed → rest ≢ [] → seen_at rest ≡ Some f → f.it.kind ≡ None → (now ≡ true → NoCommentIn rest) → Keeps text tokens f.rest (broken || f.it.breaks) now
keeps-gap text tokens rest broken unclosed f now h n e k c =
    let s = seen-is rest f e in
    let less = seen-shorter rest f e in
    let step : outcome_from (length text) broken rest ≡ outcome_from (length text) (broken || f.it.breaks) f.rest =
    from-step (length text) broken rest f n e ∙ (rw (k, after) refl ∙ from-same (length rest) (length text) (broken || f.it.breaks) f.rest less) in
    record {
      front = h.front ++ s.spelled;
      is_it = h.is_it ∙ (ap (λ z. h.front ++ z) s.is_it ∙ sym (append_assoc h.front s.spelled f.rest));
      same = h.same ∙ ap (with_front tokens) step;
      closed = λ u. no-comment-suffix rest s.spelled f.rest s.is_it (c u);
    }

-- a token
pub keeps-token : (text : List ℕ) (tokens more : List Token) (rest : List ℕ) (broken unclosed : Bool) (f : Found Seen) (kind : TokenKind) (now : Bool) → Keeps text tokens rest broken unclosed → rest ≢ [] → seen_at rest ≡ Some f → f.it.kind ≡ Some kind → more ≡ tokens ++ token kind (length text - length rest) (length text - length f.rest) broken ∷ [] → (now ≡ true → NoCommentIn rest) → Keeps text more f.rest false now
keeps-token text tokens more rest broken unclosed f kind now h n e k m c =
    let s = seen-is rest f e in
    let less = seen-shorter rest f e in
    let t : Token = token kind (length text - length rest) (length text - length f.rest) broken in
    let step : outcome_from (length text) broken rest ≡ with_front (t ∷ []) (outcome_from (length text) false f.rest) =
    from-step (length text) broken rest f n e ∙ (rw (k, after) refl ∙ ap (with_front (t ∷ [])) (from-same (length rest) (length text) false f.rest less)) in
    record {
      front = h.front ++ s.spelled;
      is_it = h.is_it ∙ (ap (λ z. h.front ++ z) s.is_it ∙ sym (append_assoc h.front s.spelled f.rest));
      same = h.same ∙ (ap (with_front tokens) step ∙ (with-both tokens (t ∷ []) (outcome_from (length text) false f.rest) ∙ ap (λ z. with_front z (outcome_from (length text) false f.rest)) (sym m)));
      closed = λ u. no-comment-suffix rest s.spelled f.rest s.is_it (c u);
    }

pub keeps-within : (text : List ℕ) (tokens : List Token) (rest : List ℕ) (broken unclosed : Bool) → Keeps text tokens rest broken unclosed → length rest ≤ length text
keeps-within text tokens rest broken unclosed h = omega (arith, ap length h.is_it, length-append h.front rest)

-- at the end, and where nothing stands
pub keeps-end : (text : List ℕ) (tokens : List Token) (rest : List ℕ) (broken unclosed : Bool) → Keeps text tokens rest broken unclosed → rest ≡ [] → Tokens text tokens
unfolding outcome_from
keeps-end text tokens rest broken unclosed h e =
    let end : outcome_within (suc (length rest)) (length text) broken rest ≡ Ok [] = ap (λ z. outcome_within (suc (length z)) (length text) broken z) e ∙ outcome-end 0 (length text) broken in
    computed-tokens text tokens (h.same ∙ (ap (with_front tokens) end ∙ ap (λ z. Ok z) (append-nil tokens)))

pub keeps-bad : (text : List ℕ) (tokens : List Token) (rest : List ℕ) (broken unclosed : Bool) → Keeps text tokens rest broken unclosed → rest ≢ [] → seen_at rest ≡ None → IsBadAt text (length text - length rest)
unfolding outcome_from
keeps-bad text tokens rest broken unclosed h n e =
    computed-bad text (length text - length rest) (h.same ∙ ap (with_front tokens) (outcome-bad (length rest) (length text) broken rest n e))

-- What the answers say of each other

pub only-tokens : (text : List ℕ) (tokens others : List Token) → Tokens text tokens → Tokens text others → tokens ≡ others
only-tokens text tokens others h k = let e : ◌≡◌ {A = Result (List Token) ℕ} (Ok tokens) (Ok others) = sym (tokens-computed text tokens h) ∙ tokens-computed text others k in cc

pub some-rest : (rest : List ℕ) → false ≡ (length rest == 0) → rest ≢ []
some-rest rest e n = let q : (length rest == 0) ≡ true = ap (λ z. length z == 0) n in absurd (cc)

pub no-rest : (rest : List ℕ) → true ≡ (length rest == 0) → rest ≡ []
no-rest rest e = nothing-left rest (eqb-true (length rest) 0 (sym e))

or-nothing : (a : Bool) → (a || false) ≡ a
or-nothing true = refl
or-nothing false = refl

or-true : (a : Bool) → (a || true) ≡ true
or-true true = refl
or-true false = refl

pub keeps-blank : (text : List ℕ) (tokens : List Token) (rest : List ℕ) (broken unclosed : Bool) (f : Found Seen) (now : Bool) → Keeps text tokens rest broken unclosed → rest ≢ [] → seen_at rest ≡ Some f → f.it ≡ record { kind = None; breaks = false } → (now ≡ true → NoCommentIn rest) → Keeps text tokens f.rest broken now
keeps-blank text tokens rest broken unclosed f now h n e s c =
    let kind : f.it.kind ≡ None = ap (λ (x : Seen). x.kind) s in
    let breaks : f.it.breaks ≡ false = ap (λ (x : Seen). x.breaks) s in
    subst (λ b. Keeps text tokens f.rest b now) (ap (λ b. broken || b) breaks ∙ or-nothing broken) (keeps-gap text tokens rest broken unclosed f now h n e kind c)

pub keeps-break : (text : List ℕ) (tokens : List Token) (rest : List ℕ) (broken unclosed : Bool) (f : Found Seen) (now : Bool) → Keeps text tokens rest broken unclosed → rest ≢ [] → seen_at rest ≡ Some f → f.it ≡ record { kind = None; breaks = true } → (now ≡ true → NoCommentIn rest) → Keeps text tokens f.rest true now
keeps-break text tokens rest broken unclosed f now h n e s c =
    let kind : f.it.kind ≡ None = ap (λ (x : Seen). x.kind) s in
    let breaks : f.it.breaks ≡ true = ap (λ (x : Seen). x.breaks) s in
    subst (λ b. Keeps text tokens f.rest b now) (ap (λ b. broken || b) breaks ∙ or-true broken) (keeps-gap text tokens rest broken unclosed f now h n e kind c)

pub bad-place : (a b : ℕ) → Bad a ≡ Bad b → a ≡ b
bad-place a b e = cc

-- the answer is Bad at this place
pub bad-answer : {A : Type 0} (text : List ℕ) (start place : ℕ) → IsBadAt text start → ◌≡◌ {A = Result A LexRefusal} (Err (Bad start)) (Err (Bad place)) → IsBadAt text place
bad-answer {A} text start place h e = subst (IsBadAt text) (bad-place start place (err-is e)) h
  where
    err-is : ◌≡◌ {A = Result A LexRefusal} (Err (Bad start)) (Err (Bad place)) → Bad start ≡ Bad place
    err-is q = cc
