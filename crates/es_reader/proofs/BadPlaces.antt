-- What leads on when more is read, and where tokens go on no more.
use Rattle.std.proofs.Common.{◌≡◌, ℕ, zero, suc, ◌+◌, ◌≤◌, ◌<◌, List, [], ◌∷◌, ◌++◌, length, take, drop, Some, refl, sym, ◌∙◌, ap, subst, arith, append_assoc}
use Rattle.std.proofs.lemmas.List.{take-append-drop, append_cancel_right}
use Rattle.std.proofs.Math.Seq.{take-add}
use Rattle.es_expressions.specs.Phrases.{Phrase, spelled as spelled_expression}
use Rattle.es_expressions.specs.Beginnings.{IsWhole, Begins as BeginsExpression, least}
use Rattle.es_expressions.specs.declared.expressions.Extent.{Extent}
use Rattle.es_expressions.specs.declared.lexemes.Lexeme.{Lexeme}
use Rattle.es_reader.specs.Statements.{Item, spelled_items}
use Rattle.es_reader.specs.Grammar.{IsOf, GoesOn, AreItems}
use Rattle.es_reader.specs.Programs.{Begins, IsBadAt}
use Rattle.es_reader.specs.Openings.{first_of, Leads}
use Rattle.es_reader.proofs.Spelling.{expression-spelled}
use Rattle.es_reader.proofs.Tokens.{whole-of}
use Rattle.es_reader.proofs.Uniqueness.{EndsBy, ended, Cut, cut}
use Rattle.es_reader.proofs.PhraseUniqueness.Cut.{Same, Longer, Shorter}

-- more tokens are read

pub first-behind : (x a b : List Lexeme) → first_of a ≡ first_of b → first_of (x ++ a) ≡ first_of (x ++ b)
first-behind [] a b h = h
first-behind (t ∷ x) a b h = refl

pub leads-over : (P Q : List Lexeme → Type 0) (read x others : List Lexeme) → ((coming : List Lexeme) → first_of coming ≡ first_of others → P (x ++ coming) → Q coming) → Leads P read (x ++ others) → Leads Q (read ++ x) others
leads-over P Q read x others step h = λ items coming are same first.
    step coming first (h items (x ++ coming) are (same ∙ append_assoc read x coming) (first-behind x coming others first))

pub leads-same : (P : List Lexeme → Type 0) (read others now : List Lexeme) → read ≡ now → Leads P read others → Leads P now others
leads-same P read others now e h = subst (λ r. Leads P r others) e h

pub leads-as : (P Q : List Lexeme → Type 0) (read others : List Lexeme) → ((coming : List Lexeme) → first_of coming ≡ first_of others → P coming → Q coming) → Leads P read others → Leads Q read others
leads-as P Q read others step h = λ items coming are same first. step coming first (h items coming are same first)

-- programs lead on from their start
pub leads-first : (others : List Lexeme) → Leads (λ coming. (items : List Item) × AreItems items [] × (spelled_items items [] ≡ coming)) [] others
leads-first others = λ items coming are same first. (items, are, same)

-- tokens that are read, and behind them the token at which they go on no more

take-next : (xs : List Lexeme) (n : ℕ) → n < length xs → (t : Lexeme) × (more : List Lexeme) × (drop n xs ≡ t ∷ more) × (take (n + 1) xs ≡ take n xs ++ (t ∷ []))
take-next xs n h = next xs n (drop n xs) refl h
  where
    none : (ys : List Lexeme) (k : ℕ) → drop k ys ≡ [] → length ys ≤ k
    none [] k e = omega arith
    none (y ∷ ys) zero e = absurd (cc)
    none (y ∷ ys) (suc k) e = let r : length ys ≤ k = none ys k e in omega arith

    next : (ys : List Lexeme) (k : ℕ) (rest : List Lexeme) → drop k ys ≡ rest → k < length ys → (t : Lexeme) × (more : List Lexeme) × (drop k ys ≡ t ∷ more) × (take (k + 1) ys ≡ take k ys ++ (t ∷ []))
    next ys k [] e h = let l : length ys ≤ k = none ys k e in absurd (omega arith)
    next ys k (t ∷ more) e h = (t, more, e, take-add k 1 ys ∙ ap (λ r. take k ys ++ take 1 r) e)

pub bad-place : (GoesSo : List Lexeme → Type 0) (tokens : List Lexeme) (place : ℕ) (read x : List Lexeme) → place ≤ length tokens → take place tokens ≡ read ++ x → Leads GoesSo read (x ++ drop place tokens) → Begins (read ++ x) → ((behind : List Lexeme) → first_of behind ≡ first_of (drop place tokens) → GoesSo (x ++ behind) → ⊥) → IsBadAt tokens place
bad-place GoesSo tokens place read x within taken leads begins never = record {
  within = within;
  goes_on = subst (λ r. Begins r) (sym taken) begins;
  no_more = λ l b. no-more (take-next tokens place l) b;
  no_whole = λ e items p. never (drop place tokens) refl
      (leads items (x ++ drop place tokens) p.are (p.is_spelled ∙ (sym (take-append-drop place tokens) ∙ (ap (λ r. r ++ drop place tokens) taken ∙ append_assoc read x (drop place tokens)))) refl);
}
  where
    no-more : ((t : Lexeme) × (more : List Lexeme) × (drop place tokens ≡ t ∷ more) × (take (place + 1) tokens ≡ take place tokens ++ (t ∷ []))) → Begins (take (place + 1) tokens) → ⊥
    no-more n b =
        let behind : List Lexeme = n.0 ∷ b.more in
        let same : spelled_items b.items [] ≡ read ++ (x ++ behind) =
        b.whole.is_spelled ∙ (ap (λ r. r ++ b.more) n.3 ∙ (append_assoc (take place tokens) (n.0 ∷ []) b.more
        ∙ (ap (λ r. r ++ behind) taken ∙ append_assoc read x behind))) in
        let first : first_of behind ≡ first_of (drop place tokens) = sym (ap first_of n.2) in
        never behind first (leads b.items (x ++ behind) b.whole.are same (first-behind x behind (drop place tokens) first))

-- what is read between two places, from what it leaves
pub read-between : (tokens : List Lexeme) (start stop : ℕ) (x : List Lexeme) → x ++ drop stop tokens ≡ drop start tokens → take stop tokens ≡ take start tokens ++ x
read-between tokens start stop x e =
    append_cancel_right (take stop tokens) (take start tokens ++ x) (drop stop tokens)
    (take-append-drop stop tokens ∙ (sym (take-append-drop start tokens) ∙ (ap (λ r. take start tokens ++ r) (sym e) ∙ sym (append_assoc (take start tokens) x (drop stop tokens)))))

-- expressions: what was read as long as it can be, and the expression that comes there

-- fewer tokens begin an expression too
pub begins-less : (base : ℕ) (a : List Lexeme) (t : Lexeme) (more : List Lexeme) → BeginsExpression base (a ++ (t ∷ more)) → BeginsExpression base (a ++ (t ∷ []))
begins-less base a t more b = record {
  more = more ++ b.more;
  whole_phrase = b.whole_phrase;
  whole = record {
    expression = b.whole.expression;
    fits = b.whole.fits;
    is_spelled = b.whole.is_spelled ∙ (append_assoc a (t ∷ more) b.more ∙ sym (append_assoc a (t ∷ []) (more ++ b.more)));
  };
}

expression-cut : (extent : Extent) (x behind others : List Lexeme) (e : Phrase) (rest : List Lexeme) → IsOf extent e → EndsBy (GoesOn extent e) rest → first_of behind ≡ first_of others → BeginsExpression (least extent) x → ((t : Lexeme) → first_of others ≡ Some t → BeginsExpression (least extent) (x ++ (t ∷ [])) → ⊥) → Cut (spelled_expression e []) x rest behind → IsWhole (least extent) x e × (rest ≡ behind)
expression-cut extent x behind others e rest h ends first b n (Same p q) =
    let w : IsWhole (least extent) (spelled_expression e []) e = whole-of extent e h in
    (record { expression = w.expression; fits = w.fits; is_spelled = p }, q)
expression-cut extent x behind others e rest h ends first b n (Longer t more p q) =
    absurd (ended (GoesOn extent e) rest t (more ++ behind) ends q (begins-less (least extent) (spelled_expression e []) t more (subst (λ r. BeginsExpression (least extent) r) p b)))
expression-cut extent x behind others e rest h ends first b n (Shorter t more p q) =
    let w : IsWhole (least extent) (spelled_expression e []) e = whole-of extent e h in
    absurd (n t (sym first ∙ ap first_of q) (record {
      more = more;
      whole_phrase = e;
      whole = record { expression = w.expression; fits = w.fits; is_spelled = p ∙ sym (append_assoc x (t ∷ []) more) };
    }))

-- an expression that comes there, and doesn't go on with what stands behind it, is what was read as long as it can be
pub expression-read : (extent : Extent) (x behind others : List Lexeme) (e : Phrase) (rest : List Lexeme) → IsOf extent e → EndsBy (GoesOn extent e) rest → spelled_expression e rest ≡ x ++ behind → first_of behind ≡ first_of others → BeginsExpression (least extent) x → ((t : Lexeme) → first_of others ≡ Some t → BeginsExpression (least extent) (x ++ (t ∷ [])) → ⊥) → IsWhole (least extent) x e × (rest ≡ behind)
expression-read extent x behind others e rest h ends same first b n =
    expression-cut extent x behind others e rest h ends first b n
    (cut (spelled_expression e []) x rest behind (sym (expression-spelled e rest) ∙ same))
