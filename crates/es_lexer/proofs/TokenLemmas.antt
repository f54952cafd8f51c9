-- The tokens of a text, and the place where it has none, are those that are computed.
use Rattle.std.proofs.Common.{◌≡◌, ◌≢◌, ℕ, zero, suc, ◌+◌, ◌-◌, ◌<◌, Bool, true, false, ◌⊎◌, inl, inr, List, [], ◌∷◌, ◌++◌, length, Option, Some, None, refl, sym, ◌∙◌, ap, subst, arith, append_assoc, append-nil}
use Rattle.std.specs.Prelude.{◌||◌, option_map, Result, Ok, Err}
use Rattle.std.specs.List.{list_any}
use Rattle.std.proofs.lemmas.List.{length-append}
use Rattle.es_lexer.specs.Elements.{InputElement, spelling, text_of, IsLongest, AreLongest, kind_of, has_line_break}
use Rattle.es_lexer.specs.Tokens.{IsGap, TokensAmong, Tokens, IsBadAt}
use Rattle.es_lexer.specs.Scanning.{Found, found, changed}
use Rattle.es_lexer.specs.ScannedElements.{element_at}
use Rattle.es_lexer.specs.ScannedTokens.{Seen, seen_of, seen_at, Outcome, with_front, outcome_within, outcome_from, outcome_of}
use Rattle.es_lexer.specs.declared.token_types.Token.{Token}
use Rattle.es_lexer.specs.declared.token_types.TokenKind.{TokenKind}
use Rattle.es_lexer.proofs.ElementLemmas.{element_at-is, element_at-longest, element_at-none, element-long}

-- The tokens of elements, by recursion

abbrev pub token : TokenKind → ℕ → ℕ → Bool → Token
token kind start stop broken = record { kind = kind; start = start; «end» = stop; after_break = broken }

abbrev pub tokens_of : ℕ → Bool → List InputElement → List Token
tokens_of place broken [] = []
tokens_of place broken (e ∷ elements) =
    elim (kind_of e) [
      | None ↦ tokens_of (place + length (spelling e)) (broken || has_line_break e) elements
      | Some kind ↦ token kind place (place + length (spelling e)) broken ∷ tokens_of (place + length (spelling e)) false elements
    ]

tokens_of-gap : (place : ℕ) (broken : Bool) (e : InputElement) (elements : List InputElement) → kind_of e ≡ None → tokens_of place broken (e ∷ elements) ≡ tokens_of (place + length (spelling e)) (broken || has_line_break e) elements
tokens_of-gap place broken e elements n = rw (n, tokens_of) refl

tokens_of-token : (place : ℕ) (broken : Bool) (e : InputElement) (elements : List InputElement) (kind : TokenKind) → kind_of e ≡ Some kind → tokens_of place broken (e ∷ elements) ≡ token kind place (place + length (spelling e)) broken ∷ tokens_of (place + length (spelling e)) false elements
tokens_of-token place broken e elements kind n = rw (n, tokens_of) refl

or-assoc : (a b c : Bool) → ((a || b) || c) ≡ (a || (b || c))
or-assoc true b c = refl
or-assoc false b c = refl

or-false : (a : Bool) → (a || false) ≡ a
or-false true = refl
or-false false = refl

tokens_of-skip : (place : ℕ) (broken : Bool) (gap elements : List InputElement) → IsGap gap → tokens_of place broken (gap ++ elements) ≡ tokens_of (place + length (text_of gap)) (broken || list_any has_line_break gap) elements
tokens_of-skip place broken [] elements h = rw (or-false broken) (let e : place ≡ place + 0 = omega arith in ap (λ p. tokens_of p broken elements) e)
tokens_of-skip place broken (e ∷ gap) elements h =
    let there : (place + length (spelling e)) + length (text_of gap) ≡ place + length (text_of (e ∷ gap)) = omega (arith, length-append (spelling e) (text_of gap)) in
    tokens_of-gap place broken e (gap ++ elements) h.0
    ∙ (tokens_of-skip (place + length (spelling e)) (broken || has_line_break e) gap elements h.1
    ∙ (ap (λ p. tokens_of p ((broken || has_line_break e) || list_any has_line_break gap) elements) there
    ∙ ap (λ b. tokens_of (place + length (text_of (e ∷ gap))) b elements) (or-assoc broken (has_line_break e) (list_any has_line_break gap))))

token-same : (kind : TokenKind) (start stop : ℕ) (broken : Bool) (t : Token) → t.kind ≡ kind → t.start ≡ start → t.«end» ≡ stop → t.after_break ≡ broken → t ≡ token kind start stop broken
token-same kind start stop broken t k s e b =
    ap (λ x. token x t.start t.«end» t.after_break) k
    ∙ (ap (λ x. token kind x t.«end» t.after_break) s
    ∙ (ap (λ x. token kind start x t.after_break) e
    ∙ ap (λ x. token kind start stop x) b))

among-tokens : (place : ℕ) (elements : List InputElement) (tokens : List Token) → TokensAmong place elements tokens → tokens ≡ tokens_of place false elements
among-tokens place elements [] h =
    let all : tokens_of place false (elements ++ []) ≡ tokens_of (place + length (text_of elements)) (list_any has_line_break elements) [] = tokens_of-skip place false elements [] h in
    sym (ap (tokens_of place false) (sym (append-nil elements)) ∙ all)
among-tokens place elements (t ∷ tokens) (more, h, rest) =
    let start : ℕ = place + length (text_of h.gap) in
    let broken : Bool = list_any has_line_break h.gap in
    let stop : ℕ = start + length (spelling h.element) in
    let ends : t.«end» ≡ stop = h.stop ∙ ap (λ s. s + length (spelling h.element)) h.start in
    let skip : tokens_of place false elements ≡ tokens_of start broken (h.element ∷ more) = ap (tokens_of place false) h.end_to_end ∙ tokens_of-skip place false h.gap (h.element ∷ more) h.between in
    let first : t ≡ token t.kind start stop broken = token-same t.kind start stop broken t refl h.start ends h.after_break in
    let others : tokens ≡ tokens_of stop false more = among-tokens t.«end» more tokens rest ∙ ap (λ p. tokens_of p false more) ends in
    sym (skip ∙ (tokens_of-token start broken h.element more t.kind h.kind ∙ sym (ap (λ x. x ∷ tokens) first ∙ ap (λ x. token t.kind start stop broken ∷ x) others)))

gap-more : (gap : List InputElement) (e : InputElement) → IsGap gap → kind_of e ≡ None → IsGap (gap ++ e ∷ [])
gap-more [] e h n = (n, tt)
gap-more (g ∷ gap) e h n = (h.0, gap-more gap e h.1 n)

any-more : (gap : List InputElement) (e : InputElement) → list_any has_line_break (gap ++ e ∷ []) ≡ (list_any has_line_break gap || has_line_break e)
any-more [] e = or-false (has_line_break e)
any-more (g ∷ gap) e = ap (λ b. has_line_break g || b) (any-more gap e) ∙ sym (or-assoc (has_line_break g) (list_any has_line_break gap) (has_line_break e))

pub text-append : (xs ys : List InputElement) → text_of (xs ++ ys) ≡ text_of xs ++ text_of ys
text-append [] ys = refl
text-append (x ∷ xs) ys = ap (λ z. spelling x ++ z) (text-append xs ys) ∙ sym (append_assoc (spelling x) (text_of xs) (text_of ys))

-- the tokens behind a gap that was passed
tokens-among-by : (start : ℕ) (gap : List InputElement) (e : InputElement) (elements : List InputElement) (o : Option TokenKind) → kind_of e ≡ o → IsGap gap
    → (IsGap (gap ++ e ∷ []) → TokensAmong start ((gap ++ e ∷ []) ++ elements) (tokens_of (start + length (text_of (gap ++ e ∷ []))) (list_any has_line_break (gap ++ e ∷ [])) elements))
    → ((place : ℕ) → TokensAmong place elements (tokens_of place false elements))
    → TokensAmong start (gap ++ (e ∷ elements)) (tokens_of (start + length (text_of gap)) (list_any has_line_break gap) (e ∷ elements))
tokens-among-by start gap e elements None n g k next =
    let place : ℕ = start + length (text_of gap) in
    let there : start + length (text_of (gap ++ e ∷ [])) ≡ place + length (spelling e) = omega (arith, ap length (text-append gap (e ∷ [])), length-append (text_of gap) (text_of (e ∷ [])), length-append (spelling e) []) in
    let ts : tokens_of place (list_any has_line_break gap) (e ∷ elements) ≡ tokens_of (start + length (text_of (gap ++ e ∷ []))) (list_any has_line_break (gap ++ e ∷ [])) elements =
    tokens_of-gap place (list_any has_line_break gap) e elements n ∙ (ap (λ p. tokens_of p (list_any has_line_break gap || has_line_break e) elements) (sym there) ∙ ap (λ b. tokens_of (start + length (text_of (gap ++ e ∷ []))) b elements) (sym (any-more gap e))) in
    let es : (gap ++ e ∷ []) ++ elements ≡ gap ++ (e ∷ elements) = append_assoc gap (e ∷ []) elements in
    subst (λ z. TokensAmong start (gap ++ (e ∷ elements)) z) (sym ts) (subst (λ z. TokensAmong start z (tokens_of (start + length (text_of (gap ++ e ∷ []))) (list_any has_line_break (gap ++ e ∷ [])) elements)) es (k (gap-more gap e g n)))
tokens-among-by start gap e elements (Some kind) n g k next =
    let place : ℕ = start + length (text_of gap) in
    let ts = tokens_of-token place (list_any has_line_break gap) e elements kind n in
    subst (λ z. TokensAmong start (gap ++ (e ∷ elements)) z) (sym ts) (elements, record { gap = gap; element = e; end_to_end = refl; between = g; kind = n; start = refl; stop = refl; after_break = refl }, next (place + length (spelling e)))

tokens-among : (start : ℕ) (gap elements : List InputElement) → IsGap gap → TokensAmong start (gap ++ elements) (tokens_of (start + length (text_of gap)) (list_any has_line_break gap) elements)
tokens-among start gap [] g = subst IsGap (sym (append-nil gap)) g
tokens-among start gap (e ∷ elements) g = tokens-among-by start gap e elements (kind_of e) refl g (λ h. tokens-among start (gap ++ e ∷ []) elements h)
    (λ place. let z : place + 0 ≡ place = omega arith in subst (λ p. TokensAmong place elements (tokens_of p false elements)) z (tokens-among place [] elements tt))

tokens-are : (elements : List InputElement) → TokensAmong 0 elements (tokens_of 0 false elements)
tokens-are elements = tokens-among 0 [] elements tt

-- What is computed, element by element

abbrev pub after : ℕ → ℕ → Bool → List ℕ → Found Seen → Outcome
after most whole broken codes f =
    elim f.it.kind [
      | None ↦ outcome_within most whole (broken || f.it.breaks) f.rest
      | Some kind ↦ with_front (token kind (whole - length codes) (whole - length f.rest) broken ∷ []) (outcome_within most whole false f.rest)
    ]

pub outcome-step : (most whole : ℕ) (broken : Bool) (codes : List ℕ) (f : Found Seen) → codes ≢ [] → seen_at codes ≡ Some f → outcome_within (suc most) whole broken codes ≡ after most whole broken codes f
unfolding outcome_within
outcome-step most whole broken [] f n e = absurd (n refl)
outcome-step most whole broken (c ∷ codes) f n e = rw (e, outcome_within) refl

pub outcome-bad : (most whole : ℕ) (broken : Bool) (codes : List ℕ) → codes ≢ [] → seen_at codes ≡ None → outcome_within (suc most) whole broken codes ≡ Err (whole - length codes)
unfolding outcome_within
outcome-bad most whole broken [] n e = absurd (n refl)
outcome-bad most whole broken (c ∷ codes) n e = rw (e, outcome_within) refl

pub outcome-end : (most whole : ℕ) (broken : Bool) → outcome_within (suc most) whole broken [] ≡ Ok []
unfolding outcome_within
outcome-end most whole broken = refl

seen-some : (codes : List ℕ) (f : Found InputElement) → element_at codes ≡ Some f → seen_at codes ≡ Some (changed seen_of f)
seen-some codes f e = ap (option_map (changed seen_of)) e

-- an element, seen or not
pub data FirstOf (codes : List ℕ) : Type 0 where
  There : (f : Found InputElement) → element_at codes ≡ Some f → codes ≡ spelling f.it ++ f.rest → IsLongest f.it f.rest → length f.rest < length codes → FirstOf codes
  Nowhere : element_at codes ≡ None → FirstOf codes

first-of-by : (codes : List ℕ) (o : Option (Found InputElement)) → element_at codes ≡ o → FirstOf codes
first-of-by codes None e = Nowhere e
first-of-by codes (Some f) e =
    let h = element_at-is codes f e in
    There f e h.is_it h.longest (omega (arith, ap length h.is_it, length-append (spelling f.it) f.rest, element-long f.it h.longest.stands.0))

pub first-of : (codes : List ℕ) → FirstOf codes
first-of codes = first-of-by codes (element_at codes) refl

some-code : (spelled rest : List ℕ) → 0 < length spelled → spelled ++ rest ≢ []
some-code spelled rest h e = omega (arith, ap length e, length-append spelled rest)

-- how many elements there may be doesn't matter

after-same : (m n whole : ℕ) (broken : Bool) (codes : List ℕ) (f : Found Seen) → ((b : Bool) → outcome_within m whole b f.rest ≡ outcome_within n whole b f.rest) → after m whole broken codes f ≡ after n whole broken codes f
after-same m n whole broken codes f k = by f.it.kind
  where
    by : (o : Option TokenKind) → let x : Outcome = elim o [ None ↦ outcome_within m whole (broken || f.it.breaks) f.rest | Some kind ↦ with_front (token kind (whole - length codes) (whole - length f.rest) broken ∷ []) (outcome_within m whole false f.rest) ] in let y : Outcome = elim o [ None ↦ outcome_within n whole (broken || f.it.breaks) f.rest | Some kind ↦ with_front (token kind (whole - length codes) (whole - length f.rest) broken ∷ []) (outcome_within n whole false f.rest) ] in x ≡ y
    by None = k (broken || f.it.breaks)
    by (Some kind) = ap (with_front (token kind (whole - length codes) (whole - length f.rest) broken ∷ [])) (k false)

pub outcome-same : (m n whole : ℕ) (broken : Bool) (codes : List ℕ) → length codes < m → length codes < n → outcome_within m whole broken codes ≡ outcome_within n whole broken codes
outcome-same zero n whole broken codes p q = absurd (omega (arith, p))
outcome-same (suc m) zero whole broken codes p q = absurd (omega (arith, q))
outcome-same (suc m) (suc n) whole broken [] p q = outcome-end m whole broken ∙ sym (outcome-end n whole broken)
outcome-same (suc m) (suc n) whole broken (c ∷ codes) p q = by (first-of (c ∷ codes)) (λ r l b. outcome-same m n whole b r (omega (arith, l, p)) (omega (arith, l, q)))
  where
    some : c ∷ codes ≢ []
    some e = absurd (cc e)

    by : FirstOf (c ∷ codes) → ((r : List ℕ) → length r < length (c ∷ codes) → (b : Bool) → outcome_within m whole b r ≡ outcome_within n whole b r) → outcome_within (suc m) whole broken (c ∷ codes) ≡ outcome_within (suc n) whole broken (c ∷ codes)
    by (Nowhere e) k =
        let s : seen_at (c ∷ codes) ≡ None = ap (option_map (changed seen_of)) e in
        outcome-bad m whole broken (c ∷ codes) some s ∙ sym (outcome-bad n whole broken (c ∷ codes) some s)
    by (There f e h l less) k =
        let s = seen-some (c ∷ codes) f e in
        outcome-step m whole broken (c ∷ codes) (changed seen_of f) some s
        ∙ (after-same m n whole broken (c ∷ codes) (changed seen_of f) (k f.rest less) ∙ sym (outcome-step n whole broken (c ∷ codes) (changed seen_of f) some s))

-- Elements and what stands behind them

with-none : (o : Outcome) → with_front [] o ≡ o
with-none (Ok tokens) = refl
with-none (Err place) = refl

pub with-both : (xs ys : List Token) (o : Outcome) → with_front xs (with_front ys o) ≡ with_front (xs ++ ys) o
with-both xs ys (Ok tokens) = ap (λ z. Ok z) (sym (append_assoc xs ys tokens))
with-both xs ys (Err place) = refl

-- whatever stands in front, this stands at the end
abbrev pub EndsAs : ℕ → List ℕ → Outcome → Type 0
EndsAs whole rest o = (most : ℕ) (broken : Bool) → length rest < most → outcome_within most whole broken rest ≡ o

after-element : (most whole place : ℕ) (broken : Bool) (e : InputElement) (elements : List InputElement) (rest : List ℕ) (o : Outcome) (k : Option TokenKind) → kind_of e ≡ k
    → let behind : List ℕ = text_of elements ++ rest in let codes : List ℕ = spelling e ++ behind in
    place + length codes ≡ whole
    → ((p : ℕ) (b : Bool) → p + length behind ≡ whole → outcome_within most whole b behind ≡ with_front (tokens_of p b elements) o)
    → after most whole broken codes (found (seen_of e) behind) ≡ with_front (tokens_of place broken (e ∷ elements)) o
after-element most whole place broken e elements rest o None n w k =
    let there : (place + length (spelling e)) + length (text_of elements ++ rest) ≡ whole = omega (arith, w, length-append (spelling e) (text_of elements ++ rest)) in
    let seen : after most whole broken (spelling e ++ (text_of elements ++ rest)) (found (seen_of e) (text_of elements ++ rest)) ≡ outcome_within most whole (broken || has_line_break e) (text_of elements ++ rest) = rw (n, after) refl in
    seen ∙ (k (place + length (spelling e)) (broken || has_line_break e) there ∙ ap (λ t. with_front t o) (sym (tokens_of-gap place broken e elements n)))
after-element most whole place broken e elements rest o (Some kind) n w k =
    let behind : List ℕ = text_of elements ++ rest in
    let codes : List ℕ = spelling e ++ behind in
    let stop : ℕ = place + length (spelling e) in
    let there : stop + length behind ≡ whole = omega (arith, w, length-append (spelling e) behind) in
    let seen : after most whole broken codes (found (seen_of e) behind) ≡ with_front (token kind (whole - length codes) (whole - length behind) broken ∷ []) (outcome_within most whole false behind) = rw (n, after) refl in
    let from : whole - length codes ≡ place = omega (arith, w) in
    let to : whole - length behind ≡ stop = omega (arith, there) in
    seen
    ∙ (ap (with_front (token kind (whole - length codes) (whole - length behind) broken ∷ [])) (k stop false there)
    ∙ (with-both (token kind (whole - length codes) (whole - length behind) broken ∷ []) (tokens_of stop false elements) o
    ∙ (ap (λ x. with_front (token kind x (whole - length behind) broken ∷ tokens_of stop false elements) o) from
    ∙ (ap (λ x. with_front (token kind place x broken ∷ tokens_of stop false elements) o) to
    ∙ ap (λ t. with_front t o) (sym (tokens_of-token place broken e elements kind n))))))

outcome-elements : (elements : List InputElement) (rest : List ℕ) (o : Outcome) (most whole place : ℕ) (broken : Bool) → AreLongest elements rest → EndsAs whole rest o → place + length (text_of elements ++ rest) ≡ whole → length (text_of elements ++ rest) < most → outcome_within most whole broken (text_of elements ++ rest) ≡ with_front (tokens_of place broken elements) o
outcome-elements [] rest o most whole place broken h k w p = k most broken p ∙ sym (with-none o)
outcome-elements (e ∷ elements) rest o zero whole place broken h k w p = absurd (omega (arith, p))
outcome-elements (e ∷ elements) rest o (suc most) whole place broken h k w p =
    let behind : List ℕ = text_of elements ++ rest in
    let same : text_of (e ∷ elements) ++ rest ≡ spelling e ++ behind = append_assoc (spelling e) (text_of elements) rest in
    let long : 0 < length (spelling e) = element-long e h.0.stands.0 in
    let size : length (text_of (e ∷ elements) ++ rest) ≡ length (spelling e) + length behind = ap length same ∙ length-append (spelling e) behind in
    let less : length behind < most = omega (arith, p, long, size) in
    let w' : place + length (spelling e ++ behind) ≡ whole = omega (arith, w, ap length same) in
    ap (outcome_within (suc most) whole broken) same
    ∙ (outcome-step most whole broken (spelling e ++ behind) (found (seen_of e) behind) (some-code (spelling e) behind long) (seen-some (spelling e ++ behind) (found e behind) (element_at-longest e behind h.0))
    ∙ after-element most whole place broken e elements rest o (kind_of e) refl w' (λ p' b q. outcome-elements elements rest o most whole p' b h.1 k q less))

ends-empty : (whole : ℕ) → EndsAs whole [] (Ok [])
ends-empty whole zero broken p = absurd (omega (arith, p))
ends-empty whole (suc most) broken p = outcome-end most whole broken

ends-bad : (whole : ℕ) (rest : List ℕ) → rest ≢ [] → element_at rest ≡ None → EndsAs whole rest (Err (whole - length rest))
ends-bad whole rest n e zero broken p = absurd (omega (arith, p))
ends-bad whole rest n e (suc most) broken p = outcome-bad most whole broken rest n (ap (option_map (changed seen_of)) e)

-- Every text is elements to its end, or to a place where nothing stands

pub data Divided (text : List ℕ) : Type 0 where
  Whole : (elements : List InputElement) → text ≡ text_of elements → AreLongest elements [] → Divided text
  Stops : (elements : List InputElement) (rest : List ℕ) → text ≡ text_of elements ++ rest → AreLongest elements rest → rest ≢ [] → element_at rest ≡ None → Divided text

divided-more : (codes : List ℕ) (f : Found InputElement) → codes ≡ spelling f.it ++ f.rest → IsLongest f.it f.rest → Divided f.rest → Divided codes
divided-more codes f e h (Whole elements s l) =
    let here : f.rest ≡ text_of elements ++ [] = s ∙ sym (append-nil (text_of elements)) in
    Whole (f.it ∷ elements) (e ∙ ap (λ z. spelling f.it ++ z) s) (subst (IsLongest f.it) here h, l)
divided-more codes f e h (Stops elements rest s l n o) =
    Stops (f.it ∷ elements) rest (e ∙ (ap (λ z. spelling f.it ++ z) s ∙ sym (append_assoc (spelling f.it) (text_of elements) rest))) (subst (IsLongest f.it) s h, l) n o

divided-within : (most : ℕ) (codes : List ℕ) → length codes < most → Divided codes
divided-within zero codes p = absurd (omega (arith, p))
divided-within (suc most) [] p = Whole [] refl tt
divided-within (suc most) (c ∷ codes) p = by (first-of (c ∷ codes)) (λ r l. divided-within most r (omega (arith, l, p)))
  where
    by : FirstOf (c ∷ codes) → ((r : List ℕ) → length r < length (c ∷ codes) → Divided r) → Divided (c ∷ codes)
    by (Nowhere e) k = Stops [] (c ∷ codes) refl tt (λ n. absurd (cc n)) e
    by (There f e s l less) k = divided-more (c ∷ codes) f s l (k f.rest less)

pub divided : (text : List ℕ) → Divided text
divided text = divided-within (suc (length text)) text (omega arith)

-- Both ways

pub tokens-computed : (text : List ℕ) (tokens : List Token) → Tokens text tokens → outcome_of text ≡ Ok tokens
unfolding outcome_of outcome_from
tokens-computed text tokens h =
    let elements = h.elements in
    let same : text ≡ text_of elements ++ [] = h.spelled ∙ sym (append-nil (text_of elements)) in
    let all = outcome-elements elements [] (Ok []) (suc (length text)) (length text) 0 false h.longest (ends-empty (length text)) (let n : 0 + length (text_of elements ++ []) ≡ length text = omega (arith, ap length same) in n) (omega (arith, ap length same)) in
    ap (outcome_within (suc (length text)) (length text) false) same
    ∙ (all ∙ ap (λ z. Ok z) (append-nil (tokens_of 0 false elements) ∙ sym (among-tokens 0 elements tokens h.among)))

pub bad-computed : (text : List ℕ) (place : ℕ) → IsBadAt text place → outcome_of text ≡ Err place
unfolding outcome_of outcome_from
bad-computed text place h = by (first-of h.rest)
  where
    at : element_at h.rest ≡ None → outcome_within (suc (length text)) (length text) false text ≡ Err place
    at e =
        let size : length text ≡ length (text_of h.elements) + length h.rest = ap length h.spelled ∙ length-append (text_of h.elements) h.rest in
        let all = outcome-elements h.elements h.rest (Err (length text - length h.rest)) (suc (length text)) (length text) 0 false h.longest (ends-bad (length text) h.rest h.some e) (let n : 0 + length (text_of h.elements ++ h.rest) ≡ length text = omega (arith, ap length h.spelled) in n) (omega (arith, ap length h.spelled)) in
        let there : length text - length h.rest ≡ place = omega (arith, size, h.place_is) in
        ap (outcome_within (suc (length text)) (length text) false) h.spelled ∙ (all ∙ ap (λ p. Err p) there)

    by : FirstOf h.rest → outcome_within (suc (length text)) (length text) false text ≡ Err place
    by (Nowhere e) = at e
    by (There f e s l less) = absurd (h.nothing f.it f.rest s l.stands)

pub whole-tokens : (text : List ℕ) (elements : List InputElement) → text ≡ text_of elements → AreLongest elements [] → Tokens text (tokens_of 0 false elements)
whole-tokens text elements s l = record { elements = elements; spelled = s; longest = l; among = tokens-are elements }

pub stops-bad : (text : List ℕ) (elements : List InputElement) (rest : List ℕ) → text ≡ text_of elements ++ rest → AreLongest elements rest → rest ≢ [] → element_at rest ≡ None → IsBadAt text (length (text_of elements))
stops-bad text elements rest s l n e = record { elements = elements; rest = rest; spelled = s; longest = l; place_is = refl; some = n; nothing = element_at-none rest e }

pub either : (text : List ℕ) → ((tokens : List Token) × Tokens text tokens) ⊎ ((place : ℕ) × IsBadAt text place)
either text = by (divided text)
  where
    by : Divided text → ((tokens : List Token) × Tokens text tokens) ⊎ ((place : ℕ) × IsBadAt text place)
    by (Whole elements s l) = inl (tokens_of 0 false elements, whole-tokens text elements s l)
    by (Stops elements rest s l n e) = inr (length (text_of elements), stops-bad text elements rest s l n e)

abbrev Computed : Type 0
Computed = Result (List Token) ℕ

ok-same : (a b : List Token) → ◌≡◌ {A = Computed} (Ok a) (Ok b) → a ≡ b
ok-same a b e = cc

err-same : (a b : ℕ) → ◌≡◌ {A = Computed} (Err a) (Err b) → a ≡ b
err-same a b e = cc

ok-err : (a : List Token) (b : ℕ) → ◌≡◌ {A = Computed} (Ok a) (Err b) → ⊥
ok-err a b e = cc

pub one-list : (text : List ℕ) (tokens others : List Token) → Tokens text tokens → Tokens text others → tokens ≡ others
one-list text tokens others h k = ok-same tokens others (sym (tokens-computed text tokens h) ∙ tokens-computed text others k)

pub one-place : (text : List ℕ) (place other : ℕ) → IsBadAt text place → IsBadAt text other → place ≡ other
one-place text place other h k = err-same place other (sym (bad-computed text place h) ∙ bad-computed text other k)

pub not-both : (text : List ℕ) (tokens : List Token) (place : ℕ) → Tokens text tokens → IsBadAt text place → ⊥
not-both text tokens place h k = ok-err tokens place (sym (tokens-computed text tokens h) ∙ bad-computed text place k)

pub computed-tokens : (text : List ℕ) (tokens : List Token) → outcome_of text ≡ Ok tokens → Tokens text tokens
computed-tokens text tokens e = by (either text)
  where
    by : ((ts : List Token) × Tokens text ts) ⊎ ((place : ℕ) × IsBadAt text place) → Tokens text tokens
    by (inl (ts, h)) = subst (Tokens text) (ok-same ts tokens (sym (tokens-computed text ts h) ∙ e)) h
    by (inr (place, h)) = absurd (ok-err tokens place (sym e ∙ bad-computed text place h))

pub computed-bad : (text : List ℕ) (place : ℕ) → outcome_of text ≡ Err place → IsBadAt text place
computed-bad text place e = by (either text)
  where
    by : ((ts : List Token) × Tokens text ts) ⊎ ((p : ℕ) × IsBadAt text p) → IsBadAt text place
    by (inl (ts, h)) = absurd (ok-err ts place (sym (tokens-computed text ts h) ∙ e))
    by (inr (p, h)) = subst (IsBadAt text) (err-same p place (sym (bad-computed text p h) ∙ e)) h
