-- Each token is its part of the text.
use Rattle.std.proofs.Common.{◌≡◌, ℕ, ◌+◌, ◌-◌, List, [], ◌∷◌, ◌++◌, length, take, drop, refl, sym, ◌∙◌, ap, subst, arith, append_assoc}
use Rattle.std.specs.List.{slice_range}
use Rattle.std.proofs.lemmas.List.{length-append}
use Rattle.std.proofs.Math.Seq.{take-append_seam, drop-append_seam}
use Rattle.es_lexer.specs.Elements.{InputElement, spelling, text_of, AreLongest}
use Rattle.es_lexer.specs.Tokens.{TokensAmong, Tokens, StandInOrder}
use Rattle.es_lexer.specs.declared.token_types.Token.{Token}
use Rattle.es_lexer.proofs.ElementLemmas.{element-long}
use Rattle.es_lexer.proofs.TokenLemmas.{text-append}

longest-behind : (front back : List InputElement) (rest : List ℕ) → AreLongest (front ++ back) rest → AreLongest back rest
longest-behind [] back rest h = h
longest-behind (e ∷ front) back rest h = longest-behind front back rest h.1

slice-is : (text front middle back : List ℕ) (start stop : ℕ) → text ≡ front ++ (middle ++ back) → start ≡ length front → stop ≡ start + length middle → slice_range text start stop ≡ middle
slice-is text front middle back start stop t s e =
    let size : stop - start ≡ length middle = omega (arith, e) in
    ap (λ n. take n (drop start text)) size
    ∙ (ap (λ n. take (length middle) (drop n text)) s
    ∙ (ap (λ z. take (length middle) (drop (length front) z)) t
    ∙ (ap (take (length middle)) (drop-append_seam front (middle ++ back)) ∙ take-append_seam middle back)))

stand : (text front : List ℕ) (place : ℕ) (elements : List InputElement) (tokens : List Token) → place ≡ length front → text ≡ front ++ text_of elements → AreLongest elements [] → TokensAmong place elements tokens → StandInOrder text place tokens
stand text front place elements [] p t l h = omega (arith, p, ap length t, length-append front (text_of elements))
stand text front place elements (token ∷ tokens) p t l (more, h, rest) =
    let e : InputElement = h.element in
    let before : List ℕ = front ++ text_of h.gap in
    let longest : AreLongest (e ∷ more) [] = longest-behind h.gap (e ∷ more) [] (subst (λ z. AreLongest z []) h.end_to_end l) in
    let long = element-long e longest.0.stands.0 in
    let whole : text ≡ before ++ (spelling e ++ text_of more) = t ∙ (ap (λ z. front ++ text_of z) h.end_to_end ∙ (ap (λ z. front ++ z) (text-append h.gap (e ∷ more)) ∙ sym (append_assoc front (text_of h.gap) (spelling e ++ text_of more)))) in
    let start : token.start ≡ length before = omega (arith, h.start, p, length-append front (text_of h.gap)) in
    let slice : slice_range text token.start token.«end» ≡ spelling e = slice-is text before (spelling e) (text_of more) token.start token.«end» whole start h.stop in
    let behind : token.«end» ≡ length (before ++ spelling e) = omega (arith, h.stop, start, length-append before (spelling e)) in (
      omega (arith, h.start),
      omega (arith, h.stop, long),
      record { element = e; is_element = longest.0.stands.0; kind_is = h.kind; spelled_is = slice },
      stand text (before ++ spelling e) token.«end» more tokens behind (whole ∙ sym (append_assoc before (spelling e) (text_of more))) longest.1 rest,
    )

pub tokens-stand : (text : List ℕ) (tokens : List Token) → Tokens text tokens → StandInOrder text 0 tokens
tokens-stand text tokens h = stand text [] 0 h.elements tokens refl h.spelled h.longest h.among
