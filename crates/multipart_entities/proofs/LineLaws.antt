-- The lines of some bytes, joined again.
use Rattle.std.proofs.Common.{◌≡◌, ◌≢◌, ℕ, Bool, true, false, List, [], ◌∷◌, ◌++◌, append_assoc, All, refl, sym, ◌∙◌, ap, subst}
use Rattle.std.specs.Prelude.{◌&&◌, ◌==◌}
use Rattle.std.specs.List.{flat_map, join_by, onto_first}
use Rattle.std.proofs.lemmas.Bool.{eqb-true, eq-eqb}
use Rattle.std.proofs.lemmas.List.Elements.{All-cons, All-head, All-nil, All-tail}
use Rattle.multipart_entities.specs.Lines.{lines_of}
use Rattle.multipart_entities.proofs.LineLemmas.{crlf, lines-cons, lines-end, lines-more, lines-none, lines-one}

abbrev joined : List (List ℕ) → List ℕ
joined lines = join_by (λ line. line) crlf lines

-- ---- joined

joined-end : (line : List ℕ) (lines : List (List ℕ)) → joined ([] ∷ line ∷ lines) ≡ crlf ++ joined (line ∷ lines)
joined-end line lines = append_assoc crlf line (flat_map (λ l. crlf ++ l) lines)

joined-more : (a : ℕ) (line : List ℕ) (lines : List (List ℕ)) → joined (onto_first a (line ∷ lines)) ≡ a ∷ joined (line ∷ lines)
joined-more a line lines = refl

behind-end : (bytes : List ℕ) → joined (lines_of bytes) ≡ bytes → joined ([] ∷ lines_of bytes) ≡ crlf ++ bytes
behind-end bytes e =
    let h = lines-cons bytes in
    ap (λ l. joined ([] ∷ l)) h.2 ∙ (joined-end h.0 h.1 ∙ ap (λ l. crlf ++ l) (ap joined (sym h.2) ∙ e))

behind-more : (a b : ℕ) (bytes : List ℕ) → joined (lines_of (b ∷ bytes)) ≡ b ∷ bytes → joined (onto_first a (lines_of (b ∷ bytes))) ≡ a ∷ b ∷ bytes
behind-more a b bytes e =
    let h = lines-cons (b ∷ bytes) in
    ap (λ l. joined (onto_first a l)) h.2 ∙ (joined-more a h.0 h.1 ∙ ap (λ l. a ∷ l) (ap joined (sym h.2) ∙ e))

-- what the two bytes of an end are
pub end-is : (a b : ℕ) → ((a == 13) && (b == 10)) ≡ true → (a ≡ 13) × (b ≡ 10)
end-is a b e = by (a == 13) refl e
  where
    by : (t : Bool) → (a == 13) ≡ t → (t && (b == 10)) ≡ true → (a ≡ 13) × (b ≡ 10)
    by true p q = (eqb-true a 13 p, eqb-true b 10 q)
    by false p q = absurd (cc q)

joined-by : (a b : ℕ) (bytes : List ℕ) (t : Bool) → ((a == 13) && (b == 10)) ≡ t → joined (lines_of bytes) ≡ bytes → joined (lines_of (b ∷ bytes)) ≡ b ∷ bytes → joined (lines_of (a ∷ b ∷ bytes)) ≡ a ∷ b ∷ bytes
joined-by a b bytes true e f g =
    let h = end-is a b e in
    let same : 13 ∷ 10 ∷ bytes ≡ a ∷ b ∷ bytes = let x : a ≡ 13 = h.0 in let y : b ≡ 10 = h.1 in cc in
    subst (λ l. joined (lines_of l) ≡ l) same (ap joined (lines-end bytes) ∙ behind-end bytes f)
joined-by a b bytes false e f g = ap joined (lines-more a b bytes e) ∙ behind-more a b bytes g

pub lines-joined : (bytes : List ℕ) → joined (lines_of bytes) ≡ bytes
lines-joined [] = ap joined lines-none
lines-joined (a ∷ []) = ap joined (lines-one a)
lines-joined (a ∷ b ∷ bytes) = joined-by a b bytes ((a == 13) && (b == 10)) refl (lines-joined bytes) (lines-joined (b ∷ bytes))

-- ---- apart

-- CR LF stands nowhere in the line
abbrev IsOne : List ℕ → Type 0
IsOne line = (before behind : List ℕ) → line ≢ before ++ 13 ∷ 10 ∷ behind

one-empty : IsOne []
one-empty [] behind e = cc e
one-empty (x ∷ before) behind e = cc e

-- no line but an empty one begins otherwise than the bytes
record BeginsWith (b : ℕ) (line : List ℕ) : Type 0 where
  first : (x : ℕ) (more : List ℕ) → line ≡ x ∷ more → x ≡ b

begins-by : (b c : ℕ) (bytes : List ℕ) (t : Bool) (line : List ℕ) (lines : List (List ℕ)) → ((b == 13) && (c == 10)) ≡ t → lines_of (b ∷ c ∷ bytes) ≡ line ∷ lines → BeginsWith b line
begins-by b c bytes true line lines e f =
    let h = end-is b c e in
    let same : 13 ∷ 10 ∷ bytes ≡ b ∷ c ∷ bytes = let x : b ≡ 13 = h.0 in let y : c ≡ 10 = h.1 in cc in
    let empty : [] ∷ lines_of bytes ≡ line ∷ lines = sym (lines-end bytes) ∙ (ap lines_of same ∙ f) in
    record { first = λ x more g. absurd (cc (empty, g)) }
begins-by b c bytes false line lines e f =
    let h = lines-cons (c ∷ bytes) in
    let same : (b ∷ h.0) ∷ h.1 ≡ line ∷ lines = sym (lines-more b c bytes e ∙ ap (onto_first b) h.2) ∙ f in
    record { first = λ x more g. cc (same, g) }

begins : (b : ℕ) (bytes line : List ℕ) (lines : List (List ℕ)) → lines_of (b ∷ bytes) ≡ line ∷ lines → BeginsWith b line
begins b [] line lines f =
    let same : (b ∷ []) ∷ [] ≡ line ∷ lines = sym (lines-one b) ∙ f in
    record { first = λ x more g. cc (same, g) }
begins b (c ∷ bytes) line lines f = begins-by b c bytes ((b == 13) && (c == 10)) line lines refl f

one-more : (a b : ℕ) (line : List ℕ) → ((a == 13) && (b == 10)) ≡ false → BeginsWith b line → IsOne line → IsOne (a ∷ line)
one-more a b line e f h [] behind g =
    let first : a ≡ 13 = cc g in
    let more : line ≡ 10 ∷ behind = cc g in
    let second : 10 ≡ b = f.first 10 behind more in
    let true_too : ((a == 13) && (b == 10)) ≡ true = rw (eq-eqb a 13 first, eq-eqb b 10 (sym second)) refl in
    cc
one-more a b line e f h (x ∷ before) behind g = h before behind (cc g)

apart-more : (a b : ℕ) (bytes : List ℕ) → ((a == 13) && (b == 10)) ≡ false → All IsOne (lines_of (b ∷ bytes)) → All IsOne (onto_first a (lines_of (b ∷ bytes)))
apart-more a b bytes e h =
    let l = lines-cons (b ∷ bytes) in
    let all : All IsOne (l.0 ∷ l.1) = subst (λ z. All IsOne z) l.2 h in
    subst (λ z. All IsOne z) (sym (ap (onto_first a) l.2))
    (All-cons IsOne (a ∷ l.0) l.1 (one-more a b l.0 e (begins b bytes l.0 l.1 l.2) (All-head IsOne l.0 l.1 all)) (All-tail IsOne l.0 l.1 all))

apart-by : (a b : ℕ) (bytes : List ℕ) (t : Bool) → ((a == 13) && (b == 10)) ≡ t → All IsOne (lines_of bytes) → All IsOne (lines_of (b ∷ bytes)) → All IsOne (lines_of (a ∷ b ∷ bytes))
apart-by a b bytes true e f g =
    let h = end-is a b e in
    let same : 13 ∷ 10 ∷ bytes ≡ a ∷ b ∷ bytes = let x : a ≡ 13 = h.0 in let y : b ≡ 10 = h.1 in cc in
    subst (λ l. All IsOne (lines_of l)) same (subst (λ z. All IsOne z) (sym (lines-end bytes)) (All-cons IsOne [] (lines_of bytes) one-empty f))
apart-by a b bytes false e f g = subst (λ z. All IsOne z) (sym (lines-more a b bytes e)) (apart-more a b bytes e g)

one-byte : (a : ℕ) → IsOne (a ∷ [])
one-byte a [] behind g = cc g
one-byte a (x ∷ before) behind g = one-empty before behind (cc g)

pub lines-apart : (bytes : List ℕ) → All IsOne (lines_of bytes)
lines-apart [] = subst (λ z. All IsOne z) (sym lines-none) (All-cons IsOne [] [] one-empty (All-nil IsOne))
lines-apart (a ∷ []) = subst (λ z. All IsOne z) (sym (lines-one a)) (All-cons IsOne (a ∷ []) [] (one-byte a) (All-nil IsOne))
lines-apart (a ∷ b ∷ bytes) = apart-by a b bytes ((a == 13) && (b == 10)) refl (lines-apart bytes) (lines-apart (b ∷ bytes))
