-- What stands at the front of some bytes, and words in them.
use Rattle.std.proofs.Common.{◌≡◌, ℕ, Bool, true, false, cond, nat_eq, List, [], ◌∷◌, ◌++◌, length, take, drop, Option, Some, None, refl, sym, ◌∙◌, ap}
use Rattle.std.specs.Prelude.{◌&&◌, option_and_then}
use Rattle.std.specs.Cmp.Lexicographic.{pointwise}
use Rattle.std.proofs.lemmas.Bool.{eq-eqb, eqb-true}
use Rattle.multipart_entities.specs.Lines.{begins_with, behind, behind_first}

pub some-same : {A : Type 0} → (a b : A) → Some a ≡ Some b → a ≡ b
some-same a b e = cc e

-- ---- one byte more

cond-and : {A : Type 0} → (s t : Bool) (x : A) → cond (s && t) (Some x) None ≡ cond s (cond t (Some x) None) None
cond-and true t x = refl
cond-and false t x = refl

pub behind-cons : (m b : ℕ) (front bytes : List ℕ) → behind (m ∷ front) (b ∷ bytes) ≡ cond (nat_eq m b) (behind front bytes) None
behind-cons m b front bytes = cond-and (nat_eq m b) (pointwise nat_eq front (take (length front) bytes)) (drop (length front) bytes)

-- ---- what stands behind them is the rest

is-by : (m b : ℕ) (front bytes rest : List ℕ) (t : Bool) → nat_eq m b ≡ t → cond t (behind front bytes) None ≡ Some rest → (behind front bytes ≡ Some rest → bytes ≡ front ++ rest) → b ∷ bytes ≡ m ∷ (front ++ rest)
is-by m b front bytes rest true p e h =
    let q : m ≡ b = eqb-true m b p in
    let r : bytes ≡ front ++ rest = h e in
    cc
is-by m b front bytes rest false p e h = absurd (cc e)

pub behind-is : (front bytes rest : List ℕ) → behind front bytes ≡ Some rest → bytes ≡ front ++ rest
behind-is [] bytes rest e = some-same bytes rest e
behind-is (m ∷ front) [] rest e = absurd (cc e)
behind-is (m ∷ front) (b ∷ bytes) rest e =
    is-by m b front bytes rest (nat_eq m b) refl (sym (behind-cons m b front bytes) ∙ e) (behind-is front bytes rest)

-- ---- a front in two body parts

twice-by : (t : Bool) (a b : Option (List ℕ)) (f : List ℕ → Option (List ℕ)) → a ≡ option_and_then f b → cond t a None ≡ option_and_then f (cond t b None)
twice-by true a b f e = e
twice-by false a b f e = refl

pub behind-append : (front more bytes : List ℕ) → behind (front ++ more) bytes ≡ option_and_then (behind more) (behind front bytes)
behind-append [] more bytes = refl
behind-append (m ∷ front) more [] = refl
behind-append (m ∷ front) more (b ∷ bytes) =
    behind-cons m b (front ++ more) bytes
    ∙ (twice-by (nat_eq m b) (behind (front ++ more) bytes) (behind front bytes) (behind more) (behind-append front more bytes)
    ∙ ap (option_and_then (behind more)) (sym (behind-cons m b front bytes)))

-- ---- the first place of a word

here-by : {A : Type 0} → (t : Bool) (x y : A) (o : Option A) → cond t (Some x) None ≡ Some y → cond t (cond t (Some x) None) o ≡ Some y
here-by true x y o e = e
here-by false x y o e = absurd (cc e)

next-by : {A : Type 0} → (t : Bool) (x : A) (o : Option A) → cond t (Some x) None ≡ None → cond t (cond t (Some x) None) o ≡ o
next-by true x o e = absurd (cc e)
next-by false x o e = refl

pub behind_first-here : (word bytes rest : List ℕ) → behind word bytes ≡ Some rest → behind_first word bytes ≡ Some rest
unfolding behind_first
behind_first-here word [] rest e = e
behind_first-here word (b ∷ bytes) rest e = here-by (begins_with word (b ∷ bytes)) (drop (length word) (b ∷ bytes)) rest (behind_first word bytes) e

pub behind_first-next : (word : List ℕ) (b : ℕ) (bytes : List ℕ) → behind word (b ∷ bytes) ≡ None → behind_first word (b ∷ bytes) ≡ behind_first word bytes
unfolding behind_first
behind_first-next word b bytes e = next-by (begins_with word (b ∷ bytes)) (drop (length word) (b ∷ bytes)) (behind_first word bytes) e

pub behind_first-end : (word : List ℕ) → behind_first word [] ≡ behind word []
unfolding behind_first
behind_first-end word = refl

-- ---- the front is there

pub behind-front : (front rest : List ℕ) → behind front (front ++ rest) ≡ Some rest
behind-front [] rest = refl
behind-front (m ∷ front) rest = behind-cons m m front (front ++ rest) ∙ (ap (λ t. cond t (behind front (front ++ rest)) None) (eq-eqb m m refl) ∙ behind-front front rest)

-- what isn't at the front of the whole isn't at the front of its front
short-by : (t : Bool) (o p : Option (List ℕ)) → (o ≡ None → p ≡ None) → cond t o None ≡ None → cond t p None ≡ None
short-by true o p f e = f e
short-by false o p f e = refl

pub behind-short : (word line more : List ℕ) → behind word (line ++ more) ≡ None → behind word line ≡ None
behind-short [] line more e = absurd (cc e)
behind-short (m ∷ word) [] more e = refl
behind-short (m ∷ word) (b ∷ line) more e =
    behind-cons m b word line
    ∙ short-by (nat_eq m b) (behind word (line ++ more)) (behind word line) (behind-short word line more) (sym (behind-cons m b word (line ++ more)) ∙ e)

-- a word that stands nowhere doesn't stand at the front, nor behind the first byte
nowhere-by : (t : Bool) (x : List ℕ) (o : Option (List ℕ)) → cond t (cond t (Some x) None) o ≡ None → (cond t (Some x) None ≡ None) × (o ≡ None)
nowhere-by true x o e = absurd (cc e)
nowhere-by false x o e = (refl, e)

pub behind_first-nowhere : (word : List ℕ) (b : ℕ) (bytes : List ℕ) → behind_first word (b ∷ bytes) ≡ None → (behind word (b ∷ bytes) ≡ None) × (behind_first word bytes ≡ None)
unfolding behind_first
behind_first-nowhere word b bytes e = nowhere-by (begins_with word (b ∷ bytes)) (drop (length word) (b ∷ bytes)) (behind_first word bytes) e
