-- How a structure is spelled: what is read stands there, and what was spelled is read again.
use Rattle.std.proofs.Common.{◌≡◌, ℕ, ◌<◌, nat_eq, nat_le, Bool, true, false, cond, List, [], ◌∷◌, ◌++◌, length, map, Option, Some, None, ◌⊎◌, inl, inr, refl, sym, ap, subst, ◌∙◌, arith, length-append}
use Rattle.std.specs.Prelude.{◌≢◌, ◌&&◌, ◌||◌, All}
use Rattle.std.specs.Str.{byte}
use Rattle.std.proofs.lemmas.Bool.{eqb-true, and_parts, and_from, or_cases, leb-true, le-leb}
use Rattle.std.proofs.lemmas.List.{append-nil, append_assoc}
use Rattle.std.proofs.lemmas.List.Elements.{All-nil, All-head, All-tail, All-push}
use Rattle.std.proofs.lemmas.Option.{same_Some, cond_some, none-some, some_pair_parts}
use Rattle.bml_bytes.specs.Fields.{◌>>=◌, byte_at}
use Rattle.bml_bytes.specs.Numerals.{decimal_digits}
use Rattle.persistent_arrays.specs.declared.kinds.FieldKind.{FieldKind}
use Rattle.persistent_arrays.specs.declared.kinds.FieldKind.TheVariants.{Bit, Unsigned, Signed, Fixed, Varying}
use Rattle.persistent_arrays.specs.Structures.{IsKind, IsStructure, Spells, spelling, with_commas}
use Rattle.persistent_arrays.specs.devices.Spelling.{has_letters, is_number_size, kind_at, kind_with, numeral_at, size_at}
use Rattle.persistent_arrays.proofs.NumeralLemmas.{ends_number, digits-one, numeral-again, numeral-parts}

-- the letter, the size and the unit of a spelled field
abbrev letter_of : FieldKind → ℕ
letter_of Bit = 66
letter_of (Unsigned size) = 85
letter_of (Signed size) = 73
letter_of (Fixed size) = 83
letter_of Varying = 83

abbrev size_of : FieldKind → ℕ
size_of Bit = 1
size_of (Unsigned size) = size
size_of (Signed size) = size
size_of (Fixed size) = size
size_of Varying = 1

abbrev unit_of : FieldKind → ℕ
unit_of Bit = 98
unit_of (Unsigned size) = 66
unit_of (Signed size) = 66
unit_of (Fixed size) = 66
unit_of Varying = 86

abbrev parts_of : ℕ → ℕ → ℕ → List ℕ
parts_of letter size unit = letter ∷ 58 ∷ (decimal_digits size ++ unit ∷ [])

spelling-parts : (kind : FieldKind) → spelling kind ≡ parts_of (letter_of kind) (size_of kind) (unit_of kind)
spelling-parts Bit = ap (λ (d : List ℕ). 66 ∷ 58 ∷ (d ++ 98 ∷ [])) (sym (digits-one 1 (omega arith)))
spelling-parts (Unsigned size) = refl
spelling-parts (Signed size) = refl
spelling-parts (Fixed size) = refl
spelling-parts Varying = ap (λ (d : List ℕ). 83 ∷ 58 ∷ (d ++ 86 ∷ [])) (sym (digits-one 1 (omega arith)))

number_size : (size : ℕ) → is_number_size size ≡ true → (size ≡ 1) ⊎ ((size ≡ 2) ⊎ (size ≡ 4))
number_size size e = by (or_cases (nat_eq size 1) (nat_eq size 2 || nat_eq size 4) e)
  where
    rest : (nat_eq size 2 ≡ true) ⊎ (nat_eq size 4 ≡ true) → (size ≡ 1) ⊎ ((size ≡ 2) ⊎ (size ≡ 4))
    rest (inl two) = inr (inl (eqb-true size 2 two))
    rest (inr four) = inr (inr (eqb-true size 4 four))

    by : (nat_eq size 1 ≡ true) ⊎ ((nat_eq size 2 || nat_eq size 4) ≡ true) → (size ≡ 1) ⊎ ((size ≡ 2) ⊎ (size ≡ 4))
    by (inl one) = inl (eqb-true size 1 one)
    by (inr other) = rest (or_cases (nat_eq size 2) (nat_eq size 4) other)

is_size : (size : ℕ) → (size ≡ 1) ⊎ ((size ≡ 2) ⊎ (size ≡ 4)) → is_number_size size ≡ true
is_size size (inl one) = ap is_number_size one
is_size size (inr (inl two)) = ap is_number_size two
is_size size (inr (inr four)) = ap is_number_size four

-- a field with this letter, size and unit
record IsWith (letter size unit : ℕ) (kind : FieldKind) : Type 0 where
  sizes : IsKind kind
  parts : spelling kind ≡ parts_of letter size unit

with_parts : (letter size unit : ℕ) (kind : FieldKind) → letter ≡ letter_of kind → size ≡ size_of kind → unit ≡ unit_of kind → IsKind kind → IsWith letter size unit kind
with_parts letter size unit kind l s u is = record { sizes = is; parts = rw (l, s, u) (spelling-parts kind) }

kind_with-parts : (letter size unit : ℕ) (kind : FieldKind) → kind_with letter size unit ≡ Some kind → IsWith letter size unit kind
unfolding kind_with
kind_with-parts letter size unit kind e =
    bit (has_letters letter unit 66 98) (has_letters letter unit 85 66) (has_letters letter unit 73 66) (has_letters letter unit 83 66) (has_letters letter unit 83 86) refl refl refl refl refl e
  where
    letters : (first last : ℕ) → has_letters letter unit first last ≡ true → (letter ≡ first) × (unit ≡ last)
    letters first last e = let parts = and_parts (nat_eq letter first) (nat_eq unit last) e in (eqb-true letter first parts.0, eqb-true unit last parts.1)

    is : (made : FieldKind) → made ≡ kind → IsWith letter size unit made → IsWith letter size unit kind
    is made e h = subst (IsWith letter size unit) e h

    bit : (b u i s v : Bool) → has_letters letter unit 66 98 ≡ b → has_letters letter unit 85 66 ≡ u → has_letters letter unit 73 66 ≡ i → has_letters letter unit 83 66 ≡ s → has_letters letter unit 83 86 ≡ v
        → cond b (cond (nat_eq size 1) (Some Bit) None) (cond u (cond (is_number_size size) (Some (Unsigned size)) None) (cond i (cond (is_number_size size) (Some (Signed size)) None) (cond s (cond (nat_le 1 size && nat_le size 64) (Some (Fixed size)) None) (cond v (cond (nat_eq size 1) (Some Varying) None) None)))) ≡ Some kind
        → IsWith letter size unit kind
    bit true u i s v eb eu ei es ev e =
        let l = letters 66 98 eb in
        let g = cond_some (nat_eq size 1) Bit kind e in
        is Bit g.1 (with_parts letter size unit Bit l.0 (eqb-true size 1 g.0) l.1 tt)
    bit false true i s v eb eu ei es ev e =
        let l = letters 85 66 eu in
        let g = cond_some (is_number_size size) (Unsigned size) kind e in
        is (Unsigned size) g.1 (with_parts letter size unit (Unsigned size) l.0 refl l.1 (number_size size g.0))
    bit false false true s v eb eu ei es ev e =
        let l = letters 73 66 ei in
        let g = cond_some (is_number_size size) (Signed size) kind e in
        is (Signed size) g.1 (with_parts letter size unit (Signed size) l.0 refl l.1 (number_size size g.0))
    bit false false false true v eb eu ei es ev e =
        let l = letters 83 66 es in
        let g = cond_some (nat_le 1 size && nat_le size 64) (Fixed size) kind e in
        let t = and_parts (nat_le 1 size) (nat_le size 64) g.0 in
        is (Fixed size) g.1 (with_parts letter size unit (Fixed size) l.0 refl l.1 (leb-true 1 size t.0, leb-true size 64 t.1))
    bit false false false false true eb eu ei es ev e =
        let l = letters 83 86 ev in
        let g = cond_some (nat_eq size 1) Varying kind e in
        is Varying g.1 (with_parts letter size unit Varying l.0 (eqb-true size 1 g.0) l.1 tt)
    bit false false false false false eb eu ei es ev e = absurd cc

kind_with-again : (kind : FieldKind) → IsKind kind → kind_with (letter_of kind) (size_of kind) (unit_of kind) ≡ Some kind
unfolding kind_with
kind_with-again Bit is = refl
kind_with-again (Unsigned size) is = ap (λ (t : Bool). cond t (Some (Unsigned size)) None) (is_size size is)
kind_with-again (Signed size) is = ap (λ (t : Bool). cond t (Some (Signed size)) None) (is_size size is)
kind_with-again (Fixed size) is = ap (λ (t : Bool). cond t (Some (Fixed size)) None) (and_from (nat_le 1 size) (nat_le size 64) (le-leb 1 size is.0) (le-leb size 64 is.1))
kind_with-again Varying is = refl

pub small_number : (size : ℕ) → (size ≡ 1) ⊎ ((size ≡ 2) ⊎ (size ≡ 4)) → size < 100
small_number size (inl one) = omega arith
small_number size (inr (inl two)) = omega arith
small_number size (inr (inr four)) = omega arith

small_size : (kind : FieldKind) → IsKind kind → size_of kind < 100
small_size Bit is = omega arith
small_size (Unsigned size) is = small_number size is
small_size (Signed size) is = small_number size is
small_size (Fixed size) is = let most = is.1 in omega arith
small_size Varying is = omega arith

unit_ends : (kind : FieldKind) (rest : List ℕ) → ends_number (unit_of kind ∷ rest) ≡ true
unit_ends Bit rest = refl
unit_ends (Unsigned size) rest = refl
unit_ends (Signed size) rest = refl
unit_ends (Fixed size) rest = refl
unit_ends Varying rest = refl

bind_some : {A B : Type 0} (read : Option A) (go : A → Option B) (b : B) → (read >>= go) ≡ Some b → (a : A) × (read ≡ Some a) × (go a ≡ Some b)
bind_some None go b e = absurd cc
bind_some (Some a) go b e = (a, refl, e)

byte_at-parts : (bytes : List ℕ) (read : ℕ × List ℕ) → byte_at bytes ≡ Some read → bytes ≡ read.0 ∷ read.1
byte_at-parts [] read e = absurd cc
byte_at-parts (byte ∷ bytes) read e = ap (λ (y : ℕ × List ℕ). y.0 ∷ y.1) (same_Some (byte, bytes) read e)

-- a field was read from the front of the codes
pub record IsSpelled (codes : List ℕ) (kind : FieldKind) (behind : List ℕ) : Type 0 where
  pub sizes : IsKind kind
  pub written : codes ≡ spelling kind ++ behind

size_at-parts : (codes : List ℕ) (read : ℕ × List ℕ) → size_at codes ≡ Some read → codes ≡ 58 ∷ (decimal_digits read.0 ++ read.1)
unfolding size_at
size_at-parts codes read e =
    let colon = bind_some (byte_at codes) _ read e in
    let size = bind_some (numeral_at colon.0.1) _ read colon.2 in
    let last = cond_some (nat_eq colon.0.0 58) size.0 read size.2 in
    let number : colon.0.1 ≡ decimal_digits size.0.0 ++ size.0.1 = (numeral-parts colon.0.1 size.0 size.1).written in
    byte_at-parts codes colon.0 colon.1 ∙ ap (λ (c : ℕ). c ∷ colon.0.1) (eqb-true colon.0.0 58 last.0) ∙ ap (λ (r : List ℕ). 58 ∷ r) number
    ∙ ap (λ (r : ℕ × List ℕ). 58 ∷ (decimal_digits r.0 ++ r.1)) last.1

pub kind_at-parts : (codes : List ℕ) (read : FieldKind × List ℕ) → kind_at codes ≡ Some read → IsSpelled codes read.0 read.1
unfolding kind_at
kind_at-parts codes read e =
    let letter = bind_some (byte_at codes) _ read e in
    let size = bind_some (size_at letter.0.1) _ read letter.2 in
    let unit = bind_some (byte_at size.0.1) _ read size.2 in
    let kind = bind_some (kind_with letter.0.0 size.0.0 unit.0.0) _ read unit.2 in
    let made : FieldKind × List ℕ = (kind.0, unit.0.1) in
    let is = kind_with-parts letter.0.0 size.0.0 unit.0.0 kind.0 kind.1 in
    let behind_size : size.0.1 ≡ unit.0.0 ∷ unit.0.1 = byte_at-parts size.0.1 unit.0 unit.1 in
    let behind_letter : letter.0.1 ≡ 58 ∷ (decimal_digits size.0.0 ++ (unit.0.0 ∷ unit.0.1)) = size_at-parts letter.0.1 size.0 size.1 ∙ ap (λ (r : List ℕ). 58 ∷ (decimal_digits size.0.0 ++ r)) behind_size in
    let whole : codes ≡ letter.0.0 ∷ 58 ∷ (decimal_digits size.0.0 ++ (unit.0.0 ∷ unit.0.1)) = byte_at-parts codes letter.0 letter.1 ∙ ap (λ (r : List ℕ). letter.0.0 ∷ r) behind_letter in
    let joined : spelling kind.0 ++ unit.0.1 ≡ letter.0.0 ∷ 58 ∷ (decimal_digits size.0.0 ++ (unit.0.0 ∷ unit.0.1)) =
    ap (λ (s : List ℕ). s ++ unit.0.1) is.parts ∙ ap (λ (r : List ℕ). letter.0.0 ∷ 58 ∷ r) (append_assoc (decimal_digits size.0.0) (unit.0.0 ∷ []) unit.0.1) in
    subst (λ (r : FieldKind × List ℕ). IsSpelled codes r.0 r.1) (same_Some made read kind.2) (record { sizes = is.sizes; written = whole ∙ sym joined })

pub kind_at-again : (kind : FieldKind) (rest : List ℕ) → IsKind kind → kind_at (spelling kind ++ rest) ≡ Some (kind, rest)
unfolding kind_at size_at
kind_at-again kind rest is =
    let joined : spelling kind ++ rest ≡ letter_of kind ∷ 58 ∷ (decimal_digits (size_of kind) ++ (unit_of kind ∷ rest)) =
    ap (λ (s : List ℕ). s ++ rest) (spelling-parts kind) ∙ ap (λ (r : List ℕ). letter_of kind ∷ 58 ∷ r) (append_assoc (decimal_digits (size_of kind)) (unit_of kind ∷ []) rest) in
    let number = numeral-again (size_of kind) (unit_of kind ∷ rest) (small_size kind is) (unit_ends kind rest) in
    ap kind_at joined ∙ rw (number, kind_with-again kind is) refl

-- what stands behind the first field of a structure
abbrev rest_of : List FieldKind → List ℕ
rest_of [] = []
rest_of (kind ∷ kinds) = 44 ∷ with_commas (map spelling (kind ∷ kinds))

first-rest : (kind : FieldKind) (kinds : List FieldKind) → with_commas (map spelling (kind ∷ kinds)) ≡ spelling kind ++ rest_of kinds
first-rest kind [] = sym (append-nil (spelling kind))
first-rest kind (next ∷ kinds) = append_assoc (spelling kind) (44 ∷ []) (with_commas (map spelling (next ∷ kinds)))

first-read : (text : List ℕ) (kind : FieldKind) (kinds : List FieldKind) → IsKind kind → text ≡ with_commas (map spelling (kind ∷ kinds)) → kind_at text ≡ Some (kind, rest_of kinds)
first-read text kind kinds is e = ap kind_at (e ∙ first-rest kind kinds) ∙ kind_at-again kind (rest_of kinds) is

same_first : (kind other : FieldKind) (behind rest : List ℕ) → ◌≡◌ {A = Option (FieldKind × List ℕ)} (Some (kind, behind)) (Some (other, rest)) → (kind ≡ other) × (behind ≡ rest)
same_first kind other behind rest e = some_pair_parts kind other behind rest e

no_comma : (code : ℕ) (codes : List ℕ) → code ∷ codes ≡ [] → ⊥
no_comma code codes e = absurd cc

same_tail : (code other : ℕ) (codes others : List ℕ) → code ∷ codes ≡ other ∷ others → (code ≡ other) × (codes ≡ others)
same_tail code other codes others e = (cc, cc)

no_kinds : (kind : FieldKind) (kinds : List FieldKind) → kind ∷ kinds ≢ []
no_kinds kind kinds e = absurd cc

same_heads : (kind other : FieldKind) (kinds others : List FieldKind) → IsKind kind → IsKind other → with_commas (map spelling (kind ∷ kinds)) ≡ with_commas (map spelling (other ∷ others)) → (kind ≡ other) × (rest_of kinds ≡ rest_of others)
same_heads kind other kinds others h g e =
    same_first kind other (rest_of kinds) (rest_of others) (sym (first-read (with_commas (map spelling (kind ∷ kinds))) kind kinds h refl) ∙ first-read (with_commas (map spelling (kind ∷ kinds))) other others g e)

-- a text spells at most one structure
spelled-once : (kinds others : List FieldKind) → All IsKind kinds → All IsKind others → kinds ≢ [] → others ≢ [] → with_commas (map spelling kinds) ≡ with_commas (map spelling others) → kinds ≡ others
spelled-once [] others h g some more e = absurd (some refl)
spelled-once (kind ∷ kinds) [] h g some more e = absurd (more refl)
spelled-once (kind ∷ []) (other ∷ []) h g some more e =
    let same = same_heads kind other [] [] (All-head IsKind kind [] h) (All-head IsKind other [] g) e in
    ap (λ (k : FieldKind). k ∷ []) same.0
spelled-once (kind ∷ []) (other ∷ second ∷ others) h g some more e =
    let same = same_heads kind other [] (second ∷ others) (All-head IsKind kind [] h) (All-head IsKind other (second ∷ others) g) e in
    absurd (no_comma 44 (with_commas (map spelling (second ∷ others))) (sym same.1))
spelled-once (kind ∷ next ∷ kinds) (other ∷ []) h g some more e =
    let same = same_heads kind other (next ∷ kinds) [] (All-head IsKind kind (next ∷ kinds) h) (All-head IsKind other [] g) e in
    absurd (no_comma 44 (with_commas (map spelling (next ∷ kinds))) same.1)
spelled-once (kind ∷ next ∷ kinds) (other ∷ second ∷ others) h g some more e =
    let same = same_heads kind other (next ∷ kinds) (second ∷ others) (All-head IsKind kind (next ∷ kinds) h) (All-head IsKind other (second ∷ others) g) e in
    let tails = same_tail 44 44 (with_commas (map spelling (next ∷ kinds))) (with_commas (map spelling (second ∷ others))) same.1 in
    let rest = spelled-once (next ∷ kinds) (second ∷ others) (All-tail IsKind kind (next ∷ kinds) h) (All-tail IsKind other (second ∷ others) g) (no_kinds next kinds) (no_kinds second others) tails.1 in
    ap (λ (k : FieldKind). k ∷ next ∷ kinds) same.0 ∙ ap (λ (r : List FieldKind). other ∷ r) rest

pub spells-once : (text : List ℕ) (kinds others : List FieldKind) → Spells text kinds → Spells text others → kinds ≡ others
spells-once text kinds others h g = spelled-once kinds others h.sizes g.sizes h.some g.some (sym h.written ∙ g.written)

-- the fields that were read so far, and what is left of the text
pub record SpellsSoFar (text : List ℕ) (kinds : List FieldKind) (left : List ℕ) : Type 0 where
  pub sizes : All IsKind kinds
  pub on : (more : List FieldKind) → more ≢ [] → left ≡ with_commas (map spelling more) → text ≡ with_commas (map spelling (kinds ++ more))
  pub back : (all : List FieldKind) → Spells text all → (more : List FieldKind) × Spells left more

pub spells-first : (text : List ℕ) → SpellsSoFar text [] text
spells-first text = record { sizes = All-nil IsKind; on = λ more some e. e; back = λ all h. (all, h) }

pub spells-more : (text : List ℕ) (kinds : List FieldKind) (left : List ℕ) (kind : FieldKind) (next : List ℕ) → SpellsSoFar text kinds left → kind_at left ≡ Some (kind, 44 ∷ next) → SpellsSoFar text (kinds ++ kind ∷ []) next
spells-more text kinds left kind next so_far read =
    let is = kind_at-parts left (kind, 44 ∷ next) read in
    record { sizes = All-push IsKind kinds kind so_far.sizes is.sizes; on = on; back = λ all h. (let more = so_far.back all h in back more.0 more.1) }
  where
    on : (more : List FieldKind) → more ≢ [] → next ≡ with_commas (map spelling more) → text ≡ with_commas (map spelling ((kinds ++ kind ∷ []) ++ more))
    on [] some e = absurd (some refl)
    on (first ∷ more) some e =
        let whole : left ≡ with_commas (map spelling (kind ∷ first ∷ more)) = (kind_at-parts left (kind, 44 ∷ next) read).written ∙ ap (λ (n : List ℕ). spelling kind ++ 44 ∷ n) e ∙ sym (first-rest kind (first ∷ more)) in
        so_far.on (kind ∷ first ∷ more) (no_kinds kind (first ∷ more)) whole ∙ ap (λ (all : List FieldKind). with_commas (map spelling all)) (sym (append_assoc kinds (kind ∷ []) (first ∷ more)))

    back : (more : List FieldKind) → Spells left more → (others : List FieldKind) × Spells next others
    back [] h = absurd (h.some refl)
    back (first ∷ []) h =
        absurd (no_comma 44 next (same_first kind first (44 ∷ next) [] (sym read ∙ first-read left first [] (All-head IsKind first [] h.sizes) h.written)).1)
    back (first ∷ second ∷ more) h =
        let same = same_first kind first (44 ∷ next) (44 ∷ with_commas (map spelling (second ∷ more))) (sym read ∙ first-read left first (second ∷ more) (All-head IsKind first (second ∷ more) h.sizes) h.written) in
        let tails = same_tail 44 44 next (with_commas (map spelling (second ∷ more))) same.1 in
        (second ∷ more, record { some = no_kinds second more; sizes = All-tail IsKind first (second ∷ more) h.sizes; written = tails.1 })

pub spells-last : (text : List ℕ) (kinds : List FieldKind) (left : List ℕ) (kind : FieldKind) → SpellsSoFar text kinds left → kind_at left ≡ Some (kind, []) → Spells text (kinds ++ kind ∷ [])
spells-last text kinds left kind so_far read =
    let is = kind_at-parts left (kind, []) read in
    record {
      some = λ e. absurd (let l = length-append kinds (kind ∷ []) in let none = ap (length {A = FieldKind}) e in omega arith);
      sizes = All-push IsKind kinds kind so_far.sizes is.sizes;
      written = so_far.on (kind ∷ []) (no_kinds kind []) (is.written ∙ append-nil (spelling kind));
    }

-- nothing is spelled where a field isn't read, or something else than a comma stands behind one
pub spells-none : (text : List ℕ) (kinds : List FieldKind) (left : List ℕ) → SpellsSoFar text kinds left → kind_at left ≡ None → (all : List FieldKind) → Spells text all → ⊥
spells-none text kinds left so_far read all h = let more = so_far.back all h in no_more more.0 more.1
  where
    no_more : (more : List FieldKind) → Spells left more → ⊥
    no_more [] h = h.some refl
    no_more (first ∷ more) h = absurd (none-some {A = FieldKind × List ℕ} (first, rest_of more) (sym read ∙ first-read left first more (All-head IsKind first more h.sizes) h.written))

pub spells-other : (text : List ℕ) (kinds : List FieldKind) (left : List ℕ) (kind : FieldKind) (code : ℕ) (next : List ℕ) → SpellsSoFar text kinds left → kind_at left ≡ Some (kind, code ∷ next) → (code ≡ 44 → ⊥) → (all : List FieldKind) → Spells text all → ⊥
spells-other text kinds left kind code next so_far read other all h = let more = so_far.back all h in none more.0 more.1
  where
    none : (more : List FieldKind) → Spells left more → ⊥
    none [] h = h.some refl
    none (first ∷ []) h =
        absurd (no_comma code next (same_first kind first (code ∷ next) [] (sym read ∙ first-read left first [] (All-head IsKind first [] h.sizes) h.written)).1)
    none (first ∷ second ∷ more) h =
        let same = same_first kind first (code ∷ next) (44 ∷ with_commas (map spelling (second ∷ more))) (sym read ∙ first-read left first (second ∷ more) (All-head IsKind first (second ∷ more) h.sizes) h.written) in
        other (same_tail code 44 next (with_commas (map spelling (second ∷ more))) same.1).0

pub shorter : (left : List ℕ) (kind : FieldKind) (code : ℕ) (next : List ℕ) → kind_at left ≡ Some (kind, code ∷ next) → length next < length left
shorter left kind code next read =
    let is = kind_at-parts left (kind, code ∷ next) read in
    let l = length-append (spelling kind) (code ∷ next) in
    let whole = ap (length {A = ℕ}) is.written in
    omega arith

-- what the reader has, once it has taken one more field
abbrev IsFirst : List ℕ → FieldKind → List ℕ → Type 0
IsFirst left kind behind = ◌≡◌ {A = Option (FieldKind × List ℕ)} (Some (kind, behind)) (kind_at left)

abbrev IsNext : List ℕ → ℕ → List ℕ → Type 0
IsNext behind code next = ◌≡◌ {A = Option (ℕ × List ℕ)} (Some (code, next)) (byte_at behind)

split_next : (behind : List ℕ) (code : ℕ) (next : List ℕ) → IsNext behind code next → behind ≡ code ∷ next
split_next [] code next e = absurd cc
split_next (first ∷ rest) code next e = let same = some_pair_parts code first next rest e in sym (ap (λ (c : ℕ). c ∷ next) same.0 ∙ ap (λ (r : List ℕ). first ∷ r) same.1)

read_next : (left : List ℕ) (kind : FieldKind) (behind : List ℕ) (code : ℕ) (next : List ℕ) → IsFirst left kind behind → IsNext behind code next → kind_at left ≡ Some (kind, code ∷ next)
read_next left kind behind code next read n = sym read ∙ ap (λ (b : List ℕ). Some (kind, b)) (split_next behind code next n)

module _ (text : List ℕ) (kinds items : List FieldKind) (left : List ℕ) (kind : FieldKind) (behind : List ℕ) (so_far : SpellsSoFar text kinds left) (read : IsFirst left kind behind) (pushed : items ≡ kinds ++ kind ∷ []) where
  pub last-pushed : ◌≡◌ {A = Option (ℕ × List ℕ)} None (byte_at behind) → Spells text items
  last-pushed n = subst (Spells text) (sym pushed) (spells-last text kinds left kind so_far (sym read ∙ ap (λ (b : List ℕ). Some (kind, b)) (none_left behind n)))
    where
      none_left : (bytes : List ℕ) → ◌≡◌ {A = Option (ℕ × List ℕ)} None (byte_at bytes) → bytes ≡ []
      none_left [] e = refl
      none_left (byte ∷ bytes) e = absurd cc

  pub structure-pushed : ◌≡◌ {A = Option (ℕ × List ℕ)} None (byte_at behind) → IsStructure items
  structure-pushed n = let spelled = last-pushed n in record { some = spelled.some; sizes = spelled.sizes }

  pub next-pushed : (code : ℕ) (next : List ℕ) → IsNext behind code next → code ≡ 44 → SpellsSoFar text items next
  next-pushed code next n e =
      subst (λ (all : List FieldKind). SpellsSoFar text all next) (sym pushed)
      (spells-more text kinds left kind next so_far (read_next left kind behind code next read n ∙ ap (λ (c : ℕ). Some (kind, c ∷ next)) e))

  pub other-pushed : (code : ℕ) (next : List ℕ) → IsNext behind code next → (code ≡ 44 → ⊥) → (all : List FieldKind) → Spells text all → ⊥
  other-pushed code next n other = spells-other text kinds left kind code next so_far (read_next left kind behind code next read n) other

pub shorter-next : (left : List ℕ) (kind : FieldKind) (behind : List ℕ) (code : ℕ) (next : List ℕ) → IsFirst left kind behind → IsNext behind code next → length next < length left
shorter-next left kind behind code next read n = shorter left kind code next (read_next left kind behind code next read n)
