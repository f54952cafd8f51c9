-- Header lines, and heads.
use Rattle.std.proofs.Common.{◌≡◌, ℕ, ◌+◌, ◌<◌, Bool, true, false, cond, List, [], ◌∷◌, length, Option, Some, None, Bor, refl, sym, ◌∙◌, ap, arith}
use Rattle.std.specs.Prelude.{◌&&◌, not, find, option_map, option_and_then, codes as ascii}
use Rattle.std.specs.Option.{option_copied, option_or}
use Rattle.std.specs.List.{before_first, list_any, position_or_len}
use Rattle.std.proofs.lemmas.Cmp.{nat_eq_equiv}
use Rattle.multipart_entities.specs.Lines.{begins_with, lines_of}
use Rattle.multipart_entities.specs.Heads.{Head, has_name, head_in, header, is_colon, is_good, is_header, value_in, with_line}
use Rattle.multipart_entities.specs.HeadViews.{HeaderSeen, HeadValues, good_head, header_in, head_values, values_if_good, value_for, with_header}
use Rattle.multipart_entities.proofs.LineLemmas.{lines-cons}
use Rattle.multipart_entities.proofs.PlaceLemmas.{any-first, any-none}

-- ---- one header line

abbrev pub header_of : List ℕ → HeaderSeen
header_of line = record { name = before_first is_colon line; value = value_in line }

colon-front : (x : ℕ) (line : List ℕ) → is_colon x ≡ false → begins_with (ascii ":") (x ∷ line) ≡ false
colon-front x line e = rw (nat_eq_equiv.symm 58 x, e) refl

front-by : (x : ℕ) (line : List ℕ) (t : Bool) → is_colon x ≡ t → 0 < cond (not t) (1 + position_or_len is_colon line) 0 → begins_with (ascii ":") (x ∷ line) ≡ false
front-by x line true e h = absurd (omega arith)
front-by x line false e h = colon-front x line e

behind-front : (line : List ℕ) → 0 < position_or_len is_colon line → begins_with (ascii ":") line ≡ false
behind-front [] h = absurd (omega arith)
behind-front (x ∷ line) h = front-by x line (is_colon x) refl h

pub header-none : (line : List ℕ) → position_or_len is_colon line ≡ length line → header_in line ≡ None
header-none line e = let none : list_any is_colon line ≡ false = any-none is_colon line e in rw none refl

first-by : (x : ℕ) (line : List ℕ) (t : Bool) → is_colon x ≡ t → cond (not t) (1 + position_or_len is_colon line) 0 ≡ 0 → begins_with (ascii ":") (x ∷ line) ≡ true
first-by x line true e h = rw (nat_eq_equiv.symm 58 x, e) refl
first-by x line false e h = absurd (omega (arith, h))

nothing-by : (a : Bool) → (a && false) ≡ false
nothing-by true = refl
nothing-by false = refl

pub header-front : (line : List ℕ) → position_or_len is_colon line ≡ 0 → header_in line ≡ None
header-front [] e = refl
header-front (x ∷ line) e =
    let front : begins_with (ascii ":") (x ∷ line) ≡ true = first-by x line (is_colon x) refl e in
    ap (λ b. cond b (Some (header_of (x ∷ line))) None) (ap (λ b. list_any is_colon (x ∷ line) && not b) front ∙ nothing-by (list_any is_colon (x ∷ line)))

pub header-some : (line : List ℕ) → 0 < position_or_len is_colon line → position_or_len is_colon line < length line → header_in line ≡ Some (header_of line)
header-some line h k =
    let some : list_any is_colon line ≡ true = any-first is_colon line k in
    let front : begins_with (ascii ":") line ≡ false = behind-front line h in
    rw (some, front) refl

pub header-same : (n m v w : List ℕ) → n ≡ m → v ≡ w → (let first : HeaderSeen = record { name = n; value = v } in first) ≡ record { name = m; value = w }
header-same n m v w p q = λ i. record { name = p i; value = q i }

-- ---- what is kept

pub copied-or : (a b : Option (Bor (List ℕ))) → option_copied (option_or a b) ≡ option_or (option_copied a) (option_copied b)
copied-or None b = refl
copied-or (Some x) b = refl

pub head_values-same : (n : ℕ) (a b d x y z : Option (List ℕ)) → a ≡ x → b ≡ y → d ≡ z
    → (let first : HeadValues = record { size = n; media = a; encoding = b; location = d } in first) ≡ record { size = n; media = x; encoding = y; location = z }
head_values-same n a b d x y z p q r = λ i. record { size = n; media = p i; encoding = q i; location = r i }

-- a head behind another, of which the first header of each name counts
abbrev pub onto : HeadValues → HeadValues → HeadValues
onto head more = record { size = head.size + more.size; media = option_or head.media more.media; encoding = option_or head.encoding more.encoding; location = option_or head.location more.location }

abbrev pub of_size : ℕ → HeadValues → HeadValues
of_size n head = record { size = n; media = head.media; encoding = head.encoding; location = head.location }

-- a head of one line
abbrev pub kept_line : ℕ → HeaderSeen → HeadValues
kept_line n h = record { size = n + 2; media = value_for (ascii "Content-Type") h; encoding = value_for (ascii "Content-Transfer-Encoding") h; location = value_for (ascii "Content-Location") h }

abbrev pub kept_none : ℕ → HeadValues
kept_none n = record { size = n; media = None; encoding = None; location = None }

or-none : (a : Option (List ℕ)) → option_or a None ≡ a
or-none None = refl
or-none (Some x) = refl

or-assoc : (a b d : Option (List ℕ)) → option_or (option_or a b) d ≡ option_or a (option_or b d)
or-assoc None b d = refl
or-assoc (Some x) b d = refl

size-same : (n m : ℕ) (a b d : Option (List ℕ)) → n ≡ m → (let first : HeadValues = record { size = n; media = a; encoding = b; location = d } in first) ≡ record { size = m; media = a; encoding = b; location = d }
size-same n m a b d e = λ i. record { size = e i; media = a; encoding = b; location = d }

onto-last : (head : HeadValues) (n : ℕ) → n ≡ head.size + 2 → onto head (kept_none 2) ≡ of_size n head
onto-last head n e =
    head_values-same (head.size + 2) (option_or head.media None) (option_or head.encoding None) (option_or head.location None) head.media head.encoding head.location (or-none head.media) (or-none head.encoding) (or-none head.location)
    ∙ size-same (head.size + 2) n head.media head.encoding head.location (sym e)

-- one header more, and then the rest
onto-more : (head : HeadValues) (n size : ℕ) (h : HeaderSeen) (k : HeadValues) → size ≡ head.size + (n + 2)
    → onto head (onto (kept_line n h) k) ≡ onto (with_header (of_size size head) h) k
onto-more head n size h k e =
    let p : head.size + ((n + 2) + k.size) ≡ size + k.size = omega (arith, e) in
    let media = value_for (ascii "Content-Type") h in
    let encoding = value_for (ascii "Content-Transfer-Encoding") h in
    let location = value_for (ascii "Content-Location") h in
    size-same (head.size + ((n + 2) + k.size)) (size + k.size) (option_or head.media (option_or media k.media)) (option_or head.encoding (option_or encoding k.encoding)) (option_or head.location (option_or location k.location)) p
    ∙ sym (head_values-same (size + k.size) (option_or (option_or head.media media) k.media) (option_or (option_or head.encoding encoding) k.encoding) (option_or (option_or head.location location) k.location)
    (option_or head.media (option_or media k.media)) (option_or head.encoding (option_or encoding k.encoding)) (option_or head.location (option_or location k.location))
    (or-assoc head.media media k.media) (or-assoc head.encoding encoding k.encoding) (or-assoc head.location location k.location))

-- ---- a head, line by line

abbrev good_of : List (List ℕ) → Option HeadValues
good_of lines = option_and_then values_if_good (head_in lines)

header-by : (t : Bool) (line : List ℕ) (o : Option (List ℕ)) → option_map value_in (cond t (Some line) o) ≡ option_or (cond t (Some (value_in line)) None) (option_map value_in o)
header-by true line o = refl
header-by false line o = refl

header-cons : (name line : List ℕ) (lines : List (List ℕ)) → header name (line ∷ lines) ≡ option_or (value_for name (header_of line)) (header name lines)
unfolding header
header-cons name line lines = header-by (has_name name line) line (find (has_name name) lines)

header-nil : (name : List ℕ) → header name [] ≡ None
unfolding header
header-nil name = refl

head_values-cons : (line : List ℕ) (head : Head) → head_values (with_line line head) ≡ onto (kept_line (length line) (header_of line)) (head_values head)
head_values-cons line head =
    head_values-same (length line + 2 + head.size) (header (ascii "Content-Type") (line ∷ head.lines)) (header (ascii "Content-Transfer-Encoding") (line ∷ head.lines)) (header (ascii "Content-Location") (line ∷ head.lines))
    (option_or (value_for (ascii "Content-Type") (header_of line)) (header (ascii "Content-Type") head.lines))
    (option_or (value_for (ascii "Content-Transfer-Encoding") (header_of line)) (header (ascii "Content-Transfer-Encoding") head.lines))
    (option_or (value_for (ascii "Content-Location") (header_of line)) (header (ascii "Content-Location") head.lines))
    (header-cons (ascii "Content-Type") line head.lines) (header-cons (ascii "Content-Transfer-Encoding") line head.lines) (header-cons (ascii "Content-Location") line head.lines)

good-by : (s t : Bool) (k m : HeadValues) (h : HeaderSeen) (f : HeaderSeen → HeadValues → HeadValues) → k ≡ f h m
    → cond (s && t) (Some k) None ≡ option_and_then (λ x. option_map (f x) (cond t (Some m) None)) (cond s (Some h) None)
good-by true true k m h f e = ap Some e
good-by true false k m h f e = refl
good-by false t k m h f e = refl

none-then : (s : Bool) (h : HeaderSeen) → (let none : Option HeadValues = None in none) ≡ option_and_then (λ x. None) (cond s (Some h) None)
none-then true h = refl
none-then false h = refl

more-by : (line : List ℕ) (o : Option Head) → option_and_then values_if_good (option_map (with_line line) o) ≡ option_and_then (λ h. option_map (onto (kept_line (length line) h)) (option_and_then values_if_good o)) (header_in line)
more-by line None = none-then (is_header line) (header_of line)
more-by line (Some head) = good-by (is_header line) (is_good head) (head_values (with_line line head)) (head_values head) (header_of line) (λ h. onto (kept_line (length line) h)) (head_values-cons line head)

good-empty : (next : List ℕ) (lines : List (List ℕ)) → good_of ([] ∷ next ∷ lines) ≡ Some (kept_none 2)
good-empty next lines =
    ap Some (head_values-same 2 (header (ascii "Content-Type") []) (header (ascii "Content-Transfer-Encoding") []) (header (ascii "Content-Location") []) None None None (header-nil (ascii "Content-Type")) (header-nil (ascii "Content-Transfer-Encoding")) (header-nil (ascii "Content-Location")))

good-more : (line next : List ℕ) (lines : List (List ℕ)) → (length line ≡ 0 → ⊥) → good_of (line ∷ next ∷ lines) ≡ option_and_then (λ h. option_map (onto (kept_line (length line) h)) (good_of (next ∷ lines))) (header_in line)
good-more [] next lines n = absurd (n refl)
good-more (byte ∷ bytes) next lines n = more-by (byte ∷ bytes) (head_in (next ∷ lines))

-- ---- the head of some bytes, line by line

-- lines with one more behind them
behind-line : (line rest : List ℕ) → (next : List ℕ) × (lines : List (List ℕ)) × ((line ∷ lines_of rest) ≡ line ∷ next ∷ lines) × (lines_of rest ≡ next ∷ lines)
behind-line line rest = let h = lines-cons rest in (h.0, h.1, ap (λ l. line ∷ l) h.2, h.2)

-- the line is empty
pub head-empty : (bytes rest more : List ℕ) (head : HeadValues) (n : ℕ) → good_head bytes ≡ option_map (onto head) (good_head rest) → lines_of rest ≡ [] ∷ lines_of more → n ≡ head.size + 2
    → good_head bytes ≡ Some (record { size = n; media = head.media; encoding = head.encoding; location = head.location })
head-empty bytes rest more head n e r s =
    let h = behind-line [] more in
    e ∙ (ap (option_map (onto head)) (ap good_of (r ∙ h.2) ∙ good-empty h.0 h.1) ∙ ap Some (onto-last head n s))

map-onto : (head : HeadValues) (n size : ℕ) (h : HeaderSeen) (o : Option HeadValues) → size ≡ head.size + (n + 2)
    → option_map (onto head) (option_map (onto (kept_line n h)) o) ≡ option_map (onto (with_header (of_size size head) h)) o
map-onto head n size h None e = refl
map-onto head n size h (Some k) e = ap Some (onto-more head n size h k e)

-- the line is one header more
pub head-more : (bytes rest more line : List ℕ) (head : HeadValues) (h : HeaderSeen) (size : ℕ) → good_head bytes ≡ option_map (onto head) (good_head rest) → lines_of rest ≡ line ∷ lines_of more → (length line ≡ 0 → ⊥) → header_in line ≡ Some h → size ≡ head.size + (length line + 2)
    → good_head bytes ≡ option_map (onto (with_header (of_size size head) h)) (good_head more)
head-more bytes rest more line head h size e r n b s =
    let l = behind-line line more in
    e ∙ (ap (option_map (onto head)) (ap good_of (r ∙ l.2) ∙ (good-more line l.0 l.1 n ∙ (ap (option_and_then (λ x. option_map (onto (kept_line (length line) x)) (good_of (l.0 ∷ l.1)))) b ∙ ap (λ z. option_map (onto (kept_line (length line) h)) (good_of z)) (sym l.3))))
    ∙ map-onto head (length line) size h (good_head more) s)
