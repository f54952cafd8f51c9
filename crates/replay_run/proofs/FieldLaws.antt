-- Laws of the fields of a line.
use Rattle.std.proofs.Common.{◌≡◌, ℕ, ◌+◌, ◌<◌, Bool, true, false, List, [], ◌∷◌, ◌++◌, All, length}
use Rattle.std.proofs.Common.{take, drop, get_or, filter, not, zero, suc, ◌-◌, refl, sym, ap, ◌∙◌}
use Rattle.std.proofs.Common.{arith, length-take, length-drop, take_all, take-append-drop}
use Rattle.std.proofs.Common.{append-nil, get_or-take, get_or-drop, add-one, add-zero, true≢false}
use Rattle.std.proofs.Math.Seq.{drop-cons}
use Rattle.replay_run.proofs.FirstPlaces.{IsFirstPlace}
use Rattle.std.specs.List.{slice_split}
use Rattle.std.proofs.lemmas.List.Splits.{slice_split-cons_yes, slice_split_none, slice_split_at}
use Rattle.std.proofs.lemmas.List.Elements.{All-head, All-tail, All-weaker}
use Rattle.replay_run.specs.Record.{is_blank, is_field, fields}

-- a blank in front changes nothing
pub fields-blank : (x : ℕ) (xs : List ℕ) → is_blank x ≡ true → fields (x ∷ xs) ≡ fields xs
unfolding fields
fields-blank x xs e = ap (filter is_field) (slice_split-cons_yes is_blank x xs e)

pub fields-blanks : (front rest : List ℕ) → All (λ x. is_blank x ≡ true) front
    → fields (front ++ rest) ≡ fields rest
fields-blanks [] rest h = refl
fields-blanks (x ∷ front) rest h =
    fields-blank x (front ++ rest) (All-head (λ y. is_blank y ≡ true) x front h)
    ∙ fields-blanks front rest (All-tail (λ y. is_blank y ≡ true) x front h)

pub fields-nil : fields [] ≡ []
unfolding fields
fields-nil = refl

kept_front : (field : List ℕ) (more : List (List ℕ)) → 0 < length field
    → filter is_field (field ∷ more) ≡ field ∷ filter is_field more
kept_front [] more l = absurd (omega arith)
kept_front (x ∷ xs) more l = refl

-- bytes up to a blank are a field
pub fields_first : (field : List ℕ) (x : ℕ) (rest : List ℕ) → All (λ y. is_blank y ≡ false) field
    → 0 < length field → is_blank x ≡ true → fields (field ++ x ∷ rest) ≡ field ∷ fields (x ∷ rest)
unfolding fields
fields_first field x rest h l e =
    ap (filter is_field) (slice_split_at is_blank field x rest h e)
    ∙ kept_front field (slice_split is_blank rest) l
    ∙ ap (λ fs. field ∷ fs) (sym (fields-blank x rest e))

-- bytes with no blank are the only field
pub fields_last : (field : List ℕ) → All (λ y. is_blank y ≡ false) field → 0 < length field
    → fields field ≡ field ∷ []
unfolding fields
fields_last field h l = ap (filter is_field) (slice_split_none is_blank field h)
    ∙ kept_front field [] l

-- a field and what is behind it, where the first blank is known
pub fields_cut : (bytes : List ℕ) (end : ℕ) → is_blank (get_or bytes 0 0) ≡ false
    → IsFirstPlace is_blank bytes end → fields bytes ≡ take end bytes ∷ fields (drop end bytes)
fields_cut bytes zero begins first = absurd (true≢false (sym (first.here 0) ∙ begins))
fields_cut bytes (suc e) begins first =
    let end : ℕ = suc e in
    let some : 0 < length (take end bytes) =
    omega (arith, length-take end bytes, first.is_within) in
    let behind : drop end bytes ≡ get_or bytes end 0 ∷ drop (end + 1) bytes =
    drop-cons bytes end 0 (first.is_within) ∙ ap (λ n. get_or bytes end 0 ∷ drop n bytes)
    (sym (add-one end)) in
    ap fields (first.cut 0) ∙ fields_first (take end bytes) (get_or bytes end 0)
    (drop (end + 1) bytes) (first.before) some (first.here 0)
    ∙ ap (λ rest. take end bytes ∷ fields rest) (sym behind)

is_blank_true : (b : Bool) → not b ≡ false → b ≡ true
is_blank_true true e = refl
is_blank_true false e = absurd (true≢false e)

blanks_before : (bytes : List ℕ) → All (λ byte. not (is_blank byte) ≡ false) bytes
    → All (λ byte. is_blank byte ≡ true) bytes
blanks_before bytes h = All-weaker (λ byte. not (is_blank byte) ≡ false)
    (λ byte. is_blank byte ≡ true) (λ byte e. is_blank_true (is_blank byte) e) bytes h

-- blanks in front of the first field are left out
pub fields_skip : (line : List ℕ) (start : ℕ)
    → IsFirstPlace (λ byte. not (is_blank byte)) line start → fields line
    ≡ fields (take (length line - start) (drop start line))
fields_skip line start first =
    let whole : take (length line - start) (drop start line) ≡ drop start line =
    take_all (length line - start) (drop start line) (omega (arith, length-drop start line)) in
    ap fields (sym (take-append-drop start line)) ∙ fields-blanks (take start line)
    (drop start line) (blanks_before (take start line) (first.before)) ∙ ap fields (sym whole)

-- a line of blanks has no field
pub fields_none : (line : List ℕ) → All (λ byte. not (is_blank byte) ≡ false) line → fields line
    ≡ []
fields_none line h = ap fields (sym (append-nil line))
    ∙ fields-blanks line [] (blanks_before line h) ∙ fields-nil

is_blank_false : (b : Bool) → not b ≡ true → b ≡ false
is_blank_false true e = absurd (true≢false (sym e))
is_blank_false false e = refl

-- what stands behind those blanks begins with a field
pub begins_field : (line : List ℕ) (start : ℕ)
    → IsFirstPlace (λ byte. not (is_blank byte)) line start
    → is_blank (get_or (take (length line - start) (drop start line)) 0 0) ≡ false
begins_field line start first =
    let some : 0 < length line - start = omega (arith, first.is_within) in
    let there : get_or (take (length line - start) (drop start line)) 0 0 ≡ get_or line start 0 =
    get_or-take (length line - start) (drop start line) 0 0 some ∙ get_or-drop start line 0 0
    ∙ ap (λ n. get_or line n 0) (add-zero start) in
    ap is_blank there ∙ is_blank_false _ (first.here 0)
