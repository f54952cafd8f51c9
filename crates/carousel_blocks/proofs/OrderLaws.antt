-- Laws of the order in which blocks come.
use Rattle.std.proofs.Common.{◌≡◌, ℕ, zero, suc, ◌<◌, ◌==◌, Bool, true, false, List, [], ◌∷◌, ◌++◌, length, refl, sym, ap, ◌∙◌, arith, eqb-true, if◌then◌else◌, cond, append-nil, append_assoc, find, ◌⊎◌, inl, inr}
use Rattle.std.specs.Prelude.{Contains, slice_index_or, Option, Some, None, option_map, option_and_then}
use Rattle.std.specs.Option.{option_or}
use Rattle.std.proofs.lemmas.List.Folds.{find-append}
use Rattle.dsmcc_messages.specs.declared.dii.Dii.{Dii}
use Rattle.dsmcc_messages.specs.Ddb.{DataBlock}
use Rattle.carousel_blocks.specs.declared.standing.Standing.{Standing}
use Rattle.carousel_blocks.specs.Message.{Message, Indication, Data}
use Rattle.carousel_blocks.specs.InForce.{later, in_force, standing_of}
use Rattle.carousel_blocks.specs.Held.{is_asked_by, counting_blocks, first_of, blocks_from, count_of, Kept, kept_with, kept_module, bytes_kept, bytes_held}
use Rattle.carousel_blocks.specs.Order.{data_of, OnlyRepeats, SameBlocks, AreConsistent}
use Rattle.carousel_blocks.specs.Steps.{with_block}
use Rattle.carousel_blocks.proofs.HistoryLaws.{in_force-append, later_data, kept_module-same, kept_module-data, kept_with-asked, option_map-option_or}
use Rattle.carousel_blocks.proofs.PutLaws.{with_block_not}
use Rattle.std.proofs.lemmas.List.Elements.{Contains-append_right, Contains-append_cases}

-- the blocks of a list that are asked for
abbrev pub asked_of : Option Standing → List DataBlock → List DataBlock
asked_of s [] = []
asked_of s (b ∷ l) = if is_asked_by s b then b ∷ asked_of s l else asked_of s l

snoc_asked : (s : Standing) (c : List DataBlock) (b : DataBlock) → with_block b (kept_with c s) ≡ kept_with (c ++ (if is_asked_by (Some s) b then b ∷ [] else [])) s
snoc_asked s c b = by (is_asked_by (Some s) b) refl where
  by : (t : Bool) → is_asked_by (Some s) b ≡ t → with_block b (kept_with c s) ≡ kept_with (c ++ (if t then b ∷ [] else [])) s
  by true e = sym (kept_with-asked s c b e)
  by false e = with_block_not b (kept_with c s) e ∙ ap (λ l. kept_with l s) (sym (append-nil c))

pub repeat_same : (f : Option Dii) (dii other : Dii) → f ≡ Some dii → other.transaction ≡ dii.transaction → later f (Indication other) ≡ f
repeat_same f dii other e h = ap (λ x. later x (Indication other)) e ∙ ap (λ (t : Bool). Some (if t then dii else other)) (same other.transaction dii.transaction h) ∙ sym e where
  same : (a b : ℕ) → a ≡ b → (a == b) ≡ true
  same a b h = grind arith

pub kept_along : (dii : Dii) (m : ℕ) (s : Option Standing) (l h : List Message) (c : List DataBlock) → in_force h ≡ Some dii → kept_module h m ≡ option_map (kept_with c) s → OnlyRepeats dii.transaction l
    → kept_module (h ++ l) m ≡ option_map (kept_with (c ++ asked_of s (data_of l))) s
kept_along dii m s [] h c f k o = ap (λ x. kept_module x m) (append-nil h) ∙ k ∙ ap (λ x. option_map (kept_with x) s) (sym (append-nil c))
kept_along dii m s (Indication other ∷ l) h c f k o =
    let e = repeat_same (in_force h) dii other f o.0 in
    ap (λ x. kept_module x m) (sym (append_assoc h (Indication other ∷ []) l))
    ∙ kept_along dii m s l (h ++ Indication other ∷ []) c (in_force-append h (Indication other) ∙ e ∙ f) (kept_module-same h other m e ∙ k) o.1
kept_along dii m s (Data b ∷ l) h c f k o =
    ap (λ x. kept_module x m) (sym (append_assoc h (Data b ∷ []) l))
    ∙ kept_along dii m s l (h ++ Data b ∷ []) (c ++ (if is_asked_by s b then b ∷ [] else [])) (in_force-append h (Data b) ∙ later_data (in_force h) b ∙ f)
    (kept_module-data h b m ∙ ap (option_map (with_block b)) k ∙ more s) o
    ∙ ap (λ x. option_map (kept_with x) s) (append_assoc c (if is_asked_by s b then b ∷ [] else []) (asked_of s (data_of l)) ∙ ap (λ x. c ++ x) (joined_asked (is_asked_by s b)))
  where
    more : (s : Option Standing) → option_map (with_block b) (option_map (kept_with c) s) ≡ option_map (kept_with (c ++ (if is_asked_by s b then b ∷ [] else []))) s
    more None = refl
    more (Some x) = ap (λ z. Some z) (snoc_asked x c b)

    joined_asked : (t : Bool) → (if t then b ∷ [] else []) ++ asked_of s (data_of l) ≡ (if t then b ∷ asked_of s (data_of l) else asked_of s (data_of l))
    joined_asked true = refl
    joined_asked false = refl

-- ---- the first of the blocks with a number

pub record Found (s : Option Standing) (d : List DataBlock) (n : ℕ) (x : List ℕ) : Type 0 where
  pub block : DataBlock
  pub there : Contains d block
  pub asked : is_asked_by s block ≡ true
  pub number : block.number ≡ n
  pub bytes : block.block ≡ x

further : (s : Option Standing) (b : DataBlock) (d : List DataBlock) (n : ℕ) (x : List ℕ) → Found s d n x → Found s (b ∷ d) n x
further s b d n x r = record { block = r.block; there = Contains-append_right (b ∷ []) d r.block r.there; asked = r.asked; number = r.number; bytes = r.bytes }

found_by : (s : Option Standing) (d : List DataBlock) (n : ℕ) (x : List ℕ) → first_of (asked_of s d) n ≡ Some x → Found s d n x
found_by s [] n x h = cc
found_by s (b ∷ d) n x h = by (is_asked_by s b) refl (λ e. further s b d n x (found_by s d n x e)) h where
  here : (t : Bool) → (b.number == n) ≡ t → is_asked_by s b ≡ true → (first_of (asked_of s d) n ≡ Some x → Found s (b ∷ d) n x) → option_map (λ (z : DataBlock). z.block) (cond t (Some b) (find (λ z. z.number == n) (asked_of s d))) ≡ Some x → Found s (b ∷ d) n x
  here true e a again h = record { block = b; there = (0, omega arith, refl); asked = a; number = eqb-true b.number n e; bytes = cc }
  here false e a again h = again h

  by : (t : Bool) → is_asked_by s b ≡ t → (first_of (asked_of s d) n ≡ Some x → Found s (b ∷ d) n x) → first_of (if t then b ∷ asked_of s d else asked_of s d) n ≡ Some x → Found s (b ∷ d) n x
  by true a again h = here (b.number == n) refl a again h
  by false a again h = again h

some_there : (s : Option Standing) (d : List DataBlock) (n : ℕ) (b : DataBlock) → Contains d b → is_asked_by s b ≡ true → b.number ≡ n → first_of (asked_of s d) n ≡ None → ⊥
some_there s [] n b c a e h = absurd (let l = c.1 in omega arith)
some_there s (y ∷ d) n b c a e h = by (is_asked_by s y) refl (Contains-append_cases (y ∷ []) d b c) (λ z k. some_there s d n b z a e k) h where
  same : (k : ℕ) (o : ℕ) → k ≡ o → (k == o) ≡ true
  same k o h = grind arith

  one : Contains (y ∷ []) b → y ≡ b
  one z = only z.0 z.1 z.2 where
    only : (k : ℕ) → k < length (y ∷ []) → slice_index_or (y ∷ []) k b ≡ b → y ≡ b
    only zero l e = e
    only (suc k) l e = absurd (omega arith)

  step : (t : Bool) → option_map (λ (z : DataBlock). z.block) (cond t (Some y) (find (λ z. z.number == n) (asked_of s d))) ≡ None → (t ≡ false) × (first_of (asked_of s d) n ≡ None)
  step true h = cc
  step false h = (refl, h)

  by : (t : Bool) → is_asked_by s y ≡ t → Contains (y ∷ []) b ⊎ Contains d b → (Contains d b → first_of (asked_of s d) n ≡ None → ⊥) → first_of (if t then y ∷ asked_of s d else asked_of s d) n ≡ None → ⊥
  by true q (inl z) again h =
      let p = one z in
      let f = (step (y.number == n) h).0 in
      let g = same y.number n (ap (λ x. x.number) p ∙ e) in
      let w = sym g ∙ f in cc
  by true q (inr z) again h = again z (step (y.number == n) h).1
  by false q (inl z) again h = let w = sym q ∙ ap (is_asked_by s) (one z) ∙ a in cc
  by false q (inr z) again h = again z h

same_first : (s : Option Standing) (d e : List DataBlock) (n : ℕ) → ((b : DataBlock) → Contains d b → Contains e b) → ((b : DataBlock) → Contains e b → Contains d b)
    → ((a b : DataBlock) → Contains d a → Contains d b → is_asked_by s a ≡ true → is_asked_by s b ≡ true → a.number ≡ b.number → a.block ≡ b.block)
    → first_of (asked_of s d) n ≡ first_of (asked_of s e) n
same_first s d e n to from consistent = by (first_of (asked_of s d) n) (first_of (asked_of s e) n) refl refl where
  by : (x y : Option (List ℕ)) → first_of (asked_of s d) n ≡ x → first_of (asked_of s e) n ≡ y → x ≡ y
  by None None p q = refl
  by (Some x) None p q = let r = found_by s d n x p in absurd (some_there s e n r.block (to r.block r.there) r.asked r.number q)
  by None (Some y) p q = let r = found_by s e n y q in absurd (some_there s d n r.block (from r.block r.there) r.asked r.number p)
  by (Some x) (Some y) p q =
      let r = found_by s d n x p in
      let t = found_by s e n y q in
      ap (λ z. Some z) (sym r.bytes ∙ consistent r.block t.block r.there (from t.block t.there) r.asked t.asked (r.number ∙ sym t.number) ∙ t.bytes)

pub same_held : (h l o : List Message) (dii : Dii) (m : ℕ) → in_force h ≡ Some dii → OnlyRepeats dii.transaction l → OnlyRepeats dii.transaction o → SameBlocks l o → AreConsistent (standing_of (Some dii) m) l → bytes_held (h ++ l) m ≡ bytes_held (h ++ o) m
unfolding bytes_held
same_held h l o dii m f a b same consistent =
    let s = standing_of (Some dii) m in
    let c = counting_blocks None m h in
    let k : kept_module h m ≡ option_map (kept_with c) s = ap (λ x. option_map (kept_with c) (standing_of x m)) f in
    ap (option_and_then bytes_kept) (kept_along dii m s l h c f k a
    ∙ ap (λ (g : ℕ → Option (List ℕ)). option_map (λ (x : Standing). let y : Kept = record { standing = x; blocks = blocks_from g 0 (count_of x) } in y) s) (λ i n. each s c n i)
    ∙ sym (kept_along dii m s o h c f k b))
  where
    cut : (c d : List DataBlock) (n : ℕ) → first_of (c ++ d) n ≡ option_or (first_of c n) (first_of d n)
    cut c d n = ap (option_map (λ (x : DataBlock). x.block)) (find-append (λ (x : DataBlock). x.number == n) c d) ∙ option_map-option_or (λ (x : DataBlock). x.block) (find (λ x. x.number == n) c) (find (λ x. x.number == n) d)

    each : (s : Option Standing) (c : List DataBlock) (n : ℕ) → first_of (c ++ asked_of (standing_of (Some dii) m) (data_of l)) n ≡ first_of (c ++ asked_of (standing_of (Some dii) m) (data_of o)) n
    each s c n = cut c (asked_of (standing_of (Some dii) m) (data_of l)) n
        ∙ ap (option_or (first_of c n)) (same_first (standing_of (Some dii) m) (data_of l) (data_of o) n (λ x. (same x).0) (λ x. (same x).1) consistent)
        ∙ sym (cut c (asked_of (standing_of (Some dii) m) (data_of o)) n)
