-- Laws of the blocks that count, behind one message more.
use Rattle.std.proofs.Common.{◌≡◌, ◌≢◌, ℕ, zero, suc, ◌+◌, ◌<◌, ◌≤◌, ◌==◌, Bool, true, false, not, ◌&&◌, ◌||◌, List, [], ◌∷◌, ◌++◌, replicate, refl, sym, ap, ap₂, ◌∙◌, subst, arith, eqb-true, if◌then◌else◌, cond, append-nil, append_assoc, find, fold}
use Rattle.std.specs.Prelude.{slice_get, slice_set, Option, Some, None, is_some, option_map, option_and_then, option_to_list}
use Rattle.std.specs.Option.{option_or}
use Rattle.std.proofs.lemmas.List.Folds.{find-append}
use Rattle.dsmcc_messages.specs.declared.dii.Dii.{Dii}
use Rattle.dsmcc_messages.specs.Ddb.{DataBlock}
use Rattle.carousel_blocks.specs.declared.put.Put.TheVariants as puts
use Rattle.carousel_blocks.specs.declared.standing.SkipCause.{SkipCause}
use Rattle.carousel_blocks.specs.declared.standing.Standing.{Standing}
use Rattle.carousel_blocks.specs.Message.{Message, Indication, Data}
use Rattle.carousel_blocks.specs.InForce.{later, in_force, standings, standing_of, is_of_module}
use Rattle.carousel_blocks.specs.Held.{asked_count, count_of, is_asked, is_asked_by, asked_block, unchanged, stays, counting_blocks, first_of, blocks_from, Kept, kept_with, kept_module, bytes_by, bytes_kept, bytes_held}
use Rattle.carousel_blocks.specs.Buffers.{is_missing, all_came}
use Rattle.carousel_blocks.specs.Modules.{kept_for, blocks_for, blocks_kept, standing_kept}
use Rattle.carousel_blocks.specs.Steps.{with_block, answer_kept, answer_to}
use Rattle.carousel_blocks.specs.Carousel.{put_after}
use Rattle.carousel_blocks.proofs.BufferLaws.{is_some-joined}
use Rattle.carousel_blocks.proofs.StandingLaws.{same_standing_yes, unchanged_equal}
use Rattle.carousel_blocks.proofs.DraftLaws.{fold-append}
use Rattle.carousel_blocks.proofs.PutLaws.{asks, with_block_not, answer_not}

-- ---- the blocks, number by number

-- two lists of blocks are one where they have the same from a place on
same_blocks : (f g : ℕ → Option (List ℕ)) (start count : ℕ) → ((place : ℕ) → start ≤ place → g place ≡ f place) → blocks_from g start count ≡ blocks_from f start count
same_blocks f g start zero same = refl
same_blocks f g start (suc count) same =
    ap₂ (λ (x : Option (List ℕ)) (l : List (Option (List ℕ))). x ∷ l) (same start (omega arith)) (same_blocks f g (start + 1) count (λ place h. same place (omega arith)))

-- where they differ at one place at most, one is the other with that place changed
one_changed : (f g : ℕ → Option (List ℕ)) (start count k : ℕ) → ((place : ℕ) → place ≢ start + k → g place ≡ f place) → blocks_from g start count ≡ slice_set (blocks_from f start count) k (g (start + k))
one_changed f g start zero k others = refl
one_changed f g start (suc count) zero others =
    ap₂ (λ (x : Option (List ℕ)) (l : List (Option (List ℕ))). x ∷ l)
    (ap g (let e : start ≡ start + 0 = omega arith in e))
    (same_blocks f g (start + 1) count (λ place h. others place (omega arith)))
one_changed f g start (suc count) (suc k) others =
    ap₂ (λ (x : Option (List ℕ)) (l : List (Option (List ℕ))). x ∷ l)
    (others start (omega arith))
    (one_changed f g (start + 1) count k (λ place h. others place (omega arith))
    ∙ ap (λ n. slice_set (blocks_from f (start + 1) count) k (g n)) (let e : start + 1 + k ≡ start + suc k = omega arith in e))

none_at : (f : ℕ → Option (List ℕ)) (start count k : ℕ) → is_missing (slice_get (blocks_from f start count) k) ≡ true → f (start + k) ≡ None
none_at f start zero k h = cc
none_at f start (suc count) zero h = ap f (let e : start + 0 ≡ start = omega arith in e) ∙ none (f start) h where
  none : (x : Option (List ℕ)) → is_missing (Some x) ≡ true → x ≡ None
  none None h = refl
  none (Some x) h = cc
none_at f start (suc count) (suc k) h = ap f (let e : start + suc k ≡ start + 1 + k = omega arith in e) ∙ none_at f (start + 1) count k h

first_stays : (f : ℕ → Option (List ℕ)) (start count k : ℕ) (other : Option (List ℕ)) → is_missing (slice_get (blocks_from f start count) k) ≡ false → slice_set (blocks_from f start count) k (option_or (f (start + k)) other) ≡ blocks_from f start count
first_stays f start zero k other h = refl
first_stays f start (suc count) zero other h =
    ap (λ (x : Option (List ℕ)). x ∷ blocks_from f (start + 1) count) (ap (λ n. option_or (f n) other) (let e : start + 0 ≡ start = omega arith in e) ∙ some (f start) h) where
      some : (x : Option (List ℕ)) → is_missing (Some x) ≡ false → option_or x other ≡ x
      some None h = cc
      some (Some x) h = refl
first_stays f start (suc count) (suc k) other h =
    ap (λ (l : List (Option (List ℕ))). f start ∷ l)
    (ap (λ n. slice_set (blocks_from f (start + 1) count) k (option_or (f n) other)) (let e : start + suc k ≡ start + 1 + k = omega arith in e)
    ∙ first_stays f (start + 1) count k other h)

pub slice_get-blocks_from : (f : ℕ → Option (List ℕ)) (start count n : ℕ) → n < count → slice_get (blocks_from f start count) n ≡ Some (f (start + n))
slice_get-blocks_from f start zero n h = absurd (omega arith)
slice_get-blocks_from f start (suc count) zero h = ap (λ k. Some (f k)) (let e : start ≡ start + 0 = omega arith in e)
slice_get-blocks_from f start (suc count) (suc n) h = slice_get-blocks_from f (start + 1) count n (omega arith) ∙ ap (λ k. Some (f k)) (let e : start + 1 + n ≡ start + suc n = omega arith in e)

blocks_from-none : (start count : ℕ) → blocks_from (first_of []) start count ≡ replicate count None
blocks_from-none start zero = refl
blocks_from-none start (suc count) = ap (λ (l : List (Option (List ℕ))). None ∷ l) (blocks_from-none (start + 1) count)

pub option_map-option_or : {A B : Type 0} (f : A → B) (x y : Option A) → option_map f (option_or x y) ≡ option_or (option_map f x) (option_map f y)
option_map-option_or f None y = refl
option_map-option_or f (Some x) y = refl

option_or-None : {A : Type 0} (x : Option A) → option_or x None ≡ x
option_or-None None = refl
option_or-None (Some x) = refl

first_of-append : (blocks : List DataBlock) (block : DataBlock) (n : ℕ) → first_of (blocks ++ block ∷ []) n ≡ option_or (first_of blocks n) (if block.number == n then Some block.block else None)
first_of-append blocks block n =
    ap (option_map (λ b. b.block)) (find-append (λ (b : DataBlock). b.number == n) blocks (block ∷ []))
    ∙ option_map-option_or (λ (b : DataBlock). b.block) (find (λ b. b.number == n) blocks) (find (λ b. b.number == n) (block ∷ []))
    ∙ ap (option_or (first_of blocks n)) (one (block.number == n)) where
      one : (t : Bool) → option_map (λ (b : DataBlock). b.block) (if t then Some block else None) ≡ (if t then Some block.block else None)
      one true = refl
      one false = refl

-- a kept module with one block more
pub kept_with-asked : (s : Standing) (blocks : List DataBlock) (block : DataBlock) → is_asked s block ≡ true → kept_with (blocks ++ block ∷ []) s ≡ with_block block (kept_with blocks s)
kept_with-asked s blocks block asked =
    ap (λ (l : List (Option (List ℕ))). let k : Kept = record { standing = s; blocks = l } in k) (changed ∙ ap (λ k. slice_set old n (after k)) at_zero ∙ ap (slice_set old n) (first_of-append blocks block n ∙ ap (λ (t : Bool). option_or (before n) (if t then Some block.block else None)) (same_number n)))
    ∙ chosen (is_missing (slice_get old n)) refl
    ∙ ap (λ (t : Bool). if t && is_missing (slice_get old n) then (let k : Kept = record { standing = s; blocks = slice_set old n (Some block.block) } in k) else (let k : Kept = record { standing = s; blocks = old } in k)) (sym asked)
  where
    n : ℕ
    n = block.number

    before : ℕ → Option (List ℕ)
    before = first_of blocks

    after : ℕ → Option (List ℕ)
    after = first_of (blocks ++ block ∷ [])

    old : List (Option (List ℕ))
    old = blocks_from (first_of blocks) 0 (count_of s)

    at_zero : 0 + block.number ≡ block.number
    at_zero = omega arith

    same_number : (k : ℕ) → (k == k) ≡ true
    same_number k = grind arith

    other_number : (k : ℕ) → k ≢ 0 + block.number → (block.number == k) ≡ false
    other_number k h = grind arith

    changed : blocks_from (first_of (blocks ++ block ∷ [])) 0 (count_of s) ≡ slice_set (blocks_from (first_of blocks) 0 (count_of s)) block.number (first_of (blocks ++ block ∷ []) (0 + block.number))
    changed = one_changed (first_of blocks) (first_of (blocks ++ block ∷ [])) 0 (count_of s) block.number (λ place h.
        first_of-append blocks block place ∙ ap (λ (t : Bool). option_or (first_of blocks place) (if t then Some block.block else None)) (other_number place h) ∙ option_or-None (first_of blocks place))

    chosen : (t : Bool) → is_missing (slice_get (blocks_from (first_of blocks) 0 (count_of s)) block.number) ≡ t
        → ◌≡◌ {A = Kept} (record { standing = s; blocks = slice_set (blocks_from (first_of blocks) 0 (count_of s)) block.number (option_or (first_of blocks block.number) (Some block.block)) })
        (if t then (let k : Kept = record { standing = s; blocks = slice_set (blocks_from (first_of blocks) 0 (count_of s)) block.number (Some block.block) } in k) else (let k : Kept = record { standing = s; blocks = blocks_from (first_of blocks) 0 (count_of s) } in k))
    chosen true h = ap (λ (x : Option (List ℕ)). let k : Kept = record { standing = s; blocks = slice_set old n (option_or x (Some block.block)) } in k) (ap before (sym at_zero) ∙ none_at before 0 (count_of s) n h)
    chosen false h = ap (λ (l : List (Option (List ℕ))). let k : Kept = record { standing = s; blocks = l } in k)
        (ap (λ k. slice_set old n (option_or (before k) (Some block.block))) (sym at_zero) ∙ first_stays before 0 (count_of s) n (Some block.block) h)

-- ---- the blocks that count

pub later_data : (f : Option Dii) (block : DataBlock) → later f (Data block) ≡ f
later_data None block = refl
later_data (Some dii) block = refl

stays_more : (s : Option Standing) (f : Option Dii) (m : ℕ) (h : List Message) (x : Message) → stays s f m (h ++ x ∷ []) ≡ (stays s f m h && unchanged s (standing_of (later (fold later f h) x) m))
stays_more s f m [] x = refl
stays_more s f m (y ∷ h) x =
    ap (λ t. unchanged s (standing_of f m) && t) (stays_more s (later f y) m h x)
    ∙ sym (assoc (unchanged s (standing_of f m)) (stays s (later f y) m h) (unchanged s (standing_of (later (fold later (later f y) h) x) m))) where
      assoc : (a b c : Bool) → ((a && b) && c) ≡ (a && (b && c))
      assoc true b c = refl
      assoc false b c = refl

stays_end : (s : Option Standing) (f : Option Dii) (m : ℕ) (h : List Message) → stays s f m h ≡ true → unchanged s (standing_of (fold later f h) m) ≡ true
stays_end s f m [] e = e
stays_end s f m (y ∷ h) e = stays_end s (later f y) m h (second (unchanged s (standing_of f m)) (stays s (later f y) m h) e) where
  second : (a b : Bool) → (a && b) ≡ true → b ≡ true
  second true b h = h
  second false b h = cc

-- the law of one message more
pub counting_blocks-append : (f : Option Dii) (m : ℕ) (h : List Message) (x : Message) → counting_blocks f m (h ++ x ∷ [])
    ≡ (if unchanged (standing_of (fold later f h) m) (standing_of (later (fold later f h) x) m) then counting_blocks f m h ++ option_to_list (asked_block (standing_of (fold later f h) m) x) else [])
counting_blocks-append f m [] x = append-nil (if unchanged (standing_of f m) (standing_of (later f x) m) then option_to_list (asked_block (standing_of f m) x) else [])
counting_blocks-append f m (y ∷ h) x =
    ap₂ (λ (t : Bool) (l : List DataBlock). (if t then a else []) ++ l) (stays_more s g m h x) (counting_blocks-append g m h x)
    ∙ joins (stays s g m h) (unchanged e e2) (unchanged s e2) (counting_blocks g m h) (option_to_list (asked_block e x)) (λ t. ap (λ z. unchanged z e2) (unchanged_equal s e (stays_end s g m h t)))
  where
    g : Option Dii
    g = later f y

    s : Option Standing
    s = standing_of f m

    e : Option Standing
    e = standing_of (fold later (later f y) h) m

    e2 : Option Standing
    e2 = standing_of (later (fold later (later f y) h) x) m

    a : List DataBlock
    a = option_to_list (asked_block (standing_of f m) y)

    joins : (t u v : Bool) (c b : List DataBlock) → (t ≡ true → v ≡ u)
        → (if t && v then option_to_list (asked_block (standing_of f m) y) else []) ++ (if u then c ++ b else [])
        ≡ (if u then ((if t then option_to_list (asked_block (standing_of f m) y) else []) ++ c) ++ b else [])
    joins true u v c b h = subst (λ w. (if w then a else []) ++ (if u then c ++ b else []) ≡ (if u then (a ++ c) ++ b else [])) (sym (h refl)) (same u) where
      same : (w : Bool) → (if w then option_to_list (asked_block (standing_of f m) y) else []) ++ (if w then c ++ b else []) ≡ (if w then (option_to_list (asked_block (standing_of f m) y) ++ c) ++ b else [])
      same true = sym (append_assoc (option_to_list (asked_block (standing_of f m) y)) c b)
      same false = refl
    joins false true v c b h = refl
    joins false false v c b h = refl

pub in_force-append : (h : List Message) (x : Message) → in_force (h ++ x ∷ []) ≡ later (in_force h) x
in_force-append h x = fold-append later None h x

-- ---- what is kept

-- nothing of a module without an entry counts; what counts of one that stays stays
kept_module-by : (h : List Message) (x : Message) (m : ℕ) → kept_module (h ++ x ∷ []) m
    ≡ option_map (kept_with (if unchanged (standing_of (in_force h) m) (standing_of (later (in_force h) x) m) then counting_blocks None m h ++ option_to_list (asked_block (standing_of (in_force h) m) x) else [])) (standing_of (later (in_force h) x) m)
kept_module-by h x m = ap₂ (λ (c : List DataBlock) (f : Option Dii). option_map (kept_with c) (standing_of f m)) (counting_blocks-append None m h x) (in_force-append h x)

pub kept_module-data : (h : List Message) (block : DataBlock) (m : ℕ) → kept_module (h ++ Data block ∷ []) m ≡ option_map (with_block block) (kept_module h m)
kept_module-data h block m =
    kept_module-by h (Data block) m
    ∙ ap (λ f. option_map (kept_with (if unchanged (standing_of (in_force h) m) (standing_of f m) then counting_blocks None m h ++ option_to_list (asked_block (standing_of (in_force h) m) (Data block)) else [])) (standing_of f m)) (later_data (in_force h) block)
    ∙ by (standing_of (in_force h) m) (counting_blocks None m h) where
      asked : (t : Bool) (s : Standing) (c : List DataBlock) → is_asked s block ≡ t → kept_with (c ++ option_to_list (if t then Some block else None)) s ≡ with_block block (kept_with c s)
      asked true s c e = kept_with-asked s c block e
      asked false s c e = ap (λ l. kept_with l s) (append-nil c) ∙ sym (with_block_not block (kept_with c s) e)

      by : (s : Option Standing) (c : List DataBlock) → option_map (kept_with (if unchanged s s then c ++ option_to_list (asked_block s (Data block)) else [])) s ≡ option_map (with_block block) (option_map (kept_with c) s)
      by None c = refl
      by (Some s) c =
          ap (λ (t : Bool). Some (kept_with (if t then c ++ option_to_list (asked_block (Some s) (Data block)) else []) s)) (same_standing_yes s)
          ∙ ap (λ x. Some x) (asked (is_asked s block) s c refl)

kept_again : (s : Option Standing) (c : List DataBlock) → option_map (kept_with (if unchanged s s then c ++ [] else [])) s ≡ option_map (kept_with c) s
kept_again None c = refl
kept_again (Some s) c =
    ap (λ (t : Bool). Some (kept_with (if t then c ++ [] else []) s)) (same_standing_yes s) ∙ ap (λ l. Some (kept_with l s)) (append-nil c)

-- a DII with the transactionId in force
pub kept_module-same : (h : List Message) (dii : Dii) (m : ℕ) → later (in_force h) (Indication dii) ≡ in_force h → kept_module (h ++ Indication dii ∷ []) m ≡ kept_module h m
kept_module-same h dii m e =
    kept_module-by h (Indication dii) m
    ∙ ap (λ f. option_map (kept_with (if unchanged (standing_of (in_force h) m) (standing_of f m) then counting_blocks None m h ++ [] else [])) (standing_of f m)) e
    ∙ kept_again (standing_of (in_force h) m) (counting_blocks None m h)

pub found_number : (m : ℕ) (l : List Standing) (n : Standing) → find (is_of_module m) l ≡ Some n → n.entry.id ≡ m
found_number m [] n h = cc
found_number m (s ∷ l) n h = by (s.entry.id == m) refl (found_number m l n) h where
  by : (t : Bool) → (s.entry.id == m) ≡ t → (find (is_of_module m) l ≡ Some n → n.entry.id ≡ m) → cond t (Some s) (find (is_of_module m) l) ≡ Some n → n.entry.id ≡ m
  by true e again h = let q : s ≡ n = cc in ap (λ x. x.entry.id) (sym q) ∙ eqb-true s.entry.id m e
  by false e again h = again h

-- another DII
pub kept_module-other : (h : List Message) (dii : Dii) (m : ℕ) → later (in_force h) (Indication dii) ≡ Some dii → kept_module (h ++ Indication dii ∷ []) m ≡ option_map (kept_for (kept_module h)) (find (is_of_module m) (standings dii))
kept_module-other h dii m e =
    kept_module-by h (Indication dii) m
    ∙ ap (λ f. option_map (kept_with (if unchanged (standing_of (in_force h) m) (standing_of f m) then counting_blocks None m h ++ [] else [])) (standing_of f m)) e
    ∙ by (find (is_of_module m) (standings dii)) refl where
      goes_on : (t : Bool) (s : Option Standing) (n : Standing) (c : List DataBlock) → unchanged s (Some n) ≡ t
          → kept_with (if t then c ++ [] else []) n ≡ (let k : Kept = record { standing = n; blocks = if t then blocks_kept (option_map (kept_with c) s) else replicate (count_of n) None } in k)
      goes_on true s n c u =
          ap (λ l. kept_with l n) (append-nil c)
          ∙ ap (λ z. let k : Kept = record { standing = n; blocks = blocks_kept (option_map (kept_with c) z) } in k) (sym (unchanged_equal s (Some n) u))
      goes_on false s n c u = ap (λ (l : List (Option (List ℕ))). let k : Kept = record { standing = n; blocks = l } in k) (blocks_from-none 0 (count_of n))

      standing_is : (s : Option Standing) (c : List DataBlock) → standing_kept (option_map (kept_with c) s) ≡ s
      standing_is None c = refl
      standing_is (Some s) c = refl

      by : (x : Option Standing) → find (is_of_module m) (standings dii) ≡ x
          → option_map (kept_with (if unchanged (standing_of (in_force h) m) x then counting_blocks None m h ++ [] else [])) x ≡ option_map (kept_for (kept_module h)) x
      by None f = refl
      by (Some n) f =
          let s = standing_of (in_force h) m in
          let c = counting_blocks None m h in
          ap (λ x. Some x) (goes_on (unchanged s (Some n)) s n c refl
          ∙ ap (λ z. let k : Kept = record { standing = n; blocks = if unchanged z (Some n) then blocks_kept (kept_module h m) else replicate (count_of n) None } in k) (sym (standing_is s c))
          ∙ ap (λ j. let k : Kept = record { standing = n; blocks = blocks_for (kept_module h j) n } in k) (sym (found_number m (standings dii) n f)))

-- ---- what is answered

pub answer-put : (h : List Message) (block : DataBlock) → answer_to (kept_module h block.«module») block ≡ put_after h block
unfolding put_after bytes_held
answer-put h block =
    by (standing_of (in_force h) block.«module») (counting_blocks None block.«module» h) (kept_module (h ++ Data block ∷ []) block.«module») (kept_module-data h block block.«module») where
      unskipped : (s : Standing) (skip : Option SkipCause) → block.number < asked_count s skip → skip ≡ None
      unskipped s None p = refl
      unskipped s (Some cause) p = absurd (omega arith)

      asked : (s : Standing) (c : List DataBlock) (after : Option Kept) → is_asked s block ≡ true → after ≡ Some (with_block block (kept_with c s)) → (t : Option (List ℕ)) → first_of c block.number ≡ t
          → answer_kept (kept_with c s) block ≡ (if is_some t then puts.Ignored else (if is_some (option_and_then bytes_kept after) then puts.Completed block.«module» else puts.Kept))
      asked s c after a e t f =
          let old = blocks_from (first_of c) 0 (count_of s) in
          let p = (asks s block a).place in
          let n : 0 + block.number ≡ block.number = omega arith in
          let g : slice_get old block.number ≡ Some t = slice_get-blocks_from (first_of c) 0 (count_of s) block.number p ∙ ap (λ k. Some (first_of c k)) n ∙ ap (λ x. Some x) f in
          let new : Kept = record { standing = s; blocks = slice_set old block.number (Some block.block) } in
          let w : is_missing (Some t) ≡ true → with_block block (kept_with c s) ≡ new = λ m. ap₂ (λ (x y : Bool). if x && y then new else kept_with c s) a (ap is_missing g ∙ m) in
          ap₂ (λ (x : Bool) (y : Option (Option (List ℕ))). if x && is_missing y then (if all_came (slice_set old block.number (Some block.block)) then puts.Completed block.«module» else puts.Kept) else puts.Ignored) a g
          ∙ last t (λ m. ap is_some (ap (option_and_then bytes_kept) (e ∙ ap (λ k. Some k) (w m)) ∙ ap (λ skip. bytes_by skip new.blocks) (unskipped s s.skip p)) ∙ is_some-joined new.blocks)
        where
          last : (t : Option (List ℕ)) → (is_missing (Some t) ≡ true → is_some (option_and_then bytes_kept after) ≡ all_came (slice_set (blocks_from (first_of c) 0 (count_of s)) block.number (Some block.block)))
              → (if is_missing (Some t) then (if all_came (slice_set (blocks_from (first_of c) 0 (count_of s)) block.number (Some block.block)) then puts.Completed block.«module» else puts.Kept) else puts.Ignored)
              ≡ (if is_some t then puts.Ignored else (if is_some (option_and_then bytes_kept after) then puts.Completed block.«module» else puts.Kept))
          last None m = ap (λ (x : Bool). if x then puts.Completed block.«module» else puts.Kept) (sym (m refl))
          last (Some x) m = refl

      each : (t : Bool) (s : Standing) (c : List DataBlock) (after : Option Kept) → is_asked s block ≡ t → after ≡ Some (with_block block (kept_with c s))
          → answer_kept (kept_with c s) block ≡ (if not t || is_some (first_of c block.number) then puts.Ignored else (if is_some (option_and_then bytes_kept after) then puts.Completed block.«module» else puts.Kept))
      each true s c after a e = asked s c after a e (first_of c block.number) refl
      each false s c after a e = sym (answer_not block (kept_with c s) a)

      by : (s : Option Standing) (c : List DataBlock) (after : Option Kept) → after ≡ option_map (with_block block) (option_map (kept_with c) s)
          → answer_to (option_map (kept_with c) s) block ≡ (if not (is_asked_by s block) || is_some (first_of c block.number) then puts.Ignored else (if is_some (option_and_then bytes_kept after) then puts.Completed block.«module» else puts.Kept))
      by None c after e = refl
      by (Some s) c after e = each (is_asked s block) s c after refl e
