-- What a DII says of each standing, and which blocks count where it comes first and stays in force.
use Rattle.std.proofs.Common.{◌≡◌, ℕ, ◌==◌, Bool, true, false, if◌then◌else◌, cond, List, [], ◌∷◌, ◌++◌, refl, ap, ◌∙◌, Option, Some, None}
use Rattle.std.specs.Prelude.{option_to_list, filter, find, fold}
use Rattle.std.specs.List.{All, list_any}
use Rattle.std.proofs.lemmas.Bool.{and_from, eq-eqb}
use Rattle.std.proofs.lemmas.List.Elements.{All-nil, All-cons, All-head, All-tail, All-append}
use Rattle.dsmcc_messages.specs.declared.dii.Dii.{Dii}
use Rattle.dsmcc_messages.specs.declared.entry.Entry.{Entry}
use Rattle.dsmcc_messages.specs.Ddb.{DataBlock}
use Rattle.carousel_blocks.specs.declared.standing.Standing.{Standing}
use Rattle.carousel_blocks.specs.Message.{Message, Indication, Data}
use Rattle.carousel_blocks.specs.InForce.{in_force, is_of_module, later, skip_standing, standing_of, unskipped_size, with_entry}
use Rattle.carousel_blocks.specs.Held.{asked_block, counting_blocks, is_asked, same_skip, same_standing, stays, unchanged}
use Rattle.carousel_blocks.specs.Order.{OnlyRepeats, data_of}
use Rattle.carousel_blocks.specs.declared.standing.SkipCause.{SkipCause}
use Rattle.carousel_blocks.specs.declared.standing.SkipCause.TheVariants.{Compressed, Large}
use Rattle.std.proofs.lemmas.Slice.Eq.{bytes_eq-Decides}

-- ---- the downloadId and the blockSize

pub record IsOf (dii : Dii) (s : Standing) : Type 0 where
  pub download : s.download ≡ dii.download
  pub block_size : s.block_size ≡ dii.block_size

with_entry-of : (dii : Dii) (before : List Standing) (entry : Entry) → All (IsOf dii) before → All (IsOf dii) (with_entry dii before entry)
with_entry-of dii before entry h = by (list_any (is_of_module entry.id) before) where
  it : Standing
  it = record { download = dii.download; block_size = dii.block_size; entry = entry; skip = skip_standing dii.block_size (unskipped_size before) entry }

  by : (t : Bool) → All (IsOf dii) (if t then before else before ++ it ∷ [])
  by true = h
  by false = All-append (IsOf dii) before (it ∷ []) h (All-cons (IsOf dii) it [] (record { download = refl; block_size = refl }) (All-nil (IsOf dii)))

standings-of : (dii : Dii) (entries : List Entry) (before : List Standing) → All (IsOf dii) before → All (IsOf dii) (fold (with_entry dii) before entries)
standings-of dii [] before h = h
standings-of dii (entry ∷ entries) before h = standings-of dii entries (with_entry dii before entry) (with_entry-of dii before entry h)

find-of : (dii : Dii) (number : ℕ) (l : List Standing) (s : Standing) → All (IsOf dii) l → find (is_of_module number) l ≡ Some s → IsOf dii s
find-of dii number [] s h e = cc
find-of dii number (x ∷ l) s h e = by (is_of_module number x) (λ f. find-of dii number l s (All-tail (IsOf dii) x l h) f) e where
  by : (t : Bool) → (find (is_of_module number) l ≡ Some s → IsOf dii s) → cond t (Some x) (find (is_of_module number) l) ≡ Some s → IsOf dii s
  by true again f = let same : x ≡ s = cc in rw same at (All-head (IsOf dii) x l h)
  by false again f = again f

pub standing-of : (dii : Dii) (number : ℕ) (s : Standing) → standing_of (Some dii) number ≡ Some s → IsOf dii s
standing-of dii number s e = find-of dii number (fold (with_entry dii) [] dii.entries) s (standings-of dii dii.entries [] (All-nil (IsOf dii))) e

-- ---- a DII that stays in force

later-repeat : (dii other : Dii) → other.transaction ≡ dii.transaction → later (Some dii) (Indication other) ≡ Some dii
later-repeat dii other h = ap (λ (t : Bool). Some (if t then dii else other)) (eq-eqb other.transaction dii.transaction h)

in_force-behind : (dii : Dii) (l : List Message) → OnlyRepeats dii.transaction l → fold later (Some dii) l ≡ Some dii
in_force-behind dii [] h = refl
in_force-behind dii (Indication other ∷ l) h = ap (λ f. fold later f l) (later-repeat dii other h.0) ∙ in_force-behind dii l h.1
in_force-behind dii (Data block ∷ l) h = in_force-behind dii l h

pub in_force-repeats : (dii : Dii) (l : List Message) → OnlyRepeats dii.transaction l → in_force (Indication dii ∷ l) ≡ Some dii
in_force-repeats dii l h = in_force-behind dii l h

-- ---- the blocks that count

same_skip-itself : (a : Option SkipCause) → same_skip a a ≡ true
same_skip-itself None = refl
same_skip-itself (Some Compressed) = refl
same_skip-itself (Some Large) = refl

itself : (n : ℕ) → (n == n) ≡ true
itself n = eq-eqb n n refl

same_standing_yes : (a : Standing) → same_standing a a ≡ true
same_standing_yes a =
    and_from _ _ (itself a.download) (and_from _ _ (itself a.block_size) (and_from _ _ (itself a.entry.id) (and_from _ _ (itself a.entry.size)
    (and_from _ _ (itself a.entry.version) (and_from _ _ ((bytes_eq-Decides a.entry.info a.entry.info).1 refl) (same_skip-itself a.skip))))))

unchanged-here : (dii : Dii) (m : ℕ) (s : Standing) → standing_of (Some dii) m ≡ Some s → unchanged (Some s) (standing_of (Some dii) m) ≡ true
unchanged-here dii m s e = ap (unchanged (Some s)) e ∙ same_standing_yes s

stays-repeats : (dii : Dii) (m : ℕ) (s : Standing) (l : List Message) → standing_of (Some dii) m ≡ Some s → OnlyRepeats dii.transaction l → stays (Some s) (Some dii) m l ≡ true
stays-repeats dii m s [] e h = unchanged-here dii m s e
stays-repeats dii m s (Indication other ∷ l) e h =
    and_from _ _ (unchanged-here dii m s e) (ap (λ f. stays (Some s) f m l) (later-repeat dii other h.0) ∙ stays-repeats dii m s l e h.1)
stays-repeats dii m s (Data block ∷ l) e h = and_from _ _ (unchanged-here dii m s e) (stays-repeats dii m s l e h)

-- a DII brings no block
none-asked : (t : Bool) (s : Option Standing) (dii : Dii) (x : List DataBlock) → (if t then option_to_list (asked_block s (Indication dii)) else []) ++ x ≡ x
none-asked true s dii x = refl
none-asked false s dii x = refl

counting-behind : (dii : Dii) (m : ℕ) (s : Standing) (l : List Message) → OnlyRepeats dii.transaction l → standing_of (Some dii) m ≡ Some s → counting_blocks (Some dii) m l ≡ filter (is_asked s) (data_of l)
counting-behind dii m s [] h e = refl
counting-behind dii m s (Indication other ∷ l) h e =
    none-asked (stays (standing_of (Some dii) m) (later (Some dii) (Indication other)) m l) (standing_of (Some dii) m) other (counting_blocks (later (Some dii) (Indication other)) m l)
    ∙ ap (λ f. counting_blocks f m l) (later-repeat dii other h.0) ∙ counting-behind dii m s l h.1 e
counting-behind dii m s (Data block ∷ l) h e =
    ap (λ o. (if stays o (Some dii) m l then option_to_list (asked_block o (Data block)) else []) ++ counting_blocks (Some dii) m l) e
    ∙ ap (λ (t : Bool). (if t then option_to_list (asked_block (Some s) (Data block)) else []) ++ counting_blocks (Some dii) m l) (stays-repeats dii m s l e h)
    ∙ ap (λ x. option_to_list (asked_block (Some s) (Data block)) ++ x) (counting-behind dii m s l h e)
    ∙ one (is_asked s block)
  where
    one : (t : Bool) → option_to_list (if t then Some block else None) ++ filter (is_asked s) (data_of l) ≡ (if t then block ∷ filter (is_asked s) (data_of l) else filter (is_asked s) (data_of l))
    one true = refl
    one false = refl

pub counting-repeats : (dii : Dii) (l : List Message) (m : ℕ) (s : Standing) → OnlyRepeats dii.transaction l → standing_of (Some dii) m ≡ Some s → counting_blocks None m (Indication dii ∷ l) ≡ filter (is_asked s) (data_of l)
counting-repeats dii l m s h e = none-asked (stays None (Some dii) m l) None dii (counting_blocks (Some dii) m l) ∙ counting-behind dii m s l h e
