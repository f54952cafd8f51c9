-- The blocks that count stand at places of the list of messages.
use Rattle.std.proofs.Common.{◌≡◌, ℕ, zero, suc, ◌+◌, ◌<◌, Bool, true, false, ◌&&◌, List, [], ◌∷◌, length, take, refl, sym, ap, ap₂, ◌∙◌, subst, arith, if◌then◌else◌, fold, ◌⊎◌, inl, inr}
use Rattle.std.specs.Prelude.{slice_get, slice_index_or, Contains, Option, Some, None, option_to_list}
use Rattle.std.proofs.lemmas.List.Elements.{Contains-append_left, Contains-append_right, Contains-append_cases}
use Rattle.dsmcc_messages.specs.declared.dii.Dii.{Dii}
use Rattle.dsmcc_messages.specs.Ddb.{DataBlock}
use Rattle.carousel_blocks.specs.declared.standing.Standing.{Standing}
use Rattle.carousel_blocks.specs.Message.{Message, Indication, Data}
use Rattle.carousel_blocks.specs.InForce.{later, standing_of}
use Rattle.carousel_blocks.specs.Held.{is_asked_by, asked_block, unchanged, stays, counting_blocks}

-- the same from a DII in force on
pub record CountsFrom (f : Option Dii) (h : List Message) (m : ℕ) (b : DataBlock) (place : ℕ) : Type 0 where
  pub stands : slice_get h place ≡ Some (Data b)
  pub asked : is_asked_by (standing_of (fold later f (take place h)) m) b ≡ true
  pub stays_on : (other : ℕ) → place < other → other < length h + 1 → unchanged (standing_of (fold later f (take place h)) m) (standing_of (fold later f (take other h)) m) ≡ true

first : (a b : Bool) → (a && b) ≡ true → a ≡ true
first true b h = refl
first false b h = h

second : (a b : Bool) → (a && b) ≡ true → b ≡ true
second true b h = h
second false b h = cc

both : (a b : Bool) → a ≡ true → b ≡ true → (a && b) ≡ true
both true b h k = k
both false b h k = h

stays_at : (s : Option Standing) (f : Option Dii) (m : ℕ) (h : List Message) (k : ℕ) → stays s f m h ≡ true → k < length h + 1 → unchanged s (standing_of (fold later f (take k h)) m) ≡ true
stays_at s f m [] zero e l = e
stays_at s f m [] (suc k) e l = absurd (omega arith)
stays_at s f m (y ∷ h) zero e l = first (unchanged s (standing_of f m)) (stays s (later f y) m h) e
stays_at s f m (y ∷ h) (suc k) e l = stays_at s (later f y) m h k (second (unchanged s (standing_of f m)) (stays s (later f y) m h) e) (omega arith)

all_stays : (s : Option Standing) (f : Option Dii) (m : ℕ) (h : List Message) → ((k : ℕ) → k < length h + 1 → unchanged s (standing_of (fold later f (take k h)) m) ≡ true) → stays s f m h ≡ true
all_stays s f m [] each = each 0 (omega arith)
all_stays s f m (y ∷ h) each = both (unchanged s (standing_of f m)) (stays s (later f y) m h) (each 0 (omega arith)) (all_stays s (later f y) m h (λ k l. each (suc k) (omega arith)))

only_one : (x : Option DataBlock) (b : DataBlock) → Contains (option_to_list x) b → x ≡ Some b
only_one None b c = absurd (let l = c.1 in omega arith)
only_one (Some y) b c = by c.0 c.1 c.2 where
  by : (k : ℕ) → k < length (y ∷ []) → slice_index_or (y ∷ []) k b ≡ b → Some y ≡ Some b
  by zero l e = ap (λ x. Some x) e
  by (suc k) l e = absurd (omega arith)

the_one : (b : DataBlock) → Contains (b ∷ []) b
the_one b = (0, omega arith, refl)

pub record Asked (s : Option Standing) (y : Message) (b : DataBlock) : Type 0 where
  pub is : y ≡ Data b
  pub asked : is_asked_by s b ≡ true

asked_is : (s : Option Standing) (y : Message) (b : DataBlock) → asked_block s y ≡ Some b → Asked s y b
asked_is s (Indication dii) b e = cc
asked_is s (Data c) b e = by (is_asked_by s c) refl e where
  by : (t : Bool) → is_asked_by s c ≡ t → (if t then Some c else None) ≡ Some b → Asked s (Data c) b
  by true a e = let q : c ≡ b = cc in record { is = ap (λ x. Data x) q; asked = ap (is_asked_by s) (sym q) ∙ a }
  by false a e = cc

in_first : (t : Bool) (x : Option DataBlock) (b : DataBlock) → Contains (if t then option_to_list x else []) b → (t ≡ true) × (x ≡ Some b)
in_first true x b c = (refl, only_one x b c)
in_first false x b c = absurd (let l = c.1 in omega arith)

-- what counts at the first place, and behind it
pub to_here : (f : Option Dii) (y : Message) (h : List Message) (m : ℕ) (b : DataBlock) → stays (standing_of f m) (later f y) m h ≡ true → asked_block (standing_of f m) y ≡ Some b → CountsFrom f (y ∷ h) m b 0
to_here f y h m b s a =
    let asked = asked_is (standing_of f m) y b a in
    record { stands = ap (λ x. Some x) asked.is; asked = asked.asked; stays_on = λ other l n. on other l n } where
      on : (other : ℕ) → 0 < other → other < length (y ∷ h) + 1 → unchanged (standing_of f m) (standing_of (fold later f (take other (y ∷ h))) m) ≡ true
      on zero l n = absurd (omega arith)
      on (suc k) l n = stays_at (standing_of f m) (later f y) m h k s (omega arith)

pub from_here : (f : Option Dii) (y : Message) (h : List Message) (m : ℕ) (b : DataBlock) → CountsFrom f (y ∷ h) m b 0 → (stays (standing_of f m) (later f y) m h ≡ true) × (asked_block (standing_of f m) y ≡ Some b)
from_here f y h m b r =
    let p = r.stands in
    let q : y ≡ Data b = cc in (
      all_stays (standing_of f m) (later f y) m h (λ k l. r.stays_on (suc k) (omega arith) (omega arith)),
      ap (asked_block (standing_of f m)) q ∙ ap (λ (x : Bool). if x then Some b else None) r.asked,
    )

pub to_behind : (f : Option Dii) (y : Message) (h : List Message) (m : ℕ) (b : DataBlock) (place : ℕ) → CountsFrom (later f y) h m b place → CountsFrom f (y ∷ h) m b (suc place)
to_behind f y h m b place r = record { stands = r.stands; asked = r.asked; stays_on = λ other l n. on other l n } where
  on : (other : ℕ) → suc place < other → other < length (y ∷ h) + 1 → unchanged (standing_of (fold later f (take (suc place) (y ∷ h))) m) (standing_of (fold later f (take other (y ∷ h))) m) ≡ true
  on zero l n = absurd (omega arith)
  on (suc k) l n = r.stays_on k (omega arith) (omega arith)

pub from_behind : (f : Option Dii) (y : Message) (h : List Message) (m : ℕ) (b : DataBlock) (place : ℕ) → CountsFrom f (y ∷ h) m b (suc place) → CountsFrom (later f y) h m b place
from_behind f y h m b place r = record { stands = r.stands; asked = r.asked; stays_on = λ k l n. r.stays_on (suc k) (omega arith) (omega arith) }

pub counts_from : (f : Option Dii) (h : List Message) (m : ℕ) (b : DataBlock) → Contains (counting_blocks f m h) b → (place : ℕ) × CountsFrom f h m b place
counts_from f [] m b c = absurd (let l = c.1 in omega arith)
counts_from f (y ∷ h) m b c =
    by (Contains-append_cases (if stays (standing_of f m) (later f y) m h then option_to_list (asked_block (standing_of f m) y) else []) (counting_blocks (later f y) m h) b c) (counts_from (later f y) h m b) where
      by : Contains (if stays (standing_of f m) (later f y) m h then option_to_list (asked_block (standing_of f m) y) else []) b ⊎ Contains (counting_blocks (later f y) m h) b
          → (Contains (counting_blocks (later f y) m h) b → (place : ℕ) × CountsFrom (later f y) h m b place) → (place : ℕ) × CountsFrom f (y ∷ h) m b place
      by (inl x) again = let p = in_first (stays (standing_of f m) (later f y) m h) (asked_block (standing_of f m) y) b x in (0, to_here f y h m b p.0 p.1)
      by (inr x) again = let r = again x in (suc r.0, to_behind f y h m b r.0 r.1)

pub to_counting : (f : Option Dii) (h : List Message) (m : ℕ) (b : DataBlock) (place : ℕ) → CountsFrom f h m b place → Contains (counting_blocks f m h) b
to_counting f [] m b place r = absurd (let p = r.stands in cc)
to_counting f (y ∷ h) m b zero r =
    let s = standing_of f m in
    let p = r.stands in
    let q : y ≡ Data b = cc in
    let t : stays s (later f y) m h ≡ true = all_stays s (later f y) m h (λ k l. r.stays_on (suc k) (omega arith) (omega arith)) in
    let e : (if stays s (later f y) m h then option_to_list (asked_block s y) else []) ≡ b ∷ [] =
    ap₂ (λ (x : Bool) (z : Message). if x then option_to_list (asked_block s z) else []) t q ∙ ap (λ (x : Bool). option_to_list (if x then Some b else None)) r.asked in
    Contains-append_left (if stays s (later f y) m h then option_to_list (asked_block s y) else []) (counting_blocks (later f y) m h) b (subst (λ (l : List DataBlock). Contains l b) (sym e) (the_one b))
to_counting f (y ∷ h) m b (suc place) r =
    Contains-append_right (if stays (standing_of f m) (later f y) m h then option_to_list (asked_block (standing_of f m) y) else []) (counting_blocks (later f y) m h) b
    (to_counting (later f y) h m b place (record { stands = r.stands; asked = r.asked; stays_on = λ k l n. r.stays_on (suc k) (omega arith) (omega arith) }))
