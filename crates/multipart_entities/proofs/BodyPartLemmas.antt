-- The body parts between delimiters, and their parts.
use Rattle.std.proofs.Common.{◌≡◌, ℕ, ◌+◌, ◌-◌, ◌^◌, ◌≤◌, Bool, true, false, cond, min, List, [], ◌∷◌, ◌++◌, length, take, drop, append_assoc, append-nil, Option, Some, None, Ok, Err, Result, refl, sym, ◌∙◌, ap, arith}
use Rattle.std.specs.Prelude.{◌&&◌, option_map, option_and_then}
use Rattle.std.specs.Option.{option_to_list}
use Rattle.std.specs.Result.{OnOk}
use Rattle.std.specs.List.{cons_option, filter_map, slice_range}
use Rattle.std.proofs.lemmas.List.{length-append}
use Rattle.multipart_entities.specs.declared.parts.Part.{Part}
use Rattle.multipart_entities.specs.declared.body_parts.BodyParts.{BodyParts}
use Rattle.multipart_entities.specs.Lines.{lines_of}
use Rattle.multipart_entities.specs.Heads.{Head, head_in, is_binary, is_good, name_of}
use Rattle.multipart_entities.specs.HeadViews.{good_head, head_values, values_if_good}
use Rattle.multipart_entities.specs.Boundaries.{Delimiter}
use Rattle.multipart_entities.specs.Entities.{BodyPart, part_behind, part_between, part_with, body_parts, up_to_last}
use Rattle.multipart_entities.specs.Parts.{first_of_each}
use Rattle.multipart_entities.specs.PartViews.{StandFor, part_by, parts_of, with_part}
use Rattle.multipart_entities.proofs.LineLemmas.{lines-none}
use Rattle.multipart_entities.proofs.NameLemmas.{first-none, first-push}

-- ---- one part

with-by : (t : Bool) (name : List ℕ) (start end size : ℕ) → (let part : Part = record { name = name; start = start + size; end = end } in cond t (Some part) None)
    ≡ option_map (λ name. record { name = name; start = start + size; end = end }) (cond t (Some name) None)
with-by true name start end size = refl
with-by false name start end size = refl

-- the part with a good head
pub part-good : (start end : ℕ) (head : Head) → is_good head ≡ true → part_with start end head ≡ part_by start end (head_values head)
part-good start end head e =
    ap (λ b. cond (b && is_binary head) (Some (record { name = name_of head; start = start + head.size; end = end })) None) e
    ∙ with-by (is_binary head) (name_of head) start end head.size

behind-by : (start end : ℕ) (head : Head) (t : Bool) → is_good head ≡ t → part_with start end head ≡ option_and_then (part_by start end) (cond t (Some (head_values head)) None)
behind-by start end head true e = part-good start end head e
behind-by start end head false e = ap (λ b. cond (b && is_binary head) (Some (record { name = name_of head; start = start + head.size; end = end })) None) e

behind-head_values : (start end : ℕ) (o : Option Head) → part_behind start end o ≡ option_and_then (part_by start end) (option_and_then values_if_good o)
behind-head_values start end None = refl
behind-head_values start end (Some head) = behind-by start end head (is_good head) refl

pub between-head_values : (bytes : List ℕ) (start end : ℕ) → part_between bytes start end ≡ option_and_then (part_by start end) (good_head (slice_range bytes start end))
unfolding part_between
between-head_values bytes start end = behind-head_values start end (head_in (lines_of (slice_range bytes start end)))

-- no bytes are no part
pub between-none : (bytes : List ℕ) (start end : ℕ) → end ≤ start → part_between bytes start end ≡ None
between-none bytes start end h =
    let n : end - start ≡ 0 = omega arith in
    between-head_values bytes start end ∙ ap (option_and_then (part_by start end)) (ap (λ k. good_head (take k (drop start bytes))) n ∙ ap (λ l. option_and_then values_if_good (head_in l)) lines-none)

-- ---- one body part more

abbrev pub body_part_at : ℕ → ℕ → BodyPart
body_part_at start end = record { start = start; end = end }

last-by : {B : Type 0} → (o : Option B) → cons_option o [] ≡ option_to_list o
last-by None = refl
last-by (Some y) = refl

more-by : {B : Type 0} → (o : Option B) (xs ys zs : List B) → xs ≡ ys ++ zs → cons_option o xs ≡ cons_option o ys ++ zs
more-by None xs ys zs e = e
more-by (Some y) xs ys zs e = ap (λ l. y ∷ l) e

map-push : {A B : Type 0} → (f : A → Option B) (xs : List A) (x : A) → filter_map f (xs ++ x ∷ []) ≡ filter_map f xs ++ option_to_list (f x)
map-push f [] x = last-by (f x)
map-push f (y ∷ xs) x = more-by (f y) (filter_map f (xs ++ x ∷ [])) (filter_map f xs) (option_to_list (f x)) (map-push f xs x)

parts-push : (bytes : List ℕ) (done : List BodyPart) (start end : ℕ) → parts_of bytes (done ++ body_part_at start end ∷ []) ≡ parts_of bytes done ++ option_to_list (part_between bytes start end)
parts-push bytes done start end = map-push (λ body_part. part_between bytes body_part.start body_part.end) done (body_part_at start end)

length-push : (done : List BodyPart) (body_part : BodyPart) → length (done ++ body_part ∷ []) ≡ length done + 1
length-push done body_part = let e : length (done ++ body_part ∷ []) ≡ length done + length (body_part ∷ []) = length-append done (body_part ∷ []) in omega (arith, e)

-- the number counts up to its type's end
pub count-more : (count more : ℕ) (done : List BodyPart) (body_part : BodyPart) → count ≡ min (length done) (2 ^ 64 - 1) → more ≡ min (count + 1) (2 ^ 64 - 1) → more ≡ min (length (done ++ body_part ∷ [])) (2 ^ 64 - 1)
count-more count more done body_part e f = let n : length (done ++ body_part ∷ []) ≡ length done + 1 = length-push done body_part in omega (arith, n, e, f)

pub stand-none : (bytes : List ℕ) (read : BodyParts) → read.count ≡ 0 → read.parts ≡ [] → StandFor bytes read []
stand-none bytes read e f = record { count = e ∙ omega arith; parts = λ _. f ∙ sym first-none }

-- the body part is a part
pub stand-some : (bytes : List ℕ) (old new : BodyParts) (done : List BodyPart) (start end : ℕ) (part : Part) → StandFor bytes old done → new.count ≡ min (old.count + 1) (2 ^ 64 - 1) → part_between bytes start end ≡ Some part → new.parts ≡ with_part old.parts part
    → StandFor bytes new (done ++ body_part_at start end ∷ [])
stand-some bytes old new done start end part h e f g =
    record {
      count = count-more old.count new.count done (body_part_at start end) h.count e;
      parts = λ k. g ∙ (ap (λ l. with_part l part) (h.parts (let n : length (done ++ body_part_at start end ∷ []) ≡ length done + 1 = length-push done (body_part_at start end) in omega (arith, n, k)))
          ∙ (sym (first-push (parts_of bytes done) part) ∙ sym (ap first_of_each (parts-push bytes done start end ∙ ap (λ o. parts_of bytes done ++ option_to_list o) f))));
    }

-- the body part is none
pub stand-skip : (bytes : List ℕ) (old new : BodyParts) (done : List BodyPart) (start end : ℕ) → StandFor bytes old done → new.count ≡ min (old.count + 1) (2 ^ 64 - 1) → part_between bytes start end ≡ None → new.parts ≡ old.parts
    → StandFor bytes new (done ++ body_part_at start end ∷ [])
stand-skip bytes old new done start end h e f g =
    record {
      count = count-more old.count new.count done (body_part_at start end) h.count e;
      parts = λ k. g ∙ (h.parts (let n : length (done ++ body_part_at start end ∷ []) ≡ length done + 1 = length-push done (body_part_at start end) in omega (arith, n, k))
          ∙ sym (ap first_of_each (parts-push bytes done start end ∙ (ap (λ o. parts_of bytes done ++ option_to_list o) f ∙ append-nil (parts_of bytes done)))));
    }

-- ---- body parts, delimiter by delimiter

-- the body parts from a delimiter on, where these stand behind it
abbrev pub body_parts_from : Delimiter → List Delimiter → Option (List BodyPart)
body_parts_from one more = option_map body_parts (up_to_last (one ∷ more))

abbrev pub body_part_between : Delimiter → Delimiter → BodyPart
body_part_between one two = body_part_at one.next (two.start - 2)

next-by : (one two : Delimiter) (t : Bool) (o : Option (List Delimiter)) → option_map body_parts (option_map (λ behind. one ∷ behind) (cond t (Some (two ∷ [])) (option_map (λ behind. two ∷ behind) o)))
    ≡ option_map (λ l. body_part_between one two ∷ l) (option_map body_parts (cond t (Some (two ∷ [])) (option_map (λ behind. two ∷ behind) o)))
next-by one two true o = refl
next-by one two false None = refl
next-by one two false (Some l) = refl

pub body_parts-next : (one two : Delimiter) (more : List Delimiter) → one.last ≡ false → body_parts_from one (two ∷ more) ≡ option_map (λ l. body_part_between one two ∷ l) (body_parts_from two more)
body_parts-next one two more e =
    ap (λ b. option_map body_parts (cond b (Some (one ∷ [])) (option_map (λ behind. one ∷ behind) (up_to_last (two ∷ more))))) e ∙ next-by one two two.last (up_to_last more)

onto-by : (done : List BodyPart) (body_part : BodyPart) (o : Option (List BodyPart)) → option_map (λ l. done ++ l) (option_map (λ l. body_part ∷ l) o) ≡ option_map (λ l. (done ++ body_part ∷ []) ++ l) o
onto-by done body_part None = refl
onto-by done body_part (Some l) = ap Some (sym (append_assoc done (body_part ∷ []) l))

first-by : (o : Option (List BodyPart)) → o ≡ option_map (λ l. [] ++ l) o
first-by None = refl
first-by (Some l) = refl

-- all body parts are those done, and those from the delimiter on
pub record Reads (all : Option (List BodyPart)) (done : List BodyPart) (one : Delimiter) (more : List Delimiter) : Type 0 where
  pub is_it : all ≡ option_map (λ l. done ++ l) (body_parts_from one more)

-- all body parts of some delimiters
abbrev pub body_parts_of : List Delimiter → Option (List BodyPart)
body_parts_of found = option_map body_parts (up_to_last found)

pub reads-first : (found : List Delimiter) (one : Delimiter) (more : List Delimiter) → found ≡ one ∷ more → Reads (body_parts_of found) [] one more
reads-first found one more e = record { is_it = ap body_parts_of e ∙ first-by (body_parts_from one more) }

pub reads-next : (all : Option (List BodyPart)) (done : List BodyPart) (one two : Delimiter) (behind more : List Delimiter) → Reads all done one behind → one.last ≡ false → behind ≡ two ∷ more → Reads all (done ++ body_part_between one two ∷ []) two more
reads-next all done one two behind more h e f =
    record { is_it = h.is_it ∙ (ap (option_map (λ l. done ++ l)) (ap (body_parts_from one) f ∙ body_parts-next one two more e) ∙ onto-by done (body_part_between one two) (body_parts_from two more)) }

-- ---- what follows from a clause on Ok

pub on-ok : {T E P Q : Type 0} → (r : Result T E) → OnOk r P → (P → Q) → OnOk r Q
on-ok (Ok x) p f = f p
on-ok (Err e) p f = tt
