-- Entities, by what is kept of their heads.
use Rattle.std.proofs.Common.{◌≡◌, ℕ, Bool, true, false, cond, List, length, Option, Some, None, Ok, Err, refl, sym, ◌∙◌, ap, subst}
use Rattle.std.specs.Prelude.{option_and_then}
use Rattle.std.specs.Option.{option_to_list}
use Rattle.multipart_entities.specs.declared.faults.EntityFault.TheVariants.{Malformed}
use Rattle.multipart_entities.specs.Lines.{lines_of}
use Rattle.multipart_entities.specs.Heads.{Head, head_in, is_good, media_of}
use Rattle.multipart_entities.specs.HeadViews.{HeadValues, good_head, head_values, values_if_good}
use Rattle.multipart_entities.specs.Boundaries.{boundary_in, is_multipart}
use Rattle.multipart_entities.specs.Entities.{entity, part_with, parts_behind, parts_by, parts_of_media}
use Rattle.multipart_entities.specs.Parts.{named_parts}
use Rattle.multipart_entities.specs.PartViews.{part_by, multipart_in, named, named_by}
use Rattle.multipart_entities.proofs.FrontLemmas.{some-same}
use Rattle.multipart_entities.proofs.NameLemmas.{first-one}
use Rattle.multipart_entities.proofs.BodyPartLemmas.{part-good}

named-is : (bytes : List ℕ) → named_parts bytes ≡ named (parts_behind bytes (head_in (lines_of bytes)))
unfolding entity
named-is bytes = refl

-- ---- without a good head

bad-by : (bytes : List ℕ) (head : Head) (t : Bool) → cond t (Some (head_values head)) None ≡ None → cond t (parts_of_media bytes head (media_of head)) (Err Malformed) ≡ Err Malformed
bad-by bytes head true e = absurd (cc e)
bad-by bytes head false e = refl

bad : (bytes : List ℕ) (o : Option Head) → option_and_then values_if_good o ≡ None → parts_behind bytes o ≡ Err Malformed
bad bytes None e = refl
bad bytes (Some head) e = bad-by bytes head (is_good head) e

pub entity-bad : (bytes : List ℕ) → good_head bytes ≡ None → named_parts bytes ≡ Err Malformed
entity-bad bytes e = named-is bytes ∙ ap named (bad bytes (head_in (lines_of bytes)) e)

-- ---- with a good head

-- the head that was kept
record IsHeadValues (o : Option Head) (k : HeadValues) : Type 0 where
  head : Head
  is_it : o ≡ Some head
  good : is_good head ≡ true
  same : head_values head ≡ k

head_values-by : (head : Head) (k : HeadValues) (t : Bool) → is_good head ≡ t → cond t (Some (head_values head)) None ≡ Some k → IsHeadValues (Some head) k
head_values-by head k true p e = record { head = head; is_it = refl; good = p; same = some-same (head_values head) k e }
head_values-by head k false p e = absurd (cc e)

head_values-is : (o : Option Head) (k : HeadValues) → option_and_then values_if_good o ≡ Some k → IsHeadValues o k
head_values-is None k e = absurd (cc e)
head_values-is (Some head) k e = head_values-by head k (is_good head) refl e

media-is : (bytes : List ℕ) (k : HeadValues) (h : IsHeadValues (head_in (lines_of bytes)) k) → named_parts bytes ≡ named (parts_of_media bytes h.head (media_of h.head))
media-is bytes k h =
    named-is bytes
    ∙ (ap (λ o. named (parts_behind bytes o)) h.is_it ∙ ap (λ b. named (cond b (parts_of_media bytes h.head (media_of h.head)) (Err Malformed))) h.good)

-- ---- one part

only-by : (bytes : List ℕ) (head : Head) (media : List ℕ) (t : Bool) → cond t (Some media) None ≡ None
    → cond t (parts_by bytes head.size (boundary_in media)) (Ok (option_to_list (part_with 0 (length bytes) head))) ≡ Ok (option_to_list (part_with 0 (length bytes) head))
only-by bytes head media true e = absurd (cc e)
only-by bytes head media false e = refl

only : (bytes : List ℕ) (head : Head) (o : Option (List ℕ)) → multipart_in o ≡ None → parts_of_media bytes head o ≡ Ok (option_to_list (part_with 0 (length bytes) head))
only bytes head None e = refl
only bytes head (Some media) e = only-by bytes head media (is_multipart media) e

pub entity-only : (bytes : List ℕ) (k : HeadValues) → good_head bytes ≡ Some k → multipart_in k.media ≡ None → named_parts bytes ≡ Ok (option_to_list (part_by 0 (length bytes) k))
entity-only bytes k e m =
    let h = head_values-is (head_in (lines_of bytes)) k e in
    let none : multipart_in (media_of h.head) ≡ None = subst (λ (x : HeadValues). multipart_in x.media ≡ None) (sym h.same) m in
    media-is bytes k h
    ∙ (ap named (only bytes h.head (media_of h.head) none)
    ∙ (ap Ok (first-one (part_with 0 (length bytes) h.head))
    ∙ ap (λ o. Ok (option_to_list o)) (part-good 0 (length bytes) h.head h.good ∙ ap (part_by 0 (length bytes)) h.same)))

-- ---- several parts

several-by : (bytes : List ℕ) (head : Head) (media other : List ℕ) (t : Bool) → cond t (Some other) None ≡ Some media
    → cond t (parts_by bytes head.size (boundary_in other)) (Ok (option_to_list (part_with 0 (length bytes) head))) ≡ parts_by bytes head.size (boundary_in media)
several-by bytes head media other true e = ap (λ m. parts_by bytes head.size (boundary_in m)) (some-same other media e)
several-by bytes head media other false e = absurd (cc e)

several : (bytes : List ℕ) (head : Head) (media : List ℕ) (o : Option (List ℕ)) → multipart_in o ≡ Some media → parts_of_media bytes head o ≡ parts_by bytes head.size (boundary_in media)
several bytes head media None e = absurd (cc e)
several bytes head media (Some other) e = several-by bytes head media other (is_multipart other) e

pub entity-several : (bytes : List ℕ) (k : HeadValues) (media : List ℕ) → good_head bytes ≡ Some k → multipart_in k.media ≡ Some media → named_parts bytes ≡ named (parts_by bytes k.size (boundary_in media))
entity-several bytes k media e m =
    let h = head_values-is (head_in (lines_of bytes)) k e in
    let some : multipart_in (media_of h.head) ≡ Some media = subst (λ (x : HeadValues). multipart_in x.media ≡ Some media) (sym h.same) m in
    media-is bytes k h ∙ (ap named (several bytes h.head media (media_of h.head) some) ∙ ap (λ (x : HeadValues). named (parts_by bytes x.size (boundary_in media))) h.same)

pub entity-unbounded : (bytes : List ℕ) (k : HeadValues) (media : List ℕ) → good_head bytes ≡ Some k → multipart_in k.media ≡ Some media → boundary_in media ≡ None → named_parts bytes ≡ Err Malformed
entity-unbounded bytes k media e m b = entity-several bytes k media e m ∙ ap (λ o. named (parts_by bytes k.size o)) b

pub entity-bounded : (bytes : List ℕ) (k : HeadValues) (media boundary : List ℕ) → good_head bytes ≡ Some k → multipart_in k.media ≡ Some media → boundary_in media ≡ Some boundary → named_parts bytes ≡ named_by bytes k.size boundary
entity-bounded bytes k media boundary e m b = entity-several bytes k media e m ∙ ap (λ o. named (parts_by bytes k.size o)) b
