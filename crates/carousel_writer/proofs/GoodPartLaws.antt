-- What the tests say.
use Rattle.std.proofs.Common.{◌≡◌, ◌≢◌, ℕ, ◌≤◌, ◌<◌, Bool, true, false, not, List, [], ◌∷◌, ◌++◌, length, map, Option, Some, None, Ok, refl, arith}
use Rattle.std.specs.Prelude.{◌&&◌, ◌||◌, is_none, nat_le, codes as ascii}
use Rattle.std.specs.List.{All, list_all, list_any}
use Rattle.std.proofs.lemmas.Bool.{and_parts}
use Rattle.bml_bytes.specs.Words.{is_same}
use Rattle.std.proofs.lemmas.Bool.Decides.{nat_tests}
use Rattle.std.proofs.lemmas.List.Elements.{All-cons, All-head, All-nil, All-tail}
use Rattle.std.proofs.lemmas.List.Sums.{AllPass-from_list_all}
use Rattle.bml_bytes.specs.Codes.{bytes_of, code_bytes, codes}
use Rattle.multipart_entities.specs.Lines.{behind_first, without_blanks}
use Rattle.carousel_writer.specs.GoodParts.{are_good_parts, have_own_names, is_boundary, is_boundary_code, is_good_list, is_media, is_media_code, is_name, is_name_code, is_outside, is_own, is_part}
use Rattle.carousel_writer.proofs.EntityForms.{CanBeBoundary, CanBePart, HaveOwnNames, IsNameCode}
use Rattle.carousel_writer.specs.Entities.{entity_bytes, file_seen, parts_read, media_read}
use Rattle.carousel_writer.specs.declared.files.FilePart.{FilePart}
use Rattle.carousel_writer.proofs.EntityLaws.{media-written, parts-written}
use Rattle.carousel_writer.specs.devices.LawsBelow.{EntityLaws}

-- ---- the boundary

small : (code : ℕ) → is_boundary_code code ≡ true → code < 256
small code e = grind (arith, nat_tests)

large : (code : ℕ) → is_boundary_code code ≡ true → 48 ≤ code
large code e = grind (arith, nat_tests)

single-by : (c : ℕ) → c < 256 → code_bytes c ≡ c ∷ []
single-by c h = grind (arith, nat_tests)

singles : (cs : List ℕ) → All (λ c. c < 256) cs → bytes_of cs ≡ cs
singles [] h = refl
singles (c ∷ cs) h = rw (single-by c (All-head (λ c. c < 256) c cs h), singles cs (All-tail (λ c. c < 256) c cs h)) refl

record Boundary (boundary : List ℕ) : Type 0 where
  some : nat_le 1 (length boundary) ≡ true
  codes_are : list_all is_boundary_code boundary ≡ true

boundary-parts : (boundary : List ℕ) → is_boundary boundary ≡ true → Boundary boundary
boundary-parts boundary e =
    let one = and_parts (nat_le 1 (length boundary)) (nat_le (length boundary) 60 && list_all is_boundary_code boundary) e in
    let two = and_parts (nat_le (length boundary) 60) (list_all is_boundary_code boundary) one.1 in
    record { some = one.0; codes_are = two.1 }

pub boundary-itself : (boundary : List ℕ) → is_boundary boundary ≡ true → bytes_of boundary ≡ boundary
boundary-itself boundary e = singles boundary (λ k d b. small _ (AllPass-from_list_all is_boundary_code boundary (boundary-parts boundary e).codes_are k d b))

not-empty : (boundary : List ℕ) → nat_le 1 (length boundary) ≡ true → boundary ≢ []
not-empty [] e = absurd (cc e)
not-empty (b ∷ boundary) e = λ f. cc f

can-boundary : (boundary : List ℕ) → is_boundary boundary ≡ true → CanBeBoundary boundary
can-boundary boundary e =
    let h = boundary-parts boundary e in
    record { some = not-empty boundary h.some; letters = λ k d b. large _ (AllPass-from_list_all is_boundary_code boundary h.codes_are k d b) }

-- ---- a part

name-code : (code : ℕ) → is_name_code code ≡ true → IsNameCode code
name-code code e = let one : 33 ≤ code = grind (arith, nat_tests) in let two : code ≢ 47 = grind (arith, nat_tests) in (one, two)

media-code : (code : ℕ) → is_media_code code ≡ true → 32 ≤ code
media-code code e = grind (arith, nat_tests)

none-is : (o : Option (List ℕ)) → is_none o ≡ true → o ≡ None
none-is None e = refl
none-is (Some x) e = absurd (cc e)

can-part : EntityLaws → (boundary : List ℕ) (part : FilePart) → is_part (ascii "--" ++ boundary) part ≡ true → CanBePart boundary part
can-part laws boundary part e =
    let name = part.name in
    let media = part.media in
    let one = and_parts (is_name name) (is_media media && is_outside (ascii "--" ++ boundary) part.bytes.items) e in
    let two = and_parts (is_media media) (is_outside (ascii "--" ++ boundary) part.bytes.items) one.1 in
    let n1 = and_parts (nat_le 1 (length name)) (nat_le (length name) 64 && (list_all is_name_code name && is_own name)) one.0 in
    let n2 = and_parts (nat_le (length name) 64) (list_all is_name_code name && is_own name) n1.1 in
    let n3 = and_parts (list_all is_name_code name) (is_own name) n2.1 in
    let m = and_parts (list_all is_media_code media) (is_own media) two.0 in
    record {
      media_own = (laws.same (codes (bytes_of media)) media).0 m.1;
      name_own = (laws.same (codes (bytes_of name)) name).0 n3.1;
      media_word = λ k d b. media-code _ (AllPass-from_list_all is_media_code media m.0 k d b);
      name_word = λ k d b. name-code _ (AllPass-from_list_all is_name_code name n3.0 k d b);
      outside = none-is (behind_first (ascii "--" ++ boundary) part.bytes.items) two.1;
    }

-- ---- names

or-none : (s t : Bool) → (s || t) ≡ false → (s ≡ false) × (t ≡ false)
or-none true t e = absurd (cc e)
or-none false t e = (refl, e)

differs : EntityLaws → (xs ys : List ℕ) → is_same xs ys ≡ false → xs ≢ ys
differs laws xs ys e = λ f. let t : is_same xs ys ≡ true = (laws.same xs ys).1 f in absurd (cc (e, t))

no-same : EntityLaws → (name : List ℕ) (parts : List FilePart) → list_any (λ (other : FilePart). is_same other.name name) parts ≡ false → All (λ other. other ≢ name) (map (λ (part : FilePart). part.name) parts)
no-same laws name [] e = All-nil (λ other. other ≢ name)
no-same laws name (part ∷ parts) e =
    let h = or-none (is_same part.name name) (list_any (λ (other : FilePart). is_same other.name name) parts) e in
    All-cons (λ other. other ≢ name) part.name (map (λ (part : FilePart). part.name) parts) (differs laws part.name name h.0) (no-same laws name parts h.1)

not-true : (t : Bool) → not t ≡ true → t ≡ false
not-true true e = absurd (cc e)
not-true false e = refl

own-names : EntityLaws → (parts : List FilePart) → have_own_names parts ≡ true → HaveOwnNames (map (λ (part : FilePart). part.name) parts)
own-names laws [] e = tt
own-names laws (part ∷ parts) e =
    let h = and_parts (not (list_any (λ (other : FilePart). is_same other.name part.name) parts)) (have_own_names parts) e in
    (no-same laws part.name parts (not-true (list_any (λ (other : FilePart). is_same other.name part.name) parts) h.0), own-names laws parts h.1)

-- ---- the whole

most : (n : ℕ) → nat_le n 512 ≡ true → n ≤ 512
most n e = grind (arith, nat_tests)

record Good (boundary : List ℕ) (parts : List FilePart) : Type 0 where
  boundary_can : CanBeBoundary boundary
  parts_can : All (CanBePart boundary) parts
  few : length parts ≤ 512
  names : HaveOwnNames (map (λ (part : FilePart). part.name) parts)

good : EntityLaws → (boundary : List ℕ) (parts : List FilePart) → are_good_parts boundary parts ≡ true → Good boundary parts
good laws boundary parts e =
    let word : List ℕ = ascii "--" ++ boundary in
    let all = and_parts (is_good_list boundary parts) (list_all (is_part word) parts) e in
    let one = and_parts (is_boundary boundary) (nat_le 1 (length parts) && (nat_le (length parts) 512 && have_own_names parts)) all.0 in
    let two = and_parts (nat_le 1 (length parts)) (nat_le (length parts) 512 && have_own_names parts) one.1 in
    let three = and_parts (nat_le (length parts) 512) (have_own_names parts) two.1 in
    record {
      boundary_can = can-boundary boundary one.0;
      parts_can = λ k d b. can-part laws boundary _ (AllPass-from_list_all (is_part word) parts all.1 k d b);
      few = most (length parts) three.0;
      names = own-names laws parts three.1;
    }

pub read-again : EntityLaws → (boundary : List ℕ) (parts : List FilePart) → are_good_parts boundary parts ≡ true → parts_read (entity_bytes boundary parts) ≡ Ok (map file_seen parts)
read-again laws boundary parts e = let h = good laws boundary parts e in parts-written laws boundary parts h.boundary_can h.parts_can h.few h.names

pub media-again : EntityLaws → (boundary : List ℕ) (parts : List FilePart) → are_good_parts boundary parts ≡ true
    → media_read boundary (entity_bytes boundary parts) ≡ map (λ (part : FilePart). Some (without_blanks (bytes_of part.media))) parts
media-again laws boundary parts e = let h = good laws boundary parts e in media-written laws boundary parts h.boundary_can h.parts_can

pub good-list : (boundary : List ℕ) (parts : List FilePart) → are_good_parts boundary parts ≡ true → is_good_list boundary parts ≡ true
good-list boundary parts e = (and_parts (is_good_list boundary parts) (list_all (is_part (ascii "--" ++ boundary)) parts) e).0

pub list-boundary : (boundary : List ℕ) (parts : List FilePart) → is_good_list boundary parts ≡ true → is_boundary boundary ≡ true
list-boundary boundary parts e = (and_parts (is_boundary boundary) (nat_le 1 (length parts) && (nat_le (length parts) 512 && have_own_names parts)) e).0

pub boundary-can : (boundary : List ℕ) (parts : List FilePart) → are_good_parts boundary parts ≡ true → is_boundary boundary ≡ true
boundary-can boundary parts e = list-boundary boundary parts (good-list boundary parts e)
