-- The head of a part, and its lines.
use Rattle.std.proofs.Common.{◌≡◌, ◌≢◌, ℕ, ◌+◌, ◌≤◌, Bool, true, false, cond, List, [], ◌∷◌, ◌++◌, length, Some, None, refl, ◌∙◌, ap, arith}
use Rattle.std.specs.Prelude.{◌&&◌, codes as ascii}
use Rattle.std.specs.List.{All, after_last}
use Rattle.std.proofs.lemmas.Bool.Decides.{nat_tests}
use Rattle.std.proofs.lemmas.List.Elements.{All-append}
use Rattle.std.proofs.lemmas.List.Sums.{AllPass-from_list_all}
use Rattle.std.specs.List.{list_all}
use Rattle.std.specs.Prelude.{nat_le}
use Rattle.bml_bytes.specs.Codes.{bytes_of, codes}
use Rattle.multipart_entities.specs.declared.parts.Part.{Part}
use Rattle.multipart_entities.specs.Lines.{is_blank, lines_of, line_then, without_blanks}
use Rattle.carousel_writer.proofs.EntityForms.{CanBePart, IsClear, IsNameCode, IsWord, lines-cons, word-line}
use Rattle.carousel_writer.specs.Entities.{part_bytes}
use Rattle.carousel_writer.proofs.EntityDelimiters.{clear-both, clear-none, clear-other}
use Rattle.carousel_writer.specs.devices.LawsBelow.{EntityLaws}
use Rattle.multipart_entities.specs.Heads.{Head, head_in, header, is_binary, is_good, is_slash, media_of, name_of}
use Rattle.multipart_entities.specs.Entities.{part_behind}
use Rattle.carousel_writer.specs.declared.files.FilePart.{FilePart}
use Rattle.carousel_writer.proofs.NameBytes.{own-all}
use Rattle.carousel_writer.proofs.HeaderValues.{after_last-none, value-none, value-space}

abbrev pub type_line : List ℕ → List ℕ
type_line media = ascii "Content-Type: " ++ media

abbrev pub location_line : List ℕ → List ℕ
location_line name = ascii "Content-Location: " ++ name

abbrev pub head_of : List ℕ → List ℕ → Head
head_of media name = record { lines = type_line media ∷ location_line name ∷ []; size = length (type_line media) + 2 + (length (location_line name) + 2 + 2) }

-- ---- lines

head-by : (media name : List ℕ) (all : List (List ℕ)) → ((line : List ℕ) × (lines : List (List ℕ)) × (all ≡ line ∷ lines)) → head_in (type_line media ∷ location_line name ∷ [] ∷ all) ≡ Some (head_of media name)
head-by media name all h = ap (λ l. head_in (type_line media ∷ location_line name ∷ [] ∷ l)) h.2

good : (media name : List ℕ) → is_good (head_of media name) ≡ true
good media name = refl

binary : (media name : List ℕ) → is_binary (head_of media name) ≡ true
unfolding header
binary media name = refl

named : (media name : List ℕ) → All (λ x. is_blank x ≡ false) name → All (λ x. is_slash x ≡ false) name → name_of (head_of media name) ≡ codes name
unfolding header
named media name h g = ap (λ l. codes (after_last is_slash l)) (value-none name h) ∙ ap codes (after_last-none is_slash name g)

media-told : (media name : List ℕ) → media_of (head_of media name) ≡ Some (without_blanks (32 ∷ media))
unfolding header
media-told media name = refl

-- ---- words

word-test : (x : ℕ) → nat_le 32 x ≡ true → 32 ≤ x
word-test x e = grind (arith, nat_tests)

pub word-literal : (xs : List ℕ) → list_all (nat_le 32) xs ≡ true → IsWord xs
word-literal xs e = λ k d b. word-test _ (AllPass-from_list_all (nat_le 32) xs e k d b)

large-word : (b : ℕ) → 142 ≤ b → 32 ≤ b
large-word b h = omega arith

large-name : (b : ℕ) → 142 ≤ b → IsNameCode b
large-name b h = let one : 33 ≤ b = omega arith in let two : b ≢ 47 = λ e. omega (arith, e) in (one, two)

not_blank : (b : ℕ) → 33 ≤ b → is_blank b ≡ false
not_blank b h = grind (arith, nat_tests)

not_slash : (b : ℕ) → b ≢ 47 → is_slash b ≡ false
not_slash b h = grind (arith, nat_tests)

both : (s t : Bool) → s ≡ true → t ≡ true → (s && t) ≡ true
both s t e f = rw (e, f) refl

module _ (laws : EntityLaws) (boundary : List ℕ) (part : FilePart) (can : CanBePart boundary part) where
  type_word : IsWord (type_line (bytes_of part.media))
  type_word = All-append (λ b. 32 ≤ b) (ascii "Content-Type: ") (bytes_of part.media) (word-literal (ascii "Content-Type: ") refl) (own-all laws (λ b. 32 ≤ b) large-word part.media can.media_own can.media_word)

  name_bytes : All IsNameCode (bytes_of part.name)
  name_bytes = own-all laws IsNameCode large-name part.name can.name_own can.name_word

  location_word : IsWord (location_line (bytes_of part.name))
  location_word = All-append (λ b. 32 ≤ b) (ascii "Content-Location: ") (bytes_of part.name) (word-literal (ascii "Content-Location: ") refl) (λ k d b. let h = (name_bytes k d b).0 in omega (arith, h))

  pub part_lines : lines_of (part_bytes part) ≡ type_line (bytes_of part.media) ∷ location_line (bytes_of part.name) ∷ [] ∷ lines_of part.bytes.items
  part_lines =
      let two = line_then (location_line (bytes_of part.name)) (line_then [] part.bytes.items) in
      laws.lines (type_line (bytes_of part.media)) two
      ∙ (ap (λ l. l ++ lines_of two) (laws.one (type_line (bytes_of part.media)) (word-line (type_line (bytes_of part.media)) type_word))
      ∙ ap (λ l. type_line (bytes_of part.media) ∷ l)
      (laws.lines (location_line (bytes_of part.name)) (line_then [] part.bytes.items)
      ∙ (ap (λ l. l ++ lines_of (line_then [] part.bytes.items)) (laws.one (location_line (bytes_of part.name)) (word-line (location_line (bytes_of part.name)) location_word))
      ∙ ap (λ l. location_line (bytes_of part.name) ∷ l) (laws.lines [] part.bytes.items ∙ ap (λ l. l ++ lines_of part.bytes.items) (laws.one [] (λ k d b. absurd (omega (arith, b))))))))

  pub part_head : head_in (lines_of (part_bytes part)) ≡ Some (head_of (bytes_of part.media) (bytes_of part.name))
  part_head = ap head_in part_lines ∙ head-by (bytes_of part.media) (bytes_of part.name) (lines_of part.bytes.items) (lines-cons part.bytes.items)

  pub part_name : name_of (head_of (bytes_of part.media) (bytes_of part.name)) ≡ part.name
  part_name = named (bytes_of part.media) (bytes_of part.name) (λ k d b. not_blank _ (name_bytes k d b).0) (λ k d b. not_slash _ (name_bytes k d b).1) ∙ can.name_own

  -- what such bytes are as a part
  pub part_is : (start end : ℕ) → part_behind start end (head_in (lines_of (part_bytes part))) ≡ Some (record { name = part.name; start = start + (head_of (bytes_of part.media) (bytes_of part.name)).size; end = end })
  part_is start end =
      let head = head_of (bytes_of part.media) (bytes_of part.name) in
      ap (part_behind start end) part_head
      ∙ (ap (λ t. cond t (Some (record { name = name_of head; start = start + head.size; end = end })) None) (both (is_good head) (is_binary head) (good (bytes_of part.media) (bytes_of part.name)) (binary (bytes_of part.media) (bytes_of part.name)))
      ∙ ap (λ (name : List ℕ). let part : Part = record { name = name; start = start + head.size; end = end } in Some part) part_name)

  pub part_clear : IsClear boundary (part_bytes part)
  part_clear =
      let media = bytes_of part.media in
      let name = bytes_of part.name in
      clear-both laws boundary (type_line media) (line_then (location_line name) (line_then [] part.bytes.items)) (clear-other laws boundary (ascii "ontent-Type: " ++ media) type_word)
      (clear-both laws boundary (location_line name) (line_then [] part.bytes.items) (clear-other laws boundary (ascii "ontent-Location: " ++ name) location_word)
      (clear-both laws boundary [] part.bytes.items (clear-none laws boundary) (λ place. laws.none boundary part.bytes.items place can.outside)))

  -- the media type that the head tells
  pub part_media : media_of (head_of (bytes_of part.media) (bytes_of part.name)) ≡ Some (without_blanks (bytes_of part.media))
  part_media = media-told (bytes_of part.media) (bytes_of part.name) ∙ ap Some (value-space (bytes_of part.media))
