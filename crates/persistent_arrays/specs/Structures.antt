-- The structure of a persistent array: which fields it has, and how a text spells them (after ARIB STD-B24, volume 2,
-- readPersistentArray and writePersistentArray; which kinds and sizes there are is this project's own profile).
use Rattle.std.specs.Prelude.{◌≡◌, ◌≢◌, ◌≤◌, ◌⊎◌, ◌==◌, ℕ, if◌then◌else◌, List, [], ◌∷◌, ◌++◌, map, find, All, Option, Some, option_map, codes as ascii}
use Rattle.std.specs.List.{range_with_len}
use Rattle.std.specs.Str.{byte}
use Rattle.bml_bytes.specs.Fields.{◌>>=◌}
use Rattle.bml_bytes.specs.Numerals.{decimal_digits}
use Rattle.bml_bytes.specs.Words.{is_same}
use Rattle.persistent_arrays.specs.Arrays.{array_size}
use Rattle.persistent_arrays.specs.declared.kinds.FieldKind.{FieldKind}
use Rattle.persistent_arrays.specs.declared.kinds.FieldKind.TheVariants.{Bit, Unsigned, Signed, Fixed, Varying}

-- the sizes that a field may have: whole numbers have one, two or four bytes, texts of a fixed size at most those of an
-- array
abbrev pub IsKind : FieldKind → Type 0
IsKind Bit = Unit {0}
IsKind (Unsigned size) = (size ≡ 1) ⊎ ((size ≡ 2) ⊎ (size ≡ 4))
IsKind (Signed size) = (size ≡ 1) ⊎ ((size ≡ 2) ⊎ (size ≡ 4))
IsKind (Fixed size) = (1 ≤ size) × (size ≤ array_size)
IsKind Varying = Unit {0}

-- how a field is spelled: `B:1b`, `U:nB`, `I:nB`, `S:nB` with its size in decimal digits, `S:1V`
abbrev pub spelling : FieldKind → List ℕ
spelling Bit = ascii "B:1b"
spelling (Unsigned size) = ascii "U:" ++ decimal_digits size ++ ascii "B"
spelling (Signed size) = ascii "I:" ++ decimal_digits size ++ ascii "B"
spelling (Fixed size) = ascii "S:" ++ decimal_digits size ++ ascii "B"
spelling Varying = ascii "S:1V"

-- texts with a comma between each two
abbrev pub with_commas : List (List ℕ) → List ℕ
with_commas [] = []
with_commas (text ∷ []) = text
with_commas (text ∷ next ∷ texts) = text ++ ascii "," ++ with_commas (next ∷ texts)

-- the fields have their sizes, and there is one at least
pub record IsStructure (kinds : List FieldKind) : Type 0 where
  pub some : kinds ≢ []
  pub sizes : All IsKind kinds

-- the text spells these fields, of which there is one at least; nothing else is between them, no blank either
pub record Spells (text : List ℕ) (kinds : List FieldKind) : Type 0 where
  pub some : kinds ≢ []
  pub sizes : All IsKind kinds
  pub written : text ≡ with_commas (map spelling kinds)

-- ---- what a text spells, worked out; `law_of_structures` says that this is the same

-- all kinds of fields
abbrev pub all_kinds : List FieldKind
all_kinds =
    Bit ∷ Unsigned 1 ∷ Unsigned 2 ∷ Unsigned 4 ∷ Signed 1 ∷ Signed 2 ∷ Signed 4 ∷ Varying
    ∷ map Fixed (range_with_len 1 array_size)

abbrev pub kind_spelled : List ℕ → Option FieldKind
kind_spelled text = find (λ kind. is_same text (spelling kind)) all_kinds

-- the texts with one more code in front of the first
abbrev pub code_in_front : ℕ → List (List ℕ) → List (List ℕ)
code_in_front code [] = (code ∷ []) ∷ []
code_in_front code (text ∷ texts) = (code ∷ text) ∷ texts

-- the texts between the commas of a text, in their order
unfoldable pub between_commas : List ℕ → List (List ℕ)
between_commas [] = [] ∷ []
between_commas (code ∷ codes) =
    if code == byte "," then [] ∷ between_commas codes
    else code_in_front code (between_commas codes)

-- the kinds that texts spell, where each spells one
abbrev pub kinds_spelled : List (List ℕ) → Option (List FieldKind)
kinds_spelled [] = Some []
kinds_spelled (text ∷ texts) =
    kind_spelled text >>= λ kind. option_map (λ kinds. kind ∷ kinds) (kinds_spelled texts)

-- the fields that a text spells
abbrev pub structure_spelled : List ℕ → Option (List FieldKind)
structure_spelled text = kinds_spelled (between_commas text)
