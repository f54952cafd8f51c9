-- Descriptors (ISO/IEC 13818-1, 2.6.1; the info of a module has them after ARIB STD-B24, volume 3): a tag, a length,
-- and that many bytes, one descriptor after the other.
use Rattle.std.specs.Prelude.{◌≡◌, ◌==◌, ℕ, zero, suc, List, [], ◌∷◌, length, find, Option, Some, None, option_map}
use Rattle.std.specs.List.{flat_map}
use Rattle.bml_bytes.specs.Fields.{◌>>=◌, byte_at, bytes_at}

pub record Descriptor : Type 0 where
  pub tag : ℕ
  pub bytes : List ℕ

abbrev pub descriptor_bytes : Descriptor → List ℕ
descriptor_bytes descriptor = descriptor.tag ∷ length descriptor.bytes ∷ descriptor.bytes

-- the bytes are these descriptors, laid end to end
abbrev pub AreDescriptors : List ℕ → List Descriptor → Type 0
AreDescriptors bytes descriptors = bytes ≡ flat_map descriptor_bytes descriptors

-- the bytes of the first descriptor with that tag, where there is one
abbrev pub first_with : ℕ → List Descriptor → Option (List ℕ)
first_with tag descriptors = option_map (λ descriptor. descriptor.bytes) (find (λ descriptor. descriptor.tag == tag) descriptors)

-- The same read from the front to the back. `law_of_descriptors` says that both agree.

-- one descriptor, and the bytes behind it
unfoldable pub descriptor_at : List ℕ → Option (Descriptor × List ℕ)
descriptor_at bytes = do
  tag ← byte_at bytes
  count ← byte_at tag.1
  content ← bytes_at count.0 count.1
  Some (record { tag = tag.0; bytes = content.0 }, content.1)

-- descriptors up to the bytes' end, of which there are no more than the bound
unfoldable pub descriptors_within : ℕ → List ℕ → Option (List Descriptor)
descriptors_within bound [] = Some []
descriptors_within zero (x ∷ bytes) = None
descriptors_within (suc bound) (x ∷ bytes) = do
  first ← descriptor_at (x ∷ bytes)
  others ← descriptors_within bound first.1
  Some (first.0 ∷ others)

-- the descriptors that the bytes are, where they are descriptors end to end
unfoldable pub descriptors_in : List ℕ → Option (List Descriptor)
descriptors_in bytes = descriptors_within (length bytes) bytes
