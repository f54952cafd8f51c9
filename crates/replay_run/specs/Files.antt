-- The two files of a run: how many bytes it takes from them, and what the world gave and has left
-- of them. This project's own.
use Rattle.std.specs.Prelude.{◌≡◌, ℕ, ◌^◌, ◌<◌, ◌≤◌, List, ◌++◌, length, Option, Some}

-- the most bytes of a stream and of a record
abbrev pub stream_limit : ℕ
stream_limit = 2 ^ 36

abbrev pub record_limit : ℕ
record_limit = 2 ^ 30

-- the bytes that one read asks for
abbrev pub read_length : ℕ
read_length = 3904

-- the bytes of a packet (ISO/IEC 13818-1, 2.4.3.2)
abbrev pub packet_length : ℕ
packet_length = 188

-- a file's bytes, and what the world tells as left of them
pub record File : Type 0 where
  pub bytes : List ℕ
  pub left : Option (List ℕ)

abbrev pub file : List ℕ → Option (List ℕ) → File
file bytes left = record { bytes = bytes; left = left }

-- the bytes given and the bytes left are the file
pub record Gave (from : File) : Type 0 where
  pub given : List ℕ
  pub rest : List ℕ
  pub left_is : from.left ≡ Some rest
  pub whole : from.bytes ≡ given ++ rest

-- and those given are no more than the limit
pub record GaveAtMost (limit : ℕ) (from : File) : Type 0 where
  pub gave : Gave from
  pub most : length gave.given ≤ limit

-- or they are more
pub record GaveMore (limit : ℕ) (from : File) : Type 0 where
  pub gave : Gave from
  pub more : limit < length gave.given
