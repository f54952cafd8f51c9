-- A device of the proofs: the assemblers that a demultiplexer keeps, each with its PID. (This
-- project's own.)
use Rattle.std.specs.Prelude.{◌≡◌, ◌≢◌, ◌≤◌, ◌==◌, nat_lt, ℕ, Bool, ◌||◌, List, [], length, filter, find, Option, Some, None, is_some}
use Rattle.ts_sections.specs.Assembly as assembly
use Rattle.section_demultiplexer.specs.declared.demultiplexer.Channel.{Channel}

abbrev pub is_on : ℕ → Channel → Bool
is_on pid channel = channel.pid == pid

abbrev pub channel_on : List Channel → ℕ → Option Channel
channel_on channels pid = find (is_on pid) channels

abbrev pub has_channel : List Channel → ℕ → Bool
has_channel channels pid = is_some (channel_on channels pid)

-- there are no more than 18 assemblers
abbrev pub can_have : List Channel → ℕ → Bool
can_have channels pid = has_channel channels pid || nat_lt (length channels) 18

-- the sections that wait in the assembler, where there is one
abbrev pub waiting_in : Option Channel → List (List ℕ)
waiting_in None = []
waiting_in (Some channel) = channel.assembler.waiting

-- Its assembler stands for these packets and these sections; where there is none, no packet came.
abbrev pub StandsIn : Option Channel → List (List ℕ) → List (List ℕ) → Type 0
StandsIn None packets given = (packets ≡ []) × (given ≡ [])
StandsIn (Some channel) packets given = assembly.StandsFor channel.assembler packets given

-- no two assemblers are of one PID
abbrev pub AreDistinct : List Channel → Type 0
AreDistinct channels = (pid : ℕ) → length (filter (is_on pid) channels) ≤ 1

-- what is kept tells, of each PID, what packets to come will complete
pub record AreKept (channels : List Channel) (packets given : ℕ → List (List ℕ)) : Type 0 where
  pub on : (pid : ℕ) → StandsIn (channel_on channels pid) (packets pid) (given pid)
  pub distinct : AreDistinct channels

-- there is memory for 18 assemblers, and sections wait only in that of the packet pushed last
pub record IsSound (channels : List Channel) (capacity pid : ℕ) : Type 0 where
  pub distinct : AreDistinct channels
  pub room : 18 ≤ capacity
  pub given : (other : ℕ) → other ≢ pid → waiting_in (channel_on channels other) ≡ []

-- what stood for packets stands for them still, and as many sections wait
pub record Continues (old new : Option Channel) : Type 0 where
  pub stands : (packets given : List (List ℕ)) → StandsIn old packets given
      → StandsIn new packets given
  pub waiting : waiting_in new ≡ waiting_in old
