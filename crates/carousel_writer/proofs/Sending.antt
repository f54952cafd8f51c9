-- Sections appended one after another.
use Rattle.std.proofs.Common.{◌≡◌, ℕ, List, [], ◌∷◌, ◌++◌, sym, subst, append_assoc, append-nil}
use Rattle.section_writer.specs.Received.{IsStreamOf}
use Rattle.carousel_writer.specs.devices.Appending.{AppendsSections}

pub sent-none : (bytes : List ℕ) (counter pid : ℕ) → AppendsSections bytes counter bytes counter pid []
sent-none bytes counter pid sections s = subst (IsStreamOf bytes pid counter) (sym (append-nil sections)) s

pub sent-both : (old now new : List ℕ) (pid counter between next : ℕ) (first second : List (List ℕ)) → AppendsSections old counter now between pid first → AppendsSections now between new next pid second → AppendsSections old counter new next pid (first ++ second)
sent-both old now new pid counter between next first second h k sections s =
    subst (IsStreamOf new pid next) (append_assoc sections first second) (k (sections ++ first) (h sections s))

-- a section that is another one's equal
pub sent-as : (old new : List ℕ) (counter next pid : ℕ) (section other : List ℕ) → section ≡ other → AppendsSections old counter new next pid (section ∷ []) → AppendsSections old counter new next pid (other ∷ [])
sent-as old new counter next pid section other e h = subst (λ (s : List ℕ). AppendsSections old counter new next pid (s ∷ [])) e h
