-- The file of a name: its place, and whether a port has it open.
use Rattle.std.proofs.Common.{◌≡◌, ◌≢◌, ℕ, ◌<◌, ◌↔◌, suc, zero, Bool, true, false, cond, List, [], ◌∷◌, length, Option, None, Some, MatchOption, IfSome, IsSome, IsNone, IsTrue, is_none, find, position, slice_get, option_map, nat_eq, nat_lt, refl, sym, ◌∙◌, ap, subst, arith, inl, inr}
use Rattle.std.specs.List.{position_or_len}
use Rattle.std.specs.Option.{option_and_then}
use Rattle.std.specs.Bool.{MatchBool}
use Rattle.std.specs.Cmp.Lexicographic.{pointwise, told_text}
use Rattle.std.proofs.lemmas.List.Folds.{find_at}
use Rattle.std.proofs.lemmas.Option.{slice_get_past}
use Rattle.std.proofs.lemmas.Bool.{ltb-true, ltb-false}
use Rattle.bml_ports.specs.declared.memory_worlds.MemoryFile.{MemoryFile}
use Rattle.bml_ports.specs.declared.memory_worlds.MemoryPort.{MemoryPort}
use Rattle.bml_ports.specs.MemoryPlaces.{IsFound, IsPlaced, port_seen, source_at}
use Rattle.bml_ports.specs.MemoryCalls.{FailsNext}
use Rattle.bml_ports.specs.MemoryWorlds.{MemoryWorldState, HasOpened, WasOpened, OpeningFails, source_named}

pub slice_get-some : {X : Type 0} (xs : List X) (k : ℕ) → k < length xs → IsSome (slice_get xs k)
slice_get-some [] k h = absurd (omega arith)
slice_get-some (x ∷ xs) zero h = refl
slice_get-some (x ∷ xs) (suc k) h = slice_get-some xs k (omega arith)

-- ---- the place of a file

place-cases : (files : List MemoryFile) (name : List ℕ) (k : ℕ) (b : Bool) → find (λ (file : MemoryFile). pointwise nat_eq file.name name) files ≡ slice_get files k → nat_lt k (length files) ≡ b
    → MatchOption (cond b (Some k) None) (IsNone (source_named files name)) (λ place. IsFound files name place)
place-cases files name k false found past =
    let none : slice_get files k ≡ None = slice_get_past files k (ltb-false k (length files) past) in
    rw (found, none) refl
place-cases files name k true found within =
    let here : k < length files = ltb-true k (length files) within in
    let there : IsSome (slice_get files k) = slice_get-some files k here in
    (here, rw found refl, rw found (is_some-map (slice_get files k) there))
  where
    is_some-map : (o : Option MemoryFile) → IsSome o → IsSome (option_map (λ (file : MemoryFile). file.source) o)
    is_some-map None h = h
    is_some-map (Some file) h = refl

-- the place that a search for the name gives is that of the name's first file
pub IsFound-position : (files : List MemoryFile) (name : List ℕ) (found : Option ℕ) → found ≡ position (λ (file : MemoryFile). pointwise nat_eq file.name name) files
    → MatchOption found (IsNone (source_named files name)) (λ place. IsFound files name place)
IsFound-position files name found is =
    let P : Option ℕ → Type 0 = λ o. MatchOption o (IsNone (source_named files name)) (λ place. IsFound files name place) in
    let test = λ (file : MemoryFile). pointwise nat_eq file.name name in
    subst P (sym is) (place-cases files name (position_or_len test files) (nat_lt (position_or_len test files) (length files)) (find_at test files) refl)

-- an opening whose number isn't listed, of a file that wasn't opened, fails exactly where there is no such file
pub OpeningFails-found : (world : MemoryWorldState) (name : List ℕ) (found : Option ℕ) → (FailsNext world.failing world.calls → ⊥) → (WasOpened world name → ⊥)
    → MatchOption found (IsNone (source_named world.files name)) (λ place. IsFound world.files name place) → IsNone found ↔ OpeningFails world name
OpeningFails-found world name None listed opened none = (λ h. inr (inr none), λ h. refl)
OpeningFails-found world name (Some place) listed opened here = (λ h. absurd (cc), λ h. absurd (elim h [ inl p ↦ listed p | inr q ↦ elim q [ inl p ↦ opened p | inr none ↦ let is = here.2 in cc ] ]))

pub IfSome-match : {X : Type 0} (o : Option X) (P : Type 0) (Q : X → Type 0) → MatchOption o P Q → IfSome o Q
IfSome-match None P Q h = tt
IfSome-match (Some x) P Q h = h

-- ---- a file that is open

pub same_name : (xs ys : List ℕ) (r : Bool) → r ≡ pointwise nat_eq xs ys → IsTrue r ↔ (xs ≡ ys)
same_name xs ys r is = by_cases r (told_text xs ys r is)
  where
    by_cases : (b : Bool) → MatchBool b (xs ≡ ys) (xs ≢ ys) → IsTrue b ↔ (xs ≡ ys)
    by_cases true e = (λ h. e, λ h. refl)
    by_cases false e = (λ h. absurd (cc), λ h. absurd (e h))

source_at-some : (files : List MemoryFile) (place : Option ℕ) → IfSome place (λ k. k < length files) → is_none place ≡ false → IsSome (option_and_then (source_at files) place)
source_at-some files None within h = absurd (cc)
source_at-some files (Some k) within h = is_some-map (slice_get files k) (slice_get-some files k within)
  where
    is_some-map : (o : Option MemoryFile) → IsSome o → IsSome (option_map (λ (file : MemoryFile). file.source) o)
    is_some-map None h = h
    is_some-map (Some file) h = refl

-- a port with a file has it open under the name that was asked for
pub HasOpened-asked : (files : List MemoryFile) (port : MemoryPort) (asked name : List ℕ) (r : Bool) → IsPlaced files port → is_none port.place ≡ false → port.asked ≡ Some asked
    → r ≡ pointwise nat_eq asked name → IsTrue r ↔ HasOpened (port_seen files port) name
HasOpened-asked files port asked name r placed there is same =
    let test = same_name asked name r same in (
      λ h. (source_at-some files port.place placed.place there, is ∙ ap (λ (xs : List ℕ). Some xs) (test.0 h)),
      λ h. test.1 (let e : Some asked ≡ Some name = sym is ∙ h.1 in cc),
    )
