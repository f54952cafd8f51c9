-- What follows from many calls on one object: counts, bytes read, bytes written, bytes kept.
use Rattle.std.proofs.Common.{◌≡◌, ℕ, ◌≤◌, List, [], ◌++◌, length, take, drop, Option, None, Some, IsSome, Result, Ok, Err, IsErr, refl, sym, ap, ◌∙◌, arith, append_assoc, append-nil, length-append, take-append-drop}
use Rattle.std.specs.Io.KnownBytes.{Appends, Consumes, Keeps, IsAtEnd}
use Rattle.std.proofs.KnownBytes.{Appends-trans}
use Rattle.bml_ports.specs.Counters.{Counter, Counts, FaultedSince, Rose}
use Rattle.bml_ports.specs.Keepers.{Replaces}

-- ---- counts

pub Rose-before : (a b c : ℕ) → a ≤ b → Rose b c → Rose a c
Rose-before a b c earlier rose = omega arith

pub Rose-after : (a b c : ℕ) → Rose a b → b ≤ c → Rose a c
Rose-after a b c rose later = omega arith

-- a count that hadn't fallen since some moment hasn't fallen after one more call
pub Counts-later : {A E : Type 0} (start : ℕ) (old new : Counter) (r : Result A E) → start ≤ old.faults → Counts old new r → start ≤ new.faults
Counts-later start old new r since call = let step = call.later in omega arith

-- a failed call is a fault since each moment before it
pub Counts-failed : {A E : Type 0} (start old new : Counter) (r : Result A E) → start.faults ≤ old.faults → Counts old new r → IsErr r → FaultedSince start new
Counts-failed start old new (Ok x) since call failed = absurd (cc)
Counts-failed start old new (Err e) since call failed =
    record { rose = Rose-before start.faults old.faults new.faults since call.rose; last = call.last }

-- ---- bytes read

-- `Consumes-trans` and `Consumes-kept` of `Rattle.std.proofs.KnownBytes` join a read, and a failed read, to those before

-- a read of no byte came at the end: all that was there was taken
pub Consumes-end : (bytes : List ℕ) (old new : Option (List ℕ)) (taken : List ℕ) → Consumes (Some bytes) old taken → Consumes old new [] → IsAtEnd new → taken ≡ bytes
Consumes-end bytes None new taken before read end = absurd before
Consumes-end bytes (Some rest) None taken before read end = absurd read
Consumes-end bytes (Some rest) (Some ys) taken before read end = sym (before ∙ ap (λ l. taken ++ l) (read ∙ end) ∙ append-nil taken)

-- what was taken is a front of what was there
pub Consumes-length : (bytes : List ℕ) (now : Option (List ℕ)) (taken : List ℕ) → Consumes (Some bytes) now taken → length taken ≤ length bytes
Consumes-length bytes None taken h = absurd h
Consumes-length bytes (Some rest) taken h = omega (arith, ap length h, length-append taken rest)

-- ---- bytes written

-- `Appends-trans` and `Appends-kept` of `Rattle.std.proofs.KnownBytes` join a write, and a failed write, to those before

-- a write took the first n bytes of the rest of a text
pub Appends-write : (first old new : Option (List ℕ)) (written rest : List ℕ) (n : ℕ) → Appends first old written → Appends old new (take n rest)
    → Appends first new (written ++ take n rest) × ((written ++ take n rest) ++ drop n rest ≡ written ++ rest)
Appends-write first old new written rest n before write =
    (Appends-trans first old new written (take n rest) before write, append_assoc written (take n rest) (drop n rest) ∙ ap (λ l. written ++ l) (take-append-drop n rest))

-- ---- bytes kept

pub Replaces-told : (old new : Option (List ℕ)) (bytes : List ℕ) → Replaces old new bytes → IsSome old → new ≡ Some bytes
Replaces-told None new bytes h told = absurd (cc)
Replaces-told (Some x) new bytes h told = h

pub Replaces-again : (first old new : Option (List ℕ)) (before after : List ℕ) → Replaces first old before → Replaces old new after → Replaces first new after
Replaces-again None old new before after p q = tt
Replaces-again (Some x) old new before after p q = Replaces-told old new after q (rw p refl)

pub Replaces-kept : (first old new : Option (List ℕ)) (bytes : List ℕ) → Replaces first old bytes → Keeps old new → Replaces first new bytes
Replaces-kept None old new bytes p q = tt
Replaces-kept (Some x) None new bytes p q = absurd (cc)
Replaces-kept (Some x) (Some y) None bytes p q = absurd q
Replaces-kept (Some x) (Some y) (Some z) bytes p q = ap (λ l. Some l) q ∙ p

pub Keeps-replaced : (first old new : Option (List ℕ)) (bytes : List ℕ) → Keeps first old → Replaces old new bytes → Replaces first new bytes
Keeps-replaced None old new bytes p q = tt
Keeps-replaced (Some x) None new bytes p q = absurd p
Keeps-replaced (Some x) (Some y) new bytes p q = q

-- ---- told content stays told

pub Consumes-told : (old new : Option (List ℕ)) (bytes : List ℕ) → Consumes old new bytes → IsSome old → IsSome new
Consumes-told None new bytes h told = absurd (cc)
Consumes-told (Some x) None bytes h told = absurd h
Consumes-told (Some x) (Some y) bytes h told = refl

pub Appends-told : (old new : Option (List ℕ)) (bytes : List ℕ) → Appends old new bytes → IsSome old → IsSome new
Appends-told None new bytes h told = absurd (cc)
Appends-told (Some x) None bytes h told = absurd h
Appends-told (Some x) (Some y) bytes h told = refl

pub Keeps-told : (old new : Option (List ℕ)) → Keeps old new → IsSome old → new ≡ old
Keeps-told None new h told = absurd (cc)
Keeps-told (Some x) None h told = absurd h
Keeps-told (Some x) (Some y) h told = ap (λ l. Some l) h
