-- Reading entries one after the other, as a loop does.
use Rattle.std.proofs.Common.{◌≡◌, ℕ, suc, ◌-◌, ◌+◌, ◌≤◌, ◌<◌, List, [], ◌∷◌, ◌++◌, Option, Some, None, Err, refl, ap, ◌∙◌, append_assoc, arith}
use Rattle.std.proofs.lemmas.List.{append-nil}
use Rattle.bml_bytes.specs.declared.refusals.TableRefusal.{TableRefusal}
use Rattle.bml_bytes.specs.declared.refusals.TableRefusal.TheVariants as refusals
use Rattle.dsmcc_messages.specs.declared.entry.Entry.{Entry}
use Rattle.bml_bytes.specs.Fields.{◌>>=◌, number_at}
use Rattle.dsmcc_messages.specs.Reading.{IsReadAt, entry_at, entries_at, modules_at}

-- what was read before, and what is still read
abbrev pub with_front : List Entry → Option (List Entry × List ℕ) → Option (List Entry × List ℕ)
with_front front read = read >>= λ x. Some (front ++ x.0, x.1)

pub with_nothing : (read : Option (List Entry × List ℕ)) → read ≡ with_front [] read
with_nothing None = refl
with_nothing (Some x) = refl

-- behind the number of the entries nothing was read
pub begins : (bytes : List ℕ) (count : ℕ) (rest : List ℕ) → number_at 2 bytes ≡ Some (count, rest) → modules_at bytes ≡ with_front [] (entries_at (count - 0) rest)
unfolding modules_at
begins bytes count rest e =
    let all : count - 0 ≡ count = omega arith in
    ap (λ (o : Option (ℕ × List ℕ)). o >>= λ n. entries_at n.0 n.1) e ∙ (rw all (with_nothing (entries_at count rest)))

regroup : (front : List Entry) (entry : Entry) (read : Option (List Entry × List ℕ)) → with_front front (read >>= λ x. Some (entry ∷ x.0, x.1)) ≡ with_front (front ++ entry ∷ []) read
regroup front entry (Some x) = ap (λ (entries : List Entry). Some (entries, x.1)) (simp append_assoc)
regroup front entry None = refl

pub goes_on : (front : List Entry) (count i : ℕ) (bytes : List ℕ) (entry : Entry) (after : List ℕ) (total : Option (List Entry × List ℕ)) → i < count → entry_at bytes ≡ Some (entry, after)
    → total ≡ with_front front (entries_at (count - i) bytes) → total ≡ with_front (front ++ entry ∷ []) (entries_at (count - (i + 1)) after)
unfolding entries_at
goes_on front count i bytes entry after total lt h so_far =
    let k : count - i ≡ suc (count - (i + 1)) = omega arith in
    let one : with_front front (entries_at (count - i) bytes) ≡ with_front (front ++ entry ∷ []) (entries_at (count - (i + 1)) after) = rw (k, h) (regroup front entry (entries_at (count - (i + 1)) after)) in
    so_far ∙ one

pub ends : (refusal : TableRefusal) (front : List Entry) (count i : ℕ) (bytes after left : List ℕ) (total : Option (List Entry × List ℕ)) → i < count
    → IsReadAt {X = Entry} (λ entry. entry) (Err refusal) after (entry_at bytes) → total ≡ with_front front (entries_at (count - i) bytes) → IsReadAt {X = List Entry} (λ entries. entries) (Err refusal) left total
unfolding entries_at
ends refusals.NoMemory front count i bytes after left total lt h so_far = tt
ends (refusals.Fault fault) front count i bytes after left total lt h so_far =
    let k : count - i ≡ suc (count - (i + 1)) = omega arith in
    let one : with_front front (entries_at (count - i) bytes) ≡ None = rw (k, h.1) refl in
    (h.0, so_far ∙ one)

pub is_done : (front : List Entry) (count i : ℕ) (bytes : List ℕ) (total : Option (List Entry × List ℕ)) → count ≤ i → total ≡ with_front front (entries_at (count - i) bytes) → total ≡ Some (front, bytes)
unfolding entries_at
is_done front count i bytes total le so_far =
    let k : count - i ≡ 0 = omega arith in
    let one : with_front front (entries_at (count - i) bytes) ≡ Some (front, bytes) = rw k (ap (λ (entries : List Entry). Some (entries, bytes)) (append-nil front)) in
    so_far ∙ one
