-- The entries of a DII: what is read is what stands there, and what was written is read again.
use Rattle.std.proofs.Common.{◌≡◌, ℕ, zero, suc, ◌^◌, ◌<◌, List, [], ◌∷◌, ◌++◌, length, Option, Some, refl, ap, subst, ◌∙◌, append_assoc, arith}
use Rattle.std.specs.List.{All, flat_map, AllByRecursion}
use Rattle.std.proofs.lemmas.List.Elements.{All-from_recursion, recursion_from_All}
use Rattle.std.proofs.lemmas.Option.{same_Some}
use Rattle.bml_bytes.specs.Numbers.{big_bytes}
use Rattle.dsmcc_messages.specs.declared.entry.Entry.{Entry}
use Rattle.dsmcc_messages.specs.Dii.{entry_bytes, EntryFits}
use Rattle.bml_bytes.specs.Fields.{FieldLaws, ◌>>=◌, byte_at, number_at}
use Rattle.dsmcc_messages.specs.Reading.{short_bytes_at, entry_at, entries_at, modules_at}
use Rattle.dsmcc_messages.proofs.Fields.{one_text, bind_some, short_bytes_parts, short_bytes_again}

-- what is read behind each field of an entry
abbrev behind_version : ℕ → ℕ → ℕ × List ℕ → Option (Entry × List ℕ)
behind_version id size version = short_bytes_at version.1 >>= λ info. Some (record { id = id; size = size; version = version.0; info = info.0 }, info.1)

abbrev behind_size : ℕ → ℕ × List ℕ → Option (Entry × List ℕ)
behind_size id size = byte_at size.1 >>= λ version. behind_version id size.0 version

abbrev behind_id : ℕ × List ℕ → Option (Entry × List ℕ)
behind_id id = number_at 4 id.1 >>= λ size. behind_size id.0 size

pub entry_takes : (laws : FieldLaws) (bytes : List ℕ) (x : Entry × List ℕ) → entry_at bytes ≡ Some x → (bytes ≡ (entry_bytes x.0) ++ x.1) × EntryFits x.0
unfolding entry_at
entry_takes laws bytes x e =
    let id = bind_some (number_at 2 bytes) behind_id x e in
    let size = bind_some (number_at 4 id.0.1) (behind_size id.0.0) x id.2 in
    let version = bind_some (byte_at size.0.1) (behind_version id.0.0 size.0.0) x size.2 in
    let info = bind_some (short_bytes_at version.0.1) (λ (info : List ℕ × List ℕ). Some (record { id = id.0.0; size = size.0.0; version = version.0.0; info = info.0 }, info.1)) x version.2 in
    let t0 = laws.number 2 bytes id.0 id.1 in
    let t1 = laws.number 4 id.0.1 size.0 size.1 in
    let t2 = laws.byte size.0.1 version.0 version.1 in
    let t3 = short_bytes_parts laws version.0.1 info.0 info.1 in
    let numbers = one_text bytes (big_bytes 2 id.0.0) id.0.1 (big_bytes 4 size.0.0) size.0.1 t0.0 t1.0 in
    let others = one_text size.0.1 (version.0.0 ∷ []) version.0.1 (length info.0.0 ∷ info.0.0) info.0.1 t2 t3 in
    let whole = one_text bytes (big_bytes 2 id.0.0 ++ big_bytes 4 size.0.0) size.0.1 (version.0.0 ∷ length info.0.0 ∷ info.0.0) info.0.1 numbers others in
    let made : Entry × List ℕ = (record { id = id.0.0; size = size.0.0; version = version.0.0; info = info.0.0 }, info.0.1) in
    subst (λ (y : Entry × List ℕ). (bytes ≡ (entry_bytes y.0) ++ y.1) × EntryFits y.0) (same_Some made x info.2) (whole, record { id = omega (arith, t0.1); size = omega (arith, t1.1) })

pub entry_again : (laws : FieldLaws) (entry : Entry) (rest : List ℕ) → EntryFits entry → entry_at (entry_bytes entry ++ rest) ≡ Some (entry, rest)
unfolding entry_at
entry_again laws entry rest fits =
    let regrouped : entry_bytes entry ++ rest ≡ big_bytes 2 entry.id ++ (big_bytes 4 entry.size ++ (entry.version ∷ length entry.info ∷ (entry.info ++ rest))) = simp append_assoc in
    ap entry_at regrouped
    ∙ rw (laws.number_again 2 entry.id (big_bytes 4 entry.size ++ (entry.version ∷ length entry.info ∷ (entry.info ++ rest))) (omega (arith, fits.id)), laws.number_again 4 entry.size (entry.version ∷ length entry.info ∷ (entry.info ++ rest)) (omega (arith, fits.size)), short_bytes_again laws entry.info rest) refl

pub entries_take : (laws : FieldLaws) (count : ℕ) (bytes : List ℕ) (x : List Entry × List ℕ) → entries_at count bytes ≡ Some x
    → (bytes ≡ (flat_map entry_bytes x.0) ++ x.1) × (length x.0 ≡ count) × AllByRecursion EntryFits x.0
unfolding entries_at
entries_take laws zero bytes x e =
    subst (λ (y : List Entry × List ℕ). (bytes ≡ (flat_map entry_bytes y.0) ++ y.1) × (length y.0 ≡ 0) × AllByRecursion EntryFits y.0) (same_Some ([], bytes) x e) (refl, refl, tt)
entries_take laws (suc count) bytes x e =
    let first = bind_some (entry_at bytes) (λ (first : Entry × List ℕ). entries_at count first.1 >>= λ others. Some (first.0 ∷ others.0, others.1)) x e in
    let others = bind_some (entries_at count first.0.1) (λ (others : List Entry × List ℕ). Some (first.0.0 ∷ others.0, others.1)) x first.2 in
    let t0 = entry_takes laws bytes first.0 first.1 in
    let t1 = entries_take laws count first.0.1 others.0 others.1 in
    let both = one_text bytes (entry_bytes first.0.0) first.0.1 (flat_map entry_bytes others.0.0) others.0.1 t0.0 t1.0 in
    let made : List Entry × List ℕ = (first.0.0 ∷ others.0.0, others.0.1) in
    subst (λ (y : List Entry × List ℕ). (bytes ≡ (flat_map entry_bytes y.0) ++ y.1) × (length y.0 ≡ suc count) × AllByRecursion EntryFits y.0) (same_Some made x others.2)
    (both, ap suc t1.1, (t0.1, t1.2))

pub entries_again : (laws : FieldLaws) (entries : List Entry) (rest : List ℕ) → AllByRecursion EntryFits entries → entries_at (length entries) (flat_map entry_bytes entries ++ rest) ≡ Some (entries, rest)
unfolding entries_at
entries_again laws [] rest fits = refl
entries_again laws (entry ∷ entries) rest fits =
    let regrouped : flat_map entry_bytes (entry ∷ entries) ++ rest ≡ entry_bytes entry ++ (flat_map entry_bytes entries ++ rest) = append_assoc (entry_bytes entry) (flat_map entry_bytes entries) rest in
    ap (entries_at (suc (length entries))) regrouped
    ∙ rw (entry_again laws entry (flat_map entry_bytes entries ++ rest) fits.0, entries_again laws entries rest fits.1) refl

pub modules_take : (laws : FieldLaws) (bytes : List ℕ) (x : List Entry × List ℕ) → modules_at bytes ≡ Some x
    → (bytes ≡ (big_bytes 2 (length x.0) ++ flat_map entry_bytes x.0) ++ x.1) × (length x.0 < 2 ^ 16) × All EntryFits x.0
unfolding modules_at
modules_take laws bytes x e =
    let count = bind_some (number_at 2 bytes) (λ (count : ℕ × List ℕ). entries_at count.0 count.1) x e in
    let t0 = laws.number 2 bytes count.0 count.1 in
    let t1 = entries_take laws count.0.0 count.0.1 x count.2 in
    (rw t1.1 (one_text bytes (big_bytes 2 count.0.0) count.0.1 (flat_map entry_bytes x.0) x.1 t0.0 t1.0), omega (arith, t0.1, t1.1), All-from_recursion EntryFits x.0 t1.2)

pub modules_again : (laws : FieldLaws) (entries : List Entry) (rest : List ℕ) → length entries < 2 ^ 16 → All EntryFits entries
    → modules_at (big_bytes 2 (length entries) ++ (flat_map entry_bytes entries ++ rest)) ≡ Some (entries, rest)
unfolding modules_at
modules_again laws entries rest lt fits =
    rw (laws.number_again 2 (length entries) (flat_map entry_bytes entries ++ rest) lt) (entries_again laws entries rest (recursion_from_All EntryFits entries fits))
