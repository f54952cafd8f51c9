-- What is read of bytes has bytes of its own at their front, whatever stands behind them.
use Rattle.std.proofs.Common.{◌≡◌, ℕ, List, [], ◌∷◌, ◌++◌, take, Option, Some, refl, sym, ap, subst, ◌∙◌}
use Rattle.std.specs.Prelude.{option_map, map}
use Rattle.std.specs.List.{flat_map}
use Rattle.std.specs.Int.{div_ceil}
use Rattle.std.proofs.lemmas.List.{append-nil, append_assoc}
use Rattle.std.proofs.lemmas.Option.{same_Some, none-some}
use Rattle.bml_bytes.specs.Fields.{FieldLaws, ◌>>=◌, byte_at, bytes_at}
use Rattle.persistent_arrays.specs.declared.fields.Field.{Field}
use Rattle.persistent_arrays.specs.declared.fields.Field.TheVariants as fields
use Rattle.persistent_arrays.specs.declared.kinds.FieldKind.{FieldKind}
use Rattle.persistent_arrays.specs.declared.kinds.FieldKind.TheVariants.{Bit, Unsigned, Signed, Fixed, Varying}
use Rattle.persistent_arrays.specs.Fields.{field_value}
use Rattle.persistent_arrays.specs.Reading.{AreSpelled, HasOwnBytes, Run, BitRun, Single, Spelled, bits_of, field_at, run_at, runs, unpacked, values_of}
use Rattle.persistent_arrays.proofs.KeptLemmas.{bind_some, option_map-some}

-- what reads a front of bytes, whatever stands behind it
abbrev pub IsReader : {X : Type 0} → (List ℕ → Option (X × List ℕ)) → Type 0
IsReader {X} f = (bytes : List ℕ) (value : X) (rest : List ℕ) → f bytes ≡ Some (value, rest)
    → (front : List ℕ) × (bytes ≡ front ++ rest) × ((more : List ℕ) → f (front ++ more) ≡ Some (value, more))

-- a value that is seen by a function
mapped : {X Y : Type 0} (f : List ℕ → Option (X × List ℕ)) (see : X → Y) → IsReader f → IsReader (λ bytes. option_map (λ read. (see read.0, read.1)) (f bytes))
mapped f see reads bytes value rest e =
    let read = option_map-some (λ read. (see read.0, read.1)) (f bytes) (value, rest) e in
    let seen : see read.0.0 ≡ value = ap (λ p. p.0) read.2 in
    let left : read.0.1 ≡ rest = ap (λ p. p.1) read.2 in
    let g = reads bytes read.0.0 rest (read.1 ∙ ap (λ (r : List ℕ). Some (read.0.0, r)) left) in
    (g.0, g.1, λ more. ap (option_map (λ read. (see read.0, read.1))) (g.2 more) ∙ ap (λ y. Some (y, more)) seen)

-- one thing after another
then_ : {X Y : Type 0} (f : List ℕ → Option (X × List ℕ)) (next : X → List ℕ → Option (Y × List ℕ)) → IsReader f → ((x : X) → IsReader (next x)) → IsReader (λ bytes. f bytes >>= λ read. next read.0 read.1)
then_ f next reads again bytes value rest e =
    let read = bind_some (f bytes) (λ read. next read.0 read.1) (value, rest) e in
    let g = reads bytes read.0.0 read.0.1 read.1 in
    let h = again read.0.0 read.0.1 value rest read.2 in (
      g.0 ++ h.0,
      g.1 ∙ ap (λ (l : List ℕ). g.0 ++ l) h.1 ∙ sym (append_assoc g.0 h.0 rest),
      λ more. ap (λ (l : List ℕ). f l >>= λ read. next read.0 read.1) (append_assoc g.0 h.0 more)
          ∙ ap (λ found. found >>= λ read. next read.0 read.1) (g.2 (h.0 ++ more)) ∙ h.2 more,
    )

module _ (laws : FieldLaws) where
  reads-byte : IsReader byte_at
  reads-byte [] value rest e = absurd (none-some (value, rest) e)
  reads-byte (byte ∷ bytes) value rest e =
      let p = same_Some (byte, bytes) (value, rest) e in
      let same : byte ≡ value = ap (λ q. q.0) p in
      let left : bytes ≡ rest = ap (λ q. q.1) p in
      (byte ∷ [], ap (λ (l : List ℕ). byte ∷ l) left, λ more. ap (λ (b : ℕ). Some (b, more)) same)

  reads-bytes : (count : ℕ) → IsReader (bytes_at count)
  reads-bytes count bytes value rest e =
      let g = laws.bytes count bytes (value, rest) e in
      (value, g.0, λ more. subst (λ (n : ℕ). bytes_at n (value ++ more) ≡ Some (value, more)) g.1 (laws.bytes_again value more))

  reads-field : (kind : FieldKind) → IsReader (field_at kind)
  reads-field Bit = λ bytes value rest e. absurd (none-some (value, rest) e)
  reads-field (Unsigned size) = reads-bytes size
  reads-field (Signed size) = reads-bytes size
  reads-field (Fixed size) = reads-bytes size
  reads-field Varying = then_ byte_at (λ count rest. bytes_at count rest) reads-byte reads-bytes

  reads-run : (run : Run) → IsReader (run_at run)
  reads-run (BitRun count) = mapped (bytes_at (div_ceil count 8)) (λ bytes. map fields.Bit (take count (flat_map bits_of bytes))) (reads-bytes (div_ceil count 8))
  reads-run (Single kind) = mapped (field_at kind) (λ bytes. field_value kind bytes ∷ []) (reads-field kind)

  pub own-bytes : (run : Run) (bytes rest : List ℕ) (values : List Field) → run_at run bytes ≡ Some (values, rest) → HasOwnBytes run bytes values rest
  own-bytes run bytes rest values e = (let g = reads-run run bytes values rest e in record { own = g.0; whole = g.1; read = g.2 })

-- ---- values one after another
module _ (owns : (run : Run) (bytes rest : List ℕ) (values : List Field) → run_at run bytes ≡ Some (values, rest) → HasOwnBytes run bytes values rest) where
  -- a run that has bytes of its own is read of them, whatever stands behind
  run-front : (run : Run) (front more : List ℕ) (values : List Field) → run_at run front ≡ Some (values, []) → run_at run (front ++ more) ≡ Some (values, more)
  run-front run front more values e =
      let g = owns run front [] values e in
      let same : front ≡ g.own = g.whole ∙ append-nil g.own in
      subst (λ (l : List ℕ). run_at run (l ++ more) ≡ Some (values, more)) (sym same) (g.read more)

  values-front : (all : List Run) (front more : List ℕ) (values : List Field) → AreSpelled all front values → values_of all (front ++ more) ≡ Some values
  values-front [] front more values h = ap (λ (v : List Field). Some v) (sym h.1)
  values-front (run ∷ all) front more values h =
      let own : List ℕ = h.0 in
      let rest : List ℕ = h.1 in
      let first : List Field = h.2 in
      let others : List Field = h.3 in
      let moved : front ++ more ≡ own ++ (rest ++ more) = ap (λ (l : List ℕ). l ++ more) h.4 ∙ append_assoc own rest more in
      ap (values_of (run ∷ all)) moved
      ∙ ap (λ (found : Option (List Field × List ℕ)). found >>= λ read. option_map (λ values. read.0 ++ values) (values_of all read.1)) (run-front run own (rest ++ more) first h.6)
      ∙ ap (option_map (λ (values : List Field). first ++ values)) (values-front all rest more others h.7)
      ∙ ap (λ (v : List Field). Some v) (sym h.5)

  pub spelled-read : (kinds : List FieldKind) (values : List Field) (bytes behind : List ℕ) → Spelled kinds bytes values → unpacked kinds (bytes ++ behind) ≡ Some values
  spelled-read kinds values bytes behind h = values-front (runs kinds) bytes behind values h

  values-spelled : (all : List Run) (bytes : List ℕ) (values : List Field) → values_of all bytes ≡ Some values → (front behind : List ℕ) × (bytes ≡ front ++ behind) × AreSpelled all front values
  values-spelled [] bytes values e = ([], bytes, refl, (refl, sym (same_Some [] values e)))
  values-spelled (run ∷ all) bytes values e =
      let read = bind_some (run_at run bytes) (λ read. option_map (λ values. read.0 ++ values) (values_of all read.1)) values e in
      let first : List Field = read.0.0 in
      let rest : List ℕ = read.0.1 in
      let next = option_map-some (λ (values : List Field). first ++ values) (values_of all rest) values read.2 in
      let g = owns run bytes rest first read.1 in
      let alone : run_at run g.own ≡ Some (first, []) = ap (run_at run) (sym (append-nil g.own)) ∙ g.read [] in
      let h = values-spelled all rest next.0 next.1 in
      let joined : bytes ≡ (g.own ++ h.0) ++ h.1 = g.whole ∙ ap (λ (l : List ℕ). g.own ++ l) h.2 ∙ sym (append_assoc g.own h.0 h.1) in
      (g.own ++ h.0, h.1, joined, (g.own, h.0, first, next.0, refl, sym next.2, alone, h.3))

  pub read-spelled : (kinds : List FieldKind) (values : List Field) (bytes : List ℕ) → unpacked kinds bytes ≡ Some values → (front behind : List ℕ) × (bytes ≡ front ++ behind) × Spelled kinds front values
  read-spelled kinds values bytes e = values-spelled (runs kinds) bytes values e
