use Rattle.std.proofs.Common.{◌≡◌, ℕ, ◌≤◌, Bool, List, [], ◌++◌, length, drop, Option, Some, None, sym, ap, ◌∙◌, arith}
use Rattle.std.proofs.Math.ListN.{drop_of_length-le}
use Rattle.persistent_arrays.specs.declared.fields.Field.{Field}
use Rattle.persistent_arrays.specs.declared.kinds.FieldKind.{FieldKind}
use Rattle.persistent_arrays.specs.Packing.{packed, within_array}
use Rattle.persistent_arrays.specs.devices.Packers.{packed_after, packed_behind, shared_byte}
use Rattle.persistent_arrays.proofs.LayoutLemmas.{packed-is}
use Rattle.persistent_arrays.proofs.PackingLemmas.{other-count, behind-nothing}
use Rattle.persistent_arrays.proofs.packing.packed_bytes.Goals as goal

start : (bytes : List ℕ) (bits : List Bool) (kinds : List FieldKind) (values : List Field) → bytes ≡ [] → bits ≡ [] → packed_after bytes bits kinds values ≡ packed kinds values
start bytes bits kinds values e f =
    ap (λ (b : List ℕ). packed_after b bits kinds values) e ∙ ap (λ (b : List Bool). packed_after [] b kinds values) f
    ∙ behind-nothing (packed_behind [] kinds values) ∙ packed-is kinds values

other : (kinds : List FieldKind) (values : List Field) → (length kinds ≡ length values → ⊥) → within_array (packed kinds values) ≡ None
other kinds values h = ap within_array (sym (packed-is kinds values) ∙ other-count [] kinds values h)

ended : (bytes closed : List ℕ) (bits : List Bool) (kinds : List FieldKind) (values : List Field) (place : ℕ) (whole : Option (List ℕ)) → length kinds ≤ place → length kinds ≡ length values
    → packed_after bytes bits (drop place kinds) (drop place values) ≡ whole → closed ≡ bytes ++ shared_byte bits → whole ≡ Some closed
ended bytes closed bits kinds values place whole h n e c =
    let fewer : length values ≤ place = omega arith in
    sym e ∙ ap (λ (k : List FieldKind). packed_after bytes bits k (drop place values)) (drop_of_length-le kinds h)
    ∙ ap (packed_after bytes bits []) (drop_of_length-le values fewer) ∙ ap (λ (b : List ℕ). Some b) (sym c)

pub fields-init : goal.fields-init
fields-init c = start c.new.result.items c.new-2.result.items c.args.kinds.now c.args.fields.now c.new.ensures c.new-2.ensures

pub returns-then-kinds-fields : goal.returns-then-kinds-fields
returns-then-kinds-fields c = other c.args.kinds.now c.args.fields.now c.if-kinds-fields.true

pub returns : goal.returns
returns c =
    ended c.fields.packer.bytes.items c.close.new.self.bytes.items c.fields.packer.bits.items c.args.kinds.now c.args.fields.now c.fields.place (packed c.args.kinds.now c.args.fields.now)
    (omega arith) c.if-kinds-fields.false c.fields.invariant c.in_ok-close.ensures.bytes
