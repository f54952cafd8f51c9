use Rattle.std.proofs.Common.{◌≡◌, ℕ, ◌≤◌, List, ◌++◌, length, drop, Some, sym, ap, ◌∙◌, arith}
use Rattle.std.proofs.Math.ListN.{drop_of_length-le}
use Rattle.std.proofs.lemmas.List.{append-nil}
use Rattle.bml_bytes.specs.Codes.{bytes_of}
use Rattle.persistent_arrays.specs.Packing.{within_array}
use Rattle.persistent_arrays.proofs.PackingLemmas.{within-short}
use Rattle.persistent_arrays.proofs.packing.text_bytes.Goals as goal

whole : (items : List ℕ) (index : ℕ) (text : List ℕ) → items ++ bytes_of (drop index text) ≡ bytes_of text → length text ≤ index → length items ≤ 64 → Some items ≡ within_array (Some (bytes_of text))
whole items index text e h room =
    let same : items ≡ bytes_of text = sym (append-nil items) ∙ ap (λ (l : List ℕ). items ++ bytes_of l) (sym (drop_of_length-le text h)) ∙ e in
    sym (within-short items room) ∙ ap (λ (b : List ℕ). within_array (Some b)) same

pub returns : goal.returns
returns c = whole c.codes.bytes.items c.codes.code-index c.args.text.now c.codes.invariant.value (omega arith) c.codes.invariant.room
