-- Reading items one after the other, as a loop does.
use Rattle.std.proofs.Common.{◌≡◌, ℕ, ◌<◌, List, [], ◌∷◌, ◌++◌, length, Option, Some, None, Ok, Err, refl, sym, ap, ◌∙◌, append_assoc}
use Rattle.std.specs.Prelude.{ok_or}
use Rattle.std.proofs.lemmas.List.{append-nil, nil_from_length}
use Rattle.bml_bytes.specs.declared.refusals.TableFault.{TableFault}
use Rattle.bml_bytes.specs.declared.refusals.TableFault.TheVariants.{Short}
use Rattle.bml_bytes.specs.Fields.{◌>>=◌}
use Rattle.psi_tables.specs.Reading.{items_in}
use Rattle.psi_tables.proofs.Items.{Shortens, items_first, items_none, items_nil}

-- what was read before, and what is still read
abbrev pub with_front : {A : Type 0} → List A → Option (List A) → Option (List A)
with_front front read = read >>= λ items. Some (front ++ items)

pub with_nothing : {A : Type 0} (read : Option (List A)) → read ≡ with_front [] read
with_nothing None = refl
with_nothing (Some items) = refl

regroup : {A : Type 0} (front : List A) (a : A) (read : Option (List A)) → with_front front (read >>= λ others. Some (a ∷ others)) ≡ with_front (front ++ a ∷ []) read
regroup front a None = refl
regroup {A} front a (Some items) = ap (λ (all : List A). Some all) (sym (append_assoc front (a ∷ []) items))

pub goes_on : {A : Type 0} (item : List ℕ → Option (A × List ℕ)) (s : Shortens item) (front : List A) (bytes : List ℕ) (a : A) (behind : List ℕ) (total : Option (List A)) → item bytes ≡ Some (a, behind)
    → total ≡ with_front front (items_in item bytes) → total ≡ with_front (front ++ a ∷ []) (items_in item behind)
goes_on item s front bytes a behind total e so_far = so_far ∙ ap (with_front front) (items_first item s bytes (a, behind) e) ∙ regroup front a (items_in item behind)

pub ends_short : {A : Type 0} (item : List ℕ → Option (A × List ℕ)) (front : List A) (bytes : List ℕ) (total : Option (List A)) → 0 < length bytes → item bytes ≡ None → total ≡ with_front front (items_in item bytes) → ok_or total Short ≡ Err Short
ends_short {A} item front bytes total more e so_far = ap (λ (o : Option (List A)). ok_or o Short) (so_far ∙ ap (with_front front) (items_none item bytes more e))

pub ends_well : {A : Type 0} (item : List ℕ → Option (A × List ℕ)) (front : List A) (bytes : List ℕ) (total : Option (List A)) → length bytes ≡ 0 → total ≡ with_front front (items_in item bytes) → ok_or total Short ≡ Ok front
ends_well {A} item front bytes total nothing so_far =
    let at_end : items_in item bytes ≡ Some [] = ap (items_in item) (nil_from_length bytes nothing) ∙ items_nil item in
    ap (λ (o : Option (List A)). ok_or o Short) (so_far ∙ ap (with_front front) at_end ∙ ap (λ (all : List A). Some all) (append-nil front))

-- the fault that stands for none
pub fault_is : {X : Type 0} (read : Option X) (fault : TableFault) → Err fault ≡ ok_or read Short → fault ≡ Short
fault_is None fault e = cc
fault_is (Some x) fault e = absurd cc
