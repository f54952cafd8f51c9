-- The object that a heap was given last.
use Rattle.std.proofs.Common.{◌≡◌, ℕ, ◌<◌, true, false, List, [], ◌∷◌, ◌++◌, length, refl, ◌∙◌, ap, arith, length-append}
use Rattle.std.specs.Prelude.{unwrap_or}
use Rattle.std.proofs.lemmas.List.{get_or_at, set_at}
use Rattle.std.proofs.lemmas.Option.{slice_get-get_or}
use Rattle.es_values.specs.declared.numbers.Num.{Num}
use Rattle.es_values.specs.declared.values.Value.TheVariants.{Number}
use Rattle.es_values.specs.Heaps.{is_length, new_object, object_at, with_length}
use Rattle.es_values.specs.Objects.{ObjectState}
use Rattle.es_values.specs.Operators.{with_put}

last-object : (heap : List ObjectState) (object : ObjectState) → object_at (heap ++ object ∷ []) (length heap) ≡ object
last-object heap object =
    let within : length heap < length (heap ++ object ∷ []) = omega (arith, length-append heap (object ∷ [])) in
    ap (λ o. unwrap_or o (new_object false)) (slice_get-get_or (heap ++ object ∷ []) (length heap) object within)
    ∙ get_or_at heap object [] object (length heap) refl

-- a new array that is given a length
pub length-put : (heap : List ObjectState) (name : List ℕ) (number : Num) → is_length name ≡ true → with_put (heap ++ new_object true ∷ []) (length heap) name (Number number) ≡ heap ++ with_length (new_object true) number ∷ []
length-put heap name number e =
    rw (last-object heap (new_object true), e)
    (set_at heap (new_object true) [] (with_length (new_object true) number) (length heap) refl)
