-- What a heap with a new Date holds.
use Rattle.std.proofs.Common.{◌≡◌, ℕ, ◌<◌, ◌≤◌, Bool, true, false, List, [], ◌∷◌, ◌++◌, length, refl, ◌∙◌, sym, arith, length-append, inl, inr}
use Rattle.std.specs.Prelude.{Option, Some, None}
use Rattle.std.specs.List.{list_any}
use Rattle.std.proofs.lemmas.Bool.{or_cases}
use Rattle.std.proofs.lemmas.List.Elements.{All-nil, All-cons, All-push, All-weaker}
use Rattle.std.proofs.lemmas.List.Folds.{list_any-append}
use Rattle.es_values.specs.declared.values.Value.{Value}
use Rattle.es_values.specs.declared.values.Value.TheVariants.{Undefined, Null, Bool as Boolean, Number, Str, Object, Function, Host}
use Rattle.es_values.specs.Values.{IsLiveAmong, is_function}
use Rattle.es_values.specs.Objects.{ObjectState}
use Rattle.es_values.specs.Heaps.{AreLiveAmong, IsSound, holds_function}
use Rattle.es_date.specs.declared.moments.Moment.{Moment}
use Rattle.date_objects.specs.Dates.{date_object, day_name, day_value, second_name, second_value}

live-weaker : (m n : ℕ) (v : Value) → m ≤ n → IsLiveAmong m v → IsLiveAmong n v
live-weaker m n (Object k) h l = let small : k < m = l in omega arith
live-weaker m n Undefined h l = tt
live-weaker m n Null h l = tt
live-weaker m n (Boolean b) h l = tt
live-weaker m n (Number b) h l = tt
live-weaker m n (Str b) h l = tt
live-weaker m n (Function b) h l = tt
live-weaker m n (Host b) h l = tt

date-live : (n : ℕ) (moment : Option Moment) → AreLiveAmong n (date_object moment)
date-live n None =
    All-cons (λ p. IsLiveAmong n p.1) (day_name, day_value None) ((second_name, second_value None) ∷ []) tt
    (All-cons (λ p. IsLiveAmong n p.1) (second_name, second_value None) [] tt (All-nil (λ p. IsLiveAmong n p.1)))
date-live n (Some moment) =
    All-cons (λ p. IsLiveAmong n p.1) (day_name, day_value (Some moment)) ((second_name, second_value (Some moment)) ∷ []) tt
    (All-cons (λ p. IsLiveAmong n p.1) (second_name, second_value (Some moment)) [] tt (All-nil (λ p. IsLiveAmong n p.1)))

pub date-sound : (heap : List ObjectState) (moment : Option Moment) → IsSound heap → IsSound (heap ++ date_object moment ∷ [])
date-sound heap moment h =
    let n = length (heap ++ date_object moment ∷ []) in
    let more : length heap ≤ n = omega (arith, length-append heap (date_object moment ∷ [])) in
    All-push (AreLiveAmong n) heap (date_object moment)
    (All-weaker (AreLiveAmong (length heap)) (AreLiveAmong n)
    (λ o. All-weaker (λ p. IsLiveAmong (length heap) p.1) (λ p. IsLiveAmong n p.1) (λ p. live-weaker (length heap) n p.1 more) o.properties) heap h)
    (date-live n moment)

date-plain : (moment : Option Moment) (number : ℕ) → holds_function number (date_object moment ∷ []) ≡ false
date-plain None number = refl
date-plain (Some moment) number = refl

pub date-functions : (heap : List ObjectState) (moment : Option Moment) (number : ℕ) → holds_function number (heap ++ date_object moment ∷ []) ≡ true → holds_function number heap ≡ true
date-functions heap moment number h =
    let test : ObjectState → Bool = λ object. list_any (λ property. is_function number property.1) object.properties in
    elim (or_cases (holds_function number heap) (holds_function number (date_object moment ∷ [])) (sym (list_any-append test heap (date_object moment ∷ [])) ∙ h)) [
      | inl held ↦ held
      | inr among ↦ absurd (cc (sym (date-plain moment number) ∙ among))
    ]
