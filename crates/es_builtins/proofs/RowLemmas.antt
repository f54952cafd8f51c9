-- What rows keep, kind by kind of value that is called.
use Rattle.std.proofs.Common.{◌≡◌, ℕ, ◌<◌, Bool, true, false, List, [], ◌∷◌, ◌++◌, length, map, refl, sym, ◌∙◌, arith, length-append, inl, inr}
use Rattle.std.specs.Prelude.{All, Option, Some, None, option_and_then, option_map, slice_get, ◌||◌, ◌==◌, if◌then◌else◌}
use Rattle.std.specs.Option.{option_map_or}
use Rattle.std.specs.List.{list_any}
use Rattle.std.proofs.Math.ListN.{length-set}
use Rattle.std.proofs.lemmas.Bool.{or_cases, or_left, or_parts, or_right}
use Rattle.std.proofs.lemmas.List.Elements.{All-cons, All-nil}
use Rattle.std.proofs.lemmas.List.Folds.{list_any_none}
use Rattle.date_objects.specs.Dates.{date_object, is_date, moment_in}
use Rattle.es_date.specs.declared.moments.Moment.{Moment}
use Rattle.es_date.specs.Moments.{moment_of_fields}
use Rattle.es_values.specs.declared.numbers.Num.{Num}
use Rattle.es_values.specs.declared.values.Value.{Value}
use Rattle.es_values.specs.declared.values.Value.TheVariants.{Undefined, Null, Bool as Boolean, Number, Str, Object, Function, Host}
use Rattle.es_values.specs.Arrays.{array_of, elements_of, turned_object, with_first_elements}
use Rattle.es_values.specs.Conversions.{text_of}
use Rattle.es_values.specs.Heaps.{IsLive, IsSound, holds_function, new_object, object_at, with_length, with_object}
use Rattle.es_values.specs.Objects.{ObjectState}
use Rattle.es_values.specs.Values.{is_function}
use Rattle.es_builtins.specs.declared.functions.BuiltIn.{BuiltIn}
use Rattle.es_builtins.specs.declared.functions.BuiltIn.TheVariants as function
use Rattle.es_builtins.specs.declared.methods.Method.{Method}
use Rattle.es_builtins.specs.declared.methods.Method.TheVariants as the
use Rattle.es_builtins.specs.Arrays.{array_of_arguments, sorted, sorted_object}
use Rattle.es_builtins.specs.Dates.{date_fields, part_given}
use Rattle.es_builtins.specs.Functions.{call_row, codes_row, construction_row, function_of, function_row, new_row, row_or_none}
use Rattle.es_builtins.specs.Keeping.{GivesKept, RowKeeps}
use Rattle.es_builtins.specs.Methods.{array_row, base_row, digits_row, function_method_row, method_of, method_row, object_row, plain_row, sort_row, text_row}
use Rattle.es_builtins.specs.Rows.{Row}
use Rattle.es_builtins.specs.Texts.{split}
use Rattle.es_builtins.specs.Rows.Row.{NoRow, Gives}
use Rattle.es_builtins.proofs.SortLemmas.{sorted-all}

-- What is known of a heap after each change: that it is sound, and which functions it holds
pub record HeapLaws : Type 0 where
  pub new : (heap : List ObjectState) (array : Bool) → IsSound heap → IsSound (heap ++ new_object array ∷ [])
  pub new_functions : (heap : List ObjectState) (array : Bool) (number : ℕ) → holds_function number (heap ++ new_object array ∷ []) ≡ holds_function number heap
  pub made : (heap : List ObjectState) (values : List Value) → IsSound heap → All (IsLive heap) values → IsSound (heap ++ array_of values ∷ [])
  pub made_functions : (heap : List ObjectState) (number : ℕ) (values : List Value) → holds_function number (heap ++ array_of values ∷ []) ≡ true → (holds_function number heap || list_any (is_function number) values) ≡ true
  pub empty : (heap : List ObjectState) (size : Num) → IsSound heap → IsSound (heap ++ with_length (new_object true) size ∷ [])
  pub empty_functions : (heap : List ObjectState) (number : ℕ) (size : Num) → holds_function number (heap ++ with_length (new_object true) size ∷ []) ≡ true → holds_function number heap ≡ true
  pub elements : (heap : List ObjectState) (object : ℕ) → IsSound heap → All (IsLive heap) (elements_of (object_at heap object))
  pub element_functions : (heap : List ObjectState) (object number : ℕ) → list_any (is_function number) (elements_of (object_at heap object)) ≡ true → holds_function number heap ≡ true
  pub set : (heap : List ObjectState) (object : ℕ) (values : List Value) → IsSound heap → All (IsLive heap) values → IsSound (with_object heap object (with_first_elements (object_at heap object) values))
  pub set_functions : (heap : List ObjectState) (object number : ℕ) (values : List Value) → holds_function number (with_object heap object (with_first_elements (object_at heap object) values)) ≡ true → (holds_function number heap || list_any (is_function number) values) ≡ true
  pub turned : (heap : List ObjectState) (object : ℕ) → IsSound heap → IsSound (with_object heap object (turned_object (object_at heap object)))
  pub turned_functions : (heap : List ObjectState) (object number : ℕ) → holds_function number (with_object heap object (turned_object (object_at heap object))) ≡ true → holds_function number heap ≡ true
  pub date : (heap : List ObjectState) (moment : Option Moment) → IsSound heap → IsSound (heap ++ date_object moment ∷ [])
  pub date_functions : (heap : List ObjectState) (moment : Option Moment) (number : ℕ) → holds_function number (heap ++ date_object moment ∷ []) ≡ true → holds_function number heap ≡ true

otherwise : (a b : Bool) → (a ≡ false → b ≡ false) → b ≡ true → a ≡ true
otherwise true b f h = refl
otherwise false b f h = absurd (cc (sym (f refl) ∙ h))

none-any : (p : Value → Bool) (vs : List Value) → list_any p vs ≡ false → All (λ v. p v ≡ false) vs
none-any p [] h = All-nil (λ v. p v ≡ false)
none-any p (v ∷ vs) h =
    let parts = or_parts (p v) (list_any p vs) h in
    All-cons (λ w. p w ≡ false) v vs parts.0 (none-any p vs parts.1)

-- what is among values in order is among the values
sorted-any : (heap : List ObjectState) (p : Value → Bool) (vs : List Value) → list_any p (sorted heap vs) ≡ true → list_any p vs ≡ true
sorted-any heap p vs =
    otherwise (list_any p vs) (list_any p (sorted heap vs))
    (λ h. list_any_none p (sorted heap vs) (sorted-all (λ v. p v ≡ false) heap vs (none-any p vs h)))

texts-none : (number : ℕ) (parts : List (List ℕ)) → list_any (is_function number) (map (λ part. Str part) parts) ≡ false
texts-none number [] = refl
texts-none number (part ∷ parts) = texts-none number parts

module _ (laws : HeapLaws) (heap : List ObjectState) (sound : IsSound heap) where
  -- no function comes into a heap but from another one or from what was handed in
  abbrev FunctionsKept : List Value → List ObjectState → Type 0
  FunctionsKept handed given = (number : ℕ) → holds_function number given ≡ true → (holds_function number heap || list_any (is_function number) handed) ≡ true

  -- no function comes in
  abbrev NoFunctions : List ObjectState → Type 0
  NoFunctions given = (number : ℕ) → holds_function number given ≡ true → holds_function number heap ≡ true

  no-functions : (handed : List Value) (given : List ObjectState) → NoFunctions given → FunctionsKept handed given
  no-functions handed given h = λ number k. or_left (holds_function number heap) (list_any (is_function number) handed) (h number k)

  -- the heap stays
  kept-value : (handed : List Value) (v : Value) → IsLive heap v → ((number : ℕ) → is_function number v ≡ true → ⊥) → GivesKept heap handed v heap
  kept-value handed v live other = record {
    keeps = record { objects = omega arith; functions = no-functions handed heap (λ number h. h) };
    sound = sound;
    live = live;
    known = λ number h. absurd (other number h);
  }

  kept-text : (handed : List Value) (text : List ℕ) → GivesKept heap handed (Str text) heap
  kept-text handed text = kept-value handed (Str text) tt (λ number h. cc h)

  kept-number : (handed : List Value) (number : Num) → GivesKept heap handed (Number number) heap
  kept-number handed number = kept-value handed (Number number) tt (λ n h. cc h)

  kept-truth : (handed : List Value) (truth : Bool) → GivesKept heap handed (Boolean truth) heap
  kept-truth handed truth = kept-value handed (Boolean truth) tt (λ n h. cc h)

  kept-itself : (base : Value) (arguments : List Value) → IsLive heap base → GivesKept heap (base ∷ arguments) base heap
  kept-itself base arguments live = record {
    keeps = record { objects = omega arith; functions = no-functions (base ∷ arguments) heap (λ number h. h) };
    sound = sound;
    live = live;
    known = λ number h. or_right (holds_function number heap) (list_any (is_function number) (base ∷ arguments)) (or_left (is_function number base) (list_any (is_function number) arguments) h);
  }

  -- an object is added
  kept-added : (handed : List Value) (o : ObjectState) → IsSound (heap ++ o ∷ []) → FunctionsKept handed (heap ++ o ∷ []) → GivesKept heap handed (Object (length heap)) (heap ++ o ∷ [])
  kept-added handed o new functions = record {
    keeps = record { objects = omega (arith, length-append heap (o ∷ [])); functions = functions };
    sound = new;
    live = let more : length heap < length (heap ++ o ∷ []) = omega (arith, length-append heap (o ∷ [])) in more;
    known = λ number h. absurd (cc h);
  }

  -- one is changed
  kept-changed : (handed : List Value) (number : ℕ) (o : ObjectState) → number < length heap → IsSound (with_object heap number o) → NoFunctions (with_object heap number o) → GivesKept heap handed (Object number) (with_object heap number o)
  kept-changed handed number o within new functions = record {
    keeps = record { objects = omega (arith, length-set heap number o); functions = no-functions handed (with_object heap number o) functions };
    sound = new;
    live = let there : number < length (with_object heap number o) = omega (arith, length-set heap number o) in there;
    known = λ n h. absurd (cc h);
  }

  -- functions

  arguments-sound : (arguments : List Value) → All (IsLive heap) arguments → IsSound (heap ++ array_of_arguments arguments ∷ [])
  arguments-sound (Number size ∷ []) live = laws.empty heap size sound
  arguments-sound arguments live = laws.made heap arguments sound live

  arguments-functions : (arguments : List Value) → FunctionsKept arguments (heap ++ array_of_arguments arguments ∷ [])
  arguments-functions (Number size ∷ []) number h = or_left (holds_function number heap) (list_any (is_function number) (Number size ∷ [])) (laws.empty_functions heap number size h)
  arguments-functions arguments number h = laws.made_functions heap number arguments h

  pub call-kept : (arguments : List Value) → All (IsLive heap) arguments → (f : BuiltIn) → RowKeeps heap arguments (call_row heap arguments f)
  call-kept arguments live function.Object = kept-added arguments (new_object false) (laws.new heap false sound) (no-functions arguments (heap ++ new_object false ∷ []) (λ number h. sym (laws.new_functions heap false number) ∙ h))
  call-kept arguments live function.Array = kept-added arguments (array_of_arguments arguments) (arguments-sound arguments live) (arguments-functions arguments)
  call-kept [] live function.String = kept-text [] []
  call-kept (value ∷ more) live function.String = kept-text (value ∷ more) _
  call-kept [] live function.Number = kept-number [] _
  call-kept (value ∷ more) live function.Number = kept-number (value ∷ more) _
  call-kept arguments live function.Boolean = kept-truth arguments _
  call-kept arguments live function.IsNan = kept-truth arguments _
  call-kept arguments live function.ParseInt = kept-number arguments _
  call-kept arguments live function.Date =
      let moment = option_and_then moment_of_fields (date_fields heap arguments) in
      kept-added arguments (date_object moment) (laws.date heap moment sound) (no-functions arguments (heap ++ date_object moment ∷ []) (laws.date_functions heap moment))

  new-kept : (arguments : List Value) → All (IsLive heap) arguments → (f : BuiltIn) → RowKeeps heap arguments (new_row heap arguments f)
  new-kept arguments live function.IsNan = tt
  new-kept arguments live function.ParseInt = tt
  new-kept arguments live f = call-kept arguments live f

  or-none : (arguments : List Value) (row : BuiltIn → Row) → ((f : BuiltIn) → RowKeeps heap arguments (row f)) → (f : Option BuiltIn) → RowKeeps heap arguments (row_or_none row f)
  or-none arguments row h None = tt
  or-none arguments row h (Some f) = h f

  pub function-kept : (number : ℕ) (arguments : List Value) → All (IsLive heap) arguments → RowKeeps heap arguments (function_row heap number arguments)
  function-kept number arguments live = or-none arguments (call_row heap arguments) (call-kept arguments live) (function_of number)

  pub construction-kept : (number : ℕ) (arguments : List Value) → All (IsLive heap) arguments → RowKeeps heap arguments (construction_row heap number arguments)
  construction-kept number arguments live = or-none arguments (new_row heap arguments) (new-kept arguments live) (function_of number)

  -- methods

  texts-live : (parts : List (List ℕ)) → All (IsLive heap) (map (λ part. Str part) parts)
  texts-live [] = All-nil (IsLive heap)
  texts-live (part ∷ parts) = All-cons (IsLive heap) (Str part) (map (λ p. Str p) parts) tt (texts-live parts)

  parts-kept : (handed : List Value) (parts : List (List ℕ)) → GivesKept heap handed (Object (length heap)) (heap ++ array_of (map (λ part. Str part) parts) ∷ [])
  parts-kept handed parts =
      let values = map (λ part. Str part) parts in
      kept-added handed (array_of values) (laws.made heap values sound (texts-live parts))
      (no-functions handed (heap ++ array_of values ∷ []) (λ number h.
      elim (or_cases (holds_function number heap) (list_any (is_function number) values) (laws.made_functions heap number values h)) [
        | inl held ↦ held
        | inr among ↦ absurd (cc (sym (texts-none number parts) ∙ among))
      ]))

  text-kept : (text : List ℕ) (arguments : List Value) (method : Method) → RowKeeps heap (Str text ∷ arguments) (text_row heap text arguments method)
  text-kept text arguments the.CharAt = kept-text (Str text ∷ arguments) _
  text-kept text arguments the.CharCodeAt = kept-number (Str text ∷ arguments) _
  text-kept text arguments the.IndexOf = kept-number (Str text ∷ arguments) _
  text-kept text arguments the.LastIndexOf = kept-number (Str text ∷ arguments) _
  text-kept text arguments the.Substring = kept-text (Str text ∷ arguments) _
  text-kept text arguments the.Split = parts-kept (Str text ∷ arguments) (split text (option_map (text_of heap) (slice_get arguments 0)))
  text-kept text arguments the.ToText = kept-text (Str text ∷ arguments) text
  text-kept text arguments the.ValueOf = kept-text (Str text ∷ arguments) text
  text-kept text arguments _ = tt

  digits-kept : (number : Num) (arguments : List Value) (method : Method) → RowKeeps heap (Number number ∷ arguments) (digits_row heap number arguments method)
  digits-kept number arguments the.ToText = kept-text (Number number ∷ arguments) _
  digits-kept number arguments the.ValueOf = kept-number (Number number ∷ arguments) number
  digits-kept number arguments _ = tt

  plain-kept : (base : Value) (arguments : List Value) → IsLive heap base → (method : Method) → RowKeeps heap (base ∷ arguments) (plain_row heap base method)
  plain-kept base arguments live the.ToText = kept-text (base ∷ arguments) _
  plain-kept base arguments live the.ValueOf = kept-itself base arguments live
  plain-kept base arguments live _ = tt

  sort-functions : (number : ℕ) → NoFunctions (with_object heap number (sorted_object heap (object_at heap number)))
  sort-functions number n h =
      let elements = elements_of (object_at heap number) in
      elim (or_cases (holds_function n heap) (list_any (is_function n) (sorted heap elements)) (laws.set_functions heap number n (sorted heap elements) h)) [
        | inl held ↦ held
        | inr among ↦ laws.element_functions heap number n (sorted-any heap (is_function n) elements among)
      ]

  sort-kept : (number count : ℕ) (arguments : List Value) → number < length heap → RowKeeps heap (Object number ∷ arguments) (sort_row heap number (object_at heap number) count arguments)
  sort-kept number count [] within =
      let elements = elements_of (object_at heap number) in
      kept-changed (Object number ∷ []) number (sorted_object heap (object_at heap number)) within
      (laws.set heap number (sorted heap elements) sound (sorted-all (IsLive heap) heap elements (laws.elements heap number sound)))
      (sort-functions number)
  sort-kept number count (value ∷ more) within = tt

  array-kept : (number count : ℕ) (arguments : List Value) → number < length heap → (method : Method) → RowKeeps heap (Object number ∷ arguments) (array_row heap number (object_at heap number) count arguments method)
  array-kept number count arguments within the.Join = kept-text (Object number ∷ arguments) _
  array-kept number count arguments within the.Reverse = kept-changed (Object number ∷ arguments) number (turned_object (object_at heap number)) within (laws.turned heap number sound) (laws.turned_functions heap number)
  array-kept number count arguments within the.Sort = sort-kept number count arguments within
  array-kept number count arguments within method = plain-kept (Object number) arguments within method

  object-kept : (number : ℕ) (arguments : List Value) → number < length heap → (method : Method) → RowKeeps heap (Object number ∷ arguments) (object_row heap number (object_at heap number) arguments method)
  object-kept number arguments within (the.Get part) = by (is_date (object_at heap number))
    where
      by : (t : Bool) → RowKeeps heap (Object number ∷ arguments) (if t then Gives 0 (Number (part_given part (moment_in (object_at heap number)))) heap else NoRow)
      by true = kept-number (Object number ∷ arguments) _
      by false = tt
  object-kept number arguments within method = by (object_at heap number).array_length
    where
      by : (size : Option ℕ) → RowKeeps heap (Object number ∷ arguments) (option_map_or (λ count. array_row heap number (object_at heap number) count arguments method) size (plain_row heap (Object number) method))
      by None = plain-kept (Object number) arguments within method
      by (Some count) = array-kept number count arguments within method

  function_method-kept : (number : ℕ) (arguments : List Value) (method : Method) → RowKeeps heap (Function number ∷ arguments) (function_method_row heap number arguments method)
  function_method-kept number arguments the.FromCharCode = by (number == 2)
    where
      by : (t : Bool) → RowKeeps heap (Function number ∷ arguments) (if t then codes_row heap arguments else NoRow)
      by true = kept-text (Function number ∷ arguments) _
      by false = tt
  function_method-kept number arguments method = plain-kept (Function number) arguments tt method

  base-kept : (base : Value) (arguments : List Value) → IsLive heap base → (method : Method) → RowKeeps heap (base ∷ arguments) (base_row heap base arguments method)
  base-kept Undefined arguments live method = tt
  base-kept Null arguments live method = tt
  base-kept (Boolean truth) arguments live method = plain-kept (Boolean truth) arguments tt method
  base-kept (Number number) arguments live method = digits-kept number arguments method
  base-kept (Str text) arguments live method = text-kept text arguments method
  base-kept (Object number) arguments live method = object-kept number arguments live method
  base-kept (Function number) arguments live method = function_method-kept number arguments method
  base-kept (Host reference) arguments live method = tt

  pub method-kept : (base : Value) (name : List ℕ) (arguments : List Value) → IsLive heap base → RowKeeps heap (base ∷ arguments) (method_row heap base name arguments)
  method-kept base name arguments live = by (method_of name)
    where
      by : (method : Option Method) → RowKeeps heap (base ∷ arguments) (option_map_or (base_row heap base arguments) method NoRow)
      by None = tt
      by (Some method) = base-kept base arguments live method
