-- What rows give passes, kind by kind of value that is called.
use Rattle.std.proofs.Common.{◌≡◌, ℕ, Bool, true, false, List, [], ◌∷◌, ◌++◌, length, map, refl}
use Rattle.std.specs.Prelude.{Option, Some, None, option_and_then, option_map, slice_get, ◌==◌, if◌then◌else◌, pos}
use Rattle.std.specs.Option.{option_map_or}
use Rattle.std.proofs.lemmas.List.Elements.{All-cons, All-nil}
use Rattle.es_values.specs.declared.numbers.Num.{Num}
use Rattle.date_objects.specs.Dates.{date_object, day_name, is_date, moment_in, second_name}
use Rattle.es_date.specs.declared.moments.Moment.{Moment}
use Rattle.es_date.specs.Moments.{moment_of_fields}
use Rattle.es_values.specs.declared.numbers.Num.TheVariants.{NotANumber, Whole}
use Rattle.es_values.specs.declared.values.Value.{Value}
use Rattle.es_values.specs.declared.values.Value.TheVariants.{Undefined, Null, Bool as Boolean, Number, Str, Object, Function, Host}
use Rattle.es_values.specs.Arrays.{array_of, elements_of, turned_object}
use Rattle.es_values.specs.Conversions.{text_of}
use Rattle.es_values.specs.Heaps.{new_object, object_at, object_of}
use Rattle.es_values.specs.Objects.{ObjectState}
use Rattle.es_builtins.specs.declared.functions.BuiltIn.{BuiltIn}
use Rattle.es_builtins.specs.declared.functions.BuiltIn.TheVariants as function
use Rattle.es_builtins.specs.declared.methods.Method.{Method}
use Rattle.es_builtins.specs.declared.methods.Method.TheVariants as the
use Rattle.es_builtins.specs.Arrays.{array_of_arguments, sorted, sorted_object}
use Rattle.es_builtins.specs.Dates.{date_fields, part_given}
use Rattle.es_builtins.specs.Functions.{call_row, codes_row, construction_row, function_of, function_row, new_row, row_or_none}
use Rattle.es_builtins.specs.Methods.{array_row, base_row, digits_row, function_method_row, method_of, method_row, object_row, plain_row, sort_row, text_row}
use Rattle.es_builtins.specs.Rows.{Row}
use Rattle.es_builtins.specs.Rows.Row.{Gives, NoRow}
use Rattle.es_builtins.specs.Texts.{split}
use Rattle.script_laws.specs.Passing.{AllPass, HeapPasses, ObjectPasses, PassesOwn, RowPasses}
use Rattle.script_laws.proofs.HeapLemmas.{added-holds, object-holds, set-holds, sorted-all}
use Rattle.script_laws.proofs.ListLemmas.{array-holds, elements-held, first-holds, length-holds, reversed-holds}

module _ (good : Value → Bool) (limit : ℕ) (own : PassesOwn limit good)
    (heap : List ObjectState) (passes : HeapPasses good heap) where
  abbrev Passes : Value → Type 0
  Passes value = good value ≡ true

  empty-passes : (array : Bool) → ObjectPasses good (new_object array)
  empty-passes array = All-nil (λ property. good property.1 ≡ true)

  array-passes : (values : List Value) → AllPass good values → ObjectPasses good (array_of values)
  array-passes values all = array-holds Passes values all

  -- an object is added
  added : (o : ObjectState) → ObjectPasses good o
      → (good (Object (length heap)) ≡ true) × HeapPasses good (heap ++ o ∷ [])
  added o h = (own (Object (length heap)) refl, added-holds Passes heap o passes h)

  -- ---- functions

  arguments-pass : (arguments : List Value) → AllPass good arguments
      → ObjectPasses good (array_of_arguments arguments)
  arguments-pass (Number size ∷ []) all =
      length-holds Passes (new_object true) size (empty-passes true)
  arguments-pass arguments all = array-passes arguments all

  number-passes : (number : Num) → good (Number number) ≡ true
  number-passes number = own (Number number) refl

  pair-passes : (day second : Num)
      → ObjectPasses good (object_of ((day_name, Number day) ∷ (second_name, Number second) ∷ []))
  pair-passes day second =
      All-cons (λ property. good property.1 ≡ true) (day_name, Number day)
      ((second_name, Number second) ∷ []) (number-passes day)
      (All-cons (λ property. good property.1 ≡ true) (second_name, Number second) []
      (number-passes second) (All-nil (λ property. good property.1 ≡ true)))

  date-passes : (moment : Option Moment) → ObjectPasses good (date_object moment)
  date-passes None = pair-passes NotANumber NotANumber
  date-passes (Some moment) = pair-passes (Whole moment.day) (Whole (pos moment.second))

  call-passes : (arguments : List Value) → AllPass good arguments → (f : BuiltIn)
      → RowPasses good (call_row heap arguments f)
  call-passes arguments all function.Object = added (new_object false) (empty-passes false)
  call-passes arguments all function.Array =
      added (array_of_arguments arguments) (arguments-pass arguments all)
  call-passes [] all function.String = (own (Str []) refl, passes)
  call-passes (value ∷ more) all function.String = (own (Str (text_of heap value)) refl, passes)
  call-passes [] all function.Number = (own (Number (Whole (pos 0))) refl, passes)
  call-passes (value ∷ more) all function.Number = (own (Number _) refl, passes)
  call-passes arguments all function.Boolean = (own (Boolean _) refl, passes)
  call-passes arguments all function.IsNan = (own (Boolean _) refl, passes)
  call-passes arguments all function.ParseInt = (own (Number _) refl, passes)
  call-passes arguments all function.Date =
      let moment = option_and_then moment_of_fields (date_fields heap arguments) in
      added (date_object moment) (date-passes moment)

  new-passes : (arguments : List Value) → AllPass good arguments → (f : BuiltIn)
      → RowPasses good (new_row heap arguments f)
  new-passes arguments all function.IsNan = tt
  new-passes arguments all function.ParseInt = tt
  new-passes arguments all f = call-passes arguments all f

  or-none : (row : BuiltIn → Row) → ((f : BuiltIn) → RowPasses good (row f))
      → (f : Option BuiltIn) → RowPasses good (row_or_none row f)
  or-none row h None = tt
  or-none row h (Some f) = h f

  pub function-passes : (number : ℕ) (arguments : List Value) → AllPass good arguments
      → RowPasses good (function_row heap number arguments)
  function-passes number arguments all =
      or-none (call_row heap arguments) (call-passes arguments all) (function_of number)

  pub construction-passes : (number : ℕ) (arguments : List Value) → AllPass good arguments
      → RowPasses good (construction_row heap number arguments)
  construction-passes number arguments all =
      or-none (new_row heap arguments) (new-passes arguments all) (function_of number)

  -- ---- methods

  texts-pass : (parts : List (List ℕ)) → AllPass good (map (λ part. Str part) parts)
  texts-pass [] = All-nil Passes
  texts-pass (part ∷ parts) =
      All-cons Passes (Str part) (map (λ p. Str p) parts) (own (Str part) refl) (texts-pass parts)

  text-passes : (text : List ℕ) (arguments : List Value) (method : Method)
      → RowPasses good (text_row heap text arguments method)
  text-passes text arguments the.CharAt = (own (Str _) refl, passes)
  text-passes text arguments the.CharCodeAt = (own (Number _) refl, passes)
  text-passes text arguments the.IndexOf = (own (Number _) refl, passes)
  text-passes text arguments the.LastIndexOf = (own (Number _) refl, passes)
  text-passes text arguments the.Substring = (own (Str _) refl, passes)
  text-passes text arguments the.Split =
      let parts = split text (option_map (text_of heap) (slice_get arguments 0)) in
      added (array_of (map (λ part. Str part) parts))
      (array-passes (map (λ part. Str part) parts) (texts-pass parts))
  text-passes text arguments the.ToText = (own (Str text) refl, passes)
  text-passes text arguments the.ValueOf = (own (Str text) refl, passes)
  text-passes text arguments _ = tt

  digits-pass : (number : Num) (arguments : List Value) (method : Method)
      → RowPasses good (digits_row heap number arguments method)
  digits-pass number arguments the.ToText = (own (Str _) refl, passes)
  digits-pass number arguments the.ValueOf = (own (Number number) refl, passes)
  digits-pass number arguments _ = tt

  plain-passes : (base : Value) → good base ≡ true → (method : Method)
      → RowPasses good (plain_row heap base method)
  plain-passes base h the.ToText = (own (Str (text_of heap base)) refl, passes)
  plain-passes base h the.ValueOf = (h, passes)
  plain-passes base h _ = tt

  sort-passes : (number count : ℕ) (arguments : List Value)
      → RowPasses good (sort_row heap number (object_at heap number) count arguments)
  sort-passes number count [] =
      let object = object_at heap number in
      let there = object-holds Passes heap number passes in (
        own (Object number) refl,
        set-holds Passes heap number (sorted_object heap object) passes
            (first-holds Passes object (sorted heap (elements_of object)) there
            (sorted-all Passes heap (elements_of object) (elements-held Passes object there))),
      )
  sort-passes number count (value ∷ more) = tt

  array_row-passes : (number count : ℕ) (arguments : List Value) → good (Object number) ≡ true
      → (method : Method)
      → RowPasses good (array_row heap number (object_at heap number) count arguments method)
  array_row-passes number count arguments h the.Join = (own (Str _) refl, passes)
  array_row-passes number count arguments h the.Reverse =
      let object = object_at heap number in (
        h,
        set-holds Passes heap number (turned_object object) passes
            (reversed-holds Passes object (object-holds Passes heap number passes)),
      )
  array_row-passes number count arguments h the.Sort = sort-passes number count arguments
  array_row-passes number count arguments h method = plain-passes (Object number) h method

  object_row-passes : (number : ℕ) (arguments : List Value) → good (Object number) ≡ true
      → (method : Method)
      → RowPasses good (object_row heap number (object_at heap number) arguments method)
  object_row-passes number arguments h (the.Get part) = by (is_date (object_at heap number))
    where
      by : (t : Bool) → RowPasses good (if t
          then Gives 0 (Number (part_given part (moment_in (object_at heap number)))) heap else NoRow)
      by true = (own (Number _) refl, passes)
      by false = tt
  object_row-passes number arguments h method = by (object_at heap number).array_length
    where
      by : (size : Option ℕ) → RowPasses good
          (option_map_or
          (λ count. array_row heap number (object_at heap number) count arguments method) size
          (plain_row heap (Object number) method))
      by None = plain-passes (Object number) h method
      by (Some count) = array_row-passes number count arguments h method

  function_method-passes : (number : ℕ) (arguments : List Value) → good (Function number) ≡ true
      → (method : Method) → RowPasses good (function_method_row heap number arguments method)
  function_method-passes number arguments h the.FromCharCode = by (number == 2)
    where
      by : (t : Bool) → RowPasses good (if t then codes_row heap arguments else NoRow)
      by true = (own (Str _) refl, passes)
      by false = tt
  function_method-passes number arguments h method = plain-passes (Function number) h method

  base-passes : (base : Value) (arguments : List Value) → good base ≡ true → (method : Method)
      → RowPasses good (base_row heap base arguments method)
  base-passes Undefined arguments h method = tt
  base-passes Null arguments h method = tt
  base-passes (Boolean truth) arguments h method = plain-passes (Boolean truth) h method
  base-passes (Number number) arguments h method = digits-pass number arguments method
  base-passes (Str text) arguments h method = text-passes text arguments method
  base-passes (Object number) arguments h method = object_row-passes number arguments h method
  base-passes (Function number) arguments h method =
      function_method-passes number arguments h method
  base-passes (Host reference) arguments h method = tt

  pub method-passes : (base : Value) (name : List ℕ) (arguments : List Value) → good base ≡ true
      → RowPasses good (method_row heap base name arguments)
  method-passes base name arguments h = by (method_of name)
    where
      by : (method : Option Method)
          → RowPasses good (option_map_or (base_row heap base arguments) method NoRow)
      by None = tt
      by (Some method) = base-passes base arguments h method
