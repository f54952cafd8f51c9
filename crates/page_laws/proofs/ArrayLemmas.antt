-- What calls of the browser object leave of the objects of scripts: an array that is new names what is there.
use Rattle.std.proofs.Common.{◌≡◌, ◌⊎◌, inl, inr, ℕ, ◌+◌, Bool, true, false, List, [], ◌∷◌, ◌++◌, refl, sym, subst}
use Rattle.std.specs.Prelude.{All, Option, Some, if◌then◌else◌, map}
use Rattle.std.proofs.lemmas.List.Elements.{All-cons, All-head, All-map, All-nil, All-push, All-tail}
use Rattle.indexmap.specs.IndexMap.{insert_entry}
use Rattle.bml_bytes.specs.Numerals.{decimal_digits}
use Rattle.bml_bytes.specs.Words.{is_same}
use Rattle.dom_tree.specs.Items.{Item}
use Rattle.multipart_entities.specs.declared.paths.Path.{Path}
use Rattle.date_objects.specs.Dates.{date_object, day_name, day_value, second_name, second_value}
use Rattle.es_date.specs.declared.moments.Moment.{Moment}
use Rattle.es_values.specs.declared.hosts.HostAnswer.TheVariants.{Value as Answer}
use Rattle.es_values.specs.declared.values.Value.{Value}
use Rattle.es_values.specs.Arrays.{array_of, with_elements}
use Rattle.es_values.specs.Heaps.{IsLive, IsSound, new_object, with_property}
use Rattle.es_values.specs.Hosts.{IsAnswer, KeepsHeap}
use Rattle.es_values.specs.Objects.{ObjectState}
use Rattle.persistent_arrays.specs.declared.fields.Field.{Field}
use Rattle.persistent_arrays.specs.declared.fields.Field.TheVariants.{Bit, Whole, Words}
use Rattle.browser_objects.specs.ArrayCalls.{value_of_field, with_array_of}
use Rattle.browser_objects.specs.Calls.{BrowserParts, call_of}
use Rattle.script_laws.specs.Passing.{AllPass, ObjectPasses}
use Rattle.script_laws.specs.Staying.{IsFit}
use Rattle.page_laws.specs.Soundness.{is_good}

-- what is known of the calls of the browser object, and of new arrays
pub record CallLaws : Type 0 where
  pub answers : (name : List ℕ) (base : Path) (now : ℕ) (arguments : List Value)
      (heap : List ObjectState) (s : BrowserParts)
      → IsAnswer (call_of name base now arguments heap s).heap
      (Answer (call_of name base now arguments heap s).called.value)
  pub heaps : (name : List ℕ) (base : Path) (now : ℕ) (arguments : List Value)
      (heap : List ObjectState) (s : BrowserParts)
      → KeepsHeap heap arguments (call_of name base now arguments heap s).heap
  pub objects : (name : List ℕ) (base : Path) (now : ℕ) (arguments : List Value)
      (heap : List ObjectState) (s : BrowserParts)
      → ((call_of name base now arguments heap s).heap ≡ heap)
      ⊎ ((values : List Field)
      × ((call_of name base now arguments heap s).heap ≡ with_array_of heap values))
      ⊎ ((moment : Moment) × ((call_of name base now arguments heap s).heap
      ≡ heap ++ date_object (Some moment) ∷ []))
  pub arrays : (heap : List ObjectState) (values : List Value) → IsSound heap
      → All (IsLive heap) values → IsSound (heap ++ array_of values ∷ [])
  pub dates : (heap : List ObjectState) (moment : Option Moment) → IsSound heap
      → IsSound (heap ++ date_object moment ∷ [])

-- ---- an array of values that pass

module _ (good : Value → Bool) where
  abbrev Passes : Value → Type 0
  Passes value = good value ≡ true

  abbrev PropertyPasses : List ℕ × Value → Type 0
  PropertyPasses property = good property.1 ≡ true

  put-passes : (properties : List (List ℕ × Value)) (name : List ℕ) (value : Value)
      → All PropertyPasses properties → good value ≡ true
      → All PropertyPasses (insert_entry is_same properties name value)
  put-passes [] name value all h = All-cons PropertyPasses (name, value) [] h all
  put-passes (property ∷ properties) name value all h =
      by (is_same name property.0) (put-passes properties name value rest h)
    where
      rest : All PropertyPasses properties
      rest = All-tail PropertyPasses property properties all

      by : (same : Bool) → All PropertyPasses (insert_entry is_same properties name value)
          → All PropertyPasses (if same then (property.0, value) ∷ properties
          else property ∷ insert_entry is_same properties name value)
      by true more = All-cons PropertyPasses (property.0, value) properties h rest
      by false more =
          All-cons PropertyPasses property (insert_entry is_same properties name value)
          (All-head PropertyPasses property properties all) more

  elements-pass : (object : ObjectState) (place : ℕ) (values : List Value)
      → ObjectPasses good object → AllPass good values
      → ObjectPasses good (with_elements object place values)
  elements-pass object place [] h all = h
  elements-pass object place (value ∷ values) h all =
      elements-pass (with_property object (decimal_digits place) value) (place + 1) values
      (put-passes object.properties (decimal_digits place) value h
      (All-head Passes value values all))
      (All-tail Passes value values all)

  array-passes : (values : List Value) → AllPass good values → ObjectPasses good (array_of values)
  array-passes values all =
      elements-pass (new_object true) 0 values (All-nil PropertyPasses) all

-- ---- an array of the values of fields

field-good : (items : List Item) (limit : ℕ) (field : Field)
    → is_good items limit (value_of_field field) ≡ true
field-good items limit (Bit bit) = refl
field-good items limit (Whole number) = refl
field-good items limit (Words text) = refl

field-live : (heap : List ObjectState) (field : Field) → IsLive heap (value_of_field field)
field-live heap (Bit bit) = tt
field-live heap (Whole number) = tt
field-live heap (Words text) = tt

module _ (laws : CallLaws) (items : List Item) (limit : ℕ) where
  added-fit : (heap : List ObjectState) (fields : List Field) → IsFit (is_good items limit) heap
      → IsFit (is_good items limit) (with_array_of heap fields)
  added-fit heap fields fit =
      let values : List Value = map value_of_field fields in
      record {
        passes = All-push (ObjectPasses (is_good items limit)) heap (array_of values) fit.passes
            (array-passes (is_good items limit) values
            (All-map (λ value. is_good items limit value ≡ true) value_of_field fields
            (λ k d within. field-good items limit _)));
        sound = laws.arrays heap values fit.sound
            (All-map (IsLive heap) value_of_field fields (λ k d within. field-live heap _));
      }

  dated-fit : (heap : List ObjectState) (moment : Moment) → IsFit (is_good items limit) heap
      → IsFit (is_good items limit) (heap ++ date_object (Some moment) ∷ [])
  dated-fit heap moment fit = record {
    passes = All-push (ObjectPasses (is_good items limit)) heap (date_object (Some moment)) fit.passes
        (All-cons (PropertyPasses (is_good items limit)) (day_name, day_value (Some moment))
        ((second_name, second_value (Some moment)) ∷ []) refl
        (All-cons (PropertyPasses (is_good items limit)) (second_name, second_value (Some moment))
        [] refl (All-nil (PropertyPasses (is_good items limit)))));
    sound = laws.dates heap (Some moment) fit.sound;
  }

  -- what a call leaves
  pub call-fit : (name : List ℕ) (base : Path) (now : ℕ) (arguments : List Value)
      (heap : List ObjectState) (s : BrowserParts) → IsFit (is_good items limit) heap
      → IsFit (is_good items limit) (call_of name base now arguments heap s).heap
  call-fit name base now arguments heap s fit =
      by (call_of name base now arguments heap s).heap (laws.objects name base now arguments heap s)
    where
      by : (after : List ObjectState)
          → (after ≡ heap) ⊎ ((fields : List Field) × (after ≡ with_array_of heap fields))
          ⊎ ((moment : Moment) × (after ≡ heap ++ date_object (Some moment) ∷ []))
          → IsFit (is_good items limit) after
      by after (inl same) = subst (IsFit (is_good items limit)) (sym same) fit
      by after (inr (inl added)) =
          subst (IsFit (is_good items limit)) (sym added.1) (added-fit heap added.0 fit)
      by after (inr (inr dated)) =
          subst (IsFit (is_good items limit)) (sym dated.1) (dated-fit heap dated.0 fit)
