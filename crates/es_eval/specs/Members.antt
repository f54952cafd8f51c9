-- Names and members: how they are read, written and taken away (ECMA-262 second edition, 8.7, 10.1.4, 11.2.1
-- and 11.4.1; what is stopped and charged is this project's own).
use Rattle.std.specs.Prelude.{ℕ, false, if◌then◌else◌, List, length, Option, Some, None}
use Rattle.std.specs.Option.{option_map_or}
use Rattle.es_values.specs.declared.values.Value.{Value}
use Rattle.es_values.specs.declared.values.Value.TheVariants.{Undefined, Null, Bool as Boolean, Number, Str, Object, Function, Host}
use Rattle.es_values.specs.Charges.{conversion_charge, put_charge}
use Rattle.es_values.specs.Heaps.{has_property, is_length, object_at, value_of, with_object, without_property}
use Rattle.es_values.specs.Numbers.{number_of_count}
use Rattle.es_values.specs.Operators.{with_put}
use Rattle.es_builtins.specs.Functions.{function_member, value_named}
use Rattle.es_eval.specs.declared.outcomes.StopCause.TheVariants.{NotObject, Unresolved}
use Rattle.es_eval.specs.Actions.{Action, as_text, behind, charged, gives, stops}
use Rattle.es_eval.specs.Worlds.{World, global, local, with_name}
use Rattle.es_eval.specs.Worlds.Run.{Reads, Writes}

-- ---- names

-- a local, else a global, else what is built in
abbrev pub first_of : Option Value → Option Value → Option Value
first_of (Some value) other = Some value
first_of None other = other

abbrev pub named : World → List ℕ → Option Value
named w name = first_of (local w name) (first_of (global w name) (value_named name))

abbrev pub read_name : List ℕ → Action Value
read_name name = λ w next.
    option_map_or (λ value. gives value w next) (named w name) (stops Unresolved w next)

abbrev pub write_name : List ℕ → Value → Action Value
write_name name value = λ w next. next value (with_name name value w)

-- ---- members

-- of a text its length, and nothing else
abbrev pub text_member : List ℕ → List ℕ → Value
text_member text key =
    if is_length key then Number (number_of_count (length text)) else Undefined

abbrev pub read_member : Value → List ℕ → Action Value
read_member Undefined key = stops NotObject
read_member Null key = stops NotObject
read_member (Boolean truth) key = gives Undefined
read_member (Number number) key = gives Undefined
read_member (Str text) key = gives (text_member text key)
read_member (Object object) key = λ w next. next (value_of (object_at w.heap object) key) w
read_member (Function number) key = gives (function_member number key)
read_member (Host reference) key = λ w next. Reads reference key (λ value. next value w)

-- what is written is what is given
abbrev pub put_member : ℕ → List ℕ → Value → Action Value
put_member object key value = λ w next.
    next value (record w { heap = with_put w.heap object key value })

abbrev pub write_to_host : Value → List ℕ → Value → Action Value
write_to_host (Host reference) key value = λ w next.
    Writes reference key value w.heap (next value w)
write_to_host other key value = gives value

abbrev pub write_member : Value → List ℕ → Value → Action Value
write_member Undefined key value = stops NotObject
write_member Null key value = stops NotObject
write_member (Object object) key value =
    charged (λ heap. put_charge heap object key value) (put_member object key value)
write_member (Host reference) key value =
    charged (λ heap. conversion_charge heap value) (write_to_host (Host reference) key value)
write_member other key value = gives value

-- `delete`: whether a property was there that can go; of all but objects there is none, and their key
-- doesn't become a text
abbrev pub delete_in : ℕ → List ℕ → Action Value
delete_in object key = λ w next.
    next (Boolean (has_property (object_at w.heap object) key))
    (record w {
      heap = with_object w.heap object (without_property (object_at w.heap object) key);
    })

abbrev pub delete_member : Value → List ℕ → Action Value
delete_member (Object object) key = delete_in object key
delete_member other key = gives (Boolean false)

abbrev pub delete_index : Value → Value → Action Value
delete_index (Object object) key = behind (as_text key) (delete_in object)
delete_index other key = gives (Boolean false)

-- ---- what a target names, once its base and key are there

pub data Place : Type 0 where
  NamePlace : (name : List ℕ) → Place
  MemberPlace : (base : Value) → (key : List ℕ) → Place

abbrev pub read_place : Place → Action Value
read_place (NamePlace name) = read_name name
read_place (MemberPlace base key) = read_member base key

abbrev pub write_place : Place → Value → Action Value
write_place (NamePlace name) value = write_name name value
write_place (MemberPlace base key) value = write_member base key value
