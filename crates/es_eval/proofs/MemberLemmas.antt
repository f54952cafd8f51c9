-- Names, members, places and operators are alike with themselves: none of them has a bound.
use Rattle.std.proofs.Common.{◌≡◌, ℕ, Bool, true, false, List, refl, arith}
use Rattle.std.specs.Prelude.{Option, Some, None, is_some, not, if◌then◌else◌}
use Rattle.std.specs.Option.{option_map_or}
use Rattle.es_values.specs.declared.values.Value.{Value}
use Rattle.es_values.specs.declared.values.Value.TheVariants.{Undefined, Null, Bool as Boolean, Number, Str, Object, Function, Host}
use Rattle.es_values.specs.Heaps.{has_property, object_at, value_of, with_object, without_property}
use Rattle.es_values.specs.Operators.{with_put}
use Rattle.es_values.specs.Values.{truth_of}
use Rattle.es_builtins.specs.Functions.{function_member}
use Rattle.es_shapes.specs.declared.operators.Operator.{Operator}
use Rattle.es_shapes.specs.declared.operators.Sign.{Sign}
use Rattle.es_shapes.specs.declared.operators.Sign.TheVariants as sign
use Rattle.es_eval.specs.declared.outcomes.StopCause.TheVariants.{NotObject, Unresolved}
use Rattle.es_eval.specs.Actions.{gives, stops}
use Rattle.es_eval.specs.Members.{Place, delete_in, delete_index, delete_member, named, put_member, read_member, read_name, read_place, text_member, write_member, write_name, write_place, write_to_host}
use Rattle.es_eval.specs.Members.Place.{NamePlace, MemberPlace}
use Rattle.es_shapes.specs.Operators.{operated, signed_number, stepped, type_text}
use Rattle.es_eval.specs.Operations.{operates, signs}
use Rattle.es_eval.specs.Rows.{step_row, typeof_name}
use Rattle.es_eval.specs.Worlds.{World, local, with_global, with_local, with_name, with_more}
use Rattle.es_eval.specs.Worlds.Run.{Reads, Writes}
use Rattle.es_eval.proofs.AlikeLemmas.{Alike, Same, and_then-alike, as_number-alike, as_text-alike, behind-alike, charged-alike, gives-alike, gives-in-alike, stops-alike}

-- ---- names

named-alike : {left : ℕ} (found : Option Value) → Alike left
    (λ w next. option_map_or (λ value. gives value w next) found (stops Unresolved w next))
    (λ w next. option_map_or (λ value. gives value w next) found (stops Unresolved w next))
named-alike None = stops-alike Unresolved
named-alike (Some value) = gives-alike value

pub read_name-alike : {left : ℕ} (name : List ℕ) → Alike left (read_name name) (read_name name)
read_name-alike name = record {
  same = λ counted w l next other onward.
      (named-alike (named w name)).same counted w l next other onward;
  further = λ more w l next other on.
      (named-alike (named w name)).further more w l next other on;
}

with_name-left : (name : List ℕ) (value : Value) (w : World)
    → (with_name name value w).left ≡ w.left
with_name-left name value w = go (is_some (local w name))
  where
    go : (is_local : Bool)
        → (if is_local then with_local name value w else with_global name value w).left ≡ w.left
    go true = refl
    go false = refl

with_name-more : (name : List ℕ) (value : Value) (more : ℕ) (w : World)
    → with_name name value (with_more more w) ≡ with_more more (with_name name value w)
with_name-more name value more w = go (is_some (local w name))
  where
    go : (is_local : Bool)
        → (if is_local then with_local name value (with_more more w)
        else with_global name value (with_more more w))
        ≡ with_more more (if is_local then with_local name value w else with_global name value w)
    go true = refl
    go false = refl

pub write_name-alike : {left : ℕ} (name : List ℕ) (value : Value)
    → Alike left (write_name name value) (write_name name value)
write_name-alike name value =
    gives-in-alike (λ w. value) (with_name name value) (with_name-left name value)
    (λ more w. refl) (with_name-more name value)

-- ---- members

pub read_member-alike : {left : ℕ} (base : Value) (key : List ℕ)
    → Alike left (read_member base key) (read_member base key)
read_member-alike Undefined key = stops-alike NotObject
read_member-alike Null key = stops-alike NotObject
read_member-alike (Boolean truth) key = gives-alike Undefined
read_member-alike (Number number) key = gives-alike Undefined
read_member-alike (Str text) key = gives-alike (text_member text key)
read_member-alike (Object object) key =
    gives-in-alike (λ w. value_of (object_at w.heap object) key) (λ w. w) (λ w. refl)
    (λ more w. refl) (λ more w. refl)
read_member-alike (Function number) key = gives-alike (function_member number key)
read_member-alike (Host reference) key = record {
  same = λ counted w l next other onward.
      let on : (value : Value) → Same counted w.left (next value w) (other value w)
      = λ value. onward.on value w (omega arith) in
      record {
        run = λ i. Reads reference key (λ value. (on value).run i);
        ends = λ asked value. (on value).ends asked;
      };
  further = λ more w l next other on.
      (_, refl, λ value. on.on value w (omega arith));
}

put_member-alike : {left : ℕ} (object : ℕ) (key : List ℕ) (value : Value)
    → Alike left (put_member object key value) (put_member object key value)
put_member-alike object key value =
    gives-in-alike (λ w. value) (λ w. record w { heap = with_put w.heap object key value })
    (λ w. refl) (λ more w. refl) (λ more w. refl)

write_to_host-alike : {left : ℕ} (base : Value) (key : List ℕ) (value : Value)
    → Alike left (write_to_host base key value) (write_to_host base key value)
write_to_host-alike (Host reference) key value = record {
  same = λ counted w l next other onward.
      let on : Same counted w.left (next value w) (other value w)
      = onward.on value w (omega arith) in
      record {
        run = λ i. Writes reference key value w.heap (on.run i);
        ends = λ asked. on.ends asked;
      };
  further = λ more w l next other on. (_, refl, on.on value w (omega arith));
}
write_to_host-alike _ key value = gives-alike value

pub write_member-alike : {left : ℕ} (base : Value) (key : List ℕ) (value : Value)
    → Alike left (write_member base key value) (write_member base key value)
write_member-alike Undefined key value = stops-alike NotObject
write_member-alike Null key value = stops-alike NotObject
write_member-alike (Object object) key value =
    charged-alike _ (put_member-alike object key value)
write_member-alike (Host reference) key value =
    charged-alike _ (write_to_host-alike (Host reference) key value)
write_member-alike _ key value = gives-alike value

delete_in-alike : {left : ℕ} (object : ℕ) (key : List ℕ)
    → Alike left (delete_in object key) (delete_in object key)
delete_in-alike object key =
    gives-in-alike (λ w. Boolean (has_property (object_at w.heap object) key))
    (λ w. record w {
      heap = with_object w.heap object (without_property (object_at w.heap object) key);
    }) (λ w. refl) (λ more w. refl) (λ more w. refl)

pub delete_member-alike : {left : ℕ} (base : Value) (key : List ℕ)
    → Alike left (delete_member base key) (delete_member base key)
delete_member-alike (Object object) key = delete_in-alike object key
delete_member-alike _ key = gives-alike (Boolean false)

pub delete_index-alike : {left : ℕ} (base key : Value)
    → Alike left (delete_index base key) (delete_index base key)
delete_index-alike (Object object) key =
    behind-alike (as_text-alike key) (delete_in-alike object)
delete_index-alike _ key = gives-alike (Boolean false)

-- ---- places

pub read_place-alike : {left : ℕ} (place : Place) → Alike left (read_place place) (read_place place)
read_place-alike (NamePlace name) = read_name-alike name
read_place-alike (MemberPlace base key) = read_member-alike base key

pub write_place-alike : {left : ℕ} (place : Place) (value : Value)
    → Alike left (write_place place value) (write_place place value)
write_place-alike (NamePlace name) value = write_name-alike name value
write_place-alike (MemberPlace base key) value = write_member-alike base key value

-- ---- operators

pub operates-alike : {left : ℕ} (operator : Operator) (first second : Value)
    → Alike left (operates operator first second) (operates operator first second)
unfolding operates
operates-alike operator first second =
    charged-alike _
    (gives-in-alike (λ w. operated w.heap operator first second) (λ w. w) (λ w. refl)
    (λ more w. refl) (λ more w. refl))

pub signs-alike : {left : ℕ} (of : Sign) (value : Value)
    → Alike left (signs of value) (signs of value)
signs-alike sign.Not value = gives-alike (Boolean (not (truth_of value)))
signs-alike other value =
    behind-alike (as_number-alike value) (λ number. gives-alike (signed_number other number))

pub typeof_name-alike : {left : ℕ} (name : List ℕ)
    → Alike left (typeof_name name) (typeof_name name)
typeof_name-alike name =
    gives-in-alike (λ w. option_map_or type_text (named w name) (type_text Undefined)) (λ w. w)
    (λ w. refl) (λ more w. refl) (λ more w. refl)

pub step_row-alike : {left : ℕ} (in_front down : Bool) (place : Place)
    → Alike left (step_row in_front down place) (step_row in_front down place)
step_row-alike in_front down place =
    behind-alike (read_place-alike place) (λ value. behind-alike (as_number-alike value) (λ number.
    and_then-alike (write_place-alike place (Number (stepped down number)))
    (gives-alike (Number (if in_front then stepped down number else number)))))
