-- Names, members, places and operators keep that all values are known, and hand over only such
-- ones.
use Rattle.std.proofs.Common.{◌≡◌, ℕ, ◌<◌, ◌≤◌, Bool, true, false, List, length, refl, subst, sym, arith}
use Rattle.std.proofs.Math.ListN.{length-set}
use Rattle.std.specs.Prelude.{Option, Some, None, is_some, not, ◌==◌, if◌then◌else◌, codes}
use Rattle.std.specs.Option.{option_map_or}
use Rattle.bml_bytes.specs.Words.{is_same}
use Rattle.es_values.specs.declared.values.HostRef.TheVariants.{Document, Browser}
use Rattle.es_values.specs.declared.values.Value.{Value}
use Rattle.es_values.specs.declared.values.Value.TheVariants.{Undefined, Null, Bool as Boolean, Number, Str, Object, Function, Host}
use Rattle.es_values.specs.declared.numbers.Num.{Num}
use Rattle.es_values.specs.declared.numbers.Num.TheVariants.{NotANumber}
use Rattle.es_values.specs.Heaps.{IsSound, has_property, is_length, object_at, value_of, with_object, without_property}
use Rattle.es_values.specs.Objects.{ObjectState}
use Rattle.es_values.specs.Operators.{adds_texts, addition_of, with_put}
use Rattle.es_values.specs.Values.{IsLiveAmong, truth_of}
use Rattle.es_builtins.specs.declared.functions.BuiltIn.{BuiltIn}
use Rattle.es_builtins.specs.declared.functions.BuiltIn.TheVariants as built
use Rattle.es_builtins.specs.Functions.{function_member, function_named, function_number, other_named, value_named}
use Rattle.es_shapes.specs.declared.operators.Operator.{Operator}
use Rattle.es_shapes.specs.declared.operators.Operator.TheVariants as the
use Rattle.es_shapes.specs.declared.operators.Sign.{Sign}
use Rattle.es_shapes.specs.declared.operators.Sign.TheVariants as sign
use Rattle.es_eval.specs.declared.outcomes.StopCause.TheVariants.{NotObject, Unresolved}
use Rattle.es_eval.specs.Actions.{gives, stops}
use Rattle.es_eval.specs.Members.{Place, delete_in, delete_index, delete_member, first_of, named, put_member, read_member, read_name, read_place, text_member, write_member, write_name, write_place, write_to_host}
use Rattle.es_eval.specs.Members.Place.{NamePlace, MemberPlace}
use Rattle.es_shapes.specs.Operators.{operated, signed_number, stepped, type_text}
use Rattle.es_eval.specs.Operations.{operates, signs}
use Rattle.es_eval.specs.Rows.{step_row, typeof_name}
use Rattle.es_eval.specs.Worlds.{World, global, local, with_global, with_local, with_name}
use Rattle.script_laws.specs.Staying.{IsFit}
use Rattle.script_laws.proofs.HeapLemmas.{HeapHolds, deleted-holds, put-holds, read-holds}
use Rattle.script_laws.proofs.ListLemmas.{written-holds}
use Rattle.script_laws.proofs.StateLemmas.{Fine, IfKnown, Keeps, Known, Setting, and_then-keeps, as_number-keeps, as_text-keeps, behind-keeps, charged-keeps, fine-heap, found-known, function-known, is_simple, known_more, reads-keeps, plain-known, simple-keeps, simple-known, stops-keeps, value-keeps}

-- ---- heaps

-- where a property is taken away, what is left is live
deleted-sound : (heap : List ObjectState) (object : ℕ) (name : List ℕ) → IsSound heap
    → IsSound (with_object heap object (without_property (object_at heap object) name))
deleted-sound heap object name sound =
    let new = without_property (object_at heap object) name in
    subst (λ n. HeapHolds (IsLiveAmong n) (with_object heap object new))
    (sym (length-set heap object new))
    (deleted-holds (IsLiveAmong (length heap)) heap object name sound)

-- ---- names that are built in

built_in-below : (function : BuiltIn) → function_number function < 8
built_in-below built.Object = omega arith
built_in-below built.Array = omega arith
built_in-below built.String = omega arith
built_in-below built.Number = omega arith
built_in-below built.Boolean = omega arith
built_in-below built.IsNan = omega arith
built_in-below built.Date = omega arith
built_in-below built.ParseInt = omega arith

module _ (s : Setting) where
  if-known : (count : ℕ) (test : Bool) (a b : Option Value) → IfKnown s count a
      → IfKnown s count b → IfKnown s count (if test then a else b)
  if-known count true a b p q = p
  if-known count false a b p q = q

  other-known : (count : ℕ) (name : List ℕ) → IfKnown s count (other_named name)
  other-known count name =
      if-known count (is_same name (codes "NaN")) _ _
      (simple-known s count (Number NotANumber) refl)
      (if-known count (is_same name (codes "document")) _ _
      (plain-known s count (Host Document) refl (s.own (Host Document) refl))
      (if-known count (is_same name (codes "browser")) _ _
      (plain-known s count (Host Browser) refl (s.own (Host Browser) refl)) tt))

  built_in-known : (count : ℕ) (name : List ℕ) → IfKnown s count (value_named name)
  built_in-known count name =
      go (function_named name)
    where
      go : (found : Option BuiltIn) → IfKnown s count
          (option_map_or (λ function. Some (Function (function_number function))) found
          (other_named name))
      go None = other-known count name
      go (Some function) =
          let less : function_number function < 8 = built_in-below function in
          let large : 8 ≤ s.limit = s.built_in in
          function-known s count (function_number function) (omega arith)

  first-known : (count : ℕ) (first other : Option Value) → IfKnown s count first
      → IfKnown s count other → IfKnown s count (first_of first other)
  first-known count (Some value) other p q = p
  first-known count None other p q = q

  named-known : (w : World) → Fine s w → (name : List ℕ) → IfKnown s (length w.heap) (named w name)
  named-known w fine name =
      let count = length w.heap in
      first-known count (local w name) (first_of (global w name) (value_named name))
      (found-known s count w.locals name fine.locals)
      (first-known count (global w name) (value_named name)
      (found-known s count w.globals name fine.globals) (built_in-known count name))

  -- ---- names

  found-keeps : {count : ℕ} (found : Option Value) → IfKnown s count found → Keeps s count (Known s)
      (λ w next. option_map_or (λ value. gives value w next) found (stops Unresolved w next))
  found-keeps None known = stops-keeps s Unresolved
  found-keeps (Some value) known = value-keeps s value known

  pub read_name-keeps : {count : ℕ} (name : List ℕ) → Keeps s count (Known s) (read_name name)
  read_name-keeps name = record {
    ends = λ w fine h next onward.
        (found-keeps {count = length w.heap} (named w name) (named-known w fine name)).ends w fine
        (omega arith) next onward;
  }

  with_name-fine : (name : List ℕ) (value : Value) (w : World) → Fine s w
      → Known s (length w.heap) value → Fine s (with_name name value w)
  with_name-fine name value w fine known = go (is_some (local w name))
    where
      go : (is_local : Bool)
          → Fine s (if is_local then with_local name value w else with_global name value w)
      go true = record {
        globals = fine.globals;
        locals = written-holds (Known s (length w.heap)) w.locals name value fine.locals known;
        this = fine.this;
        heap = fine.heap;
        objects = fine.objects;
      }
      go false = record {
        globals = written-holds (Known s (length w.heap)) w.globals name value fine.globals known;
        locals = fine.locals;
        this = fine.this;
        heap = fine.heap;
        objects = fine.objects;
      }

  with_name-heap : (name : List ℕ) (value : Value) (w : World)
      → (with_name name value w).heap ≡ w.heap
  with_name-heap name value w = go (is_some (local w name))
    where
      go : (is_local : Bool)
          → (if is_local then with_local name value w else with_global name value w).heap ≡ w.heap
      go true = refl
      go false = refl

  pub write_name-keeps : {count : ℕ} (name : List ℕ) (value : Value) → Known s count value
      → Keeps s count (Known s) (write_name name value)
  write_name-keeps name value known = record {
    ends = λ w fine h next onward.
        let here = known_more s value h known in
        let after : World = with_name name value w in
        let same : length w.heap ≤ length after.heap
        = rw (with_name-heap name value w) (omega arith) in
        onward.on value after (with_name-fine name value w fine here) same
        (known_more s value same here);
  }

  -- ---- members

  read-known : (w : World) → Fine s w → (object : ℕ) (key : List ℕ)
      → Known s (length w.heap) (value_of (object_at w.heap object) key)
  read-known w fine object key = record {
    live = s.laws.read w.heap object key fine.heap.sound;
    passes = read-holds (λ value. s.good value ≡ true) w.heap object key (s.own Undefined refl)
        (λ number. s.own (Number number) refl) fine.heap.passes;
  }

  -- ---- members that are neither objects nor functions

  if-simple : (test : Bool) (a b : Value) → is_simple a ≡ true → is_simple b ≡ true
      → is_simple (if test then a else b) ≡ true
  if-simple true a b p q = p
  if-simple false a b p q = q

  text-simple : (text key : List ℕ) → is_simple (text_member text key) ≡ true
  text-simple text key = if-simple (is_length key) _ _ refl refl

  member-simple : (number : ℕ) (key : List ℕ) → is_simple (function_member number key) ≡ true
  member-simple number key =
      if-simple (number == 3) _ _ (if-simple (is_same key (codes "NaN")) _ _ refl
      (if-simple (is_same key (codes "MAX_VALUE")) _ _ refl
      (if-simple (is_same key (codes "MIN_VALUE")) _ _ refl refl))) refl

  pub read_member-keeps : {count : ℕ} (base : Value) (key : List ℕ) → Known s count base
      → Keeps s count (Known s) (read_member base key)
  read_member-keeps Undefined key known = stops-keeps s NotObject
  read_member-keeps Null key known = stops-keeps s NotObject
  read_member-keeps (Boolean truth) key known = simple-keeps s Undefined refl
  read_member-keeps (Number number) key known = simple-keeps s Undefined refl
  read_member-keeps (Str text) key known =
      simple-keeps s (text_member text key) (text-simple text key)
  read_member-keeps (Object object) key known =
      reads-keeps s (λ w. value_of (object_at w.heap object) key)
      (λ w fine h. read-known w fine object key)
  read_member-keeps (Function number) key known =
      simple-keeps s (function_member number key) (member-simple number key)
  read_member-keeps (Host reference) key known = record {
    ends = λ w fine h next onward. (
      known.passes,
      λ value plain passes.
          onward.on value w fine (omega arith)
          (plain-known s (length w.heap) value plain passes),
    );
  }

  put_member-keeps : {count : ℕ} (object : ℕ) (key : List ℕ) (value : Value)
      → Known s count value → Keeps s count (Known s) (put_member object key value)
  put_member-keeps object key value known = record {
    ends = λ w fine h next onward.
        let here = known_more s value h known in
        let heap = with_put w.heap object key value in
        let more : length w.heap ≤ length heap
        = rw (s.laws.put_count w.heap object key value) (omega arith) in
        let fit : IsFit s.good heap = record {
          passes = put-holds (λ value. s.good value ≡ true) w.heap object key value
              fine.heap.passes here.passes;
          sound = s.laws.put w.heap object key value fine.heap.sound here.live;
        } in
        onward.on value (record w { heap = heap }) (fine-heap s w heap more fit fine) more
        (known_more s value more here);
  }

  write_to_host-keeps : {count : ℕ} (base : Value) (key : List ℕ) (value : Value)
      → Known s count base → Known s count value
      → Keeps s count (Known s) (write_to_host base key value)
  write_to_host-keeps (Host reference) key value called known = record {
    ends = λ w fine h next onward.
        let here = known_more s value h known in (
          called.passes,
          here.passes,
          here.live,
          fine.heap,
          onward.on value w fine (omega arith) here,
        );
  }
  write_to_host-keeps _ key value called known = value-keeps s value known

  pub write_member-keeps : {count : ℕ} (base : Value) (key : List ℕ) (value : Value)
      → Known s count base → Known s count value
      → Keeps s count (Known s) (write_member base key value)
  write_member-keeps Undefined key value called known = stops-keeps s NotObject
  write_member-keeps Null key value called known = stops-keeps s NotObject
  write_member-keeps (Object object) key value called known =
      charged-keeps s _ (put_member-keeps object key value known)
  write_member-keeps (Host reference) key value called known =
      charged-keeps s _ (write_to_host-keeps (Host reference) key value called known)
  write_member-keeps _ key value called known = value-keeps s value known

  delete_in-keeps : {count : ℕ} (object : ℕ) (key : List ℕ)
      → Keeps s count (Known s) (delete_in object key)
  delete_in-keeps object key = record {
    ends = λ w fine h next onward.
        let new = without_property (object_at w.heap object) key in
        let heap = with_object w.heap object new in
        let more : length w.heap ≤ length heap
        = rw (length-set w.heap object new) (omega arith) in
        let fit : IsFit s.good heap = record {
          passes = deleted-holds (λ value. s.good value ≡ true) w.heap object key
              fine.heap.passes;
          sound = deleted-sound w.heap object key fine.heap.sound;
        } in
        let value = Boolean (has_property (object_at w.heap object) key) in
        onward.on value (record w { heap = heap }) (fine-heap s w heap more fit fine) more
        (simple-known s (length heap) value refl);
  }

  pub delete_member-keeps : {count : ℕ} (base : Value) (key : List ℕ)
      → Keeps s count (Known s) (delete_member base key)
  delete_member-keeps (Object object) key = delete_in-keeps object key
  delete_member-keeps _ key = simple-keeps s (Boolean false) refl

  pub delete_index-keeps : {count : ℕ} (base key : Value)
      → Keeps s count (Known s) (delete_index base key)
  delete_index-keeps (Object object) key =
      behind-keeps s (as_text-keeps s key) (λ more h key known. delete_in-keeps object key)
  delete_index-keeps _ key = simple-keeps s (Boolean false) refl

-- ---- places

-- the base of a place is known
abbrev pub PlaceKnown : Setting → ℕ → Place → Type 0
PlaceKnown s count (NamePlace name) = Unit {0}
PlaceKnown s count (MemberPlace base key) = Known s count base

module _ (s : Setting) where
  pub place_more : {count more : ℕ} (place : Place) → count ≤ more → PlaceKnown s count place
      → PlaceKnown s more place
  place_more (NamePlace name) h known = tt
  place_more (MemberPlace base key) h known = known_more s base h known

  pub read_place-keeps : {count : ℕ} (place : Place) → PlaceKnown s count place
      → Keeps s count (Known s) (read_place place)
  read_place-keeps (NamePlace name) known = read_name-keeps s name
  read_place-keeps (MemberPlace base key) known = read_member-keeps s base key known

  pub write_place-keeps : {count : ℕ} (place : Place) (value : Value) → PlaceKnown s count place
      → Known s count value → Keeps s count (Known s) (write_place place value)
  write_place-keeps (NamePlace name) value there known = write_name-keeps s name value known
  write_place-keeps (MemberPlace base key) value there known =
      write_member-keeps s base key value there known

  -- ---- operators

  addition-simple : (heap : List ObjectState) (left right : Value)
      → is_simple (addition_of heap left right) ≡ true
  addition-simple heap left right = if-simple s (adds_texts left right) _ _ refl refl

  operated-simple : (heap : List ObjectState) (operator : Operator) (left right : Value)
      → is_simple (operated heap operator left right) ≡ true
  operated-simple heap the.Plus left right = addition-simple heap left right
  operated-simple heap the.Times left right = refl
  operated-simple heap the.Divide left right = refl
  operated-simple heap the.Remainder left right = refl
  operated-simple heap the.Minus left right = refl
  operated-simple heap the.ShiftLeft left right = refl
  operated-simple heap the.ShiftRight left right = refl
  operated-simple heap the.UnsignedShiftRight left right = refl
  operated-simple heap the.Less left right = refl
  operated-simple heap the.Greater left right = refl
  operated-simple heap the.LessOrEqual left right = refl
  operated-simple heap the.GreaterOrEqual left right = refl
  operated-simple heap the.Equal left right = refl
  operated-simple heap the.NotEqual left right = refl
  operated-simple heap the.StrictEqual left right = refl
  operated-simple heap the.StrictNotEqual left right = refl
  operated-simple heap the.BitAnd left right = refl
  operated-simple heap the.BitXor left right = refl
  operated-simple heap the.BitOr left right = refl

  pub operates-keeps : {count : ℕ} (operator : Operator) (left right : Value)
      → Keeps s count (Known s) (operates operator left right)
  unfolding operates
  operates-keeps operator left right =
      charged-keeps s _ (reads-keeps s (λ w. operated w.heap operator left right)
      (λ w fine h. simple-known s (length w.heap) (operated w.heap operator left right)
      (operated-simple w.heap operator left right)))

  signed-simple : (of : Sign) (number : Num) → is_simple (signed_number of number) ≡ true
  signed-simple sign.Plus number = refl
  signed-simple sign.Minus number = refl
  signed-simple sign.Complement number = refl
  signed-simple sign.Not number = refl

  pub signs-keeps : {count : ℕ} (of : Sign) (value : Value)
      → Keeps s count (Known s) (signs of value)
  signs-keeps sign.Not value = simple-keeps s (Boolean (not (truth_of value))) refl
  signs-keeps other value =
      behind-keeps s (as_number-keeps s value) (λ more h number known.
      simple-keeps s (signed_number other number) (signed-simple other number))

  typeof-simple : (found : Option Value)
      → is_simple (option_map_or type_text found (type_text Undefined)) ≡ true
  typeof-simple None = refl
  typeof-simple (Some value) = refl

  pub typeof_name-keeps : {count : ℕ} (name : List ℕ) → Keeps s count (Known s) (typeof_name name)
  typeof_name-keeps name =
      reads-keeps s (λ w. option_map_or type_text (named w name) (type_text Undefined))
      (λ w fine h. simple-known s (length w.heap)
      (option_map_or type_text (named w name) (type_text Undefined))
      (typeof-simple (named w name)))

  pub step_row-keeps : {count : ℕ} (in_front down : Bool) (place : Place)
      → PlaceKnown s count place → Keeps s count (Known s) (step_row in_front down place)
  step_row-keeps in_front down place there =
      behind-keeps s (read_place-keeps place there) (λ n l value known.
      behind-keeps s (as_number-keeps s value) (λ more h number known.
      and_then-keeps s
      (write_place-keeps place (Number (stepped down number))
      (place_more place (omega arith) there)
      (simple-known s more (Number (stepped down number)) refl))
      (simple-keeps s (Number (if in_front then stepped down number else number)) refl)))
