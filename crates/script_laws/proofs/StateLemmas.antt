-- What is known of a script's values: that they pass, and that an object is in the heap. Actions
-- keep that of all values of a world, hand over only such values, and give such ones; and no object
-- goes.
use Rattle.std.proofs.Common.{◌≡◌, ℕ, ◌-◌, ◌<◌, ◌≤◌, Bool, true, false, List, [], ◌∷◌, ◌++◌, length, refl, arith}
use Rattle.std.proofs.lemmas.Bool.Decides.{nat_tests}
use Rattle.std.proofs.lemmas.List.Elements.{All-cons, All-head, All-nil, All-tail, All-weaker}
use Rattle.std.specs.Prelude.{All, Option, Some, None, if◌then◌else◌, nat_le, nat_lt}
use Rattle.std.specs.Map.{lookup}
use Rattle.std.specs.Option.{option_map_or}
use Rattle.bml_bytes.specs.Words.{is_same}
use Rattle.es_values.specs.declared.values.Value.{Value}
use Rattle.es_values.specs.declared.values.Value.TheVariants.{Undefined, Null, Bool as Boolean, Number, Str, Object, Function, Host}
use Rattle.es_values.specs.Conversions.{number_of, text_of}
use Rattle.es_values.specs.Heaps.{IsLive, IsSound, new_object, object_at, value_of}
use Rattle.es_values.specs.Objects.{ObjectState}
use Rattle.es_values.specs.Operators.{with_put}
use Rattle.es_values.specs.Values.{IsLiveAmong, is_plain}
use Rattle.es_builtins.specs.Functions.{construction_row, function_row}
use Rattle.es_builtins.specs.Keeping.{RowKeeps}
use Rattle.es_builtins.specs.Methods.{method_row}
use Rattle.es_builtins.specs.Rows.{Row}
use Rattle.es_builtins.specs.Rows.Row.{NoRow, Gives}
use Rattle.es_eval.specs.declared.outcomes.StopCause.{StopCause}
use Rattle.es_eval.specs.Actions.{Action, Next, and_then, as_number, as_text, behind, by_row, by_row_in, charged, gives, step, stops, takes}
use Rattle.es_eval.specs.Worlds.{World, Run}
use Rattle.script_laws.specs.Passing.{AllPass, PassesOwn, RowPasses}
use Rattle.script_laws.specs.Staying.{AreFit, AreHanded, IsFit, StaysWithin}
use Rattle.script_laws.proofs.RowLemmas.{construction-passes, function-passes, method-passes}

-- what is known of live values in heaps and rows
pub record LiveLaws : Type 0 where
  pub added : (heap : List ObjectState) (array : Bool) → IsSound heap
      → IsSound (heap ++ new_object array ∷ [])
  pub read : (heap : List ObjectState) (object : ℕ) (name : List ℕ) → IsSound heap
      → IsLive heap (value_of (object_at heap object) name)
  pub put : (heap : List ObjectState) (object : ℕ) (name : List ℕ) (value : Value) → IsSound heap
      → IsLive heap value → IsSound (with_put heap object name value)
  pub put_count : (heap : List ObjectState) (object : ℕ) (name : List ℕ) (value : Value)
      → length (with_put heap object name value) ≡ length heap
  pub functions : (heap : List ObjectState) (number : ℕ) (arguments : List Value) → IsSound heap
      → All (IsLive heap) arguments → RowKeeps heap arguments (function_row heap number arguments)
  pub constructions : (heap : List ObjectState) (number : ℕ) (arguments : List Value)
      → IsSound heap → All (IsLive heap) arguments
      → RowKeeps heap arguments (construction_row heap number arguments)
  pub methods : (heap : List ObjectState) (base : Value) (name : List ℕ) (arguments : List Value)
      → IsSound heap → IsLive heap base → All (IsLive heap) arguments
      → RowKeeps heap (base ∷ arguments) (method_row heap base name arguments)

-- the test; the limit of function numbers, which no built-in one reaches; how many objects there are
-- at least; and what is known of live values
pub record Setting : Type 0 where
  pub good : Value → Bool
  pub limit : ℕ
  pub least : ℕ
  pub built_in : 8 ≤ limit
  pub own : PassesOwn limit good
  pub laws : LiveLaws

-- ---- values

-- a value is known among so many objects
pub record Known (s : Setting) (count : ℕ) (value : Value) : Type 0 where
  pub live : IsLiveAmong count value
  pub passes : s.good value ≡ true

abbrev pub AllKnown : Setting → ℕ → List Value → Type 0
AllKnown s count values = All (Known s count) values

-- the values of names
abbrev pub EntriesKnown : Setting → ℕ → List (List ℕ × Value) → Type 0
EntriesKnown s count entries = All (λ entry. Known s count entry.1) entries

abbrev pub IfKnown : Setting → ℕ → Option Value → Type 0
IfKnown s count None = Unit {0}
IfKnown s count (Some value) = Known s count value

-- of what is no value nothing has to be known
abbrev pub Anything : {A : Type 0} → ℕ → A → Type 0
Anything count x = Unit {0}

-- neither an object nor a function, nor a reference
abbrev pub is_simple : Value → Bool
is_simple (Object _) = false
is_simple (Function _) = false
is_simple (Host _) = false
is_simple _ = true

live_more : {count more : ℕ} (value : Value) → count ≤ more → IsLiveAmong count value
    → IsLiveAmong more value
live_more {count} {more} (Object number) h live = let less : number < count = live in omega arith
live_more Undefined h live = tt
live_more Null h live = tt
live_more (Boolean truth) h live = tt
live_more (Number number) h live = tt
live_more (Str text) h live = tt
live_more (Function number) h live = tt
live_more (Host reference) h live = tt

plain-live : (count : ℕ) (value : Value) → is_plain value ≡ true → IsLiveAmong count value
plain-live count Undefined h = tt
plain-live count Null h = tt
plain-live count (Boolean truth) h = tt
plain-live count (Number number) h = tt
plain-live count (Str text) h = tt
plain-live count (Object object) h = absurd (cc h)
plain-live count (Function function) h = absurd (cc h)
plain-live count (Host reference) h = tt

module _ (s : Setting) where
  pub known_more : {count more : ℕ} (value : Value) → count ≤ more → Known s count value
      → Known s more value
  known_more value h known =
      record { live = live_more value h known.live; passes = known.passes }

  pub all_more : {count more : ℕ} (values : List Value) → count ≤ more → AllKnown s count values
      → AllKnown s more values
  all_more {count} {more} values h known =
      All-weaker (Known s count) (Known s more) (λ value. known_more value h) values known

  pub entries_more : {count more : ℕ} (entries : List (List ℕ × Value)) → count ≤ more
      → EntriesKnown s count entries → EntriesKnown s more entries
  entries_more {count} {more} entries h known =
      All-weaker (λ entry. Known s count entry.1) (λ entry. Known s more entry.1)
      (λ entry. known_more entry.1 h) entries known

  pub plain-known : (count : ℕ) (value : Value) → is_plain value ≡ true → s.good value ≡ true
      → Known s count value
  plain-known count value plain passes =
      record { live = plain-live count value plain; passes = passes }

  pub simple-known : (count : ℕ) (value : Value) → is_simple value ≡ true → Known s count value
  simple-known count Undefined h = record { live = tt; passes = s.own Undefined refl }
  simple-known count Null h = record { live = tt; passes = s.own Null refl }
  simple-known count (Boolean truth) h =
      record { live = tt; passes = s.own (Boolean truth) refl }
  simple-known count (Number a) h = record { live = tt; passes = s.own (Number a) refl }
  simple-known count (Str text) h = record { live = tt; passes = s.own (Str text) refl }
  simple-known count (Object object) h = absurd (cc h)
  simple-known count (Function function) h = absurd (cc h)
  simple-known count (Host reference) h = absurd (cc h)

  pub object-known : (count object : ℕ) → object < count → Known s count (Object object)
  object-known count object h = record { live = h; passes = s.own (Object object) refl }

  pub function-known : (count function : ℕ) → function < s.limit → Known s count (Function function)
  function-known count function h =
      let below : nat_lt function s.limit ≡ true = grind (arith, nat_tests) in
      record { live = tt; passes = s.own (Function function) below }

  -- ---- values of lists and of names

  pub all-live : (count : ℕ) (values : List Value) → AllKnown s count values
      → All (IsLiveAmong count) values
  all-live count values known =
      All-weaker (Known s count) (IsLiveAmong count) (λ value known. known.live) values known

  pub all-pass : (count : ℕ) (values : List Value) → AllKnown s count values
      → AllPass s.good values
  all-pass count values known =
      All-weaker (Known s count) (λ value. s.good value ≡ true) (λ value known. known.passes)
      values known

  pub entries-live : (count : ℕ) (entries : List (List ℕ × Value)) → EntriesKnown s count entries
      → All (λ entry. IsLiveAmong count entry.1) entries
  entries-live count entries known =
      All-weaker (λ entry. Known s count entry.1) (λ entry. IsLiveAmong count entry.1)
      (λ entry known. known.live) entries known

  pub entries-pass : (count : ℕ) (entries : List (List ℕ × Value)) → EntriesKnown s count entries
      → All (λ entry. s.good entry.1 ≡ true) entries
  entries-pass count entries known =
      All-weaker (λ entry. Known s count entry.1) (λ entry. s.good entry.1 ≡ true)
      (λ entry known. known.passes) entries known

  pub entries-known : (count : ℕ) (entries : List (List ℕ × Value))
      → All (λ entry. IsLiveAmong count entry.1) entries
      → All (λ entry. s.good entry.1 ≡ true) entries → EntriesKnown s count entries
  entries-known count [] live pass = All-nil (λ entry. Known s count entry.1)
  entries-known count (entry ∷ entries) live pass =
      All-cons (λ entry. Known s count entry.1) entry entries
      (record {
        live = All-head (λ entry. IsLiveAmong count entry.1) entry entries live;
        passes = All-head (λ entry. s.good entry.1 ≡ true) entry entries pass;
      })
      (entries-known count entries
      (All-tail (λ entry. IsLiveAmong count entry.1) entry entries live)
      (All-tail (λ entry. s.good entry.1 ≡ true) entry entries pass))

  pub found-known : (count : ℕ) (entries : List (List ℕ × Value)) (name : List ℕ)
      → EntriesKnown s count entries → IfKnown s count (lookup (is_same name) entries)
  found-known count [] name known = tt
  found-known count (entry ∷ entries) name known =
      go (is_same name entry.0) (found-known count entries name
      (All-tail (λ entry. Known s count entry.1) entry entries known))
    where
      go : (test : Bool) → IfKnown s count (lookup (is_same name) entries)
          → IfKnown s count (if test then Some entry.1 else lookup (is_same name) entries)
      go true later = All-head (λ entry. Known s count entry.1) entry entries known
      go false later = later

-- ---- worlds and runs

-- each value of a world is known
pub record Fine (s : Setting) (w : World) : Type 0 where
  pub globals : EntriesKnown s (length w.heap) w.globals
  pub locals : EntriesKnown s (length w.heap) w.locals
  pub this : Known s (length w.heap) w.this
  pub heap : IsFit s.good w.heap
  pub objects : s.least ≤ length w.heap

-- a run from such a world goes on so
abbrev pub Stays : Setting → Run → Type 0
Stays s run = StaysWithin s.good s.least run

module _ (s : Setting) where
  -- it may be over
  pub over : (w : World) → Fine s w → AreFit s.good s.least w.globals w.heap
  over w fine = record {
    pass = entries-pass s (length w.heap) w.globals fine.globals;
    live = entries-live s (length w.heap) w.globals fine.globals;
    fit = fine.heap;
    objects = fine.objects;
  }

  -- values may be handed over
  pub handed : (w : World) → Fine s w → (values : List Value) → AllKnown s (length w.heap) values
      → AreHanded s.good values w.heap
  handed w fine values known = record {
    pass = all-pass s (length w.heap) values known;
    live = all-live s (length w.heap) values known;
    fit = fine.heap;
  }

  pub fine-left : (w : World) (left : ℕ) → Fine s w → Fine s (record w { left = left })
  fine-left w left fine = record {
    globals = fine.globals;
    locals = fine.locals;
    this = fine.this;
    heap = fine.heap;
    objects = fine.objects;
  }

  pub fine-heap : (w : World) (heap : List ObjectState) → length w.heap ≤ length heap
      → IsFit s.good heap → Fine s w → Fine s (record w { heap = heap })
  fine-heap w heap more fit fine = record {
    globals = entries_more s w.globals more fine.globals;
    locals = entries_more s w.locals more fine.locals;
    this = known_more s w.this more fine.this;
    heap = fit;
    objects = let enough : s.least ≤ length w.heap = fine.objects in omega arith;
  }

-- ---- what goes on, and actions

-- what goes on stays so with each thing of which this is known, behind at least so many objects
pub record Onward {A : Type 0} (s : Setting) (count : ℕ) (Result : ℕ → A → Type 0)
    (next : Next A) : Type 0 where
  pub on : (x : A) (w : World) → Fine s w → count ≤ length w.heap → Result (length w.heap) x
      → Stays s (next x w)

-- from a world with at least so many objects, this stays so where what goes on behind it does
pub record Keeps {A : Type 0} (s : Setting) (count : ℕ) (Result : ℕ → A → Type 0)
    (action : Action A) : Type 0 where
  pub ends : (w : World) → Fine s w → count ≤ length w.heap → (next : Next A)
      → Onward s (length w.heap) Result next → Stays s (action w next)

module _ (s : Setting) where
  pub onward_more : {A : Type 0} {count more : ℕ} {Result : ℕ → A → Type 0} {next : Next A}
      → count ≤ more → Onward s count Result next → Onward s more Result next
  onward_more h onward = record { on = λ x w fine l known. onward.on x w fine (omega arith) known }

  pub keeps_more : {A : Type 0} {count more : ℕ} {Result : ℕ → A → Type 0} {action : Action A}
      → count ≤ more → Keeps s count Result action → Keeps s more Result action
  keeps_more h keeps =
      record { ends = λ w fine l next onward. keeps.ends w fine (omega arith) next onward }

  pub if-keeps : {A : Type 0} {count : ℕ} {Result : ℕ → A → Type 0} (test : Bool) {a b : Action A}
      → Keeps s count Result a → Keeps s count Result b
      → Keeps s count Result (if test then a else b)
  if-keeps true p q = p
  if-keeps false p q = q

  pub if-stays : (test : Bool) (a b : Run) → Stays s a → Stays s b
      → Stays s (if test then a else b)
  if-stays true a b p q = p
  if-stays false a b p q = q

  pub option-keeps : {A B : Type 0} {count : ℕ} {Result : ℕ → A → Type 0} (option : Option B)
      {f : B → Action A} {a : Action A} → ((x : B) → Keeps s count Result (f x))
      → Keeps s count Result a → Keeps s count Result (option_map_or f option a)
  option-keeps None p q = q
  option-keeps (Some x) p q = p x

  -- ---- actions one behind the other

  pub gives-keeps : {A : Type 0} {count : ℕ} {Result : ℕ → A → Type 0} (x : A)
      → ((more : ℕ) → count ≤ more → Result more x) → Keeps s count Result (gives x)
  gives-keeps x known = record {
    ends = λ w fine h next onward. onward.on x w fine (omega arith) (known (length w.heap) h);
  }

  pub value-keeps : {count : ℕ} (value : Value) → Known s count value
      → Keeps s count (Known s) (gives value)
  value-keeps value known = gives-keeps value (λ more h. known_more s value h known)

  pub simple-keeps : {count : ℕ} (value : Value) → is_simple value ≡ true
      → Keeps s count (Known s) (gives value)
  simple-keeps value simple = gives-keeps value (λ more h. simple-known s more value simple)

  pub stops-keeps : {A : Type 0} {count : ℕ} {Result : ℕ → A → Type 0} (cause : StopCause)
      → Keeps s count Result (stops cause)
  stops-keeps cause = record { ends = λ w fine h next onward. over s w fine }

  pub behind-keeps : {A B : Type 0} {count : ℕ} {First : ℕ → A → Type 0} {Second : ℕ → B → Type 0}
      {a : Action A} {f : A → Action B} → Keeps s count First a
      → ((more : ℕ) → count ≤ more → (x : A) → First more x → Keeps s more Second (f x))
      → Keeps s count Second (behind a f)
  behind-keeps first second = record {
    ends = λ w fine h next onward. first.ends w fine h _ (record {
      on = λ x v kept less known. (second (length v.heap) (omega arith) x known).ends v kept
          (omega arith) next (onward_more less onward);
    });
  }

  pub and_then-keeps : {A B : Type 0} {count : ℕ} {First : ℕ → A → Type 0}
      {Second : ℕ → B → Type 0} {a : Action A} {b : Action B} → Keeps s count First a
      → Keeps s count Second b → Keeps s count Second (and_then a b)
  and_then-keeps first second = behind-keeps first (λ more h x known. keeps_more h second)

  -- ---- steps

  pub takes-keeps : {A : Type 0} {count : ℕ} {Result : ℕ → A → Type 0} (steps : ℕ) {a : Action A}
      → Keeps s count Result a → Keeps s count Result (takes steps a)
  takes-keeps steps keeps = record {
    ends = λ w fine h next onward. if-stays (nat_le steps w.left) _ _
        (keeps.ends (record w { left = w.left - steps }) (fine-left s w (w.left - steps) fine) h
        next onward)
        (over s w fine);
  }

  pub step-keeps : {A : Type 0} {count : ℕ} {Result : ℕ → A → Type 0} {a : Action A}
      → Keeps s count Result a → Keeps s count Result (step a)
  step-keeps keeps = takes-keeps 1 keeps

  pub charged-keeps : {A : Type 0} {count : ℕ} {Result : ℕ → A → Type 0}
      (charge : List ObjectState → ℕ) {a : Action A} → Keeps s count Result a
      → Keeps s count Result (charged charge a)
  charged-keeps charge keeps = record {
    ends = λ w fine h next onward. (takes-keeps (charge w.heap) keeps).ends w fine h next onward;
  }

  -- ---- what reads a world and gives something, and changes nothing

  pub reads-keeps : {A : Type 0} {count : ℕ} {Result : ℕ → A → Type 0} (value : World → A)
      → ((w : World) → Fine s w → count ≤ length w.heap → Result (length w.heap) (value w))
      → Keeps s count Result (λ w next. next (value w) w)
  reads-keeps value known = record {
    ends = λ w fine h next onward. onward.on (value w) w fine (omega arith) (known w fine h);
  }

  pub as_text-keeps : {count : ℕ} (value : Value) → Keeps s count Anything (as_text value)
  as_text-keeps value =
      charged-keeps _ (reads-keeps (λ w. text_of w.heap value) (λ w fine h. tt))

  pub as_number-keeps : {count : ℕ} (value : Value) → Keeps s count Anything (as_number value)
  as_number-keeps value =
      charged-keeps _ (reads-keeps (λ w. number_of w.heap value) (λ w fine h. tt))

  -- ---- rows of built-in functions and methods

  row-stays : (given : List Value) (w : World) → Fine s w → (row : Row)
      → RowKeeps w.heap given row → RowPasses s.good row → (next : Next Value)
      → Onward s (length w.heap) (Known s) next → Stays s (by_row_in w next row)
  row-stays given w fine NoRow kept passes next onward = over s w fine
  row-stays given w fine (Gives charge value heap) kept passes next onward =
      let later : World = record w { left = w.left - charge } in
      let more : length w.heap ≤ length heap = kept.keeps.objects in
      if-stays (nat_le charge w.left) _ _
      (onward.on value (record later { heap = heap })
      (fine-heap s later heap more (record { passes = passes.1; sound = kept.sound })
      (fine-left s w (w.left - charge) fine)) more
      (record { live = kept.live; passes = passes.0 }))
      (over s w fine)

  pub by_row-keeps : {count : ℕ} (given : List Value) (row : List ObjectState → Row)
      → AllKnown s count given
      → ((heap : List ObjectState) → IsFit s.good heap → AllKnown s (length heap) given
      → RowKeeps heap given (row heap) × RowPasses s.good (row heap))
      → Keeps s count (Known s) (by_row row)
  by_row-keeps given row known kept = record {
    ends = λ w fine h next onward.
        let both = kept w.heap fine.heap (all_more s given h known) in
        row-stays given w fine (row w.heap) both.0 both.1 next onward;
  }

  -- ---- the rows that there are

  pub function-keeps : {count : ℕ} (number : ℕ) (arguments : List Value)
      → AllKnown s count arguments
      → Keeps s count (Known s) (by_row (λ heap. function_row heap number arguments))
  function-keeps number arguments known =
      by_row-keeps arguments (λ heap. function_row heap number arguments) known
      (λ heap fit all. (
        s.laws.functions heap number arguments fit.sound
            (all-live s (length heap) arguments all),
        function-passes s.good s.limit s.own heap fit.passes number arguments
            (all-pass s (length heap) arguments all),
      ))

  pub construction-keeps : {count : ℕ} (number : ℕ) (arguments : List Value)
      → AllKnown s count arguments
      → Keeps s count (Known s) (by_row (λ heap. construction_row heap number arguments))
  construction-keeps number arguments known =
      by_row-keeps arguments (λ heap. construction_row heap number arguments) known
      (λ heap fit all. (
        s.laws.constructions heap number arguments fit.sound
            (all-live s (length heap) arguments all),
        construction-passes s.good s.limit s.own heap fit.passes number arguments
            (all-pass s (length heap) arguments all),
      ))

  pub method-keeps : {count : ℕ} (base : Value) (name : List ℕ) (arguments : List Value)
      → Known s count base → AllKnown s count arguments
      → Keeps s count (Known s) (by_row (λ heap. method_row heap base name arguments))
  method-keeps {count} base name arguments known all =
      by_row-keeps (base ∷ arguments) (λ heap. method_row heap base name arguments)
      (All-cons (Known s count) base arguments known all)
      (λ heap fit both.
      let called = All-head (Known s (length heap)) base arguments both in (
        s.laws.methods heap base name arguments fit.sound called.live
            (all-live s (length heap) arguments
            (All-tail (Known s (length heap)) base arguments both)),
        method-passes s.good s.limit s.own heap fit.passes base name arguments called.passes,
      ))
