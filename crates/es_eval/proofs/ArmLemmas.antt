-- How the parts of an arm make the run of an action: a step or a conversion that is charged, an item that is
-- put, and what is given or stops.
use Rattle.std.proofs.Common.{◌≡◌, ◌∙◌, ℕ, Bool, true, false, List, ap, sym, subst, refl}
use Rattle.std.specs.Prelude.{Option, Some, None, if◌then◌else◌}
use Rattle.std.proofs.lemmas.Bool.{true≢false, false≢true}
use Rattle.es_reader.specs.Programs.{ToldProgram}
use Rattle.es_values.specs.declared.values.Value.{Value}
use Rattle.es_values.specs.declared.values.Value.TheVariants.{Undefined, Null, Bool as Boolean, Number, Str, Object, Function, Host}
use Rattle.es_values.specs.Objects.{ObjectState}
use Rattle.es_eval.specs.declared.outcomes.Outcome.TheVariants.{Stopped}
use Rattle.es_eval.specs.declared.outcomes.StopCause.TheVariants.{Budget, NotObject}
use Rattle.es_eval.specs.declared.works.Given.{Given}
use Rattle.es_eval.specs.declared.works.Given.TheVariants as given
use Rattle.es_eval.specs.declared.works.Now.{Now}
use Rattle.es_eval.specs.declared.works.Now.TheVariants as now
use Rattle.es_eval.specs.declared.works.Work.{Work}
use Rattle.es_shapes.specs.declared.operators.Sign.{Sign}
use Rattle.es_shapes.specs.declared.operators.Sign.TheVariants as sign_of
use Rattle.es_shapes.specs.Operators.{signed_number}
use Rattle.es_eval.specs.Operations.{signs}
use Rattle.es_eval.specs.Actions.{Action, Next, as_number, behind, charged, gives, step, stops}
use Rattle.es_shapes.specs.Codes.{declared_by}
use Rattle.es_eval.specs.devices.Machines.{CarriesOn, GoesOn, MachineState, Stays, rest, run_from, world_of}
use Rattle.es_eval.specs.Members.{delete_in}
use Rattle.es_eval.specs.Rows.{expression_row, with_members}
use Rattle.es_shapes.specs.Syntax.{Expression, Function as Declared}
use Rattle.es_eval.specs.Unbounded.{called, entered, valued}
use Rattle.es_eval.specs.devices.Works.{as_value, does, enters, is_without_members}
use Rattle.es_eval.specs.Worlds.{World}
use Rattle.es_eval.specs.Worlds.Run.{Over}

-- ---- what is carried out

-- too few steps are left
pub stopped-run : {A : Type 0} (programs : List ToldProgram) (old new : MachineState)
    (first : Action A) (more : A → Action Given) (found : Option A) (next : Now)
    → CarriesOn first old found new → found ≡ None
    → next ≡ now.Over (Stopped Budget)
    → GoesOn programs old (behind first more) new next
stopped-run {A} programs old new first more found next carries none over =
    let carried : CarriesOn first old None new =
    subst (λ (o : Option A). CarriesOn first old o new) none carries in
    ap (run_from programs new) over
    ∙ sym (carried programs (λ x after. more x after (rest programs old.frames)))

-- what is found goes on
pub carried-run : {A : Type 0} (programs : List ToldProgram) (old mid new : MachineState)
    (first : Action A) (more : A → Action Given) (found : Option A) (x : A) (next : Now)
    → CarriesOn first old found mid → found ≡ Some x → Stays old mid
    → GoesOn programs mid (more x) new next
    → GoesOn programs old (behind first more) new next
carried-run {A} programs old mid new first more found x next carries some stays on =
    let carried : CarriesOn first old (Some x) mid =
    subst (λ (o : Option A). CarriesOn first old o mid) some carries in
    on ∙ ap (more x (world_of programs mid)) (stays.rest programs)
    ∙ sym (carried programs (λ y after. more y after (rest programs old.frames)))

-- ---- steps

-- what a step that is taken makes of each action
abbrev pub Steps : MachineState → Bool → MachineState → Type 0
Steps old taken new =
    (programs : List ToldProgram) (action : Action Value) (next : Next Value)
    → step action (world_of programs old) next
    ≡ (if taken then action (world_of programs new) next
    else Over (Stopped Budget) (world_of programs new))

-- it may do what it likes with what comes behind
step-run : (programs : List ToldProgram) (old new : MachineState) (taken : Bool)
    (action : Action Given) (next : Next Given) → Steps old taken new
    → step action (world_of programs old) next
    ≡ (if taken then action (world_of programs new) next
    else Over (Stopped Budget) (world_of programs new))
step-run programs old new taken action next steps =
    steps programs (λ w other. action w next) (λ value w. Over (Stopped Budget) w)

pub unstepped-run : (programs : List ToldProgram) (old new : MachineState) (taken : Bool)
    (action : Action Given) (next : Now) → Steps old taken new → taken ≡ false
    → next ≡ now.Over (Stopped Budget) → GoesOn programs old (step action) new next
unstepped-run programs old new taken action next steps none over =
    let stepped = subst (λ (b : Bool). Steps old b new) none steps in
    ap (run_from programs new) over
    ∙ sym (step-run programs old new false action (rest programs old.frames) stepped)

pub stepped-run : (programs : List ToldProgram) (old mid new : MachineState) (taken : Bool)
    (action : Action Given) (next : Now) → Steps old taken mid → taken ≡ true → Stays old mid
    → GoesOn programs mid action new next → GoesOn programs old (step action) new next
stepped-run programs old mid new taken action next steps some stays on =
    let stepped = subst (λ (b : Bool). Steps old b mid) some steps in
    on ∙ ap (action (world_of programs mid)) (stays.rest programs)
    ∙ sym (step-run programs old mid true action (rest programs old.frames) stepped)

-- ---- charges

-- what a charge that is taken makes of each action
abbrev pub Charges : (List ObjectState → ℕ) → MachineState → Bool → MachineState → Type 0
Charges charge old taken new =
    (programs : List ToldProgram) (action : Action Value) (next : Next Value)
    → charged charge action (world_of programs old) next
    ≡ (if taken then action (world_of programs new) next
    else Over (Stopped Budget) (world_of programs new))

pub uncharged-run : (programs : List ToldProgram) (old new : MachineState)
    (charge : List ObjectState → ℕ) (taken : Bool) (action : Action Value) (next : Now)
    → Charges charge old taken new → taken ≡ false → next ≡ now.Over (Stopped Budget)
    → GoesOn programs old (as_value (charged charge action)) new next
uncharged-run programs old new charge taken action next charges none over =
    let charged_none = subst (λ (b : Bool). Charges charge old b new) none charges in
    ap (run_from programs new) over
    ∙ sym (charged_none programs action (λ value after. rest programs old.frames (given.Value value) after))

pub charged-run : (programs : List ToldProgram) (old mid new : MachineState)
    (charge : List ObjectState → ℕ) (taken : Bool) (action : Action Value) (next : Now)
    → Charges charge old taken mid → taken ≡ true → Stays old mid
    → GoesOn programs mid (as_value action) new next
    → GoesOn programs old (as_value (charged charge action)) new next
charged-run programs old mid new charge taken action next charges some stays on =
    let charged_some = subst (λ (b : Bool). Charges charge old b mid) some charges in
    on ∙ ap (as_value action (world_of programs mid)) (stays.rest programs)
    ∙ sym (charged_some programs action (λ value after. rest programs old.frames (given.Value value) after))

-- ---- items

-- an item was put, and an action goes on before it
pub put-run : (programs : List ToldProgram) (old mid new : MachineState) (item : Work)
    (action : Action Given) (next : Now)
    → ((told : List ToldProgram) → rest told mid.frames
    ≡ (λ handed w. does told item handed w (rest told old.frames)))
    → ((told : List ToldProgram) → world_of told mid ≡ world_of told old)
    → GoesOn programs mid action new next
    → run_from programs new next
    ≡ action (world_of programs old) (λ handed w. does programs item handed w (rest programs old.frames))
put-run programs old mid new item action next rests same on =
    on ∙ ap (λ (w : World). action w (rest programs mid.frames)) (same programs)
    ∙ ap (action (world_of programs old)) (rests programs)

-- ---- properties that go

pub deleted-run : (programs : List ToldProgram) (old new : MachineState) (object : ℕ)
    (name : List ℕ) (there : Bool) (next : Now)
    → ((told : List ToldProgram) (k : Next Value) → delete_in object name (world_of told old) k
    ≡ k (Boolean there) (world_of told new))
    → Stays old new → next ≡ now.Gives (given.Value (Boolean there))
    → GoesOn programs old (as_value (delete_in object name)) new next
deleted-run programs old new object name there next deletes stays is =
    ap (run_from programs new) is
    ∙ ap (λ (k : Next Given). k (given.Value (Boolean there)) (world_of programs new)) (stays.rest programs)
    ∙ sym (deletes programs (λ value w. rest programs old.frames (given.Value value) w))

-- ---- bases

pub members-stopped : (base : Value) (more : Action Value) → is_without_members base ≡ true
    → with_members base more ≡ stops NotObject
members-stopped Undefined more without = refl
members-stopped Null more without = refl
members-stopped (Boolean truth) more without = absurd (false≢true without)
members-stopped (Number number) more without = absurd (false≢true without)
members-stopped (Str text) more without = absurd (false≢true without)
members-stopped (Object object) more without = absurd (false≢true without)
members-stopped (Function number) more without = absurd (false≢true without)
members-stopped (Host reference) more without = absurd (false≢true without)

pub members-more : (base : Value) (more : Action Value) → is_without_members base ≡ false
    → with_members base more ≡ more
members-more Undefined more without = absurd (true≢false without)
members-more Null more without = absurd (true≢false without)
members-more (Boolean truth) more without = refl
members-more (Number number) more without = refl
members-more (Str text) more without = refl
members-more (Object object) more without = refl
members-more (Function number) more without = refl
members-more (Host reference) more without = refl

-- ---- expressions

-- an expression that was entered with its step
pub evaluated-run : (programs : List ToldProgram) (old mid new : MachineState) (taken : Bool)
    (e found : Expression) (next : Now) → Steps old taken mid → taken ≡ true → Stays old mid
    → ((functions : List Declared) (e : Expression) (w : World) (next : Next Value)
    → valued functions e w next
    ≡ expression_row functions (called functions) (entered functions) e w next)
    → e ≡ found
    → GoesOn programs mid (as_value (expression_row (declared_by programs)
    (called (declared_by programs)) (enters programs) found)) new next
    → GoesOn programs old (as_value (enters programs e)) new next
evaluated-run programs old mid new taken e found next steps some stays unfolds is on =
    let functions = declared_by programs in
    let same : GoesOn programs mid (as_value (expression_row functions (called functions)
    (enters programs) e)) new next =
    subst (λ (x : Expression). GoesOn programs mid (as_value (expression_row
    (declared_by programs) (called (declared_by programs)) (enters programs) x)) new next)
    (sym is) on in
    stepped-run programs old mid new taken (as_value (valued functions e)) next steps some stays
    (same ∙ sym (unfolds functions e (world_of programs mid)
    (λ value after. rest programs mid.frames (given.Value value) after)))

-- ---- signs

pub signs-number : (sign : Sign) (value : Value) → (sign ≡ sign_of.Not → ⊥)
    → signs sign value
    ≡ behind (as_number value) (λ number. gives (signed_number sign number))
signs-number sign_of.Plus value differs = refl
signs-number sign_of.Minus value differs = refl
signs-number sign_of.Complement value differs = refl
signs-number sign_of.Not value differs = absurd (differs refl)
