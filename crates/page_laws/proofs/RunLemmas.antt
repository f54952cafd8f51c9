-- The run of a script leaves what it acts on sound, and the world of the scripts.
use Rattle.std.proofs.Common.{◌≡◌, ℕ, Bool, true, List, refl}
use Rattle.dom_tree.specs.Items.{Item}
use Rattle.es_values.specs.declared.values.HostRef.{HostRef}
use Rattle.es_values.specs.declared.values.HostRef.TheVariants as ref
use Rattle.es_values.specs.declared.values.Value.{Value}
use Rattle.es_values.specs.declared.values.Value.TheVariants.{Host, Function}
use Rattle.es_values.specs.Objects.{ObjectState}
use Rattle.es_eval.specs.Evaluation.{global_run, run_at}
use Rattle.script_laws.specs.Soundness.{function_limit}
use Rattle.es_shapes.specs.Syntax.{Program}
use Rattle.es_eval.specs.Worlds.{Run}
use Rattle.es_eval.specs.Worlds.Run.{Over, Reads, Writes, Calls}
use Rattle.script_laws.specs.Passing.{PassesOwn, is_named}
use Rattle.script_laws.specs.Staying.{AreFit, StaysWithin}
use Rattle.document_stages.specs.Acting.{member_value, with_member_set}
use Rattle.document_stages.specs.Hosting.{HostParts, reply_of_call}
use Rattle.acting_documents.specs.Runs.{End, end_of_run}
use Rattle.page_laws.specs.Soundness.{is_good, names_well}
use Rattle.page_laws.proofs.ActingLemmas.{TreeLaws, read-given, written-sound}
use Rattle.page_laws.proofs.HostedLemmas.{HostLaws, IsSoundHosted, called-sound}
use Rattle.page_laws.proofs.ReadLemmas.{given-good, given-plain}

-- that what programs and called globals hand over and leave passes
pub record RunsStay : Type 0 where
  pub places : (good : Value → Bool) (least : ℕ) (programs : List Program) (place : ℕ)
      (globals : List (List ℕ × Value)) (heap : List ObjectState) (budget : ℕ)
      → PassesOwn (function_limit programs) good → AreFit good least globals heap
      → StaysWithin good least (run_at programs place globals heap budget)
  pub globals : (good : Value → Bool) (least : ℕ) (programs : List Program) (name : List ℕ)
      (globals : List (List ℕ × Value)) (heap : List ObjectState) (budget : ℕ)
      → PassesOwn (function_limit programs) good → AreFit good least globals heap
      → StaysWithin good least (global_run programs name globals heap budget)

-- ---- runs

pub record EndsSound (items : List Item) (limit least : ℕ) (e : End) : Type 0 where
  pub hosted : IsSoundHosted items e.hosted
  pub fit : AreFit (is_good items limit) least e.world.globals e.world.heap

pub run-sound : TreeLaws → HostLaws → (items : List Item) (limit least : ℕ) (run : Run)
    (h : HostParts) → StaysWithin (is_good items limit) least run → IsSoundHosted items h
    → EndsSound items limit least (end_of_run run h)
unfolding end_of_run
run-sound laws hosts items limit least (Over outcome w) h stays s =
    record { hosted = s; fit = stays }
run-sound laws hosts items limit least (Reads base name go) h stays s =
    let given = read-given laws items h.acting s.acting base name in
    let value = member_value h.acting base name in
    run-sound laws hosts items limit least (go value) h
    (stays.1 value (given-plain items value given) (given-good items limit value given)) s
run-sound laws hosts items limit least (Writes base name value heap go) h stays s =
    run-sound laws hosts items limit least go
    (record h { acting = with_member_set h.acting base name value heap }) stays.4
    (record {
      acting = written-sound laws items h.acting s.acting base name value heap;
      locks = s.locks;
    })
run-sound laws hosts items limit least (Calls base name arguments heap go) h stays s =
    let r = called-sound laws hosts items limit arguments heap h s base name in
    let c = reply_of_call h base name arguments heap in
    run-sound laws hosts items limit least (go c.answer c.heap) c.hosted
    (stays.2 c.answer c.heap r.answer r.objects.keeps r.passes (r.objects.fit stays.1.fit))
    r.hosted

-- ---- programs

own-references : (items : List Item) (reference : HostRef) → is_named reference ≡ true
    → names_well items reference ≡ true
own-references items (ref.Node node) h = absurd (cc h)
own-references items (ref.Style node state) h = absurd (cc h)
own-references items _ h = refl

-- what scripts make by themselves names what is there
pub own-pass : (items : List Item) (limit : ℕ) → PassesOwn limit (is_good items limit)
own-pass items limit (Host reference) h = own-references items reference h
own-pass items limit (Function number) h = h
own-pass items limit _ h = refl
