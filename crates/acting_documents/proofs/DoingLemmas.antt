-- What calls do to a document that acts: one behind the other, and in the words of its parts.
use Rattle.std.proofs.Common.{◌≡◌, ℕ, zero, suc, ◌≤◌, List, [], ◌∷◌, ◌++◌, length, map, take, Option, Some, None, refl, sym, ap, ◌∙◌, subst, append_assoc, arith}
use Rattle.std.specs.Prelude.{codes, slice_get, is_some, option_map, option_and_then, OnOk, Result, Ok, Err, Bool, true, false, if◌then◌else◌, IsTrue, ◌↔◌}
use Rattle.std.proofs.lemmas.List.{append-nil}
use Rattle.std.proofs.lemmas.Slice.Zip.{AllZip-long}
use Rattle.std.specs.List.{AllZip}
use Rattle.std.specs.Io.{StartsWith}
use Rattle.std.specs.Option.{option_map_or}
use Rattle.dom_tree.specs.Items.{IsElement}
use Rattle.dom_tree.specs.NodeNumbers.{number_of}
use Rattle.dom_tree.specs.declared.node_ids.NodeId.{NodeId}
use Rattle.multipart_entities.specs.declared.paths.Path.{Path}
use Rattle.style_cascade.specs.StyledTrees.{StyledTree}
use Rattle.es_values.specs.declared.values.Value.{Value}
use Rattle.es_values.specs.Objects.{ObjectState}
use Rattle.es_reader.specs.Programs.{Tells, ToldProgram}
use Rattle.es_eval.specs.declared.outcomes.Outcome.{Outcome}
use Rattle.es_eval.specs.Endings.{EndsWith}
use Rattle.es_eval.specs.declared.outcomes.Outcome.TheVariants.{Normal as AtEnd}
use Rattle.es_eval.specs.Evaluation.{global_run, program_run, run_at, world}
use Rattle.es_shapes.specs.Syntax.{Program}
use Rattle.es_eval.specs.Worlds.Run.{Over}
use Rattle.es_reader.specs.Statements.{Item as ProgramItem}
use Rattle.es_shapes.specs.Sources.{program_of}
use Rattle.es_eval.specs.Worlds.{World, Run}
use Rattle.event_items.specs.Subscriptions.{ItemsState}
use Rattle.event_queue.specs.Events.{name_of}
use Rattle.event_queue.specs.Timers.{Timer, timer_of}
use Rattle.event_queue.specs.declared.events.Event.{Event}
use Rattle.event_queue.specs.declared.events.Event.TheVariants as events
use Rattle.document_load.specs.Scripts.{HandlerState, unnamed_places}
use Rattle.browser_objects.specs.Calls.{BrowserParts}
use Rattle.dom_objects.specs.declared.current_events.CurrentEvent.{CurrentEvent}
use Rattle.document_stages.specs.Acting.{Acting, change_posts, with_due_events, key_posts, message_posts}
use Rattle.acting_documents.specs.Handling.{change_effect, due_effect, key_effect, kind_of, message_effect, run_handler, timer_effect, with_timer_taken}
use Rattle.display_list.specs.Bodies.{body_of}
use Rattle.acting_documents.specs.Documents.{Document, handler_in, passes}
use Rattle.acting_documents.specs.devices.Doings.{Changes, Does, DoesApart, HasDone, IsScene, lent_modules}
use Rattle.acting_documents.specs.devices.Kept.{IsDocument, KeptDocument}
use Rattle.acting_documents.specs.Notices.{notice_effect}
use Rattle.acting_documents.specs.devices.Posting.{post_effect, with_notice, takes}
use Rattle.acting_documents.specs.declared.notices.Notice.{Notice}
use Rattle.acting_documents.specs.declared.notices.Notice.TheVariants as notices
use Rattle.acting_documents.specs.Beginnings.{run_scripts, script_places}
use Rattle.acting_documents.specs.Runs.{Effect, End, Scene, acting_in, and_then, effect_of_change, effect_behind, effect_of_end, end_of_run, host_parts_in, most_steps, no_event, no_effect, run_function, run_program, unless_launched}
use Rattle.document_stages.specs.Calling.{HasCalled, HasRead, HasWritten}
use Rattle.document_stages.specs.Stages.{StageState}
use Rattle.document_stages.specs.declared.script_hosts.ScriptHost.{ScriptHost}
use Rattle.module_locks.specs.Locks.{Modules}
use Rattle.module_locks.specs.Standing.{ModulesState, StandsFor}
use Rattle.acting_documents.specs.StopLines.{stop_lines}
use Rattle.focus_keys.specs.KeyTables.{passes_list}
use Rattle.focus_keys.specs.Targets.{normal_value}
use Rattle.style_reader.specs.declared.properties.Property.TheVariants.{UsedKeyList}
use Rattle.acting_documents.proofs.BodyLemmas.{body-element}
use Rattle.acting_documents.proofs.EndedLemmas.{EndsAs, Stays, change_posts-stays, due_posted-stays, ended-stays, ends_as, key_posts-stays, message_posts-stays, stays_of}

-- ---- part by part

pub record Parts (kept : KeptDocument) (d : Document) : Type 0 where
  pub path : kept.path ≡ d.path
  pub tree : kept.tree ≡ d.tree
  pub items : kept.items ≡ d.items
  pub queue : kept.queue ≡ d.queue
  pub handlers : kept.handlers ≡ d.handlers
  pub globals : kept.globals ≡ d.globals
  pub heap : kept.heap ≡ d.heap
  pub body : kept.body ≡ body_of d.tree.items

pub parts_of_kept : (kept : KeptDocument) (d : Document) → IsDocument kept d → Parts kept d
parts_of_kept kept d k = record {
  path = ap (λ (x : KeptDocument). x.path) k.others;
  tree = ap (λ (x : KeptDocument). x.tree) k.others;
  items = ap (λ (x : KeptDocument). x.items) k.others;
  queue = ap (λ (x : KeptDocument). x.queue) k.others;
  handlers = ap (λ (x : KeptDocument). x.handlers) k.others;
  globals = ap (λ (x : KeptDocument). x.globals) k.others;
  heap = ap (λ (x : KeptDocument). x.heap) k.others;
  body = ap (λ (x : KeptDocument). x.body) k.others;
}

kept_parts : (path path' : Path) (tree tree' : StyledTree) (items items' : ItemsState) (queue queue' : List Event) (programs : List ToldProgram) (handlers handlers' : List HandlerState) (globals globals' : List (List ℕ × Value)) (heap heap' : List ObjectState) (body body' : Option ℕ) (worked owed : ℕ) (lent : BrowserParts) (now : ℕ) (modules : ModulesState) (launched : Option Path)
    → path ≡ path' → tree ≡ tree' → items ≡ items' → queue ≡ queue' → handlers ≡ handlers' → globals ≡ globals' → heap ≡ heap' → body ≡ body'
    → (let x : KeptDocument = record { path = path; tree = tree; items = items; queue = queue; programs = programs; handlers = handlers; globals = globals; heap = heap; body = body; worked = worked; owed = owed; lent = lent; now = now; modules = modules; launched = launched } in x)
    ≡ record { path = path'; tree = tree'; items = items'; queue = queue'; programs = programs; handlers = handlers'; globals = globals'; heap = heap'; body = body'; worked = worked; owed = owed; lent = lent; now = now; modules = modules; launched = launched }
kept_parts path path' tree tree' items items' queue queue' programs handlers handlers' globals globals' heap heap' body body' worked owed lent now modules launched a b c d e f g h = cc

pub kept_of_parts : (kept : KeptDocument) (d : Document) → AllZip Tells d.programs kept.programs → Parts kept d → IsDocument kept d
kept_of_parts kept d z p = record {
  programs = z;
  others = kept_parts kept.path d.path kept.tree d.tree kept.items d.items kept.queue d.queue kept.programs kept.handlers d.handlers kept.globals d.globals kept.heap d.heap kept.body (body_of d.tree.items) kept.worked kept.owed kept.lent kept.now kept.modules kept.launched p.path p.tree p.items p.queue p.handlers p.globals p.heap p.body;
}

-- ---- one behind the other

-- the same effect in other words
pub does_as : (more effect : Scene → Effect) (old new : KeptDocument) (before after : List ℕ) → ((s : Scene) → IsScene old s → effect s ≡ more s) → Does more old new before after → Does effect old new before after
does_as more effect old new before after same x = record {
  text = x.text;
  printed = x.printed;
  does = λ s k. subst (λ (e : Effect). HasDone new x.text e) (sym (same s k)) (x.does s k);
}

-- nothing was launched, and another thing is done
both_done : (e : Effect) (more : Scene → Effect) (middle new : KeptDocument) (one two : List ℕ) → middle.launched ≡ None → HasDone middle one e → HasDone new two (more e.scene) → HasDone new (one ++ two) (and_then more e)
both_done e more middle new one two none x y =
    let launched : e.launched ≡ None = sym x.launched_is ∙ none in
    subst (λ (o : Option Path). HasDone new (one ++ two) (unless_launched o more e)) (sym launched) (record {
      is = y.is;
      launched_is = y.launched_is;
      text_is = ap (λ (t : List ℕ). t ++ two) x.text_is ∙ ap (λ (t : List ℕ). e.text ++ t) y.text_is;
    })

pub does_then : (first more : Scene → Effect) (old middle new : KeptDocument) (before between after : List ℕ) → is_some middle.launched ≡ false → Does first old middle before between → Does more middle new between after → Does (λ s. and_then more (first s)) old new before after
does_then first more old middle new before between after none x y = record {
  text = x.text ++ y.text;
  printed = y.printed ∙ (ap (λ (t : List ℕ). t ++ y.text) x.printed ∙ append_assoc before x.text y.text);
  does = λ s k.
      let one = x.does s k in
      both_done (first s) more middle new x.text y.text (is_none middle.launched none) one (y.does (first s).scene one.is);
}
  where
    is_none : (o : Option Path) → is_some o ≡ false → o ≡ None
    is_none None e = refl
    is_none (Some path) e = absurd (cc e)

-- another document was launched, and so nothing more is done
stopped : (e : Effect) (more : Scene → Effect) → is_some e.launched ≡ true → and_then more e ≡ e
stopped e more some = go e.launched some
  where
    go : (o : Option Path) → is_some o ≡ true → unless_launched o more e ≡ e
    go None s = absurd (cc s)
    go (Some path) s = refl

pub does_stopped : (first more : Scene → Effect) (old new : KeptDocument) (before after : List ℕ) → is_some new.launched ≡ true → Does first old new before after → Does (λ s. and_then more (first s)) old new before after
does_stopped first more old new before after some x = record {
  text = x.text;
  printed = x.printed;
  does = λ s k.
      let one = x.does s k in
      subst (λ (e : Effect). HasDone new x.text e) (sym (stopped (first s) more (sym (ap is_some one.launched_is) ∙ some))) one;
}

-- something was changed, and then a thing is done
pub does_changed : (change : Scene → Scene) (effect : Scene → Effect) (old middle new : KeptDocument) (before after : List ℕ) → Changes change old middle → Does effect middle new before after → Does (λ s. effect (change s)) old new before after
does_changed change effect old middle new before after c x = record {
  text = x.text;
  printed = x.printed;
  does = λ s k. x.does (change s) (c.changes s k);
}

-- the time went on, and then a thing is done
does_later : (moment : ℕ) (effect : Scene → Effect) (old new : KeptDocument) (before after : List ℕ) → Does effect (record old { now = moment }) new before after → Does (λ s. effect (record s { now = moment })) old new before after
does_later moment effect old new before after x = record {
  text = x.text;
  printed = x.printed;
  does = λ s k.
      let p = parts_of_kept old s.document k.is in
      x.does (record s { now = moment }) (record {
        is = kept_of_parts (record old { now = moment }) s.document k.is.programs (record {
          path = p.path;
          tree = p.tree;
          items = p.items;
          queue = p.queue;
          handlers = p.handlers;
          globals = p.globals;
          heap = p.heap;
          body = p.body;
        });
        lent_is = k.lent_is;
        now_is = refl;
        modules = k.modules;
      });
}

-- ---- what is acted on

abbrev pub acting_of : KeptDocument → CurrentEvent → Acting
acting_of old event = record {
  path = old.path;
  tree = old.tree;
  items = old.items;
  queue = old.queue;
  browser = old.lent;
  now = old.now;
  event = event;
  launched = None;
  text = [];
}

acting_is : (old : KeptDocument) (event : CurrentEvent) (s : Scene) → IsScene old s → acting_of old event ≡ acting_in event s
acting_is old event s k =
    let p = parts_of_kept old s.document k.is in
    same old.path s.document.path old.tree s.document.tree old.items s.document.items old.queue s.document.queue old.lent s.browser old.now s.now p.path p.tree p.items p.queue k.lent_is k.now_is
  where
    acts : Path → StyledTree → ItemsState → List Event → BrowserParts → ℕ → Acting
    acts path tree items queue lent now = record { path = path; tree = tree; items = items; queue = queue; browser = lent; now = now; event = event; launched = None; text = [] }

    same : (x x' : Path) (t t' : StyledTree) (i i' : ItemsState) (q q' : List Event) (l l' : BrowserParts) (n n' : ℕ) → x ≡ x' → t ≡ t' → i ≡ i' → q ≡ q' → l ≡ l' → n ≡ n' → acts x t i q l n ≡ acts x' t' i' q' l' n'
    same x x' t t' i i' q q' l l' n n' a b c d e f = cc

-- what is kept now is what was acted on, and what was kept before
pub record Leaves (told : List ToldProgram) (kept : List HandlerState) (node : Option ℕ) (new : KeptDocument) (last : Acting) : Type 0 where
  pub path : new.path ≡ last.path
  pub tree : new.tree ≡ last.tree
  pub items : new.items ≡ last.items
  pub queue : new.queue ≡ last.queue
  pub lent : new.lent ≡ last.browser
  pub now : new.now ≡ last.now
  pub launched : new.launched ≡ last.launched
  pub programs : new.programs ≡ told
  pub handlers : new.handlers ≡ kept
  pub body : new.body ≡ node

-- what contracts see of a document that is kept in parts
abbrev pub kept_in : StageState → ModulesState → List ToldProgram → List HandlerState → List (List ℕ × Value) → List ObjectState → Option NodeId → KeptDocument
kept_in stage modules programs handlers globals heap body = record {
  path = stage.acting.path;
  tree = stage.acting.tree;
  items = stage.acting.items;
  queue = stage.acting.queue;
  programs = programs;
  handlers = handlers;
  globals = globals;
  heap = heap;
  body = number_of body;
  worked = stage.worked;
  owed = stage.owed;
  lent = stage.acting.browser;
  now = stage.acting.now;
  modules = modules;
  launched = stage.acting.launched;
}

pub leaves_in : (given : StageState) (modules : ModulesState) (last : Acting) (programs : List ToldProgram) (handlers : List HandlerState) (globals : List (List ℕ × Value)) (heap : List ObjectState) (body : Option NodeId)
    → given.acting ≡ record last { text = [] }
    → Leaves programs handlers (number_of body) (kept_in given modules programs handlers globals heap body) last
leaves_in given modules last programs handlers globals heap body e = record {
  path = ap (λ (a : Acting). a.path) e;
  tree = ap (λ (a : Acting). a.tree) e;
  items = ap (λ (a : Acting). a.items) e;
  queue = ap (λ (a : Acting). a.queue) e;
  lent = ap (λ (a : Acting). a.browser) e;
  now = ap (λ (a : Acting). a.now) e;
  launched = ap (λ (a : Acting). a.launched) e;
  programs = refl;
  handlers = refl;
  body = refl;
}

-- ---- what was left of it

abbrev effect_left : Scene → Acting → Modules → List (List ℕ × Value) → List ObjectState → List ℕ → Effect
effect_left s last modules globals heap text = record {
  scene = record s {
    document = record s.document { tree = last.tree; items = last.items; queue = last.queue; globals = globals; heap = heap };
    browser = last.browser;
    modules = modules;
  };
  launched = last.launched;
  text = text;
}

left_done : (old new : KeptDocument) (s : Scene) (last : Acting) (modules : Modules) (globals : List (List ℕ × Value)) (heap : List ObjectState) (text : List ℕ)
    → IsScene old s
    → stays_of last ≡ stays_of (acting_in no_event s)
    → Leaves old.programs old.handlers old.body new last → StandsFor new.modules modules
    → new.globals ≡ globals → new.heap ≡ heap
    → HasDone new text (effect_left s last modules globals heap text)
left_done old new s last modules globals heap text k stays left stands globals_are heap_is =
    let p = parts_of_kept old s.document k.is in
    record {
      is = record {
        is = kept_of_parts new (effect_left s last modules globals heap text).scene.document (subst (λ (t : List ToldProgram). AllZip Tells s.document.programs t) (sym left.programs) k.is.programs) (record {
          path = left.path ∙ ap (λ (x : Stays). x.path) stays;
          tree = left.tree;
          items = left.items;
          queue = left.queue;
          handlers = left.handlers ∙ p.handlers;
          globals = globals_are;
          heap = heap_is;
          body = left.body ∙ (p.body ∙ sym (ap (λ (x : Stays). x.body) stays));
        });
        lent_is = left.lent;
        now_is = left.now ∙ ap (λ (x : Stays). x.now) stays;
        modules = stands;
      };
      launched_is = left.launched;
      text_is = refl;
    }

pub does_done : (change : Acting → Acting) (old new : KeptDocument) (first last : Acting) (before after : List ℕ)
    → first ≡ acting_of old no_event → last ≡ change first → ((a : Acting) → stays_of (change a) ≡ stays_of a)
    → Leaves old.programs old.handlers old.body new last → new.modules ≡ old.modules → new.globals ≡ old.globals → new.heap ≡ old.heap
    → after ≡ before ++ last.text → Does (effect_of_change change) old new before after
does_done change old new first last before after is becomes keeps left modules globals heap printed = record {
  text = last.text;
  printed = printed;
  does = λ s k.
      let p = parts_of_kept old s.document k.is in
      let d = s.document in
      let e = becomes ∙ ap change (is ∙ acting_is old no_event s k) in
      subst (λ (a : Acting). HasDone new last.text (effect_left s a s.modules d.globals d.heap a.text)) e
      (left_done old new s last s.modules d.globals d.heap last.text k (ap stays_of e ∙ keeps (acting_in no_event s)) left
      (subst (λ (m : ModulesState). StandsFor m s.modules) (sym modules) k.modules) (globals ∙ p.globals) (heap ∙ p.heap));
}

-- ---- runs

-- the run of the programs, the globals, the objects and so many steps, for the event of this name
abbrev pub run_effect : (List (List ProgramItem) → List (List ℕ × Value) → List ObjectState → ℕ → Run) → List ℕ → CurrentEvent → Scene → Effect
run_effect run name event s =
    effect_of_end name s (end_of_run (run s.document.programs s.document.globals s.document.heap most_steps) (host_parts_in event s))

-- an end is that of what was acted on then
end_in : (e : End) (outcome : Outcome) (w : World) (last : ScriptHost) → EndsAs e outcome w last → e ≡ record { outcome = outcome; world = w; hosted = record { acting = last.stage.acting; modules = e.hosted.modules } }
end_in e outcome w last x = same e.outcome outcome e.world w e.hosted.acting last.stage.acting x.outcome_is x.world_is x.acting_is
  where
    ends : Outcome → World → Acting → End
    ends o v a = record { outcome = o; world = v; hosted = record { acting = a; modules = e.hosted.modules } }

    same : (o p : Outcome) (v w : World) (a b : Acting) → o ≡ p → v ≡ w → a ≡ b → ends o v a ≡ ends p w b
    same o p v w a b x y z = cc

run_done : (run : Run) (name : List ℕ) (event : CurrentEvent) (old new : KeptDocument) (s : Scene) (w : World) (outcome : Outcome) (last : ScriptHost)
    → IsScene old s
    → EndsAs (end_of_run run (host_parts_in event s)) outcome w last
    → w.globals ≡ new.globals → w.heap ≡ new.heap → Leaves old.programs old.handlers old.body new last.stage.acting
    → new.modules ≡ last.modules
    → HasDone new (last.stage.acting.text ++ stop_lines outcome name) (effect_of_end name s (end_of_run run (host_parts_in event s)))
run_done run name event old new s w outcome last k e globals heap left modules =
    let end = end_of_run run (host_parts_in event s) in
    let text = last.stage.acting.text ++ stop_lines outcome name in
    subst (λ (x : End). HasDone new text (effect_of_end name s x)) (sym (end_in end outcome w last e))
    (left_done old new s last.stage.acting end.hosted.modules w.globals w.heap text k
    (sym (ap stays_of e.acting_is) ∙ ended-stays run (host_parts_in event s)) left
    (subst (λ (m : ModulesState). StandsFor m end.hosted.modules) (sym modules) e.modules) (sym globals) (sym heap))

run_in : (run : List (List ProgramItem) → List (List ℕ × Value) → List ObjectState → ℕ → Run) (sources : List (List ProgramItem)) (budget : ℕ) (old : KeptDocument) (d : Document) (P : Run → Type 0)
    → Parts old d → budget ≡ most_steps
    → P (run sources old.globals old.heap budget)
    → P (run sources d.globals d.heap most_steps)
run_in run sources budget old d P p steps e =
    subst (λ (b : ℕ). P (run sources d.globals d.heap b)) steps
    (subst (λ (h : List ObjectState). P (run sources d.globals h budget)) p.heap
    (subst (λ (g : List (List ℕ × Value)). P (run sources g old.heap budget)) p.globals e))

does_run : (run : List (List ProgramItem) → List (List ℕ × Value) → List ObjectState → ℕ → Run) (name : List ℕ) (event : CurrentEvent) (budget : ℕ) (old new : KeptDocument) (first last : ScriptHost) (outcome : Outcome) (before between after : List ℕ)
    → first.stage.acting ≡ acting_of old event → first.modules ≡ old.modules
    → ((sources : List (List ProgramItem)) → AllZip Tells sources old.programs → EndsWith HasRead HasWritten HasCalled (run sources old.globals old.heap budget) first outcome new.globals new.heap last)
    → budget ≡ most_steps → Leaves old.programs old.handlers old.body new last.stage.acting → new.modules ≡ last.modules
    → between ≡ before ++ last.stage.acting.text → after ≡ between ++ stop_lines outcome name
    → Does (run_effect run name event) old new before after
does_run run name event budget old new first last outcome before between after is lends runs steps left modules given told = record {
  text = last.stage.acting.text ++ stop_lines outcome name;
  printed = told ∙ (ap (λ (t : List ℕ). t ++ stop_lines outcome name) given ∙ append_assoc before last.stage.acting.text (stop_lines outcome name));
  does = λ s k.
      let d = s.document in
      let ends = runs d.programs k.is.programs in
      run_done (run d.programs d.globals d.heap most_steps) name event old new s ends.0 outcome last k
      (run_in run d.programs budget old d (λ r. EndsAs (end_of_run r (host_parts_in event s)) outcome ends.0 last) (parts_of_kept old d k.is) steps
      (ends_as (run d.programs old.globals old.heap budget) first outcome ends.0 last (host_parts_in event s) ends.3 (is ∙ acting_is old event s k)
      (subst (λ (m : ModulesState). StandsFor m s.modules) (sym lends) k.modules)))
      ends.1 ends.2 left modules;
}

pub does_program : (name : List ℕ) (event : CurrentEvent) (place budget : ℕ) (old new : KeptDocument) (first last : ScriptHost) (outcome : Outcome) (before between after : List ℕ)
    → first.stage.acting ≡ acting_of old event → first.modules ≡ old.modules
    → ((sources : List (List ProgramItem)) → AllZip Tells sources old.programs → EndsWith HasRead HasWritten HasCalled (run_at (map program_of sources) place old.globals old.heap budget) first outcome new.globals new.heap last)
    → budget ≡ most_steps → Leaves old.programs old.handlers old.body new last.stage.acting → new.modules ≡ last.modules
    → between ≡ before ++ last.stage.acting.text → after ≡ between ++ stop_lines outcome name
    → Does (run_program name event place) old new before after
unfolding run_program
does_program name event place = does_run (λ sources globals heap budget. run_at (map program_of sources) place globals heap budget) name event

pub does_function : (name function : List ℕ) (budget : ℕ) (old new : KeptDocument) (first last : ScriptHost) (outcome : Outcome) (before between after : List ℕ)
    → first.stage.acting ≡ acting_of old no_event → first.modules ≡ old.modules
    → ((sources : List (List ProgramItem)) → AllZip Tells sources old.programs → EndsWith HasRead HasWritten HasCalled (global_run (map program_of sources) function old.globals old.heap budget) first outcome new.globals new.heap last)
    → budget ≡ most_steps → Leaves old.programs old.handlers old.body new last.stage.acting → new.modules ≡ last.modules
    → between ≡ before ++ last.stage.acting.text → after ≡ between ++ stop_lines outcome name
    → Does (run_function name function) old new before after
unfolding run_function
does_function name function = does_run (λ sources globals heap budget. global_run (map program_of sources) function globals heap budget) name no_event

pub steps-are : 100000 ≡ most_steps
unfolding most_steps
steps-are = refl

-- a place behind the programs has none

no_program : (sources : List (List ProgramItem)) (place : ℕ) → length sources ≤ place → slice_get (map program_of sources) place ≡ None
no_program [] place h = refl
no_program (x ∷ xs) zero h = absurd (omega (arith, h))
no_program (x ∷ xs) (suc place) h = no_program xs place (omega (arith, h))

pub does_no_program : (name : List ℕ) (event : CurrentEvent) (place : ℕ) (old new : KeptDocument) (before : List ℕ) → length old.programs ≤ place → Does no_effect old new before before → Does (run_program name event place) old new before before
unfolding run_program run_at end_of_run
does_no_program name event place old new before h x = does_as no_effect (run_program name event place) old new before before
    (λ s k. nothing s (no_program s.document.programs place (subst (λ (n : ℕ). n ≤ place) (AllZip-long Tells s.document.programs old.programs k.is.programs) h))) x
  where
    nothing : (s : Scene) → slice_get (map program_of s.document.programs) place ≡ None → run_program name event place s ≡ no_effect s
    nothing s none =
        let d = s.document in
        ap (λ (o : Option Program). effect_of_end name s (end_of_run (option_map_or (λ program. program_run (map program_of d.programs) (take place (map program_of d.programs)) program d.globals d.heap most_steps) o (Over AtEnd (world d.globals d.heap most_steps))) (host_parts_in event s))) none

-- ---- scripts

and_then-same : (f g : Scene → Effect) (s : Scene) (o : Option Path) (text : List ℕ) → ((s : Scene) → f s ≡ g s) → (let e : Effect = record { scene = s; launched = o; text = text } in and_then f e ≡ and_then g e)
and_then-same f g s None text same = ap (effect_behind text) (same s)
and_then-same f g s (Some path) text same = refl

and_then-nothing : (s : Scene) (o : Option Path) (text : List ℕ) → (let e : Effect = record { scene = s; launched = o; text = text } in and_then no_effect e ≡ e)
and_then-nothing s None text = ap (λ (t : List ℕ). let e : Effect = record { scene = s; launched = None; text = t } in e) (append-nil text)
and_then-nothing s (Some path) text = refl

behind_then : (more : Scene → Effect) (front : List ℕ) (s : Scene) (o : Option Path) (text : List ℕ)
    → (let e : Effect = record { scene = s; launched = o; text = text } in effect_behind front (and_then more e) ≡ and_then more (effect_behind front e))
behind_then more front s None text = ap (λ (t : List ℕ). record (more s) { text = t }) (sym (append_assoc front text (more s).text))
behind_then more front s (Some path) text = refl

and_then-assoc : (f g : Scene → Effect) (s : Scene) (o : Option Path) (text : List ℕ)
    → (let e : Effect = record { scene = s; launched = o; text = text } in and_then (λ s. and_then g (f s)) e ≡ and_then g (and_then f e))
and_then-assoc f g s None text = behind_then g text (f s).scene (f s).launched (f s).text
and_then-assoc f g s (Some path) text = refl

run_scripts-append : (places more : List ℕ) (s : Scene) → run_scripts (places ++ more) s ≡ and_then (run_scripts more) (run_scripts places s)
run_scripts-append [] more s = refl
run_scripts-append (place ∷ places) more s =
    let e = run_program (codes "script") no_event place s in
    and_then-same (run_scripts (places ++ more)) (λ s. and_then (run_scripts more) (run_scripts places s)) e.scene e.launched e.text (run_scripts-append places more)
    ∙ and_then-assoc (run_scripts places) (run_scripts more) e.scene e.launched e.text

-- one more of them runs
pub does_scripts-more : (places : List ℕ) (place : ℕ) (event : CurrentEvent) (old middle new : KeptDocument) (before between after : List ℕ) → event ≡ no_event → is_some middle.launched ≡ false → Does (run_scripts places) old middle before between → Does (run_program (codes "script") event place) middle new between after → Does (run_scripts (places ++ place ∷ [])) old new before after
does_scripts-more places place event old middle new before between after outside none x y =
    does_as (λ s. and_then (run_scripts (place ∷ [])) (run_scripts places s)) (run_scripts (places ++ place ∷ [])) old new before after
    (λ s k. run_scripts-append places (place ∷ []) s)
    (does_then (run_scripts places) (run_scripts (place ∷ [])) old middle new before between after none x
    (does_as (run_program (codes "script") no_event place) (run_scripts (place ∷ [])) middle new between after
    (λ s k. let e = run_program (codes "script") no_event place s in and_then-nothing e.scene e.launched e.text)
    (subst (λ (e : CurrentEvent). Does (run_program (codes "script") e place) middle new between after) outside y)))

-- one of them launched another document, and so those behind it don't run
pub does_scripts-stopped : (places more : List ℕ) (old new : KeptDocument) (before after : List ℕ) → is_some new.launched ≡ true → Does (run_scripts places) old new before after → Does (run_scripts (places ++ more)) old new before after
does_scripts-stopped places more old new before after some x =
    does_as (λ s. and_then (run_scripts more) (run_scripts places s)) (run_scripts (places ++ more)) old new before after
    (λ s k. run_scripts-append places more s)
    (does_stopped (run_scripts places) (run_scripts more) old new before after some x)

-- the scripts of a document, by what is kept of it
pub does_scripts : (places : List ℕ) (old new : KeptDocument) (before after : List ℕ) → places ≡ unnamed_places (length old.programs) old.handlers → Does (run_scripts places) old new before after → Does (λ s. run_scripts (script_places s.document) s) old new before after
does_scripts places old new before after is x =
    does_as (run_scripts places) (λ s. run_scripts (script_places s.document) s) old new before after
    (λ s k. ap (λ (p : List ℕ). run_scripts p s)
    (sym (is ∙ (ap (λ (n : ℕ). unnamed_places n old.handlers) (AllZip-long Tells s.document.programs old.programs k.is.programs)
    ∙ ap (λ (h : List HandlerState). unnamed_places (length s.document.programs) h) (parts_of_kept old s.document k.is).handlers)))) x

-- ---- the documents that are kept in parts

-- what is acted on outside of handlers, before anything is done
pub prepared : (stage first : StageState) (event : CurrentEvent) → event ≡ no_event → first.acting ≡ record stage.acting { event = event; launched = None; text = [] } → first.acting ≡ record stage.acting { event = no_event; launched = None; text = [] }
prepared stage first event none prepares = subst (λ (e : CurrentEvent). first.acting ≡ record stage.acting { event = e; launched = None; text = [] }) none prepares

-- what is done outside of handlers, behind which the text is given
done_in : (change : Acting → Acting) (stage first last given : StageState) (modules : ModulesState) (programs : List ToldProgram) (handlers : List HandlerState) (globals : List (List ℕ × Value)) (heap : List ObjectState) (body : Option NodeId) (before after : List ℕ)
    → first.acting ≡ record stage.acting { event = no_event; launched = None; text = [] }
    → last.acting ≡ change first.acting
    → ((a : Acting) → stays_of (change a) ≡ stays_of a)
    → given.acting ≡ record last.acting { text = [] }
    → after ≡ before ++ last.acting.text
    → Does (effect_of_change change) (kept_in stage modules programs handlers globals heap body) (kept_in given modules programs handlers globals heap body) before after
done_in change stage first last given modules programs handlers globals heap body before after begins becomes keeps left printed =
    does_done change (kept_in stage modules programs handlers globals heap body) (kept_in given modules programs handlers globals heap body) first.acting last.acting before after begins becomes keeps
    (leaves_in given modules last.acting programs handlers globals heap body left) refl refl refl printed

pub gives : {T E : Type 0} (r : Result T E) (change : Acting → Acting) (old : KeptDocument) (stage first last given : StageState) (modules : ModulesState) (programs : List ToldProgram) (handlers : List HandlerState) (globals : List (List ℕ × Value)) (heap : List ObjectState) (body : Option NodeId) (before after : List ℕ)
    → kept_in stage modules programs handlers globals heap body ≡ old
    → first.acting ≡ record stage.acting { event = no_event; launched = None; text = [] }
    → last.acting ≡ change first.acting
    → ((a : Acting) → stays_of (change a) ≡ stays_of a)
    → OnOk r (given.acting ≡ record last.acting { text = [] })
    → OnOk r (after ≡ before ++ last.acting.text)
    → OnOk r (Does (effect_of_change change) old (kept_in given modules programs handlers globals heap body) before after)
gives (Ok x) change old stage first last given modules programs handlers globals heap body before after is begins becomes keeps left printed =
    subst (λ (k : KeptDocument). Does (effect_of_change change) k (kept_in given modules programs handlers globals heap body) before after) is
    (done_in change stage first last given modules programs handlers globals heap body before after begins becomes keeps left printed)
gives (Err e) change old stage first last given modules programs handlers globals heap body before after is begins becomes keeps left printed = tt

-- whatever modules it is lent
gives_apart : {T E : Type 0} (r : Result T E) (change : Acting → Acting) (old : KeptDocument) (stage first last given : StageState) (modules : ModulesState) (programs : List ToldProgram) (handlers : List HandlerState) (globals : List (List ℕ × Value)) (heap : List ObjectState) (body : Option NodeId) (before after : List ℕ)
    → kept_in stage modules programs handlers globals heap body ≡ old
    → first.acting ≡ record stage.acting { event = no_event; launched = None; text = [] }
    → last.acting ≡ change first.acting
    → ((a : Acting) → stays_of (change a) ≡ stays_of a)
    → OnOk r (given.acting ≡ record last.acting { text = [] })
    → OnOk r (after ≡ before ++ last.acting.text)
    → OnOk r (DoesApart (effect_of_change change) old (kept_in given modules programs handlers globals heap body) before after)
gives_apart (Ok x) change old stage first last given modules programs handlers globals heap body before after is begins becomes keeps left printed =
    subst (λ (k : KeptDocument). DoesApart (effect_of_change change) k (kept_in given modules programs handlers globals heap body) before after) is
    (λ others. done_in change stage first last given others programs handlers globals heap body before after begins becomes keeps left printed)
gives_apart (Err e) change old stage first last given modules programs handlers globals heap body before after is begins becomes keeps left printed = tt

-- the same at another time
gives_later : {T E : Type 0} (r : Result T E) (moment : ℕ) (change : Acting → Acting) (old : KeptDocument) (stage first last given : StageState) (modules : ModulesState) (programs : List ToldProgram) (handlers : List HandlerState) (globals : List (List ℕ × Value)) (heap : List ObjectState) (body : Option NodeId) (before after : List ℕ)
    → kept_in stage modules programs handlers globals heap body ≡ old
    → first.acting ≡ record stage.acting { event = no_event; launched = None; text = [] }
    → last.acting ≡ change (record first.acting { now = moment })
    → ((a : Acting) → stays_of (change a) ≡ stays_of a)
    → OnOk r (given.acting ≡ record last.acting { text = [] })
    → OnOk r (after ≡ before ++ last.acting.text)
    → OnOk r (DoesApart (λ s. effect_of_change change (record s { now = moment })) old (kept_in given modules programs handlers globals heap body) before after)
gives_later (Ok x) moment change old stage first last given modules programs handlers globals heap body before after is begins becomes keeps left printed =
    subst (λ (k : KeptDocument). DoesApart (λ s. effect_of_change change (record s { now = moment })) k (kept_in given modules programs handlers globals heap body) before after) is
    (λ others.
    let new = kept_in given others programs handlers globals heap body in
    let kept = kept_in stage others programs handlers globals heap body in
    does_later moment (effect_of_change change) kept new before after
    (does_done change (record kept { now = moment }) new (record first.acting { now = moment }) last.acting before after
    (ap (λ (a : Acting). record a { now = moment }) begins) becomes keeps
    (leaves_in given others last.acting programs handlers globals heap body left) refl refl refl printed))
gives_later (Err e) moment change old stage first last given modules programs handlers globals heap body before after is begins becomes keeps left printed = tt

-- what is printed stands behind what was there

pub front_of : (xs ys : List ℕ) → take (length xs) (xs ++ ys) ≡ xs
front_of [] ys = refl
front_of (x ∷ xs) ys = ap (λ (zs : List ℕ). x ∷ zs) (front_of xs ys)

pub does_grows : (effect : Scene → Effect) (old new : KeptDocument) (before after : List ℕ) → Does effect old new before after → StartsWith after before
does_grows effect old new before after x = subst (λ (t : List ℕ). take (length before) t ≡ before) (sym x.printed) (front_of before x.text)

-- ---- handlers and timers

-- a node that has no handler
pub does_no_handler : (event : Event) (node : ℕ) (old new : KeptDocument) (before : List ℕ) → option_and_then (handler_in old.handlers node) (kind_of event) ≡ None → Does no_effect old new before before → Does (run_handler event node) old new before before
does_no_handler event node old new before none x =
    does_as no_effect (run_handler event node) old new before before
    (λ s k. ap (λ (o : Option ℕ). option_map_or (λ place. run_program (name_of event) (record { event = Some event; target = node }) place s) o (no_effect s))
    (ap (λ (h : List HandlerState). option_and_then (handler_in h node) (kind_of event)) (sym (parts_of_kept old s.document k.is).handlers) ∙ none)) x

-- there is no timer of the number
pub does_no_timer : (number : ℕ) (old new : KeptDocument) (before : List ℕ) → option_map (λ timer. timer.function) (timer_of number old.lent.timers) ≡ None → Does no_effect old new before before → Does (timer_effect number) old new before before
does_no_timer number old new before none x =
    does_as no_effect (timer_effect number) old new before before (λ s k. go s (timer_of number s.browser.timers) (sym (ap (λ (b : BrowserParts). option_map (λ timer. timer.function) (timer_of number b.timers)) k.lent_is) ∙ none)) x
  where
    go : (s : Scene) (timer : Option Timer) → option_map (λ timer. timer.function) timer ≡ None → option_map_or (λ timer. run_function (name_of (events.Timer number)) timer.function (with_timer_taken number s)) timer (no_effect s) ≡ no_effect s
    go s None e = refl
    go s (Some timer) e = absurd (cc e)

-- there is one, whose event was taken
pub does_timer : (number : ℕ) (function : List ℕ) (old middle new : KeptDocument) (before after : List ℕ) → option_map (λ timer. timer.function) (timer_of number old.lent.timers) ≡ Some function → Changes (with_timer_taken number) old middle → Does (run_function (name_of (events.Timer number)) function) middle new before after → Does (timer_effect number) old new before after
does_timer number function old middle new before after is taken x =
    does_as (λ s. run_function (name_of (events.Timer number)) function (with_timer_taken number s)) (timer_effect number) old new before after
    (λ s k. go s (timer_of number s.browser.timers) (sym (ap (λ (b : BrowserParts). option_map (λ timer. timer.function) (timer_of number b.timers)) k.lent_is) ∙ is))
    (does_changed (with_timer_taken number) (run_function (name_of (events.Timer number)) function) old middle new before after taken x)
  where
    go : (s : Scene) (timer : Option Timer) → option_map (λ timer. timer.function) timer ≡ Some function → option_map_or (λ timer. run_function (name_of (events.Timer number)) timer.function (with_timer_taken number s)) timer (no_effect s) ≡ run_function (name_of (events.Timer number)) function (with_timer_taken number s)
    go s None e = absurd (cc e)
    go s (Some timer) e = ap (λ (f : List ℕ). run_function (name_of (events.Timer number)) f (with_timer_taken number s)) (cc e)

-- ---- keys

-- there is no document whose body is no element
pub no_element : (kept : KeptDocument) (d : Document) (node : NodeId) (is_element : Bool) → IsDocument kept d → kept.body ≡ Some node.0 → (IsTrue is_element ↔ IsElement kept.tree.items node.0) → is_element ≡ false → ⊥
no_element kept d node is_element k body element fails =
    let p = parts_of_kept kept d k in
    let here : IsElement kept.tree.items node.0 = subst (λ (tree : StyledTree). IsElement tree.items node.0) (sym p.tree) (body-element d.tree.items node (sym body ∙ p.body)) in
    let both : true ≡ false = sym (element.1 here) ∙ fails in
    cc

pub passes_by : (kept : KeptDocument) (d : Document) (node : NodeId) (key : ℕ) → IsDocument kept d → kept.body ≡ Some node.0
    → passes_list (normal_value kept.tree node.0 UsedKeyList) key ≡ passes key d
unfolding passes
passes_by kept d node key k body =
    let p = parts_of_kept kept d k in
    sym (ap (λ (b : Option ℕ). option_map_or (λ n. passes_list (normal_value d.tree n UsedKeyList) key) b false) (sym p.body ∙ body)
    ∙ ap (λ (tree : StyledTree). passes_list (normal_value tree node.0 UsedKeyList) key) (sym p.tree))

pub passes_none : (kept : KeptDocument) (d : Document) (key : ℕ) → IsDocument kept d → kept.body ≡ None → false ≡ passes key d
unfolding passes
passes_none kept d key k body =
    let p = parts_of_kept kept d k in
    sym (ap (λ (b : Option ℕ). option_map_or (λ n. passes_list (normal_value d.tree n UsedKeyList) key) b false) (sym p.body ∙ body))

-- only how many values the styles worked out and owe was changed
still_document : (old middle : KeptDocument) (d : Document) → middle ≡ record old { worked = middle.worked; owed = middle.owed } → IsDocument old d → IsDocument middle d
still_document old middle d same k =
    let p = parts_of_kept old d k in
    subst (λ (x : KeptDocument). IsDocument x d) (sym same) (kept_of_parts (record old { worked = middle.worked; owed = middle.owed }) d k.programs (record {
      path = p.path;
      tree = p.tree;
      items = p.items;
      queue = p.queue;
      handlers = p.handlers;
      globals = p.globals;
      heap = p.heap;
      body = p.body;
    }))

still_scene : (old middle : KeptDocument) (s : Scene) → middle ≡ record old { worked = middle.worked; owed = middle.owed } → IsScene old s → IsScene middle s
still_scene old middle s same k = record {
  is = still_document old middle s.document same k.is;
  lent_is = ap (λ (x : KeptDocument). x.lent) same ∙ k.lent_is;
  now_is = ap (λ (x : KeptDocument). x.now) same ∙ k.now_is;
  modules = subst (λ (m : ModulesState). StandsFor m s.modules) (sym (ap (λ (x : KeptDocument). x.modules) same)) k.modules;
}

pub does_still : (effect : Scene → Effect) (old middle new : KeptDocument) (before after : List ℕ) → middle ≡ record old { worked = middle.worked; owed = middle.owed } → DoesApart effect middle new before after → DoesApart effect old new before after
does_still effect old middle new before after same x modules =
    let y = x modules in
    record {
      text = y.text;
      printed = y.printed;
      does = λ s k. y.does s (still_scene (lent_modules modules old) (lent_modules modules middle) s (ap (lent_modules modules) same) k);
    }

-- whatever modules it is lent, it is the same document
of_lent : (modules : ModulesState) (old : KeptDocument) (d : Document) → IsDocument (lent_modules modules old) d → IsDocument old d
of_lent modules old d k =
    let p = parts_of_kept (lent_modules modules old) d k in
    kept_of_parts old d k.programs (record {
      path = p.path;
      tree = p.tree;
      items = p.items;
      queue = p.queue;
      handlers = p.handlers;
      globals = p.globals;
      heap = p.heap;
      body = p.body;
    })

-- ---- what a document is told

-- what is posted of it, behind which the text is given
pub gives_posted : {T E : Type 0} (r : Result T E) (notice : Notice) (old : KeptDocument) (stage first last given : StageState) (modules : ModulesState) (programs : List ToldProgram) (handlers : List HandlerState) (globals : List (List ℕ × Value)) (heap : List ObjectState) (body : Option NodeId) (before after : List ℕ)
    → kept_in stage modules programs handlers globals heap body ≡ old
    → first.acting ≡ record stage.acting { event = no_event; launched = None; text = [] }
    → last.acting ≡ with_notice notice first.acting
    → OnOk r (given.acting ≡ record last.acting { text = [] })
    → OnOk r (after ≡ before ++ last.acting.text)
    → OnOk r (DoesApart (post_effect notice) old (kept_in given modules programs handlers globals heap body) before after)
unfolding due_effect
gives_posted r (notices.Key key down) old stage first last given modules programs handlers globals heap body before after is begins becomes left printed =
    gives_apart r (key_posts down key) old stage first last given modules programs handlers globals heap body before after is begins becomes (key_posts-stays down key) left printed
gives_posted r (notices.Message component message) old stage first last given modules programs handlers globals heap body before after is begins becomes left printed =
    gives_apart r (message_posts component message.now) old stage first last given modules programs handlers globals heap body before after is begins becomes (message_posts-stays component message.now) left printed
gives_posted r (notices.Change component change) old stage first last given modules programs handlers globals heap body before after is begins becomes left printed =
    gives_apart r (change_posts component change.now) old stage first last given modules programs handlers globals heap body before after is begins becomes (change_posts-stays component change.now) left printed
gives_posted r (notices.Moment moment) old stage first last given modules programs handlers globals heap body before after is begins becomes left printed =
    gives_later r moment (with_due_events moment) old stage first last given modules programs handlers globals heap body before after is begins becomes (due_posted-stays moment) left printed

-- it comes to the document or not
told_or_not : (notice : Notice) (s : Scene) → notice_effect notice s ≡ (if takes notice s.document then post_effect notice s else no_effect s)
unfolding key_effect message_effect change_effect
told_or_not (notices.Key key down) s = refl
told_or_not (notices.Message component message) s = refl
told_or_not (notices.Change component change) s = refl
told_or_not (notices.Moment moment) s = refl

pub does_notice : (notice : Notice) (taken : Bool) (old new : KeptDocument) (before after : List ℕ) → ((d : Document) → IsDocument old d → taken ≡ takes notice d) → DoesApart (λ s. if taken then post_effect notice s else no_effect s) old new before after
    → DoesApart (notice_effect notice) old new before after
does_notice notice taken old new before after is x modules =
    does_as (λ s. if taken then post_effect notice s else no_effect s) (notice_effect notice) (lent_modules modules old) (lent_modules modules new) before after
    (λ s k. told_or_not notice s ∙ ap (λ (b : Bool). if b then post_effect notice s else no_effect s) (sym (is s.document (of_lent modules old s.document k.is)))) (x modules)
