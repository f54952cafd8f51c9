-- What calls of a page come to where a data event waits, and what follows of one.
use Rattle.std.proofs.Common.{◌≡◌, ◌∙◌, ℕ, Bool, true, false, cond, List, [], ◌++◌, refl, sym, ap, ap₂, subst, append-nil}
use Rattle.std.specs.Prelude.{◌||◌, Option, Some, None}
use Rattle.std.specs.Option.{option_map_or, option_or}
use Rattle.carousel_blocks.specs.DataEvents.{data_event}
use Rattle.browser_objects.specs.Calls.{BrowserParts, without_document}
use Rattle.document_stages.specs.Acting.{change_posts}
use Rattle.module_locks.specs.Standing.{ModulesState}
use Rattle.module_store.specs.Lines.{line_of_change}
use Rattle.acting_documents.specs.Beginnings.{data_event_effect}
use Rattle.acting_documents.specs.Documents.{Document}
use Rattle.acting_documents.specs.Handling.{change_effect}
use Rattle.acting_documents.specs.devices.Kept.{KeptDocument}
use Rattle.acting_documents.specs.Runs.{Scene, no_effect}
use Rattle.page.specs.devices.Acts.{Ends}
use Rattle.page.specs.Dispatches.{data_event_step, dispatch, next_data_event, next_event, next_load}
use Rattle.page.specs.Inputs.{change_step, document_step, with_data_event}
use Rattle.page.specs.Standing.{EndsDocument, HasMadeOf, MayMake, PageState, behind_end, memory_of}
use Rattle.page.specs.State.{State, Step, ends_for_data_event, scene_in, step_behind, step_of, still}
use Rattle.page.specs.State.Wanted.{StartDocument}
use Rattle.page.specs.declared.loading.Loading.TheVariants as kept
use Rattle.page.proofs.FollowLemmas.{data-event-follows, reached_later}
use Rattle.page.proofs.MemoryLaws.{truly_later}
use Rattle.page.proofs.PageLaws.{document_there, given_back_as, lent_by, none_there, scene_of, with_loading}

-- ---- steps

-- no data event waits any more
abbrev behind_event : State → State
behind_event s = record s { data_event = false }

event_waits : (s : State) → s.data_event ≡ true → next_data_event s ≡ Some (data_event_step (behind_event s))
event_waits s e = ap (λ (b : Bool). cond b (Some (data_event_step (behind_event s))) None) e

-- the step of a data event in a document, or without one
abbrev step_in : State → Option Document → Step
step_in s document = option_map_or (λ d. ends_for_data_event s (scene_in s d)) document (still (record s { wanted = StartDocument }))

step_there : (s : State) (document : Option Document) → s.data_event ≡ true → s.document ≡ document → next_data_event s ≡ Some (step_in (behind_event s) document)
step_there s document waits e = event_waits s waits ∙ ap (λ (o : Option Document). Some (step_in (behind_event s) o)) e

-- ---- the page

-- no data event waits for it any more
abbrev pub unwaiting : PageState → PageState
unwaiting page = record page { data_event = false }

none_ended : (modules : ModulesState) (page : PageState) (before : List ℕ) → page.data_event ≡ true → page.document ≡ None → MayMake true modules modules next_data_event page (with_loading kept.Start (unwaiting page)) before before
none_ended modules page before waits is = record {
  text = [];
  printed = sym (append-nil before);
  makes = λ s stands.
      let none = none_there page s is stands.document in
      subst (HasMadeOf true (with_loading kept.Start (unwaiting page)) modules [] s)
      (sym (step_there s None (sym stands.data_event ∙ waits) none)) (record {
        stands = record {
          modules_are = stands.modules_are;
          reader = stands.reader;
          document = stands.document;
          wanted = refl;
          data_event = refl;
          current = tt;
          clock = stands.clock;
          browser = stands.browser;
          happened = stands.happened;
          reached = stands.reached;
          truly = stands.truly;
        };
        text_is = refl;
      });
}

one_ended : (lent given_back : ModulesState) (page : PageState) (k : KeptDocument) (browser : BrowserParts) (before after : List ℕ) → page.data_event ≡ true → page.document ≡ Some k
    → Ends data_event_effect page.clock k (lent_by page lent) (record { browser = browser; modules = given_back }) before after
    → MayMake true lent given_back next_data_event page (with_loading kept.Start (behind_end browser (unwaiting page))) before after
one_ended lent given_back page k browser before after waits is ends = record {
  text = ends.text;
  printed = ends.printed;
  makes = λ s stands.
      let there = document_there page s k is stands.document in
      let scene = scene_in s there.0 in
      let ended = ends.ends scene (scene_of page lent [] s k there.0 stands there.2) in
      let follows = data-event-follows scene in
      let e = data_event_effect scene in
      subst (HasMadeOf true (with_loading kept.Start (behind_end browser (unwaiting page))) given_back ends.text s)
      (sym (step_there s (Some there.0) (sym stands.data_event ∙ waits) there.1)) (record {
        stands = record {
          modules_are = ended.modules;
          reader = stands.reader;
          document = tt;
          wanted = refl;
          data_event = refl;
          current = tt;
          clock = stands.clock;
          browser = ap without_document ended.browser_is;
          happened = stands.happened ++ follows.more;
          reached = reached_later s.modules e.scene.modules stands.happened stands.reached follows;
          truly = truly_later stands.happened follows.more (memory_of page) stands.truly;
        };
        text_is = ended.text_is;
      });
}

-- the document ended, where there was one, and the start document is wanted
pub event_handled : (lent given_back : ModulesState) (old page ended : PageState) (before after : List ℕ) → page ≡ old → page.data_event ≡ true → EndsDocument lent given_back page.document (unwaiting page) ended before after
    → MayMake true lent given_back next_data_event old (with_loading kept.Start ended) before after
event_handled lent given_back old page ended before after view waits ends =
    subst (λ (p : PageState). MayMake true lent given_back next_data_event p (with_loading kept.Start ended) before after) view (by page.document refl ends)
  where
    by : (o : Option KeptDocument) → page.document ≡ o → EndsDocument lent given_back o (unwaiting page) ended before after → MayMake true lent given_back next_data_event page (with_loading kept.Start ended) before after
    by None is ends =
        subst (λ (p : PageState). MayMake true lent given_back next_data_event page (with_loading kept.Start p) before after) (sym ends.0)
        (subst (λ (l : List ℕ). MayMake true lent given_back next_data_event page (with_loading kept.Start (unwaiting page)) before l) (sym ends.1)
        (given_back_as true lent given_back next_data_event page (with_loading kept.Start (unwaiting page)) before before ends.2
        (none_ended lent page before waits is)))
    by (Some k) is ends =
        subst (λ (p : PageState). MayMake true lent given_back next_data_event page (with_loading kept.Start p) before after) (sym ends.2)
        (one_ended lent given_back page k ends.0 before after waits is ends.1)

-- ---- the end of the document

pub ends_one : (lent given_back : ModulesState) (old page new : PageState) (k : KeptDocument) (browser : BrowserParts) (before after : List ℕ) → page ≡ old → page.document ≡ Some k
    → Ends data_event_effect page.clock k (lent_by page lent) (record { browser = browser; modules = given_back }) before after → new ≡ behind_end browser page → EndsDocument lent given_back old.document old new before after
ends_one lent given_back old page new k browser before after view is ends same =
    subst (λ (p : PageState). EndsDocument lent given_back p.document p new before after) view
    (subst (λ (o : Option KeptDocument). EndsDocument lent given_back o page new before after) (sym is) (browser, ends, same))

-- ---- the law

-- the change of a data event has neither a status nor a lock
nothing_posted : (component before after : ℕ) (s : Scene) → change_effect component (data_event before after) s ≡ no_effect s
unfolding change_effect change_posts
nothing_posted component before after s = refl

told_nothing : (component before after : ℕ) (s : State) → document_step (change_effect component (data_event before after)) s ≡ still s
told_nothing component before after s = by s.document refl
  where
    by : (o : Option Document) → s.document ≡ o → option_map_or (λ d. step_of s (change_effect component (data_event before after) (scene_in s d))) o (still s) ≡ still s
    by None e = refl
    by (Some d) e =
        ap (step_of s) (nothing_posted component before after (scene_in s d))
        ∙ ap (λ (o : Option Document). still (record s { document = o })) (sym e)

always : (b : Bool) → (b || true) ≡ true
always true = refl
always false = refl

-- the state with or without a data event, behind this text
abbrev told_in : State → Bool → List ℕ → Step
told_in s waits text = record { state = record s { data_event = waits }; text = text }

pub event_posted : (component before after : ℕ) (s : State) → change_step component (data_event before after) s ≡ told_in s true (line_of_change component (data_event before after))
event_posted component before after s =
    let change = data_event before after in
    let line = line_of_change component change in
    ap (step_behind line) (told_nothing component before after (with_data_event change s))
    ∙ ap₂ (told_in s) (always s.data_event) (append-nil line)

pub event_comes_first : (s : State) → s.data_event ≡ true → dispatch s ≡ Some (data_event_step (behind_event s))
unfolding dispatch
event_comes_first s e = ap (λ (o : Option Step). option_or o (option_or (next_load s) (next_event s))) (event_waits s e)

-- what such a step leaves
pub record Leaves (t : Step) : Type 0 where
  pub waits : t.state.data_event ≡ false
  pub document : t.state.document ≡ None
  pub wanted : t.state.wanted ≡ StartDocument

event_leaves : (s : State) → Leaves (data_event_step (behind_event s))
event_leaves s = by s.document refl
  where
    by : (o : Option Document) → s.document ≡ o → Leaves (step_in (behind_event s) o)
    by None e = record { waits = refl; document = e; wanted = refl }
    by (Some d) e = record { waits = refl; document = refl; wanted = refl }

pub event_left : (s : State) (t : Step) → s.data_event ≡ true → dispatch s ≡ Some t → Leaves t
event_left s t waits e =
    let same : data_event_step (behind_event s) ≡ t = cc (event_comes_first s waits, e) in
    subst (λ (t : Step). Leaves t) same (event_leaves s)
