-- What calls of a page come to, whatever state it is in.
use Rattle.std.proofs.Common.{◌≡◌, ◌∙◌, ℕ, ◌+◌, ◌<◌, ◌≤◌, suc, Bool, true, false, cond, List, [], ◌∷◌, ◌++◌, length, drop, refl, sym, ap, ap₂, subst, append_assoc, append-nil, arith}
use Rattle.std.specs.Prelude.{zero, ◌||◌, Option, Some, None, IfOk, OnOk, is_err, option_map, option_and_then, Result, Ok, Err, option_to_list}
use Rattle.std.specs.Option.{option_map_or, option_or}
use Rattle.std.specs.Io.{StartsWith}
use Rattle.std.proofs.lemmas.List.{take-append-drop}
use Rattle.bml_reader.specs.declared.faults.DocFault.{DocFault}
use Rattle.carousel_blocks.specs.DataEvents.{is_data_event}
use Rattle.carousel_blocks.specs.declared.changes.Change.{Change}
use Rattle.browser_objects.specs.Calls.{BrowserParts, without_document}
use Rattle.display_list.specs.Show.{clock_line}
use Rattle.document_load.specs.Drafts.{DraftState}
use Rattle.event_queue.specs.Queues.{first_of}
use Rattle.event_queue.specs.declared.events.Event.{Event}
use Rattle.module_locks.specs.Locks.{Modules, start_path}
use Rattle.module_locks.specs.Standing.{ModulesState}
use Rattle.module_store.specs.Lines.{line_of_change}
use Rattle.multipart_entities.specs.declared.paths.Path.{Path}
use Rattle.acting_documents.specs.Beginnings.{load_effect, unload_effect}
use Rattle.acting_documents.specs.Documents.{Document, document_lines}
use Rattle.acting_documents.specs.devices.Doings.{IsScene}
use Rattle.acting_documents.specs.Handling.{change_effect, due_effect, event_effect, without_first}
use Rattle.acting_documents.specs.devices.Kept.{IsDocument, KeptDocument}
use Rattle.acting_documents.specs.Runs.{Effect, Scene}
use Rattle.page.specs.devices.Acts.{Acts, ActsApart, HasActed, HasStayed, Lent, with_lent}
use Rattle.page.specs.Dispatches.{data_event_step, dispatch, dispatches, event_in, load_at, most_dispatches, next_and, next_data_event, next_event, next_load, turn}
use Rattle.page.specs.Inputs.{change_step, display_of, document_step, due_step, told_step, with_clock, with_data_event}
use Rattle.page.specs.Loading.{load, loadable_reading, document_of_draft, wanted_path}
use Rattle.page.specs.Remembering.{Loaded, loaded_as, loaded_at, loads_behind, loads_in, loads_of_turn, wanted_loaded}
use Rattle.page.specs.devices.Memories.{MemoryState, RemembersBehind, RemembersTruly}
use Rattle.page.specs.devices.Pendings.{Loads, MayLoad, loading_behind, wanted_at, wanted_of}
use Rattle.page.specs.Standing.{AreDocuments, Begins, HasMade, HasMadeAmid, HasMadeOf, IsAlone, Makes, MakesAmid, MakesWith, MayMake, PageState, Posts, StandsAmid, StandsFor, TakesLoad, behind_launch, page_owed, with_document, Remembers, RemembersLoads, RemembersStill, memory_of, next_loads, wanted_loads}
use Rattle.page.specs.State.{State, Step, Wanted, scene_in, stays_or_goes, step_behind, step_of, still}
use Rattle.page.specs.State.Wanted.{NoDocument}
use Rattle.page.specs.declared.loading.Load.{Load}
use Rattle.page.specs.declared.loading.Load.TheVariants as came
use Rattle.page.specs.declared.loading.Loading.{Loading}
use Rattle.page.specs.declared.loading.Loading.TheVariants as kept
use Rattle.page.proofs.FollowLemmas.{Follows, follows_on, handled-follows, load-follows, reached_later, unload-follows}
use Rattle.page.proofs.MemoryLaws.{remembers_both, remembers_none, truly_later}
use Rattle.page.proofs.StandingLaws.{behind_change, nothing_read, stands_followed}

-- ---- pages that differ in what stands for no part of a state

abbrev pub with_spent : Bool → PageState → PageState
with_spent spent page = record page { spent = spent }

spent_stands : (page : PageState) (spent : Bool) (modules : ModulesState) (changes : List (ℕ × Change)) (s : State) → StandsAmid page modules changes s → StandsAmid (with_spent spent page) modules changes s
spent_stands page spent modules changes s stands = record {
  modules_are = stands.modules_are;
  reader = stands.reader;
  document = stands.document;
  wanted = stands.wanted;
  data_event = stands.data_event;
  current = stands.current;
  clock = stands.clock;
  browser = stands.browser;
  happened = stands.happened;
  reached = stands.reached;
  truly = stands.truly;
}

pub makes_spent : (step : State → Step) (old new : PageState) (before after : List ℕ) (spent : Bool) → Makes step old new before after → Makes step old (with_spent spent new) before after
makes_spent step old new before after spent made = record {
  text = made.text;
  printed = made.printed;
  makes = λ modules s stands.
      let has = made.makes modules s stands in
      record { stands = spent_stands new spent modules [] (step s).state has.stands; text_is = has.text_is };
}

-- the same of a call that spends the page where it found no memory
pub makes_after : {A E : Type 0} (step : State → Step) (old page now : PageState) (before after : List ℕ) (called result : Result A E) → OnOk called (Makes step old page before after) → result ≡ called → now ≡ with_spent (is_err called) page
    → OnOk result (Makes step old now before after)
makes_after {A} {E} step old page now before after (Err fault) result made same spent = subst (λ (r : Result A E). OnOk r (Makes step old now before after)) (sym same) tt
makes_after {A} {E} step old page now before after (Ok done) result made same spent =
    subst (λ (r : Result A E). OnOk r (Makes step old now before after)) (sym same) (subst (λ (p : PageState). Makes step old p before after) (sym spent) (makes_spent step old page before after false made))

-- the same of a turn
pub turned_after : {A E : Type 0} (lent given_back : ModulesState) (old page now : PageState) (before after : List ℕ) (called result : Result A E) → OnOk called (MakesWith lent given_back turn old page before after) → result ≡ called → now ≡ with_spent (is_err called) page
    → OnOk result (MakesWith lent given_back turn old now before after)
turned_after {A} {E} lent given_back old page now before after (Err fault) result made same spent = subst (λ (r : Result A E). OnOk r (MakesWith lent given_back turn old now before after)) (sym same) tt
turned_after {A} {E} lent given_back old page now before after (Ok done) result made same spent =
    subst (λ (r : Result A E). OnOk r (MakesWith lent given_back turn old now before after)) (sym same) (subst (λ (p : PageState). MakesWith lent given_back turn old p before after) (sym spent) (record {
      text = made.text;
      printed = made.printed;
      makes = λ s stands.
          let has = made.makes s stands in
          record { stands = spent_stands page false given_back [] (turn s).state has.stands; text_is = has.text_is };
    }))

-- ---- the document of a page

-- where one is there, none is wanted
pub alone : (document : Option KeptDocument) (loading : Loading) (k : KeptDocument) → document ≡ Some k → IsAlone document loading → loading ≡ kept.Nothing
alone document loading k is is_alone = subst (λ (o : Option KeptDocument). IsAlone o loading) is is_alone

abbrev pub with_loading : Loading → PageState → PageState
with_loading loading page = record page { loading = loading }

abbrev pub with_memory : MemoryState → PageState → PageState
with_memory memory page = record page { remembered = memory.remembered; hits = memory.hits; entries = memory.entries }

-- where a document is kept, it is that of the state
pub document_there : (page : PageState) (s : State) (k : KeptDocument) → page.document ≡ Some k → AreDocuments page.document s.document → (d : Document) × (s.document ≡ Some d) × IsDocument k d
document_there page s k is are = by s.document refl (subst (λ (x : Option KeptDocument). AreDocuments x s.document) is are)
  where
    by : (o : Option Document) → s.document ≡ o → AreDocuments (Some k) o → (d : Document) × (s.document ≡ Some d) × IsDocument k d
    by None e are = absurd are
    by (Some d) e are = (d, e, are)

pub none_there : (page : PageState) (s : State) → page.document ≡ None → AreDocuments page.document s.document → s.document ≡ None
none_there page s is are = by s.document refl (subst (λ (x : Option KeptDocument). AreDocuments x s.document) is are)
  where
    by : (o : Option Document) → s.document ≡ o → AreDocuments None o → s.document ≡ None
    by None e are = e
    by (Some d) e are = absurd are

-- what stands behind the same front is the same
same_behind : (front one other : List ℕ) → front ++ one ≡ front ++ other → one ≡ other
same_behind [] one other e = e
same_behind (x ∷ front) one other e = same_behind front one other cc

-- ---- what documents do

-- what a document is lent of a page
abbrev pub lent_by : PageState → ModulesState → Lent
lent_by page modules = record { browser = page.browser; modules = modules }

-- the document that is lent it is that of the state, with what it acts on
pub scene_of : (page : PageState) (modules : ModulesState) (changes : List (ℕ × Change)) (s : State) (k : KeptDocument) (d : Document) → StandsAmid page modules changes s → IsDocument k d → IsScene (with_lent k (lent_by page modules) page.clock) (scene_in s d)
scene_of page modules changes s k d stands is = record {
  is = record { programs = is.programs; others = ap (λ (x : KeptDocument). with_lent x (lent_by page modules) page.clock) is.others };
  lent_is = stands.browser;
  now_is = stands.clock;
  modules = stands.modules_are;
}

-- the page behind what its document did where it launched none, amid changes that are still to be posted
stayed_amid : (page : PageState) (lent given_back : ModulesState) (changes : List (ℕ × Change)) (s : State) (k : KeptDocument) (browser : BrowserParts) (text : List ℕ) (e : Effect) → page.loading ≡ kept.Nothing → Follows s.modules e.scene.modules → StandsAmid page lent changes s
    → HasStayed k (record { browser = browser; modules = given_back }) text e → HasMadeAmid (with_document k browser page) given_back changes text (step_of s e)
stayed_amid page lent given_back changes s k browser text e none follows stands stayed =
    subst (λ (o : Option Path). HasMadeAmid (with_document k browser page) given_back changes text (step_behind e.text (stays_or_goes o s e.scene))) (sym stayed.launched_is) (record {
      stands = record {
        modules_are = stayed.modules;
        reader = stands.reader;
        document = stayed.is;
        wanted = stands.wanted;
        data_event = stands.data_event;
        current = nothing_read page e.scene.modules changes none;
        clock = stands.clock;
        browser = stayed.browser_is;
        happened = stands.happened ++ follows.more;
        reached = reached_later s.modules e.scene.modules stands.happened stands.reached follows;
        truly = truly_later stands.happened follows.more (memory_of page) stands.truly;
      };
      text_is = stayed.text_is ∙ sym (append-nil e.text);
    })

-- the page behind what its document did, and launched or not
pub made_of : (launched : Option Path) (page : PageState) (lent given_back : ModulesState) (s : State) (k : KeptDocument) (browser : BrowserParts) (text : List ℕ) (e : Effect) → page.loading ≡ kept.Nothing → Follows s.modules e.scene.modules → StandsFor page lent s
    → HasActed launched k (record { browser = browser; modules = given_back }) text e → HasMade (behind_launch launched (with_document k browser page)) given_back text (step_of s e)
made_of None page lent given_back s k browser text e none follows stands acted =
    let made = stayed_amid page lent given_back [] s k browser text e none follows stands acted in
    record { stands = made.stands; text_is = made.text_is }
made_of (Some path) page lent given_back s k browser text e none follows stands acted =
    let gone = follows_on s.modules e.scene.modules (unload_effect e.scene).scene.modules follows (unload-follows e.scene) in
    subst (λ (o : Option Path). HasMade (behind_launch (Some path) (with_document k browser page)) given_back text (step_behind e.text (stays_or_goes o s e.scene))) (sym acted.launched_is) (record {
      stands = record {
        modules_are = acted.modules;
        reader = stands.reader;
        document = tt;
        wanted = refl;
        data_event = stands.data_event;
        current = tt;
        clock = stands.clock;
        browser = ap without_document acted.browser_is;
        happened = stands.happened ++ gone.more;
        reached = reached_later s.modules (unload_effect e.scene).scene.modules stands.happened stands.reached gone;
        truly = truly_later stands.happened gone.more (memory_of page) stands.truly;
      };
      text_is = acted.text_is;
    })

-- what a document prints is the same whatever modules it is lent
same_text : (effect : Scene → Effect) (now : ℕ) (k new : KeptDocument) (lent given_back : BrowserParts) (before after : List ℕ) (acts : ActsApart effect now k new lent given_back before after) (one other : ModulesState) → (acts one).text ≡ (acts other).text
same_text effect now k new lent given_back before after acts one other = same_behind before (acts one).text (acts other).text (sym (acts one).printed ∙ (acts other).printed)

-- the page behind what its document did apart from the modules
stayed_apart : (effect : Scene → Effect) (page : PageState) (k new : KeptDocument) (browser : BrowserParts) (before after : List ℕ) (acts : ActsApart effect page.clock k new page.browser browser before after) (follows : (s : Scene) → Follows s.modules (effect s).scene.modules)
    (modules : ModulesState) (changes : List (ℕ × Change)) (s : State) (d : Document) → page.loading ≡ kept.Nothing → StandsAmid page modules changes s → IsDocument k d
    → HasMadeAmid (with_document new browser page) modules changes (acts k.modules).text (step_of s (effect (scene_in s d)))
stayed_apart effect page k new browser before after acts follows modules changes s d none stands is =
    stayed_amid page modules modules changes s new browser (acts k.modules).text (effect (scene_in s d)) none (follows (scene_in s d)) stands
    (subst (λ (l : List ℕ). HasStayed new (record { browser = browser; modules = modules }) l (effect (scene_in s d))) (same_text effect page.clock k new page.browser browser before after acts modules k.modules)
    ((acts modules).acts (scene_in s d) (scene_of page modules changes s k d stands is)))

document_with : (effect : Scene → Effect) (s : State) (d : Document) → s.document ≡ Some d → document_step effect s ≡ step_of s (effect (scene_in s d))
document_with effect s d e = ap (λ (o : Option Document). option_map_or (λ d. step_of s (effect (scene_in s d))) o (still s)) e

pub document_made : (effect : Scene → Effect) (page : PageState) (k new : KeptDocument) (browser : BrowserParts) (before after : List ℕ) → page.document ≡ Some k → page.loading ≡ kept.Nothing → ((s : Scene) → Follows s.modules (effect s).scene.modules)
    → ActsApart effect page.clock k new page.browser browser before after → MakesAmid (document_step effect) page (with_document new browser page) before after
document_made effect page k new browser before after is none follows acts = record {
  text = (acts k.modules).text;
  printed = (acts k.modules).printed;
  makes = λ modules changes s stands.
      let there = document_there page s k is stands.document in
      subst (HasMadeAmid (with_document new browser page) modules changes (acts k.modules).text) (sym (document_with effect s there.0 there.1))
      (stayed_apart effect page k new browser before after acts follows modules changes s there.0 none stands there.2);
}

-- what is made amid changes is made where there are none
makes_alone : (step : State → Step) (old new : PageState) (before after : List ℕ) → MakesAmid step old new before after → Makes step old new before after
makes_alone step old new before after made = record {
  text = made.text;
  printed = made.printed;
  makes = λ modules s stands.
      let has = made.makes modules [] s stands in
      record { stands = has.stands; text_is = has.text_is };
}

-- what is done by a call that may find no memory
pub done_as : {A E : Type 0} (effect : Scene → Effect) (old page new : PageState) (k document : KeptDocument) (browser : BrowserParts) (before after : List ℕ) (result : Result A E) → page ≡ old → page.document ≡ Some k → page.loading ≡ kept.Nothing → ((s : Scene) → Follows s.modules (effect s).scene.modules)
    → new ≡ with_document document browser page → OnOk result (ActsApart effect page.clock k document page.browser browser before after) → OnOk result (MakesAmid (document_step effect) old new before after)
done_as effect old page new k document browser before after (Err fault) view is none follows same acts = tt
done_as effect old page new k document browser before after (Ok done) view is none follows same acts =
    subst (λ (p : PageState). MakesAmid (document_step effect) p new before after) view
    (subst (λ (p : PageState). MakesAmid (document_step effect) page p before after) (sym same)
    (document_made effect page k document browser before after is none follows acts))

-- what the document does in a call that spends the page where it found no memory
pub told_after : {A E : Type 0} (effect : Scene → Effect) (old page now : PageState) (before after : List ℕ) (called result : Result A E) → OnOk called (MakesAmid (document_step effect) old page before after) → result ≡ called → now ≡ with_spent (is_err called) page
    → OnOk result (Makes (document_step effect) old now before after)
told_after effect old page now before after (Err fault) result made same spent = makes_after (document_step effect) old page now before after (Err fault) result tt same spent
told_after effect old page now before after (Ok done) result made same spent =
    makes_after (document_step effect) old page now before after (Ok done) result (makes_alone (document_step effect) old page before after made) same spent

-- nothing is told where there is no document
pub told_none : (effect : Scene → Effect) (old page new : PageState) (before : List ℕ) → page ≡ old → page.document ≡ None → new ≡ page → MakesAmid (document_step effect) old new before before
told_none effect old page new before view is same =
    subst (λ (p : PageState). MakesAmid (document_step effect) p new before before) view (subst (λ (p : PageState). MakesAmid (document_step effect) page p before before) (sym same) (record {
      text = [];
      printed = sym (append-nil before);
      makes = λ modules changes s stands.
          subst (HasMadeAmid page modules changes []) (sym (ap (λ (o : Option Document). option_map_or (λ d. step_of s (effect (scene_in s d))) o (still s)) (none_there page s is stands.document)))
          (record { stands = stands; text_is = refl });
    }))

-- ---- moments

-- the clock moves behind what a document does as it moves before
clock_moved : (moment : ℕ) (page : PageState) (modules : ModulesState) (text : List ℕ) (s : State) (e : Effect) → HasMadeAmid page modules [] text (step_of s e) → HasMade (record page { clock = moment }) modules text (step_of (with_clock moment s) e)
clock_moved moment page modules text s e has = by e.launched has
  where
    by : (o : Option Path) → HasMadeAmid page modules [] text (step_behind e.text (stays_or_goes o s e.scene)) → HasMade (record page { clock = moment }) modules text (step_behind e.text (stays_or_goes o (with_clock moment s) e.scene))
    by None has = record {
      stands = record {
        modules_are = has.stands.modules_are;
        reader = has.stands.reader;
        document = has.stands.document;
        wanted = has.stands.wanted;
        data_event = has.stands.data_event;
        current = has.stands.current;
        clock = refl;
        browser = has.stands.browser;
        happened = has.stands.happened;
        reached = has.stands.reached;
        truly = has.stands.truly;
      };
      text_is = has.text_is;
    }
    by (Some path) has = record {
      stands = record {
        modules_are = has.stands.modules_are;
        reader = has.stands.reader;
        document = has.stands.document;
        wanted = has.stands.wanted;
        data_event = has.stands.data_event;
        current = has.stands.current;
        clock = refl;
        browser = has.stands.browser;
        happened = has.stands.happened;
        reached = has.stands.reached;
        truly = has.stands.truly;
      };
      text_is = has.text_is;
    }

-- the clock moves behind what the document does, where there is one
pub moved : (moment : ℕ) (old page : PageState) (before after : List ℕ) → MakesAmid (document_step (due_effect moment)) old page before after → Makes (due_step moment) old (record page { clock = moment }) before after
moved moment old page before after made = record {
  text = made.text;
  printed = made.printed;
  makes = λ modules s stands. by modules s s.document (made.makes modules [] s stands);
}
  where
    by : (modules : ModulesState) (s : State) (o : Option Document) → HasMadeAmid page modules [] made.text (option_map_or (λ d. step_of s (due_effect moment (scene_in s d))) o (still s))
        → HasMade (record page { clock = moment }) modules made.text (option_map_or (λ d. step_of (with_clock moment s) (due_effect moment (scene_in s d))) o (still (with_clock moment s)))
    by modules s None has = record {
      stands = record {
        modules_are = has.stands.modules_are;
        reader = has.stands.reader;
        document = has.stands.document;
        wanted = has.stands.wanted;
        data_event = has.stands.data_event;
        current = has.stands.current;
        clock = refl;
        browser = has.stands.browser;
        happened = has.stands.happened;
        reached = has.stands.reached;
        truly = has.stands.truly;
      };
      text_is = has.text_is;
    }
    by modules s (Some d) has = clock_moved moment page modules made.text s (due_effect moment (scene_in s d)) has

-- ---- changes in modules

-- their line is told, and then the document does what it does, by a call that may find no memory
pub change_as : {A E : Type 0} (component : ℕ) (change : Change) (old new : PageState) (before between after : List ℕ) (result : Result A E) → between ≡ before ++ line_of_change component change
    → OnOk result (MakesAmid (document_step (change_effect component change)) old new between after) → OnOk result (MakesAmid (told_step component change) old new before after)
change_as component change old new before between after (Err fault) printed made = tt
change_as component change old new before between after (Ok done) printed made =
    let line = line_of_change component change in
    record {
      text = line ++ made.text;
      printed = made.printed ∙ ap (λ (l : List ℕ). l ++ made.text) printed ∙ append_assoc before line made.text;
      makes = λ modules changes s stands.
          let has = made.makes modules changes s stands in
          record { stands = has.stands; text_is = ap (λ (l : List ℕ). line ++ l) has.text_is };
    }

-- a data event waits from its change on
abbrev pub with_event_noted : Change → PageState → PageState
with_event_noted change page = record page { data_event = page.data_event || is_data_event change }

noted_stands : (change : Change) (page : PageState) (modules : ModulesState) (changes : List (ℕ × Change)) (s : State) → StandsAmid page modules changes s → StandsAmid (with_event_noted change page) modules changes (with_data_event change s)
noted_stands change page modules changes s stands = record {
  modules_are = stands.modules_are;
  reader = stands.reader;
  document = stands.document;
  wanted = stands.wanted;
  data_event = ap (λ (b : Bool). b || is_data_event change) stands.data_event;
  current = stands.current;
  clock = stands.clock;
  browser = stands.browser;
  happened = stands.happened;
  reached = stands.reached;
  truly = stands.truly;
}

-- a change is followed and noted, and then told
posts_change : (component : ℕ) (change : Change) (page now : PageState) (before after : List ℕ) (spent : Bool) → MakesAmid (told_step component change) (with_event_noted change (behind_change component change page)) now before after
    → Posts ((component, change) ∷ []) page (with_spent spent now) before after
posts_change component change page now before after spent made = record {
  text = made.text;
  printed = made.printed;
  makes = λ modules changes s stands.
      let noted = noted_stands change (behind_change component change page) modules changes s (stands_followed component change changes page modules s stands) in
      let has = made.makes modules changes (with_data_event change s) noted in
      record {
        stands = spent_stands now spent modules changes (change_step component change s).state has.stands;
        text_is = has.text_is ∙ sym (append-nil (change_step component change s).text);
      };
}

-- the same of a call that spends the page where it found no memory
pub posts_after : {A E : Type 0} (component : ℕ) (change : Change) (old page noted told now : PageState) (loading : Loading) (before after : List ℕ) (called result : Result A E) → page ≡ old → loading ≡ loading_behind component change page.loading
    → noted ≡ with_event_noted change (with_loading loading page) → OnOk called (MakesAmid (told_step component change) noted told before after) → result ≡ called → now ≡ with_spent (is_err called) told → OnOk result (Posts ((component, change) ∷ []) old now before after)
posts_after {A} {E} component change old page noted told now loading before after (Err fault) result view follows notes made same spent =
    subst (λ (r : Result A E). OnOk r (Posts ((component, change) ∷ []) old now before after)) (sym same) tt
posts_after {A} {E} component change old page noted told now loading before after (Ok done) result view follows notes made same spent =
    subst (λ (r : Result A E). OnOk r (Posts ((component, change) ∷ []) old now before after)) (sym same)
    (subst (λ (p : PageState). Posts ((component, change) ∷ []) p now before after) view
    (subst (λ (p : PageState). Posts ((component, change) ∷ []) page p before after) (sym spent)
    (posts_change component change page told before after false
    (subst (λ (l : Loading). MakesAmid (told_step component change) (with_event_noted change (with_loading l page)) told before after) follows
    (subst (λ (p : PageState). MakesAmid (told_step component change) p told before after) notes made)))))

-- ---- what is shown

abbrev pub shown_step : State → Step
shown_step s = record { state = s; text = display_of s }

display_with : (s : State) (d : Option Document) → s.document ≡ d → display_of s ≡ clock_line s.clock ++ option_map_or document_lines d []
unfolding display_of
display_with s d e = ap (λ (o : Option Document). clock_line s.clock ++ option_map_or document_lines o []) e

pub shown_without : (page : PageState) (before after : List ℕ) → page.document ≡ None → after ≡ before ++ clock_line page.clock → Makes shown_step page page before after
shown_without page before after is printed = record {
  text = clock_line page.clock;
  printed = printed;
  makes = λ modules s stands. record {
    stands = stands;
    text_is = ap clock_line stands.clock ∙ sym (append-nil (clock_line s.clock)) ∙ sym (display_with s None (none_there page s is stands.document));
  };
}

rest_after : (longer front : List ℕ) → StartsWith longer front → longer ≡ front ++ drop (length front) longer
rest_after longer front starts = sym (take-append-drop (length front) longer) ∙ ap (λ (l : List ℕ). l ++ drop (length front) longer) starts

-- a document whose styles worked out more values, and owe others, is the same
abbrev pub with_worked : ℕ → ℕ → KeptDocument → KeptDocument
with_worked worked owed k = record k { worked = worked; owed = owed }

worked_is : (k : KeptDocument) (d : Document) (worked owed : ℕ) → IsDocument k d → IsDocument (with_worked worked owed k) d
worked_is k d worked owed is = record { programs = is.programs; others = ap (with_worked worked owed) is.others }

-- the document of a page that was shown
abbrev with_shown : KeptDocument → PageState → PageState
with_shown shown page = record page { document = Some shown; worked = shown.worked }

pub shown_with : (page : PageState) (k new : KeptDocument) (before between after : List ℕ) → page.document ≡ Some k → between ≡ before ++ clock_line page.clock
    → ((d : Document) → IsDocument k d → after ≡ between ++ document_lines d) → new ≡ with_worked new.worked new.owed k → StartsWith after between → Makes shown_step page (with_shown new page) before after
shown_with page k new before between after is printed shown same grows = record {
  text = clock_line page.clock ++ drop (length between) after;
  printed = rest_after after between grows ∙ ap (λ (l : List ℕ). l ++ drop (length between) after) printed ∙ append_assoc before (clock_line page.clock) (drop (length between) after);
  makes = λ modules s stands.
      let there = document_there page s k is stands.document in
      let lines = same_behind between (drop (length between) after) (document_lines there.0) (sym (rest_after after between grows) ∙ shown there.0 there.2) in
      record {
        stands = record {
          modules_are = stands.modules_are;
          reader = stands.reader;
          document = subst (AreDocuments (Some new)) (sym there.1) (subst (λ (x : KeptDocument). IsDocument x there.0) (sym same) (worked_is k there.0 new.worked new.owed there.2));
          wanted = stands.wanted;
          data_event = stands.data_event;
          current = stands.current;
          clock = stands.clock;
          browser = stands.browser;
          happened = stands.happened;
          reached = stands.reached;
          truly = stands.truly;
        };
        text_is = ap₂ (λ (a b : List ℕ). a ++ b) (ap clock_line stands.clock) lines ∙ sym (display_with s (Some there.0) there.1);
      };
}

pub displayed_without : {A E : Type 0} (old page new : PageState) (before after : List ℕ) (result : Result A E) → page ≡ old → page.document ≡ None → new ≡ page → after ≡ before ++ clock_line page.clock
    → OnOk result (Makes shown_step old new before after)
displayed_without old page new before after (Err fault) view is same printed = tt
displayed_without old page new before after (Ok done) view is same printed =
    subst (λ (p : PageState). Makes shown_step p new before after) view (subst (λ (p : PageState). Makes shown_step page p before after) (sym same) (shown_without page before after is printed))

displayed_as : {A E : Type 0} (old page new : PageState) (k shown : KeptDocument) (before between after : List ℕ) (result : Result A E) → page ≡ old → page.document ≡ Some k → new ≡ with_shown shown page
    → between ≡ before ++ clock_line page.clock → OnOk result ((d : Document) → IsDocument k d → after ≡ between ++ document_lines d) → shown ≡ with_worked shown.worked shown.owed k → StartsWith after between → OnOk result (Makes shown_step old new before after)
displayed_as old page new k shown before between after (Err fault) view is same printed lines changes grows = tt
displayed_as old page new k shown before between after (Ok done) view is same printed lines changes grows =
    subst (λ (p : PageState). Makes shown_step p new before after) view
    (subst (λ (p : PageState). Makes shown_step page p before after) (sym same) (shown_with page k shown before between after is printed lines changes grows))

pub displayed_with : {A E : Type 0} (old page new : PageState) (k shown : KeptDocument) (before between after left : List ℕ) (called result : Result A E) → page ≡ old → page.document ≡ Some k → new ≡ with_shown shown page
    → between ≡ before ++ clock_line page.clock → OnOk called ((d : Document) → IsDocument k d → after ≡ between ++ document_lines d) → shown ≡ with_worked shown.worked shown.owed k → StartsWith after between → left ≡ after → result ≡ called
    → OnOk result (Makes shown_step old new before left)
displayed_with {A} {E} old page new k shown before between after left called result view is same printed lines changes grows e called_is =
    subst (λ (r : Result A E). OnOk r (Makes shown_step old new before left)) (sym called_is)
    (subst (λ (l : List ℕ). OnOk called (Makes shown_step old new before l)) (sym e) (displayed_as old page new k shown before between after called view is same printed lines changes grows))

-- no more values are worked out than were owed

owed-with : (page : PageState) (k : KeptDocument) → page.document ≡ Some k → page_owed page ≡ k.owed
owed-with page k is = ap (λ (o : Option KeptDocument). option_map_or (λ d. d.owed) o 0) is

worked-with : (page : PageState) (k : KeptDocument) → page.worked ≡ option_map_or (λ d. d.worked) page.document 0 → page.document ≡ Some k → page.worked ≡ k.worked
worked-with page k working is = working ∙ ap (λ (o : Option KeptDocument). option_map_or (λ d. d.worked) o 0) is

pub worked-shown : (old page new : PageState) (k shown : KeptDocument) → page ≡ old → page.worked ≡ option_map_or (λ d. d.worked) page.document 0 → page.document ≡ Some k → new ≡ with_shown shown page → shown.worked ≤ k.worked + k.owed
    → new.worked ≤ old.worked + page_owed old
worked-shown old page new k shown view working is same least =
    let left : new.worked ≡ shown.worked = ap (λ (p : PageState). p.worked) same in
    let before : old.worked ≡ k.worked = ap (λ (p : PageState). p.worked) (sym view) ∙ worked-with page k working is in
    let owed : page_owed old ≡ k.owed = ap page_owed (sym view) ∙ owed-with page k is in
    omega arith

pub owed-shown : (old page new : PageState) (k shown : KeptDocument) → page ≡ old → page.worked ≡ option_map_or (λ d. d.worked) page.document 0 → page.document ≡ Some k → new ≡ with_shown shown page → shown.worked + shown.owed ≤ k.worked + k.owed
    → new.worked + page_owed new ≤ old.worked + page_owed old
owed-shown old page new k shown view working is same least =
    let left : new.worked ≡ shown.worked = ap (λ (p : PageState). p.worked) same in
    let owes : page_owed new ≡ shown.owed = ap page_owed same in
    let before : old.worked ≡ k.worked = ap (λ (p : PageState). p.worked) (sym view) ∙ worked-with page k working is in
    let owed : page_owed old ≡ k.owed = ap page_owed (sym view) ∙ owed-with page k is in
    omega arith

pub worked-still : (old page new : PageState) → page ≡ old → new ≡ page → new.worked ≤ old.worked + page_owed old
worked-still old page new view same =
    let left : new.worked ≡ old.worked = ap (λ (p : PageState). p.worked) (same ∙ view) in
    omega arith

pub owed-still : (old page new : PageState) → page ≡ old → new ≡ page → new.worked + page_owed new ≤ old.worked + page_owed old
owed-still old page new view same =
    let left : new.worked + page_owed new ≡ old.worked + page_owed old = ap (λ (p : PageState). p.worked + page_owed p) (same ∙ view) in
    omega arith

-- ---- events

event_there : (s : State) (d : Document) (event : Event) → s.document ≡ Some d → first_of d.queue ≡ Some event → next_event s ≡ Some (step_of s (event_effect event (without_first (scene_in s d))))
event_there s d event there first =
    ap (option_and_then (event_in s)) there ∙ ap (option_map (λ event. step_of s (event_effect event (without_first (scene_in s d))))) first

-- without its first event
abbrev pub queue_taken : KeptDocument → KeptDocument
queue_taken k = record k { queue = drop 1 k.queue }

abbrev taken_of : Document → Document
taken_of d = record d { queue = drop 1 d.queue }

taken_is : (k : KeptDocument) (d : Document) → IsDocument k d → IsDocument (queue_taken k) (taken_of d)
taken_is k d is = record { programs = is.programs; others = ap queue_taken is.others }

same_queue : (k : KeptDocument) (d : Document) → IsDocument k d → k.queue ≡ d.queue
same_queue k d is = ap (λ (x : KeptDocument). x.queue) is.others

event_made : (event : Event) (launched : Option Path) (lent given_back : ModulesState) (page : PageState) (k new : KeptDocument) (browser : BrowserParts) (before after : List ℕ) → page.document ≡ Some k → page.loading ≡ kept.Nothing → first_of k.queue ≡ Some event
    → Acts (event_effect event) launched page.clock (queue_taken k) new (lent_by page lent) (record { browser = browser; modules = given_back }) before after → MayMake true lent given_back next_event page (behind_launch launched (with_document new browser page)) before after
event_made event launched lent given_back page k new browser before after is none first acts = record {
  text = acts.text;
  printed = acts.printed;
  makes = λ s stands.
      let there = document_there page s k is stands.document in
      let scene = without_first (scene_in s there.0) in
      let acted = acts.acts scene (scene_of page lent [] s (queue_taken k) (taken_of there.0) stands (taken_is k there.0 there.2)) in
      let made = made_of launched page lent given_back s new browser acts.text (event_effect event scene) none (handled-follows event scene) stands acted in
      subst (HasMadeOf true (behind_launch launched (with_document new browser page)) given_back acts.text s)
      (sym (event_there s there.0 event there.1 (ap first_of (sym (same_queue k there.0 there.2)) ∙ first))) (record { stands = made.stands; text_is = made.text_is });
}

-- where no event waits, none is taken
none_waits : (queue : List Event) → first_of queue ≡ None → drop 1 queue ≡ queue
none_waits [] e = refl
none_waits (event ∷ queue) e = absurd cc

pub none_taken : (k taken : KeptDocument) → first_of k.queue ≡ None → taken ≡ queue_taken k → taken ≡ k
none_taken k taken none e = e ∙ ap (λ (queue : List Event). record k { queue = queue }) (none_waits k.queue none)

no_document : (s : State) → s.document ≡ None → next_event s ≡ None
no_document s e = ap (option_and_then (event_in s)) e

no_event : (s : State) (d : Document) → s.document ≡ Some d → first_of d.queue ≡ None → next_event s ≡ None
no_event s d there none = ap (option_and_then (event_in s)) there ∙ ap (option_map (λ event. step_of s (event_effect event (without_first (scene_in s d))))) none

pub no_document_acts : (modules : ModulesState) (old page : PageState) (before : List ℕ) → page ≡ old → page.document ≡ None → MayMake false modules modules next_event old page before before
no_document_acts modules old page before view is =
    subst (λ (p : PageState). MayMake false modules modules next_event p page before before) view (record {
      text = [];
      printed = sym (append-nil before);
      makes = λ s stands.
          subst (HasMadeOf false page modules [] s) (sym (no_document s (none_there page s is stands.document))) (record { stands = stands; text_is = refl });
    })

pub no_event_waits : (modules : ModulesState) (old page : PageState) (k taken : KeptDocument) (before : List ℕ) → page ≡ old → page.document ≡ Some k → None ≡ first_of k.queue → taken ≡ queue_taken k
    → MayMake false modules modules next_event old (record page { document = Some taken; worked = taken.worked }) before before
no_event_waits modules old page k taken before view is none e =
    let left = record page { document = Some taken; worked = taken.worked } in
    subst (λ (p : PageState). MayMake false modules modules next_event p left before before) view (record {
      text = [];
      printed = sym (append-nil before);
      makes = λ s stands.
          let there = document_there page s k is stands.document in
          let empty = ap first_of (sym (same_queue k there.0 there.2)) ∙ sym none in
          subst (HasMadeOf false left modules [] s) (sym (no_event s there.0 there.1 empty)) (record {
            stands = record {
              modules_are = stands.modules_are;
              reader = stands.reader;
              document = subst (AreDocuments (Some taken)) (sym there.1) (subst (λ (x : KeptDocument). IsDocument x there.0) (sym (none_taken k taken (sym none) e)) there.2);
              wanted = stands.wanted;
              data_event = stands.data_event;
              current = stands.current;
              clock = stands.clock;
              browser = stands.browser;
              happened = stands.happened;
              reached = stands.reached;
              truly = stands.truly;
            };
            text_is = refl;
          });
    })

pub event_handled : (event : Event) (launched : Option Path) (lent given_back : ModulesState) (old page now : PageState) (k taken new : KeptDocument) (browser : BrowserParts) (before after : List ℕ) → page ≡ old → page.document ≡ Some k → page.loading ≡ kept.Nothing
    → Some event ≡ first_of k.queue → taken ≡ queue_taken k → Acts (event_effect event) launched page.clock taken new (lent_by page lent) (record { browser = browser; modules = given_back }) before after
    → now ≡ behind_launch launched (with_document new browser page) → MayMake true lent given_back next_event old now before after
event_handled event launched lent given_back old page now k taken new browser before after view is none first taken_as acts same =
    subst (λ (p : PageState). MayMake true lent given_back next_event p now before after) view
    (subst (λ (p : PageState). MayMake true lent given_back next_event page p before after) (sym same)
    (event_made event launched lent given_back page k new browser before after is none (sym first)
    (subst (λ (x : KeptDocument). Acts (event_effect event) launched page.clock x new (lent_by page lent) (record { browser = browser; modules = given_back }) before after) taken_as acts)))

-- ---- dispatches

pub may_make : (made is : Bool) (lent given_back : ModulesState) (step : State → Option Step) (old new : PageState) (before after : List ℕ) → made ≡ is → MayMake made lent given_back step old new before after
    → MayMake is lent given_back step old new before after
may_make made is lent given_back step old new before after e may = subst (λ (b : Bool). MayMake b lent given_back step old new before after) e may

-- the one step, and where there is none the other
abbrev pub first_or : (State → Option Step) → (State → Option Step) → State → Option Step
first_or one other s = option_or (one s) (other s)

pub made_first : (one other : State → Option Step) (lent given_back : ModulesState) (old new : PageState) (before after : List ℕ) → MayMake true lent given_back one old new before after → MayMake true lent given_back (first_or one other) old new before after
made_first one other lent given_back old new before after made = record {
  text = made.text;
  printed = made.printed;
  makes = λ s stands. by s (one s) (other s) (made.makes s stands);
}
  where
    by : (s : State) (first next : Option Step) → HasMadeOf true new given_back made.text s first → HasMadeOf true new given_back made.text s (option_or first next)
    by s None next has = absurd has
    by s (Some t) next has = has

-- nothing was made: the page stands for the same state
pub none_made : (page : PageState) (modules : ModulesState) (text : List ℕ) (s : State) (o : Option Step) → HasMadeOf false page modules text s o → (o ≡ None) × HasMade page modules text (still s)
none_made page modules text s None has = (refl, has)
none_made page modules text s (Some t) has = absurd has

next_after : (first next : Option Step) → first ≡ None → option_or first next ≡ next
next_after first next e = ap (λ (o : Option Step). option_or o next) e

pub made_next : (one other : State → Option Step) (made : Bool) (lent still_lent given_back : ModulesState) (old page new : PageState) (before between after : List ℕ) → MayMake false lent still_lent one old page before between → MayMake made still_lent given_back other page new between after
    → MayMake made lent given_back (first_or one other) old new before after
made_next one other made lent still_lent given_back old page new before between after first next = record {
  text = first.text ++ next.text;
  printed = next.printed ∙ ap (λ (l : List ℕ). l ++ next.text) first.printed ∙ append_assoc before first.text next.text;
  makes = λ s stands.
      let none = none_made page still_lent first.text s (one s) (first.makes s stands) in
      subst (λ (l : List ℕ). HasMadeOf made new given_back (l ++ next.text) s (option_or (one s) (other s))) (sym none.1.text_is)
      (subst (HasMadeOf made new given_back next.text s) (sym (next_after (one s) (other s) none.0)) (next.makes s none.1.stands));
}

-- a data event comes first, then a load, and then an event
pub as_dispatch : (made : Bool) (lent given_back : ModulesState) (old new : PageState) (before after : List ℕ) → MayMake made lent given_back (first_or next_data_event (first_or next_load next_event)) old new before after → MayMake made lent given_back dispatch old new before after
unfolding dispatch
as_dispatch made lent given_back old new before after may = may

-- a data event was handled
pub event_first : (lent given_back : ModulesState) (old new : PageState) (before after : List ℕ) → MayMake true lent given_back next_data_event old new before after → MayMake true lent given_back dispatch old new before after
event_first lent given_back old new before after made = as_dispatch true lent given_back old new before after (made_first next_data_event (first_or next_load next_event) lent given_back old new before after made)

-- none was, and a document was loaded or refused
pub load_first : (lent still_lent given_back : ModulesState) (old page new : PageState) (before between after : List ℕ) → MayMake false lent still_lent next_data_event old page before between → MayMake true still_lent given_back next_load page new between after
    → MayMake true lent given_back dispatch old new before after
load_first lent still_lent given_back old page new before between after waits loads =
    as_dispatch true lent given_back old new before after
    (made_next next_data_event (first_or next_load next_event) true lent still_lent given_back old page new before between after waits
    (made_first next_load next_event still_lent given_back page new between after loads))

-- none was either: what comes next is an event, by a call that may find no memory
pub event_comes : {E : Type 0} (result : Result Bool E) (lent one_lent other_lent given_back : ModulesState) (old one other new : PageState) (first second third fourth : List ℕ) → MayMake false lent one_lent next_data_event old one first second → MayMake false one_lent other_lent next_load one other second third
    → IfOk result (λ made. MayMake made other_lent given_back next_event other new third fourth) → IfOk result (λ made. MayMake made lent given_back dispatch old new first fourth)
event_comes (Err fault) lent one_lent other_lent given_back old one other new first second third fourth waits loads event = tt
event_comes (Ok made) lent one_lent other_lent given_back old one other new first second third fourth waits loads event =
    as_dispatch made lent given_back old new first fourth
    (made_next next_data_event (first_or next_load next_event) made lent one_lent given_back old one new first second fourth waits
    (made_next next_load next_event made one_lent other_lent given_back one other new second third fourth loads event))

-- ---- loads

-- a document that is wanted has a path
path_wanted : (loading : Loading) → (loading ≡ kept.Nothing → ⊥) → (modules : Modules) → (path : Path) × (wanted_path (wanted_of loading) modules ≡ Some path)
path_wanted kept.Start wanted modules = (start_path modules, refl)
path_wanted (kept.At path) wanted modules = (path, refl)
path_wanted (kept.Pending pending) wanted modules = by pending.is_start
  where
    by : (is_start : Bool) → (path : Path) × (wanted_path (wanted_at is_start pending.path) modules ≡ Some path)
    by true = (start_path modules, refl)
    by false = (pending.path, refl)
path_wanted kept.Nothing wanted modules = absurd (wanted refl)

-- the load of what is wanted
load_next : (s : State) (wanted : Wanted) (path : Path) (reading : Option (Result DraftState DocFault)) → s.wanted ≡ wanted → wanted_path wanted s.modules ≡ Some path → loadable_reading s.modules path ≡ reading
    → next_load s ≡ option_map (load s path) reading
unfolding next_load
load_next s wanted path reading e path_is reading_is =
    ap (λ (w : Wanted). option_and_then (load_at s) (wanted_path w s.modules)) e ∙ ap (option_and_then (load_at s)) path_is ∙ ap (option_map (load s path)) reading_is

nothing_next : (s : State) → s.wanted ≡ NoDocument → next_load s ≡ None
unfolding next_load
nothing_next s e = ap (λ (w : Wanted). option_and_then (load_at s) (wanted_path w s.modules)) e

-- nothing is wanted
none_wanted : (modules : ModulesState) (page : PageState) (before : List ℕ) → page.loading ≡ kept.Nothing → MayMake false modules modules next_load page page before before
none_wanted modules page before is = record {
  text = [];
  printed = sym (append-nil before);
  makes = λ s stands. subst (HasMadeOf false page modules [] s) (sym (nothing_next s (sym stands.wanted ∙ ap wanted_of is))) (record { stands = stands; text_is = refl });
}

-- nothing can be loaded of what is wanted
none_of : (s : State) (path : Option Path) → option_and_then (loadable_reading s.modules) path ≡ None → option_and_then (load_at s) path ≡ None
none_of s None e = refl
none_of s (Some path) e = ap (option_map (load s path)) e

none_next : (s : State) (wanted : Wanted) → s.wanted ≡ wanted → option_and_then (loadable_reading s.modules) (wanted_path wanted s.modules) ≡ None → next_load s ≡ None
unfolding next_load
none_next s wanted is none = ap (λ (w : Wanted). option_and_then (load_at s) (wanted_path w s.modules)) is ∙ none_of s (wanted_path wanted s.modules) none

pub load_none : (may : Bool) (modules : ModulesState) (old page : PageState) (before : List ℕ) → page ≡ old → MayLoad may modules page.loading → may ≡ false
    → MayMake false modules modules next_load old old before before
load_none true modules old page before view may is = absurd cc
load_none false modules old page before view may is = subst (λ (p : PageState). MayMake false modules modules next_load p p before before) view (record {
  text = [];
  printed = sym (append-nil before);
  makes = λ s stands.
      subst (HasMadeOf false page modules [] s) (sym (none_next s (wanted_of page.loading) (sym stands.wanted) (may s.modules stands.modules_are)))
      (record { stands = stands; text_is = refl });
})

-- else a document is wanted
pub may_wanted : (may : Bool) (modules : ModulesState) (loading : Loading) → MayLoad may modules loading → may ≡ true → loading ≡ kept.Nothing → ⊥
may_wanted true modules loading wanted is = wanted
may_wanted false modules loading none is = absurd cc

load_waits : (modules : ModulesState) (page : PageState) (memory : MemoryState) (loading : Loading) (before after : List ℕ) → (page.loading ≡ kept.Nothing → ⊥) → Loads modules page.loading (came.Waits loading) (memory_of page) memory before after
    → MayMake false modules modules next_load page (with_memory memory (with_loading loading page)) before after
load_waits modules page memory loading before after wanted loads = record {
  text = loads.text;
  printed = loads.printed;
  makes = λ s stands.
      let at = path_wanted page.loading wanted s.modules in
      let came = loads.loads s.modules stands.modules_are stands.happened stands.reached stands.truly stands.current at.0 at.1 s.read stands.reader in
      let goes = came.loads in
      subst (HasMadeOf false (with_memory memory (with_loading loading page)) modules loads.text s) (sym (load_next s (wanted_of page.loading) at.0 None (sym stands.wanted) at.1 goes.none)) (record {
        stands = record {
          modules_are = stands.modules_are;
          reader = stands.reader;
          document = stands.document;
          wanted = goes.still ∙ stands.wanted;
          data_event = stands.data_event;
          current = goes.current;
          clock = stands.clock;
          browser = stands.browser;
          happened = stands.happened;
          reached = stands.reached;
          truly = came.remembers.truly;
        };
        text_is = goes.silent;
      });
}

-- behind a document that was refused
abbrev pub refused_page : MemoryState → PageState → PageState
refused_page memory page = record (with_memory memory page) { loading = kept.Nothing; document = None; worked = 0 }

load_refused : (modules : ModulesState) (page : PageState) (memory : MemoryState) (before after : List ℕ) → (page.loading ≡ kept.Nothing → ⊥) → Loads modules page.loading came.Refused (memory_of page) memory before after
    → MayMake true modules modules next_load page (refused_page memory page) before after
load_refused modules page memory before after wanted loads = record {
  text = loads.text;
  printed = loads.printed;
  makes = λ s stands.
      let at = path_wanted page.loading wanted s.modules in
      let what = loads.loads s.modules stands.modules_are stands.happened stands.reached stands.truly stands.current at.0 at.1 s.read stands.reader in
      let refused = what.loads in
      subst (HasMadeOf true (refused_page memory page) modules loads.text s)
      (sym (load_next s (wanted_of page.loading) at.0 (Some (Err refused.fault)) (sym stands.wanted) at.1 refused.reading_is)) (record {
        stands = record {
          modules_are = stands.modules_are;
          reader = stands.reader;
          document = tt;
          wanted = refl;
          data_event = stands.data_event;
          current = tt;
          clock = stands.clock;
          browser = stands.browser;
          happened = stands.happened;
          reached = stands.reached;
          truly = what.remembers.truly;
        };
        text_is = refused.text_is;
      });
}

-- none is wanted while the scripts of one that was loaded run
abbrev unwanting : State → State
unwanting s = record s { wanted = NoDocument }

nothing_wanted : (page : PageState) (memory : MemoryState) (modules : ModulesState) (s : State) → (stands : StandsFor page modules s) → RemembersTruly stands.happened memory → StandsFor (with_memory memory (with_loading kept.Nothing page)) modules (unwanting s)
nothing_wanted page memory modules s stands truly = record {
  modules_are = stands.modules_are;
  reader = stands.reader;
  document = stands.document;
  wanted = refl;
  data_event = stands.data_event;
  current = tt;
  clock = stands.clock;
  browser = stands.browser;
  happened = stands.happened;
  reached = stands.reached;
  truly = truly;
}

load_made : (lent given_back : ModulesState) (page now : PageState) (memory : MemoryState) (k : KeptDocument) (before between after : List ℕ) → (page.loading ≡ kept.Nothing → ⊥) → Loads lent page.loading (came.Loaded k) (memory_of page) memory before between
    → Begins lent given_back k (with_memory memory (with_loading kept.Nothing page)) now between after → MayMake true lent given_back next_load page now before after
load_made lent given_back page now memory k before between after wanted loads begins =
    let acts = begins.acts in
    let began = with_document begins.document begins.browser (with_memory memory (with_loading kept.Nothing page)) in
    record {
      text = loads.text ++ acts.text;
      printed = acts.printed ∙ ap (λ (l : List ℕ). l ++ acts.text) loads.printed ∙ append_assoc before loads.text acts.text;
      makes = λ s stands.
          let at = path_wanted page.loading wanted s.modules in
          let what = loads.loads s.modules stands.modules_are stands.happened stands.reached stands.truly stands.current at.0 at.1 s.read stands.reader in
          let has = what.loads in
          let d = document_of_draft s.read at.0 has.draft in
          let acted = acts.acts (scene_in s d) (scene_of page lent [] s k d stands has.document_is) in
          let made = made_of begins.launched (with_memory memory (with_loading kept.Nothing page)) lent given_back (unwanting s) begins.document begins.browser acts.text (load_effect (scene_in s d)) refl (load-follows (scene_in s d)) (nothing_wanted page memory lent s stands what.remembers.truly) acted in
          subst (λ (p : PageState). HasMadeOf true p given_back (loads.text ++ acts.text) s (next_load s)) (sym begins.new_is)
          (subst (HasMadeOf true (behind_launch begins.launched began) given_back (loads.text ++ acts.text) s)
          (sym (load_next s (wanted_of page.loading) at.0 (Some (Ok has.draft)) (sym stands.wanted) at.1 has.reading_is))
          (record { stands = made.stands; text_is = ap₂ (λ (a b : List ℕ). a ++ b) has.text_is made.text_is }));
    }

-- where the modules weren't needed but to look, those that were lent are given back
pub given_back_as : (made : Bool) (lent given_back : ModulesState) (step : State → Option Step) (old new : PageState) (before after : List ℕ) → given_back ≡ lent → MayMake made lent lent step old new before after → MayMake made lent given_back step old new before after
given_back_as made lent given_back step old new before after is may = subst (λ (m : ModulesState). MayMake made lent m step old new before after) (sym is) may

-- what was taken of a load is what the load makes of the state
takes_load : (lent given_back : ModulesState) (page now : PageState) (memory : MemoryState) (what : Load) (made : Bool) (before middle after : List ℕ) → (page.loading ≡ kept.Nothing → ⊥) → Loads lent page.loading what (memory_of page) memory before middle
    → TakesLoad lent given_back what made (with_memory memory (with_loading kept.Nothing page)) now middle after → MayMake made lent given_back next_load page now before after
takes_load lent given_back page now memory (came.Waits loading) made before middle after wanted loads takes =
    may_make false made lent given_back next_load page now before after (sym takes.0)
    (given_back_as false lent given_back next_load page now before after takes.3
    (subst (λ (p : PageState). MayMake false lent lent next_load page p before after) (sym takes.1)
    (subst (λ (l : List ℕ). MayMake false lent lent next_load page (with_memory memory (with_loading loading page)) before l) (sym takes.2) (load_waits lent page memory loading before middle wanted loads))))
takes_load lent given_back page now memory came.Refused made before middle after wanted loads takes =
    may_make true made lent given_back next_load page now before after (sym takes.0)
    (given_back_as true lent given_back next_load page now before after takes.3
    (subst (λ (p : PageState). MayMake true lent lent next_load page p before after) (sym takes.1)
    (subst (λ (l : List ℕ). MayMake true lent lent next_load page (refused_page memory page) before l) (sym takes.2) (load_refused lent page memory before middle wanted loads))))
takes_load lent given_back page now memory (came.Loaded k) made before middle after wanted loads takes =
    may_make true made lent given_back next_load page now before after (sym takes.0) (load_made lent given_back page now memory k before middle after wanted loads takes.1)

pub load_taken : {E : Type 0} (lent given_back : ModulesState) (old page now : PageState) (memory : MemoryState) (loading emptied : Loading) (what : Load) (before middle after : List ℕ) (result : Result Bool E) → page ≡ old → loading ≡ page.loading → emptied ≡ kept.Nothing
    → (loading ≡ kept.Nothing → ⊥) → Loads lent loading what (memory_of page) memory before middle → IfOk result (λ made. TakesLoad lent given_back what made (with_memory memory (with_loading emptied page)) now middle after)
    → IfOk result (λ made. MayMake made lent given_back next_load old now before after)
load_taken lent given_back old page now memory loading emptied what before middle after (Err fault) view is none wanted loads takes = takes
load_taken lent given_back old page now memory loading emptied what before middle after (Ok made) view is none wanted loads takes =
    subst (λ (p : PageState). MayMake made lent given_back next_load p now before after) view
    (takes_load lent given_back page now memory what made before middle after (λ e. wanted (is ∙ e)) (subst (λ (l : Loading). Loads lent l what (memory_of page) memory before middle) is loads)
    (subst (λ (l : Loading). TakesLoad lent given_back what made (with_memory memory (with_loading l page)) now middle after) none takes))

-- ---- what is remembered of loads

-- the load of what is wanted is remembered
remembers_load : (modules : ModulesState) (page now : PageState) (memory : MemoryState) (what : Load) (before after : List ℕ) → (page.loading ≡ kept.Nothing → ⊥) → Loads modules page.loading what (memory_of page) memory before after → memory_of now ≡ memory
    → RemembersLoads wanted_loads modules page now
remembers_load modules page now memory what before after wanted loads same = λ s stands.
    let at = path_wanted page.loading wanted s.modules in
    let came = loads.loads s.modules stands.modules_are stands.happened stands.reached stands.truly stands.current at.0 at.1 s.read stands.reader in
    let is : wanted_path s.wanted s.modules ≡ Some at.0 = ap (λ (w : Wanted). wanted_path w s.modules) (sym stands.wanted) ∙ at.1 in
    let behind = subst (λ (o : Option Path). RemembersBehind stands.happened (option_to_list (option_and_then (loaded_at s.modules) o)) (memory_of page) memory) (sym is) came.remembers in
    record {
      remembered_is = ap (λ (m : MemoryState). m.remembered) same ∙ behind.remembered_is;
      hits_are = ap (λ (m : MemoryState). m.hits) same ∙ behind.hits_are;
    }

pub load_remembered : {E : Type 0} (modules : ModulesState) (old page now : PageState) (memory : MemoryState) (loading : Loading) (what : Load) (before middle : List ℕ) (result : Result Bool E) → page ≡ old → loading ≡ page.loading → (loading ≡ kept.Nothing → ⊥)
    → Loads modules loading what (memory_of page) memory before middle → memory_of now ≡ memory → OnOk result (RemembersLoads wanted_loads modules old now)
load_remembered modules old page now memory loading what before middle (Err fault) view is wanted loads same = tt
load_remembered modules old page now memory loading what before middle (Ok made) view is wanted loads same =
    subst (λ (p : PageState). RemembersLoads wanted_loads modules p now) view
    (remembers_load modules page now memory what before middle (λ e. wanted (is ∙ e)) (subst (λ (l : Loading). Loads modules l what (memory_of page) memory before middle) is loads) same)

-- nothing is wanted
none_loaded : (modules : Modules) (path : Option Path) → option_and_then (loadable_reading modules) path ≡ None → option_and_then (loaded_at modules) path ≡ None
none_loaded modules None e = refl
none_loaded modules (Some path) e = ap (option_and_then (loaded_as modules path)) e

pub none_remembered : (may : Bool) (modules : ModulesState) (old page : PageState) → page ≡ old → MayLoad may modules page.loading → may ≡ false → RemembersLoads wanted_loads modules old old
none_remembered true modules old page view may is = absurd cc
none_remembered false modules old page view may is =
    subst (λ (p : PageState). RemembersLoads wanted_loads modules p p) view (λ s stands.
    let none = none_loaded s.modules (wanted_path (wanted_of page.loading) s.modules) (may s.modules stands.modules_are) in
    subst (λ (w : Wanted). Remembers (option_to_list (option_and_then (loaded_at s.modules) (wanted_path w s.modules))) page page) stands.wanted
    (subst (λ (o : Option Loaded). Remembers (option_to_list o) page page) (sym none) (remembers_none stands.happened page page stands.truly (refl, refl))))

-- an event loads nothing
pub event_remembered : {E : Type 0} (result : Result Bool E) (modules : ModulesState) (old page now : PageState) → RemembersLoads next_loads modules old page → RemembersStill page now → OnOk result (RemembersLoads next_loads modules old now)
event_remembered (Err fault) modules old page now loads still = tt
event_remembered (Ok made) modules old page now loads still = λ s stands.
    let has = loads s stands in
    record { remembered_is = still.0 ∙ has.remembered_is; hits_are = still.1 ∙ has.hits_are }

-- a data event that was handled loads nothing
pub event_loads_none : (modules given_back : ModulesState) (old new : PageState) (before after : List ℕ) → MayMake true modules given_back next_data_event old new before after → RemembersStill old new → RemembersLoads next_loads modules old new
event_loads_none modules given_back old new before after made still = λ s stands. by s stands s.data_event refl (made.makes s stands)
  where
    by : (s : State) → StandsFor old modules s → (b : Bool) → s.data_event ≡ b → HasMadeOf true new given_back made.text s (cond b (Some (data_event_step (record s { data_event = false }))) None) → Remembers (next_loads s) old new
    by s stands true e has = subst (λ (b : Bool). Remembers (option_to_list (cond b None (wanted_loaded s))) old new) (sym e) (remembers_none stands.happened old new stands.truly still)
    by s stands false e has = absurd has

-- where none waits, the next dispatch makes the load of what is wanted
no_event_waiting : (s : State) → next_data_event s ≡ None → s.data_event ≡ false
no_event_waiting s e = by s.data_event refl e
  where
    by : (b : Bool) → s.data_event ≡ b → cond b (Some (data_event_step (record s { data_event = false }))) None ≡ None → s.data_event ≡ false
    by true is e = absurd (cc e)
    by false is e = is

pub loads_remembered : (lent still_lent : ModulesState) (old page new : PageState) (before between : List ℕ) → MayMake false lent still_lent next_data_event old page before between → RemembersStill old page → RemembersLoads wanted_loads still_lent page new → RemembersLoads next_loads lent old new
loads_remembered lent still_lent old page new before between waits still loads = λ s stands.
    let none = none_made page still_lent waits.text s (next_data_event s) (waits.makes s stands) in
    subst (λ (b : Bool). Remembers (option_to_list (cond b None (wanted_loaded s))) old new) (sym (no_event_waiting s none.0))
    (remembers_both [] (wanted_loads s) old page new (remembers_none stands.happened old page stands.truly still) (loads s none.1.stands))

-- the same of a call that spends the page where it found no memory
pub remembers_after : {A E : Type 0} (loads : State → List Loaded) (lent : ModulesState) (old page now : PageState) (called result : Result A E) → OnOk called (RemembersLoads loads lent old page) → result ≡ called → now ≡ with_spent (is_err called) page
    → OnOk result (RemembersLoads loads lent old now)
remembers_after {A} {E} loads lent old page now (Err fault) result remembers same spent = subst (λ (r : Result A E). OnOk r (RemembersLoads loads lent old now)) (sym same) tt
remembers_after {A} {E} loads lent old page now (Ok done) result remembers same spent =
    subst (λ (r : Result A E). OnOk r (RemembersLoads loads lent old now)) (sym same)
    (subst (RemembersLoads loads lent old) (sym spent) (λ s stands. let has = remembers s stands in record { remembered_is = has.remembered_is; hits_are = has.hits_are }))

-- ---- turns

-- the page stands for a state behind this text, and so many dispatches of a turn are left
pub record IsAhead (old page : PageState) (modules : ModulesState) (text : List ℕ) (left : ℕ) (whole : Step) (loads : List Loaded) : Type 0 where
  pub now : State
  pub stands : StandsFor page modules now
  pub whole_is : whole ≡ step_behind text (dispatches left now)
  -- these loads were made so far
  pub so_far : List Loaded
  pub loads_are : loads ≡ so_far ++ loads_in left now
  pub remembers : Remembers so_far old page

-- in the midst of a turn, behind so many dispatches: these modules were lent to it, and these are there now
pub record IsTurning (lent modules : ModulesState) (made : ℕ) (old page : PageState) (before after : List ℕ) : Type 0 where
  pub text : List ℕ
  pub printed : after ≡ before ++ text
  pub left : ℕ
  pub left_is : left + made ≡ most_dispatches
  pub ahead : (s : State) → StandsFor old lent s → IsAhead old page modules text left (turn s) (loads_of_turn s)

pub turn_begins : (modules : ModulesState) (page : PageState) (before : List ℕ) → IsTurning modules modules 0 page page before before
unfolding turn loads_of_turn
turn_begins modules page before = record {
  text = [];
  printed = sym (append-nil before);
  left = most_dispatches;
  left_is = omega arith;
  ahead = λ s stands. record {
    now = s;
    stands = stands;
    whole_is = refl;
    so_far = [];
    loads_are = refl;
    remembers = remembers_none stands.happened page page stands.truly (refl, refl);
  };
}

-- the next dispatch, where there is one
next_made : (more : ℕ) (s : State) → dispatches (suc more) s ≡ next_and (dispatches more) s (dispatch s)
unfolding dispatches
next_made more s = refl

none_left : (s : State) → dispatches zero s ≡ still s
unfolding dispatches
none_left s = refl

next_loaded_in : (more : ℕ) (s : State) → loads_in (suc more) s ≡ next_loads s ++ loads_behind (loads_in more) (dispatch s)
unfolding loads_in
next_loaded_in more s = refl

none_loaded_in : (s : State) → loads_in zero s ≡ []
unfolding loads_in
none_loaded_in s = refl

-- the loads so far, and that of the next dispatch
loads_ahead : (so_far loads : List Loaded) (left next : ℕ) (now : State) (o : Option Step) → left ≡ suc next → dispatch now ≡ o → loads ≡ so_far ++ loads_in left now → loads ≡ (so_far ++ next_loads now) ++ loads_behind (loads_in next) o
loads_ahead so_far loads left next now o is e loads_are =
    loads_are ∙ ap (λ (n : ℕ). so_far ++ loads_in n now) is
    ∙ ap (λ (l : List Loaded). so_far ++ l) (next_loaded_in next now ∙ ap (λ (o : Option Step). next_loads now ++ loads_behind (loads_in next) o) e)
    ∙ sym (append_assoc so_far (next_loads now) (loads_behind (loads_in next) o))

pub most_is : most_dispatches ≡ 256
unfolding most_dispatches
most_is = refl

some_left : (left made : ℕ) → left + made ≡ 256 → made < 256 → (more : ℕ) × (left ≡ suc more)
some_left zero made e h = absurd (omega arith)
some_left (suc more) made e h = (more, refl)

behind_both : (text more : List ℕ) (t : Step) → step_behind text (step_behind more t) ≡ step_behind (text ++ more) t
behind_both text more t = ap (λ (l : List ℕ). record { state = t.state; text = l }) (sym (append_assoc text more t.text))

-- one dispatch more
one_more : (old page new : PageState) (modules given_back : ModulesState) (text more : List ℕ) (left next : ℕ) (whole : Step) (loads : List Loaded) → left ≡ suc next → (ahead : IsAhead old page modules text left whole loads)
    → HasMadeOf true new given_back more ahead.now (dispatch ahead.now) → Remembers (next_loads ahead.now) page new → IsAhead old new given_back (text ++ more) next whole loads
one_more old page new modules given_back text more left next whole loads is ahead has remembers = by (dispatch ahead.now) refl has
  where
    by : (o : Option Step) → dispatch ahead.now ≡ o → HasMadeOf true new given_back more ahead.now o → IsAhead old new given_back (text ++ more) next whole loads
    by None e has = absurd has
    by (Some t) e has = record {
      now = t.state;
      stands = has.stands;
      whole_is =
          ahead.whole_is ∙ ap (λ (n : ℕ). step_behind text (dispatches n ahead.now)) is
          ∙ ap (step_behind text) (next_made next ahead.now ∙ ap (next_and (dispatches next) ahead.now) e)
          ∙ behind_both text t.text (dispatches next t.state)
          ∙ ap (λ (l : List ℕ). step_behind (text ++ l) (dispatches next t.state)) (sym has.text_is);
      so_far = ahead.so_far ++ next_loads ahead.now;
      loads_are = loads_ahead ahead.so_far loads left next ahead.now (Some t) is e ahead.loads_are;
      remembers = remembers_both ahead.so_far (next_loads ahead.now) old page new ahead.remembers remembers;
    }

pub turn_goes : (lent modules given_back : ModulesState) (made : ℕ) (old page new : PageState) (before between after : List ℕ) → made < 256 → IsTurning lent modules made old page before between
    → MayMake true modules given_back dispatch page new between after → RemembersLoads next_loads modules page new → IsTurning lent given_back (made + 1) old new before after
turn_goes lent modules given_back made old page new before between after h turning may remembers =
    let next = some_left turning.left made (turning.left_is ∙ most_is) h in
    record {
      text = turning.text ++ may.text;
      printed = may.printed ∙ ap (λ (l : List ℕ). l ++ may.text) turning.printed ∙ append_assoc before turning.text may.text;
      left = next.0;
      left_is = omega (arith, turning.left_is, next.1);
      ahead = λ s stands.
          let ahead = turning.ahead s stands in
          one_more old page new modules given_back turning.text may.text turning.left next.0 (turn s) (loads_of_turn s) next.1 ahead (may.makes ahead.now ahead.stands) (remembers ahead.now ahead.stands);
    }

-- behind the last dispatch
ended_at : (new : PageState) (modules : ModulesState) (text : List ℕ) (now : State) (whole : Step) → StandsFor new modules now → whole ≡ step_behind text (still now) → HasMade new modules text whole
ended_at new modules text now whole stands is = subst (HasMade new modules text) (sym is) (record { stands = stands; text_is = sym (append-nil text) })

none_more : (old page new : PageState) (modules given_back : ModulesState) (text more : List ℕ) (left next : ℕ) (whole : Step) (loads : List Loaded) → left ≡ suc next → (ahead : IsAhead old page modules text left whole loads)
    → HasMadeOf false new given_back more ahead.now (dispatch ahead.now) → HasMade new given_back (text ++ more) whole
none_more old page new modules given_back text more left next whole loads is ahead has = by (dispatch ahead.now) refl has
  where
    by : (o : Option Step) → dispatch ahead.now ≡ o → HasMadeOf false new given_back more ahead.now o → HasMade new given_back (text ++ more) whole
    by (Some t) e has = absurd has
    by None e has =
        subst (λ (l : List ℕ). HasMade new given_back l whole) (sym (ap (λ (l : List ℕ). text ++ l) has.text_is ∙ append-nil text))
        (ended_at new given_back text ahead.now whole has.stands
        (ahead.whole_is ∙ ap (λ (n : ℕ). step_behind text (dispatches n ahead.now)) is
        ∙ ap (step_behind text) (next_made next ahead.now ∙ ap (next_and (dispatches next) ahead.now) e)))

pub turn_stops : (lent modules given_back : ModulesState) (made : ℕ) (old page new : PageState) (before between after : List ℕ) → made < 256 → IsTurning lent modules made old page before between
    → MayMake false modules given_back dispatch page new between after → MakesWith lent given_back turn old new before after
turn_stops lent modules given_back made old page new before between after h turning may =
    let next = some_left turning.left made (turning.left_is ∙ most_is) h in
    record {
      text = turning.text ++ may.text;
      printed = may.printed ∙ ap (λ (l : List ℕ). l ++ may.text) turning.printed ∙ append_assoc before turning.text may.text;
      makes = λ s stands.
          let ahead = turning.ahead s stands in
          none_more old page new modules given_back turning.text may.text turning.left next.0 (turn s) (loads_of_turn s) next.1 ahead (may.makes ahead.now ahead.stands);
    }

zero_left : (left made : ℕ) → left + made ≡ 256 → made ≡ 256 → left ≡ zero
zero_left left made e h = omega arith

pub turn_ends : (lent modules : ModulesState) (made : ℕ) (old page : PageState) (before after : List ℕ) → made ≡ 256 → IsTurning lent modules made old page before after → MakesWith lent modules turn old page before after
turn_ends lent modules made old page before after h turning =
    let none = zero_left turning.left made (turning.left_is ∙ most_is) h in
    record {
      text = turning.text;
      printed = turning.printed;
      makes = λ s stands.
          let ahead = turning.ahead s stands in
          ended_at page modules turning.text ahead.now (turn s) ahead.stands
          (ahead.whole_is ∙ ap (λ (n : ℕ). step_behind turning.text (dispatches n ahead.now)) none ∙ ap (step_behind turning.text) (none_left ahead.now));
    }

-- ---- what is remembered of turns

-- behind the last dispatch, and behind none
stops_remembering : (old page new : PageState) (modules given_back : ModulesState) (text more : List ℕ) (left next : ℕ) (whole : Step) (loads : List Loaded) → left ≡ suc next → (ahead : IsAhead old page modules text left whole loads)
    → HasMadeOf false new given_back more ahead.now (dispatch ahead.now) → Remembers (next_loads ahead.now) page new → Remembers loads old new
stops_remembering old page new modules given_back text more left next whole loads is ahead has remembers = by (dispatch ahead.now) refl has
  where
    by : (o : Option Step) → dispatch ahead.now ≡ o → HasMadeOf false new given_back more ahead.now o → Remembers loads old new
    by (Some t) e has = absurd has
    by None e has =
        subst (λ (l : List Loaded). Remembers l old new) (sym (loads_ahead ahead.so_far loads left next ahead.now None is e ahead.loads_are ∙ append-nil (ahead.so_far ++ next_loads ahead.now)))
        (remembers_both ahead.so_far (next_loads ahead.now) old page new ahead.remembers remembers)

pub turn_stops_remembering : (lent modules given_back : ModulesState) (made : ℕ) (old page new : PageState) (before between after : List ℕ) → made < 256 → IsTurning lent modules made old page before between
    → MayMake false modules given_back dispatch page new between after → RemembersLoads next_loads modules page new → RemembersLoads loads_of_turn lent old new
turn_stops_remembering lent modules given_back made old page new before between after h turning may remembers = λ s stands.
    let next = some_left turning.left made (turning.left_is ∙ most_is) h in
    let ahead = turning.ahead s stands in
    stops_remembering old page new modules given_back turning.text may.text turning.left next.0 (turn s) (loads_of_turn s) next.1 ahead (may.makes ahead.now ahead.stands) (remembers ahead.now ahead.stands)

pub turn_ends_remembering : (lent modules : ModulesState) (made : ℕ) (old page : PageState) (before after : List ℕ) → made ≡ 256 → IsTurning lent modules made old page before after → RemembersLoads loads_of_turn lent old page
turn_ends_remembering lent modules made old page before after h turning = λ s stands.
    let none = zero_left turning.left made (turning.left_is ∙ most_is) h in
    let ahead = turning.ahead s stands in
    subst (λ (l : List Loaded). Remembers l old page)
    (sym (ahead.loads_are ∙ ap (λ (n : ℕ). ahead.so_far ++ loads_in n ahead.now) none ∙ ap (λ (l : List Loaded). ahead.so_far ++ l) (none_loaded_in ahead.now) ∙ append-nil ahead.so_far)) ahead.remembers
