-- What becomes of what is kept of a document that is wanted, where changes in modules are posted.
use Rattle.std.proofs.Common.{◌≡◌, ◌∙◌, ℕ, ◌<◌, Bool, true, false, cond, eqb, ◌&&◌, List, [], ◌∷◌, ◌++◌, refl, sym, ap, ap₂, subst}
use Rattle.std.specs.Prelude.{◌||◌, AllPairs, Option, Some, None, map, option_to_list}
use Rattle.std.specs.Option.{option_map_or}
use Rattle.std.specs.List.{list_any}
use Rattle.std.proofs.lemmas.Bool.{eq-eqb, eqb-true}
use Rattle.multipart_entities.specs.declared.paths.Path.{Path}
use Rattle.carousel_blocks.specs.DataEvents.{data_event, data_event_between, is_data_event}
use Rattle.carousel_blocks.specs.declared.changes.Change.{Change}
use Rattle.psi_tables.specs.declared.components.Component.{Component}
use Rattle.psi_tables.specs.Components.{AreApart}
use Rattle.module_locks.specs.Histories.Happening.{Fed, Mapped}
use Rattle.module_locks.specs.Locks.{Modules, changes_by, kept_on, look_up, module_changes_by, start_path, start_path_as, with_map, with_section}
use Rattle.module_locks.specs.Standing.{ModulesState}
use Rattle.module_locks.specs.Standing as of_modules
use Rattle.module_store.specs.Copies.{KeptModule}
use Rattle.module_store.specs.DataEvents.{data_event_by, event_id}
use Rattle.module_store.specs.Resources.{start_component}
use Rattle.module_store.specs.Resources as resources
use Rattle.module_store.specs.Resources.Resource.{Found}
use Rattle.module_store.specs.Staying.{tells_of, is_gone}
use Rattle.module_store.specs.Store.{gone_by}
use Rattle.module_store.specs.Store as store
use Rattle.page.specs.declared.loading.Loading.{Loading}
use Rattle.page.specs.declared.loading.Loading.TheVariants as kept
use Rattle.page.specs.devices.Pendings.{IsCurrent, loading_behind, loading_behind_all, unread_loading, wanted_at, wanted_of}
use Rattle.page.specs.devices.PendingStates.{IsFound, IsStartPath, PendingState}
use Rattle.page.specs.Standing.{PageState, StandsAmid, StandsFor, memory_of}
use Rattle.page.specs.State.{State, with_modules}
use Rattle.page.proofs.FollowLemmas.{Follows, reached_later}
use Rattle.page.proofs.MemoryLaws.{truly_later}

-- ---- what is wanted stays so

wanted_unread : (is_start : Bool) (path : Path) → wanted_of (unread_loading is_start path) ≡ wanted_at is_start path
wanted_unread true path = refl
wanted_unread false path = refl

wanted_anew : (told : Bool) (pending : PendingState) → wanted_of (cond told (unread_loading pending.is_start pending.path) (kept.Pending pending)) ≡ wanted_of (kept.Pending pending)
wanted_anew true pending = wanted_unread pending.is_start pending.path
wanted_anew false pending = refl

wanted_behind : (component : ℕ) (change : Change) (loading : Loading) → wanted_of (loading_behind component change loading) ≡ wanted_of loading
wanted_behind component change kept.Start = refl
wanted_behind component change (kept.At path) = refl
wanted_behind component change (kept.Pending pending) = wanted_anew (is_data_event change || (eqb pending.path.component component && eqb change.«module» pending.path.«module»)) pending
wanted_behind component change kept.Nothing = refl

-- behind a change in a module of a component
abbrev pub behind_change : ℕ → Change → PageState → PageState
behind_change component change page = record page { loading = loading_behind component change page.loading }

-- behind a change, the page is in the same state, and those behind it are still to be posted
pub stands_followed : (component : ℕ) (change : Change) (changes : List (ℕ × Change)) (page : PageState) (modules : ModulesState) (s : State) → StandsAmid page modules ((component, change) ∷ changes) s
    → StandsAmid (behind_change component change page) modules changes s
stands_followed component change changes page modules s stands = record {
  modules_are = stands.modules_are;
  reader = stands.reader;
  document = stands.document;
  wanted = wanted_behind component change page.loading ∙ stands.wanted;
  data_event = stands.data_event;
  current = stands.current;
  clock = stands.clock;
  browser = stands.browser;
  happened = stands.happened;
  reached = stands.reached;
  truly = stands.truly;
}

-- ---- what several changes leave of a document that is wanted

-- only what was read changes
still_start : (changes : List (ℕ × Change)) → loading_behind_all changes kept.Start ≡ kept.Start
still_start [] = refl
still_start (change ∷ changes) = still_start changes

still_at : (path : Path) (changes : List (ℕ × Change)) → loading_behind_all changes (kept.At path) ≡ kept.At path
still_at path [] = refl
still_at path (change ∷ changes) = still_at path changes

still_nothing : (changes : List (ℕ × Change)) → loading_behind_all changes kept.Nothing ≡ kept.Nothing
still_nothing [] = refl
still_nothing (change ∷ changes) = still_nothing changes

still_unread : (is_start : Bool) (path : Path) (changes : List (ℕ × Change)) → loading_behind_all changes (unread_loading is_start path) ≡ unread_loading is_start path
still_unread true path changes = still_start changes
still_unread false path changes = still_at path changes

unread_current : (is_start : Bool) (path : Path) (modules : Modules) → IsCurrent modules (unread_loading is_start path)
unread_current true path modules = tt
unread_current false path modules = tt

-- one of them is of this module of that component, or is that of a data event
abbrev is_told : ℕ → ℕ → List (ℕ × Change) → Bool
is_told component number changes =
    list_any (λ change. is_data_event change.1 || (eqb component change.0 && eqb change.1.«module» number)) changes

-- what is left of a document that was read
abbrev left_of : Bool → PendingState → Loading
left_of told pending = cond told (unread_loading pending.is_start pending.path) (kept.Pending pending)

-- it is forgotten exactly where one of them is of its module, or is that of a data event
pending_behind_all : (changes : List (ℕ × Change)) (pending : PendingState) → loading_behind_all changes (kept.Pending pending) ≡ left_of (is_told pending.path.component pending.path.«module» changes) pending
pending_behind_all [] pending = refl
pending_behind_all (change ∷ changes) pending =
    by (is_data_event change.1 || (eqb pending.path.component change.0 && eqb change.1.«module» pending.path.«module»)) (pending_behind_all changes pending)
  where
    by : (b : Bool) → loading_behind_all changes (kept.Pending pending) ≡ left_of (is_told pending.path.component pending.path.«module» changes) pending
        → loading_behind_all changes (left_of b pending) ≡ left_of (b || is_told pending.path.component pending.path.«module» changes) pending
    by true later = still_unread pending.is_start pending.path changes
    by false later = later

-- ---- a document that was read stays the one that is there

still_found : (one other : Modules) (pending : PendingState) (is : IsFound one pending) → look_up other pending.path ≡ Found is.bytes → IsStartPath pending.is_start other pending.path → IsFound other pending
still_found one other pending is found start = record {
  path_is = start;
  component_fits = is.component_fits;
  module_fits = is.module_fits;
  bytes = is.bytes;
  found = found;
  reading_is = is.reading_is;
  draft_is = is.draft_is;
}

-- whatever is locked, the start path is one of its module
start_place : (modules : Modules) → ((start_path modules).component ≡ start_component) × ((start_path modules).«module» ≡ 0)
start_place modules = by (kept_on modules.locks start_component 0)
  where
    by : (o : Option KeptModule)
        → ((option_map_or (λ kept. start_path_as kept.is_entity) o (resources.start_path modules.stored)).component ≡ start_component)
        × ((option_map_or (λ kept. start_path_as kept.is_entity) o (resources.start_path modules.stored)).«module» ≡ 0)
    by None = (refl, refl)
    by (Some kept) = (refl, refl)

-- the start path stays where what is found there does
still_start_path : (one other : Modules) (is_start : Bool) (path : Path) → IsStartPath is_start one path → (path ≡ start_path one → start_path other ≡ start_path one) → IsStartPath is_start other path
still_start_path one other true path is same = is ∙ sym (same is)
still_start_path one other false path is same = tt

neither : (a b : Bool) → (a || b) ≡ false → (a ≡ false) × (b ≡ false)
neither true b e = absurd (cc e)
neither false b e = (refl, e)

-- a test that holds leaves the other
with_true : (a b : Bool) → a ≡ true → (a && b) ≡ false → b ≡ false
with_true true b is e = e
with_true false b is e = absurd (cc is)

-- where none of them is told in its component, none is of the module
untold : (component own number : ℕ) (changes : List Change) → is_told own number (map (λ change. (component, change)) changes) ≡ false → component ≡ own → tells_of number changes ≡ false
untold component own number [] none same = refl
untold component own number (change ∷ changes) none same =
    let all = neither (is_data_event change || (eqb own component && eqb change.«module» number)) (is_told own number (map (λ change. (component, change)) changes)) none in
    let its = neither (is_data_event change) (eqb own component && eqb change.«module» number) all.0 in
    ap₂ (λ (here later : Bool). here || later)
    (with_true (eqb own component) (eqb change.«module» number) (eq-eqb own component (sym same)) its.1)
    (untold component own number changes all.1 same)

-- and none is that of a data event
none_of_events : (component own number : ℕ) (changes : List Change) → is_told own number (map (λ change. (component, change)) changes) ≡ false → list_any is_data_event changes ≡ false
none_of_events component own number [] none = refl
none_of_events component own number (change ∷ changes) none =
    let all = neither (is_data_event change || (eqb own component && eqb change.«module» number)) (is_told own number (map (λ change. (component, change)) changes)) none in
    let its = neither (is_data_event change) (eqb own component && eqb change.«module» number) all.0 in
    ap₂ (λ (here later : Bool). here || later) its.0 (none_of_events component own number changes all.1)

-- what is told of a data event is the change of one
event_told : (before after : Option ℕ) (event : Change) → data_event_between before after ≡ Some event → is_data_event event ≡ true
event_told None after event e = absurd (cc e)
event_told (Some before) None event e = absurd (cc e)
event_told (Some before) (Some after) event e = by (eqb before after) e
  where
    by : (same : Bool) → cond same None (Some (data_event before after)) ≡ Some event → is_data_event event ≡ true
    by true e = absurd (cc e)
    by false e =
        let is : data_event before after ≡ event = cc e in
        sym (ap is_data_event is)

no_event_by : (o : Option Change) (more : List Change) → ((event : Change) → o ≡ Some event → is_data_event event ≡ true) → list_any is_data_event (option_to_list o ++ more) ≡ false → o ≡ None
no_event_by None more is none = refl
no_event_by (Some event) more is none =
    let both = neither (is_data_event event) (list_any is_data_event more) none in
    absurd (cc (is event refl, both.0))

same_test : (a b : ℕ) (x y : Bool) → eqb a b ≡ x → eqb b a ≡ y → x ≡ y
same_test a b true true e f = refl
same_test a b true false e f = sym (eq-eqb b a (sym (eqb-true a b e))) ∙ f
same_test a b false true e f = sym e ∙ eq-eqb a b (sym (eqb-true b a f))
same_test a b false false e f = refl

-- where none of them is told, the module isn't gone
gone_untold : (tag number : ℕ) (gone : List (ℕ × Change)) → is_told tag number gone ≡ false → is_gone tag number gone ≡ false
gone_untold tag number [] none = refl
gone_untold tag number (change ∷ gone) none =
    let all = neither (is_data_event change.1 || (eqb tag change.0 && eqb change.1.«module» number)) (is_told tag number gone) none in
    let its = neither (is_data_event change.1) (eqb tag change.0 && eqb change.1.«module» number) all.0 in
    ap₂ (λ (same later : Bool). (same && eqb change.1.«module» number) || later) (same_test change.0 tag (eqb change.0 tag) (eqb tag change.0) refl refl) (gone_untold tag number gone all.1)
    ∙ ap (λ (b : Bool). b || false) its.1

-- what is found in a module stays, until a change of it is told or a data event comes
abbrev FoundInSections : Type 0
FoundInSections = (modules : Modules) (component : ℕ) (section : List ℕ) (path : Path) (bytes : List ℕ) → path.«module» < 65536 → look_up modules path ≡ Found bytes
    → data_event_by component section modules.stored ≡ None → (component ≡ path.component → tells_of path.«module» (changes_by component section modules) ≡ false) → look_up (with_section component section modules) path ≡ Found bytes

abbrev StartInSections : Type 0
StartInSections = (modules : Modules) (component : ℕ) (section : List ℕ) → data_event_by component section modules.stored ≡ None
    → (component ≡ start_component → tells_of 0 (changes_by component section modules) ≡ false) → start_path (with_section component section modules) ≡ start_path modules

abbrev FoundInMaps : Type 0
FoundInMaps = (modules : Modules) (components : List Component) (path : Path) (bytes : List ℕ) → path.component < 256 → path.«module» < 65536 → AllPairs AreApart components → look_up modules path ≡ Found bytes
    → is_gone path.component path.«module» (gone_by components modules.stored) ≡ false → look_up (with_map components modules) path ≡ Found bytes

abbrev StartInMaps : Type 0
StartInMaps = (modules : Modules) (components : List Component) → AllPairs AreApart components
    → is_gone start_component 0 (gone_by components modules.stored) ≡ false → start_path (with_map components modules) ≡ start_path modules

pending_in_sections : FoundInSections → StartInSections → (modules : Modules) (component : ℕ) (section : List ℕ) (pending : PendingState) (told : Bool)
    → is_told pending.path.component pending.path.«module» (map (λ change. (component, change)) (changes_by component section modules)) ≡ told
    → IsFound modules pending → IsCurrent (with_section component section modules) (left_of told pending)
pending_in_sections found start modules component section pending true e is = unread_current pending.is_start pending.path (with_section component section modules)
pending_in_sections found start modules component section pending false e is =
    let none = untold component pending.path.component pending.path.«module» (changes_by component section modules) e in
    let silent : data_event_by component section modules.stored ≡ None =
    no_event_by (data_event_by component section modules.stored) (module_changes_by component section modules)
    (event_told (event_id modules.stored) (event_id (store.with_section component section modules.stored)))
    (none_of_events component pending.path.component pending.path.«module» (changes_by component section modules) e) in
    still_found modules (with_section component section modules) pending is
    (found modules component section pending.path is.bytes is.module_fits is.found silent none)
    (still_start_path modules (with_section component section modules) pending.is_start pending.path is.path_is
    (λ path_is. start modules component section silent (λ same.
    subst (λ (number : ℕ). tells_of number (changes_by component section modules) ≡ false)
    (ap (λ (path : Path). path.«module») path_is ∙ (start_place modules).1)
    (none (same ∙ sym (ap (λ (path : Path). path.component) path_is ∙ (start_place modules).0))))))

current_in_sections : FoundInSections → StartInSections → (modules : Modules) (component : ℕ) (section : List ℕ) (loading : Loading) → IsCurrent modules loading
    → IsCurrent (with_section component section modules) (loading_behind_all (map (λ change. (component, change)) (changes_by component section modules)) loading)
current_in_sections found start modules component section kept.Start is =
    subst (λ (x : Loading). IsCurrent (with_section component section modules) x) (sym (still_start (map (λ change. (component, change)) (changes_by component section modules)))) tt
current_in_sections found start modules component section (kept.At path) is =
    subst (λ (x : Loading). IsCurrent (with_section component section modules) x) (sym (still_at path (map (λ change. (component, change)) (changes_by component section modules)))) tt
current_in_sections found start modules component section (kept.Pending pending) is =
    subst (λ (x : Loading). IsCurrent (with_section component section modules) x) (sym (pending_behind_all (map (λ change. (component, change)) (changes_by component section modules)) pending))
    (pending_in_sections found start modules component section pending _ refl is)
current_in_sections found start modules component section kept.Nothing is =
    subst (λ (x : Loading). IsCurrent (with_section component section modules) x) (sym (still_nothing (map (λ change. (component, change)) (changes_by component section modules)))) tt

pending_in_maps : FoundInMaps → StartInMaps → (modules : Modules) (components : List Component) (pending : PendingState) (told : Bool) → AllPairs AreApart components
    → is_told pending.path.component pending.path.«module» (gone_by components modules.stored) ≡ told → IsFound modules pending → IsCurrent (with_map components modules) (left_of told pending)
pending_in_maps found start modules components pending true apart e is = unread_current pending.is_start pending.path (with_map components modules)
pending_in_maps found start modules components pending false apart e is =
    let none = gone_untold pending.path.component pending.path.«module» (gone_by components modules.stored) e in
    still_found modules (with_map components modules) pending is
    (found modules components pending.path is.bytes is.component_fits is.module_fits apart is.found none)
    (still_start_path modules (with_map components modules) pending.is_start pending.path is.path_is
    (λ path_is. start modules components apart
    (sym (ap₂ (λ (component number : ℕ). is_gone component number (gone_by components modules.stored))
    (ap (λ (path : Path). path.component) path_is ∙ (start_place modules).0)
    (ap (λ (path : Path). path.«module») path_is ∙ (start_place modules).1))
    ∙ none)))

current_in_maps : FoundInMaps → StartInMaps → (modules : Modules) (components : List Component) (loading : Loading) → AllPairs AreApart components → IsCurrent modules loading
    → IsCurrent (with_map components modules) (loading_behind_all (gone_by components modules.stored) loading)
current_in_maps found start modules components kept.Start apart is = subst (λ (x : Loading). IsCurrent (with_map components modules) x) (sym (still_start (gone_by components modules.stored))) tt
current_in_maps found start modules components (kept.At path) apart is = subst (λ (x : Loading). IsCurrent (with_map components modules) x) (sym (still_at path (gone_by components modules.stored))) tt
current_in_maps found start modules components (kept.Pending pending) apart is =
    subst (λ (x : Loading). IsCurrent (with_map components modules) x) (sym (pending_behind_all (gone_by components modules.stored) pending)) (pending_in_maps found start modules components pending _ apart refl is)
current_in_maps found start modules components kept.Nothing apart is = subst (λ (x : Loading). IsCurrent (with_map components modules) x) (sym (still_nothing (gone_by components modules.stored))) tt

-- ---- the page

-- with other modules, and what is current there of the document that is wanted once these changes are posted
stands_behind : (changes : List (ℕ × Change)) (page : PageState) (old new : ModulesState) (modules : Modules) (s : State) → StandsFor page old s → of_modules.StandsFor new modules
    → Follows s.modules modules → IsCurrent modules (loading_behind_all changes page.loading) → StandsAmid page new changes (with_modules modules s)
stands_behind changes page old new modules s stands are follows current = record {
  modules_are = are;
  reader = stands.reader;
  document = stands.document;
  wanted = stands.wanted;
  data_event = stands.data_event;
  current = current;
  clock = stands.clock;
  browser = stands.browser;
  happened = stands.happened ++ follows.more;
  reached = reached_later s.modules modules stands.happened stands.reached follows;
  truly = truly_later stands.happened follows.more (memory_of page) stands.truly;
}

pub stands_in_sections : FoundInSections → StartInSections → (page : PageState) (old new : ModulesState) (s : State) (component : ℕ) (section : List ℕ) → StandsFor page old s
    → of_modules.StandsFor new (with_section component section s.modules)
    → StandsAmid page new (map (λ change. (component, change)) (changes_by component section s.modules)) (with_modules (with_section component section s.modules) s)
stands_in_sections found start page old new s component section stands are =
    stands_behind (map (λ change. (component, change)) (changes_by component section s.modules)) page old new (with_section component section s.modules) s stands are
    (record { more = Fed component section ∷ []; reached = refl }) (current_in_sections found start s.modules component section page.loading stands.current)

pub stands_in_maps : FoundInMaps → StartInMaps → (page : PageState) (old new : ModulesState) (s : State) (components : List Component) → AllPairs AreApart components → StandsFor page old s
    → of_modules.StandsFor new (with_map components s.modules) → StandsAmid page new (gone_by components s.modules.stored) (with_modules (with_map components s.modules) s)
stands_in_maps found start page old new s components apart stands are =
    stands_behind (gone_by components s.modules.stored) page old new (with_map components s.modules) s stands are
    (record { more = Mapped components ∷ []; reached = refl }) (current_in_maps found start s.modules components page.loading apart stands.current)

-- ---- a document that is there

-- nothing is wanted then, and so nothing of it was read, whatever the modules are
pub nothing_read : (page : PageState) (modules : Modules) (changes : List (ℕ × Change)) → page.loading ≡ kept.Nothing → IsCurrent modules (loading_behind_all changes page.loading)
nothing_read page modules changes is = subst (λ (loading : Loading). IsCurrent modules (loading_behind_all changes loading)) (sym is) (subst (λ (loading : Loading). IsCurrent modules loading) (sym (still_nothing changes)) tt)
