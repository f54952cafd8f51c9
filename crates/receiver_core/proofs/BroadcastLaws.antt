-- What is kept of a broadcast, behind one step more.
use Rattle.std.proofs.Common.{◌≡◌, ℕ, ℤ, Bool, true, false, cond, List, [], ◌∷◌, ◌++◌, refl, sym, ap, ap₂, ◌∙◌, subst, append-nil, append_assoc}
use Rattle.std.specs.Prelude.{◌↔◌, AllPairs, OnOk, Option, Some, None, Result, Ok, Err}
use Rattle.std.specs.List.{flat_map, range_with_len}
use Rattle.bml_bytes.specs.declared.refusals.TableFault.{TableFault}
use Rattle.es_reader.specs.Readers.{Reader, IsReader}
use Rattle.psi_tables.specs.declared.components.Component.{Component}
use Rattle.psi_tables.specs.declared.pat.PatEntry.{PatEntry}
use Rattle.psi_tables.specs.declared.services.Selection.{Selection}
use Rattle.psi_tables.specs.Components.{AreApart, tag_in}
use Rattle.psi_tables.specs.History.{Handled, service_of, map_of}
use Rattle.psi_tables.specs.Service.{ServicesState, reads_table}
use Rattle.psi_tables.specs.Service as services_of
use Rattle.carousel_blocks.specs.declared.changes.Change.{Change}
use Rattle.event_messages.specs.Messages.{HasMessages}
use Rattle.event_messages.specs.Reading.{messages_in}
use Rattle.event_messages.specs.declared.messages.Message.{Message}
use Rattle.module_store.specs.Store.{gone_by, gone_with, tag_bound}
use Rattle.module_locks.specs.Locks.{Modules, at_start, changes_by, with_map, with_section}
use Rattle.module_locks.specs.Standing.{ForModules, ModulesState}
use Rattle.module_locks.specs.Standing as of_modules
use Rattle.page.specs.Dispatches as dispatches
use Rattle.page.specs.Inputs.{messages_step, with_date, with_random}
use Rattle.page.specs.Standing.{PageState, page_area}
use Rattle.page.specs.Standing as pages
use Rattle.page.specs.State as paging
use Rattle.page.specs.State.{area_of}
use Rattle.receiver_core.specs.BroadcastCalls.{MakesInput}
use Rattle.receiver_core.specs.Broadcasts.{BroadcastState, HasMade, HasOutcome, Makes, StandsFor}
use Rattle.receiver_core.specs.Outputs.{Piece, with_piece}
use Rattle.receiver_core.specs.State.{State, opening, services, wants}
use Rattle.receiver_core.specs.Turns.{Step, display_step, due_turn, key_turn, messages_of_reading, of_page, page_turn, rows_step, section_messages, step_of_component, step_of_modules, step_of_section, step_of_table, step_of_tag, turn}
use Rattle.receiver_core.specs.Turns.{with_changes, with_handled, with_messages, with_modules, with_turn}
use Rattle.receiver_core.specs.declared.broadcast.Input.TheVariants as handed
use Rattle.text_lines.specs.RowLines.{with_rows}
use Rattle.text_lines.specs.declared.row_lines.Align.{Align}
use Rattle.receiver_core.proofs.PostingLaws.{in_component}

same_services : (a b : ServicesState) → a.selection ≡ b.selection → a.service ≡ b.service → a.map ≡ b.map → a ≡ b
same_services a b selection service map =
    ap (λ (x : Selection). record { selection = x; service = a.service; map = a.map }) selection
    ∙ ap (λ (x : Option PatEntry). record { selection = b.selection; service = x; map = a.map }) service
    ∙ ap (λ (x : List Component). record { selection = b.selection; service = b.service; map = x }) map

-- the services that are kept are those of the state
pub services_are : (state : BroadcastState) (s : State) → StandsFor state s → state.services ≡ services s
services_are state s stands = same_services state.services (services s) stands.selection
    (stands.services.service ∙ ap (λ (x : Selection). service_of x s.handled) stands.selection)
    (stands.services.map ∙ ap (λ (x : Selection). map_of x s.handled) stands.selection)

-- ---- changes in the modules

-- behind what a section leaves in the modules, the page is in the same state but for them, and the changes are still to be posted
abbrev pub StaysInSections : Type 0
StaysInSections = (page : PageState) (old new : ModulesState) (s : paging.State) (component : ℕ) (section : List ℕ) → pages.StandsFor page old s
    → of_modules.StandsFor new (with_section component section s.modules)
    → pages.StandsAmid page new (in_component component (changes_by component section s.modules)) (paging.with_modules (with_section component section s.modules) s)

-- and behind what a map leaves
abbrev pub StaysInMaps : Type 0
StaysInMaps = (page : PageState) (old new : ModulesState) (s : paging.State) (components : List Component) → AllPairs AreApart components → pages.StandsFor page old s
    → of_modules.StandsFor new (with_map components s.modules)
    → pages.StandsAmid page new (gone_by components s.modules.stored) (paging.with_modules (with_map components s.modules) s)

-- the components of a map have different tags
abbrev pub HasDistinctTags : Type 0
HasDistinctTags = (selection : Selection) (handled : List Handled) → AllPairs AreApart (map_of selection handled)

-- ---- before the first section

none_of_each : (f : ℕ → List (ℕ × Change)) (tags : List ℕ) → ((tag : ℕ) → f tag ≡ []) → flat_map f tags ≡ []
none_of_each f [] none = refl
none_of_each f (tag ∷ tags) none = ap (λ (l : List (ℕ × Change)). l ++ flat_map f tags) (none tag) ∙ none_of_each f tags none

-- where there are no components nothing is gone
none_gone_at_start : (components : List Component) → gone_by components at_start.stored ≡ []
none_gone_at_start components = none_of_each (λ tag. gone_with components None) (range_with_len 0 tag_bound) (λ tag. refl)

pub stands_first : HasDistinctTags → StaysInMaps → (services : ServicesState) (before new : ModulesState) (page : PageState) (selection : Selection) (area : List ℕ) → services.selection ≡ selection
    → services_of.StandsFor services [] → of_modules.StandsFor before at_start
    → ForModules before (λ modules. of_modules.StandsFor new (with_map services.map modules))
    → ((read : Reader) → IsReader read → (modules : ModulesState) → of_modules.StandsFor modules at_start → pages.StandsFor page modules (paging.opening read area))
    → (read : Reader) → IsReader read → StandsFor (record { services = services; modules = new; page = page }) (opening read selection area)
stands_first apart stays services before new page selection area same stands first sets fresh read right =
    let map : List Component = map_of selection [] in
    let map_is : services.map ≡ map = stands.map ∙ ap (λ (x : Selection). map_of x []) same in
    let set : of_modules.StandsFor new (with_map map at_start) = subst (λ (l : List Component). of_modules.StandsFor new (with_map l at_start)) map_is (sets at_start first) in
    record {
      selection = same;
      services = stands;
      page = subst (λ (l : List (ℕ × Change)). pages.StandsAmid page new l (paging.with_modules (with_map map at_start) (paging.opening read area))) (none_gone_at_start map)
          (stays page before new (paging.opening read area) map (apart selection []) (fresh read right before first) set);
    }

-- ---- steps of the page

abbrev pub with_page : BroadcastState → PageState → BroadcastState
with_page state page = record { services = state.services; modules = state.modules; page = page }

pub stands_with : (state : BroadcastState) (page : PageState) (s : State) (t : paging.State) → StandsFor state s → pages.StandsFor page state.modules t → StandsFor (with_page state page) (record s { page = t })
stands_with state page s t stands its = record {
  selection = stands.selection;
  services = stands.services;
  page = its;
}

pub page_made : (step : paging.State → paging.Step) (old : BroadcastState) (page : PageState) (before after : List ℕ) → pages.Makes step old.page page before after → Makes (λ s. of_page s (step s.page)) old (with_page old page) before after
page_made step old page before after made = record {
  text = made.text;
  printed = made.printed;
  makes = λ s stands.
      let its = made.makes old.modules s.page stands.page in
      record { stands = stands_with old page s (step s.page).state stands its.stands; text_is = its.text_is };
}

-- the turn of the page, which may lock and unlock modules
pub turn_made : (old : BroadcastState) (modules : ModulesState) (page : PageState) (before after : List ℕ) → pages.MakesWith old.modules modules dispatches.turn old.page page before after
    → Makes page_turn old (record { services = old.services; modules = modules; page = page }) before after
turn_made old modules page before after made = record {
  text = made.text;
  printed = made.printed;
  makes = λ s stands.
      let its = made.makes s.page stands.page in
      record {
        stands = record { selection = stands.selection; services = stands.services; page = its.stands };
        text_is = its.text_is;
      };
}

-- ---- the persistent area

-- that which is kept is that of the state
pub area_kept : (state : BroadcastState) (s : State) → StandsFor state s → page_area state.page ≡ area_of s.page
area_kept state s stands = ap (λ b. b.area) stands.page.browser

-- ---- inputs that are handed in whole

-- a step, whose text is a piece
pub has_piece : (new : BroadcastState) (text : List ℕ) (t : Step) → HasMade new text t
    → HasOutcome new (record { text = text; area = page_area new.page } ∷ []) (with_piece t)
has_piece new text t has = record {
  stands = has.stands;
  pieces_are = ap₂ piece has.text_is (area_kept new t.state has.stands);
}
  where
    piece : List ℕ → List ℕ → List Piece
    piece text area = record { text = text; area = area } ∷ []

pub key_made : (key : ℕ) (old new : BroadcastState) (before after : List ℕ)
    → Makes (key_turn key true) old new before after → MakesInput (handed.Key key) old new before after
key_made key old new before after made = record {
  text = made.text;
  printed = made.printed;
  area = λ silent. absurd silent;
  gives = λ s stands. has_piece new made.text (key_turn key true s) (made.makes s stands);
}

pub release_made : (key : ℕ) (old new : BroadcastState) (before after : List ℕ)
    → Makes (key_turn key false) old new before after → MakesInput (handed.Release key) old new before after
release_made key old new before after made = record {
  text = made.text;
  printed = made.printed;
  area = λ silent. absurd silent;
  gives = λ s stands. has_piece new made.text (key_turn key false s) (made.makes s stands);
}

pub shown : (old new : BroadcastState) (before after : List ℕ)
    → Makes display_step old new before after → MakesInput handed.Show old new before after
shown old new before after made = record {
  text = made.text;
  printed = made.printed;
  area = λ silent. absurd silent;
  gives = λ s stands.
      has_piece new made.text (display_step s) (made.makes s stands);
}

-- the lines of a display list, which come alone, and those with their rows
pub rows_made : (spacing : ℕ) (align : Align) (old new : BroadcastState)
    (first lines read before after : List ℕ)
    → first ≡ [] → Makes display_step old new first lines
    → read ≡ lines → after ≡ before ++ with_rows spacing align read
    → Makes (rows_step spacing align) old new before after
rows_made spacing align old new first lines read before after none made same added = record {
  text = with_rows spacing align made.text;
  printed =
      added
      ∙ ap (λ (l : List ℕ). before ++ with_rows spacing align l)
      (same ∙ made.printed ∙ ap (λ (l : List ℕ). l ++ made.text) none);
  makes = λ s stands.
      let its = made.makes s stands in
      record { stands = its.stands; text_is = ap (with_rows spacing align) its.text_is };
}

pub rows_shown : (spacing : ℕ) (align : Align) (old new : BroadcastState) (before after : List ℕ)
    → Makes (rows_step spacing align) old new before after
    → MakesInput (handed.Rows spacing align) old new before after
rows_shown spacing align old new before after made = record {
  text = made.text;
  printed = made.printed;
  area = λ silent. absurd silent;
  gives = λ s stands.
      has_piece new made.text (rows_step spacing align s) (made.makes s stands);
}

pub random_added : (word : ℕ) (old : BroadcastState) (page : PageState) (before : List ℕ)
    → ((modules : ModulesState) (s : paging.State) → pages.StandsFor old.page modules s → pages.StandsFor page modules (with_random word s))
    → page_area page ≡ page_area old.page
    → MakesInput (handed.Random word) old (with_page old page) before before
random_added word old page before added same = record {
  text = [];
  printed = sym (append-nil before);
  area = λ silent. same;
  gives = λ s stands. record {
    stands = stands_with old page s (with_random word s.page) stands (added old.modules s.page stands.page);
    pieces_are = refl;
  };
}

-- (the day was handed on as a number of 32 bits)
pub dated : (day told : ℤ) → told ≡ day → (second : ℕ) (old : BroadcastState) (page : PageState) (before : List ℕ)
    → ((modules : ModulesState) (s : paging.State) → pages.StandsFor old.page modules s → pages.StandsFor page modules (with_date told second s))
    → page_area page ≡ page_area old.page
    → MakesInput (handed.Date day second) old (with_page old page) before before
dated day told is second old page before sets same = record {
  text = [];
  printed = sym (append-nil before);
  area = λ silent. same;
  gives = λ s stands. record {
    stands = stands_with old page s (with_date day second s.page) stands
        (subst (λ (z : ℤ). pages.StandsFor page old.modules (with_date z second s.page)) is (sets old.modules s.page stands.page));
    pieces_are = refl;
  };
}

-- a date that was handed on so
pub date_made : {day told : ℤ} → told ≡ day → (second : ℕ) (old new : BroadcastState) (text : List ℕ)
    → MakesInput (handed.Date told second) old new text text
    → MakesInput (handed.Date day second) old new text text
date_made is second old new text made =
    subst (λ (z : ℤ). MakesInput (handed.Date z second) old new text text) is made

-- ---- changes that are posted

-- the modules went on, and their changes are posted to the page
has_posted : (state : BroadcastState) (old : PageState) (before after : List ℕ) (changes there : List (ℕ × Change)) (now : State) → changes ≡ there
    → (posted : pages.Posts changes old state.page before after) → pages.StandsAmid old state.modules there now.page
    → state.services.selection ≡ now.selection → services_of.StandsFor state.services now.handled
    → HasMade state posted.text (with_changes there now)
has_posted state old before after changes there now same posted amid selection handled =
    let made = posted.makes state.modules [] now.page (subst (λ (l : List (ℕ × Change)). pages.StandsAmid old state.modules l now.page) (sym (append-nil changes ∙ same)) amid) in
    let stands : StandsFor state (with_changes changes now).state = record { selection = selection; services = handled; page = made.stands } in
    subst (λ (l : List (ℕ × Change)). HasMade state posted.text (with_changes l now)) same (record { stands = stands; text_is = made.text_is })

-- ---- a section that isn't read as a table

-- a section on a PID that isn't read as a table changes nothing of the tables
abbrev pub PassesUnread : Type 0
PassesUnread = (state : ServicesState) (history : List Handled) (handled : Handled) → reads_table state.selection state.service handled.pid ≡ false
    → services_of.StandsFor state history → services_of.StandsFor state (history ++ handled ∷ [])

handled_unread : PassesUnread → (state : BroadcastState) (s : State) (pid : ℕ) (section : List ℕ) → StandsFor state s → reads_table state.services.selection state.services.service pid ≡ false → StandsFor state (with_handled pid section s)
handled_unread passing state s pid section stands unread = record {
  selection = stands.selection;
  services = passing state.services s.handled (record { pid = pid; section = section }) unread stands.services;
  page = stands.page;
}

step_unread : (s : State) (pid : ℕ) (section : List ℕ) (tag : Option ℕ) → reads_table s.selection (services s).service pid ≡ false → tag_in (services s).map pid ≡ tag
    → step_of_section pid section s ≡ step_of_tag tag section (with_handled pid section s)
step_unread s pid section tag unread is = rw (unread, is) refl

unread_by : (state : BroadcastState) (s : State) (pid : ℕ) → StandsFor state s → reads_table state.services.selection state.services.service pid ≡ false → reads_table s.selection (services s).service pid ≡ false
unread_by state s pid stands unread = subst (λ (x : ServicesState). reads_table x.selection x.service pid ≡ false) (services_are state s stands) unread

tag_by : (state : BroadcastState) (s : State) (pid : ℕ) (tag : Option ℕ) → StandsFor state s → tag_in state.services.map pid ≡ tag → tag_in (services s).map pid ≡ tag
tag_by state s pid tag stands is = subst (λ (x : ServicesState). tag_in x.map pid ≡ tag) (services_are state s stands) is

-- no component is on its PID
pub passes : PassesUnread → (state : BroadcastState) (pid : ℕ) (section before : List ℕ) → reads_table state.services.selection state.services.service pid ≡ false → tag_in state.services.map pid ≡ None
    → Makes (step_of_section pid section) state state before before
passes passing state pid section before unread none = record {
  text = [];
  printed = sym (append-nil before);
  makes = λ s stands.
      subst (λ (t : Step). HasMade state [] t)
      (sym (step_unread s pid section None (unread_by state s pid stands unread) (tag_by state s pid None stands none)))
      (record { stands = handled_unread passing state s pid section stands unread; text_is = refl });
}

-- a section of a table, and one of the component on its PID, are taken so

step_table : (s : State) (pid : ℕ) (section : List ℕ) → reads_table s.selection (services s).service pid ≡ true
    → step_of_section pid section s ≡ step_of_table (with_handled pid section s)
step_table s pid section read = rw read refl

read_by : (state : BroadcastState) (s : State) (pid : ℕ) → StandsFor state s → reads_table state.services.selection state.services.service pid ≡ true → reads_table s.selection (services s).service pid ≡ true
read_by state s pid stands read = subst (λ (x : ServicesState). reads_table x.selection x.service pid ≡ true) (services_are state s stands) read

made_as : (step other : State → Step) (old new : BroadcastState) (before after : List ℕ) → ((s : State) → StandsFor old s → other s ≡ step s)
    → Makes step old new before after → Makes other old new before after
made_as step other old new before after same made = record {
  text = made.text;
  printed = made.printed;
  makes = λ s stands. subst (λ (t : Step). HasMade new made.text t) (sym (same s stands)) (made.makes s stands);
}

pub taken_as_table : {A E : Type 0} (result : Result A E) (old new : BroadcastState) (pid : ℕ) (section before after : List ℕ) → reads_table old.services.selection old.services.service pid ≡ true
    → OnOk result (Makes (λ s. step_of_table (with_handled pid section s)) old new before after) → OnOk result (Makes (step_of_section pid section) old new before after)
taken_as_table (Err refusal) old new pid section before after read made = tt
taken_as_table (Ok done) old new pid section before after read made =
    made_as (λ s. step_of_table (with_handled pid section s)) (step_of_section pid section) old new before after
    (λ s stands. step_table s pid section (read_by old s pid stands read)) made

pub taken_as_data : {A E : Type 0} (result : Result A E) (old new : BroadcastState) (pid component : ℕ) (section before after : List ℕ) → reads_table old.services.selection old.services.service pid ≡ false
    → tag_in old.services.map pid ≡ Some component → OnOk result (Makes (λ s. step_of_component component section (with_handled pid section s)) old new before after)
    → OnOk result (Makes (step_of_section pid section) old new before after)
taken_as_data (Err refusal) old new pid component section before after unread there made = tt
taken_as_data (Ok done) old new pid component section before after unread there made =
    made_as (λ s. step_of_component component section (with_handled pid section s)) (step_of_section pid section) old new before after
    (λ s stands. step_unread s pid section (Some component) (unread_by old s pid stands unread) (tag_by old s pid (Some component) stands there)) made

-- ---- a section of a component

-- the changes that it makes
pub changes_taken : PassesUnread → StaysInSections → (old : BroadcastState) (new : ModulesState) (page : PageState) (changes : List Change) (pid component : ℕ) (section before after : List ℕ)
    → reads_table old.services.selection old.services.service pid ≡ false
    → ForModules old.modules (λ modules. of_modules.StandsFor new (with_section component section modules))
    → ForModules old.modules (λ modules. changes ≡ changes_by component section modules)
    → pages.Posts (in_component component changes) old.page page before after
    → Makes (λ s. step_of_modules component section (with_handled pid section s)) old (record { services = old.services; modules = new; page = page }) before after
changes_taken passing stays old new page changes pid component section before after unread feeds told posted = record {
  text = posted.text;
  printed = posted.printed;
  makes = λ s stands.
      let handled = handled_unread passing old s pid section stands unread in
      let modules : Modules = s.page.modules in
      let had : of_modules.StandsFor old.modules modules = stands.page.modules_are in
      has_posted (record { services = old.services; modules = new; page = page }) old.page before after (in_component component changes) (in_component component (changes_by component section modules))
      (with_modules (with_section component section modules) (with_handled pid section s))
      (ap (in_component component) (told modules had)) posted (stays old.page old.modules new s.page component section stands.page (feeds modules had))
      handled.selection handled.services;
}

-- its event messages
pub messages_taken : (component : ℕ) (section : List ℕ) (messages : List Message) (old : BroadcastState) (page : PageState) (before after : List ℕ) → messages ≡ section_messages section
    → pages.Makes (messages_step component messages) old.page page before after
    → Makes (λ s. of_page s (messages_step component (section_messages section) s.page)) old (with_page old page) before after
messages_taken component section messages old page before after are made =
    page_made (messages_step component (section_messages section)) old page before after
    (subst (λ (l : List Message). pages.Makes (messages_step component l) old.page page before after) are made)

-- a section that isn't read as messages has none
pub none_read : (section : List ℕ) → ((messages : List Message) → HasMessages section messages ↔ (messages_in section ≡ Ok messages)) → ((messages : List Message) → ¬ HasMessages section messages) → [] ≡ section_messages section
none_read section read none = by (messages_in section) (λ messages is. none messages ((read messages).1 is))
  where
    by : (reading : Result (List Message) TableFault) → ((messages : List Message) → ¬ (reading ≡ Ok messages)) → [] ≡ messages_of_reading reading
    by (Ok messages) unread = absurd (unread messages refl)
    by (Err fault) unread = refl

-- ---- a table

-- what the tables make of a section
abbrev pub Feeds : ServicesState → ServicesState → ℕ → List ℕ → Type 0
Feeds old new pid section = (handled : List Handled) → services_of.StandsFor old handled → services_of.StandsFor new (handled ++ record { pid = pid; section = section } ∷ [])

map_behind : (old : BroadcastState) (tables : ServicesState) (pid : ℕ) (section : List ℕ) (s : State) → tables.selection ≡ old.services.selection → Feeds old.services tables pid section → StandsFor old s
    → tables.map ≡ (services (with_handled pid section s)).map
map_behind old tables pid section s same feeds stands =
    (feeds s.handled stands.services).map ∙ ap (λ (x : Selection). map_of x (with_handled pid section s).handled) (same ∙ stands.selection)

pub table_taken : HasDistinctTags → StaysInMaps → (old : BroadcastState) (tables : ServicesState) (new : ModulesState) (page : PageState) (went : List (ℕ × Change)) (pid : ℕ) (section before after : List ℕ)
    → tables.selection ≡ old.services.selection → Feeds old.services tables pid section
    → ForModules old.modules (λ modules. of_modules.StandsFor new (with_map tables.map modules))
    → ForModules old.modules (λ modules. went ≡ gone_by tables.map modules.stored)
    → pages.Posts went old.page page before after
    → Makes (λ s. step_of_table (with_handled pid section s)) old (record { services = tables; modules = new; page = page }) before after
table_taken apart stays old tables new page went pid section before after same feeds sets told posted = record {
  text = posted.text;
  printed = posted.printed;
  makes = λ s stands.
      let now = with_handled pid section s in
      let map : List Component = (services now).map in
      let map_is : tables.map ≡ map = map_behind old tables pid section s same feeds stands in
      let modules : Modules = s.page.modules in
      let had : of_modules.StandsFor old.modules modules = stands.page.modules_are in
      has_posted (record { services = tables; modules = new; page = page }) old.page before after went (gone_by map modules.stored) (with_modules (with_map map modules) now)
      (told modules had ∙ ap (λ (l : List Component). gone_by l modules.stored) map_is) posted
      (stays old.page old.modules new s.page map (apart s.selection now.handled) stands.page
      (subst (λ (l : List Component). of_modules.StandsFor new (with_map l modules)) map_is (sets modules had)))
      (same ∙ stands.selection) (feeds s.handled stands.services);
}

-- ---- two steps

-- the second step is made behind the first
abbrev behind_step : (State → Step) → (State → Step) → State → Step
behind_step step next s = record { state = (next (step s).state).state; text = (step s).text ++ (next (step s).state).text }

made_both : (step next : State → Step) (old mid new : BroadcastState) (before between after : List ℕ) → Makes step old mid before between → Makes next mid new between after → Makes (behind_step step next) old new before after
made_both step next old mid new before between after first second = record {
  text = first.text ++ second.text;
  printed = second.printed ∙ ap (λ (l : List ℕ). l ++ second.text) first.printed ∙ append_assoc before first.text second.text;
  makes = λ s stands.
      let one = first.makes s stands in
      let two = second.makes (step s).state one.stands in
      record { stands = two.stands; text_is = ap₂ (λ (a b : List ℕ). a ++ b) one.text_is two.text_is };
}

-- a step, and the event messages behind it
pub made_with_messages : (component : ℕ) (messages : List Message) (step : State → Step) (old mid new : BroadcastState) (before between after : List ℕ) → Makes step old mid before between
    → Makes (λ s. of_page s (messages_step component messages s.page)) mid new between after → Makes (λ s. with_messages component messages (step s)) old new before after
made_with_messages component messages step = made_both step (λ s. of_page s (messages_step component messages s.page))

-- a step, and the turn of the page
pub made_with_turn : (step : State → Step) (old mid new : BroadcastState) (before between after : List ℕ) → Makes step old mid before between → Makes page_turn mid new between after → Makes (λ s. with_turn (step s)) old new before after
made_with_turn step = made_both step page_turn

-- ---- the packets that a turn leaves

-- a PID that isn't wanted has no packets, and each other one those that it had
abbrev KeepsWanted : State → State → Type 0
KeepsWanted s now = (other : ℕ) → now.packets other ≡ cond (wants now other) (s.packets other) []

keeps_by_tag : (s now : State) (tag : Option ℕ) (section : List ℕ) → KeepsWanted s now → KeepsWanted s (step_of_tag tag section now).state
keeps_by_tag s now None section k = k
keeps_by_tag s now (Some component) section k = λ other. k other

keeps_by_section : (s : State) (pid : ℕ) (section : List ℕ) (table : Bool) → KeepsWanted s (cond table (step_of_table (with_handled pid section s)) (step_of_tag (tag_in (services s).map pid) section (with_handled pid section s))).state
keeps_by_section s pid section true = λ other. refl
keeps_by_section s pid section false = keeps_by_tag s (with_handled pid section s) (tag_in (services s).map pid) section (λ other. refl)

pub turn_packets : (pid : ℕ) (section : List ℕ) (s : State) (other : ℕ) → (turn pid section s).state.packets other ≡ cond (wants (turn pid section s).state other) (s.packets other) []
unfolding turn
turn_packets pid section s = keeps_by_section s pid section (reads_table s.selection (services s).service pid)

pub key_packets : (key : ℕ) (down : Bool) (s : State) → (key_turn key down s).state.packets ≡ s.packets
unfolding key_turn
key_packets key down s = refl

pub due_packets : (moment : ℕ) (s : State) → (due_turn moment s).state.packets ≡ s.packets
unfolding due_turn
due_packets moment s = refl

-- ---- what comes of what a call answers

pub on_ok : {A E P Q : Type 0} (result : Result A E) → (P → Q) → OnOk result P → OnOk result Q
on_ok (Ok x) f p = f p
on_ok (Err e) f p = tt
