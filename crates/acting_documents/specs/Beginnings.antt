-- How a document begins, and how it ends: its scripts run, and its first events wait; or it gives way to another
-- (after BML, ARIB STD-B24 volume 2, in this project's own profile).
use Rattle.std.specs.Prelude.{ℕ, List, [], ◌∷◌, length, codes}
use Rattle.document_load.specs.Scripts.{unnamed_places}
use Rattle.event_items.specs.Subscriptions.{data_event_items}
use Rattle.event_queue.specs.declared.events.Event.TheVariants as events
use Rattle.document_stages.specs.Acting.{with_first_events, first_focus, with_timers}
use Rattle.acting_documents.specs.Documents.{Document}
use Rattle.acting_documents.specs.Handling.{event_effect}
use Rattle.acting_documents.specs.Runs.{Effect, Scene, and_then, effect_of_change, followed_by, no_event, no_effect, run_program}

-- ---- its scripts

-- the programs that no handler names are those of the script elements, in document order
abbrev pub script_places : Document → List ℕ
script_places d = unnamed_places (length d.programs) d.handlers

-- they run one behind the other
abbrev pub run_scripts : List ℕ → Scene → Effect
run_scripts [] s = no_effect s
run_scripts (place ∷ places) s =
    and_then (run_scripts places) (run_program (codes "script") no_event place s)

-- ---- its beginning

-- Where no script gave the focus to an element, that with the nav-index 0 gets it; then its `load` waits, and
-- the `focus` of that element.
abbrev pub begin : Scene → Effect
begin s = effect_of_change (λ a. with_first_events (first_focus a) a) s

unfoldable pub load_effect : Scene → Effect
load_effect s = and_then begin (run_scripts (script_places s.document) s)

-- ---- its end

-- nothing waits in the document any more, and its timers are dropped; a timer that is set then has the next number
abbrev pub without_waiting : Scene → Scene
without_waiting s =
    record s {
      document = record s.document { queue = [] };
      browser = with_timers (record s.browser.timers { timers = [] }) s.browser;
    }

-- What waits is dropped, and then its body's handler of `unload` runs.
unfoldable pub unload_effect : Scene → Effect
unload_effect s = event_effect events.Unload (without_waiting s)

-- the handlers of these items run for a data event, one behind the other
abbrev pub items_effect : List ℕ → Scene → Effect
items_effect [] s = no_effect s
items_effect (item ∷ items) s =
    followed_by (items_effect items) (event_effect (events.DataEvent item) s)

-- A data event ends it: what waits is dropped, the items that are subscribed before the first of their handlers runs are
-- handled, and then its body's handler of `unload` runs. What these post and start ends with the document.
unfoldable pub data_event_effect : Scene → Effect
data_event_effect s =
    followed_by (event_effect events.Unload)
    (items_effect (data_event_items s.document.items) (without_waiting s))
