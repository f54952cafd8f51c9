-- Whatever comes to a receiver, its page stays as its own steps leave it.
use Rattle.std.proofs.Common.{◌≡◌, ℕ, zero, suc, ◌+◌, ◌<◌, Bool, true, false, List, [], ◌∷◌, Option, Some, None, refl}
use Rattle.std.specs.Prelude.{ℤ, IfSome, if◌then◌else◌, map, nat_le}
use Rattle.std.specs.Option.{option_map_or}
use Rattle.std.proofs.lemmas.Bool.{leb-false}
use Rattle.ts_packets.specs.Packet.{pid_of}
use Rattle.event_messages.specs.declared.messages.Message.{Message}
use Rattle.psi_tables.specs.Components.{tag_in}
use Rattle.psi_tables.specs.declared.components.Component.{Component}
use Rattle.psi_tables.specs.Service.{reads_table}
use Rattle.carousel_blocks.specs.declared.changes.Change.{Change}
use Rattle.module_locks.specs.Locks.{changes_by, with_map, with_section}
use Rattle.module_store.specs.Store.{gone_by}
use Rattle.page.specs.Dispatches as dispatches
use Rattle.page.specs.Inputs.{changes_step, due_next, due_step, key_step, message_step, messages_step, with_clock, with_date, with_random}
use Rattle.page.specs.State as page
use Rattle.receiver_core.specs.Outputs.{Input, at_moment, intact_sections, is_due_by, reaches, state_after, state_behind, state_behind_turns, time_passes}
use Rattle.receiver_core.specs.Outputs.{with_packet, with_piece, without_piece}
use Rattle.receiver_core.specs.Outputs.Input.{Date, Packet, Key, Random, Release, Rows, Show, Tick}
use Rattle.receiver_core.specs.State.{State, services, wants}
use Rattle.receiver_core.specs.Turns.{due_turn, key_turn, section_messages, step_of_modules, step_of_section, step_of_table, step_of_tag, turn, with_handled}
use Rattle.page_laws.proofs.StepLemmas.{each_step-kept}

-- what is known of pages: their steps keep this
pub record PageLaws (Good : page.State → Type 0) : Type 0 where
  pub turns : (s : page.State) → Good s → Good (dispatches.turn s).state
  pub sections : (component : ℕ) (section : List ℕ) (s : page.State) → Good s
      → Good (page.with_modules (with_section component section s.modules) s)
  pub maps : (components : List Component) (s : page.State) → Good s
      → Good (page.with_modules (with_map components s.modules) s)
  pub changes : (changes : List (ℕ × Change)) (s : page.State) → Good s
      → Good (changes_step changes s).state
  pub messages : (component : ℕ) (message : Message) (s : page.State) → Good s
      → Good (message_step component message s).state
  pub keys : (key : ℕ) (down : Bool) (s : page.State) → Good s → Good (key_step key down s).state
  pub random : (word : ℕ) (s : page.State) → Good s → Good (with_random word s)
  pub dates : (day : ℤ) (second : ℕ) (s : page.State) → Good s → Good (with_date day second s)
  -- a millisecond passes: timers are due at its end, or none is
  pub due : (s : page.State) → Good s → Good (due_step (s.clock + 1) s).state
  pub clock : (s : page.State) → Good s → IfSome (due_next s) (λ due. s.clock + 1 < due)
      → Good (with_clock (s.clock + 1) s)

-- where no timer is due by a moment, what is due next comes later
none-by : (moment : ℕ) (next : Option ℕ)
    → option_map_or (λ due. nat_le due moment) next false ≡ false
    → IfSome next (λ due. moment < due)
none-by moment None e = tt
none-by moment (Some due) e = leb-false due moment e

module _ (Good : page.State → Type 0) (laws : PageLaws Good) where
  -- ---- sections

  table-kept : (s : State) → Good s.page → Good (step_of_table s).state.page
  table-kept s h =
      let components = (services s).map in
      laws.changes (gone_by components s.page.modules.stored)
      (page.with_modules (with_map components s.page.modules) s.page)
      (laws.maps components s.page h)

  modules-kept : (component : ℕ) (section : List ℕ) (s : State) → Good s.page
      → Good (step_of_modules component section s).state.page
  modules-kept component section s h =
      laws.changes
      (map (λ change. (component, change)) (changes_by component section s.page.modules))
      (page.with_modules (with_section component section s.page.modules) s.page)
      (laws.sections component section s.page h)

  messages-kept : (component : ℕ) (messages : List Message) (s : page.State) → Good s
      → Good (messages_step component messages s).state
  messages-kept component messages s h =
      each_step-kept Good (message_step component) (laws.messages component) messages s h

  tag-kept : (tag : Option ℕ) (section : List ℕ) (s : State) → Good s.page
      → Good (step_of_tag tag section s).state.page
  tag-kept None section s h = h
  tag-kept (Some component) section s h =
      messages-kept component (section_messages section)
      (step_of_modules component section s).state.page (modules-kept component section s h)

  section-kept : (pid : ℕ) (section : List ℕ) (s : State) → Good s.page
      → Good (step_of_section pid section s).state.page
  section-kept pid section s h = by (reads_table s.selection (services s).service pid)
    where
      by : (t : Bool) → Good
          (if t then step_of_table (with_handled pid section s)
          else step_of_tag (tag_in (services s).map pid) section
          (with_handled pid section s)).state.page
      by true = table-kept (with_handled pid section s) h
      by false = tag-kept (tag_in (services s).map pid) section (with_handled pid section s) h

  turn-kept : (pid : ℕ) (section : List ℕ) (s : State) → Good s.page
      → Good (turn pid section s).state.page
  unfolding turn
  turn-kept pid section s h =
      let next : State = (step_of_section pid section s).state in
      laws.turns next.page (section-kept pid section s h)

  turns-kept : (pid : ℕ) (sections : List (List ℕ)) (s : State) → Good s.page
      → Good (state_behind_turns pid sections s).page
  turns-kept pid [] s h = h
  turns-kept pid (section ∷ sections) s h =
      by (wants s pid)
      (turns-kept pid sections (turn pid section s).state (turn-kept pid section s h))
    where
      by : (t : Bool) → Good (state_behind_turns pid sections (turn pid section s).state).page
          → Good
          (if t then state_behind_turns pid sections (turn pid section s).state else s).page
      by true more = more
      by false more = h

  -- ---- time

  reached-kept : (s : State) → Good s.page → Good (reaches (s.page.clock + 1) s).state.page
  unfolding due_turn
  reached-kept s h = by (is_due_by (s.page.clock + 1) s) refl
    where
      by : (due : Bool) → is_due_by (s.page.clock + 1) s ≡ due → Good
          (if due then with_piece (due_turn (s.page.clock + 1) s)
          else without_piece (at_moment (s.page.clock + 1) s)).state.page
      by true e = laws.turns (due_step (s.page.clock + 1) s.page).state (laws.due s.page h)
      by false e = laws.clock s.page h (none-by (s.page.clock + 1) (due_next s.page) e)

  pub time-kept : (count : ℕ) (s : State) → Good s.page → Good (time_passes count s).state.page
  unfolding time_passes
  time-kept zero s h = h
  time-kept (suc more) s h =
      time-kept more (reaches (s.page.clock + 1) s).state (reached-kept s h)

  -- ---- inputs

  key-kept : (key : ℕ) (down : Bool) (s : State) → Good s.page
      → Good (key_turn key down s).state.page
  unfolding key_turn
  key-kept key down s h =
      laws.turns (key_step key down s.page).state (laws.keys key down s.page h)

  after-kept : (input : Input) (s : State) → Good s.page → Good (state_after input s).page
  after-kept (Packet packet) s h =
      turns-kept (pid_of packet) (intact_sections packet s) (with_packet packet s) h
  after-kept (Key key) s h = key-kept key true s h
  after-kept (Release key) s h = key-kept key false s h
  after-kept (Tick count) s h = time-kept count s h
  after-kept (Random word) s h = laws.random word s.page h
  after-kept (Date day second) s h = laws.dates day second s.page h
  after-kept Show s h = h
  after-kept (Rows spacing align) s h = h

  pub behind-kept : (inputs : List Input) (s : State) → Good s.page
      → Good (state_behind s inputs).page
  behind-kept [] s h = h
  behind-kept (input ∷ inputs) s h =
      behind-kept inputs (state_after input s) (after-kept input s h)
