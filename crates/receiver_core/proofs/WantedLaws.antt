-- A section leaves its own PID wanted.
use Rattle.std.proofs.Common.{◌≡◌, ◌∙◌, ℕ, suc, Bool, true, false, cond, eqb, List, [], ◌∷◌, ◌++◌, length, Option, Some, None, refl, ap, append-nil}
use Rattle.std.specs.Prelude.{◌||◌, if◌then◌else◌, is_some}
use Rattle.std.specs.List.{cons_option, filter_map}
use Rattle.std.proofs.lemmas.List.Elements.{filter_map-append}
use Rattle.psi_tables.specs.declared.components.Component.{Component}
use Rattle.psi_tables.specs.declared.pat.PatEntry.{PatEntry}
use Rattle.psi_tables.specs.declared.services.Selection.{Selection}
use Rattle.psi_tables.specs.declared.services.Selection.TheVariants as selections
use Rattle.psi_tables.specs.Components.{tag_in}
use Rattle.psi_tables.specs.History.{Handled, is_on, last_of, map_of, service_in_pat, service_named, service_of}
use Rattle.psi_tables.specs.Service.{reads_table}
use Rattle.receiver_core.specs.Outputs.{piece_of, pieces_of_turns}
use Rattle.receiver_core.specs.State.{State, services, wants}
use Rattle.receiver_core.specs.Turns.{step_of_table, step_of_tag, turn, with_handled, with_turn}

-- a section on a PID on which no table is read changes neither the service nor the map
abbrev pub SameService : Type 0
SameService = (selection : Selection) (history : List Handled) (handled : Handled) → reads_table selection (service_of selection history) handled.pid ≡ false → service_of selection (history ++ handled ∷ []) ≡ service_of selection history

abbrev pub SameMap : Type 0
SameMap = (selection : Selection) (history : List Handled) (handled : Handled) → reads_table selection (service_of selection history) handled.pid ≡ false → map_of selection (history ++ handled ∷ []) ≡ map_of selection history

-- a section that isn't on PID 0 names no service
other_service : (selection : Selection) (history : List Handled) (handled : Handled) → eqb handled.pid 0 ≡ false → service_of selection (history ++ handled ∷ []) ≡ service_of selection history
other_service selection history handled e =
    ap (λ (l : List PatEntry). last_of l)
    (filter_map-append (service_named selection) history (handled ∷ [])
    ∙ ap (λ (b : Bool). filter_map (service_named selection) history ++ cons_option (cond b (service_in_pat selection handled.section) None) []) e
    ∙ append-nil (filter_map (service_named selection) history))

-- where tables are read, they still are
either : (zero on : Bool) → zero ≡ false → (zero || on) ≡ true → on ≡ true
either true on e h = absurd cc
either false on e h = h

still_on : (selection : Selection) (history : List Handled) (handled : Handled) → (eqb handled.pid 0 || is_on (service_of selection history) handled.pid) ≡ true → (eqb handled.pid 0 || is_on (service_of selection (history ++ handled ∷ [])) handled.pid) ≡ true
still_on selection history handled h = by (eqb handled.pid 0) refl
  where
    by : (zero : Bool) → eqb handled.pid 0 ≡ zero → (eqb handled.pid 0 || is_on (service_of selection (history ++ handled ∷ [])) handled.pid) ≡ true
    by true e = ap (λ (b : Bool). b || is_on (service_of selection (history ++ handled ∷ [])) handled.pid) e
    by false e =
        ap (λ (b : Bool). b || is_on (service_of selection (history ++ handled ∷ [])) handled.pid) e
        ∙ ap (λ (o : Option PatEntry). is_on o handled.pid) (other_service selection history handled e)
        ∙ either (eqb handled.pid 0) (is_on (service_of selection history) handled.pid) e h

still_read : (selection : Selection) (history : List Handled) (handled : Handled) → reads_table selection (service_of selection history) handled.pid ≡ true → reads_table selection (service_of selection (history ++ handled ∷ [])) handled.pid ≡ true
still_read selections.First history handled h = still_on selections.First history handled h
still_read (selections.Service program) history handled h = still_on (selections.Service program) history handled h
still_read (selections.Pid pid) history handled h = absurd cc

-- the page changes neither
turned_services : (pid : ℕ) (section : List ℕ) (s : State) → services (turn pid section s).state ≡ services (with_handled pid section s)
unfolding turn
turned_services pid section s = by (reads_table s.selection (services s).service pid) (tag_in (services s).map pid)
  where
    by : (reads : Bool) (tag : Option ℕ)
        → services (with_turn (if reads then step_of_table (with_handled pid section s) else step_of_tag tag section (with_handled pid section s))).state ≡ services (with_handled pid section s)
    by true tag = refl
    by false None = refl
    by false (Some component) = refl

pub still_wanted : SameService → SameMap → (pid : ℕ) (section : List ℕ) (s : State) → wants s pid ≡ true → wants (turn pid section s).state pid ≡ true
still_wanted same_service same_map pid section s h =
    ap (λ x. reads_table x.selection x.service pid || is_some (tag_in x.map pid)) (turned_services pid section s)
    ∙ by (reads_table s.selection (services s).service pid) refl
  where
    handled : Handled
    handled = record { pid = pid; section = section }

    now : List Handled
    now = s.handled ++ handled ∷ []

    by : (reads : Bool) → reads_table s.selection (services s).service pid ≡ reads → (reads_table s.selection (service_of s.selection now) pid || is_some (tag_in (map_of s.selection now) pid)) ≡ true
    by true e = ap (λ (b : Bool). b || is_some (tag_in (map_of s.selection now) pid)) (still_read s.selection s.handled handled e)
    by false e =
        ap (λ (o : Option PatEntry). reads_table s.selection o pid || is_some (tag_in (map_of s.selection now) pid)) (same_service s.selection s.handled handled e)
        ∙ ap (λ (m : List Component). reads_table s.selection (service_of s.selection s.handled) pid || is_some (tag_in m pid)) (same_map s.selection s.handled handled e)
        ∙ h

pub each_turned : SameService → SameMap → (pid : ℕ) (sections : List (List ℕ)) (s : State) → wants s pid ≡ true → length (pieces_of_turns pid sections s) ≡ length sections
each_turned same_service same_map pid [] s h = refl
each_turned same_service same_map pid (section ∷ sections) s h =
    ap (λ (b : Bool). length (cond b (piece_of (turn pid section s) ∷ pieces_of_turns pid sections (turn pid section s).state) [])) h
    ∙ ap suc (each_turned same_service same_map pid sections (turn pid section s).state (still_wanted same_service same_map pid section s h))
