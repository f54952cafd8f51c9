-- What one section of a component changes where no document is there, and its turn where this makes no dispatch.
use Rattle.std.proofs.Common.{◌≡◌, ℕ, Bool, true, false, ◌||◌, List, [], ◌∷◌, ◌++◌, refl, sym, ap, ap₂, ◌∙◌, subst, append-nil, if◌then◌else◌}
use Rattle.std.specs.Prelude.{All, Option, Some, None, is_some}
use Rattle.std.specs.List.{flat_map}
use Rattle.std.specs.Option.{option_map_or}
use Rattle.std.proofs.lemmas.List.Elements.{All-head, All-tail}
use Rattle.psi_tables.specs.declared.components.Component.{Component}
use Rattle.psi_tables.specs.declared.pat.PatEntry.{PatEntry}
use Rattle.psi_tables.specs.declared.services.Selection.{Selection}
use Rattle.psi_tables.specs.Components.{tag_in}
use Rattle.psi_tables.specs.History.{Handled, map_of, service_of}
use Rattle.psi_tables.specs.Service.{ServicesState, reads_table}
use Rattle.carousel_blocks.specs.declared.changes.Change.{Change}
use Rattle.carousel_blocks.specs.declared.changes.ChangeLine.{ChangeLine}
use Rattle.carousel_blocks.specs.Message.{Message, messages_of}
use Rattle.module_store.specs.Lines.{line_of_change, line_with}
use Rattle.module_store.specs.Store.{messages_of_component}
use Rattle.module_locks.specs.Locks.{changes_by, with_section}
use Rattle.carousel_laws.specs.Services.{IsDelivery}
use Rattle.page.specs.Dispatches as dispatches
use Rattle.page.specs.State as page
use Rattle.receiver_core.specs.State.{State, services, wants}
use Rattle.receiver_core.specs.Turns.{Step, of_page, section_messages, step_of_component, step_of_section, step_of_table, step_of_tag, turn, with_handled, with_messages, with_modules}
use Rattle.block_order_laws.specs.FirstLoads.{AwaitsDocument, Delivery, HasModuleLines, page_amid_turn}
use Rattle.block_order_laws.proofs.PageLemmas as quiet

-- the laws of services that are used
pub record TableLaws : Type 0 where
  pub service : (selection : Selection) (history : List Handled) (handled : Handled) → reads_table selection (service_of selection history) handled.pid ≡ false
      → service_of selection (history ++ handled ∷ []) ≡ service_of selection history
  pub map : (selection : Selection) (history : List Handled) (handled : Handled) → reads_table selection (service_of selection history) handled.pid ≡ false
      → map_of selection (history ++ handled ∷ []) ≡ map_of selection history

-- ---- deliveries are lines `module`

pub module_lines : (tag : ℕ) (changes : List Change) → All IsDelivery changes → HasModuleLines tag (flat_map (line_of_change tag) changes)
module_lines tag [] all = ([], refl)
module_lines tag (change ∷ changes) all =
    let first = All-head IsDelivery change changes all in
    let others = module_lines tag changes (All-tail IsDelivery change changes all) in
    let d : Delivery = record { «module» = change.«module»; version = first.version; size = first.size } in (
      d ∷ others.0,
      ap₂ (λ (a b : List ℕ). a ++ b) (ap (λ (o : Option ChangeLine). option_map_or (line_with tag change.«module») o []) first.line_is) others.1,
    )

-- ---- one section

-- The step leaves this of the page and of the services, and prints the lines of the changes.
pub record IsQuietStep (s : State) (tag : ℕ) (section : List ℕ) (t : Step) : Type 0 where
  pub page_is : t.state.page ≡ page.with_modules (with_section tag section s.page.modules) s.page
  pub services_are : services t.state ≡ services s
  pub text_is : t.text ≡ flat_map (line_of_change tag) (changes_by tag section s.page.modules)

component_step : (tag : ℕ) (section : List ℕ) (now : State) → now.page.document ≡ None → All IsDelivery (changes_by tag section now.page.modules)
    → step_of_component tag section now
    ≡ record { state = with_modules (with_section tag section now.page.modules) now; text = flat_map (line_of_change tag) (changes_by tag section now.page.modules) }
component_step tag section now none told =
    ap (with_messages tag (section_messages section))
    (ap (of_page after) (quiet.changes_are after.page none tag (changes_by tag section now.page.modules) told))
    ∙ ap (λ (come : page.Step). let t : Step = record { state = (of_page after come).state; text = lines ++ come.text } in t) (quiet.messages_are after.page none tag (section_messages section))
    ∙ ap (λ text. let t : Step = record { state = after; text = text } in t) (append-nil lines)
  where
    after : State
    after = with_modules (with_section tag section now.page.modules) now

    lines : List ℕ
    lines = flat_map (line_of_change tag) (changes_by tag section now.page.modules)

same_services : TableLaws → (s : State) (pid : ℕ) (section : List ℕ) → reads_table s.selection (services s).service pid ≡ false → services (with_handled pid section s) ≡ services s
same_services laws s pid section untabled =
    ap₂ (λ (service : Option PatEntry) (components : List Component). let x : ServicesState = record { selection = s.selection; service = service; map = components } in x)
    (laws.service s.selection s.handled (record { pid = pid; section = section }) untabled)
    (laws.map s.selection s.handled (record { pid = pid; section = section }) untabled)

module _ (laws : TableLaws) (s : State) (pid tag : ℕ) (messages : List Message) (section : List ℕ) (awaits : AwaitsDocument s pid tag messages)
    (told : All IsDelivery (changes_by tag section s.page.modules)) where
  step_is : step_of_section pid section s ≡ step_of_component tag section (with_handled pid section s)
  step_is =
      ap (λ (t : Bool). if t then step_of_table (with_handled pid section s) else step_of_tag (tag_in (services s).map pid) section (with_handled pid section s)) awaits.untabled
      ∙ ap (λ (o : Option ℕ). step_of_tag o section (with_handled pid section s)) awaits.component

  pub steps : IsQuietStep s tag section (step_of_section pid section s)
  steps = subst (IsQuietStep s tag section) (sym (step_is ∙ component_step tag section (with_handled pid section s) awaits.none told)) (record {
    page_is = refl;
    services_are = same_services laws s pid section awaits.untabled;
    text_is = refl;
  })

  -- the same with its turn, where this makes no dispatch
  pub turns : dispatches.dispatch (page_amid_turn pid section s) ≡ None → IsQuietStep s tag section (turn pid section s)
  unfolding turn
  turns idle =
      let still = quiet.turn_is (page_amid_turn pid section s) idle in
      let text = (step_of_section pid section s).text in
      record {
        page_is = ap (λ (t : page.Step). t.state) still ∙ steps.page_is;
        services_are = steps.services_are;
        text_is = ap (λ (t : page.Step). text ++ t.text) still ∙ append-nil text ∙ steps.text_is;
      }

  -- the PID is wanted
  pub is_wanted : wants s pid ≡ true
  is_wanted =
      ap (λ (t : Bool). t || is_some (tag_in (services s).map pid)) awaits.untabled
      ∙ ap (λ (o : Option ℕ). is_some o) awaits.component

  -- after such a turn still no document is there
  pub still_awaits : messages_of_component (with_section tag section s.page.modules).stored tag ≡ Some (messages ++ messages_of (section ∷ []))
      → dispatches.dispatch (page_amid_turn pid section s) ≡ None → AwaitsDocument (turn pid section s).state pid tag (messages ++ messages_of (section ∷ []))
  still_awaits more idle =
      let t = turns idle in
      record {
        none = ap (λ (p : page.State). p.document) t.page_is ∙ awaits.none;
        idle = ap dispatches.dispatch (t.page_is ∙ sym steps.page_is) ∙ idle;
        untabled = ap (λ (x : ServicesState). reads_table x.selection x.service pid) t.services_are ∙ awaits.untabled;
        component = ap (λ (x : ServicesState). tag_in x.map pid) t.services_are ∙ awaits.component;
        messages_are = ap (λ (p : page.State). messages_of_component p.modules.stored tag) t.page_is ∙ more;
      }
