-- Sections one after the other, up to the first whose turn makes a dispatch, and two lists of them.
use Rattle.std.proofs.Common.{◌≡◌, ℕ, Bool, List, [], ◌∷◌, ◌++◌, ◌⊎◌, inl, inr, refl, sym, ap, ap₂, ◌∙◌, subst, if◌then◌else◌, false}
use Rattle.std.specs.Prelude.{◌≢◌, All, Option, Some, None}
use Rattle.std.proofs.lemmas.List.Elements.{All-cons, All-nil, Contains-append_left, Contains-append_right}
use Rattle.dsmcc_messages.specs.declared.dii.Dii.{Dii}
use Rattle.carousel_blocks.specs.InForce.{in_force}
use Rattle.carousel_blocks.specs.Message.{Message, messages_of}
use Rattle.multipart_entities.specs.declared.paths.Path.{Path}
use Rattle.module_store.specs.Resources.{Waiting, presence}
use Rattle.module_store.specs.Store.{held_in, messages_of_component}
use Rattle.module_locks.specs.Locks.{Modules, changes_by, look_up, start_path, with_section}
use Rattle.carousel_laws.specs.Freedom.{OnlyRepeat, Repeats}
use Rattle.carousel_laws.specs.Services.{IsDelivery, KeepTheSame, modules_after}
use Rattle.page.specs.Dispatches as dispatches
use Rattle.page.specs.State as page
use Rattle.receiver_core.specs.Outputs.{Piece, piece_of, pieces_of_turns, state_behind_turns, texts_of}
use Rattle.receiver_core.specs.State.{State, services}
use Rattle.receiver_core.specs.Turns.{step_of_section, turn}
use Rattle.block_order_laws.specs.FirstLoads.{Agree, AreQuiet, AwaitsDocument, ComesToLoad, ComeToTheSame, HasModuleLines, OfferTheSame, page_amid_turn}
use Rattle.block_order_laws.specs.Loads.{IsNextLoad, Load}
use Rattle.block_order_laws.proofs.LoadLemmas.{Settles, load_now, next_load_is, no_dispatch, no_load, now_stays, same_load}
use Rattle.block_order_laws.proofs.SectionLemmas.{IsQuietStep, TableLaws, is_wanted, module_lines, steps, still_awaits, turns}
use Rattle.block_order_laws.proofs.PageLemmas.{none_waits}

-- the laws that are used: those of services, those of one more section, and those of two lists
pub record SettledLaws : Type 0 where
  pub told : (modules : Modules) (tag : ℕ) (messages : List Message) (dii : Dii) (section : List ℕ) → messages_of_component modules.stored tag ≡ Some messages
      → in_force messages ≡ Some dii → OnlyRepeat dii.transaction (section ∷ []) → All IsDelivery (changes_by tag section modules)
  pub looks : (modules : Modules) (tag : ℕ) (messages : List Message) (dii : Dii) (section : List ℕ) (path : Path) → messages_of_component modules.stored tag ≡ Some messages
      → in_force messages ≡ Some dii → OnlyRepeat dii.transaction (section ∷ []) → look_up modules path ≢ Waiting
      → look_up (with_section tag section modules) path ≡ look_up modules path
  pub start : (modules : Modules) (tag : ℕ) (messages : List Message) (dii : Dii) (section : List ℕ) → messages_of_component modules.stored tag ≡ Some messages
      → in_force messages ≡ Some dii → OnlyRepeat dii.transaction (section ∷ []) → start_path (with_section tag section modules) ≡ start_path modules
  pub messages : (modules : Modules) (tag : ℕ) (messages : List Message) (section : List ℕ) → messages_of_component modules.stored tag ≡ Some messages
      → messages_of_component (with_section tag section modules).stored tag ≡ Some (messages ++ messages_of (section ∷ []))
  pub force : (messages : List Message) (dii : Dii) (sections : List (List ℕ)) → in_force messages ≡ Some dii → OnlyRepeat dii.transaction sections
      → in_force (messages ++ messages_of sections) ≡ Some dii

pub record AlikeLaws : Type 0 where
  pub locks : (modules : Modules) (tag : ℕ) (messages : List Message) (dii : Dii) (first second : List (List ℕ)) → messages_of_component modules.stored tag ≡ Some messages
      → Repeats messages dii first second → KeepTheSame (modules_after modules tag first).locks (modules_after modules tag second).locks
  pub looks : (modules : Modules) (tag : ℕ) (messages : List Message) (dii : Dii) (first second : List (List ℕ)) (path : Path) → messages_of_component modules.stored tag ≡ Some messages
      → Repeats messages dii first second → look_up (modules_after modules tag first) path ≡ look_up (modules_after modules tag second) path
  pub start : (modules : Modules) (tag : ℕ) (messages : List Message) (dii : Dii) (first second : List (List ℕ)) → messages_of_component modules.stored tag ≡ Some messages
      → Repeats messages dii first second → start_path (modules_after modules tag first) ≡ start_path (modules_after modules tag second)
  pub presence : (modules : Modules) (tag : ℕ) (messages : List Message) (dii : Dii) (first second : List (List ℕ)) (component number : ℕ)
      → messages_of_component modules.stored tag ≡ Some messages → Repeats messages dii first second
      → presence (modules_after modules tag first).stored component number ≡ presence (modules_after modules tag second).stored component number
  pub held : (modules : Modules) (tag : ℕ) (messages : List Message) (dii : Dii) (first second : List (List ℕ)) (component number : ℕ)
      → messages_of_component modules.stored tag ≡ Some messages → Repeats messages dii first second
      → held_in (modules_after modules tag first).stored component number ≡ held_in (modules_after modules tag second).stored component number

-- ---- the sections repeat the DII

first_repeats : (transaction : ℕ) (section : List ℕ) (sections : List (List ℕ)) → OnlyRepeat transaction (section ∷ sections) → OnlyRepeat transaction (section ∷ [])
first_repeats transaction section sections repeat = λ other dii there. repeat other dii (Contains-append_left (section ∷ []) sections other there)

others_repeat : (transaction : ℕ) (section : List ℕ) (sections : List (List ℕ)) → OnlyRepeat transaction (section ∷ sections) → OnlyRepeat transaction sections
others_repeat transaction section sections repeat = λ other dii there. repeat other dii (Contains-append_right (section ∷ []) sections other there)

-- ---- one list

-- a load that is there stays
loads_stay : SettledLaws → (dii : Dii) (tag : ℕ) (wanted : page.Wanted) (l : Load) (sections : List (List ℕ)) (modules : Modules) (messages : List Message)
    → messages_of_component modules.stored tag ≡ Some messages → in_force messages ≡ Some dii → OnlyRepeat dii.transaction sections
    → load_now wanted modules ≡ Some l → load_now wanted (modules_after modules tag sections) ≡ Some l
loads_stay laws dii tag wanted l [] modules messages its is repeat now = now
loads_stay laws dii tag wanted l (section ∷ sections) modules messages its is repeat now =
    let one = first_repeats dii.transaction section sections repeat in
    let settles : Settles modules (with_section tag section modules) = record {
      looks = λ path. laws.looks modules tag messages dii section path its is one;
      start = laws.start modules tag messages dii section its is one;
    } in
    loads_stay laws dii tag wanted l sections (with_section tag section modules) (messages ++ messages_of (section ∷ []))
    (laws.messages modules tag messages section its) (laws.force messages dii (section ∷ []) is one) (others_repeat dii.transaction section sections repeat)
    (now_stays modules (with_section tag section modules) settles wanted l now)

-- no section makes a dispatch, and this is what they leave; no document can be loaded still
pub record AllQuiet (s : State) (pid tag : ℕ) (sections : List (List ℕ)) : Type 0 where
  pub quiet : AreQuiet pid tag sections s
  pub page_is : (state_behind_turns pid sections s).page ≡ page.with_modules (modules_after s.page.modules tag sections) s.page
  pub services_are : services (state_behind_turns pid sections s) ≡ services s
  pub no_load : load_now s.page.wanted (modules_after s.page.modules tag sections) ≡ None

-- one of them comes to the load that is there after all
pub record OneLoads (s : State) (pid tag : ℕ) (sections : List (List ℕ)) : Type 0 where
  pub load : Load
  pub comes : ComesToLoad pid tag sections s load
  pub now : load_now s.page.wanted (modules_after s.page.modules tag sections) ≡ Some load

abbrev pub Came : State → ℕ → ℕ → List (List ℕ) → Type 0
Came s pid tag sections = OneLoads s pid tag sections ⊎ AllQuiet s pid tag sections

module _ (tables : TableLaws) (laws : SettledLaws) (dii : Dii) (pid tag : ℕ) where
  -- ---- the first section

  module _ (section : List ℕ) (sections : List (List ℕ)) (s : State) (messages : List Message) (awaits : AwaitsDocument s pid tag messages)
      (is : in_force messages ≡ Some dii) (repeat : OnlyRepeat dii.transaction (section ∷ sections)) where
    abbrev now : State
    now = (turn pid section s).state

    abbrev amid : page.State
    amid = page_amid_turn pid section s

    abbrev modules : Modules
    modules = with_section tag section s.page.modules

    one : OnlyRepeat dii.transaction (section ∷ [])
    one = first_repeats dii.transaction section sections repeat

    told : All IsDelivery (changes_by tag section s.page.modules)
    told = laws.told s.page.modules tag messages dii section awaits.messages_are is one

    t : IsQuietStep s tag section (step_of_section pid section s)
    t = steps tables s pid tag messages section awaits told

    wanted_state : state_behind_turns pid (section ∷ sections) s ≡ state_behind_turns pid sections now
    wanted_state = ap (λ (b : Bool). if b then state_behind_turns pid sections now else s) (is_wanted tables s pid tag messages section awaits told)

    wanted_pieces : (others : List (List ℕ)) → pieces_of_turns pid (section ∷ others) s ≡ piece_of (turn pid section s) ∷ pieces_of_turns pid others now
    wanted_pieces others = ap (λ (b : Bool). if b then piece_of (turn pid section s) ∷ pieces_of_turns pid others now else []) (is_wanted tables s pid tag messages section awaits told)

    amid_load : load_now amid.wanted amid.modules ≡ load_now s.page.wanted modules
    amid_load = ap (λ (p : page.State). load_now p.wanted p.modules) t.page_is

    amid_none : amid.document ≡ None
    amid_none = ap (λ (p : page.State). p.document) t.page_is ∙ awaits.none

    amid_waits : amid.data_event ≡ false
    amid_waits = ap (λ (p : page.State). p.data_event) t.page_is ∙ none_waits s.page awaits.idle

    -- its turn makes a dispatch
    loads_here : (step : page.Step) → dispatches.dispatch amid ≡ Some step → OneLoads s pid tag (section ∷ sections)
    loads_here step e = by (load_now amid.wanted amid.modules) refl where
      by : (o : Option Load) → load_now amid.wanted amid.modules ≡ o → OneLoads s pid tag (section ∷ sections)
      by None none =
          let idle : dispatches.dispatch amid ≡ None = no_dispatch amid amid_none amid_waits none in
          absurd (let no : None ≡ Some step = sym idle ∙ e in cc)
      by (Some l) some = record {
        load = l;
        comes = record {
          before = [];
          section = section;
          behind = sections;
          place = refl;
          quiet = record { none = tt; lines = All-nil (HasModuleLines tag) };
          lines = subst (HasModuleLines tag) (sym t.text_is) (module_lines tag (changes_by tag section s.page.modules) told);
          loads = next_load_is amid l amid_none amid_waits some;
        };
        now = loads_stay laws dii tag s.page.wanted l sections modules (messages ++ messages_of (section ∷ []))
            (laws.messages s.page.modules tag messages section awaits.messages_are) (laws.force messages dii (section ∷ []) is one)
            (others_repeat dii.transaction section sections repeat) (sym amid_load ∙ some);
      }

    module _ (idle : dispatches.dispatch amid ≡ None) where
      u : IsQuietStep s tag section (turn pid section s)
      u = turns tables s pid tag messages section awaits told idle

      pub awaits_now : AwaitsDocument now pid tag (messages ++ messages_of (section ∷ []))
      awaits_now = still_awaits tables s pid tag messages section awaits told (laws.messages s.page.modules tag messages section awaits.messages_are) idle

      same_load_now : load_now now.page.wanted (modules_after now.page.modules tag sections) ≡ load_now s.page.wanted (modules_after modules tag sections)
      same_load_now = ap (λ (p : page.State). load_now p.wanted (modules_after p.modules tag sections)) u.page_is

      quiet_with : (others : List (List ℕ)) → AreQuiet pid tag others now → AreQuiet pid tag (section ∷ others) s
      quiet_with others q = record {
        none = (idle, q.none);
        lines = subst (λ (pieces : List Piece). All (HasModuleLines tag) (texts_of pieces)) (sym (wanted_pieces others))
            (All-cons (HasModuleLines tag) (turn pid section s).text (texts_of (pieces_of_turns pid others now))
            (subst (HasModuleLines tag) (sym u.text_is) (module_lines tag (changes_by tag section s.page.modules) told)) q.lines);
      }

      loads_later : OneLoads now pid tag sections → OneLoads s pid tag (section ∷ sections)
      loads_later o =
          let c = o.comes in
          let before_is : state_behind_turns pid (section ∷ c.before) s ≡ state_behind_turns pid c.before now
          = ap (λ (b : Bool). if b then state_behind_turns pid c.before now else s) (is_wanted tables s pid tag messages section awaits told) in
          record {
            load = o.load;
            comes = record {
              before = section ∷ c.before;
              section = c.section;
              behind = c.behind;
              place = ap (λ l. section ∷ l) c.place;
              quiet = quiet_with c.before c.quiet;
              lines = subst (λ (x : State). HasModuleLines tag (step_of_section pid c.section x).text) (sym before_is) c.lines;
              loads = subst (λ (x : State). IsNextLoad (page_amid_turn pid c.section x) o.load) (sym before_is) c.loads;
            };
            now = sym same_load_now ∙ o.now;
          }

      quiet_on : AllQuiet now pid tag sections → AllQuiet s pid tag (section ∷ sections)
      quiet_on a = record {
        quiet = quiet_with sections a.quiet;
        page_is = ap (λ (x : State). x.page) wanted_state ∙ a.page_is
            ∙ ap (λ (p : page.State). page.with_modules (modules_after p.modules tag sections) p) u.page_is;
        services_are = ap services wanted_state ∙ a.services_are ∙ u.services_are;
        no_load = sym same_load_now ∙ a.no_load;
      }

      pub later : Came now pid tag sections → Came s pid tag (section ∷ sections)
      later (inl o) = inl (loads_later o)
      later (inr a) = inr (quiet_on a)

  -- ---- all of them

  pub came : (sections : List (List ℕ)) (s : State) (messages : List Message) → AwaitsDocument s pid tag messages → in_force messages ≡ Some dii → OnlyRepeat dii.transaction sections
      → Came s pid tag sections
  came [] s messages awaits is repeat = inr (record {
    quiet = record { none = tt; lines = All-nil (HasModuleLines tag) };
    page_is = refl;
    services_are = refl;
    no_load = no_load s.page awaits.none awaits.idle;
  })
  came (section ∷ sections) s messages awaits is repeat = by (dispatches.dispatch (page_amid_turn pid section s)) refl
      (λ a. came sections (turn pid section s).state (messages ++ messages_of (section ∷ [])) a
      (laws.force messages dii (section ∷ []) is (first_repeats dii.transaction section sections repeat)) (others_repeat dii.transaction section sections repeat))
    where
      by : (o : Option page.Step) → dispatches.dispatch (page_amid_turn pid section s) ≡ o
          → (AwaitsDocument (turn pid section s).state pid tag (messages ++ messages_of (section ∷ [])) → Came (turn pid section s).state pid tag sections)
          → Came s pid tag (section ∷ sections)
      by (Some step) e again = inl (loads_here section sections s messages awaits is repeat step e)
      by None e again = later section sections s messages awaits is repeat e (again (awaits_now section sections s messages awaits is repeat e))

-- ---- both lists

module _ (tables : TableLaws) (laws : SettledLaws) (alike : AlikeLaws) (s : State) (pid tag : ℕ) (messages : List Message) (dii : Dii) (first second : List (List ℕ))
    (awaits : AwaitsDocument s pid tag messages) (repeats : Repeats messages dii first second) where
  abbrev modules_of : List (List ℕ) → Modules
  modules_of sections = modules_after s.page.modules tag sections

  loads_alike : load_now s.page.wanted (modules_of first) ≡ load_now s.page.wanted (modules_of second)
  loads_alike =
      same_load s.page.wanted (modules_of first) (modules_of second)
      (λ path. alike.looks s.page.modules tag messages dii first second path awaits.messages_are repeats)
      (alike.start s.page.modules tag messages dii first second awaits.messages_are repeats)

  offers : OfferTheSame (modules_of first) (modules_of second)
  offers = record {
    locks = alike.locks s.page.modules tag messages dii first second awaits.messages_are repeats;
    held = λ component number. alike.held s.page.modules tag messages dii first second component number awaits.messages_are repeats;
    presence = λ component number. alike.presence s.page.modules tag messages dii first second component number awaits.messages_are repeats;
    looks = λ path. alike.looks s.page.modules tag messages dii first second path awaits.messages_are repeats;
    start = alike.start s.page.modules tag messages dii first second awaits.messages_are repeats;
  }

  agree : AllQuiet s pid tag first → AllQuiet s pid tag second → Agree (state_behind_turns pid first s) (state_behind_turns pid second s)
  agree a b = record {
    services = a.services_are ∙ sym b.services_are;
    page = ap₂ (λ (p q : page.State). page.with_modules q.modules p) a.page_is b.page_is ∙ sym b.page_is;
    modules = subst (λ (p : page.State). OfferTheSame p.modules (state_behind_turns pid second s).page.modules) (sym a.page_is)
        (subst (λ (p : page.State). OfferTheSame (modules_of first) p.modules) (sym b.page_is) offers);
  }

  pub come_to_the_same : ComeToTheSame pid tag first second s
  come_to_the_same =
      by (came tables laws dii pid tag first s messages awaits repeats.force repeats.first_repeats)
      (came tables laws dii pid tag second s messages awaits repeats.force repeats.second_repeats)
    where
      by : Came s pid tag first → Came s pid tag second → ComeToTheSame pid tag first second s
      by (inl a) (inl b) =
          let both : Some a.load ≡ Some b.load = sym a.now ∙ loads_alike ∙ b.now in
          let same : a.load ≡ b.load = cc in
          inl (record {
            load = a.load;
            first_comes = a.comes;
            second_comes = subst (λ (l : Load). ComesToLoad pid tag second s l) (sym same) b.comes;
          })
      by (inr a) (inr b) = inr (record { first_quiet = a.quiet; second_quiet = b.quiet; agree = agree a b })
      by (inl a) (inr b) = absurd (let no : Some a.load ≡ None = sym a.now ∙ loads_alike ∙ b.no_load in cc)
      by (inr a) (inl b) = absurd (let no : None ≡ Some b.load = sym a.no_load ∙ loads_alike ∙ b.now in cc)
