-- The messages of a component since it got its PID, in the list of all sections and component maps.
use Rattle.std.proofs.Common.{◌≡◌, ◌∙◌, ℕ, zero, suc, ◌<◌, Bool, true, false, cond, eqb, List, [], ◌∷◌, ◌++◌, length, take, Option, Some, None, refl, sym, ap, ap₂, subst, arith, append_assoc, inl, inr}
use Rattle.std.specs.Prelude.{◌⊎◌, ◌&&◌, if◌then◌else◌, find, option_map, slice_get, slice_index_or, Contains}
use Rattle.std.proofs.lemmas.Bool.{eqb-true, eq-eqb}
use Rattle.std.proofs.lemmas.List.{append-nil}
use Rattle.std.proofs.lemmas.List.Elements.{filter_map-append, Contains-append_left, Contains-append_right, Contains-append_cases}
use Rattle.psi_tables.specs.declared.components.Component.{Component}
use Rattle.psi_tables.specs.Components.{pid_in}
use Rattle.carousel_blocks.specs.Message.{Message, message_of, messages_of}
use Rattle.module_store.specs.Store.{Followed, Stored, at_start, component_in, followed_from, followed_with, messages_on, with_map, with_section}
use Rattle.module_store.specs.Since.{Told, Fed, Mapped, stored_behind, pid_behind, is_on, stays_on, stays, sections_since, HasMessagesSince}
use Rattle.module_store.proofs.FindLaws.{find-map, found_passes}
use Rattle.module_store.proofs.DeliveryLaws.{eqb_sym}
use Rattle.module_store.proofs.FeedLaws.{component_behind}

-- ---- one component, step by step

-- its PID and its messages
abbrev pub seen : Option Followed → Option (ℕ × List Message)
seen None = None
seen (Some component) = Some (component.pid, component.messages)

abbrev pub view : ℕ → Stored → Option (ℕ × List Message)
view tag stored = seen (component_in stored.components tag)

abbrev pub fed : ℕ → ℕ → List ℕ → Option (ℕ × List Message) → Option (ℕ × List Message)
fed tag other section None = None
fed tag other section (Some s) = Some (s.0, if eqb other tag then s.1 ++ messages_of (section ∷ []) else s.1)

abbrev pub messages_at : ℕ → Option (ℕ × List Message) → List Message
messages_at pid None = []
messages_at pid (Some s) = if eqb s.0 pid then s.1 else []

abbrev pub mapped : Option ℕ → Option (ℕ × List Message) → Option (ℕ × List Message)
mapped None view = None
mapped (Some pid) view = Some (pid, messages_at pid view)

view_fed : (tag other : ℕ) (section : List ℕ) (stored : Stored) → view tag (with_section other section stored) ≡ fed tag other section (view tag stored)
view_fed tag other section stored = ap seen (component_behind other tag section stored.components) ∙ by (component_in stored.components tag) refl
  where
    step : (component : Followed) (b k : Bool) → b ≡ k
        → seen (Some (cond b (record { tag = component.tag; pid = component.pid; messages = component.messages ++ messages_of (section ∷ []) }) component))
        ≡ Some (component.pid, if k then component.messages ++ messages_of (section ∷ []) else component.messages)
    step component true true e = refl
    step component false false e = refl
    step component true false e = cc
    step component false true e = cc

    by : (found : Option Followed) → component_in stored.components tag ≡ found → seen (option_map (followed_with other section) found) ≡ fed tag other section (seen found)
    by None e = refl
    by (Some component) e =
        let is : component.tag ≡ tag = eqb-true component.tag tag (found_passes (λ (c : Followed). eqb c.tag tag) stored.components component e) in
        step component (eqb component.tag other) (eqb other tag) (ap (λ u. eqb u other) is ∙ eqb_sym tag other)

view_mapped : (tag : ℕ) (components : List Component) (stored : Stored) → view tag (with_map components stored) ≡ mapped (pid_in components tag) (view tag stored)
view_mapped tag components stored =
    ap seen (find-map (λ (c : Followed). eqb c.tag tag) (followed_from stored.components) components) ∙ by (find (λ (c : Component). eqb c.tag tag) components) refl
  where
    kept : (pid : ℕ) (found : Option Followed) → messages_on pid found ≡ messages_at pid (seen found)
    kept pid None = refl
    kept pid (Some component) = refl

    by : (found : Option Component) → find (λ (c : Component). eqb c.tag tag) components ≡ found
        → seen (option_map (followed_from stored.components) found) ≡ mapped (option_map (λ (c : Component). c.pid) found) (view tag stored)
    by None e = refl
    by (Some component) e =
        let is : component.tag ≡ tag = eqb-true component.tag tag (found_passes (λ (c : Component). eqb c.tag tag) components component e) in
        ap (λ u. let o : Option (ℕ × List Message) = Some (component.pid, messages_on component.pid (component_in stored.components u)) in o) is
        ∙ ap (λ l. let o : Option (ℕ × List Message) = Some (component.pid, l) in o) (kept component.pid (component_in stored.components tag))

-- ---- behind all of them

abbrev pub view_behind : ℕ → Option (ℕ × List Message) → List Told → Option (ℕ × List Message)
view_behind tag view [] = view
view_behind tag view (Fed other section ∷ told) = view_behind tag (fed tag other section view) told
view_behind tag view (Mapped components ∷ told) = view_behind tag (mapped (pid_in components tag) view) told

views : (tag : ℕ) (stored : Stored) (told : List Told) → view tag (stored_behind stored told) ≡ view_behind tag (view tag stored) told
views tag stored [] = refl
views tag stored (Fed other section ∷ told) = views tag (with_section other section stored) told ∙ ap (λ v. view_behind tag v told) (view_fed tag other section stored)
views tag stored (Mapped components ∷ told) = views tag (with_map components stored) told ∙ ap (λ v. view_behind tag v told) (view_mapped tag components stored)

abbrev pub pid_seen : Option (ℕ × List Message) → Option ℕ
pid_seen None = None
pid_seen (Some s) = Some s.0

abbrev pub messages_seen : Option (ℕ × List Message) → Option (List Message)
messages_seen None = None
messages_seen (Some s) = Some s.1

-- what it had, where it stays on its PID
abbrev pub kept_behind : ℕ → Option (ℕ × List Message) → List Told → List Message
kept_behind tag None told = []
kept_behind tag (Some s) told = if stays_on tag s.0 told then s.1 else []

abbrev pub with_messages : List Message → Option ℕ → Option (ℕ × List Message)
with_messages messages None = None
with_messages messages (Some pid) = Some (pid, messages)

-- the same before a map that has it on a PID, or on none
abbrev pub kept_by : ℕ → Option ℕ → Option (ℕ × List Message) → List Told → List Message
kept_by tag pid None told = []
kept_by tag pid (Some s) told = if is_on s.0 pid && stays_on tag s.0 told then s.1 else []

abbrev pub no_messages : List Message
no_messages = []

nothing : (b : Bool) → (if b then no_messages else no_messages) ≡ no_messages
nothing true = refl
nothing false = refl

fed_more : (before : List Message) (section : List ℕ) (rest : List (List ℕ)) (b k : Bool)
    → ((if b then (if k then before ++ messages_of (section ∷ []) else before) else []) ++ messages_of rest)
    ≡ ((if b then before else []) ++ messages_of ((if b then (if k then section ∷ [] else []) else []) ++ rest))
fed_more before section rest true true =
    append_assoc before (messages_of (section ∷ [])) (messages_of rest) ∙ ap (λ l. before ++ l) (sym (filter_map-append message_of (section ∷ []) rest))
fed_more before section rest true false = refl
fed_more before section rest false true = refl
fed_more before section rest false false = refl

map_more : (tag : ℕ) (view : Option (ℕ × List Message)) (pid : Option ℕ) (told : List Told)
    → with_messages (kept_behind tag (mapped pid view) told ++ messages_of (sections_since tag (pid_seen (mapped pid view)) told)) (pid_behind tag (pid_seen (mapped pid view)) told)
    ≡ with_messages (kept_by tag pid view told ++ messages_of (sections_since tag pid told)) (pid_behind tag pid told)
map_more tag None None told = refl
map_more tag (Some s) None told = refl
map_more tag None (Some pid) told = ap (λ l. with_messages (l ++ messages_of (sections_since tag (Some pid) told)) (pid_behind tag (Some pid) told)) (nothing (stays_on tag pid told))
map_more tag (Some s) (Some pid) told = ap (λ l. with_messages (l ++ messages_of (sections_since tag (Some pid) told)) (pid_behind tag (Some pid) told)) (same (eqb s.0 pid) refl)
  where
    same : (t : Bool) → eqb s.0 pid ≡ t → (if stays_on tag pid told then (if t then s.1 else []) else []) ≡ (if t && stays_on tag s.0 told then s.1 else [])
    same true e = ap (λ p. if stays_on tag p told then s.1 else []) (sym (eqb-true s.0 pid e))
    same false e = nothing (stays_on tag pid told)

since : (tag : ℕ) (view : Option (ℕ × List Message)) (told : List Told)
    → view_behind tag view told ≡ with_messages (kept_behind tag view told ++ messages_of (sections_since tag (pid_seen view) told)) (pid_behind tag (pid_seen view) told)
since tag None [] = refl
since tag (Some s) [] = ap (λ l. let o : Option (ℕ × List Message) = Some (s.0, l) in o) (sym (append-nil s.1))
since tag None (Fed other section ∷ told) = since tag None told
since tag (Some s) (Fed other section ∷ told) =
    since tag (Some (s.0, if eqb other tag then s.1 ++ messages_of (section ∷ []) else s.1)) told
    ∙ ap (λ l. with_messages l (pid_behind tag (Some s.0) told)) (fed_more s.1 section (sections_since tag (Some s.0) told) (stays_on tag s.0 told) (eqb other tag))
since tag None (Mapped components ∷ told) = since tag (mapped (pid_in components tag) None) told ∙ map_more tag None (pid_in components tag) told
since tag (Some s) (Mapped components ∷ told) = since tag (mapped (pid_in components tag) (Some s)) told ∙ map_more tag (Some s) (pid_in components tag) told

pub has_messages_since : (told : List Told) (tag : ℕ) → HasMessagesSince (stored_behind at_start told) told tag
has_messages_since told tag = record {
  pid = pids (component_in (stored_behind at_start told).components tag) ∙ ap pid_seen is ∙ pid_is (pid_behind tag None told);
  messages = lists (component_in (stored_behind at_start told).components tag) ∙ ap messages_seen is ∙ messages_are (pid_behind tag None told);
}
  where
    is : view tag (stored_behind at_start told) ≡ with_messages (messages_of (sections_since tag None told)) (pid_behind tag None told)
    is = views tag at_start told ∙ since tag None told

    pids : (found : Option Followed) → option_map (λ (c : Followed). c.pid) found ≡ pid_seen (seen found)
    pids None = refl
    pids (Some component) = refl

    lists : (found : Option Followed) → option_map (λ (c : Followed). c.messages) found ≡ messages_seen (seen found)
    lists None = refl
    lists (Some component) = refl

    pid_is : (pid : Option ℕ) → pid_seen (with_messages (messages_of (sections_since tag None told)) pid) ≡ pid
    pid_is None = refl
    pid_is (Some pid) = refl

    messages_are : (pid : Option ℕ) → messages_seen (with_messages (messages_of (sections_since tag None told)) pid) ≡ option_map (λ (p : ℕ). messages_of (sections_since tag None told)) pid
    messages_are None = refl
    messages_are (Some pid) = refl

-- ---- places

first_of : (a b : Bool) → (a && b) ≡ true → a ≡ true
first_of true b h = refl
first_of false b h = h

second_of : (a b : Bool) → (a && b) ≡ true → b ≡ true
second_of true b h = h
second_of false b h = cc

both_of : (a b : Bool) → a ≡ true → b ≡ true → (a && b) ≡ true
both_of true b h k = k
both_of false b h k = h

on_it : (pid : ℕ) (found : Option ℕ) → is_on pid found ≡ true → found ≡ Some pid
on_it pid None h = cc
on_it pid (Some other) h = ap (λ p. Some p) (sym (eqb-true pid other h))

is_on_it : (pid : ℕ) (found : Option ℕ) → found ≡ Some pid → is_on pid found ≡ true
is_on_it pid found e = ap (is_on pid) e ∙ eq-eqb pid pid refl

stays_at : (tag pid : ℕ) (told : List Told) (place : ℕ) (components : List Component) → stays_on tag pid told ≡ true → slice_get told place ≡ Some (Mapped components) → pid_in components tag ≡ Some pid
stays_at tag pid [] place components h at_place = cc
stays_at tag pid (Fed other section ∷ told) zero components h at_place = cc
stays_at tag pid (Mapped first ∷ told) zero components h at_place =
    let same : first ≡ components = cc in ap (λ (l : List Component). pid_in l tag) (sym same) ∙ on_it pid (pid_in first tag) (first_of (is_on pid (pid_in first tag)) (stays_on tag pid told) h)
stays_at tag pid (Fed other section ∷ told) (suc place) components h at_place = stays_at tag pid told place components h at_place
stays_at tag pid (Mapped first ∷ told) (suc place) components h at_place = stays_at tag pid told place components (second_of (is_on pid (pid_in first tag)) (stays_on tag pid told) h) at_place

all_stay : (tag pid : ℕ) (told : List Told) → ((place : ℕ) (components : List Component) → slice_get told place ≡ Some (Mapped components) → pid_in components tag ≡ Some pid) → stays_on tag pid told ≡ true
all_stay tag pid [] each = refl
all_stay tag pid (Fed other section ∷ told) each = all_stay tag pid told (λ place components h. each (suc place) components h)
all_stay tag pid (Mapped first ∷ told) each =
    both_of (is_on pid (pid_in first tag)) (stays_on tag pid told) (is_on_it pid (pid_in first tag) (each 0 first refl))
    (all_stay tag pid told (λ place components h. each (suc place) components h))

-- the same from a PID on
pub record IsFrom (now : Option ℕ) (told : List Told) (tag : ℕ) (section : List ℕ) (place : ℕ) : Type 0 where
  pub stands : slice_get told place ≡ Some (Fed tag section)
  pub pid : ℕ
  pub before : pid_behind tag now (take place told) ≡ Some pid
  pub behind : (other : ℕ) (components : List Component) → place < other → slice_get told other ≡ Some (Mapped components) → pid_in components tag ≡ Some pid

only_one : (x y : List ℕ) → Contains (y ∷ []) x → y ≡ x
only_one x y c = by c.0 c.1 c.2 where
  by : (k : ℕ) → k < length (y ∷ []) → slice_index_or (y ∷ []) k x ≡ x → y ≡ x
  by zero l e = e
  by (suc k) l e = absurd (omega arith)

-- what counts at the first place
pub record Here (now : Option ℕ) (told : List Told) (tag other : ℕ) (first section : List ℕ) : Type 0 where
  pub tag_is : other ≡ tag
  pub section_is : first ≡ section
  pub pid : ℕ
  pub now_is : now ≡ Some pid
  pub stays_there : stays_on tag pid told ≡ true

here : (now : Option ℕ) (told : List Told) (tag other : ℕ) (first section : List ℕ)
    → Contains (if stays tag now told then (if eqb other tag then first ∷ [] else []) else []) section → Here now told tag other first section
here None told tag other first section c = absurd (let l = c.1 in omega arith)
here (Some pid) told tag other first section c = by (stays_on tag pid told) (eqb other tag) refl refl c where
  by : (b k : Bool) → stays_on tag pid told ≡ b → eqb other tag ≡ k → Contains (if b then (if k then first ∷ [] else []) else []) section → Here (Some pid) told tag other first section
  by true true e f c = record { tag_is = eqb-true other tag f; section_is = only_one section first c; pid = pid; now_is = refl; stays_there = e }
  by true false e f c = absurd (let l = c.1 in omega arith)
  by false true e f c = absurd (let l = c.1 in omega arith)
  by false false e f c = absurd (let l = c.1 in omega arith)

pub since_from : (now : Option ℕ) (told : List Told) (tag : ℕ) (section : List ℕ) → Contains (sections_since tag now told) section → (place : ℕ) × IsFrom now told tag section place
since_from now [] tag section c = absurd (let l = c.1 in omega arith)
since_from now (Mapped components ∷ told) tag section c =
    let r = since_from (pid_in components tag) told tag section c in
    (suc r.0, record { stands = r.1.stands; pid = r.1.pid; before = r.1.before; behind = λ other cs l h. behind r.0 r.1 other cs l h })
  where
    behind : (place : ℕ) (s : IsFrom (pid_in components tag) told tag section place) (other : ℕ) (cs : List Component) → suc place < other → slice_get (Mapped components ∷ told) other ≡ Some (Mapped cs) → pid_in cs tag ≡ Some s.pid
    behind place s zero cs l h = absurd (omega arith)
    behind place s (suc k) cs l h = s.behind k cs (omega arith) h
since_from now (Fed other first ∷ told) tag section c =
    by (Contains-append_cases (if stays tag now told then (if eqb other tag then first ∷ [] else []) else []) (sections_since tag now told) section c) (since_from now told tag section)
  where
    later : (place : ℕ) (s : IsFrom now told tag section place) (k : ℕ) (cs : List Component) → suc place < k → slice_get (Fed other first ∷ told) k ≡ Some (Mapped cs) → pid_in cs tag ≡ Some s.pid
    later place s zero cs l h = absurd (omega arith)
    later place s (suc k) cs l h = s.behind k cs (omega arith) h

    from_here : (s : Here now told tag other first section) (k : ℕ) (cs : List Component) → 0 < k → slice_get (Fed other first ∷ told) k ≡ Some (Mapped cs) → pid_in cs tag ≡ Some s.pid
    from_here s zero cs l h = absurd (omega arith)
    from_here s (suc k) cs l h = stays_at tag s.pid told k cs s.stays_there h

    by : Contains (if stays tag now told then (if eqb other tag then first ∷ [] else []) else []) section ⊎ Contains (sections_since tag now told) section
        → (Contains (sections_since tag now told) section → (place : ℕ) × IsFrom now told tag section place) → (place : ℕ) × IsFrom now (Fed other first ∷ told) tag section place
    by (inl x) again =
        let s = here now told tag other first section x in
        (0, record { stands = ap₂ (λ (t : ℕ) (l : List ℕ). Some (Fed t l)) s.tag_is s.section_is; pid = s.pid; before = s.now_is; behind = λ k cs l h. from_here s k cs l h })
    by (inr x) again = let r = again x in (suc r.0, record { stands = r.1.stands; pid = r.1.pid; before = r.1.before; behind = λ k cs l h. later r.0 r.1 k cs l h })

pub to_since : (now : Option ℕ) (told : List Told) (tag : ℕ) (section : List ℕ) (place : ℕ) → IsFrom now told tag section place → Contains (sections_since tag now told) section
to_since now [] tag section place s = absurd (let h = s.stands in cc)
to_since now (Mapped components ∷ told) tag section zero s = absurd (let h = s.stands in cc)
to_since now (Mapped components ∷ told) tag section (suc place) s =
    to_since (pid_in components tag) told tag section place (record { stands = s.stands; pid = s.pid; before = s.before; behind = λ k cs l h. s.behind (suc k) cs (omega arith) h })
to_since now (Fed other first ∷ told) tag section (suc place) s =
    Contains-append_right (if stays tag now told then (if eqb other tag then first ∷ [] else []) else []) (sections_since tag now told) section
    (to_since now told tag section place (record { stands = s.stands; pid = s.pid; before = s.before; behind = λ k cs l h. s.behind (suc k) cs (omega arith) h }))
to_since now (Fed other first ∷ told) tag section zero s =
    let h = s.stands in
    let tag_is : other ≡ tag = cc in
    let section_is : first ≡ section = cc in
    let stay : stays_on tag s.pid told ≡ true = all_stay tag s.pid told (λ place cs e. s.behind (suc place) cs (omega arith) e) in
    let it_stays : stays tag now told ≡ true = ap (λ (p : Option ℕ). stays tag p told) s.before ∙ stay in
    let e : (if stays tag now told then (if eqb other tag then first ∷ [] else []) else []) ≡ section ∷ [] =
    ap (λ (b : Bool). if b then (if eqb other tag then first ∷ [] else []) else []) it_stays ∙ ap (λ (b : Bool). if b then first ∷ [] else []) (eq-eqb other tag tag_is) ∙ ap (λ (l : List ℕ). l ∷ []) section_is in
    Contains-append_left (if stays tag now told then (if eqb other tag then first ∷ [] else []) else []) (sections_since tag now told) section (subst (λ (l : List (List ℕ)). Contains l section) (sym e) (0, omega arith, refl))
