-- Changes and messages that are posted to a page, one behind the other.
use Rattle.std.proofs.Common.{◌≡◌, ◌+◌, ◌<◌, ℕ, List, [], ◌∷◌, ◌++◌, length, get_or, take, refl, sym, ap, ap₂, ◌∙◌, subst, append-nil, append_assoc}
use Rattle.std.specs.Prelude.{map, Option, Some, None, option_to_list}
use Rattle.std.proofs.lemmas.List.{map_more, take_more}
use Rattle.carousel_blocks.specs.declared.changes.Change.{Change}
use Rattle.event_messages.specs.declared.messages.Message.{Message}
use Rattle.page.specs.Inputs.{change_step, changes_step, each_step, message_step, messages_step}
use Rattle.page.specs.Standing.{HasMade, HasMadeAmid, Makes, PageState, Posts, StandsAmid}
use Rattle.page.specs.State.{State, Step, step_behind}

-- ---- steps for several things

-- those of two lists, one behind the other
each_append : {A : Type 0} (step : A → State → Step) (xs ys : List A) (s : State) → each_step step (xs ++ ys) s ≡ step_behind (each_step step xs s).text (each_step step ys (each_step step xs s).state)
each_append step [] ys s = refl
each_append step (x ∷ xs) ys s =
    let rest = each_step step xs (step x s).state in
    let more = each_step step ys rest.state in
    ap (step_behind (step x s).text) (each_append step xs ys (step x s).state)
    ∙ ap (λ (text : List ℕ). record { state = more.state; text = text }) (sym (append_assoc (step x s).text rest.text more.text))

-- that of one thing
each_one : {A : Type 0} (step : A → State → Step) (x : A) (s : State) → each_step step (x ∷ []) s ≡ step x s
each_one step x s = ap (λ (text : List ℕ). record { state = (step x s).state; text = text }) (append-nil (step x s).text)

-- ---- changes

pub posts_none : (page : PageState) (before : List ℕ) → Posts [] page page before before
posts_none page before = record {
  text = [];
  printed = sym (append-nil before);
  makes = λ modules changes s stands. record { stands = stands; text_is = refl };
}

-- some changes, and then others
posts_both : (xs ys : List (ℕ × Change)) (old mid new : PageState) (before between after : List ℕ) → Posts xs old mid before between → Posts ys mid new between after → Posts (xs ++ ys) old new before after
posts_both xs ys old mid new before between after one two = record {
  text = one.text ++ two.text;
  printed = two.printed ∙ ap (λ (l : List ℕ). l ++ two.text) one.printed ∙ append_assoc before one.text two.text;
  makes = λ modules changes s stands.
      let first = one.makes modules (ys ++ changes) s (subst (λ (l : List (ℕ × Change)). StandsAmid old modules l s) (append_assoc xs ys changes) stands) in
      let second = two.makes modules changes (changes_step xs s).state first.stands in
      subst (λ (t : Step). HasMadeAmid new modules changes (one.text ++ two.text) t) (sym (each_append (λ (change : ℕ × Change). change_step change.0 change.1) xs ys s))
      (record { stands = second.stands; text_is = ap₂ (λ (a b : List ℕ). a ++ b) first.text_is second.text_is });
}

-- one change more of a slice
pub posts_next : (changes : List (ℕ × Change)) (index : ℕ) (none : ℕ × Change) (old mid new : PageState) (before between after : List ℕ) → index < length changes
    → Posts (take index changes) old mid before between → Posts (get_or changes index none ∷ []) mid new between after → Posts (take (index + 1) changes) old new before after
posts_next changes index none old mid new before between after within one two =
    subst (λ (l : List (ℕ × Change)). Posts l old new before after) (sym (take_more changes index none within))
    (posts_both (take index changes) (get_or changes index none ∷ []) old mid new before between after one two)

-- a change in a component, and changes, each with the component
abbrev of_component : ℕ → Change → ℕ × Change
of_component component change = (component, change)

abbrev pub in_component : ℕ → List Change → List (ℕ × Change)
in_component component changes = map (of_component component) changes

-- one change more of a slice of changes in a component
pub posts_more : (component : ℕ) (changes : List Change) (index : ℕ) (none : Change) (old mid new : PageState) (before between after : List ℕ) → index < length changes
    → Posts (in_component component (take index changes)) old mid before between → Posts ((component, get_or changes index none) ∷ []) mid new between after
    → Posts (in_component component (take (index + 1) changes)) old new before after
posts_more component changes index none old mid new before between after within one two =
    subst (λ (l : List (ℕ × Change)). Posts l old new before after) (sym (map_more (of_component component) changes index none within))
    (posts_both (in_component component (take index changes)) ((component, get_or changes index none) ∷ []) old mid new before between after one two)

-- a data event, where there is one, and then changes in modules
pub posts_section : (component : ℕ) (event : Option Change) (changes : List Change) (old mid new : PageState) (before between after : List ℕ)
    → Posts (in_component component (option_to_list event)) old mid before between → Posts (in_component component changes) mid new between after
    → Posts (in_component component (option_to_list event ++ changes)) old new before after
posts_section component None changes old mid new before between after one two = posts_both [] (in_component component changes) old mid new before between after one two
posts_section component (Some event) changes old mid new before between after one two = posts_both ((component, event) ∷ []) (in_component component changes) old mid new before between after one two

-- ---- messages

pub makes_none : (component : ℕ) (page : PageState) (before : List ℕ) → Makes (messages_step component []) page page before before
makes_none component page before = record {
  text = [];
  printed = sym (append-nil before);
  makes = λ modules s stands. record { stands = stands; text_is = refl };
}

messages_next : (component : ℕ) (messages : List Message) (index : ℕ) (message : Message) (s : State) → index < length messages → message ≡ get_or messages index message
    → messages_step component (take (index + 1) messages) s
    ≡ step_behind (messages_step component (take index messages) s).text (message_step component message (messages_step component (take index messages) s).state)
messages_next component messages index message s within is =
    let before = messages_step component (take index messages) s in
    ap (λ (l : List Message). messages_step component l s) (take_more messages index message within)
    ∙ ap (λ (m : Message). messages_step component (take index messages ++ m ∷ []) s) (sym is)
    ∙ each_append (message_step component) (take index messages) (message ∷ []) s
    ∙ ap (step_behind before.text) (each_one (message_step component) message before.state)

-- one message more of a slice
pub makes_more : (component : ℕ) (messages : List Message) (index : ℕ) (message : Message) (old mid new : PageState) (before between after : List ℕ) → index < length messages → message ≡ get_or messages index message
    → Makes (messages_step component (take index messages)) old mid before between → Makes (message_step component message) mid new between after
    → Makes (messages_step component (take (index + 1) messages)) old new before after
makes_more component messages index message old mid new before between after within is one two = record {
  text = one.text ++ two.text;
  printed = two.printed ∙ ap (λ (l : List ℕ). l ++ two.text) one.printed ∙ append_assoc before one.text two.text;
  makes = λ modules s stands.
      let first = one.makes modules s stands in
      let second = two.makes modules (messages_step component (take index messages) s).state first.stands in
      subst (λ (t : Step). HasMade new modules (one.text ++ two.text) t) (sym (messages_next component messages index message s within is))
      (record { stands = second.stands; text_is = ap₂ (λ (a b : List ℕ). a ++ b) first.text_is second.text_is });
}
