-- Which message an item fires for, and that what it keeps agrees with all that happened.
use Rattle.std.proofs.Common.{◌≡◌, ℕ, nat_eq, Bool, true, false, not, ◌&&◌, cond, List, [], ◌∷◌, ◌++◌, inl, inr, Option, Some, None, refl, sym, ap, ◌∙◌}
use Rattle.std.specs.Prelude.{◌⊎◌, filter, fold, map}
use Rattle.std.specs.Option.{option_map_or}
use Rattle.std.proofs.lemmas.Bool.{eqb-true, eq-eqb}
use Rattle.event_messages.specs.declared.messages.Message.{Message}
use Rattle.event_messages.specs.Firings.{Happening, fires, firing_of, last_version, version_after, version_behind}
use Rattle.event_messages.specs.Firings.Happening.{Fires, Forgets}
use Rattle.event_messages.specs.ItemFirings.{AreAlike, FiredFor, KeptFirings, fires_again, is_of, kept_behind, no_firings, with_firing}
use Rattle.event_messages.proofs.ItemFiringLemmas.{AreOthers, Last, for-alike, for-last, for-other, last-for, lookup-with_firing, step, version_for}

-- whether a message of this version fires, by the version that is found
abbrev pub is_new : ℕ → Option ℕ → Bool
is_new version last = option_map_or (λ l. not (nat_eq l version)) last true

is-last : (version : ℕ) (last : Option ℕ) → is_new version last ≡ false → last ≡ Some version
is-last version None e = absurd cc
is-last version (Some other) e = by (nat_eq other version) refl e
  where
    by : (test : Bool) → nat_eq other version ≡ test → not test ≡ false → Some other ≡ Some version
    by true t f = ap (λ v. Some v) (eqb-true _ _ t)
    by false t f = absurd cc

last-is : (version : ℕ) (last : Option ℕ) → last ≡ Some version → is_new version last ≡ false
last-is version last e = ap (is_new version) e ∙ ap not (eq-eqb version version refl)

-- ---- messages

pub not-again : (message : Message) (messages : List Message) → fires_again message (kept_behind messages) ≡ false → Last message messages message.version
not-again message messages e = by (last-for message no_firings messages message.version (is-last message.version (version_for message (kept_behind messages)) e))
  where
    by : Last message messages message.version ⊎ ((version_for message no_firings ≡ Some message.version) × AreOthers message messages) → Last message messages message.version
    by (inl found) = found
    by (inr (f, others)) = absurd cc

pub last-once : (message : Message) (messages : List Message) → Last message messages message.version → fires_again message (kept_behind messages) ≡ false
last-once message messages (last, is, e) =
    last-is message.version (version_for message (kept_behind messages)) (for-last message no_firings messages last is ∙ ap (λ v. Some v) e)

pub repeated-not : (message : Message) (kept : KeptFirings) → fires_again message (with_firing message kept) ≡ false
repeated-not message kept = last-is message.version (version_for message (with_firing message kept)) (for-alike message message kept (refl, refl))

pub others-same : (message other : Message) (kept : KeptFirings) → ¬ AreAlike other message → fires_again message (with_firing other kept) ≡ fires_again message kept
others-same message other kept apart = ap (is_new message.version) (for-other message other kept apart)

-- ---- all that happened

-- what happened to other items changes nothing
own-only : (item group id : ℕ) (before : Option ℕ) (happenings : List Happening) → version_after item group id before happenings ≡ version_after item group id before (filter (is_of item) happenings)
own-only item group id before [] = refl
own-only item group id before (happening ∷ happenings) = own-only item group id (version_behind item group id before happening) happenings ∙ by (is_of item happening) refl
  where
    same : (happening : Happening) → is_of item happening ≡ false → version_behind item group id before happening ≡ before
    same (Fires other g i v) e = rw e refl
    same (Forgets other) e = rw e refl

    by : (test : Bool) → is_of item happening ≡ test
        → version_after item group id (version_behind item group id before happening) (filter (is_of item) happenings) ≡ version_after item group id before (cond test (happening ∷ filter (is_of item) happenings) (filter (is_of item) happenings))
    by true e = refl
    by false e = ap (λ b. version_after item group id b (filter (is_of item) happenings)) (same happening e)

after-append : (item group id : ℕ) (before : Option ℕ) (one other : List Happening) → version_after item group id before (one ++ other) ≡ version_after item group id (version_after item group id before one) other
after-append item group id before [] other = refl
after-append item group id before (happening ∷ one) other = after-append item group id (version_behind item group id before happening) one other

own-firing : (item : ℕ) (message one : Message) (before : Option ℕ)
    → version_behind item message.group message.id before (firing_of item one) ≡ cond (nat_eq one.group message.group && nat_eq one.id message.id) (Some one.version) before
own-firing item message one before = rw (eq-eqb item item refl) refl

firings-agree : (item : ℕ) (message : Message) (kept : KeptFirings) (messages : List Message)
    → version_after item message.group message.id (version_for message kept) (map (firing_of item) messages) ≡ version_for message (fold step kept messages)
firings-agree item message kept [] = refl
firings-agree item message kept (one ∷ messages) =
    ap (λ b. version_after item message.group message.id b (map (firing_of item) messages)) (own-firing item message one (version_for message kept) ∙ sym (lookup-with_firing one kept message.group message.id))
    ∙ firings-agree item message (with_firing one kept) messages

forgotten : (item group id : ℕ) (before : Option ℕ) → version_behind item group id before (Forgets item) ≡ None
forgotten item group id before = rw (eq-eqb item item refl) refl

versions-agree : (item : ℕ) (message : Message) (happenings : List Happening) (messages : List Message) → FiredFor item happenings messages → last_version item message.group message.id happenings ≡ version_for message (kept_behind messages)
versions-agree item message happenings messages (inl e) =
    own-only item message.group message.id None happenings
    ∙ ap (version_after item message.group message.id None) e
    ∙ firings-agree item message no_firings messages
versions-agree item message happenings messages (inr (before, e)) =
    own-only item message.group message.id None happenings
    ∙ ap (version_after item message.group message.id None) e
    ∙ after-append item message.group message.id None before (Forgets item ∷ map (firing_of item) messages)
    ∙ ap (λ b. version_after item message.group message.id b (map (firing_of item) messages)) (forgotten item message.group message.id (last_version item message.group message.id before))
    ∙ firings-agree item message no_firings messages

pub fires-by-last : (item : ℕ) (message : Message) (happenings : List Happening) → fires item message happenings ≡ is_new message.version (last_version item message.group message.id happenings)
fires-by-last item message happenings = by (last_version item message.group message.id happenings) refl
  where
    by : (last : Option ℕ) → last_version item message.group message.id happenings ≡ last → fires item message happenings ≡ is_new message.version last
    by None e = rw e refl
    by (Some version) e = rw e refl

pub agree : (item : ℕ) (message : Message) (happenings : List Happening) (messages : List Message) → FiredFor item happenings messages → fires item message happenings ≡ fires_again message (kept_behind messages)
agree item message happenings messages for = fires-by-last item message happenings ∙ ap (is_new message.version) (versions-agree item message happenings messages for)

-- ---- each list of happenings

abbrev Has : ℕ → List Happening → Type 0
Has item own = (messages : List Message) × ((own ≡ map (firing_of item) messages) ⊎ ((before : List Happening) × (own ≡ before ++ Forgets item ∷ map (firing_of item) messages)))

pub each-fired : (item : ℕ) (happenings : List Happening) → (messages : List Message) × FiredFor item happenings messages
each-fired item [] = ([], inl refl)
each-fired item (happening ∷ happenings) = by (is_of item happening) refl (each-fired item happenings)
  where
    own : List Happening
    own = filter (is_of item) happenings

    more : (happening : Happening) → is_of item happening ≡ true → Has item own → Has item (happening ∷ own)
    more happening e (messages, inr (before, f)) = (messages, inr (happening ∷ before, ap (λ rest. happening ∷ rest) f))
    more (Fires other group id version) e (messages, inl f) =
        let message : Message = record { group = group; kind = 0; id = id; version = version; extra = [] } in
        (message ∷ messages, inl (ap (λ i. Fires i group id version ∷ own) (eqb-true _ _ e) ∙ ap (λ rest. firing_of item message ∷ rest) f))
    more (Forgets other) e (messages, inl f) =
        (messages, inr ([], ap (λ i. Forgets i ∷ own) (eqb-true _ _ e) ∙ ap (λ rest. Forgets item ∷ rest) f))

    by : (test : Bool) → is_of item happening ≡ test → Has item own → Has item (cond test (happening ∷ own) own)
    by true e has = more happening e has
    by false e has = has
