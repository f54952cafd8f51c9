-- Which version counts: behind one more happening, and by places.
use Rattle.std.proofs.Common.{◌≡◌, ℕ, zero, suc, ◌<◌, nat_eq, Bool, true, false, not, ◌&&◌, List, [], ◌∷◌, ◌++◌, slice_get, inl, inr, Option, Some, None, refl, sym, ap, ◌∙◌, arith}
use Rattle.std.specs.Prelude.{◌⊎◌}
use Rattle.std.proofs.lemmas.Bool.{eqb-true, eq-eqb, and_parts, and_from}
use Rattle.event_messages.specs.declared.messages.Message.{Message}
use Rattle.event_messages.specs.Firings.{Happening, IsLastFiring, fires, firing_of, last_version, version_after, version_behind}
use Rattle.event_messages.specs.Firings.Happening.{Fires, Forgets}

-- ---- one happening more

pub after-more : (item group id : ℕ) (before : Option ℕ) (happenings : List Happening) (more : Happening)
    → version_after item group id before (happenings ++ more ∷ []) ≡ version_behind item group id (version_after item group id before happenings) more
after-more item group id before [] more = refl
after-more item group id before (happening ∷ happenings) more = after-more item group id (version_behind item group id before happening) happenings more

same : (a : ℕ) → nat_eq a a ≡ true
same a = eq-eqb a a refl

behind-firing : (item group id version : ℕ) (before : Option ℕ) → version_behind item group id before (Fires item group id version) ≡ Some version
behind-firing item group id version before = rw (same item, same group, same id) refl

behind-forgetting : (item group id : ℕ) (before : Option ℕ) → version_behind item group id before (Forgets item) ≡ None
behind-forgetting item group id before = rw (same item) refl

pub fired-last : (item group id version : ℕ) (happenings : List Happening) → last_version item group id (happenings ++ Fires item group id version ∷ []) ≡ Some version
fired-last item group id version happenings =
    after-more item group id None happenings (Fires item group id version) ∙ behind-firing item group id version (last_version item group id happenings)

pub forgotten-last : (item group id : ℕ) (happenings : List Happening) → last_version item group id (happenings ++ Forgets item ∷ []) ≡ None
forgotten-last item group id happenings =
    after-more item group id None happenings (Forgets item) ∙ behind-forgetting item group id (last_version item group id happenings)

-- ---- places

-- nothing among the happenings changes the version
record Untouched (item group id : ℕ) (happenings : List Happening) : Type 0 where
  fires : (place version : ℕ) → ¬ (slice_get happenings place ≡ Some (Fires item group id version))
  forgets : (place : ℕ) → ¬ (slice_get happenings place ≡ Some (Forgets item))

-- whether it does, of one happening
data Touches (item group id : ℕ) (happening : Happening) : Type 0 where
  ByFiring : (version : ℕ) → happening ≡ Fires item group id version → Touches item group id happening
  ByForgetting : happening ≡ Forgets item → Touches item group id happening
  Not : ((before : Option ℕ) → version_behind item group id before happening ≡ before) → ((version : ℕ) → ¬ (happening ≡ Fires item group id version)) → ¬ (happening ≡ Forgets item) → Touches item group id happening

firing-fields : (i g d v item group id version : ℕ) → Fires i g d v ≡ Fires item group id version → (i ≡ item) × (g ≡ group) × (d ≡ id) × (v ≡ version)
firing-fields i g d v item group id version e = (ap item_of e, ap group_of e, ap id_of e, ap version_of e)
  where
    item_of : Happening → ℕ
    item_of (Fires a b c d) = a
    item_of (Forgets a) = a

    group_of : Happening → ℕ
    group_of (Fires a b c d) = b
    group_of (Forgets a) = a

    id_of : Happening → ℕ
    id_of (Fires a b c d) = c
    id_of (Forgets a) = a

    version_of : Happening → ℕ
    version_of (Fires a b c d) = d
    version_of (Forgets a) = a

forgotten-item : (one item : ℕ) → Forgets one ≡ Forgets item → one ≡ item
forgotten-item one item e = ap item_of e
  where
    item_of : Happening → ℕ
    item_of (Fires a b c d) = a
    item_of (Forgets a) = a

touches : (item group id : ℕ) (happening : Happening) → Touches item group id happening
touches item group id (Fires i g d v) = by (nat_eq i item && (nat_eq g group && nat_eq d id)) refl
  where
    fields : (i item g group d id v : ℕ) → i ≡ item → g ≡ group → d ≡ id → Fires i g d v ≡ Fires item group id v
    fields i item g group d id v a b c = rw (a, b, c) refl

    not-this : (version : ℕ) → Fires i g d v ≡ Fires item group id version → (nat_eq i item && (nat_eq g group && nat_eq d id)) ≡ false → ⊥
    not-this version f e =
        let are = firing-fields i g d v item group id version f in
        let yes = and_from _ _ (eq-eqb _ _ are.0) (and_from _ _ (eq-eqb _ _ are.1) (eq-eqb _ _ are.2)) in
        absurd cc

    by : (test : Bool) → (nat_eq i item && (nat_eq g group && nat_eq d id)) ≡ test → Touches item group id (Fires i g d v)
    by true e =
        let parts = and_parts _ _ e in
        let more = and_parts _ _ parts.1 in
        ByFiring v (fields i item g group d id v (eqb-true _ _ parts.0) (eqb-true _ _ more.0) (eqb-true _ _ more.1))
    by false e = Not (λ before. rw e refl) (λ version f. not-this version f e) (λ f. absurd cc)
touches item group id (Forgets one) = by (nat_eq one item) refl
  where
    by : (test : Bool) → nat_eq one item ≡ test → Touches item group id (Forgets one)
    by true e = ByForgetting (ap Forgets (eqb-true _ _ e))
    by false e = Not (λ before. rw e refl) (λ version f. absurd cc) (λ f. let yes = eq-eqb _ _ (forgotten-item one item f) in absurd cc)

untouched-tail : (item group id : ℕ) (happening : Happening) (happenings : List Happening) → Untouched item group id (happening ∷ happenings) → Untouched item group id happenings
untouched-tail item group id happening happenings u = record { fires = λ place version e. u.fires (suc place) version e; forgets = λ place e. u.forgets (suc place) e }

untouched-cons : (item group id : ℕ) (happening : Happening) (happenings : List Happening) → ((version : ℕ) → ¬ (happening ≡ Fires item group id version)) → ¬ (happening ≡ Forgets item) → Untouched item group id happenings
    → Untouched item group id (happening ∷ happenings)
untouched-cons item group id happening happenings no_firing no_forgetting u = record { fires = f; forgets = g }
  where
    some : (one other : Happening) → Some one ≡ Some other → one ≡ other
    some one other e = cc

    f : (place version : ℕ) → ¬ (slice_get (happening ∷ happenings) place ≡ Some (Fires item group id version))
    f zero version e = no_firing version (some happening (Fires item group id version) e)
    f (suc place) version e = u.fires place version e

    g : (place : ℕ) → ¬ (slice_get (happening ∷ happenings) place ≡ Some (Forgets item))
    g zero e = no_forgetting (some happening (Forgets item) e)
    g (suc place) e = u.forgets place e

stays : (item group id : ℕ) (before : Option ℕ) (happenings : List Happening) → Untouched item group id happenings → version_after item group id before happenings ≡ before
stays item group id before [] u = refl
stays item group id before (happening ∷ happenings) u =
    stays item group id (version_behind item group id before happening) happenings (untouched-tail item group id happening happenings u) ∙ by (touches item group id happening)
  where
    by : Touches item group id happening → version_behind item group id before happening ≡ before
    by (ByFiring version e) = absurd (u.fires 0 version (ap (λ h. Some h) e))
    by (ByForgetting e) = absurd (u.forgets 0 (ap (λ h. Some h) e))
    by (Not same_before f g) = same_before before

behind-last : (item group id : ℕ) (happenings : List Happening) (place version : ℕ) → IsLastFiring item group id happenings place version → (before : Option ℕ) → version_after item group id before happenings ≡ Some version
behind-last item group id [] place version is before = absurd (no is.stands)
  where
    no : slice_get [] place ≡ Some (Fires item group id version) → ⊥
    no e = absurd cc
behind-last item group id (happening ∷ happenings) zero version is before =
    stays item group id (version_behind item group id before happening) happenings (record { fires = λ place other e. is.last (suc place) other (omega arith) e; forgets = λ place e. is.kept (suc place) (omega arith) e })
    ∙ ap (version_behind item group id before) (this happening (Fires item group id version) is.stands) ∙ behind-firing item group id version before
  where
    this : (one other : Happening) → Some one ≡ Some other → one ≡ other
    this one other e = cc
behind-last item group id (happening ∷ happenings) (suc place) version is before =
    behind-last item group id happenings place version
    (record { stands = is.stands; last = λ later other lt e. is.last (suc later) other (omega (arith, lt)) e; kept = λ later lt e. is.kept (suc later) (omega (arith, lt)) e })
    (version_behind item group id before happening)

pub last-firing : (item group id : ℕ) (happenings : List Happening) (place version : ℕ) → IsLastFiring item group id happenings place version → last_version item group id happenings ≡ Some version
last-firing item group id happenings place version is = behind-last item group id happenings place version is None

-- where a version counts, it is that of a last firing, or the one from before
abbrev Found : (item group id : ℕ) (before : Option ℕ) (happenings : List Happening) (version : ℕ) → Type 0
Found item group id before happenings version =
    ((place : ℕ) × IsLastFiring item group id happenings place version) ⊎ ((before ≡ Some version) × Untouched item group id happenings)

found : (item group id : ℕ) (before : Option ℕ) (happenings : List Happening) (version : ℕ) → version_after item group id before happenings ≡ Some version → Found item group id before happenings version
found item group id before [] version e = inr (e, record { fires = λ place other f. absurd cc; forgets = λ place f. absurd cc })
found item group id before (happening ∷ happenings) version e = behind (found item group id (version_behind item group id before happening) happenings version e)
  where
    same_some : (one other : ℕ) → Some one ≡ Some other → one ≡ other
    same_some one other e = cc

    nothing : {A : Type 0} → None ≡ Some version → A
    nothing e = absurd cc

    later_fires : Untouched item group id happenings → (later another : ℕ) → 0 < later → ¬ (slice_get (happening ∷ happenings) later ≡ Some (Fires item group id another))
    later_fires u zero another lt f = absurd (omega (arith, lt))
    later_fires u (suc later) another lt f = u.fires later another f

    later_forgets : Untouched item group id happenings → (later : ℕ) → 0 < later → ¬ (slice_get (happening ∷ happenings) later ≡ Some (Forgets item))
    later_forgets u zero lt f = absurd (omega (arith, lt))
    later_forgets u (suc later) lt f = u.forgets later f

    first : (before : Option ℕ) → version_behind item group id before happening ≡ Some version → Untouched item group id happenings → Touches item group id happening → Found item group id before (happening ∷ happenings) version
    first before f u (ByFiring other is) =
        let counts : Some other ≡ Some version = sym (behind-firing item group id other before) ∙ ap (version_behind item group id before) (sym is) ∙ f in
        let other_is : other ≡ version = same_some other version counts in
        inl (0, record { stands = ap (λ h. Some h) is ∙ ap (λ v. Some (Fires item group id v)) other_is; last = λ later another lt. later_fires u later another lt; kept = λ later lt. later_forgets u later lt })
    first before f u (ByForgetting is) = absurd (nothing (sym (behind-forgetting item group id before) ∙ ap (version_behind item group id before) (sym is) ∙ f))
    first before f u (Not same_before no_firing no_forgetting) = inr (sym (same_before before) ∙ f, untouched-cons item group id happening happenings no_firing no_forgetting u)

    moved_fires : (place : ℕ) → IsLastFiring item group id happenings place version → (later other : ℕ) → suc place < later → ¬ (slice_get (happening ∷ happenings) later ≡ Some (Fires item group id other))
    moved_fires place is zero other lt f = absurd (omega (arith, lt))
    moved_fires place is (suc later) other lt f = is.last later other (omega (arith, lt)) f

    moved_forgets : (place : ℕ) → IsLastFiring item group id happenings place version → (later : ℕ) → suc place < later → ¬ (slice_get (happening ∷ happenings) later ≡ Some (Forgets item))
    moved_forgets place is zero lt f = absurd (omega (arith, lt))
    moved_forgets place is (suc later) lt f = is.kept later (omega (arith, lt)) f

    behind : Found item group id (version_behind item group id before happening) happenings version → Found item group id before (happening ∷ happenings) version
    behind (inl (place, is)) = inl (suc place, record { stands = is.stands; last = λ later other lt f. moved_fires place is later other lt f; kept = λ later lt f. moved_forgets place is later lt f })
    behind (inr (f, u)) = first before f u (touches item group id happening)

pub no-firing : (item group id : ℕ) (happenings : List Happening) → ((place version : ℕ) → ¬ IsLastFiring item group id happenings place version) → last_version item group id happenings ≡ None
no-firing item group id happenings none = by (last_version item group id happenings) refl
  where
    no : (version : ℕ) → None ≡ Some version → ⊥
    no version e = absurd cc

    counts : (version : ℕ) → Found item group id None happenings version → ⊥
    counts version (inl (place, is)) = none place version is
    counts version (inr (e, u)) = absurd (no version e)

    by : (read : Option ℕ) → last_version item group id happenings ≡ read → last_version item group id happenings ≡ None
    by None e = e
    by (Some version) e = absurd (counts version (found item group id None happenings version e))

-- ---- which message fires

pub fires-last : (item : ℕ) (message : Message) (happenings : List Happening) (place version : ℕ) → IsLastFiring item message.group message.id happenings place version
    → fires item message happenings ≡ not (nat_eq version message.version)
fires-last item message happenings place version is = rw (last-firing item message.group message.id happenings place version is) refl

pub fires-first : (item : ℕ) (message : Message) (happenings : List Happening) → ((place version : ℕ) → ¬ IsLastFiring item message.group message.id happenings place version)
    → fires item message happenings ≡ true
fires-first item message happenings none = rw (no-firing item message.group message.id happenings none) refl

pub fires-no-more : (item : ℕ) (message : Message) (happenings : List Happening) → fires item message (happenings ++ firing_of item message ∷ []) ≡ false
fires-no-more item message happenings = rw (fired-last item message.group message.id message.version happenings, same message.version) refl

pub fires-anew : (item : ℕ) (message : Message) (happenings : List Happening) → fires item message (happenings ++ Forgets item ∷ []) ≡ true
fires-anew item message happenings = rw (forgotten-last item message.group message.id happenings) refl
