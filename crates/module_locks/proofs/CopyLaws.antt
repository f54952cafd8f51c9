-- The modules that locks keep are copied one after the other.
use Rattle.std.proofs.Common.{◌≡◌, ◌∙◌, ℕ, ◌+◌, ◌<◌, ◌≤◌, List, length, get_or, set, take, map, refl, sym, ap, subst, arith}
use Rattle.std.specs.Prelude.{All}
use Rattle.std.proofs.lemmas.List.{get_or-set_same, length-set, map-set, set-get_or, take-set-le, take_all}
use Rattle.std.proofs.lemmas.List.Elements.{All-more, All-nil, All-set}
use Rattle.module_store.specs.Standing.{StoreState}
use Rattle.module_store.specs.Standing as store_state
use Rattle.module_store.specs.Store.{Stored}
use Rattle.module_locks.specs.declared.locks.HeldLock.{HeldLock}
use Rattle.module_locks.specs.Locks.{Lock, Modules}
use Rattle.module_locks.specs.Standing.{IsHeld, ModulesState, StandsFor, lock_of}
use Rattle.module_locks.specs.devices.Keeping.{AreOwn, IsOwnBy, KeepsLock}

-- Each lock keeps the same as it did, and the first so many keep nothing in the store alone.
pub record CopiedUpTo (stored : Stored) (was now : List HeldLock) (place : ℕ) : Type 0 where
  pub same : map (lock_of stored) now ≡ map (lock_of stored) was
  pub held : All (IsHeld stored) now
  pub own : AreOwn (take place now)

-- of each list that the store stands for
pub record Copies (store : StoreState) (was now : List HeldLock) (place : ℕ) : Type 0 where
  pub copied : (stored : Stored) → store_state.StandsFor store stored → All (IsHeld stored) was → CopiedUpTo stored was now place

abbrev IsOwn : HeldLock → Type 0
IsOwn held = IsOwnBy held.keeping

pub none_copied : (store : StoreState) (locks : List HeldLock) → Copies store locks locks 0
none_copied store locks = record { copied = λ stored stands held. record { same = refl; held = held; own = All-nil IsOwn } }

-- what a lock keeps stays where it is copied
kept_same : (stored : Stored) (now : List HeldLock) (place : ℕ) (old new : HeldLock) → old ≡ get_or now place old → KeepsLock stored old new → map (lock_of stored) (set now place new) ≡ map (lock_of stored) now
kept_same stored now place old new is keeps =
    map-set (lock_of stored) now place new
    ∙ ap (λ (l : Lock). set (map (lock_of stored) now) place l) keeps.same
    ∙ sym (map-set (lock_of stored) now place old)
    ∙ ap (λ (l : HeldLock). map (lock_of stored) (set now place l)) is
    ∙ ap (map (lock_of stored)) (set-get_or now place old)

pub copied_more : (store : StoreState) (was now : List HeldLock) (place : ℕ) (old new : HeldLock) → Copies store was now place → place < length now → old ≡ get_or now place old
    → ((stored : Stored) → store_state.StandsFor store stored → IsHeld stored old → KeepsLock stored old new)
    → ((stored : Stored) → store_state.StandsFor store stored → IsHeld stored old → IsOwnBy new.keeping)
    → Copies store was (set now place new) (place + 1)
copied_more store was now place old new copies low is keeps own = record {
  copied = λ stored stands held.
      let before = copies.copied stored stands held in
      let its = subst (IsHeld stored) (sym is) (before.held place old low) in
      let kept = keeps stored stands its in
      let long : place < length (set now place new) = let e = length-set now place new in omega arith in
      record {
        same = kept_same stored now place old new is kept ∙ before.same;
        held = All-set (IsHeld stored) now place new kept.held before.held;
        own = All-more IsOwn (set now place new) place old long
            (subst (λ (l : List HeldLock). All IsOwn l) (sym (take-set-le place now place new (omega arith))) before.own)
            (subst IsOwn (sym (get_or-set_same now place new old low)) (own stored stands its));
      };
}

-- what the store stands for, where it is the same
pub at_store : (state : ModulesState) (store : StoreState) (locks : List HeldLock) → (let s : ModulesState = record { store = store; locks = locks } in s) ≡ state → (stored : Stored)
    → store_state.StandsFor state.store stored → store_state.StandsFor store stored
at_store state store locks viewed stored stands = subst (λ (s : ModulesState). store_state.StandsFor s.store stored) (sym viewed) stands

module _ (state : ModulesState) (store : StoreState) (locks was now all : List HeldLock) (place : ℕ) (viewed : (let s : ModulesState = record { store = store; locks = locks } in s) ≡ state)
    (begun : was ≡ locks) (copies : Copies state.store was now place) (modules : Modules) (stands : StandsFor state modules) where
  all_before : CopiedUpTo modules.stored was now place
  all_before =
      copies.copied modules.stored stands.store
      (subst (λ (l : List HeldLock). All (IsHeld modules.stored) l) (sym (begun ∙ ap (λ (s : ModulesState). s.locks) viewed)) stands.held)

  -- locks that keep the same
  stands_so : map (lock_of modules.stored) all ≡ map (lock_of modules.stored) now → All (IsHeld modules.stored) all → StandsFor (record { store = store; locks = all }) modules
  stands_so same held = record {
    store = at_store state store locks viewed modules.stored stands.store;
    locks = stands.locks ∙ ap (λ (s : ModulesState). map (lock_of modules.stored) s.locks) (sym viewed) ∙ ap (map (lock_of modules.stored)) (sym begun) ∙ sym (same ∙ all_before.same);
    held = held;
  }

  -- where memory is out one may be copied in part
  pub copied_part : (old new : HeldLock) → place < length now → old ≡ get_or now place old
      → ((stored : Stored) → store_state.StandsFor store stored → IsHeld stored old → KeepsLock stored old new) → all ≡ set now place new → StandsFor (record { store = store; locks = all }) modules
  copied_part old new low is keeps written =
      let its = subst (IsHeld modules.stored) (sym is) (all_before.held place old low) in
      let kept = keeps modules.stored (at_store state store locks viewed modules.stored stands.store) its in
      stands_so (ap (map (lock_of modules.stored)) written ∙ kept_same modules.stored now place old new is kept)
      (subst (λ (l : List HeldLock). All (IsHeld modules.stored) l) (sym written) (All-set (IsHeld modules.stored) now place new kept.held all_before.held))

  -- in the end all are copied
  pub copied_stands : all ≡ now → StandsFor (record { store = store; locks = all }) modules
  copied_stands written =
      stands_so (ap (map (lock_of modules.stored)) written) (subst (λ (l : List HeldLock). All (IsHeld modules.stored) l) (sym written) all_before.held)

  pub copied_own : length now ≤ place → all ≡ now → AreOwn all
  copied_own long written =
      subst (λ (l : List HeldLock). All IsOwn l) (sym written) (subst (λ (l : List HeldLock). All IsOwn l) (take_all place now long) all_before.own)
