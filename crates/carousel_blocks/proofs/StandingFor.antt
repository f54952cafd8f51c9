-- For which messages a carousel stands, behind one message more.
use Rattle.std.proofs.Common.{◌≡◌, ℕ, ◌==◌, nat_eq, Bool, true, false, List, [], ◌∷◌, ◌++◌, refl, sym, ap, subst, ◌∙◌, if◌then◌else◌, map, cond, find}
use Rattle.std.specs.Prelude.{Option, Some, None, option_map, option_and_then}
use Rattle.std.specs.Map.{lookup}
use Rattle.std.specs.HashMap.{HashMap, get as value_at}
use Rattle.dsmcc_messages.specs.declared.dii.Dii.{Dii}
use Rattle.dsmcc_messages.specs.Ddb.{DataBlock}
use Rattle.carousel_blocks.specs.declared.put.Put.{Put}
use Rattle.carousel_blocks.specs.declared.standing.Standing.{Standing}
use Rattle.carousel_blocks.specs.declared.modules.Module.{Module}
use Rattle.carousel_blocks.specs.Message.{Message, Indication, Data}
use Rattle.carousel_blocks.specs.InForce.{later, in_force, standing_of, standings, is_of_module}
use Rattle.carousel_blocks.specs.Held.{Kept, kept_module, bytes_held, bytes_kept, counting_blocks, kept_with}
use Rattle.carousel_blocks.specs.Modules.{Buffers, module_kept, kept_at, kept_for, entries_kept, standing_kept, KeepModules}
use Rattle.carousel_blocks.specs.Drafts.{HaveStandings}
use Rattle.carousel_blocks.specs.Steps.{TakesDii, TakesBlock, is_transaction, is_in_force, with_block, answer_to}
use Rattle.carousel_blocks.specs.Carousel.{CarouselState, kept_in, StandsFor, KeepsSame, put_after}
use Rattle.carousel_blocks.proofs.HistoryLaws.{later_data, in_force-append, kept_module-data, kept_module-same, kept_module-other, answer-put}

-- ---- looking a module up

lookup-map : {X Y : Type 0} (test : ℕ → Bool) (f : X → Y) (es : List (ℕ × X)) → lookup test (map (λ e. (e.0, f e.1)) es) ≡ option_map f (lookup test es)
lookup-map test f [] = refl
lookup-map test f (e ∷ es) = elim (test e.0) as (λ (b : Bool). cond b (Some (f e.1)) (lookup test (map (λ x. (x.0, f x.1)) es)) ≡ option_map f (cond b (Some e.1) (lookup test es))) [ true ↦ refl | false ↦ lookup-map test f es ]

pub kept_in-view : {S : Type 0} (transaction download : Option ℕ) (modules : HashMap ℕ Module S) (buffers : Buffers) (number : ℕ) → kept_in (record { transaction = transaction; download = download; modules = entries_kept modules buffers }) number ≡ kept_at modules buffers number
kept_in-view transaction download modules buffers number = lookup-map (nat_eq number) (module_kept buffers) modules.entries

-- ---- one message more

pub stands_first : (c : CarouselState) → c.transaction ≡ None → c.download ≡ None → c.modules ≡ [] → StandsFor c []
stands_first c e d m = record { transaction = e; download = d; modules = λ number. ap (lookup (nat_eq number)) m }

pub stands_same : (old new : CarouselState) (h : List Message) → KeepsSame old new → StandsFor old h → StandsFor new h
stands_same old new h k s = record { transaction = k.transaction ∙ s.transaction; download = k.download ∙ s.download; modules = λ number. k.modules number ∙ s.modules number }

pub later_same : (f : Option Dii) (t : Option ℕ) (dii : Dii) → t ≡ option_map (λ dii. dii.transaction) f → is_transaction t dii.transaction ≡ true → later f (Indication dii) ≡ f
later_same None None dii e h = cc
later_same None (Some t) dii e h = cc
later_same (Some f) None dii e h = cc
later_same (Some f) (Some t) dii e h =
    let q : t ≡ f.transaction = cc in
    ap (λ (b : Bool). Some (if b then f else dii)) (ap (λ x. dii.transaction == x) (sym q) ∙ h)

pub later_other : (f : Option Dii) (t : Option ℕ) (dii : Dii) → t ≡ option_map (λ dii. dii.transaction) f → is_transaction t dii.transaction ≡ false → later f (Indication dii) ≡ Some dii
later_other None t dii e h = refl
later_other (Some f) None dii e h = cc
later_other (Some f) (Some t) dii e h =
    let q : t ≡ f.transaction = cc in
    ap (λ (b : Bool). Some (if b then f else dii)) (ap (λ x. dii.transaction == x) (sym q) ∙ h)

pub stands_again : (c : CarouselState) (dii : Dii) → is_in_force c dii.transaction ≡ true → (h : List Message) → StandsFor c h → StandsFor c (h ++ Indication dii ∷ [])
stands_again c dii same h s =
    let e = later_same (in_force h) c.transaction dii s.transaction same in
    record {
      transaction = s.transaction ∙ sym (ap (option_map (λ d. d.transaction)) (in_force-append h (Indication dii) ∙ e));
      download = s.download ∙ sym (ap (option_map (λ d. d.download)) (in_force-append h (Indication dii) ∙ e));
      modules = λ number. s.modules number ∙ sym (kept_module-same h dii number e);
    }

pub stands_dii : (old new : CarouselState) (dii : Dii) → is_in_force old dii.transaction ≡ false → TakesDii old new dii → (h : List Message) → StandsFor old h → StandsFor new (h ++ Indication dii ∷ [])
stands_dii old new dii other takes h s =
    let e = later_other (in_force h) old.transaction dii s.transaction other in
    record {
      transaction = takes.transaction ∙ sym (ap (option_map (λ d. d.transaction)) (in_force-append h (Indication dii) ∙ e));
      download = takes.download ∙ sym (ap (option_map (λ d. d.download)) (in_force-append h (Indication dii) ∙ e));
      modules = λ number. takes.modules number
          ∙ ap (λ (f : ℕ → Option Kept). option_map (kept_for f) (find (is_of_module number) (standings dii))) (λ i m. s.modules m i)
          ∙ sym (kept_module-other h dii number e);
    }

pub stands_block : (old new : CarouselState) (block : DataBlock) (answer : Put) → TakesBlock old new block answer → (h : List Message) → StandsFor old h → StandsFor new (h ++ Data block ∷ [])
stands_block old new block answer takes h s = record {
  transaction = takes.transaction ∙ s.transaction ∙ sym (ap (option_map (λ d. d.transaction)) (in_force-append h (Data block) ∙ later_data (in_force h) block));
  download = takes.download ∙ s.download ∙ sym (ap (option_map (λ d. d.download)) (in_force-append h (Data block) ∙ later_data (in_force h) block));
  modules = λ number. takes.modules number ∙ ap (option_map (with_block block)) (s.modules number) ∙ sym (kept_module-data h block number);
}

pub answers_block : (old new : CarouselState) (block : DataBlock) (answer : Put) → TakesBlock old new block answer → (h : List Message) → StandsFor old h → answer ≡ put_after h block
answers_block old new block answer takes h s = takes.answer_is ∙ ap (λ k. answer_to k block) (s.modules block.«module») ∙ answer-put h block

-- ---- what is said of a module

pub standing-known : (c : CarouselState) (h : List Message) (m : ℕ) → StandsFor c h → standing_of (in_force h) m ≡ standing_kept (kept_in c m)
standing-known c h m s = sym (ap standing_kept (s.modules m) ∙ by (standing_of (in_force h) m)) where
  by : (x : Option Standing) → standing_kept (option_map (kept_with (counting_blocks None m h)) x) ≡ x
  by None = refl
  by (Some y) = refl

pub bytes_held-known : (c : CarouselState) (h : List Message) (m : ℕ) → StandsFor c h → option_and_then bytes_kept (kept_in c m) ≡ bytes_held h m
unfolding bytes_held
bytes_held-known c h m s = ap (option_and_then bytes_kept) (s.modules m)

-- ---- what the fields say

module _ {S : Type 0} where
  abbrev viewed : Option ℕ → Option ℕ → HashMap ℕ Module S → Buffers → CarouselState
  viewed transaction download modules buffers = record { transaction = transaction; download = download; modules = entries_kept modules buffers }

  pub takes_block_by : (transaction download : Option ℕ) (modules : HashMap ℕ Module S) (old new : Buffers) (block : DataBlock) (answer : Put) (v : CarouselState) → viewed transaction download modules old ≡ v
      → ((number : ℕ) → kept_at modules new number ≡ option_map (with_block block) (kept_at modules old number)) → answer ≡ answer_to (kept_at modules old block.«module») block
      → TakesBlock v (viewed transaction download modules new) block answer
  takes_block_by transaction download modules old new block answer v e kept_module a = subst (λ (x : CarouselState). TakesBlock x (viewed transaction download modules new) block answer) e (record {
    transaction = refl;
    download = refl;
    modules = λ number. kept_in-view transaction download modules new number ∙ kept_module number ∙ ap (option_map (with_block block)) (sym (kept_in-view transaction download modules old number));
    answer_is = a ∙ ap (λ k. answer_to k block) (sym (kept_in-view transaction download modules old block.«module»));
  })

  pub keeps_same_by : (transaction download : Option ℕ) (modules : HashMap ℕ Module S) (old new : Buffers) (v : CarouselState) → viewed transaction download modules old ≡ v → KeepModules modules old new → KeepsSame v (viewed transaction download modules new)
  keeps_same_by transaction download modules old new v e keep = subst (λ (x : CarouselState). KeepsSame x (viewed transaction download modules new)) e (record {
    transaction = refl;
    download = refl;
    modules = λ number. kept_in-view transaction download modules new number ∙ keep.same number ∙ sym (kept_in-view transaction download modules old number);
  })

  pub takes_dii_by : (transaction download : Option ℕ) (modules next : HashMap ℕ Module S) (old between new : Buffers) (dii : Dii) (v : CarouselState) → viewed transaction download modules old ≡ v
      → HaveStandings (kept_at modules old) (standings dii) next between → KeepModules next between new → TakesDii v (viewed (Some dii.transaction) (Some dii.download) next new) dii
  takes_dii_by transaction download modules next old between new dii v e have keep = subst (λ (x : CarouselState). TakesDii x (viewed (Some dii.transaction) (Some dii.download) next new) dii) e (record {
    transaction = refl;
    download = refl;
    modules = λ number. kept_in-view (Some dii.transaction) (Some dii.download) next new number ∙ keep.same number ∙ have.kept_is number
        ∙ ap (λ (f : ℕ → Option Kept). option_map (kept_for f) (find (is_of_module number) (standings dii))) (λ i m. sym (kept_in-view transaction download modules old m) i);
  })

  -- what is said of a module, by the fields
  pub standing-by : (transaction download : Option ℕ) (modules : HashMap ℕ Module S) (buffers : Buffers) (v : CarouselState) → viewed transaction download modules buffers ≡ v → (h : List Message) (m : ℕ) → StandsFor v h
      → standing_of (in_force h) m ≡ option_map (λ x. x.standing) (value_at nat_eq modules m)
  standing-by transaction download modules buffers v e h m s =
      standing-known v h m s ∙ ap (λ x. standing_kept (kept_in x m)) (sym e) ∙ ap standing_kept (kept_in-view transaction download modules buffers m) ∙ by (value_at nat_eq modules m) where
        by : (x : Option Module) → standing_kept (option_map (module_kept buffers) x) ≡ option_map (λ y. y.standing) x
        by None = refl
        by (Some y) = refl

  pub bytes_held-by : (transaction download : Option ℕ) (modules : HashMap ℕ Module S) (buffers : Buffers) (v : CarouselState) → viewed transaction download modules buffers ≡ v → (h : List Message) (m : ℕ) → StandsFor v h
      → option_and_then bytes_kept (kept_at modules buffers m) ≡ bytes_held h m
  bytes_held-by transaction download modules buffers v e h m s = ap (option_and_then bytes_kept) (sym (kept_in-view transaction download modules buffers m)) ∙ ap (λ x. option_and_then bytes_kept (kept_in x m)) e ∙ bytes_held-known v h m s
