use Rattle.std.proofs.Common.{◌≡◌, sym, ap, refl, ◌∙◌, subst, [], List, fold, arith}
use Rattle.std.proofs.lemmas.List.{map-id}
use Rattle.std.proofs.lemmas.Iterator.Consumers.{YieldsList-end}
use Rattle.std.proofs.lemmas.Iterator.Adapters.{YieldsList-from_vec}
use Rattle.carousel_blocks.specs.declared.standing.Standing.{Standing}
use Rattle.carousel_blocks.specs.declared.modules.Draft.{Draft}
use Rattle.carousel_blocks.specs.InForce.{with_entry}
use Rattle.carousel_blocks.specs.Modules.{kept_at}
use Rattle.carousel_blocks.specs.Drafts.{IsDraft, HaveStandings}
use Rattle.carousel_blocks.proofs.ModuleLaws.{keep_same, keep_both}
use Rattle.carousel_blocks.proofs.DraftLaws.{draft_none, fold-append}
use Rattle.carousel_blocks.proofs.modules.modules_of.Goals as goal

pub entries-init : goal.entries-init
entries-init c =
    let dii = c.args.dii in
    let draft : Draft = record { download = dii.download; block_size = dii.block_size; size = 0; modules = c.new.result } in
    record {
      keeps = keep_same c.args.old.now c.args.buffers.now c.requires;
      size = omega arith;
      draft = draft_none dii (kept_at c.args.old.now c.args.buffers.now) draft c.args.buffers.now c.new.ensures.empty refl refl refl;
    }

pub add-requires-clause-modules : goal.add-requires-clause-modules
add-requires-clause-modules c = c.entries.invariant.keeps.are

pub add-requires-clause-size : goal.add-requires-clause-size
add-requires-clause-size c = c.entries.invariant.size

pub entries-preserved : goal.entries-preserved
entries-preserved c =
    let dii = c.args.dii in
    let kept = kept_at c.args.old.now c.args.buffers.now in
    let i = c.entries.invariant in
    record {
      keeps = keep_both c.args.old.now c.args.buffers.now c.entries.buffers c.add.new.buffers i.keeps c.add.ensures.keeps;
      size = c.in_ok-add.ensures.size;
      draft = subst (λ (l : List Standing). IsDraft dii kept l c.add.new.self c.add.new.buffers) (sym (fold-append (with_entry dii) [] c.entries.yielded c.in-Some.entry))
          (c.in_ok-add.ensures.added dii kept (fold (with_entry dii) [] c.entries.yielded) i.keeps.same i.draft);
    }

pub returns : goal.returns
returns c =
    let dii = c.args.dii in
    let kept = kept_at c.args.old.now c.args.buffers.now in
    let i = c.entries.invariant in
    let gives = c.into_iter-entry-iterator.ensures.into_iter_gives in
    let all = c.into_vec-entry-items.ensures in
    let seen = YieldsList-end (YieldsList-from_vec {s = c.into_iter-entry-iterator.result} c.into_vec-entry-items.result.items gives.0 (gives.1 ∙ c.into_vec-entry-items.result.ok.0)) c.entries.yielded c.entries.entry-iterator c.entries.yielded_by c.next.result c.next.new.self c.in-None.is c.next.ensures.steps in
    let e : c.entries.yielded ≡ dii.entries = sym (map-id c.entries.yielded) ∙ seen.0 ∙ all in
    record {
      keeps = i.keeps;
      modules = subst (λ (l : List Standing). HaveStandings kept l c.entries.draft.modules c.entries.buffers) (ap (fold (with_entry dii) []) e) i.draft.modules;
    }
