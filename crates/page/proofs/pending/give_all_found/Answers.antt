use Rattle.std.proofs.Common.{◌<◌, ◌≡◌, ap, length, subst, sym, arith, List}
use Rattle.multipart_entities.specs.declared.paths.Path.{Path}
use Rattle.page.proofs.GiftLaws.{GivesBelow-start, GivesBelow-more, GivesBelow-end}
use Rattle.page.proofs.pending.give_all_found.Goals as goal

pub gifts-init : goal.gifts-init
gifts-init c = record {
  gives = GivesBelow-start c.args.modules.now c.args.draft.now;
  all = ap length c.needs-count.ensures;
}

pub give_found-requires : goal.give_found-requires
give_found-requires c =
    let so_far = c.gifts.invariant in
    let within : c.gifts.number < length c.args.draft.now.needs = omega (arith, so_far.all) in
    subst (λ (needs : List Path). c.gifts.number < length needs) (sym so_far.gives.needs) within

pub gifts-preserved : goal.gifts-preserved
gifts-preserved c =
    let so_far = c.gifts.invariant in
    let within : c.gifts.number < length c.args.draft.now.needs = omega (arith, so_far.all) in
    record {
      gives = GivesBelow-more c.args.modules.now c.gifts.number c.args.draft.now _ _ within so_far.gives (c.in_ok-give_found.ensures {u = tt}).needs (c.in_ok-give_found.ensures {u = tt}).found;
      all = so_far.all;
    }

pub returns : goal.returns
returns c =
    let so_far = c.gifts.invariant in
    let all : c.gifts.number ≡ length c.args.draft.now.needs = omega (arith, so_far.all) in
    GivesBelow-end c.args.modules.now c.gifts.number c.args.draft.now _ all so_far.gives
