use Rattle.std.proofs.Common.{◌≡◌, ◌<◌, ◌+◌, List, ℕ, [], ◌∷◌, ◌++◌, length, get_or, take, map, sym, ap, subst, ◌∙◌}
use Rattle.std.proofs.lemmas.List.{take_more, map-append}
use Rattle.ts_sections.specs.Assembly.{AssemblerState, StandsFor}
use Rattle.ts_sections.proofs.whole.sections_of.Goals as goal

-- the packets so far, and one more
StandsFor-more : (packets : List (List ℕ)) (i : ℕ) (packet : List ℕ) (state : AssemblerState) (given : List (List ℕ)) → i < length packets → packet ≡ get_or packets i packet → StandsFor state (take i packets ++ packet ∷ []) given → StandsFor state (take (i + 1) packets) given
StandsFor-more packets i packet state given h is stands =
    let more : take (i + 1) packets ≡ take i packets ++ packet ∷ [] = take_more packets i packet h ∙ ap (λ x. take i packets ++ x ∷ []) (sym is) in
    subst (λ x. StandsFor state x given) (sym more) stands

pub loop-section-init : goal.loop-section-init
loop-section-init c =
    let packets = c.args.packets.now in
    let i = c.loop-packet.packet-index in
    let given = map (λ section. section.items) c.loop-packet.found.items in
    StandsFor-more packets i c.packet-item.result c.push.new.self given c.loop-packet-test.true c.packet-item.is
    (c.push.ensures.stands (take i packets) given c.loop-packet.invariant.0)

pub loop-section-preserved : goal.loop-section-preserved
loop-section-preserved c =
    let gives = rw c.in-Some.is at c.next.follows.holds-at-none in
    let section = c.in_ok-from_slice.ensures.items in
    let found = c.in_ok-push.ensures.items in
    rw (found, map-append, section) (gives.stands _ _ c.loop-section.invariant)

pub loop-packet-preserved : goal.loop-packet-preserved
loop-packet-preserved c =
    let ends = rw c.in_default.is at c.next.follows.holds-at-none in
    (ends.stands _ _ c.loop-section.invariant, ends.left, ends.all _ _ c.loop-section.invariant)
