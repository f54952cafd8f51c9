use Rattle.std.proofs.Common.{arith}
use Rattle.document_load.proofs.GiftLemmas.{no_gift}
use Rattle.document_load.proofs.node_texts.gift_at.Goals as goal
use Rattle.document_load.proofs.node_texts.gift_at.Goals.{else-place-named-via-then-place-named+else-named-place, else-place-named-via-else-place-named}

pub returns-else-place-named-clause-gift : goal.returns-else-place-named-clause-gift
returns-else-place-named-clause-gift c =
    no_gift c.args.named.now c.args.given.now c.args.place c.args.number c.requires.reached
    (λ within. elim c.else-place-named.branch [ else-place-named-via-then-place-named+else-named-place w ↦ w.if-named-place.false | else-place-named-via-else-place-named w ↦ absurd (omega (arith, within, w.if-place-named.false)) ])
