use Rattle.std.proofs.Common.{◌≡◌, ◌<◌, ◌∷◌, subst}
use Rattle.bml_bytes.specs.Codes.{AreBytes}
use Rattle.std.proofs.lemmas.List.Elements.{All-tail}
use Rattle.bml_bytes.proofs.cursors.Cursor.u8.Goals as goal

pub invariant_of-self : goal.invariant_of-self
invariant_of-self c =
    let split : c.self.inside.left.now ≡ c.in_ok-byte.byte.now ∷ c.in_ok-byte.left.now = c.in_ok-byte.ensures.cases.0 in
    All-tail (λ byte. byte < 256) c.in_ok-byte.byte.now c.in_ok-byte.left.now (subst AreBytes split c.self.invariant)
