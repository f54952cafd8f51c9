use Rattle.std.proofs.Common.{◌≡◌, ◌∙◌, ◌<◌, ℕ, zero, suc, Bool, true, false, ◌&&◌, List, [], ◌∷◌, length, get_or, refl, sym, ap, arith}
use Rattle.std.specs.List.{list_all}
use Rattle.page.specs.devices.Memories.{is_as_kept}
use Rattle.page.proofs.memory.are_as_kept.Goals as goal

never_both : (b : Bool) → (b && false) ≡ false
never_both true = refl
never_both false = refl

one_fails : {X : Type 0} (test : X → Bool) (xs : List X) (i : ℕ) (d : X) → i < length xs → test (get_or xs i d) ≡ false → list_all test xs ≡ false
one_fails test [] i d h e = absurd (omega arith)
one_fails test (x ∷ xs) zero d h e = ap (λ (b : Bool). b && list_all test xs) e
one_fails {X} test (x ∷ xs) (suc i) d h e = ap (λ (b : Bool). test x && b) (one_fails test xs i d (omega arith) e) ∙ never_both (test x)

pub returns-then-not-is_as_kept : goal.returns-then-not-is_as_kept
returns-then-not-is_as_kept c = λ modules stands.
    sym (one_fails (is_as_kept modules) c.args.needs.now c.needs.need-index c.need-item.result c.needs-test.true
    (ap (is_as_kept modules) (sym c.need-item.is) ∙ sym (c.is_as_kept.ensures modules stands) ∙ c.if-not-is_as_kept.true))
