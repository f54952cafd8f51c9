use Rattle.std.proofs.Common.{◌≡◌, ◌∙◌, ◌+◌, ◌<◌, ℕ, List, [], ◌∷◌, ◌++◌, length, get_or, take, sym, ap, ap₂, subst, arith, rules}
use Rattle.std.specs.Prelude.{All, Option, map}
use Rattle.std.proofs.lemmas.List.{take_all}
use Rattle.std.proofs.lemmas.List.Elements.{All-more}
use Rattle.std.proofs.lemmas.Grind.{common_steps}
use Rattle.multipart_entities.specs.declared.paths.Path.{Path}
use Rattle.page.specs.devices.Memories.{FitsModule, numbered}
use Rattle.page.proofs.memory.numbered.Goals as goal

map_more : {X Y : Type 0} (f : X → Y) (xs : List X) (i : ℕ) (d : X) → i < length xs → map f (take (i + 1) xs) ≡ map f (take i xs) ++ f (get_or xs i d) ∷ []
map_more f xs i d h = grind (arith, common_steps)

pub needs-preserved : goal.needs-preserved
needs-preserved c = record {
  numbers = λ modules stands.
      (c.in_ok-push.ensures {u = tt}).items
      ∙ ap₂ (λ (l : List (Path × Option ℕ)) (x : Path × Option ℕ). l ++ x ∷ []) (c.needs.invariant.numbers modules stands)
      (ap₂ (λ (p : Path) (n : Option ℕ). (p, n)) (c.in_ok-copy_of.ensures {u = tt}) (c.seen_number-number.ensures modules stands) ∙ ap (numbered modules) c.need-item.is)
      ∙ sym (map_more (numbered modules) c.args.needs.now c.needs.need-index c.need-item.result c.needs-test.true);
  fit = All-more FitsModule c.args.needs.now c.needs.need-index c.need-item.result c.needs-test.true c.needs.invariant.fit (subst FitsModule c.need-item.is (search rules));
}

pub returns-clause-fit : goal.returns-clause-fit
returns-clause-fit c = subst (All FitsModule) (take_all c.needs.need-index c.args.needs.now (omega arith)) c.needs.invariant.fit
