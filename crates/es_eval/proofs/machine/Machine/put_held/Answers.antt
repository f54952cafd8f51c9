use Rattle.std.proofs.Common.{◌≡◌, ◌∙◌, ap, subst, sym}
use Rattle.std.specs.Prelude.{All}
use Rattle.std.proofs.lemmas.List.Elements.{All-pop}
use Rattle.es_values.specs.Objects.{ObjectState}
use Rattle.std.proofs.Common.{List}
use Rattle.es_eval.specs.devices.Machines.{IsWorkLive, MachineState}
use Rattle.es_eval.proofs.SettleLemmas.{put_burden, put_rest}
use Rattle.es_eval.proofs.machine.Machine.put_held.Goals as goal

pub items-preserved : goal.items-preserved
items-preserved c =
    let heap : c.put.new.self.heap ≡ c.items.self.heap =
    ap (λ (m : MachineState). m.heap) c.in_ok-put.ensures.frames in
    record {
      next = c.items.invariant.next;
      heap = heap ∙ c.items.invariant.heap;
      live = subst (λ (h : List ObjectState). All (IsWorkLive h) c.pop.new.self.items) (sym heap)
          (All-pop (IsWorkLive c.items.self.heap) c.items.items.items c.pop.new.self.items
          c.pop.result c.pop.ensures.items c.items.invariant.live).0;
      rest = λ programs. put_rest programs c.items.items.items c.pop.new.self.items c.in-Some.item
          c.items.self c.put.new.self c.in-Some.ensures.items (c.in_ok-put.ensures.rest programs)
          ∙ c.items.invariant.rest programs;
      world = λ programs. c.in_ok-put.ensures.world programs ∙ c.items.invariant.world programs;
      more = put_burden c.items.items.items c.pop.new.self.items c.in-Some.item c.items.self
          c.put.new.self c.in-Some.ensures.items c.in_ok-put.ensures.more ∙ c.items.invariant.more;
    }
