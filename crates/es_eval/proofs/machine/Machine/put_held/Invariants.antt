use Rattle.std.proofs.Common.{◌≡◌, ◌+◌, ◌*◌, List, length}
use Rattle.std.specs.Prelude.{All}
use Rattle.std.specs.List.{sum_by}
use Rattle.es_reader.specs.Programs.{ToldProgram}
use Rattle.es_eval.specs.devices.Machines.{IsWorkLive, burden, items_rest, rest, turns_of, world_of}
use Rattle.es_eval.proofs.machine.Machine.put_held.Given as goal

-- behind the items that are left the rest is that of the start
abbrev pub invariant-items : goal.invariant-items
invariant-items l = record {
  next : l.next ≡ l.fn.held.next;
  heap : l.self.heap ≡ l.fn.self.heap;
  live : All (IsWorkLive l.self.heap) l.items.items;
  rest : (programs : List ToldProgram) → items_rest programs l.items.items (rest programs l.self.frames)
      ≡ items_rest programs l.fn.held.items.items (rest programs l.fn.self.frames);
  world : (programs : List ToldProgram) → world_of programs l.self ≡ world_of programs l.fn.self;
  more : burden l.self + 2 * sum_by turns_of l.items.items
      ≡ burden l.fn.self + 2 * sum_by turns_of l.fn.held.items.items;
}

abbrev pub decreases-items : goal.decreases-items
decreases-items l = length l.items.items
