use Rattle.std.proofs.Common.{◌≡◌, true, sym, ◌∙◌}
use Rattle.std.specs.List.{list_all}
use Rattle.style_reader.specs.devices.Runs.{is_zero}
use Rattle.style_reader.proofs.RunLemmas.{front-block}
use Rattle.style_reader.proofs.numbers.behind_zero_blocks.Goals as goal

pub zeros-preserved : goal.zeros-preserved
zeros-preserved c =
    let cases = (c.in-Some.ensures {u = tt}).cases in
    let all : list_all is_zero c.in-Some.block.now ≡ true = sym c.is_all_zeros.ensures ∙ c.if-not-is_all_zeros.false in
    front-block is_zero 64 c.zeros.rest.now c.in-Some.block.now c.in-Some.more.now cases.0 cases.1 all ∙ c.zeros.invariant
