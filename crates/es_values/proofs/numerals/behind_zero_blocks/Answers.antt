use Rattle.std.proofs.Common.{◌≡◌, true, sym, ◌∙◌, arith}
use Rattle.std.specs.List.{list_all}
use Rattle.es_values.specs.devices.Runs.{is_zero}
use Rattle.es_values.proofs.RunLemmas.{front-block}
use Rattle.es_values.proofs.numerals.behind_zero_blocks.Goals as goal

pub zeros-preserved : goal.zeros-preserved
zeros-preserved c =
    let all : list_all is_zero c.split_at.result.0.now ≡ true = sym c.is_all_zeros.ensures ∙ c.if-not-is_all_zeros.false in
    record {
      text = front-block is_zero 64 c.zeros.rest.now c.split_at.result.0.now c.split_at.result.1.now c.split_at.ensures.front c.split_at.ensures.back all ∙ c.zeros.invariant.text;
      bound = omega arith;
    }
