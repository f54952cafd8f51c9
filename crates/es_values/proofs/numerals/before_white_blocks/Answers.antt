use Rattle.std.proofs.Common.{◌≡◌, ◌-◌, true, sym, ◌∙◌, length, arith}
use Rattle.std.specs.List.{list_all}
use Rattle.es_values.specs.Numerals.{is_white}
use Rattle.es_values.proofs.RunLemmas.{end-block}
use Rattle.es_values.proofs.numerals.before_white_blocks.Goals as goal

pub white-preserved : goal.white-preserved
white-preserved c =
    let all : list_all is_white c.split_at.result.1.now ≡ true = sym c.is_all_white.ensures ∙ c.if-not-is_all_white.false in
    record {
      text = end-block is_white (length c.white.rest.now - 64) c.white.rest.now c.split_at.result.0.now c.split_at.result.1.now c.split_at.ensures.front c.split_at.ensures.back all ∙ c.white.invariant.text;
      bound = omega arith;
    }
