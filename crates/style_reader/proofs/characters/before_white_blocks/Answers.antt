use Rattle.std.proofs.Common.{◌≡◌, true, sym, ◌∙◌, ◌-◌, length}
use Rattle.std.specs.List.{list_all}
use Rattle.style_reader.specs.Characters.{is_white}
use Rattle.style_reader.proofs.RunLemmas.{end-block}
use Rattle.style_reader.proofs.characters.before_white_blocks.Goals as goal

pub white-preserved : goal.white-preserved
white-preserved c =
    let cases = (c.in-Some.ensures {u = tt}).cases in
    let all : list_all is_white c.in-Some.block.now ≡ true = sym c.is_all_white.ensures ∙ c.if-not-is_all_white.false in
    end-block is_white (length c.white.rest.now - 64) c.white.rest.now c.in-Some.fewer.now c.in-Some.block.now cases.0 cases.1 all ∙ c.white.invariant
