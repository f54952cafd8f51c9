use Rattle.std.proofs.Common.{◌≡◌, Option, sym, subst}
use Rattle.std.specs.Prelude.{IfOk, option_map}
use Rattle.style_reader.specs.Readings.{Asked}
use Rattle.style_reader.specs.devices.Views.{seen_asked}
use Rattle.style_reader.proofs.SelectorLemmas.{asked-marked, asked-alone}
use Rattle.style_reader.proofs.selectors.asked_of.Goals as goal

pub returns-in-Some : goal.returns-in-Some
returns-in-Some c =
    subst (λ (m : Option Asked). IfOk c.marked.result (λ asked. option_map seen_asked asked ≡ m))
    (asked-marked c.args.text.now c.in-Some.place (sym (c.if-is_word.ensures {u = tt})) c.in-Some.ensures)
    c.marked.ensures

pub returns-in-None : goal.returns-in-None
returns-in-None c =
    subst (λ (m : Option Asked). IfOk c.tag_alone.result (λ asked. option_map seen_asked asked ≡ m))
    (asked-alone c.args.text.now (sym (c.if-is_word.ensures {u = tt})) c.in-None.ensures)
    c.tag_alone.ensures
