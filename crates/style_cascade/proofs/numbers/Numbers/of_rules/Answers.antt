use Rattle.std.proofs.Common.{◌≡◌, Some, length, refl, sym, subst, ap, ◌∙◌, arith, inl, inr, ◌<◌}
use Rattle.std.proofs.lemmas.Option.{slice_get_read}
use Rattle.std.specs.Prelude.{Contains, slice_get}
use Rattle.style_reader.specs.declared.rules.Rule.{Rule}
use Rattle.style_cascade.specs.devices.Keys.{AreKnown}
use Rattle.style_cascade.proofs.ChainLemmas.{below-or_at, each-contained}
use Rattle.style_cascade.proofs.KeyLemmas.{known-more}
use Rattle.style_cascade.proofs.numbers.Numbers.of_rules.Goals as goal

pub rules-preserved : goal.rules-preserved
rules-preserved c =
    let done = c.in_ok-note_rule.ensures {u = tt} in
    let within : c.rules.place < length c.args.rules.now = c.rules-test.true in
    let got : slice_get c.args.rules.now c.rules.place ≡ Some c.index-rules-place.result = slice_get_read c.args.rules.now (length c.args.rules.now) c.rules.place c.index-rules-place.result refl within c.index-rules-place.is in
    λ k rule selector h get among. elim (below-or_at k c.rules.place h) [
      | inl before ↦ known-more c.rules.numbers.names.keys c.note_rule.new.self.names.keys selector done.more (c.rules.invariant k rule selector before get among)
      | inr at ↦
          let both : Some rule ≡ Some c.index-rules-place.result = sym get ∙ ap (slice_get c.args.rules.now) at ∙ got in
          let same : rule ≡ c.index-rules-place.result = cc both in
          done.known selector (subst (λ (r : Rule). Contains r.selectors selector) same among)
    ]

pub returns : goal.returns
returns c = λ rule selector among in_rule.
    each-contained (λ (r : Rule). Contains r.selectors selector → AreKnown c.rules.numbers.names.keys selector) c.args.rules.now c.rules.place (λ k r h get in_r. c.rules.invariant k r selector h get in_r) (omega (arith, c.rules-test.false)) rule among in_rule
