use Rattle.std.proofs.Common.{◌≡◌, Some, List, length, refl, sym, subst, ap, ◌∙◌, arith, inl, inr, ◌<◌}
use Rattle.std.proofs.lemmas.Option.{slice_get_read}
use Rattle.std.specs.Prelude.{Contains, slice_get}
use Rattle.style_reader.specs.declared.selectors.Selector.{Selector}
use Rattle.style_cascade.specs.devices.Keys.{AreKnown}
use Rattle.style_cascade.proofs.ChainLemmas.{below-or_at, each-contained}
use Rattle.style_cascade.proofs.KeyLemmas.{known-more}
use Rattle.style_cascade.proofs.numbers.Numbers.note_rule.Goals as goal

pub selectors-preserved : goal.selectors-preserved
selectors-preserved c =
    let done = c.in_ok-note_selector.ensures {u = tt} in
    let within : c.selectors.place < length c.as_slice-selectors.result.now = c.selectors-test.true in
    let got : slice_get c.as_slice-selectors.result.now c.selectors.place ≡ Some c.index-selectors-place.result = slice_get_read c.as_slice-selectors.result.now (length c.as_slice-selectors.result.now) c.selectors.place c.index-selectors-place.result refl within c.index-selectors-place.is in
    record {
      more = λ name h. done.more name (c.selectors.invariant.more name h);
      known = λ k selector h get. elim (below-or_at k c.selectors.place h) [
        | inl before ↦ known-more c.selectors.self.names.keys c.note_selector.new.self.names.keys selector done.more (c.selectors.invariant.known k selector before get)
        | inr at ↦
            let both : Some selector ≡ Some c.index-selectors-place.result = sym get ∙ ap (slice_get c.as_slice-selectors.result.now) at ∙ got in
            let same : selector ≡ c.index-selectors-place.result = cc both in
            subst (λ (s : Selector). AreKnown c.note_selector.new.self.names.keys s) (sym same) done.known
      ];
    }

pub returns-clause-known : goal.returns-clause-known
returns-clause-known c = λ selector among.
    each-contained (AreKnown c.selectors.self.names.keys) c.as_slice-selectors.result.now c.selectors.place c.selectors.invariant.known (omega (arith, c.selectors-test.false)) selector
    (subst (λ (l : List Selector). Contains l selector) (sym c.as_slice-selectors.ensures) among)
