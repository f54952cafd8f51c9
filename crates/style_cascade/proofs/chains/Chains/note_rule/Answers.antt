use Rattle.std.proofs.Common.{◌≡◌, ◌<◌, Some, List, length, inl, inr, refl, sym, subst, ap, ◌∙◌, arith}
use Rattle.std.proofs.lemmas.Option.{slice_get_read}
use Rattle.std.specs.Prelude.{Contains, slice_get}
use Rattle.style_reader.specs.declared.selectors.Selector.{Selector}
use Rattle.style_cascade.specs.devices.Chains.{IsNoted}
use Rattle.style_cascade.specs.devices.Keys.{AreKnown}
use Rattle.style_cascade.proofs.ChainLemmas.{below-or_at, each-contained, get-Contains, noted-kept}
use Rattle.style_cascade.proofs.chains.Chains.note_rule.Goals as goal

pub selectors-preserved : goal.selectors-preserved
selectors-preserved c =
    let done = c.in_ok-note_selector.ensures {u = tt} in
    let within : c.selectors.place < length c.as_slice-selectors.result.now = c.selectors-test.true in
    let got : slice_get c.as_slice-selectors.result.now c.selectors.place ≡ Some c.index-selectors-place.result = slice_get_read c.as_slice-selectors.result.now (length c.as_slice-selectors.result.now) c.selectors.place c.index-selectors-place.result refl within c.index-selectors-place.is in
    record {
      seen = done.seen;
      kept = λ key number h. done.kept key number (c.selectors.invariant.kept key number h);
      only = λ key other h. elim (done.only key other h) [
        | inl old ↦ c.selectors.invariant.only key other old
        | inr new ↦ inr (new.0, record { selector = c.index-selectors-place.result; among = get-Contains c.as_slice-selectors.result.now c.selectors.place c.index-selectors-place.result got; key_is = new.1 })
      ];
      noted = λ k selector h get known. elim (below-or_at k c.selectors.place h) [
        | inl before ↦ noted-kept c.args.numbers.now.names.keys c.args.given.now c.args.number c.selectors.self.chains c.note_selector.new.self.chains selector done.kept (c.selectors.invariant.noted k selector before get known)
        | inr at ↦
            let both : Some selector ≡ Some c.index-selectors-place.result = sym get ∙ ap (slice_get c.as_slice-selectors.result.now) at ∙ got in
            let same : selector ≡ c.index-selectors-place.result = cc both in
            subst (λ (s : Selector). IsNoted c.args.numbers.now.names.keys c.args.given.now c.args.number c.note_selector.new.self.chains s) (sym same)
            (done.noted (subst (λ (s : Selector). AreKnown c.args.numbers.now.names.keys s) same known))
      ];
    }

pub returns-clause-noted : goal.returns-clause-noted
returns-clause-noted c = λ selector among.
    each-contained (λ (s : Selector). AreKnown c.args.numbers.now.names.keys s → IsNoted c.args.numbers.now.names.keys c.args.given.now c.args.number c.selectors.self.chains s) c.as_slice-selectors.result.now c.selectors.place c.selectors.invariant.noted (omega (arith, c.selectors-test.false)) selector
    (subst (λ (l : List Selector). Contains l selector) (sym c.as_slice-selectors.ensures) among)
