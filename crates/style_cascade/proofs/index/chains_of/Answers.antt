use Rattle.std.proofs.Common.{◌≡◌, ◌-◌, ◌<◌, ℕ, Some, length, inl, inr, refl, sym, subst, ap, ◌∙◌, arith}
use Rattle.std.proofs.lemmas.Option.{slice_get_read}
use Rattle.std.specs.Prelude.{Contains, slice_get}
use Rattle.style_reader.specs.declared.rules.Rule.{Rule}
use Rattle.style_cascade.specs.devices.Chains.{IsNoted}
use Rattle.style_cascade.proofs.ChainLemmas.{from-or_at, noted-kept, seen-weaker}
use Rattle.style_cascade.proofs.index.chains_of.Goals as goal

pub note_rule-requires : goal.note_rule-requires
note_rule-requires c = seen-weaker c.args.given.now c.rules.number (c.rules.number - 1) c.rules.chains.chains (omega arith) c.rules.invariant.seen

pub rules-preserved : goal.rules-preserved
rules-preserved c =
    let done = c.in_ok-note_rule.ensures {u = tt} in
    let within : c.rules.number - 1 < length c.args.rules.now = omega (arith, c.rules-test.true, c.rules.invariant.within) in
    let got : slice_get c.args.rules.now (c.rules.number - 1) ≡ Some c.index-rules-number.result = slice_get_read c.args.rules.now (length c.args.rules.now) (c.rules.number - 1) c.index-rules-number.result refl within c.index-rules-number.is in
    record {
      within = omega (arith, c.rules.invariant.within);
      seen = done.seen;
      only = λ key other h. elim (done.only key other h) [
        | inl old ↦ c.rules.invariant.only key other old
        | inr new ↦ record { rule = c.index-rules-number.result; found = subst (λ (n : ℕ). slice_get c.args.rules.now n ≡ Some c.index-rules-number.result) (sym new.0) got; has = new.1 }
      ];
      noted = λ other rule selector le get among known. elim (from-or_at other c.rules.number le) [
        | inl later ↦ noted-kept c.args.numbers.now.names.keys c.args.given.now other c.rules.chains.chains c.note_rule.new.self.chains selector done.kept (c.rules.invariant.noted other rule selector later get among known)
        | inr at ↦
            let both : Some rule ≡ Some c.index-rules-number.result = sym get ∙ ap (slice_get c.args.rules.now) at ∙ got in
            let same : rule ≡ c.index-rules-number.result = cc both in
            subst (λ (n : ℕ). IsNoted c.args.numbers.now.names.keys c.args.given.now n c.note_rule.new.self.chains selector) (sym at)
            (done.noted selector (subst (λ (r : Rule). Contains r.selectors selector) same among) known)
      ];
    }
