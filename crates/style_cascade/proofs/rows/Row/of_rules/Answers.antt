use Rattle.std.proofs.Common.{inl, inr, length, arith}
use Rattle.std.proofs.lemmas.Bool.{cases_lt}
use Rattle.style_cascade.specs.devices.Indexing.{question}
use Rattle.style_cascade.specs.devices.Rows.{found_in}
use Rattle.style_cascade.proofs.IndexLemmas.{offer-past}
use Rattle.style_cascade.proofs.LookupLemmas.{best-value}
use Rattle.style_cascade.proofs.RowLemmas.{covers-next, sound-empty, sound-next}
use Rattle.style_cascade.proofs.rows.Row.of_rules.Goals as goal

pub rules-init : goal.rules-init
rules-init c = record {
  sound = λ state property. sound-empty (question c.args.rules.now c.args.subject.now state property) (found_in c.in_ok-row.row state property) ((c.in_ok-row.ensures {u = tt}) state property);
  covers = λ k state property h. absurd (omega (arith, h));
}

pub rules-preserved : goal.rules-preserved
rules-preserved c = record {
  sound = λ state property. sound-next (question c.args.rules.now c.args.subject.now state property) (found_in c.rules.row state property) (found_in c.offer_rule.new.self state property) c.rules.number (c.offer_rule.ensures state property) (c.rules.invariant.sound state property);
  covers = λ k state property h. covers-next (question c.args.rules.now c.args.subject.now state property) (found_in c.rules.row state property) (found_in c.offer_rule.new.self state property) c.rules.number k (c.offer_rule.ensures state property) h (c.rules.invariant.covers k state property);
}

pub returns : goal.returns
returns c = λ state property.
    best-value (question c.args.rules.now c.args.subject.now state property) (found_in c.rules.row state property) (c.rules.invariant.sound state property)
    (λ n. elim (cases_lt n (length c.args.rules.now)) [
      | inl h ↦ c.rules.invariant.covers n state property (omega (arith, h, c.rules-test.false))
      | inr h ↦ offer-past (question c.args.rules.now c.args.subject.now state property) n h (found_in c.rules.row state property)
    ])
