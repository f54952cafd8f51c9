use Rattle.std.proofs.Common.{◌≡◌, Option, Some, length, refl, ap, sym, ◌∙◌}
use Rattle.std.proofs.lemmas.Option.{slice_get_past, slice_get_read}
use Rattle.std.specs.Prelude.{slice_get}
use Rattle.style_cascade.specs.devices.Indexing.{question, with_offer}
use Rattle.style_cascade.specs.devices.Rows.{found_in}
use Rattle.style_cascade.specs.declared.search.Candidate.{Candidate}
use Rattle.style_cascade.proofs.LookupLemmas.{offer-found, offer-none}
use Rattle.style_cascade.proofs.RowLemmas.{offered-each}
use Rattle.style_cascade.proofs.rows.Row.offer_rule.Goals as goal

pub returns : goal.returns
returns c = λ state property.
    let read = (c.in-Some.ensures {u = tt}).lookup in
    let got : slice_get c.args.rules.now c.args.number ≡ Some c.in-Some.rule.now = slice_get_read c.args.rules.now (length c.args.rules.now) c.args.number c.in-Some.rule.now refl read.3.0 read.1 in
    offered-each c.args.subject.now c.in-Some.rule.now c.args.number c.args.self.now c.offer_in.new.self c.offer_in-2.new.self c.offer_in-3.new.self
    (record { here = c.offer_in.ensures.here; others = c.offer_in.ensures.others })
    (record { here = c.offer_in-2.ensures.here; others = c.offer_in-2.ensures.others })
    (record { here = c.offer_in-3.ensures.here; others = c.offer_in-3.ensures.others })
    state property
    ∙ ap (λ (o : Option Candidate). with_offer (found_in c.args.self.now state property) c.args.number o) (sym (offer-found (question c.args.rules.now c.args.subject.now state property) c.args.number c.in-Some.rule.now got))

pub returns-in_default : goal.returns-in_default
returns-in_default c = λ state property.
    let read = (c.in_default.ensures {u = tt}).lookup in
    ap (λ (o : Option Candidate). with_offer (found_in c.args.self.now state property) c.args.number o) (offer-none (question c.args.rules.now c.args.subject.now state property) c.args.number (slice_get_past c.args.rules.now c.args.number read.3))
