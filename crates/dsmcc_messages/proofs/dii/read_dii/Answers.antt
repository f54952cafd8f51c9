use Rattle.dsmcc_messages.specs.Message.{indication, IsOfKind}
use Rattle.dsmcc_messages.specs.Dii.{IsDii}
use Rattle.dsmcc_messages.specs.Reading.{dii_in}
use Rattle.dsmcc_messages.proofs.Headers.{kind_is}
use Rattle.dsmcc_messages.proofs.Readers.{Law, is_only, is_kind, is_short}
use Rattle.dsmcc_messages.proofs.dii.read_dii.Goals as goal

law_at : (c : goal.After-dii_of) → Law (dii_in c.args.section.now) (IsDii c.args.section.now) (IsOfKind indication c.args.section.now)
law_at c =
    record { ok = c.law_of_dii.ensures.ok c.args.section.now; kind = c.law_of_dii.ensures.kind c.args.section.now; short = c.law_of_dii.ensures.short c.args.section.now }

pub returns-clause-only : goal.returns-clause-only
returns-clause-only c = is_only (dii_in c.args.section.now) (law_at c) c.dii_of.result c.dii_of.ensures.reading

pub returns-clause-kind : goal.returns-clause-kind
returns-clause-kind c = is_kind (dii_in c.args.section.now) (law_at c) c.dii_of.result c.dii_of.ensures.reading (λ e. kind_is indication c.args.section.now (c.dii_of.ensures.kind e))

pub returns-clause-short : goal.returns-clause-short
returns-clause-short c = is_short (dii_in c.args.section.now) (law_at c) c.dii_of.result c.dii_of.ensures.reading
