use Rattle.psi_tables.specs.declared.pmt.Pmt.{Pmt}
use Rattle.psi_tables.specs.Table.{map_table, IsOfTable}
use Rattle.psi_tables.specs.Pmt.{IsPmt}
use Rattle.psi_tables.specs.Reading.{pmt_in}
use Rattle.psi_tables.proofs.TableLaws.{table_is}
use Rattle.psi_tables.proofs.Readers.{Law, is_found, is_only, is_kind, is_short}
use Rattle.psi_tables.proofs.pmt.read_pmt.Goals as goal

law_at : (c : goal.After-pmt_of) → Law (pmt_in c.args.section.now) (IsPmt c.args.section.now) (IsOfTable map_table c.args.section.now)
law_at c =
    record { ok = c.law_of_pmt.ensures.ok c.args.section.now; kind = c.law_of_pmt.ensures.kind c.args.section.now; short = c.law_of_pmt.ensures.short c.args.section.now }

pub returns-clause-found : goal.returns-clause-found
returns-clause-found c = is_found (λ (found : Pmt). found) (pmt_in c.args.section.now) (law_at c) c.pmt_of.result c.pmt_of.ensures.reading

pub returns-clause-only : goal.returns-clause-only
returns-clause-only c = is_only (λ (found : Pmt). found) (pmt_in c.args.section.now) (law_at c) c.pmt_of.result c.pmt_of.ensures.reading

pub returns-clause-kind : goal.returns-clause-kind
returns-clause-kind c = is_kind (λ (found : Pmt). found) (pmt_in c.args.section.now) (law_at c) c.pmt_of.result c.pmt_of.ensures.reading (λ e. table_is map_table c.args.section.now (c.pmt_of.ensures.kind e))

pub returns-clause-short : goal.returns-clause-short
returns-clause-short c = is_short (λ (found : Pmt). found) (pmt_in c.args.section.now) (law_at c) c.pmt_of.result c.pmt_of.ensures.reading
