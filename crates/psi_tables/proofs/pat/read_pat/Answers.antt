use Rattle.std.proofs.Common.{Vec, Global}
use Rattle.psi_tables.specs.declared.pat.PatEntry.{PatEntry}
use Rattle.psi_tables.specs.Table.{association_table, IsOfTable}
use Rattle.psi_tables.specs.Pat.{IsPat}
use Rattle.psi_tables.specs.Reading.{pat_in}
use Rattle.psi_tables.proofs.TableLaws.{table_is}
use Rattle.psi_tables.proofs.Readers.{Law, is_found, is_only, is_kind, is_short}
use Rattle.psi_tables.proofs.pat.read_pat.Goals as goal

law_at : (c : goal.After-pat_of) → Law (pat_in c.args.section.now) (IsPat c.args.section.now) (IsOfTable association_table c.args.section.now)
law_at c =
    record { ok = c.law_of_pat.ensures.ok c.args.section.now; kind = c.law_of_pat.ensures.kind c.args.section.now; short = c.law_of_pat.ensures.short c.args.section.now }

pub returns-clause-found : goal.returns-clause-found
returns-clause-found c = is_found (λ (found : Vec PatEntry Global). found.items) (pat_in c.args.section.now) (law_at c) c.pat_of.result c.pat_of.ensures.reading

pub returns-clause-only : goal.returns-clause-only
returns-clause-only c = is_only (λ (found : Vec PatEntry Global). found.items) (pat_in c.args.section.now) (law_at c) c.pat_of.result c.pat_of.ensures.reading

pub returns-clause-kind : goal.returns-clause-kind
returns-clause-kind c = is_kind (λ (found : Vec PatEntry Global). found.items) (pat_in c.args.section.now) (law_at c) c.pat_of.result c.pat_of.ensures.reading (λ e. table_is association_table c.args.section.now (c.pat_of.ensures.kind e))

pub returns-clause-short : goal.returns-clause-short
returns-clause-short c = is_short (λ (found : Vec PatEntry Global). found.items) (pat_in c.args.section.now) (law_at c) c.pat_of.result c.pat_of.ensures.reading
