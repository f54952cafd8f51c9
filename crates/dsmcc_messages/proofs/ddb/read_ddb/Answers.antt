use Rattle.dsmcc_messages.specs.Message.{data_block, IsOfKind}
use Rattle.dsmcc_messages.specs.Ddb.{IsDdb, fields_of}
use Rattle.dsmcc_messages.specs.Reading.{ddb_in}
use Rattle.dsmcc_messages.proofs.Readers.{Law, sees_only, sees_kind, sees_short}
use Rattle.dsmcc_messages.proofs.ddb.read_ddb.Goals as goal

law_at : (c : goal.After-ddb_of) → Law (ddb_in c.args.section.now) (IsDdb c.args.section.now) (IsOfKind data_block c.args.section.now)
law_at c =
    record { ok = c.law_of_ddb.ensures.ok c.args.section.now; kind = c.law_of_ddb.ensures.kind c.args.section.now; short = c.law_of_ddb.ensures.short c.args.section.now }

pub returns-clause-only : goal.returns-clause-only
returns-clause-only c = sees_only fields_of (ddb_in c.args.section.now) (law_at c) c.ddb_of.result c.ddb_of.ensures

pub returns-clause-kind : goal.returns-clause-kind
returns-clause-kind c = sees_kind fields_of (ddb_in c.args.section.now) (law_at c) c.ddb_of.result c.ddb_of.ensures

pub returns-clause-short : goal.returns-clause-short
returns-clause-short c = sees_short fields_of (ddb_in c.args.section.now) (law_at c) c.ddb_of.result c.ddb_of.ensures
