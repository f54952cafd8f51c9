use Rattle.dsmcc_messages.proofs.KindTest.{by_header}
use Rattle.dsmcc_messages.proofs.message.is_of_kind.Goals as goal

pub returns-then-section-kind : goal.returns-then-section-kind
returns-then-section-kind c = by_header c.args.kind c.args.section.now c.body.result.now c.to_be_bytes.result c.agree.result c.if-section-kind.true c.to_be_bytes.ensures c.body.ensures c.agree.ensures
