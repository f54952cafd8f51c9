use Rattle.dsmcc_messages.specs.Ddb.{fields_of}
use Rattle.carousel_blocks.proofs.BackLaws.{takes_back_by}
use Rattle.carousel_blocks.proofs.carousel.Carousel.take_block_back.Goals as goal

pub returns : goal.returns
returns c =
    let b = c.self.inside in
    takes_back_by b.transaction b.download b.modules b.buffers c.take_back.new.buffers c.args.self.now c.self.view_is (fields_of c.args.ddb.now) c.take_back.ensures.kept
