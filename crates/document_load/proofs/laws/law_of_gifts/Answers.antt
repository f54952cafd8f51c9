use Rattle.std.proofs.Common.{ap, refl}
use Rattle.document_load.specs.Drafts.{with_gifts}
use Rattle.document_load.proofs.GiftLemmas.{slice_set-middle}
use Rattle.document_load.proofs.laws.law_of_gifts.Goals as goal

pub returns-clause-none : goal.returns-clause-none
returns-clause-none c path items = refl

pub returns-clause-more : goal.returns-clause-more
returns-clause-more c before behind gift text draft = ap (λ gifts. with_gifts gifts draft) (slice_set-middle before behind gift _)
