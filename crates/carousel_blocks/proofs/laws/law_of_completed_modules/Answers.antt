use Rattle.carousel_blocks.proofs.EntryLaws.{completes_at, completed_held, completed_whole, completed_info, completed_before, whole_told}
use Rattle.carousel_blocks.proofs.laws.law_of_completed_modules.Goals as goal

pub returns-clause-whole : goal.returns-clause-whole
returns-clause-whole c = λ h x n change told status. let k = completes_at h x n change told status in (k.bytes, completed_held h x n k, completed_whole h x n k)

pub returns-clause-info : goal.returns-clause-info
returns-clause-info c = λ h x n change told status. completed_info h x n (completes_at h x n change told status)

pub returns-clause-before : goal.returns-clause-before
returns-clause-before c = λ h x n change told status. completed_before h x n (completes_at h x n change told status)

pub returns-clause-change : goal.returns-clause-change
returns-clause-change c = λ h x n bytes whole. let told = whole_told h x n bytes whole in (told.value, told.is, told.status)
