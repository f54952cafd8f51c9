use Rattle.replay_run.proofs.ByteLaws.{small_files}
use Rattle.replay_run.proofs.generating.law_of_small_files.Goals as goal

pub returns : goal.returns
returns c = small_files c.law_of_file_sizes.ensures.modules
