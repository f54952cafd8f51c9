use Rattle.std.proofs.Common.{length}
use Rattle.es_values.proofs.LawLemmas.{count-put, sound-put}
use Rattle.es_values.proofs.SoundLemmas.{live-value, live-weaker, sound-new}
use Rattle.es_values.proofs.laws.law_of_live_values.Goals as goal

pub returns : goal.returns
returns c = record {
  stays = λ heap more value h l. live-weaker (length heap) (length more) value h l;
  added = sound-new;
  read = live-value;
  put = sound-put;
  count = count-put;
}
