-- What a document does with what it is told while no handler of it runs. (This project's own.)
use Rattle.std.specs.Prelude.{◌<◌, ◌^◌}
use Rattle.acting_documents.specs.declared.notices.Notice.{Notice}
use Rattle.acting_documents.specs.declared.notices.Notice.TheVariants as notices
use Rattle.acting_documents.specs.Handling.{change_effect, due_effect, key_effect, message_effect}
use Rattle.acting_documents.specs.Runs.{Effect, Scene}

abbrev pub notice_effect : Notice → Scene → Effect
notice_effect (notices.Key key down) s = key_effect key down s
notice_effect (notices.Message component message) s = message_effect component message.now s
notice_effect (notices.Change component change) s = change_effect component change.now s
notice_effect (notices.Moment moment) s = due_effect moment s

-- a moment is below 2^62, as all times are
abbrev pub IsInTime : Notice → Type 0
IsInTime (notices.Key key down) = Unit {0}
IsInTime (notices.Message component message) = Unit {0}
IsInTime (notices.Change component change) = Unit {0}
IsInTime (notices.Moment moment) = moment < 2 ^ 62
