-- A device of the proofs: what is posted of what a document is told, where a key is one that passes.
use Rattle.std.specs.Prelude.{Bool, true}
use Rattle.document_stages.specs.Acting.{Acting, change_posts, with_due_events, key_posts, message_posts}
use Rattle.acting_documents.specs.declared.notices.Notice.{Notice}
use Rattle.acting_documents.specs.declared.notices.Notice.TheVariants as notices
use Rattle.acting_documents.specs.Documents.{Document, passes}
use Rattle.acting_documents.specs.Handling.{due_effect}
use Rattle.acting_documents.specs.Runs.{Effect, Scene, effect_of_change}

-- by what handlers act on
abbrev pub with_notice : Notice → Acting → Acting
with_notice (notices.Key key down) a = key_posts down key a
with_notice (notices.Message component message) a = message_posts component message.now a
with_notice (notices.Change component change) a = change_posts component change.now a
with_notice (notices.Moment moment) a = with_due_events moment (record a { now = moment })

-- by the document
abbrev pub post_effect : Notice → Scene → Effect
post_effect (notices.Key key down) s = effect_of_change (key_posts down key) s
post_effect (notices.Message component message) s =
    effect_of_change (message_posts component message.now) s
post_effect (notices.Change component change) s =
    effect_of_change (change_posts component change.now) s
post_effect (notices.Moment moment) s = due_effect moment s

-- it comes to the document: a key does where the body lets it pass
abbrev pub takes : Notice → Document → Bool
takes (notices.Key key down) d = passes key d
takes (notices.Message component message) d = true
takes (notices.Change component change) d = true
takes (notices.Moment moment) d = true
