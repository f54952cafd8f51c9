use Rattle.std.proofs.Common.{◌∙◌, ap}
use Rattle.std.specs.Prelude.{codes as ascii}
use Rattle.std.specs.Option.{option_copied, option_or}
use Rattle.multipart_entities.specs.HeadViews.{seen_head, seen_header, value_for}
use Rattle.multipart_entities.proofs.HeadLemmas.{copied-or, head_values-same}
use Rattle.multipart_entities.proofs.heads.Head.with.Goals as goal

pub returns : goal.returns
returns c =
    let head = c.args.self in
    let seen = seen_head head in
    let header = seen_header c.args.header in
    head_values-same head.size (option_copied c.or.result) (option_copied c.or-2.result) (option_copied c.or-3.result)
    (option_or seen.media (value_for (ascii "Content-Type") header)) (option_or seen.encoding (value_for (ascii "Content-Transfer-Encoding") header)) (option_or seen.location (value_for (ascii "Content-Location") header))
    (ap option_copied c.or.ensures ∙ (copied-or head.media c.value_of.result ∙ ap (option_or seen.media) c.value_of.ensures))
    (ap option_copied c.or-2.ensures ∙ (copied-or head.encoding c.value_of-2.result ∙ ap (option_or seen.encoding) c.value_of-2.ensures))
    (ap option_copied c.or-3.ensures ∙ (copied-or head.location c.value_of-3.result ∙ ap (option_or seen.location) c.value_of-3.ensures))
