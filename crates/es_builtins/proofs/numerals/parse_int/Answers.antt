use Rattle.std.proofs.Common.{◌∙◌, ap}
use Rattle.es_builtins.specs.Numerals.{radix_of_number, signed_front}
use Rattle.es_builtins.proofs.WhiteLemmas.{trimmed-front}
use Rattle.es_builtins.proofs.numerals.parse_int.Goals as goal

pub returns : goal.returns
returns c =
    c.signed_front.ensures
    ∙ (ap (signed_front (radix_of_number c.args.radix)) c.trimmed.ensures
    ∙ trimmed-front c.args.radix c.args.text.now)
