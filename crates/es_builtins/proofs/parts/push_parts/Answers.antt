use Rattle.std.proofs.Common.{refl}
use Rattle.es_builtins.proofs.PartLemmas.{all_parts-short, parted-last}
use Rattle.es_builtins.proofs.parts.push_parts.Goals as goal

pub returns-then-text-separator : goal.returns-then-text-separator
returns-then-text-separator c =
    parted-last c.push_part.result c.args.separator.now c.args.text.now c.args.text.now c.args.parts.now.items c.args.parts.now.items c.push_part.new.parts.items (all_parts-short c.args.separator.now c.args.text.now c.if-text-separator.true) c.push_part.ensures refl
