use Rattle.std.proofs.Common.{ap, arith}
use Rattle.std.specs.Option.{option_copied}
use Rattle.std.proofs.lemmas.Grind.{common_steps}
use Rattle.es_builtins.proofs.PartLemmas.{split-codes, split-parts, split-whole}
use Rattle.es_builtins.proofs.parts.split.Goals as goal
use Rattle.es_builtins.proofs.parts.split.Goals.{in-None+in_ok-share-in-None+in_ok-push-in-None, in-Some+in_ok-push_characters-in-Some, in-Some-2+in_ok-push_parts-in-Some-2}

pub returns : goal.returns
returns c =
    elim c.match-separator.branch [
      | in-None+in_ok-share-in-None+in_ok-push-in-None w ↦
          split-whole c.args.text.now (option_copied c.args.separator) c.match-separator.parts.items (ap option_copied w.in-None.is) (grind (arith, common_steps))
      | in-Some+in_ok-push_characters-in-Some w ↦
          split-codes c.args.text.now w.in-Some.separator.now (option_copied c.args.separator) c.match-separator.parts.items (ap option_copied w.in-Some.is) (omega (arith, w.len.ensures)) (grind (arith, common_steps))
      | in-Some-2+in_ok-push_parts-in-Some-2 w ↦
          split-parts c.args.text.now w.in-Some.separator.now (option_copied c.args.separator) c.match-separator.parts.items (ap option_copied w.in-Some.is) (omega (arith, w.len.ensures)) (grind (arith, common_steps))
    ]
