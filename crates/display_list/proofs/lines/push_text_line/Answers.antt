use Rattle.bml_bytes.specs.Codes.{bytes_of}
use Rattle.bml_bytes.specs.Escapes.{escaped}
use Rattle.bml_bytes.specs.declared.line_fields.Escapes.TheVariants.{Controls}
use Rattle.display_list.proofs.LineLemmas.{text_line-is, three-parts}
use Rattle.display_list.proofs.lines.push_text_line.Goals as goal

pub returns-clause-ok : goal.returns-clause-ok
returns-clause-ok c =
    text_line-is c.args.out.now.items _ c.args.place c.args.style (escaped Controls (bytes_of c.args.text.now))
    (three-parts c.args.out.now.items _ _ _ _ _ _ (c.in_ok-push_text_front.ensures {u = tt}).ok (c.in_ok-push.ensures {u = tt}).ok (c.in_ok-push_line_end.ensures {u = tt}).ok)
