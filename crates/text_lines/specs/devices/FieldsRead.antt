-- The text of some fields (a device of the proofs).
use Rattle.bml_bytes.specs.Codes.{codes}
use Rattle.text_lines.specs.declared.read_back.Fields.{Fields}
use Rattle.text_lines.specs.declared.read_back.ShownText.{ShownText}
use Rattle.text_lines.specs.ReadBack.{unescaped}

abbrev pub shown_text : Fields → ShownText
shown_text fields =
    record {
      x = fields.x;
      y = fields.y;
      width = fields.width;
      size = fields.size;
      text = codes (unescaped fields.bytes.now);
    }
