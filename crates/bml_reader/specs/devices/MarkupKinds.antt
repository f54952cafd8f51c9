-- A device of the proofs: which pieces may stand before and behind the root.
use Rattle.std.specs.Prelude.{Bool, true, false}
use Rattle.std.specs.List.{list_all}
use Rattle.bml_reader.specs.Bytes.{is_white}
use Rattle.bml_reader.specs.Markup.{Markup}
use Rattle.bml_reader.specs.Markup.Markup.{StartTag, EndTag, Run, Cdata, Remark, Doctype}

-- white space, a comment or a processing instruction
abbrev pub is_misc : Markup → Bool
is_misc (StartTag _ _ _) = false
is_misc (EndTag _) = false
is_misc (Run bytes) = list_all is_white bytes
is_misc (Cdata _) = false
is_misc Remark = true
is_misc Doctype = false
