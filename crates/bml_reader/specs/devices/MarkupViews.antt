-- A device of the proofs: what the pieces of markup in the code stand for.
use Rattle.std.specs.Prelude.{ℕ, List}
use Rattle.std.specs.Borrow.{Bor}
use Rattle.bml_bytes.specs.Codes.{codes}
use Rattle.bml_reader.specs.Markup.{Markup}
use Rattle.bml_reader.specs.Markup.Markup.{StartTag, EndTag, Run, Cdata, Remark, Doctype}
use Rattle.bml_reader.specs.devices.Lexing.{Found, found}
use Rattle.bml_reader.specs.devices.AttributeViews.{attributes_in_map}
use Rattle.bml_reader.specs.declared.markup.Markup.{Markup as MarkupCode}
use Rattle.bml_reader.specs.declared.markup.Markup.TheVariants.{StartTag as StartTagMarkup, EndTag as EndTagMarkup, Run as RunMarkup, Cdata as CdataMarkup, Remark as RemarkMarkup, Doctype as DoctypeMarkup}

abbrev pub seen_markup : MarkupCode → Markup
seen_markup (StartTagMarkup t) =
    StartTag t.tag (attributes_in_map t.inside.attributes) t.inside.is_empty
seen_markup (EndTagMarkup name) = EndTag (codes name.now)
seen_markup (RunMarkup bytes) = Run bytes.now
seen_markup (CdataMarkup bytes) = Cdata bytes.now
seen_markup RemarkMarkup = Remark
seen_markup DoctypeMarkup = Doctype

abbrev pub found_markup : MarkupCode × Bor (List ℕ) → Found Markup
found_markup p = found (seen_markup p.0) p.1.now
