-- A device of the proofs: the piece of markup at the front of some bytes. It isn't what a piece is
-- (`Markup`), but how it is found, and nobody has to believe it: what bytes read as by it is what
-- the grammar makes of them, by `law_of_readings`.
use Rattle.std.specs.Prelude.{ℕ, zero, suc, ◌==◌, Bool, true, false, is_some, if◌then◌else◌, List, [], ◌∷◌, ◌++◌, length, Option, Some, None, option_map, option_and_then, codes as ascii}
use Rattle.bml_bytes.specs.Codes.{codes}
use Rattle.dom_tree.specs.Items.{Attribute, value_in}
use Rattle.bml_reader.specs.Bytes.{is_white, is_name_start, is_name_byte, is_text_byte, is_value_byte, is_quote, is_doctype_byte, front, behind, behind_mark}
use Rattle.bml_reader.specs.References.{read_references}
use Rattle.bml_reader.specs.Markup.{Markup}
use Rattle.bml_reader.specs.Markup.Markup.{StartTag, EndTag, Run, Cdata, Remark, Doctype}

-- something at the front of some bytes, and what stands behind it
pub record Found (A : Type 0) : Type 0 where
  pub it : A
  pub rest : List ℕ

abbrev pub found : {A : Type 0} → A → List ℕ → Found A
found it rest = record { it = it; rest = rest }

-- the bytes up to the mark, and what stands behind the mark
unfoldable pub up_to : List ℕ → List ℕ → Option (Found (List ℕ))
up_to mark [] = elim (behind_mark mark []) [ Some rest ↦ Some (found [] rest) | None ↦ None ]
up_to mark (byte ∷ bytes) =
    elim (behind_mark mark (byte ∷ bytes)) [
      | Some rest ↦ Some (found [] rest)
      | None ↦ option_map
          (λ (f : Found (List ℕ)). found (byte ∷ f.it) f.rest) (up_to mark bytes)
    ]

-- the name at the front
unfoldable pub name_at : List ℕ → Option (Found (List ℕ))
name_at [] = None
name_at (byte ∷ bytes) =
    if is_name_start byte
    then Some (found (front is_name_byte (byte ∷ bytes)) (behind is_name_byte (byte ∷ bytes)))
    else None

-- `=` with white round it
unfoldable pub equals_at : List ℕ → Option (List ℕ)
equals_at bytes = option_map (behind is_white) (behind_mark (ascii "=") (behind is_white bytes))

-- what a value's closing quote leaves
unfoldable pub closed_value : ℕ → List ℕ → Option (Found (List ℕ))
closed_value quote bytes =
    option_map (found (front (is_value_byte quote) bytes))
    (behind_mark (quote ∷ []) (behind (is_value_byte quote) bytes))

-- the value in quotes at the front
unfoldable pub value_at : List ℕ → Option (Found (List ℕ))
value_at [] = None
value_at (quote ∷ bytes) = if is_quote quote then closed_value quote bytes else None

-- the name and the value of an attribute, as they are written
pub record Written : Type 0 where
  pub name : List ℕ
  pub value : List ℕ

-- `=` and a value behind an attribute's name
unfoldable pub value_of_name : Found (List ℕ) → Option (Found Written)
value_of_name name =
    option_map
    (λ (value : Found (List ℕ)). found (record { name = name.it; value = value.it }) value.rest)
    (option_and_then value_at (equals_at name.rest))

-- the attribute at the front, whose first byte is white
unfoldable pub attribute_at : List ℕ → Option (Found Written)
attribute_at [] = None
attribute_at (byte ∷ bytes) =
    if is_white byte then option_and_then value_of_name (name_at (behind is_white (byte ∷ bytes)))
    else None

-- the attribute that is written so
abbrev pub attribute_of : Written → Attribute
attribute_of written =
    record { name = codes written.name; value = codes (read_references written.value) }

-- whether the end of a start tag is at the front, behind white, and that of an empty element
unfoldable pub tag_end_at : List ℕ → Option (Found Bool)
tag_end_at bytes =
    elim (behind_mark (ascii ">") (behind is_white bytes)) [
      | Some rest ↦ Some
          (found false rest)
      | None ↦ option_map (found true)
          (behind_mark (ascii "/>") (behind is_white bytes))
    ]

-- the attributes of a start tag and whether it is that of an empty element
pub record Inner : Type 0 where
  pub attributes : List Attribute
  pub is_empty : Bool

-- what stands in a start tag behind its name and these attributes; there are fewer attributes than
-- `most`
unfoldable pub inner_at : ℕ → List Attribute → List ℕ → Option (Found Inner)
inner_at zero before bytes = None
inner_at (suc most) before bytes =
    elim (tag_end_at bytes) [
      | Some end ↦ Some (found (record { attributes = before; is_empty = end.it }) end.rest)
      | None ↦ elim (attribute_at bytes) [
        | Some a ↦ if is_some (value_in before (codes a.it.name)) then None
            else inner_at most (before ++ attribute_of a.it ∷ []) a.rest
        | None ↦ None
      ]
    ]

-- a start tag behind its `<`
unfoldable pub start_tag_of_name : Found (List ℕ) → Option (Found Markup)
start_tag_of_name name =
    option_map (λ (inner : Found Inner).
    found (StartTag (codes name.it) inner.it.attributes inner.it.is_empty) inner.rest)
    (inner_at (suc (length name.rest)) [] name.rest)

unfoldable pub start_tag_at : List ℕ → Option (Found Markup)
start_tag_at bytes = option_and_then start_tag_of_name (name_at bytes)

-- an end tag behind its `</`
unfoldable pub end_tag_of_name : Found (List ℕ) → Option (Found Markup)
end_tag_of_name name =
    option_map (found (EndTag (codes name.it)))
    (behind_mark (ascii ">") (behind is_white name.rest))

unfoldable pub end_tag_at : List ℕ → Option (Found Markup)
end_tag_at bytes = option_and_then end_tag_of_name (name_at bytes)

-- behind `<!--`, behind `<?`, behind `<![CDATA[`, behind `<!DOCTYPE`
unfoldable pub comment_at : List ℕ → Option (Found Markup)
comment_at bytes =
    option_map (λ (f : Found (List ℕ)). found Remark f.rest) (up_to (ascii "-->") bytes)

unfoldable pub instruction_at : List ℕ → Option (Found Markup)
instruction_at bytes =
    option_map (λ (f : Found (List ℕ)). found Remark f.rest) (up_to (ascii "?>") bytes)

unfoldable pub cdata_at : List ℕ → Option (Found Markup)
cdata_at bytes =
    option_map (λ (f : Found (List ℕ)). found (Cdata f.it) f.rest) (up_to (ascii "]]>") bytes)

unfoldable pub doctype_at : List ℕ → Option (Found Markup)
doctype_at bytes =
    option_map (found Doctype) (behind_mark (ascii ">") (behind is_doctype_byte bytes))

-- behind `<!`
unfoldable pub declaration_at : List ℕ → Option (Found Markup)
declaration_at bytes =
    elim (behind_mark (ascii "--") bytes) [
      | Some rest ↦ comment_at rest
      | None ↦ elim (behind_mark (ascii "[CDATA[") bytes) [
        | Some rest ↦ cdata_at rest
        | None ↦ option_and_then doctype_at (behind_mark (ascii "DOCTYPE") bytes)
      ]
    ]

-- behind `<`
unfoldable pub bracketed_at : List ℕ → Option (Found Markup)
bracketed_at [] = None
bracketed_at (byte ∷ bytes) =
    if byte == 47 then end_tag_at bytes
    else (if byte == 33 then declaration_at bytes
    else (if byte == 63 then instruction_at bytes else start_tag_at (byte ∷ bytes)))

-- the piece at the front
unfoldable pub markup_at : List ℕ → Option (Found Markup)
markup_at [] = None
markup_at (byte ∷ bytes) =
    if byte == 60 then bracketed_at bytes
    else Some (found (Run (front is_text_byte (byte ∷ bytes))) (behind is_text_byte (byte ∷ bytes)))
