-- The pieces that a document is spelled by, end to end: tags, runs of text, CDATA sections, remarks
-- and the document type (XML 1.0, 2.4 to 2.8 and 3.1; attributes are `Attribute`, 3.1). What
-- differs from XML is this project's own.
use Rattle.std.specs.Prelude.{◌≡◌, ◌≢◌, ℕ, Bool, true, false, ◌⊎◌, List, [], ◌∷◌, ◌++◌, None, IsNone, codes as ascii}
use Rattle.std.specs.List.{list_all}
use Rattle.bml_bytes.specs.Codes.{codes}
use Rattle.dom_tree.specs.Items.{Attribute, value_in}
use Rattle.bml_reader.specs.Bytes.{is_white, is_name, is_text_byte, is_value_byte, is_quote, is_doctype_byte, behind_mark}
use Rattle.bml_reader.specs.References.{read_references}

-- `<tag name="value">` or `<tag name="value"/>`; `</tag>`; bytes of text; `<![CDATA[bytes]]>`; a
-- comment or a processing instruction; `<!DOCTYPE ..>`
pub data Markup : Type 0 where
  StartTag : (tag : List ℕ) → (attributes : List Attribute) → (is_empty : Bool) → Markup
  EndTag : (tag : List ℕ) → Markup
  Run : (bytes : List ℕ) → Markup
  Cdata : (bytes : List ℕ) → Markup
  Remark : Markup
  Doctype : Markup

-- white space, a byte of it and more of it, a name
abbrev pub IsWhite : List ℕ → Type 0
IsWhite bytes = list_all is_white bytes ≡ true

-- white, a name, `=` with white round it, and a value in quotes, whose references are read
pub record IsAttribute (attribute : Attribute) (spelled : List ℕ) : Type 0 where
  pub first : ℕ
  pub before : List ℕ
  pub name : List ℕ
  pub left : List ℕ
  pub right : List ℕ
  pub quote : ℕ
  pub value : List ℕ
  pub end_to_end : spelled
      ≡ first ∷ (before ++ (name ++ (left ++ (61 ∷ (right ++ (quote ∷ (value ++ quote ∷ [])))))))
  pub whites : IsWhite (first ∷ before) × IsWhite left × IsWhite right
  pub is_named : is_name name ≡ true
  pub quoted : (is_quote quote ≡ true) × (list_all (is_value_byte quote) value ≡ true)
  pub name_is : attribute.name ≡ codes name
  pub value_is : attribute.value ≡ codes (read_references value)

-- attributes, one behind the other
abbrev pub SpellsAttributes : List Attribute → List ℕ → Type 0
SpellsAttributes [] spelled = spelled ≡ []
SpellsAttributes (a ∷ attributes) spelled =
    (first more : List ℕ) × (spelled ≡ first ++ more) × IsAttribute a first
    × SpellsAttributes attributes more

-- the names of the attributes differ from each other and from those of the attributes in front of
-- them
abbrev pub NamesDiffer : List Attribute → List Attribute → Type 0
NamesDiffer before [] = Unit {0}
NamesDiffer before (a ∷ attributes) =
    IsNone (value_in before a.name) × NamesDiffer (before ++ a ∷ []) attributes

abbrev pub tag_end : Bool → List ℕ
tag_end true = ascii "/>"
tag_end false = ascii ">"

-- `<`, a name, attributes of different names, white, and `>`, or `/>` of an element without
-- contents
pub record IsStartTag (tag : List ℕ) (attributes : List Attribute) (is_empty : Bool)
    (spelled : List ℕ) : Type 0 where
  pub name : List ℕ
  pub inner : List ℕ
  pub white : List ℕ
  pub end_to_end : spelled ≡ 60 ∷ (name ++ (inner ++ (white ++ tag_end is_empty)))
  pub is_named : is_name name ≡ true
  pub tag_is : tag ≡ codes name
  pub inside : SpellsAttributes attributes inner
  pub is_white : IsWhite white
  pub differ : NamesDiffer [] attributes

-- `</`, a name, white, `>`
pub record IsEndTag (tag : List ℕ) (spelled : List ℕ) : Type 0 where
  pub name : List ℕ
  pub white : List ℕ
  pub end_to_end : spelled ≡ 60 ∷ 47 ∷ (name ++ (white ++ 62 ∷ []))
  pub is_named : is_name name ≡ true
  pub tag_is : tag ≡ codes name
  pub is_white : IsWhite white

-- no byte of text stands at the front
abbrev pub EndsText : List ℕ → Type 0
EndsText [] = Unit {0}
EndsText (byte ∷ more) = is_text_byte byte ≡ false

-- bytes other than `<`, at least one, as far as they go: no such byte stands behind them
pub record IsRun (bytes spelled more : List ℕ) : Type 0 where
  pub is_it : spelled ≡ bytes
  pub some : bytes ≢ []
  pub made_of : list_all is_text_byte bytes ≡ true
  pub whole : EndsText more

-- the mark stands behind these bytes for the first time
abbrev pub EndsAtFirst : List ℕ → List ℕ → Type 0
EndsAtFirst mark [] = Unit {0}
EndsAtFirst mark (byte ∷ bytes) =
    (behind_mark mark (byte ∷ (bytes ++ mark)) ≡ None) × EndsAtFirst mark bytes

-- an opening mark, these bytes, and the closing mark at the first place where it stands behind the
-- opening one
pub record IsMarked (opening bytes closing spelled : List ℕ) : Type 0 where
  pub end_to_end : spelled ≡ opening ++ (bytes ++ closing)
  pub first : EndsAtFirst closing bytes

-- a comment or a processing instruction
abbrev pub IsRemark : List ℕ → Type 0
IsRemark spelled =
    ((bytes : List ℕ) × IsMarked (ascii "<!--") bytes (ascii "-->") spelled)
    ⊎ ((bytes : List ℕ) × IsMarked (ascii "<?") bytes (ascii "?>") spelled)

-- `<!DOCTYPE`, bytes other than `<`, `>` and `[`, and `>`
pub record IsDoctype (spelled : List ℕ) : Type 0 where
  pub bytes : List ℕ
  pub end_to_end : spelled ≡ ascii "<!DOCTYPE" ++ (bytes ++ 62 ∷ [])
  pub made_of : list_all is_doctype_byte bytes ≡ true

-- the piece is spelled so, where that much stands behind it
abbrev pub IsMarkup : Markup → List ℕ → List ℕ → Type 0
IsMarkup (StartTag tag attributes is_empty) spelled more =
    IsStartTag tag attributes is_empty spelled
IsMarkup (EndTag tag) spelled more = IsEndTag tag spelled
IsMarkup (Run bytes) spelled more = IsRun bytes spelled more
IsMarkup (Cdata bytes) spelled more = IsMarked (ascii "<![CDATA[") bytes (ascii "]]>") spelled
IsMarkup Remark spelled more = IsRemark spelled
IsMarkup Doctype spelled more = IsDoctype spelled

-- the bytes are the pieces, spelled end to end
abbrev pub Spells : List Markup → List ℕ → Type 0
Spells [] bytes = bytes ≡ []
Spells (first ∷ others) bytes =
    (spelled more : List ℕ) × (bytes ≡ spelled ++ more) × IsMarkup first spelled more
    × Spells others more
