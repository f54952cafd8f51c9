-- The kinds of handlers, by the attributes that they are the values of (HTML 4, 18.2.3, and the
-- intrinsic events of BML, ARIB STD-B24 volume 2; which count is this project's own profile).
use Rattle.std.specs.Prelude.{ℕ, List, [], ◌∷◌, Option, codes, find}
use Rattle.bml_bytes.specs.Words.{is_same}
use Rattle.document_load.specs.declared.handler_kinds.HandlerKind.{HandlerKind}
use Rattle.document_load.specs.declared.handler_kinds.HandlerKind.TheVariants.{Load, Unload, KeyDown, KeyUp, Click, Focus, Blur, Occur}

-- the name of the attribute
abbrev pub handler_name : HandlerKind → List ℕ
handler_name Load = codes "onload"
handler_name Unload = codes "onunload"
handler_name KeyDown = codes "onkeydown"
handler_name KeyUp = codes "onkeyup"
handler_name Click = codes "onclick"
handler_name Focus = codes "onfocus"
handler_name Blur = codes "onblur"
handler_name Occur = codes "onoccur"

abbrev pub all_kinds : List HandlerKind
all_kinds = Load ∷ Unload ∷ KeyDown ∷ KeyUp ∷ Click ∷ Focus ∷ Blur ∷ Occur ∷ []

-- the kind that attributes of a name are, and none of a name that no handler has; names compare by
-- case
unfoldable pub kind_named : List ℕ → Option HandlerKind
kind_named name = find (λ kind. is_same name (handler_name kind)) all_kinds
