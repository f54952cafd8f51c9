-- A device of the proofs: the index of the handlers of a document.
use Rattle.std.specs.Prelude.{◌≡◌, ◌==◌, ◌&&◌, Bool, ℕ, List, [], ◌∷◌, ◌++◌}
use Rattle.std.specs.Map.{lookup}
use denote.Enum.Bare.{sameb}
use Rattle.document_load.specs.Scripts.{HandlerState}
use Rattle.document_load.specs.contracts.handler_kinds.HandlerKind.{the_type as the_kinds}
use Rattle.document_load.specs.declared.handler_kinds.HandlerKind.{HandlerKind}
use Rattle.acting_documents.specs.Documents.{handler_in}
use Rattle.acting_documents.specs.declared.handlers.HandlerKey.{HandlerKey}

-- it is that of a handler of this kind of the node
abbrev pub is_key : ℕ → HandlerKind → HandlerKey → Bool
is_key node kind key = (node == key.node.0) && sameb the_kinds kind key.kind

-- the programs of the index are those of the handlers, the first of one kind of one node
abbrev pub IsIndexOf : List (HandlerKey × ℕ) → List HandlerState → Type 0
IsIndexOf places handlers =
    (node : ℕ) (kind : HandlerKind)
    → lookup (is_key node kind) places ≡ handler_in handlers node kind

-- an index, and the same behind one more handler
abbrev pub Adds : HandlerState → List (HandlerKey × ℕ) → List (HandlerKey × ℕ) → Type 0
Adds handler old new =
    (handlers : List HandlerState) → IsIndexOf old handlers
    → IsIndexOf new (handlers ++ handler ∷ [])
