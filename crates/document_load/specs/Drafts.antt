-- A document that was read, and what was given for its needs so far. (This project's own.)
use Rattle.std.specs.Prelude.{ℕ, List, Option, Some, None, length, replicate, slice_set}
use Rattle.dom_tree.specs.Items.{Item}
use Rattle.multipart_entities.specs.declared.paths.Path.{Path}
use Rattle.document_load.specs.Needs.{named_by, needs_of}

pub record DraftState : Type 0 where
  pub items : List Item
  pub needs : List Path
  -- for each need the number of the node that names it
  pub named : List ℕ
  -- for each need its text, where it was given
  pub given : List (Option (List ℕ))

-- nothing is given yet
abbrev pub draft_of : Path → List Item → DraftState
draft_of path items =
    record {
      items = items;
      needs = needs_of path items;
      named = named_by path items;
      given = replicate (length (needs_of path items)) None;
    }

-- the text of this need is this one, whatever it was before
abbrev pub with_gift : ℕ → List ℕ → DraftState → DraftState
with_gift number text draft =
    record {
      items = draft.items;
      needs = draft.needs;
      named = draft.named;
      given = slice_set draft.given number (Some text);
    }

-- for each need what was given for it is this
abbrev pub with_gifts : List (Option (List ℕ)) → DraftState → DraftState
with_gifts gifts draft =
    record { items = draft.items; needs = draft.needs; named = draft.named; given = gifts }
