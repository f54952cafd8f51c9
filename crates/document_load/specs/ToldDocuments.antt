-- What contracts see of a document (this project's own).
use Rattle.std.specs.Prelude.{ℕ, List, map}
use Rattle.dom_tree.specs.Items.{Item}
use Rattle.style_reader.specs.declared.rules.Rule.{Rule}
use Rattle.es_reader.specs.Programs.{ToldProgram}
use Rattle.document_load.specs.Scripts.{HandlerState}
use Rattle.document_load.specs.ScriptViews.{told_handler}
use Rattle.document_load.specs.declared.drafts.Document.{Document}

pub record ToldDocument : Type 0 where
  pub items : List Item
  pub rules : List Rule
  pub programs : List ToldProgram
  -- the places of the programs of script elements
  pub scripts : List ℕ
  pub handlers : List HandlerState
  -- the numbers of the bad sources
  pub bad : List ℕ

abbrev pub told_document : Document → ToldDocument
told_document document =
    record {
      items = document.tree;
      rules = document.rules;
      programs = document.programs.items;
      scripts = document.scripts.items;
      handlers = map told_handler document.handlers.items;
      bad = document.bad.items;
    }
