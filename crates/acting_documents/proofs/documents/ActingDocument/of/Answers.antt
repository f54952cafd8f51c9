use Rattle.std.proofs.Common.{◌∙◌, ap, length, sym}
use Rattle.std.proofs.lemmas.List.Elements.{All-nil}
use Rattle.document_load.specs.Scripts.{unnamed_places}
use Rattle.es_eval.specs.Worlds.{IsNamedLive}
use Rattle.acting_documents.proofs.documents.ActingDocument.of.Goals as goal

pub invariant_of-result : goal.invariant_of-result
invariant_of-result c =
    let made = c.in_ok-stage.ensures {u = tt} in
    record {
      scripts_are = c.requires.places.others
          ∙ ap (unnamed_places (length c.args.document.programs.items)) (sym made.handlers);
      live = rw made.globals (All-nil (IsNamedLive c.new-2.result));
      few = c.requires.few;
    }
