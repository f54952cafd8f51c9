use Rattle.page_laws.proofs.LastWriteLemmas.{ChangeLaws}
use Rattle.page_laws.proofs.MomentLemmas.{sound-document}
use Rattle.page_laws.proofs.NodeReadLemmas.{later-input, later-nodes, later-object, later-text, text-at-once}
use Rattle.page_laws.proofs.nodes.law_of_written_nodes.Goals as goal

pub returns : goal.returns
returns c =
    let texts = c.law_of_text_changes.ensures in
    let attributes = c.law_of_attribute_changes.ensures in
    let laws : ChangeLaws = record {
      text_places = texts.places;
      text_is = texts.text;
      text_others = texts.others;
      text_attributes = texts.attributes;
      places = attributes.places;
      value = attributes.value;
      nodes = attributes.nodes;
      names = attributes.names;
      texts = attributes.texts;
    } in
    record {
      nodes = λ s d moments sound is lasts. later-nodes s d moments (sound-document s d sound is) lasts;
      texts = λ s d moments node text sound is lasts was. later-text laws s d moments node text (sound-document s d sound is) lasts was;
      inputs = λ s d moments node sound is lasts was. later-input laws s d moments node (sound-document s d sound is) lasts was;
      objects = λ s d moments node sound is lasts was. later-object laws s d moments node (sound-document s d sound is) lasts was;
      at_once = text-at-once laws;
    }
