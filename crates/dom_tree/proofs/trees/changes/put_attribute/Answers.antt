use Rattle.std.proofs.Common.{◌≡◌, sym, ◌∙◌}
use Rattle.dom_tree.specs.Items.{with_attribute, attributes_in, value_in, value_of}
use Rattle.dom_tree.specs.Links.{item_of, items_in, links_of, content_of}
use Rattle.dom_tree.proofs.PlaceLemmas.{map-slice_set-same, map-slice_set-changed_at}
use Rattle.dom_tree.proofs.KeptLemmas.{OnOk-map, OnErr-map, IfOk-map, IsElement-within, value_of-item, read-item, read-node}
use Rattle.dom_tree.proofs.trees.changes.put_attribute.Goals as goal

pub returns-clause-ok : goal.returns-clause-ok
returns-clause-ok c = let nodes = c.args.nodes.now.items in let got = read-node nodes c.args.node.0 c.index_mut.result.now (IsElement-within (items_in nodes) c.args.node.0 c.requires) c.index_mut.ensures.value in
    OnOk-map c.put_attribute.result _ _
    (λ e. map-slice_set-changed_at item_of (with_attribute c.args.name c.args.value) c.args.nodes.now.items c.args.node.0 c.index_mut.result.now c.put_attribute.new.self got e)
    c.put_attribute.ensures.ok

pub returns-clause-had : goal.returns-clause-had
returns-clause-had c = let nodes = c.args.nodes.now.items in let got = read-node nodes c.args.node.0 c.index_mut.result.now (IsElement-within (items_in nodes) c.args.node.0 c.requires) c.index_mut.ensures.value in
    IfOk-map c.put_attribute.result
    (λ had. had ≡ value_in (attributes_in (content_of c.index_mut.result.now.kind)) c.args.name)
    (λ had. had ≡ value_of (items_in c.args.nodes.now.items) c.args.node.0 c.args.name)
    (λ had e. e ∙ sym (value_of-item (items_in c.args.nodes.now.items) c.args.node.0 (item_of c.index_mut.result.now) c.args.name (read-item c.args.nodes.now.items c.args.node.0 c.index_mut.result.now got)))
    c.put_attribute.ensures.had

pub returns-clause-err : goal.returns-clause-err
returns-clause-err c = let nodes = c.args.nodes.now.items in let got = read-node nodes c.args.node.0 c.index_mut.result.now (IsElement-within (items_in nodes) c.args.node.0 c.requires) c.index_mut.ensures.value in
    OnErr-map c.put_attribute.result _ _
    (λ e. map-slice_set-same item_of c.args.nodes.now.items c.args.node.0 c.index_mut.result.now c.put_attribute.new.self got e)
    c.put_attribute.ensures.err

pub returns-clause-links : goal.returns-clause-links
returns-clause-links c = let nodes = c.args.nodes.now.items in let got = read-node nodes c.args.node.0 c.index_mut.result.now (IsElement-within (items_in nodes) c.args.node.0 c.requires) c.index_mut.ensures.value in
    map-slice_set-same links_of c.args.nodes.now.items c.args.node.0 c.index_mut.result.now c.put_attribute.new.self got c.put_attribute.ensures.links
