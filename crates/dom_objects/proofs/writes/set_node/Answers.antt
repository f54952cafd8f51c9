use Rattle.std.proofs.Common.{ap, sym, ◌∙◌}
use Rattle.es_values.specs.declared.values.HostRef.{HostRef}
use Rattle.dom_objects.specs.Writes.{change_of, changed_items, changed_sources}
use Rattle.dom_objects.proofs.ChangeLemmas.{items-kept, on_ok, sources-kept}
use Rattle.dom_objects.proofs.writes.set_node.Goals as goal

pub returns-in-Node-clause-sources : goal.returns-in-Node-clause-sources
unfolding change_of
returns-in-Node-clause-sources c =
    let items = c.args.tree.now in
    let sources = c.args.styles.now.sources in
    on_ok c.set_member.result
    (sym (ap (λ (base : HostRef). changed_sources (change_of items base c.args.name.now c.args.text.now) sources) c.in-Node.is
    ∙ sources-kept items c.in-Node.number c.args.name.now c.args.text.now sources))

pub returns-in-Style-clause-tree : goal.returns-in-Style-clause-tree
unfolding change_of
returns-in-Style-clause-tree c =
    let items = c.args.tree.now in
    sym (ap (λ (base : HostRef). changed_items (change_of items base c.args.name.now c.args.text.now) items) c.in-Style.is
    ∙ items-kept items c.in-Style.number c.in-Style.state c.args.name.now c.args.text.now)
