use Rattle.std.proofs.Common.{◌≡◌, ◌≢◌, ℕ, [], ◌∷◌, Option, sym, subst, arith, ◌∙◌, ◌<◌, length, true≢false}
use Rattle.std.specs.Prelude.{◌↔◌, Contains, IfSome}
use Rattle.std.proofs.lemmas.Bool.{eq-eqb}
use Rattle.dom_tree.specs.Items.{IsElement}
use Rattle.dom_tree.proofs.KeptLemmas.{IfSome-map}
use Rattle.std.specs.Option.{option_map_or}
use Rattle.dom_tree.specs.Walks.{path_of, IsOpen}
use Rattle.dom_tree.specs.NodeNumbers.{number_of}
use Rattle.dom_tree.specs.declared.node_ids.NodeId.{NodeId}
use Rattle.dom_tree.proofs.PathLemmas.{Contains-step}
use Rattle.dom_tree.proofs.trees.Tree.is_open.Goals as goal

pub loop-up-preserved : goal.loop-up-preserved
loop-up-preserved c =
    let path : path_of c.args.self.now c.in-Some.on_path.0 ≡ c.in-Some.on_path.0 ∷ option_map_or (path_of c.args.self.now) (number_of c.parent-up.result) [] =
    subst (λ (o : Option ℕ). path_of c.args.self.now c.in-Some.on_path.0 ≡ c.in-Some.on_path.0 ∷ option_map_or (path_of c.args.self.now) o []) (sym c.parent-up.ensures.parent) c.parent-up.ensures.path in
    let other : c.in-Some.on_path.0 ≢ c.args.node.0 = (λ e. true≢false (sym (eq-eqb c.in-Some.on_path.0 c.args.node.0 e) ∙ sym (c.if-eq.ensures {u = tt}))) in
    let here : IsOpen c.args.self.now c.args.node.0 ↔ Contains (path_of c.args.self.now c.in-Some.on_path.0) c.args.node.0 =
    subst (λ (o : Option NodeId). IsOpen c.args.self.now c.args.node.0 ↔ Contains (option_map_or (path_of c.args.self.now) (number_of o) []) c.args.node.0) c.in-Some.is c.loop-up.invariant.1 in
    let inside : c.in-Some.on_path.0 < length c.args.self.now = subst (λ (o : Option NodeId). IfSome o (λ n. n.0 < length c.args.self.now)) c.in-Some.is c.loop-up.invariant.0 in
    (IfSome-map c.parent-up.result (λ n. (n.0 < c.in-Some.on_path.0) × IsElement c.args.self.now n.0) (λ n. n.0 < length c.args.self.now) (λ n h. omega (arith, h.0, inside)) c.parent-up.ensures.before, Contains-step c.args.self.now c.args.node.0 c.in-Some.on_path.0 (number_of c.parent-up.result) (IsOpen c.args.self.now c.args.node.0) path other here)
