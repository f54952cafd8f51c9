use Rattle.std.proofs.Common.{◌∙◌, ap, sym, subst}
use Rattle.std.proofs.lemmas.Result.{IfOk-weaker}
use Rattle.module_store.specs.Standing as store_state
use Rattle.module_locks.specs.Locks.{start_path_as}
use Rattle.module_locks.specs.Standing.{ModulesState}
use Rattle.module_locks.proofs.StandingLaws.{start_copy, start_store}
use Rattle.module_locks.proofs.modules.Modules.start_path.Goals as goal

pub returns-in-Some : goal.returns-in-Some
returns-in-Some c =
    IfOk-weaker c.start_path_as.result _ _
    (λ path is modules stands.
    is ∙ ap start_path_as c.is_entity.ensures ∙ sym (start_copy c.args.self.now modules c.in-Some.copy.now stands (sym c.in-Some.ensures)))
    c.start_path_as.ensures

pub returns-in-None : goal.returns-in-None
returns-in-None c =
    IfOk-weaker c.start_path.result _ _
    (λ path is modules stands.
    let before = subst (λ (s : ModulesState). store_state.StandsFor s.store modules.stored) (sym c.self.view_is) stands.store in
    is modules.stored before ∙ sym (start_store c.args.self.now modules stands (sym c.in-None.ensures)))
    c.start_path.ensures
