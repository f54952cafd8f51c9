use Rattle.std.proofs.Common.{◌∙◌, sym, subst}
use Rattle.module_locks.specs.Standing.{ModulesState}
use Rattle.module_locks.proofs.StandingLaws.{look_copy, look_store}
use Rattle.module_store.specs.Standing as store_state
use Rattle.module_locks.proofs.modules.Modules.resource.Goals as goal

pub returns-in-Some-clause-look : goal.returns-in-Some-clause-look
returns-in-Some-clause-look c = λ modules stands.
    c.resource.ensures.look ∙ sym (look_copy c.args.self.now modules c.args.path.now c.in-Some.copy.now stands (sym c.in-Some.ensures))

pub returns-in-None-clause-look : goal.returns-in-None-clause-look
returns-in-None-clause-look c = λ modules stands.
    let before = subst (λ (s : ModulesState). store_state.StandsFor s.store modules.stored) (sym c.self.view_is) stands.store in
    c.resource-in-None.ensures.look modules.stored before ∙ sym (look_store c.args.self.now modules c.args.path.now stands (sym c.in-None.ensures))
