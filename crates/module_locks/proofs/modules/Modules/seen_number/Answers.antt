use Rattle.std.proofs.Common.{◌∙◌, sym, subst}
use Rattle.module_locks.specs.Standing.{ModulesState}
use Rattle.module_locks.proofs.SeenLaws.{number_copied, number_stored}
use Rattle.module_store.specs.Standing as store_state
use Rattle.module_locks.proofs.modules.Modules.seen_number.Goals as goal

pub returns-in-Some : goal.returns-in-Some
returns-in-Some c = λ modules stands.
    c.number.ensures ∙ number_copied c.args.self.now modules c.args.component c.args.module c.in-Some.copy.now stands (sym c.in-Some.ensures)

pub returns-in-None : goal.returns-in-None
returns-in-None c = λ modules stands.
    let before = subst (λ (s : ModulesState). store_state.StandsFor s.store modules.stored) (sym c.self.view_is) stands.store in
    c.delivery_number.ensures modules.stored before ∙ number_stored c.args.self.now modules c.args.component c.args.module stands (sym c.in-None.ensures)
