use Rattle.std.proofs.Common.{◌∙◌, ap, sym, subst, rules}
use Rattle.std.specs.Prelude.{not, is_some}
use Rattle.std.proofs.lemmas.Fn.{filter_same}
use Rattle.module_locks.specs.Standing.{ModulesState, StandsFor}
use Rattle.module_locks.specs.devices.Keeping.{is_held_on}
use Rattle.module_locks.proofs.StandingLaws.{stands_unlocked, stood}
use Rattle.module_locks.proofs.modules.Modules.unlock.Goals as goal

pub returns-clause-answer : goal.returns-clause-answer
returns-clause-answer c = λ modules stands.
    c.is_some-stood.ensures ∙ ap is_some c.wanted_on.ensures ∙ stood c.args.self.now modules c.args.component c.args.module stands

pub returns-clause-stands : goal.returns-clause-stands
returns-clause-stands c = λ modules stands.
    let kept = filter_same _ (λ held. not (is_held_on c.args.component c.args.module held)) _ (λ x b f' k. search rules) c.self.inside.locks.items c.retain.new.self.items c.retain.ensures.filtered in
    rw kept
    (stands_unlocked (record { store = c.self.inside.store; locks = c.self.inside.locks.items }) modules c.args.component c.args.module
    (subst (λ (s : ModulesState). StandsFor s modules) (sym c.self.view_is) stands))
