use Rattle.std.proofs.Common.{◌∙◌, Bool, Some, ap, refl, sym}
use Rattle.std.proofs.lemmas.Result.{IfOk-weaker, on_ok_weaker}
use Rattle.module_locks.specs.declared.answers.LockAnswer.TheVariants as answers
use Rattle.module_locks.specs.devices.Keeping.{has_room}
use Rattle.module_locks.proofs.StandingLaws.{absent_answer, had_answer, had_stands, new_answer, new_stands, same_with, stands_as, wanted_answer, wanted_stands}
use Rattle.module_locks.proofs.modules.Modules.lock.Goals as goal

pub returns-in_default-clause-answer : goal.returns-in_default-clause-answer
returns-in_default-clause-answer c = λ modules stands.
    sym (absent_answer c.args.component c.args.module modules (sym c.in_default.is ∙ c.is_held.ensures modules stands))

pub returns-in_default-clause-stands : goal.returns-in_default-clause-stands
returns-in_default-clause-stands c = λ modules stands.
    same_with c.args.component c.args.module modules answers.NoEntry (absent_answer c.args.component c.args.module modules (sym c.in_default.is ∙ c.is_held.ensures modules stands)) refl c.args.self.now stands

pub returns-in-Some-true-clause-answer : goal.returns-in-Some-true-clause-answer
returns-in-Some-true-clause-answer c = λ modules stands.
    let wanted = sym (ap (λ (b : Bool). Some b) c.in-Some-true.field-0-test) ∙ sym c.in-Some-true.is ∙ c.wanted_on.ensures in
    c.lock_wanted.ensures.answer
    ∙ sym (wanted_answer c.args.component c.args.module modules c.args.self.now stands c.in-Some.is_held (sym c.in-Some.is ∙ c.is_held.ensures modules stands) wanted)

pub returns-in-Some-true-clause-stands : goal.returns-in-Some-true-clause-stands
returns-in-Some-true-clause-stands c = λ modules stands.
    let wanted = sym (ap (λ (b : Bool). Some b) c.in-Some-true.field-0-test) ∙ sym c.in-Some-true.is ∙ c.wanted_on.ensures in
    stands_as c.lock_wanted.new.self _ _ _ c.lock_wanted.ensures.store c.lock_wanted.ensures.locks
    (wanted_stands c.args.component c.args.module modules c.args.self.now stands c.in-Some.is_held (sym c.in-Some.is ∙ c.is_held.ensures modules stands) wanted)

pub returns-in-Some-false-clause-answer : goal.returns-in-Some-false-clause-answer
returns-in-Some-false-clause-answer c = λ modules stands.
    let had = sym (ap (λ (b : Bool). Some b) c.in-Some-false.field-0-test) ∙ sym c.in-Some-false.is ∙ c.wanted_on.ensures in
    sym (had_answer c.args.component c.args.module modules c.args.self.now stands c.in-Some.is_held (sym c.in-Some.is ∙ c.is_held.ensures modules stands) had)

pub returns-in-Some-false-clause-stands : goal.returns-in-Some-false-clause-stands
returns-in-Some-false-clause-stands c = λ modules stands.
    let had = sym (ap (λ (b : Bool). Some b) c.in-Some-false.field-0-test) ∙ sym c.in-Some-false.is ∙ c.wanted_on.ensures in
    had_stands c.args.component c.args.module modules c.args.self.now stands c.in-Some.is_held (sym c.in-Some.is ∙ c.is_held.ensures modules stands) had

pub returns-in-None-clause-answer : goal.returns-in-None-clause-answer
returns-in-None-clause-answer c =
    IfOk-weaker c.add_lock.result _ _
    (λ answer is modules stands.
    is ∙ sym (new_answer c.args.component c.args.module modules c.args.self.now stands c.in-Some.is_held (sym c.in-Some.is ∙ c.is_held.ensures modules stands) (sym c.in-None.is ∙ c.wanted_on.ensures)))
    c.add_lock.ensures.answer

pub returns-in-None-clause-stands : goal.returns-in-None-clause-stands
returns-in-None-clause-stands c =
    on_ok_weaker c.add_lock.result
    (λ locks modules stands. stands_as c.add_lock.new.self _ _ _ c.add_lock.ensures.store locks
    (new_stands c.args.component c.args.module modules c.args.self.now stands c.in-Some.is_held (sym c.in-Some.is ∙ c.is_held.ensures modules stands) (sym c.in-None.is ∙ c.wanted_on.ensures)
    (has_room c.args.self.now.locks) refl))
    c.add_lock.ensures.locks
