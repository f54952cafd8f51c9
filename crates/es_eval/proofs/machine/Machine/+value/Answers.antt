use Rattle.std.proofs.Common.{[], ◌∙◌, ◌+◌, ℕ, List, ap, refl, subst, sym}
use Rattle.std.proofs.lemmas.List.Elements.{All-cons, All-nil}
use Rattle.std.proofs.lemmas.Result.{IfOk-weaker}
use Rattle.es_values.specs.Heaps.{IsLive}
use Rattle.es_values.specs.Values.{truth_of}
use Rattle.es_shapes.specs.Sources.{target_of}
use Rattle.es_shapes.specs.devices.Parts.{expression_at}
use Rattle.es_shapes.specs.devices.Shapes.{shaped}
use Rattle.es_eval.specs.declared.outcomes.StopCause.TheVariants.{Budget, Unresolved}
use Rattle.es_eval.specs.declared.works.Callee.TheVariants as callee_of
use Rattle.es_eval.specs.declared.works.CallWork.TheVariants as call_work
use Rattle.es_eval.specs.declared.held.Reached.TheVariants as reached_of
use Rattle.es_eval.specs.declared.found.Found.TheVariants as found_of
use Rattle.es_eval.specs.devices.Held.{ReachesBehind}
use Rattle.es_shapes.specs.Syntax.{Target}
use Rattle.es_eval.specs.declared.works.MemberWork.TheVariants as member
use Rattle.es_eval.specs.declared.works.OperandWork.TheVariants as operand
use Rattle.es_eval.specs.declared.works.Place.TheVariants as placed
use Rattle.es_eval.specs.declared.works.TargetWork.TheVariants as target
use Rattle.es_eval.specs.declared.works.Use.TheVariants as use_of
use Rattle.es_eval.specs.declared.works.Work.TheVariants as work
use Rattle.es_eval.specs.Actions.{as_text, behind}
use Rattle.es_eval.specs.Members.{read_member, read_place, write_member, write_name, write_place}
use Rattle.es_eval.specs.Operations.{operates, signs}
use Rattle.es_eval.specs.Rows.{place_row, with_members}
use Rattle.es_eval.specs.devices.Works.{as_value, calls_with, enters, evaluates}
use Rattle.es_eval.proofs.ApplyLemmas.{arguments_kept, arguments_on, arguments_stopped, gathered_all, gathered_none, gathered_some, gathering_more, index_called, member_called, members_on, no_members, other_called}
use Rattle.es_eval.proofs.ReachLemmas.{branch_kept, branch_own, branch_value, charged_on, charged_stopped, chosen, cleared, direct_single, found_reached, kept_waits, named_on, no_place, no_step, part_stopped, part_value, place_on, read_none, read_on, step_evaluates, step_on, when_false, when_true}
use Rattle.es_eval.proofs.ShapeRows.{target-other}
use Rattle.es_eval.proofs.machine.Machine.+value.Goals.{branch_of-else-truth, branch_of-then-truth}
use Rattle.es_eval.proofs.machine.Machine.+value.Goals as goal

pub left_from-returns-in-Value : goal.left_from-returns-in-Value
left_from-returns-in-Value t c =
    let programs = c.args.programs.now in
    IfOk-weaker c.right_of.result _ _
    (λ reached reaches. part_value programs (evaluates programs c.args.left)
    (λ value. behind (evaluates programs c.args.right) (operates c.args.operator value)) c.args.self.now c.value_of.new.self c.right_of.new.self c.in_ok-value.field-0
    c.value_of.new.held c.right_of.new.held c.in-Value.value reached
    c.in_ok-value.ensures c.in-Value.is reaches) c.right_of.ensures

pub left_from-returns-in-Stopped : goal.left_from-returns-in-Stopped
left_from-returns-in-Stopped t c =
    let programs = c.args.programs.now in
    part_stopped programs (evaluates programs c.args.left)
    (λ value. behind (evaluates programs c.args.right) (operates c.args.operator value)) c.args.self.now c.value_of.new.self c.in_ok-value.field-0
    c.value_of.new.held c.in-Stopped.cause c.in_ok-value.ensures c.in-Stopped.is

pub left_from-returns-in-Waits : goal.left_from-returns-in-Waits
left_from-returns-in-Waits t c =
    let programs = c.args.programs.now in
    kept_waits programs (evaluates programs c.args.left)
    (λ value. behind (evaluates programs c.args.right) (operates c.args.operator value)) c.args.self.now c.value_of.new.self c.in_ok-value.field-0
    c.value_of.new.held c.keeps.new.self (work.Operand (operand.Left c.args.operator c.args.right)) c.keeps.result
    c.in_ok-value.ensures c.in-Waits.is c.keeps.ensures.waits c.keeps.ensures.next
    c.keeps.ensures.items (All-nil (IsLive c.args.self.now.heap)) (λ value. refl)

pub right_of-returns-in_ok-found-in-Value : goal.right_of-returns-in_ok-found-in-Value
right_of-returns-in_ok-found-in-Value t c =
    let programs = c.args.programs.now in
    part_value programs (evaluates programs c.args.right)
    (operates c.args.operator c.args.left) c.args.self.now c.value_of.new.self c.operated_value.new.self c.in_ok-value.field-0
    c.value_of.new.held c.value_of.new.held c.in-Value.value c.reached.result
    c.in_ok-value.ensures c.in-Value.is
    (found_reached programs ((operates c.args.operator c.args.left) c.in-Value.value) c.value_of.new.self c.operated_value.new.self
    c.in_ok-found-in-Value.found c.reached.result c.value_of.new.held
    (c.in_ok-found-in-Value.ensures.finds programs) c.in_ok-found-in-Value.ensures.live
    c.operated_value.ensures.stays
    (cleared programs (evaluates programs c.args.right) c.args.self.now c.value_of.new.self c.in_ok-value.field-0
    c.value_of.new.held c.in-Value.value c.in_ok-value.ensures c.in-Value.is) c.reached.ensures)

pub right_of-returns-in-Stopped : goal.right_of-returns-in-Stopped
right_of-returns-in-Stopped t c =
    let programs = c.args.programs.now in
    part_stopped programs (evaluates programs c.args.right)
    (operates c.args.operator c.args.left) c.args.self.now c.value_of.new.self c.in_ok-value.field-0
    c.value_of.new.held c.in-Stopped.cause c.in_ok-value.ensures c.in-Stopped.is

pub right_of-returns-in-Waits : goal.right_of-returns-in-Waits
right_of-returns-in-Waits t c =
    let programs = c.args.programs.now in
    kept_waits programs (evaluates programs c.args.right)
    (operates c.args.operator c.args.left) c.args.self.now c.value_of.new.self c.in_ok-value.field-0
    c.value_of.new.held c.keeps.new.self (work.Operand (operand.Right c.args.operator c.args.left)) c.keeps.result
    c.in_ok-value.ensures c.in-Waits.is c.keeps.ensures.waits c.keeps.ensures.next
    c.keeps.ensures.items
    (All-cons (IsLive c.args.self.now.heap) c.args.left [] c.requires.left (All-nil (IsLive c.args.self.now.heap))) (λ value. refl)

pub sign_of-returns-in_ok-found-in-Value : goal.sign_of-returns-in_ok-found-in-Value
sign_of-returns-in_ok-found-in-Value t c =
    let programs = c.args.programs.now in
    part_value programs (evaluates programs c.args.operand)
    (signs c.args.sign) c.args.self.now c.value_of.new.self c.signed_value.new.self c.in_ok-value.field-0
    c.value_of.new.held c.value_of.new.held c.in-Value.value c.reached.result
    c.in_ok-value.ensures c.in-Value.is
    (found_reached programs ((signs c.args.sign) c.in-Value.value) c.value_of.new.self c.signed_value.new.self
    c.in_ok-found-in-Value.found c.reached.result c.value_of.new.held
    (c.in_ok-found-in-Value.ensures.finds programs) c.in_ok-found-in-Value.ensures.live
    c.signed_value.ensures.stays
    (cleared programs (evaluates programs c.args.operand) c.args.self.now c.value_of.new.self c.in_ok-value.field-0
    c.value_of.new.held c.in-Value.value c.in_ok-value.ensures c.in-Value.is) c.reached.ensures)

pub sign_of-returns-in-Stopped : goal.sign_of-returns-in-Stopped
sign_of-returns-in-Stopped t c =
    let programs = c.args.programs.now in
    part_stopped programs (evaluates programs c.args.operand)
    (signs c.args.sign) c.args.self.now c.value_of.new.self c.in_ok-value.field-0
    c.value_of.new.held c.in-Stopped.cause c.in_ok-value.ensures c.in-Stopped.is

pub sign_of-returns-in-Waits : goal.sign_of-returns-in-Waits
sign_of-returns-in-Waits t c =
    let programs = c.args.programs.now in
    kept_waits programs (evaluates programs c.args.operand)
    (signs c.args.sign) c.args.self.now c.value_of.new.self c.in_ok-value.field-0
    c.value_of.new.held c.keeps.new.self (work.Operand (operand.Sign c.args.sign)) c.keeps.result
    c.in_ok-value.ensures c.in-Waits.is c.keeps.ensures.waits c.keeps.ensures.next
    c.keeps.ensures.items (All-nil (IsLive c.args.self.now.heap)) (λ value. refl)

pub member_of-returns-in-Value : goal.member_of-returns-in-Value
member_of-returns-in-Value t c =
    let programs = c.args.programs.now in
    IfOk-weaker c.reach_member.result _ _
    (λ reached reaches. part_value programs (evaluates programs c.args.base)
    (λ base. read_member base c.args.name) c.args.self.now c.value_of.new.self c.reach_member.new.self c.in_ok-base.field-0
    c.value_of.new.held c.reach_member.new.held c.in-Value.base reached
    c.in_ok-base.ensures c.in-Value.is (reaches programs)) c.reach_member.ensures

pub member_of-returns-in-Stopped : goal.member_of-returns-in-Stopped
member_of-returns-in-Stopped t c =
    let programs = c.args.programs.now in
    part_stopped programs (evaluates programs c.args.base)
    (λ base. read_member base c.args.name) c.args.self.now c.value_of.new.self c.in_ok-base.field-0
    c.value_of.new.held c.in-Stopped.cause c.in_ok-base.ensures c.in-Stopped.is

pub member_of-returns-in-Waits : goal.member_of-returns-in-Waits
member_of-returns-in-Waits t c =
    let programs = c.args.programs.now in
    kept_waits programs (evaluates programs c.args.base)
    (λ base. read_member base c.args.name) c.args.self.now c.value_of.new.self c.in_ok-base.field-0
    c.value_of.new.held c.keeps.new.self (work.Member (member.MemberBase c.args.name)) c.keeps.result
    c.in_ok-base.ensures c.in-Waits.is c.keeps.ensures.waits c.keeps.ensures.next
    c.keeps.ensures.items (All-nil (IsLive c.args.self.now.heap)) (λ value. refl)

pub index_of-returns-in-Value : goal.index_of-returns-in-Value
index_of-returns-in-Value t c =
    let programs = c.args.programs.now in
    IfOk-weaker c.key_of.result _ _
    (λ reached reaches. part_value programs (evaluates programs c.args.base)
    (λ base. behind (evaluates programs c.args.key) (λ key. with_members base
    (behind (as_text key) (λ key. read_member base key)))) c.args.self.now c.value_of.new.self c.key_of.new.self c.in_ok-base.field-0
    c.value_of.new.held c.key_of.new.held c.in-Value.base reached
    c.in_ok-base.ensures c.in-Value.is reaches) c.key_of.ensures

pub index_of-returns-in-Stopped : goal.index_of-returns-in-Stopped
index_of-returns-in-Stopped t c =
    let programs = c.args.programs.now in
    part_stopped programs (evaluates programs c.args.base)
    (λ base. behind (evaluates programs c.args.key) (λ key. with_members base
    (behind (as_text key) (λ key. read_member base key)))) c.args.self.now c.value_of.new.self c.in_ok-base.field-0
    c.value_of.new.held c.in-Stopped.cause c.in_ok-base.ensures c.in-Stopped.is

pub index_of-returns-in-Waits : goal.index_of-returns-in-Waits
index_of-returns-in-Waits t c =
    let programs = c.args.programs.now in
    kept_waits programs (evaluates programs c.args.base)
    (λ base. behind (evaluates programs c.args.key) (λ key. with_members base
    (behind (as_text key) (λ key. read_member base key)))) c.args.self.now c.value_of.new.self c.in_ok-base.field-0
    c.value_of.new.held c.keeps.new.self (work.Member (member.IndexBase c.args.key)) c.keeps.result
    c.in_ok-base.ensures c.in-Waits.is c.keeps.ensures.waits c.keeps.ensures.next
    c.keeps.ensures.items (All-nil (IsLive c.args.self.now.heap)) (λ value. refl)

pub key_of-returns-in-Value : goal.key_of-returns-in-Value
key_of-returns-in-Value t c =
    let programs = c.args.programs.now in
    IfOk-weaker c.reach_index.result _ _
    (λ reached reaches. part_value programs (evaluates programs c.args.key)
    (λ key. with_members c.args.base
    (behind (as_text key) (λ key. read_member c.args.base key))) c.args.self.now c.value_of.new.self c.reach_index.new.self c.in_ok-key.field-0
    c.value_of.new.held c.reach_index.new.held c.in-Value.key reached
    c.in_ok-key.ensures c.in-Value.is (reaches programs)) c.reach_index.ensures

pub key_of-returns-in-Stopped : goal.key_of-returns-in-Stopped
key_of-returns-in-Stopped t c =
    let programs = c.args.programs.now in
    part_stopped programs (evaluates programs c.args.key)
    (λ key. with_members c.args.base
    (behind (as_text key) (λ key. read_member c.args.base key))) c.args.self.now c.value_of.new.self c.in_ok-key.field-0
    c.value_of.new.held c.in-Stopped.cause c.in_ok-key.ensures c.in-Stopped.is

pub key_of-returns-in-Waits : goal.key_of-returns-in-Waits
key_of-returns-in-Waits t c =
    let programs = c.args.programs.now in
    kept_waits programs (evaluates programs c.args.key)
    (λ key. with_members c.args.base
    (behind (as_text key) (λ key. read_member c.args.base key))) c.args.self.now c.value_of.new.self c.in_ok-key.field-0
    c.value_of.new.held c.keeps.new.self (work.Member (member.IndexKey c.args.base)) c.keeps.result
    c.in_ok-key.ensures c.in-Waits.is c.keeps.ensures.waits c.keeps.ensures.next
    c.keeps.ensures.items
    (All-cons (IsLive c.args.self.now.heap) c.args.base [] c.requires.base (All-nil (IsLive c.args.self.now.heap))) (λ value. refl)

pub assign_name-returns-in_ok-found-in-Value : goal.assign_name-returns-in_ok-found-in-Value
assign_name-returns-in_ok-found-in-Value t c =
    let programs = c.args.programs.now in
    part_value programs (evaluates programs c.args.right)
    (write_name c.args.name.now) c.args.self.now c.value_of.new.self c.written_value.new.self c.in_ok-value.field-0
    c.value_of.new.held c.value_of.new.held c.in-Value.value c.reached.result
    c.in_ok-value.ensures c.in-Value.is
    (found_reached programs ((write_name c.args.name.now) c.in-Value.value) c.value_of.new.self c.written_value.new.self
    c.in_ok-found-in-Value.found c.reached.result c.value_of.new.held
    c.in_ok-found-in-Value.ensures.finds c.in_ok-found-in-Value.ensures.live
    c.written_value.ensures.stays
    (cleared programs (evaluates programs c.args.right) c.args.self.now c.value_of.new.self c.in_ok-value.field-0
    c.value_of.new.held c.in-Value.value c.in_ok-value.ensures c.in-Value.is) c.reached.ensures)

pub assign_name-returns-in-Stopped : goal.assign_name-returns-in-Stopped
assign_name-returns-in-Stopped t c =
    let programs = c.args.programs.now in
    part_stopped programs (evaluates programs c.args.right)
    (write_name c.args.name.now) c.args.self.now c.value_of.new.self c.in_ok-value.field-0
    c.value_of.new.held c.in-Stopped.cause c.in_ok-value.ensures c.in-Stopped.is

pub assign_name-returns-in_ok-share-in-Waits : goal.assign_name-returns-in_ok-share-in-Waits
assign_name-returns-in_ok-share-in-Waits t c =
    let programs = c.args.programs.now in
    kept_waits programs (evaluates programs c.args.right)
    (write_name c.args.name.now) c.args.self.now c.value_of.new.self c.in_ok-value.field-0
    c.value_of.new.held c.keeps.new.self (work.Target (target.Write (placed.Name c.in_ok-share-in-Waits.field-0 c.args.code))) c.keeps.result
    c.in_ok-value.ensures c.in-Waits.is c.keeps.ensures.waits c.keeps.ensures.next
    c.keeps.ensures.items (All-nil (IsLive c.args.self.now.heap)) (λ value. ap (λ (name : List ℕ). as_value (write_name name value)) c.in_ok-share-in-Waits.ensures)

pub assign_member-returns-in-Value : goal.assign_member-returns-in-Value
assign_member-returns-in-Value t c =
    let programs = c.args.programs.now in
    IfOk-weaker c.assign_to.result _ _
    (λ reached reaches. part_value programs (evaluates programs c.args.base)
    (λ base. behind (evaluates programs c.args.right) (write_member base c.args.name)) c.args.self.now c.value_of.new.self c.assign_to.new.self c.in_ok-base.field-0
    c.value_of.new.held c.assign_to.new.held c.in-Value.base reached
    c.in_ok-base.ensures c.in-Value.is reaches) c.assign_to.ensures

pub assign_member-returns-in-Stopped : goal.assign_member-returns-in-Stopped
assign_member-returns-in-Stopped t c =
    let programs = c.args.programs.now in
    part_stopped programs (evaluates programs c.args.base)
    (λ base. behind (evaluates programs c.args.right) (write_member base c.args.name)) c.args.self.now c.value_of.new.self c.in_ok-base.field-0
    c.value_of.new.held c.in-Stopped.cause c.in_ok-base.ensures c.in-Stopped.is

pub assign_member-returns-in-Waits : goal.assign_member-returns-in-Waits
assign_member-returns-in-Waits t c =
    let programs = c.args.programs.now in
    kept_waits programs (evaluates programs c.args.base)
    (λ base. behind (evaluates programs c.args.right) (write_member base c.args.name)) c.args.self.now c.value_of.new.self c.in_ok-base.field-0
    c.value_of.new.held c.keeps.new.self (work.Target (target.MemberBase c.args.name (use_of.Assign c.args.right))) c.keeps.result
    c.in_ok-base.ensures c.in-Waits.is c.keeps.ensures.waits c.keeps.ensures.next
    c.keeps.ensures.items (All-nil (IsLive c.args.self.now.heap)) (λ value. refl)

pub assign_index-returns-in-Value : goal.assign_index-returns-in-Value
assign_index-returns-in-Value t c =
    let programs = c.args.programs.now in
    IfOk-weaker c.assign_key.result _ _
    (λ reached reaches. part_value programs (evaluates programs c.args.base)
    (λ base. behind (evaluates programs c.args.key) (λ key. behind (as_text key)
    (λ key. behind (evaluates programs c.args.right) (write_member base key)))) c.args.self.now c.value_of.new.self c.assign_key.new.self c.in_ok-base.field-0
    c.value_of.new.held c.assign_key.new.held c.in-Value.base reached
    c.in_ok-base.ensures c.in-Value.is reaches) c.assign_key.ensures

pub assign_index-returns-in-Stopped : goal.assign_index-returns-in-Stopped
assign_index-returns-in-Stopped t c =
    let programs = c.args.programs.now in
    part_stopped programs (evaluates programs c.args.base)
    (λ base. behind (evaluates programs c.args.key) (λ key. behind (as_text key)
    (λ key. behind (evaluates programs c.args.right) (write_member base key)))) c.args.self.now c.value_of.new.self c.in_ok-base.field-0
    c.value_of.new.held c.in-Stopped.cause c.in_ok-base.ensures c.in-Stopped.is

pub assign_index-returns-in-Waits : goal.assign_index-returns-in-Waits
assign_index-returns-in-Waits t c =
    let programs = c.args.programs.now in
    kept_waits programs (evaluates programs c.args.base)
    (λ base. behind (evaluates programs c.args.key) (λ key. behind (as_text key)
    (λ key. behind (evaluates programs c.args.right) (write_member base key)))) c.args.self.now c.value_of.new.self c.in_ok-base.field-0
    c.value_of.new.held c.keeps.new.self (work.Target (target.IndexBase c.args.key (use_of.Assign c.args.right))) c.keeps.result
    c.in_ok-base.ensures c.in-Waits.is c.keeps.ensures.waits c.keeps.ensures.next
    c.keeps.ensures.items (All-nil (IsLive c.args.self.now.heap)) (λ value. refl)

pub assign_key-returns-in-Value : goal.assign_key-returns-in-Value
assign_key-returns-in-Value t c =
    let programs = c.args.programs.now in
    IfOk-weaker c.assign_text.result _ _
    (λ reached reaches. part_value programs (evaluates programs c.args.key)
    (λ key. behind (as_text key)
    (λ key. behind (evaluates programs c.args.right) (write_member c.args.base key))) c.args.self.now c.value_of.new.self c.assign_text.new.self c.in_ok-key.field-0
    c.value_of.new.held c.assign_text.new.held c.in-Value.key reached
    c.in_ok-key.ensures c.in-Value.is reaches) c.assign_text.ensures

pub assign_key-returns-in-Stopped : goal.assign_key-returns-in-Stopped
assign_key-returns-in-Stopped t c =
    let programs = c.args.programs.now in
    part_stopped programs (evaluates programs c.args.key)
    (λ key. behind (as_text key)
    (λ key. behind (evaluates programs c.args.right) (write_member c.args.base key))) c.args.self.now c.value_of.new.self c.in_ok-key.field-0
    c.value_of.new.held c.in-Stopped.cause c.in_ok-key.ensures c.in-Stopped.is

pub assign_key-returns-in-Waits : goal.assign_key-returns-in-Waits
assign_key-returns-in-Waits t c =
    let programs = c.args.programs.now in
    kept_waits programs (evaluates programs c.args.key)
    (λ key. behind (as_text key)
    (λ key. behind (evaluates programs c.args.right) (write_member c.args.base key))) c.args.self.now c.value_of.new.self c.in_ok-key.field-0
    c.value_of.new.held c.keeps.new.self (work.Target (target.IndexKey c.args.base (use_of.Assign c.args.right))) c.keeps.result
    c.in_ok-key.ensures c.in-Waits.is c.keeps.ensures.waits c.keeps.ensures.next
    c.keeps.ensures.items
    (All-cons (IsLive c.args.self.now.heap) c.args.base [] c.requires.base (All-nil (IsLive c.args.self.now.heap))) (λ value. refl)

pub assign_to-returns-in-Value : goal.assign_to-returns-in-Value
assign_to-returns-in-Value t c =
    let programs = c.args.programs.now in
    IfOk-weaker c.reach_write.result _ _
    (λ reached reaches. part_value programs (evaluates programs c.args.right)
    (write_member c.args.base c.args.key) c.args.self.now c.value_of.new.self c.reach_write.new.self c.in_ok-value.field-0
    c.value_of.new.held c.reach_write.new.held c.in-Value.value reached
    c.in_ok-value.ensures c.in-Value.is (reaches programs)) c.reach_write.ensures

pub assign_to-returns-in-Stopped : goal.assign_to-returns-in-Stopped
assign_to-returns-in-Stopped t c =
    let programs = c.args.programs.now in
    part_stopped programs (evaluates programs c.args.right)
    (write_member c.args.base c.args.key) c.args.self.now c.value_of.new.self c.in_ok-value.field-0
    c.value_of.new.held c.in-Stopped.cause c.in_ok-value.ensures c.in-Stopped.is

pub assign_to-returns-in-Waits : goal.assign_to-returns-in-Waits
assign_to-returns-in-Waits t c =
    let programs = c.args.programs.now in
    kept_waits programs (evaluates programs c.args.right)
    (write_member c.args.base c.args.key) c.args.self.now c.value_of.new.self c.in_ok-value.field-0
    c.value_of.new.held c.keeps.new.self (work.Target (target.Write (placed.Member c.args.base c.args.key))) c.keeps.result
    c.in_ok-value.ensures c.in-Waits.is c.keeps.ensures.waits c.keeps.ensures.next
    c.keeps.ensures.items
    (All-cons (IsLive c.args.self.now.heap) c.args.base [] c.requires.base (All-nil (IsLive c.args.self.now.heap))) (λ value. refl)

pub update_from-returns-in_ok-found-in-Value : goal.update_from-returns-in_ok-found-in-Value
update_from-returns-in_ok-found-in-Value t c =
    let programs = c.args.programs.now in
    part_value programs (evaluates programs c.args.right)
    (λ value. behind (operates c.args.operator c.args.before value)
    (write_name c.args.name.now)) c.args.self.now c.value_of.new.self c.update_with.new.self c.in_ok-value.field-0
    c.value_of.new.held c.value_of.new.held c.in-Value.value c.reached.result
    c.in_ok-value.ensures c.in-Value.is
    (found_reached programs (behind (operates c.args.operator c.args.before c.in-Value.value)
    (write_name c.args.name.now)) c.value_of.new.self c.update_with.new.self
    c.in_ok-found-in-Value.found c.reached.result c.value_of.new.held
    c.in_ok-found-in-Value.ensures.finds c.in_ok-found-in-Value.ensures.live
    c.update_with.ensures.stays
    (cleared programs (evaluates programs c.args.right) c.args.self.now c.value_of.new.self c.in_ok-value.field-0
    c.value_of.new.held c.in-Value.value c.in_ok-value.ensures c.in-Value.is) c.reached.ensures)

pub update_from-returns-in-Stopped : goal.update_from-returns-in-Stopped
update_from-returns-in-Stopped t c =
    let programs = c.args.programs.now in
    part_stopped programs (evaluates programs c.args.right)
    (λ value. behind (operates c.args.operator c.args.before value)
    (write_name c.args.name.now)) c.args.self.now c.value_of.new.self c.in_ok-value.field-0
    c.value_of.new.held c.in-Stopped.cause c.in_ok-value.ensures c.in-Stopped.is

pub update_from-returns-in_ok-share-in-Waits : goal.update_from-returns-in_ok-share-in-Waits
update_from-returns-in_ok-share-in-Waits t c =
    let programs = c.args.programs.now in
    kept_waits programs (evaluates programs c.args.right)
    (λ value. behind (operates c.args.operator c.args.before value)
    (write_name c.args.name.now)) c.args.self.now c.value_of.new.self c.in_ok-value.field-0
    c.value_of.new.held c.keeps.new.self (work.Target (target.UpdateRight c.args.operator
    (placed.Name c.in_ok-share-in-Waits.field-0 c.args.code) c.args.before)) c.keeps.result
    c.in_ok-value.ensures c.in-Waits.is c.keeps.ensures.waits c.keeps.ensures.next
    c.keeps.ensures.items
    (All-cons (IsLive c.args.self.now.heap) c.args.before [] c.requires.before (All-nil (IsLive c.args.self.now.heap))) (λ value. ap (λ (name : List ℕ). as_value (behind (operates c.args.operator c.args.before value) (write_name name)))
    c.in_ok-share-in-Waits.ensures)

pub assign_text-returns-in-Some : goal.assign_text-returns-in-Some
assign_text-returns-in-Some t c =
    let programs = c.args.programs.now in
    IfOk-weaker c.assign_to.result _ _
    (λ reached reaches. charged_on programs (as_text c.args.key.now)
    (λ key. behind (evaluates programs c.args.right) (write_member c.args.base key))
    c.args.self.now c.to_text.new.self c.assign_to.new.self c.in_ok-key.field-0 c.in-Some.key
    reached c.assign_to.new.held c.in_ok-key.ensures.text c.in-Some.is c.to_text.ensures.stays
    reaches) c.assign_to.ensures

pub assign_text-returns-in-None : goal.assign_text-returns-in-None
assign_text-returns-in-None t c =
    let programs = c.args.programs.now in
    charged_stopped programs (as_text c.args.key.now)
    (λ key. behind (evaluates programs c.args.right) (write_member c.args.base key))
    c.args.self.now c.to_text.new.self c.in_ok-key.field-0 c.args.held.now
    c.in_ok-key.ensures.text c.in-None.is c.to_text.ensures.stays

-- ---- left_of

pub left_of-returns-in-Some : goal.left_of-returns-in-Some
left_of-returns-in-Some t c =
    let programs = c.args.programs.now in
    found_reached programs (behind (evaluates programs c.args.left)
    (λ value. behind (evaluates programs c.args.right) (operates c.args.operator value)))
    c.args.self.now c.whole_operands.new.self (found_of.Value c.in-Some.value)
    (reached_of.Value c.in-Some.value) c.args.held.now c.in-Some.ensures.finds
    (All-cons (IsLive c.whole_operands.new.self.heap) c.in-Some.value [] c.in-Some.ensures.live
    (All-nil (IsLive c.whole_operands.new.self.heap))) c.whole_operands.ensures.stays c.requires refl

-- ---- branch_of

pub branch_of-returns-in-Some : goal.branch_of-returns-in-Some
branch_of-returns-in-Some t c =
    let programs = c.args.programs.now in
    IfOk-weaker c.value_of-in-Some.result _ _
    (λ reached reaches. branch_value programs (evaluates programs c.args.test) c.args.first
    c.args.second c.args.self.now c.value_of.new.self c.value_of-in-Some.new.self
    c.in_ok-value.field-0 c.value_of.new.held c.value_of-in-Some.new.held c.in-Value.value
    c.if-truth.chosen c.in-Some.code reached c.in_ok-value.ensures c.in-Value.is
    (elim c.if-truth.branch [
      | branch_of-then-truth w ↦ w.chosen-is ∙ when_true (truth_of c.in-Value.value) c.args.first
          c.args.second (sym c.truth.ensures ∙ w.if-truth.true)
      | branch_of-else-truth w ↦ w.chosen-is ∙ when_false (truth_of c.in-Value.value) c.args.first
          c.args.second (sym c.truth.ensures ∙ w.if-truth.false)
    ]) c.in-Some.is reaches)
    c.value_of-in-Some.ensures

pub branch_of-returns-in-None : goal.branch_of-returns-in-None
branch_of-returns-in-None t c =
    let programs = c.args.programs.now in
    branch_own programs (evaluates programs c.args.test) c.args.first c.args.second
    c.args.self.now c.value_of.new.self c.in_ok-value.field-0 c.value_of.new.held c.in-Value.value
    c.if-truth.chosen c.in_ok-value.ensures c.in-Value.is
    (elim c.if-truth.branch [
      | branch_of-then-truth w ↦ w.chosen-is ∙ when_true (truth_of c.in-Value.value) c.args.first
          c.args.second (sym c.truth.ensures ∙ w.if-truth.true)
      | branch_of-else-truth w ↦ w.chosen-is ∙ when_false (truth_of c.in-Value.value) c.args.first
          c.args.second (sym c.truth.ensures ∙ w.if-truth.false)
    ]) c.in-None.is

pub branch_of-returns-in-Stopped : goal.branch_of-returns-in-Stopped
branch_of-returns-in-Stopped t c =
    let programs = c.args.programs.now in
    part_stopped programs (evaluates programs c.args.test)
    (chosen programs c.args.first c.args.second) c.args.self.now c.value_of.new.self
    c.in_ok-value.field-0 c.value_of.new.held c.in-Stopped.cause c.in_ok-value.ensures
    c.in-Stopped.is

pub branch_of-returns-in-Waits : goal.branch_of-returns-in-Waits
branch_of-returns-in-Waits t c =
    let programs = c.args.programs.now in
    IfOk-weaker c.branch_waits.result _ _
    (λ reached holds. branch_kept programs (evaluates programs c.args.test) c.args.first
    c.args.second c.args.self.now c.value_of.new.self c.in_ok-value.field-0 c.value_of.new.held
    c.branch_waits.new.held reached c.in_ok-value.ensures c.in-Waits.is holds)
    c.branch_waits.ensures

-- ---- shape_of

pub shape_of-single_value-requires : goal.shape_of-single_value-requires
shape_of-single_value-requires t c =
    direct_single c.args.programs.now c.args.shape c.requires.direct
    c.in_default.not-Index c.in_default.not-Member c.in_default.not-Signed c.in_default.not-Stepped
    c.in_default.not-Binary c.in_default.not-And c.in_default.not-Or c.in_default.not-Choice
    c.in_default.not-Assign c.in_default.not-Update c.in_default.not-Call c.in_default.not-New

-- ---- assign_of

pub assign_of-returns-then-not-take_step : goal.assign_of-returns-then-not-take_step
assign_of-returns-then-not-take_step t c =
    let programs = c.args.programs.now in
    no_place programs (target_of (expression_at programs c.args.target))
    (λ place. behind (evaluates programs c.args.right) (write_place place)) c.args.self.now
    c.take_step.new.self c.take_step.result c.args.held.now c.take_step.ensures.step
    c.if-not-take_step.true c.take_step.ensures.stays

pub assign_of-returns-in-Some : goal.assign_of-returns-in-Some
assign_of-returns-in-Some t c =
    let programs = c.args.programs.now in
    IfOk-weaker c.assign_name.result _ _
    (λ reached reaches. named_on programs c.args.target c.in-Some.name.now
    (λ place. behind (evaluates programs c.args.right) (write_place place)) c.args.self.now
    c.take_step.new.self c.assign_name.new.self c.take_step.result reached c.assign_name.new.held
    c.take_step.ensures.step c.if-not-take_step.false c.take_step.ensures.stays c.in-Some.ensures
    reaches) c.assign_name.ensures

pub assign_of-returns-in-None : goal.assign_of-returns-in-None
assign_of-returns-in-None t c =
    let programs = c.args.programs.now in
    IfOk-weaker c.assign_part.result _ _
    (λ reached reaches. place_on programs (target_of (expression_at programs c.args.target))
    (λ place. behind (evaluates programs c.args.right) (write_place place)) c.args.self.now
    c.take_step.new.self c.assign_part.new.self c.take_step.result reached c.assign_part.new.held
    c.take_step.ensures.step c.if-not-take_step.false c.take_step.ensures.stays reaches)
    c.assign_part.ensures

pub assign_shape-returns-in_ok-name-in_default : goal.assign_shape-returns-in_ok-name-in_default
assign_shape-returns-in_ok-name-in_default t c =
    let programs = c.args.programs.now in
    let none = target-other programs c.args.target c.args.shape c.in_default.not-Name
    c.in_default.not-Index c.in_default.not-Member in
    IfOk-weaker c.assign_name-in_default.result _ _
    (λ reached reaches. subst (λ (target : Target). ReachesBehind programs
    (behind (place_row (enters programs) target)
    (λ place. behind (evaluates programs c.args.right) (write_place place))) c.args.self.now
    c.assign_name-in_default.new.self reached c.assign_name-in_default.new.held) (sym none)
    (subst (λ (name : List ℕ). ReachesBehind programs
    (behind (evaluates programs c.args.right) (write_name name)) c.args.self.now
    c.assign_name-in_default.new.self reached c.assign_name-in_default.new.held)
    c.in_ok-name-in_default.ensures reaches)) c.assign_name-in_default.ensures

-- ---- update_of

pub update_of-returns-then-not-take_step : goal.update_of-returns-then-not-take_step
update_of-returns-then-not-take_step t c =
    let programs = c.args.programs.now in
    no_place programs (target_of (expression_at programs c.args.target))
    (λ place. behind (read_place place) (λ before. behind (evaluates programs c.args.right)
    (λ value. behind (operates c.args.operator before value) (write_place place))))
    c.args.self.now c.take_step.new.self c.take_step.result c.args.held.now
    c.take_step.ensures.step c.if-not-take_step.true c.take_step.ensures.stays

pub update_of-returns-in-Some-2 : goal.update_of-returns-in-Some-2
update_of-returns-in-Some-2 t c =
    let programs = c.args.programs.now in
    let name = c.in-Some.name.now in
    IfOk-weaker c.update_from.result _ _
    (λ reached reaches. named_on programs c.args.target name
    (λ place. behind (read_place place) (λ before. behind (evaluates programs c.args.right)
    (λ value. behind (operates c.args.operator before value) (write_place place))))
    c.args.self.now c.take_step.new.self c.update_from.new.self c.take_step.result reached
    c.update_from.new.held c.take_step.ensures.step c.if-not-take_step.false
    c.take_step.ensures.stays c.in-Some.ensures
    (read_on programs name (λ before. behind (evaluates programs c.args.right)
    (λ value. behind (operates c.args.operator before value) (write_name name)))
    c.take_step.new.self c.update_from.new.self c.in_ok-before.field-0 c.in-Some-2.before reached
    c.update_from.new.held c.in_ok-before.ensures.value c.in-Some-2.is reaches))
    c.update_from.ensures

pub update_of-returns-in-None : goal.update_of-returns-in-None
update_of-returns-in-None t c =
    let programs = c.args.programs.now in
    let name = c.in-Some.name.now in
    named_on programs c.args.target name
    (λ place. behind (read_place place) (λ before. behind (evaluates programs c.args.right)
    (λ value. behind (operates c.args.operator before value) (write_place place))))
    c.args.self.now c.take_step.new.self c.take_step.new.self c.take_step.result
    (reached_of.Stopped Unresolved) c.args.held.now c.take_step.ensures.step
    c.if-not-take_step.false c.take_step.ensures.stays c.in-Some.ensures
    (read_none programs name (λ before. behind (evaluates programs c.args.right)
    (λ value. behind (operates c.args.operator before value) (write_name name)))
    c.take_step.new.self c.in_ok-before.field-0 c.args.held.now c.in_ok-before.ensures.value
    c.in-None.is)

-- ---- value_of

pub value_of-returns : goal.value_of-returns
value_of-returns t c =
    let programs = c.args.programs.now in
    IfOk-weaker c.shape_of.result _ _
    (λ reached reaches. step_evaluates programs c.args.code
    (shaped programs c.args.code c.in_ok-shape.shape) c.args.self.now c.take_step.new.self
    c.shape_of.new.self c.take_step.result reached c.shape_of.new.held c.take_step.ensures.step
    c.if-not-take_step.false c.take_step.ensures.less c.take_step.ensures.stays
    c.law_of_unfolding.ensures.expressions c.in_ok-shape.ensures reaches) c.shape_of.ensures

-- ---- calls

pub called_value-returns-in-Value : goal.called_value-returns-in-Value
called_value-returns-in-Value t c =
    let programs = c.args.programs.now in
    IfOk-weaker c.arguments_of.result _ _
    (λ reached reaches. part_value programs (evaluates programs c.args.callee)
    (λ value. calls_with programs (callee_of.Value value) [] c.args.call 1) c.args.self.now
    c.value_of.new.self c.arguments_of.new.self c.in_ok-value.field-0 c.value_of.new.held
    c.arguments_of.new.held c.in-Value.value reached c.in_ok-value.ensures c.in-Value.is reaches) c.arguments_of.ensures

pub called_value-returns-in-Stopped : goal.called_value-returns-in-Stopped
called_value-returns-in-Stopped t c =
    let programs = c.args.programs.now in
    part_stopped programs (evaluates programs c.args.callee)
    (λ value. calls_with programs (callee_of.Value value) [] c.args.call 1) c.args.self.now
    c.value_of.new.self c.in_ok-value.field-0 c.value_of.new.held c.in-Stopped.cause
    c.in_ok-value.ensures c.in-Stopped.is

pub called_value-returns-in-Waits : goal.called_value-returns-in-Waits
called_value-returns-in-Waits t c =
    let programs = c.args.programs.now in
    kept_waits programs (evaluates programs c.args.callee)
    (λ value. calls_with programs (callee_of.Value value) [] c.args.call 1) c.args.self.now
    c.value_of.new.self c.in_ok-value.field-0 c.value_of.new.held c.keeps.new.self
    (work.Call (call_work.Callee c.args.call)) c.keeps.result c.in_ok-value.ensures c.in-Waits.is
    c.keeps.ensures.waits c.keeps.ensures.next c.keeps.ensures.items
    (All-nil (IsLive c.args.self.now.heap)) (λ value. refl)

pub new_of-returns-in-Value : goal.new_of-returns-in-Value
new_of-returns-in-Value t c =
    let programs = c.args.programs.now in
    IfOk-weaker c.arguments_of.result _ _
    (λ reached reaches. part_value programs (evaluates programs c.args.callee)
    (λ value. calls_with programs (callee_of.Constructor value) [] c.args.call 1) c.args.self.now
    c.value_of.new.self c.arguments_of.new.self c.in_ok-value.field-0 c.value_of.new.held
    c.arguments_of.new.held c.in-Value.value reached c.in_ok-value.ensures c.in-Value.is reaches) c.arguments_of.ensures

pub new_of-returns-in-Stopped : goal.new_of-returns-in-Stopped
new_of-returns-in-Stopped t c =
    let programs = c.args.programs.now in
    part_stopped programs (evaluates programs c.args.callee)
    (λ value. calls_with programs (callee_of.Constructor value) [] c.args.call 1) c.args.self.now
    c.value_of.new.self c.in_ok-value.field-0 c.value_of.new.held c.in-Stopped.cause
    c.in_ok-value.ensures c.in-Stopped.is

pub new_of-returns-in-Waits : goal.new_of-returns-in-Waits
new_of-returns-in-Waits t c =
    let programs = c.args.programs.now in
    kept_waits programs (evaluates programs c.args.callee)
    (λ value. calls_with programs (callee_of.Constructor value) [] c.args.call 1) c.args.self.now
    c.value_of.new.self c.in_ok-value.field-0 c.value_of.new.held c.keeps.new.self
    (work.Call (call_work.Constructor c.args.call)) c.keeps.result c.in_ok-value.ensures c.in-Waits.is
    c.keeps.ensures.waits c.keeps.ensures.next c.keeps.ensures.items
    (All-nil (IsLive c.args.self.now.heap)) (λ value. refl)

pub called_member-returns-then-not-take_step : goal.called_member-returns-then-not-take_step
called_member-returns-then-not-take_step t c =
    let programs = c.args.programs.now in
    no_step programs (behind (evaluates programs c.args.base)
    (λ base. with_members base
    (calls_with programs (callee_of.Member base c.args.name) [] c.args.call 1))) c.args.self.now c.take_step.new.self
    c.take_step.result c.args.held.now c.take_step.ensures.step c.if-not-take_step.true
    c.take_step.ensures.stays

pub called_member-returns-in-Value : goal.called_member-returns-in-Value
called_member-returns-in-Value t c =
    let programs = c.args.programs.now in
    IfOk-weaker c.called_on.result _ _
    (λ reached reaches. step_on programs (behind (evaluates programs c.args.base)
    (λ base. with_members base
    (calls_with programs (callee_of.Member base c.args.name) [] c.args.call 1))) c.args.self.now c.take_step.new.self
    c.called_on.new.self c.take_step.result reached c.called_on.new.held c.take_step.ensures.step
    c.if-not-take_step.false c.take_step.ensures.stays
    (part_value programs (evaluates programs c.args.base)
    (λ base. with_members base
    (calls_with programs (callee_of.Member base c.args.name) [] c.args.call 1)) c.take_step.new.self
    c.value_of.new.self c.called_on.new.self c.in_ok-base.field-0 c.value_of.new.held
    c.called_on.new.held c.in-Value.base reached c.in_ok-base.ensures c.in-Value.is reaches)) c.called_on.ensures

pub called_member-returns-in-Stopped : goal.called_member-returns-in-Stopped
called_member-returns-in-Stopped t c =
    let programs = c.args.programs.now in
    step_on programs (behind (evaluates programs c.args.base)
    (λ base. with_members base
    (calls_with programs (callee_of.Member base c.args.name) [] c.args.call 1))) c.args.self.now c.take_step.new.self
    c.value_of.new.self c.take_step.result (reached_of.Stopped c.in-Stopped.cause) c.value_of.new.held c.take_step.ensures.step
    c.if-not-take_step.false c.take_step.ensures.stays
    (part_stopped programs (evaluates programs c.args.base)
    (λ base. with_members base
    (calls_with programs (callee_of.Member base c.args.name) [] c.args.call 1)) c.take_step.new.self
    c.value_of.new.self c.in_ok-base.field-0 c.value_of.new.held c.in-Stopped.cause
    c.in_ok-base.ensures c.in-Stopped.is)

pub called_member-returns-in-Waits : goal.called_member-returns-in-Waits
called_member-returns-in-Waits t c =
    let programs = c.args.programs.now in
    IfOk-weaker c.keeps.result _ _
    (λ reached reaches. step_on programs (behind (evaluates programs c.args.base)
    (λ base. with_members base
    (calls_with programs (callee_of.Member base c.args.name) [] c.args.call 1))) c.args.self.now c.take_step.new.self
    c.value_of.new.self c.take_step.result reached c.keeps.new.self c.take_step.ensures.step
    c.if-not-take_step.false c.take_step.ensures.stays
    reaches)
    (kept_waits programs (evaluates programs c.args.base)
    (λ base. with_members base
    (calls_with programs (callee_of.Member base c.args.name) [] c.args.call 1)) c.take_step.new.self
    c.value_of.new.self c.in_ok-base.field-0 c.value_of.new.held c.keeps.new.self
    (work.Call (call_work.MemberBase c.args.name c.args.call)) c.keeps.result c.in_ok-base.ensures c.in-Waits.is
    c.keeps.ensures.waits c.keeps.ensures.next c.keeps.ensures.items
    (All-nil (IsLive c.take_step.new.self.heap)) (λ value. refl))

pub called_index-returns-then-not-take_step : goal.called_index-returns-then-not-take_step
called_index-returns-then-not-take_step t c =
    let programs = c.args.programs.now in
    no_step programs (behind (evaluates programs c.args.base)
    (λ base. behind (evaluates programs c.args.key) (λ key. with_members base
    (behind (as_text key)
    (λ key. calls_with programs (callee_of.Member base key) [] c.args.call 1))))) c.args.self.now c.take_step.new.self
    c.take_step.result c.args.held.now c.take_step.ensures.step c.if-not-take_step.true
    c.take_step.ensures.stays

pub called_index-returns-in-Value : goal.called_index-returns-in-Value
called_index-returns-in-Value t c =
    let programs = c.args.programs.now in
    IfOk-weaker c.called_key.result _ _
    (λ reached reaches. step_on programs (behind (evaluates programs c.args.base)
    (λ base. behind (evaluates programs c.args.key) (λ key. with_members base
    (behind (as_text key)
    (λ key. calls_with programs (callee_of.Member base key) [] c.args.call 1))))) c.args.self.now c.take_step.new.self
    c.called_key.new.self c.take_step.result reached c.called_key.new.held c.take_step.ensures.step
    c.if-not-take_step.false c.take_step.ensures.stays
    (part_value programs (evaluates programs c.args.base)
    (λ base. behind (evaluates programs c.args.key) (λ key. with_members base
    (behind (as_text key)
    (λ key. calls_with programs (callee_of.Member base key) [] c.args.call 1)))) c.take_step.new.self
    c.value_of.new.self c.called_key.new.self c.in_ok-base.field-0 c.value_of.new.held
    c.called_key.new.held c.in-Value.base reached c.in_ok-base.ensures c.in-Value.is reaches)) c.called_key.ensures

pub called_index-returns-in-Stopped : goal.called_index-returns-in-Stopped
called_index-returns-in-Stopped t c =
    let programs = c.args.programs.now in
    step_on programs (behind (evaluates programs c.args.base)
    (λ base. behind (evaluates programs c.args.key) (λ key. with_members base
    (behind (as_text key)
    (λ key. calls_with programs (callee_of.Member base key) [] c.args.call 1))))) c.args.self.now c.take_step.new.self
    c.value_of.new.self c.take_step.result (reached_of.Stopped c.in-Stopped.cause) c.value_of.new.held c.take_step.ensures.step
    c.if-not-take_step.false c.take_step.ensures.stays
    (part_stopped programs (evaluates programs c.args.base)
    (λ base. behind (evaluates programs c.args.key) (λ key. with_members base
    (behind (as_text key)
    (λ key. calls_with programs (callee_of.Member base key) [] c.args.call 1)))) c.take_step.new.self
    c.value_of.new.self c.in_ok-base.field-0 c.value_of.new.held c.in-Stopped.cause
    c.in_ok-base.ensures c.in-Stopped.is)

pub called_index-returns-in-Waits : goal.called_index-returns-in-Waits
called_index-returns-in-Waits t c =
    let programs = c.args.programs.now in
    IfOk-weaker c.keeps.result _ _
    (λ reached reaches. step_on programs (behind (evaluates programs c.args.base)
    (λ base. behind (evaluates programs c.args.key) (λ key. with_members base
    (behind (as_text key)
    (λ key. calls_with programs (callee_of.Member base key) [] c.args.call 1))))) c.args.self.now c.take_step.new.self
    c.value_of.new.self c.take_step.result reached c.keeps.new.self c.take_step.ensures.step
    c.if-not-take_step.false c.take_step.ensures.stays
    reaches)
    (kept_waits programs (evaluates programs c.args.base)
    (λ base. behind (evaluates programs c.args.key) (λ key. with_members base
    (behind (as_text key)
    (λ key. calls_with programs (callee_of.Member base key) [] c.args.call 1)))) c.take_step.new.self
    c.value_of.new.self c.in_ok-base.field-0 c.value_of.new.held c.keeps.new.self
    (work.Call (call_work.IndexBase c.args.key c.args.call)) c.keeps.result c.in_ok-base.ensures c.in-Waits.is
    c.keeps.ensures.waits c.keeps.ensures.next c.keeps.ensures.items
    (All-nil (IsLive c.take_step.new.self.heap)) (λ value. refl))

pub called_key-returns-in-Value : goal.called_key-returns-in-Value
called_key-returns-in-Value t c =
    let programs = c.args.programs.now in
    IfOk-weaker c.called_text.result _ _
    (λ reached reaches. part_value programs (evaluates programs c.args.key)
    (λ key. with_members c.args.base (behind (as_text key)
    (λ key. calls_with programs (callee_of.Member c.args.base key) [] c.args.call 1))) c.args.self.now
    c.value_of.new.self c.called_text.new.self c.in_ok-key.field-0 c.value_of.new.held
    c.called_text.new.held c.in-Value.key reached c.in_ok-key.ensures c.in-Value.is reaches) c.called_text.ensures

pub called_key-returns-in-Stopped : goal.called_key-returns-in-Stopped
called_key-returns-in-Stopped t c =
    let programs = c.args.programs.now in
    part_stopped programs (evaluates programs c.args.key)
    (λ key. with_members c.args.base (behind (as_text key)
    (λ key. calls_with programs (callee_of.Member c.args.base key) [] c.args.call 1))) c.args.self.now
    c.value_of.new.self c.in_ok-key.field-0 c.value_of.new.held c.in-Stopped.cause
    c.in_ok-key.ensures c.in-Stopped.is

pub called_key-returns-in-Waits : goal.called_key-returns-in-Waits
called_key-returns-in-Waits t c =
    let programs = c.args.programs.now in
    kept_waits programs (evaluates programs c.args.key)
    (λ key. with_members c.args.base (behind (as_text key)
    (λ key. calls_with programs (callee_of.Member c.args.base key) [] c.args.call 1))) c.args.self.now
    c.value_of.new.self c.in_ok-key.field-0 c.value_of.new.held c.keeps.new.self
    (work.Call (call_work.IndexKey c.args.base c.args.call)) c.keeps.result c.in_ok-key.ensures c.in-Waits.is
    c.keeps.ensures.waits c.keeps.ensures.next c.keeps.ensures.items
    (All-cons (IsLive c.args.self.now.heap) c.args.base [] c.requires.base
    (All-nil (IsLive c.args.self.now.heap))) (λ value. refl)

pub called_on-returns-then-has_no_members : goal.called_on-returns-then-has_no_members
called_on-returns-then-has_no_members t c =
    let programs = c.args.programs.now in
    no_members programs c.args.base
    (calls_with programs (callee_of.Member c.args.base c.args.name) [] c.args.call 1)
    c.args.self.now c.has_no_members.result c.args.held.now c.has_no_members.ensures
    c.if-has_no_members.true

pub called_on-returns : goal.called_on-returns
called_on-returns t c =
    let programs = c.args.programs.now in
    IfOk-weaker c.arguments_of.result _ _
    (λ reached reaches. members_on programs c.args.base
    (calls_with programs (callee_of.Member c.args.base c.args.name) [] c.args.call 1)
    c.args.self.now c.arguments_of.new.self c.has_no_members.result reached
    c.arguments_of.new.held c.has_no_members.ensures c.if-has_no_members.false reaches)
    c.arguments_of.ensures

pub called_text-returns-then-has_no_members : goal.called_text-returns-then-has_no_members
called_text-returns-then-has_no_members t c =
    let programs = c.args.programs.now in
    no_members programs c.args.base (behind (as_text c.args.key.now)
    (λ key. calls_with programs (callee_of.Member c.args.base key) [] c.args.call 1))
    c.args.self.now c.has_no_members.result c.args.held.now c.has_no_members.ensures
    c.if-has_no_members.true

pub called_text-returns-in-Some : goal.called_text-returns-in-Some
called_text-returns-in-Some t c =
    let programs = c.args.programs.now in
    IfOk-weaker c.arguments_of.result _ _
    (λ reached reaches. members_on programs c.args.base (behind (as_text c.args.key.now)
    (λ key. calls_with programs (callee_of.Member c.args.base key) [] c.args.call 1))
    c.args.self.now c.arguments_of.new.self c.has_no_members.result reached
    c.arguments_of.new.held c.has_no_members.ensures c.if-has_no_members.false
    (charged_on programs (as_text c.args.key.now)
    (λ key. calls_with programs (callee_of.Member c.args.base key) [] c.args.call 1)
    c.args.self.now c.to_text.new.self c.arguments_of.new.self c.in_ok-key.field-0 c.in-Some.key
    reached c.arguments_of.new.held c.in_ok-key.ensures.text c.in-Some.is c.to_text.ensures.stays
    reaches)) c.arguments_of.ensures

pub called_text-returns-in-None : goal.called_text-returns-in-None
called_text-returns-in-None t c =
    let programs = c.args.programs.now in
    members_on programs c.args.base (behind (as_text c.args.key.now)
    (λ key. calls_with programs (callee_of.Member c.args.base key) [] c.args.call 1))
    c.args.self.now c.to_text.new.self c.has_no_members.result (reached_of.Stopped Budget)
    c.args.held.now c.has_no_members.ensures c.if-has_no_members.false
    (charged_stopped programs (as_text c.args.key.now)
    (λ key. calls_with programs (callee_of.Member c.args.base key) [] c.args.call 1)
    c.args.self.now c.to_text.new.self c.in_ok-key.field-0 c.args.held.now
    c.in_ok-key.ensures.text c.in-None.is c.to_text.ensures.stays)

-- ---- call_of

pub call_of-returns-in-Member : goal.call_of-returns-in-Member
call_of-returns-in-Member t c =
    let programs = c.args.programs.now in
    IfOk-weaker c.called_member.result _ _
    (λ reached reaches. member_called programs c.args.call c.args.callee
    c.in_ok-other.other c.in-Member.base c.in-Member.name c.args.self.now
    c.called_member.new.self reached c.called_member.new.held c.in_ok-other.ensures
    c.in-Member.is reaches) c.called_member.ensures

pub call_of-returns-in-Index : goal.call_of-returns-in-Index
call_of-returns-in-Index t c =
    let programs = c.args.programs.now in
    IfOk-weaker c.called_index.result _ _
    (λ reached reaches. index_called programs c.args.call c.args.callee
    c.in_ok-other.other c.in-Index.base c.in-Index.key c.args.self.now
    c.called_index.new.self reached c.called_index.new.held c.in_ok-other.ensures
    c.in-Index.is reaches) c.called_index.ensures

pub call_of-returns-in_default : goal.call_of-returns-in_default
call_of-returns-in_default t c =
    let programs = c.args.programs.now in
    IfOk-weaker c.called_value.result _ _
    (λ reached reaches. other_called programs c.args.call c.args.callee
    c.in_ok-other.other c.args.self.now c.called_value.new.self reached
    c.called_value.new.held c.in_ok-other.ensures c.in_default.not-Index
    c.in_default.not-Member reaches) c.called_value.ensures

-- ---- arguments_of

pub arguments_of-returns-in-All : goal.arguments_of-returns-in-All
arguments_of-returns-in-All t c =
    let programs = c.args.programs.now in
    IfOk-weaker c.apply.result _ _
    (λ reached reaches. arguments_on programs c.args.self.now c.gather.new.self c.apply.new.self
    (record { callee = c.args.callee; given = c.new.result; call = c.args.call; next = 1 })
    c.gather.new.opened c.in_ok-gather.field-0 c.gather.new.held c.apply.new.held reached
    c.in_ok-gather.ensures.gathers c.in-All.is c.new.ensures.items refl c.gather.ensures.callee
    (reaches programs)) c.apply.ensures

pub arguments_of-returns-in-Stopped : goal.arguments_of-returns-in-Stopped
arguments_of-returns-in-Stopped t c =
    arguments_stopped c.args.programs.now c.args.self.now c.gather.new.self
    (record { callee = c.args.callee; given = c.new.result; call = c.args.call; next = 1 })
    c.gather.new.opened c.in_ok-gather.field-0 c.gather.new.held c.in-Stopped.cause
    c.in_ok-gather.ensures.gathers c.in-Stopped.is c.new.ensures.items refl

pub arguments_of-returns-in-Waits : goal.arguments_of-returns-in-Waits
arguments_of-returns-in-Waits t c =
    arguments_kept c.args.programs.now c.args.self.now c.gather.new.self
    (record { callee = c.args.callee; given = c.new.result; call = c.args.call; next = 1 })
    c.gather.new.opened c.in_ok-gather.field-0 c.gather.new.held c.keeps.new.self c.keeps.result
    c.in_ok-gather.ensures.gathers c.in-Waits.is c.new.ensures.items refl c.gather.ensures.callee
    c.requires.callee c.keeps.ensures.waits c.keeps.ensures.next c.keeps.ensures.items

-- ---- gather

pub gather-returns-in-Stopped-clause-gathers : goal.gather-returns-in-Stopped-clause-gathers
gather-returns-in-Stopped-clause-gathers t c =
    gathered_none c.args.programs.now c.args.self.now c.arguments.self c.value_of.new.self
    c.args.opened.now c.arguments.opened c.arguments.held c.value_of.new.held
    c.in-Some.argument c.in_ok-value.field-0 c.in-Stopped.cause c.arguments.invariant.gathers
    c.in-Some.ensures.part c.in_ok-value.ensures c.in-Stopped.is

pub gather-returns-in-Waits-clause-gathers : goal.gather-returns-in-Waits-clause-gathers
gather-returns-in-Waits-clause-gathers t c =
    gathered_some c.args.programs.now c.args.self.now c.arguments.self c.value_of.new.self
    c.args.opened.now c.arguments.opened
    (record c.arguments.opened { next = c.arguments.opened.next + 1 })
    c.arguments.held c.value_of.new.held c.in-Some.argument c.in_ok-value.field-0
    c.arguments.invariant.gathers c.in-Some.ensures.part c.in_ok-value.ensures c.in-Waits.is
    refl

pub gather-returns-clause-gathers : goal.gather-returns-clause-gathers
gather-returns-clause-gathers t c =
    gathered_all c.args.programs.now c.args.self.now c.arguments.self
    c.args.opened.now c.arguments.opened c.arguments.held
    c.arguments.invariant.gathers c.arguments.invariant.callee c.in_default.ensures.part

pub gather-arguments-preserved : goal.gather-arguments-preserved
gather-arguments-preserved t c = record {
  callee = c.arguments.invariant.callee;
  call = c.arguments.invariant.call;
  gathers = gathering_more c.args.programs.now c.args.self.now c.arguments.self
      c.value_of.new.self c.args.opened.now c.arguments.opened
      (record c.arguments.opened { given = c.push.new.self; next = c.arguments.opened.next + 1 })
      c.arguments.held c.value_of.new.held c.in-Some.argument c.in_ok-value.field-0
      c.in-Value.value c.arguments.invariant.gathers c.in-Some.ensures.part
      c.in_ok-value.ensures c.in-Value.is refl refl c.in_ok-push-in-Value.ensures.items refl;
}
