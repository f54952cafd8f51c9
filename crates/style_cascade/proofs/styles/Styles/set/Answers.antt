use Rattle.std.proofs.Common.{Some, length, ap, refl, subst, ◌∙◌, arith, length-set}
use Rattle.style_cascade.specs.Keeping.{StylesState}
use Rattle.style_cascade.specs.Cascade.{Sources, write_of}
use Rattle.style_cascade.specs.devices.Kept.{Unsets}
use Rattle.style_cascade.specs.devices.Tables.{cell_place}
use Rattle.style_cascade.proofs.KeptLemmas.{element-within, room-of}
use Rattle.style_cascade.proofs.SetLemmas.{owed-more, set-kept, set-only, set-others, set-right}
use Rattle.style_cascade.proofs.WriteLemmas.{sources-put, write-here, write-others}
use Rattle.style_cascade.proofs.styles.Styles.set.Goals as goal
use Rattle.style_cascade.proofs.styles.Styles.set.Goals.{After-forget_written}

unsets : (c : After-forget_written) → Unsets c.args.tree.now c.args.self.now.kept.values c.forget_written.new.values c.args.node.0 c.args.property
unsets c = subst (λ (s : StylesState). Unsets c.args.tree.now s.kept.values c.forget_written.new.values c.args.node.0 c.args.property) c.self.view_is c.forget_written.ensures

pub put-requires-clause-within : goal.put-requires-clause-within
put-requires-clause-within c =
    let within = element-within c.args.tree.now c.args.node.0 c.requires.element in
    let room = room-of c.args.tree.now c.requires.right.0 c.args.self.now c.requires.right.1 in
    omega (arith, within, room, ap (λ (s : StylesState). length s.kept.written) c.self.view_is)

pub returns-clause-sources : goal.returns-clause-sources
returns-clause-sources c =
    let within = element-within c.args.tree.now c.args.node.0 c.requires.element in
    let room = room-of c.args.tree.now c.requires.right.0 c.args.self.now c.requires.right.1 in
    sources-put c.self.inside.rules c.self.inside.writes _ c.args.self.now.sources c.args.node.0 c.args.state c.args.property c.args.value
    (omega (arith, within, room, ap (λ (s : StylesState). length s.kept.written) c.self.view_is)) c.put.ensures (ap (λ (s : StylesState). s.sources) c.self.view_is)

pub returns-clause-written : goal.returns-clause-written
returns-clause-written c =
    ap (λ (s : Sources). write_of s c.args.node.0 c.args.state c.args.property) (returns-clause-sources c)
    ∙ write-here c.args.self.now.sources c.args.node.0 c.args.state c.args.property c.args.value

pub returns-clause-others : goal.returns-clause-others
returns-clause-others c = λ other at of different.
    ap (λ (s : Sources). write_of s other at of) (returns-clause-sources c)
    ∙ write-others c.args.self.now.sources c.args.node.0 other c.args.state at c.args.property of c.args.value different

pub returns-clause-kept : goal.returns-clause-kept
returns-clause-kept c = λ other at of within out. set-kept c.args.tree.now c.args.self.now _ c.args.node.0 c.args.property (unsets (goal.at.returns-clause-kept c).After-forget_written) other at of within out

pub returns-clause-kept_only : goal.returns-clause-kept_only
returns-clause-kept_only c = λ other at of k. set-only c.args.tree.now c.args.self.now _ c.args.node.0 c.args.property (unsets (goal.at.returns-clause-kept_only c).After-forget_written) other at of k

pub returns-clause-kept_others : goal.returns-clause-kept_others
returns-clause-kept_others c = λ other at of ne. set-others c.args.tree.now c.args.self.now _ c.args.node.0 c.args.property (unsets (goal.at.returns-clause-kept_others c).After-forget_written) other at of ne

pub returns-clause-owed : goal.returns-clause-owed
returns-clause-owed c = λ states end is_end. owed-more c.args.tree.now states states c.args.self.now _ c.args.node.0 c.requires.element (λ other ne. refl) (λ other at of within out. set-kept c.args.tree.now c.args.self.now _ c.args.node.0 c.args.property (unsets (goal.at.returns-clause-owed c).After-forget_written) other at of within out) end is_end

pub returns-clause-right : goal.returns-clause-right
returns-clause-right c = λ states right. set-right c.args.tree.now states c.args.self.now _ c.args.node.0 c.args.state c.args.property c.args.value (unsets (goal.at.returns-clause-right c).After-forget_written) (ap (λ (s : StylesState). s.kept.said) c.self.view_is)
    (ap length c.put.ensures ∙ length-set c.self.inside.writes (cell_place c.args.node.0 c.args.state c.args.property) (Some c.args.value) ∙ ap (λ (s : StylesState). length s.kept.written) c.self.view_is)
    refl (returns-clause-sources c) right
