use Rattle.std.proofs.Common.{ℕ, ap, subst}
use Rattle.style_reader.specs.declared.properties.Property.TheVariants.{ColorIndex, FontSize, Visibility}
use Rattle.style_cascade.specs.Keeping.{StylesState}
use Rattle.style_cascade.specs.devices.Kept.{ForgetsBelow}
use Rattle.style_cascade.proofs.ForgetLemmas.{Touches, touches}
use Rattle.style_cascade.proofs.SetLemmas.{owed-more, touch-kept, touch-only, touch-right, touched-here, touched-others}
use Rattle.style_cascade.proofs.styles.Styles.touch.Goals as goal
use Rattle.style_cascade.proofs.styles.Styles.touch.Goals.{After-forget_below-3}

touched : (c : After-forget_below-3) → Touches c.args.tree.now c.args.self.now.kept.values c.forget_below-3.new.values c.args.node.0
touched c =
    subst (λ (s : StylesState). Touches c.args.tree.now s.kept.values c.forget_below-3.new.values c.args.node.0) c.self.view_is
    (touches c.args.tree.now c.self.inside.values c.forget_below.new.values c.forget_below-2.new.values c.forget_below-3.new.values c.args.node.0
    c.forget_below.ensures.long c.forget_below-2.ensures.long c.forget_below-3.ensures.long
    (subst (λ (n : ℕ). ForgetsBelow c.args.tree.now c.self.inside.values c.forget_below.new.values c.args.node.0 Visibility n) c.number_behind-behind.ensures c.forget_below.ensures.column)
    (subst (λ (n : ℕ). ForgetsBelow c.args.tree.now c.forget_below.new.values c.forget_below-2.new.values c.args.node.0 ColorIndex n) c.number_behind-behind.ensures c.forget_below-2.ensures.column)
    (subst (λ (n : ℕ). ForgetsBelow c.args.tree.now c.forget_below-2.new.values c.forget_below-3.new.values c.args.node.0 FontSize n) c.number_behind-behind.ensures c.forget_below-3.ensures.column)
    c.forget_below.ensures.others c.forget_below-2.ensures.others c.forget_below-3.ensures.others)

pub returns-clause-kept : goal.returns-clause-kept
returns-clause-kept c = λ other at of within out. touch-kept c.args.tree.now c.args.self.now _ c.args.node.0 (touched (goal.at.returns-clause-kept c).After-forget_below-3) other at of within out

pub returns-clause-kept_only : goal.returns-clause-kept_only
returns-clause-kept_only c = λ other at of k. touch-only c.args.tree.now c.args.self.now _ c.args.node.0 (touched (goal.at.returns-clause-kept_only c).After-forget_below-3) other at of k

pub returns-clause-kept_here : goal.returns-clause-kept_here
returns-clause-kept_here c = λ at of. touched-here c.args.tree.now c.args.self.now _ c.args.node.0 (touched (goal.at.returns-clause-kept_here c).After-forget_below-3) at of

pub returns-clause-kept_others : goal.returns-clause-kept_others
returns-clause-kept_others c = λ other at of h. touched-others c.args.tree.now c.args.self.now _ c.args.node.0 (touched (goal.at.returns-clause-kept_others c).After-forget_below-3) other at of h

pub returns-clause-owed : goal.returns-clause-owed
returns-clause-owed c = λ before after end is_end same. owed-more c.args.tree.now before after c.args.self.now _ c.args.node.0 c.requires same (λ other at of within out. touch-kept c.args.tree.now c.args.self.now _ c.args.node.0 (touched (goal.at.returns-clause-owed c).After-forget_below-3) other at of within out) end is_end

pub returns-clause-right : goal.returns-clause-right
returns-clause-right c = λ before after same right. touch-right c.args.tree.now before after c.args.self.now _ c.args.node.0 (touched (goal.at.returns-clause-right c).After-forget_below-3) (ap (λ (s : StylesState). s.kept.said) c.self.view_is) (ap (λ (s : StylesState). s.kept.written) c.self.view_is) (ap (λ (s : StylesState). s.sources) c.self.view_is) same right
