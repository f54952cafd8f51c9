use Rattle.std.proofs.Common.{List, Option, length, refl, sym, ap, ◌∙◌, ◌*◌}
use Rattle.std.specs.Prelude.{is_some}
use Rattle.style_reader.specs.declared.properties.StyleValue.{StyleValue}
use Rattle.style_reader.specs.declared.rules.Rule.{Rule}
use Rattle.style_cascade.specs.Cascade.{Sources, said_value, write_of}
use Rattle.style_cascade.specs.Keeping.{IsRight, is_kept}
use Rattle.style_cascade.proofs.OwedLemmas.{owed-few}
use Rattle.style_cascade.proofs.WriteLemmas.{sources-unwritten}
use Rattle.style_cascade.proofs.styles.Styles.new.Goals as goal

pub returns-clause-sources : goal.returns-clause-sources
returns-clause-sources c = sources-unwritten _ c.args.rules c.in_ok-tables.tables.writes (51 * length c.args.tree.now) (c.into_rules.ensures ∙ c.in_ok-sheet.ensures {u = tt}) (c.in_ok-tables.ensures {u = tt}).unwritten

pub returns-clause-unwritten : goal.returns-clause-unwritten
returns-clause-unwritten c = λ node state property. ap (λ (s : Sources). write_of s node state property) (returns-clause-sources c)

pub returns-clause-unkept : goal.returns-clause-unkept
unfolding is_kept
returns-clause-unkept c = λ node state property. ap (λ (o : Option StyleValue). is_some o) ((c.in_ok-tables.ensures {u = tt}).unkept node state property)

pub returns-clause-owed : goal.returns-clause-owed
returns-clause-owed c = λ states. owed-few c.args.tree.now states _

pub returns-clause-right : goal.returns-clause-right
unfolding IsRight
returns-clause-right c = λ states.
    record {
      room = (c.in_ok-tables.ensures {u = tt}).room;
      room_kept = (c.in_ok-tables.ensures {u = tt}).room_kept;
      writes = refl;
      said = λ node state property within. (c.in_ok-tables.ensures {u = tt}).said node state property within ∙ ap (λ (rules : List Rule). said_value c.args.tree.now rules node state property) (sym c.into_rules.ensures);
      values = λ node state property value e. absurd (cc (sym ((c.in_ok-tables.ensures {u = tt}).unkept node state property) ∙ e));
      paths = c.law_of_paths.ensures.step c.args.tree.now (c.in_ok-tables.ensures {u = tt}).tree;
      parents = λ node up e. ((c.law_of_parents.ensures.before c.args.tree.now (c.in_ok-tables.ensures {u = tt}).tree node up e).0, c.law_of_parents.ensures.within c.args.tree.now node up e);
    }
