use Rattle.std.proofs.Common.{◌≡◌, Some, None, refl, subst, length}
use Rattle.std.specs.Prelude.{slice_get}
use Rattle.std.proofs.lemmas.Option.{slice_get_read, slice_get_past}
use Rattle.es_expressions.specs.Standings.{held, Moves}
use Rattle.es_expressions.specs.declared.places.Step.{Step}
use Rattle.es_expressions.proofs.StandLemmas.{grows-refl, grows-trans}
use Rattle.es_expressions.proofs.RangeLemmas.{starts-at, goes-on-at, stops-left, stops-end}
use Rattle.es_expressions.proofs.expressions.read_on.Goals as goal

pub tokens-init : goal.tokens-init
tokens-init c = record { grows = grows-refl c.args.nodes.now; is_at = starts-at c.args.base c.args.tokens.now c.args.start c.args.nodes.now c.args.frames.now c.requires.within c.requires.fresh }

pub returns-in-Left-clause-stops : goal.returns-in-Left-clause-stops
returns-in-Left-clause-stops c =
    let there : slice_get c.args.tokens.now c.tokens.«end» ≡ Some c.in-Some.token.now = slice_get_read c.args.tokens.now (length c.args.tokens.now) c.tokens.«end» c.in-Some.token.now refl (c.in-Some.ensures {u = tt}).lookup.3.0 (c.in-Some.ensures {u = tt}).lookup.1 in
    stops-left c.args.base c.args.tokens.now c.args.start c.tokens.«end» (held c.tokens.nodes c.tokens.frames) (held c.take.new.nodes c.take.new.frames) c.tokens.place c.in-Left.last c.in-Some.token.now c.tokens.invariant.is_at there
    (subst (λ (s : Step). Moves c.args.base c.tokens.place c.in-Some.token.now (held c.tokens.nodes c.tokens.frames) (held c.take.new.nodes c.take.new.frames) s) c.in-Left.is (c.in_ok-next.ensures {u = tt}).moves)

pub tokens-preserved : goal.tokens-preserved
tokens-preserved c =
    let there : slice_get c.args.tokens.now c.tokens.«end» ≡ Some c.in-Some.token.now = slice_get_read c.args.tokens.now (length c.args.tokens.now) c.tokens.«end» c.in-Some.token.now refl (c.in-Some.ensures {u = tt}).lookup.3.0 (c.in-Some.ensures {u = tt}).lookup.1 in
    record {
      grows = grows-trans c.args.nodes.now c.tokens.nodes c.take.new.nodes c.tokens.invariant.grows (c.in_ok-next.ensures {u = tt}).grows;
      is_at = goes-on-at c.args.base c.args.tokens.now c.args.start c.tokens.«end» (held c.tokens.nodes c.tokens.frames) (held c.take.new.nodes c.take.new.frames) c.tokens.place c.in-Taken.next c.in-Some.token.now c.tokens.invariant.is_at there
          (subst (λ (s : Step). Moves c.args.base c.tokens.place c.in-Some.token.now (held c.tokens.nodes c.tokens.frames) (held c.take.new.nodes c.take.new.frames) s) c.in-Taken.is (c.in_ok-next.ensures {u = tt}).moves);
    }

pub returns-clause-stops : goal.returns-clause-stops
returns-clause-stops c =
    let none : slice_get c.args.tokens.now c.tokens.«end» ≡ None = slice_get_past c.args.tokens.now c.tokens.«end» (c.in_default.ensures {u = tt}).lookup.3 in
    stops-end c.args.base c.args.tokens.now c.args.start c.tokens.«end» (held c.tokens.nodes c.tokens.frames) c.tokens.place c.tokens.invariant.is_at none
