use Rattle.std.proofs.Common.{arith, refl}
use Rattle.std.proofs.lemmas.Option.{slice_get_within}
use Rattle.es_reader.proofs.TreeLemmas.{grows-trans}
use Rattle.es_reader.proofs.BadLemmas.{handed, if-bad, first-stops-at, further-stops-at}
use Rattle.es_reader.proofs.DeclarationLemmas.{declarations-start, declarations-more}
use Rattle.es_reader.proofs.declarations.read_declarations.Goals as goal

pub declarations-init : goal.declarations-init
declarations-init c =
    let d = (c.in_ok-first.ensures {u = tt}).declared in
    record {
      grows = (c.in_ok-first.ensures {u = tt}).grows;
      are = declarations-start c.args.tokens.now c.args.place c.read_declaration.new.nodes c.args.names.now c.read_declaration.new.names c.in_ok-first.first c.in_ok-vec.field-0.items d.0 d.1 (c.in_ok-vec.ensures {u = tt}).items _ refl refl refl refl refl;
    }

pub read_declaration-requires-in-declarations : goal.read_declaration-requires-in-declarations
read_declaration-requires-in-declarations c =
    let m = c.is_mark_at.ensures.0 c.declarations-test.true in
    let l = slice_get_within c.args.tokens.now c.declarations.declared.behind m.0 m.1 in
    omega (arith, l)

pub declarations-preserved : goal.declarations-preserved
declarations-preserved c = record {
  grows = grows-trans c.args.nodes.now c.declarations.nodes c.read_declaration-in-declarations.new.nodes c.declarations.invariant.grows (c.in_ok-further.ensures {u = tt}).grows;
  are = declarations-more c.args.tokens.now c.args.place c.declarations.nodes c.read_declaration-in-declarations.new.nodes c.args.names.now c.declarations.names c.read_declaration-in-declarations.new.names c.declarations.declared _ c.in_ok-further.further
      c.declarations.invariant.are (c.is_mark_at.ensures.0 c.declarations-test.true) (c.in_ok-further.ensures {u = tt}).declared (c.in_ok-further.ensures {u = tt}).grows (c.in_ok-push.ensures {u = tt}).items c.higher.ensures refl refl refl;
}

pub returns-in_err-first-clause-bad : goal.returns-in_err-first-clause-bad
returns-in_err-first-clause-bad c = handed c.from_residual.result c.in_err-first.field-0.0 _ c.from_residual.ensures.1 (if-bad c.in_err-first.field-0.0 _ _ (first-stops-at c.args.tokens.now c.args.place) (c.in_err-first.ensures {u = tt}).bad)

pub returns-in_err-further-clause-bad : goal.returns-in_err-further-clause-bad
returns-in_err-further-clause-bad c =
    handed c.from_residual-in_err-further.result c.in_err-further.field-0.0 _ c.from_residual-in_err-further.ensures.1
    (if-bad c.in_err-further.field-0.0 _ _ (further-stops-at c.args.tokens.now c.args.place c.declarations.nodes c.args.names.now c.declarations.names c.declarations.declared c.declarations.invariant.are (c.is_mark_at.ensures.0 c.declarations-test.true)) (c.in_err-further.ensures {u = tt}).bad)
