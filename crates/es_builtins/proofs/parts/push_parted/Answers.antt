use Rattle.std.proofs.Common.{◌≡◌, ◌∙◌, ◌+◌, length, sym, arith}
use Rattle.std.specs.Prelude.{Some, None}
use Rattle.std.proofs.lemmas.List.{length-drop, take_rest}
use Rattle.es_builtins.specs.Texts.{first_place}
use Rattle.es_builtins.proofs.PartLemmas.{all_parts-none, parted-last, parted-next}
use Rattle.es_builtins.proofs.parts.push_parted.Goals as goal

pub overflow_add-rest : goal.overflow_add-rest
overflow_add-rest c = omega (arith, (c.in-Some.ensures {u = tt}).within, c.places.invariant.shorter)

pub offset_bounds-rest-place : goal.offset_bounds-rest-place
offset_bounds-rest-place c = omega (arith, (c.in-Some.ensures {u = tt}).within, c.places.invariant.shorter)

pub places-preserved : goal.places-preserved
places-preserved c =
    let rest = c.places.rest.now in
    let behind = c.in-Some.place + length c.args.separator.now in
    let found : first_place c.args.separator.now rest 0 ≡ Some c.in-Some.place = sym (c.in-Some.ensures {u = tt}).place in
    record {
      parted =
          parted-next c.args.separator.now rest _ c.in-Some.place c.places.parts.items c.push_part.new.parts.items c.requires.some found (take_rest rest behind) (c.in_ok-push_part.ensures {u = tt})
          ∙ c.places.invariant.parted;
      shorter = simp (take_rest, length-drop) (omega arith);
    }

pub returns : goal.returns
returns c =
    let none : first_place c.args.separator.now c.places.rest.now 0 ≡ None = sym (c.in_default.ensures {u = tt}).place in
    parted-last c.push_part-2.result c.args.separator.now c.args.text.now c.places.rest.now c.args.parts.now.items c.places.parts.items c.push_part-2.new.parts.items (all_parts-none c.args.separator.now c.places.rest.now none) c.push_part-2.ensures c.places.invariant.parted
