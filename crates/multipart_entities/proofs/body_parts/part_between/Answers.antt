use Rattle.std.proofs.Common.{◌≡◌, ◌+◌, ◌≤◌, List, ℕ, Some, None, sym, ap, ◌∙◌, ⊎_elim, arith}
use Rattle.std.specs.Prelude.{option_map, option_and_then}
use Rattle.std.specs.List.{slice_range}
use Rattle.multipart_entities.specs.HeadViews.{HeadValues, good_head, part_name_by, seen_head}
use Rattle.multipart_entities.specs.PartViews.{part_by}
use Rattle.multipart_entities.proofs.BodyPartLemmas.{between-head_values, between-none}
use Rattle.multipart_entities.proofs.body_parts.part_between.Goals as goal

pub returns-in_default-clause-part : goal.returns-in_default-clause-part
returns-in_default-clause-part c = λ inside.
    let bytes : List ℕ = c.args.bytes.now in
    let past : c.args.end ≤ c.args.start = ⊎_elim (λ h. omega (arith, h)) (λ h. omega (arith, h, inside)) ((c.in_default.ensures {u = tt}).lookup.0) in
    sym (between-none bytes c.args.start c.args.end past)

pub returns-in_default-read_head-clause-part : goal.returns-in_default-read_head-clause-part
returns-in_default-read_head-clause-part c = λ inside.
    let bytes : List ℕ = c.args.bytes.now in
    let start : ℕ = c.args.start in
    let end : ℕ = c.args.end in
    let body_part : c.in-Some.body_part.now ≡ slice_range bytes start end = ((c.in-Some.ensures {u = tt}).lookup.0).2 in
    let none : good_head c.in-Some.body_part.now ≡ None = sym c.read_head.ensures.head ∙ ap (option_map seen_head) c.in_default-read_head.is in
    sym (between-head_values bytes start end ∙ ap (option_and_then (part_by start end)) (ap good_head (sym body_part) ∙ none))

pub returns-in-Some-2-clause-part : goal.returns-in-Some-2-clause-part
returns-in-Some-2-clause-part c = λ inside.
    let bytes : List ℕ = c.args.bytes.now in
    let start : ℕ = c.args.start in
    let end : ℕ = c.args.end in
    let head : HeadValues = seen_head c.in-Some-read_head.head in
    let body_part : c.in-Some.body_part.now ≡ slice_range bytes start end = ((c.in-Some.ensures {u = tt}).lookup.0).2 in
    let some : good_head c.in-Some.body_part.now ≡ Some head = sym c.read_head.ensures.head ∙ ap (option_map seen_head) c.in-Some-read_head.is in
    let name : part_name_by head ≡ Some c.in-Some-2.name = sym (c.in_ok-name.ensures {u = tt}) ∙ c.in-Some-2.is in
    sym (between-head_values bytes start end ∙ (ap (option_and_then (part_by start end)) (ap good_head (sym body_part) ∙ some) ∙ ap (option_map (λ name. record { name = name; start = start + head.size; end = end })) name))

pub returns-in-None-clause-part : goal.returns-in-None-clause-part
returns-in-None-clause-part c = λ inside.
    let bytes : List ℕ = c.args.bytes.now in
    let start : ℕ = c.args.start in
    let end : ℕ = c.args.end in
    let head : HeadValues = seen_head c.in-Some-read_head.head in
    let body_part : c.in-Some.body_part.now ≡ slice_range bytes start end = ((c.in-Some.ensures {u = tt}).lookup.0).2 in
    let some : good_head c.in-Some.body_part.now ≡ Some head = sym c.read_head.ensures.head ∙ ap (option_map seen_head) c.in-Some-read_head.is in
    let name : part_name_by head ≡ None = sym (c.in_ok-name.ensures {u = tt}) ∙ c.in-None.is in
    sym (between-head_values bytes start end ∙ (ap (option_and_then (part_by start end)) (ap good_head (sym body_part) ∙ some) ∙ ap (option_map (λ name. record { name = name; start = start + head.size; end = end })) name))
