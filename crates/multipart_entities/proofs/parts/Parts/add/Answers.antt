use Rattle.std.proofs.Common.{◌≡◌, true, cond, nat_eq, None, [], ◌∷◌, ◌++◌, sym, ap, ◌∙◌}
use Rattle.std.specs.Prelude.{is_some}
use Rattle.std.specs.Cmp.Lexicographic.{pointwise}
use Rattle.std.specs.HashMap.{get}
use Rattle.multipart_entities.specs.Parts.{place_of}
use Rattle.multipart_entities.specs.PartViews.{with_part}
use Rattle.multipart_entities.proofs.NameLemmas.{entries-last, get-place_of, none-some}
use Rattle.multipart_entities.proofs.parts.Parts.add.Goals as goal

pub returns-in_ok-insert : goal.returns-in_ok-insert
returns-in_ok-insert c =
    let part = c.args.part in
    let old = c.self.inside.places in
    let absent : get (pointwise nat_eq) old part.name ≡ None = none-some (get (pointwise nat_eq) old part.name) (sym c.contains_key.ensures ∙ c.if-not-contains_key.true) in
    entries-last old c.insert.new.self part absent c.in_ok-insert.ensures.entries ∙ ap (λ parts. with_part parts part) c.self.view_is

pub returns-else-not-contains_key : goal.returns-else-not-contains_key
returns-else-not-contains_key c =
    let part = c.args.part in
    let parts = c.args.self.now in
    let had : is_some (place_of part.name parts) ≡ true = sym (ap is_some (get-place_of c.self.inside.places part.name ∙ ap (place_of part.name) c.self.view_is)) ∙ (sym c.contains_key.ensures ∙ c.if-not-contains_key.false) in
    sym (ap (λ b. cond b parts (parts ++ part ∷ [])) had)
