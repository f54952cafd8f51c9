use Rattle.std.proofs.Common.{◌≡◌, ◌∙◌, true, false, cond, List, [], ℕ, Bool, Option, Some, None, refl, ap}
use Rattle.std.specs.Prelude.{codes as ascii}
use Rattle.bml_bytes.specs.Codes.{codes}
use Rattle.multipart_entities.specs.declared.paths.Path.{Path}
use Rattle.module_store.specs.Resources.{holds_entity, start_component, start_name}
use Rattle.module_store.proofs.store.Store.start_path.Goals as goal

-- the names are ASCII, so that their codes are their bytes
start_codes : codes (ascii "startup.bml") ≡ ascii "startup.bml"
unfolding codes
start_codes = refl

no_codes : codes [] ≡ []
unfolding codes
no_codes = refl

codes_of : (info : Option (List ℕ)) → codes (start_name info) ≡ start_name info
codes_of None = start_codes
codes_of (Some info) = by_test (holds_entity info)
  where
    by_test : (b : Bool) → codes (cond b (ascii "startup.bml") []) ≡ cond b (ascii "startup.bml") []
    by_test true = start_codes
    by_test false = no_codes

pub returns : goal.returns
returns c = λ stored stands.
    let name = c.in_ok-name.ensures ∙ ap (λ l. codes l) (c.start_name.ensures ∙ ap (λ o. start_name o) (c.start_info.ensures stored stands)) ∙ codes_of _ in
    ap (λ n. let path : Path = record { component = start_component; «module» = 0; name = n } in path) name
