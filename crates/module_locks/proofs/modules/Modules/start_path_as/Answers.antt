use Rattle.std.proofs.Common.{◌≡◌, ◌∙◌, Bool, true, false, cond, [], refl, ap}
use Rattle.std.specs.Prelude.{codes as ascii}
use Rattle.bml_bytes.specs.Codes.{codes}
use Rattle.multipart_entities.specs.declared.paths.Path.{Path}
use Rattle.module_store.specs.Resources.{start_component}
use Rattle.module_locks.proofs.modules.Modules.start_path_as.Goals as goal

-- the names are ASCII, so that their codes are their bytes
codes_of : (is_entity : Bool) → codes (cond is_entity (ascii "startup.bml") []) ≡ cond is_entity (ascii "startup.bml") []
unfolding codes
codes_of true = refl
codes_of false = refl

pub returns : goal.returns
returns c =
    ap (λ n. let path : Path = record { component = start_component; «module» = 0; name = n } in path)
    (c.in_ok-name.ensures ∙ ap (λ l. codes l) c.start_name.ensures ∙ codes_of c.args.is_entity)
