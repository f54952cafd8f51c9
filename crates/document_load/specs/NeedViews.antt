-- A device of the proofs: what the reader of needs keeps.
use Rattle.std.specs.Prelude.{◌≡◌, codes}
use Rattle.document_load.specs.declared.needs.AttributeNames.{AttributeNames}

-- the names of the attributes that name resources
pub record AreNames (names : AttributeNames) : Type 0 where
  pub of_link : names.href ≡ codes "href"
  pub of_script : names.src ≡ codes "src"
