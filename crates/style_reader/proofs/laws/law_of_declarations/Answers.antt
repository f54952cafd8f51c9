use Rattle.style_reader.proofs.DeclarationLaws.{declaration-read, declaration-spelled}
use Rattle.style_reader.proofs.laws.law_of_declarations.Goals as goal

pub returns : goal.returns
returns c = λ declaration text. (declaration-read declaration text, declaration-spelled declaration text)
