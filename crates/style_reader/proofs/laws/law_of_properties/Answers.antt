use Rattle.style_reader.proofs.NameLaws.{name_of-one, named-by_name, script_name_of-one}
use Rattle.style_reader.proofs.laws.law_of_properties.Goals as goal

pub returns-clause-names : goal.returns-clause-names
returns-clause-names c = name_of-one

pub returns-clause-script_names : goal.returns-clause-script_names
returns-clause-script_names c = script_name_of-one

pub returns-clause-found : goal.returns-clause-found
returns-clause-found c = named-by_name
