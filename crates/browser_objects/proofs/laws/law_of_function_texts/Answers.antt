use Rattle.browser_objects.proofs.FunctionLemmas.{calls-of, read-of}
use Rattle.browser_objects.proofs.laws.law_of_function_texts.Goals as goal

pub returns : goal.returns
returns c = λ name text. (calls-of c.law_of_same_texts.ensures name text, read-of c.law_of_same_texts.ensures name text)
