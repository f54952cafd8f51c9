use Rattle.es_reader.proofs.TextLemmas.{bad-in-text}
use Rattle.es_reader.proofs.sources.read_program.Goals as goal

pub returns-clause-bad : goal.returns-clause-bad
returns-clause-bad c = λ place e. bad-in-text c.args.text.now c.in_ok-lexemes.lexemes.items c.as_slice.result.now c.as_slice-in-Bad.result.now c.in-Bad.at place c.in_ok-lexemes.ensures.ok c.as_slice.ensures.value c.as_slice-in-Bad.ensures.value (c.in_ok-program.ensures.bad c.in-Bad.at c.in-Bad.is) (cc (e, c.place_in_text-place.ensures))
