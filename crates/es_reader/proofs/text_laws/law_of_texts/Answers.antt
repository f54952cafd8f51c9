use Rattle.es_reader.proofs.TextLemmas.{TokenFacts, same-items, one-bad, never-bad, never-deep}
use Rattle.es_reader.proofs.text_laws.law_of_texts.Goals as goal

pub returns : goal.returns
returns c =
    let facts : TokenFacts = record {
      sources = c.law_of_sources.ensures;
      one_token_place = c.law_of_tokens.ensures.one_place;
      never_tokens = c.law_of_tokens.ensures.not_both;
      one_program = c.law_of_programs.ensures.one;
      never_program = c.law_of_programs.ensures.not_both;
      one_place = c.law_of_programs.ensures.one_place;
    } in
    record {
      program = λ text lexemes others items more a p b q. same-items facts text lexemes others items more a p b q;
      one_place = λ text place other b d. one-bad facts text place other b d;
      not_bad = λ text told place p b. never-bad facts text p.lexemes p.items place p.are p.is b;
      not_deep = λ text told p d. never-deep facts text told p d;
      deep_not_bad = λ text place d b. never-bad facts text d.lexemes d.items place d.are d.is b;
    }
