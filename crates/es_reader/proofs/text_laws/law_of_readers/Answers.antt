use Rattle.std.proofs.Common.{inl, inr}
use Rattle.es_reader.proofs.TextLemmas.{TokenFacts}
use Rattle.es_reader.proofs.ReaderLemmas.{said-program, said-none, said-alike, each-text}
use Rattle.es_reader.proofs.text_laws.law_of_readers.Goals as goal

pub returns : goal.returns
returns c =
    let facts : TokenFacts = record {
      sources = c.law_of_sources.ensures;
      one_token_place = c.law_of_tokens.ensures.one_place;
      never_tokens = c.law_of_tokens.ensures.not_both;
      one_program = c.law_of_programs.ensures.one;
      never_program = c.law_of_programs.ensures.not_both;
      one_place = c.law_of_programs.ensures.one_place;
    } in
    record {
      program = λ read text told r p. said-program facts read text told r p;
      deep = λ read text r d. said-none facts read text r (inl d);
      bad = λ read text place r b. said-none facts read text r (inr (place, b));
      one = λ read other text r q. said-alike facts read other text r q;
      each = λ text. each-text text (c.law_of_spans.ensures text) (c.law_of_tokens.ensures.either text) c.law_of_reading.ensures;
    }
