use Rattle.std.proofs.Common.{◌≡◌, ℕ, List, [], ◌∷◌, ◌∙◌, sym, ap, subst}
use Rattle.std.specs.Prelude.{codes as ascii}
use Rattle.std.specs.Option.{option_copied}
use Rattle.es_lexer.specs.ScannedElements.{NoCommentIn}
use Rattle.es_lexer.proofs.CodeLemmas.{stripped-is, no-comment}
use Rattle.es_lexer.proofs.elements.comment_or_mark.Goals as goal

pub block_comment-requires : goal.block_comment-requires
block_comment-requires c = λ u.
    let rest : List ℕ = c.in-Some-stripped.rest.now in
    let star : c.args.behind.now ≡ 42 ∷ rest = stripped-is (ascii "*") c.args.behind.now rest (sym c.stripped-2.ensures ∙ ap option_copied c.in-Some-stripped.is) in
    c.requires.left u [] rest (c.requires.slash ∙ ap (λ z. 47 ∷ z) star)

pub returns-in-None-block_comment-clause-left : goal.returns-in-None-block_comment-clause-left
returns-in-None-block_comment-clause-left c = λ u.
    let rest : List ℕ = c.in-Some-stripped.rest.now in
    let star : c.args.behind.now ≡ 42 ∷ rest = stripped-is (ascii "*") c.args.behind.now rest (sym c.stripped-2.ensures ∙ ap option_copied c.in-Some-stripped.is) in
    subst NoCommentIn (sym (c.requires.slash ∙ ap (λ z. 47 ∷ z) star)) (no-comment rest (c.block_comment.ensures.left u))
