use Rattle.std.proofs.Common.{◌≡◌, ◌+◌, ◌-◌, List, [], ◌∷◌, ℕ, length, Option, Some, Bor, ◌∙◌, sym, ap, subst, arith}
use Rattle.std.specs.Prelude.{option_map, IfSome}
use Rattle.std.specs.Option.{option_copied, option_map_or}
use Rattle.multipart_entities.specs.Lines.{lines_of}
use Rattle.multipart_entities.specs.HeadViews.{HeadValues, good_head, header_in, seen_head, seen_header}
use Rattle.multipart_entities.proofs.LineLemmas.{nothing-left, something-left}
use Rattle.multipart_entities.proofs.HeadLemmas.{of_size, onto, head-empty, head-more}
use Rattle.multipart_entities.proofs.heads.read_head.Goals as goal

pub returns-then-is_empty-clause-head : goal.returns-then-is_empty-clause-head
returns-then-is_empty-clause-head c =
    let bytes : List ℕ = c.args.bytes.now in
    let rest : List ℕ = c.lines.rest.now in
    let more : List ℕ = c.in_ok-rest.rest.now in
    let line : List ℕ = c.next_line.result.0.now in
    let was : c.next_line.result.1 ≡ Some c.in_ok-rest.rest = c.in_ok-rest.was {u = tt} in
    let empty : line ≡ [] = nothing-left line (sym c.is_empty.ensures ∙ c.if-is_empty.true) in
    let lines : lines_of rest ≡ [] ∷ lines_of more = c.next_line.ensures.lines ∙ (ap (λ o. line ∷ option_map_or lines_of (option_copied o) []) was ∙ ap (λ l. l ∷ lines_of more) empty) in
    let size : length line + 2 + length more ≡ length rest = subst (λ (o : Option (Bor (List ℕ))). IfSome (option_copied o) (λ r. length line + 2 + length r ≡ length rest)) was c.next_line.ensures.size in
    let none : length line ≡ 0 = ap length empty in
    let head = of_size (length bytes - length rest) (seen_head c.lines.head) in
    sym (head-empty bytes rest more head (length bytes - length more) c.lines.invariant.0 lines (omega (arith, size, none)))

pub lines-preserved : goal.lines-preserved
lines-preserved c =
    let bytes : List ℕ = c.args.bytes.now in
    let rest : List ℕ = c.lines.rest.now in
    let more : List ℕ = c.in_ok-rest.rest.now in
    let line : List ℕ = c.next_line.result.0.now in
    let was : c.next_line.result.1 ≡ Some c.in_ok-rest.rest = c.in_ok-rest.was {u = tt} in
    let lines : lines_of rest ≡ line ∷ lines_of more = c.next_line.ensures.lines ∙ ap (λ o. line ∷ option_map_or lines_of (option_copied o) []) was in
    let size : length line + 2 + length more ≡ length rest = subst (λ (o : Option (Bor (List ℕ))). IfSome (option_copied o) (λ r. length line + 2 + length r ≡ length rest)) was c.next_line.ensures.size in
    let left : length line ≡ 0 → ⊥ = something-left line (sym c.is_empty.ensures ∙ c.if-is_empty.false) in
    let header = seen_header c.in_ok-read_header.field-0 in
    let is : header_in line ≡ Some header = sym c.read_header.ensures ∙ ap (option_map seen_header) (c.in_ok-read_header.was {u = tt}) in
    let head : HeadValues = of_size (length bytes - length rest) (seen_head c.lines.head) in
    let n : ℕ = length bytes - length more in
    (head-more bytes rest more line head header n c.lines.invariant.0 lines left is (omega (arith, size)) ∙ ap (λ k. option_map (onto (of_size n k)) (good_head more)) (sym c.with-head.ensures), omega (arith, size))
