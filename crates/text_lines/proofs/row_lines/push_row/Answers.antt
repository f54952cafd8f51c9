use Rattle.std.proofs.Common.{◌≡◌, ◌-◌, ◌++◌, ℤ, List, ℕ, FitsSigned, ap, ◌∙◌, append_assoc, codes, take, drop, rules}
use Rattle.std.specs.Int.{w128}
use Rattle.std.proofs.lemmas.Int.{to_z-of_z}
use Rattle.bml_bytes.specs.Codes.{bytes_of}
use Rattle.bml_bytes.specs.Escapes.{escaped}
use Rattle.bml_bytes.specs.declared.line_fields.Escapes.TheVariants.{Controls}
use Rattle.bml_bytes.specs.Numerals.{signed_decimal_digits}
use Rattle.text_lines.specs.RowLines.{row_line}
use Rattle.text_lines.proofs.row_lines.push_row.Goals as goal

-- three appends, one behind another, of which the second has four parts
parts : (old word x space y bytes one two three : List ℕ) → one ≡ old ++ word → two ≡ one ++ (x ++ space ++ y ++ space) → three ≡ two ++ bytes → three ≡ old ++ (word ++ x ++ space ++ y ++ space ++ bytes)
parts old word x space y bytes one two three first second third =
    third ∙ ap (λ (o : List ℕ). o ++ bytes) (second ∙ ap (λ (o : List ℕ). o ++ (x ++ space ++ y ++ space)) first) ∙ simp append_assoc

-- two numbers printed, which were handed on before
place : (out before : List ℕ) (x y left top : ℤ) → out ≡ before ++ (signed_decimal_digits x ++ codes " " ++ signed_decimal_digits y ++ codes " ") → x ≡ left → y ≡ top → out ≡ before ++ (signed_decimal_digits left ++ codes " " ++ signed_decimal_digits top ++ codes " ")
place out before x y left top e same-x same-y =
    e ∙ ap (λ (n : ℤ). before ++ (signed_decimal_digits n ++ codes " " ++ signed_decimal_digits y ++ codes " ")) same-x
    ∙ ap (λ (n : ℤ). before ++ (signed_decimal_digits left ++ codes " " ++ signed_decimal_digits n ++ codes " ")) same-y

bytes : (out before text row : List ℕ) → out ≡ before ++ escaped Controls (bytes_of text) → text ≡ row → out ≡ before ++ escaped Controls (bytes_of row)
bytes out before text row e same = e ∙ ap (λ (codes : List ℕ). before ++ escaped Controls (bytes_of codes)) same

pub returns-clause-line : goal.returns-clause-line
unfolding row_line
returns-clause-line c =
    let left : FitsSigned w128 c.row_left.result = search rules in
    let top : FitsSigned w128 c.row_top.result = search rules in
    let row = c.in_ok-codes.ensures {u = tt} ∙ ap (λ (text : List ℕ). take (c.args.row.end - c.args.row.start) (drop c.args.row.start text)) c.codes.ensures in
    parts c.args.out.now.items (codes "row ") _ (codes " ") _ _ c.push_word.new.out.items c.push_place.new.out.items c.push.new.out.items
    (c.in_ok-push_word.ensures {u = tt}).ok
    (place c.push_place.new.out.items c.push_word.new.out.items _ _ _ _ (c.in_ok-push_place.ensures {u = tt}).place (to_z-of_z w128 c.row_left.result left ∙ c.row_left.ensures) (to_z-of_z w128 c.row_top.result top ∙ c.row_top.ensures))
    (bytes c.push.new.out.items c.push_place.new.out.items _ _ (c.in_ok-push.ensures {u = tt}).ok row)
