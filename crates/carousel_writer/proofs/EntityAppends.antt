-- What was appended.
use Rattle.std.proofs.Common.{◌≡◌, ℕ, List, [], ◌∷◌, ◌++◌, sym, ◌∙◌, ap, append_assoc}
use Rattle.multipart_entities.specs.Lines.{line_then}
use Rattle.carousel_writer.proofs.BodyPlaces.{front-line}

pub three : (old m1 m2 m3 a b c : List ℕ) → m1 ≡ old ++ a → m2 ≡ m1 ++ b → m3 ≡ m2 ++ c → m3 ≡ old ++ (a ++ (b ++ c))
three old m1 m2 m3 a b c e f g =
    g ∙ (ap (λ l. l ++ c) (f ∙ ap (λ l. l ++ b) e) ∙ (append_assoc (old ++ a) b c ∙ append_assoc old a (b ++ c)))

pub quoted : (old m1 m2 m3 a b : List ℕ) → m1 ≡ old ++ a → m2 ≡ m1 ++ b → m3 ≡ m2 ++ (34 ∷ 13 ∷ 10 ∷ 13 ∷ 10 ∷ []) → m3 ≡ old ++ (a ++ ((b ++ 34 ∷ []) ++ (13 ∷ 10 ∷ 13 ∷ 10 ∷ [])))
quoted old m1 m2 m3 a b e f g =
    three old m1 m2 m3 a b (34 ∷ 13 ∷ 10 ∷ 13 ∷ 10 ∷ []) e f g ∙ ap (λ l. old ++ (a ++ l)) (sym (append_assoc b (34 ∷ []) (13 ∷ 10 ∷ 13 ∷ 10 ∷ [])))

pub part-pushed : (old m1 m2 m3 m4 a b items : List ℕ) → m1 ≡ old ++ line_then a [] → m2 ≡ m1 ++ line_then b [] → m3 ≡ m2 ++ line_then [] [] → m4 ≡ m3 ++ items → m4 ≡ old ++ line_then a (line_then b (line_then [] items))
part-pushed old m1 m2 m3 m4 a b items e f g h =
    sym (front-line old a (line_then b (line_then [] items))
    ∙ (ap (λ l. l ++ line_then b (line_then [] items)) (sym e)
    ∙ (front-line m1 b (line_then [] items)
    ∙ (ap (λ l. l ++ line_then [] items) (sym f)
    ∙ (front-line m2 [] items ∙ (ap (λ l. l ++ items) (sym g) ∙ sym h))))))

pub piece-pushed : (out new all line piece rest : List ℕ) → new ≡ out ++ line_then line (line_then piece []) → out ++ line_then line (line_then piece rest) ≡ all → new ++ rest ≡ all
piece-pushed out new all line piece rest e f =
    ap (λ l. l ++ rest) (e ∙ front-line out line (line_then piece []))
    ∙ (sym (front-line out line (line_then piece rest) ∙ front-line (out ++ line_then line []) piece rest) ∙ f)
