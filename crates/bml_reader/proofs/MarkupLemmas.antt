-- Pieces are found where they are spelled, and what is found is spelled there.
use Rattle.std.proofs.Common.{◌≡◌, ℕ, suc, ◌<◌, Bool, true, false, cond, inl, inr, List, [], ◌∷◌, ◌++◌, length, Option, Some, None, refl, sym, ◌∙◌, ap, subst, arith, append_assoc}
use Rattle.std.specs.Prelude.{◌==◌, option_map, option_and_then, codes as ascii}
use Rattle.std.specs.List.{list_all}
use Rattle.std.proofs.lemmas.Bool.{eqb-true}
use Rattle.std.proofs.lemmas.Bool.Decides.{nat_tests}
use Rattle.std.proofs.lemmas.List.{length-append}
use Rattle.bml_bytes.specs.Codes.{codes}
use Rattle.dom_tree.specs.Items.{Attribute}
use Rattle.bml_reader.specs.Bytes.{front, behind, behind_mark, is_white, is_letter, is_digit, is_name_start, is_name_byte, is_name, is_text_byte, is_doctype_byte}
use Rattle.bml_reader.specs.Markup.{Markup, IsWhite, SpellsAttributes, NamesDiffer, tag_end, IsStartTag, IsEndTag, IsRun, EndsText, EndsAtFirst, IsMarked, IsRemark, IsDoctype, IsMarkup}
use Rattle.bml_reader.specs.Markup.Markup.{StartTag, EndTag, Run, Cdata, Remark, Doctype}
use Rattle.bml_reader.specs.devices.Lexing.{Found, found, Inner, name_at, inner_at, up_to, start_tag_of_name, start_tag_at, end_tag_of_name, end_tag_at, comment_at, instruction_at, cdata_at, doctype_at, declaration_at, bracketed_at, markup_at}
use Rattle.bml_reader.proofs.ByteLemmas.{both, some-same, Ends, front-cons, front-run, behind-run, front-behind, front-all, behind-ends, behind_mark-is, UpTo, up_to-first, up_to-is, mapped, chained}
use Rattle.bml_reader.proofs.TagLemmas.{white-no-name, ends-white, ends-tag_end, name_at-name, name_at-is, spells-length, inner_at-spelled, InnerAt, inner_at-is}

-- Bytes

start-no-mark : (b : ℕ) → is_name_start b ≡ true → ((b == 47) ≡ false) × ((b == 33) ≡ false) × ((b == 63) ≡ false)
unfolding is_name_start is_letter
start-no-mark b e = (grind (arith, nat_tests), grind (arith, nat_tests), grind (arith, nat_tests))

text-no-mark : (b : ℕ) → is_text_byte b ≡ true → (b == 60) ≡ false
unfolding is_text_byte
text-no-mark b e = by (b == 60) e
  where
    by : (t : Bool) → cond t false true ≡ true → t ≡ false
    by true e = absurd (cc e)
    by false e = refl

no-mark-text : (b : ℕ) → (b == 60) ≡ false → is_text_byte b ≡ true
unfolding is_text_byte
no-mark-text b e = rw e refl

ends-text : (more : List ℕ) → EndsText more → Ends is_text_byte more
ends-text [] h = tt
ends-text (b ∷ more) h = h

text-ends : (more : List ℕ) → Ends is_text_byte more → EndsText more
text-ends [] h = tt
text-ends (b ∷ more) h = h

white-gt : (x : List ℕ) → Ends is_white (62 ∷ x)
unfolding is_white
white-gt x = refl

name-gt : (x : List ℕ) → Ends is_name_byte (62 ∷ x)
unfolding is_name_byte is_name_start is_letter is_digit
name-gt x = refl

doctype-gt : (x : List ℕ) → Ends is_doctype_byte (62 ∷ x)
unfolding is_doctype_byte
doctype-gt x = refl

ends-inner : (attributes : List Attribute) (inner x : List ℕ) → SpellsAttributes attributes inner → Ends is_name_byte x → Ends is_name_byte (inner ++ x)
ends-inner [] inner x h e = subst (λ z. Ends is_name_byte (z ++ x)) (sym h) e
ends-inner (a ∷ attributes) inner x (first, more, q, h, m) e =
    subst (λ z. Ends is_name_byte (z ++ x)) (sym (q ∙ ap (λ z. z ++ more) h.end_to_end)) (white-no-name h.first (both (is_white h.first) (list_all is_white h.before) h.whites.0).0)

-- Dispatch

markup_at-bracketed : (l : List ℕ) → markup_at (60 ∷ l) ≡ bracketed_at l
unfolding markup_at
markup_at-bracketed l = refl

other-way : (t : Bool) (x y : Option (Found Markup)) → t ≡ false → cond t x y ≡ y
other-way true x y e = absurd (cc e)
other-way false x y e = refl

markup_at-run : (b : ℕ) (l : List ℕ) → (b == 60) ≡ false → markup_at (b ∷ l) ≡ Some (found (Run (front is_text_byte (b ∷ l))) (behind is_text_byte (b ∷ l)))
unfolding markup_at
markup_at-run b l e = other-way (b == 60) (bracketed_at l) (Some (found (Run (front is_text_byte (b ∷ l))) (behind is_text_byte (b ∷ l)))) e

bracketed_at-end : (l : List ℕ) → bracketed_at (47 ∷ l) ≡ end_tag_at l
unfolding bracketed_at
bracketed_at-end l = refl

bracketed_at-declaration : (l : List ℕ) → bracketed_at (33 ∷ l) ≡ declaration_at l
unfolding bracketed_at
bracketed_at-declaration l = refl

bracketed_at-instruction : (l : List ℕ) → bracketed_at (63 ∷ l) ≡ instruction_at l
unfolding bracketed_at
bracketed_at-instruction l = refl

bracketed_at-name : (name x : List ℕ) → is_name name ≡ true → bracketed_at (name ++ x) ≡ start_tag_at (name ++ x)
unfolding bracketed_at
bracketed_at-name [] x h = absurd (cc h)
bracketed_at-name (c ∷ cs) x h =
    let s = start-no-mark c (both (is_name_start c) (list_all is_name_byte cs) h).0 in
    rw (s.0, s.1, s.2) refl

declaration_at-comment : (l : List ℕ) → declaration_at (45 ∷ 45 ∷ l) ≡ comment_at l
unfolding declaration_at
declaration_at-comment l = refl

declaration_at-cdata : (l : List ℕ) → declaration_at (ascii "[CDATA[" ++ l) ≡ cdata_at l
unfolding declaration_at
declaration_at-cdata l = refl

declaration_at-doctype : (l : List ℕ) → declaration_at (ascii "DOCTYPE" ++ l) ≡ doctype_at l
unfolding declaration_at
declaration_at-doctype l = refl

-- Each kind of piece, where it is spelled

start_tag-found : (name inner white more tag : List ℕ) (attributes : List Attribute) (e : Bool) → is_name name ≡ true → tag ≡ codes name → SpellsAttributes attributes inner → IsWhite white → NamesDiffer [] attributes → start_tag_at (name ++ (inner ++ (white ++ (tag_end e ++ more)))) ≡ Some (found (StartTag tag attributes e) more)
unfolding start_tag_at start_tag_of_name
start_tag-found name inner white more tag attributes e n t s w d =
    let rest = inner ++ (white ++ (tag_end e ++ more)) in
    let few : length attributes < suc (length rest) = omega (arith, spells-length attributes inner s, length-append inner (white ++ (tag_end e ++ more))) in
    let f : List ℕ → Found Inner → Found Markup = λ g i. found (StartTag g i.it.attributes i.it.is_empty) i.rest in
    let name_is : name_at (name ++ rest) ≡ Some (found name rest) = name_at-name name rest n (ends-inner attributes inner (white ++ (tag_end e ++ more)) s (ends-white white (tag_end e ++ more) w (ends-tag_end e more))) in
    ap (option_and_then start_tag_of_name) name_is
    ∙ (ap (option_map (f (codes name))) (inner_at-spelled attributes [] inner white more e (suc (length rest)) s w d few)
    ∙ ap (λ z. Some (found (StartTag z attributes e) more)) (sym t))

start_tag-markup : (tag : List ℕ) (attributes : List Attribute) (e : Bool) (s more : List ℕ) → IsStartTag tag attributes e s → markup_at (s ++ more) ≡ Some (found (StartTag tag attributes e) more)
start_tag-markup tag attributes e s more h =
    let same : s ++ more ≡ 60 ∷ (h.name ++ (h.inner ++ (h.white ++ (tag_end e ++ more)))) = ap (λ z. z ++ more) h.end_to_end ∙ simp append_assoc in
    ap markup_at same
    ∙ (markup_at-bracketed (h.name ++ (h.inner ++ (h.white ++ (tag_end e ++ more))))
    ∙ (bracketed_at-name h.name (h.inner ++ (h.white ++ (tag_end e ++ more))) h.is_named
    ∙ start_tag-found h.name h.inner h.white more tag attributes e h.is_named h.tag_is h.inside h.is_white h.differ))

end_tag-found : (name white more tag : List ℕ) → is_name name ≡ true → tag ≡ codes name → IsWhite white → end_tag_at (name ++ (white ++ (62 ∷ more))) ≡ Some (found (EndTag tag) more)
unfolding end_tag_at end_tag_of_name
end_tag-found name white more tag n t w =
    ap (option_and_then end_tag_of_name) (name_at-name name (white ++ (62 ∷ more)) n (ends-white white (62 ∷ more) w (name-gt more)))
    ∙ (ap (λ z. option_map (found (EndTag (codes name))) (behind_mark (ascii ">") z)) (behind-run is_white white (62 ∷ more) w (white-gt more))
    ∙ ap (λ z. Some (found (EndTag z) more)) (sym t))

end_tag-markup : (tag s more : List ℕ) → IsEndTag tag s → markup_at (s ++ more) ≡ Some (found (EndTag tag) more)
end_tag-markup tag s more h =
    let same : s ++ more ≡ 60 ∷ 47 ∷ (h.name ++ (h.white ++ (62 ∷ more))) = ap (λ z. z ++ more) h.end_to_end ∙ simp append_assoc in
    ap markup_at same
    ∙ (markup_at-bracketed (47 ∷ (h.name ++ (h.white ++ (62 ∷ more))))
    ∙ (bracketed_at-end (h.name ++ (h.white ++ (62 ∷ more)))
    ∙ end_tag-found h.name h.white more tag h.is_named h.tag_is h.is_white))

run-markup : (bytes s more : List ℕ) → IsRun bytes s more → markup_at (s ++ more) ≡ Some (found (Run bytes) more)
run-markup [] s more h = absurd (h.some refl)
run-markup (b ∷ bytes) s more h =
    let text = both (is_text_byte b) (list_all is_text_byte bytes) h.made_of in
    let e = ends-text more h.whole in
    let f : List ℕ → List ℕ → Option (Found Markup) = λ x y. Some (found (Run x) y) in
    ap (λ z. markup_at (z ++ more)) h.is_it
    ∙ (markup_at-run b (bytes ++ more) (text-no-mark b text.0)
    ∙ (ap (λ x. f x (behind is_text_byte (b ∷ (bytes ++ more)))) (front-run is_text_byte (b ∷ bytes) more h.made_of e)
    ∙ ap (f (b ∷ bytes)) (behind-run is_text_byte (b ∷ bytes) more h.made_of e)))

marked-same : (opening bytes closing s more : List ℕ) → IsMarked opening bytes closing s → s ++ more ≡ opening ++ (bytes ++ (closing ++ more))
marked-same opening bytes closing s more h = ap (λ z. z ++ more) h.end_to_end ∙ (append_assoc opening (bytes ++ closing) more ∙ ap (λ z. opening ++ z) (append_assoc bytes closing more))

cdata-found : (bytes more : List ℕ) → EndsAtFirst (ascii "]]>") bytes → cdata_at (bytes ++ (ascii "]]>" ++ more)) ≡ Some (found (Cdata bytes) more)
unfolding cdata_at
cdata-found bytes more h = ap (option_map (λ (f : Found (List ℕ)). found (Cdata f.it) f.rest)) (up_to-first (ascii "]]>") bytes more h)

comment-found : (bytes more : List ℕ) → EndsAtFirst (ascii "-->") bytes → comment_at (bytes ++ (ascii "-->" ++ more)) ≡ Some (found Remark more)
unfolding comment_at
comment-found bytes more h = ap (option_map (λ (f : Found (List ℕ)). found Remark f.rest)) (up_to-first (ascii "-->") bytes more h)

instruction-found : (bytes more : List ℕ) → EndsAtFirst (ascii "?>") bytes → instruction_at (bytes ++ (ascii "?>" ++ more)) ≡ Some (found Remark more)
unfolding instruction_at
instruction-found bytes more h = ap (option_map (λ (f : Found (List ℕ)). found Remark f.rest)) (up_to-first (ascii "?>") bytes more h)

cdata-markup : (bytes s more : List ℕ) → IsMarked (ascii "<![CDATA[") bytes (ascii "]]>") s → markup_at (s ++ more) ≡ Some (found (Cdata bytes) more)
cdata-markup bytes s more h =
    let rest = bytes ++ (ascii "]]>" ++ more) in
    ap markup_at (marked-same (ascii "<![CDATA[") bytes (ascii "]]>") s more h)
    ∙ (markup_at-bracketed (33 ∷ (ascii "[CDATA[" ++ rest))
    ∙ (bracketed_at-declaration (ascii "[CDATA[" ++ rest)
    ∙ (declaration_at-cdata rest ∙ cdata-found bytes more h.first)))

remark-markup : (s more : List ℕ) → IsRemark s → markup_at (s ++ more) ≡ Some (found Remark more)
remark-markup s more (inl (bytes, h)) =
    let rest = bytes ++ (ascii "-->" ++ more) in
    ap markup_at (marked-same (ascii "<!--") bytes (ascii "-->") s more h)
    ∙ (markup_at-bracketed (33 ∷ 45 ∷ 45 ∷ rest)
    ∙ (bracketed_at-declaration (45 ∷ 45 ∷ rest)
    ∙ (declaration_at-comment rest ∙ comment-found bytes more h.first)))
remark-markup s more (inr (bytes, h)) =
    let rest = bytes ++ (ascii "?>" ++ more) in
    ap markup_at (marked-same (ascii "<?") bytes (ascii "?>") s more h)
    ∙ (markup_at-bracketed (63 ∷ rest)
    ∙ (bracketed_at-instruction rest ∙ instruction-found bytes more h.first))

doctype-found : (bytes more : List ℕ) → list_all is_doctype_byte bytes ≡ true → doctype_at (bytes ++ (62 ∷ more)) ≡ Some (found Doctype more)
unfolding doctype_at
doctype-found bytes more h = ap (λ z. option_map (found Doctype) (behind_mark (ascii ">") z)) (behind-run is_doctype_byte bytes (62 ∷ more) h (doctype-gt more))

doctype-markup : (s more : List ℕ) → IsDoctype s → markup_at (s ++ more) ≡ Some (found Doctype more)
doctype-markup s more h =
    let rest = h.bytes ++ (62 ∷ more) in
    let same : s ++ more ≡ ascii "<!DOCTYPE" ++ rest = ap (λ z. z ++ more) h.end_to_end ∙ (append_assoc (ascii "<!DOCTYPE") (h.bytes ++ 62 ∷ []) more ∙ ap (λ z. ascii "<!DOCTYPE" ++ z) (append_assoc h.bytes (62 ∷ []) more)) in
    ap markup_at same
    ∙ (markup_at-bracketed (33 ∷ (ascii "DOCTYPE" ++ rest))
    ∙ (bracketed_at-declaration (ascii "DOCTYPE" ++ rest)
    ∙ (declaration_at-doctype rest ∙ doctype-found h.bytes more h.made_of)))

-- a piece is found where it is spelled
pub markup_at-markup : (p : Markup) (s more : List ℕ) → IsMarkup p s more → markup_at (s ++ more) ≡ Some (found p more)
markup_at-markup (StartTag tag attributes e) s more h = start_tag-markup tag attributes e s more h
markup_at-markup (EndTag tag) s more h = end_tag-markup tag s more h
markup_at-markup (Run bytes) s more h = run-markup bytes s more h
markup_at-markup (Cdata bytes) s more h = cdata-markup bytes s more h
markup_at-markup Remark s more h = remark-markup s more h
markup_at-markup Doctype s more h = doctype-markup s more h

-- what is found is a piece
pub record MarkupAt (l : List ℕ) (f : Found Markup) : Type 0 where
  pub spelled : List ℕ
  pub is_it : l ≡ spelled ++ f.rest
  pub is_markup : IsMarkup f.it spelled f.rest

marked-at : (opening closing r : List ℕ) (g : Found (List ℕ)) (p : Markup) → UpTo closing r g → ((s : List ℕ) → IsMarked opening g.it closing s → IsMarkup p s g.rest) → MarkupAt (opening ++ r) (found p g.rest)
marked-at opening closing r g p u k = record {
  spelled = opening ++ (g.it ++ closing);
  is_it = ap (λ z. opening ++ z) (u.is_it ∙ sym (append_assoc g.it closing g.rest)) ∙ sym (append_assoc opening (g.it ++ closing) g.rest);
  is_markup = k (opening ++ (g.it ++ closing)) (record { end_to_end = refl; first = u.first });
}

cdata-at : (r : List ℕ) (f : Found Markup) → cdata_at r ≡ Some f → MarkupAt (ascii "<![CDATA[" ++ r) f
unfolding cdata_at
cdata-at r f e = mapped (λ (g : Found (List ℕ)). found (Cdata g.it) g.rest) (up_to (ascii "]]>") r) f e (λ g u q.
    subst (MarkupAt (ascii "<![CDATA[" ++ r)) q (marked-at (ascii "<![CDATA[") (ascii "]]>") r g (Cdata g.it) (up_to-is (ascii "]]>") r g u) (λ s h. h)))

comment-at : (r : List ℕ) (f : Found Markup) → comment_at r ≡ Some f → MarkupAt (ascii "<!--" ++ r) f
unfolding comment_at
comment-at r f e = mapped (λ (g : Found (List ℕ)). found Remark g.rest) (up_to (ascii "-->") r) f e (λ g u q.
    subst (MarkupAt (ascii "<!--" ++ r)) q (marked-at (ascii "<!--") (ascii "-->") r g Remark (up_to-is (ascii "-->") r g u) (λ s h. inl (g.it, h))))

instruction-at : (r : List ℕ) (f : Found Markup) → instruction_at r ≡ Some f → MarkupAt (ascii "<?" ++ r) f
unfolding instruction_at
instruction-at r f e = mapped (λ (g : Found (List ℕ)). found Remark g.rest) (up_to (ascii "?>") r) f e (λ g u q.
    subst (MarkupAt (ascii "<?" ++ r)) q (marked-at (ascii "<?") (ascii "?>") r g Remark (up_to-is (ascii "?>") r g u) (λ s h. inr (g.it, h))))

doctype-at : (r : List ℕ) (f : Found Markup) → doctype_at r ≡ Some f → MarkupAt (ascii "<!DOCTYPE" ++ r) f
unfolding doctype_at
doctype-at r f e = mapped (found Doctype) (behind_mark (ascii ">") (behind is_doctype_byte r)) f e (λ rest s q.
    let bytes = front is_doctype_byte r in
    let same : r ≡ bytes ++ (62 ∷ rest) = front-behind is_doctype_byte r ∙ ap (λ z. bytes ++ z) (behind_mark-is (ascii ">") (behind is_doctype_byte r) rest s) in
    let at_front : MarkupAt (ascii "<!DOCTYPE" ++ r) (found Doctype rest) = record {
      spelled = ascii "<!DOCTYPE" ++ (bytes ++ 62 ∷ []);
      is_it = ap (λ z. ascii "<!DOCTYPE" ++ z) (same ∙ sym (append_assoc bytes (62 ∷ []) rest)) ∙ sym (append_assoc (ascii "<!DOCTYPE") (bytes ++ 62 ∷ []) rest);
      is_markup = record { bytes = bytes; end_to_end = refl; made_of = front-all is_doctype_byte r };
    } in
    subst (MarkupAt (ascii "<!DOCTYPE" ++ r)) q at_front)

declaration-cdata : (r : List ℕ) (f : Found Markup) (s : Option (List ℕ)) → behind_mark (ascii "[CDATA[") r ≡ s → elim s [ Some rest ↦ cdata_at rest | None ↦ option_and_then doctype_at (behind_mark (ascii "DOCTYPE") r) ] ≡ Some f → MarkupAt (60 ∷ 33 ∷ r) f
declaration-cdata r f (Some rest) q e = subst (λ z. MarkupAt (60 ∷ 33 ∷ z) f) (sym (behind_mark-is (ascii "[CDATA[") r rest q)) (cdata-at rest f e)
declaration-cdata r f None q e = chained doctype_at (behind_mark (ascii "DOCTYPE") r) f e (λ rest s g.
    subst (λ z. MarkupAt (60 ∷ 33 ∷ z) f) (sym (behind_mark-is (ascii "DOCTYPE") r rest s)) (doctype-at rest f g))

declaration-comment : (r : List ℕ) (f : Found Markup) (s : Option (List ℕ)) → behind_mark (ascii "--") r ≡ s → elim s [ Some rest ↦ comment_at rest | None ↦ elim (behind_mark (ascii "[CDATA[") r) [ Some rest ↦ cdata_at rest | None ↦ option_and_then doctype_at (behind_mark (ascii "DOCTYPE") r) ] ] ≡ Some f → MarkupAt (60 ∷ 33 ∷ r) f
declaration-comment r f (Some rest) q e = subst (λ z. MarkupAt (60 ∷ 33 ∷ z) f) (sym (behind_mark-is (ascii "--") r rest q)) (comment-at rest f e)
declaration-comment r f None q e = declaration-cdata r f (behind_mark (ascii "[CDATA[") r) refl e

declaration-at : (r : List ℕ) (f : Found Markup) → declaration_at r ≡ Some f → MarkupAt (60 ∷ 33 ∷ r) f
unfolding declaration_at
declaration-at r f e = declaration-comment r f (behind_mark (ascii "--") r) refl e

end_tag-at : (r : List ℕ) (f : Found Markup) → end_tag_at r ≡ Some f → MarkupAt (60 ∷ 47 ∷ r) f
unfolding end_tag_at end_tag_of_name
end_tag-at r f e = chained end_tag_of_name (name_at r) f e (λ n p g.
    mapped (found (EndTag (codes n.it))) (behind_mark (ascii ">") (behind is_white n.rest)) f g (λ rest s q.
    let h = name_at-is r n p in
    let white = front is_white n.rest in
    let same : r ≡ n.it ++ (white ++ (62 ∷ rest)) = h.is_it ∙ ap (λ z. n.it ++ z) (front-behind is_white n.rest ∙ ap (λ z. white ++ z) (behind_mark-is (ascii ">") (behind is_white n.rest) rest s)) in
    let laid : (60 ∷ 47 ∷ (n.it ++ (white ++ 62 ∷ []))) ++ rest ≡ 60 ∷ 47 ∷ (n.it ++ (white ++ (62 ∷ rest))) = simp append_assoc in
    let at_front : MarkupAt (60 ∷ 47 ∷ r) (found (EndTag (codes n.it)) rest) = record {
      spelled = 60 ∷ 47 ∷ (n.it ++ (white ++ 62 ∷ []));
      is_it = ap (λ z. 60 ∷ 47 ∷ z) same ∙ sym laid;
      is_markup = record { name = n.it; white = white; end_to_end = refl; is_named = h.named; tag_is = refl; is_white = front-all is_white n.rest };
    } in
    subst (MarkupAt (60 ∷ 47 ∷ r)) q at_front))

start_tag-at : (r : List ℕ) (f : Found Markup) → start_tag_at r ≡ Some f → MarkupAt (60 ∷ r) f
unfolding start_tag_at start_tag_of_name
start_tag-at r f e = chained start_tag_of_name (name_at r) f e (λ n p g.
    mapped (λ (inner : Found Inner). found (StartTag (codes n.it) inner.it.attributes inner.it.is_empty) inner.rest) (inner_at (suc (length n.rest)) [] n.rest) f g (λ i s q.
    let h = name_at-is r n p in
    let k : InnerAt [] n.rest i = inner_at-is (suc (length n.rest)) [] n.rest i s in
    let end = tag_end i.it.is_empty in
    let same : r ≡ n.it ++ (k.inner ++ (k.white ++ (end ++ i.rest))) = h.is_it ∙ ap (λ z. n.it ++ z) k.is_it in
    let laid : (60 ∷ (n.it ++ (k.inner ++ (k.white ++ end)))) ++ i.rest ≡ 60 ∷ (n.it ++ (k.inner ++ (k.white ++ (end ++ i.rest)))) = simp append_assoc in
    let attributes = i.it.attributes in
    let at_front : MarkupAt (60 ∷ r) (found (StartTag (codes n.it) i.it.attributes i.it.is_empty) i.rest) = record {
      spelled = 60 ∷ (n.it ++ (k.inner ++ (k.white ++ end)));
      is_it = ap (λ z. 60 ∷ z) same ∙ sym laid;
      is_markup = record {
        name = n.it;
        inner = k.inner;
        white = k.white;
        end_to_end = refl;
        is_named = h.named;
        tag_is = refl;
        inside = subst (λ z. SpellsAttributes z k.inner) (sym k.all) k.spelled;
        is_white = k.is_white;
        differ = subst (NamesDiffer []) (sym k.all) k.differ;
      };
    } in
    subst (MarkupAt (60 ∷ r)) q at_front))

bracketed-question : (c : ℕ) (r : List ℕ) (f : Found Markup) (t : Bool) → (c == 63) ≡ t → cond t (instruction_at r) (start_tag_at (c ∷ r)) ≡ Some f → MarkupAt (60 ∷ c ∷ r) f
bracketed-question c r f true q e = subst (λ z. MarkupAt (60 ∷ z ∷ r) f) (sym (eqb-true c 63 q)) (instruction-at r f e)
bracketed-question c r f false q e = start_tag-at (c ∷ r) f e

bracketed-bang : (c : ℕ) (r : List ℕ) (f : Found Markup) (t : Bool) → (c == 33) ≡ t → cond t (declaration_at r) (cond (c == 63) (instruction_at r) (start_tag_at (c ∷ r))) ≡ Some f → MarkupAt (60 ∷ c ∷ r) f
bracketed-bang c r f true q e = subst (λ z. MarkupAt (60 ∷ z ∷ r) f) (sym (eqb-true c 33 q)) (declaration-at r f e)
bracketed-bang c r f false q e = bracketed-question c r f (c == 63) refl e

bracketed-slash : (c : ℕ) (r : List ℕ) (f : Found Markup) (t : Bool) → (c == 47) ≡ t → cond t (end_tag_at r) (cond (c == 33) (declaration_at r) (cond (c == 63) (instruction_at r) (start_tag_at (c ∷ r)))) ≡ Some f → MarkupAt (60 ∷ c ∷ r) f
bracketed-slash c r f true q e = subst (λ z. MarkupAt (60 ∷ z ∷ r) f) (sym (eqb-true c 47 q)) (end_tag-at r f e)
bracketed-slash c r f false q e = bracketed-bang c r f (c == 33) refl e

bracketed-at : (l : List ℕ) (f : Found Markup) → bracketed_at l ≡ Some f → MarkupAt (60 ∷ l) f
unfolding bracketed_at
bracketed-at [] f e = absurd (cc e)
bracketed-at (c ∷ r) f e = bracketed-slash c r f (c == 47) refl e

run-at : (b : ℕ) (l : List ℕ) → (b == 60) ≡ false → MarkupAt (b ∷ l) (found (Run (front is_text_byte (b ∷ l))) (behind is_text_byte (b ∷ l)))
run-at b l q = record {
  spelled = front is_text_byte (b ∷ l);
  is_it = front-behind is_text_byte (b ∷ l);
  is_markup = record {
    is_it = refl;
    some = (λ n. let s : b ∷ front is_text_byte l ≡ [] = sym (front-cons is_text_byte b l (no-mark-text b q)) ∙ n in absurd (cc s));
    made_of = front-all is_text_byte (b ∷ l);
    whole = text-ends (behind is_text_byte (b ∷ l)) (behind-ends is_text_byte (b ∷ l));
  };
}

markup-by : (b : ℕ) (l : List ℕ) (f : Found Markup) (t : Bool) → (b == 60) ≡ t → markup_at (b ∷ l) ≡ Some f → MarkupAt (b ∷ l) f
markup-by b l f true q e =
    let is : b ≡ 60 = eqb-true b 60 q in
    subst (λ z. MarkupAt (z ∷ l) f) (sym is) (bracketed-at l f (sym (markup_at-bracketed l) ∙ (ap (λ z. markup_at (z ∷ l)) (sym is) ∙ e)))
markup-by b l f false q e = subst (MarkupAt (b ∷ l)) (some-same (found (Run (front is_text_byte (b ∷ l))) (behind is_text_byte (b ∷ l))) f (sym (markup_at-run b l q) ∙ e)) (run-at b l q)

pub markup_at-empty : markup_at [] ≡ None
unfolding markup_at
markup_at-empty = refl

pub markup_at-is : (l : List ℕ) (f : Found Markup) → markup_at l ≡ Some f → MarkupAt l f
markup_at-is [] f e = absurd (cc (markup_at-empty, e))
markup_at-is (b ∷ l) f e = markup-by b l f (b == 60) refl e
