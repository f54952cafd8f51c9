-- Names, attributes and tags are found where they are spelled, and what is found is spelled there.
use Rattle.std.proofs.Common.{◌≡◌, ℕ, zero, suc, ◌<◌, ◌≤◌, Bool, true, false, cond, List, [], ◌∷◌, ◌++◌, length, Option, Some, None, refl, sym, ◌∙◌, ap, subst, arith, append_assoc, append-nil}
use Rattle.std.specs.Prelude.{◌==◌, option_map, option_and_then, is_some, IsNone, codes as ascii}
use Rattle.std.specs.List.{list_all}
use Rattle.std.proofs.lemmas.Bool.{eq-eqb}
use Rattle.std.proofs.lemmas.Bool.Decides.{nat_tests}
use Rattle.std.proofs.lemmas.List.{length-append}
use Rattle.bml_bytes.specs.Codes.{codes}
use Rattle.dom_tree.specs.Items.{Attribute, value_in}
use Rattle.bml_reader.specs.Bytes.{front, behind, behind_mark, is_white, is_letter, is_digit, is_name_start, is_name_byte, is_name, is_value_byte, is_quote}
use Rattle.bml_reader.specs.References.{read_references}
use Rattle.bml_reader.specs.Markup.{IsWhite, IsAttribute, SpellsAttributes, NamesDiffer, tag_end}
use Rattle.bml_reader.specs.devices.Lexing.{Found, found, Written, Inner, name_at, equals_at, closed_value, value_at, value_of_name, attribute_at, attribute_of, tag_end_at, inner_at}
use Rattle.bml_reader.proofs.ByteLemmas.{both, both-back, some-same, Ends, front-cons, front-run, behind-run, front-behind, front-all, behind-ends, behind_mark-append, behind_mark-is, mapped, chained, passed}

-- Bytes of one kind that aren't of another

pub white-no-name : (b : ℕ) → is_white b ≡ true → is_name_byte b ≡ false
unfolding is_white is_name_byte is_name_start is_letter is_digit
white-no-name b e = grind (arith, nat_tests)

start-no-white : (b : ℕ) → is_name_start b ≡ true → is_white b ≡ false
unfolding is_white is_name_start is_letter
start-no-white b e = grind (arith, nat_tests)

start-byte : (b : ℕ) → is_name_start b ≡ true → is_name_byte b ≡ true
unfolding is_name_byte
start-byte b e = rw e refl

start-no-end : (b : ℕ) → is_name_start b ≡ true → ((b == 62) ≡ false) × ((b == 47) ≡ false)
unfolding is_name_start is_letter
start-no-end b e = (grind (arith, nat_tests), grind (arith, nat_tests))

quote-no-white : (b : ℕ) → is_quote b ≡ true → is_white b ≡ false
unfolding is_white is_quote
quote-no-white b e = grind (arith, nat_tests)

quote-ends : (b : ℕ) → is_value_byte b b ≡ false
unfolding is_value_byte
quote-ends b = rw (eq-eqb b b refl) refl

-- Names

pub name_at-name : (name x : List ℕ) → is_name name ≡ true → Ends is_name_byte x → name_at (name ++ x) ≡ Some (found name x)
unfolding name_at
name_at-name [] x h e = absurd (cc h)
name_at-name (c ∷ cs) x h e =
    let start = both (is_name_start c) (list_all is_name_byte cs) h in
    let all : list_all is_name_byte (c ∷ cs) ≡ true = both-back (is_name_byte c) (list_all is_name_byte cs) (start-byte c start.0) start.1 in
    by (is_name_start c) (front is_name_byte (c ∷ (cs ++ x))) (behind is_name_byte (c ∷ (cs ++ x))) (c ∷ cs) x start.0 (front-run is_name_byte (c ∷ cs) x all e) (behind-run is_name_byte (c ∷ cs) x all e)
  where
    by : (t : Bool) (f r f' r' : List ℕ) → t ≡ true → f ≡ f' → r ≡ r' → cond t (Some (found f r)) None ≡ Some (found f' r')
    by true f r f' r' q g h = cc
    by false f r f' r' q g h = absurd (cc q)

-- what is found is a name, as far as it goes
pub record NameAt (l : List ℕ) (f : Found (List ℕ)) : Type 0 where
  pub is_it : l ≡ f.it ++ f.rest
  pub named : is_name f.it ≡ true
  pub whole : Ends is_name_byte f.rest

name_at-is-by : (c : ℕ) (cs : List ℕ) (f : Found (List ℕ)) (t : Bool) → is_name_start c ≡ t → cond t (Some (found (front is_name_byte (c ∷ cs)) (behind is_name_byte (c ∷ cs)))) None ≡ Some f → NameAt (c ∷ cs) f
name_at-is-by c cs f true s e =
    let named : is_name (c ∷ front is_name_byte cs) ≡ true = both-back (is_name_start c) (list_all is_name_byte (front is_name_byte cs)) s (front-all is_name_byte cs) in
    subst (NameAt (c ∷ cs)) (some-same (found (front is_name_byte (c ∷ cs)) (behind is_name_byte (c ∷ cs))) f e)
    (record {
      is_it = front-behind is_name_byte (c ∷ cs);
      named = subst (λ n. is_name n ≡ true) (sym (front-cons is_name_byte c cs (start-byte c s))) named;
      whole = behind-ends is_name_byte (c ∷ cs);
    })
name_at-is-by c cs f false s e = absurd (cc e)

pub name_at-is : (l : List ℕ) (f : Found (List ℕ)) → name_at l ≡ Some f → NameAt l f
unfolding name_at
name_at-is [] f e = absurd (cc e)
name_at-is (c ∷ cs) f e = name_at-is-by c cs f (is_name_start c) refl e

-- What ends a name and white

pub ends-white : (white x : List ℕ) → IsWhite white → Ends is_name_byte x → Ends is_name_byte (white ++ x)
ends-white [] x h e = e
ends-white (w ∷ white) x h e = white-no-name w (both (is_white w) (list_all is_white white) h).0

pub ends-tag_end : (e : Bool) (x : List ℕ) → Ends is_name_byte (tag_end e ++ x)
unfolding is_name_byte is_name_start is_letter is_digit
ends-tag_end true x = refl
ends-tag_end false x = refl

white-tag_end : (e : Bool) (x : List ℕ) → Ends is_white (tag_end e ++ x)
unfolding is_white
white-tag_end true x = refl
white-tag_end false x = refl

equals-no-name : (x : List ℕ) → Ends is_name_byte (61 ∷ x)
unfolding is_name_byte is_name_start is_letter is_digit
equals-no-name x = refl

equals-no-white : (x : List ℕ) → Ends is_white (61 ∷ x)
unfolding is_white
equals-no-white x = refl

name-no-white : (name x : List ℕ) → is_name name ≡ true → Ends is_white (name ++ x)
name-no-white [] x h = absurd (cc h)
name-no-white (c ∷ cs) x h = start-no-white c (both (is_name_start c) (list_all is_name_byte cs) h).0

-- Values

pub equals_at-is : (left right x : List ℕ) → IsWhite left → IsWhite right → Ends is_white x → equals_at (left ++ (61 ∷ (right ++ x))) ≡ Some x
unfolding equals_at
equals_at-is left right x l r e =
    let w : behind is_white (left ++ (61 ∷ (right ++ x))) ≡ 61 ∷ (right ++ x) = behind-run is_white left (61 ∷ (right ++ x)) l (equals-no-white (right ++ x)) in
    ap (λ z. option_map (behind is_white) (behind_mark (ascii "=") z)) w ∙ ap Some (behind-run is_white right x r e)

pub value_at-value : (quote : ℕ) (value x : List ℕ) → is_quote quote ≡ true → list_all (is_value_byte quote) value ≡ true → value_at (quote ∷ (value ++ (quote ∷ x))) ≡ Some (found value x)
unfolding value_at closed_value
value_at-value quote value x q v =
    let f : front (is_value_byte quote) (value ++ (quote ∷ x)) ≡ value = front-run (is_value_byte quote) value (quote ∷ x) v (quote-ends quote) in
    let r : behind (is_value_byte quote) (value ++ (quote ∷ x)) ≡ quote ∷ x = behind-run (is_value_byte quote) value (quote ∷ x) v (quote-ends quote) in
    by (is_quote quote) q (front (is_value_byte quote) (value ++ (quote ∷ x))) (behind (is_value_byte quote) (value ++ (quote ∷ x))) f r
  where
    by : {quote : ℕ} {value x : List ℕ} (t : Bool) → t ≡ true → (f r : List ℕ) → f ≡ value → r ≡ quote ∷ x → cond t (option_map (found f) (behind_mark (quote ∷ []) r)) None ≡ Some (found value x)
    by {quote} {value} {x} true q f r e g = ap (λ z. option_map (found f) (behind_mark (quote ∷ []) z)) g ∙ (ap (option_map (found f)) (behind_mark-append (quote ∷ []) x) ∙ ap (λ z. Some (found z x)) e)
    by {quote} {value} {x} false q f r e g = absurd (cc q)

-- Attributes

attribute_at-white : (first : ℕ) (l : List ℕ) → is_white first ≡ true → attribute_at (first ∷ l) ≡ option_and_then value_of_name (name_at (behind is_white (first ∷ l)))
unfolding attribute_at
attribute_at-white first l e = rw e refl

value_of_name-is : (name r r1 : List ℕ) (v : Found (List ℕ)) → equals_at r ≡ Some r1 → value_at r1 ≡ Some v → value_of_name (found name r) ≡ Some (found (record { name = name; value = v.it }) v.rest)
unfolding value_of_name
value_of_name-is name r r1 v p q = ap (λ z. option_map (λ (value : Found (List ℕ)). found (record { name = name; value = value.it }) value.rest) (option_and_then value_at z)) p ∙ ap (option_map (λ (value : Found (List ℕ)). found (record { name = name; value = value.it }) value.rest)) q

pub written : {a : Attribute} {s : List ℕ} → IsAttribute a s → Written
written h = record { name = h.name; value = h.value }

abbrev laid : (first : ℕ) (before name left right : List ℕ) (quote : ℕ) (value x : List ℕ) → List ℕ
laid first before name left right quote value x = first ∷ (before ++ (name ++ (left ++ (61 ∷ (right ++ (quote ∷ (value ++ (quote ∷ x))))))))

attribute_at-laid : (first : ℕ) (before name left right : List ℕ) (quote : ℕ) (value x : List ℕ) → IsWhite (first ∷ before) → IsWhite left → IsWhite right → is_name name ≡ true → is_quote quote ≡ true → list_all (is_value_byte quote) value ≡ true → attribute_at (laid first before name left right quote value x) ≡ Some (found (record { name = name; value = value }) x)
attribute_at-laid first before name left right quote value x w l r n q v =
    let after_value = quote ∷ (value ++ (quote ∷ x)) in
    let after_name = left ++ (61 ∷ (right ++ after_value)) in
    let b : behind is_white (first ∷ (before ++ (name ++ after_name))) ≡ name ++ after_name = behind-run is_white (first ∷ before) (name ++ after_name) w (name-no-white name after_name n) in
    let f : name_at (name ++ after_name) ≡ Some (found name after_name) = name_at-name name after_name n (ends-white left (61 ∷ (right ++ after_value)) l (equals-no-name (right ++ after_value))) in
    attribute_at-white first (before ++ (name ++ after_name)) (both (is_white first) (list_all is_white before) w).0
    ∙ (ap (λ z. option_and_then value_of_name (name_at z)) b
    ∙ (ap (option_and_then value_of_name) f
    ∙ value_of_name-is name after_name after_value (found value x) (equals_at-is left right after_value l r (quote-no-white quote q)) (value_at-value quote value x q v)))

pub attribute_at-attribute : (a : Attribute) (s x : List ℕ) (h : IsAttribute a s) → attribute_at (s ++ x) ≡ Some (found (record { name = h.name; value = h.value }) x)
attribute_at-attribute a s x h =
    let same : s ++ x ≡ laid h.first h.before h.name h.left h.right h.quote h.value x = ap (λ z. z ++ x) h.end_to_end ∙ simp append_assoc in
    ap attribute_at same ∙ attribute_at-laid h.first h.before h.name h.left h.right h.quote h.value x h.whites.0 h.whites.1 h.whites.2 h.is_named h.quoted.0 h.quoted.1

-- what is found is an attribute
pub record AttributeAt (l : List ℕ) (f : Found Written) : Type 0 where
  pub spelled : List ℕ
  pub is_it : l ≡ spelled ++ f.rest
  pub is_attribute : IsAttribute (attribute_of f.it) spelled

record EqualsAt (r r1 : List ℕ) : Type 0 where
  left : List ℕ
  right : List ℕ
  is_it : r ≡ left ++ (61 ∷ (right ++ r1))
  whites : IsWhite left × IsWhite right

equals_at-found : (r r1 : List ℕ) → equals_at r ≡ Some r1 → EqualsAt r r1
unfolding equals_at
equals_at-found r r1 e = mapped (behind is_white) (behind_mark (ascii "=") (behind is_white r)) r1 e (λ r2 s b. record {
  left = front is_white r;
  right = front is_white r2;
  is_it = front-behind is_white r ∙ ap (λ z. front is_white r ++ z) (behind_mark-is (ascii "=") (behind is_white r) r2 s ∙ ap (λ z. 61 ∷ z) (front-behind is_white r2 ∙ ap (λ z. front is_white r2 ++ z) b));
  whites = (front-all is_white r, front-all is_white r2);
})

record ValueAt (r : List ℕ) (v : Found (List ℕ)) : Type 0 where
  quote : ℕ
  is_it : r ≡ quote ∷ (v.it ++ (quote ∷ v.rest))
  quoted : (is_quote quote ≡ true) × (list_all (is_value_byte quote) v.it ≡ true)

closed_value-found : (q : ℕ) (qs : List ℕ) (v : Found (List ℕ)) → is_quote q ≡ true → closed_value q qs ≡ Some v → ValueAt (q ∷ qs) v
unfolding closed_value
closed_value-found q qs v i e = mapped (found (front (is_value_byte q) qs)) (behind_mark (q ∷ []) (behind (is_value_byte q) qs)) v e (λ rest s f.
    subst (ValueAt (q ∷ qs)) f (record {
      quote = q;
      is_it = ap (λ z. q ∷ z) (front-behind (is_value_byte q) qs ∙ ap (λ z. front (is_value_byte q) qs ++ z) (behind_mark-is (q ∷ []) (behind (is_value_byte q) qs) rest s));
      quoted = (i, front-all (is_value_byte q) qs);
    }))

value_at-found : (r : List ℕ) (v : Found (List ℕ)) → value_at r ≡ Some v → ValueAt r v
unfolding value_at
value_at-found [] v e = absurd (cc e)
value_at-found (q ∷ qs) v e = passed (is_quote q) (closed_value q qs) v e (λ i f. closed_value-found q qs v i f)

attribute_at-markup : (c : ℕ) (cs : List ℕ) (n : Found (List ℕ)) (r1 : List ℕ) (v : Found (List ℕ)) → is_white c ≡ true → NameAt (behind is_white (c ∷ cs)) n → EqualsAt n.rest r1 → ValueAt r1 v → AttributeAt (c ∷ cs) (found (record { name = n.it; value = v.it }) v.rest)
attribute_at-markup c cs n r1 v w h e q =
    let before : List ℕ = front is_white cs in
    let whites : front is_white (c ∷ cs) ≡ c ∷ before = front-cons is_white c cs w in
    let spelled : List ℕ = c ∷ (before ++ (n.it ++ (e.left ++ (61 ∷ (e.right ++ (q.quote ∷ (v.it ++ q.quote ∷ []))))))) in
    let whole : n.rest ≡ e.left ++ (61 ∷ (e.right ++ (q.quote ∷ (v.it ++ (q.quote ∷ v.rest))))) = e.is_it ∙ ap (λ z. e.left ++ (61 ∷ (e.right ++ z))) q.is_it in
    let first : c ∷ cs ≡ c ∷ (before ++ (n.it ++ n.rest)) = front-behind is_white (c ∷ cs) ∙ (ap (λ z. z ++ behind is_white (c ∷ cs)) whites ∙ ap (λ z. c ∷ (before ++ z)) h.is_it) in
    let same : spelled ++ v.rest ≡ c ∷ (before ++ (n.it ++ (e.left ++ (61 ∷ (e.right ++ (q.quote ∷ (v.it ++ (q.quote ∷ v.rest)))))))) = simp append_assoc in
    record {
      spelled = spelled;
      is_it = first ∙ (ap (λ z. c ∷ (before ++ (n.it ++ z))) whole ∙ sym same);
      is_attribute = record {
        first = c;
        before = before;
        name = n.it;
        left = e.left;
        right = e.right;
        quote = q.quote;
        value = v.it;
        end_to_end = refl;
        whites = (subst (λ z. IsWhite z) whites (front-all is_white (c ∷ cs)), e.whites.0, e.whites.1);
        is_named = h.named;
        quoted = q.quoted;
        name_is = refl;
        value_is = refl;
      };
    }

value_of_name-found : {P : Type 0} (n : Found (List ℕ)) (f : Found Written) → value_of_name n ≡ Some f → ((r1 : List ℕ) (v : Found (List ℕ)) → EqualsAt n.rest r1 → ValueAt r1 v → found (record { name = n.it; value = v.it }) v.rest ≡ f → P) → P
unfolding value_of_name
value_of_name-found n f e k =
    mapped (λ (value : Found (List ℕ)). found (record { name = n.it; value = value.it }) value.rest) (option_and_then value_at (equals_at n.rest)) f e (λ v p q.
    chained value_at (equals_at n.rest) v p (λ r1 s t. k r1 v (equals_at-found n.rest r1 s) (value_at-found r1 v t) q))

pub attribute_at-is : (l : List ℕ) (f : Found Written) → attribute_at l ≡ Some f → AttributeAt l f
unfolding attribute_at
attribute_at-is [] f e = absurd (cc e)
attribute_at-is (c ∷ cs) f e =
    passed (is_white c) (option_and_then value_of_name (name_at (behind is_white (c ∷ cs)))) f e (λ w g.
    chained value_of_name (name_at (behind is_white (c ∷ cs))) f g (λ n p q.
    value_of_name-found n f q (λ r1 v s t u.
    subst (AttributeAt (c ∷ cs)) u (attribute_at-markup c cs n r1 v w (name_at-is (behind is_white (c ∷ cs)) n p) s t))))

-- The inside of a start tag

no-gt : (l x : List ℕ) (b : ℕ) → (b == 62) ≡ false → behind_mark (ascii ">") (b ∷ x) ≡ None
no-gt l x b e = rw e refl

-- the end of a tag is found behind white
pub tag_end_at-end : (white x : List ℕ) (e : Bool) → IsWhite white → tag_end_at (white ++ (tag_end e ++ x)) ≡ Some (found e x)
unfolding tag_end_at
tag_end_at-end white x true w = ap (λ z. elim (behind_mark (ascii ">") z) [ Some rest ↦ Some (found false rest) | None ↦ option_map (found true) (behind_mark (ascii "/>") z) ]) (behind-run is_white white (tag_end true ++ x) w (white-tag_end true x))
tag_end_at-end white x false w = ap (λ z. elim (behind_mark (ascii ">") z) [ Some rest ↦ Some (found false rest) | None ↦ option_map (found true) (behind_mark (ascii "/>") z) ]) (behind-run is_white white (tag_end false ++ x) w (white-tag_end false x))

-- a name behind white ends no tag
tag_end_at-name : (white name x : List ℕ) → IsWhite white → is_name name ≡ true → tag_end_at (white ++ (name ++ x)) ≡ None
unfolding tag_end_at
tag_end_at-name white [] x w n = absurd (cc n)
tag_end_at-name white (c ∷ cs) x w n =
    let s = start-no-end c (both (is_name_start c) (list_all is_name_byte cs) n).0 in
    ap (λ z. elim (behind_mark (ascii ">") z) [ Some rest ↦ Some (found false rest) | None ↦ option_map (found true) (behind_mark (ascii "/>") z) ]) (behind-run is_white white ((c ∷ cs) ++ x) w (name-no-white (c ∷ cs) x n))
    ∙ rw (s.0, s.1) refl

tag_end_at-attribute : (a : Attribute) (s x : List ℕ) → IsAttribute a s → tag_end_at (s ++ x) ≡ None
tag_end_at-attribute a s x h =
    let same : s ++ x ≡ (h.first ∷ h.before) ++ (h.name ++ (h.left ++ (61 ∷ (h.right ++ (h.quote ∷ (h.value ++ (h.quote ∷ x))))))) = ap (λ z. z ++ x) h.end_to_end ∙ simp append_assoc in
    ap tag_end_at same ∙ tag_end_at-name (h.first ∷ h.before) h.name (h.left ++ (61 ∷ (h.right ++ (h.quote ∷ (h.value ++ (h.quote ∷ x)))))) h.whites.0 h.is_named

pub inner_at-end : (most : ℕ) (before : List Attribute) (l : List ℕ) (end : Found Bool) → tag_end_at l ≡ Some end → inner_at (suc most) before l ≡ Some (found (record { attributes = before; is_empty = end.it }) end.rest)
unfolding inner_at
inner_at-end most before l end e = rw (e, inner_at) refl

inner_at-more : (most : ℕ) (before : List Attribute) (l : List ℕ) (a : Found Written) → tag_end_at l ≡ None → attribute_at l ≡ Some a → is_some (value_in before (codes a.it.name)) ≡ false → inner_at (suc most) before l ≡ inner_at most (before ++ attribute_of a.it ∷ []) a.rest
unfolding inner_at
inner_at-more most before l a n e d = rw (n, e, d, inner_at) refl

pub inner_at-twice : (most : ℕ) (before : List Attribute) (l : List ℕ) (a : Found Written) → tag_end_at l ≡ None → attribute_at l ≡ Some a → is_some (value_in before (codes a.it.name)) ≡ true → inner_at (suc most) before l ≡ None
unfolding inner_at
inner_at-twice most before l a n e d = rw (n, e, d, inner_at) refl

pub inner_at-none : (most : ℕ) (before : List Attribute) (l : List ℕ) → tag_end_at l ≡ None → attribute_at l ≡ None → inner_at (suc most) before l ≡ None
unfolding inner_at
inner_at-none most before l n e = rw (n, e, inner_at) refl

-- how many attributes there are at most
pub spells-length : (attributes : List Attribute) (inner : List ℕ) → SpellsAttributes attributes inner → length attributes ≤ length inner
spells-length [] inner h = omega arith
spells-length (a ∷ attributes) inner (first, more, e, h, m) =
    let n = spells-length attributes more m in
    omega (arith, ap length e, length-append first more, ap length h.end_to_end, n)

absent : {A : Type 0} (o : Option A) → IsNone o → is_some o ≡ false
absent o h = h

inner_at-zero : (before : List Attribute) (l : List ℕ) → inner_at zero before l ≡ None
unfolding inner_at
inner_at-zero before l = refl

-- the attributes that are spelled are found
pub inner_at-spelled : (attributes before : List Attribute) (inner white x : List ℕ) (e : Bool) (most : ℕ) → SpellsAttributes attributes inner → IsWhite white → NamesDiffer before attributes → length attributes < most → inner_at most before (inner ++ (white ++ (tag_end e ++ x))) ≡ Some (found (record { attributes = before ++ attributes; is_empty = e }) x)
inner_at-spelled attributes before inner white x e zero h w d n = absurd (omega arith)
inner_at-spelled [] before inner white x e (suc most) h w d n =
    ap (λ z. inner_at (suc most) before (z ++ (white ++ (tag_end e ++ x)))) h
    ∙ (inner_at-end most before (white ++ (tag_end e ++ x)) (found e x) (tag_end_at-end white x e w)
    ∙ ap (λ (z : List Attribute). Some (found (record { attributes = z; is_empty = e }) x)) (sym (append-nil before)))
inner_at-spelled (a ∷ attributes) before inner white x e (suc most) (first, more, q, h, m) w d n =
    let rest = more ++ (white ++ (tag_end e ++ x)) in
    let same : inner ++ (white ++ (tag_end e ++ x)) ≡ first ++ rest = ap (λ z. z ++ (white ++ (tag_end e ++ x))) q ∙ append_assoc first more (white ++ (tag_end e ++ x)) in
    let is : attribute_of (record { name = h.name; value = h.value }) ≡ a = same-attribute a h.name h.value h.name_is h.value_is in
    let new : is_some (value_in before (codes h.name)) ≡ false = subst (λ k. is_some (value_in before k) ≡ false) h.name_is (absent (value_in before a.name) d.0) in
    ap (inner_at (suc most) before) same
    ∙ (inner_at-more most before (first ++ rest) (found (record { name = h.name; value = h.value }) rest) (tag_end_at-attribute a first rest h) (attribute_at-attribute a first rest h) new
    ∙ (ap (λ (z : Attribute). inner_at most (before ++ z ∷ []) rest) is
    ∙ (inner_at-spelled attributes (before ++ a ∷ []) more white x e most m w d.1 (omega arith)
    ∙ ap (λ (z : List Attribute). Some (found (record { attributes = z; is_empty = e }) x)) (append_assoc before (a ∷ []) attributes))))
  where
    same-attribute : (a : Attribute) (name value : List ℕ) → a.name ≡ codes name → a.value ≡ codes (read_references value) → attribute_of (record { name = name; value = value }) ≡ a
    same-attribute a name value p q = let f : List ℕ → List ℕ → Attribute = λ n v. record { name = n; value = v } in ap (λ n. f n (codes (read_references value))) (sym p) ∙ ap (λ v. f a.name v) (sym q)

-- what is found is the inside of a start tag, behind these attributes
pub record InnerAt (before : List Attribute) (l : List ℕ) (f : Found Inner) : Type 0 where
  pub attributes : List Attribute
  pub inner : List ℕ
  pub white : List ℕ
  pub all : f.it.attributes ≡ before ++ attributes
  pub is_it : l ≡ inner ++ (white ++ (tag_end f.it.is_empty ++ f.rest))
  pub spelled : SpellsAttributes attributes inner
  pub is_white : IsWhite white
  pub differ : NamesDiffer before attributes

record TagEndAt (l : List ℕ) (f : Found Bool) : Type 0 where
  white : List ℕ
  is_it : l ≡ white ++ (tag_end f.it ++ f.rest)
  is_white : IsWhite white

tag_end_at-gt : (l rest : List ℕ) → behind_mark (ascii ">") (behind is_white l) ≡ Some rest → TagEndAt l (found false rest)
tag_end_at-gt l rest e = record { white = front is_white l; is_it = front-behind is_white l ∙ ap (λ z. front is_white l ++ z) (behind_mark-is (ascii ">") (behind is_white l) rest e); is_white = front-all is_white l }

tag_end_at-slash : (l rest : List ℕ) → behind_mark (ascii "/>") (behind is_white l) ≡ Some rest → TagEndAt l (found true rest)
tag_end_at-slash l rest e = record { white = front is_white l; is_it = front-behind is_white l ∙ ap (λ z. front is_white l ++ z) (behind_mark-is (ascii "/>") (behind is_white l) rest e); is_white = front-all is_white l }

tag_end_at-by : (l : List ℕ) (f : Found Bool) (s : Option (List ℕ)) → behind_mark (ascii ">") (behind is_white l) ≡ s → elim s [ Some rest ↦ Some (found false rest) | None ↦ option_map (found true) (behind_mark (ascii "/>") (behind is_white l)) ] ≡ Some f → TagEndAt l f
tag_end_at-by l f (Some rest) q e = subst (TagEndAt l) (some-same (found false rest) f e) (tag_end_at-gt l rest q)
tag_end_at-by l f None q e = mapped (found true) (behind_mark (ascii "/>") (behind is_white l)) f e (λ rest s p. subst (TagEndAt l) p (tag_end_at-slash l rest s))

tag_end_at-found : (l : List ℕ) (f : Found Bool) → tag_end_at l ≡ Some f → TagEndAt l f
unfolding tag_end_at
tag_end_at-found l f e = tag_end_at-by l f (behind_mark (ascii ">") (behind is_white l)) refl e

InnerAt-end : (before : List Attribute) (l : List ℕ) (end : Found Bool) → TagEndAt l end → InnerAt before l (found (record { attributes = before; is_empty = end.it }) end.rest)
InnerAt-end before l end h = record { attributes = []; inner = []; white = h.white; all = sym (append-nil before); is_it = h.is_it; spelled = refl; is_white = h.is_white; differ = tt }

InnerAt-more : (before : List Attribute) (l : List ℕ) (a : Found Written) (f : Found Inner) → AttributeAt l a → IsNone (value_in before (codes a.it.name)) → InnerAt (before ++ attribute_of a.it ∷ []) a.rest f → InnerAt before l f
InnerAt-more before l a f h d i = record {
  attributes = attribute_of a.it ∷ i.attributes;
  inner = h.spelled ++ i.inner;
  white = i.white;
  all = i.all ∙ append_assoc before (attribute_of a.it ∷ []) i.attributes;
  is_it = h.is_it ∙ (ap (λ z. h.spelled ++ z) i.is_it ∙ sym (append_assoc h.spelled i.inner (i.white ++ (tag_end f.it.is_empty ++ f.rest))));
  spelled = (h.spelled, i.inner, refl, h.is_attribute, i.spelled);
  is_white = i.is_white;
  differ = (d, i.differ);
}

is-absent : {A : Type 0} (o : Option A) → is_some o ≡ false → IsNone o
is-absent o h = h

inner_at-new : (most : ℕ) (before : List Attribute) (l : List ℕ) (a : Found Written) (f : Found Inner) (t : Bool) → ((b : List Attribute) (r : List ℕ) → inner_at most b r ≡ Some f → InnerAt b r f) → tag_end_at l ≡ None → attribute_at l ≡ Some a → is_some (value_in before (codes a.it.name)) ≡ t → inner_at (suc most) before l ≡ Some f → InnerAt before l f
inner_at-new most before l a f true k n q d e = let none : inner_at (suc most) before l ≡ None = inner_at-twice most before l a n q d in absurd (cc)
inner_at-new most before l a f false k n q d e = InnerAt-more before l a f (attribute_at-is l a q) (is-absent (value_in before (codes a.it.name)) d) (k (before ++ attribute_of a.it ∷ []) a.rest (sym (inner_at-more most before l a n q d) ∙ e))

inner_at-attribute : (most : ℕ) (before : List Attribute) (l : List ℕ) (f : Found Inner) (o : Option (Found Written)) → ((b : List Attribute) (r : List ℕ) → inner_at most b r ≡ Some f → InnerAt b r f) → tag_end_at l ≡ None → attribute_at l ≡ o → inner_at (suc most) before l ≡ Some f → InnerAt before l f
inner_at-attribute most before l f (Some a) k n q e = inner_at-new most before l a f (is_some (value_in before (codes a.it.name))) k n q refl e
inner_at-attribute most before l f None k n q e = let none : inner_at (suc most) before l ≡ None = inner_at-none most before l n q in absurd (cc)

inner_at-by : (most : ℕ) (before : List Attribute) (l : List ℕ) (f : Found Inner) (o : Option (Found Bool)) → ((b : List Attribute) (r : List ℕ) → inner_at most b r ≡ Some f → InnerAt b r f) → tag_end_at l ≡ o → inner_at (suc most) before l ≡ Some f → InnerAt before l f
inner_at-by most before l f (Some end) k q e = subst (InnerAt before l) (some-same (found (record { attributes = before; is_empty = end.it }) end.rest) f (sym (inner_at-end most before l end q) ∙ e)) (InnerAt-end before l end (tag_end_at-found l end q))
inner_at-by most before l f None k q e = inner_at-attribute most before l f (attribute_at l) k q refl e

pub inner_at-is : (most : ℕ) (before : List Attribute) (l : List ℕ) (f : Found Inner) → inner_at most before l ≡ Some f → InnerAt before l f
inner_at-is zero before l f e = let none : inner_at zero before l ≡ None = inner_at-zero before l in absurd (cc)
inner_at-is (suc most) before l f e = inner_at-by most before l f (tag_end_at l) (λ b r g. inner_at-is most b r f g) refl e

-- More than enough attributes may be looked for

pub attribute-shorter : (l : List ℕ) (a : Found Written) → attribute_at l ≡ Some a → length a.rest < length l
attribute-shorter l a e = let h = attribute_at-is l a e in omega (arith, ap length h.is_it, length-append h.spelled a.rest, ap length h.is_attribute.end_to_end)

enough-new : (m n : ℕ) (before : List Attribute) (l : List ℕ) (a : Found Written) (t : Bool) → ((b : List Attribute) (r : List ℕ) → length r < m → length r < n → inner_at m b r ≡ inner_at n b r) → tag_end_at l ≡ None → attribute_at l ≡ Some a → is_some (value_in before (codes a.it.name)) ≡ t → length l < suc m → length l < suc n → inner_at (suc m) before l ≡ inner_at (suc n) before l
enough-new m n before l a true k z q d x y = inner_at-twice m before l a z q d ∙ sym (inner_at-twice n before l a z q d)
enough-new m n before l a false k z q d x y =
    let s = attribute-shorter l a q in
    inner_at-more m before l a z q d ∙ (k (before ++ attribute_of a.it ∷ []) a.rest (omega arith) (omega arith) ∙ sym (inner_at-more n before l a z q d))

enough-attribute : (m n : ℕ) (before : List Attribute) (l : List ℕ) (o : Option (Found Written)) → ((b : List Attribute) (r : List ℕ) → length r < m → length r < n → inner_at m b r ≡ inner_at n b r) → tag_end_at l ≡ None → attribute_at l ≡ o → length l < suc m → length l < suc n → inner_at (suc m) before l ≡ inner_at (suc n) before l
enough-attribute m n before l (Some a) k z q x y = enough-new m n before l a (is_some (value_in before (codes a.it.name))) k z q refl x y
enough-attribute m n before l None k z q x y = inner_at-none m before l z q ∙ sym (inner_at-none n before l z q)

enough-by : (m n : ℕ) (before : List Attribute) (l : List ℕ) (o : Option (Found Bool)) → ((b : List Attribute) (r : List ℕ) → length r < m → length r < n → inner_at m b r ≡ inner_at n b r) → tag_end_at l ≡ o → length l < suc m → length l < suc n → inner_at (suc m) before l ≡ inner_at (suc n) before l
enough-by m n before l (Some end) k q x y = inner_at-end m before l end q ∙ sym (inner_at-end n before l end q)
enough-by m n before l None k q x y = enough-attribute m n before l (attribute_at l) k q refl x y

pub inner_at-enough : (m n : ℕ) (before : List Attribute) (l : List ℕ) → length l < m → length l < n → inner_at m before l ≡ inner_at n before l
inner_at-enough zero n before l x y = absurd (omega arith)
inner_at-enough (suc m) zero before l x y = absurd (omega arith)
inner_at-enough (suc m) (suc n) before l x y = enough-by m n before l (tag_end_at l) (λ b r. inner_at-enough m n b r) refl x y

-- one attribute more is read
pub inner_at-step : (before : List Attribute) (l : List ℕ) (a : Found Written) → tag_end_at l ≡ None → attribute_at l ≡ Some a → is_some (value_in before (codes a.it.name)) ≡ false → inner_at (suc (length l)) before l ≡ inner_at (suc (length a.rest)) (before ++ attribute_of a.it ∷ []) a.rest
inner_at-step before l a z q d =
    let s = attribute-shorter l a q in
    inner_at-more (length l) before l a z q d ∙ inner_at-enough (length l) (suc (length a.rest)) (before ++ attribute_of a.it ∷ []) a.rest s (omega arith)
