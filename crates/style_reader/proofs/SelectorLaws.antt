-- Selectors as they are spelled, and those that are read.
use Rattle.std.proofs.Common.{◌≡◌, ℕ, suc, ◌+◌, Bool, true, false, cond, List, [], ◌∷◌, ◌++◌, map, drop, Option, Some, None, refl, sym, ◌∙◌, ap, subst, append-nil, append_assoc, arith}
use Rattle.std.proofs.lemmas.Bool.{eqb-true}
use Rattle.std.proofs.lemmas.Bool.Decides.{nat_tests}
use Rattle.std.specs.Prelude.{◌||◌, nat_eq, option_and_then, option_map, codes}
use Rattle.std.specs.Char.{to_ascii_lowercase}
use Rattle.std.specs.List.{after_first, before_first, list_any, position_or_len}
use Rattle.bml_bytes.specs.Words.{is_same}
use Rattle.style_reader.specs.Characters.{is_name, is_name_code, is_name_start, is_letter, is_word}
use Rattle.style_reader.specs.Declarations.{is_colon}
use Rattle.style_reader.specs.Readings.{Asked, Parted, asked_of, asked_tag, before_pseudo_class, begins_mark, mark_of, marked, parted, pseudo_class_of, selector_of, selector_with, tag_of}
use Rattle.style_reader.specs.Selectors.{IsNamedMark, IsNamedTag, IsPseudoClassText, IsSelector, mark_text, tag_text}
use Rattle.style_reader.specs.declared.selectors.Mark.{Mark}
use Rattle.style_reader.specs.declared.selectors.Mark.TheVariants.{Class, Id}
use Rattle.style_reader.specs.declared.selectors.PseudoClass.{PseudoClass}
use Rattle.style_reader.specs.declared.selectors.PseudoClass.TheVariants.{Focus, Active}
use Rattle.style_reader.specs.declared.selectors.Selector.{Selector}
use Rattle.style_reader.proofs.BlockLaws.{the_code}
use Rattle.style_reader.proofs.CutLemmas.{joined-at, parted-at}
use Rattle.style_reader.proofs.NameLaws.{name-codes, name-colon, name-mark, no-code, same-text, and-true}
use Rattle.style_reader.proofs.SelectorLemmas.{before-with, before-without}

-- ---- lists

any-append : (test : ℕ → Bool) (a b : List ℕ) → list_any test a ≡ false → list_any test b ≡ false → list_any test (a ++ b) ≡ false
any-append test [] b e f = f
any-append test (x ∷ a) b e f = by (test x) refl e (λ g. any-append test a b g f)
  where
    by : (c : Bool) → test x ≡ c → (c || list_any test a) ≡ false → (list_any test a ≡ false → list_any test (a ++ b) ≡ false) → (test x || list_any test (a ++ b)) ≡ false
    by true is g more = absurd (cc g)
    by false is g more = rw is (more g)

one_more : (n : ℕ) → 1 + n ≡ suc n
one_more n = omega arith

-- the text from the first code that passes on
pub place-at : (test : ℕ → Bool) (before behind : List ℕ) (code : ℕ) → list_any test before ≡ false → test code ≡ true → drop (position_or_len test (before ++ (code ∷ behind))) (before ++ (code ∷ behind)) ≡ code ∷ behind
place-at test [] behind code lacks e = rw e refl
place-at test (x ∷ before) behind code lacks e = by (test x) refl lacks (λ g. place-at test before behind code g e)
  where
    by : (c : Bool) → test x ≡ c → (c || list_any test before) ≡ false → (list_any test before ≡ false → drop (position_or_len test (before ++ (code ∷ behind))) (before ++ (code ∷ behind)) ≡ code ∷ behind) → drop (position_or_len test (x ∷ (before ++ (code ∷ behind)))) (x ∷ (before ++ (code ∷ behind))) ≡ code ∷ behind
    by true is g more = absurd (cc g)
    by false is g more = rw is (ap (λ (n : ℕ). drop n (x ∷ (before ++ (code ∷ behind)))) (one_more (position_or_len test (before ++ (code ∷ behind)))) ∙ more g)

-- ---- what is asked of an element

star-never : is_name_code 42 ≡ false
unfolding is_name_code is_name_start is_letter
star-never = refl

no-star : (name more : List ℕ) → is_name name ≡ true → is_same (name ++ more) (codes "*") ≡ false
no-star [] more e = absurd (cc e)
no-star (first ∷ name) more e =
    let parts = and-true (is_name_code first) _ (name-codes (first ∷ name) e) in
    rw (no-code 42 star-never first parts.0) refl

tag_of-name : (name : List ℕ) → is_name name ≡ true → tag_of name ≡ Some (Some name)
tag_of-name [] e = absurd (cc e)
tag_of-name (first ∷ name) e = rw e refl

asked-none : (code : ℕ) (name : List ℕ) (mark : Mark) → nat_eq code 42 ≡ false → begins_mark code ≡ true → mark_of (code ∷ name) ≡ Some mark → asked_of (code ∷ name) ≡ Some (record { tag = None; mark = Some mark })
unfolding asked_of
asked-none code name mark star begins e = rw (star, begins, e) refl

asked-name : (tag : List ℕ) → is_name tag ≡ true → asked_of tag ≡ Some (record { tag = Some tag; mark = None })
unfolding asked_of
asked-name tag named = rw (sym (ap (λ (t : List ℕ). is_same t (codes "*")) (append-nil tag)) ∙ no-star tag [] named, name-mark tag named, named) refl

asked-both : (tag : List ℕ) (code : ℕ) (name : List ℕ) (mark : Mark) → is_name tag ≡ true → begins_mark code ≡ true → mark_of (code ∷ name) ≡ Some mark → asked_of (tag ++ (code ∷ name)) ≡ Some (record { tag = Some tag; mark = Some mark })
unfolding asked_of
asked-both tag code name mark named begins e =
    let cut = parted-at begins_mark tag name code (name-mark tag named) begins in
    rw (no-star tag (code ∷ name) named, cut.has_one, ← cut.before_is, place-at begins_mark tag name code (name-mark tag named) begins, tag_of-name tag named, e) refl

class_of : (name : List ℕ) → is_name name ≡ true → mark_of (46 ∷ name) ≡ Some (Class name)
class_of name e = rw e refl

id_of : (name : List ℕ) → is_name name ≡ true → mark_of (35 ∷ name) ≡ Some (Id name)
id_of name e = rw e refl

asked-spelled : (tag : Option (List ℕ)) (mark : Option Mark) → IsNamedTag tag → IsNamedMark mark → asked_of (tag_text tag mark ++ mark_text mark) ≡ Some (record { tag = tag; mark = mark })
unfolding asked_of
asked-spelled None None t m = refl
asked-spelled None (Some (Class name)) t m = asked-none 46 name (Class name) refl refl (class_of name m)
asked-spelled None (Some (Id name)) t m = asked-none 35 name (Id name) refl refl (id_of name m)
asked-spelled (Some tag) None t m = ap asked_of (append-nil tag) ∙ asked-name tag t
asked-spelled (Some tag) (Some (Class name)) t m = asked-both tag 46 name (Class name) t refl (class_of name m)
asked-spelled (Some tag) (Some (Id name)) t m = asked-both tag 35 name (Id name) t refl (id_of name m)

mark-colon : (mark : Option Mark) → IsNamedMark mark → list_any is_colon (mark_text mark) ≡ false
mark-colon None m = refl
mark-colon (Some (Class name)) m = name-colon name m
mark-colon (Some (Id name)) m = name-colon name m

tag-colon : (tag : Option (List ℕ)) (mark : Option Mark) → IsNamedTag tag → list_any is_colon (tag_text tag mark) ≡ false
tag-colon (Some tag) mark t = name-colon tag t
tag-colon None None t = refl
tag-colon None (Some mark) t = refl

-- ---- pseudo-classes

lower-colon : (code : ℕ) → to_ascii_lowercase code ≡ 58 → code ≡ 58
lower-colon code e = grind (arith, nat_tests)

-- a word behind a colon
colon-word : (word text : List ℕ) → is_same (map to_ascii_lowercase text) (58 ∷ word) ≡ true → (rest : List ℕ) × (text ≡ 58 ∷ rest) × (map to_ascii_lowercase rest ≡ word)
colon-word word [] e = absurd (cc e)
colon-word word (code ∷ text) e =
    let parts = and-true (nat_eq (to_ascii_lowercase code) 58) (is_same (map to_ascii_lowercase text) word) e in
    let first = lower-colon code (eqb-true (to_ascii_lowercase code) 58 parts.0) in
    (text, ap (λ (c : ℕ). c ∷ text) first, same-text (map to_ascii_lowercase text) word parts.1)

focus-word : (word : List ℕ) → map to_ascii_lowercase word ≡ codes "focus" → pseudo_class_of word ≡ Some Focus
focus-word word e = rw e refl

active-word : (word : List ℕ) → map to_ascii_lowercase word ≡ codes "active" → pseudo_class_of word ≡ Some Active
active-word word e = rw e refl

before-word : (subject word : List ℕ) (found : PseudoClass) → list_any is_colon subject ≡ false → pseudo_class_of word ≡ Some found → before_pseudo_class (subject ++ (58 ∷ word)) ≡ Some (parted subject (Some found))
before-word subject word found lacks e = sym (before-with (subject ++ (58 ∷ word)) subject word (Some found) (parted-at is_colon subject word 58 lacks refl) (sym e))

before-spelled : (subject behind : List ℕ) (pseudo_class : Option PseudoClass) → list_any is_colon subject ≡ false → IsPseudoClassText pseudo_class behind → before_pseudo_class (subject ++ behind) ≡ Some (parted subject pseudo_class)
before-spelled subject behind None lacks is = ap (λ (t : List ℕ). before_pseudo_class (subject ++ t)) is ∙ ap before_pseudo_class (append-nil subject) ∙ sym (before-without subject lacks)
before-spelled subject behind (Some Focus) lacks is =
    let found = colon-word (codes "focus") behind is in
    ap (λ (t : List ℕ). before_pseudo_class (subject ++ t)) found.1 ∙ before-word subject found.0 Focus lacks (focus-word found.0 found.2)
before-spelled subject behind (Some Active) lacks is =
    let found = colon-word (codes "active") behind is in
    ap (λ (t : List ℕ). before_pseudo_class (subject ++ t)) found.1 ∙ before-word subject found.0 Active lacks (active-word found.0 found.2)

-- ---- what is spelled is read

pub selector-spelled : (selector : Selector) (text : List ℕ) → IsSelector selector text → selector_of text ≡ Some selector
unfolding selector_of
selector-spelled selector text is =
    let tag = tag_text selector.tag selector.mark in
    let mark = mark_text selector.mark in
    let lacks = any-append is_colon tag mark (tag-colon selector.tag selector.mark is.tag_named) (mark-colon selector.mark is.mark_named) in
    let whole : text ≡ (tag ++ mark) ++ is.behind = is.end_to_end ∙ sym (append_assoc tag mark is.behind) in
    let cut = ap before_pseudo_class whole ∙ before-spelled (tag ++ mark) is.behind selector.pseudo_class lacks is.pseudo_class in
    rw (cut, asked-spelled selector.tag selector.mark is.tag_named is.mark_named) refl

-- ---- what is read is spelled so

record HasSubject (text : List ℕ) (found : Parted) : Type 0 where
  behind : List ℕ
  whole : text ≡ found.subject ++ behind
  pseudo_class : IsPseudoClassText found.pseudo_class behind

word-read : (word : List ℕ) (found : PseudoClass) → pseudo_class_of word ≡ Some found → IsPseudoClassText (Some found) (58 ∷ word)
word-read word found e = by (is_word (codes "focus") word) (is_word (codes "active") word) refl refl e
  where
    by : (f a : Bool) → is_word (codes "focus") word ≡ f → is_word (codes "active") word ≡ a → cond f (Some Focus) (cond a (Some Active) None) ≡ Some found → IsPseudoClassText (Some found) (58 ∷ word)
    by true a is other h = let same : Focus ≡ found = cc in subst (λ (p : PseudoClass). IsPseudoClassText (Some p) (58 ∷ word)) same is
    by false true is other h = let same : Active ≡ found = cc in subst (λ (p : PseudoClass). IsPseudoClassText (Some p) (58 ∷ word)) same other
    by false false is other h = absurd (cc h)

before-read : (text : List ℕ) (found : Parted) → before_pseudo_class text ≡ Some found → HasSubject text found
unfolding before_pseudo_class
before-read text found e = by (list_any is_colon text) refl e
  where
    word-by : (word : List ℕ) → text ≡ before_first is_colon text ++ (58 ∷ word) → (o : Option PseudoClass) → pseudo_class_of word ≡ o → option_map (λ (p : PseudoClass). parted (before_first is_colon text) (Some p)) o ≡ Some found → HasSubject text found
    word-by word whole None is h = absurd (cc h)
    word-by word whole (Some pseudo_class) is h =
        let same : parted (before_first is_colon text) (Some pseudo_class) ≡ found = cc in
        subst (λ (f : Parted). HasSubject text f) same (record { behind = 58 ∷ word; whole = whole; pseudo_class = word-read word pseudo_class is })

    by : (b : Bool) → list_any is_colon text ≡ b → cond b (option_map (λ (p : PseudoClass). parted (before_first is_colon text) (Some p)) (pseudo_class_of (after_first is_colon text))) (Some (parted text None)) ≡ Some found → HasSubject text found
    by true is h =
        let cut = joined-at is_colon text is in
        let whole : text ≡ before_first is_colon text ++ (58 ∷ after_first is_colon text) = cut.end_to_end ∙ ap (λ (c : ℕ). before_first is_colon text ++ (c ∷ after_first is_colon text)) (the_code cut.code 58 cut.passes) in
        word-by (after_first is_colon text) whole (pseudo_class_of (after_first is_colon text)) refl h
    by false is h =
        let same : parted text None ≡ found = cc in
        subst (λ (f : Parted). HasSubject text f) same (record { behind = []; whole = sym (append-nil text); pseudo_class = refl })

record IsAsked (text : List ℕ) (asked : Asked) : Type 0 where
  whole : text ≡ tag_text asked.tag asked.mark ++ mark_text asked.mark
  tag_named : IsNamedTag asked.tag
  mark_named : IsNamedMark asked.mark

-- a class or an id
mark-read : (code : ℕ) (name : List ℕ) (mark : Mark) → mark_of (code ∷ name) ≡ Some mark → (code ∷ name ≡ mark_text (Some mark)) × IsNamedMark (Some mark)
mark-read code name mark e = by (is_name name) (nat_eq code 46) (nat_eq code 35) refl refl refl e
  where
    by : (n d s : Bool) → is_name name ≡ n → nat_eq code 46 ≡ d → nat_eq code 35 ≡ s → cond n (cond d (Some (Class name)) (cond s (Some (Id name)) None)) None ≡ Some mark → (code ∷ name ≡ mark_text (Some mark)) × IsNamedMark (Some mark)
    by false d s named is other h = absurd (cc h)
    by true true s named is other h =
        let same : Class name ≡ mark = cc in
        subst (λ (m : Mark). (code ∷ name ≡ mark_text (Some m)) × IsNamedMark (Some m)) same (ap (λ (c : ℕ). c ∷ name) (eqb-true code 46 is), named)
    by true false true named is other h =
        let same : Id name ≡ mark = cc in
        subst (λ (m : Mark). (code ∷ name ≡ mark_text (Some m)) × IsNamedMark (Some m)) same (ap (λ (c : ℕ). c ∷ name) (eqb-true code 35 other), named)
    by true false false named is other h = absurd (cc h)

-- a tag, or none
tag-read : (text : List ℕ) (tag : Option (List ℕ)) (mark : Mark) → tag_of text ≡ Some tag → (text ≡ tag_text tag (Some mark)) × IsNamedTag tag
tag-read [] tag mark e =
    let same : None ≡ tag = cc in
    subst (λ (t : Option (List ℕ)). ([] ≡ tag_text t (Some mark)) × IsNamedTag t) same (refl, tt)
tag-read (first ∷ more) tag mark e = by (is_name (first ∷ more)) refl e
  where
    by : (b : Bool) → is_name (first ∷ more) ≡ b → cond b (Some (Some (first ∷ more))) None ≡ Some tag → (first ∷ more ≡ tag_text tag (Some mark)) × IsNamedTag tag
    by true named h =
        let same : Some (first ∷ more) ≡ tag = cc in
        subst (λ (t : Option (List ℕ)). (first ∷ more ≡ tag_text t (Some mark)) × IsNamedTag t) same (refl, named)
    by false named h = absurd (cc h)

marked-read : (text before name : List ℕ) (code : ℕ) (asked : Asked) → text ≡ before ++ (code ∷ name) → marked before (code ∷ name) ≡ Some asked → IsAsked text asked
marked-read text before name code asked whole e = by (tag_of before) (mark_of (code ∷ name)) refl refl e
  where
    by : (t : Option (Option (List ℕ))) (m : Option Mark) → tag_of before ≡ t → mark_of (code ∷ name) ≡ m → option_and_then (λ (tag : Option (List ℕ)). option_map (λ (mark : Mark). record { tag = tag; mark = Some mark }) m) t ≡ Some asked → IsAsked text asked
    by None m is_tag is_mark h = absurd (cc h)
    by (Some tag) None is_tag is_mark h = absurd (cc h)
    by (Some tag) (Some mark) is_tag is_mark h =
        let front = tag-read before tag mark is_tag in
        let back = mark-read code name mark is_mark in
        let same : record { tag = tag; mark = Some mark } ≡ asked = cc in
        subst (λ (a : Asked). IsAsked text a) same (record {
          whole = whole ∙ ap (λ (t : List ℕ). t ++ (code ∷ name)) front.0 ∙ ap (λ (t : List ℕ). tag_text tag (Some mark) ++ t) back.0;
          tag_named = front.1;
          mark_named = back.1;
        })

asked-read : (text : List ℕ) (asked : Asked) → asked_of text ≡ Some asked → IsAsked text asked
unfolding asked_of
asked-read text asked e = by (is_same text (codes "*")) (list_any begins_mark text) refl refl e
  where
    alone-by : (b : Bool) → is_name text ≡ b → cond b (Some (record { tag = Some text; mark = None })) None ≡ Some asked → IsAsked text asked
    alone-by true named h =
        let same : record { tag = Some text; mark = None } ≡ asked = cc in
        subst (λ (a : Asked). IsAsked text a) same (record { whole = sym (append-nil text); tag_named = named; mark_named = tt })
    alone-by false named h = absurd (cc h)

    by : (s m : Bool) → is_same text (codes "*") ≡ s → list_any begins_mark text ≡ m → cond s (Some (record { tag = None; mark = None })) (cond m (marked (before_first begins_mark text) (drop (position_or_len begins_mark text) text)) (asked_tag text)) ≡ Some asked → IsAsked text asked
    by true m star is h =
        let same : record { tag = None; mark = None } ≡ asked = cc in
        subst (λ (a : Asked). IsAsked text a) same (record { whole = same-text text (codes "*") star; tag_named = tt; mark_named = tt })
    by false true star is h =
        let cut = joined-at begins_mark text is in
        let place = ap (λ (t : List ℕ). drop (position_or_len begins_mark t) t) cut.end_to_end ∙ place-at begins_mark (before_first begins_mark text) (after_first begins_mark text) cut.code cut.lacks cut.passes in
        marked-read text (before_first begins_mark text) (after_first begins_mark text) cut.code asked cut.end_to_end (ap (marked (before_first begins_mark text)) (sym place) ∙ h)
    by false false star is h = alone-by (is_name text) refl h

pub selector-read : (selector : Selector) (text : List ℕ) → selector_of text ≡ Some selector → IsSelector selector text
unfolding selector_of
selector-read selector text e = by (before_pseudo_class text) refl e
  where
    joined : (found : Parted) → before_pseudo_class text ≡ Some found → (asked : Asked) → asked_of found.subject ≡ Some asked → selector_with found.pseudo_class asked ≡ selector → IsSelector selector text
    joined found is asked is_asked same =
        let subject = before-read text found is in
        let named = asked-read found.subject asked is_asked in
        subst (λ (s : Selector). IsSelector s text) same (record {
          behind = subject.behind;
          end_to_end = subject.whole ∙ ap (λ (t : List ℕ). t ++ subject.behind) named.whole ∙ append_assoc (tag_text asked.tag asked.mark) (mark_text asked.mark) subject.behind;
          tag_named = named.tag_named;
          mark_named = named.mark_named;
          pseudo_class = subject.pseudo_class;
        })

    asked-by : (found : Parted) → before_pseudo_class text ≡ Some found → (o : Option Asked) → asked_of found.subject ≡ o → option_map (selector_with found.pseudo_class) o ≡ Some selector → IsSelector selector text
    asked-by found is None is_asked h = absurd (cc h)
    asked-by found is (Some asked) is_asked h = let same : selector_with found.pseudo_class asked ≡ selector = cc in joined found is asked is_asked same

    by : (o : Option Parted) → before_pseudo_class text ≡ o → option_and_then (λ (p : Parted). option_map (selector_with p.pseudo_class) (asked_of p.subject)) o ≡ Some selector → IsSelector selector text
    by None is h = absurd (cc h)
    by (Some found) is h = asked-by found is (asked_of found.subject) refl h
