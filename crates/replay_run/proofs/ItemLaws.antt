-- What line is an item, and what line asks for nothing.
use Rattle.std.proofs.Common.{◌≡◌, ◌≢◌, ℕ, ◌≤◌, inl, inr, ◌⊎◌, Bool, true, false, cond, ◌&&◌}
use Rattle.std.proofs.Common.{nat_le, List, [], ◌∷◌, codes, length, Option, Some, None}
use Rattle.std.proofs.Common.{option_and_then, refl, sym, ap, ap₂, subst, ◌∙◌, arith, eqb-true}
use Rattle.std.proofs.Common.{leb-true, le-leb}
use Rattle.std.proofs.lemmas.Bool.{lt-ltb, ltb-true}
use Rattle.std.proofs.lemmas.Int.{ints}
use Rattle.std.proofs.lemmas.Bool.{and_from, and_parts}
use Rattle.std.specs.Prelude.{ℤ, pos, ◌≤ℤ◌, nat_lt, option_map}
use Rattle.std.proofs.lemmas.Option.{cond_some, none-some, same_Some, option_and_then_some}
use Rattle.std.specs.Cmp.Lexicographic.{bytes_decides}
use Rattle.bml_bytes.specs.Numerals.{decimal_field}
use Rattle.bml_bytes.specs.Words.{is_same}
use Rattle.receiver_core.specs.declared.broadcast.Input.TheVariants.{Date, Key, Release, Random}
use Rattle.receiver_core.specs.declared.broadcast.Input.TheVariants.{Rows, Show}
use Rattle.receiver_core.specs.Receiving.{IsDate, day_length, last_day}
use Rattle.text_lines.specs.declared.row_lines.Align.{Align}
use Rattle.text_lines.specs.declared.row_lines.Align.TheVariants.{Left, Center, Right}
use Rattle.replay_run.specs.declared.record.RecordItem.{RecordItem}
use Rattle.replay_run.specs.declared.record.RecordItem.TheVariants.{All, Packets, Tick, Input}
use Rattle.replay_run.specs.declared.record.Line.{Line}
use Rattle.replay_run.specs.declared.record.Line.TheVariants.{Item as Read, Nothing, Bad}
use Rattle.replay_run.specs.Record.{fields, is_key, tick_limit, item_where, numbered_item}
use Rattle.replay_run.specs.Record.{plain_item, item_of, item_line, is_comment, line_with, line_of}
use Rattle.replay_run.specs.Record.{align_of, align_word, date_item, longer_item, rows_item}
use Rattle.replay_run.specs.Record.{spacing_limit, worded_item}
use Rattle.replay_run.specs.Record.{AskForRows, HasNumber, IsWritten, AsksNothing, TellDate}

-- ---- from how it is written

-- a line of a name and a number, where these are an item
number_written : (name : List ℕ) (count : ℕ) (item : RecordItem) (words : List (List ℕ))
    → HasNumber name count words → is_comment name ≡ false → numbered_item name count ≡ Some item
    → line_with words ≡ Read item
number_written name count item words w plain e =
    ap line_with w.1
    ∙ ap (λ b. cond b Nothing (item_line (option_and_then (numbered_item name) (decimal_field w.0))))
    plain
    ∙ ap (λ o. item_line (option_and_then (numbered_item name) o)) w.2
    ∙ ap item_line e

item_at : (test : Bool) (item : RecordItem) → test ≡ true → item_where test item ≡ Some item
item_at test item e = ap (λ b. item_where b item) e

align_read : (align : Align) → align_of (align_word align) ≡ Some align
align_read Left = refl
align_read Center = refl
align_read Right = refl

-- a line that asks for rows
rows_written : (spacing : ℕ) (align : Align) (words : List (List ℕ))
    → AskForRows spacing align words → spacing ≤ spacing_limit
    → line_with words ≡ Read (Input (Rows spacing align))
rows_written spacing align words w within =
    ap line_with w.1
    ∙ ap (λ o. item_line
    (option_and_then (λ n. longer_item (codes "rows") n (align_word align)) o)) w.2
    ∙ ap (λ o. item_line (option_and_then (rows_item spacing) o)) (align_read align)
    ∙ ap item_line (item_at (nat_le spacing spacing_limit) (Input (Rows spacing align))
    (le-leb spacing spacing_limit within))

-- the number of a day
day_number : (field : Option ℕ) (day : ℤ) → option_map pos field ≡ Some day
    → (number : ℕ) × (field ≡ Some number) × (pos number ≡ day)
day_number None day e = absurd (none-some day e)
day_number (Some number) day e = (number, refl, same_Some (pos number) day e)

small_day : (number : ℕ) (day : ℤ) → pos number ≡ day → day ≤ℤ pos last_day → number ≤ last_day
small_day number day same within =
    let bound : pos number ≤ℤ pos last_day = subst (λ z. z ≤ℤ pos last_day) (sym same) within in
    omega (arith, ints, bound)

-- a line that tells a date
date_written : (day : ℤ) (second : ℕ) (words : List (List ℕ)) → TellDate day second words
    → IsDate day second → line_with words ≡ Read (Input (Date day second))
date_written day second words (first, last, written, is_day, is_second) within =
    let number = day_number (decimal_field first) day is_day in
    ap line_with written
    ∙ ap (λ o. item_line (option_and_then (λ n. longer_item (codes "date") n last) o)) number.1
    ∙ ap (λ o. item_line (option_and_then (date_item number.0) o)) is_second
    ∙ ap item_line
    (item_at (nat_le number.0 last_day && nat_lt second day_length)
    (Input (Date (pos number.0) second))
    (and_from _ _ (le-leb number.0 last_day (small_day number.0 day number.2 within.1))
    (lt-ltb second day_length within.2)))
    ∙ ap (λ z. Read (Input (Date z second))) number.2

written : (item : RecordItem) (words : List (List ℕ)) → IsWritten item words → line_with words
    ≡ Read item
written All words w = ap line_with w
written (Packets count) words w =
    number_written (codes "packets") count (Packets count) words w.0 refl
    (item_at (nat_le 1 count) (Packets count) (le-leb 1 count (omega (arith, w.1))))
written (Input (Key key)) words w =
    number_written (codes "key") key (Input (Key key)) words w.0 refl
    (item_at (is_key key) (Input (Key key)) w.1)
written (Input (Release key)) words w =
    number_written (codes "release") key (Input (Release key)) words w.0 refl
    (item_at (is_key key) (Input (Release key)) w.1)
written (Tick count) words w =
    number_written (codes "tick") count (Tick count) words w.0 refl
    (item_at (nat_le 1 count && nat_le count tick_limit) (Tick count)
    (and_from _ _ (le-leb 1 count (omega (arith, w.1))) (le-leb count tick_limit w.2)))
written (Input (Random word)) words w =
    number_written (codes "random") word (Input (Random word)) words w refl refl
written (Input (Date day second)) words w = date_written day second words w.0 w.1
written (Input Show) words w = ap line_with w
written (Input (Rows spacing align)) words w = rows_written spacing align words w.0 w.1

comment_written : (name : List ℕ) (more : List (List ℕ)) → line_with ((35 ∷ name) ∷ more) ≡ Nothing
comment_written name more = refl

nothing_written : (words : List (List ℕ)) → AsksNothing words → line_with words ≡ Nothing
nothing_written words (inl none) = ap line_with none
nothing_written words (inr c) = ap line_with c.2 ∙ comment_written c.0 c.1

short_line : (line : List ℕ) → length line ≤ 128 → line_of line ≡ line_with (fields line)
unfolding line_of
short_line line short = ap (λ b. cond b (line_with (fields line)) Bad)
    (le-leb (length line) 128 short)

pub item_read : (line : List ℕ) (item : RecordItem) → length line ≤ 128
    → IsWritten item (fields line) → line_of line ≡ Read item
item_read line item short w = short_line line short ∙ written item (fields line) w

pub nothing_read : (line : List ℕ) → length line ≤ 128 → AsksNothing (fields line) → line_of line
    ≡ Nothing
nothing_read line short w = short_line line short ∙ nothing_written (fields line) w

-- ---- and back

-- a choice that is something
choice : {A : Type 0} (test : Bool) (one other : Option A) (item : A)
    → cond test one other ≡ Some item → ((test ≡ true) × (one ≡ Some item)) ⊎ (other ≡ Some item)
choice true one other item e = inl (refl, e)
choice false one other item e = inr e

same_written : (words : List (List ℕ)) (found item : RecordItem) → found ≡ item
    → IsWritten found words → IsWritten item words
same_written words found item e w =
    let P : RecordItem → Type 0 = λ i. IsWritten i words in subst P e w

plain_words : (name : List ℕ) (item : RecordItem) → plain_item name ≡ Some item
    → IsWritten item (name ∷ [])
plain_words name item e =
    elim (choice (is_same name (codes "all")) _ _ item e) [
      | inl c ↦ same_written _ All item (same_Some All item c.1)
          (ap (λ word. word ∷ []) ((bytes_decides name (codes "all")).0 c.0))
      | inr e ↦ elim (choice (is_same name (codes "show")) _ _ item e) [
        | inl c ↦ same_written _ (Input Show) item (same_Some (Input Show) item c.1)
            (ap (λ word. word ∷ []) ((bytes_decides name (codes "show")).0 c.0))
        | inr none ↦ absurd (none-some item none)
      ]
    ]

has_number : (name number : List ℕ) (count : ℕ) → decimal_field number ≡ Some count
    → (word : List ℕ) → is_same name word ≡ true → HasNumber word count (name ∷ number ∷ [])
has_number name number count e word same =
    (number, ap (λ w. w ∷ number ∷ []) ((bytes_decides name word).0 same), e)

-- the item of a name and a number, name by name
packets_words : (words : List (List ℕ)) (count : ℕ) (item : RecordItem)
    → HasNumber (codes "packets") count words
    → item_where (nat_le 1 count) (Packets count) ≡ Some item → IsWritten item words
packets_words words count item has e =
    let p = cond_some (nat_le 1 count) (Packets count) item e in
    same_written words (Packets count) item p.1 (has, omega (arith, leb-true 1 count p.0))

key_words : (words : List (List ℕ)) (key : ℕ) (item : RecordItem)
    → HasNumber (codes "key") key words → item_where (is_key key) (Input (Key key)) ≡ Some item
    → IsWritten item words
key_words words key item has e =
    let p = cond_some (is_key key) (Input (Key key)) item e in
    same_written words (Input (Key key)) item p.1 (has, p.0)

release_words : (words : List (List ℕ)) (key : ℕ) (item : RecordItem)
    → HasNumber (codes "release") key words
    → item_where (is_key key) (Input (Release key)) ≡ Some item → IsWritten item words
release_words words key item has e =
    let p = cond_some (is_key key) (Input (Release key)) item e in
    same_written words (Input (Release key)) item p.1 (has, p.0)

tick_words : (words : List (List ℕ)) (count : ℕ) (item : RecordItem)
    → HasNumber (codes "tick") count words
    → item_where (nat_le 1 count && nat_le count tick_limit) (Tick count) ≡ Some item
    → IsWritten item words
tick_words words count item has e =
    let p = cond_some (nat_le 1 count && nat_le count tick_limit) (Tick count) item e in
    let bounds = and_parts (nat_le 1 count) (nat_le count tick_limit) p.0 in
    same_written words (Tick count) item p.1
    (has, omega (arith, leb-true 1 count bounds.0), leb-true count tick_limit bounds.1)

number_words : (name number : List ℕ) (count : ℕ) (item : RecordItem)
    → decimal_field number ≡ Some count → numbered_item name count ≡ Some item
    → IsWritten item (name ∷ number ∷ [])
number_words name number count item is_number e =
    let has = has_number name number count is_number in
    elim (choice (is_same name (codes "packets")) _ _ item e) [
      | inl c ↦ packets_words _ count item (has (codes "packets") c.0) c.1
      | inr e ↦ elim (choice (is_same name (codes "key")) _ _ item e) [
        | inl c ↦ key_words _ count item (has (codes "key") c.0) c.1
        | inr e ↦ elim (choice (is_same name (codes "release")) _ _ item e) [
          | inl c ↦ release_words _ count item (has (codes "release") c.0) c.1
          | inr e ↦ elim (choice (is_same name (codes "tick")) _ _ item e) [
            | inl c ↦ tick_words _ count item (has (codes "tick") c.0) c.1
            | inr e ↦ elim (choice (is_same name (codes "random")) _ _ item e) [
              | inl c ↦ same_written _ (Input (Random count)) item
                  (same_Some (Input (Random count)) item c.1) (has (codes "random") c.0)
              | inr none ↦ absurd (none-some item none)
            ]
          ]
        ]
      ]
    ]

-- where rows stand, word by word
align_is : (word : List ℕ) (align : Align) → align_of word ≡ Some align → word ≡ align_word align
align_is word align e =
    elim (choice (is_same word (codes "left")) _ _ align e) [
      | inl c ↦ (bytes_decides word (codes "left")).0 c.0
          ∙ ap align_word (same_Some Left align c.1)
      | inr e ↦ elim (choice (is_same word (codes "center")) _ _ align e) [
        | inl c ↦ (bytes_decides word (codes "center")).0 c.0
            ∙ ap align_word (same_Some Center align c.1)
        | inr e ↦ elim (choice (is_same word (codes "right")) _ _ align e) [
          | inl c ↦ (bytes_decides word (codes "right")).0 c.0
              ∙ ap align_word (same_Some Right align c.1)
          | inr none ↦ absurd (none-some align none)
        ]
      ]
    ]

rows_words : (name number word : List ℕ) (count : ℕ) (item : RecordItem)
    → is_same name (codes "rows") ≡ true → decimal_field number ≡ Some count
    → option_and_then (rows_item count) (align_of word) ≡ Some item
    → IsWritten item (name ∷ number ∷ word ∷ [])
rows_words name number word count item same is_number e =
    option_and_then_some (rows_item count) (align_of word) item e (λ align is_align found.
    let p = cond_some (nat_le count spacing_limit) (Input (Rows count align)) item found in
    same_written _ (Input (Rows count align)) item p.1 (
      (
        number,
        ap₂ (λ n w. n ∷ number ∷ w ∷ []) ((bytes_decides name (codes "rows")).0 same)
            (align_is word align is_align),
        is_number,
      ),
      leb-true count spacing_limit p.0,
    ))

date_words : (name number last : List ℕ) (day : ℕ) (item : RecordItem)
    → is_same name (codes "date") ≡ true → decimal_field number ≡ Some day
    → option_and_then (date_item day) (decimal_field last) ≡ Some item
    → IsWritten item (name ∷ number ∷ last ∷ [])
date_words name number last day item same is_number e =
    option_and_then_some (date_item day) (decimal_field last) item e (λ second is_second found.
    let p = cond_some (nat_le day last_day && nat_lt second day_length)
    (Input (Date (pos day) second)) item found in
    let bounds = and_parts (nat_le day last_day) (nat_lt second day_length) p.0 in
    let most : day ≤ last_day = leb-true day last_day bounds.0 in
    same_written _ (Input (Date (pos day) second)) item p.1 (
      (
        number,
        last,
        ap (λ n. n ∷ number ∷ last ∷ []) ((bytes_decides name (codes "date")).0 same),
        ap (option_map pos) is_number,
        is_second,
      ),
      (
        omega (arith, ints),
        omega (arith, ints, most),
        ltb-true second day_length bounds.1,
      ),
    ))

-- the item of a name, a number and a word
word_words : (name number word : List ℕ) (count : ℕ) (item : RecordItem)
    → decimal_field number ≡ Some count → worded_item name count word ≡ Some item
    → IsWritten item (name ∷ number ∷ word ∷ [])
word_words name number word count item is_number e =
    elim (choice (is_same name (codes "rows")) _ _ item e) [
      | inl c ↦ rows_words name number word count item c.0 is_number c.1
      | inr none ↦ absurd (none-some item none)
    ]

-- the item of a name, a number and one field more
longer_words : (name number last : List ℕ) (count : ℕ) (item : RecordItem)
    → decimal_field number ≡ Some count → longer_item name count last ≡ Some item
    → IsWritten item (name ∷ number ∷ last ∷ [])
longer_words name number last count item is_number e =
    elim (choice (is_same name (codes "date")) _ _ item e) [
      | inl c ↦ date_words name number last count item c.0 is_number c.1
      | inr e ↦ word_words name number last count item is_number e
    ]

item_words : (words : List (List ℕ)) (item : RecordItem) → item_of words ≡ Some item
    → IsWritten item words
item_words [] item e = absurd (none-some item e)
item_words (name ∷ []) item e = plain_words name item e
item_words (name ∷ number ∷ []) item e =
    option_and_then_some (numbered_item name) (decimal_field number) item e
    (λ count is_number found. number_words name number count item is_number found)
item_words (name ∷ number ∷ word ∷ []) item e =
    option_and_then_some (λ n. longer_item name n word) (decimal_field number) item e
    (λ count is_number found. longer_words name number word count item is_number found)
item_words (name ∷ number ∷ word ∷ other ∷ more) item e = absurd (none-some item e)

read_case : (found : Option RecordItem) (item : RecordItem) → item_line found ≡ Read item → found
    ≡ Some item
read_case None item e = let clash : Bad ≡ Read item = e in cc
read_case (Some other) item e = let same : other ≡ item = cc in ap Some same

not_nothing : (found : Option RecordItem) → item_line found ≢ Nothing
not_nothing None e = let clash : Bad ≡ Nothing = e in cc
not_nothing (Some item) e = let clash : Read item ≡ Nothing = e in cc

-- a choice between nothing and a line that may be an item
item_choice : (comment : Bool) (line : Line) (item : RecordItem) → cond comment Nothing line
    ≡ Read item → line ≡ Read item
item_choice true line item e = let clash : Nothing ≡ Read item = e in cc
item_choice false line item e = e

nothing_choice : (comment : Bool) (line : Line) → cond comment Nothing line ≡ Nothing
    → line ≢ Nothing → comment ≡ true
nothing_choice true line e other = refl
nothing_choice false line e other = absurd (other e)

line_words : (words : List (List ℕ)) (item : RecordItem) → line_with words ≡ Read item
    → IsWritten item words
line_words [] item e = let clash : Nothing ≡ Read item = e in cc
line_words (name ∷ more) item e =
    item_words (name ∷ more) item (read_case _ item (item_choice (is_comment name) _ item e))

comment_name : (name : List ℕ) (more : List (List ℕ)) → is_comment name ≡ true
    → AsksNothing (name ∷ more)
comment_name [] more e = let clash : false ≡ true = e in cc
comment_name (byte ∷ name) more e =
    inr (name, more, ap (λ b. (b ∷ name) ∷ more) (eqb-true byte 35 e))

nothing_words : (words : List (List ℕ)) → line_with words ≡ Nothing → AsksNothing words
nothing_words [] e = inl refl
nothing_words (name ∷ more) e =
    comment_name name more
    (nothing_choice (is_comment name) _ e (not_nothing (item_of (name ∷ more))))

-- a choice that is a good line
good_choice : (short : Bool) (line good : Line) → good ≢ Bad → cond short line Bad ≡ good
    → (short ≡ true) × (line ≡ good)
good_choice true line good is_good e = (refl, e)
good_choice false line good is_good e = absurd (is_good (sym e))

pub read_item : (line : List ℕ) (item : RecordItem) → line_of line ≡ Read item
    → (length line ≤ 128) × IsWritten item (fields line)
unfolding line_of
read_item line item e =
    let c = good_choice (nat_le (length line) 128) (line_with (fields line)) (Read item)
    (λ clash. cc) e in
    (leb-true (length line) 128 c.0, line_words (fields line) item c.1)

pub read_nothing : (line : List ℕ) → line_of line ≡ Nothing → (length line ≤ 128)
    × AsksNothing (fields line)
unfolding line_of
read_nothing line e =
    let c = good_choice (nat_le (length line) 128) (line_with (fields line)) Nothing
    (λ clash. cc) e in
    (leb-true (length line) 128 c.0, nothing_words (fields line) c.1)
