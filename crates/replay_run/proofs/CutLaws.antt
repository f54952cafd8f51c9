-- The first line of what is held, arm by arm.
use Rattle.std.proofs.Common.{◌≡◌, ◌≢◌, ℕ, ◌+◌, ◌-◌, ◌<◌, ◌≤◌, Bool, true, false, List, [], ◌∷◌}
use Rattle.std.proofs.Common.{◌++◌, All, length, take, drop, get_or, slice_get, ◌==◌, Some, refl}
use Rattle.std.proofs.Common.{sym, ap, ◌∙◌, subst, min, arith, append_assoc, append-nil, take_all}
use Rattle.std.proofs.Common.{length-take-le, take-take, take-append-drop, drop_of_length-le}
use Rattle.std.proofs.Common.{drop-drop, length-drop, le_refl, true≢false, ap₂, length-take}
use Rattle.std.proofs.Common.{get_or-take, eqb-true, add-one, ◌⊎◌, inl, inr}
use Rattle.std.proofs.lemmas.Bool.{cases_lt}
use Rattle.std.proofs.Math.Seq.{drop-cons}
use Rattle.std.proofs.lemmas.Bool.Decides.{nat_tests}
use Rattle.std.proofs.lemmas.List.Elements.{All-weaker}
use Rattle.std.specs.Str.Lines.{strip_carriage_return}
use Rattle.replay_run.specs.declared.record.Line.{Line}
use Rattle.replay_run.specs.declared.record.Line.TheVariants.{Item as Read, Nothing, Bad}
use Rattle.replay_run.specs.declared.record.NextLine.{NextLine}
use Rattle.replay_run.specs.declared.record.NextLine.TheVariants.{Line as Next, NeedMore, End}
use Rattle.replay_run.specs.Record.{line_of, lines_of}
use Rattle.replay_run.specs.RecordReader.{ReaderState, MayFollow, IsUnfinished}
use Rattle.replay_run.specs.Reading.{state, IsFirstCut}
use Rattle.replay_run.proofs.FirstPlaces.{IsFirstPlace}
use Rattle.replay_run.proofs.LineLaws.{lines_of_ended, lines_of_last, lines_of-nil, lines_of_long}

not_line_feed : (byte : ℕ) → (byte == 10) ≡ false → byte ≢ 10
not_line_feed byte e = grind (arith, nat_tests)

no_line_feed : (bytes : List ℕ) → All (λ byte. (byte == 10) ≡ false) (take 130 bytes)
    → length bytes < 130 → All (λ byte. byte ≢ 10) bytes
no_line_feed bytes clear short =
    let whole : take 130 bytes ≡ bytes = take_all 130 bytes (omega arith) in
    let P : List ℕ → Type 0 = All (λ byte. (byte == 10) ≡ false) in
    All-weaker (λ byte. (byte == 10) ≡ false) (λ byte. byte ≢ 10) not_line_feed bytes
    (subst P whole clear)

long_begins_bad : (held more : List ℕ) → All (λ byte. (byte == 10) ≡ false) (take 130 held)
    → 130 ≤ length held → slice_get (lines_of (held ++ more)) 0 ≡ Some Bad
long_begins_bad held more clear long =
    let cut : held ++ more ≡ take 130 held ++ (drop 130 held ++ more) =
    ap (λ bytes. bytes ++ more) (sym (take-append-drop 130 held))
    ∙ append_assoc (take 130 held) (drop 130 held) more in
    ap (λ bytes. slice_get (lines_of bytes) 0) cut
    ∙ lines_of_long (take 130 held) (drop 130 held ++ more) clear
    (omega (arith, length-take-le 130 held long))

-- the bytes are too many for a line
pub cut_long : (held : List ℕ) (ended : Bool) (noted : NextLine) (taken : ℕ)
    → All (λ byte. (byte == 10) ≡ false) (take 130 held) → 130 ≤ length held → noted ≡ Next Bad
    → taken ≡ 0 → IsFirstCut held ended noted taken
cut_long held ended noted taken clear long is_bad none = record {
  good = λ line g e. let same : line ≡ Bad = cc in absurd (g same);
  bad = λ e more follows. long_begins_bad held more clear long;
  need_more = (λ e. absurd (cc), λ waits. absurd (omega (arith, waits.short)));
  end = (λ e. absurd (cc), λ over. absurd (omega (arith, ap length (over.none))));
  is_within = omega arith;
  takes = λ line g e. let same : line ≡ Bad = cc in absurd (g same);
  stays = λ good. none;
}

-- more bytes are needed
pub cut_unfinished : (held : List ℕ) (ended : Bool) (noted : NextLine) (taken : ℕ)
    → All (λ byte. (byte == 10) ≡ false) (take 130 held) → length held < 130 → ended ≡ false
    → noted ≡ NeedMore → taken ≡ 0 → IsFirstCut held ended noted taken
cut_unfinished held ended noted taken clear short open_end is_more none = record {
  good = λ line g e. absurd (cc);
  bad = λ e more follows. absurd (cc);
  need_more = (
    λ e. record {
      open_end = open_end;
      no_line_feed = no_line_feed held clear short;
      short = short;
    },
    λ waits. is_more,
  );
  end = (λ e. absurd (cc), λ over. absurd (true≢false (sym (over.ended) ∙ open_end)));
  is_within = omega arith;
  takes = λ line g e. absurd (cc);
  stays = λ good. none;
}

-- no line is left
pub cut_over : (held : List ℕ) (ended : Bool) (noted : NextLine) (taken : ℕ) → ended ≡ true → held
    ≡ [] → noted ≡ End → taken ≡ 0 → IsFirstCut held ended noted taken
cut_over held ended noted taken over empty is_end none = record {
  good = λ line g e. absurd (cc);
  bad = λ e more follows. absurd (cc);
  need_more = (λ e. absurd (cc), λ waits. absurd (true≢false (sym over ∙ waits.open_end)));
  end = (λ e. record { ended = over; none = empty }, λ end. is_end);
  is_within = omega arith;
  takes = λ line g e. absurd (cc);
  stays = λ good. none;
}

-- a line is there that isn't bad
next_good : (held : List ℕ) (ended : Bool) (noted : NextLine) (taken n : ℕ) (line : Line)
    → line ≢ Bad
    → ((more : List ℕ) → MayFollow (state held ended) more → lines_of (held ++ more)
    ≡ line ∷ lines_of (drop n held ++ more))
    → 0 < n → n ≤ length held → (IsUnfinished (state held ended) → ⊥) → noted ≡ Next line → taken
    ≡ n → IsFirstCut held ended noted taken
next_good held ended noted taken n line is_good ahead some fits closed is_next all = record {
  good = λ other g e more follows.
      let same : line ≡ other = cc in
      ahead more follows ∙ ap₂ (λ l rest. l ∷ lines_of (drop rest held ++ more)) same (sym all);
  bad = λ e more follows. let same : line ≡ Bad = cc in absurd (is_good same);
  need_more = (λ e. absurd (cc), λ waits. absurd (closed waits));
  end = (λ e. absurd (cc), λ over. absurd (omega (arith, ap length (over.none))));
  is_within = omega arith;
  takes = λ other g e. omega arith;
  stays = λ none. absurd (none line is_good is_next);
}

-- a line is there
next_line : (held : List ℕ) (ended : Bool) (noted : NextLine) (taken n : ℕ) (line : Line)
    → ((more : List ℕ) → MayFollow (state held ended) more → lines_of (held ++ more)
    ≡ line ∷ lines_of (drop n held ++ more))
    → 0 < n → n ≤ length held → (IsUnfinished (state held ended) → ⊥) → noted ≡ Next line
    → (line ≢ Bad → taken ≡ n) → (line ≡ Bad → taken ≡ 0)
    → IsFirstCut held ended noted taken
next_line held ended noted taken n (Read item) ahead some fits closed is_next good bad =
    let is_good : Read item ≢ Bad = λ e. cc in
    next_good held ended noted taken n (Read item) is_good ahead some fits closed is_next
    (good is_good)
next_line held ended noted taken n Nothing ahead some fits closed is_next good bad =
    let is_good : Nothing ≢ Bad = λ e. cc in
    next_good held ended noted taken n Nothing is_good ahead some fits closed is_next
    (good is_good)
next_line held ended noted taken n Bad ahead some fits closed is_next good bad = record {
  good = λ other g e. let same : other ≡ Bad = cc in absurd (g same);
  bad = λ e more follows. ap (λ lines. slice_get lines 0) (ahead more follows);
  need_more = (λ e. absurd (cc), λ waits. absurd (closed waits));
  end = (λ e. absurd (cc), λ over. absurd (omega (arith, ap length (over.none))));
  is_within = let none : taken ≡ 0 = bad refl in omega arith;
  takes = λ other g e. let same : other ≡ Bad = cc in absurd (g same);
  stays = λ none. bad refl;
}

-- the last line, which lacks its end
pub cut_last : (held : List ℕ) (ended : Bool) (noted : NextLine) (taken : ℕ) (line : Line)
    → All (λ byte. (byte == 10) ≡ false) (take 130 held) → length held < 130 → 0 < length held
    → ended ≡ true → line ≡ line_of held → noted ≡ Next line → (line ≢ Bad → taken ≡ length held)
    → (line ≡ Bad → taken ≡ 0) → IsFirstCut held ended noted taken
cut_last held ended noted taken line clear short some over is_line is_next good bad =
    let whole : take 130 held ≡ held = take_all 130 held (omega arith) in
    let P : List ℕ → Type 0 = All (λ byte. (byte == 10) ≡ false) in
    let only : lines_of held ≡ line_of held ∷ [] = lines_of_last held (subst P whole clear) some in
    next_line held ended noted taken (length held) line
    (λ more follows.
    let none : more ≡ [] = follows over in
    let left : drop (length held) held ++ more ≡ [] =
    ap₂ (λ front rest. front ++ rest) (drop_of_length-le held (le_refl (length held))) none in
    ap lines_of (ap (λ rest. held ++ rest) none ∙ append-nil held) ∙ only
    ∙ ap₂ (λ first rest. first ∷ rest) (sym is_line) (sym (ap lines_of left ∙ lines_of-nil)))
    some (le_refl (length held)) (λ waits. true≢false (sym over ∙ waits.open_end)) is_next good bad

-- bytes up to the first line feed, and those behind it
ends_at : (held more : List ℕ) (place n : ℕ) → IsFirstPlace (λ byte. byte == 10)
    (take n held) place → lines_of (held ++ more)
    ≡ line_of (strip_carriage_return (take place held)) ∷ lines_of (drop (place + 1) held ++ more)
ends_at held more place n first =
    let near : place < n = omega (arith, first.is_within, length-take n held) in
    let fits : place < length held = omega (arith, first.is_within, length-take n held) in
    let front : take place (take n held) ≡ take place held = take-take place n held (omega arith) in
    let feed : get_or held place 0 ≡ 10 = sym (get_or-take n held place 0 near)
    ∙ eqb-true _ _ (first.here 0) in
    let P : List ℕ → Type 0 = All (λ byte. (byte == 10) ≡ false) in
    let behind : drop place held ≡ 10 ∷ drop (place + 1) held = drop-cons held place 0 fits
    ∙ ap₂ (λ byte rest. byte ∷ drop rest held) feed (sym (add-one place)) in
    let cut : held ++ more ≡ take place held ++ 10 ∷ (drop (place + 1) held ++ more) =
    ap (λ bytes. bytes ++ more) (sym (take-append-drop place held))
    ∙ append_assoc (take place held) (drop place held) more
    ∙ ap (λ bytes. take place held ++ (bytes ++ more)) behind in
    ap lines_of cut ∙ lines_of_ended (take place held) (drop (place + 1) held ++ more)
    (subst P front (first.before))

held_feed : (held : List ℕ) (place n : ℕ) → IsFirstPlace (λ byte. byte == 10) (take n held) place
    → All (λ byte. byte ≢ 10) held → ⊥
held_feed held place n first none =
    let near : place < n = omega (arith, first.is_within, length-take n held) in
    let fits : place < length held = omega (arith, first.is_within, length-take n held) in
    none place 0 fits (sym (get_or-take n held place 0 near) ∙ eqb-true _ _ (first.here 0))

-- a line with its line feed
pub cut_ended : (held : List ℕ) (ended : Bool) (noted : NextLine) (taken place n : ℕ) (line : Line)
    → IsFirstPlace (λ byte. byte == 10) (take n held) place → line
    ≡ line_of (strip_carriage_return (take place held)) → noted ≡ Next line
    → (line ≢ Bad → taken ≡ place + 1) → (line ≡ Bad → taken ≡ 0)
    → IsFirstCut held ended noted taken
cut_ended held ended noted taken place n line first is_line is_next good bad =
    next_line held ended noted taken (place + 1) line
    (λ more follows. ends_at held more place n first
    ∙ ap (λ l. l ∷ lines_of (drop (place + 1) held ++ more)) (sym is_line))
    (omega arith) (omega (arith, first.is_within, length-take n held))
    (λ waits. held_feed held place n first (waits.no_line_feed)) is_next good bad

-- the front in which a line feed is looked for
pub same_front : (held : List ℕ) (n : ℕ) → n ≡ min (length held) 130 → take n held ≡ take 130 held
same_front held n e = by_size held n e (cases_lt (length held) 130)
  where
    by_size : (held : List ℕ) (n : ℕ) → n ≡ min (length held) 130 → (length held < 130)
        ⊎ (130 ≤ length held) → take n held ≡ take 130 held
    by_size held n e (inl short) = take_all n held (omega arith)
        ∙ sym (take_all 130 held (omega arith))
    by_size held n e (inr long) = let all : n ≡ 130 = omega arith in ap (λ m. take m held) all

-- the same of a reader, whose bytes held stand behind those that it has given
pub gives_good : (items slice : List ℕ) (start taken : ℕ) (ended : Bool) (noted : NextLine)
    (old : ReaderState)
    → slice ≡ items → state (drop start items) ended ≡ old
    → IsFirstCut (take (length slice - start) (drop start slice)) ended noted taken
    → (line : Line) → line ≢ Bad → noted ≡ Next line
    → (more : List ℕ) → MayFollow old more → lines_of (old.held ++ more)
    ≡ line ∷ lines_of (drop (start + taken) items ++ more)
gives_good items slice start taken ended noted old same seen cut line is_good e more follows =
    let whole : take (length slice - start) (drop start slice) ≡ drop start items =
    take_all (length slice - start) (drop start slice) (omega (arith, length-drop start slice))
    ∙ ap (drop start) same in
    let P : List ℕ → Type 0 = λ held. IsFirstCut held ended noted taken in
    let here : IsFirstCut (drop start items) ended noted taken = subst P whole cut in
    let Q : ReaderState → Type 0 = λ reader. MayFollow reader more in
    ap (λ reader. lines_of (reader.held ++ more)) (sym seen)
    ∙ here.good line is_good e more (subst Q (sym seen) follows)
    ∙ ap (λ rest. line ∷ lines_of (rest ++ more)) (drop-drop taken start items)
