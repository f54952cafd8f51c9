-- The steps of reading a record, over plain values.
use Rattle.std.proofs.Common.{◌≡◌, ◌≢◌, ℕ, ◌+◌, ◌-◌, ◌<◌, ◌≤◌, true, false, List, [], ◌∷◌, ◌++◌, All}
use Rattle.std.proofs.Common.{refl, sym, ap, ◌∙◌, subst, append_assoc, append-nil, length, Option}
use Rattle.std.proofs.Common.{Some, None, arith, length-append, slice_get, map, take, ◌⊎◌, inl, inr}
use Rattle.bml_ports.specs.Worlds.{WorldState}
use Rattle.std.specs.Str.Lines.{lines}
use Rattle.std.specs.List.{filter_map}
use Rattle.std.proofs.lemmas.List.Elements.{All-push, filter_map-append}
use Rattle.receiver_core.specs.Fronts.{IsFront}
use Rattle.replay_run.specs.declared.record.RecordItem.{RecordItem}
use Rattle.replay_run.specs.declared.record.RecordItem.TheVariants.{All as Every, Packets, Tick, Input}
use Rattle.replay_run.specs.declared.record.Line.{Line}
use Rattle.replay_run.specs.declared.record.Line.TheVariants.{Item as Read, Nothing, Bad}
use Rattle.replay_run.specs.RecordProgress.{RecordState, IsAt, IsAtItem, IsWhole, IsBadBehind}
use Rattle.replay_run.specs.RecordProgress.{IsFresh, IsReadForLine, WasReadForLine}
use Rattle.receiver_core.specs.Receiving.{MayCome}
use Rattle.receiver_core.specs.declared.broadcast.Input.{Input as HandedIn}
use Rattle.receiver_core.specs.declared.broadcast.Input.TheVariants as handed
use Rattle.replay_run.specs.Play.{MayBeHandled, milliseconds_of}
use Rattle.replay_run.specs.Record.{line_of, tick_limit, IsWritten}
use Rattle.replay_run.specs.Record.{lines_of, item_in, items_until_bad, items_before_bad, first_bad}
use Rattle.replay_run.specs.RecordReader.{ReaderState, Gives, BeginsBad, DropsFront, IsOver}
use Rattle.replay_run.specs.Needs.{most_ahead}
use Rattle.replay_run.specs.Files.{file, GaveMore, GaveAtMost, record_limit}
use Rattle.replay_run.proofs.ItemLaws.{read_item}
use Rattle.replay_run.proofs.ProgressLaws.{skipped_front}
use Rattle.replay_run.proofs.RecordLaws.{AreGood, items-good, whole_items, whole_bad, bad_items}
use Rattle.replay_run.proofs.RecordLaws.{bad_number}

-- a list whose first element is known
pub first_known : (lines : List Line) (line : Line) → slice_get lines 0 ≡ Some line
    → (more : List Line) × (lines ≡ line ∷ more)
first_known [] line e = let clash : None ≡ Some line = e in cc
first_known (x ∷ more) line e = let same : x ≡ line = cc in (more, ap (λ l. l ∷ more) same)

no_lines_of : lines_of [] ≡ []
unfolding lines_of
no_lines_of = refl

no_lines : All (λ (line : Line). line ≢ Bad) []
no_lines = λ k d l. absurd (omega arith)

-- a record begins
pub at_start : (notes : List ℕ) (now : RecordState)
    → now.left ≡ Some notes → now.reader.held ≡ [] → now.reader.ended ≡ false → now.bytes ≡ 0
    → now.lines ≡ 0
    → IsAt notes now []
at_start notes now l held open_end bytes lines = record {
  taken = [];
  rest = notes;
  lines = [];
  left_is = l;
  whole = refl;
  counted = bytes;
  ended = λ e. let clash : true ≡ false = sym e ∙ open_end in cc;
  before = [];
  taken_is = sym held;
  ahead = λ more may. ap (λ l. lines_of (l ++ more)) (sym held);
  few = omega (arith, ap length held);
  good = no_lines;
  items_are = refl;
  numbered = lines;
}

-- what one more line leaves
abbrev pub behind_line : RecordState → ReaderState → RecordState
behind_line now reader = record now { reader = reader; lines = now.lines + 1 }

-- one more line was read that isn't bad
at_line : (notes : List ℕ) (now : RecordState) (items : List RecordItem) (reader : ReaderState)
    (line : Line)
    → line ≢ Bad → Gives now.reader line reader → DropsFront now.reader reader
    → IsAt notes now items
    → IsAt notes (behind_line now reader) (items ++ filter_map item_in (line ∷ []))
at_line notes now items reader line is_good gives drops a = record {
  taken = a.taken;
  rest = a.rest;
  lines = a.lines ++ line ∷ [];
  left_is = a.left_is;
  whole = a.whole;
  counted = a.counted;
  ended = λ e. a.ended (sym drops.ended ∙ e);
  before = a.before ++ take (length now.reader.held - length reader.held) now.reader.held;
  taken_is = skipped_front a.taken a.before now.reader.held reader.held
      (length now.reader.held - length reader.held) drops.held a.taken_is;
  ahead = λ more may.
      a.ahead more (λ e. may (drops.ended ∙ e))
      ∙ ap (λ l. a.lines ++ l) (gives more (λ e. may (drops.ended ∙ e)))
      ∙ sym (append_assoc a.lines (line ∷ []) (lines_of (reader.held ++ more)));
  few = omega (arith, drops.shorter, a.few);
  good = All-push (λ l. l ≢ Bad) a.lines line a.good is_good;
  items_are = filter_map-append item_in a.lines (line ∷ [])
      ∙ ap (λ l. l ++ filter_map item_in (line ∷ [])) a.items_are;
  numbered = ap (λ n. n + 1) a.numbered ∙ sym (length-append a.lines (line ∷ []));
}

pub at_item : (notes : List ℕ) (now : RecordState) (items : List RecordItem) (reader : ReaderState)
    (item : RecordItem)
    → Gives now.reader (Read item) reader → DropsFront now.reader reader
    → IsAt notes now items
    → IsAtItem notes (behind_line now reader) items item
unfolding at_line
at_item notes now items reader item gives drops a = record {
  at = at_line notes now items reader (Read item) (λ e. cc) gives drops a;
  earlier = a.lines;
  lines_are = refl;
  good = a.good;
  items_are = a.items_are;
}

pub at_nothing : (notes : List ℕ) (now : RecordState) (items : List RecordItem)
    (reader : ReaderState)
    → Gives now.reader Nothing reader → DropsFront now.reader reader
    → IsAt notes now items
    → IsAt notes (behind_line now reader) items
at_nothing notes now items reader gives drops a =
    subst (λ l. IsAt notes (behind_line now reader) l) (append-nil items)
    (at_line notes now items reader Nothing (λ e. cc) gives drops a)

-- the record gave bytes, and the reader took them
pub at_read : (notes : List ℕ) (now : RecordState) (items : List RecordItem) (reader : ReaderState)
    (left : Option (List ℕ)) (bytes : List ℕ)
    → ((rest : List ℕ) → now.left ≡ Some rest → (more : List ℕ) × (left ≡ Some more)
    × (rest ≡ bytes ++ more))
    → now.reader.ended ≡ false → reader.held ≡ now.reader.held ++ bytes → reader.ended
    ≡ now.reader.ended → length reader.held ≤ most_ahead
    → IsAt notes now items
    → IsAt notes (record now { reader = reader; bytes = now.bytes + length bytes; left = left })
    items
at_read notes now items reader left bytes gave open_end held ended few a =
    let g = gave a.rest a.left_is in
    record {
      taken = a.taken ++ bytes;
      rest = g.0;
      lines = a.lines;
      left_is = g.1;
      whole = a.whole ∙ ap (λ l. a.taken ++ l) g.2 ∙ sym (append_assoc a.taken bytes g.0);
      counted = ap (λ n. n + length bytes) a.counted ∙ sym (length-append a.taken bytes);
      ended = λ e. let clash : true ≡ false = sym e ∙ ended ∙ open_end in cc;
      before = a.before;
      taken_is = ap (λ l. l ++ bytes) a.taken_is ∙ append_assoc a.before now.reader.held bytes
          ∙ ap (λ l. a.before ++ l) (sym held);
      ahead = λ more may.
          ap lines_of (append_assoc a.taken bytes more)
          ∙ a.ahead (bytes ++ more) (λ e. let clash : true ≡ false = sym e ∙ open_end in cc)
          ∙ ap (λ l. a.lines ++ lines_of l)
          (sym (append_assoc now.reader.held bytes more) ∙ ap (λ l. l ++ more) (sym held));
      few = few;
      good = a.good;
      items_are = a.items_are;
      numbered = a.numbered;
    }

-- the record came to its end
pub at_end : (notes : List ℕ) (now : RecordState) (items : List RecordItem) (reader : ReaderState)
    (left : Option (List ℕ))
    → ((rest : List ℕ) → now.left ≡ Some rest → (rest ≡ []) × (left ≡ Some []))
    → reader.held ≡ now.reader.held → reader.ended ≡ true
    → IsAt notes now items
    → IsAt notes (record now { reader = reader; left = left }) items
at_end notes now items reader left gave held told a =
    let g = gave a.rest a.left_is in
    record {
      taken = a.taken;
      rest = [];
      lines = a.lines;
      left_is = g.1;
      whole = a.whole ∙ ap (λ l. a.taken ++ l) g.0;
      counted = a.counted;
      ended = λ e. refl;
      before = a.before;
      taken_is = a.taken_is ∙ ap (λ l. a.before ++ l) (sym held);
      ahead = λ more may.
          a.ahead more (λ e. may told)
          ∙ ap (λ l. a.lines ++ lines_of (l ++ more)) (sym held);
      few = omega (arith, ap length held, a.few);
      good = a.good;
      items_are = a.items_are;
      numbered = a.numbered;
    }

-- the record gave too much
pub at_limit : (notes : List ℕ) (now : RecordState) (items : List RecordItem)
    (left : Option (List ℕ)) (bytes : List ℕ) (count limit : ℕ)
    → length bytes ≡ count → limit < now.bytes + count
    → ((rest : List ℕ) → now.left ≡ Some rest → (more : List ℕ) × (left ≡ Some more)
    × (rest ≡ bytes ++ more))
    → IsAt notes now items
    → GaveMore limit (file notes left)
at_limit notes now items left bytes count limit size above gave a =
    let g = gave a.rest a.left_is in
    record {
      gave = record {
        given = a.taken ++ bytes;
        rest = g.0;
        left_is = g.1;
        whole = a.whole ∙ ap (λ l. a.taken ++ l) g.2 ∙ sym (append_assoc a.taken bytes g.0);
      };
      more = omega (arith, length-append a.taken bytes, a.counted, size);
    }

-- the record gave no more than it may
pub at_within : (notes : List ℕ) (now : RecordState) (items : List RecordItem) (limit : ℕ)
    → now.bytes ≤ limit → IsAt notes now items → GaveAtMost limit (file notes now.left)
at_within notes now items limit within a = record {
  gave = record { given = a.taken; rest = a.rest; left_is = a.left_is; whole = a.whole };
  most = omega (arith, a.counted);
}

-- the lines of the whole record
lines_ahead : (notes : List ℕ) (now : RecordState) (items : List RecordItem)
    → (a : IsAt notes now items)
    → lines_of notes ≡ a.lines ++ lines_of (now.reader.held ++ a.rest)
lines_ahead notes now items a = ap lines_of a.whole ∙ a.ahead a.rest a.ended

-- no line is left
pub at_whole : (notes : List ℕ) (now : RecordState) (items : List RecordItem)
    → now.reader.ended ≡ true → now.reader.held ≡ [] → now.bytes ≤ record_limit
    → IsAt notes now items → IsWhole (file notes now.left) items
at_whole notes now items ended none within a =
    let nothing : now.reader.held ++ a.rest ≡ [] = ap (λ l. l ++ a.rest) none ∙ a.ended ended in
    let all : lines_of notes ≡ a.lines =
    lines_ahead notes now items a ∙ ap (λ l. a.lines ++ lines_of l) nothing ∙ ap (λ l. a.lines ++ l) no_lines_of
    ∙ append-nil a.lines in
    record {
      within = at_within notes now items record_limit within a;
      good = subst (λ lines. All (λ line. line ≢ Bad) lines) (sym all) a.good;
      items_are = ap (filter_map item_in) all ∙ a.items_are;
    }

-- a bad line comes next
pub at_bad : (notes : List ℕ) (now : RecordState) (items : List RecordItem)
    → BeginsBad now.reader → now.bytes ≤ record_limit → IsAt notes now items
    → IsBadBehind (now.lines + 1) (file notes now.left) items
at_bad notes now items bad within a =
    let f = first_known (lines_of (now.reader.held ++ a.rest)) Bad (bad a.rest a.ended) in
    let lines : lines_of notes ≡ a.lines ++ Bad ∷ f.0 =
    lines_ahead notes now items a ∙ ap (λ l. a.lines ++ l) f.1 in
    let good : AreGood a.lines = record { each = a.good } in
    record {
      within = at_within notes now items record_limit within a;
      number = bad_number notes a.lines f.0 lines good ∙ ap (λ n. Some (n + 1)) (sym a.numbered);
      items_are = bad_items notes a.lines f.0 lines good ∙ a.items_are;
    }

-- a whole record
pub items_of_whole : (notes : List ℕ) (left : Option (List ℕ)) (items : List RecordItem)
    → IsWhole (file notes left) items
    → (first_bad notes ≡ None) × (items_before_bad notes ≡ items)
items_of_whole notes left items w = (
  whole_bad notes (record { each = w.good }),
  whole_items notes (record { each = w.good })
      ∙ w.items_are,
)

-- the items read so far stand in front of all
pub at_front : (notes : List ℕ) (now : RecordState) (items : List RecordItem) → IsAt notes now items
    → IsFront items (items_before_bad notes)
at_front notes now items a =
    let behind = lines_of (now.reader.held ++ a.rest) in
    record {
      rest = items_until_bad behind;
      joined = ap items_until_bad (lines_ahead notes now items a) ∙ items-good a.lines behind (record { each = a.good })
          ∙ ap (λ l. l ++ items_until_bad behind) a.items_are;
    }

-- ---- the time that an item lets pass

time_written : (item : RecordItem) (words : List (List ℕ)) → IsWritten item words
    → milliseconds_of item ≤ tick_limit
time_written Every words w = omega arith
time_written (Packets count) words w = omega arith
time_written (Tick count) words w = w.2
time_written (Input input) words w = omega arith

-- the first of some lines
first_line : (bytes : List (List ℕ)) (line : Line) (more : List Line)
    → map line_of bytes ≡ line ∷ more → (first : List ℕ) × (line_of first ≡ line)
first_line [] line more e = let clash : [] ≡ line ∷ more = e in cc
first_line (first ∷ others) line more e =
    let lines : line_of first ∷ map line_of others ≡ line ∷ more = e in
    let same : line_of first ≡ line = cc in (first, same)

-- an item that is read lets no more pass than one may
pub time_within : (old new : ReaderState) (item : RecordItem) → Gives old (Read item) new
    → milliseconds_of item ≤ tick_limit
unfolding lines_of
time_within old new item gives =
    let first = first_line (lines (old.held ++ [])) (Read item) (lines_of (new.held ++ []))
    (gives [] (λ e. refl)) in
    time_written item _ (read_item first.0 item first.1).1

-- ---- what may be handled

input_written : (input : HandedIn) (words : List (List ℕ)) → IsWritten (Input input) words
    → MayCome input
input_written (handed.Key key) words w = tt
input_written (handed.Release key) words w = tt
input_written (handed.Random word) words w = tt
input_written (handed.Date day second) words w = w.1
input_written handed.Show words w = tt
input_written (handed.Rows spacing align) words w = tt

item_written : (item : RecordItem) (words : List (List ℕ)) → IsWritten item words
    → MayBeHandled item
item_written Every words w = tt
item_written (Packets count) words w = tt
item_written (Tick count) words w = tt
item_written (Input input) words w = input_written input words w

-- an item that is read may be
pub may_be_handled : (old new : ReaderState) (item : RecordItem) → Gives old (Read item) new
    → MayBeHandled item
unfolding lines_of
may_be_handled old new item gives =
    let first = first_line (lines (old.held ++ [])) (Read item) (lines_of (new.held ++ []))
    (gives [] (λ e. refl)) in
    item_written item _ (read_item first.0 item first.1).1

-- ---- whether the record was read

-- it was, for a line; or nothing was read, and where nothing had come, nothing came
abbrev pub ReadsOrRests : RecordState → WorldState → WorldState → ReaderState → Type 0
ReadsOrRests old before behind reader =
    ((last : List ℕ) × IsReadForLine old behind.notes last)
    ⊎ ((behind ≡ before) × (IsFresh old.reader → IsFresh reader))

-- something had come
pub reads_came : (old : RecordState) (before behind : WorldState) (reader : ReaderState)
    → ReadsOrRests old before behind reader → ¬ (IsFresh reader) → WasReadForLine old before behind
reads_came old before behind reader (inl read) came = inl read
reads_came old before behind reader (inr rests) came = inr (rests.0, λ fresh. came (rests.1 fresh))

-- then it doesn't matter what comes
pub reads_further : (old : RecordState) (before behind : WorldState) (reader : ReaderState)
    → WasReadForLine old before behind → ReadsOrRests old before behind reader
reads_further old before behind reader (inl read) = inl read
reads_further old before behind reader (inr rests) =
    inr (rests.0, λ fresh. absurd (rests.1 fresh))

-- a line was taken
pub line_came : (reader : ReaderState) (count : ℕ) → count < length reader.held
    → ¬ (IsFresh reader)
line_came reader count shorter fresh = absurd (omega (arith, shorter, ap length fresh.held))

-- the line that comes is bad
pub bad_came : (reader : ReaderState) → BeginsBad reader → ¬ (IsFresh reader)
bad_came reader bad fresh =
    let none : lines_of (reader.held ++ []) ≡ [] =
    ap (λ l. lines_of (l ++ [])) fresh.held ∙ no_lines_of in
    let first = first_known [] Bad
    (subst (λ (l : List Line). slice_get l 0 ≡ Some Bad) none (bad [] (λ e. refl))) in
    absurd (omega (arith, ap length first.1))

-- the end was told
pub end_came : (reader : ReaderState) → IsOver reader → ¬ (IsFresh reader)
end_came reader over fresh =
    let clash : true ≡ false = sym over.ended ∙ fresh.open_end in cc
