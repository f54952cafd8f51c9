-- What words are a command, in both directions.
use Rattle.std.proofs.Common.{◌≡◌, ℕ, ◌≤◌, Bool, true, false, cond, not, ◌&&◌, ◌==◌, nat_le, List}
use Rattle.std.proofs.Common.{[], ◌∷◌, ◌++◌, codes, Option, Some, None, option_map, option_and_then}
use Rattle.std.proofs.Common.{refl, sym, ap, ap₂, ◌∙◌, subst, true≢false, ne_eqb, leb-true, le-leb}
use Rattle.std.proofs.lemmas.Option.{cond_some, none-some}
use Rattle.std.specs.Cmp.Lexicographic.{bytes_decides}
use Rattle.std.specs.Option.{option_or}
use Rattle.bml_bytes.specs.Words.{is_same}
use Rattle.bml_bytes.specs.Numerals.{decimal_field}
use Rattle.psi_tables.specs.declared.services.Selection.{Selection}
use Rattle.psi_tables.specs.declared.services.Selection.TheVariants.{First, Service, Pid}
use Rattle.replay_run.specs.Words.{Command, ReplayWords, is_file_name, service, data_pid}
use Rattle.replay_run.specs.Words.{module_count, selection_of, replay_of, generation_of, command}
use Rattle.replay_run.specs.Words.{IsFileName, AskFor, IsReplay, IsGeneration, IsCommand}
use Rattle.replay_run.specs.Words.Command.{Generate, Replay}

both : (a b : Bool) → a ≡ true → b ≡ true → (a && b) ≡ true
both a b e f = ap₂ (λ s t. s && t) e f

first_of_both : (a b : Bool) → (a && b) ≡ true → a ≡ true
first_of_both true b e = refl
first_of_both false b e = absurd (true≢false (sym e))

second_of_both : (a b : Bool) → (a && b) ≡ true → b ≡ true
second_of_both true b e = e
second_of_both false b e = absurd (true≢false (sym e))

file_name_read : (name : List ℕ) → is_file_name name ≡ true → IsFileName name
file_name_read [] e = absurd (true≢false (sym e))
file_name_read (first ∷ more) e = record {
  some = λ none. cc;
  no_option = λ hyphen. let same : first ≡ 45 = cc in
      true≢false (sym e ∙ ap (λ code. not (code == 45)) same);
}

file_name_written : (name : List ℕ) → IsFileName name → is_file_name name ≡ true
file_name_written [] is_name = absurd (is_name.some refl)
file_name_written (first ∷ more) is_name =
    ap not (ne_eqb first 45 (λ same. is_name.no_option (ap Some same)))

-- ---- a number of a range

abbrev in_range : {A : Type 0} → (ℕ → A) → ℕ → ℕ → ℕ → Option A
in_range asked least most n = cond (nat_le least n && nat_le n most) (Some (asked n)) None

record IsNumber {A : Type 0} (asked : ℕ → A) (least most : ℕ) (word : List ℕ) (wanted : A) :
    Type 0 where
  value : ℕ
  field : decimal_field word ≡ Some value
  least_is : least ≤ value
  most_is : value ≤ most
  same : asked value ≡ wanted

number_in : {A : Type 0} (asked : ℕ → A) (least most : ℕ) (word : List ℕ) (o : Option ℕ)
    (wanted : A) → decimal_field word ≡ o
    → option_and_then (in_range asked least most) o ≡ Some wanted
    → IsNumber asked least most word wanted
number_in asked least most word None wanted f e = absurd (none-some wanted e)
number_in asked least most word (Some n) wanted f e =
    let h = cond_some (nat_le least n && nat_le n most) (asked n) wanted e in
    record {
      value = n;
      field = f;
      least_is = leb-true least n (first_of_both (nat_le least n) (nat_le n most) (h.0));
      most_is = leb-true n most (second_of_both (nat_le least n) (nat_le n most) (h.0));
      same = h.1;
    }

number_written : {A : Type 0} (asked : ℕ → A) (least most value : ℕ) (word : List ℕ)
    → decimal_field word ≡ Some value → least ≤ value → value ≤ most
    → option_and_then (in_range asked least most) (decimal_field word) ≡ Some (asked value)
number_written asked least most value word f l m =
    ap (option_and_then (in_range asked least most)) f
    ∙ ap (λ b. cond b (Some (asked value)) None)
    (both (nat_le least value) (nat_le value most) (le-leb _ _ l) (le-leb _ _ m))

-- ---- the words around the option

same_word : (word : List ℕ) → is_same word word ≡ true
same_word word = (bytes_decides word word).1 refl

abbrev words_of : List ℕ → List ℕ → Selection → ReplayWords
words_of stream notes selection = record { selection = selection; stream = stream; notes = notes }

abbrev replay_with : List ℕ → List ℕ → Selection → Command
replay_with stream notes selection = Replay (words_of stream notes selection)

replay_written : (stream notes : List ℕ) (o : Option Selection) (selection : Selection)
    → IsFileName stream → IsFileName notes → o ≡ Some selection
    → replay_of (codes "replay") o stream notes ≡ Some (replay_with stream notes selection)
replay_written stream notes o selection s n e =
    let all : (is_same (codes "replay") (codes "replay") &&
    (is_file_name stream && is_file_name notes)) ≡ true =
    both _ _ (same_word (codes "replay"))
    (both _ _ (file_name_written stream s) (file_name_written notes n)) in
    ap (λ b. cond b (option_map (replay_with stream notes) o) None) all
    ∙ ap (option_map (replay_with stream notes)) e

service_written : (number : List ℕ) (value : ℕ) → decimal_field number ≡ Some value → 1 ≤ value
    → value ≤ 65535 → selection_of (codes "--service") number ≡ Some (Service value)
service_written number value f l m =
    ap (λ b. cond b (service number)
    (cond (is_same (codes "--service") (codes "--data-pid")) (data_pid number) None))
    (same_word (codes "--service"))
    ∙ number_written Service 1 65535 value number f l m

data_pid_written : (number : List ℕ) (value : ℕ) → decimal_field number ≡ Some value → 16 ≤ value
    → value ≤ 8190 → selection_of (codes "--data-pid") number ≡ Some (Pid value)
data_pid_written number value f l m =
    ap (λ b. cond b (data_pid number) None) (same_word (codes "--data-pid"))
    ∙ number_written Pid 16 8190 value number f l m

written_for : (selection : Selection) (option : List (List ℕ)) (stream notes : List ℕ)
    → AskFor selection option → IsFileName stream → IsFileName notes
    → command (codes "replay" ∷ (option ++ stream ∷ notes ∷ []))
    ≡ Some (replay_with stream notes selection)
written_for First option stream notes a s n =
    ap (λ (o : List (List ℕ)). command (codes "replay" ∷ (o ++ stream ∷ notes ∷ []))) a
    ∙ ap (λ o. option_or o (generation_of (codes "replay") (decimal_field stream) (module_count notes)))
    (replay_written stream notes (Some First) First s n refl)
written_for (Service value) option stream notes a s n =
    ap (λ (o : List (List ℕ)). command (codes "replay" ∷ (o ++ stream ∷ notes ∷ []))) a.written
    ∙ replay_written stream notes (selection_of (codes "--service") a.number) (Service value) s n
    (service_written a.number value a.field a.least_is a.most_is)
written_for (Pid value) option stream notes a s n =
    ap (λ (o : List (List ℕ)). command (codes "replay" ∷ (o ++ stream ∷ notes ∷ []))) a.written
    ∙ replay_written stream notes (selection_of (codes "--data-pid") a.number) (Pid value) s n
    (data_pid_written a.number value a.field a.least_is a.most_is)

-- no replay begins with `gen`
no_replay : (stream notes : List ℕ) → replay_of (codes "gen") (Some First) stream notes ≡ None
no_replay stream notes = refl

count_written : (word : List ℕ) (count : ℕ) → decimal_field word ≡ Some count → 1 ≤ count
    → count ≤ 100 → module_count word ≡ Some count
count_written word count f l m = number_written (λ n. n) 1 100 count word f l m

generation_written : (first second : List ℕ) (seed count : ℕ) → decimal_field first ≡ Some seed
    → module_count second ≡ Some count
    → command (codes "gen" ∷ first ∷ second ∷ []) ≡ Some (Generate seed count)
generation_written first second seed count s c =
    ap (λ o. option_or o (generation_of (codes "gen") (decimal_field first) (module_count second)))
    (no_replay first second)
    ∙ ap₂ (λ s c. generation_of (codes "gen") s c) s c
    ∙ ap (λ b. cond b (Some (Generate seed count)) None) (same_word (codes "gen"))

pub command_written : (words : List (List ℕ)) (asked : Command) → IsCommand words asked
    → command words ≡ Some asked
command_written words (Replay asked) r = ap command r.written
    ∙ written_for asked.selection r.option asked.stream asked.notes r.asks r.stream r.notes
command_written words (Generate seed count) g = ap command g.written
    ∙ generation_written g.first g.second seed count g.seed_is
    (count_written g.second count g.count_is g.least g.most)

-- ---- back

when_some : (b : Bool) (o : Option Command) (x : Command) → cond b o None ≡ Some x
    → (b ≡ true) × (o ≡ Some x)
when_some true o x e = (refl, e)
when_some false o x e = absurd (none-some x e)

record MappedTo (stream notes : List ℕ) (o : Option Selection) (asked : Command) : Type 0 where
  selection : Selection
  there : o ≡ Some selection
  same : replay_with stream notes selection ≡ asked

mapped : (stream notes : List ℕ) (o : Option Selection) (asked : Command)
    → option_map (replay_with stream notes) o ≡ Some asked → MappedTo stream notes o asked
mapped stream notes None asked e = absurd (none-some asked e)
mapped stream notes (Some selection) asked e =
    record { selection = selection; there = refl; same = cc }

record IsReplayOf (name : List ℕ) (o : Option Selection) (stream notes : List ℕ)
    (asked : Command) : Type 0 where
  named : name ≡ codes "replay"
  stream_is : IsFileName stream
  notes_is : IsFileName notes
  mapped_to : MappedTo stream notes o asked

replay_read : (name : List ℕ) (o : Option Selection) (stream notes : List ℕ) (asked : Command)
    → replay_of name o stream notes ≡ Some asked → IsReplayOf name o stream notes asked
replay_read name o stream notes asked e =
    let h = when_some (is_same name (codes "replay") &&
    (is_file_name stream && is_file_name notes)) _ asked e in
    let names : (is_file_name stream && is_file_name notes) ≡ true = second_of_both _ _ (h.0) in
    record {
      named = (bytes_decides name (codes "replay")).0 (first_of_both _ _ (h.0));
      stream_is = file_name_read stream (first_of_both _ _ names);
      notes_is = file_name_read notes (second_of_both _ _ names);
      mapped_to = mapped stream notes o asked (h.1);
    }

-- an option that asks for something
asks_service : (option number : List ℕ) (selection : Selection) → option ≡ codes "--service"
    → IsNumber Service 1 65535 number selection → AskFor selection (option ∷ number ∷ [])
asks_service option number selection o n =
    subst (λ s. AskFor s (option ∷ number ∷ [])) n.same
    (record {
      number = number;
      written = ap (λ w. w ∷ number ∷ []) o;
      field = n.field;
      least_is = n.least_is;
      most_is = n.most_is;
    })

asks_data : (option number : List ℕ) (selection : Selection) → option ≡ codes "--data-pid"
    → IsNumber Pid 16 8190 number selection → AskFor selection (option ∷ number ∷ [])
asks_data option number selection o n =
    subst (λ s. AskFor s (option ∷ number ∷ [])) n.same
    (record {
      number = number;
      written = ap (λ w. w ∷ number ∷ []) o;
      field = n.field;
      least_is = n.least_is;
      most_is = n.most_is;
    })

asks_by : (is_service is_data : Bool) (option number : List ℕ) (selection : Selection)
    → (is_service ≡ true → option ≡ codes "--service")
    → (is_data ≡ true → option ≡ codes "--data-pid")
    → cond is_service (service number) (cond is_data (data_pid number) None) ≡ Some selection
    → AskFor selection (option ∷ number ∷ [])
asks_by true is_data option number selection s d e = asks_service option number selection (s refl)
    (number_in Service 1 65535 number (decimal_field number) selection refl e)
asks_by false true option number selection s d e = asks_data option number selection (d refl)
    (number_in Pid 16 8190 number (decimal_field number) selection refl e)
asks_by false false option number selection s d e = absurd (none-some selection e)

asks : (option number : List ℕ) (selection : Selection) → selection_of option number
    ≡ Some selection → AskFor selection (option ∷ number ∷ [])
asks option number selection e =
    asks_by (is_same option (codes "--service")) (is_same option (codes "--data-pid")) option
    number selection
    ((bytes_decides option (codes "--service")).0) ((bytes_decides option (codes "--data-pid")).0) e

first_asked : (selection : Selection) → Some First ≡ Some selection → AskFor selection []
first_asked selection e = let same : First ≡ selection = cc in subst (λ s. AskFor s []) same refl

is_replay : (option : List (List ℕ)) (name : List ℕ) (o : Option Selection) (stream notes : List ℕ)
    (asked : Command)
    → ((selection : Selection) → o ≡ Some selection → AskFor selection option)
    → replay_of name o stream notes ≡ Some asked
    → IsCommand (name ∷ (option ++ stream ∷ notes ∷ [])) asked
is_replay option name o stream notes asked asks_for e =
    let r = replay_read name o stream notes asked e in
    let m = r.mapped_to in
    let is : IsReplay (name ∷ (option ++ stream ∷ notes ∷ [])) (words_of stream notes m.selection) =
    record {
      option = option;
      written = ap (λ w. w ∷ (option ++ stream ∷ notes ∷ [])) r.named;
      asks = asks_for m.selection m.there;
      stream = r.stream_is;
      notes = r.notes_is;
    } in
    subst (IsCommand (name ∷ (option ++ stream ∷ notes ∷ []))) m.same is

-- generated files

record Generated (seed count : Option ℕ) (asked : Command) : Type 0 where
  first : ℕ
  second : ℕ
  seed_is : seed ≡ Some first
  count_is : count ≡ Some second
  same : Generate first second ≡ asked

generated : (seed count : Option ℕ) (asked : Command)
    → option_and_then (λ seed. option_map (λ count. Generate seed count) count) seed ≡ Some asked
    → Generated seed count asked
generated None count asked e = absurd (none-some asked e)
generated (Some seed) None asked e = absurd (none-some asked e)
generated (Some seed) (Some count) asked e =
    record { first = seed; second = count; seed_is = refl; count_is = refl; same = cc }

is_generation : (name first second : List ℕ) (asked : Command)
    → generation_of name (decimal_field first) (module_count second) ≡ Some asked
    → IsCommand (name ∷ first ∷ second ∷ []) asked
is_generation name first second asked e =
    let h = when_some (is_same name (codes "gen")) _ asked e in
    let g = generated (decimal_field first) (module_count second) asked (h.1) in
    let n = number_in (λ (n : ℕ). n) 1 100 second (decimal_field second) g.second refl g.count_is in
    let is : IsGeneration (name ∷ first ∷ second ∷ []) g.first g.second =
    record {
      first = first;
      second = second;
      written = ap (λ w. w ∷ first ∷ second ∷ []) ((bytes_decides name (codes "gen")).0 (h.0));
      seed_is = g.seed_is;
      count_is = n.field ∙ ap Some n.same;
      least = subst (λ k. 1 ≤ k) n.same n.least_is;
      most = subst (λ k. k ≤ 100) n.same n.most_is;
    } in
    subst (IsCommand (name ∷ first ∷ second ∷ [])) g.same is

-- three words are one of both
is_either : (name first second : List ℕ) (asked : Command) (replay : Option Command)
    → replay_of name (Some First) first second ≡ replay
    → option_or replay (generation_of name (decimal_field first) (module_count second)) ≡ Some asked
    → IsCommand (name ∷ first ∷ second ∷ []) asked
is_either name first second asked None is e = is_generation name first second asked e
is_either name first second asked (Some replay) is e =
    is_replay [] name (Some First) first second asked first_asked (is ∙ e)

pub command_read : (words : List (List ℕ)) (asked : Command) → command words ≡ Some asked
    → IsCommand words asked
command_read [] asked e = absurd (none-some asked e)
command_read (a ∷ []) asked e = absurd (none-some asked e)
command_read (a ∷ b ∷ []) asked e = absurd (none-some asked e)
command_read (name ∷ first ∷ second ∷ []) asked e =
    is_either name first second asked (replay_of name (Some First) first second) refl e
command_read (a ∷ b ∷ c ∷ d ∷ []) asked e = absurd (none-some asked e)
command_read (name ∷ option ∷ number ∷ stream ∷ notes ∷ []) asked e =
    is_replay (option ∷ number ∷ []) name (selection_of option number) stream notes asked
    (asks option number) e
command_read (a ∷ b ∷ c ∷ d ∷ f ∷ g ∷ more) asked e = absurd (none-some asked e)
