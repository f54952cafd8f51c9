-- What bytes read as is the tree that they stand for, without a fault or with its first one.
use Rattle.std.proofs.Common.{◌≡◌, ◌≢◌, ℕ, zero, suc, ◌<◌, ◌≤◌, Bool, true, false, cond, List, [], ◌∷◌, ◌++◌, length, Option, Some, None, refl, sym, ◌∙◌, ap, subst, arith}
use Rattle.std.specs.Prelude.{◌↔◌, nat_le, option_map, option_and_then, Result, Ok, Err, IfOk, IfErr, MatchResult}
use Rattle.std.proofs.lemmas.Bool.{false_from_ne_true, true_from_ne_false}
use Rattle.std.proofs.lemmas.List.{length-append}
use Rattle.std.proofs.lemmas.Bool.Decides.{nat_tests}
use Rattle.dom_tree.specs.Items.{Item}
use Rattle.dom_tree.specs.Walks.{most_nodes}
use Rattle.dom_tree.specs.Nested.{Nested, items_of}
use Rattle.bml_reader.specs.Markup.{Markup, Spells}
use Rattle.bml_reader.specs.Grammar.{Reads, markup_of, tree_of}
use Rattle.bml_reader.specs.Faults.{ReadsWell, HasFault, HasWrongRoot, IsTooDeep, HasTooManyNodes}
use Rattle.bml_reader.specs.devices.Lexing.{Found, found, markup_at}
use Rattle.bml_reader.specs.devices.Machine.{State, NodesSoFar, few_nodes, start_state, step, steps}
use Rattle.bml_reader.specs.Readings.{IsReading, read_markup, has_other_root, result_of_nodes, result_of_state, result_where_read, reading_of}
use Rattle.bml_reader.specs.devices.ReaderViews.{seen_of, Refuses}
use Rattle.bml_reader.specs.declared.faults.DocFault.{DocFault}
use Rattle.bml_reader.specs.declared.faults.DocFault.TheVariants.{Malformed, WrongRoot, TooDeep, TooManyNodes, NoMemory}
use Rattle.bml_reader.specs.declared.phases.Phase.{Phase}
use Rattle.bml_reader.specs.declared.phases.Phase.TheVariants.{BeforeDoctype, BeforeRoot, Inside, Behind}
use Rattle.bml_reader.proofs.ByteLemmas.{chained}
use Rattle.bml_reader.proofs.MarkupLemmas.{markup_at-markup, markup_at-is}
use Rattle.bml_reader.proofs.MachineLemmas.{steps-none, steps-one, goes_deep}
use Rattle.bml_reader.proofs.DocumentLemmas.{behind_tree, document, read-document}
use Rattle.bml_reader.proofs.SeenLemmas.{kept}
use Rattle.bml_reader.proofs.FaultLemmas.{too-deep, not-too-deep, wrong-root, right-root}
use Rattle.bml_reader.proofs.EndLemmas.{markup-some, count-is, AtEnd, AtEnd-well, AtEnd-fault}

-- Bytes are read as the pieces that spell them are

read_markup-one : (most : ℕ) (bytes : List ℕ) (s : State) (f : Found Markup) → markup_at bytes ≡ Some f → bytes ≢ [] → read_markup (suc most) bytes s ≡ option_and_then (read_markup most f.rest) (step f.it s)
unfolding read_markup
read_markup-one most [] s f e n = absurd (n refl)
read_markup-one most (byte ∷ bytes) s f e n = ap (option_and_then (λ (f : Found Markup). option_and_then (read_markup most f.rest) (step f.it s))) e

read_markup-end : (most : ℕ) (s : State) → read_markup (suc most) [] s ≡ Some s
unfolding read_markup
read_markup-end most s = refl

-- one piece more, where the pieces behind it are read as they are
read_markup-more : (most : ℕ) (more : List ℕ) (ps : List Markup) (o : Option State) → ((t : State) → read_markup most more t ≡ steps ps t) → option_and_then (read_markup most more) o ≡ option_and_then (steps ps) o
read_markup-more most more ps None k = refl
read_markup-more most more ps (Some t) k = k t

steps-first : (p : Markup) (ps : List Markup) (s : State) → steps (p ∷ ps) s ≡ option_and_then (steps ps) (step p s)
unfolding steps
steps-first p ps s = refl

some-bytes : (bytes spelled more : List ℕ) → bytes ≡ spelled ++ more → 0 < length spelled → bytes ≢ []
some-bytes bytes spelled more e h n = omega (arith, ap length e, ap length n, length-append spelled more)

-- bytes that are spelled by some pieces are read as these are
read-spelled : (ps : List Markup) (most : ℕ) (bytes : List ℕ) (s : State) → Spells ps bytes → length bytes < most → read_markup most bytes s ≡ steps ps s
read-spelled ps zero bytes s h few = absurd (omega (arith, few))
read-spelled [] (suc most) bytes s h few = ap (λ z. read_markup (suc most) z s) h ∙ (read_markup-end most s ∙ sym (steps-none s))
read-spelled (p ∷ ps) (suc most) bytes s (spelled, more, e, h, rest) few =
    let long : 0 < length spelled = markup-some p spelled more h in
    let fewer : length more < most = omega (arith, few, long, ap length e, length-append spelled more) in
    read_markup-one most bytes s (found p more) (ap markup_at e ∙ markup_at-markup p spelled more h) (some-bytes bytes spelled more e long)
    ∙ (read_markup-more most more ps (step p s) (λ t. read-spelled ps most more t rest fewer)
    ∙ sym (steps-first p ps s))

-- and bytes that are read are spelled by pieces that are read so
spelled-read : (most : ℕ) (bytes : List ℕ) (s t : State) → read_markup most bytes s ≡ Some t → (ps : List Markup) × Spells ps bytes × (steps ps s ≡ Some t)
unfolding read_markup
spelled-read zero bytes s t e = absurd (cc e)
spelled-read (suc most) [] s t e = ([], refl, steps-none s ∙ e)
spelled-read (suc most) (byte ∷ bytes) s t e =
    chained (λ (f : Found Markup). option_and_then (read_markup most f.rest) (step f.it s)) (markup_at (byte ∷ bytes)) t e (λ f p g.
    chained (read_markup most f.rest) (step f.it s) t g (λ u q r.
    let k = spelled-read most f.rest u t r in
    let h = markup_at-is (byte ∷ bytes) f p in
    (f.it ∷ k.0, (h.spelled, f.rest, h.is_it, h.is_markup, k.1), steps-one f.it k.0 s u q ∙ k.2)))

-- Bytes are read as their tree is judged, or are malformed

-- a document's bytes
pub reading-tree : (bytes : List ℕ) (tree : Nested) → Reads bytes tree → reading_of bytes ≡ result_of_state (behind_tree tree)
unfolding reading_of
reading-tree bytes tree h =
    let all : read_markup (suc (length bytes)) bytes start_state ≡ steps (markup_of h.document) start_state = read-spelled (markup_of h.document) (suc (length bytes)) bytes start_state h.spelled (omega arith) in
    ap result_where_read (all ∙ (document h.document h.is_document ∙ ap (λ z. Some (behind_tree z)) (sym h.stands_for)))

-- the bytes are a document with that tree, or what they come to is that they are none
data Comes (bytes : List ℕ) (r : Result (List Item) DocFault) : Type 0 where
  Stands : (tree : Nested) → Reads bytes tree → Comes bytes r
  Fails : r ≡ Err Malformed → Comes bytes r

comes-read : (bytes : List ℕ) (s : State) (phase : Phase) → read_markup (suc (length bytes)) bytes start_state ≡ Some s → s.phase ≡ phase → Comes bytes (result_of_state s)
comes-read bytes s Behind e q =
    let k = spelled-read (suc (length bytes)) bytes start_state s e in
    let d = read-document k.0 s k.2 q in
    Stands (tree_of d.0) (record { document = d.0; is_document = d.1; spelled = subst (λ z. Spells z bytes) d.2 k.1; stands_for = refl })
comes-read bytes s BeforeDoctype e q = Fails (rw q refl)
comes-read bytes s BeforeRoot e q = Fails (rw q refl)
comes-read bytes s Inside e q = Fails (rw q refl)

comes-by : (bytes : List ℕ) (o : Option State) → read_markup (suc (length bytes)) bytes start_state ≡ o → Comes bytes (result_where_read o)
comes-by bytes None e = Fails refl
comes-by bytes (Some s) e = comes-read bytes s s.phase e refl

comes : (bytes : List ℕ) → Comes bytes (reading_of bytes)
unfolding reading_of
comes bytes = comes-by bytes (read_markup (suc (length bytes)) bytes start_state) refl

-- What a tree is judged to be says which fault it has

abbrev Judged : Type 0
Judged = Result (List Item) DocFault

fault_is : (a b : DocFault) → ◌≡◌ {A = Judged} (Err a) (Err b) → a ≡ b
fault_is a b e = cc

judges-well-by : (nodes items : List Item) (within : Bool) → ◌≡◌ {A = Judged} (cond within (Ok nodes) (Err TooManyNodes)) (Ok items) → option_map (λ (k : NodesSoFar). k.items) (cond within (Some (kept nodes [])) None) ≡ Some items
judges-well-by nodes items true e = cc
judges-well-by nodes items false e = absurd (cc e)

judges-well : (other deep : Bool) (nodes items : List Item) → result_of_nodes other deep nodes ≡ Ok items → (other ≡ false) × (deep ≡ false) × (option_map (λ (k : NodesSoFar). k.items) (few_nodes nodes []) ≡ Some items)
judges-well true deep nodes items e = absurd (cc e)
judges-well false true nodes items e = absurd (cc e)
judges-well false false nodes items e = (refl, refl, judges-well-by nodes items (nat_le (length nodes) most_nodes) e)

refuses-by : (nodes : List Item) (fault : DocFault) (within : Bool) → ◌≡◌ {A = Judged} (cond within (Ok nodes) (Err TooManyNodes)) (Err fault) → Refuses fault false false (cond within (Some (kept nodes [])) None)
refuses-by nodes fault true e = absurd (cc e)
refuses-by nodes fault false e = subst (λ f. Refuses f false false None) (fault_is TooManyNodes fault e) (refl, refl, refl)

refuses : (other deep : Bool) (nodes : List Item) (fault : DocFault) → result_of_nodes other deep nodes ≡ Err fault → Refuses fault other deep (few_nodes nodes [])
refuses true deep nodes fault e = subst (λ f. Refuses f true deep (few_nodes nodes [])) (fault_is WrongRoot fault e) refl
refuses false true nodes fault e = subst (λ f. Refuses f false true (few_nodes nodes [])) (fault_is TooDeep fault e) (refl, refl)
refuses false false nodes fault e = refuses-by nodes fault (nat_le (length nodes) most_nodes) e

-- where a document's bytes read as a fault, its tree has that fault
tree-refuses : (bytes : List ℕ) (tree : Nested) (fault : DocFault) → Reads bytes tree → reading_of bytes ≡ Err fault → Refuses fault (has_other_root (items_of tree)) (goes_deep 0 tree) (few_nodes (items_of tree) [])
tree-refuses bytes tree fault h e = refuses (has_other_root (items_of tree)) (goes_deep 0 tree) (items_of tree) fault (sym (reading-tree bytes tree h) ∙ e)

at_end : (bytes : List ℕ) (tree : Nested) → Reads bytes tree → AtEnd bytes (seen_of (behind_tree tree))
at_end bytes tree h = record { tree = tree; reads = h; seen = refl }

-- And a tree is judged by the fault that it has

result_of_state-well : (other deep : Bool) (nodes : List Item) → other ≡ false → deep ≡ false → length nodes ≤ most_nodes → result_of_nodes other deep nodes ≡ Ok nodes
result_of_state-well other deep nodes o d few = let within : nat_le (length nodes) most_nodes ≡ true = grind (arith, nat_tests) in rw (o, d, within) refl

result_of_state-root : (other deep : Bool) (nodes : List Item) → other ≡ true → result_of_nodes other deep nodes ≡ Err WrongRoot
result_of_state-root other deep nodes o = rw o refl

result_of_state-deep : (other deep : Bool) (nodes : List Item) → other ≡ false → deep ≡ true → result_of_nodes other deep nodes ≡ Err TooDeep
result_of_state-deep other deep nodes o d = rw (o, d) refl

result_of_state-many : (other deep : Bool) (nodes : List Item) → other ≡ false → deep ≡ false → most_nodes < length nodes → result_of_nodes other deep nodes ≡ Err TooManyNodes
result_of_state-many other deep nodes o d many = let past : nat_le (length nodes) most_nodes ≡ false = grind (arith, nat_tests) in rw (o, d, past) refl

root-kept : (tree : Nested) → (HasWrongRoot tree → ⊥) → has_other_root (items_of tree) ≡ false
root-kept tree n = false_from_ne_true (has_other_root (items_of tree)) (λ e. n (wrong-root tree e))

root-missed : (tree : Nested) → HasWrongRoot tree → has_other_root (items_of tree) ≡ true
root-missed tree h = true_from_ne_false (has_other_root (items_of tree)) (λ e. right-root tree e h)

depth-kept : (tree : Nested) → (IsTooDeep tree → ⊥) → goes_deep 0 tree ≡ false
depth-kept tree n = false_from_ne_true (goes_deep 0 tree) (λ e. n (too-deep tree e))

depth-missed : (tree : Nested) → IsTooDeep tree → goes_deep 0 tree ≡ true
depth-missed tree h = true_from_ne_false (goes_deep 0 tree) (λ e. not-too-deep tree e h)

count-kept : (tree : Nested) → (HasTooManyNodes tree → ⊥) → length (items_of tree) ≤ most_nodes
count-kept tree n = omega (arith, n, count-is tree)

count-missed : (tree : Nested) → HasTooManyNodes tree → most_nodes < length (items_of tree)
count-missed tree h = omega (arith, h, count-is tree)

-- What bytes read as is what they are

reads-well-by : (bytes : List ℕ) (items : List Item) → Comes bytes (reading_of bytes) → reading_of bytes ≡ Ok items → ReadsWell bytes items
reads-well-by bytes items (Stands tree h) e =
    let j = judges-well (has_other_root (items_of tree)) (goes_deep 0 tree) (items_of tree) items (sym (reading-tree bytes tree h) ∙ e) in
    AtEnd-well bytes (seen_of (behind_tree tree)) items (at_end bytes tree h) j.0 j.1 j.2
reads-well-by bytes items (Fails f) e = absurd (let bad : ◌≡◌ {A = Judged} (Err Malformed) (Ok items) = sym f ∙ e in cc)

reads-well : (bytes : List ℕ) (items : List Item) → reading_of bytes ≡ Ok items → ReadsWell bytes items
reads-well bytes items e = reads-well-by bytes items (comes bytes) e

well-reads : (bytes : List ℕ) (items : List Item) → ReadsWell bytes items → reading_of bytes ≡ Ok items
well-reads bytes items h =
    reading-tree bytes h.tree h.reads
    ∙ (result_of_state-well (has_other_root (items_of h.tree)) (goes_deep 0 h.tree) (items_of h.tree) (root-kept h.tree h.root) (depth-kept h.tree h.depth) (count-kept h.tree h.count)
    ∙ ap Ok (sym h.nodes))

reads-fault-by : (bytes : List ℕ) (fault : DocFault) → Comes bytes (reading_of bytes) → reading_of bytes ≡ Err fault → HasFault bytes fault
reads-fault-by bytes fault (Stands tree h) e =
    AtEnd-fault bytes (seen_of (behind_tree tree)) fault (at_end bytes tree h) (tree-refuses bytes tree fault h e)
reads-fault-by bytes fault (Fails f) e =
    let same : Malformed ≡ fault = fault_is Malformed fault (sym f ∙ e) in
    subst (HasFault bytes) same (λ tree h. tree-refuses bytes tree Malformed h f)

reads-fault : (bytes : List ℕ) (fault : DocFault) → reading_of bytes ≡ Err fault → HasFault bytes fault
reads-fault bytes fault e = reads-fault-by bytes fault (comes bytes) e

malformed-reads : (bytes : List ℕ) → Comes bytes (reading_of bytes) → HasFault bytes Malformed → reading_of bytes ≡ Err Malformed
malformed-reads bytes (Stands tree r) h = absurd (h tree r)
malformed-reads bytes (Fails f) h = f

pub fault-reads : (bytes : List ℕ) (fault : DocFault) → fault ≢ NoMemory → HasFault bytes fault → reading_of bytes ≡ Err fault
fault-reads bytes Malformed n h = malformed-reads bytes (comes bytes) h
fault-reads bytes WrongRoot n h =
    reading-tree bytes h.tree h.reads ∙ result_of_state-root (has_other_root (items_of h.tree)) (goes_deep 0 h.tree) (items_of h.tree) (root-missed h.tree h.root)
fault-reads bytes TooDeep n h =
    reading-tree bytes h.tree h.reads ∙ result_of_state-deep (has_other_root (items_of h.tree)) (goes_deep 0 h.tree) (items_of h.tree) (root-kept h.tree h.root) (depth-missed h.tree h.depth)
fault-reads bytes TooManyNodes n h =
    reading-tree bytes h.tree h.reads ∙ result_of_state-many (has_other_root (items_of h.tree)) (goes_deep 0 h.tree) (items_of h.tree) (root-kept h.tree h.root) (depth-kept h.tree h.depth) (count-missed h.tree h.count)
fault-reads bytes NoMemory n h = absurd (n refl)

no-memory-by : (bytes : List ℕ) → Comes bytes (reading_of bytes) → reading_of bytes ≡ Err NoMemory → ⊥
no-memory-by bytes (Stands tree h) e = tree-refuses bytes tree NoMemory h e
no-memory-by bytes (Fails f) e = let bad : ◌≡◌ {A = Judged} (Err Malformed) (Err NoMemory) = sym f ∙ e in cc

no-memory : (bytes : List ℕ) → reading_of bytes ≡ Err NoMemory → ⊥
no-memory bytes e = no-memory-by bytes (comes bytes) e

-- a result is what the bytes read as exactly where it is their reading by the grammar
pub reading-law : (bytes : List ℕ) (reading : Judged) → (reading_of bytes ≡ reading) ↔ IsReading bytes reading
reading-law bytes (Ok items) = (reads-well bytes items, well-reads bytes items)
reading-law bytes (Err fault) = (λ e. (λ n. no-memory bytes (e ∙ ap (λ (f : DocFault). let r : Judged = Err f in r) n), reads-fault bytes fault e), λ h. fault-reads bytes fault h.0 h.1)

-- and so is what the reader answers
pub answer-reads : (bytes : List ℕ) (r : Result (List Item) DocFault) → IfOk r (ReadsWell bytes) → IfErr r (HasFault bytes) → MatchResult r (λ items. reading_of bytes ≡ Ok items) (λ fault. fault ≢ NoMemory → reading_of bytes ≡ Err fault)
answer-reads bytes (Ok items) w f = well-reads bytes items w
answer-reads bytes (Err fault) w f = λ n. fault-reads bytes fault n f
