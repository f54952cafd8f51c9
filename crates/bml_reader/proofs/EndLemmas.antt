-- The loop over pieces, and what is answered at its end.
use Rattle.std.proofs.Common.{◌≡◌, ◌≢◌, ℕ, ◌<◌, ◌≤◌, Bool, true, false, cond, inl, inr, List, [], ◌∷◌, length, Option, Some, None, refl, sym, ◌∙◌, ap, subst, arith}
use Rattle.std.specs.Prelude.{◌==◌, nat_le, option_map, IfSome, Result, Ok, Err, IfOk, IfErr}
use Rattle.std.proofs.lemmas.Bool.{eqb-true}
use Rattle.std.proofs.lemmas.List.{length-append}
use Rattle.std.proofs.lemmas.Bool.Decides.{nat_tests}
use Rattle.dom_tree.specs.Items.{Item}
use Rattle.dom_tree.specs.Walks.{most_nodes}
use Rattle.dom_tree.specs.Nested.{Nested, node_count, items_of}
use Rattle.bml_reader.specs.Markup.{Markup, IsMarkup}
use Rattle.bml_reader.specs.Markup.Markup.{StartTag, EndTag, Run, Cdata, Remark, Doctype}
use Rattle.bml_reader.specs.Grammar.{Reads}
use Rattle.bml_reader.specs.Faults.{ReadsWell, HasFault}
use Rattle.bml_reader.specs.devices.Lexing.{Found, found, markup_at}
use Rattle.bml_reader.specs.devices.Machine.{State, NodesSoFar, few_nodes, start_state, step, IsSound, IsSoundIn}
use Rattle.bml_reader.specs.devices.ReaderViews.{Seen, seen_of, seen_step, IsTaken, HasDifferentNames, Refuses, IsRead}
use Rattle.bml_reader.specs.declared.faults.DocFault.{DocFault}
use Rattle.bml_reader.specs.declared.faults.DocFault.TheVariants.{Malformed, WrongRoot, TooDeep, TooManyNodes, NoMemory}
use Rattle.bml_reader.specs.declared.phases.Phase.{Phase}
use Rattle.bml_reader.specs.declared.phases.Phase.TheVariants.{BeforeDoctype, BeforeRoot, Inside, Behind}
use Rattle.bml_reader.proofs.MarkupLemmas.{markup_at-is}
use Rattle.bml_reader.proofs.MachineLemmas.{items_from-length}
use Rattle.bml_reader.proofs.DocumentLemmas.{behind_tree}
use Rattle.bml_reader.proofs.ReachLemmas.{Reaches, Reaches-start, Reaches-step, stopped-markup, stopped-step, reached-end, reached-tree}
use Rattle.bml_reader.proofs.SeenLemmas.{kept, seen-follows, sound-step}
use Rattle.bml_reader.proofs.FaultLemmas.{too-deep, not-too-deep, wrong-root, right-root}

different-in : (p : Markup) (spelled more : List ℕ) → IsMarkup p spelled more → HasDifferentNames p
different-in (StartTag tag attributes e) spelled more h = h.differ
different-in (EndTag tag) spelled more h = tt
different-in (Run bytes) spelled more h = tt
different-in (Cdata bytes) spelled more h = tt
different-in Remark spelled more h = tt
different-in Doctype spelled more h = tt

pub different-names : (l : List ℕ) (f : Found Markup) → markup_at l ≡ Some f → HasDifferentNames f.it
different-names l f e = let h = markup_at-is l f e in different-in f.it h.spelled f.rest h.is_markup

-- what the reader keeps is that of the pieces so far
pub record Keeps (bytes : List ℕ) (r : Seen) (rest : List ℕ) : Type 0 where
  pub now : State
  pub reaches : Reaches bytes now rest
  pub seen : seen_of now ≡ r
  pub sound : IsSound now

took-by : (p : Markup) (s : State) (r new : Seen) (o : Option State) → step p s ≡ o → option_map seen_of o ≡ seen_step p r → IsTaken (seen_step p r) true new → (t : State) × (step p s ≡ Some t) × (seen_of t ≡ new)
took-by p s r new (Some t) q e h =
    let same : new ≡ seen_of t = subst (λ z. IsTaken z true new) (sym e) h in
    (t, q, sym same)
took-by p s r new None q e h = absurd (subst (λ z. IsTaken z true new) (sym e) h)

pub Keeps-step : (bytes : List ℕ) (r new : Seen) (rest behind : List ℕ) (p : Markup) → Keeps bytes r rest → markup_at rest ≡ Some (found p behind) → IsTaken (seen_step p r) true new → Keeps bytes new behind
Keeps-step bytes r new rest behind p k e h =
    let follows : option_map seen_of (step p k.now) ≡ seen_step p r = seen-follows p k.now k.sound ∙ ap (seen_step p) k.seen in
    let t = took-by p k.now r new (step p k.now) refl follows h in
    record { now = t.0; reaches = Reaches-step bytes k.now t.0 rest behind p k.reaches e t.1; seen = t.2; sound = sound-step p k.now t.0 k.sound t.1 }

refused-by : (p : Markup) (s : State) (r new : Seen) (o : Option State) → step p s ≡ o → option_map seen_of o ≡ seen_step p r → IsTaken (seen_step p r) false new → step p s ≡ None
refused-by p s r new (Some t) q e h = absurd (subst (λ z. IsTaken z false new) (sym e) h)
refused-by p s r new None q e h = q

pub Keeps-refused : (bytes : List ℕ) (r new : Seen) (rest behind : List ℕ) (p : Markup) → Keeps bytes r rest → markup_at rest ≡ Some (found p behind) → IsTaken (seen_step p r) false new → HasFault bytes Malformed
Keeps-refused bytes r new rest behind p k e h =
    let follows : option_map seen_of (step p k.now) ≡ seen_step p r = seen-follows p k.now k.sound ∙ ap (seen_step p) k.seen in
    λ tree reads. stopped-step bytes k.now rest behind p tree k.reaches e (refused-by p k.now r new (step p k.now) refl follows h) reads

pub Keeps-stopped : (bytes : List ℕ) (r : Seen) (rest : List ℕ) → Keeps bytes r rest → rest ≢ [] → markup_at rest ≡ None → HasFault bytes Malformed
Keeps-stopped bytes r rest k n e = λ tree reads. stopped-markup bytes k.now rest tree k.reaches n e reads

pub Keeps-unfinished : (bytes : List ℕ) (r : Seen) (rest : List ℕ) → Keeps bytes r rest → rest ≡ [] → (r.phase ≡ Behind → ⊥) → HasFault bytes Malformed
Keeps-unfinished bytes r rest k e n = λ tree reads.
    let same : k.now ≡ behind_tree tree = reached-end bytes k.now rest tree k.reaches e reads in
    n (ap (λ (z : Seen). z.phase) (sym k.seen ∙ ap seen_of same))

sound-behind : (phase : Phase) (s : State) → IsSoundIn phase s → phase ≡ Behind → s.items ≢ []
sound-behind BeforeDoctype s h e = absurd (cc e)
sound-behind BeforeRoot s h e = absurd (cc e)
sound-behind Inside s h e = absurd (cc e)
sound-behind Behind s h e = h.1

some-kept : (items : List Item) (path : List ℕ) (b : Bool) → items ≢ [] → IfSome (cond b (Some (kept items path)) None) (λ k. k.items ≢ [])
some-kept items path true h = h
some-kept items path false h = tt

pub Keeps-some : (bytes : List ℕ) (r : Seen) (rest : List ℕ) → Keeps bytes r rest → r.phase ≡ Behind → IfSome r.kept (λ k. k.items ≢ [])
Keeps-some bytes r rest k e =
    let behind : k.now.phase ≡ Behind = ap (λ (z : Seen). z.phase) k.seen ∙ e in
    subst (λ (z : Seen). IfSome z.kept (λ k. k.items ≢ [])) k.seen (some-kept k.now.items _ (nat_le (length k.now.items) most_nodes) (sound-behind k.now.phase k.now k.sound behind))

-- what is kept is that of a tree, which the bytes stand for
pub record AtEnd (bytes : List ℕ) (r : Seen) : Type 0 where
  pub tree : Nested
  pub reads : Reads bytes tree
  pub seen : seen_of (behind_tree tree) ≡ r

pub Keeps-end : (bytes : List ℕ) (r : Seen) (rest : List ℕ) → Keeps bytes r rest → rest ≡ [] → r.phase ≡ Behind → AtEnd bytes r
Keeps-end bytes r rest k e h =
    let t = reached-tree bytes k.now rest k.reaches e (ap (λ (z : Seen). z.phase) k.seen ∙ h) in
    record { tree = t.0; reads = t.1; seen = sym (ap seen_of t.2) ∙ k.seen }

pub count-is : (tree : Nested) → length (items_of tree) ≡ node_count tree
count-is tree = items_from-length None 0 tree

few-by : (items found_items : List Item) (path : List ℕ) (b : Bool) → nat_le (length items) most_nodes ≡ b → option_map (λ (k : NodesSoFar). k.items) (cond b (Some (kept items path)) None) ≡ Some found_items → (length items ≤ most_nodes) × (found_items ≡ items)
few-by items found_items path true q e = let small : length items ≤ most_nodes = grind (arith, nat_tests) in (small, cc)
few-by items found_items path false q e = absurd (cc e)

many-by : (items : List Item) (path : List ℕ) (b : Bool) → nat_le (length items) most_nodes ≡ b → cond b (Some (kept items path)) None ≡ None → most_nodes < length items
many-by items path true q e = absurd (cc e)
many-by items path false q e = grind (arith, nat_tests)

pub AtEnd-well : (bytes : List ℕ) (r : Seen) (items : List Item) → AtEnd bytes r → r.has_other_root ≡ false → r.is_deep ≡ false → option_map (λ (k : NodesSoFar). k.items) r.kept ≡ Some items → ReadsWell bytes items
AtEnd-well bytes r items a o d k =
    let kept_is : option_map (λ (z : NodesSoFar). z.items) (few_nodes (items_of a.tree) []) ≡ Some items = ap (λ (z : Seen). option_map (λ (w : NodesSoFar). w.items) z.kept) a.seen ∙ k in
    let few = few-by (items_of a.tree) items [] (nat_le (length (items_of a.tree)) most_nodes) refl kept_is in
    record {
      tree = a.tree;
      reads = a.reads;
      root = right-root a.tree (ap (λ (z : Seen). z.has_other_root) a.seen ∙ o);
      depth = not-too-deep a.tree (ap (λ (z : Seen). z.is_deep) a.seen ∙ d);
      count = (λ h. omega (arith, h, few.0, count-is a.tree));
      nodes = few.1;
    }

pub AtEnd-fault : (bytes : List ℕ) (r : Seen) (f : DocFault) → AtEnd bytes r → Refuses f r.has_other_root r.is_deep r.kept → HasFault bytes f
AtEnd-fault bytes r Malformed a h = absurd h
AtEnd-fault bytes r WrongRoot a h = record { tree = a.tree; reads = a.reads; root = wrong-root a.tree (ap (λ (z : Seen). z.has_other_root) a.seen ∙ h) }
AtEnd-fault bytes r TooDeep a h = record { tree = a.tree; reads = a.reads; root = right-root a.tree (ap (λ (z : Seen). z.has_other_root) a.seen ∙ h.0); depth = too-deep a.tree (ap (λ (z : Seen). z.is_deep) a.seen ∙ h.1) }
AtEnd-fault bytes r TooManyNodes a h =
    let many = many-by (items_of a.tree) [] (nat_le (length (items_of a.tree)) most_nodes) refl (ap (λ (z : Seen). z.kept) a.seen ∙ h.2) in
    record { tree = a.tree; reads = a.reads; root = right-root a.tree (ap (λ (z : Seen). z.has_other_root) a.seen ∙ h.0); depth = not-too-deep a.tree (ap (λ (z : Seen). z.is_deep) a.seen ∙ h.1); count = omega (arith, many, count-is a.tree) }
AtEnd-fault bytes r NoMemory a h = tt

-- at the end of the bytes it is known whether they are a document
pub Keeps-read : (bytes : List ℕ) (r : Seen) (rest : List ℕ) (b : Bool) → Keeps bytes r rest → rest ≡ [] → (b ≡ true → r.phase ≡ Behind) → (r.phase ≡ Behind → b ≡ true) → IsRead bytes b r
Keeps-read bytes r rest true k e whole behind =
    let end : AtEnd bytes r = Keeps-end bytes r rest k e (whole refl) in
    record {
      some = Keeps-some bytes r rest k (whole refl);
      well = λ items o d nodes. AtEnd-well bytes r items end o d nodes;
      fault = λ fault h. AtEnd-fault bytes r fault end h;
    }
Keeps-read bytes r rest false k e whole behind =
    Keeps-unfinished bytes r rest k e (λ h. let bad : false ≡ true = behind h in cc)

pub Keeps-start : (bytes : List ℕ) (r : Seen) → r ≡ seen_of start_state → Keeps bytes r bytes
Keeps-start bytes r e = record { now = start_state; reaches = Reaches-start bytes; seen = sym e; sound = (refl, refl, refl) }

pub some-rest : (l : List ℕ) → false ≡ (length l == 0) → l ≢ []
some-rest l h = λ e. let bad : false ≡ true = h ∙ ap (λ (z : List ℕ). length z == 0) e in cc

pub no-rest : (l : List ℕ) → true ≡ (length l == 0) → l ≡ []
no-rest [] h = refl
no-rest (b ∷ l) h = let zero_long : length (b ∷ l) ≡ 0 = eqb-true (length (b ∷ l)) 0 (sym h) in absurd (omega (arith, zero_long))

pub markup-some : (p : Markup) (spelled more : List ℕ) → IsMarkup p spelled more → 0 < length spelled
markup-some (StartTag tag attributes e) spelled more h = omega (arith, ap length h.end_to_end)
markup-some (EndTag tag) spelled more h = omega (arith, ap length h.end_to_end)
markup-some (Run []) spelled more h = absurd (h.some refl)
markup-some (Run (b ∷ bytes)) spelled more h = omega (arith, ap length h.is_it)
markup-some (Cdata bytes) spelled more h = omega (arith, ap length h.end_to_end)
markup-some Remark spelled more (inl (bytes, h)) = omega (arith, ap length h.end_to_end)
markup-some Remark spelled more (inr (bytes, h)) = omega (arith, ap length h.end_to_end)
markup-some Doctype spelled more h = omega (arith, ap length h.end_to_end)

pub markup-shorter : (l : List ℕ) (f : Found Markup) → markup_at l ≡ Some f → length f.rest < length l
markup-shorter l f e = let h = markup_at-is l f e in omega (arith, ap length h.is_it, length-append h.spelled f.rest, markup-some f.it h.spelled f.rest h.is_markup)

pub ok-all : {A E : Type 0} (r : Result A E) (P Q R S : A → Type 0) → IfOk r P → IfOk r Q → IfOk r R → ((a : A) → P a → Q a → R a → S a) → IfOk r S
ok-all (Ok a) P Q R S p q s k = k a p q s
ok-all (Err e) P Q R S p q s k = tt

pub err-all : {A E : Type 0} (r : Result A E) (P S : E → Type 0) → IfErr r P → ((e : E) → P e → S e) → IfErr r S
err-all (Ok a) P S p k = tt
err-all (Err e) P S p k = k e p
