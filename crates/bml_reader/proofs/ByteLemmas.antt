-- Bytes at the front of others, and marks.
use Rattle.std.proofs.Common.{◌≡◌, ℕ, ◌-◌, ◌≤◌, Bool, true, false, cond, List, [], ◌∷◌, ◌++◌, length, take, Option, Some, None, refl, sym, ◌∙◌, ap, subst, arith, append_assoc, append-nil}
use Rattle.std.specs.Prelude.{◌==◌, ◌&&◌, option_map, option_and_then}
use Rattle.std.specs.List.{list_all}
use Rattle.std.proofs.lemmas.Bool.{eq-eqb, eqb-true}
use Rattle.std.proofs.lemmas.List.{length-append}
use Rattle.std.proofs.Math.Seq.{take-append_seam}
use Rattle.bml_reader.specs.Bytes.{front, behind, behind_mark}
use Rattle.bml_reader.specs.Markup.{EndsAtFirst}
use Rattle.bml_reader.specs.devices.Lexing.{Found, found, up_to}

pub both : (a b : Bool) → (a && b) ≡ true → (a ≡ true) × (b ≡ true)
both true b e = (refl, e)
both false b e = absurd (cc e)

pub both-back : (a b : Bool) → a ≡ true → b ≡ true → (a && b) ≡ true
both-back a b p q = rw (p, q) refl

pub some-same : {A : Type 0} → (a b : A) → Some a ≡ Some b → a ≡ b
some-same a b e = cc e

-- nothing at the front passes the test
abbrev pub Ends : (ℕ → Bool) → List ℕ → Type 0
Ends test [] = Unit {0}
Ends test (byte ∷ bytes) = test byte ≡ false

pub front-cons : (test : ℕ → Bool) (b : ℕ) (l : List ℕ) → test b ≡ true → front test (b ∷ l) ≡ b ∷ front test l
front-cons test b l e = rw e refl

pub behind-cons : (test : ℕ → Bool) (b : ℕ) (l : List ℕ) → test b ≡ true → behind test (b ∷ l) ≡ behind test l
behind-cons test b l e = rw e refl

pub front-run : (test : ℕ → Bool) (run x : List ℕ) → list_all test run ≡ true → Ends test x → front test (run ++ x) ≡ run
front-run test [] [] a e = refl
front-run test [] (b ∷ x) a e = rw e refl
front-run test (r ∷ run) x a e =
    let h = both (test r) (list_all test run) a in
    front-cons test r (run ++ x) h.0 ∙ ap (λ l. r ∷ l) (front-run test run x h.1 e)

pub behind-run : (test : ℕ → Bool) (run x : List ℕ) → list_all test run ≡ true → Ends test x → behind test (run ++ x) ≡ x
behind-run test [] [] a e = refl
behind-run test [] (b ∷ x) a e = rw e refl
behind-run test (r ∷ run) x a e =
    let h = both (test r) (list_all test run) a in
    behind-cons test r (run ++ x) h.0 ∙ behind-run test run x h.1 e

front-behind-by : (b : ℕ) (l f r : List ℕ) (t : Bool) → l ≡ f ++ r → b ∷ l ≡ cond t (b ∷ f) [] ++ cond t r (b ∷ l)
front-behind-by b l f r true e = ap (λ z. b ∷ z) e
front-behind-by b l f r false e = refl

pub front-behind : (test : ℕ → Bool) (l : List ℕ) → l ≡ front test l ++ behind test l
front-behind test [] = refl
front-behind test (b ∷ l) = front-behind-by b l (front test l) (behind test l) (test b) (front-behind test l)

front-all-by : (test : ℕ → Bool) (b : ℕ) (f : List ℕ) (t : Bool) → test b ≡ t → list_all test f ≡ true → list_all test (cond t (b ∷ f) []) ≡ true
front-all-by test b f true e h = both-back (test b) (list_all test f) e h
front-all-by test b f false e h = refl

pub front-all : (test : ℕ → Bool) (l : List ℕ) → list_all test (front test l) ≡ true
front-all test [] = refl
front-all test (b ∷ l) = front-all-by test b (front test l) (test b) refl (front-all test l)

behind-ends-by : (test : ℕ → Bool) (b : ℕ) (l r : List ℕ) (t : Bool) → test b ≡ t → Ends test r → Ends test (cond t r (b ∷ l))
behind-ends-by test b l r true e h = h
behind-ends-by test b l r false e h = e

pub behind-ends : (test : ℕ → Bool) (l : List ℕ) → Ends test (behind test l)
behind-ends test [] = tt
behind-ends test (b ∷ l) = behind-ends-by test b l (behind test l) (test b) refl (behind-ends test l)

cut-off : (f r l : List ℕ) → l ≡ f ++ r → take (length l - length r) l ≡ f
cut-off f r l e =
    let n : length l - length r ≡ length f = omega (arith, ap length e, length-append f r) in
    ap (λ k. take k l) n ∙ (ap (take (length f)) e ∙ take-append_seam f r)

-- what the code cuts off is the front
pub take-front : (test : ℕ → Bool) (l : List ℕ) → take (length l - length (behind test l)) l ≡ front test l
take-front test l = cut-off (front test l) (behind test l) l (front-behind test l)

-- Marks

pub behind_mark-append : (mark x : List ℕ) → behind_mark mark (mark ++ x) ≡ Some x
behind_mark-append [] x = refl
behind_mark-append (m ∷ mark) x = rw (eq-eqb m m refl) (behind_mark-append mark x)

behind_mark-by : (m b : ℕ) (mark l x : List ℕ) (t : Bool) → (b == m) ≡ t → cond t (behind_mark mark l) None ≡ Some x → (behind_mark mark l ≡ Some x → l ≡ mark ++ x) → b ∷ l ≡ m ∷ (mark ++ x)
behind_mark-by m b mark l x true p e h =
    let q : b ≡ m = eqb-true b m p in
    let r : l ≡ mark ++ x = h e in
    cc
behind_mark-by m b mark l x false p e h = absurd (cc e)

pub behind_mark-is : (mark l x : List ℕ) → behind_mark mark l ≡ Some x → l ≡ mark ++ x
behind_mark-is [] l x e = some-same l x e
behind_mark-is (m ∷ mark) [] x e = absurd (cc e)
behind_mark-is (m ∷ mark) (b ∷ l) x e = behind_mark-by m b mark l x (b == m) refl e (behind_mark-is mark l x)

behind_mark-front-by : {A B : Type 0} (f : A → B) (t : Bool) (s : Option B) (s' : Option A) → s ≡ option_map f s' → cond t s None ≡ option_map f (cond t s' None)
behind_mark-front-by f true s s' e = e
behind_mark-front-by f false s s' e = refl

behind_mark-front : (mark l x : List ℕ) → length mark ≤ length l → behind_mark mark (l ++ x) ≡ option_map (λ r. r ++ x) (behind_mark mark l)
behind_mark-front [] l x h = refl
behind_mark-front (m ∷ mark) [] x h = absurd (omega arith)
behind_mark-front (m ∷ mark) (b ∷ l) x h = behind_mark-front-by (λ r. r ++ x) (b == m) (behind_mark mark (l ++ x)) (behind_mark mark l) (behind_mark-front mark l x (omega arith))

none-map : {A B : Type 0} (f : A → B) (o : Option A) → option_map f o ≡ None → o ≡ None
none-map f None e = refl
none-map f (Some a) e = absurd (cc e)

up_to-here : (mark l rest : List ℕ) → behind_mark mark l ≡ Some rest → up_to mark l ≡ Some (found [] rest)
unfolding up_to
up_to-here mark [] rest e = rw (e, up_to) refl
up_to-here mark (b ∷ l) rest e = rw (e, up_to) refl

pub up_to-next : (mark : List ℕ) (b : ℕ) (l : List ℕ) → behind_mark mark (b ∷ l) ≡ None → up_to mark (b ∷ l) ≡ option_map (λ (f : Found (List ℕ)). found (b ∷ f.it) f.rest) (up_to mark l)
unfolding up_to
up_to-next mark b l e = rw (e, up_to) refl

up_to-none : (mark : List ℕ) → behind_mark mark [] ≡ None → up_to mark [] ≡ None
unfolding up_to
up_to-none mark e = rw (e, up_to) refl

-- the mark at its first place is found
pub up_to-first : (mark inside x : List ℕ) → EndsAtFirst mark inside → up_to mark (inside ++ (mark ++ x)) ≡ Some (found inside x)
up_to-first mark [] x h = up_to-here mark (mark ++ x) x (behind_mark-append mark x)
up_to-first mark (b ∷ inside) x h =
    let long : length mark ≤ length (b ∷ (inside ++ mark)) = omega (arith, length-append inside mark) in
    let none : behind_mark mark ((b ∷ (inside ++ mark)) ++ x) ≡ None = behind_mark-front mark (b ∷ (inside ++ mark)) x long ∙ ap (option_map (λ r. r ++ x)) h.0 in
    let same : (b ∷ (inside ++ mark)) ++ x ≡ b ∷ (inside ++ (mark ++ x)) = simp append_assoc in
    up_to-next mark b (inside ++ (mark ++ x)) (subst (λ l. behind_mark mark l ≡ None) same none)
    ∙ ap (option_map (λ (f : Found (List ℕ)). found (b ∷ f.it) f.rest)) (up_to-first mark inside x h.1)

-- what is found is the mark at its first place
pub record UpTo (mark l : List ℕ) (f : Found (List ℕ)) : Type 0 where
  pub is_it : l ≡ f.it ++ (mark ++ f.rest)
  pub first : EndsAtFirst mark f.it

UpTo-here : (mark l rest : List ℕ) → behind_mark mark l ≡ Some rest → UpTo mark l (found [] rest)
UpTo-here mark l rest e = record { is_it = behind_mark-is mark l rest e; first = tt }

UpTo-next : (mark : List ℕ) (b : ℕ) (l : List ℕ) (g : Found (List ℕ)) → behind_mark mark (b ∷ l) ≡ None → UpTo mark l g → UpTo mark (b ∷ l) (found (b ∷ g.it) g.rest)
UpTo-next mark b l g e h =
    let long : length mark ≤ length (b ∷ (g.it ++ mark)) = omega (arith, length-append g.it mark) in
    let same : b ∷ l ≡ (b ∷ (g.it ++ mark)) ++ g.rest = ap (λ z. b ∷ z) h.is_it ∙ sym (simp append_assoc) in
    let none : behind_mark mark ((b ∷ (g.it ++ mark)) ++ g.rest) ≡ None = subst (λ z. behind_mark mark z ≡ None) same e in
    let front_none : option_map (λ r. r ++ g.rest) (behind_mark mark (b ∷ (g.it ++ mark))) ≡ None = sym (behind_mark-front mark (b ∷ (g.it ++ mark)) g.rest long) ∙ none in
    record { is_it = ap (λ z. b ∷ z) h.is_it; first = (none-map (λ r. r ++ g.rest) (behind_mark mark (b ∷ (g.it ++ mark))) front_none, h.first) }

up_to-is-here : (mark l rest : List ℕ) (f : Found (List ℕ)) → up_to mark l ≡ Some f → behind_mark mark l ≡ Some rest → UpTo mark l f
up_to-is-here mark l rest f e q = subst (UpTo mark l) (some-same (found [] rest) f (sym (up_to-here mark l rest q) ∙ e)) (UpTo-here mark l rest q)

up_to-is-next : (mark : List ℕ) (b : ℕ) (l : List ℕ) (f : Found (List ℕ)) (u : Option (Found (List ℕ))) → up_to mark l ≡ u → ((g : Found (List ℕ)) → up_to mark l ≡ Some g → UpTo mark l g) → behind_mark mark (b ∷ l) ≡ None → up_to mark (b ∷ l) ≡ Some f → UpTo mark (b ∷ l) f
up_to-is-next mark b l f (Some g) r h q e = subst (UpTo mark (b ∷ l)) (some-same (found (b ∷ g.it) g.rest) f (sym (up_to-next mark b l q ∙ ap (option_map (λ (k : Found (List ℕ)). found (b ∷ k.it) k.rest)) r) ∙ e)) (UpTo-next mark b l g q (h g r))
up_to-is-next mark b l f None r h q e =
    let n : up_to mark (b ∷ l) ≡ None = up_to-next mark b l q ∙ ap (option_map (λ (k : Found (List ℕ)). found (b ∷ k.it) k.rest)) r in
    absurd (cc)

up_to-is-by : (mark : List ℕ) (b : ℕ) (l : List ℕ) (f : Found (List ℕ)) (s : Option (List ℕ)) → behind_mark mark (b ∷ l) ≡ s → ((g : Found (List ℕ)) → up_to mark l ≡ Some g → UpTo mark l g) → up_to mark (b ∷ l) ≡ Some f → UpTo mark (b ∷ l) f
up_to-is-by mark b l f (Some rest) q h e = up_to-is-here mark (b ∷ l) rest f e q
up_to-is-by mark b l f None q h e = up_to-is-next mark b l f (up_to mark l) refl h q e

up_to-is-empty : (mark : List ℕ) (f : Found (List ℕ)) (s : Option (List ℕ)) → behind_mark mark [] ≡ s → up_to mark [] ≡ Some f → UpTo mark [] f
up_to-is-empty mark f (Some rest) q e = up_to-is-here mark [] rest f e q
up_to-is-empty mark f None q e = let n : up_to mark [] ≡ None = up_to-none mark q in absurd (cc)

pub up_to-is : (mark l : List ℕ) (f : Found (List ℕ)) → up_to mark l ≡ Some f → UpTo mark l f
up_to-is mark [] f e = up_to-is-empty mark f (behind_mark mark []) refl e
up_to-is mark (b ∷ l) f e = up_to-is-by mark b l f (behind_mark mark (b ∷ l)) refl (up_to-is mark l) e

-- What a result says of the steps that led to it

pub mapped : {A B P : Type 0} (f : A → B) (o : Option A) (y : B) → option_map f o ≡ Some y → ((x : A) → o ≡ Some x → f x ≡ y → P) → P
mapped f None y e k = absurd (cc e)
mapped f (Some x) y e k = k x refl (some-same (f x) y e)

pub chained : {A B P : Type 0} (f : A → Option B) (o : Option A) (y : B) → option_and_then f o ≡ Some y → ((x : A) → o ≡ Some x → f x ≡ Some y → P) → P
chained f None y e k = absurd (cc e)
chained f (Some x) y e k = k x refl e

pub passed : {A P : Type 0} (t : Bool) (o : Option A) (y : A) → cond t o None ≡ Some y → (t ≡ true → o ≡ Some y → P) → P
passed true o y e k = k refl e
passed false o y e k = absurd (cc e)

-- A walk that looks for a mark

abbrev pub behind_done : List ℕ → Found (List ℕ) → Found (List ℕ)
behind_done done f = found (done ++ f.it) f.rest

pub split-found : (mark l done rest after : List ℕ) → l ≡ done ++ rest → up_to mark l ≡ option_map (behind_done done) (up_to mark rest) → behind_mark mark rest ≡ Some after → Some (found (take (length l - length rest) l) after) ≡ up_to mark l
split-found mark l done rest after e u s =
    ap (λ z. Some (found z after)) (cut-off done rest l e ∙ sym (append-nil done))
    ∙ sym (u ∙ ap (option_map (behind_done done)) (up_to-here mark rest after s))

behind_done-more : (done : List ℕ) (b : ℕ) (o : Option (Found (List ℕ))) → option_map (behind_done done) (option_map (λ (f : Found (List ℕ)). found (b ∷ f.it) f.rest) o) ≡ option_map (behind_done (done ++ b ∷ [])) o
behind_done-more done b None = refl
behind_done-more done b (Some g) = ap (λ z. Some (found z g.rest)) (sym (append_assoc done (b ∷ []) g.it))

pub split-next : (mark l done rest more : List ℕ) (b : ℕ) → l ≡ done ++ rest → up_to mark l ≡ option_map (behind_done done) (up_to mark rest) → behind_mark mark rest ≡ None → rest ≡ b ∷ more →
    (further : List ℕ) × (l ≡ further ++ more) × (up_to mark l ≡ option_map (behind_done further) (up_to mark more))
split-next mark l done rest more b e u s r = (
  done ++ b ∷ [],
  e ∙ (ap (λ z. done ++ z) r ∙ sym (append_assoc done (b ∷ []) more)),
  u ∙ (ap (λ z. option_map (behind_done done) (up_to mark z)) r ∙ (ap (option_map (behind_done done)) (up_to-next mark b more (subst (λ z. behind_mark mark z ≡ None) r s)) ∙ behind_done-more done b (up_to mark more))),
)

nothing-left : (l : List ℕ) → length l ≡ 0 → l ≡ []
nothing-left [] e = refl
nothing-left (b ∷ l) e = absurd (omega (arith, e))

pub split-none : (mark l done rest : List ℕ) → up_to mark l ≡ option_map (behind_done done) (up_to mark rest) → behind_mark mark rest ≡ None → length rest ≡ 0 → None ≡ up_to mark l
split-none mark l done rest u s n =
    let r = nothing-left rest n in
    sym (u ∙ (ap (λ z. option_map (behind_done done) (up_to mark z)) r ∙ ap (option_map (behind_done done)) (up_to-none mark (subst (λ z. behind_mark mark z ≡ None) r s))))
