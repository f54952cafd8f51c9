-- Names, each once.
use Rattle.std.proofs.Common.{◌≡◌, ℕ, Bool, true, false, cond, List, [], ◌∷◌, ◌++◌, refl, sym, ◌∙◌, ap, subst, ◌||◌, append_assoc, append-nil}
use Rattle.std.specs.List.{list_any, IsDistinct}
use Rattle.bml_bytes.specs.Words.{is_same}
use Rattle.es_reader.specs.Programs.{is_among, new_names}
use Rattle.es_reader.specs.Told.{with_name, with_names}
use Rattle.es_reader.proofs.Fronts.{distinct-apart}

pub among-any : (name : List ℕ) (names : List (List ℕ)) → list_any (is_same name) names ≡ is_among name names
among-any name [] = refl
among-any name (n ∷ ns) = ap (λ b. is_same name n || b) (among-any name ns)

pub among-of : (name key : List ℕ) (names keys : List (List ℕ)) → key ≡ name → keys ≡ names → list_any (is_same key) keys ≡ is_among name names
among-of name key names keys e f = ap (λ k. list_any (is_same k) keys) e ∙ (ap (λ ks. list_any (is_same name) ks) f ∙ among-any name names)

pub inserted : (name key : List ℕ) (names keys : List (List ℕ)) → key ≡ name → keys ≡ names → cond (list_any (is_same key) keys) keys (keys ++ (key ∷ [])) ≡ with_name names name
inserted name key names keys e f = ap (λ b. cond b keys (keys ++ (key ∷ []))) (among-of name key names keys e f) ∙ (ap (λ ks. cond (is_among name names) ks (ks ++ (key ∷ []))) f ∙ ap (λ k. cond (is_among name names) names (names ++ (k ∷ []))) e)

-- the names that are new, behind those that are known

or-swap : (a b c : Bool) → (a || (b || c)) ≡ (b || (a || c))
or-swap true true c = refl
or-swap true false c = refl
or-swap false true c = refl
or-swap false false c = refl

among-more : (x z : List ℕ) (ks : List (List ℕ)) → is_among x (ks ++ (z ∷ [])) ≡ (is_same x z || is_among x ks)
among-more x z [] = refl
among-more x z (k ∷ ks) = ap (λ b. is_same x k || b) (among-more x z ks) ∙ or-swap (is_same x k) (is_same x z) (is_among x ks)

new-step : (z : List ℕ) (zs ks kn : List (List ℕ)) (b : Bool) → is_among z ks ≡ b → is_among z kn ≡ b → with_names ks zs ≡ ks ++ new_names kn zs → with_names (ks ++ (z ∷ [])) zs ≡ (ks ++ (z ∷ [])) ++ new_names (z ∷ kn) zs → with_names ks (z ∷ zs) ≡ ks ++ new_names kn (z ∷ zs)
new-step z zs ks kn true e f known fresh =
    ap (λ b. with_names (cond b ks (ks ++ (z ∷ []))) zs) e ∙ (known ∙ ap (λ b. ks ++ cond b (new_names kn zs) (z ∷ new_names (z ∷ kn) zs)) (sym f))
new-step z zs ks kn false e f known fresh =
    ap (λ b. with_names (cond b ks (ks ++ (z ∷ []))) zs) e
    ∙ (fresh ∙ (append_assoc ks (z ∷ []) (new_names (z ∷ kn) zs) ∙ ap (λ b. ks ++ cond b (new_names kn zs) (z ∷ new_names (z ∷ kn) zs)) (sym f)))

with-new : (zs ks kn : List (List ℕ)) → ((x : List ℕ) → is_among x ks ≡ is_among x kn) → with_names ks zs ≡ ks ++ new_names kn zs
with-new [] ks kn h = sym (append-nil ks)
with-new (z ∷ zs) ks kn h =
    new-step z zs ks kn (is_among z ks) refl (sym (h z)) (with-new zs ks kn h) (with-new zs (ks ++ (z ∷ [])) (z ∷ kn) (λ x. among-more x z ks ∙ ap (λ b. is_same x z || b) (h x)))

with-distinct : (ps ks : List (List ℕ)) → IsDistinct is_same (ks ++ ps) → with_names ks ps ≡ ks ++ ps
with-distinct [] ks d = sym (append-nil ks)
with-distinct (p ∷ ps) ks d =
    ap (λ b. with_names (cond b ks (ks ++ (p ∷ []))) ps) (distinct-apart ks p ps d)
    ∙ (with-distinct ps (ks ++ (p ∷ [])) (subst (λ (ns : List (List ℕ)). IsDistinct is_same ns) (sym (append_assoc ks (p ∷ []) ps)) d) ∙ append_assoc ks (p ∷ []) ps)

with-on : (known xs ys : List (List ℕ)) → with_names known (xs ++ ys) ≡ with_names (with_names known xs) ys
with-on known [] ys = refl
with-on known (x ∷ xs) ys = with-on (with_name known x) xs ys

pub names-once : (xs : List (List ℕ)) → with_names [] xs ≡ new_names [] xs
names-once xs = with-new xs [] [] (λ x. refl)

pub locals-are : (ps xs : List (List ℕ)) → IsDistinct is_same ps → with_names ps xs ≡ new_names [] (ps ++ xs)
locals-are ps xs d =
    ap (λ ns. with_names ns xs) (sym (with-distinct ps [] d)) ∙ (sym (with-on [] ps xs) ∙ names-once (ps ++ xs))
