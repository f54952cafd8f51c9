-- Blocks, and where they and at-rules end.
use Rattle.std.proofs.Common.{◌≡◌, ℕ, zero, suc, Bool, true, false, cond, List, [], ◌∷◌, ◌++◌, Some, refl, sym, ◌∙◌, ap, append_assoc, inl, inr}
use Rattle.std.proofs.lemmas.Bool.{eqb-true}
use Rattle.std.specs.Prelude.{◌||◌, nat_eq}
use Rattle.std.specs.List.{list_any}
use Rattle.style_reader.specs.Declarations.{Lacks, is_semicolon}
use Rattle.style_reader.specs.Readings.{behind_at_rule, behind_block}
use Rattle.style_reader.specs.Sheets.{Block, EndsAtRule, HasOnlyPairs, IsBalanced, block_text, ends_prelude, is_close, is_open}
use Rattle.style_reader.specs.Sheets.Block.{Nothing, Code, Nested}

or-false : (a b : Bool) → (a || b) ≡ false → (a ≡ false) × (b ≡ false)
or-false false b e = (refl, e)
or-false true b e = absurd (cc e)

-- ---- a block is gone through as a whole

behind-code : (depth code : ℕ) (rest : List ℕ) → is_open code ≡ false → is_close code ≡ false → behind_block depth (code ∷ rest) ≡ behind_block depth rest
unfolding behind_block
behind-code zero code rest o c = rw (o, c) refl
behind-code (suc depth) code rest o c = rw (o, c) refl

behind-open : (depth : ℕ) (rest : List ℕ) → behind_block depth (123 ∷ rest) ≡ behind_block (suc depth) rest
unfolding behind_block
behind-open zero rest = refl
behind-open (suc depth) rest = refl

behind-close : (depth : ℕ) (rest : List ℕ) → behind_block (suc depth) (125 ∷ rest) ≡ behind_block depth rest
unfolding behind_block
behind-close depth rest = refl

pub behind_block-over : (block : Block) → HasOnlyPairs block → (depth : ℕ) (more : List ℕ) → behind_block depth (block_text block ++ more) ≡ behind_block depth more
behind_block-over Nothing pairs depth more = refl
behind_block-over (Code code following) pairs depth more = behind-code depth code (block_text following ++ more) pairs.0 pairs.1 ∙ behind_block-over following pairs.2 depth more
behind_block-over (Nested inside following) pairs depth more =
    behind-open depth ((block_text inside ++ (125 ∷ block_text following)) ++ more)
    ∙ ap (behind_block (suc depth)) (append_assoc (block_text inside) (125 ∷ block_text following) more)
    ∙ behind_block-over inside pairs.0 (suc depth) (125 ∷ (block_text following ++ more))
    ∙ behind-close depth (block_text following ++ more)
    ∙ behind_block-over following pairs.1 depth more

pub behind_block-balanced : (block rest : List ℕ) → IsBalanced block → behind_block 0 (block ++ (125 ∷ rest)) ≡ Some rest
unfolding behind_block
behind_block-balanced block rest balanced = ap (λ (t : List ℕ). behind_block 0 (t ++ (125 ∷ rest))) balanced.text_is ∙ behind_block-over balanced.block balanced.pairs 0 (125 ∷ rest)

-- ---- what is gone through is blocks

-- the text is so many blocks and one, each closed, and what is left
abbrev pub Closes : ℕ → List ℕ → List ℕ → Type 0
Closes zero text rest = (block : Block) × HasOnlyPairs block × (text ≡ block_text block ++ (125 ∷ rest))
Closes (suc depth) text rest = (block : Block) × (more : List ℕ) × HasOnlyPairs block × (text ≡ block_text block ++ (125 ∷ more)) × Closes depth more rest

closes-code : (depth code : ℕ) (text rest : List ℕ) → is_open code ≡ false → is_close code ≡ false → Closes depth text rest → Closes depth (code ∷ text) rest
closes-code zero code text rest o c h = (Code code h.0, (o, c, h.1), ap (λ (t : List ℕ). code ∷ t) h.2)
closes-code (suc depth) code text rest o c h = (Code code h.0, h.1, (o, c, h.2), ap (λ (t : List ℕ). code ∷ t) h.3, h.4)

nested-text : (inside following : Block) (text more rest : List ℕ) → text ≡ block_text inside ++ (125 ∷ more) → more ≡ block_text following ++ (125 ∷ rest) → 123 ∷ text ≡ block_text (Nested inside following) ++ (125 ∷ rest)
nested-text inside following text more rest outer inner =
    ap (λ (t : List ℕ). 123 ∷ t) (outer ∙ ap (λ (t : List ℕ). block_text inside ++ (125 ∷ t)) inner ∙ sym (append_assoc (block_text inside) (125 ∷ block_text following) (125 ∷ rest)))

closes-open : (depth : ℕ) (text rest : List ℕ) → Closes (suc depth) text rest → Closes depth (123 ∷ text) rest
closes-open zero text rest h =
    let inner = h.4 in
    (Nested h.0 inner.0, (h.2, inner.1), nested-text h.0 inner.0 text h.1 rest h.3 inner.2)
closes-open (suc depth) text rest h =
    let inner = h.4 in
    (Nested h.0 inner.0, inner.1, (h.2, inner.2), nested-text h.0 inner.0 text h.1 inner.1 h.3 inner.3, inner.4)

-- a code that passes a test for one code is that code
pub the_code : (code other : ℕ) → nat_eq code other ≡ true → code ≡ other
the_code code other e = eqb-true code other e

pub closes-found : (depth : ℕ) (text rest : List ℕ) → behind_block depth text ≡ Some rest → Closes depth text rest
unfolding behind_block
closes-found depth [] rest e = absurd (cc e)
closes-found zero (code ∷ text) rest e = by (is_open code) (is_close code) refl refl (λ d h. closes-found d text rest h) e
  where
    by : (o c : Bool) → is_open code ≡ o → is_close code ≡ c → ((d : ℕ) → behind_block d text ≡ Some rest → Closes d text rest) → cond o (behind_block 1 text) (cond c (Some text) (behind_block zero text)) ≡ Some rest → Closes zero (code ∷ text) rest
    by true c is not more h = rw (the_code code 123 is) (closes-open zero text rest (more 1 h))
    by false true is not more h = let same : text ≡ rest = cc in (Nothing, tt, rw (the_code code 125 not, same) refl)
    by false false is not more h = closes-code zero code text rest is not (more 0 h)
closes-found (suc depth) (code ∷ text) rest e = by (is_open code) (is_close code) refl refl (λ d h. closes-found d text rest h) e
  where
    by : (o c : Bool) → is_open code ≡ o → is_close code ≡ c → ((d : ℕ) → behind_block d text ≡ Some rest → Closes d text rest) → cond o (behind_block (suc (suc depth)) text) (cond c (behind_block depth text) (behind_block (suc depth) text)) ≡ Some rest → Closes (suc depth) (code ∷ text) rest
    by true c is not more h = rw (the_code code 123 is) (closes-open (suc depth) text rest (more (suc (suc depth)) h))
    by false true is not more h = (Nothing, text, tt, rw (the_code code 125 not) refl, more depth h)
    by false false is not more h = closes-code (suc depth) code text rest is not (more (suc depth) h)

-- ---- at-rules

at_rule-skip : (code : ℕ) (text : List ℕ) → ends_prelude code ≡ false → behind_at_rule (code ∷ text) ≡ behind_at_rule text
unfolding behind_at_rule
at_rule-skip code text e = let apart = or-false (is_semicolon code) (is_open code) e in rw (apart.0, apart.1) refl

at_rule-over : (prelude more : List ℕ) → Lacks ends_prelude prelude → behind_at_rule (prelude ++ more) ≡ behind_at_rule more
at_rule-over [] more lacks = refl
at_rule-over (code ∷ prelude) more lacks =
    let apart = or-false (ends_prelude code) (list_any ends_prelude prelude) lacks in
    at_rule-skip code (prelude ++ more) apart.0 ∙ at_rule-over prelude more apart.1

pub at_rule-ended : (text rest : List ℕ) → EndsAtRule text rest → behind_at_rule text ≡ Some rest
unfolding behind_at_rule
at_rule-ended text rest (inl statement) = ap behind_at_rule statement.end_to_end ∙ at_rule-over statement.prelude (59 ∷ rest) statement.first
at_rule-ended text rest (inr block) = ap behind_at_rule block.end_to_end ∙ at_rule-over block.prelude (123 ∷ (block.block ++ (125 ∷ rest))) block.first ∙ behind_block-balanced block.block rest block.closed

ends-more : (code : ℕ) (text rest : List ℕ) → ends_prelude code ≡ false → EndsAtRule text rest → EndsAtRule (code ∷ text) rest
ends-more code text rest e (inl statement) = inl (record { prelude = code ∷ statement.prelude; end_to_end = ap (λ (t : List ℕ). code ∷ t) statement.end_to_end; first = rw e statement.first })
ends-more code text rest e (inr block) = inr (record { prelude = code ∷ block.prelude; block = block.block; end_to_end = ap (λ (t : List ℕ). code ∷ t) block.end_to_end; first = rw e block.first; closed = block.closed })

neither : (a b : Bool) → a ≡ false → b ≡ false → (a || b) ≡ false
neither a b e f = rw (e, f) refl

pub at_rule-found : (text rest : List ℕ) → behind_at_rule text ≡ Some rest → EndsAtRule text rest
unfolding behind_at_rule
at_rule-found [] rest e = absurd (cc e)
at_rule-found (code ∷ text) rest e = by (is_semicolon code) (is_open code) refl refl (at_rule-found text rest) e
  where
    by : (s o : Bool) → is_semicolon code ≡ s → is_open code ≡ o → (behind_at_rule text ≡ Some rest → EndsAtRule text rest) → cond s (Some text) (cond o (behind_block 0 text) (behind_at_rule text)) ≡ Some rest → EndsAtRule (code ∷ text) rest
    by true o is not more h = let same : text ≡ rest = cc in inl (record { prelude = []; end_to_end = rw (the_code code 59 is, same) refl; first = refl })
    by false true is not more h =
        let closed = closes-found 0 text rest h in
        inr (record { prelude = []; block = block_text closed.0; end_to_end = rw (the_code code 123 not) (ap (λ (t : List ℕ). 123 ∷ t) closed.2); first = refl; closed = record { block = closed.0; pairs = closed.1; text_is = refl } })
    by false false is not more h = ends-more code text rest (neither (is_semicolon code) (is_open code) is not) (more h)
