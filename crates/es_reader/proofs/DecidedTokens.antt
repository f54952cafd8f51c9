-- Of each token it is told whether it is a mark, a word or a name.
use Rattle.std.proofs.Common.{◌≡◌, ℕ, Bool, true, false, ◌⊎◌, inl, inr, List, Option, Some, None, refl, sym, ◌∙◌, ap, subst, rules}
use Rattle.std.specs.Prelude.{slice_get}
use Rattle.std.proofs.lemmas.Option.{same_Some}
use denote.Enum.Bare.{sameb, same_true, same_false}
use Rattle.es_lexer.specs.contracts.punctuators.Punctuator.{the_type as mark_type}
use Rattle.es_lexer.specs.contracts.words.ReservedWord.{the_type as word_type}
use Rattle.es_lexer.specs.declared.words.ReservedWord.{ReservedWord}
use Rattle.es_lexer.specs.declared.punctuators.Punctuator.{Punctuator}
use Rattle.es_expressions.specs.declared.lexemes.Lexeme.{Lexeme}
use Rattle.es_expressions.specs.declared.lexemes.Symbol.{Symbol}
use Rattle.es_expressions.specs.declared.lexemes.Symbol.TheVariants.{Name, Word, Mark}
use Rattle.es_reader.specs.Grammar.{IsMark, IsWord, IsName}
use Rattle.es_reader.specs.Parts.{IsThere}

pub mark-or-not : (mark : Punctuator) (t : Lexeme) → IsMark mark t ⊎ (IsMark mark t → ⊥)
mark-or-not mark t = by t.symbol refl
  where
    tell : (m : Punctuator) → t.symbol ≡ Mark m → (b : Bool) → sameb mark_type m mark ≡ b → IsMark mark t ⊎ (IsMark mark t → ⊥)
    tell m e true h = inl (e ∙ ap (λ x. Mark x) (same_true mark_type (search rules) m mark h))
    tell m e false h = inr (λ i. let q : Mark m ≡ Mark mark = sym e ∙ i in let s : m ≡ mark = cc in same_false mark_type m mark h s)

    by : (s : Symbol) → t.symbol ≡ s → IsMark mark t ⊎ (IsMark mark t → ⊥)
    by (Mark m) e = tell m e (sameb mark_type m mark) refl
    by _ e = inr (λ i. absurd (cc))

pub word-or-not : (word : ReservedWord) (t : Lexeme) → IsWord word t ⊎ (IsWord word t → ⊥)
word-or-not word t = by t.symbol refl
  where
    tell : (m : ReservedWord) → t.symbol ≡ Word m → (b : Bool) → sameb word_type m word ≡ b → IsWord word t ⊎ (IsWord word t → ⊥)
    tell m e true h = inl (e ∙ ap (λ x. Word x) (same_true word_type (search rules) m word h))
    tell m e false h = inr (λ i. let q : Word m ≡ Word word = sym e ∙ i in let s : m ≡ word = cc in same_false word_type m word h s)

    by : (s : Symbol) → t.symbol ≡ s → IsWord word t ⊎ (IsWord word t → ⊥)
    by (Word m) e = tell m e (sameb word_type m word) refl
    by _ e = inr (λ i. absurd (cc))

-- such a token stands at the place, or none does
pub there-or-not : (Is : Lexeme → Type 0) → ((t : Lexeme) → Is t ⊎ (Is t → ⊥)) → (tokens : List Lexeme) (place : ℕ) → IsThere Is tokens place ⊎ (IsThere Is tokens place → ⊥)
there-or-not Is tell tokens place = by (slice_get tokens place) refl
  where
    by : (o : Option Lexeme) → slice_get tokens place ≡ o → IsThere Is tokens place ⊎ (IsThere Is tokens place → ⊥)
    by None e = inr (λ t. let q = sym e ∙ t.1 in absurd (cc))
    by (Some x) e = elim (tell x) [
      | inl i ↦ inl (x, e, i)
      | inr n ↦ inr (λ t. n (subst (λ y. Is y) (same_Some t.0 x (sym t.1 ∙ e)) t.2))
    ]

pub mark-there : (mark : Punctuator) (tokens : List Lexeme) (place : ℕ) → IsThere (IsMark mark) tokens place ⊎ (IsThere (IsMark mark) tokens place → ⊥)
mark-there mark tokens place = there-or-not (IsMark mark) (mark-or-not mark) tokens place

pub word-there : (word : ReservedWord) (tokens : List Lexeme) (place : ℕ) → IsThere (IsWord word) tokens place ⊎ (IsThere (IsWord word) tokens place → ⊥)
word-there word tokens place = there-or-not (IsWord word) (word-or-not word) tokens place

abbrev pub IsNamed : List ℕ → List Lexeme → ℕ → Type 0
IsNamed name tokens place = IsThere (λ token. token.symbol ≡ Name name) tokens place

pub name-at : (tokens : List Lexeme) (place : ℕ) → ((name : List ℕ) × IsNamed name tokens place) ⊎ (IsThere IsName tokens place → ⊥)
name-at tokens place = by (slice_get tokens place) refl
  where
    of : (t : Lexeme) → slice_get tokens place ≡ Some t → (s : Symbol) → t.symbol ≡ s → ((name : List ℕ) × IsNamed name tokens place) ⊎ (IsThere IsName tokens place → ⊥)
    of t e (Name name) h = inl (name, (t, e, h))
    of t e _ h = inr (λ x. let same : x.0 ≡ t = same_Some x.0 t (sym x.1 ∙ e) in let i : IsName t = subst (λ y. IsName y) same x.2 in absurd (cc))

    by : (o : Option Lexeme) → slice_get tokens place ≡ o → ((name : List ℕ) × IsNamed name tokens place) ⊎ (IsThere IsName tokens place → ⊥)
    by None e = inr (λ t. let q = sym e ∙ t.1 in absurd (cc))
    by (Some t) e = of t e t.symbol refl
