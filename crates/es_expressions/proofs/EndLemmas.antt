-- What goes on with a whole expression, and what one begins with.
use Rattle.std.proofs.Common.{◌≡◌, ◌≢◌, ℕ, ◌≤◌, true, List, [], ◌∷◌, ◌++◌, None, refl, sym, ◌∙◌, subst, arith}
use Rattle.es_expressions.specs.Roles.{front, joint}
use Rattle.es_expressions.specs.Phrases.{Phrase, spelled}
use Rattle.es_expressions.specs.Phrases.Phrase.{Leaf, Group, Index, Member, CallEmpty, CallWith, NewPlain, NewEmpty, NewWith, Postfix, Signed, Stepped, Binary, Choice, Assign, Comma}
use Rattle.es_expressions.specs.Grammar.{IsExpression}
use Rattle.es_expressions.specs.Machine.{reach, behind, join, move, unwound}
use Rattle.es_expressions.specs.Beginnings.{least, IsWhole, Begins, goes_on_with}
use Rattle.es_expressions.specs.declared.lexemes.Lexeme.{Lexeme}
use Rattle.es_expressions.specs.declared.expressions.Extent.{Extent}
use Rattle.es_expressions.specs.declared.expressions.Extent.TheVariants.{WithCommas, WithoutCommas}
use Rattle.es_expressions.specs.declared.roles.Front.TheVariants.{Nothing as NoFront}
use Rattle.es_expressions.specs.declared.roles.Joint.{Joint}
use Rattle.es_expressions.specs.declared.roles.Joint.TheVariants.{Comma as CommaJoint, Close, KeyEnd, Colon, Nothing as NoJoint}
use Rattle.es_expressions.proofs.LevelLemmas.{edge-positive}
use Rattle.es_expressions.proofs.ReadLemmas.{joins}
use Rattle.es_expressions.proofs.WholeLemmas.{whole-run, read-no-more}

pub least-bound : (extent : Extent) → least extent ≤ 2
least-bound WithCommas = omega arith
least-bound WithoutCommas = omega arith

-- where the reader doesn't join a token to a whole expression, none goes on with it

ends : (base : ℕ) → base ≤ 2 → (ts : List Lexeme) (e : Phrase) (t : Lexeme) (j : Joint) → joint t ≡ j → reach j ≤ 1 → join base j t e [] ≡ None → IsWhole base ts e → Begins base (ts ++ (t ∷ [])) → ⊥
ends base b ts e t j h r n w g =
    let stays : move base (behind (unwound e [])) t ≡ None = joins base t j e [] h w.expression (omega (arith, edge-positive e w.expression)) (omega arith) ∙ n in
    read-no-more base b ts (behind (unwound e [])) t (whole-run base b ts e w) stays g

by-joint : (extent : Extent) (ts : List Lexeme) (e : Phrase) (t : Lexeme) → IsWhole (least extent) ts e → Begins (least extent) (ts ++ (t ∷ [])) → (j : Joint) → joint t ≡ j → goes_on_with extent j ≡ true
by-joint WithoutCommas ts e t w g CommaJoint h = absurd (ends 2 (omega arith) ts e t CommaJoint h (omega arith) refl w g)
by-joint extent ts e t w g Close h = absurd (ends (least extent) (least-bound extent) ts e t Close h (omega arith) refl w g)
by-joint extent ts e t w g KeyEnd h = absurd (ends (least extent) (least-bound extent) ts e t KeyEnd h (omega arith) refl w g)
by-joint extent ts e t w g Colon h = absurd (ends (least extent) (least-bound extent) ts e t Colon h (omega arith) refl w g)
by-joint extent ts e t w g NoJoint h = absurd (ends (least extent) (least-bound extent) ts e t NoJoint h (omega arith) refl w g)
by-joint extent ts e t w g _ h = refl

pub goes-on : (extent : Extent) (ts : List Lexeme) (e : Phrase) (t : Lexeme) → IsWhole (least extent) ts e → Begins (least extent) (ts ++ (t ∷ [])) → goes_on_with extent (joint t) ≡ true
goes-on extent ts e t w g = by-joint extent ts e t w g (joint t) refl

-- a token stands first, and an operand begins with it

StandsFirst : List Lexeme → Type 0
StandsFirst [] = ⊥
StandsFirst (t ∷ ts) = front t ≢ NoFront

stands-first : (e : Phrase) (rest : List Lexeme) → IsExpression e → StandsFirst (spelled e rest)
unfolding StandsFirst
stands-first (Leaf t) rest h = λ n. let q = sym h ∙ n in cc
stands-first (Group o e c) rest h = λ n. let q = sym h.0 ∙ n in cc
stands-first (Index b o e c) rest h = stands-first b (o ∷ spelled e (c ∷ rest)) h.0
stands-first (Member b d x) rest h = stands-first b (d ∷ (x ∷ rest)) h.0
stands-first (CallEmpty f o c) rest h = stands-first f (o ∷ (c ∷ rest)) h.0
stands-first (CallWith f o e c) rest h = stands-first f (o ∷ spelled e (c ∷ rest)) h.0
stands-first (NewPlain n f) rest h = λ x. let q = sym h.0 ∙ x in cc
stands-first (NewEmpty n f o c) rest h = λ x. let q = sym h.0 ∙ x in cc
stands-first (NewWith n f o e c) rest h = λ x. let q = sym h.0 ∙ x in cc
stands-first (Postfix e k) rest h = stands-first e (k ∷ rest) h.0
stands-first (Signed k e) rest h = λ x. let q = sym h.0 ∙ x in cc
stands-first (Stepped k e) rest h = λ x. let q = sym h.0 ∙ x in cc
stands-first (Binary a k b) rest h = stands-first a (k ∷ spelled b rest) h.0
stands-first (Choice a q b c d) rest h = stands-first a (q ∷ spelled b (c ∷ spelled d rest)) h.0
stands-first (Assign a k b) rest h = stands-first a (k ∷ spelled b rest) h.0
stands-first (Comma a k b) rest h = stands-first a (k ∷ spelled b rest) h.0

whole-first : (base : ℕ) (ts : List Lexeme) (e : Phrase) → IsWhole base ts e → StandsFirst ts
whole-first base ts e w = subst StandsFirst w.is_spelled (stands-first e [] w.expression)

pub first-front : (base : ℕ) (t : Lexeme) (more : List Lexeme) → Begins base (t ∷ more) → front t ≢ NoFront
unfolding StandsFirst
first-front base t more g = whole-first base ((t ∷ more) ++ g.more) g.whole_phrase g.whole

pub some-token : (base : ℕ) (e : Phrase) → IsWhole base [] e → ⊥
unfolding StandsFirst
some-token base e w = whole-first base [] e w
