-- Reserved words are found by their spelling.
use Rattle.std.proofs.Common.{◌≡◌, ◌≢◌, ℕ, Bool, true, false, cond, List, [], ◌∷◌, Option, Some, None, refl, sym, ◌∙◌, ap, subst}
use Rattle.std.specs.Prelude.{nat_eq, find, MatchOption}
use Rattle.std.specs.Cmp.Lexicographic.{pointwise, bytes_decides}
use Rattle.es_lexer.specs.Spellings.{word_spelling}
use Rattle.es_lexer.specs.ScannedElements.{all_words, word_of}
use Rattle.es_lexer.proofs.CodeLemmas.{some-same}
use Rattle.es_lexer.specs.declared.words.ReservedWord.{ReservedWord}
use Rattle.es_lexer.specs.declared.words.ReservedWord.TheVariants.{Break, Case, Catch, Class, Const, Continue, Debugger, Default, Delete, Do, Else, Enum, Export, Extends, False, Finally, For, Function, If, Import, In, New, Null, Return, Super, Switch, This, Throw, True, Try, Typeof, Var, Void, While, With}

-- a word is found by its spelling
pub word_of-word : (word : ReservedWord) → word_of (word_spelling word) ≡ Some word
unfolding word_of
word_of-word Break = refl
word_of-word Case = refl
word_of-word Catch = refl
word_of-word Class = refl
word_of-word Const = refl
word_of-word Continue = refl
word_of-word Debugger = refl
word_of-word Default = refl
word_of-word Delete = refl
word_of-word Do = refl
word_of-word Else = refl
word_of-word Enum = refl
word_of-word Export = refl
word_of-word Extends = refl
word_of-word False = refl
word_of-word Finally = refl
word_of-word For = refl
word_of-word Function = refl
word_of-word If = refl
word_of-word Import = refl
word_of-word In = refl
word_of-word New = refl
word_of-word Null = refl
word_of-word Return = refl
word_of-word Super = refl
word_of-word Switch = refl
word_of-word This = refl
word_of-word Throw = refl
word_of-word True = refl
word_of-word Try = refl
word_of-word Typeof = refl
word_of-word Var = refl
word_of-word Void = refl
word_of-word While = refl
word_of-word With = refl

find-some-by : {A : Type 0} (p : A → Bool) (x : A) (xs : List A) (y : A) (t : Bool) → p x ≡ t → cond t (Some x) (find p xs) ≡ Some y → (find p xs ≡ Some y → p y ≡ true) → p y ≡ true
find-some-by p x xs y true q e k = subst (λ z. p z ≡ true) (some-same x y e) q
find-some-by p x xs y false q e k = k e

find-some : {A : Type 0} (p : A → Bool) (xs : List A) (y : A) → find p xs ≡ Some y → p y ≡ true
find-some p [] y e = absurd (cc e)
find-some p (x ∷ xs) y e = find-some-by p x xs y (p x) refl e (find-some p xs y)

-- and what is found is spelled so
pub word_of-is : (name : List ℕ) (word : ReservedWord) → word_of name ≡ Some word → name ≡ word_spelling word
unfolding word_of
word_of-is name word e = sym ((bytes_decides (word_spelling word) name).0 (find-some (λ w. pointwise nat_eq (word_spelling w) name) all_words word e))

-- a name that isn't found is no word
pub word_of-none : (name : List ℕ) → word_of name ≡ None → (word : ReservedWord) → name ≢ word_spelling word
word_of-none name e word s =
    let one : word_of name ≡ Some word = ap word_of s ∙ word_of-word word in
    absurd (cc)

pub word-found : (name : List ℕ) → MatchOption (word_of name) ((word : ReservedWord) → name ≢ word_spelling word) (λ word. name ≡ word_spelling word)
word-found name = by (word_of name) refl
  where
    by : (o : Option ReservedWord) → word_of name ≡ o → MatchOption o ((word : ReservedWord) → name ≢ word_spelling word) (λ word. name ≡ word_spelling word)
    by None q = word_of-none name q
    by (Some word) q = word_of-is name word q
