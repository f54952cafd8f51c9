-- The grammar of a sheet (CSS level 1, 7.1, with the rules of CSS level 2, 4.1 and 4.2, on what is
-- left out, in this project's own profile), once its comments are spaces:
--
--     sheet        = { white* (rule | at-rule) } white* (open rule | open at-rule | rest)
--     rule         = selectors "{" codes up to the first "}"
--     open rule    = selectors "{" codes without "}", to the end
--     rest         = selectors, to the end
--     selectors    = codes up to the first "{", of which the first is neither white nor "@"
--     at-rule      = "@", codes up to the first ";", or up to the first "{" where that comes
--                    before, and then the block that this opens, up to the "}" that closes it
--     open at-rule = "@" and what is no at-rule, to the end
--     block        = { code other than braces | "{" block "}" }
--
-- An open rule is read as a rule; an at-rule, an open one and the rest are left out. Quotes and
-- brackets hide nothing, which is this project's own. Every text is a sheet, in one way (a law).
use Rattle.std.specs.Prelude.{◌≡◌, ℕ, ◌==◌, Bool, false, true, ◌||◌, ◌⊎◌, List, [], ◌∷◌, ◌++◌}
use Rattle.std.specs.List.{list_all}
use Rattle.std.specs.Str.{byte}
use Rattle.style_reader.specs.Characters.{is_white}
use Rattle.style_reader.specs.Declarations.{Lacks, is_semicolon}

abbrev pub is_at : ℕ → Bool
is_at code = code == byte "@"

abbrev pub is_open : ℕ → Bool
is_open code = code == byte "{"

abbrev pub is_close : ℕ → Bool
is_close code = code == byte "}"

-- the parts of a sheet, each with what follows it; of what is left out only that it stands there
pub data Sheet : Type 0 where
  Rest : Sheet
  Rule : (selectors block : List ℕ) → (following : Sheet) → Sheet
  OpenRule : (selectors block : List ℕ) → Sheet
  AtRule : (following : Sheet) → Sheet
  OpenAtRule : Sheet

abbrev pub IsWhite : List ℕ → Type 0
IsWhite text = list_all is_white text ≡ true

-- no white stands at the front, and no `@`
abbrev pub BeginsRule : List ℕ → Type 0
BeginsRule [] = Unit {0}
BeginsRule (code ∷ more) = (is_white code ≡ false) × (is_at code ≡ false)

-- what is selected goes up to the first `{`
pub record AreSelectors (selectors : List ℕ) : Type 0 where
  pub begins : BeginsRule selectors
  pub opened_first : Lacks is_open selectors

-- ---- at-rules

-- what stands between a `{` and the `}` that closes it
pub data Block : Type 0 where
  Nothing : Block
  Code : (code : ℕ) → (following : Block) → Block
  Nested : (inside following : Block) → Block

abbrev pub block_text : Block → List ℕ
block_text Nothing = []
block_text (Code code following) = code ∷ block_text following
block_text (Nested inside following) = 123 ∷ (block_text inside ++ (125 ∷ block_text following))

abbrev pub HasOnlyPairs : Block → Type 0
HasOnlyPairs Nothing = Unit {0}
HasOnlyPairs (Code code following) =
    (is_open code ≡ false) × (is_close code ≡ false) × HasOnlyPairs following
HasOnlyPairs (Nested inside following) = HasOnlyPairs inside × HasOnlyPairs following

-- braces stand in the text in pairs alone
pub record IsBalanced (text : List ℕ) : Type 0 where
  pub block : Block
  pub pairs : HasOnlyPairs block
  pub text_is : text ≡ block_text block

-- neither `;` nor `{`
abbrev pub ends_prelude : ℕ → Bool
ends_prelude code = is_semicolon code || is_open code

-- behind the `@`: ended by `;`, so that this much is left
pub record IsStatement (text rest : List ℕ) : Type 0 where
  pub prelude : List ℕ
  pub end_to_end : text ≡ prelude ++ (59 ∷ rest)
  pub first : Lacks ends_prelude prelude

-- or by a block
pub record IsBlockRule (text rest : List ℕ) : Type 0 where
  pub prelude : List ℕ
  pub block : List ℕ
  pub end_to_end : text ≡ prelude ++ (123 ∷ (block ++ (125 ∷ rest)))
  pub first : Lacks ends_prelude prelude
  pub closed : IsBalanced block

-- an at-rule that leaves this much
abbrev pub EndsAtRule : List ℕ → List ℕ → Type 0
EndsAtRule text rest = IsStatement text rest ⊎ IsBlockRule text rest

-- ---- sheets

-- the text is white and then this
abbrev pub IsBehindWhite : List ℕ → List ℕ → Type 0
IsBehindWhite text more = (white : List ℕ) × (text ≡ white ++ more) × IsWhite white

pub record IsRule (selectors block text rest : List ℕ) : Type 0 where
  pub placed : IsBehindWhite text (selectors ++ (123 ∷ (block ++ (125 ∷ rest))))
  pub front : AreSelectors selectors
  pub closed_first : Lacks is_close block

pub record IsOpenRule (selectors block text : List ℕ) : Type 0 where
  pub placed : IsBehindWhite text (selectors ++ (123 ∷ block))
  pub front : AreSelectors selectors
  pub never_closed : Lacks is_close block

pub record IsAtRule (text rest : List ℕ) : Type 0 where
  pub more : List ℕ
  pub placed : IsBehindWhite text (64 ∷ more)
  pub ended : EndsAtRule more rest

pub record IsOpenAtRule (text : List ℕ) : Type 0 where
  pub more : List ℕ
  pub placed : IsBehindWhite text (64 ∷ more)
  pub never_ended : (rest : List ℕ) → ¬ EndsAtRule more rest

pub record IsRest (text : List ℕ) : Type 0 where
  pub more : List ℕ
  pub placed : IsBehindWhite text more
  pub left_out : AreSelectors more

-- the text is the sheet
abbrev pub Spells : Sheet → List ℕ → Type 0
Spells Rest text = IsRest text
Spells (Rule selectors block following) text =
    (rest : List ℕ) × IsRule selectors block text rest × Spells following rest
Spells (OpenRule selectors block) text = IsOpenRule selectors block text
Spells (AtRule following) text = (rest : List ℕ) × IsAtRule text rest × Spells following rest
Spells OpenAtRule text = IsOpenAtRule text
