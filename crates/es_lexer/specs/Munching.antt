-- A device of the proofs: punctuators read code by code. Each front of a punctuator is one, so that
-- the longest is found by going on as long as one code more makes another.
use Rattle.std.specs.Prelude.{ℕ, ◌==◌, if◌then◌else◌, List, [], ◌∷◌, Option, Some, None}
use Rattle.es_lexer.specs.Scanning.{Found, found}
use Rattle.es_lexer.specs.declared.punctuators.Punctuator.{Punctuator}
use Rattle.es_lexer.specs.declared.punctuators.Punctuator.TheVariants.{OpenBrace, CloseBrace, OpenParenthesis, CloseParenthesis, OpenBracket, CloseBracket, Semicolon, Comma, Dot, Question, Colon, Complement, Not, Increment, Decrement, Assign, TimesAssign, DivideAssign, RemainderAssign, PlusAssign, MinusAssign, ShiftLeftAssign, ShiftRightAssign, UnsignedShiftRightAssign, AndAssign, XorAssign, OrAssign, LogicalOr, LogicalAnd, BitOr, BitXor, BitAnd, Equal, NotEqual, StrictEqual, StrictNotEqual, Less, Greater, LessOrEqual, GreaterOrEqual, ShiftLeft, ShiftRight, UnsignedShiftRight, Plus, Minus, Times, Divide, Remainder}

-- one code, or one of two codes, makes a punctuator
abbrev pub made_by : ℕ → ℕ → Punctuator → Option Punctuator
made_by wanted code mark = if code == wanted then Some mark else None

abbrev pub made_by_either : ℕ → Punctuator → ℕ → Punctuator → ℕ → Option Punctuator
made_by_either one first other second code =
    if code == one then Some first else (if code == other then Some second else None)

-- the punctuator of one code
unfoldable pub mark_of : ℕ → Option Punctuator
mark_of code =
    if code == 123 then Some OpenBrace else (
    if code == 125 then Some CloseBrace else (
    if code == 40 then Some OpenParenthesis else (
    if code == 41 then Some CloseParenthesis else (
    if code == 91 then Some OpenBracket else (
    if code == 93 then Some CloseBracket else (
    if code == 59 then Some Semicolon else (
    if code == 44 then Some Comma else (
    if code == 46 then Some Dot else (
    if code == 63 then Some Question else (
    if code == 58 then Some Colon else (
    if code == 126 then Some Complement else (
    if code == 33 then Some Not else (
    if code == 61 then Some Assign else (
    if code == 124 then Some BitOr else (
    if code == 94 then Some BitXor else (
    if code == 38 then Some BitAnd else (
    if code == 60 then Some Less else (
    if code == 62 then Some Greater else (
    if code == 43 then Some Plus else (
    if code == 45 then Some Minus else (
    if code == 42 then Some Times else (
    if code == 47 then Some Divide else (
    if code == 37 then Some Remainder else (None))))))))))))))))))))))))

-- the punctuator that one code more makes of a punctuator
unfoldable pub longer : Punctuator → ℕ → Option Punctuator
longer Not code = made_by 61 code NotEqual
longer Assign code = made_by 61 code Equal
longer Equal code = made_by 61 code StrictEqual
longer NotEqual code = made_by 61 code StrictNotEqual
longer BitOr code = made_by_either 61 OrAssign 124 LogicalOr code
longer BitXor code = made_by 61 code XorAssign
longer BitAnd code = made_by_either 61 AndAssign 38 LogicalAnd code
longer Less code = made_by_either 61 LessOrEqual 60 ShiftLeft code
longer Greater code = made_by_either 61 GreaterOrEqual 62 ShiftRight code
longer ShiftLeft code = made_by 61 code ShiftLeftAssign
longer ShiftRight code = made_by_either 61 ShiftRightAssign 62 UnsignedShiftRight code
longer UnsignedShiftRight code = made_by 61 code UnsignedShiftRightAssign
longer Plus code = made_by_either 43 Increment 61 PlusAssign code
longer Minus code = made_by_either 45 Decrement 61 MinusAssign code
longer Times code = made_by 61 code TimesAssign
longer Divide code = made_by 61 code DivideAssign
longer Remainder code = made_by 61 code RemainderAssign
longer _ code = None

-- the longest punctuator that begins with this one, and what it leaves
unfoldable pub grown : Punctuator → List ℕ → Found Punctuator
grown mark [] = found mark []
grown mark (code ∷ codes) = elim (longer mark code) [ Some more ↦ grown more codes | None ↦ found mark (code ∷ codes) ]

-- the longest punctuator at the front
unfoldable pub mark_at : List ℕ → Option (Found Punctuator)
mark_at [] = None
mark_at (code ∷ codes) = elim (mark_of code) [ Some mark ↦ Some (grown mark codes) | None ↦ None ]
