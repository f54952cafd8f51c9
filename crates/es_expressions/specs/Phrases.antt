-- Expressions as they are written, with all of their tokens (ECMA-262 second edition, section 11, in this
-- profile). Arguments of a call are written as a list with commas is, so one phrase serves both.
use Rattle.std.specs.Prelude.{ℕ, List, ◌∷◌}
use Rattle.es_expressions.specs.declared.lexemes.Lexeme.{Lexeme}

-- a token that is a whole operand; `(e)`; `b[e]`; `b.x`; `f()`; `f(e)`; `new f` without arguments,
-- `new f()`; `new f(e)`; `e++`; `-e`; `++e`; `a + b`; a choice of two by a test;
-- `a = b`; `a, b`
pub data Phrase : Type 0 where
  Leaf : (token : Lexeme) → Phrase
  Group : (open_mark : Lexeme) → (inner : Phrase) → (close_mark : Lexeme) → Phrase
  Index : (base : Phrase) → (open_mark : Lexeme) → (key : Phrase) → (close_mark : Lexeme) → Phrase
  Member : (base : Phrase) → (dot : Lexeme) → (name : Lexeme) → Phrase
  CallEmpty : (callee : Phrase) → (open_mark : Lexeme) → (close_mark : Lexeme) → Phrase
  CallWith : (callee : Phrase) → (open_mark : Lexeme) → (arguments : Phrase) → (close_mark : Lexeme) → Phrase
  NewPlain : (word : Lexeme) → (callee : Phrase) → Phrase
  NewEmpty : (word : Lexeme) → (callee : Phrase) → (open_mark : Lexeme) → (close_mark : Lexeme) → Phrase
  NewWith : (word : Lexeme) → (callee : Phrase) → (open_mark : Lexeme) → (arguments : Phrase) → (close_mark : Lexeme) → Phrase
  Postfix : (target : Phrase) → (operator : Lexeme) → Phrase
  Signed : (operator : Lexeme) → (operand : Phrase) → Phrase
  Stepped : (operator : Lexeme) → (target : Phrase) → Phrase
  Binary : (left : Phrase) → (operator : Lexeme) → (right : Phrase) → Phrase
  Choice : (test : Phrase) → (question : Lexeme) → (chosen : Phrase) → (colon : Lexeme) → (other : Phrase) → Phrase
  Assign : (target : Phrase) → (operator : Lexeme) → (value : Phrase) → Phrase
  Comma : (front : Phrase) → (comma : Lexeme) → (last : Phrase) → Phrase

-- the tokens of a phrase, in front of others
abbrev pub spelled : Phrase → List Lexeme → List Lexeme
spelled (Leaf t) rest = t ∷ rest
spelled (Group o e c) rest = o ∷ spelled e (c ∷ rest)
spelled (Index b o e c) rest = spelled b (o ∷ spelled e (c ∷ rest))
spelled (Member b d x) rest = spelled b (d ∷ (x ∷ rest))
spelled (CallEmpty f o c) rest = spelled f (o ∷ (c ∷ rest))
spelled (CallWith f o e c) rest = spelled f (o ∷ spelled e (c ∷ rest))
spelled (NewPlain n f) rest = n ∷ spelled f rest
spelled (NewEmpty n f o c) rest = n ∷ spelled f (o ∷ (c ∷ rest))
spelled (NewWith n f o e c) rest = n ∷ spelled f (o ∷ spelled e (c ∷ rest))
spelled (Postfix e k) rest = spelled e (k ∷ rest)
spelled (Signed k e) rest = k ∷ spelled e rest
spelled (Stepped k e) rest = k ∷ spelled e rest
spelled (Binary a k b) rest = spelled a (k ∷ spelled b rest)
spelled (Choice a q b c d) rest = spelled a (q ∷ spelled b (c ∷ spelled d rest))
spelled (Assign a k b) rest = spelled a (k ∷ spelled b rest)
spelled (Comma a k b) rest = spelled a (k ∷ spelled b rest)

-- the place of the first code of its first token
abbrev pub start_of : Phrase → ℕ
start_of (Leaf t) = t.start
start_of (Group o e c) = o.start
start_of (Index b o e c) = start_of b
start_of (Member b d x) = start_of b
start_of (CallEmpty f o c) = start_of f
start_of (CallWith f o e c) = start_of f
start_of (NewPlain n f) = n.start
start_of (NewEmpty n f o c) = n.start
start_of (NewWith n f o e c) = n.start
start_of (Postfix e k) = start_of e
start_of (Signed k e) = k.start
start_of (Stepped k e) = k.start
start_of (Binary a k b) = start_of a
start_of (Choice a q b c d) = start_of a
start_of (Assign a k b) = start_of a
start_of (Comma a k b) = start_of a

-- the place behind the last code of its last token
abbrev pub end_of : Phrase → ℕ
end_of (Leaf t) = t.«end»
end_of (Group o e c) = c.«end»
end_of (Index b o e c) = c.«end»
end_of (Member b d x) = x.«end»
end_of (CallEmpty f o c) = c.«end»
end_of (CallWith f o e c) = c.«end»
end_of (NewPlain n f) = end_of f
end_of (NewEmpty n f o c) = c.«end»
end_of (NewWith n f o e c) = c.«end»
end_of (Postfix e k) = k.«end»
end_of (Signed k e) = end_of e
end_of (Stepped k e) = end_of e
end_of (Binary a k b) = end_of b
end_of (Choice a q b c d) = end_of d
end_of (Assign a k b) = end_of b
end_of (Comma a k b) = end_of b
