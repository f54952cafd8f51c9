-- What a reader's answer says, from what reading gives.
use Rattle.std.proofs.Common.{◌≡◌, ◌≢◌, ◌↔◌, ℕ, Bool, true, false, cond, List, Option, Some, None, Result, Ok, Err, refl, sym, ap, subst, ◌∙◌}
use Rattle.std.specs.Prelude.{IfOk, IsOkAnd, MatchResult, ok_or, option_map}
use Rattle.bml_bytes.specs.declared.refusals.TableFault.{TableFault}
use Rattle.bml_bytes.specs.declared.refusals.TableFault.TheVariants.{Kind, Short}
use Rattle.bml_bytes.specs.declared.refusals.TableRefusal.{TableRefusal}
use Rattle.bml_bytes.specs.declared.refusals.TableRefusal.TheVariants as refusals
use Rattle.dsmcc_messages.specs.declared.message.MessageKind.{MessageKind}
use Rattle.bml_bytes.specs.Fields.{◌>>=◌}
use Rattle.table_fields.specs.Sections.{body}
use Rattle.dsmcc_messages.specs.Reading.{IsRead, seen, is_of_kind, message_at, fields_in}

-- what is known of reading a section
pub record Law {A : Type 0} (read : Result A TableFault) (Is : A → Type 0) (OfKind : Type 0) : Type 0 where
  pub ok : (a : A) → Is a ↔ (read ≡ Ok a)
  pub kind : OfKind ↔ (read ≢ Err Kind)
  pub short : read ≡ Err Short → OfKind × ((a : A) → ¬ Is a)

abbrev good : {A : Type 0} → A → Result A TableFault
good a = Ok a

same_ok : {A : Type 0} (a b : A) (read : Result A TableFault) → read ≡ Ok a → read ≡ Ok b → a ≡ b
same_ok a b read e f = cc

ok_err : {A P : Type 0} (a : A) (fault : TableFault) (read : Result A TableFault) → read ≡ Ok a → read ≡ Err fault → P
ok_err a fault read e f = absurd cc

-- an answer that may be want of memory

pub is_found : {A : Type 0} {Is : A → Type 0} {OfKind : Type 0} (read : Result A TableFault) (law : Law read Is OfKind) (r : Result A TableRefusal) → IsRead r read → IfOk r Is
is_found read law (Ok a) e = (law.ok a).1 e
is_found read law (Err refusal) e = tt

pub is_only : {A : Type 0} {Is : A → Type 0} {OfKind : Type 0} (read : Result A TableFault) (law : Law read Is OfKind) (r : Result A TableRefusal) → IsRead r read → (a : A) → Is a → MatchResult r (λ found. found ≡ a) (λ refusal. refusal ≡ refusals.NoMemory)
is_only read law (Ok b) e a is = same_ok b a read e ((law.ok a).0 is)
is_only read law (Err refusals.NoMemory) e a is = refl
is_only read law (Err (refusals.Fault fault)) e a is = ok_err a fault read ((law.ok a).0 is) e

pub is_kind : {A : Type 0} {Is : A → Type 0} {OfKind : Type 0} (read : Result A TableFault) (law : Law read Is OfKind) (r : Result A TableRefusal) → IsRead r read → (r ≡ Err refusals.NoMemory → OfKind) → (r ≡ Err (refusals.Fault Kind)) ↔ ¬ OfKind
is_kind {A} {Is} {OfKind} read law r e memory = (λ is of_kind. law.kind.0 of_kind (subst (λ (r : Result A TableRefusal). IsRead r read) is e), other r e memory)
  where
    other : (r : Result A TableRefusal) → IsRead r read → (r ≡ Err refusals.NoMemory → OfKind) → ¬ OfKind → r ≡ Err (refusals.Fault Kind)
    other (Ok a) e memory never = absurd (never (law.kind.1 (λ f. ok_err a Kind read e f)))
    other (Err refusals.NoMemory) e memory never = absurd (never (memory refl))
    other (Err (refusals.Fault Kind)) e memory never = refl
    other (Err (refusals.Fault Short)) e memory never = absurd (never (law.short e).0)

pub is_short : {A : Type 0} {Is : A → Type 0} {OfKind : Type 0} (read : Result A TableFault) (law : Law read Is OfKind) (r : Result A TableRefusal) → IsRead r read → r ≡ Err (refusals.Fault Short) → OfKind × ((a : A) → ¬ Is a)
is_short {A} read law r e is = law.short (subst (λ (r : Result A TableRefusal). IsRead r read) is e)

-- an answer of a reader that takes no memory, seen by view

pub sees_found : {A B : Type 0} {Is : A → Type 0} {OfKind : Type 0} (view : B → A) (read : Result A TableFault) (law : Law read Is OfKind) (r : Result B TableFault) → seen view r ≡ read → IfOk r (λ b. Is (view b))
sees_found view read law (Ok b) e = (law.ok (view b)).1 (sym e)
sees_found view read law (Err fault) e = tt

pub sees_only : {A B : Type 0} {Is : A → Type 0} {OfKind : Type 0} (view : B → A) (read : Result A TableFault) (law : Law read Is OfKind) (r : Result B TableFault) → seen view r ≡ read → (a : A) → Is a → IsOkAnd r (λ b. view b ≡ a)
sees_only view read law (Ok b) e a is = same_ok (view b) a read (sym e) ((law.ok a).0 is)
sees_only view read law (Err fault) e a is = ok_err a fault read ((law.ok a).0 is) (sym e)

pub sees_kind : {A B : Type 0} {Is : A → Type 0} {OfKind : Type 0} (view : B → A) (read : Result A TableFault) (law : Law read Is OfKind) (r : Result B TableFault) → seen view r ≡ read → (r ≡ Err Kind) ↔ ¬ OfKind
sees_kind {A} {B} {Is} {OfKind} view read law r e = (λ is of_kind. law.kind.0 of_kind (subst (λ (r : Result B TableFault). read ≡ seen view r) is (sym e)), other r e)
  where
    other : (r : Result B TableFault) → seen view r ≡ read → ¬ OfKind → r ≡ Err Kind
    other (Ok b) e never = absurd (never (law.kind.1 (λ f. ok_err (view b) Kind read (sym e) f)))
    other (Err Kind) e never = refl
    other (Err Short) e never = absurd (never (law.short (sym e)).0)

pub sees_short : {A B : Type 0} {Is : A → Type 0} {OfKind : Type 0} (view : B → A) (read : Result A TableFault) (law : Law read Is OfKind) (r : Result B TableFault) → seen view r ≡ read → r ≡ Err Short → OfKind × ((a : A) → ¬ Is a)
sees_short {A} {B} view read law r e is = law.short (subst (λ (r : Result B TableFault). read ≡ seen view r) is (sym e))

-- ---- the header first, and then the fields

abbrev pub then_fields : {A : Type 0} → Result (ℕ × List ℕ) TableFault → (ℕ × List ℕ → Option A) → Result A TableFault
then_fields (Ok m) fields = ok_or (fields m) Short
then_fields (Err fault) fields = Err fault

pub in_two : {A : Type 0} (kind : MessageKind) (fields : ℕ × List ℕ → Option A) (section : List ℕ) → fields_in kind fields section ≡ then_fields (fields_in kind Some section) fields
unfolding fields_in
in_two kind fields section = split (is_of_kind kind section) (message_at (body section)) fields
  where
    split : {A : Type 0} (of_kind : Bool) (message : Option (ℕ × List ℕ)) (fields : ℕ × List ℕ → Option A) → cond of_kind (ok_or (message >>= fields) Short) (Err Kind) ≡ then_fields (cond of_kind (ok_or (message >>= λ m. Some m) Short) (Err Kind)) fields
    split true None fields = refl
    split true (Some m) fields = refl
    split false message fields = refl

-- a header that was read, or wasn't
pub after_header : {A : Type 0} (kind : MessageKind) (fields : ℕ × List ℕ → Option A) (section : List ℕ) (header : Result (ℕ × List ℕ) TableFault) → header ≡ fields_in kind Some section → fields_in kind fields section ≡ then_fields header fields
after_header kind fields section header e = in_two kind fields section ∙ ap (λ (h : Result (ℕ × List ℕ) TableFault). then_fields h fields) (sym e)

pub header_kind : (kind : MessageKind) (section : List ℕ) (m : ℕ × List ℕ) → Ok m ≡ fields_in kind Some section → is_of_kind kind section ≡ true
unfolding fields_in
header_kind kind section m e = passes (is_of_kind kind section) (message_at (body section) >>= λ m. Some m) m e
  where
    passes : (of_kind : Bool) (read : Option (ℕ × List ℕ)) (m : ℕ × List ℕ) → Ok m ≡ cond of_kind (ok_or read Short) (Err Kind) → of_kind ≡ true
    passes true read m e = refl
    passes false read m e = absurd cc

-- what is answered as a fault
pub seen-ok_or : {A B : Type 0} (view : B → A) (read : Option B) → seen view (ok_or read Short) ≡ ok_or (option_map view read) Short
seen-ok_or view None = refl
seen-ok_or view (Some b) = refl
