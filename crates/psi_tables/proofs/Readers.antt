-- What a reader's answer says, from what reading gives.
use Rattle.std.proofs.Common.{◌≡◌, ◌≢◌, ◌↔◌, Result, Ok, Err, refl, subst}
use Rattle.std.specs.Prelude.{IfOk, MatchResult}
use Rattle.bml_bytes.specs.declared.refusals.TableFault.{TableFault}
use Rattle.bml_bytes.specs.declared.refusals.TableFault.TheVariants.{Kind, Short}
use Rattle.bml_bytes.specs.declared.refusals.TableRefusal.{TableRefusal}
use Rattle.bml_bytes.specs.declared.refusals.TableRefusal.TheVariants as refusals
use Rattle.psi_tables.specs.Reading.{IsRead}

-- what is known of reading a section
pub record Law {A : Type 0} (read : Result A TableFault) (Is : A → Type 0) (OfTable : Type 0) : Type 0 where
  pub ok : (a : A) → Is a ↔ (read ≡ Ok a)
  pub kind : OfTable ↔ (read ≢ Err Kind)
  pub short : read ≡ Err Short → OfTable × ((a : A) → ¬ Is a)

same_ok : {A : Type 0} (a b : A) (read : Result A TableFault) → read ≡ Ok a → read ≡ Ok b → a ≡ b
same_ok a b read e f = cc

ok_err : {A P : Type 0} (a : A) (fault : TableFault) (read : Result A TableFault) → read ≡ Ok a → read ≡ Err fault → P
ok_err a fault read e f = absurd cc

pub is_found : {A B : Type 0} {Is : A → Type 0} {OfTable : Type 0} (view : B → A) (read : Result A TableFault) (law : Law read Is OfTable) (r : Result B TableRefusal) → IsRead view r read → IfOk r (λ b. Is (view b))
is_found view read law (Ok b) e = (law.ok (view b)).1 e
is_found view read law (Err refusal) e = tt

pub is_only : {A B : Type 0} {Is : A → Type 0} {OfTable : Type 0} (view : B → A) (read : Result A TableFault) (law : Law read Is OfTable) (r : Result B TableRefusal) → IsRead view r read → (a : A) → Is a
    → MatchResult r (λ found. view found ≡ a) (λ refusal. refusal ≡ refusals.NoMemory)
is_only view read law (Ok b) e a is = same_ok (view b) a read e ((law.ok a).0 is)
is_only view read law (Err refusals.NoMemory) e a is = refl
is_only view read law (Err (refusals.Fault fault)) e a is = ok_err a fault read ((law.ok a).0 is) e

pub is_kind : {A B : Type 0} {Is : A → Type 0} {OfTable : Type 0} (view : B → A) (read : Result A TableFault) (law : Law read Is OfTable) (r : Result B TableRefusal) → IsRead view r read → (r ≡ Err refusals.NoMemory → OfTable)
    → (r ≡ Err (refusals.Fault Kind)) ↔ ¬ OfTable
is_kind {A} {B} {Is} {OfTable} view read law r e memory = (λ is of_table. law.kind.0 of_table (subst (λ (r : Result B TableRefusal). IsRead view r read) is e), other r e memory)
  where
    other : (r : Result B TableRefusal) → IsRead view r read → (r ≡ Err refusals.NoMemory → OfTable) → ¬ OfTable → r ≡ Err (refusals.Fault Kind)
    other (Ok b) e memory never = absurd (never (law.kind.1 (λ f. ok_err (view b) Kind read e f)))
    other (Err refusals.NoMemory) e memory never = absurd (never (memory refl))
    other (Err (refusals.Fault Kind)) e memory never = refl
    other (Err (refusals.Fault Short)) e memory never = absurd (never (law.short e).0)

pub is_short : {A B : Type 0} {Is : A → Type 0} {OfTable : Type 0} (view : B → A) (read : Result A TableFault) (law : Law read Is OfTable) (r : Result B TableRefusal) → IsRead view r read → r ≡ Err (refusals.Fault Short) → OfTable × ((a : A) → ¬ Is a)
is_short {A} {B} view read law r e is = law.short (subst (λ (r : Result B TableRefusal). IsRead view r read) is e)
