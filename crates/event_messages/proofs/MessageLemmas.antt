-- The messages of descriptors, and of a section: the relation and reading agree.
use Rattle.std.proofs.Common.{Vec, Global, ◌≡◌, ◌≢◌, ◌↔◌, ℕ, nat_eq, Bool, true, false, cond, List, [], ◌∷◌, slice_index, inl, inr, Option, Some, None, Result, Ok, Err, refl, sym, subst}
use Rattle.std.specs.Prelude.{option_map, MatchResult}
use Rattle.std.specs.Option.{ok_or}
use Rattle.std.proofs.lemmas.Bool.{eqb-true, eq-eqb}
use Rattle.bml_bytes.specs.Fields.{FieldLaws}
use Rattle.bml_bytes.specs.declared.refusals.TableFault.{TableFault}
use Rattle.bml_bytes.specs.declared.refusals.TableFault.TheVariants.{Kind, Short}
use Rattle.bml_bytes.specs.declared.refusals.TableRefusal.{TableRefusal}
use Rattle.bml_bytes.specs.declared.refusals.TableRefusal.TheVariants as refusals
use Rattle.table_fields.specs.Descriptors.{Descriptor, AreDescriptors, descriptors_in}
use Rattle.table_fields.specs.Sections.{body}
use Rattle.event_messages.specs.declared.messages.Message.{Message}
use Rattle.event_messages.specs.Messages.{AreMessages, HasMessages, IsMessage, descriptor_table}
use Rattle.event_messages.specs.Reading.{message_of, messages_in, messages_of, IsRead}
use Rattle.event_messages.proofs.FieldLemmas.{message_takes, message_again}

-- descriptors

not_both : {A P : Type 0} (read : Option A) (a : A) → read ≡ Some a → read ≡ None → P
not_both read a e f = absurd cc

left_out : (descriptor : Descriptor) (descriptors : List Descriptor) (messages : List Message) → message_of descriptor ≡ None → messages_of descriptors ≡ messages → messages_of (descriptor ∷ descriptors) ≡ messages
left_out descriptor descriptors messages e rest = rw (e, rest) refl

no_message : (laws : FieldLaws) (descriptor : Descriptor) → ((message : Message) → ¬ IsMessage descriptor message) → message_of descriptor ≡ None
no_message laws descriptor none = by (message_of descriptor) refl
  where
    by : (read : Option Message) → message_of descriptor ≡ read → message_of descriptor ≡ None
    by None e = e
    by (Some message) e = absurd (none message (message_takes laws descriptor message e))

pub among_again : (laws : FieldLaws) (descriptors : List Descriptor) (messages : List Message) → AreMessages descriptors messages → messages_of descriptors ≡ messages
among_again laws [] messages are = sym are
among_again laws (descriptor ∷ descriptors) messages (inl (message, others, e, is, are)) =
    rw (message_again laws descriptor message is, among_again laws descriptors others are) (sym e)
among_again laws (descriptor ∷ descriptors) messages (inr (none, are)) =
    left_out descriptor descriptors messages (no_message laws descriptor none) (among_again laws descriptors messages are)

pub among_takes : (laws : FieldLaws) (descriptors : List Descriptor) → AreMessages descriptors (messages_of descriptors)
among_takes laws [] = refl
among_takes laws (descriptor ∷ descriptors) = by (message_of descriptor) refl (among_takes laws descriptors)
  where
    by : (read : Option Message) → message_of descriptor ≡ read → AreMessages descriptors (messages_of descriptors) → AreMessages (descriptor ∷ descriptors) (messages_of (descriptor ∷ descriptors))
    by None e are = inr (λ message is. not_both (message_of descriptor) message (message_again laws descriptor message is) e, rw e are)
    by (Some message) e are = inl (message, messages_of descriptors, rw e refl, message_takes laws descriptor message e, are)

-- a section

-- what is known of the descriptors in bytes
abbrev pub DescriptorLaw : Type 0
DescriptorLaw = (bytes : List ℕ) (descriptors : List Descriptor) → AreDescriptors bytes descriptors ↔ (descriptors_in bytes ≡ Some descriptors)

read_ok : (of_table : Bool) (read : Option (List Descriptor)) (messages : List Message) → cond of_table (ok_or (option_map messages_of read) Short) (Err Kind) ≡ Ok messages
    → (of_table ≡ true) × ((descriptors : List Descriptor) × (read ≡ Some descriptors) × (messages_of descriptors ≡ messages))
read_ok true None messages e = absurd cc
read_ok true (Some descriptors) messages e = (refl, (descriptors, refl, same (messages_of descriptors) messages e))
  where
    same : (one other : List Message) → ok_or (Some one) Short ≡ Ok other → one ≡ other
    same one other e = cc
read_ok false read messages e = absurd cc

pub section_takes : (laws : FieldLaws) (law : DescriptorLaw) (section : List ℕ) (messages : List Message) → messages_in section ≡ Ok messages → HasMessages section messages
unfolding messages_in
section_takes laws law section messages e =
    let read = read_ok (nat_eq (slice_index section 0) descriptor_table) (descriptors_in (body section)) messages e in
    let descriptors : List Descriptor = read.1.0 in
    record {
      descriptors = descriptors;
      of_table = eqb-true _ _ read.0;
      laid = (law (body section) descriptors).1 read.1.1;
      found = subst (AreMessages descriptors) read.1.2 (among_takes laws descriptors);
    }

pub section_again : (laws : FieldLaws) (law : DescriptorLaw) (section : List ℕ) (messages : List Message) → HasMessages section messages → messages_in section ≡ Ok messages
unfolding messages_in
section_again laws law section messages is =
    rw (eq-eqb _ _ is.of_table, (law (body section) is.descriptors).0 is.laid, among_again laws is.descriptors messages is.found) refl

kind_cases : {A : Type 0} (of_table : Bool) (read : Option A) → (cond of_table (ok_or read Short) (Err Kind) ≢ Err Kind) → of_table ≡ true
kind_cases true read h = refl
kind_cases false read h = absurd (h refl)

not_kind : {A P : Type 0} (read : Option A) → ok_or read Short ≡ Err Kind → P
not_kind None e = absurd cc
not_kind (Some a) e = absurd cc

pub section_kind : (section : List ℕ) → (slice_index section 0 ≡ descriptor_table) ↔ (messages_in section ≢ Err Kind)
unfolding messages_in
section_kind section = (
  λ is e. not_kind (option_map messages_of (descriptors_in (body section))) (subst (λ (of_table : Bool). cond of_table (ok_or (option_map messages_of (descriptors_in (body section))) Short) (Err Kind) ≡ Err Kind) (eq-eqb _ _ is) e),
  λ h. eqb-true _ _ (kind_cases (nat_eq (slice_index section 0) descriptor_table) (option_map messages_of (descriptors_in (body section))) h),
)

pub ok_err : {A P : Type 0} (a : A) (fault : TableFault) (read : Result A TableFault) → read ≡ Ok a → read ≡ Err fault → P
ok_err a fault read e f = absurd cc

pub same_ok : {A : Type 0} (a b : A) (read : Result A TableFault) → read ≡ Ok a → read ≡ Ok b → a ≡ b
same_ok a b read e f = cc

same_fault : (one other : TableFault) (read : Result (List Message) TableFault) → read ≡ Err one → read ≡ Err other → one ≡ other
same_fault one other read e f = cc

-- what a reader answers

pub only : (read : Result (List Message) TableFault) (messages : List Message) (answer : Result (Vec Message Global) TableRefusal) → IsRead (λ (found : Vec Message Global). found.items) answer read → read ≡ Ok messages
    → MatchResult answer (λ found. found.items ≡ messages) (λ refusal. refusal ≡ refusals.NoMemory)
only read messages (Ok found) is e = same_ok found.items messages read is e
only read messages (Err refusals.NoMemory) is e = refl
only read messages (Err (refusals.Fault fault)) is e = ok_err messages fault read e is

pub is_short : (read : Result (List Message) TableFault) (answer : Result (Vec Message Global) TableRefusal) → IsRead (λ (found : Vec Message Global). found.items) answer read → answer ≡ Err (refusals.Fault Short) → read ≡ Err Short
is_short read answer is e = subst (λ (answer : Result (Vec Message Global) TableRefusal). IsRead (λ (found : Vec Message Global). found.items) answer read) e is

pub both : {A P : Type 0} (one other : TableFault) (read : Result A TableFault) → read ≡ Err one → read ≡ Err other → one ≢ other → P
both one other read e f differ = absurd (differ (cc))

-- a section of the table that has no messages is short
pub section_short : (laws : FieldLaws) (law : DescriptorLaw) (section : List ℕ) → slice_index section 0 ≡ descriptor_table → ((messages : List Message) → ¬ HasMessages section messages) → messages_in section ≡ Err Short
section_short laws law section is none = by (messages_in section) refl
  where
    by : (read : Result (List Message) TableFault) → messages_in section ≡ read → messages_in section ≡ Err Short
    by (Ok messages) e = absurd (none messages (section_takes laws law section messages e))
    by (Err Kind) e = absurd ((section_kind section).0 is e)
    by (Err Short) e = e

pub read_some : (section : List ℕ) (descriptors : List Descriptor) → slice_index section 0 ≡ descriptor_table → descriptors_in (body section) ≡ Some descriptors → messages_in section ≡ Ok (messages_of descriptors)
unfolding messages_in
read_some section descriptors is e = rw (eq-eqb _ _ is, e) refl

-- a section that is short is answered so, as no memory is taken for it
pub not_short : (read : Result (List Message) TableFault) (answer : Result (Vec Message Global) TableRefusal) → IsRead (λ (found : Vec Message Global). found.items) answer read
    → (answer ≡ Err refusals.NoMemory → (messages : List Message) × (read ≡ Ok messages) × (messages ≢ [])) → read ≡ Err Short → answer ≡ Err (refusals.Fault Short)
not_short read (Ok found) is memory e = ok_err found.items Short read is e
not_short read (Err refusals.NoMemory) is memory e = let m = memory refl in ok_err m.0 Short read m.1 e
not_short read (Err (refusals.Fault fault)) is memory e = rw (same_fault fault Short read is e) refl
