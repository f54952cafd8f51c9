-- The fields of an event message: what is read is what stands there, and what was written is read again.
use Rattle.std.proofs.Common.{◌≡◌, ℕ, ◌+◌, ◌*◌, ◌/◌, ◌%◌, ◌^◌, nat_eq, Bool, true, false, cond, List, ◌∷◌, ◌++◌, Option, Some, None, refl, sym, ap, subst, ◌∙◌, arith}
use Rattle.std.proofs.lemmas.Bool.{eqb-true, eq-eqb}
use Rattle.std.proofs.lemmas.Option.{same_Some}
use Rattle.bml_bytes.specs.Codes.{codes}
use Rattle.bml_bytes.specs.Fields.{FieldLaws, ◌>>=◌, byte_at, number_at, bytes_at}
use Rattle.bml_bytes.specs.Numbers.{big_bytes}
use Rattle.table_fields.specs.Descriptors.{Descriptor}
use Rattle.event_messages.specs.declared.messages.Message.{Message}
use Rattle.event_messages.specs.Messages.{AreFields, IsMessage, immediate, message_tag}
use Rattle.event_messages.specs.Reading.{message_at, message_of}

bind_some : {A B : Type 0} (read : Option A) (go : A → Option B) (b : B) → (read >>= go) ≡ Some b → (a : A) × (read ≡ Some a) × (go a ≡ Some b)
bind_some None go b e = absurd cc
bind_some (Some a) go b e = (a, refl, e)

cond_some : {A : Type 0} (test : Bool) (read : Option A) (a : A) → cond test read None ≡ Some a → (test ≡ true) × (read ≡ Some a)
cond_some true read a e = (refl, e)
cond_some false read a e = absurd cc

pub fields_take : (laws : FieldLaws) (bytes : List ℕ) (message : Message) → message_at bytes ≡ Some message → AreFields message bytes
unfolding message_at
fields_take laws bytes message e =
    let group = bind_some (number_at 2 bytes) _ message e in
    let mode = bind_some (byte_at group.0.1) _ message group.2 in
    let time = bind_some (bytes_at 5 mode.0.1) _ message mode.2 in
    let kind = bind_some (byte_at time.0.1) _ message time.2 in
    let id = bind_some (byte_at kind.0.1) _ message kind.2 in
    let version = bind_some (byte_at id.0.1) _ message id.2 in
    let last = cond_some (nat_eq mode.0.0 immediate) _ message version.2 in
    let n : ℕ = group.0.0 in
    let found : Message = record { group = n / 16; kind = kind.0.0; id = id.0.0; version = version.0.0; extra = codes version.0.1 } in
    let stands = laws.number 2 bytes group.0 group.1 in
    let behind_time : time.0.1 ≡ kind.0.0 ∷ id.0.0 ∷ version.0.0 ∷ version.0.1 =
    laws.byte time.0.1 kind.0 kind.1 ∙ ap (λ (rest : List ℕ). kind.0.0 ∷ rest) (laws.byte kind.0.1 id.0 id.1 ∙ ap (λ (rest : List ℕ). id.0.0 ∷ rest) (laws.byte id.0.1 version.0 version.1)) in
    let times = laws.bytes 5 mode.0.1 time.0 time.1 in
    let behind_mode : mode.0.1 ≡ time.0.0 ++ (kind.0.0 ∷ id.0.0 ∷ version.0.0 ∷ version.0.1) = times.0 ∙ ap (λ (rest : List ℕ). time.0.0 ++ rest) behind_time in
    let behind_group : group.0.1 ≡ immediate ∷ (time.0.0 ++ (kind.0.0 ∷ id.0.0 ∷ version.0.0 ∷ version.0.1)) =
    laws.byte group.0.1 mode.0 mode.1 ∙ ap (λ (byte : ℕ). byte ∷ mode.0.1) (eqb-true _ _ last.0) ∙ ap (λ (rest : List ℕ). immediate ∷ rest) behind_mode in
    let split : n ≡ n / 16 * 2 ^ 4 + n % 16 = omega arith in
    subst (λ (m : Message). AreFields m bytes) (same_Some found message last.1)
    (record {
      reserved = n % 16;
      time = time.0.0;
      private_bytes = version.0.1;
      group_fits = omega (arith, stands.1);
      reserved_fits = omega arith;
      time_size = times.1;
      text = refl;
      written = stands.0 ∙ ap (λ (rest : List ℕ). big_bytes 2 n ++ rest) behind_group ∙ ap (λ (number : ℕ). big_bytes 2 number ++ (immediate ∷ (time.0.0 ++ (kind.0.0 ∷ id.0.0 ∷ version.0.0 ∷ version.0.1)))) split;
    })

pub fields_again : (laws : FieldLaws) (bytes : List ℕ) (message : Message) → AreFields message bytes → message_at bytes ≡ Some message
unfolding message_at
fields_again laws bytes message is =
    let whole : ℕ = message.group * 2 ^ 4 + is.reserved in
    let behind : List ℕ = message.kind ∷ message.id ∷ message.version ∷ is.private_bytes in
    let group : number_at 2 bytes ≡ Some (whole, immediate ∷ (is.time ++ behind)) = ap (number_at 2) is.written ∙ laws.number_again 2 whole (immediate ∷ (is.time ++ behind)) (omega (arith, is.group_fits, is.reserved_fits)) in
    let time : bytes_at 5 (is.time ++ behind) ≡ Some (is.time, behind) = ap (λ (count : ℕ). bytes_at count (is.time ++ behind)) (sym is.time_size) ∙ laws.bytes_again is.time behind in
    let number : whole / 16 ≡ message.group = omega (arith, is.reserved_fits) in
    rw (group, time, number, is.text) refl

pub message_takes : (laws : FieldLaws) (descriptor : Descriptor) (message : Message) → message_of descriptor ≡ Some message → IsMessage descriptor message
unfolding message_of
message_takes laws descriptor message e =
    let parts = cond_some (nat_eq descriptor.tag message_tag) (message_at descriptor.bytes) message e in
    (eqb-true _ _ parts.0, fields_take laws descriptor.bytes message parts.1)

pub message_again : (laws : FieldLaws) (descriptor : Descriptor) (message : Message) → IsMessage descriptor message → message_of descriptor ≡ Some message
unfolding message_of
message_again laws descriptor message is = rw (eq-eqb _ _ is.0, fields_again laws descriptor.bytes message is.1) refl
