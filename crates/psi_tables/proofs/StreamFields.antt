-- Streams: what is read is what stands there, and what was written is read again.
use Rattle.std.proofs.Common.{◌≡◌, ℕ, ◌<◌, ◌≤◌, List, [], ◌∷◌, ◌++◌, length, Option, Some, None, refl, sym, ap, subst, ◌∙◌, append_assoc, arith}
use Rattle.std.specs.Prelude.{option_map}
use Rattle.std.proofs.lemmas.Option.{same_Some}
use Rattle.bml_bytes.specs.Fields.{FieldLaws, ◌>>=◌, byte_at, bytes_at}
use Rattle.table_fields.specs.Descriptors.{Descriptor, AreDescriptors, descriptors_in}
use Rattle.psi_tables.specs.declared.pmt.PmtStream.{PmtStream}
use Rattle.psi_tables.specs.Table.{IsNarrow}
use Rattle.psi_tables.specs.Laid.{AreLaid}
use Rattle.psi_tables.specs.Descriptor.{component_tag_in}
use Rattle.psi_tables.specs.Pmt.{IsInfo, IsStream}
use Rattle.psi_tables.specs.Reading.{narrow_at, info_at, items_in, component_in, stream_at, streams_in}
use Rattle.psi_tables.proofs.Fields.{StreamLaws, one_text, bind_with, byte_size, bytes_size}
use Rattle.psi_tables.proofs.Items.{Shortens, ItemLaws, items_laid, items_again}
use Rattle.psi_tables.proofs.Entries.{thirteen, twelve, narrow_takes, narrow_again, narrow_size}

-- descriptors behind their length

pub info_takes : (laws : FieldLaws) (bytes : List ℕ) (x : List ℕ × List ℕ) → info_at bytes ≡ Some x
    → (length_bytes : List ℕ) × (bytes ≡ (length_bytes ++ x.0) ++ x.1) × IsNarrow 12 (length x.0) length_bytes
unfolding info_at
info_takes laws bytes x e =
    bind_with (narrow_at 12 bytes) (λ (count : ℕ × List ℕ). bytes_at count.0 count.1) x e (λ count count-is e0.
    let t0 = narrow_takes laws 12 twelve bytes count count-is in
    let t1 = laws.bytes count.0 count.1 x e0 in
    (t0.0, one_text bytes t0.0 count.1 x.0 x.1 t0.1 t1.0, subst (λ (n : ℕ). IsNarrow 12 n t0.0) (sym t1.1) t0.2))

pub info_again : (laws : FieldLaws) (info length_bytes rest : List ℕ) → IsNarrow 12 (length info) length_bytes → info_at (length_bytes ++ (info ++ rest)) ≡ Some (info, rest)
unfolding info_at
info_again laws info length_bytes rest is =
    rw (narrow_again laws 12 twelve (length info) length_bytes (info ++ rest) is) (laws.bytes_again info rest)

pub info_size : (bytes : List ℕ) (x : List ℕ × List ℕ) → info_at bytes ≡ Some x → length x.1 ≤ length bytes
unfolding info_at
info_size bytes x e =
    bind_with (narrow_at 12 bytes) (λ (count : ℕ × List ℕ). bytes_at count.0 count.1) x e (λ count count-is e0.
    omega (arith, narrow_size 12 bytes count count-is, bytes_size count.0 count.1 x e0))

-- the component_tag in descriptors

tag_read : (read : Option (List Descriptor)) (component : Option ℕ) → option_map component_tag_in read ≡ Some component → (ds : List Descriptor) × (read ≡ Some ds) × (component ≡ component_tag_in ds)
tag_read None component e = absurd cc
tag_read (Some ds) component e = (ds, refl, sym (same_Some (component_tag_in ds) component e))

pub component_takes : (laws : StreamLaws) (info : List ℕ) (component : Option ℕ) → component_in info ≡ Some component → (ds : List Descriptor) × AreDescriptors info ds × (component ≡ component_tag_in ds)
unfolding component_in
component_takes laws info component e =
    let read = tag_read (descriptors_in info) component e in
    (read.0, (laws.descriptors info read.0).1 read.1, read.2)

pub component_again : (laws : StreamLaws) (info : List ℕ) (ds : List Descriptor) → AreDescriptors info ds → component_in info ≡ Some (component_tag_in ds)
unfolding component_in
component_again laws info ds laid = ap (option_map component_tag_in) ((laws.descriptors info ds).0 laid)

-- a stream

abbrev stream_of : ℕ → ℕ → Option ℕ → List ℕ → PmtStream × List ℕ
stream_of kind pid component rest = (record { kind = kind; pid = pid; component = component }, rest)

abbrev behind_info : ℕ → ℕ → List ℕ × List ℕ → Option (PmtStream × List ℕ)
behind_info kind pid info = component_in info.0 >>= λ component. Some (stream_of kind pid component info.1)

abbrev behind_pid : ℕ → ℕ × List ℕ → Option (PmtStream × List ℕ)
behind_pid kind pid = info_at pid.1 >>= behind_info kind pid.0

abbrev behind_kind : ℕ × List ℕ → Option (PmtStream × List ℕ)
behind_kind kind = narrow_at 13 kind.1 >>= behind_pid kind.0

pub stream_takes : (laws : StreamLaws) (bytes : List ℕ) (x : PmtStream × List ℕ) → stream_at bytes ≡ Some x → (text : List ℕ) × (bytes ≡ text ++ x.1) × IsStream x.0 text
unfolding stream_at
stream_takes laws bytes x e =
    bind_with (byte_at bytes) behind_kind x e (λ kind kind-is e0.
    bind_with (narrow_at 13 kind.1) (behind_pid kind.0) x e0 (λ pid pid-is e1.
    bind_with (info_at pid.1) (behind_info kind.0 pid.0) x e1 (λ info info-is e2.
    bind_with (component_in info.0) (λ (component : Option ℕ). Some (stream_of kind.0 pid.0 component info.1)) x e2 (λ component component-is e3.
    let t0 = laws.fields.byte bytes kind kind-is in
    let t1 = narrow_takes laws.fields 13 thirteen kind.1 pid pid-is in
    let t2 = info_takes laws.fields pid.1 info info-is in
    let t3 = component_takes laws info.0 component component-is in
    let t4 = one_text kind.1 t1.0 pid.1 (t2.0 ++ info.0) info.1 t1.1 t2.1 in
    subst (λ (y : PmtStream × List ℕ). (text : List ℕ) × (bytes ≡ text ++ y.1) × IsStream y.0 text) (same_Some (stream_of kind.0 pid.0 component info.1) x e3) (
      kind.0 ∷ (t1.0 ++ (t2.0 ++ info.0)),
      one_text bytes (kind.0 ∷ []) kind.1 (t1.0 ++ (t2.0 ++ info.0)) info.1 t0 t4,
      record {
        pid_bytes = t1.0;
        info = t2.0 ++ info.0;
        descriptors = t3.0;
        pid_written = t1.2;
        info_written = record { length_bytes = t2.0; bytes = info.0; length_written = t2.2; laid = t3.1; written = refl };
        component = t3.2;
        written = refl;
      },
    )))))

pub stream_again : (laws : StreamLaws) (stream : PmtStream) (text rest : List ℕ) → IsStream stream text → stream_at (text ++ rest) ≡ Some (stream, rest)
unfolding stream_at
stream_again laws stream text rest is =
    let info = is.info_written in
    let text_is : text ≡ stream.kind ∷ (is.pid_bytes ++ (info.length_bytes ++ info.bytes)) = is.written ∙ ap (λ (t : List ℕ). stream.kind ∷ (is.pid_bytes ++ t)) info.written in
    let whole : text ++ rest ≡ stream.kind ∷ (is.pid_bytes ++ (info.length_bytes ++ (info.bytes ++ rest))) = ap (λ (front : List ℕ). front ++ rest) text_is ∙ simp append_assoc in
    ap stream_at whole
    ∙ rw (narrow_again laws.fields 13 thirteen stream.pid is.pid_bytes (info.length_bytes ++ (info.bytes ++ rest)) is.pid_written, info_again laws.fields info.bytes info.length_bytes rest info.length_written, component_again laws info.bytes is.descriptors info.laid, is.component) refl

stream_shorter : (bytes : List ℕ) (x : PmtStream × List ℕ) → stream_at bytes ≡ Some x → length x.1 < length bytes
unfolding stream_at
stream_shorter bytes x e =
    bind_with (byte_at bytes) behind_kind x e (λ kind kind-is e0.
    bind_with (narrow_at 13 kind.1) (behind_pid kind.0) x e0 (λ pid pid-is e1.
    bind_with (info_at pid.1) (behind_info kind.0 pid.0) x e1 (λ info info-is e2.
    bind_with (component_in info.0) (λ (component : Option ℕ). Some (stream_of kind.0 pid.0 component info.1)) x e2 (λ component component-is e3.
    subst (λ (y : PmtStream × List ℕ). length y.1 < length bytes) (same_Some (stream_of kind.0 pid.0 component info.1) x e3)
    (omega (arith, byte_size bytes kind kind-is, narrow_size 13 kind.1 pid pid-is, info_size pid.1 info info-is))))))

pub stream_shortens : Shortens stream_at
stream_shortens = record { shorter = stream_shorter }

pub stream_laws : (laws : StreamLaws) → ItemLaws stream_at IsStream
stream_laws laws = record { takes = stream_takes laws; again = stream_again laws; short = stream_shortens }

-- a PMT's body

-- the body is this front and these streams
pub record IsBody (bytes : List ℕ) (items : List PmtStream) : Type 0 where
  pub pcr_pid : ℕ
  pub pcr_bytes : List ℕ
  pub info : List ℕ
  pub descriptors : List Descriptor
  pub streams : List ℕ
  pub pcr_written : IsNarrow 13 pcr_pid pcr_bytes
  pub info_written : IsInfo descriptors info
  pub laid : AreLaid IsStream streams items
  pub written : bytes ≡ pcr_bytes ++ (info ++ streams)

abbrev behind_program_info : List ℕ × List ℕ → Option (List PmtStream)
behind_program_info info = component_in info.0 >>= λ component. items_in stream_at info.1

abbrev behind_pcr : ℕ × List ℕ → Option (List PmtStream)
behind_pcr pcr = info_at pcr.1 >>= behind_program_info

pub body_takes : (laws : StreamLaws) (bytes : List ℕ) (items : List PmtStream) → streams_in bytes ≡ Some items → IsBody bytes items
unfolding streams_in
body_takes laws bytes items e =
    bind_with (narrow_at 13 bytes) behind_pcr items e (λ pcr pcr-is e0.
    bind_with (info_at pcr.1) behind_program_info items e0 (λ info info-is e1.
    bind_with (component_in info.0) (λ (component : Option ℕ). items_in stream_at info.1) items e1 (λ component component-is e2.
    let t0 = narrow_takes laws.fields 13 thirteen bytes pcr pcr-is in
    let t1 = info_takes laws.fields pcr.1 info info-is in
    let t2 = component_takes laws info.0 component component-is in
    record {
      pcr_pid = pcr.0;
      pcr_bytes = t0.0;
      info = t1.0 ++ info.0;
      descriptors = t2.0;
      streams = info.1;
      pcr_written = t0.2;
      info_written = record { length_bytes = t1.0; bytes = info.0; length_written = t1.2; laid = t2.1; written = refl };
      laid = items_laid stream_at IsStream (stream_laws laws) info.1 items e2;
      written = t0.1 ∙ ap (λ (rest : List ℕ). t0.0 ++ rest) t1.1;
    })))

pub body_again : (laws : StreamLaws) (bytes : List ℕ) (items : List PmtStream) → IsBody bytes items → streams_in bytes ≡ Some items
unfolding streams_in
body_again laws bytes items is =
    let info = is.info_written in
    let whole : bytes ≡ is.pcr_bytes ++ (info.length_bytes ++ (info.bytes ++ is.streams)) = is.written ∙ ap (λ (t : List ℕ). is.pcr_bytes ++ (t ++ is.streams)) info.written ∙ simp append_assoc in
    ap streams_in whole
    ∙ rw (narrow_again laws.fields 13 thirteen is.pcr_pid is.pcr_bytes (info.length_bytes ++ (info.bytes ++ is.streams)) is.pcr_written, info_again laws.fields info.bytes info.length_bytes is.streams info.length_written, component_again laws info.bytes is.descriptors info.laid) (items_again stream_at IsStream (stream_laws laws) is.streams items is.laid)
