-- How what holds throughout goes on over calls.
use Rattle.std.proofs.Common.{ℕ, List, [], ◌∷◌, ◌++◌, sym, ◌∙◌, ap, append_assoc, append-nil, inl, inr}
use Rattle.nv_journal.specs.Disks.{Images, DiskContent, OneCall}
use Rattle.nv_journal.specs.Histories.{Leaves, EachLeaves, Throughout}

pub started : (P : List ℕ → Type 0) (start : DiskContent) → Leaves P start.images → P start.reads → Throughout P start start
started P start now read = record { moments = []; since = sym (append-nil start.past); each = tt; now = now; read = read }

each-joined : (P : List ℕ → Type 0) (one other : List Images) → EachLeaves P one → EachLeaves P other → EachLeaves P (one ++ other)
each-joined P [] other a b = b
each-joined P (images ∷ one) other a b = (a.0, each-joined P one other a.1 b)

-- one call more
pub goes_on : (P : List ℕ → Type 0) (start old new : DiskContent) → Throughout P start old → OneCall old new → Leaves P new.images → Throughout P start new
goes_on P start old new before step now = elim step.past [
  | inl joins ↦ record {
    moments = before.moments ++ old.images ∷ [];
    since = joins ∙ ap (λ (l : List Images). l ++ old.images ∷ []) before.since ∙ append_assoc start.past before.moments (old.images ∷ []);
    each = each-joined P before.moments (old.images ∷ []) before.each (before.now, tt);
    now = now;
    read = now new.reads step.after;
  }
  | inr stays ↦ record { moments = before.moments; since = stays.0 ∙ before.since; each = before.each; now = now; read = now new.reads step.after }
]

each-weaker : (P Q : List ℕ → Type 0) → ((image : List ℕ) → P image → Q image) → (moments : List Images) → EachLeaves P moments → EachLeaves Q moments
each-weaker P Q leads [] each = tt
each-weaker P Q leads (images ∷ rest) each = (λ image is. leads image (each.0 image is), each-weaker P Q leads rest each.1)

pub weaker : (P Q : List ℕ → Type 0) (start new : DiskContent) → ((image : List ℕ) → P image → Q image) → Throughout P start new → Throughout Q start new
weaker P Q start new leads before = record {
  moments = before.moments;
  since = before.since;
  each = each-weaker P Q leads before.moments before.each;
  now = λ image is. leads image (before.now image is);
  read = leads new.reads before.read;
}

-- one stretch behind another
pub joined : (P : List ℕ → Type 0) (start middle end : DiskContent) → Throughout P start middle → Throughout P middle end → Throughout P start end
joined P start middle end before behind = record {
  moments = before.moments ++ behind.moments;
  since = behind.since ∙ ap (λ (l : List Images). l ++ behind.moments) before.since ∙ append_assoc start.past before.moments behind.moments;
  each = each-joined P before.moments behind.moments before.each behind.each;
  now = behind.now;
  read = behind.read;
}
