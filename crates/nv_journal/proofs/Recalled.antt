-- What each call on a disk in memory does to its content.
use Rattle.std.proofs.Common.{◌≡◌, ℕ, ◌≤◌, List, length, Ok, Err, refl, sym, inl, inr, subst}
use Rattle.bml_ports.specs.declared.outside.Failed.{Failed}
use Rattle.nv_journal.specs.Disks.{IsImage, DiskContent, OneCall, Reads, Writes, Syncs, only, after_write, overwritten}
use Rattle.nv_journal.specs.MemoryDisks.{moved, with_reads}
use Rattle.nv_journal.proofs.Torn.{only-is}
use Rattle.nv_journal.proofs.Marked.{image-stays, image-written}

stays : (disk : DiskContent) → IsImage disk.images disk.reads → OneCall disk disk
stays disk read = record { past = inr (refl, refl); before = read; after = read }

pub read-refused : (place size : ℕ) (into : List ℕ) (e : Failed) (old new : DiskContent) → new ≡ old → IsImage old.images old.reads → Reads place size into (Err e) old new
read-refused place size into e old new same read = subst (λ (n : DiskContent). Reads place size into (Err e) old n) (sym same) (record { step = stays old read; reads = refl; images = refl; given = tt })

pub write-refused : (place : ℕ) (bytes : List ℕ) (e : Failed) (old new : DiskContent) → new ≡ old → IsImage old.images old.reads → Writes place bytes (Err e) old new
write-refused place bytes e old new same read = subst (λ (n : DiskContent). Writes place bytes (Err e) old n) (sym same) (record { step = stays old read; images = inr (refl, refl); reads = tt })

pub write-failed : (place : ℕ) (bytes : List ℕ) (e : Failed) (old new : DiskContent) → new ≡ moved old (after_write old.images place (length bytes)) → IsImage old.images old.reads → Writes place bytes (Err e) old new
write-failed place bytes e old new is read =
    subst (λ (n : DiskContent). Writes place bytes (Err e) old n) (sym is) (record {
      step = record { past = inl refl; before = read; after = image-stays old.images old.reads place (length bytes) read };
      images = inl refl;
      reads = tt;
    })

pub image-put : (place : ℕ) (bytes : List ℕ) (old mid : DiskContent) → mid ≡ moved old (after_write old.images place (length bytes)) → place ≤ length old.reads → IsImage old.images old.reads → IsImage mid.images (overwritten mid.reads place bytes)
image-put place bytes old mid is within read = subst (λ (m : DiskContent). IsImage m.images (overwritten m.reads place bytes)) (sym is) (image-written old.images old.reads place bytes within read)

pub write-done : (place : ℕ) (bytes : List ℕ) (old mid new : DiskContent) → mid ≡ moved old (after_write old.images place (length bytes)) → new ≡ with_reads mid (overwritten mid.reads place bytes) → place ≤ length old.reads → IsImage old.images old.reads → Writes place bytes (Ok tt) old new
write-done place bytes old mid new is put within read =
    let both = subst (λ (m : DiskContent). new ≡ with_reads m (overwritten m.reads place bytes)) is put in
    subst (λ (n : DiskContent). Writes place bytes (Ok tt) old n) (sym both) (record {
      step = record { past = inl refl; before = read; after = image-written old.images old.reads place bytes within read };
      images = inl refl;
      reads = refl;
    })

pub sync-refused : (e : Failed) (old new : DiskContent) → new ≡ old → IsImage old.images old.reads → Syncs (Err e) old new
sync-refused e old new same read = subst (λ (n : DiskContent). Syncs (Err e) old n) (sym same) (record { step = stays old read; reads = refl; images = refl })

pub sync-done : (old new : DiskContent) → new ≡ moved old (only old.reads) → IsImage old.images old.reads → Syncs (Ok tt) old new
sync-done old new is read =
    subst (λ (n : DiskContent). Syncs (Ok tt) old n) (sym is) (record { step = record { past = inl refl; before = read; after = only-is old.reads }; reads = refl; images = refl })
