-- A sound table's encoding is read back as that table. Assumes nothing.
use mathlib.Core.Path.{◌≡◌, refl, sym, ap, ◌∙◌}
use mathlib.Core.List.{List}
use Prim.Native.Nat.{ℕ, ◌<◌}
use native.Mathlib.Omega.{arith}
use native.Mathlib.Decide.{dec_lt}
use borrow.Author.Tests.{lt-ltb, le-ltb}
use lib.Dec.{ltb}
use lib.ListN.{get_or}
use Rattle.std.specs.Prelude.{Ok}
use lib.Seq.{ext_get_or}
use Rattle.finite.specs.Finite.{only}
use Rattle.layout.specs.declared.Kind.{Kind}
use Rattle.layout.specs.declared.Kind.TheVariants.{Network, Processor, Task, CoResident, Exclusive, Message}
use Rattle.layout.specs.Format.{count, field, place}
use Rattle.layout.proofs.Places.{place_first, place_agree}
use Rattle.table.specs.declared.Table.{Table}
use Rattle.table.specs.Table.{column, table_of, read_of}
use Rattle.table.specs.Encode.{counts_of, values_of, encode}
use Rattle.table.specs.Sound.{Sound, Column}
use Rattle.table.proofs.Columns.{column_at, column_length}
use Rattle.table.proofs.EncodedRecords.{whole, field_at}
use Rattle.table.proofs.Stage.{progress_of}
use Rattle.table.proofs.ScannedRecords.{scan_encode}

column_back : {p n bits : ℕ} {l : List ℕ} → Column p n bits l → (f : ℕ → ℕ) → ((j : ℕ) → j < n → f j ≡ get_or l j 0) → column p n f ≡ l
column_back {p} {n} {bits} {l} c f e = ext_get_or 0 (column p n f) l (column_length p n f ∙ sym c.long) (λ j q. column_at p n f j (omega (arith, column_length p n f)) ∙ go j (dec_lt j n))
  where
    go : (j : ℕ) → Dec (j < n) → only (ltb j n) (f j) ≡ get_or l j 0
    go j (yes q) = rw (lt-ltb j n q) (e j q)
    go j (no q) = rw (le-ltb j n (omega arith)) (sym (c.beyond j (omega arith)))

module _ {t : Table} (h : Sound t) where
  -- the fields of the encoding, from the counts of the scan's end
  field_back : (n : ℕ) (k : Kind) (i j : ℕ) → j < count (whole t) k → field k i (encode t) (place (progress_of t n (counts_of t)) k j) ≡ get_or (values_of t k j) i 0
  field_back n k i j l = ap (field k i (encode t)) (place_agree (progress_of t n (counts_of t)) (whole t) k (λ e m. refl) j) ∙ field_at h k j l i

  table_back : (n : ℕ) → table_of (encode t) (progress_of t n (counts_of t)) ≡ t
  unfolding table_of
  table_back n = λ i. record {
    capacity = (ap (field Network 0 (encode t)) (sym (place_first (whole t))) ∙ field_at h Network 0 (omega arith) 0) i;
    processors = record {
      count = t.processors.count;
      memory = column_back h.processors.memory _ (field_back n Processor 0) i;
      limit = column_back h.processors.limit _ (field_back n Processor 1) i;
    };
    tasks = record {
      count = t.tasks.count;
      c = column_back h.tasks.c _ (field_back n Task 0) i;
      t = column_back h.tasks.t _ (field_back n Task 1) i;
      d = column_back h.tasks.d _ (field_back n Task 2) i;
      memory = column_back h.tasks.memory _ (field_back n Task 3) i;
      priority = column_back h.tasks.priority _ (field_back n Task 4) i;
      residence = column_back h.tasks.residence _ (field_back n Task 5) i;
    };
    co = record { count = t.co.count; mask = column_back h.co.mask _ (field_back n CoResident 0) i };
    ex = record { count = t.ex.count; mask = column_back h.ex.mask _ (field_back n Exclusive 0) i };
    messages = record {
      count = t.messages.count;
      sender = column_back h.messages.sender _ (field_back n Message 0) i;
      receiver = column_back h.messages.receiver _ (field_back n Message 1) i;
      amount = column_back h.messages.amount _ (field_back n Message 2) i;
    };
    hyperperiod = sym h.hyperperiod i;
  }

pub read_encode : (t : Table) → Sound t → read_of (encode t) ≡ Ok t
unfolding read_of
read_encode t h = let u = scan_encode h in rw u.1 (ap Ok (table_back h u.0))
