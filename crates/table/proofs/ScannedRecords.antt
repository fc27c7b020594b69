-- The scan of a sound table's encoding takes every record. Assumes nothing.
use mathlib.Core.Path.{◌≡◌, refl, sym, ap, ap₂, subst, ◌∙◌}
use mathlib.Core.List.{List}
use Prim.Native.Nat.{ℕ, zero, suc, ◌+◌, ◌≤◌, ◌<◌}
use native.Mathlib.Omega.{arith}
use native.Mathlib.Nat.{zero-add}
use borrow.Author.Tests.{lt-ltb, le-ltb, ne_eqb}
use lib.ListN.{length}
use Rattle.std.specs.Prelude.{Ok}
use Rattle.layout.specs.declared.Kind.{Kind}
use Rattle.layout.specs.declared.Kind.TheVariants.{Network}
use Rattle.layout.specs.declared.Progress.{Progress}
use Rattle.layout.specs.Format.{row, kinds, in_order, count, place, end}
use Rattle.layout.proofs.EachKind.{each, order_below, order_of_lem}
use Rattle.layout.proofs.Places.{place_first, place_next, place_kind, place_last}
use Rattle.verdict.proofs.Taking.{taking}
use Rattle.table.specs.declared.Table.{Table}
use Rattle.table.specs.Scan.{scan_from, scan_of, at_end, missing}
use Rattle.table.specs.Encode.{counts_of, encode}
use Rattle.table.specs.Sound.{Sound}
use Rattle.table.proofs.EncodedRecords.{whole, field_at, encode_length}
use Rattle.table.proofs.Stage.{progress_of, progress_at, stage_first, stage_next, stage_kind, stage_last}
use Rattle.table.proofs.TakenRecords.{accepted}

-- the scan from record j of a kind on, of at most f records, ends with all records of the table
record Scans (t : Table) (k : Kind) (j n f : ℕ) : Type 0 where
  last : ℕ
  result : scan_from f (encode t) (place (whole t) k j) (progress_at t k j n) ≡ Ok (progress_of t last (counts_of t))

-- before record j of a kind: a kind from n on may follow, and f records may be taken
record Ready (t : Table) (k : Kind) (j n f : ℕ) : Type 0 where
  now : j < count (whole t) k → n ≤ (row k).order
  later : n ≤ suc (row k).order
  enough : length (encode t) ≤ place (whole t) k j + f

abbrev From : Table → Kind → ℕ → Type 0
From t k j = (n f : ℕ) → Ready t k j n f → Scans t k j n f

-- behind a record may stand one of the next kind, and one of its own where the table has more than one
next_kind : (t : Table) (k : Kind) → ((row k).next ≤ suc (row k).order) × (1 < count (whole t) k → (row k).next ≤ (row k).order)
next_kind t = each (λ k. ((row k).next ≤ suc (row k).order) × (1 < count (whole t) k → (row k).next ≤ (row k).order)) (omega arith)

ready_next : {t : Table} {k : Kind} {j n f : ℕ} → Ready t k j n (suc f) → Ready t k (suc j) (row k).next f
ready_next {t} {k} {j} r = record {
  now = λ l. (next_kind t k).1 (omega arith);
  later = (next_kind t k).0;
  enough = omega (arith, r.enough, place_next (whole t) k j);
}

-- behind the last record
stops : (f : ℕ) (s : List ℕ) (at : ℕ) (x : Progress) → length s ≤ at → scan_from f s at x ≡ at_end at x
unfolding scan_from
stops zero s at x l = refl
stops (suc f) s at x l = rw (le-ltb at (length s) l)

module _ {t : Table} (h : Sound t) where
  -- one record is taken
  scan_one : (k : Kind) (j n f : ℕ) → j < count (whole t) k → n ≤ (row k).order → Scans t k (suc j) (row k).next f → Scans t k j n (suc f)
  unfolding scan_from
  scan_one k j n f l o u =
      let s = encode t in
      let at = place (whole t) k j in
      let a = accepted h k j n l o in
      record {
        last = u.last;
        result = rw (lt-ltb at (length s) (omega (arith, a.whole)), taking a) (ap₂ (scan_from f s) (place_next (whole t) k j) (stage_next t s at j n k (field_at h k j l)) ∙ u.result);
      }

  -- behind the last kind
  scan_end : (k : Kind) → suc (row k).order ≡ length kinds → From t k (count (whole t) k)
  unfolding at_end missing
  scan_end k e n f r =
      let at = place (whole t) k (count (whole t) k) in
      let all : at ≡ end (whole t) = place_last (whole t) k (λ i l. absurd (omega (arith, order_below i))) in
      record {
        last = n;
        result = stops f (encode t) at _ (omega (arith, encode_length h))
            ∙ ap (λ (c : List ℕ). at_end at (progress_of t n c)) (stage_last t k e)
            ∙ rw (ne_eqb t.processors.count 0 (λ e. omega (arith, h.processors.some)), ne_eqb t.tasks.count 0 (λ e. omega (arith, h.tasks.some)));
      }

  -- the m records left of a kind are taken
  scan_kind : (k : Kind) → From t k (count (whole t) k) → (m j : ℕ) → j + m ≡ count (whole t) k → From t k j
  scan_kind k rest zero j e n f r = let e' : count (whole t) k ≡ j = omega arith in subst (From t k) e' rest n f r
  scan_kind k rest (suc m) j e n zero r = let l : j < count (whole t) k = omega arith in absurd (omega (arith, r.enough, (accepted h k j n l (r.now l)).whole))
  scan_kind k rest (suc m) j e n (suc f) r =
      let l : j < count (whole t) k = omega arith in
      scan_one k j n f l (r.now l) (scan_kind k rest m (suc j) (omega arith) (row k).next f (ready_next r))

  -- from a kind to the next
  scan_on : (k i : Kind) → (row i).order ≡ suc (row k).order → From t i 0 → From t k 0
  scan_on k i o rest = scan_kind k on (count (whole t) k) 0 (zero-add _)
    where
      same : place (whole t) k (count (whole t) k) ≡ place (whole t) i 0
      same = place_kind (whole t) k i o

      on : From t k (count (whole t) k)
      on n f r =
          let u = rest n f (record { now = λ l. omega (arith, r.later); later = omega (arith, r.later); enough = omega (arith, r.enough, same) }) in
          record { last = u.last; result = ap₂ (scan_from f (encode t)) same (ap (progress_of t n) (stage_kind t k i o)) ∙ u.result }

  -- a kind and the m kinds behind it
  scan_kinds : (m : ℕ) (k : Kind) → suc (row k).order + m ≡ length kinds → From t k 0
  scan_kinds zero k e = scan_kind k (scan_end k (omega arith)) (count (whole t) k) 0 (zero-add _)
  scan_kinds (suc m) k e =
      let i = in_order (suc (row k).order) in
      let o : (row i).order ≡ suc (row k).order = order_of_lem (suc (row k).order) (omega arith) in
      scan_on k i o (scan_kinds m i (omega arith))

  pub scan_encode : (n : ℕ) × (scan_of (encode t) ≡ Ok (progress_of t n (counts_of t)))
  unfolding scan_of
  scan_encode =
      let s = encode t in
      let u = scan_kinds 5 Network (omega arith) 0 (length s) (record { now = λ l. omega arith; later = omega arith; enough = omega arith }) in
      (u.last, ap₂ (scan_from (length s) s) (sym (place_first (whole t))) (sym (stage_first t)) ∙ u.result)
