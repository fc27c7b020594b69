-- When a record is taken, and of which kind the record at a mark is. Assumes nothing.
use mathlib.Core.Path.{◌≡◌, refl, ap₂, ◌∙◌}
use mathlib.Core.Bool.{Bool, true, false, ◌&&◌}
use mathlib.Core.List.{List, [], ◌∷◌}
use Prim.Native.Nat.{ℕ, ◌+◌}
use native.Mathlib.Omega.{arith}
use borrow.Author.Tests.{le-ltb, lt-leb, eqb-true}
use lib.Dec.{eqb}
use lib.ListN.{length, get_or}
use Rattle.std.specs.Prelude.{Option, Some}
use Rattle.wire.specs.Wire.{mark_at}
use Rattle.layout.specs.declared.Kind.{Kind}
use Rattle.layout.specs.declared.Progress.{Progress}
use Rattle.layout.specs.Format.{row, size, count}
use Rattle.verdict.specs.Faults.{mark_cut, record_cut, out_of_order, too_many, taken, content_verdict, record_verdict, verdict, hyperperiod_with}
use Rattle.layout.specs.Format.{kind_at}
use Rattle.layout.proofs.EachKind.{each}
use Rattle.verdict.proofs.Accepted.{Accepted}

-- no test stands against it
pub taking : {s : List ℕ} {at : ℕ} {x : Progress} {k : Kind} → Accepted s at x k → verdict s at x ≡ taken k (hyperperiod_with s at x k)
unfolding verdict record_verdict content_verdict mark_cut record_cut out_of_order too_many
taking {s} {at} {x} {k} a =
    simp (
      le-ltb (length s) (at + 2) (omega (arith, a.whole)),
      a.marked,
      le-ltb (length s) (at + size k) a.whole,
      le-ltb (row k).order x.next a.in_order,
      lt-leb (row k).most (count x k) a.room,
      a.in_range,
      a.in_file,
      a.priority_new,
      a.periods_equal,
      a.message_new,
      a.hyperperiod_small,
    )

-- the kind of a mark of the bytes a and b
abbrev kind_of : ℕ → ℕ → Option Kind
kind_of a b = kind_at (a ∷ b ∷ []) 0

kind_bytes : (s : List ℕ) (at : ℕ) → kind_at s at ≡ kind_of (get_or s at 0) (get_or s (at + 1) 0)
unfolding kind_at mark_at
kind_bytes s at = refl

mark_bytes_lem : (s : List ℕ) (at : ℕ) (m : List ℕ) → mark_at s at m ≡ true → (get_or s at 0 ≡ get_or m 0 0) × (get_or s (at + 1) 0 ≡ get_or m 1 0)
unfolding mark_at
mark_bytes_lem s at m e = go (eqb (get_or s at 0) (get_or m 0 0)) (eqb-true (get_or s at 0) (get_or m 0 0)) e
  where
    go : (t : Bool) → (t ≡ true → get_or s at 0 ≡ get_or m 0 0) → t && eqb (get_or s (at + 1) 0) (get_or m 1 0) ≡ true → (get_or s at 0 ≡ get_or m 0 0) × (get_or s (at + 1) 0 ≡ get_or m 1 0)
    go true f h = (f refl, eqb-true (get_or s (at + 1) 0) (get_or m 1 0) h)
    go false f h = (f h, cc)

-- the first bytes of the six marks differ
mark_of : (k : Kind) → kind_of (get_or (row k).mark 0 0) (get_or (row k).mark 1 0) ≡ Some k
unfolding kind_at mark_at
mark_of = each (λ k. kind_of (get_or (row k).mark 0 0) (get_or (row k).mark 1 0) ≡ Some k) (search)

pub mark_kind : (s : List ℕ) (at : ℕ) (k : Kind) → mark_at s at (row k).mark ≡ true → kind_at s at ≡ Some k
mark_kind s at k e = let h = mark_bytes_lem s at (row k).mark e in kind_bytes s at ∙ ap₂ kind_of h.0 h.1 ∙ mark_of k
