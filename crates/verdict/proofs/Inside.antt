-- The records taken lie within the file. Assumes nothing.
use mathlib.Core.List.{List}
use Prim.Native.Nat.{ℕ, ◌+◌, ◌≤◌, ◌<◌}
use native.Mathlib.Omega.{arith}
use lib.ListN.{length}
use Rattle.layout.specs.declared.Kind.{Kind}
use Rattle.layout.specs.declared.Progress.{Progress}
use Rattle.layout.specs.Format.{size, count, place}
use Rattle.layout.proofs.Places.{place_within}
use Rattle.verdict.specs.Reached.{Reached}

pub record_in : {s : List ℕ} {at : ℕ} {x : Progress} → Reached s at x → (k : Kind) (j : ℕ) → j < count x k → place x k j + size k ≤ length s
record_in {x = x} r k j l = omega (arith, r.ends, r.inside, place_within x k j l)
