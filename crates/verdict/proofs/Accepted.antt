-- A record that is taken: every test against it fails. Assumes nothing.
use mathlib.Core.Path.{◌≡◌}
use mathlib.Core.Bool.{false}
use mathlib.Core.List.{List}
use Prim.Native.Nat.{ℕ, ◌+◌, ◌≤◌, ◌<◌}
use lib.ListN.{length}
use Rattle.std.specs.Prelude.{Some}
use Rattle.layout.specs.declared.Kind.{Kind}
use Rattle.layout.specs.declared.Progress.{Progress}
use Rattle.layout.specs.Format.{row, size, count}
use Rattle.verdict.specs.Faults.{out_of_range, not_in_file, priority_used, periods_differ, message_repeated, hyperperiod_too_large}
use Rattle.layout.specs.Format.{kind_at}

pub record Accepted (s : List ℕ) (at : ℕ) (x : Progress) (k : Kind) : Type 0 where
  pub marked : kind_at s at ≡ Some k
  pub whole : at + size k ≤ length s
  pub in_order : x.next ≤ (row k).order
  pub room : count x k < (row k).most
  pub in_range : out_of_range s at k ≡ false
  pub in_file : not_in_file s at x k ≡ false
  pub priority_new : priority_used s at x k ≡ false
  pub periods_equal : periods_differ s at x k ≡ false
  pub message_new : message_repeated s at x k ≡ false
  pub hyperperiod_small : hyperperiod_too_large s at x k ≡ false
