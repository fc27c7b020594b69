-- Both numbers and their difference fit in 32 bits with a sign.
use mathlib.Core.Path.{◌≡◌, ap₂, subst, sym}
use native.Mathlib.Omega.{arith}
use lib.IntN.{pos, ◌-ℤ◌}
use mir.Syntax.{w32}
use mir.Val.{SFits, to_z}
use mir.ValLaws.{to_z_pos, to_z-of_z}
use Rattle.schedule.proofs.Signed.{difference_fits}
use Rattle.schedule.proofs.difference.Lts as lts
use Rattle.schedule.proofs.difference.Reads as reads
use Rattle.schedule.proofs.difference.Goals as goal

module _ (c : lts.Start reads.Pre reads.Post) where
  same : to_z w32 c.args.x -ℤ to_z w32 c.args.y ≡ pos c.args.x -ℤ pos c.args.y
  same = ap₂ ◌-ℤ◌ (to_z_pos w32 c.args.x (omega (arith, c.requires))) (to_z_pos w32 c.args.y (omega (arith, c.requires)))

  fits : SFits w32 (to_z w32 c.args.x -ℤ to_z w32 c.args.y)
  fits = subst (SFits w32) (sym same) (difference_fits c.args.x c.args.y c.requires.0 c.requires.1)

pub overflow_sub-result : goal.overflow_sub-result
overflow_sub-result = fits

pub returns : goal.returns
returns c = rw (to_z-of_z w32 _ (fits c)) (same c, (fits c).sfits)
