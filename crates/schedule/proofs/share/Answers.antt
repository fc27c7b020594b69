-- The product fits, as both factors are at most 1,000,000.
use mathlib.Core.Path.{◌≡◌, ap₂, ◌∙◌}
use Prim.Native.Nat.{◌*◌}
use native.Mathlib.Omega.{arith}
use borrow.Author.Rules.{rules}
use Rattle.schedule.specs.Response.{ceil}
use Rattle.schedule.proofs.Ceil.{share_le}
use Rattle.schedule.proofs.share.Lts as lts
use Rattle.schedule.proofs.share.Reads as reads
use Rattle.schedule.proofs.share.Tie as tie
use Rattle.schedule.proofs.share.Goals as goal

product : (c : lts.After-wide2 tie.the-claims reads.Pre reads.Post) → c.wide.result * c.wide-2.result ≡ ceil c.args.x c.args.t * c.args.c
product c = ap₂ ◌*◌ (c.wide.ensures.0 ∙ c.rounded_up.ensures) c.wide-2.ensures.0

pub overflow_mul-result : goal.overflow_mul-result
overflow_mul-result c =
    let z = c.args in
    record { fits = omega (arith, product c, share_le z.x z.t z.c 1000000 1000000 (search rules) (search rules) (search rules)) }

pub returns : goal.returns
returns = product
