-- The first record with the mask is one of the first `count` exactly where some record has it: the four bytes are compared as one word.
use mathlib.Core.Path.{ap, ◌∙◌}
use Prim.Native.Nat.{ℕ, ◌+◌, ◌*◌}
use borrow.Author.Rules.{rules}
use lib.Dec.{ltb}
use Rattle.mask.proofs.Tests.{first_some}
use Rattle.wire.specs.Wire.{bytes, bytes_at}
use Rattle.answer.proofs.Laws.{same_mask}
use Rattle.answer.proofs.listed.Goals as goal

pub returns : goal.returns
returns c =
    let list = c.args.list.now in
    let e = c.first_that.ensures (λ j. bytes_at list (6 * j + 2) (bytes 4 c.args.mask)) (λ j l r u. rw (same_mask list (λ k. (c.type_inv.list k).fits) j c.args.mask c.ranges.mask.fits) (search rules)) in
    ap (λ (k : ℕ). ltb k c.args.count) e ∙ first_some _ _
