-- `put_margin` meets its contract, by whether the margin is known; its number is read from its bits.
use native.Mathlib.Omega.{arith}
use borrow.Author.Rules.{rules}
use lib.Signed.{mag}
use Prim.Native.Nat.{◌<◌}
use mir.Syntax.{w32}
use mir.Val.{to_z, of_z}
use mir.ValLaws.{to_z-of_z}
use Rattle.text.proofs.Signed.{put_signed_few}
use Rattle.lines.proofs.put_margin.Goals as goal

pub returns-in-Some : goal.returns-in-Some
returns-in-Some c =
    let x = c.in-Some.x in
    let own : mag x < 2147483648 = search rules in
    (rw (c.in-Some.is, ← (to_z-of_z w32 x (record { sfits = own }))) c.put_signed.ensures, omega (arith, put_signed_few (to_z w32 (of_z w32 x)) c.put_signed.ensures))

pub returns-in-None : goal.returns-in-None
returns-in-None c = (rw c.in-None.is c.put.ensures, omega (arith, c.put.ensures.ends))
