-- `least_common_multiple` meets its contract: `lcm-gcd` on what Euclid's algorithm found. Assumes nothing.
use Prim.Native.Nat.{ℕ, ◌*◌, ◌/◌, ◌≤◌}
use native.Mathlib.Nat.{div-le_self, le_trans, mul-le-mul, pos_of_dvd_of_pos}
use native.Mathlib.Omega.{arith}
use Rattle.lcm.proofs.Laws.{lcm_gcd}
use Rattle.lcm.proofs.least_common_multiple.Goals as goal

bound : (a b g : ℕ) → a ≤ 1000000000 → b ≤ 1000000 → a * (b / g) ≤ 1000000000000000
bound a b g p q = mul-le-mul p (le_trans (div-le_self b g) q)

pub nonzero_div-result : goal.nonzero_div-result
nonzero_div-result c = pos_of_dvd_of_pos c.gcd-g.ensures.right (omega arith)

pub overflow_cast-result : goal.overflow_cast-result
overflow_cast-result c = omega (arith, div-le_self c.args.b c.gcd-g.result)

pub overflow_mul-result : goal.overflow_mul-result
overflow_mul-result c = omega (arith, bound c.args.a c.args.b c.gcd-g.result (omega arith) (omega arith))

pub returns : goal.returns
returns c =
    let a = c.args.a in
    let b = c.args.b in
    let g = c.gcd-g.result in
    (lcm_gcd a b g (omega arith) c.gcd-g.ensures, bound a b g (omega arith) (omega arith))
