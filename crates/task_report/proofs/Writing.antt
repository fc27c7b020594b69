-- Numbers put one after the other into a buffer of signed numbers. Assumes nothing.
use mathlib.Core.Path.{◌≡◌, ap, ap₂, ◌∙◌}
use mathlib.Core.List.{List, [], ◌∷◌, ◌++◌, map, map-append}
use Prim.Native.Nat.{ℕ, suc, ◌+◌, ◌≤◌, ◌<◌}
use native.Mathlib.Numerals.{add-one}
use native.Mathlib.Omega.{arith}
use lib.IntN.{ℤ, pos}
use lib.ListN.{length, get_or, take, drop, set, length-map, length-append}
use lib.Seq.{length-take-le, take-suc, sets, sets-eq}
use mir.Syntax.{w32}
use mir.Val.{to_z}
use mir.ValLaws.{to_z_pos}

sets_snoc : (vs l : List ℤ) (i : ℕ) (v : ℤ) {k : ℕ} → k ≡ i + length vs → set (sets l i vs) k v ≡ sets l i (vs ++ (v ∷ []))
sets_snoc [] l i v e = ap (λ (k : ℕ). set l k v) (omega arith)
sets_snoc (a ∷ vs) l i v e = sets_snoc vs (set l i a) (suc i) v (omega arith)

-- values put one behind the other, by those before and those behind
sets_append : (us vs l : List ℤ) (i : ℕ) {k : ℕ} → k ≡ i + length us → sets (sets l i us) k vs ≡ sets l i (us ++ vs)
sets_append [] vs l i e = ap (λ (k : ℕ). sets l k vs) (omega arith)
sets_append (a ∷ us) vs l i e = sets_append us vs (set l i a) (suc i) (omega arith)

-- the numbers of the first k elements put from the place i on, and one more
pub put_next : {A : Type 0} (number : A → ℤ) (other : A) (l : List ℤ) (s : List A) {out : List ℤ} (i k : ℕ) {v : ℤ} → k < length s → v ≡ number (get_or s k other)
    → out ≡ sets l i (map number (take k s)) → set out (i + k) v ≡ sets l i (map number (take (k + 1) s))
put_next number other l s {out} i k {v} h b e =
    rw (e, b, add-one, take-suc s k other h, map-append)
    (sets_snoc (map number (take k s)) l i (number (get_or s k other)) (omega (arith, length-map (take k s) number, length-take-le k s (omega arith))))

-- what the buffer holds once two numbers are put, then us, then vs
pub put_all : {out : List ℤ} (l us vs : List ℤ) (a b : ℕ) {i n : ℕ} → a ≤ 65535 → b ≤ 65535 → i ≡ 2 + length us → n ≡ i + length vs → n ≤ length l
    → out ≡ sets (sets (set (set l 0 (to_z w32 a)) 1 (to_z w32 b)) 2 us) i vs → out ≡ (pos a ∷ pos b ∷ us ++ vs) ++ drop n l
put_all {out} l us vs a b {i} {n} x y h c r e =
    let numbers : List ℤ = pos a ∷ pos b ∷ us ++ vs in
    let count : 0 + length numbers ≡ n = omega (arith, length-append us vs) in
    e
    ∙ ap₂ (λ (v w : ℤ). sets (sets (set (set l 0 v) 1 w) 2 us) i vs) (to_z_pos w32 a (omega arith)) (to_z_pos w32 b (omega arith))
    ∙ sets_append us vs (set (set l 0 (pos a)) 1 (pos b)) 2 h
    ∙ sets-eq numbers l 0 (omega arith)
    ∙ ap (λ (k : ℕ). numbers ++ drop k l) count
