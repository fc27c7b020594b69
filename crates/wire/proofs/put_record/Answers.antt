-- `put_record` puts the mark, and the four bytes of the value behind it.
use mathlib.Core.Path.{◌≡◌, ap, ◌∙◌}
use mathlib.Core.List.{List, ◌∷◌, ◌++◌}
use Prim.Native.Nat.{ℕ, ◌≤◌}
use lib.ListN.{length, drop, take, get_or, length-set}
use lib.Seq.{sets, sets-eq, drop-drop}
use native.Mathlib.Omega.{arith}
use borrow.Author.Rules.{rules}
use Rattle.wire.specs.Wire.{bytes, record_bytes}
use Rattle.wire.proofs.Laws.{bytes_four}
use Rattle.wire.proofs.put_record.Goals as goal

-- the bytes of v stored behind a and b
behind : (a b v : ℕ) (l l₁ : List ℕ) → 6 ≤ length l₁ → l₁ ≡ a ∷ b ∷ drop 2 l → sets l₁ 2 (bytes 4 v) ≡ (a ∷ b ∷ bytes 4 v) ++ drop 6 l
unfolding bytes
behind a b v l l₁ h e =
    sets-eq (bytes 4 v) l₁ 2 h
    ∙ ap (λ (x : List ℕ). take 2 x ++ bytes 4 v ++ drop 6 x) e
    ∙ ap (λ (x : List ℕ). (a ∷ b ∷ bytes 4 v) ++ x) (drop-drop 4 2 l)

pub put_mark-requires : goal.put_mark-requires
unfolding record_bytes
put_mark-requires c = search rules

pub bounds-list-3 : goal.bounds-list-3
unfolding record_bytes
bounds-list-3 c = simp length-set (omega arith)

pub bounds-list-4 : goal.bounds-list-4
unfolding record_bytes
bounds-list-4 c = simp length-set (omega arith)

pub bounds-list-5 : goal.bounds-list-5
unfolding record_bytes
bounds-list-5 c = simp length-set (omega arith)

pub returns : goal.returns
unfolding record_bytes
returns c =
    let a = c.args in
    let p = c.put_mark in
    rw bytes_four (rw bytes_four at (behind (get_or a.mark.now 0 0) (get_or a.mark.now 1 0) a.value a.list.now p.new.list (search rules) p.ensures))
