-- `put_end_first` puts the mark, and behind it 1 or 0.
use mathlib.Core.Path.{◌≡◌, refl, ap, ◌∙◌}
use mathlib.Core.Bool.{Bool, true, false}
use mathlib.Core.List.{List, ◌∷◌, ◌++◌}
use Prim.Native.Nat.{ℕ, ◌≤◌}
use mir.Val.{bool_byte}
use native.Mathlib.Omega.{arith}
use lib.ListN.{length, drop, set, length-drop}
use lib.Seq.{set_split, drop-drop}
use Rattle.answer.specs.Answer.{end_bytes}
use Rattle.answer.proofs.put_end_first.Goals as goal

-- the byte stored behind the mark
ended : (complete : Bool) (l l₁ : List ℕ) → 3 ≤ length l → l₁ ≡ 69 ∷ 78 ∷ drop 2 l → set l₁ 2 (bool_byte complete) ≡ end_bytes complete ++ drop 3 l
ended complete l l₁ h e =
    ap (λ (x : List ℕ). set x 2 (bool_byte complete)) e
    ∙ ap (λ (x : List ℕ). 69 ∷ 78 ∷ x) (set_split (drop 2 l) 0 (bool_byte complete) (simp length-drop (omega arith)))
    ∙ ap (λ (x : List ℕ). 69 ∷ 78 ∷ bool_byte complete ∷ x) (drop-drop 1 2 l)
    ∙ byte complete
  where
    byte : (b : Bool) → 69 ∷ 78 ∷ bool_byte b ∷ drop 3 l ≡ end_bytes b ++ drop 3 l
    byte true = refl
    byte false = refl

pub returns : goal.returns
returns c =
    ended c.args.complete c.args.rest.now c.put_mark.new.list c.requires c.put_mark.ensures
