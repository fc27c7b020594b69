-- The place of a refused search. Assumes nothing.
use mathlib.Core.Path.{◌≡◌, refl, subst}
use mathlib.Core.Bool.{Bool, true, false}
use mathlib.Core.List.{List}
use Prim.Native.Nat.{ℕ, ◌+◌, ◌≤◌}
use native.Mathlib.Omega.{arith}
use lib.Dec.{ltb}
use lib.ListN.{length}
use Rattle.std.specs.Prelude.{Result, Ok, Err}
use Rattle.layout.specs.Format.{longest}
use Rattle.verdict.specs.declared.Cause.TheVariants.{ShortAnswer}
use Rattle.table.specs.declared.Refusal.{Refusal}
use Rattle.table.specs.declared.Table.{Table}
use Rattle.table.specs.Refusal.{refusal}
use Rattle.table.specs.Table.{read_of}
use Rattle.table.proofs.Ended.{refused_place}
use Rattle.search.specs.Search.{AnsweredBy, SearchedBy, Searched}

pub search_place : (file old new : List ℕ) (u : Result ℕ Refusal) {r : Refusal} → Searched file old new u → u ≡ Err r → r.place ≤ longest
search_place file old new u {r} s e = go (read_of file) refl s
  where
    same : {x : Refusal} → u ≡ Err x → x.place ≤ longest → r.place ≤ longest
    same {x} f l = let z : x ≡ r = cc in subst (λ (y : Refusal). y.place ≤ longest) z l

    by_length : (t : Table) (b : Bool) → AnsweredBy b t old new u → r.place ≤ longest
    by_length t true a = same {x = refusal ShortAnswer 0} a.0 (omega arith)
    by_length t false a = let q = a.count in absurd (let z : ◌≡◌ {A = ℕ} 0 1 = cc in omega arith)

    go : (o : Result Table Refusal) → read_of file ≡ o → SearchedBy o old new u → r.place ≤ longest
    go (Err x) h a = same a.0 (refused_place file h)
    go (Ok t) h a = by_length t (ltb (length old) (t.tasks.count + 5)) a
