-- What is known of a search that wrote its answer. Assumes nothing.
use mathlib.Core.Path.{◌≡◌, refl}
use mathlib.Core.Bool.{Bool, true, false}
use mathlib.Core.List.{List}
use Prim.Native.Nat.{ℕ, ◌+◌, ◌*◌, ◌^◌, ◌≤◌, ◌<◌}
use native.Mathlib.Omega.{arith}
use borrow.Author.Tests.{ltb-false}
use lib.Dec.{ltb}
use lib.ListN.{length}
use Rattle.wire.specs.Wire.{Bytes}
use Rattle.std.specs.Prelude.{Result, Ok, Err}
use Rattle.table.specs.declared.Refusal.{Refusal}
use Rattle.table.specs.declared.Table.{Table}
use Rattle.table.specs.Table.{read_of}
use Rattle.table.proofs.Sound.{read_sound}
use Rattle.table.specs.Sound.{Sound}
use Rattle.goal.proofs.Few.{count_small}
use Rattle.search.specs.Search.{AnsweredBy, SearchedBy, Searched}

-- an answer that is written: the file was read, the bytes written lie within the buffer, and their count is below 2 ^ 32
pub record Answered (file old : List ℕ) (count : ℕ) : Type 0 where
  pub table : Table
  pub read : read_of file ≡ Ok table
  pub sound : Sound table
  pub least : table.tasks.count + 5 ≤ count
  pub most : count ≤ length old
  pub small : count < 2 ^ 32

pub answered : (file old new : List ℕ) (r : Result ℕ Refusal) (count : ℕ) → Bytes file → Searched file old new r → r ≡ Ok count → Answered file old count
answered file old new r count b s e = go (read_of file) refl s
  where
    by_length : (t : Table) (c : Bool) → ltb (length old) (t.tasks.count + 5) ≡ c → read_of file ≡ Ok t → AnsweredBy c t old new r → Answered file old count
    by_length t true l h a = let q = a.0 in absurd (let z : ◌≡◌ {A = ℕ} 0 1 = cc in omega arith)
    by_length t false l h a =
        let q = a.count in
        let z : t.tasks.count + 5 + 6 * length a.conflicts ≡ count = cc in
        let sound = read_sound file b h in
        record {
          table = t;
          read = h;
          sound = sound;
          least = omega arith;
          most = omega (arith, a.room, ltb-false (length old) (t.tasks.count + 5) l);
          small = omega (arith, count_small sound a.listed);
        }

    go : (o : Result Table Refusal) → read_of file ≡ o → SearchedBy o old new r → Answered file old count
    go (Err x) h a = let q = a.0 in absurd (let z : ◌≡◌ {A = ℕ} 0 1 = cc in omega arith)
    go (Ok t) h a = by_length t (ltb (length old) (t.tasks.count + 5)) refl h a
