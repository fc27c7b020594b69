-- What the table of bounds says: at first nothing; what is found in it; with one entry written anew. Assumes nothing.
use mathlib.Core.Path.{◌≡◌, refl, sym, ap, subst}
use mathlib.Core.Bool.{Bool, true, false, cond, false≢true}
use mathlib.Core.List.{List}
use Prim.Native.Nat.{ℕ, ◌≤◌, ◌<◌}
use native.Mathlib.Decide.{ℕ_discrete}
use native.Mathlib.Omega.{arith}
use lib.Dec.{T, eqb, eqb→eq}
use lib.ListN.{get_or, set, replicate, length-set, length-replicate}
use lib.Seq.{get_or-set_same, get_or-set_other}
use Rattle.std.proofs.lemmas.List.{get_or-replicate}
use Rattle.std.specs.Prelude.{Option, Some, None}
use Rattle.mask.specs.Mask.{Subset, sum_over}
use Rattle.mask.proofs.Laws.{sum_none, sum_subset}
use Rattle.mask.proofs.Tests.{and_left, and_right}
use Rattle.table.specs.declared.Table.{Table}
use Rattle.timing.specs.Timing.{tasks_in}
use Rattle.late_cache.specs.LateCache.{LateCache}
use Rattle.nogoods.proofs.Covers.{known_forgot}
use Rattle.bound_cache.specs.declared.Key.{Key}
use Rattle.bound_cache.specs.declared.Entry.{Entry}
use Rattle.bound_cache.specs.BoundCache.{weights_at, Capped, empty, BoundCache, Learnt, LearntOf, number_of, entry_of, same_key, recall_of, keep_of}
use Rattle.rows.specs.Rows.{weights_in}
use Rattle.rows.specs.declared.Measure.{Measure}
use Rattle.rows.specs.declared.Measure.TheVariants.{Load, Memory, Both, Other}
use Rattle.rows.specs.declared.Rows.{Rows}

-- what an entry says
abbrev Says : Table → Rows → Entry → Type 0
Says t rows entry = Capped t rows entry.key entry.top

-- an empty entry has no candidates
empty_cap : {t : Table} {rows : Rows} → Capped t rows empty.key empty.top
empty_cap = record { bounds = λ x w f. none _ x _ f }
  where
    none : (n x : ℕ) (g : ℕ → ℕ) → Subset x 0 → sum_over n x g ≤ 0
    none n x g f = omega (arith, sum_subset n x 0 g f, sum_none n g)

all_empty : {t : Table} {rows : Rows} (n j : ℕ) → j < n → Says t rows (get_or (replicate n empty) j empty)
all_empty {t} {rows} n j l = subst (Says t rows) (sym (get_or-replicate n j empty empty l)) empty_cap

pub bound_cache_start : {t : Table} {rows : Rows} → BoundCache t rows (replicate 2048 empty)
bound_cache_start = record { long = length-replicate {A = Entry} 2048 empty; entries = all_empty 2048 }

pub learnt_start : {t : Table} {rows : Rows} {lateness : List ℕ} → LateCache (tasks_in t) lateness → Learnt t rows lateness (replicate 2048 empty)
learnt_start k = record { knows = k; keeps = bound_cache_start }

-- beside a list: any, once the table of covered sets was given up
module _ {t : Table} {list : List ℕ} {count : ℕ} {rows : Rows} {bounds : List Entry} where
  pub learnt_forgot : {old lateness : List ℕ} → Learnt t rows old bounds → lateness ≡ set old 81920 0 → LearntOf t list count rows lateness bounds
  learnt_forgot k e = record { knows = known_forgot k.knows e list count; keeps = k.keeps }

  pub learnt_of : {lateness : List ℕ} → LearntOf t list count rows lateness bounds → Learnt t rows lateness bounds
  learnt_of k = record { knows = k.knows.late; keeps = k.keeps }

-- ---- what is found

entry_low : (key : Key) → entry_of key < 2048
unfolding entry_of
entry_low key = omega arith

same_keys : (a b : Key) → T (same_key a b) → a ≡ b
same_keys a b u =
    let v = and_right (eqb a.on b.on) _ u in
    let w = and_right (eqb a.candidates b.candidates) _ v in
    let x = and_right (eqb a.row b.row) _ w in
    built (eqb→eq a.on b.on (and_left (eqb a.on b.on) _ u)) (eqb→eq a.candidates b.candidates (and_left (eqb a.candidates b.candidates) _ v))
    (eqb→eq a.row b.row (and_left (eqb a.row b.row) _ w)) (eqb→eq a.space b.space (and_left (eqb a.space b.space) _ x))
    (eqb→eq a.spare b.spare (and_right (eqb a.space b.space) _ x))
  where
    built : {on on' candidates candidates' row row' space space' spare spare' : ℕ} → on ≡ on' → candidates ≡ candidates' → row ≡ row' → space ≡ space'
        → spare ≡ spare' → ◌≡◌ {A = Key} (record { on = on; candidates = candidates; row = row; space = space; spare = spare })
        (record { on = on'; candidates = candidates'; row = row'; space = space'; spare = spare' })
    built d e f g h = rw (d, e, f, g, h) refl

abbrev value : Option ℕ → ℕ
value (Some x) = x
value None = 0

abbrev some : Option ℕ → Bool
some (Some x) = true
some None = false

-- what is found was kept
hit : (b : Bool) (kept top : ℕ) → cond b (Some kept) None ≡ Some top → T b × (kept ≡ top)
hit true kept top e = (tt, ap value e)
hit false kept top e = absurd (false≢true (ap some e))

pub recalled : {t : Table} {rows : Rows} {bounds : List Entry} {key : Key} {top : ℕ} → BoundCache t rows bounds → recall_of bounds key ≡ Some top → Capped t rows key top
recalled {t} {rows} {bounds} {key} {top} m e =
    let entry = get_or bounds (entry_of key) empty in
    let h = hit (same_key entry.key key) entry.top top e in
    subst (λ (x : Key). Capped t rows x top) (same_keys entry.key key h.0) (subst (Capped t rows entry.key) h.1 (m.entries (entry_of key) (entry_low key)))

-- ---- the row of a measure

pub row_weights : (rows : Rows) (m : Measure) {row : ℕ} → row ≡ number_of m → (m ≡ Other → ⊥) → weights_in rows m ≡ weights_at rows row
row_weights rows Load e f = rw e refl
row_weights rows Memory e f = rw e refl
row_weights rows Both e f = rw e refl
row_weights rows Other e f = absurd (f refl)

-- ---- one entry written anew

pub bound_cache_keep : {t : Table} {rows : Rows} {bounds : List Entry} (key : Key) (top : ℕ) → BoundCache t rows bounds → Capped t rows key top → BoundCache t rows (keep_of bounds key top)
bound_cache_keep {t} {rows} {bounds} key top m c = record { long = simp length-set m.long; entries = λ i l. go i l (ℕ_discrete i (entry_of key)) }
  where
    new : Entry
    new = record { key = key; top = top }

    go : (i : ℕ) → i < 2048 → Dec (i ≡ entry_of key) → Says t rows (get_or (set bounds (entry_of key) new) i empty)
    go i l (yes e) = subst (λ (x : ℕ). Says t rows (get_or (set bounds (entry_of key) new) x empty)) (sym e)
        (subst (Says t rows) (sym (get_or-set_same bounds (entry_of key) new empty (omega (arith, m.long, entry_low key)))) c)
    go i l (no d) = subst (Says t rows) (sym (get_or-set_other bounds (entry_of key) i new empty d)) (m.entries i l)
