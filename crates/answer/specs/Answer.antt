-- The layout of the search answer in the caller's buffer. Assumes nothing.
use Rattle.std.specs.Prelude.{◌≡◌, Bool, List, [], ◌∷◌, ◌++◌, ℕ, ◌+◌, ◌-◌, ◌*◌, ◌/◌, ◌^◌, ◌≤◌, ◌<◌, length, get_or, drop, replicate}
use Rattle.finite.specs.Finite.{only, some_below}
use Rattle.wire.specs.Wire.{number, bytes, bytes_at, record_bytes}

-- 01: the head is `AL` and n processor bytes
abbrev pub found_head : List ℕ → List ℕ
found_head processors = 65 ∷ 76 ∷ processors

-- 01: or `NO` and n bytes 255
abbrev pub none_head : ℕ → List ℕ
none_head n = 78 ∷ 79 ∷ replicate n 255

-- 01: a conflict record is `NG` and a 32-bit mask
abbrev pub conflict_bytes : ℕ → List ℕ
conflict_bytes c = record_bytes (78 ∷ 71 ∷ []) c

-- 01: conflict records follow the head directly, one for each mask
unfoldable pub records : List ℕ → List ℕ
records [] = []
records (c ∷ cs) = conflict_bytes c ++ records cs

-- 01: then `EN` and one byte, 1 complete, 0 cut
abbrev pub end_bytes : Bool → List ℕ
end_bytes complete = 69 ∷ 78 ∷ only complete 1 ∷ []

-- 01: the count of bytes written is n + 5 + 6 × the number of conflicts listed, here k
abbrev pub count_of : ℕ → ℕ → ℕ
count_of n k = n + 5 + 6 * k

-- 01: places for conflicts: (buffer length − n − 5) / 6, rounded down
abbrev pub places : ℕ → ℕ → ℕ
places n len = (len - n - 5) / 6

-- 01: the whole buffer is the head, the conflict records and the end; later bytes keep their contents
unfoldable pub answer_bytes : ℕ → List ℕ → List ℕ → Bool → List ℕ → List ℕ
answer_bytes n head cs complete old = head ++ records cs ++ end_bytes complete ++ drop (count_of n (length cs)) old

-- the mask of conflict record j in the part after the head (01: `NG` and a 32-bit mask each)
abbrev pub mask_at : List ℕ → ℕ → ℕ
mask_at list j = number list (6 * j + 2) 4

-- 02, 2026-03: a mask is listed exactly when one of the first `count` records holds the same four mask bytes
abbrev pub is_listed : List ℕ → ℕ → ℕ → Bool
is_listed list count mask = some_below count (λ j. bytes_at list (6 * j + 2) (bytes 4 mask))

-- what the part after the head holds once cs are listed, where it held old (01: it is lent on to the writer of conflict records):
-- the records and, behind them, what it held. There is room for the end, and each mask has 32 bits.
pub record Listing (old cs list : List ℕ) : Type 0 where
  pub holds : list ≡ records cs ++ drop (6 * length cs) old
  pub room : 6 * length cs + 3 ≤ length old
  pub words : (j : ℕ) → get_or cs j 0 < 2 ^ 32
