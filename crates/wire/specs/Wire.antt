-- Numbers and marks in a list of bytes. Assumes nothing.
use Rattle.std.specs.Prelude.{◌≡◌, Bool, true, ◌&&◌, List, [], ◌∷◌, ◌++◌, ℕ, zero, suc, ◌+◌, ◌*◌, ◌/◌, ◌%◌, ◌≤◌, ◌<◌, eqb, length, get_or, take, drop}

-- the value of bytes, least first (01: numbers are little-endian, unsigned)
unfoldable pub little : List ℕ → ℕ
little [] = 0
little (b ∷ bs) = b + 256 * little bs

-- the number of w bytes at a place
unfoldable pub number : List ℕ → ℕ → ℕ → ℕ
number s at w = little (take w (drop at s))

-- v as w bytes, least first
unfoldable pub bytes : ℕ → ℕ → List ℕ
bytes zero v = []
bytes (suc w) v = v % 256 ∷ bytes w (v / 256)

-- a list of bytes
abbrev pub Bytes : List ℕ → Type 0
Bytes s = (k : ℕ) → get_or s k 0 < 256

-- these bytes stand at a place, one after another (02, 2026-03: the same four mask bytes)
unfoldable pub bytes_at : List ℕ → ℕ → List ℕ → Bool
bytes_at s at [] = true
bytes_at s at (b ∷ bs) = eqb (get_or s at 0) b && bytes_at s (at + 1) bs

-- the two bytes of the mark m stand at a place (01: each record begins with a two-byte mark in ASCII)
unfoldable pub mark_at : List ℕ → ℕ → List ℕ → Bool
mark_at s at m = eqb (get_or s at 0) (get_or m 0 0) && eqb (get_or s (at + 1) 0) (get_or m 1 0)

-- the two bytes of a mark
abbrev pub mark_bytes : List ℕ → List ℕ
mark_bytes m = get_or m 0 0 ∷ get_or m 1 0 ∷ []

-- a record of a mark and a 32-bit value (01: `NG` and a 32-bit mask each)
unfoldable pub record_bytes : List ℕ → ℕ → List ℕ
record_bytes m v = mark_bytes m ++ bytes 4 v

-- old with the bytes new in place of as many from a place on (01: later bytes keep their contents)
unfoldable pub laid : ℕ → List ℕ → List ℕ → List ℕ
laid at new old = take at old ++ (new ++ drop (at + length new) old)

-- a piece was put at a place; it ends at `end`, and what stood behind that stands there still
pub record Put (old : List ℕ) (at : ℕ) (piece new : List ℕ) (end : ℕ) : Type 0 where
  pub holds : new ≡ laid at piece old
  pub ends : end ≡ at + length piece
  pub room : end ≤ length old

-- the pieces of 0 to n - 1, one after another
unfoldable pub pieces : ℕ → (ℕ → List ℕ) → List ℕ
pieces zero f = []
pieces (suc n) f = pieces n f ++ f n
