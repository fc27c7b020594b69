-- Text as bytes. Assumes nothing.
use Rattle.std.specs.Prelude.{cond, List, [], ◌∷◌, ◌++◌, ℕ, zero, suc, ◌+◌, ◌/◌, ◌%◌, ltb, ℤ, pos, negsuc}
use Prim.Native.Char.{code}
use Prim.Native.String as string
use Prim.Native.String.{String}

-- a text's characters in ASCII
abbrev pub ascii : String → List ℕ
ascii string.[] = []
ascii (string.◌∷◌ c s) = code c ∷ ascii s

-- the last `most` decimal digits of x, without leading zeros, in ASCII
unfoldable pub digits : ℕ → ℕ → List ℕ
digits zero x = []
digits (suc most) x = cond (ltb x 10) ((48 + x) ∷ []) (digits most (x / 10) ++ ((48 + x % 10) ∷ []))

-- x in decimal: a number of 64 bits has at most 20 digits
abbrev pub decimal : ℕ → List ℕ
decimal x = digits 20 x

-- the same with a sign where it is below zero
abbrev pub signed : ℤ → List ℕ
signed (pos x) = decimal x
signed (negsuc x) = ascii "-" ++ decimal (suc x)
