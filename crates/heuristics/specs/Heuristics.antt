-- The heuristics of the search: what decides how long it takes. No answer rests on them.
use Rattle.std.specs.Prelude.{cond, Bool, Some, ℕ, ◌+◌, ◌*◌, ◌%◌, leb, get_or, set}
use Rattle.heuristics.specs.declared.Heuristics.{Heuristics}

-- the row of weights for a whole decision, which is the last
abbrev pub root : ℕ
root = 25

-- a failure weight after one failure more; it stays where it has grown large
abbrev pub heavier : ℕ → ℕ
heavier w = cond (leb 4000000000 w) w (w + 16)

-- the next state of the random numbers, by a linear congruential generator
abbrev pub next_state : ℕ → ℕ
next_state x = (x * 1103515245 + 12345) % 2147483648

-- a count after one more; it stays where it has grown large
abbrev pub one_more : ℕ → ℕ
one_more count = cond (leb 4000000000 count) count (count + 1)

-- the heuristics once task k failed, a random number was drawn, a node was counted
abbrev pub after_blame : Heuristics → ℕ → Heuristics
after_blame h k = record h { guide = record h.guide { failures = set h.guide.failures k (heavier (get_or h.guide.failures k 0)) } }

abbrev pub after_noise : Heuristics → Heuristics
after_noise h = record h { guide = record h.guide { random = next_state h.guide.random } }

abbrev pub after_node : Heuristics → Heuristics
after_node h = record h { guide = record h.guide { nodes = one_more h.guide.nodes } }

-- the heuristics with what a replay does not take back, also in the copy: after how many nodes the listing was tried in vain, and what was found out of it
abbrev pub tried_noted : Heuristics → ℕ → Heuristics
tried_noted h nodes = record h { guide = record h.guide { tried = nodes }; kept = record h.kept { tried = nodes } }

abbrev pub listing_noted : Heuristics → Bool → Heuristics
listing_noted h all = record h { guide = record h.guide { listing = Some all }; kept = record h.kept { listing = Some all } }
