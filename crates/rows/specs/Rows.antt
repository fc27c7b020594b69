-- What is lent to the search of a table, worked out once: rows of numbers, a place for each task or message.
use Rattle.std.specs.Prelude.{not, ◌&&◌, List, ℕ, ◌*◌, ◌/◌, eqb, get_or, replicate}
use Rattle.finite.specs.Finite.{some_below}
use Rattle.mask.specs.Mask.{has, mask_of}
use Rattle.table.specs.declared.Table.{Table}
use Rattle.table.specs.declared.Groups.{Groups}
use Rattle.table.specs.Table.{column}
use Rattle.rules.specs.Rules.{amount_of}
use Rattle.rows.specs.declared.Rows.{Rows}
use Rattle.rows.specs.declared.Measure.{Measure}
use Rattle.rows.specs.declared.Measure.TheVariants.{Load, Memory, Both, Other}
use Rattle.rows.specs.declared.Messages.{Messages}

-- 01: the work of each task in one hyperperiod, C × H / T
unfoldable pub loads_of : Table → List ℕ
loads_of t = column 24 t.tasks.count (λ k. get_or t.tasks.c k 0 * t.hyperperiod / get_or t.tasks.t k 0)

-- the tasks below n that share a group with task k
unfoldable pub beside_of : Groups → ℕ → ℕ → ℕ
beside_of groups n k = mask_of n (λ j. not (eqb j k) && some_below groups.count (λ g. has (get_or groups.mask g 0) k && has (get_or groups.mask g 0) j))

unfoldable pub neighbours_of : Groups → ℕ → List ℕ
neighbours_of groups n = column 24 n (beside_of groups n)

-- the tasks that may not stand beside each task, and those that must
abbrev pub exclusions_of : Table → List ℕ
exclusions_of t = neighbours_of t.ex t.tasks.count

abbrev pub partners_of : Table → List ℕ
partners_of t = neighbours_of t.co t.tasks.count

-- what each message is to the network in one hyperperiod, amount × H / T
unfoldable pub amounts_of : Table → List ℕ
amounts_of t = column 64 t.messages.count (amount_of t)

-- a row that is still to be filled, of numbers that guide the search
abbrev pub unfilled : List ℕ
unfilled = replicate 24 0

-- the rows of the tasks, those of the response calculation apart
abbrev pub rows_of : Table → Rows
rows_of t = record {
  residence = t.tasks.residence;
  load = loads_of t;
  memory = t.tasks.memory;
  weight = unfilled;
  exclusions = exclusions_of t;
  partners = partners_of t;
  order = unfilled;
  base = unfilled;
}

-- the weights of the tasks in the rows: by load, by memory, else by both
abbrev pub weights_in : Rows → Measure → List ℕ
weights_in rows Load = rows.load
weights_in rows Memory = rows.memory
weights_in rows Both = rows.weight
weights_in rows Other = rows.weight

-- the rows of the messages
abbrev pub messages_of : Table → Messages
messages_of t = record { sender = t.messages.sender; receiver = t.messages.receiver; amount = amounts_of t }
