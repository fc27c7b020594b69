-- The rows that guide the search: how large each task is, the tasks in that order, and how hard each is to place. Assumes nothing.
-- No answer rests on them, only how long the search takes. Each remainder below leaves the numbers of a table as they are; of others it keeps the results within 64 bits.
use Rattle.std.specs.Prelude.{◌||◌, cond, List, ℕ, ◌+◌, ◌*◌, ◌/◌, ◌%◌, min, max, eqb, get_or, set}
use Rattle.finite.specs.Finite.{only, sum_to}
use Rattle.table.specs.Table.{column}
use Rattle.partial.specs.declared.Sizes.{Sizes}
use Rattle.partial.specs.declared.State.{State}
use Rattle.ordering.specs.Ordering.{order_of}
use Rattle.pairs.specs.Pairs.{strangers_of}
use Rattle.schedule.specs.declared.Timing.{Timing}
use Rattle.rows.specs.declared.Rows.{Rows}
use Rattle.rows.specs.declared.Messages.{Messages}

-- ---- how large each task is

-- a load, a memory or a room: each is below 2^40
abbrev pub short : ℕ → ℕ
short x = x % 1099511627776

-- what the eight processors have together
unfoldable pub sum_of : List ℕ → ℕ
sum_of rooms = sum_to 8 (λ p. short (get_or rooms p 0))

-- x in millionths of all, and no more than a million
unfoldable pub millionths_of : ℕ → ℕ → ℕ
millionths_of x all = min (short x * 1000000 / (all + 1)) 1000000

-- the share of all load that task k takes, and the share of all memory
abbrev pub load_share : Rows → State → ℕ → ℕ
load_share rows s k = millionths_of (get_or rows.load k 0) (sum_of s.load)

abbrev pub memory_share : Rows → State → ℕ → ℕ
memory_share rows s k = millionths_of (get_or rows.memory k 0) (sum_of s.memory)

-- the weight of each task: both shares together
unfoldable pub weights_of : Rows → State → List ℕ
weights_of rows s = column 24 24 (λ k. load_share rows s k + memory_share rows s k)

-- ---- how hard each task is to place

-- millionths of all processors in 32nds of one, and no more than eight processors
unfoldable pub scaled_of : ℕ → ℕ → ℕ
scaled_of part processors = min (part * processors * 32 / 1000000) 256

-- the larger share of task k, of the load or of the memory
unfoldable pub bulk_of : Rows → State → ℕ → ℕ → ℕ
bulk_of rows s processors k = max (scaled_of (load_share rows s k) processors) (scaled_of (memory_share rows s k) processors)

-- how much of its deadline a task works, in 16ths
unfoldable pub density_of : ℕ → ℕ → ℕ
density_of work deadline = cond (eqb deadline 0) 16 (min (work * 16 / deadline) 16)

-- a message as a share of the network in 32nds, and no more than 4,096: an amount is below 2^50, a capacity below 2^62
abbrev pub network_share : ℕ → ℕ → ℕ
network_share amount capacity = min (amount % 1125899906842624 * 32 / (capacity % 4611686018427387904 + 1)) 4096

-- the same, if the task sends or receives the message
unfoldable pub message_weight : ℕ → ℕ → ℕ → ℕ → ℕ → ℕ
message_weight from to task amount capacity = only (eqb from task || eqb to task) (network_share amount capacity)

-- all messages of the task
unfoldable pub messages_weight : Messages → ℕ → ℕ → ℕ → ℕ
messages_weight messages count capacity task =
    sum_to count (λ j. message_weight (get_or messages.sender j 0) (get_or messages.receiver j 0) task (get_or messages.amount j 0) capacity)

-- how hard task k is to place: 16, and 16 for each task that can never stand beside it, its bulk, its density, and its messages
unfoldable pub base_of : Timing → Rows → Messages → Sizes → State → ℕ → ℕ
base_of timing rows messages sizes s k =
    16 + 16 * strangers_of timing rows sizes s k
    + bulk_of rows s sizes.processors k
    + density_of (get_or timing.work k 0) (get_or timing.deadline k 0)
    + messages_weight messages sizes.messages s.traffic k

-- the same for each task
unfoldable pub bases_of : Timing → Rows → Messages → Sizes → State → List ℕ
bases_of timing rows messages sizes s = column 24 sizes.tasks (base_of timing rows messages sizes s)

-- ---- the rows

-- the rows of the tasks with the weights, the tasks by falling weight, and how hard each is to place
unfoldable pub ordered_of : Timing → Rows → Messages → Sizes → State → Rows
ordered_of timing rows messages sizes s =
    let weights = weights_of rows s in
    record rows { weight = weights; order = order_of weights weights; base = bases_of timing rows messages sizes s }
