-- The values of a target graph's rows under an assignment of its variables: rows in order, each from the values before it
-- (01, 'Meaning'). Assumes nothing.
use Rattle.std.specs.Prelude.{ℕ, ◌<◌, ◌^◌, ◌≡◌, cond, List, map, eqb, get_or}
use Rattle.lists.specs.Build.{build}
use Rattle.rows.specs.declared.Graph.TheVariants.{Target}
use Rattle.rows.specs.declared.Node.{Node}
use Rattle.rows.specs.declared.Node.TheVariants.{Var}
use Rattle.rows.specs.Row.{row_count, row_at}
use Rattle.rows.specs.Node.{node_of, operands}
use Rattle.rows.specs.Tags.{t_var}
use Rattle.value.specs.Val.{Val, val, nat}
use Rattle.value.specs.Operate.{operate, tag_of, parameters}

-- a core node's value: its operator applied to the values of its operands, which `look` gives
abbrev pub core_value : List ℕ → (ℕ → Val) → Node → Val
core_value bits look node = operate (tag_of node) (parameters bits node) (map look (operands node))

-- the value of row i: a variable has the number given for its row, at its width
abbrev pub node_value : List ℕ → (ℕ → ℕ) → (ℕ → Val) → ℕ → Node → Val
node_value bits given look i node =
    cond (eqb (tag_of node) t_var) (val (get_or (parameters bits node) 0 0) (given i)) (core_value bits look node)

abbrev pub row_value : List ℕ → (ℕ → ℕ) → List ℕ → ℕ → List Val → Val
row_value bits given g i vs = node_value bits given (λ a. get_or vs a (val 0 0)) i (node_of (row_at Target g i))

-- the values of the first n rows
abbrev pub values_to : List ℕ → (ℕ → ℕ) → List ℕ → ℕ → List Val
values_to bits given g n = build (row_value bits given g) n

abbrev pub value : List ℕ → (ℕ → ℕ) → List ℕ → ℕ → Val
value bits given g i = get_or (values_to bits given g (row_count Target g)) i (val 0 0)

-- the numbers of the first n rows, with the words given for the variables
abbrev pub numbers_to : List ℕ → List ℕ → List ℕ → ℕ → List ℕ
numbers_to g bits given n = map nat (values_to bits (λ i. get_or given i 0) g n)

-- an assignment gives each variable a number below 2 ^ width
abbrev pub Assigns : (ℕ → ℕ) → List ℕ → Type 0
Assigns given g = (i w : ℕ) → i < row_count Target g → node_of (row_at Target g i) ≡ Var w → given i < 2 ^ w
