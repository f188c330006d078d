-- What the two tables differ in, and the parts of what makes an entry good.
-- Inner: contracts within the code cite it; no answer's definition does. Assumes nothing.
use Rattle.std.specs.Prelude.{ℕ, ◌+◌, Bool, List, [], ◌∷◌, eqb, ltb, leb, length, get_or}
use Rattle.lists.specs.First.{none}
use Rattle.lists.specs.Tests.{all}
use Rattle.sorts.specs.declared.Sort.{Sort}
use Rattle.sorts.specs.Sorts.{edition_given, sorts_of}
use Rattle.sorts.specs.Good.{Good}
use Rattle.rows.specs.declared.Graph.TheVariants.{Target}
use Rattle.rows.specs.declared.Node.TheVariants.{Var}
use Rattle.rows.specs.Row.{row_count, row_at}
use Rattle.rows.specs.Tags.{t_var}
use Rattle.rules.specs.Rule.{has_width}
use Rattle.lowering.specs.Images.{row_is}
use Rattle.lowering.specs.Tables.{read_array, read_index, call_start, arg_count, call_arg, same_read, same_call, read_good, call_good}
use Rattle.keys.specs.Keys.{ArgsInside}
use Rattle.entries.specs.declared.Table.{Table}
use Rattle.entries.specs.declared.Table.TheVariants.{Reads, Calls}

-- the words of an entry
abbrev pub stride : Table → ℕ
stride (Reads _) = 3
stride (Calls _) = 4

-- The sort of a read entry's array: the width of its index, and of its variable, which is a cell's; an entry of calls has none
abbrev pub sort_in : Table → List ℕ → ℕ → Sort
sort_in (Reads sorts) table k =
    let σ = sorts_of (edition_given sorts) in
    record { index = σ.index (read_array table k); cell = σ.cell (read_array table k) }
sort_in (Calls _) table k = record { index = 0; cell = 0 }

-- "no free Var (width 8 for reads)", where 8 is the array's cell width cw: the row of an entry's variable; such a row in class 0
abbrev pub is_var : Table → ℕ → List ℕ → Bool
is_var (Reads _) cw r = row_is r (Var cw)
is_var (Calls _) cw r = eqb (get_or r 0 0) t_var

abbrev pub free : Table → ℕ → List ℕ → List ℕ → ℕ → Bool
free which cw target cls v = all (ltb v (row_count Target target) ∷ is_var which cw (row_at Target target v) ∷ eqb (get_or cls v 0) 0 ∷ [])

-- k arguments from s on lie in the list and are below n
abbrev pub args_in : List ℕ → ℕ → ℕ → ℕ → Bool
args_in cargs s k n = all (leb (s + k) (length cargs) ∷ none (λ l. leb n (get_or cargs (s + l) 0)) k ∷ [])

-- a table's own tests of entry k; n is the number of target rows, ws are their widths, iw is the index width of a read entry's array
abbrev pub read_own : ℕ → List ℕ → List ℕ → ℕ → List Bool
read_own iw reads ws k = has_width ws (read_index reads k) iw ∷ none (λ l. same_read reads l k) k ∷ []

abbrev pub call_own : List ℕ → List ℕ → List ℕ → ℕ → ℕ → List Bool
call_own calls cargs ws n k =
    leb (call_start calls k + arg_count calls k) (length cargs)
    ∷ none (λ l. leb n (call_arg calls cargs k l)) (arg_count calls k)
    ∷ none (λ l. same_call calls cargs ws l k) k
    ∷ []

abbrev pub own : Table → ℕ → List ℕ → List ℕ → ℕ → ℕ → List Bool
own (Reads _) iw table ws n k = read_own iw table ws k
own (Calls args) iw table ws n k = call_own table args.now ws n k

-- entry k is good, with the classes after the entries before
abbrev pub good : Table → List ℕ → List ℕ → List ℕ → List ℕ → ℕ → Bool
good (Reads sorts) table target ws cls k = read_good (sorts_of (edition_given sorts)) table target ws cls k
good (Calls args) table target ws cls k = call_good table args.now target ws cls k

-- where reads are looked at, the table of sorts is good
abbrev pub Sorted : Table → Type 0
Sorted (Reads sorts) = Good (edition_given sorts)
Sorted (Calls _) = Unit {0}

-- where calls are searched, the arguments of the entries before k lie in the argument list
abbrev pub ArgsBefore : Table → List ℕ → ℕ → Type 0
ArgsBefore (Reads _) table k = Unit {0}
ArgsBefore (Calls args) table k = ArgsInside table args.now k
