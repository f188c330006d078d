-- The two tables and the classes that they give (01, 'Rows', 'How a row is matched' and the refusals 5 and 6). Assumes nothing.
use Rattle.std.specs.Prelude.{ℕ, ◌+◌, ◌-◌, ◌*◌, ◌/◌, Bool, not, List, [], ◌∷◌, eqb, ltb, leb, length, get_or}
use Rattle.sorts.specs.Sorts.{Sorts}
use Rattle.lists.specs.First.{first, none}
use Rattle.lists.specs.Tests.{all, agree}
use Rattle.lists.specs.Trace.{marks}
use Rattle.rows.specs.declared.Graph.TheVariants.{Target}
use Rattle.rows.specs.declared.Node.TheVariants.{Var}
use Rattle.rows.specs.Row.{row_count, row_at}
use Rattle.rows.specs.Tags.{t_var}
use Rattle.rules.specs.Rule.{has_width}
use Rattle.lowering.specs.Images.{row_is}

-- a table has entries of `stride` words, and a cut entry counts as one; the first word of an entry is its variable's row
abbrev pub entry_count : ℕ → List ℕ → ℕ
entry_count stride table = (length table + (stride - 1)) / stride

abbrev pub entry_var : ℕ → List ℕ → ℕ → ℕ
entry_var stride table k = get_or table (k * stride) 0

-- "reads in threes (variable row, array, index row)"
abbrev pub read_count : List ℕ → ℕ
read_count reads = entry_count 3 reads

abbrev pub read_var : List ℕ → ℕ → ℕ
read_var reads k = entry_var 3 reads k

abbrev pub read_array : List ℕ → ℕ → ℕ
read_array reads k = get_or reads (k * 3 + 1) 0

abbrev pub read_index : List ℕ → ℕ → ℕ
read_index reads k = get_or reads (k * 3 + 2) 0

-- "calls in fours (variable row, function, start in the argument list, count)"
abbrev pub call_count : List ℕ → ℕ
call_count calls = entry_count 4 calls

abbrev pub call_var : List ℕ → ℕ → ℕ
call_var calls k = entry_var 4 calls k

abbrev pub call_function : List ℕ → ℕ → ℕ
call_function calls k = get_or calls (k * 4 + 1) 0

abbrev pub call_start : List ℕ → ℕ → ℕ
call_start calls k = get_or calls (k * 4 + 2) 0

abbrev pub arg_count : List ℕ → ℕ → ℕ
arg_count calls k = get_or calls (k * 4 + 3) 0

abbrev pub call_arg : List ℕ → List ℕ → ℕ → ℕ → ℕ
call_arg calls cargs k l = get_or cargs (call_start calls k + l) 0

-- "the same key again"
unfoldable pub same_read : List ℕ → ℕ → ℕ → Bool
same_read reads k l = all (eqb (read_array reads k) (read_array reads l) ∷ eqb (read_index reads k) (read_index reads l) ∷ [])

-- the widths of a call, ws being the target's: of its result, which is its variable's row, and of its arguments
abbrev pub result_width : List ℕ → List ℕ → ℕ → ℕ
result_width calls ws k = get_or ws (call_var calls k) 0

abbrev pub arg_width : List ℕ → List ℕ → List ℕ → ℕ → ℕ → ℕ
arg_width calls cargs ws k l = get_or ws (call_arg calls cargs k l) 0

-- "Two calls are now of one function only when number, count, argument widths and result width all agree" (02, 2.7)
unfoldable pub same_function : List ℕ → List ℕ → List ℕ → ℕ → ℕ → Bool
same_function calls cargs ws k l =
    all
    (eqb (call_function calls k) (call_function calls l)
    ∷ eqb (arg_count calls k) (arg_count calls l)
    ∷ eqb (result_width calls ws k) (result_width calls ws l)
    ∷ agree (arg_width calls cargs ws k) (arg_width calls cargs ws l) (arg_count calls l)
    ∷ [])

unfoldable pub same_call : List ℕ → List ℕ → List ℕ → ℕ → ℕ → Bool
same_call calls cargs ws k l =
    all (same_function calls cargs ws k l ∷ agree (call_arg calls cargs k) (call_arg calls cargs l) (arg_count calls l) ∷ [])

-- 5 and 6: "a cut entry, a variable that is no free Var (width 8 for reads)", or one of the table's own tests. A variable is free in class 0;
-- is_var tests its row, cls are the classes after the entries before
abbrev pub entry_good : ℕ → (List ℕ → Bool) → List ℕ → List ℕ → List ℕ → ℕ → List Bool → Bool
entry_good stride is_var table target cls k own =
    all
    (leb (k * stride + stride) (length table)
    ∷ ltb (entry_var stride table k) (row_count Target target)
    ∷ is_var (row_at Target target (entry_var stride table k))
    ∷ eqb (get_or cls (entry_var stride table k) 0) 0
    ∷ own)

-- 5: "index .. out of range, index width not 32, or the same key again", where 32 and the variable's 8 are the array's widths; ws are the target's
-- widths, σ the sorts. An array without a sort has a cell width of 0, which no Var of a well-formed target has: "a read entry that names one is
-- refused by 5" (02, 2.9)
unfoldable pub read_good : Sorts → List ℕ → List ℕ → List ℕ → List ℕ → ℕ → Bool
read_good σ reads target ws cls k =
    entry_good 3 (λ r. row_is r (Var (σ.cell (read_array reads k)))) reads target cls k
    (has_width ws (read_index reads k) (σ.index (read_array reads k))
    ∷ none (λ l. same_read reads l k) k
    ∷ [])

-- 6: the arguments lie in the argument list, also the start of none, and are rows of the target; no key comes again
unfoldable pub call_good : List ℕ → List ℕ → List ℕ → List ℕ → List ℕ → ℕ → Bool
call_good calls cargs target ws cls k =
    entry_good 4 (λ r. eqb (get_or r 0 0) t_var) calls target cls k
    (leb (call_start calls k + arg_count calls k) (length cargs)
    ∷ none (λ l. leb (row_count Target target) (call_arg calls cargs k l)) (arg_count calls k)
    ∷ none (λ l. same_call calls cargs ws l k) k
    ∷ [])

-- the walk over a table: each entry gives its variable a class, and its "word offset in its table"; the lists after n entries
abbrev pub table_classes : ℕ → ℕ → List ℕ → List ℕ → ℕ → List ℕ
table_classes stride class table cls n = marks (entry_var stride table) (λ k. class) cls n

abbrev pub table_offsets : ℕ → List ℕ → List ℕ → ℕ → List ℕ
table_offsets stride table ent n = marks (entry_var stride table) (λ k. k * stride) ent n

-- the first bad entry, or the number of entries: each is tested with the classes after the entries before
abbrev pub bad_entry : ℕ → ℕ → (List ℕ → ℕ → Bool) → List ℕ → List ℕ → ℕ
bad_entry stride class good table cls = first (λ k. not (good (table_classes stride class table cls k) k)) (entry_count stride table)

-- "read entries make their variable's 2, call entries 3"
abbrev pub read_classes : List ℕ → List ℕ → ℕ → List ℕ
read_classes reads cls n = table_classes 3 2 reads cls n

abbrev pub call_classes : List ℕ → List ℕ → ℕ → List ℕ
call_classes calls cls n = table_classes 4 3 calls cls n

abbrev pub read_offsets : List ℕ → List ℕ → ℕ → List ℕ
read_offsets reads ent n = table_offsets 3 reads ent n

abbrev pub call_offsets : List ℕ → List ℕ → ℕ → List ℕ
call_offsets calls ent n = table_offsets 4 calls ent n

abbrev pub bad_read : Sorts → List ℕ → List ℕ → List ℕ → List ℕ → ℕ
bad_read σ reads target ws cls = bad_entry 3 2 (read_good σ reads target ws) reads cls

abbrev pub bad_call : List ℕ → List ℕ → List ℕ → List ℕ → List ℕ → ℕ
bad_call calls cargs target ws cls = bad_entry 4 3 (call_good calls cargs target ws) calls cls
