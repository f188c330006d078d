-- The answer to the tables, refusal by refusal. Assumes nothing.
use Prim.Native.Nat.{ℕ, ◌<◌, ◌≤◌}
use mathlib.Core.Path.{◌≡◌}
use mathlib.Core.Bool.{not}
use mathlib.Core.List.{List}
use borrow.Author.Tests.{lt-ltb, le-ltb}
use Rattle.sorts.specs.Sorts.{Sorts}
use Rattle.answers.specs.Answer.{Answer}
use Rattle.answers.specs.Answer.{Accepted, ReadTable, CallTable}
use Rattle.lists.proofs.First.{first-all}
use Rattle.lowering.specs.Tables.{read_count, call_count, read_good, call_good, read_classes, call_classes, bad_read, bad_call}
use Rattle.lowering.specs.Lowering.{Entries}
use Rattle.lowering.specs.Check.{first_refusal, table_answers}

-- a table without a bad entry
pub all-reads : (σ : Sorts) (reads t ws cls : List ℕ) → read_count reads ≤ bad_read σ reads t ws cls → bad_read σ reads t ws cls ≡ read_count reads
all-reads σ reads t ws cls h = first-all (λ k. not (read_good σ reads t ws (read_classes reads cls k) k)) (read_count reads) h

pub all-calls : (calls cargs t ws cls : List ℕ) → call_count calls ≤ bad_call calls cargs t ws cls → bad_call calls cargs t ws cls ≡ call_count calls
all-calls calls cargs t ws cls h = first-all (λ k. not (call_good calls cargs t ws (call_classes calls cls k) k)) (call_count calls) h

module _ (σ : Sorts) (E : Entries) (t ws cls : List ℕ) where
  abbrev answer : Answer
  answer = first_refusal (table_answers σ E t ws cls)

  abbrev after : List ℕ
  after = read_classes E.reads cls (read_count E.reads)

  pub read-5 : bad_read σ E.reads t ws cls < read_count E.reads → answer ≡ ReadTable (bad_read σ E.reads t ws cls)
  unfolding first_refusal
  read-5 h = rw (lt-ltb _ _ h)

  module _ (a : read_count E.reads ≤ bad_read σ E.reads t ws cls) where
    pub call-6 : bad_call E.calls E.cargs t ws after < call_count E.calls → answer ≡ CallTable (bad_call E.calls E.cargs t ws after)
    unfolding first_refusal
    call-6 h = rw (le-ltb _ _ a, lt-ltb _ _ h)

    pub tables-good : call_count E.calls ≤ bad_call E.calls E.cargs t ws after → answer ≡ Accepted
    unfolding first_refusal
    tables-good b = rw (le-ltb _ _ a, le-ltb _ _ b)
