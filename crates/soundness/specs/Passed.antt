-- What Check has passed, test by test: when it comes to a row, and when it accepts; and what the strict check has besides. Demand 3 rests on this
-- alone.
-- Inner: the theorem's proof cites it; no answer's definition and no statement does. Assumes nothing.
use Rattle.std.specs.Prelude.{ℕ, ◌+◌, ◌<◌, ◌≤◌, ◌≡◌, true, false, length, get_or}
use Rattle.answers.specs.Answer.{is_accepted}
use Rattle.rows.specs.declared.Graph.TheVariants.{Source, Target}
use Rattle.rows.specs.Tags.{either}
use Rattle.encoding.specs.Encoding.{bad_row, bad_bit}
use Rattle.rules.specs.Rule.{has_width}
use Rattle.lowering.specs.Tables.{read_count, call_count, read_good, call_good, read_classes, call_classes}
use Rattle.lowering.specs.Roots.{pair, leads, root_at, read_root, call_root}
use Rattle.lowering.specs.Lowering.{array_sorts, Lowering, source_rows, target_rows}
use Rattle.lowering.specs.Check.{source_ill, target_ill, widths_of_source, widths_of_target, no_classes, classes_of_reads, classes, answer_of}
use Rattle.lowering.specs.Check.{pairs_of_reads, pairs_of_calls, call_roots, roots_end}

-- when it comes to row n: both tables (5, 6), and the rows before it (4, 7 to 11)
pub record Reached (L : Lowering) (n : ℕ) : Type 0 where
  pub inside : n ≤ source_rows L
  pub reads : (k : ℕ) → k < read_count L.reads
      → read_good (array_sorts L) L.reads L.target.rows (widths_of_target L) (read_classes L.reads (no_classes L) k) k ≡ true
  pub calls : (k : ℕ) → k < call_count L.calls
      → call_good L.calls L.cargs L.target.rows (widths_of_target L) (call_classes L.calls (classes_of_reads L) k) k ≡ true
  pub rows : (i : ℕ) → i < n → is_accepted (answer_of L i) ≡ true

-- when it accepts: encoding (16, 17), form (1, 2), map (3), tables and rows, no dead entry (14), roots (12, 13)
pub record Passed (L : Lowering) : Type 0 where
  pub source-rows : source_rows L ≤ bad_row Source L.source.rows
  pub target-rows : target_rows L ≤ bad_row Target L.target.rows
  pub source-bits : length L.source.bits ≤ bad_bit L.source.bits
  pub target-bits : length L.target.bits ≤ bad_bit L.target.bits
  pub source-formed : source_rows L ≤ source_ill (array_sorts L) L.source
  pub target-formed : target_rows L ≤ target_ill L.target
  pub map-length : length L.map ≡ source_rows L
  pub reached : Reached L (source_rows L)
  pub live : (r : ℕ) → r < target_rows L → either (get_or (classes L (source_rows L)) r 0) 2 3 ≡ false
  pub leading : (k : ℕ) → k < length L.eroots → leads L.map L.eroots L.troots k ≡ true
  pub read-roots : (q : ℕ) → q < length (pairs_of_reads L)
      → root_at L.troots (read_root L.reads L.target.rows) (length L.eroots + q) (get_or (pairs_of_reads L) q (pair 0 0)) ≡ true
  pub call-roots : (q : ℕ) → q < length (pairs_of_calls L)
      → root_at L.troots (call_root L.calls L.cargs L.target.rows) (call_roots L + q) (get_or (pairs_of_calls L) q (pair 0 0)) ≡ true
  pub roots-end : length L.troots ≡ roots_end L

-- when the strict check accepts, besides: every root is a row of one bit (19)
pub record OneBit (L : Lowering) : Type 0 where
  pub source-roots : (k : ℕ) → k < length L.eroots → has_width (widths_of_source L) (get_or L.eroots k 0) 1 ≡ true
  pub target-roots : (k : ℕ) → k < length L.troots → has_width (widths_of_target L) (get_or L.troots k 0) 1 ≡ true
