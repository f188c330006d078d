-- The words so far and what is left of the line give the same words. Assumes nothing.
use Rattle.std.proofs.Common.{◌≡◌, ◌-◌, ◌≤◌, length, take}
use Rattle.text.specs.Line.{words_from, words_in}
use Rattle.text.proofs.read_line.Given as goal

abbrev pub invariant-loop-n : goal.invariant-loop-n
invariant-loop-n l = record {
  inside : l.at ≤ length l.line;
  same : words_in (length l.initial.out) l.line ≡ words_from (length l.initial.out - l.n) l.line l.at (take l.n l.out);
}
