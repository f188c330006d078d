-- The digits that the library prints, and a byte behind them. Assumes nothing.
use Rattle.std.proofs.Common.{◌<◌, ◌≡◌, length, sym, ◌∙◌, append_assoc, add-one, arith}
use Rattle.std.proofs.Math.Seq.{take-suc-set}
use Rattle.line.specs.Line.{decimal}
use Rattle.line.proofs.Line.{decimal-printed}
use Rattle.line.proofs.put_number.Goals as goal

pub returns-clause-front : goal.returns-clause-front
returns-clause-front c =
    let h : c.put-end.result < length c.put-end.new.out = omega arith in
    let e : c.as_bytes.result.now ≡ decimal c.args.n =
    c.as_bytes.ensures.value ∙ c.format.ensures.text ∙ sym (decimal-printed c.args.n c.ranges.n.fits) in
    rw (add-one c.put-end.result) (take-suc-set c.put-end.new.out c.put-end.result c.args.last h
    ∙ rw (c.put-end.ensures.front, e, append_assoc))
