-- A good book's section lies within the book. Assumes nothing.
use Rattle.std.proofs.Common.{◌≤◌, length}
use Rattle.book.proofs.Shape.{good_book}
use Rattle.book.proofs.body.Goals as goal

pub end_of-end-requires-clause-i_in_bounds : goal.end_of-end-requires-clause-i_in_bounds
end_of-end-requires-clause-i_in_bounds c = ((good_book c.args.book.bytes.now c.args.book.good).each _ c.requires).within

pub slice_bounds-result-end : goal.slice_bounds-result-end
slice_bounds-result-end c =
    let b = c.args.book.bytes.now in
    let h : c.end_of-end.result ≤ length b = rw c.end_of-end.ensures.value ((good_book b c.args.book.good).each _ c.requires).within in
    h
