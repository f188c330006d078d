-- What Check is asked, from the lists that are lent: what the references show.
-- Inner: contracts within the code cite it; no answer's definition does. Assumes nothing.
use Rattle.sorts.specs.Sorts.{edition_given}
use Rattle.lowering.specs.declared.Asked.{Asked}
use Rattle.lowering.specs.Lowering.{Lowering, lowering_in}

abbrev pub lowering_of : Asked → Lowering
lowering_of a =
    lowering_in (edition_given a.sorts) a.source.rows.now a.source.bits.now a.source.side.now a.eroots.now a.map.now a.reads.now a.calls.now
    a.cargs.now a.target.rows.now a.target.bits.now a.troots.now
