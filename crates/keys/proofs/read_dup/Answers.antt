-- The key at an entry's offset is the entry's. Assumes nothing.
use Prim.Native.Nat.{◌*◌}
use mathlib.Core.Path.{◌≡◌, ◌∙◌, refl}
use Rattle.std.proofs.Common.{rules}
use Rattle.lowering.specs.Tables.{same_read, read_array, read_index}
use Rattle.keys.specs.Keys.{read_is}
use Rattle.keys.proofs.Keys.{same-read-at}
use Rattle.keys.proofs.read_dup.Goals as goal

pub returns : goal.returns
returns c = record {
  test =
      let s = c.args in
      c.found_before.ensures.test (λ i. same_read s.reads.now i s.k)
      (λ l b h e.
      let key : b ≡ read_is s.reads.now (l * 3) (read_array s.reads.now s.k) (read_index s.reads.now s.k) = search rules in
      key ∙ same-read-at s.reads.now (l * 3) l s.k refl);
}
