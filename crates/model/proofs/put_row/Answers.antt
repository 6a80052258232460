use Prim.Native.Nat.{◌*◌}
use Rattle.model.proofs.Parts.{row_put}
use Rattle.model.proofs.put_row.Goals as goal
use Rattle.model.specs.declared.layout.TheConstants.{ROW}

pub returns : goal.returns
returns c = row_put c.args.rows.now (c.args.i * ROW) c.args.r _ _ _ _ _ _ _ c.bit.ensures c.bit-2.ensures c.bit-3.ensures c.bit-4.ensures c.bit-5.ensures c.relation_word.ensures c.bit-6.ensures c.copy_words.ensures
