use Rattle.std.proofs.Common.{length, ◌-◌, arith}
use Rattle.store_format.proofs.SumPlaces.{both_put}
use Rattle.store_format.proofs.batch_writing.put_both.Goals as goal

pub returns : goal.returns
returns c = both_put (length c.put_sum.new.bytes - 8) c.put_sum.new.bytes c.put_sum-2.new.bytes c.args.first.now c.args.second.now c.args.bytes.now c.told-first (omega arith) c.put_sum.ensures c.put_sum-2.ensures
