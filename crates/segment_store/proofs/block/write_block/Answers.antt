use Rattle.segment_store.proofs.BlockCalls.{ran_none, ran_over, ran_there}
use Rattle.segment_store.proofs.CountedCalls.{counts_as, block_none, block_over, block_there}
use Rattle.segment_store.proofs.block.write_block.Goals as goal

pub returns-in-None-clause-ran : goal.returns-in-None-clause-ran
returns-in-None-clause-ran g c = λ known. ran_none c.args.name.now c.args.block.now _ _ c.replace.result c.args.size c.in-None.is (c.replace.ensures.ran known)

pub returns-in-Some-clause-ran : goal.returns-in-Some-clause-ran
returns-in-Some-clause-ran g c = λ known. ran_over c.args.name.now c.args.block.now _ _ c.write_over.result c.args.size c.in-Some.size c.in-Some.is c.if-size-gt-BLOCK.true (c.write_over.ensures.ran known)

pub returns-in-Some-2-clause-ran : goal.returns-in-Some-2-clause-ran
returns-in-Some-2-clause-ran g c = λ known. ran_there c.args.name.now c.args.block.now _ _ c.replace-in-Some-2.result c.args.size c.in-Some.size c.in-Some.is c.if-size-gt-BLOCK.false (c.replace-in-Some-2.ensures.ran known)

pub returns-in-None-clause-count : goal.returns-in-None-clause-count
returns-in-None-clause-count g c = counts_as 3 _ _ _ c.replace.result (block_none c.args.size c.in-None.is) c.replace.ensures.count

pub returns-in-Some-clause-count : goal.returns-in-Some-clause-count
returns-in-Some-clause-count g c = counts_as 4 _ _ _ c.write_over.result (block_over c.args.size c.in-Some.size c.in-Some.is c.if-size-gt-BLOCK.true) c.write_over.ensures.count

pub returns-in-Some-2-clause-count : goal.returns-in-Some-2-clause-count
returns-in-Some-2-clause-count g c = counts_as 2 _ _ _ c.replace-in-Some-2.result (block_there c.args.size c.in-Some.size c.in-Some.is c.if-size-gt-BLOCK.false) c.replace-in-Some-2.ensures.count
