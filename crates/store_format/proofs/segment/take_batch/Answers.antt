use Rattle.std.proofs.Common.{◌≡◌, ◌≤◌, ◌-◌, length, take, drop, arith, length-drop}
use Rattle.std.proofs.lemmas.List.{length-take-le}
use Rattle.store_format.specs.Batches.{batch_in}
use Rattle.store_format.proofs.BatchesLawful.{is_lawful}
use Rattle.store_format.proofs.Runs.{found_size}
use Rattle.store_format.proofs.segment.take_batch.Goals as goal

pub overflow_add-place : goal.overflow_add-place
overflow_add-place c =
    let bytes = c.args.bytes.now in
    let place = c.args.place.now in
    let rest = take (length bytes - place) (drop place bytes) in
    let size : (batch_in c.args.format rest).size ≤ length rest = (is_lawful.batches c.args.format).size_within rest in
    let left : length (drop place bytes) ≡ length bytes - place = length-drop place bytes in
    let long : length rest ≡ length bytes - place = length-take-le (length bytes - place) (drop place bytes) (omega (arith, left)) in
    let is : (batch_in c.args.format rest).size ≡ c.in-Some.batch.size = found_size c.in_ok-batch.field-0 c.in-Some.batch (batch_in c.args.format rest) c.in_ok-batch.ensures.found c.in-Some.is in
    omega (arith, size, long, is, c.requires)
