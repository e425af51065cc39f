use Rattle.std.proofs.Common.{◌≡◌, ◌≤◌, ltb, false, length, drop, refl}
use Rattle.std.proofs.lemmas.List.{take_rest, drop-drop}
use Rattle.std.proofs.lemmas.Bool.{le-ltb}
use Rattle.wire_words.specs.Reading.{pair_at}
use Rattle.wire_words.proofs.words.Words.u32_pair.Goals as goal

pub returns-clause-exact : goal.returns-clause-exact
unfolding pair_at
returns-clause-exact c =
    let rest = take_rest c.self.inside.body.now c.self.inside.place in
    let room : 8 ≤ length (drop c.self.inside.place c.self.inside.body.now) = rw rest at c.if-left-lt8.false in
    let long : ltb (length (drop c.self.inside.place c.self.inside.body.now)) 8 ≡ false = le-ltb _ _ room in
    let numbers = rw rest at c.two_numbers-numbers.ensures in
    rw (← c.self.view_is, long, numbers, drop-drop 8 c.self.inside.place c.self.inside.body.now) refl
