-- What a call of a stream moves that reports no bytes.
use Rattle.std.proofs.Common.{◌≤◌, ◌<◌, ℕ, List, length, None, arith}
use Rattle.serve_places.specs.Streams.{MovesBytes, TakesBytes}

pub moves : (buffer : List ℕ) (n : ℕ) → n ≤ length buffer → 0 < n → MovesBytes None None buffer n
moves buffer n fits some = record { fits = fits; some = some; moved = tt }

pub takes : (bytes : List ℕ) (n : ℕ) → n ≤ length bytes → TakesBytes None None bytes n
takes bytes n fits = record { fits = fits; appended = tt }

pub takes_none : (bytes : List ℕ) → TakesBytes None None bytes 0
takes_none bytes = record { fits = omega arith; appended = tt }
