-- What is read of the segments, one after another.
use Rattle.std.specs.Prelude.{◌≡◌, ◌<◌, ℕ, Bool, false, cond, ◌||◌, ◌&&◌, ◌==◌, nat_lt, not, List, [], ◌∷◌, length, Option, Some, None, is_some}
use Rattle.store_laws.specs.Names.{NodeFiles}
use Rattle.store_laws.specs.Store.{Format, Log, empty_log, log_of, batches_in, has_any, segments, sound, all_batches}
use Rattle.store_laws.specs.Chance.{Lawful}
use Rattle.store_laws.specs.Damage.{Numbered, numbered, good_end, damage}
use Rattle.store_laws.specs.Settled.{file_log}
use Rattle.store_format.specs.declared.segment_log.Damage.{Damage}
use Rattle.store_format.specs.declared.segment_log.LastSegment.{LastSegment}

-- the log that the batches make, whether there was any batch, the first damage, and the last segment
pub record SegmentsRead : Type 0 where
  pub log : Log
  pub any : Bool
  pub damage : Option Damage
  pub last : Option LastSegment

abbrev pub none_read : SegmentsRead
none_read = record { log = empty_log; any = false; damage = None; last = None }

-- a segment reads to its end
abbrev pub reads_whole : LastSegment → Bool
reads_whole x = nat_lt 0 x.good && (x.good == x.size)

-- a segment that another one follows is damaged where it doesn't read to its end
abbrev pub damage_before : Option Damage → Option LastSegment → Option Damage
damage_before (Some d) last = Some d
damage_before None None = None
damage_before None (Some x) = cond (reads_whole x) None (Some (record { segment = x.number; at = x.good }))

-- numbers of segments have sixteen digits
abbrev pub FitsNumber : Option LastSegment → Type 0
FitsNumber None = Unit {0}
FitsNumber (Some x) = x.number < 10000000000000000

abbrev pub last_of : Format → Numbered → LastSegment
last_of f x = record { number = x.number; size = length x.bytes; good = good_end f x.bytes }

-- one segment more
unfoldable pub with_segment : Format → Numbered → SegmentsRead → SegmentsRead
with_segment f x s = record {
  log = log_of s.log (batches_in f x.bytes);
  any = s.any || has_any (batches_in f x.bytes);
  damage = damage_before s.damage s.last;
  last = Some (last_of f x);
}

-- all of them, in turn
unfoldable pub all_read : Format → SegmentsRead → List Numbered → SegmentsRead
all_read f s [] = s
all_read f s (x ∷ xs) = all_read f (with_segment f x s) xs

-- the place of a damage, as the laws have it
abbrev pub place_of : Option Damage → Option (ℕ × ℕ)
place_of None = None
place_of (Some d) = Some (d.segment, d.at)

-- the last of a list of segments
abbrev pub last_in : Format → List Numbered → Option LastSegment
last_in f [] = None
last_in f (x ∷ []) = Some (last_of f x)
last_in f (x ∷ y ∷ rest) = last_in f (y ∷ rest)

-- what is read of all segments below a number is what their files represent
pub record IsRead (f : Format) (top : ℕ) (g : NodeFiles) (s : SegmentsRead) : Type 0 where
  pub log : s.log ≡ file_log f top g
  pub any : s.any ≡ has_any (all_batches f (segments top g))
  pub damage : place_of s.damage ≡ damage f top g
  pub sound : sound f (segments top g) ≡ not (is_some s.damage)
  pub last : s.last ≡ last_in f (numbered top g)

abbrev pub SegmentsAreRead : Type 0
SegmentsAreRead = (f : Format) → Lawful f → (top : ℕ) (g : NodeFiles) → IsRead f top g (all_read f none_read (numbered top g))
