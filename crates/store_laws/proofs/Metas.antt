-- What a metadata file reads as at each moment of a write to it.
use Rattle.std.proofs.Common.{◌≡◌, ◌≢◌, ⊎_elim, ℕ, ◌≤◌, Bool, List, [], length, take, drop, sym, ap, ◌∙◌, subst, arith}
use Rattle.std.proofs.lemmas.List.{take_all}
use Rattle.std.proofs.lemmas.Bool.{cases_eq}
use Rattle.disk_model.specs.Disk.{Found, found, missing, Change, Held, LeavesFile}
use Rattle.disk_model.specs.Calls.{after_write}
use Rattle.store_laws.specs.Store.{Format, Meta, no_meta}
use Rattle.store_laws.specs.Chance.{Lawful, MetaGenuine}
use Rattle.disk_model.specs.Genuine.{WasWritten}
use Rattle.disk_model.specs.Rest.{Rest}
use Rattle.disk_model.proofs.Rests.{rest_only, synced_or_not}

-- a read gives nothing, what was there, or what was written
pub data Three (m old new : Meta) : Type 0 where
  none : m ≡ no_meta → Three m old new
  before : m ≡ old → Three m old new
  after : m ≡ new → Three m old new

module _ (f : Format) (law : Lawful f) (side : Bool) (h : Held) (r : Found) (rest : Rest h r) (short : length r.bytes ≤ 40) (enc : List ℕ) (long : length enc ≡ 40) where
  abbrev Reads : Found → Type 0
  Reads x = Three (f.meta side x.bytes) (f.meta side r.bytes) (f.meta side enc)

  pub at_rest : (x : Found) → LeavesFile h x → Reads x
  at_rest x left = before (ap (λ (y : Found). f.meta side y.bytes) (rest_only h r x rest left))

  pub at_written : (x : Found) → MetaGenuine f side (after_write 0 enc h) x.bytes → Reads x
  at_written x fair = ⊎_elim (λ z. none (law.meta_none side x.bytes z)) reads (cases_eq (f.meta side x.bytes).stamp 0)
    where
      reads : (f.meta side x.bytes).stamp ≢ 0 → Reads x
      reads ne =
          let size : length x.bytes ≡ 40 = law.meta_long side x.bytes ne in
          let fits : length h.bytes ≤ length x.bytes = omega (arith, ap length rest.bytes) in
          let fits_enc : length enc ≤ length x.bytes = omega arith in
          let stood = λ (e : take (length x.bytes) (drop 0 h.bytes) ≡ x.bytes). before (ap (f.meta side) (sym e ∙ take_all (length x.bytes) h.bytes fits ∙ rest.bytes)) in
          let wrote = λ (e : take (length x.bytes) (drop 0 enc) ≡ x.bytes). after (ap (f.meta side) (sym e ∙ take_all (length x.bytes) enc fits_enc)) in
          let none_before = λ (w : WasWritten h.since 0 x.bytes).
          absurd (subst (λ (s : List Change). WasWritten s 0 x.bytes) rest.since w) in
          ⊎_elim stood (λ w. ⊎_elim (λ p. wrote p.1) none_before w) (fair.whole ne).why

  pub at_synced : (k : Held) (x : Found) → k.since ≡ [] → k.bytes ≡ enc → LeavesFile k x → Reads x
  at_synced k x s b left =
      let gone = λ (e : x ≡ missing). none (law.meta_none side x.bytes (ap (λ (y : Found). (f.meta side y.bytes).stamp) e ∙ law.meta_nil side)) in
      let here = λ (e : x ≡ found k.bytes). after (ap (λ (y : Found). f.meta side y.bytes) e ∙ ap (f.meta side) b) in
      ⊎_elim gone here (synced_or_not k x s left)
