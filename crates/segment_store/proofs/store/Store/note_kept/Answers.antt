use Rattle.std.proofs.Common.{◌<◌, [], ◌∷◌, sym, ap, ◌∙◌, subst}
use Rattle.segment_store.specs.Open.{Open}
use Rattle.segment_store.specs.Keeping.{later_than}
use Rattle.segment_store.proofs.KeepStore.{digits_kept}
use Rattle.segment_store.proofs.store.Store.note_kept.Goals as goal

pub invariant_of-self : goal.invariant_of-self
invariant_of-self c =
    let s = c.self.inside in
    digits_kept s.next c.args.index s.segments.items s.snapshots.items c.args.segments.items c.args.snapshots.items c.self.invariant
    (subst (λ (o : Open). o.next < 10000000000000000) (sym c.self.view_is) c.requires.number) c.requires.index
    (c.requires.segments ∙ sym (ap (λ (o : Open). o.next ∷ []) c.self.view_is))
    (c.requires.snapshots ∙ sym (ap (λ (o : Open). c.args.index ∷ later_than c.args.index o.snapshots) c.self.view_is))
