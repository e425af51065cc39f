use Rattle.std.proofs.Common.{◌<◌, [], ◌∷◌, ◌++◌, sym, ap, ◌∙◌, subst}
use Rattle.segment_store.specs.Open.{Open}
use Rattle.segment_store.proofs.Listing.{digits_begun}
use Rattle.segment_store.proofs.store.Store.note_begun.Goals as goal

pub invariant_of-self : goal.invariant_of-self
invariant_of-self c =
    let s = c.self.inside in
    digits_begun s.next s.segments.items s.snapshots.items c.args.segments.items c.self.invariant
    (subst (λ (o : Open). o.next < 10000000000000000) (sym c.self.view_is) c.requires.digits)
    (c.requires.listed ∙ sym (ap (λ (o : Open). o.segments ++ o.next ∷ []) c.self.view_is))
