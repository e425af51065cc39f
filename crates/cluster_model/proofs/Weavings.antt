-- All logs are woven, at all times and in the midst of each event, and so are the chosen entries.
use Rattle.std.proofs.Common.{ℕ, true, List, [], ◌∷◌, ◌++◌, take, drop, sym, ap, ◌∙◌, subst, take-append-drop}
use Rattle.session_spec.specs.Entries.{Other}
use Rattle.session_spec.specs.Seen.{log_seen}
use Rattle.session_safety.specs.Woven.{Woven}
use Rattle.session_safety.proofs.Weaves.{woven_front, woven_plain}
use Rattle.raft_spec.specs.Log.{Entry}
use Rattle.raft_spec.specs.Outcomes.{barrier}
use Rattle.raft_safety.specs.Properties.{IsFrontClosed}
use Rattle.raft_safety.proofs.Properties.{logs_have_holds, logs_midway_have_holds, applied_has_holds}
use Rattle.cluster_model.specs.Weaving.{IsWoven, LogsWeave, LogsWeaveMidway, ChosenWeaves}
use Rattle.cluster_model.proofs.Lines.{seen_append, no_entries}

woven_take : (xs : List Entry) (k : ℕ) → IsWoven xs → IsWoven (take k xs)
woven_take xs k w = woven_front (log_seen (take k xs)) (log_seen (drop k xs)) (subst Woven (ap log_seen (sym (take-append-drop k xs)) ∙ seen_append (take k xs) (drop k xs)) w)

barrier_woven : (xs : List Entry) (t : ℕ) → IsWoven xs → IsWoven (xs ++ barrier t ∷ [])
barrier_woven xs t w = subst Woven (sym (seen_append xs (barrier t ∷ []))) (woven_plain true t (log_seen xs) (Other ∷ []) (tt, tt) w)

pub woven_closed : IsFrontClosed IsWoven
woven_closed = record { empty = no_entries; fronts = woven_take; barriers = barrier_woven }

pub logs_weave_hold : LogsWeave
logs_weave_hold vs es h n = logs_have_holds IsWoven woven_closed vs es h n

pub midway_weave_holds : LogsWeaveMidway
midway_weave_holds vs es e h here up k = logs_midway_have_holds IsWoven woven_closed vs es e h here up k

pub chosen_weaves_hold : ChosenWeaves
chosen_weaves_hold vs es h = (applied_has_holds IsWoven woven_closed vs es h).0
