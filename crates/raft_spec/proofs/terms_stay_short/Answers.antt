use Rattle.raft_spec.proofs.terms_stay_short.Goals as goal
use Rattle.raft_spec.proofs.Terms.{terms_stay_short_holds, cut_terms_stay_short_holds}

pub returns-clause-whole : goal.returns-clause-whole
returns-clause-whole c = terms_stay_short_holds

pub returns-clause-cut : goal.returns-clause-cut
returns-clause-cut c = cut_terms_stay_short_holds
