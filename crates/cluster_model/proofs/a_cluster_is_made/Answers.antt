use Rattle.cluster_model.proofs.Examples.{run_says_holds, second_leads_holds, run_fits_holds, run_is_safe_holds}
use Rattle.cluster_model.proofs.a_cluster_is_made.Goals as goal

pub returns-clause-says : goal.returns-clause-says
returns-clause-says c = run_says_holds

pub returns-clause-leads : goal.returns-clause-leads
returns-clause-leads c = second_leads_holds

pub returns-clause-fits : goal.returns-clause-fits
returns-clause-fits c = run_fits_holds

pub returns-clause-safe : goal.returns-clause-safe
returns-clause-safe c = run_is_safe_holds
