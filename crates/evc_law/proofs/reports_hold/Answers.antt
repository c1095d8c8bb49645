use Rattle.evc_law.proofs.Reports.{reports}
use Rattle.evc_law.proofs.reports_hold.Goals as goal

pub returns : goal.returns
returns c = reports
