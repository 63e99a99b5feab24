use Rattle.eta_expand.proofs.Formed.{expanded-well-formed, expanded-explicit}
use Rattle.eta_expand.proofs.Keeps.{expanded-same}
use Rattle.eta_expand.proofs.law.functions_are_made.Goals as goal

pub returns-clause-well_formed : goal.returns-clause-well_formed
returns-clause-well_formed c = expanded-well-formed

pub returns-clause-explicit : goal.returns-clause-explicit
returns-clause-explicit c = expanded-explicit

pub returns-clause-same : goal.returns-clause-same
returns-clause-same c = expanded-same
