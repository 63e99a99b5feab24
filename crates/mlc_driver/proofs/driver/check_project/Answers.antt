use Rattle.std.proofs.Common.{length, subst}
use Rattle.mlb_reader.specs.PartOf.{parts_of}
use Rattle.mlb_reader.specs.declared.project.Project.{Project}
use Rattle.mlc_driver.specs.Checked.{IsCause}
use Rattle.mlc_driver.specs.Fault.{IsTold, OnFault}
use Rattle.mlc_driver.specs.declared.checked.Checked.{Checked}
use Rattle.mlc_driver.proofs.Refusing.{elaborating_breaks, loading_breaks}
use Rattle.mlc_driver.proofs.driver.check_project.Goals as goal

pub returns-in-Err-clause-broken : goal.returns-in-Err-clause-broken
returns-in-Err-clause-broken g c = loading_breaks Project Checked _ _ _ _ c.in-Err.refused c.in-Err.ensures.broken c.in-Err.ensures.fault_unnamed

pub returns-in-Err-Fault-clause-broken : goal.returns-in-Err-Fault-clause-broken
returns-in-Err-Fault-clause-broken g c =
    let names = c.check_loaded.new.names in
    let reads = c.load.new.files in
    let fault = c.in-Err-Fault.fault in
    let told : IsTold names reads fault = subst (λ e. OnFault e (λ f. IsTold names reads f)) c.in-Err-Fault.field-0-is c.in-Err-Fault.ensures.told in
    let cause : IsCause c.load.new.names (length reads) (parts_of c.in-Ok.project) names fault = subst (λ e. OnFault e (IsCause c.load.new.names (length reads) (parts_of c.in-Ok.project) names)) c.in-Err-Fault.field-0-is c.in-Err-Fault.ensures.cause in
    elaborating_breaks (g.S.Store.files c.args.store.now) c.args.path.now c.load.new.names names (parts_of c.in-Ok.project) fault reads c.in-Ok.ensures.project c.in-Err-Fault.ensures.kept told.code cause
