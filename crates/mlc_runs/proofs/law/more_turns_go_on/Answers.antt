use Rattle.mlc_runs.proofs.MoreTurnsLaws.{gives-on, raises-on, fail-on, cut-on, then_do-on, or_handle-on, or_fail-on, take_turn-on, writes-on, new_reference-on, dereference-on, assign-on, new_exception-on, outcome_of-grows}
use Rattle.mlc_runs.proofs.law.more_turns_go_on.Goals as goal

pub returns-clause-give : goal.returns-clause-give
returns-clause-give g c a = gives-on a

pub returns-clause-raise : goal.returns-clause-raise
returns-clause-raise g c packet = raises-on packet

pub returns-clause-fails : goal.returns-clause-fails
returns-clause-fails g c = fail-on

pub returns-clause-out_of_fuel : goal.returns-clause-out_of_fuel
returns-clause-out_of_fuel g c run writes = cut-on run writes

pub returns-clause-go_on : goal.returns-clause-go_on
returns-clause-go_on g c few many go go' runs each = then_do-on runs each

pub returns-clause-handle : goal.returns-clause-handle
returns-clause-handle g c few many go go' runs each = or_handle-on runs each

pub returns-clause-maybe : goal.returns-clause-maybe
returns-clause-maybe g c found go go' each = or_fail-on found each

pub returns-clause-turn : goal.returns-clause-turn
returns-clause-turn g c place few many runs = take_turn-on place runs

pub returns-clause-write : goal.returns-clause-write
returns-clause-write g c bytes few many runs = writes-on bytes runs

pub returns-clause-refer : goal.returns-clause-refer
returns-clause-refer g c v go go' each = new_reference-on v each

pub returns-clause-deref : goal.returns-clause-deref
returns-clause-deref g c at go go' each = dereference-on at each

pub returns-clause-update : goal.returns-clause-update
returns-clause-update g c at v few many runs = assign-on at v runs

pub returns-clause-except : goal.returns-clause-except
returns-clause-except g c identifier go go' each = new_exception-on identifier each

pub returns-clause-outcome : goal.returns-clause-outcome
returns-clause-outcome g c name few many w w' each runs more = outcome_of-grows name each (runs.continues w w' more)
