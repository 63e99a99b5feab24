use Rattle.std.proofs.Common.{sym, ◌∙◌}
use Rattle.tests_check.proofs.Names.{atom-one, atom-other, atom-none, not-general, not-own, not-exception}
use Rattle.tests_check.proofs.atom.atom_type.Goals as goal

pub returns-in-OfType : goal.returns-in-OfType
returns-in-OfType c = atom-one c.args.tables.now c.args.scope.now c.args.atom c.find_local.result c.in-Some.known c.in-OfType.ty c.find_local.ensures c.in-Some.is c.in-OfType.is

pub returns-in-General : goal.returns-in-General
returns-in-General c = atom-other c.args.tables.now c.args.scope.now c.args.atom c.find_local.result c.in-Some.known c.find_local.ensures c.in-Some.is
    (not-general c.args.tables.now c.args.scope.now c.args.atom c.in-Some.known c.in-General.parameters c.in-General.ty c.in-General.is)

pub returns-in-Own : goal.returns-in-Own
returns-in-Own c = atom-other c.args.tables.now c.args.scope.now c.args.atom c.find_local.result c.in-Some.known c.find_local.ensures c.in-Some.is
    (not-own c.args.tables.now c.args.scope.now c.args.atom c.in-Some.known c.in-Own.field-0 c.in-Own.is)

pub returns-in-Exception : goal.returns-in-Exception
returns-in-Exception c = atom-other c.args.tables.now c.args.scope.now c.args.atom c.find_local.result c.in-Some.known c.find_local.ensures c.in-Some.is
    (not-exception c.args.tables.now c.args.scope.now c.args.atom c.in-Some.known c.in-Exception.field-0 c.in-Exception.is)

pub returns-in-None : goal.returns-in-None
returns-in-None c = atom-none c.args.tables.now c.args.scope.now c.args.atom c.find_local.result c.find_local.ensures c.in-None.is
