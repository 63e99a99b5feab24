use Rattle.ir_uses.proofs.Exceptions.{exception-known, exception-unknown}
use Rattle.ir_uses.proofs.exception.is_exception.Goals as goal

pub returns-in-Some : goal.returns-in-Some
returns-in-Some c = λ ps. exception-known c.args.types.now ps c.args.known c.exception_argument.result c.in-Some.found c.args.argument c.same_argument.result (c.exception_argument.ensures c.args.types.now ps) c.in-Some.is c.same_argument.ensures

pub returns-in-None : goal.returns-in-None
returns-in-None c = λ ps. exception-unknown c.args.types.now ps c.args.known c.exception_argument.result c.args.argument (c.exception_argument.ensures c.args.types.now ps) c.in-None.is
