use Rattle.std.proofs.Common.{sym, ◌∙◌, arith}
use Rattle.std.proofs.lemmas.Result.{err_from_is_err_and}
use Rattle.ir_code.proofs.Unique.{one_program}
use Rattle.ir_code.proofs.Checks.{header_first}
use Rattle.ir_code.proofs.Images.{image_read, no_program, none_has, constants_left, code_refused}
use Rattle.ir_code.proofs.read.read_image.Goals as goal

pub read_code-requires-clause-whole : goal.read_code-requires-clause-whole
read_code-requires-clause-whole c =
    omega (arith, c.in-Ok.ensures.found.left, constants_left c.in-Ok.header.rest.now c.in_ok-constants.constants.items c.in_ok-constants.rest.now c.in_ok-constants.ensures.found, c.in_ok-constants.ensures.all)

pub returns-in_err-code-clause-refused : goal.returns-in_err-code-clause-refused
returns-in_err-code-clause-refused c =
    let p = err_from_is_err_and c.from_residual-in_err-code.result c.from_residual-in_err-code.ensures.1 in
    rw (p.1, p.2) (code_refused c.args.bytes.now c.in-Ok.header.rest.now c.in_ok-constants.constants.items c.in_ok-constants.rest.now c.in-Ok.header.constants c.in_err-code.field-0.0
    c.in-Ok.ensures.goes_on c.in_ok-constants.ensures.found c.in_ok-constants.ensures.all c.in_err-code.ensures.refused)

pub returns-in_err-code-clause-none : goal.returns-in_err-code-clause-none
returns-in_err-code-clause-none c =
    let p = err_from_is_err_and c.from_residual-in_err-code.result c.from_residual-in_err-code.ensures.1 in
    rw (p.1, p.2) (none_has c.args.bytes.now c.in_err-code.field-0.0 (code_refused c.args.bytes.now c.in-Ok.header.rest.now c.in_ok-constants.constants.items c.in_ok-constants.rest.now c.in-Ok.header.constants c.in_err-code.field-0.0
    c.in-Ok.ensures.goes_on c.in_ok-constants.ensures.found c.in_ok-constants.ensures.all c.in_err-code.ensures.refused))

pub returns-clause-found : goal.returns-clause-found
returns-clause-found c =
    rw (c.new.ensures.constants, c.new.ensures.code) (image_read c.args.bytes.now c.in_ok-constants.constants.items c.in_ok-code.code.items c.in-Ok.header.constants c.in-Ok.header.code c.in-Ok.header.rest.now c.in_ok-constants.rest.now
    c.in-Ok.ensures.found c.in_ok-constants.ensures.found c.in_ok-constants.ensures.all c.in_ok-code.ensures.found c.in_ok-code.ensures.all)

pub returns-in-Err-clause-refused : goal.returns-in-Err-clause-refused
returns-in-Err-clause-refused c = header_first c.args.bytes.now c.in-Err.at c.in-Err.ensures.refused

pub returns-in-Err-clause-none : goal.returns-in-Err-clause-none
returns-in-Err-clause-none c = no_program c.args.bytes.now c.in-Err.at (header_first c.args.bytes.now c.in-Err.at c.in-Err.ensures.refused)

pub returns-clause-only : goal.returns-clause-only
returns-clause-only c =
    let k = c.in_ok-constants.constants.items in
    let f = image_read c.args.bytes.now k c.in_ok-code.code.items c.in-Ok.header.constants c.in-Ok.header.code c.in-Ok.header.rest.now c.in_ok-constants.rest.now c.in-Ok.ensures.found c.in_ok-constants.ensures.found c.in_ok-constants.ensures.all c.in_ok-code.ensures.found c.in_ok-code.ensures.all in
    λ p is e. rw (c.new.ensures.constants, c.new.ensures.code) (one_program (record { constants = k; code = c.in_ok-code.code.items }) p f.0 is (sym f.1 ∙ e))
