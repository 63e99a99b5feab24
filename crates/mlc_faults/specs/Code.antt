-- The numbers and the texts of refusals.
use Rattle.std.specs.Prelude.{ℕ, List, codes}
use Rattle.mlc_faults.specs.declared.code.Code.{Code}
use Rattle.mlc_faults.specs.declared.code.Code.TheVariants.{NoToken, Syntax, ConstantRange, RealConstant, TooDeep, FilesTooLarge, MlbSyntax, MlbCycle, PathVariable, Extension, TooManyFiles, Unbound, NoTyping, NoPrincipalTyping, Restriction, ModuleRule, TypeTooLarge, ExpansionTooLarge, ImageTooLarge, NotCompiled}

abbrev pub code_number : Code → ℕ
code_number NoToken = 10
code_number Syntax = 11
code_number ConstantRange = 12
code_number RealConstant = 13
code_number TooDeep = 14
code_number FilesTooLarge = 15
code_number MlbSyntax = 20
code_number MlbCycle = 21
code_number PathVariable = 22
code_number Extension = 23
code_number TooManyFiles = 24
code_number Unbound = 30
code_number NoTyping = 31
code_number NoPrincipalTyping = 32
code_number Restriction = 33
code_number ModuleRule = 34
code_number TypeTooLarge = 40
code_number ExpansionTooLarge = 41
code_number ImageTooLarge = 42
code_number NotCompiled = 90

abbrev pub code_text : Code → List ℕ
code_text NoToken = codes "no token"
code_text Syntax = codes "syntax error"
code_text ConstantRange = codes "constant out of range"
code_text RealConstant = codes "real constant"
code_text TooDeep = codes "nested deeper than 400"
code_text FilesTooLarge = codes "files over size limit"
code_text MlbSyntax = codes "mlb syntax error"
code_text MlbCycle = codes "cycle of mlb files"
code_text PathVariable = codes "unknown path variable"
code_text Extension = codes "unknown extension"
code_text TooManyFiles = codes "more than 4096 files"
code_text Unbound = codes "unbound identifier"
code_text NoTyping = codes "no typing"
code_text NoPrincipalTyping = codes "no principal typing"
code_text Restriction = codes "restriction broken"
code_text ModuleRule = codes "module rule broken"
code_text TypeTooLarge = codes "type over 65536 nodes"
code_text ExpansionTooLarge = codes "expansion over 1048576 nodes"
code_text ImageTooLarge = codes "image over 134217728 words"
code_text NotCompiled = codes "not compiled yet"
