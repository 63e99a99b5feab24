use Rattle.std.proofs.Common.{ap, sym, arith}
use Rattle.std.specs.Prelude.{option_map}
use Rattle.core_rules.specs.Match.{is_variable}
use Rattle.core_rules.specs.Values.{Found}
use Rattle.name_scopes.proofs.Qualified.{long-value-none}
use Rattle.name_scopes.proofs.look_ups.find_value.Goals as goal

pub returns-in_default : goal.returns-in_default
returns-in_default c e h w =
    ap (option_map (λ (f : Found). is_variable f.status)) (sym (long-value-none c.args.scope.now e c.args.long.now.qualifiers.items c.args.long.now.vid h (omega arith)))
