use Rattle.std.proofs.Common.{length, refl}
use Rattle.mlb_reader.specs.Project.{HasTokens}
use Rattle.mlb_reader.proofs.KnownLemmas.{it-held, source-holds, source-placed}
use Rattle.mlb_reader.proofs.SourceLemmas.{bad-tokens, bad-tree, fault-within, source-is}
use Rattle.mlb_reader.proofs.source.read_source.Goals as goal

pub returns-in-Err-clause-bad : goal.returns-in-Err-clause-bad
returns-in-Err-clause-bad c = bad-tokens c.args.names.now c.args.file c.args.bytes.now c.args.fixities.now c.in-Err.refused c.in-Err.ensures.fault c.in-Err.ensures.no_tokens

pub returns-in-Err-read_program-clause-bad : goal.returns-in-Err-read_program-clause-bad
returns-in-Err-read_program-clause-bad c =
    let has : HasTokens c.args.names.now c.args.bytes.now c.in-Ok.tokens c.lex.new.names = record { lexes = c.in-Ok.ensures.tokens; held = c.in-Ok.ensures.held; table = c.in-Ok.ensures.table } in
    bad-tree c.args.names.now c.args.file c.args.bytes.now c.args.fixities.now c.in-Ok.tokens c.lex.new.names has c.standard-star.result c.standard-star.ensures c.in-Err-read_program.refused (length c.args.bytes.now) refl c.in-Err-read_program.ensures.cause c.in-Err-read_program.ensures.place c.in-Err-read_program.ensures.unnamed

pub returns-in-Err-read_program-clause-byte : goal.returns-in-Err-read_program-clause-byte
returns-in-Err-read_program-clause-byte c = fault-within _ (length c.args.bytes.now) (length c.args.bytes.now) c.in-Ok.tokens refl c.in-Ok.ensures.spans c.in-Err-read_program.refused c.in-Err-read_program.ensures.place

pub returns-clause-source : goal.returns-clause-source
returns-clause-source c =
    let has : HasTokens c.args.names.now c.args.bytes.now c.in-Ok.tokens c.lex.new.names = record { lexes = c.in-Ok.ensures.tokens; held = c.in-Ok.ensures.held; table = c.in-Ok.ensures.table } in
    source-is c.args.names.now c.args.file c.args.bytes.now c.args.fixities.now c.in-Ok.tokens c.lex.new.names has c.standard-star.result c.standard-star.ensures c.standard-it.result c.in-Ok-read_program.program.tops.items c.in-Ok-read_program.program.fix _ c.standard-it.ensures c.in-Ok-read_program.ensures.read c.in_ok-part_of_tops-in-Ok-read_program.ensures

pub returns-clause-held : goal.returns-clause-held
returns-clause-held c =
    source-holds c.standard-it.result (record { file = c.args.file; star = c.standard-star.result }) c.args.fixities.now c.in-Ok-read_program.program.fix c.in-Ok.tokens c.in-Ok-read_program.program.tops.items c.in-Ok-read_program.ensures.read _ c.in_ok-part_of_tops-in-Ok-read_program.ensures c.lex.new.names
    (it-held c.args.names.now c.lex.new.names c.standard-it.result c.standard-it.ensures c.requires.table c.lex.ensures.kept) c.in-Ok.ensures.held

pub returns-clause-placed : goal.returns-clause-placed
returns-clause-placed c =
    source-placed c.standard-it.result (record { file = c.args.file; star = c.standard-star.result }) c.args.fixities.now c.in-Ok-read_program.program.fix c.in-Ok.tokens c.in-Ok-read_program.program.tops.items c.in-Ok-read_program.ensures.read _ c.in_ok-part_of_tops-in-Ok-read_program.ensures (length c.args.bytes.now) c.in-Ok.ensures.spans
