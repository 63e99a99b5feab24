use Rattle.std.proofs.Common.{refl, zero-add, ap, ◌∙◌, get_or}
use Rattle.std.proofs.lemmas.Bool.{false≢true}
use Rattle.ssa_form.specs.Programs.{program_of}
use Rattle.emit_code.specs.PlacesOf.{places_of}
use Rattle.emit_code.specs.declared.places.Places.{Places}
use Rattle.emit_known.specs.Known.{KnowsConstants}
use Rattle.emit_walk.proofs.Nodes.{passed}
use Rattle.machine_emit.proofs.Whole.{settled}
use Rattle.machine_emit.proofs.assemble.walk_twice.Goals as goal

pub returns-in_err-found-clause-settled : goal.returns-in_err-found-clause-settled
returns-in_err-found-clause-settled c known =
    passed _ c.from_residual.result c.in_err-found.field-0.0 c.from_residual.ensures.1 (c.in_err-found.ensures.told known.1.type_at (λ s. absurd (false≢true
    s)))

pub returns-in_err-made-clause-settled : goal.returns-in_err-made-clause-settled
returns-in_err-made-clause-settled c known =
    passed _ c.from_residual-in_err-made.result c.in_err-made.field-0.0 c.from_residual-in_err-made.ensures.1
    (c.in_err-made.ensures.told known.1.type_at
    (λ s k lt. ap (λ z. get_or c.in_ok-found.found.labels.items z 0) (zero-add k) ∙ ap (λ l. get_or l k 0) (c.in_ok-found.ensures.labels known.1.type_at)))

pub returns-clause-code : goal.returns-clause-code
returns-clause-code c texts known =
    let program = c.args.program.now in
    let before = c.args.known in
    let found = c.in_ok-found.found in
    let at : Places = record {
      texts = before.texts;
      names = before.names;
      initial = before.initial;
      packets = before.packets;
      funs = found.funs;
      funs_end = found.funs_end;
      sets = found.sets;
      sets_end = found.sets_end;
      types = before.types;
      types_end = before.types_end;
      labels = found.labels;
    } in
    let of : KnowsConstants texts (program_of program) at = record {
      text_at = known.text_at;
      name_at = known.name_at;
      first_at = known.first_at;
      packet_at = known.packet_at;
      type_at = known.type_at;
    } in
    settled texts program.tables (program_of program).funs at of (places_of program.tables before).fun_at (c.in_ok-found.ensures.funs known.type_at)
    (c.in_ok-found.ensures.sets known.type_at) c.in_ok-made.made.code.items (c.in_ok-made.ensures.code refl known.type_at)
