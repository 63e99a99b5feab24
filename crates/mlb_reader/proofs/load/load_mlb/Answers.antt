use Rattle.mlb_reader.specs.Loading.{BreaksFirst}
use Rattle.mlb_reader.proofs.FileLemmas.{last-bytes}
use Rattle.mlb_reader.proofs.LoadLemmas.{mlb-bad, mlb-large}
use Rattle.mlb_reader.proofs.RefusalLemmas.{fault-weaker}
use Rattle.mlb_reader.proofs.load.load_mlb.Goals as goal

pub returns-in-Err-clause-broken : goal.returns-in-Err-clause-broken
returns-in-Err-clause-broken g c =
    fault-weaker _ (λ fault. BreaksFirst (g.S.Store.files c.args.store.now) c.args.path.now fault c.fetch.new.files) (λ fault h. mlb-large c.args.path.now c.args.files.now c.requires.none (g.S.Store.files c.args.store.now) fault c.fetch.new.files h) c.in-Err.refused c.in-Err.ensures.too_large

pub returns-in-Err-Fault-clause-broken : goal.returns-in-Err-Fault-clause-broken
returns-in-Err-Fault-clause-broken g c =
    let fetched = c.in-Ok.ensures.fetched in
    let bytes = last-bytes c.args.files.now c.fetch.new.files fetched.file c.in-Ok.number c.bytes.result.now fetched.added fetched.number_is c.bytes.ensures in
    mlb-bad c.args.path.now c.args.files.now c.requires.none c.in-Ok.number c.fetch.new.counts c.fetch.new.files (g.S.Store.files c.args.store.now) fetched c.bytes.result.now c.in-Err-Fault.fault bytes
    (rw c.in-Err-Fault.field-0-is at c.in-Err-Fault.ensures.no_mlb) (rw c.in-Err-Fault.field-0-is at c.in-Err-Fault.ensures.fault)
