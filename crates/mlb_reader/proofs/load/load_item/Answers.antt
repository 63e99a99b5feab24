use Rattle.std.proofs.Common.{◌≡◌, ◌≢◌, true, sym, ◌∙◌}
use Rattle.std.specs.String.{string_bytes}
use Rattle.sml_lexer.proofs.NameLemmas.{keeps_same}
use Rattle.mlb_reader.specs.Loading.{loaded_of}
use Rattle.mlb_reader.specs.Mlb.{basis_path}
use Rattle.mlb_reader.specs.MlbOf.{item_of}
use Rattle.mlb_reader.proofs.FileLemmas.{grows-same, lies-at}
use Rattle.mlb_reader.proofs.KnownLemmas.{basis-known}
use Rattle.mlb_reader.proofs.LoadLemmas.{basis-loaded, may-read, path-breaks, path-place}
use Rattle.mlb_reader.proofs.load.load_item.Goals as goal

pub returns-in-Ok-clause-loaded : goal.returns-in-Ok-clause-loaded
returns-in-Ok-clause-loaded g c =
    let item = item_of c.args.item.now in
    let is : item.word ≡ basis_path = sym c.as_slice.ensures.value ∙ c.is_basis.ensures.0 c.if-is_basis.true in
    basis-loaded (string_bytes c.args.setting.now.path) (loaded_of c.args.names.now c.args.loading.now c.args.files.now) item (g.S.Store.files c.args.store.now) _ is (c.in-Ok.ensures.loaded c.args.names.now c.args.files.now)

pub load_source-requires-clause-may : goal.load_source-requires-clause-may
load_source-requires-clause-may g c =
    may-read (loaded_of c.args.names.now c.args.loading.now c.args.files.now) (item_of c.args.item.now) c.args.loading.now.counts.reads c.requires.count.reads_are (sym c.in-None.ensures)

pub returns-in-Some-clause-broken : goal.returns-in-Some-clause-broken
returns-in-Some-clause-broken g c =
    let item = item_of c.args.item.now in
    let other : item.word ≢ basis_path = λ e. let yes : c.is_basis.result ≡ true = c.is_basis.ensures.1 (c.as_slice.ensures.value ∙ e) in let no = c.if-is_basis.false in absurd (cc) in
    path-breaks (string_bytes c.args.setting.now.path) (loaded_of c.args.names.now c.args.loading.now c.args.files.now) item (g.S.Store.files c.args.store.now) c.in-Some.fault c.args.loading.now.counts.reads c.requires.count.reads_are other (sym c.in-Some.ensures)

pub returns-in-Some-clause-fault_lies : goal.returns-in-Some-clause-fault_lies
returns-in-Some-clause-fault_lies g c =
    let at = path-place (item_of c.args.item.now) c.in-Some.fault c.args.loading.now.counts.reads (sym c.in-Some.ensures) in
    lies-at c.in-Some.fault.place c.args.files.now 0 c.args.item.now.byte at.file at.byte c.requires.place

pub returns-in-Some-clause-fault_unnamed : goal.returns-in-Some-clause-fault_unnamed
returns-in-Some-clause-fault_unnamed g c = let at = path-place (item_of c.args.item.now) c.in-Some.fault c.args.loading.now.counts.reads (sym c.in-Some.ensures) in at.unnamed

pub returns-in-Ok-clause-known : goal.returns-in-Ok-clause-known
returns-in-Ok-clause-known g c =
    let s = loaded_of c.args.names.now c.args.loading.now c.args.files.now in
    basis-known c.args.names.now s (keeps_same c.args.names.now) c.requires.known.table c.requires.known c.args.files.now (grows-same c.args.files.now) _ _ (c.in-Ok.ensures.loaded c.args.names.now c.args.files.now)
