use Rattle.std.proofs.Common.{◌≡◌, ◌≤◌, ◌++◌, ◌∷◌, [], length, map, None, ap, ◌∙◌, subst, arith}
use Rattle.std.specs.String.{string_bytes}
use Rattle.std.proofs.lemmas.List.{map-append}
use Rattle.mlc_faults.specs.Files.{LiesIn}
use Rattle.mlc_outside.specs.Store.{HasFile}
use Rattle.mlb_reader.specs.Loading.{BreaksAt, IsFetched, IsTooLarge, MissesAt, NeedsAt, loaded_of}
use Rattle.mlb_reader.specs.MlbOf.{item_of}
use Rattle.mlb_reader.specs.PartOf.{part_of}
use Rattle.mlb_reader.specs.Path.{path_from}
use Rattle.mlb_reader.proofs.FileLemmas.{grows-one, last-bytes, lies-fault, lies-last}
use Rattle.mlb_reader.proofs.KnownLemmas.{source-known, table-stays}
use Rattle.mlb_reader.proofs.LoadLemmas.{bad-at, missing-at, needed-at, source-loaded, too-large-at}
use Rattle.mlb_reader.proofs.RefusalLemmas.{both-faults, fault-asked, no-file-asked, read-fault-asked, refused-asked}
use Rattle.mlb_reader.proofs.load.load_source.Goals as goal

pub returns-in_err-number-clause-broken : goal.returns-in_err-number-clause-broken
returns-in_err-number-clause-broken g c =
    let files = g.S.Store.files c.args.store.now in
    let mlb = string_bytes c.args.setting.now.path in
    let item = item_of c.args.item.now in
    let s = loaded_of c.args.names.now c.args.loading.now c.args.files.now in
    let path : c.as_str-2.result.now ≡ path_from mlb item.word = c.as_str-2.ensures.value ∙ c.in_ok-path.ensures ∙ ap (λ p. path_from p c.as_slice.result.now) c.as_str.ensures.value ∙ ap (path_from mlb) c.as_slice.ensures.value in
    fault-asked c.from_residual-in_err-number.result c.in_err-number.field-0.0 c.from_residual-in_err-number.ensures.1 _ (λ fault. BreaksAt files mlb s item fault c.fetch.new.files)
    (λ fault h. too-large-at mlb s item c.requires.may files fault c.fetch.new.files (subst (λ p. IsTooLarge files p item.byte fault s.reads c.fetch.new.files) path h)) c.in_err-number.ensures.too_large

pub returns-in_err-number-clause-fault_lies : goal.returns-in_err-number-clause-fault_lies
returns-in_err-number-clause-fault_lies g c =
    fault-asked c.from_residual-in_err-number.result c.in_err-number.field-0.0 c.from_residual-in_err-number.ensures.1 _ (λ fault. LiesIn fault.place c.fetch.new.files)
    (λ fault h. lies-fault fault c.args.files.now c.fetch.new.files c.args.item.now.byte (grows-one c.args.files.now c.fetch.new.files h.file h.added) c.requires.place h.fault_is) c.in_err-number.ensures.too_large

pub returns-in_err-number-clause-missing : goal.returns-in_err-number-clause-missing
returns-in_err-number-clause-missing g c =
    let files = g.S.Store.files c.args.store.now in
    let mlb = string_bytes c.args.setting.now.path in
    let item = item_of c.args.item.now in
    let s = loaded_of c.args.names.now c.args.loading.now c.args.files.now in
    let path : c.as_str-2.result.now ≡ path_from mlb item.word = c.as_str-2.ensures.value ∙ c.in_ok-path.ensures ∙ ap (λ p. path_from p c.as_slice.result.now) c.as_str.ensures.value ∙ ap (path_from mlb) c.as_slice.ensures.value in
    no-file-asked c.from_residual-in_err-number.result c.in_err-number.field-0.0 c.from_residual-in_err-number.ensures.1 _ (λ missing. MissesAt files mlb s item (string_bytes missing))
    (λ missing h. missing-at mlb s item c.requires.may files (string_bytes missing) (h.0 ∙ path) (subst (λ p. HasFile files p None) path h.1)) c.in_err-number.ensures.missing

pub returns-in_err-number-clause-needed : goal.returns-in_err-number-clause-needed
returns-in_err-number-clause-needed g c =
    let files = g.S.Store.files c.args.store.now in
    let mlb = string_bytes c.args.setting.now.path in
    let item = item_of c.args.item.now in
    let s = loaded_of c.args.names.now c.args.loading.now c.args.files.now in
    let path : c.as_str-2.result.now ≡ path_from mlb item.word = c.as_str-2.ensures.value ∙ c.in_ok-path.ensures ∙ ap (λ p. path_from p c.as_slice.result.now) c.as_str.ensures.value ∙ ap (path_from mlb) c.as_slice.ensures.value in
    read-fault-asked c.from_residual-in_err-number.result c.in_err-number.field-0.0 c.from_residual-in_err-number.ensures.1 _ (λ failed. NeedsAt files mlb s item (string_bytes failed))
    (λ failed h. needed-at mlb s item c.requires.may files (string_bytes failed) (h.0 ∙ path)) c.in_err-number.ensures.read_fault

pub read_source-requires-clause-small : goal.read_source-requires-clause-small
read_source-requires-clause-small g c =
    let fetched = c.in_ok-number.ensures.fetched in
    let bytes = last-bytes c.args.files.now c.fetch.new.files fetched.file c.in_ok-number.number c.bytes-bytes.result.now fetched.added fetched.number_is c.bytes-bytes.ensures in
    omega (arith, ap length bytes, fetched.fits.small)

pub returns-in_err-part-clause-broken : goal.returns-in_err-part-clause-broken
returns-in_err-part-clause-broken g c =
    let files = g.S.Store.files c.args.store.now in
    let mlb = string_bytes c.args.setting.now.path in
    let item = item_of c.args.item.now in
    let s = loaded_of c.args.names.now c.args.loading.now c.args.files.now in
    let number = c.in_ok-number.number in
    let new = c.fetch.new.files in
    let path : c.as_str-2.result.now ≡ path_from mlb item.word = c.as_str-2.ensures.value ∙ c.in_ok-path.ensures ∙ ap (λ p. path_from p c.as_slice.result.now) c.as_str.ensures.value ∙ ap (path_from mlb) c.as_slice.ensures.value in
    let fetched = subst (λ p. IsFetched files p number c.fetch.new.counts s.reads new) path c.in_ok-number.ensures.fetched in
    let bytes = last-bytes s.reads new fetched.file number c.bytes-bytes.result.now fetched.added fetched.number_is c.bytes-bytes.ensures in
    refused-asked c.from_residual-in_err-part.result c.in_err-part.field-0.0 c.from_residual-in_err-part.ensures.1 _ (λ fault. BreaksAt files mlb s item fault new)
    (λ fault h. bad-at mlb s item c.requires.may number c.fetch.new.counts new files fetched c.bytes-bytes.result.now fault bytes h) c.in_err-part.ensures.bad

pub returns-in_err-part-clause-fault_lies : goal.returns-in_err-part-clause-fault_lies
returns-in_err-part-clause-fault_lies g c =
    let fetched = c.in_ok-number.ensures.fetched in
    let number = c.in_ok-number.number in
    let new = c.fetch.new.files in
    let bytes = last-bytes c.args.files.now new fetched.file number c.bytes-bytes.result.now fetched.added fetched.number_is c.bytes-bytes.ensures in
    refused-asked c.from_residual-in_err-part.result c.in_err-part.field-0.0 c.from_residual-in_err-part.ensures.1 _ (λ fault. LiesIn fault.place new)
    (λ fault h. lies-last fault.place c.args.files.now new fetched.file fetched.added (h.0 ∙ fetched.number_is) (subst (λ b. fault.place.byte ≤ length b) bytes h.1) fetched.fits.small)
    (both-faults (λ fault. fault.place.file ≡ number) (λ fault. fault.place.byte ≤ length c.bytes-bytes.result.now) c.in_err-part.field-0.0 c.in_err-part.ensures.file c.in_err-part.ensures.byte)

pub returns-clause-loaded : goal.returns-clause-loaded
returns-clause-loaded g c =
    let files = g.S.Store.files c.args.store.now in
    let mlb = string_bytes c.args.setting.now.path in
    let item = item_of c.args.item.now in
    let s = loaded_of c.args.names.now c.args.loading.now c.args.files.now in
    let number = c.in_ok-number.number in
    let new = c.fetch.new.files in
    let part = part_of c.in_ok-part.part in
    let path : c.as_str-2.result.now ≡ path_from mlb item.word = c.as_str-2.ensures.value ∙ c.in_ok-path.ensures ∙ ap (λ p. path_from p c.as_slice.result.now) c.as_str.ensures.value ∙ ap (path_from mlb) c.as_slice.ensures.value in
    let fetched = subst (λ p. IsFetched files p number c.fetch.new.counts s.reads new) path c.in_ok-number.ensures.fetched in
    let bytes = last-bytes s.reads new fetched.file number c.bytes-bytes.result.now fetched.added fetched.number_is c.bytes-bytes.ensures in
    let parts : map part_of c.push.new.self.items ≡ s.parts ++ part ∷ [] = ap (map part_of) c.in_ok-push.ensures.items ∙ map-append part_of c.args.loading.now.parts.items _ in
    source-loaded mlb s item c.requires.may number c.fetch.new.counts new files fetched c.bytes-bytes.result.now part c.read_source.new.names c.read_source.new.fixities _ bytes c.in_ok-part.ensures.source
    (ap (λ p. record { names = c.read_source.new.names; fixities = c.read_source.new.fixities; parts = p; reads = new }) parts)

pub returns-clause-known : goal.returns-clause-known
returns-clause-known g c =
    let s = loaded_of c.args.names.now c.args.loading.now c.args.files.now in
    let number = c.in_ok-number.number in
    let new = c.fetch.new.files in
    let part = part_of c.in_ok-part.part in
    let fetched = c.in_ok-number.ensures.fetched in
    let bytes = last-bytes s.reads new fetched.file number c.bytes-bytes.result.now fetched.added fetched.number_is c.bytes-bytes.ensures in
    let parts : map part_of c.push.new.self.items ≡ s.parts ++ part ∷ [] = ap (map part_of) c.in_ok-push.ensures.items ∙ map-append part_of c.args.loading.now.parts.items _ in
    source-known c.read_source.new.names s c.read_source.ensures.kept (table-stays c.args.names.now c.read_source.new.names c.read_source.ensures.kept c.requires.known.table) c.requires.known new (grows-one s.reads new fetched.file fetched.added) c.read_source.new.fixities part fetched.file number (length c.bytes-bytes.result.now) _ fetched.added fetched.number_is (ap length bytes) fetched.fits.small c.in_ok-part.ensures.held c.in_ok-part.ensures.placed
    (ap (λ p. record { names = c.read_source.new.names; fixities = c.read_source.new.fixities; parts = p; reads = new }) parts)

pub read_source-requires-clause-table : goal.read_source-requires-clause-table
read_source-requires-clause-table g c = c.requires.known.table
