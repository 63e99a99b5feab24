use Rattle.std.proofs.Common.{◌≡◌, ◌<◌, ◌≤◌, ◌∷◌, [], length, map, get_or, None, sym, ap, ◌∙◌, subst, arith}
use Rattle.std.specs.String.{string_bytes}
use Rattle.std.proofs.lemmas.List.{length-map}
use Rattle.mlc_outside.specs.Store.{HasFile}
use Rattle.sml_lexer.proofs.NameLemmas.{keeps_on, keeps_same}
use Rattle.mlb_reader.specs.Broken.{IsBroken, IsMissing}
use Rattle.mlb_reader.specs.Loading.{BreaksAt, IsBegun, MissesAt, NeedsAt, loaded_of}
use Rattle.mlb_reader.specs.MlbOf.{item_of, items_of}
use Rattle.mlb_reader.specs.PartOf.{part_of}
use Rattle.mlb_reader.specs.Path.{clean}
use Rattle.mlb_reader.specs.Project.{IsNeeded, Loaded, Loads, begun}
use Rattle.mlb_reader.specs.Refusals.{IfTold}
use Rattle.mlb_reader.proofs.FileLemmas.{grows-on, grows-same, lies-grown}
use Rattle.mlb_reader.proofs.KnownLemmas.{nothing-known, standard-table}
use Rattle.mlb_reader.proofs.LoadLemmas.{breaks, item-is, loads-more, loads-nothing, misses, misses-first, needs, needs-first, project, start-is, word-ascii-at, word-lies}
use Rattle.mlb_reader.proofs.RefusalLemmas.{fault-asked, no-file-asked, read-fault-asked}
use Rattle.mlb_reader.proofs.load.load.Goals as goal

pub returns-in_err-mlb-clause-missing : goal.returns-in_err-mlb-clause-missing
returns-in_err-mlb-clause-missing g c =
    let files = g.S.Store.files c.args.store.now in
    let input = c.args.path.now in
    let mlb = string_bytes c.in_ok-path.path in
    let same : clean input ≡ mlb = sym c.in_ok-path.ensures in
    no-file-asked c.from_residual-in_err-mlb.result c.in_err-mlb.field-0.0 c.from_residual-in_err-mlb.ensures.1 _ (λ missing. IfTold files (λ f. IsMissing f input (string_bytes missing)))
    (λ missing h. misses-first files mlb input (string_bytes missing) same (h.0 ∙ c.as_str.ensures.value) (subst (λ p. HasFile files p None) c.as_str.ensures.value h.1)) c.in_err-mlb.ensures.missing

pub returns-in_err-mlb-clause-needed : goal.returns-in_err-mlb-clause-needed
returns-in_err-mlb-clause-needed g c =
    let files = g.S.Store.files c.args.store.now in
    let input = c.args.path.now in
    let mlb = string_bytes c.in_ok-path.path in
    let same : clean input ≡ mlb = sym c.in_ok-path.ensures in
    read-fault-asked c.from_residual-in_err-mlb.result c.in_err-mlb.field-0.0 c.from_residual-in_err-mlb.ensures.1 _ (λ failed. IfTold files (λ f. IsNeeded f input (string_bytes failed)))
    (λ failed h. needs-first files mlb input (string_bytes failed) same (h.0 ∙ c.as_str.ensures.value)) c.in_err-mlb.ensures.read_fault

pub loop-item-init : goal.loop-item-init
loop-item-init g c =
    let files = g.S.Store.files c.args.store.now in
    record {
      kept = keeps_same c.args.names.now;
      basis = c.in_ok-fixities.ensures;
      count = c.in_ok-mlb.ensures.count;
      files_same = c.load_mlb.ensures.files_same;
      writes_same = c.load_mlb.ensures.writes_same;
      reads_kept = c.load_mlb.ensures.reads_kept;
      known = nothing-known (loaded_of c.args.names.now (record { fixities = c.new.result; parts = c.new-2.result; counts = c.load_mlb.new.counts }) c.load_mlb.new.files) (standard-table c.args.names.now c.requires.names) (ap (map part_of) c.new-2.ensures.items);
      grown = grows-same c.load_mlb.new.files;
      loaded = loads-nothing files (string_bytes c.in_ok-path.path) _;
    }

pub load_item-requires-clause-word : goal.load_item-requires-clause-word
load_item-requires-clause-word g c =
    let files = g.S.Store.files c.args.store.now in
    let input = c.args.path.now in
    let mlb = string_bytes c.in_ok-path.path in
    let same : clean input ≡ mlb = sym c.in_ok-path.ensures in
    let xs = c.deref-item-items.result.now in
    let items = map item_of xs in
    let reads = c.load_mlb.new.files in
    let begun_ : IsBegun files mlb items reads = subst (λ ys. IsBegun files mlb (map item_of ys) reads) (sym c.deref-item-items.ensures.value) (subst (λ p. IsBegun files p (items_of c.in_ok-mlb.mlb) reads) c.as_str.ensures.value c.in_ok-mlb.ensures.begun) in
    let i = c.loop-item.item-index in
    let item = item_of c.item-item.result in
    let within : i < length items = omega (arith, c.loop-item-test.true, length-map xs item_of) in
    let is : item ≡ get_or items i item = item-is xs i c.item-item.result c.loop-item-test.true c.item-item.is in
    word-ascii-at files mlb items reads begun_ i item within is

pub load_item-requires-clause-place : goal.load_item-requires-clause-place
load_item-requires-clause-place g c =
    let files = g.S.Store.files c.args.store.now in
    let input = c.args.path.now in
    let mlb = string_bytes c.in_ok-path.path in
    let same : clean input ≡ mlb = sym c.in_ok-path.ensures in
    let xs = c.deref-item-items.result.now in
    let items = map item_of xs in
    let reads = c.load_mlb.new.files in
    let begun_ : IsBegun files mlb items reads = subst (λ ys. IsBegun files mlb (map item_of ys) reads) (sym c.deref-item-items.ensures.value) (subst (λ p. IsBegun files p (items_of c.in_ok-mlb.mlb) reads) c.as_str.ensures.value c.in_ok-mlb.ensures.begun) in
    let i = c.loop-item.item-index in
    let item = item_of c.item-item.result in
    let within : i < length items = omega (arith, c.loop-item-test.true, length-map xs item_of) in
    let is : item ≡ get_or items i item = item-is xs i c.item-item.result c.loop-item-test.true c.item-item.is in
    lies-grown (record { file = 0; byte = item.byte }) reads c.loop-item.files c.loop-item.invariant.grown (word-lies files mlb items reads begun_ i item within is)

pub returns-in_err-load_item-clause-kept : goal.returns-in_err-load_item-clause-kept
returns-in_err-load_item-clause-kept g c = keeps_on c.args.names.now c.loop-item.names c.load_item.new.names c.loop-item.invariant.kept c.load_item.ensures.kept

pub returns-in_err-load_item-clause-broken : goal.returns-in_err-load_item-clause-broken
returns-in_err-load_item-clause-broken g c =
    let files = g.S.Store.files c.args.store.now in
    let input = c.args.path.now in
    let mlb = string_bytes c.in_ok-path.path in
    let same : clean input ≡ mlb = sym c.in_ok-path.ensures in
    let xs = c.deref-item-items.result.now in
    let items = map item_of xs in
    let reads = c.load_mlb.new.files in
    let begun_ : IsBegun files mlb items reads = subst (λ ys. IsBegun files mlb (map item_of ys) reads) (sym c.deref-item-items.ensures.value) (subst (λ p. IsBegun files p (items_of c.in_ok-mlb.mlb) reads) c.as_str.ensures.value c.in_ok-mlb.ensures.begun) in
    let first : Loaded = record { names = c.args.names.now; fixities = c.new.result; parts = map part_of c.new-2.result.items; reads = reads } in
    let start : first ≡ begun begun_.file = start-is c.args.names.now c.new.result (map part_of c.new-2.result.items) reads begun_.file c.requires.names c.new.ensures (ap (map part_of) c.new-2.ensures.items) begun_.reads_are in
    let i = c.loop-item.item-index in
    let item = item_of c.item-item.result in
    let within : i < length items = omega (arith, c.loop-item-test.true, length-map xs item_of) in
    let is : item ≡ get_or items i item = item-is xs i c.item-item.result c.loop-item-test.true c.item-item.is in
    let names = c.loop-item.names in
    let s = loaded_of names c.loop-item.loading c.loop-item.files in
    let new = c.load_item.new.files in
    fault-asked c.from_residual-in_err-load_item.result c.in_err-load_item.field-0.0 c.from_residual-in_err-load_item.ensures.1 _ (λ fault. IfTold files (λ f. IsBroken f input fault new))
    (λ fault h. breaks mlb items first reads input same s item i within is files begun_ start c.loop-item.invariant.loaded fault new (subst (λ o. BreaksAt o mlb s item fault new) c.loop-item.invariant.files_same h)) c.in_err-load_item.ensures.broken

pub returns-in_err-load_item-clause-missing : goal.returns-in_err-load_item-clause-missing
returns-in_err-load_item-clause-missing g c =
    let files = g.S.Store.files c.args.store.now in
    let input = c.args.path.now in
    let mlb = string_bytes c.in_ok-path.path in
    let same : clean input ≡ mlb = sym c.in_ok-path.ensures in
    let xs = c.deref-item-items.result.now in
    let items = map item_of xs in
    let reads = c.load_mlb.new.files in
    let begun_ : IsBegun files mlb items reads = subst (λ ys. IsBegun files mlb (map item_of ys) reads) (sym c.deref-item-items.ensures.value) (subst (λ p. IsBegun files p (items_of c.in_ok-mlb.mlb) reads) c.as_str.ensures.value c.in_ok-mlb.ensures.begun) in
    let first : Loaded = record { names = c.args.names.now; fixities = c.new.result; parts = map part_of c.new-2.result.items; reads = reads } in
    let start : first ≡ begun begun_.file = start-is c.args.names.now c.new.result (map part_of c.new-2.result.items) reads begun_.file c.requires.names c.new.ensures (ap (map part_of) c.new-2.ensures.items) begun_.reads_are in
    let i = c.loop-item.item-index in
    let item = item_of c.item-item.result in
    let within : i < length items = omega (arith, c.loop-item-test.true, length-map xs item_of) in
    let is : item ≡ get_or items i item = item-is xs i c.item-item.result c.loop-item-test.true c.item-item.is in
    let names = c.loop-item.names in
    let s = loaded_of names c.loop-item.loading c.loop-item.files in
    let new = c.load_item.new.files in
    no-file-asked c.from_residual-in_err-load_item.result c.in_err-load_item.field-0.0 c.from_residual-in_err-load_item.ensures.1 _ (λ missing. IfTold files (λ f. IsMissing f input (string_bytes missing)))
    (λ missing h. misses mlb items first reads input same s item i within is files begun_ start c.loop-item.invariant.loaded (string_bytes missing) (subst (λ o. MissesAt o mlb s item (string_bytes missing)) c.loop-item.invariant.files_same h)) c.in_err-load_item.ensures.missing

pub returns-in_err-load_item-clause-needed : goal.returns-in_err-load_item-clause-needed
returns-in_err-load_item-clause-needed g c =
    let files = g.S.Store.files c.args.store.now in
    let input = c.args.path.now in
    let mlb = string_bytes c.in_ok-path.path in
    let same : clean input ≡ mlb = sym c.in_ok-path.ensures in
    let xs = c.deref-item-items.result.now in
    let items = map item_of xs in
    let reads = c.load_mlb.new.files in
    let begun_ : IsBegun files mlb items reads = subst (λ ys. IsBegun files mlb (map item_of ys) reads) (sym c.deref-item-items.ensures.value) (subst (λ p. IsBegun files p (items_of c.in_ok-mlb.mlb) reads) c.as_str.ensures.value c.in_ok-mlb.ensures.begun) in
    let first : Loaded = record { names = c.args.names.now; fixities = c.new.result; parts = map part_of c.new-2.result.items; reads = reads } in
    let start : first ≡ begun begun_.file = start-is c.args.names.now c.new.result (map part_of c.new-2.result.items) reads begun_.file c.requires.names c.new.ensures (ap (map part_of) c.new-2.ensures.items) begun_.reads_are in
    let i = c.loop-item.item-index in
    let item = item_of c.item-item.result in
    let within : i < length items = omega (arith, c.loop-item-test.true, length-map xs item_of) in
    let is : item ≡ get_or items i item = item-is xs i c.item-item.result c.loop-item-test.true c.item-item.is in
    let names = c.loop-item.names in
    let s = loaded_of names c.loop-item.loading c.loop-item.files in
    let new = c.load_item.new.files in
    read-fault-asked c.from_residual-in_err-load_item.result c.in_err-load_item.field-0.0 c.from_residual-in_err-load_item.ensures.1 _ (λ failed. IfTold files (λ f. IsNeeded f input (string_bytes failed)))
    (λ failed h. needs mlb items first reads input same s item i within is files begun_ start c.loop-item.invariant.loaded (string_bytes failed) (subst (λ o. NeedsAt o mlb s item (string_bytes failed)) c.loop-item.invariant.files_same h)) c.in_err-load_item.ensures.needed

pub loop-item-preserved : goal.loop-item-preserved
loop-item-preserved g c =
    let files = g.S.Store.files c.args.store.now in
    let input = c.args.path.now in
    let mlb = string_bytes c.in_ok-path.path in
    let same : clean input ≡ mlb = sym c.in_ok-path.ensures in
    let xs = c.deref-item-items.result.now in
    let items = map item_of xs in
    let reads = c.load_mlb.new.files in
    let begun_ : IsBegun files mlb items reads = subst (λ ys. IsBegun files mlb (map item_of ys) reads) (sym c.deref-item-items.ensures.value) (subst (λ p. IsBegun files p (items_of c.in_ok-mlb.mlb) reads) c.as_str.ensures.value c.in_ok-mlb.ensures.begun) in
    let first : Loaded = record { names = c.args.names.now; fixities = c.new.result; parts = map part_of c.new-2.result.items; reads = reads } in
    let start : first ≡ begun begun_.file = start-is c.args.names.now c.new.result (map part_of c.new-2.result.items) reads begun_.file c.requires.names c.new.ensures (ap (map part_of) c.new-2.ensures.items) begun_.reads_are in
    let i = c.loop-item.item-index in
    let item = item_of c.item-item.result in
    let within : i < length items = omega (arith, c.loop-item-test.true, length-map xs item_of) in
    let is : item ≡ get_or items i item = item-is xs i c.item-item.result c.loop-item-test.true c.item-item.is in
    let names = c.loop-item.names in
    let s = loaded_of names c.loop-item.loading c.loop-item.files in
    let new = c.load_item.new.files in
    let inv = c.loop-item.invariant in
    let e = loaded_of c.load_item.new.names c.load_item.new.loading new in
    record {
      kept = keeps_on c.args.names.now names c.load_item.new.names inv.kept c.load_item.ensures.kept;
      basis = inv.basis;
      count = c.in_ok-load_item.ensures.count;
      files_same = c.load_item.ensures.files_same ∙ inv.files_same;
      writes_same = c.load_item.ensures.writes_same ∙ inv.writes_same;
      reads_kept = omega (arith, c.load_item.ensures.reads_kept, inv.reads_kept);
      known = c.in_ok-load_item.ensures.known;
      grown = grows-on reads c.loop-item.files new inv.grown c.in_ok-load_item.ensures.grown;
      loaded = loads-more mlb items first files s e item i within is inv.loaded (subst (λ o. IfTold o (λ f. Loads f mlb s (item ∷ []) e)) inv.files_same c.in_ok-load_item.ensures.loaded);
    }

pub returns-clause-project : goal.returns-clause-project
returns-clause-project g c =
    let files = g.S.Store.files c.args.store.now in
    let input = c.args.path.now in
    let mlb = string_bytes c.in_ok-path.path in
    let same : clean input ≡ mlb = sym c.in_ok-path.ensures in
    let xs = c.deref-item-items.result.now in
    let items = map item_of xs in
    let reads = c.load_mlb.new.files in
    let begun_ : IsBegun files mlb items reads = subst (λ ys. IsBegun files mlb (map item_of ys) reads) (sym c.deref-item-items.ensures.value) (subst (λ p. IsBegun files p (items_of c.in_ok-mlb.mlb) reads) c.as_str.ensures.value c.in_ok-mlb.ensures.begun) in
    let first : Loaded = record { names = c.args.names.now; fixities = c.new.result; parts = map part_of c.new-2.result.items; reads = reads } in
    let start : first ≡ begun begun_.file = start-is c.args.names.now c.new.result (map part_of c.new-2.result.items) reads begun_.file c.requires.names c.new.ensures (ap (map part_of) c.new-2.ensures.items) begun_.reads_are in
    let i = c.loop-item.item-index in
    let all : length items ≤ i = omega (arith, c.loop-item-test.false, length-map xs item_of) in
    project mlb items first reads input same files begun_ start (loaded_of c.loop-item.names c.loop-item.loading c.loop-item.files) i all c.loop-item.invariant.loaded

pub returns-clause-count : goal.returns-clause-count
returns-clause-count g c = c.loop-item.invariant.count.reads_are
