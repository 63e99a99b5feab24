use Rattle.std.proofs.Common.{◌≡◌, refl, true, ◌<◌, ℕ, length, map, All, sym, ap, ◌∙◌, subst}
use Rattle.std.specs.List.{AllByRecursion}
use Rattle.ir_code.specs.Machine.{all_bytes}
use Rattle.ssa_tree.specs.TreeOf.{fun_of}
use Rattle.ssa_tree.specs.Exceptions.{exceptions}
use Rattle.ssa_form.specs.Programs.{program_of}
use Rattle.first_tables.specs.TablesOf.{items_of, tables_of}
use Rattle.machine_code.specs.Image.{text_of}
use Rattle.image_size.specs.of_image_law.ImageOf.{has, text_in}
use Rattle.emit_known.proofs.Finding.{all-found}
use Rattle.machine_emit.specs.declared.refused.EmitRefused.TheVariants.{Memory, TooLong}
use Rattle.machine_emit.proofs.Emitted.{image-is, image-does, too-long, short-enough, too-large}
use Rattle.machine_emit.proofs.Only.{not-long}
use Rattle.machine_emit.proofs.emit.emit.Goals as goal

pub texts_of-requires : goal.texts_of-requires
texts_of-requires c =
    let p = c.args.program.now in
    let same : (i : ℕ) → has c.in_ok-found.found.items i ≡ has (exceptions (program_of p)) i =
    λ i. c.in_ok-found.ensures i ∙ ap (λ l. has (exceptions (record { tables = tables_of p.tables; funs = map fun_of l })) i) c.deref.ensures.value in
    subst (All (λ i. i < length c.args.names.now)) (sym c.deref-2.ensures.value)
    (all-found (λ i. i < length c.args.names.now) (exceptions (program_of p)) c.in_ok-found.found.items same c.requires)

pub settled_code-requires : goal.settled_code-requires
settled_code-requires c = (map items_of c.deref-3.result.now, c.in_ok-words.ensures.places (program_of c.args.program.now) refl)

pub returns-clause-image : goal.returns-clause-image
returns-clause-image c =
    let p = c.args.program.now in
    let names = c.args.names.now in
    let found = c.in_ok-found.found.items in
    let texts = map items_of c.deref-3.result.now in
    let ws = c.in_ok-words.words.items in
    let code = c.in_ok-code.code.items in
    let same : (i : ℕ) → has found i ≡ has (exceptions (program_of p)) i =
    λ i. c.in_ok-found.ensures i ∙ ap (λ l. has (exceptions (record { tables = tables_of p.tables; funs = map fun_of l })) i) c.deref.ensures.value in
    let told : (i : ℕ) → text_of texts i ≡ text_in names found i =
    λ i. ap (λ l. text_of (map items_of l) i) c.deref-3.ensures.value ∙ c.in_ok-identifiers.ensures i ∙ ap (λ l. text_in names l i) c.deref-2.ensures.value in
    let ew = c.in_ok-words.ensures.words (program_of p) refl in
    let ec = c.in_ok-code.ensures texts (c.in_ok-words.ensures.places (program_of p) refl) in
    image-is names (program_of p) found texts same told ws code ew ec c.finish.result c.finish.ensures.constants c.finish.ensures.code

pub returns-clause-runs : goal.returns-clause-runs
returns-clause-runs c =
    let p = c.args.program.now in
    let names = c.args.names.now in
    let found = c.in_ok-found.found.items in
    let texts = map items_of c.deref-3.result.now in
    let ws = c.in_ok-words.words.items in
    let code = c.in_ok-code.code.items in
    let same : (i : ℕ) → has found i ≡ has (exceptions (program_of p)) i =
    λ i. c.in_ok-found.ensures i ∙ ap (λ l. has (exceptions (record { tables = tables_of p.tables; funs = map fun_of l })) i) c.deref.ensures.value in
    let told : (i : ℕ) → text_of texts i ≡ text_in names found i =
    λ i. ap (λ l. text_of (map items_of l) i) c.deref-3.ensures.value ∙ c.in_ok-identifiers.ensures i ∙ ap (λ l. text_in names l i) c.deref-2.ensures.value in
    let ew = c.in_ok-words.ensures.words (program_of p) refl in
    let ec = c.in_ok-code.ensures texts (c.in_ok-words.ensures.places (program_of p) refl) in
    let bytes = subst (λ l. AllByRecursion (λ t. all_bytes t ≡ true) (map items_of l)) (c.deref-4.ensures.value ∙ sym c.deref-3.ensures.value) c.texts_are_bytes.ensures in
    image-does names (program_of p) found texts same told ws code ew ec c.finish.result c.image_is_right.ensures c.texts_of_made_are_enough.ensures bytes
    c.finish.ensures.constants c.finish.ensures.code c.finish.ensures.small

pub returns-clause-short : goal.returns-clause-short
returns-clause-short c =
    let p = c.args.program.now in
    let names = c.args.names.now in
    let found = c.in_ok-found.found.items in
    let texts = map items_of c.deref-3.result.now in
    let ws = c.in_ok-words.words.items in
    let code = c.in_ok-code.code.items in
    let same : (i : ℕ) → has found i ≡ has (exceptions (program_of p)) i =
    λ i. c.in_ok-found.ensures i ∙ ap (λ l. has (exceptions (record { tables = tables_of p.tables; funs = map fun_of l })) i) c.deref.ensures.value in
    let told : (i : ℕ) → text_of texts i ≡ text_in names found i =
    λ i. ap (λ l. text_of (map items_of l) i) c.deref-3.ensures.value ∙ c.in_ok-identifiers.ensures i ∙ ap (λ l. text_in names l i) c.deref-2.ensures.value in
    let ew = c.in_ok-words.ensures.words (program_of p) refl in
    let ec = c.in_ok-code.ensures texts (c.in_ok-words.ensures.places (program_of p) refl) in
    not-long (program_of p) names c.finish.result (image-is names (program_of p) found texts same told ws code ew ec c.finish.result
    c.finish.ensures.constants c.finish.ensures.code) c.finish.ensures.small

pub returns-clause-too_long : goal.returns-clause-too_long
returns-clause-too_long c =
    let p = c.args.program.now in
    let names = c.args.names.now in
    let found = c.in_ok-found.found.items in
    let texts = map items_of c.deref-3.result.now in
    let ws = c.in_ok-words.words.items in
    let code = c.in_ok-code.code.items in
    let same : (i : ℕ) → has found i ≡ has (exceptions (program_of p)) i =
    λ i. c.in_ok-found.ensures i ∙ ap (λ l. has (exceptions (record { tables = tables_of p.tables; funs = map fun_of l })) i) c.deref.ensures.value in
    let told : (i : ℕ) → text_of texts i ≡ text_in names found i =
    λ i. ap (λ l. text_of (map items_of l) i) c.deref-3.ensures.value ∙ c.in_ok-identifiers.ensures i ∙ ap (λ l. text_in names l i) c.deref-2.ensures.value in
    let ew = c.in_ok-words.ensures.words (program_of p) refl in
    let ec = c.in_ok-code.ensures texts (c.in_ok-words.ensures.places (program_of p) refl) in
    too-long names (program_of p) found texts same told ws code ew ec (λ e. e ≡ TooLong) c.finish.result c.finish.ensures.too_long

pub returns-clause-large : goal.returns-clause-large
returns-clause-large c =
    let p = c.args.program.now in
    let names = c.args.names.now in
    let found = c.in_ok-found.found.items in
    let texts = map items_of c.deref-3.result.now in
    let ws = c.in_ok-words.words.items in
    let code = c.in_ok-code.code.items in
    let same : (i : ℕ) → has found i ≡ has (exceptions (program_of p)) i =
    λ i. c.in_ok-found.ensures i ∙ ap (λ l. has (exceptions (record { tables = tables_of p.tables; funs = map fun_of l })) i) c.deref.ensures.value in
    let told : (i : ℕ) → text_of texts i ≡ text_in names found i =
    λ i. ap (λ l. text_of (map items_of l) i) c.deref-3.ensures.value ∙ c.in_ok-identifiers.ensures i ∙ ap (λ l. text_in names l i) c.deref-2.ensures.value in
    let ew = c.in_ok-words.ensures.words (program_of p) refl in
    let ec = c.in_ok-code.ensures texts (c.in_ok-words.ensures.places (program_of p) refl) in
    too-large names (program_of p) found texts same told ws code ew ec (λ e. e ≡ TooLong) c.finish.result c.images_are_small.ensures.long
    c.finish.ensures.too_long

pub returns-clause-memory : goal.returns-clause-memory
returns-clause-memory c = λ fits.
    let p = c.args.program.now in
    let names = c.args.names.now in
    let found = c.in_ok-found.found.items in
    let texts = map items_of c.deref-3.result.now in
    let ws = c.in_ok-words.words.items in
    let code = c.in_ok-code.code.items in
    let same : (i : ℕ) → has found i ≡ has (exceptions (program_of p)) i =
    λ i. c.in_ok-found.ensures i ∙ ap (λ l. has (exceptions (record { tables = tables_of p.tables; funs = map fun_of l })) i) c.deref.ensures.value in
    let told : (i : ℕ) → text_of texts i ≡ text_in names found i =
    λ i. ap (λ l. text_of (map items_of l) i) c.deref-3.ensures.value ∙ c.in_ok-identifiers.ensures i ∙ ap (λ l. text_in names l i) c.deref-2.ensures.value in
    let ew = c.in_ok-words.ensures.words (program_of p) refl in
    let ec = c.in_ok-code.ensures texts (c.in_ok-words.ensures.places (program_of p) refl) in
    short-enough names (program_of p) found texts same told ws code ew ec (λ e. e ≡ Memory) c.finish.result fits c.finish.ensures.too_long
