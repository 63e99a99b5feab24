use Rattle.std.proofs.Common.{◌≡◌, None, Some, option_map, sym, ap, ◌∙◌, Vec, ℕ, Global}
use Rattle.std.specs.BTreeMap.{get_by_text}
use Rattle.mlc_outside.proofs.TableLemmas.{get-files_of}
use Rattle.mlc_outside.proofs.file_table.FileTable.get.Goals as goal

pub returns-in-None : goal.returns-in-None
returns-in-None c =
    let none : None ≡ get_by_text c.self.inside.entries c.args.path.now = c.in-None.ensures.value in
    rw (← c.self.view_is) (ap (option_map (λ (v : Vec ℕ Global). v.items)) none ∙ sym (get-files_of c.self.inside.entries c.args.path.now))

pub returns-in-Some : goal.returns-in-Some
returns-in-Some c =
    let some : Some c.in-Some.bytes.now ≡ get_by_text c.self.inside.entries c.args.path.now = c.in-Some.ensures.value in
    rw (← c.self.view_is, c.as_slice.ensures.value) (ap (option_map (λ (v : Vec ℕ Global). v.items)) some ∙ sym (get-files_of c.self.inside.entries c.args.path.now))
