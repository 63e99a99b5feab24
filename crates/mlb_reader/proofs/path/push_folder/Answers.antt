use Rattle.std.proofs.Common.{◌≡◌, ◌++◌, ◌∷◌, [], ◌∙◌, sym, ap, append-nil, append_assoc}
use Rattle.std.specs.String.{string_bytes}
use Rattle.mlb_reader.specs.Path.{folder_of}
use Rattle.mlb_reader.proofs.Folders.{folder-found, folder-missing}
use Rattle.mlb_reader.proofs.path.push_folder.Goals as goal

pub returns-in-None : goal.returns-in-None
returns-in-None c = sym (append-nil (string_bytes c.args.text.now)) ∙ ap (λ f. string_bytes c.args.text.now ++ f) (sym (folder-missing c.args.path.now c.in-None.ensures.cases))

pub returns-in_ok-push_str-in-Some-2 : goal.returns-in_ok-push_str-in-Some-2
returns-in_ok-push_str-in-Some-2 c =
    let found = c.in-Some.ensures.cases in
    let folder : folder_of c.args.path.now ≡ c.in-Some.folder.now ++ 47 ∷ [] = folder-found c.args.path.now c.in-Some.folder.now found.0 found.1 found.2.0 found.2.1 found.3 in
    c.in_ok-push_str-in-Some-2.ensures.bytes ∙ ap (λ b. b ++ 47 ∷ []) c.in_ok-push_str-in-Some.ensures.bytes ∙ append_assoc (string_bytes c.args.text.now) c.in-Some.folder.now (47 ∷ []) ∙ ap (λ f. string_bytes c.args.text.now ++ f) (sym folder)
