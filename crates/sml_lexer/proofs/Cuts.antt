-- Items in texts that are cut off.
use Rattle.std.proofs.Common.{◌≡◌, ℕ, ◌+◌, ◌-◌, ◌<◌, ◌≤◌, List, length, take, drop, arith, sym, ap, ◌∙◌, length-drop}
use Rattle.std.proofs.lemmas.List.{drop-drop}
use Rattle.sml_lexer.specs.Item.{Item}
use Rattle.sml_lexer.proofs.CutLemmas.{drop_cut}

-- what `f` finds at the beginning of a text has `len` bytes, and `f` finds it also where the text is cut off after them
pub record Cuts (f item : List ℕ → Item) (text rest : List ℕ) : Type 0 where
  pub len : ℕ
  pub some : 0 < len
  pub within : len ≤ length text
  pub rest_is : rest ≡ drop len text
  pub same : (s : ℕ) → len ≤ s → f (take s text) ≡ item (drop len (take s text))

-- after a few bytes more
abbrev pub shift : (k : ℕ) (f f' item : List ℕ → Item) (text rest : List ℕ) (i : Cuts f item (drop k text) rest) → ((s : ℕ) → k + i.len ≤ s → f' (take s text) ≡ f (drop k (take s text))) → Cuts f' item text rest
shift k f f' item text rest i step =
    let some = i.some in
    let within = i.within in
    record {
      len = k + i.len;
      some = omega (arith, some);
      within = omega (arith, some, within, length-drop k text);
      rest_is = i.rest_is ∙ drop-drop i.len k text;
      same = λ s h.
          let cut = drop_cut text s k (omega arith) in
          step s h ∙ ap f cut ∙ i.same (s - k) (omega arith) ∙ ap (λ t. item (drop i.len t)) (sym cut) ∙ ap item (drop-drop i.len k (take s text));
    }

-- by another function that gives the same there
abbrev pub as_other : (f f' item : List ℕ → Item) (text rest : List ℕ) (i : Cuts f item text rest) → ((s : ℕ) → i.len ≤ s → f' (take s text) ≡ f (take s text)) → Cuts f' item text rest
as_other f f' item text rest i step = record {
  len = i.len;
  some = i.some;
  within = i.within;
  rest_is = i.rest_is;
  same = λ s h. step s h ∙ i.same s h;
}
