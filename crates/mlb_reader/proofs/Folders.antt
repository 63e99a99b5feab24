-- The folder of a path.
use Rattle.std.proofs.Common.{◌≡◌, ◌≢◌, ℕ, ◌+◌, ◌-◌, ◌<◌, true, ◌==◌, List, [], ◌∷◌, ◌++◌, length, take, drop, get_or, ap, sym, ◌∙◌, arith, length-append, lit<}
use Rattle.std.specs.List.{suffix_len}
use Rattle.std.proofs.Math.Seq.{get_or-append_seam, take-append-add}
use Rattle.std.proofs.lemmas.Bool.Decides.{nat_tests}
use Rattle.std.proofs.lemmas.Grind.{common_steps}
use Rattle.std.proofs.lemmas.List.Sums.{suffix_len_is}
use Rattle.std.proofs.lemmas.List.{take-append-drop}
use Rattle.std.proofs.lemmas.Str.Pattern.{NoCharPasses-char, drop_at_char}
use Rattle.std.specs.Str.{NoCharPasses}
use Rattle.std.specs.Str.Pattern.{HasCharAt}
use Rattle.mlb_reader.specs.Path.{is_no_slash, folder_of}

no_slash : (b : ℕ) → b ≢ 47 → is_no_slash b ≡ true
no_slash b h = grind (arith, nat_tests)

pub folder-none : (path : List ℕ) → ((k : ℕ) → k < length path → get_or path k 0 ≢ 47) → folder_of path ≡ []
folder-none path none =
    let all : suffix_len is_no_slash path ≡ length path - 0 = suffix_len_is is_no_slash path 0 0 (omega arith) (λ k le lt. no_slash (get_or path k 0) (none k lt)) (λ lt. absurd (omega arith)) in
    let n : length path - suffix_len is_no_slash path ≡ 0 = omega arith in
    ap (λ k. take k path) n

pub folder-split : (front back : List ℕ) → ((k : ℕ) → k < length back → get_or back k 0 ≢ 47) → folder_of (front ++ 47 ∷ back) ≡ front ++ 47 ∷ []
folder-split front back none =
    let size : length (front ++ 47 ∷ back) ≡ length front + 1 + length back = omega (arith, length-append front (47 ∷ back)) in
    let last : suffix_len is_no_slash (front ++ 47 ∷ back) ≡ length (front ++ 47 ∷ back) - (length front + 1) = suffix_len_is is_no_slash (front ++ 47 ∷ back) (length front + 1) 0 (omega arith)
    (λ k le lt. let at : get_or (front ++ 47 ∷ back) k 0 ≡ get_or back (k - (length front + 1)) 0 = grind (arith, common_steps) in no_slash (get_or (front ++ 47 ∷ back) k 0) (λ e. none (k - (length front + 1)) (omega arith) (sym at ∙ e)))
    (λ lt. let n : length front + 1 - 1 ≡ length front = omega arith in ap is_no_slash (ap (λ k. get_or (front ++ 47 ∷ back) k 0) n ∙ get_or-append_seam front 47 back 0)) in
    let n : length (front ++ 47 ∷ back) - suffix_len is_no_slash (front ++ 47 ∷ back) ≡ length front + 1 = omega arith in
    ap (λ k. take k (front ++ 47 ∷ back)) n ∙ take-append-add front (47 ∷ back) 1

-- what a search for the last `/` finds
pub folder-found : (path front : List ℕ) (i j : ℕ) → NoCharPasses (λ d. d == 47) (drop j path) → HasCharAt 47 path i j → front ≡ take i path → folder_of path ≡ front ++ 47 ∷ []
folder-found path front i j none at is =
    let split : path ≡ front ++ 47 ∷ drop j path = sym (take-append-drop i path) ∙ ap (λ r. take i path ++ r) (drop_at_char 47 path i j at (lit< tt)) ∙ ap (λ f. f ++ 47 ∷ drop j path) (sym is) in
    ap folder_of split ∙ folder-split front (drop j path) (λ k lt. NoCharPasses-char 47 (drop j path) k none (lit< tt) lt)

pub folder-missing : (path : List ℕ) → NoCharPasses (λ d. d == 47) path → folder_of path ≡ []
folder-missing path none = folder-none path (λ k lt. NoCharPasses-char 47 path k none (lit< tt) lt)
