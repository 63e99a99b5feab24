-- Numbers that are printed.
use Rattle.std.proofs.Common.{◌≡◌, ℕ, suc, List, [], ◌∷◌, ◌++◌, codes, refl, arith, decimal}
use Rattle.std.proofs.lemmas.Fmt.{decimal-digits_of}
use Rattle.mlc_names.specs.StandardWords.{word_div, word_mod, word_quot, word_rem}
use Rattle.mlc_runs.specs.Outcome.{going, ended}
use Rattle.sml_tree.specs.Derived.{tuple}
use Rattle.sml_tree.specs.BareTree.{Exp, vid_exp, Dec}
use Rattle.core_rules.specs.Initial.{word_Int, word_toString}
use Rattle.core_rules.proofs.Words.{at, num, minus, vid, ap as call, op, print, do_}
use Rattle.core_rules.proofs.Runs.{run}

abbrev of_int : ℕ → Exp
of_int x = vid_exp at (record { qualifiers = word_Int ∷ []; vid = vid x })

abbrev shows : Exp → Dec
shows e = do_ (print (call (of_int word_toString) e))

one : decimal 1 ≡ codes "1"
one = decimal-digits_of 1 (omega arith) (omega arith)

three : decimal 3 ≡ codes "3"
three = decimal-digits_of 3 (omega arith) (omega arith)

four : decimal 4 ≡ codes "4"
four = decimal-digits_of 4 (omega arith) (omega arith)

-- val () = print (Int.toString (~7 div 2)), and so on with mod, Int.quot and Int.rem
abbrev seven_by_two : List Dec
seven_by_two =
    shows (op (minus 6) word_div (num 2)) ∷ shows (op (minus 6) word_mod (num 2)) ∷ shows (call (of_int word_quot) (tuple at (minus 6 ∷ num 2 ∷ [])))
    ∷ shows (call (of_int word_rem) (tuple at (minus 6 ∷ num 2 ∷ []))) ∷ []

quotients_output : (run seven_by_two 12).output ≡ codes "~41~3~1"
quotients_output = λ i. ((126 ∷ four i) ++ one i) ++ (126 ∷ three i) ++ (126 ∷ one i)

quotients_end : (run seven_by_two 12).end ≡ ended
quotients_end = refl

quotients_longer : (run seven_by_two 11).end ≡ going
quotients_longer = refl

-- of -n - 1: the least one is n = 2147483647
negative : (n : ℕ) → (run (shows (minus n) ∷ []) 2).output ≡ 126 ∷ decimal (suc n)
negative n = refl
