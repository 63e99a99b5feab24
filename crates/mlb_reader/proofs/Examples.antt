-- Worked examples: fixities of the standard basis, and a table of names.
use Rattle.std.proofs.Common.{◌≡◌, Some, None, refl}
use Rattle.sml_tree.specs.declared.ident.Vid.TheVariants.{Named, Equals}
use Rattle.sml_tree.specs.Fixity.{fix_of}
use Rattle.mlc_names.specs.StandardWords.{standard_words, word_cons, word_div, word_before, word_print}
use Rattle.mlc_names.proofs.NamesLemmas.{standard_words-apart}
use Rattle.mlb_reader.specs.Basis.{infix_left, infix_right, standard_fixities}
use Rattle.mlb_reader.specs.Table.{IsTable}

-- the standard words by themselves are a table
words_are_table : IsTable standard_words
words_are_table = record { apart = standard_words-apart; begins = refl }

div_binds : fix_of (Named word_div) standard_fixities ≡ Some (infix_left 7)
div_binds = refl

cons_binds : fix_of (Named word_cons) standard_fixities ≡ Some (infix_right 5)
cons_binds = refl

before_binds : fix_of (Named word_before) standard_fixities ≡ Some (infix_left 0)
before_binds = refl

equals_binds : fix_of Equals standard_fixities ≡ Some (infix_left 4)
equals_binds = refl

print_is_nonfix : fix_of (Named word_print) standard_fixities ≡ None
print_is_nonfix = refl
