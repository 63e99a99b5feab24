-- Worked examples: where the standard words stand.
use Rattle.std.proofs.Common.{◌≡◌, ℕ, Bool, true, false, nat_eq, List, [], ◌∷◌, Option, Some, None, codes, refl, slice_get}
use Rattle.std.specs.List.{list_all}
use Rattle.std.specs.Str.{bytes_eq}
use Rattle.mlc_names.specs.StandardWords.{standard_words, word_unit, word_int, word_word, word_char, word_string, word_bool, word_list, word_ref, word_exn, word_option, word_order, word_true, word_false, word_nil, word_cons, word_NONE, word_SOME, word_LESS, word_EQUAL, word_GREATER, word_Match, word_Bind, word_Overflow, word_Div, word_Subscript, word_Size, word_Chr, word_Fail, word_Empty, word_Option, word_it, word_plus, word_minus, word_times, word_div, word_mod, word_negate, word_abs, word_less_than, word_at_most, word_greater_than, word_at_least, word_assign, word_divide, word_not_equal, word_append, word_concatenate, word_compose, word_before, word_Prim, word_quot, word_rem, word_andb, word_orb, word_xorb, word_notb, word_shl, word_shr, word_sar, word_toInt, word_toIntX, word_fromInt, word_ord, word_chr, word_text, word_size, word_sub, word_part, word_cat, word_str, word_print}
use Rattle.mlc_names.specs.declared.words.TheConstants.{UNIT, INT, WORD, CHAR, STRING, BOOL, LIST, REF, EXN, OPTION, ORDER, TRUE, FALSE, NIL, CONS, NONE, SOME, LESS, EQUAL, GREATER, MATCH, BIND, OVERFLOW, DIV_EXCEPTION, SUBSCRIPT, SIZE_EXCEPTION, CHR_EXCEPTION, FAIL, EMPTY, OPTION_EXCEPTION, IT, PLUS, MINUS, TIMES, DIV, MOD, NEGATE, ABS, LESS_THAN, AT_MOST, GREATER_THAN, AT_LEAST, ASSIGN, DIVIDE, NOT_EQUAL, APPEND, CONCATENATE, COMPOSE, BEFORE, PRIM, QUOT, REM, ANDB, ORB, XORB, NOTB, SHL, SHR, SAR, TO_INT, TO_INT_X, FROM_INT, ORD, CHR, TEXT, SIZE, SUB, PART, CAT, STR, PRINT}

abbrev is_text : Option (List ℕ) → List ℕ → Bool
is_text None text = false
is_text (Some word) text = bytes_eq word text

-- each named number is where its text stands
named_words : list_all (λ (row : ℕ × List ℕ). is_text (slice_get standard_words row.0) row.1) (
    (word_unit, codes "unit") ∷ (word_int, codes "int") ∷ (word_word, codes "word") ∷ (word_char, codes "char") ∷ (word_string, codes "string") ∷
    (word_bool, codes "bool") ∷ (word_list, codes "list") ∷ (word_ref, codes "ref") ∷ (word_exn, codes "exn") ∷ (word_option, codes "option") ∷
    (word_order, codes "order") ∷ (word_true, codes "true") ∷ (word_false, codes "false") ∷ (word_nil, codes "nil") ∷ (word_cons, codes "::") ∷
    (word_NONE, codes "NONE") ∷ (word_SOME, codes "SOME") ∷ (word_LESS, codes "LESS") ∷ (word_EQUAL, codes "EQUAL") ∷ (word_GREATER, codes "GREATER") ∷
    (word_Match, codes "Match") ∷ (word_Bind, codes "Bind") ∷ (word_Overflow, codes "Overflow") ∷ (word_Div, codes "Div") ∷
    (word_Subscript, codes "Subscript") ∷ (word_Size, codes "Size") ∷ (word_Chr, codes "Chr") ∷ (word_Fail, codes "Fail") ∷ (word_Empty, codes "Empty") ∷
    (word_Option, codes "Option") ∷ (word_it, codes "it") ∷ (word_plus, codes "+") ∷ (word_minus, codes "-") ∷ (word_times, codes "*") ∷
    (word_div, codes "div") ∷ (word_mod, codes "mod") ∷ (word_negate, codes "~") ∷ (word_abs, codes "abs") ∷ (word_less_than, codes "<") ∷
    (word_at_most, codes "<=") ∷ (word_greater_than, codes ">") ∷ (word_at_least, codes ">=") ∷ (word_assign, codes ":=") ∷ (word_divide, codes "/") ∷
    (word_not_equal, codes "<>") ∷ (word_append, codes "@") ∷ (word_concatenate, codes "^") ∷ (word_compose, codes "o") ∷ (word_before, codes "before") ∷
    (word_Prim, codes "Prim") ∷ (word_quot, codes "quot") ∷ (word_rem, codes "rem") ∷ (word_andb, codes "andb") ∷ (word_orb, codes "orb") ∷
    (word_xorb, codes "xorb") ∷ (word_notb, codes "notb") ∷ (word_shl, codes "shl") ∷ (word_shr, codes "shr") ∷ (word_sar, codes "sar") ∷
    (word_toInt, codes "toInt") ∷ (word_toIntX, codes "toIntX") ∷ (word_fromInt, codes "fromInt") ∷ (word_ord, codes "ord") ∷ (word_chr, codes "chr") ∷
    (word_text, codes "text") ∷ (word_size, codes "size") ∷ (word_sub, codes "sub") ∷ (word_part, codes "part") ∷ (word_cat, codes "cat") ∷
    (word_str, codes "str") ∷ (word_print, codes "print") ∷ []) ≡ true
named_words = refl

-- and so is each constant of the code
constants : list_all (λ (row : ℕ × ℕ). nat_eq row.0 row.1) (
    (UNIT, word_unit) ∷ (INT, word_int) ∷ (WORD, word_word) ∷ (CHAR, word_char) ∷ (STRING, word_string) ∷ (BOOL, word_bool) ∷ (LIST, word_list) ∷
    (REF, word_ref) ∷ (EXN, word_exn) ∷ (OPTION, word_option) ∷ (ORDER, word_order) ∷ (TRUE, word_true) ∷ (FALSE, word_false) ∷ (NIL, word_nil) ∷
    (CONS, word_cons) ∷ (NONE, word_NONE) ∷ (SOME, word_SOME) ∷ (LESS, word_LESS) ∷ (EQUAL, word_EQUAL) ∷ (GREATER, word_GREATER) ∷ (MATCH, word_Match) ∷
    (BIND, word_Bind) ∷ (OVERFLOW, word_Overflow) ∷ (DIV_EXCEPTION, word_Div) ∷ (SUBSCRIPT, word_Subscript) ∷ (SIZE_EXCEPTION, word_Size) ∷
    (CHR_EXCEPTION, word_Chr) ∷ (FAIL, word_Fail) ∷ (EMPTY, word_Empty) ∷ (OPTION_EXCEPTION, word_Option) ∷ (IT, word_it) ∷ (PLUS, word_plus) ∷
    (MINUS, word_minus) ∷ (TIMES, word_times) ∷ (DIV, word_div) ∷ (MOD, word_mod) ∷ (NEGATE, word_negate) ∷ (ABS, word_abs) ∷ (LESS_THAN, word_less_than) ∷
    (AT_MOST, word_at_most) ∷ (GREATER_THAN, word_greater_than) ∷ (AT_LEAST, word_at_least) ∷ (ASSIGN, word_assign) ∷ (DIVIDE, word_divide) ∷
    (NOT_EQUAL, word_not_equal) ∷ (APPEND, word_append) ∷ (CONCATENATE, word_concatenate) ∷ (COMPOSE, word_compose) ∷ (BEFORE, word_before) ∷
    (PRIM, word_Prim) ∷ (QUOT, word_quot) ∷ (REM, word_rem) ∷ (ANDB, word_andb) ∷ (ORB, word_orb) ∷ (XORB, word_xorb) ∷ (NOTB, word_notb) ∷
    (SHL, word_shl) ∷ (SHR, word_shr) ∷ (SAR, word_sar) ∷ (TO_INT, word_toInt) ∷ (TO_INT_X, word_toIntX) ∷ (FROM_INT, word_fromInt) ∷ (ORD, word_ord) ∷
    (CHR, word_chr) ∷ (TEXT, word_text) ∷ (SIZE, word_size) ∷ (SUB, word_sub) ∷ (PART, word_part) ∷ (CAT, word_cat) ∷ (STR, word_str) ∷
    (PRINT, word_print) ∷ []) ≡ true
constants = refl
