-- Each class of items in texts that are cut off.
use Rattle.std.proofs.Common.{◌≡◌, ℕ, ◌+◌, ◌-◌, ◌≤◌, ◌⊎◌, inl, inr, true, false, ◌&&◌, ◌==◌, List, [], ◌∷◌, length, take, drop, Option, Some, None, refl, arith, sym, ap, ◌∙◌, length-drop}
use Rattle.std.proofs.lemmas.Bool.{and_right, true≢false, cases_Bool, eqb-true}
use Rattle.std.proofs.lemmas.List.{drop-drop, take-take}
use Rattle.mlc_faults.specs.declared.code.Code.{Code}
use Rattle.mlc_names.specs.declared.token.Reserved.{Reserved}
use Rattle.mlc_names.specs.declared.token.Reserved.TheVariants.{Dots}
use Rattle.sml_lexer.specs.declared.chars.Class.TheVariants.{NameChar, Space, SymbolChar}
use Rattle.sml_lexer.specs.Chars.{after_run, byte, is_letter, is_name_char, is_space, is_symbol_char, run, run_len}
use Rattle.sml_lexer.specs.Comments.{after_comments, comment_item, comment_of}
use Rattle.sml_lexer.specs.Identifiers.{name_item, qualified, symbol_item, type_var_item, type_variable}
use Rattle.sml_lexer.specs.Item.{blank, found, refused}
use Rattle.sml_lexer.specs.Items.{begins_dots, mark_item, mark_or_none}
use Rattle.sml_lexer.specs.Lexeme.{Lexeme, reserved, symbol}
use Rattle.sml_lexer.specs.ReservedWords.{marks, spelt, symbolic, words}
use Rattle.sml_lexer.specs.Strings.{char_item, char_of, char_of_value, quoted, Quoted, string_item, string_of}
use Rattle.sml_lexer.proofs.CommentCut.{comment_cut}
use Rattle.sml_lexer.proofs.CutLemmas.{after_run_cut, byte_cut, drop_cut, false_from, Implies, implies_and, implies_byte, run_same, run_some, run_within}
use Rattle.sml_lexer.proofs.Cuts.{Cuts, shift}
use Rattle.sml_lexer.proofs.NameCut.{found_lexeme, found_rest, name_cut}
use Rattle.sml_lexer.proofs.StringCut.{string_cut}

option_cases : {A : Type 0} (o : Option A) → ((a : A) × (o ≡ Some a)) ⊎ (o ≡ None)
option_cases None = inr refl
option_cases (Some a) = inl (a, refl)

refused_found : (c : Code) (l : Lexeme) (r : List ℕ) → refused c ≡ found l r → ⊥
refused_found c l r e = cc

refused_blank : (c : Code) (r : List ℕ) → refused c ≡ blank r → ⊥
refused_blank c r e = cc

blank_rest : (r s : List ℕ) → blank r ≡ blank s → r ≡ s
blank_rest r s e = cc

-- white space
pub space_cut : (text rest : List ℕ) → is_space (byte text 0) ≡ true → blank (after_run Space text) ≡ blank rest → Cuts (λ t. blank (after_run Space t)) blank text rest
space_cut text rest is e = record {
  len = run_len Space text;
  some = run_some Space text refl is;
  within = run_within Space text;
  rest_is = sym (blank_rest _ _ e);
  same = λ s h. ap blank (after_run_cut Space text s h);
}

-- identifiers and reserved words
word_case : (text : List ℕ) (word : Reserved) → spelt words (run NameChar text) ≡ Some word → name_item text ≡ found (reserved word) (after_run NameChar text)
word_case text word e = rw e refl

name_case : (text : List ℕ) → spelt words (run NameChar text) ≡ None → name_item text ≡ qualified 0 [] (run NameChar text) (after_run NameChar text)
name_case text e = rw e refl

letter_in : (c : ℕ) → is_letter c ≡ true → is_name_char c ≡ true
letter_in c e = rw e refl

pub name_item_cut : (text : List ℕ) (lexeme : Lexeme) (rest : List ℕ) → is_letter (byte text 0) ≡ true → name_item text ≡ found lexeme rest → Cuts name_item (found lexeme) text rest
name_item_cut text lexeme rest is e =
    let m = run_len NameChar text in
    let some = run_some NameChar text refl (letter_in (byte text 0) is) in
    elim (option_cases (spelt words (run NameChar text))) as (λ _. Cuts name_item (found lexeme) text rest) [
      | inl w ↦
          let ends : found (reserved w.0) (after_run NameChar text) ≡ found lexeme rest = sym (word_case text w.0 w.1) ∙ e in
          record {
            len = m;
            some = some;
            within = run_within NameChar text;
            rest_is = sym (found_rest _ _ _ _ ends);
            same = λ s h.
                let again : spelt words (run NameChar (take s text)) ≡ Some w.0 = ap (spelt words) (run_same NameChar text s h) ∙ w.1 in
                word_case (take s text) w.0 again ∙ ap (found (reserved w.0)) (after_run_cut NameChar text s h) ∙ ap (λ l. found l (drop m (take s text))) (found_lexeme _ _ _ _ ends);
          }
      | inr none ↦
          let name = run NameChar text in
          let i = name_cut (after_run NameChar text) 0 [] name lexeme rest (omega arith) (sym (name_case text none) ∙ e) in
          let within = i.within in
          record {
            len = m + i.len;
            some = omega (arith, some);
            within = omega (arith, within, length-drop m text, run_within NameChar text);
            rest_is = i.rest_is ∙ drop-drop i.len m text;
            same = λ s h.
                let cut = take s text in
                let room : m ≤ s = omega arith in
                let front = run_same NameChar text s room in
                let after : after_run NameChar cut ≡ drop m cut = after_run_cut NameChar text s room in
                let inner : drop m cut ≡ take (s - m) (drop m text) = drop_cut text s m room in
                let again : spelt words (run NameChar cut) ≡ None = ap (spelt words) front ∙ none in
                name_case cut again ∙ (λ j. qualified 0 [] (front j) (after j)) ∙ ap (qualified 0 [] name) inner ∙ i.same (s - m) (omega arith) ∙ ap (λ t. found lexeme (drop i.len t)) (sym inner) ∙ ap (found lexeme) (drop-drop i.len m cut);
          }
    ]

-- symbolic ones
symbol_word_case : (text : List ℕ) (word : Reserved) → spelt symbolic (run SymbolChar text) ≡ Some word → symbol_item text ≡ found (reserved word) (after_run SymbolChar text)
symbol_word_case text word e = rw e refl

symbol_case : (text : List ℕ) → spelt symbolic (run SymbolChar text) ≡ None → symbol_item text ≡ found (symbol (run SymbolChar text)) (after_run SymbolChar text)
symbol_case text e = rw e refl

pub symbol_item_cut : (text : List ℕ) (lexeme : Lexeme) (rest : List ℕ) → is_symbol_char (byte text 0) ≡ true → symbol_item text ≡ found lexeme rest → Cuts symbol_item (found lexeme) text rest
symbol_item_cut text lexeme rest is e =
    let m = run_len SymbolChar text in
    let some = run_some SymbolChar text refl is in
    elim (option_cases (spelt symbolic (run SymbolChar text))) as (λ _. Cuts symbol_item (found lexeme) text rest) [
      | inl w ↦
          let ends : found (reserved w.0) (after_run SymbolChar text) ≡ found lexeme rest = sym (symbol_word_case text w.0 w.1) ∙ e in
          record {
            len = m;
            some = some;
            within = run_within SymbolChar text;
            rest_is = sym (found_rest _ _ _ _ ends);
            same = λ s h.
                let again : spelt symbolic (run SymbolChar (take s text)) ≡ Some w.0 = ap (spelt symbolic) (run_same SymbolChar text s h) ∙ w.1 in
                symbol_word_case (take s text) w.0 again ∙ ap (found (reserved w.0)) (after_run_cut SymbolChar text s h) ∙ ap (λ l. found l (drop m (take s text))) (found_lexeme _ _ _ _ ends);
          }
      | inr none ↦
          let ends : found (symbol (run SymbolChar text)) (after_run SymbolChar text) ≡ found lexeme rest = sym (symbol_case text none) ∙ e in
          record {
            len = m;
            some = some;
            within = run_within SymbolChar text;
            rest_is = sym (found_rest _ _ _ _ ends);
            same = λ s h.
                let front = run_same SymbolChar text s h in
                let after = after_run_cut SymbolChar text s h in
                let again : spelt symbolic (run SymbolChar (take s text)) ≡ None = ap (spelt symbolic) front ∙ none in
                symbol_case (take s text) again ∙ (λ j. found (symbol (front j)) (after j)) ∙ ap (λ l. found l (drop m (take s text))) (found_lexeme _ _ _ _ ends);
          }
    ]

-- type variables
prime_in : (c : ℕ) → (c == 39) ≡ true → is_name_char c ≡ true
prime_in c e = let is : c ≡ 39 = eqb-true c 39 e in ap is_name_char is

pub type_var_cut : (text : List ℕ) (lexeme : Lexeme) (rest : List ℕ) → (byte text 0 == 39) ≡ true → type_var_item text ≡ found lexeme rest → Cuts type_var_item (found lexeme) text rest
type_var_cut text lexeme rest is e =
    let m = run_len NameChar text in
    record {
      len = m;
      some = run_some NameChar text refl (prime_in (byte text 0) is);
      within = run_within NameChar text;
      rest_is = sym (found_rest _ _ _ _ e);
      same = λ s h.
          let front = run_same NameChar text s h in
          let after = after_run_cut NameChar text s h in
          (λ j. found (type_variable (front j)) (after j)) ∙ ap (λ l. found l (drop m (take s text))) (found_lexeme _ _ _ _ e);
    }

-- strings
quoted_string : (o : Option Quoted) (lexeme : Lexeme) (rest : List ℕ) → string_of o ≡ found lexeme rest → (q : Quoted) × (o ≡ Some q) × (q.rest ≡ rest) × ((r : List ℕ) → string_of (Some (record { value = q.value; rest = r })) ≡ found lexeme r)
quoted_string None lexeme rest e = cc
quoted_string (Some q) lexeme rest e = (q, refl, found_rest _ _ _ _ e, λ r. ap (λ l. found l r) (found_lexeme _ _ _ _ e))

pub string_item_cut : (text : List ℕ) (lexeme : Lexeme) (rest : List ℕ) → string_item text ≡ found lexeme rest → Cuts string_item (found lexeme) text rest
string_item_cut text lexeme rest e =
    let q = quoted_string (quoted 0 [] (drop 1 text)) lexeme rest e in
    let i = string_cut (drop 1 text) 0 [] q.0 q.1 in
    let inner : Cuts (λ t. string_of (quoted 0 [] t)) (found lexeme) (drop 1 text) rest = record {
      len = i.len;
      some = i.beyond;
      within = i.within;
      rest_is = sym q.2 ∙ i.rest_is;
      same = λ s h. ap string_of (i.same s h) ∙ q.3 (drop i.len (take s (drop 1 text)));
    } in
    shift 1 (λ t. string_of (quoted 0 [] t)) string_item (found lexeme) text rest inner (λ s h. refl)

one_char : (value rest' : List ℕ) (lexeme : Lexeme) (rest : List ℕ) → char_of_value value rest' ≡ found lexeme rest → (rest' ≡ rest) × ((r : List ℕ) → char_of_value value r ≡ found lexeme r)
one_char [] rest' lexeme rest e = cc
one_char (c ∷ []) rest' lexeme rest e = (found_rest _ _ _ _ e, λ r. ap (λ l. found l r) (found_lexeme _ _ _ _ e))
one_char (c ∷ d ∷ cs) rest' lexeme rest e = cc

quoted_char : (o : Option Quoted) (lexeme : Lexeme) (rest : List ℕ) → char_of o ≡ found lexeme rest → (q : Quoted) × (o ≡ Some q) × (q.rest ≡ rest) × ((r : List ℕ) → char_of (Some (record { value = q.value; rest = r })) ≡ found lexeme r)
quoted_char None lexeme rest e = cc
quoted_char (Some q) lexeme rest e = let one = one_char q.value q.rest lexeme rest e in (q, refl, one.0, one.1)

pub char_item_cut : (text : List ℕ) (lexeme : Lexeme) (rest : List ℕ) → char_item text ≡ found lexeme rest → (i : Cuts char_item (found lexeme) text rest) × (2 ≤ i.len)
char_item_cut text lexeme rest e =
    let q = quoted_char (quoted 0 [] (drop 2 text)) lexeme rest e in
    let i = string_cut (drop 2 text) 0 [] q.0 q.1 in
    let inner : Cuts (λ t. char_of (quoted 0 [] t)) (found lexeme) (drop 2 text) rest = record {
      len = i.len;
      some = i.beyond;
      within = i.within;
      rest_is = sym q.2 ∙ i.rest_is;
      same = λ s h. ap char_of (i.same s h) ∙ q.3 (drop i.len (take s (drop 2 text)));
    } in
    (shift 2 (λ t. char_of (quoted 0 [] t)) char_item (found lexeme) text rest inner (λ s h. refl), omega arith)

-- comments
comment_rest : (o : Option (List ℕ)) (rest : List ℕ) → comment_of o ≡ blank rest → o ≡ Some rest
comment_rest None rest e = cc
comment_rest (Some r) rest e = ap Some (blank_rest _ _ e)

pub comment_item_cut : (text rest : List ℕ) → comment_item text ≡ blank rest → (i : Cuts comment_item blank text rest) × (2 ≤ i.len)
comment_item_cut text rest e =
    let i = comment_cut (drop 2 text) 1 rest (comment_rest (after_comments 1 (drop 2 text)) rest e) in
    let inner : Cuts (λ t. comment_of (after_comments 1 t)) blank (drop 2 text) rest = record {
      len = i.len;
      some = i.some;
      within = i.within;
      rest_is = i.rest_is;
      same = λ s h. ap comment_of (i.same s h);
    } in
    (shift 2 (λ t. comment_of (after_comments 1 t)) comment_item blank text rest inner (λ s h. refl), omega arith)

-- marks
pub dots_implies : (text : List ℕ) (s : ℕ) → Implies (begins_dots (take s text)) (begins_dots text)
dots_implies text s =
    implies_and _ _ _ _ (implies_and _ _ _ _ (implies_byte (λ c. c == 46) text s 0 refl) (implies_byte (λ c. c == 46) text s 1 refl)) (implies_byte (λ c. c == 46) text s 2 refl)

dots_same : (text : List ℕ) (s : ℕ) → 3 ≤ s → begins_dots (take s text) ≡ begins_dots text
dots_same text s h =
    let a = byte_cut text s 0 (omega arith) in
    let b = byte_cut text s 1 (omega arith) in
    let c = byte_cut text s 2 (omega arith) in
    λ j. a j == 46 && b j == 46 && c j == 46

pub dots_case : (text : List ℕ) → begins_dots text ≡ true → mark_item text ≡ found (reserved Dots) (drop 3 text)
dots_case text is = rw is refl

pub mark_case : (text : List ℕ) → begins_dots text ≡ false → mark_item text ≡ mark_or_none (spelt marks (take 1 text)) (drop 1 text)
mark_case text isnt = rw isnt refl

dots_long : (text : List ℕ) → begins_dots text ≡ true → 3 ≤ length text
dots_long [] e = cc
dots_long (a ∷ []) e = absurd (true≢false (sym e ∙ and_right (a == 46 && false) false refl))
dots_long (a ∷ b ∷ []) e = absurd (true≢false (sym e ∙ and_right (a == 46 && b == 46) false refl))
dots_long (a ∷ b ∷ c ∷ text) e = omega arith

marked : (o : Option Reserved) (after : List ℕ) (lexeme : Lexeme) (rest : List ℕ) → mark_or_none o after ≡ found lexeme rest → (after ≡ rest) × ((r : List ℕ) → mark_or_none o r ≡ found lexeme r)
marked None after lexeme rest e = cc
marked (Some m) after lexeme rest e = (found_rest _ _ _ _ e, λ r. ap (λ l. found l r) (found_lexeme _ _ _ _ e))

mark_some : (text : List ℕ) (lexeme : Lexeme) (rest : List ℕ) → mark_or_none (spelt marks (take 1 text)) (drop 1 text) ≡ found lexeme rest → 1 ≤ length text
mark_some [] lexeme rest e = cc
mark_some (c ∷ text) lexeme rest e = omega arith

pub mark_item_cut : (text : List ℕ) (lexeme : Lexeme) (rest : List ℕ) → mark_item text ≡ found lexeme rest → Cuts mark_item (found lexeme) text rest
mark_item_cut text lexeme rest e =
    elim (cases_Bool (begins_dots text)) as (λ _. Cuts mark_item (found lexeme) text rest) [
      | inl is ↦
          let ends : found (reserved Dots) (drop 3 text) ≡ found lexeme rest = sym (dots_case text is) ∙ e in
          record {
            len = 3;
            some = omega arith;
            within = dots_long text is;
            rest_is = sym (found_rest _ _ _ _ ends);
            same = λ s h. dots_case (take s text) (dots_same text s h ∙ is) ∙ ap (λ l. found l (drop 3 (take s text))) (found_lexeme _ _ _ _ ends);
          }
      | inr isnt ↦
          let mark : mark_or_none (spelt marks (take 1 text)) (drop 1 text) ≡ found lexeme rest = sym (mark_case text isnt) ∙ e in
          let m = marked (spelt marks (take 1 text)) (drop 1 text) lexeme rest mark in
          record {
            len = 1;
            some = omega arith;
            within = mark_some text lexeme rest mark;
            rest_is = sym m.0;
            same = λ s h.
                let front = take-take 1 s text h in
                mark_case (take s text) (false_from _ _ (dots_implies text s) isnt) ∙ ap (λ t. mark_or_none (spelt marks t) (drop 1 (take s text))) front ∙ m.1 (drop 1 (take s text));
          }
    ]
